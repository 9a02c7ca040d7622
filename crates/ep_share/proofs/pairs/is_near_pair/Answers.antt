use Rattle.std.proofs.Common.{◌≡◌, ◌∙◌, rules, subst, sym, of_z, to_z, w64}
use Rattle.std.proofs.lemmas.Bool.{false≢true}
use Rattle.std.proofs.lemmas.Int.{to_z-of_z}
use Rattle.ep_base.specs.Intervals.{IsWithinReach}
use Rattle.ep_numbers.specs.Spans.{interval_of, wide_interval}
use Rattle.ep_reach.proofs.Reaching.{if_there_both}
use Rattle.ep_share.proofs.Best.{near_wide, together_by}
use Rattle.ep_share.proofs.pairs.is_near_pair.Goals as goal

pub returns-in-Some-clause-sound : goal.returns-in-Some-clause-sound
returns-in-Some-clause-sound c said =
    let p : to_z w64 (of_z w64 c.args.p.0) ≡ c.args.p.0 = to_z-of_z w64 c.args.p.0 (search rules) in
    let q : to_z w64 (of_z w64 c.args.q.0) ≡ c.args.q.0 = to_z-of_z w64 c.args.q.0 (search rules) in
    let both = together_by c.args.spans.now c.args.p c.args.q (wide_interval c.scaled-one.result) (wide_interval c.scaled-other.result) (interval_of c.span_at.result) (interval_of c.span_at-2.result) (to_z w64 (of_z w64 c.args.p.0)) (to_z w64 (of_z w64 c.args.q.0)) p q c.scaled-one.ensures c.span_at.ensures c.scaled-other.ensures c.span_at-2.ensures in
    let within : IsWithinReach (wide_interval c.in-Some.sum) = if_there_both c.near.result c.near.ensures.same c.near.ensures.near (λ span same near. subst IsWithinReach same near) (sym c.is_some.ensures ∙ said) in
    subst IsWithinReach (sym (both ∙ sym c.in-Some.ensures.sum)) within

pub returns-in-Some-clause-complete : goal.returns-in-Some-clause-complete
returns-in-Some-clause-complete c near =
    let p : to_z w64 (of_z w64 c.args.p.0) ≡ c.args.p.0 = to_z-of_z w64 c.args.p.0 (search rules) in
    let q : to_z w64 (of_z w64 c.args.q.0) ≡ c.args.q.0 = to_z-of_z w64 c.args.q.0 (search rules) in
    let both = together_by c.args.spans.now c.args.p c.args.q (wide_interval c.scaled-one.result) (wide_interval c.scaled-other.result) (interval_of c.span_at.result) (interval_of c.span_at-2.result) (to_z w64 (of_z w64 c.args.p.0)) (to_z w64 (of_z w64 c.args.q.0)) p q c.scaled-one.ensures c.span_at.ensures c.scaled-other.ensures c.span_at-2.ensures in
    c.is_some.ensures ∙ c.near.ensures.told (subst IsWithinReach (both ∙ sym c.in-Some.ensures.sum) near)

pub returns-in-None-clause-complete : goal.returns-in-None-clause-complete
returns-in-None-clause-complete c near =
    let p : to_z w64 (of_z w64 c.args.p.0) ≡ c.args.p.0 = to_z-of_z w64 c.args.p.0 (search rules) in
    let q : to_z w64 (of_z w64 c.args.q.0) ≡ c.args.q.0 = to_z-of_z w64 c.args.q.0 (search rules) in
    let both = together_by c.args.spans.now c.args.p c.args.q (wide_interval c.scaled-one.result) (wide_interval c.scaled-other.result) (interval_of c.span_at.result) (interval_of c.span_at-2.result) (to_z w64 (of_z w64 c.args.p.0)) (to_z w64 (of_z w64 c.args.q.0)) p q c.scaled-one.ensures c.span_at.ensures c.scaled-other.ensures c.span_at-2.ensures in
    let within = subst IsWithinReach both near in
    absurd (false≢true (c.in-None.ensures.told (near_wide _ within.low) (near_wide _ within.high)))
