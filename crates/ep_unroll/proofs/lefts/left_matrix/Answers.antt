use Rattle.ep_unroll.proofs.Words.{◌≡◌, ◌∙◌, [], ℕ, List, Some, arith, ap, length, map, sym, nil_from_length, indices_in}
use Rattle.ep_unroll.proofs.FormValues.{if_ok}
use Rattle.ep_unroll.proofs.GrownParts.{terms_kept}
use Rattle.ep_unroll.proofs.ReadValues.{left_means}
use Rattle.ep_unroll.proofs.WholeSteps.{left_whole}
use Rattle.ep_unroll.proofs.lefts.left_matrix.Goals as goal

pub returns-then-len-eq0 : goal.returns-then-len-eq0
returns-then-len-eq0 c n env nodes m indices counted known slots =
    let others : List ℕ = c.in_ok-others.others.items in
    let none : others ≡ [] = nil_from_length others (grind (arith, c.if-len-eq0.true, c.len.ensures)) in
    left_means n env nodes c.args.arena.now c.needed_terms.new.arena m indices c.args.known.now c.in_ok-left.left c.args.slots.now (indices_in c.deref.result.now) c.args.count others
    counted known slots c.in_ok-others.ensures none
    (λ ns numbers. c.in_ok-indices.ensures ns numbers ∙ ap (λ l. map Some (indices_in l)) (sym c.deref.ensures.value)) c.in_ok-left.ensures.worth c.in_ok-left.ensures.terms

pub guarded-requires : goal.guarded-requires
guarded-requires c = c.in_ok-others.ensures.known

pub returns : goal.returns
returns c n env nodes m indices counted known slots =
    let mid = c.needed_terms.new.arena in
    if_ok c.guarded.result _ _
    (λ x whole. left_whole n env nodes c.args.arena.now mid c.guarded.new.arena m indices c.args.known.now c.in_ok-left.left x c.args.slots.now (indices_in c.deref.result.now) c.args.count
    c.in_ok-others.others.items counted known slots c.in_ok-others.ensures
    (λ ns numbers. c.in_ok-indices.ensures ns numbers ∙ ap (λ l. map Some (indices_in l)) (sym c.deref.ensures.value)) c.in_ok-left.ensures.worth
    (whole (c.in_ok-left.ensures.terms (length mid) (terms_kept c.args.arena.now mid c.args.known.now c.in_ok-others.ensures.grows c.requires)))) c.guarded.ensures
