use Rattle.std.proofs.Common.{rules, ◌≡◌, ◌+◌, ◌≤◌, ◌≤ℤ◌, ℤ, List, of_z, to_z, take, get_or, w64, subst, sym, arith}
use Rattle.std.specs.Prelude.{unsigned_abs}
use Rattle.std.proofs.lemmas.Int.{to_z-of_z}
use Rattle.std.proofs.lemmas.List.{take_all}
use Rattle.opb_text.specs.declared.content.OpbTerm.{OpbTerm}
use Rattle.opb_text.specs.Solutions.{terms_total}
use Rattle.opb_text.specs.Sums.{IsFactorValue}
use Rattle.opb_text.specs.Weights.{factors_reach, most_reach}
use Rattle.opb_text.proofs.SumLaws.{greatest_more, no_term, size_front, size_more, total_none_high, within_numbers}
use Rattle.opb_text.proofs.sums.greatest.Goals as goal

pub loop-term-init : goal.loop-term-init
loop-term-init c = (λ truths. total_none_high truths, omega arith)

pub raised-greatest-requires : goal.raised-greatest-requires
raised-greatest-requires c =
    let i = c.loop-term.term-index in
    let t = get_or c.args.terms.now i no_term in
    let f : to_z w64 (of_z w64 t.factor) ≡ t.factor = to_z-of_z w64 t.factor (search rules) in
    let step = size_more c.args.terms.now i no_term c.loop-term-test.true in
    let front = size_front (i + 1) c.args.terms.now in
    subst (λ (z : ℤ). unsigned_abs (to_z w64 c.loop-term.greatest-bits) + unsigned_abs z ≤ most_reach) (sym f) (omega (arith, c.loop-term.invariant.1, step, front, c.requires))

pub loop-term-preserved : goal.loop-term-preserved
loop-term-preserved c =
    let i = c.loop-term.term-index in
    let t = get_or c.args.terms.now i no_term in
    let f : to_z w64 (of_z w64 t.factor) ≡ t.factor = to_z-of_z w64 t.factor (search rules) in
    let r : to_z w64 (of_z w64 c.raised-greatest.result) ≡ c.raised-greatest.result = to_z-of_z w64 c.raised-greatest.result (search rules) in
    let step = size_more c.args.terms.now i no_term c.loop-term-test.true in
    let near : unsigned_abs c.raised-greatest.result ≤ unsigned_abs (to_z w64 c.loop-term.greatest-bits) + unsigned_abs t.factor = subst (λ (z : ℤ). unsigned_abs c.raised-greatest.result ≤ unsigned_abs (to_z w64 c.loop-term.greatest-bits) + unsigned_abs z) f c.raised-greatest.ensures.near in (
      λ truths. subst (λ (z : ℤ). terms_total truths (take (i + 1) c.args.terms.now) ≤ℤ z) (sym r)
          (greatest_more c.args.terms.now i no_term (to_z w64 c.loop-term.greatest-bits) c.raised-greatest.result c.loop-term-test.true c.loop-term.invariant.0
          (λ before value le v. c.raised-greatest.ensures.bound before value le (subst (λ (z : ℤ). IsFactorValue z value) (sym f) v)) truths),
      subst (λ (z : ℤ). unsigned_abs z ≤ factors_reach (take (i + 1) c.args.terms.now)) (sym r) (omega (arith, c.loop-term.invariant.1, step, near)),
    )

pub returns : goal.returns
returns c =
    let front = size_front c.loop-term.term-index c.args.terms.now in
    record {
      bound = λ truths. subst (λ (ts : List OpbTerm). terms_total truths ts ≤ℤ (to_z w64 c.loop-term.greatest-bits)) (take_all c.loop-term.term-index c.args.terms.now c.loop-term-test.false) (c.loop-term.invariant.0 truths);
      near = within_numbers (to_z w64 c.loop-term.greatest-bits) (omega (arith, c.loop-term.invariant.1, front, c.requires));
    }
