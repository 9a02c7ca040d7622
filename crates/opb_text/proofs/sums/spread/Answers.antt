use Rattle.std.proofs.Common.{rules, ◌++◌, ◌∷◌, ◌≡◌, ◌+◌, ◌+ℤ◌, ◌∙◌, [], List, ℤ, ℕ, pos, of_z, to_z, take, w64, ap, subst, sym}
use Rattle.std.proofs.lemmas.Int.{to_z-of_z}
use Rattle.std.proofs.lemmas.List.{take_all}
use Rattle.opb_text.specs.declared.content.OpbTerm.{OpbTerm}
use Rattle.opb_text.specs.Sums.{IsSumOf}
use Rattle.opb_text.proofs.SumLaws.{no_term, sum_none, sum_step}
use Rattle.opb_text.proofs.sums.spread.Goals as goal

pub loop-term-init : goal.loop-term-init
loop-term-init c = subst (λ (ps : List (ℤ × ℕ)). IsSumOf c.args.vars.now [] ps (pos 0)) (sym c.new-parts.ensures.items) (sum_none c.args.vars.now)

pub loop-term-preserved : goal.loop-term-preserved
loop-term-preserved c =
    let r : to_z w64 (of_z w64 c.added-constant.result) ≡ c.added-constant.result = to_z-of_z w64 c.added-constant.result (search rules) in
    subst (IsSumOf c.args.vars.now (take (c.loop-term.term-index + 1) c.args.terms.now) c.push_part.new.parts.items) (sym r)
    (sum_step c.args.vars.now c.args.terms.now c.loop-term.term-index no_term c.loop-term.parts.items (to_z w64 c.loop-term.constant-bits) c.added-constant.result c.push_part.new.parts.items c.coefficient.result c.place_of-place.result
    c.requires.ascending c.place_of-place.ensures.within c.loop-term-test.true c.place_of-place.ensures.is c.coefficient.ensures (c.in_ok-push_part.ensures ∙ ap (λ (z : ℤ). c.loop-term.parts.items ++ (z, c.place_of-place.result) ∷ []) (to_z-of_z w64 c.coefficient.result (search rules)))
    (c.added-constant.ensures ∙ ap (λ (z : ℤ). to_z w64 c.loop-term.constant-bits +ℤ z) (to_z-of_z w64 c.base.result (search rules) ∙ c.base.ensures)) c.loop-term.invariant)

pub returns : goal.returns
returns c =
    subst (λ (ts : List OpbTerm). IsSumOf c.args.vars.now ts c.loop-term.parts.items (to_z w64 c.loop-term.constant-bits))
    (take_all c.loop-term.term-index c.args.terms.now c.loop-term-test.false) c.loop-term.invariant
