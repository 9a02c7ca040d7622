use Rattle.ep_unroll.proofs.Words.{◌≡◌, ◌∷◌, ◌+◌, ◌∙◌, ℕ, List, ap, drop, sym, drop_all, drop_more, Value, AreTerms}
use Rattle.ep_unroll.proofs.LeftSteps.{values_of_all}
use Rattle.ep_unroll.proofs.WholeSteps.{behind_all, behind_begin, behind_more}
use Rattle.ep_unroll.proofs.wholes.opened_behind.Goals as goal

pub loop-value-init : goal.loop-value-init
loop-value-init c =
    behind_begin (λ nodes numbers. values_of_all c.args.values.now) (λ count. AreTerms count c.args.first) c.args.first c.in_ok-parts.parts.items c.in_ok-parts.ensures (λ count h. h)

pub loop-value-preserved : goal.loop-value-preserved
loop-value-preserved c =
    let all : List Value = c.args.values.now in
    let k : ℕ = c.loop-value.value-index in
    let value : Value = c.value-item.result in
    let cut : drop k all ≡ value ∷ drop (k + 1) all = drop_more all k value c.loop-value-test.true ∙ ap (λ r. r ∷ drop (k + 1) all) (sym c.value-item.is) in
    behind_more _ (λ nodes numbers. values_of_all (drop k all)) (λ nodes numbers. values_of_all (drop (k + 1) all)) (λ count. AreTerms count c.args.first) c.in_ok-part.part
    c.loop-value.parts.items c.push.new.self.items c.loop-value.invariant c.in_ok-push.ensures.items
    (λ nodes numbers. ap values_of_all cut ∙ ap (λ v. v ∷ values_of_all (drop (k + 1) all)) (sym (c.in_ok-part.ensures.worth nodes numbers)))
    (λ count h. c.in_ok-part.ensures.terms count)

pub returns-clause-worths : goal.returns-clause-worths
returns-clause-worths c nodes numbers =
    behind_all _ _ _ _ c.loop-value.invariant (λ ns js. ap values_of_all (drop_all c.loop-value.value-index c.args.values.now c.loop-value-test.false)) nodes numbers

pub returns-clause-terms : goal.returns-clause-terms
returns-clause-terms c count first = c.loop-value.invariant.terms count first
