use Rattle.ep_unroll.proofs.Words.{◌≡◌, ◌∷◌, ◌++◌, ◌+◌, ◌∙◌, ℕ, List, Some, ap, arith, drop, refl, sym, w64, to_z, of_z, ints, to_z-of_z, drop_all, drop_more, held_value, value_tree-matrix, value_tree-number, matrix, single, value_tree, values_from, Value, AreTerms, worth}
use Rattle.ep_unroll.proofs.LeftSteps.{opened_begin, opened_done, opened_more, opened_terms}
use Rattle.ep_unroll.proofs.lefts.+opened_value.Goals as goal

pub loop-part-init : goal.loop-part-init
loop-part-init t c = opened_begin c.deref-part-items.result.now c.deref-part-items.result.now c.new-inner.result.items refl c.new-inner.ensures.items

pub loop-part-preserved : goal.loop-part-preserved
loop-part-preserved t c =
    let all : List Value = c.deref-part-items.result.now in
    let k : ℕ = c.loop-part.part-index in
    let part : Value = c.part-item.result in
    let cut : drop k all ≡ part ∷ drop (k + 1) all = drop_more all k part c.loop-part-test.true ∙ ap (λ r. r ∷ drop (k + 1) all) (sym c.part-item.is) in
    opened_more all (drop k all) (drop (k + 1) all) c.loop-part.inner.items c.push.new.self.items part c.in_ok-opened-in-Matrix.opened c.loop-part.invariant cut c.in_ok-push-in-Matrix.ensures.items
    c.in_ok-opened-in-Matrix.ensures.worth c.in_ok-opened-in-Matrix.ensures.terms

pub returns-in-Number-clause-worth : goal.returns-in-Number-clause-worth
unfolding worth held_value
returns-in-Number-clause-worth t c nodes numbers =
    let n = c.in-Number.number in
    let word : to_z w64 (of_z w64 n) ≡ n = to_z-of_z w64 n (omega (arith, ints)) in
    ap (λ m. Some (single m)) word ∙ ap Some (sym (value_tree-number n)) ∙ ap (λ v. Some (value_tree v)) (sym c.in-Number.is)

pub returns-in-Number-clause-terms : goal.returns-in-Number-clause-terms
unfolding AreTerms
returns-in-Number-clause-terms t c count = tt

pub returns-after-loop-part-clause-worth : goal.returns-after-loop-part-clause-worth
returns-after-loop-part-clause-worth t c nodes numbers =
    let all : List Value = c.deref-part-items.result.now in
    let own = c.in-Matrix.own in
    let parts = c.in-Matrix.parts in
    opened_done own.items all (drop c.loop-part.part-index all) c.extend_from_slice.new.self c.loop-part.inner c.loop-part.invariant (drop_all c.loop-part.part-index all c.loop-part-test.false)
    (c.in_ok-extend_from_slice-in-Matrix.ensures.items ∙ ap (λ l. l ++ c.deref.result.now) c.new-indices.ensures.items ∙ c.deref.ensures.value) nodes numbers
    ∙ ap (λ l. Some (matrix own.items (values_from l))) c.deref-part-items.ensures.value ∙ ap Some (sym (value_tree-matrix own parts)) ∙ ap (λ v. Some (value_tree v)) (sym c.in-Matrix.is)

pub returns-after-loop-part-clause-terms : goal.returns-after-loop-part-clause-terms
returns-after-loop-part-clause-terms t c count =
    let all : List Value = c.deref-part-items.result.now in
    opened_terms all (drop c.loop-part.part-index all) c.extend_from_slice.new.self c.loop-part.inner c.loop-part.invariant count
