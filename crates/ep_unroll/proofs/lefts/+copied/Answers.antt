use Rattle.ep_unroll.proofs.Words.{◌≡◌, ◌∷◌, ◌++◌, ◌+◌, ◌∙◌, ℕ, List, ap, drop, refl, subst, sym, drop_all, drop_more, AreTerms, worth, Unrolled}
use Rattle.ep_unroll.proofs.FormValues.{if_ok}
use Rattle.ep_unroll.proofs.GrownParts.{matrix_terms}
use Rattle.ep_unroll.proofs.LeftSteps.{CopiedSoFar, copied_begin, copied_done, copied_more, copied_terms}
use Rattle.ep_unroll.proofs.lefts.+copied.Goals as goal

pub loop-part-init : goal.loop-part-init
loop-part-init t c = copied_begin c.deref-part-items.result.now c.deref-part-items.result.now c.new-inner.result.items refl c.new-inner.ensures.items

pub loop-part-preserved : goal.loop-part-preserved
loop-part-preserved t c =
    let all : List Unrolled = c.deref-part-items.result.now in
    let k : ℕ = c.loop-part.part-index in
    let part : Unrolled = c.part-item.result in
    let cut : drop k all ≡ part ∷ drop (k + 1) all = drop_more all k part c.loop-part-test.true ∙ ap (λ r. r ∷ drop (k + 1) all) (sym c.part-item.is) in
    copied_more all (drop k all) (drop (k + 1) all) c.loop-part.inner.items c.push.new.self.items part c.in_ok-copy-in-Matrix.copy c.loop-part.invariant cut c.in_ok-push-in-Matrix.ensures.items
    c.in_ok-copy-in-Matrix.ensures.worth c.in_ok-copy-in-Matrix.ensures.terms

pub returns-in-Fixed-clause-worth : goal.returns-in-Fixed-clause-worth
unfolding worth
returns-in-Fixed-clause-worth t c = if_ok c.opened_seen.result _ _ (λ x h nodes numbers. h nodes numbers ∙ ap (worth nodes numbers) (sym c.in-Fixed.is)) c.opened_seen.ensures.worth

pub returns-after-loop-part-clause-worth : goal.returns-after-loop-part-clause-worth
returns-after-loop-part-clause-worth t c nodes numbers =
    let all : List Unrolled = c.deref-part-items.result.now in
    let own = c.in-Matrix.own in
    let parts = c.in-Matrix.parts in
    let left = drop c.loop-part.part-index all in
    copied_done own parts left c.extend_from_slice.new.self c.loop-part.inner
    (subst (λ l. CopiedSoFar l left c.loop-part.inner.items) c.deref-part-items.ensures.value c.loop-part.invariant) (drop_all c.loop-part.part-index all c.loop-part-test.false)
    (c.in_ok-extend_from_slice-in-Matrix.ensures.items ∙ ap (λ l. l ++ c.deref.result.now) c.new-indices.ensures.items ∙ c.deref.ensures.value) nodes numbers
    ∙ ap (worth nodes numbers) (sym c.in-Matrix.is)

pub returns-after-loop-part-clause-terms : goal.returns-after-loop-part-clause-terms
returns-after-loop-part-clause-terms t c count known =
    let own = c.in-Matrix.own in
    let parts = c.in-Matrix.parts in
    let left = drop c.loop-part.part-index c.deref-part-items.result.now in
    copied_terms own parts left c.extend_from_slice.new.self c.loop-part.inner
    (subst (λ l. CopiedSoFar l left c.loop-part.inner.items) c.deref-part-items.ensures.value c.loop-part.invariant) count
    (matrix_terms count own parts (subst (AreTerms count) c.in-Matrix.is known))
