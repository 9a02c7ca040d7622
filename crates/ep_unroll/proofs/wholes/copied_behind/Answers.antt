use Rattle.ep_unroll.proofs.Words.{◌≡◌, ◌∷◌, ◌+◌, ◌∙◌, ℕ, List, ap, drop, subst, sym, drop_all, drop_more, AreTerms, HaveTerms, worths, Unrolled}
use Rattle.ep_unroll.proofs.GrownParts.{have_at}
use Rattle.ep_unroll.proofs.WholeSteps.{behind_all, behind_begin, behind_more}
use Rattle.ep_unroll.proofs.wholes.copied_behind.Goals as goal

pub loop-other-init : goal.loop-other-init
loop-other-init c =
    behind_begin (λ nodes numbers. worths nodes numbers c.args.others.now) (λ count. AreTerms count c.args.first × HaveTerms count c.args.others.now) c.args.first
    c.in_ok-parts.parts.items c.in_ok-parts.ensures (λ count h. h.0)

pub loop-other-preserved : goal.loop-other-preserved
loop-other-preserved c =
    let all : List Unrolled = c.args.others.now in
    let k : ℕ = c.loop-other.other-index in
    let other : Unrolled = c.other-item.result in
    let cut : drop k all ≡ other ∷ drop (k + 1) all = drop_more all k other c.loop-other-test.true ∙ ap (λ r. r ∷ drop (k + 1) all) (sym c.other-item.is) in
    behind_more _ (λ nodes numbers. worths nodes numbers (drop k all)) (λ nodes numbers. worths nodes numbers (drop (k + 1) all)) (λ count. AreTerms count c.args.first × HaveTerms count all) c.in_ok-part.part
    c.loop-other.parts.items c.push.new.self.items c.loop-other.invariant c.in_ok-push.ensures.items
    (λ nodes numbers. ap (worths nodes numbers) cut ∙ ap (λ v. v ∷ worths nodes numbers (drop (k + 1) all)) (sym (c.in_ok-part.ensures.worth nodes numbers)))
    (λ count h. c.in_ok-part.ensures.terms count (subst (AreTerms count) (sym c.other-item.is) (have_at count all k other h.1 c.loop-other-test.true)))

pub returns-clause-worths : goal.returns-clause-worths
returns-clause-worths c nodes numbers =
    let all : List Unrolled = c.args.others.now in
    behind_all _ _ _ _ c.loop-other.invariant (λ ns js. ap (worths ns js) (drop_all c.loop-other.other-index all c.loop-other-test.false)) nodes numbers

pub returns-clause-terms : goal.returns-clause-terms
returns-clause-terms c count first others = c.loop-other.invariant.terms count (first, others)
