use Rattle.ep_unroll.proofs.Words.{◌≡◌, ◌+◌, ◌∷◌, [], ℕ, List, drop, sym, subst, ap, ◌∙◌, drop_all, drop_more, all_there, scalars_in, AddsParts, worth, HaveTerms, cells_from, Unrolled}
use Rattle.ep_unroll.proofs.FlatSteps.{flat_from, flat_same, flat_term, on_ok, parts_flat_all, parts_flat_begin, parts_flat_more}
use Rattle.ep_unroll.proofs.MatrixSteps.{cells_scalars}
use Rattle.ep_unroll.proofs.flattening.+push_scalars.Goals as goal

pub returns-in_ok-push-in-Number : goal.returns-in_ok-push-in-Number
returns-in_ok-push-in-Number t c =
    subst (λ x. AddsParts c.args.parts.now.items c.push.new.self.items (x ∷ []) (λ nodes numbers. scalars_in (worth nodes numbers x))) (sym c.in-Number.is)
    (flat_term c.args.parts.now.items c.push.new.self.items c.in-Number.term c.in_ok-push-in-Number.ensures.items)

pub push_cells-requires : goal.push_cells-requires
push_cells-requires t c = c.no_domains-none.ensures

pub returns-in_ok-count-in-Cells : goal.returns-in_ok-count-in-Cells
unfolding worth HaveTerms
returns-in_ok-count-in-Cells t c =
    on_ok c.push_cells.result _ _
    (λ h. flat_from c.args.parts.now.items c.push_cells.new.parts.items [] (c.args.known.now ∷ []) _ (λ count k. tt)
    (flat_same c.args.parts.now.items c.push_cells.new.parts.items [] _ _
    (λ nodes numbers. ap (λ m. all_there (cells_from numbers c.in-Cells.first m)) c.in_ok-count-in-Cells.ensures ∙ cells_scalars numbers c.in-Cells.domains.now c.in-Cells.first
    ∙ ap (λ x. scalars_in (worth nodes numbers x)) (sym c.in-Cells.is)) h)) c.push_cells.ensures

pub returns-in-Fixed : goal.returns-in-Fixed
unfolding worth HaveTerms
returns-in-Fixed t c =
    on_ok c.push_seen.result _ _
    (λ h. flat_from c.args.parts.now.items c.push_seen.new.parts.items [] (c.args.known.now ∷ []) _ (λ count k. tt)
    (flat_same c.args.parts.now.items c.push_seen.new.parts.items [] _ _
    (λ nodes numbers. ap (λ x. scalars_in (worth nodes numbers x)) (sym c.in-Fixed.is)) h)) c.push_seen.ensures

pub loop-part-init : goal.loop-part-init
loop-part-init t c = parts_flat_begin c.args.parts.now.items c.deref-part-items.result.now

pub loop-part-preserved : goal.loop-part-preserved
loop-part-preserved t c =
    let all : List Unrolled = c.deref-part-items.result.now in
    let k : ℕ = c.loop-part.part-index in
    let part : Unrolled = c.part-item.result in
    let cut : drop k all ≡ part ∷ drop (k + 1) all = drop_more all k part c.loop-part-test.true ∙ ap (λ r. r ∷ drop (k + 1) all) (sym c.part-item.is) in
    parts_flat_more c.args.parts.now.items c.loop-part.parts.items c.push_scalars.new.parts.items all (drop k all) (drop (k + 1) all) part c.loop-part.invariant cut c.in_ok-push_scalars-in-Matrix.ensures

pub returns-after-loop-part : goal.returns-after-loop-part
returns-after-loop-part t c =
    let all : List Unrolled = c.deref-part-items.result.now in
    let k : ℕ = c.loop-part.part-index in
    parts_flat_all c.args.parts.now.items c.loop-part.parts.items all (drop k all) c.args.known.now c.in-Matrix.field-0 c.in-Matrix.inner
    c.loop-part.invariant (drop_all k all c.loop-part-test.false) c.in-Matrix.is c.deref-part-items.ensures.value
