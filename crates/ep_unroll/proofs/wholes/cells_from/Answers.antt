use Rattle.ep_unroll.proofs.Words.{◌≡◌, ◌∷◌, ◌∙◌, length, ap, arith, refl, subst, IsWalkBehind, before_rest, numbers_left, cell_count, AreTerms, worth, cells_value, each_from, Cells}
use Rattle.ep_unroll.proofs.WholeSteps.{behind_all, behind_begin, behind_more, cells_cut, cells_none}
use Rattle.ep_unroll.proofs.wholes.cells_from.Goals as goal

pub loop-number-init : goal.loop-number-init
loop-number-init c =
    let inner = c.args.inner.now in (
      c.requires,
      behind_begin (λ nodes numbers. each_from (cells_value numbers inner) (cell_count inner) c.args.start (numbers_left c.args.later)) (λ count. AreTerms count c.args.first) c.args.first
          c.in_ok-parts.parts.items c.in_ok-parts.ensures (λ count h. h),
    )

pub loop-number-smaller : goal.loop-number-smaller
unfolding before_rest
loop-number-smaller c =
    let cut : numbers_left c.loop-number.walk ≡ c.in-Some._number ∷ numbers_left c.in-Some.behind = c.next_number.ensures.numbers ∙ ap before_rest c.in-Some.is in
    let longer = ap length cut in
    omega (arith, longer)

pub loop-number-preserved : goal.loop-number-preserved
unfolding before_rest IsWalkBehind AreTerms worth
loop-number-preserved c =
    let inner = c.args.inner in
    let cut : numbers_left c.loop-number.walk ≡ c.in-Some._number ∷ numbers_left c.in-Some.behind = c.next_number.ensures.numbers ∙ ap before_rest c.in-Some.is in (
      subst IsWalkBehind c.in-Some.is c.next_number.ensures.walk,
      behind_more _ (λ nodes numbers. each_from (cells_value numbers inner.now) (cell_count inner.now) c.loop-number.cell (numbers_left c.loop-number.walk))
          (λ nodes numbers. each_from (cells_value numbers inner.now) (cell_count inner.now) c.in-Some-checked_add.more (numbers_left c.in-Some.behind)) (λ count. AreTerms count c.args.first) (Cells c.loop-number.cell inner)
          c.loop-number.parts.items c.push.new.self.items c.loop-number.invariant.1 c.in_ok-push.ensures.items
          (λ nodes numbers. cells_cut numbers inner.now c.loop-number.cell c.in-Some-checked_add.more c.in_ok-each.each c.in-Some._number (numbers_left c.loop-number.walk) (numbers_left c.in-Some.behind)
          (worth nodes numbers (Cells c.loop-number.cell inner)) cut c.in_ok-each.ensures (omega (arith, c.in-Some-checked_add.ensures)) refl)
          (λ count h. tt),
    )

pub returns-clause-worths : goal.returns-clause-worths
unfolding before_rest
returns-clause-worths c nodes numbers =
    behind_all _ _ _ _ c.loop-number.invariant.1
    (λ ns js. cells_none js c.args.inner.now c.loop-number.cell (numbers_left c.loop-number.walk) (c.next_number.ensures.numbers ∙ ap before_rest c.in_default.is)) nodes numbers

pub returns-clause-terms : goal.returns-clause-terms
returns-clause-terms c count first = c.loop-number.invariant.1.terms count first
