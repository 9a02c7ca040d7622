use Rattle.ep_unroll.proofs.Words.{◌≡◌, [], ◌∷◌, ◌++◌, append_assoc, ap, arith, length, of_z, refl, subst, sym, to_z, w64, ◌∙◌, ints, to_z-of_z, IsWalkBehind, before_rest, numbers_left, cell_count, AreTerms, worth, cells_value, each_from, Cells}
use Rattle.ep_unroll.proofs.GrownParts.{terms_matrix}
use Rattle.ep_unroll.proofs.WholeSteps.{behind_more, behind_none, cells_cut, cells_matrix, cells_none}
use Rattle.ep_unroll.proofs.reads.cells_opened.Goals as goal

pub loop-number-init : goal.loop-number-init
loop-number-init c =
    let own = c.args.own.now in
    let inner = c.args.inner.now in
    let left = numbers_left c.walk_of-walk.result in
    let all : left ≡ own = c.walk_of-walk.ensures.numbers ∙ c.runs.ensures.numbers in (
      c.walk_of-walk.ensures.walk,
      sym all ∙ ap (λ ds. ds ++ left) (sym c.new-indices.ensures.items),
      behind_none (λ nodes numbers. each_from (cells_value numbers inner) (cell_count inner) c.args.first own) (λ nodes numbers. each_from (cells_value numbers inner) (cell_count inner) c.args.first left)
          (λ count. Unit {0}) c.new-parts.result.items c.new-parts.ensures.items (λ nodes numbers. ap (each_from (cells_value numbers inner) (cell_count inner) c.args.first) all),
    )

pub loop-number-smaller : goal.loop-number-smaller
unfolding before_rest
loop-number-smaller c =
    let cut : numbers_left c.loop-number.walk ≡ c.in-Some.number ∷ numbers_left c.in-Some.behind = c.next_number.ensures.numbers ∙ ap before_rest c.in-Some.is in
    let longer = ap length cut in
    omega (arith, longer)

pub loop-number-preserved : goal.loop-number-preserved
unfolding before_rest IsWalkBehind AreTerms worth
loop-number-preserved c =
    let inner = c.args.inner in
    let done = c.loop-number.indices.items in
    let left = numbers_left c.loop-number.walk in
    let later = numbers_left c.in-Some.behind in
    let x = to_z w64 (of_z w64 c.in-Some.number) in
    let number : x ≡ c.in-Some.number = to_z-of_z w64 c.in-Some.number (omega (arith, ints)) in
    let cut : left ≡ c.in-Some.number ∷ later = c.next_number.ensures.numbers ∙ ap before_rest c.in-Some.is in (
      subst IsWalkBehind c.in-Some.is c.next_number.ensures.walk,
      c.loop-number.invariant.1 ∙ ap (λ l. done ++ l) (cut ∙ ap (λ y. y ∷ later) (sym number)) ∙ sym (append_assoc done (x ∷ []) later) ∙ ap (λ ds. ds ++ later) (sym c.in_ok-push.ensures.items),
      behind_more _ (λ nodes numbers. each_from (cells_value numbers inner.now) (cell_count inner.now) c.loop-number.cell left)
          (λ nodes numbers. each_from (cells_value numbers inner.now) (cell_count inner.now) c.in-Some-checked_add.more later) (λ count. Unit {0}) (Cells c.loop-number.cell inner)
          c.loop-number.parts.items c.push-in-Some.new.self.items c.loop-number.invariant.2 c.in_ok-push-2.ensures.items
          (λ nodes numbers. cells_cut numbers inner.now c.loop-number.cell c.in-Some-checked_add.more c.in_ok-each.each c.in-Some.number left later
          (worth nodes numbers (Cells c.loop-number.cell inner)) cut c.in_ok-each.ensures (omega (arith, c.in-Some-checked_add.ensures)) refl)
          (λ count h. tt),
    )

pub returns-clause-worth : goal.returns-clause-worth
unfolding before_rest
returns-clause-worth c =
    let none : numbers_left c.loop-number.walk ≡ [] = c.next_number.ensures.numbers ∙ ap before_rest c.in_default.is in
    cells_matrix c.args.own.now c.args.inner.now c.args.first (numbers_left c.loop-number.walk) _ (λ count. Unit {0}) c.loop-number.indices c.loop-number.parts none c.loop-number.invariant.1 c.loop-number.invariant.2
    (λ nodes numbers. cells_none numbers c.args.inner.now c.loop-number.cell (numbers_left c.loop-number.walk) none)

pub returns-clause-terms : goal.returns-clause-terms
returns-clause-terms c count = terms_matrix count c.loop-number.indices c.loop-number.parts (c.loop-number.invariant.2.terms count tt)
