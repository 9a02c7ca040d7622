use Rattle.std.proofs.Common.{◌≡◌, ◌<◌, ◌+◌, ◌-◌, ℕ, ℤ, sym, ap, ◌∙◌, arith, rules, w64}
use Rattle.std.proofs.lemmas.Int.{to_z-of_z}
use Rattle.std.specs.List.{range_with_len}
use Rattle.std.specs.Prelude.{map}
use Rattle.ep_tree.specs.Values.{single}
use Rattle.ep_tree.specs.Views.{value_tree}
use Rattle.ep_gen.proofs.Squares.{next_place, one_hint, row_value}
use Rattle.ep_gen.specs.Hints.{hint_of, nth_number, row_of}
use Rattle.ep_gen.proofs.hints.row.Goals as goal
use Rattle.ep_gen.proofs.hints.row.Goals.{else-loop-column-test, then-loop-column-test+in_ok-push+else-column-order}

pub loop-column-init : goal.loop-column-init
loop-column-init c = record {
  within = omega (arith, c.requires.some);
  small = c.requires.small;
  at = λ number before e. e ∙ ap (nth_number number) (omega arith);
  made = λ number before e. ap (map value_tree) c.in_ok-hints.ensures.items;
}

pub loop-column-preserved : goal.loop-column-preserved
loop-column-preserved c =
    let k : ℕ = c.loop-column.column in
    let some : 0 < k = omega (arith, c.loop-column.auto.column) in
    let kept : (k + 1) - 1 ≡ k = omega arith in
    record {
      within = search rules;
      small = c.next_number.ensures.small;
      at = λ number before e.
          c.next_number.ensures.next ∙ next_place number before k _ some (c.loop-column.invariant.at number before e)
          ∙ sym (ap (λ n. nth_number number (before + n)) kept);
      made = λ number before e.
          one_hint number before c.args.order c.args.row k _ _ _ _ c.hint.result some c.in_ok-push.ensures.items
          (to_z-of_z w64 c.hint.result (search rules)) c.hint.ensures
          (c.next_number.ensures.next ∙ next_place number before k _ some (c.loop-column.invariant.at number before e))
          (c.loop-column.invariant.made number before e);
    }

pub returns-clause-hints : goal.returns-clause-hints
unfolding row_of
returns-clause-hints c number before e =
    let k : ℕ = c.loop-column.column in
    let F : ℕ → ℤ = λ j. hint_of c.args.order c.args.row j (nth_number number (before + j)) in
    let made : map value_tree c.loop-column-test.hints.items ≡ map (λ j. single (F j)) (range_with_len 1 c.args.order) =
    elim c.loop-column-test.branch [
      | else-loop-column-test w ↦ absurd (omega (arith, w.loop-column-test.false, c.loop-column.invariant.within))
      | then-loop-column-test+in_ok-push+else-column-order w ↦
          let some : 0 < k = omega (arith, c.loop-column.auto.column) in
          let whole : (k + 1) - 1 ≡ c.args.order = omega (arith, c.loop-column.invariant.within) in
          ap (λ v. map value_tree v.items) w.hints-is
          ∙ one_hint number before c.args.order c.args.row k _ _ _ _ w.hint.result some w.in_ok-push.ensures.items
          (to_z-of_z w64 w.hint.result (search rules)) w.hint.ensures
          (w.next_number.ensures.next ∙ next_place number before k _ some (c.loop-column.invariant.at number before e))
          (c.loop-column.invariant.made number before e)
          ∙ ap (λ n. map (λ j. single (F j)) (range_with_len 1 n)) whole
    ] in
    row_value c.in_ok-indices.field-0 c.loop-column-test.hints c.args.order F c.in_ok-indices.ensures made

pub returns-clause-moved : goal.returns-clause-moved
returns-clause-moved c number before e =
    let k : ℕ = c.loop-column.column in
    elim c.loop-column-test.branch [
      | else-loop-column-test w ↦ absurd (omega (arith, w.loop-column-test.false, c.loop-column.invariant.within))
      | then-loop-column-test+in_ok-push+else-column-order w ↦
          let some : 0 < k = omega (arith, c.loop-column.auto.column) in
          let whole : k ≡ c.args.order = omega (arith, c.loop-column.invariant.within) in
          w.last-is ∙ w.next_number.ensures.next ∙ next_place number before k _ some (c.loop-column.invariant.at number before e)
          ∙ ap (λ n. nth_number number (before + n)) whole
    ]
