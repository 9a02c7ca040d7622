use Rattle.std.proofs.Common.{◌≡◌, ◌<◌, ◌+◌, ◌-◌, ◌*◌, ℕ, ℤ, List, ap, ◌∙◌, arith, rules}
use Rattle.std.specs.List.{range_with_len}
use Rattle.std.specs.Prelude.{map}
use Rattle.ep_tree.specs.Values.{list_value}
use Rattle.ep_tree.specs.Views.{value_tree}
use Rattle.ep_gen.proofs.Squares.{one_more, rows_before, square_is}
use Rattle.ep_gen.specs.Hints.{nth_number, row_of, square_rows}
use Rattle.ep_gen.proofs.hints.square.Goals as goal
use Rattle.ep_gen.proofs.hints.square.Goals.{else-loop-i-test, then-loop-i-test+in_ok-row+in_ok-push+else-i-order}

pub loop-i-init : goal.loop-i-init
unfolding nth_number
loop-i-init c =
    let none : 0 ≡ 0 * c.args.order = omega arith in
    record {
      within = omega (arith, c.requires.some);
      small = search rules;
      at = ap (nth_number c.args.number) none;
      made = ap (map value_tree) c.in_ok-rows.ensures.items;
    }

pub loop-i-preserved : goal.loop-i-preserved
loop-i-preserved c =
    let i : ℕ = c.loop-i.i in
    let n : ℕ = c.args.order in
    let some : 0 < i = omega (arith, c.loop-i.auto.i) in
    record {
      within = search rules;
      small = c.row.ensures.small;
      at = c.in_ok-row.ensures.moved c.args.number ((i - 1) * n) c.loop-i.invariant.at ∙ ap (nth_number c.args.number) (rows_before i n some);
      made =
          one_more value_tree (λ k. list_value (row_of c.args.number n ((k - 1) * n) k)) c.push.new.self.items c.loop-i.rows.items c.in_ok-row.field-0 i some
          c.in_ok-push.ensures.items c.loop-i.invariant.made (c.in_ok-row.ensures.hints c.args.number ((i - 1) * n) c.loop-i.invariant.at);
    }

pub returns : goal.returns
unfolding square_rows
returns c =
    let i : ℕ = c.loop-i.i in
    let n : ℕ = c.args.order in
    let F : ℕ → List ℤ = λ k. row_of c.args.number n ((k - 1) * n) k in
    let made : map value_tree c.loop-i-test.rows.items ≡ map (λ k. list_value (F k)) (range_with_len 1 n) =
    elim c.loop-i-test.branch [
      | else-loop-i-test w ↦ absurd (omega (arith, w.loop-i-test.false, c.loop-i.invariant.within))
      | then-loop-i-test+in_ok-row+in_ok-push+else-i-order w ↦
          let some : 0 < i = omega (arith, c.loop-i.auto.i) in
          let whole : (i + 1) - 1 ≡ n = omega (arith, c.loop-i.invariant.within) in
          ap (λ v. map value_tree v.items) w.rows-is
          ∙ one_more value_tree (λ k. list_value (F k)) w.push.new.self.items c.loop-i.rows.items w.in_ok-row.field-0 i some
          w.in_ok-push.ensures.items c.loop-i.invariant.made (w.in_ok-row.ensures.hints c.args.number ((i - 1) * n) c.loop-i.invariant.at)
          ∙ ap (λ m. map (λ k. list_value (F k)) (range_with_len 1 m)) whole
    ] in
    square_is c.in_ok-indices.field-0 c.loop-i-test.rows n F c.in_ok-indices.ensures made
