use Rattle.std.proofs.Common.{ℕ, pos, refl, sym, ap, ◌∙◌, subst, arith}
use Rattle.std.proofs.lemmas.Int.{ints}
use Rattle.ep_tree.proofs.ViewLemmas.{value_tree-number}
use Rattle.ep_tree.specs.TypedValues.{IsOfDims, is_number_of}
use Rattle.ep_tree.specs.Values.{single}
use Rattle.ep_tree.specs.declared.values.Scalar.{Scalar}
use Rattle.ep_gen.proofs.Params.{params_is}
use Rattle.ep_gen.proofs.Squares.{rows_count, square_typed}
use Rattle.ep_gen.specs.Hints.{square_rows, square_value}
use Rattle.ep_gen.proofs.texts.params_text.Goals as goal

pub push_letting-requires : goal.push_letting-requires
unfolding is_number_of
push_letting-requires c = record { typed = subst (λ v. IsOfDims Scalar.Int 0 v) (sym (value_tree-number _)) refl }

pub push_letting-requires-2 : goal.push_letting-requires-2
push_letting-requires-2 c =
    let n : ℕ = c.order-order.result in
    record { typed = subst (λ v. IsOfDims Scalar.Int 2 v) (sym c.in_ok-hints.ensures) (square_typed n (square_rows c.args.number n) (rows_count c.args.number n)) }

pub returns : goal.returns
returns c =
    params_is c.args.number _ _ _ _ _ c.in_ok-text.ensures.items c.in_ok-push_letting.ensures c.in_ok-push_letting-2.ensures
    (value_tree-number _ ∙ ap (λ n. single n) (omega (arith, ints, c.order-order.ensures.within.1)) ∙ ap (λ n. single (pos n)) c.order-order.ensures.order)
    (c.in_ok-hints.ensures ∙ ap (λ n. square_value n (square_rows c.args.number n)) c.order-order.ensures.order)
