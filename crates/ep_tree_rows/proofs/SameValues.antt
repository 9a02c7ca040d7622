-- Values that a table takes for the same are equal, so that its rows say what texts are worth and nothing less.
use Rattle.std.specs.Prelude.{◌≡◌, Bool, true, ◌&&◌, List, [], ◌∷◌, ℤ}
use Rattle.std.specs.Ordering.{int_eq}
use Rattle.std.proofs.Common.{refl, ap, ◌∙◌}
use Rattle.std.proofs.lemmas.Bool.Decides.{Decides-int_eq}
use Rattle.ep_base.specs.Numbers.{same_numbers}
use Rattle.ep_tree.proofs.TypedParts.{and_left, and_right}
use Rattle.ep_tree.specs.Values.{ValueTree, ValueTrees, matrix, no_values, same_value, same_values, single, value_and}

pub numbers_are : (xs ys : List ℤ) → same_numbers xs ys ≡ true → xs ≡ ys
unfolding same_numbers
numbers_are [] [] e = refl
numbers_are [] (y ∷ ys) e = absurd cc
numbers_are (x ∷ xs) [] e = absurd cc
numbers_are (x ∷ xs) (y ∷ ys) e =
    ap (λ n. n ∷ xs) ((Decides-int_eq x y).0 (and_left (int_eq x y) (same_numbers xs ys) e))
    ∙ ap (λ ns. y ∷ ns) (numbers_are xs ys (and_right (int_eq x y) (same_numbers xs ys) e))

mutual
  unfolding same_value same_values

  pub value_is : (v w : ValueTree) → same_value v w ≡ true → v ≡ w
  value_is (single m) (single n) e = ap single ((Decides-int_eq m n).0 e)
  value_is (single m) (matrix js ws) e = absurd cc
  value_is (matrix is vs) (single n) e = absurd cc
  value_is (matrix is vs) (matrix js ws) e =
      ap (λ ns. matrix ns vs) (numbers_are is js (and_left (same_numbers is js) (same_values vs ws) e))
      ∙ ap (matrix js) (values_are vs ws (and_right (same_numbers is js) (same_values vs ws) e))

  pub values_are : (vs ws : ValueTrees) → same_values vs ws ≡ true → vs ≡ ws
  values_are no_values no_values e = refl
  values_are no_values (value_and w ws) e = absurd cc
  values_are (value_and v vs) no_values e = absurd cc
  values_are (value_and v vs) (value_and w ws) e =
      ap (λ x. value_and x vs) (value_is v w (and_left (same_value v w) (same_values vs ws) e))
      ∙ ap (value_and w) (values_are vs ws (and_right (same_value v w) (same_values vs ws) e))
