-- Tests that answer what a definition computes.
use Rattle.std.proofs.Common.{◌≡◌, ◌↔◌, Bool, true, false, ℤ, List, IsTrue, refl, sym, ◌∙◌}
use Rattle.std.specs.List.{Contains}
use Rattle.std.proofs.lemmas.Bool.Decides.{Decides-int_eq}
use Rattle.std.proofs.lemmas.Cmp.{int_eq_equiv}
use Rattle.std.proofs.lemmas.Map.Views.{Contains-from_any, list_any-from_Contains}
use Rattle.ep_base.specs.Numbers.{has_number}

-- a test for a number of a set answers whether its list has the number
pub has_number_from_test : (b : Bool) (xs : List ℤ) (n : ℤ) → (IsTrue b ↔ Contains xs n) → b ≡ has_number xs n
unfolding has_number
has_number_from_test true xs n h = sym (list_any-from_Contains int_eq_equiv n xs (h.0 refl))
has_number_from_test false xs n h = go (has_number xs n) refl
  where
    go : (c : Bool) → has_number xs n ≡ c → false ≡ has_number xs n
    go false e = sym e
    go true e = h.1 (Contains-from_any (λ x y. (Decides-int_eq x y).0) n xs e) ∙ sym e
