-- Numbers that are seen to ascend.
use Rattle.ep_unroll.proofs.Words.{◌≡◌, ℕ, ◌+◌, ◌<◌, ◌≤◌, ℤ, ◌<ℤ◌, ◌≤ℤ◌, List, [], ◌∷◌, ◌++◌, length, get_or, take, Some, None, refl, sym, ap, subst, ◌∙◌, arith, Option, All, ints, take_all, take_more, All-push, all_pairs_push, IsAscending}

-- the last number is the greatest so far
unfoldable pub IsLast : List ℤ → Option ℤ → Type 0
IsLast xs None = xs ≡ []
IsLast xs (Some last) = All (λ x. x ≤ℤ last) xs

pub record AscendSoFar (all : List ℤ) (k : ℕ) (last : Option ℤ) : Type 0 where
  pub up : IsAscending (take k all)
  pub greatest : IsLast (take k all) last

pub ascend_begin : (all : List ℤ) (last : Option ℤ) → last ≡ None → AscendSoFar all 0 last
unfolding IsLast
ascend_begin all last none = record { up = λ i j d less inside. absurd (omega (arith, inside)); greatest = subst (IsLast []) (sym none) refl }

below : (xs : List ℤ) (last : Option ℤ) (x : ℤ) → IsLast xs last → ((before : ℤ) → last ≡ Some before → before <ℤ x) → All (λ y. y <ℤ x) xs
unfolding IsLast
below xs None x none h = subst (All (λ y. y <ℤ x)) (sym none) (λ k d less. absurd (omega (arith, less)))
below xs (Some before) x most h = λ k d less. let one = most k d less in let other = h before refl in omega (arith, ints, one, other)

pub ascend_more : (all : List ℤ) (k : ℕ) (last more : Option ℤ) (x d : ℤ) → k < length all → x ≡ get_or all k d → AscendSoFar all k last → ((before : ℤ) → last ≡ Some before → before <ℤ x) → more ≡ Some x
    → AscendSoFar all (k + 1) more
unfolding IsLast
ascend_more all k last more x d h same so greater is =
    let less : All (λ y. y <ℤ x) (take k all) = below (take k all) last x so.greatest greater in
    let cut : take (k + 1) all ≡ take k all ++ x ∷ [] = take_more all k d h ∙ ap (λ y. take k all ++ y ∷ []) (sym same) in
    record {
      up = subst IsAscending (sym cut) (all_pairs_push ◌<ℤ◌ (take k all) x so.up less);
      greatest = subst (IsLast (take (k + 1) all)) (sym is) (subst (All (λ y. y ≤ℤ x)) (sym cut) (All-push (λ y. y ≤ℤ x) (take k all) x (λ j e inside. let one = less j e inside in omega (arith, ints, one)) (omega (arith, ints))));
    }

pub ascend_all : (all : List ℤ) (k : ℕ) (last : Option ℤ) → length all ≤ k → AscendSoFar all k last → IsAscending all
ascend_all all k last h so = subst IsAscending (take_all k all h) so.up
