-- The numbers of a domain ascend.
use Rattle.std.specs.Prelude.{◌≡◌, Bool, true, false, List, [], ◌∷◌, ℤ, ◌<ℤ◌, int_lt, if◌then◌else◌, filter, cond, Some, None, Option, refl}
use Rattle.std.specs.Ordering.{int_eq}
use Rattle.std.proofs.Common.{inl, inr, arith, subst}
use Rattle.std.proofs.lemmas.Int.{ints}
use Rattle.ep_base.specs.declared.names.Name.{Name}
use Rattle.ep_tree.specs.declared.syntax.SetOp.{SetOp}
use Rattle.ep_tree.specs.declared.values.Mode.{Mode}
use Rattle.ep_tree.specs.Trees.{DomainTree, bool, int, ranges, named_domain, group_domain, set_domain, matrix_domain, Ranges, no_ranges, one_and, span_and}
use Rattle.ep_base.proofs.Ascending.{ascending_cons, ascending_head, ascending_tail, first_of, first_or_later}
use Rattle.ep_base.specs.Runs.{IsAscending}
use Rattle.std.specs.List.{Contains}
use Rattle.std.proofs.lemmas.List.Elements.{Contains-get_or}
use Rattle.ep_base.proofs.Small.{no_some, some_is}
use Rattle.ep_base.specs.Options.{map_both}
use Rattle.ep_tree.specs.Domains.{between, put_in, set_values, united}
use Rattle.ep_tree.specs.Environments.{Bound, Env, HasAscendingDomain, domain_bound, has_cells, has_domain, has_value}
use Rattle.ep_tree.specs.Evaluation.{domain_values, end_value, evaluate, number_in, range_values}

-- the numbers ascend, each greater than the one before, from a number on
abbrev Above : ℤ → List ℤ → Type 0
Above low [] = Unit {0}
Above low (x ∷ xs) = (low <ℤ x) × Above x xs

-- the numbers ascend, each greater than the one before
abbrev Rises : List ℤ → Type 0
Rises [] = Unit {0}
Rises (x ∷ xs) = Above x xs

-- what ascends from a number on ascends from a lesser one on
Above-less : (a b : ℤ) (xs : List ℤ) → a <ℤ b → Above b xs → Above a xs
Above-less a b [] h k = tt
Above-less a b (x ∷ xs) h k = (transitive a b x h k.0, k.1)
  where
    transitive : (a b c : ℤ) → a <ℤ b → b <ℤ c → a <ℤ c
    transitive a b c h k = omega (arith, ints)

put_in-Above : (low x : ℤ) (ys : List ℤ) → low <ℤ x → Above low ys → Above low (put_in x ys)
unfolding put_in
put_in-Above low x [] h k = (h, tt)
put_in-Above low x (z ∷ zs) h k = go (int_lt x z) (int_eq x z) refl refl (λ z_below. put_in-Above z x zs z_below k.1)
  where
    go : (lt eq : Bool) → int_lt x z ≡ lt → int_eq x z ≡ eq → (z <ℤ x → Above z (put_in x zs))
        → Above low (if lt then x ∷ z ∷ zs else (if eq then z ∷ zs else z ∷ put_in x zs))
    go true eq p q ih = (h, (grind (arith, ints), k.1))
    go false true p q ih = k
    go false false p q ih = (k.0, ih (grind (arith, ints)))

put_in-ascends : (x : ℤ) (ys : List ℤ) → Rises ys → Rises (put_in x ys)
unfolding put_in
put_in-ascends x [] k = tt
put_in-ascends x (z ∷ zs) k = go (int_lt x z) (int_eq x z) refl refl
  where
    go : (lt eq : Bool) → int_lt x z ≡ lt → int_eq x z ≡ eq
        → Rises (if lt then x ∷ z ∷ zs else (if eq then z ∷ zs else z ∷ put_in x zs))
    go true eq p q = (grind (arith, ints), k)
    go false true p q = k
    go false false p q = put_in-Above z x zs (grind (arith, ints)) k

united-ascends : (xs ys : List ℤ) → Rises ys → Rises (united xs ys)
unfolding united
united-ascends [] ys k = k
united-ascends (x ∷ xs) ys k = put_in-ascends x (united xs ys) (united-ascends xs ys k)

filter-Above : (f : ℤ → Bool) (low : ℤ) (xs : List ℤ) → Above low xs → Above low (filter f xs)
filter-Above f low [] k = tt
filter-Above f low (x ∷ xs) k = go (f x) (filter-Above f x xs k.1) (filter-Above f low xs (Above-less low x xs k.0 k.1))
  where
    go : (passes : Bool) → Above x (filter f xs) → Above low (filter f xs) → Above low (cond passes (x ∷ filter f xs) (filter f xs))
    go true kept left = (k.0, kept)
    go false kept left = left

from_Above : (low : ℤ) (ys : List ℤ) → Above low ys → Rises ys
from_Above low [] h = tt
from_Above low (y ∷ ys) h = h.1

filter-ascends : (f : ℤ → Bool) (xs : List ℤ) → Rises xs → Rises (filter f xs)
filter-ascends f [] k = tt
filter-ascends f (x ∷ xs) k = go (f x) (filter-Above f x xs k)
  where
    go : (passes : Bool) → Above x (filter f xs) → Rises (cond passes (x ∷ filter f xs) (filter f xs))
    go true h = h
    go false h = from_Above x (filter f xs) h

set_values-ascends : (op : SetOp) (xs ys : List ℤ) → Rises xs → Rises ys → Rises (set_values op xs ys)
unfolding set_values
set_values-ascends SetOp.Union xs ys h k = united-ascends xs ys k
set_values-ascends SetOp.Intersect xs ys h k = filter-ascends _ xs h
set_values-ascends SetOp.Minus xs ys h k = filter-ascends _ xs h

range_values-ascends : (mode : Mode) (env : Env) (rs : Ranges) (values : List ℤ) → range_values mode env rs ≡ Some values → Rises values
unfolding range_values map_both
range_values-ascends mode env no_ranges values e = subst Rises (some_is e) tt
range_values-ascends mode env (one_and first rs) values e =
    go (number_in (evaluate mode env first)) (range_values mode env rs) (range_values-ascends mode env rs) refl e
  where
    go : (n : Option ℤ) (ns : Option (List ℤ)) → ((vs : List ℤ) → range_values mode env rs ≡ Some vs → Rises vs)
        → range_values mode env rs ≡ ns → map_both put_in n ns ≡ Some values → Rises values
    go None ns ih p e = no_some e
    go (Some n) None ih p e = no_some e
    go (Some n) (Some ns) ih p e = subst Rises (some_is e) (put_in-ascends n ns (ih ns p))
range_values-ascends mode env (span_and a b rs) values e =
    go (end_value mode env a) (end_value mode env b) (range_values mode env rs) (range_values-ascends mode env rs) refl e
  where
    go : (u v : Option ℤ) (ns : Option (List ℤ)) → ((vs : List ℤ) → range_values mode env rs ≡ Some vs → Rises vs)
        → range_values mode env rs ≡ ns → map_both united (map_both between u v) ns ≡ Some values → Rises values
    go None v ns ih p e = no_some e
    go (Some u) None ns ih p e = no_some e
    go (Some u) (Some v) None ih p e = no_some e
    go (Some u) (Some v) (Some ns) ih p e = subst Rises (some_is e) (united-ascends (between u v) ns (ih ns p))

-- what ascends step by step ascends

below_all : (low : ℤ) (xs : List ℤ) → Above low xs → (v : ℤ) → Contains xs v → low <ℤ v
below_all low [] h v c = absurd (omega (arith, c.1))
below_all low (x ∷ xs) h v c =
    elim (first_or_later x v xs c) as (λ _. low <ℤ v) [
      | inl e ↦ subst (λ w. low <ℤ w) e h.0
      | inr w ↦ let above = below_all x xs h.1 v w in omega (arith, ints, h.0, above)
    ]

rising_ascends : (xs : List ℤ) → Rises xs → IsAscending xs
rising_ascends [] h = λ i j d lt inside. absurd (omega (arith, inside))
rising_ascends (x ∷ xs) h =
    ascending_cons x xs (λ k d lt. below_all x xs h _ (Contains-get_or xs k d lt)) (rising_ascends xs (from_Above x xs h))

ascends_above : (low : ℤ) (xs : List ℤ) → ((v : ℤ) → Contains xs v → low <ℤ v) → IsAscending xs → Above low xs
ascends_above low [] h up = tt
ascends_above low (x ∷ xs) h up = (h x (first_of x xs), ascends_above x xs (λ v c. ascending_head x v xs up c) (ascending_tail x xs up))

ascending_rises : (xs : List ℤ) → IsAscending xs → Rises xs
ascending_rises [] up = tt
ascending_rises (x ∷ xs) up = ascends_above x xs (λ v c. ascending_head x v xs up c) (ascending_tail x xs up)

named-ascends : (bound : Option Bound) (values : List ℤ) → HasAscendingDomain bound → domain_bound bound ≡ Some values → Rises values
unfolding HasAscendingDomain domain_bound
named-ascends None values k e = no_some e
named-ascends (Some (has_value t v)) values k e = no_some e
named-ascends (Some (has_cells s is vs)) values k e = no_some e
named-ascends (Some (has_domain s [] vs)) values k e = subst Rises (some_is e) (ascending_rises vs k)
named-ascends (Some (has_domain s (i ∷ is) vs)) values k e = no_some e

domain_values-rise : (mode : Mode) (env : Env) → ((name : Name) → HasAscendingDomain (env name))
    → (d : DomainTree) (values : List ℤ) → domain_values mode env d ≡ Some values → Rises values
unfolding domain_values map_both
domain_values-rise mode env k (bool p) values e = subst Rises (some_is e) (omega (arith, ints), tt)
domain_values-rise mode env k (int p) values e = no_some e
domain_values-rise mode env k (ranges p rs) values e = range_values-ascends mode env rs values e
domain_values-rise mode env k (named_domain p name) values e = named-ascends (env name) values (k name) e
domain_values-rise mode env k (group_domain p d) values e = domain_values-rise mode env k d values e
domain_values-rise mode env k (set_domain p op c d) values e =
    go (domain_values mode env c) (domain_values mode env d) (domain_values-rise mode env k c) (domain_values-rise mode env k d) refl refl e
  where
    go : (xs ys : Option (List ℤ)) → ((vs : List ℤ) → domain_values mode env c ≡ Some vs → Rises vs)
        → ((vs : List ℤ) → domain_values mode env d ≡ Some vs → Rises vs)
        → domain_values mode env c ≡ xs → domain_values mode env d ≡ ys
        → map_both (set_values op) xs ys ≡ Some values → Rises values
    go None ys one other p q e = no_some e
    go (Some xs) None one other p q e = no_some e
    go (Some xs) (Some ys) one other p q e = subst Rises (some_is e) (set_values-ascends op xs ys (one xs p) (other ys q))
domain_values-rise mode env k (matrix_domain p ds d) values e = no_some e

pub domain_values-ascend : (mode : Mode) (env : Env) → ((name : Name) → HasAscendingDomain (env name))
    → (d : DomainTree) (values : List ℤ) → domain_values mode env d ≡ Some values → IsAscending values
domain_values-ascend mode env k d values e = rising_ascends values (domain_values-rise mode env k d values e)
