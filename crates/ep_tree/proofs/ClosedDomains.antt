-- A domain that isn't open passes exactly the numbers that it has, so that fitting and listing speak of the same domain.
use Rattle.std.specs.Prelude.{◌≡◌, Bool, ◌||◌, ◌&&◌, List, [], ◌∷◌, ℤ, Option, Some, None, option_map, int_le, refl}
use Rattle.std.specs.Ordering.{int_eq}
use Rattle.std.proofs.Common.{ap, sym, ◌∙◌}
pub use Rattle.ep_base.proofs.Small.{no_some, some_is}
use Rattle.ep_base.specs.Numbers.{has_number}
use Rattle.ep_base.specs.Options.{map_both, on_both, on_three}
use Rattle.ep_tree.specs.declared.syntax.SetOp.{SetOp}
use Rattle.ep_tree.specs.declared.values.Mode.{Mode}
use Rattle.ep_tree.specs.Trees.{DomainTree, bool, int, ranges, named_domain, group_domain, set_domain, matrix_domain, Ranges, no_ranges, one_and, span_and, no_end, end_at}
use Rattle.ep_tree.specs.Domains.{between, put_in, set_has, set_values, united}
use Rattle.ep_tree.specs.Environments.{Bound, Env, domain_bound, has_cells, has_domain, has_value}
use Rattle.ep_tree.specs.Evaluation.{domain_values, end_value, evaluate, number_in, range_values}
use Rattle.ep_tree.specs.Binding.{above_end, below_end, elements_pass, numbers_bound, ranges_pass}
use Rattle.ep_tree.proofs.DomainLaws.{between-has, put_in-has, set_values-has, united-has}

-- what a test that may be undefined answers
abbrev answer : ℤ → Option (ℤ → Bool) → Option Bool
answer x test = option_map (λ f. f x) test

-- a set operation of two answers
both_answer : (op : SetOp) (x : ℤ) (p q : Option (ℤ → Bool)) (a b : Bool) → answer x p ≡ Some a → answer x q ≡ Some b
    → answer x (on_both p q (λ f g. Some (λ y. set_has op (f y) (g y)))) ≡ Some (set_has op a b)
unfolding on_both
both_answer op x None q a b e h = no_some e
both_answer op x (Some f) None a b e h = no_some h
both_answer op x (Some f) (Some g) a b e h = ap (λ c. Some (set_has op c (g x))) (some_is e) ∙ ap (λ c. Some (set_has op a c)) (some_is h)

-- one number, and further ranges
one_answer : (x n : ℤ) (q : Option (ℤ → Bool)) (b : Bool) → answer x q ≡ Some b
    → answer x (on_both (Some n) q (λ m others. Some (λ y. int_eq y m || others y))) ≡ Some (int_eq x n || b)
unfolding on_both
one_answer x n None b h = no_some h
one_answer x n (Some g) b h = ap (λ c. Some (int_eq x n || c)) (some_is h)

-- the numbers between two ends, and further ranges
span_answer : (x u v : ℤ) (q : Option (ℤ → Bool)) (b : Bool) → answer x q ≡ Some b
    → answer x (on_three {A = ℤ → Bool} {B = ℤ → Bool} (Some (λ y. int_le u y)) (Some (λ y. int_le y v)) q (λ above below others. Some (λ y. (above y && below y) || others y)))
    ≡ Some ((int_le u x && int_le x v) || b)
unfolding on_three on_both
span_answer x u v None b h = no_some h
span_answer x u v (Some g) b h = ap (λ c. Some ((int_le u x && int_le x v) || c)) (some_is h)

pub ranges_pass-values : (mode : Mode) (env : Env) (x : ℤ) (rs : Ranges) (values : List ℤ) → range_values mode env rs ≡ Some values
    → answer x (ranges_pass mode env rs) ≡ Some (has_number values x)
unfolding ranges_pass range_values has_number map_both on_both on_three above_end below_end end_value
ranges_pass-values mode env x no_ranges values e = ap (λ vs. Some (has_number vs x)) (some_is e)
ranges_pass-values mode env x (one_and first rs) values e =
    go (number_in (evaluate mode env first)) (range_values mode env rs) refl e (ranges_pass-values mode env x rs)
  where
    go : (n : Option ℤ) (ns : Option (List ℤ)) → range_values mode env rs ≡ ns → map_both put_in n ns ≡ Some values
        → ((vs : List ℤ) → range_values mode env rs ≡ Some vs → answer x (ranges_pass mode env rs) ≡ Some (has_number vs x))
        → answer x (on_both n (ranges_pass mode env rs) (λ m others. Some (λ y. int_eq y m || others y))) ≡ Some (has_number values x)
    go None ns p e ih = no_some e
    go (Some n) None p e ih = no_some e
    go (Some n) (Some ns) p e ih =
        one_answer x n (ranges_pass mode env rs) (has_number ns x) (ih ns p)
        ∙ ap Some (sym (put_in-has x n ns)) ∙ ap (λ vs. Some (has_number vs x)) (some_is e)
ranges_pass-values mode env x (span_and a no_end rs) values e = no_last (end_value mode env a) e
  where
    no_last : (u : Option ℤ) → map_both united (map_both between u None) (range_values mode env rs) ≡ Some values
        → answer x (ranges_pass mode env (span_and a no_end rs)) ≡ Some (has_number values x)
    no_last None e = no_some e
    no_last (Some u) e = no_some e
ranges_pass-values mode env x (span_and no_end (end_at b) rs) values e = no_some e
ranges_pass-values mode env x (span_and (end_at a) (end_at b) rs) values e =
    go (number_in (evaluate mode env a)) (number_in (evaluate mode env b)) (range_values mode env rs) refl e (ranges_pass-values mode env x rs)
  where
    go : (u v : Option ℤ) (ns : Option (List ℤ)) → range_values mode env rs ≡ ns
        → map_both united (map_both between u v) ns ≡ Some values
        → ((vs : List ℤ) → range_values mode env rs ≡ Some vs → answer x (ranges_pass mode env rs) ≡ Some (has_number vs x))
        → answer x (on_three {A = ℤ → Bool} {B = ℤ → Bool} (option_map (λ n y. int_le n y) u) (option_map (λ n y. int_le y n) v) (ranges_pass mode env rs)
        (λ above below others. Some (λ y. (above y && below y) || others y))) ≡ Some (has_number values x)
    go None v ns p e ih = no_some e
    go (Some u) None ns p e ih = no_some e
    go (Some u) (Some v) None p e ih = no_some e
    go (Some u) (Some v) (Some ns) p e ih =
        span_answer x u v (ranges_pass mode env rs) (has_number ns x) (ih ns p)
        ∙ ap (λ b. Some (b || has_number ns x)) (sym (between-has x u v))
        ∙ ap Some (sym (united-has x (between u v) ns)) ∙ ap (λ vs. Some (has_number vs x)) (some_is e)

-- a domain's name
named_passes : (x : ℤ) (bound : Option Bound) (values : List ℤ) → domain_bound bound ≡ Some values
    → answer x (option_map has_number (numbers_bound bound)) ≡ Some (has_number values x)
unfolding domain_bound numbers_bound
named_passes x None values e = no_some e
named_passes x (Some (has_value t v)) values e = no_some e
named_passes x (Some (has_cells s is vs)) values e = no_some e
named_passes x (Some (has_domain s [] vs)) values e = ap (λ ws. Some (has_number ws x)) (some_is e)
named_passes x (Some (has_domain s (i ∷ is) vs)) values e = no_some e

pub elements_pass-values : (mode : Mode) (env : Env) (x : ℤ) (d : DomainTree) (values : List ℤ) → domain_values mode env d ≡ Some values
    → answer x (elements_pass mode env d) ≡ Some (has_number values x)
unfolding elements_pass domain_values map_both on_both
elements_pass-values mode env x (bool p) values e = ap (λ vs. Some (has_number vs x)) (some_is e)
elements_pass-values mode env x (int p) values e = no_some e
elements_pass-values mode env x (ranges p rs) values e = ranges_pass-values mode env x rs values e
elements_pass-values mode env x (named_domain p name) values e = named_passes x (env name) values e
elements_pass-values mode env x (group_domain p d) values e = elements_pass-values mode env x d values e
elements_pass-values mode env x (set_domain p op c d) values e =
    go (domain_values mode env c) (domain_values mode env d) refl refl e (elements_pass-values mode env x c) (elements_pass-values mode env x d)
  where
    go : (xs ys : Option (List ℤ)) → domain_values mode env c ≡ xs → domain_values mode env d ≡ ys
        → map_both (set_values op) xs ys ≡ Some values
        → ((vs : List ℤ) → domain_values mode env c ≡ Some vs → answer x (elements_pass mode env c) ≡ Some (has_number vs x))
        → ((vs : List ℤ) → domain_values mode env d ≡ Some vs → answer x (elements_pass mode env d) ≡ Some (has_number vs x))
        → answer x (on_both (elements_pass mode env c) (elements_pass mode env d) (λ f g. Some (λ y. set_has op (f y) (g y)))) ≡ Some (has_number values x)
    go None ys p q e one other = no_some e
    go (Some xs) None p q e one other = no_some e
    go (Some xs) (Some ys) p q e one other =
        both_answer op x (elements_pass mode env c) (elements_pass mode env d) (has_number xs x) (has_number ys x) (one xs p) (other ys q)
        ∙ ap Some (sym (set_values-has op xs ys x)) ∙ ap (λ vs. Some (has_number vs x)) (some_is e)
elements_pass-values mode env x (matrix_domain p ds d) values e = no_some e
