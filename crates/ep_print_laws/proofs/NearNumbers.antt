-- The numbers of a domain are within the limit of reach, where its bounds pass no limit.
use Rattle.std.proofs.Common.{◌≡◌, ℕ, zero, suc, Bool, true, false, not, List, [], ◌∷◌, ◌++◌, ℤ, pos, negsuc, ◌+ℤ◌, ◌-ℤ◌, ◌≤ℤ◌, Option, Some, None, refl, sym, ap, subst, ◌∙◌, arith}
use Rattle.std.specs.Prelude.{filter, flat_map, if◌then◌else◌, int_lt, option_to_list}
use Rattle.std.specs.List.{AllByRecursion, list_all, list_any}
use Rattle.std.specs.Ordering.{int_eq}
use Rattle.std.proofs.lemmas.Bool.{and_from, and_parts, or_parts}
use Rattle.std.proofs.lemmas.Grind.{flat_map-append}
use Rattle.std.proofs.lemmas.Int.{ints}
use Rattle.std.proofs.lemmas.List.Concat.{flat_map-cons}
use Rattle.std.proofs.lemmas.List.Folds.{list_any-append}
use Rattle.ep_base.proofs.Small.{no_some, some_is}
use Rattle.ep_base.specs.Numbers.{absolute_of}
use Rattle.ep_base.specs.Options.{map_both}
use Rattle.ep_base.specs.Runs.{IsAscending, counting, or_zero}
use Rattle.ep_base.specs.Reads.{MOST_NUMBER, is_too_far}
use Rattle.ep_base.specs.declared.names.Name.{Name}
use Rattle.ep_base.specs.declared.places.Place.{Place}
use Rattle.ep_tree.proofs.TypedParts.{map_both_is}
use Rattle.ep_tree.specs.Domains.{between, count_between, put_in, set_values, truth_values, united}
use Rattle.ep_tree.specs.Environments.{Bound, Env, HasAscendingDomain, domain_bound, has_cells, has_domain, has_value}
use Rattle.ep_tree.specs.Evaluation.{domain_values, end_value, evaluate, number_in, over_names, range_values}
use Rattle.ep_tree.specs.Limits.{numbers_at}
use Rattle.ep_tree.specs.Measures.{Met, met, met_domain, met_end, met_names, met_ranges}
use Rattle.ep_tree.specs.Trees.{DomainTree, End, ExprTree, Ranges, bool, end_at, folded, group_domain, int, matrix_domain, named_domain, no_end, no_ranges, one_and, quantified, ranges, set_domain, span_and}
use Rattle.ep_tree.specs.declared.syntax.FoldOp.{FoldOp}
use Rattle.ep_tree.specs.declared.syntax.QuantOp.{QuantOp}
use Rattle.ep_tree.specs.declared.syntax.SetOp.{SetOp}
use Rattle.ep_tree.specs.declared.values.Mode.{Mode}
use Rattle.ep_print_laws.specs.GivenBack.{is_near}
use Rattle.ep_print_laws.proofs.Standing.{AreNear, near_number}

-- ---- parts of what is met

pub near_parts : (mode : Mode) (ms ns : List Met) → AreNear mode (ms ++ ns) → AreNear mode ms × AreNear mode ns
near_parts mode ms ns h =
    or_parts _ _
    (sym (list_any-append is_too_far (flat_map (numbers_at mode) ms) (flat_map (numbers_at mode) ns))
    ∙ sym (ap (list_any is_too_far) (flat_map-append (numbers_at mode) ms ns)) ∙ h)

-- the numbers at the first node are within the limit of reach
abbrev NearHead : Mode → List Met → Type 0
NearHead mode [] = Unit {0}
NearHead mode (m ∷ ms) = list_any is_too_far (numbers_at mode m) ≡ false

near_head : (mode : Mode) (ms : List Met) → AreNear mode ms → NearHead mode ms
near_head mode [] h = tt
near_head mode (m ∷ ms) h =
    (or_parts _ _
    (sym (list_any-append is_too_far (numbers_at mode m) (flat_map (numbers_at mode) ms))
    ∙ sym (ap (list_any is_too_far) (flat_map-cons (numbers_at mode) m ms)) ∙ h)).0

-- ---- the number of an expression

own_alone : (o : Option ℤ) (n : ℤ) → list_any is_too_far (option_to_list o) ≡ false → o ≡ Some n → is_too_far n ≡ false
own_alone None n h e = no_some e
own_alone (Some m) n h e = subst (λ k. is_too_far k ≡ false) (some_is e) (or_parts _ _ h).0

own_behind : (o : Option ℤ) (n : ℤ) (others : List ℤ) → list_any is_too_far (option_to_list o ++ others) ≡ false → o ≡ Some n → is_too_far n ≡ false
own_behind o n others h e = own_alone o n (or_parts _ _ (sym (list_any-append is_too_far (option_to_list o) others) ∙ h)).0 e

no_names : (mode : Mode) (env : Env) (p : Place) (op : QuantOp) (d : DomainTree) (e : ExprTree) → evaluate mode env (quantified p op [] d e) ≡ evaluate mode env e
unfolding evaluate over_names
no_names mode env p op d e = refl

own_near : (mode : Mode) (env : Env) (e : ExprTree) (n : ℤ) → AreNear mode (met mode env e) → number_in (evaluate mode env e) ≡ Some n → is_too_far n ≡ false
unfolding met met_names numbers_at
own_near mode env (folded p FoldOp.Product m) n h k =
    own_behind (number_in (evaluate mode env (folded p FoldOp.Product m))) n _ (near_head mode (met mode env (folded p FoldOp.Product m)) h) k
own_near mode env (quantified p op [] d e) n h k = own_near mode env e n h (ap number_in (sym (no_names mode env p op d e)) ∙ k)
own_near mode env e n h k = own_alone (number_in (evaluate mode env e)) n (near_head mode (met mode env e) h) k

near_of : (n : ℤ) → is_too_far n ≡ false → is_near n ≡ true
unfolding is_near
near_of n h = ap not h

-- ---- lists of numbers

-- a number between two that are no farther than a limit is no farther
between_two : (m x n y : ℤ) → int_lt m (absolute_of x) ≡ false → int_lt m (absolute_of y) ≡ false → x ≤ℤ n → n ≤ℤ y → int_lt m (absolute_of n) ≡ false
unfolding absolute_of
between_two m (pos a) (pos b) (pos c) h k low high = grind (arith, ints)
between_two m (pos a) (pos b) (negsuc c) h k low high = absurd (omega (arith, ints, high))
between_two m (pos a) (negsuc b) y h k low high = absurd (omega (arith, ints, low))
between_two m (negsuc a) (pos b) (pos c) h k low high = grind (arith, ints)
between_two m (negsuc a) (pos b) (negsuc c) h k low high = absurd (omega (arith, ints, high))
between_two m (negsuc a) (negsuc b) y h k low high = grind (arith, ints)

one_between_near : (x n y : ℤ) → is_near x ≡ true → is_near y ≡ true → x ≤ℤ n → n ≤ℤ y → is_near n ≡ true
unfolding is_too_far
one_between_near x n y h k low high = near_of n (between_two MOST_NUMBER x n y (near_number x h) (near_number y k) low high)

counting_near : (k : ℕ) (first x y : ℤ) → is_near x ≡ true → is_near y ≡ true → x ≤ℤ first → (first +ℤ pos k) ≤ℤ (y +ℤ pos 1) → list_all is_near (counting first k) ≡ true
unfolding counting
counting_near zero first x y h j low high = refl
counting_near (suc k) first x y h j low high =
    and_from _ _ (one_between_near x first y h j low (omega (arith, ints, high)))
    (counting_near k (first +ℤ pos 1) x y h j (omega (arith, ints, low)) (omega (arith, ints, high)))

between_near : (x y : ℤ) → is_near x ≡ true → is_near y ≡ true → list_all is_near (between x y) ≡ true
unfolding between count_between counting
between_near x y h k = go ((y +ℤ pos 1) -ℤ x) refl
  where
    go : (z : ℤ) → (y +ℤ pos 1) -ℤ x ≡ z → list_all is_near (counting x (or_zero z)) ≡ true
    go (pos n) e = counting_near n x x y h k (omega (arith, ints)) (omega (arith, ints, e))
    go (negsuc n) e = refl

put_in_all : (p : ℤ → Bool) (x : ℤ) (ys : List ℤ) → p x ≡ true → list_all p ys ≡ true → list_all p (put_in x ys) ≡ true
unfolding put_in
put_in_all p x [] h k = and_from _ _ h refl
put_in_all p x (y ∷ ys) h k =
    let parts = and_parts (p y) (list_all p ys) k in
    go (int_lt x y) (int_eq x y) parts.0 parts.1 (put_in_all p x ys h parts.1)
  where
    go : (less same : Bool) → p y ≡ true → list_all p ys ≡ true → list_all p (put_in x ys) ≡ true → list_all p (if less then x ∷ y ∷ ys else (if same then y ∷ ys else y ∷ put_in x ys)) ≡ true
    go true same one others more = and_from _ _ h (and_from _ _ one others)
    go false true one others more = and_from _ _ one others
    go false false one others more = and_from _ _ one more

united_all : (p : ℤ → Bool) (xs ys : List ℤ) → list_all p xs ≡ true → list_all p ys ≡ true → list_all p (united xs ys) ≡ true
unfolding united
united_all p [] ys h k = k
united_all p (x ∷ xs) ys h k = let parts = and_parts (p x) (list_all p xs) h in put_in_all p x (united xs ys) parts.0 (united_all p xs ys parts.1 k)

filter_all : (p q : ℤ → Bool) (xs : List ℤ) → list_all p xs ≡ true → list_all p (filter q xs) ≡ true
filter_all p q [] h = refl
filter_all p q (x ∷ xs) h =
    let parts = and_parts (p x) (list_all p xs) h in go (q x) parts.0 (filter_all p q xs parts.1)
  where
    go : (b : Bool) → p x ≡ true → list_all p (filter q xs) ≡ true → list_all p (if b then x ∷ filter q xs else filter q xs) ≡ true
    go true one others = and_from _ _ one others
    go false one others = others

set_all : (p : ℤ → Bool) (op : SetOp) (xs ys : List ℤ) → list_all p xs ≡ true → list_all p ys ≡ true → list_all p (set_values op xs ys) ≡ true
unfolding set_values
set_all p SetOp.Union xs ys h k = united_all p xs ys h k
set_all p SetOp.Intersect xs ys h k = filter_all p _ xs h
set_all p SetOp.Minus xs ys h k = filter_all p _ xs h

-- ---- domains

-- a domain's name has near index domains that ascend, and near numbers that ascend
abbrev pub NearBound : Option Bound → Type 0
NearBound (Some (has_domain s indices values)) =
    AllByRecursion IsAscending indices × (list_all (list_all is_near) indices ≡ true) × IsAscending values × (list_all is_near values ≡ true)
NearBound (Some (has_value t v)) = Unit {0}
NearBound (Some (has_cells s indices values)) = Unit {0}
NearBound None = Unit {0}

-- each domain's name has near index domains and near numbers
abbrev pub NearEnv : Env → Type 0
NearEnv env = (name : Name) → NearBound (env name)

pub bound_ascends : (o : Option Bound) → NearBound o → HasAscendingDomain o
unfolding HasAscendingDomain
bound_ascends (Some (has_domain s indices values)) h = h.2
bound_ascends (Some (has_value t v)) h = tt
bound_ascends (Some (has_cells s indices values)) h = tt
bound_ascends None h = tt

bound_near : (o : Option Bound) (ns : List ℤ) → NearBound o → domain_bound o ≡ Some ns → list_all is_near ns ≡ true
unfolding domain_bound
bound_near (Some (has_domain s [] values)) ns h e = subst (λ xs. list_all is_near xs ≡ true) (some_is e) h.3
bound_near (Some (has_domain s (ix ∷ inner) values)) ns h e = no_some e
bound_near (Some (has_value t v)) ns h e = no_some e
bound_near (Some (has_cells s indices values)) ns h e = no_some e
bound_near None ns h e = no_some e

truths_near : list_all is_near truth_values ≡ true
unfolding is_near is_too_far absolute_of
truths_near = refl

number_near : (mode : Mode) (env : Env) (e : ExprTree) (n : ℤ) → AreNear mode (met mode env e) → number_in (evaluate mode env e) ≡ Some n → is_near n ≡ true
number_near mode env e n h k = near_of n (own_near mode env e n h k)

end_near : (mode : Mode) (env : Env) (end : End) (n : ℤ) → AreNear mode (met_end mode env end) → end_value mode env end ≡ Some n → is_near n ≡ true
unfolding met evaluate
end_near mode env no_end n h k = no_some k
end_near mode env (end_at e) n h k = number_near mode env e n h k

ranges_near : (mode : Mode) (env : Env) (rs : Ranges) (ns : List ℤ) → AreNear mode (met_ranges mode env rs) → range_values mode env rs ≡ Some ns → list_all is_near ns ≡ true
unfolding met evaluate
ranges_near mode env no_ranges ns h k = subst (λ xs. list_all is_near xs ≡ true) (some_is k) refl
ranges_near mode env (one_and e rs) ns h k =
    let parts = near_parts mode (met mode env e) (met_ranges mode env rs) h in
    let q = map_both_is put_in (number_in (evaluate mode env e)) (range_values mode env rs) ns k in
    subst (λ xs. list_all is_near xs ≡ true) q.4 (put_in_all is_near q.0 q.1 (number_near mode env e q.0 parts.0 q.2) (ranges_near mode env rs q.1 parts.1 q.3))
ranges_near mode env (span_and a b rs) ns h k =
    let parts = near_parts mode (met_end mode env a ++ met_end mode env b) (met_ranges mode env rs) h in
    let ends = near_parts mode (met_end mode env a) (met_end mode env b) parts.0 in
    let q = map_both_is united (map_both between (end_value mode env a) (end_value mode env b)) (range_values mode env rs) ns k in
    let r = map_both_is between (end_value mode env a) (end_value mode env b) q.0 q.2 in
    let run : list_all is_near q.0 ≡ true =
    subst (λ xs. list_all is_near xs ≡ true) r.4 (between_near r.0 r.1 (end_near mode env a r.0 ends.0 r.2) (end_near mode env b r.1 ends.1 r.3)) in
    subst (λ xs. list_all is_near xs ≡ true) q.4 (united_all is_near q.0 q.1 run (ranges_near mode env rs q.1 parts.1 q.3))

pub domain_near : (mode : Mode) (env : Env) → NearEnv env → (d : DomainTree) (ns : List ℤ) → AreNear mode (met_domain mode env d) → domain_values mode env d ≡ Some ns → list_all is_near ns ≡ true
unfolding met evaluate
domain_near mode env near (bool p) ns h k = subst (λ xs. list_all is_near xs ≡ true) (some_is k) truths_near
domain_near mode env near (int p) ns h k = no_some k
domain_near mode env near (ranges p rs) ns h k = ranges_near mode env rs ns h k
domain_near mode env near (named_domain p name) ns h k = bound_near (env name) ns (near name) k
domain_near mode env near (group_domain p d) ns h k = domain_near mode env near d ns h k
domain_near mode env near (set_domain p op c d) ns h k =
    let parts = near_parts mode (met_domain mode env c) (met_domain mode env d) h in
    let q = map_both_is (set_values op) (domain_values mode env c) (domain_values mode env d) ns k in
    subst (λ xs. list_all is_near xs ≡ true) q.4 (set_all is_near op q.0 q.1 (domain_near mode env near c q.0 parts.0 q.2) (domain_near mode env near d q.1 parts.1 q.3))
domain_near mode env near (matrix_domain p ds d) ns h k = no_some k
