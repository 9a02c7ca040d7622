-- Where decision variables stand in some parts, one after another.
use Rattle.ep_size.proofs.Words.{◌≡◌, ℕ, ◌+◌, ◌<◌, ◌≤◌, Bool, true, false, ◌&&◌, ◌||◌, List, [], ◌∷◌, length, drop, get_or, refl, sym, ap, ◌∙◌, Option, Some, None, ℤ, ◌++◌, is_some, list_any, at_drop_all, at_drop_more, or_assoc, or-false, and-true, Name, generator_names, is_decision, index_holds_decision, one_holds_decision, term_holds_decision, domain_tree, domains_of, expr_tree, expr_trees, generators_of, indices_of, ranges_of, terms_of, with_range, Domain, Range, One', Span', Bound, has_cells, has_domain, has_value, Expr, Generator, Scalar, only_cells, alone, are_free, are_free_domains, are_free_generators, are_free_indices, are_free_ranges, are_free_terms, is_free_domain, both, standing_of, standing_of_all, standing_of_indices, standing_of_terms, Standing}

pub and_again : (a b c : Bool) → ((a && b) && c) ≡ (a && (b && c))
and_again true b c = refl
and_again false b c = refl

abbrev free_one : Standing
free_one = record { decided = false; free = true }

pub both_again : (a b c : Standing) → both (both a b) c ≡ both a (both b c)
both_again a b c =
    let s : Bool = (a.free && b.free) && c.free in
    let d : Bool = a.decided || (b.decided || c.decided) in
    ap (λ x. record { decided = x; free = s }) (or_assoc a.decided b.decided c.decided)
    ∙ ap (λ x. record { decided = d; free = x }) (and_again a.free b.free c.free)

pub both_none : (a : Standing) → both a free_one ≡ a
both_none a =
    ap (λ x. record { decided = x; free = a.free && true }) (or-false a.decided) ∙ ap (λ x. record { decided = a.decided; free = x }) (and-true a.free)

-- one part more
pub goes_on : (before one after rest whole next : Standing) → next ≡ both before one → rest ≡ both one after → both before rest ≡ whole → both next after ≡ whole
goes_on before one after rest whole next is cut h =
    ap (λ s. both s after) is ∙ both_again before one after ∙ ap (both before) (sym cut) ∙ h

pub parts_more : (f : Name → Bool) (xs : List Expr) (k : ℕ) (x d : Expr) → k < length xs → x ≡ get_or xs k d
    → standing_of_all f (expr_trees (drop k xs)) ≡ both (standing_of f (expr_tree x)) (standing_of_all f (expr_trees (drop (k + 1) xs)))
unfolding expr_trees one_holds_decision are_free
parts_more f xs k x d h same =
    at_drop_more (λ ys. standing_of_all f (expr_trees ys)) xs k d h
    ∙ ap (λ y. both (standing_of f (expr_tree y)) (standing_of_all f (expr_trees (drop (k + 1) xs)))) (sym same)

pub parts_all : (f : Name → Bool) (xs : List Expr) (k : ℕ) (s : Standing) → length xs ≤ k → both s (standing_of_all f (expr_trees (drop k xs))) ≡ s
unfolding expr_trees one_holds_decision are_free
parts_all f xs k s h = ap (both s) (at_drop_all (λ ys. standing_of_all f (expr_trees ys)) xs k h) ∙ both_none s

pub terms_more : (f : Name → Bool) (xs : List (Bool × Expr)) (k : ℕ) (x d : Bool × Expr) → k < length xs → x ≡ get_or xs k d
    → standing_of_terms f (terms_of (drop k xs)) ≡ both (standing_of f (expr_tree x.1)) (standing_of_terms f (terms_of (drop (k + 1) xs)))
unfolding terms_of term_holds_decision are_free_terms
terms_more f xs k x d h same =
    at_drop_more (λ ys. standing_of_terms f (terms_of ys)) xs k d h
    ∙ ap (λ y. both (standing_of f (expr_tree y.1)) (standing_of_terms f (terms_of (drop (k + 1) xs)))) (sym same)

pub terms_all : (f : Name → Bool) (xs : List (Bool × Expr)) (k : ℕ) (s : Standing) → length xs ≤ k → both s (standing_of_terms f (terms_of (drop k xs))) ≡ s
unfolding terms_of term_holds_decision are_free_terms
terms_all f xs k s h = ap (both s) (at_drop_all (λ ys. standing_of_terms f (terms_of ys)) xs k h) ∙ both_none s

pub indices_whole : (f : Name → Bool) (xs : List (Option Expr)) (k : ℕ) (d : Option Expr) (before whole : Standing) → k < length xs → None ≡ get_or xs k d
    → both before (standing_of_indices f (indices_of (drop k xs))) ≡ whole → both before (standing_of_indices f (indices_of (drop (k + 1) xs))) ≡ whole
unfolding indices_of index_holds_decision are_free_indices
indices_whole f xs k d before whole h same w =
    ap (both before) (sym (at_drop_more (λ ys. standing_of_indices f (indices_of ys)) xs k d h
    ∙ ap (λ y. standing_of_indices f (indices_of (y ∷ drop (k + 1) xs))) (sym same))) ∙ w

pub indices_more : (f : Name → Bool) (xs : List (Option Expr)) (k : ℕ) (e : Expr) (d : Option Expr) → k < length xs → Some e ≡ get_or xs k d
    → standing_of_indices f (indices_of (drop k xs)) ≡ both (standing_of f (expr_tree e)) (standing_of_indices f (indices_of (drop (k + 1) xs)))
unfolding indices_of index_holds_decision are_free_indices
indices_more f xs k e d h same =
    at_drop_more (λ ys. standing_of_indices f (indices_of ys)) xs k d h
    ∙ ap (λ y. standing_of_indices f (indices_of (y ∷ drop (k + 1) xs))) (sym same)

pub indices_all : (f : Name → Bool) (xs : List (Option Expr)) (k : ℕ) (s : Standing) → length xs ≤ k → both s (standing_of_indices f (indices_of (drop k xs))) ≡ s
unfolding indices_of index_holds_decision are_free_indices
indices_all f xs k s h = ap (both s) (at_drop_all (λ ys. standing_of_indices f (indices_of ys)) xs k h) ∙ both_none s

-- what is said by its two facts
pub same_standing : (s : Standing) (d f : Bool) → s.decided ≡ d → s.free ≡ f → s ≡ record { decided = d; free = f }
same_standing s d f p q = ap (λ x. record { decided = x; free = s.free }) p ∙ ap (λ x. record { decided = d; free = x }) q

-- ---- names

any_append : (f : Name → Bool) (xs ys : List Name) → list_any f (xs ++ ys) ≡ (list_any f xs || list_any f ys)
any_append f [] ys = refl
any_append f (x ∷ xs) ys = ap (λ b. f x || b) (any_append f xs ys) ∙ sym (or_assoc (f x) (list_any f xs) (list_any f ys))

pub names_more : (f : Name → Bool) (xs : List Name) (k : ℕ) (x d : Name) → k < length xs → x ≡ get_or xs k d
    → list_any f (drop k xs) ≡ (f x || list_any f (drop (k + 1) xs))
names_more f xs k x d h same = at_drop_more (list_any f) xs k d h ∙ ap (λ y. f y || list_any f (drop (k + 1) xs)) (sym same)

pub names_all : (f : Name → Bool) (xs : List Name) (k : ℕ) → length xs ≤ k → list_any f (drop k xs) ≡ false
names_all f xs k h = at_drop_all (list_any f) xs k h

pub generated_more : (f : Name → Bool) (xs : List Generator) (k : ℕ) (x d : Generator) → k < length xs → x ≡ get_or xs k d
    → list_any f (generator_names (generators_of (drop k xs))) ≡ (list_any f x.names.items || list_any f (generator_names (generators_of (drop (k + 1) xs))))
unfolding generators_of generator_names
generated_more f xs k x d h same =
    at_drop_more (λ ys. list_any f (generator_names (generators_of ys))) xs k d h
    ∙ ap (λ y. list_any f (generator_names (generators_of (y ∷ drop (k + 1) xs)))) (sym same)
    ∙ any_append f x.names.items (generator_names (generators_of (drop (k + 1) xs)))

pub generated_all : (f : Name → Bool) (xs : List Generator) (k : ℕ) → length xs ≤ k → list_any f (generator_names (generators_of (drop k xs))) ≡ false
unfolding generators_of generator_names
generated_all f xs k h = at_drop_all (λ ys. list_any f (generator_names (generators_of ys))) xs k h

-- a name stands for a decision variable where it has cells
pub cells_decided : (b : Option Bound) → is_decision b ≡ is_some (only_cells b)
unfolding is_decision only_cells
cells_decided None = refl
cells_decided (Some (has_value t v)) = refl
cells_decided (Some (has_cells s is vs)) = refl
cells_decided (Some (has_domain s is vs)) = refl

-- what has cells is what its cells say
pub only_cells_is : (b : Option Bound) (s : Scalar) (is : List (List ℤ)) (values : List ℤ) → only_cells b ≡ Some (has_cells s is values) → b ≡ Some (has_cells s is values)
unfolding only_cells
only_cells_is None s is values h = absurd cc
only_cells_is (Some (has_value t v)) s is values h = absurd cc
only_cells_is (Some (has_cells t js vs)) s is values h = h
only_cells_is (Some (has_domain t js vs)) s is values h = absurd cc

-- ---- domains

pub and_more : (before one after rest whole next : Bool) → next ≡ (before && one) → rest ≡ (one && after) → (before && rest) ≡ whole → (next && after) ≡ whole
and_more before one after rest whole next is cut h =
    ap (λ b. b && after) is ∙ and_again before one after ∙ ap (λ b. before && b) (sym cut) ∙ h

ranges_cut : (f : Name → Bool) (x : Range) (xs : List Range) → are_free_ranges f (ranges_of (x ∷ xs)) ≡ (are_free_ranges f (alone x) && are_free_ranges f (ranges_of xs))
unfolding ranges_of with_range are_free_ranges
ranges_cut f (One' q e) xs = ap (λ b. b && are_free_ranges f (ranges_of xs)) (sym (and-true _))
ranges_cut f (Span' low high) xs = ap (λ b. b && are_free_ranges f (ranges_of xs)) (sym (and-true _))

pub ranges_more : (f : Name → Bool) (xs : List Range) (k : ℕ) (x d : Range) (own : Bool) → k < length xs → x ≡ get_or xs k d → own ≡ are_free_ranges f (alone x)
    → are_free_ranges f (ranges_of (drop k xs)) ≡ (own && are_free_ranges f (ranges_of (drop (k + 1) xs)))
ranges_more f xs k x d own h same is =
    at_drop_more (λ ys. are_free_ranges f (ranges_of ys)) xs k d h
    ∙ ap (λ y. are_free_ranges f (ranges_of (y ∷ drop (k + 1) xs))) (sym same)
    ∙ ranges_cut f x (drop (k + 1) xs) ∙ ap (λ b. b && are_free_ranges f (ranges_of (drop (k + 1) xs))) (sym is)

pub ranges_all : (f : Name → Bool) (xs : List Range) (k : ℕ) (b : Bool) → length xs ≤ k → (b && are_free_ranges f (ranges_of (drop k xs))) ≡ b
unfolding ranges_of are_free_ranges
ranges_all f xs k b h = ap (λ c. b && c) (at_drop_all (λ ys. are_free_ranges f (ranges_of ys)) xs k h) ∙ and-true b

pub domains_more : (f : Name → Bool) (xs : List Domain) (k : ℕ) (x d : Domain) (own : Bool) → k < length xs → x ≡ get_or xs k d → own ≡ is_free_domain f (domain_tree x)
    → are_free_domains f (domains_of (drop k xs)) ≡ (own && are_free_domains f (domains_of (drop (k + 1) xs)))
unfolding domains_of are_free_domains
domains_more f xs k x d own h same is =
    at_drop_more (λ ys. are_free_domains f (domains_of ys)) xs k d h
    ∙ ap (λ y. is_free_domain f (domain_tree y) && are_free_domains f (domains_of (drop (k + 1) xs))) (sym same)
    ∙ ap (λ b. b && are_free_domains f (domains_of (drop (k + 1) xs))) (sym is)

pub domains_all : (f : Name → Bool) (xs : List Domain) (k : ℕ) (b : Bool) → length xs ≤ k → (b && are_free_domains f (domains_of (drop k xs))) ≡ b
unfolding domains_of are_free_domains
domains_all f xs k b h = ap (λ c. b && c) (at_drop_all (λ ys. are_free_domains f (domains_of ys)) xs k h) ∙ and-true b

pub generators_more : (f : Name → Bool) (xs : List Generator) (k : ℕ) (x d : Generator) (own : Bool) → k < length xs → x ≡ get_or xs k d → own ≡ is_free_domain f (domain_tree x.domain)
    → are_free_generators f (generators_of (drop k xs)) ≡ (own && are_free_generators f (generators_of (drop (k + 1) xs)))
unfolding generators_of are_free_generators
generators_more f xs k x d own h same is =
    at_drop_more (λ ys. are_free_generators f (generators_of ys)) xs k d h
    ∙ ap (λ y. is_free_domain f (domain_tree y.domain) && are_free_generators f (generators_of (drop (k + 1) xs))) (sym same)
    ∙ ap (λ b. b && are_free_generators f (generators_of (drop (k + 1) xs))) (sym is)

pub generators_all : (f : Name → Bool) (xs : List Generator) (k : ℕ) (b : Bool) → length xs ≤ k → (b && are_free_generators f (generators_of (drop k xs))) ≡ b
unfolding generators_of are_free_generators
generators_all f xs k b h = ap (λ c. b && c) (at_drop_all (λ ys. are_free_generators f (generators_of ys)) xs k h) ∙ and-true b
