-- Lists of parts that a loop copies.
use Rattle.std.proofs.Common.{◌≡◌, ℕ, ◌+◌, ◌<◌, ◌≤◌, List, [], ◌∷◌, ◌++◌, length, take, get_or, refl, sym, ap, ◌∙◌}
use Rattle.std.specs.Prelude.{Option, None, Some, map, option_map}
use Rattle.std.proofs.lemmas.List.{map-append, take_all, take_more}
use Rattle.ep_tree.specs.Trees.{End, ExprTree, Indices, domain_and, end_at, every_and, generator_and, index_and, no_domains, no_end, no_generators, no_indices, no_ranges, no_terms, no_trees, term_and, tree_and}
use Rattle.ep_tree.specs.Views.{domain_tree, domains_of, end_of, expr_tree, expr_trees, generators_of, indices_of, ranges_of, terms_of, with_range}
use Rattle.ep_tree.specs.declared.syntax.Expr.{Expr}
use Rattle.ep_copies.specs.Copied.{generator_view, index_view, term_view}

-- one element more on either side
pub map_more : {A B : Type 0} (f : A → B) (xs ys : List A) (x d : A) (i : ℕ) → i < length ys → map f xs ≡ map f (take i ys) → f x ≡ f (get_or ys i d)
    → map f (xs ++ x ∷ []) ≡ map f (take (i + 1) ys)
map_more f xs ys x d i within before same =
    map-append f xs (x ∷ []) ∙ ap (λ l. l ++ f x ∷ []) before ∙ ap (λ y. map f (take i ys) ++ y ∷ []) same
    ∙ sym (ap (map f) (take_more ys i d within) ∙ map-append f (take i ys) (get_or ys i d ∷ []))

-- What is gathered of a list sees its elements by a view alone.
pub record Gathers {A V B : Type 0} (gather : List A → B) (view : A → V) : Type 0 where
  pub nothing : B
  pub step : V → B → B
  pub empty : gather [] ≡ nothing
  pub more : (x : A) (xs : List A) → gather (x ∷ xs) ≡ step (view x) (gather xs)

gathered_from : {V B : Type 0} → B → (V → B → B) → List V → B
gathered_from nothing step [] = nothing
gathered_from nothing step (x ∷ xs) = step x (gathered_from nothing step xs)

gathered : {A V B : Type 0} (gather : List A → B) (view : A → V) (g : Gathers gather view) (xs : List A)
    → gather xs ≡ gathered_from g.nothing g.step (map view xs)
unfolding gathered_from
gathered gather view g [] = g.empty
gathered gather view g (x ∷ xs) = g.more x xs ∙ ap (g.step (view x)) (gathered gather view g xs)

-- Lists whose elements have the same views gather the same; the second is seen up to its end.
pub gathers_same : {A V B : Type 0} (gather : List A → B) (view : A → V) (g : Gathers gather view) (xs ys : List A) (i : ℕ)
    → length ys ≤ i → map view xs ≡ map view (take i ys) → gather xs ≡ gather ys
gathers_same gather view g xs ys i all same =
    gathered gather view g xs ∙ ap (gathered_from g.nothing g.step) (same ∙ ap (map view) (take_all i ys all)) ∙ sym (gathered gather view g ys)

pub parts_gather : Gathers expr_trees expr_tree
unfolding expr_trees
parts_gather = record { nothing = no_trees; step = tree_and; empty = refl; more = λ x xs. refl }

pub terms_gather : Gathers terms_of term_view
unfolding terms_of
terms_gather = record { nothing = no_terms; step = λ t rest. term_and t.0 t.1 rest; empty = refl; more = λ x xs. refl }

index_step : Option ExprTree → Indices → Indices
index_step None rest = every_and rest
index_step (Some e) rest = index_and e rest

indices_more : (x : Option Expr) (xs : List (Option Expr)) → indices_of (x ∷ xs) ≡ index_step (index_view x) (indices_of xs)
unfolding indices_of index_step
indices_more None xs = refl
indices_more (Some e) xs = refl

pub indices_gather : Gathers indices_of index_view
unfolding indices_of
indices_gather = record { nothing = no_indices; step = index_step; empty = refl; more = indices_more }

pub generators_gather : Gathers generators_of generator_view
unfolding generators_of
generators_gather = record { nothing = no_generators; step = λ g rest. generator_and g.0 g.1 rest; empty = refl; more = λ x xs. refl }

pub domains_gather : Gathers domains_of domain_tree
unfolding domains_of
domains_gather = record { nothing = no_domains; step = domain_and; empty = refl; more = λ x xs. refl }

pub ranges_gather : Gathers ranges_of with_range
unfolding ranges_of
ranges_gather = record { nothing = no_ranges; step = λ r rest. r rest; empty = refl; more = λ x xs. refl }

pub pair_same : {A B : Type 0} (a c : A) (b d : B) → a ≡ c → b ≡ d → ◌≡◌ {A = A × B} (a, b) (c, d)
pair_same a c b d one other = ap (λ x. (x, b)) one ∙ ap (λ y. (c, y)) other

end_from : Option ExprTree → End
end_from None = no_end
end_from (Some e) = end_at e

end_seen : (e : Option Expr) → end_of e ≡ end_from (option_map expr_tree e)
unfolding end_of end_from
end_seen None = refl
end_seen (Some e) = refl

pub end_same : (a b : Option Expr) → option_map expr_tree a ≡ option_map expr_tree b → end_of a ≡ end_of b
end_same a b same = end_seen a ∙ ap end_from same ∙ sym (end_seen b)
