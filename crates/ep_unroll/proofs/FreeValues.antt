-- What no decision variable stands in has one value, whether decision variables have cells or values.
use Rattle.ep_unroll.proofs.Words.{◌≡◌, ℕ, Bool, true, false, not, ◌&&◌, ◌||◌, List, [], ◌∷◌, ◌++◌, flat_map, is_some, map, length, ℤ, neg_ℤ, if◌then◌else◌, Some, None, bytes_eq, Option, unwrap_or, option_map, option_and_then, refl, ap, subst, sym, ◌∙◌, fun_ext, append-nil, list_any, absolute_of, compare_holds, factorial_of, has_number, lex_holds, are_different, counts_hold, is_row_of, sum_of, map_both, on_both, on_three, CompareOp, Name, and_one, and_other, not_true, domain_type_is_kept, type_is_kept, are_free, are_free_domains, are_free_generators, are_free_indices, are_free_ranges, are_free_terms, is_free, is_free_domain, is_free_end, is_free_index, Agree, AgreeOn, between, put_in, set_values, united, Bound, Env, domain_bound, has_cells, has_domain, has_value, scalar_in, value_bound, with_number, all_hold, all_joined, all_true, any_true, are_told, binary_value, domain_values, domains_defined, end_value, evaluate, folded_value, holding, index_list, index_values, matrix_value, number_in, number_value, over_names, quantified_value, range_values, reached, read_result, rows_in, scalars_in, signed, standing_for, term_values, truth_in, truth_of, type_in, values_of, decisions_in, generator_names, hiding, is_decision, DomainTree, End, ExprTree, ExprTrees, Generators, IndexDomain, Indices, Ranges, Terms, absolute, all_different, at_least, at_most, binary, bool, chain, compare, comprehension, end_at, every_and, factorial, flatten, folded, gcc, generator_and, group, group_domain, in_domain, in_set, index_and, int, lex, literal, matrix_domain, minus, named, named_domain, negation, no_end, no_generators, no_indices, no_ranges, no_terms, no_trees, number, one_and, over, quantified, ranges, read, set_domain, span_and, table, term_and, to_int, tree_and, unstated, of_scalar, scalar_of, type_from, ValueTree, any_index, at_index, list_value, read_value, single, all_defined, with_indices, Mode, Scalar, ValueType}
use Rattle.ep_tree.specs.Trees.{all_of, any_of, truth}

-- `a && b && c` groups to the left
first_of_three : (a b c : Bool) → ((a && b) && c) ≡ true → a ≡ true
first_of_three true b c h = refl
first_of_three false b c h = absurd cc

second_of_three : (a b c : Bool) → ((a && b) && c) ≡ true → b ≡ true
second_of_three true true c h = refl
second_of_three true false c h = absurd cc
second_of_three false b c h = absurd cc

third_of_three : (a b c : Bool) → ((a && b) && c) ≡ true → c ≡ true
third_of_three true true c h = h
third_of_three true false c h = absurd cc
third_of_three false b c h = absurd cc

-- a domain's name stands for the same numbers
domain_agreed : (one other : Option Bound) → AgreeOn one other → domain_bound one ≡ domain_bound other
unfolding domain_bound
domain_agreed None other h = ap domain_bound h
domain_agreed (Some (has_value t v)) other h = ap domain_bound h
domain_agreed (Some (has_cells s is vs)) other h = sym (ap domain_bound h.1)
domain_agreed (Some (has_domain s is vs)) other h = ap domain_bound h

-- two environments agree, and say the same of the names that a test doesn't tell
pub record Like (f : Name → Bool) (env other : Env) : Type 0 where
  pub agree : Agree env other
  pub same : (x : Name) → f x ≡ false → env x ≡ other x

pub agreed_put : (env other : Env) (name : Name) (s : Scalar) (k : ℤ) → Agree env other → Agree (with_number name s k env) (with_number name s k other)
unfolding with_number
agreed_put env other name s k h x = go (bytes_eq x name)
  where
    go : (b : Bool) → AgreeOn (if b then Some (has_value (of_scalar s) (single k)) else env x) (if b then Some (has_value (of_scalar s) (single k)) else other x)
    go true = refl
    go false = h x

like_put : (f : Name → Bool) (env other : Env) (name : Name) (s : Scalar) (k : ℤ) → Like f env other → Like f (with_number name s k env) (with_number name s k other)
unfolding with_number
like_put f env other name s k h = record {
  agree = agreed_put env other name s k h.agree;
  same = λ x told. ap (λ o. if bytes_eq x name then Some (has_value (of_scalar s) (single k)) else o) (h.same x told);
}

-- of the names that are hidden, those are the same that don't wait
abbrev Covered : (Name → Bool) → List Name → Env → Env → Type 0
Covered g rest env other = (x : Name) → g x ≡ false → list_any (bytes_eq x) rest ≡ false → env x ≡ other x

covered_put : (g : Name → Bool) (rest : List Name) (env other : Env) (name : Name) (s : Scalar) (k : ℤ)
    → Covered g (name ∷ rest) env other → Covered g rest (with_number name s k env) (with_number name s k other)
unfolding with_number
covered_put g rest env other name s k h x told behind = go (bytes_eq x name) refl
  where
    go : (b : Bool) → bytes_eq x name ≡ b
        → (if b then Some (has_value (of_scalar s) (single k)) else env x) ≡ (if b then Some (has_value (of_scalar s) (single k)) else other x)
    go true e = refl
    go false e = h x told (ap (λ b. b || list_any (bytes_eq x) rest) e ∙ behind)

pub scalar_kept : (env other : Env) (d : DomainTree) → Agree env other → scalar_in env d ≡ scalar_in other d
unfolding scalar_in
scalar_kept env other d h = ap (λ j. unwrap_or (option_map scalar_of (type_from j)) Scalar.Int) (domain_type_is_kept env other h d)

pub type_kept : (env other : Env) (e : ExprTree) → Agree env other → type_in env e ≡ type_in other e
unfolding type_in
type_kept env other e h = ap (λ j. unwrap_or (type_from j) ValueType.Int) (type_is_kept env other h e)

two : {A B C : Type 0} (f : A → B → C) {a a' : A} {b b' : B} → a ≡ a' → b ≡ b' → f a b ≡ f a' b'
two f {a} {a'} {b} {b'} p q = ap (λ x. f x b) p ∙ ap (f a') q

three : {A B C D : Type 0} (f : A → B → C → D) {a a' : A} {b b' : B} {c c' : C} → a ≡ a' → b ≡ b' → c ≡ c' → f a b c ≡ f a' b' c'
three f {a} {a'} {b} {b'} {c} {c'} p q r = ap (λ x. f x b c) p ∙ ap (λ x. f a' x c) q ∙ ap (f a' b') r

-- two lists are as long, and a relation holds of the elements at each place
abbrev Zipped : {A : Type 0} → (A → A → Type 0) → List A → List A → Type 0
Zipped Q [] [] = Unit {0}
Zipped Q [] (y ∷ ys) = ⊥
Zipped Q (x ∷ xs) [] = ⊥
Zipped Q (x ∷ xs) (y ∷ ys) = Q x y × Zipped Q xs ys

abbrev MaybeZipped : {A : Type 0} → (A → A → Type 0) → Option (List A) → Option (List A) → Type 0
MaybeZipped Q None None = Unit {0}
MaybeZipped Q None (Some ys) = ⊥
MaybeZipped Q (Some xs) None = ⊥
MaybeZipped Q (Some xs) (Some ys) = Zipped Q xs ys

each_zipped : {A : Type 0} (Q : A → A → Type 0) (w : Env → A) (make make' : ℤ → Env) → ((k : ℤ) → Q (w (make k)) (w (make' k))) → (ks : List ℤ) → Zipped Q (map w (map make ks)) (map w (map make' ks))
each_zipped Q w make make' h [] = tt
each_zipped Q w make make' h (k ∷ ks) = (h k, each_zipped Q w make make' h ks)

some_zipped : {A : Type 0} (Q : A → A → Type 0) (w : Env → A) (make make' : ℤ → Env) → ((k : ℤ) → Q (w (make k)) (w (make' k))) → (o : Option (List ℤ))
    → MaybeZipped Q (option_map (map w) (option_map (map make) o)) (option_map (map w) (option_map (map make') o))
some_zipped Q w make make' h None = tt
some_zipped Q w make make' h (Some ks) = each_zipped Q w make make' h ks

-- What names over a domain give, where the domain is the same: a relation that joining keeps. Behind them other names wait.
names_related : {A : Type 0} (Q : A → A → Type 0) (f g : Name → Bool) (behind : List Name) (d : DomainTree) (numbers : Env → Option (List ℤ)) (join : Option (List A) → A) (inner : Env → A)
    → ((o o' : Option (List A)) → MaybeZipped Q o o' → Q (join o) (join o'))
    → ((e o : Env) → Like f e o → numbers e ≡ numbers o) → ((e o : Env) → Like f e o → Covered g behind e o → Q (inner e) (inner o))
    → (rest : List Name) (env other : Env) → Like f env other → Covered g (rest ++ behind) env other
    → Q (over_names (standing_for d numbers) join inner rest env) (over_names (standing_for d numbers) join inner rest other)
unfolding over_names standing_for
names_related Q f g behind d numbers join inner joined dom body [] env other h covered = body env other h covered
names_related Q f g behind d numbers join inner joined dom body (name ∷ rest) env other h covered =
    joined
    (option_map (map (over_names (standing_for d numbers) join inner rest)) (option_map (map (λ k. with_number name (scalar_in env d) k env)) (numbers env)))
    (option_map (map (over_names (standing_for d numbers) join inner rest)) (option_map (map (λ k. with_number name (scalar_in other d) k other)) (numbers other)))
    (subst (λ o. MaybeZipped Q (option_map (map (over_names (standing_for d numbers) join inner rest)) (option_map (map (λ k. with_number name (scalar_in env d) k env)) o))
    (option_map (map (over_names (standing_for d numbers) join inner rest)) (option_map (map (λ k. with_number name (scalar_in other d) k other)) (numbers other)))) (sym (dom env other h))
    (subst (λ s. MaybeZipped Q (option_map (map (over_names (standing_for d numbers) join inner rest)) (option_map (map (λ k. with_number name (scalar_in env d) k env)) (numbers other)))
    (option_map (map (over_names (standing_for d numbers) join inner rest)) (option_map (map (λ k. with_number name s k other)) (numbers other)))) (scalar_kept env other d h.agree)
    (some_zipped Q (over_names (standing_for d numbers) join inner rest) (λ k. with_number name (scalar_in env d) k env) (λ k. with_number name (scalar_in env d) k other)
    (λ k. names_related Q f g behind d numbers join inner joined dom body rest (with_number name (scalar_in env d) k env) (with_number name (scalar_in env d) k other)
    (like_put f env other name (scalar_in env d) k h) (covered_put g (rest ++ behind) env other name (scalar_in env d) k covered)) (numbers other))))

zipped_same : {A : Type 0} (xs ys : List A) → Zipped (λ x y. x ≡ y) xs ys → xs ≡ ys
zipped_same [] [] h = refl
zipped_same [] (y ∷ ys) h = absurd h
zipped_same (x ∷ xs) [] h = absurd h
zipped_same (x ∷ xs) (y ∷ ys) h = two (λ z zs. z ∷ zs) h.0 (zipped_same xs ys h.1)

maybe_same : {A : Type 0} (join : Option (List A) → A) (o o' : Option (List A)) → MaybeZipped (λ x y. x ≡ y) o o' → join o ≡ join o'
maybe_same join None None h = refl
maybe_same join None (Some ys) h = absurd h
maybe_same join (Some xs) None h = absurd h
maybe_same join (Some xs) (Some ys) h = ap (λ zs. join (Some zs)) (zipped_same xs ys h)

-- what is left of names, and none behind them
covered_whole : (g : Name → Bool) (names : List Name) (env other : Env) → Covered g names env other → Covered g (names ++ []) env other
covered_whole g names env other h x told behind = h x told (ap (list_any (bytes_eq x)) (sym (append-nil names)) ∙ behind)

-- what names over a domain give, where the domain and what they give are the same
names_same : {A : Type 0} (f g : Name → Bool) (d : DomainTree) (numbers : Env → Option (List ℤ)) (join : Option (List A) → A) (inner : Env → A)
    → ((e o : Env) → Like f e o → numbers e ≡ numbers o) → ((e o : Env) → Like g e o → inner e ≡ inner o)
    → (rest : List Name) (env other : Env) → Like f env other → Covered g rest env other
    → over_names (standing_for d numbers) join inner rest env ≡ over_names (standing_for d numbers) join inner rest other
names_same f g d numbers join inner dom body rest env other h covered =
    names_related (λ x y. x ≡ y) f g [] d numbers join inner (maybe_same join) dom
    (λ e o like seen. body e o (record { agree = like.agree; same = λ x told. seen x told refl })) rest env other h (covered_whole g rest env other covered)

-- ---- environments that generators reach

zipped_joined : (Q : Env → Env → Type 0) (xs ys zs ws : List Env) → Zipped Q xs ys → Zipped Q zs ws → Zipped Q (xs ++ zs) (ys ++ ws)
zipped_joined Q [] [] zs ws h k = k
zipped_joined Q [] (y ∷ ys) zs ws h k = absurd h
zipped_joined Q (x ∷ xs) [] zs ws h k = absurd h
zipped_joined Q (x ∷ xs) (y ∷ ys) zs ws h k = (h.0, zipped_joined Q xs ys zs ws h.1 k)

lists_joined : (Q : Env → Env → Type 0) (xss yss : List (List Env)) → Zipped (Zipped Q) xss yss → Zipped Q (flat_map (λ xs. xs) xss) (flat_map (λ xs. xs) yss)
lists_joined Q [] [] h = tt
lists_joined Q [] (ys ∷ yss) h = absurd h
lists_joined Q (xs ∷ xss) [] h = absurd h
lists_joined Q (xs ∷ xss) (ys ∷ yss) h =
    zipped_joined Q xs ys (flat_map (λ zs. zs) xss) (flat_map (λ zs. zs) yss) h.0 (lists_joined Q xss yss h.1)

all_zipped : (Q : Env → Env → Type 0) (o o' : Option (List (List Env))) → MaybeZipped (Zipped Q) o o' → Zipped Q (all_joined o) (all_joined o')
unfolding all_joined
all_zipped Q None None h = tt
all_zipped Q None (Some ys) h = absurd h
all_zipped Q (Some xs) None h = absurd h
all_zipped Q (Some xs) (Some ys) h = lists_joined Q xs ys h

told_same : (Q : Env → Env → Type 0) (conditions : Env → List (Option ValueTree)) → ((e o : Env) → Q e o → conditions e ≡ conditions o) → (es os : List Env) → Zipped Q es os
    → are_told conditions es ≡ are_told conditions os
unfolding are_told
told_same Q conditions h [] [] z = refl
told_same Q conditions h [] (o ∷ os) z = absurd z
told_same Q conditions h (e ∷ es) [] z = absurd z
told_same Q conditions h (e ∷ es) (o ∷ os) z =
    two (λ a b. a && b) (ap (λ vs. is_some (all_true vs)) (h e o z.0)) (told_same Q conditions h es os z.1)

kept_or_not : {A : Type 0} (w : Env → A) (a b : Bool) (e o : Env) (es os : List Env) → a ≡ b → w e ≡ w o → map w es ≡ map w os
    → map w (if a then e ∷ es else es) ≡ map w (if b then o ∷ os else os)
kept_or_not w true true e o es os same one rest = two (λ y ys. y ∷ ys) one rest
kept_or_not w true false e o es os same one rest = absurd cc
kept_or_not w false true e o es os same one rest = absurd cc
kept_or_not w false false e o es os same one rest = rest

held_values : {A : Type 0} (Q : Env → Env → Type 0) (conditions : Env → List (Option ValueTree)) (w : Env → A) → ((e o : Env) → Q e o → conditions e ≡ conditions o) → ((e o : Env) → Q e o → w e ≡ w o)
    → (es os : List Env) → Zipped Q es os → map w (holding conditions es) ≡ map w (holding conditions os)
unfolding holding
held_values Q conditions w h v [] [] z = refl
held_values Q conditions w h v [] (o ∷ os) z = absurd z
held_values Q conditions w h v (e ∷ es) [] z = absurd z
held_values Q conditions w h v (e ∷ es) (o ∷ os) z =
    kept_or_not w (unwrap_or (all_true (conditions e)) false) (unwrap_or (all_true (conditions o)) false) e o _ _ (ap (λ vs. unwrap_or (all_true vs) false) (h e o z.0)) (v e o z.0)
    (held_values Q conditions w h v es os z.1)

hidden_covered : (f : Name → Bool) (names : List Name) (env other : Env) → Like f env other → Covered (hiding names f) names env other
unfolding hiding
hidden_covered f names env other h x told behind = h.same x (go (list_any (bytes_eq x) names) (f x) told behind)
  where
    go : (a b : Bool) → (not a && b) ≡ false → a ≡ false → b ≡ false
    go true b p q = absurd cc
    go false b p q = p

mutual
  unfolding matrix_value evaluate reached domains_defined generator_names are_free_generators domain_values values_of term_values index_list range_values end_value index_values is_free is_free_domain are_free are_free_terms are_free_indices are_free_ranges is_free_end are_free_domains is_free_index

  -- an expression has one value
  pub free_value : (mode : Mode) (f : Name → Bool) (env other : Env) → Like f env other → (e : ExprTree) → is_free f e ≡ true → evaluate mode env e ≡ evaluate mode other e
  free_value mode f env other h (number p n) k = refl
  free_value mode f env other h (truth p b) k = refl
  free_value mode f env other h (named p name) k = ap value_bound (h.same name (not_true (f name) k))
  free_value mode f env other h (group p e) k = free_value mode f env other h e k
  free_value mode f env other h (negation p e) k = ap (λ v. truth_in mode (option_map not (truth_of v))) (free_value mode f env other h e k)
  free_value mode f env other h (minus p e) k = ap (λ v. number_value (option_map neg_ℤ (number_in v))) (free_value mode f env other h e k)
  free_value mode f env other h (absolute p e) k = ap (λ v. number_value (option_map absolute_of (number_in v))) (free_value mode f env other h e k)
  free_value mode f env other h (to_int p e) k = free_value mode f env other h e k
  free_value mode f env other h (factorial p e) k = ap (λ v. number_value (option_and_then factorial_of (number_in v))) (free_value mode f env other h e k)
  free_value mode f env other h (flatten p e) k = ap (λ v. option_map list_value (scalars_in v)) (free_value mode f env other h e k)
  free_value mode f env other h (chain p terms) k = ap (λ vs. number_value (option_map sum_of (all_defined vs))) (free_terms mode f env other h terms k)
  free_value mode f env other h (binary p op a b) k =
      two (λ v w. binary_value mode op (number_in v) (number_in w))
      (free_value mode f env other h a (and_one (is_free f a) (is_free f b) k)) (free_value mode f env other h b (and_other (is_free f a) (is_free f b) k))
  free_value mode f env other h (compare p op a b) k =
      two (λ v w. truth_in mode (map_both (compare_holds op) (number_in v) (number_in w)))
      (free_value mode f env other h a (and_one (is_free f a) (is_free f b) k)) (free_value mode f env other h b (and_other (is_free f a) (is_free f b) k))
  free_value mode f env other h (lex p op a b) k =
      two (λ v w. truth_in mode (map_both (lex_holds op) (scalars_in v) (scalars_in w)))
      (free_value mode f env other h a (and_one (is_free f a) (is_free f b) k)) (free_value mode f env other h b (and_other (is_free f a) (is_free f b) k))
  free_value mode f env other h (in_set p a b) k =
      two (λ v w. truth_in mode (map_both has_number (scalars_in w) (number_in v)))
      (free_value mode f env other h a (and_one (is_free f a) (is_free f b) k)) (free_value mode f env other h b (and_other (is_free f a) (is_free f b) k))
  free_value mode f env other h (table p a b) k =
      two (λ v w. truth_in mode (on_both (rows_in w) (scalars_in v) is_row_of))
      (free_value mode f env other h a (and_one (is_free f a) (is_free f b) k)) (free_value mode f env other h b (and_other (is_free f a) (is_free f b) k))
  free_value mode f env other h (in_domain p e d) k =
      two (λ ns v. truth_in mode (map_both has_number ns (number_in v)))
      (free_numbers mode f env other h d (and_other (is_free f e) (is_free_domain f d) k)) (free_value mode f env other h e (and_one (is_free f e) (is_free_domain f d) k))
  free_value mode f env other h (all_of p parts) k = ap (λ vs. truth_in mode (all_true vs)) (free_values mode f env other h parts k)
  free_value mode f env other h (any_of p parts) k = ap (λ vs. truth_in mode (any_true vs)) (free_values mode f env other h parts k)
  free_value mode f env other h (quantified p op names d e) k =
      names_same f (hiding names f) d (λ inner. domain_values mode inner d) (quantified_value mode op) (λ inner. evaluate mode inner e)
      (λ x y l. free_numbers mode f x y l d (and_one (is_free_domain f d) (is_free (hiding names f) e) k))
      (λ x y l. free_value mode (hiding names f) x y l e (and_other (is_free_domain f d) (is_free (hiding names f) e) k))
      names env other h (hidden_covered f names env other h)
  free_value mode f env other h (literal p parts d) k =
      ap (λ vs. matrix_value (index_values mode env d) vs) (free_values mode f env other h parts (and_one (are_free f parts) (is_free_index f d) k))
      ∙ ap (λ o. on_both o (all_defined (values_of mode other parts)) with_indices)
      (free_index mode f env other h d (and_other (are_free f parts) (is_free_index f d) k) (length (values_of mode other parts)))
  free_value mode f env other h (comprehension p e gens conditions d) k =
      let g : Name → Bool = hiding (generator_names gens) f in
      let front : (are_free_generators f gens && are_free g conditions) ≡ true = and_one (are_free_generators f gens && are_free g conditions) (is_free g e && is_free_index f d) k in
      let back : (is_free g e && is_free_index f d) ≡ true = and_other (are_free_generators f gens && are_free g conditions) (is_free g e && is_free_index f d) k in
      let gens_free : are_free_generators f gens ≡ true = and_one (are_free_generators f gens) (are_free g conditions) front in
      let zipped : Zipped (Like g) (reached mode env gens) (reached mode other gens) =
      free_reached mode f g env other h gens (hidden_covered f (generator_names gens) env other h) gens_free in
      let told : (x y : Env) → Like g x y → values_of mode x conditions ≡ values_of mode y conditions =
      λ x y l. free_values mode g x y l conditions (and_other (are_free_generators f gens) (are_free g conditions) front) in
      three (λ b (ns : ℕ → Option (List ℤ)) vs. if b then on_both (ns (length vs)) (all_defined vs) with_indices else None)
      (two (λ a b. a && b) (free_defined mode f env other h gens gens_free)
      (told_same (Like g) (λ inner. values_of mode inner conditions) told (reached mode env gens) (reached mode other gens) zipped))
      (fun_ext (λ count. free_index mode f env other h d (and_other (is_free g e) (is_free_index f d) back) count))
      (held_values (Like g) (λ inner. values_of mode inner conditions) (λ inner. evaluate mode inner e) told
      (λ x y l. free_value mode g x y l e (and_one (is_free g e) (is_free_index f d) back)) (reached mode env gens) (reached mode other gens) zipped)
  free_value mode f env other h (read p m indices) k =
      three (λ t is v. read_result mode t (on_both is v read_value)) (type_kept env other (read p m indices) h.agree)
      (free_list mode f env other h indices (and_other (is_free f m) (are_free_indices f indices) k))
      (free_value mode f env other h m (and_one (is_free f m) (are_free_indices f indices) k))
  free_value mode f env other h (folded p op m) k = ap (λ v. folded_value mode op (scalars_in v)) (free_value mode f env other h m k)
  free_value mode f env other h (all_different p m) k = ap (λ v. truth_in mode (option_map are_different (scalars_in v))) (free_value mode f env other h m k)
  free_value mode f env other h (gcc p a b c) k =
      three (λ u v w. truth_in mode (on_three (scalars_in u) (scalars_in v) (scalars_in w) (counts_hold CompareOp.Equal)))
      (free_value mode f env other h a (first_of_three (is_free f a) (is_free f b) (is_free f c) k))
      (free_value mode f env other h b (second_of_three (is_free f a) (is_free f b) (is_free f c) k))
      (free_value mode f env other h c (third_of_three (is_free f a) (is_free f b) (is_free f c) k))
  free_value mode f env other h (at_least p a b c) k =
      three (λ u v w. truth_in mode (on_three (scalars_in u) (scalars_in w) (scalars_in v) (counts_hold CompareOp.AtLeast)))
      (free_value mode f env other h a (first_of_three (is_free f a) (is_free f b) (is_free f c) k))
      (free_value mode f env other h b (second_of_three (is_free f a) (is_free f b) (is_free f c) k))
      (free_value mode f env other h c (third_of_three (is_free f a) (is_free f b) (is_free f c) k))
  free_value mode f env other h (at_most p a b c) k =
      three (λ u v w. truth_in mode (on_three (scalars_in u) (scalars_in w) (scalars_in v) (counts_hold CompareOp.AtMost)))
      (free_value mode f env other h a (first_of_three (is_free f a) (is_free f b) (is_free f c) k))
      (free_value mode f env other h b (second_of_three (is_free f a) (is_free f b) (is_free f c) k))
      (free_value mode f env other h c (third_of_three (is_free f a) (is_free f b) (is_free f c) k))

  -- a domain has one list of numbers
  pub free_numbers : (mode : Mode) (f : Name → Bool) (env other : Env) → Like f env other → (d : DomainTree) → is_free_domain f d ≡ true → domain_values mode env d ≡ domain_values mode other d
  free_numbers mode f env other h (bool p) k = refl
  free_numbers mode f env other h (int p) k = refl
  free_numbers mode f env other h (ranges p rs) k = free_ranges mode f env other h rs k
  free_numbers mode f env other h (named_domain p name) k = domain_agreed (env name) (other name) (h.agree name)
  free_numbers mode f env other h (group_domain p d) k = free_numbers mode f env other h d k
  free_numbers mode f env other h (set_domain p op c d) k =
      two (λ a b. map_both (set_values op) a b) (free_numbers mode f env other h c (and_one (is_free_domain f c) (is_free_domain f d) k))
      (free_numbers mode f env other h d (and_other (is_free_domain f c) (is_free_domain f d) k))
  free_numbers mode f env other h (matrix_domain p ds d) k = refl

  free_values : (mode : Mode) (f : Name → Bool) (env other : Env) → Like f env other → (es : ExprTrees) → are_free f es ≡ true → values_of mode env es ≡ values_of mode other es
  free_values mode f env other h no_trees k = refl
  free_values mode f env other h (tree_and e es) k =
      two (λ v vs. v ∷ vs) (free_value mode f env other h e (and_one (is_free f e) (are_free f es) k)) (free_values mode f env other h es (and_other (is_free f e) (are_free f es) k))

  free_terms : (mode : Mode) (f : Name → Bool) (env other : Env) → Like f env other → (ts : Terms) → are_free_terms f ts ≡ true → term_values mode env ts ≡ term_values mode other ts
  free_terms mode f env other h no_terms k = refl
  free_terms mode f env other h (term_and plus e ts) k =
      two (λ v vs. option_map (signed plus) (number_in v) ∷ vs)
      (free_value mode f env other h e (and_one (is_free f e) (are_free_terms f ts) k)) (free_terms mode f env other h ts (and_other (is_free f e) (are_free_terms f ts) k))

  free_list : (mode : Mode) (f : Name → Bool) (env other : Env) → Like f env other → (is : Indices) → are_free_indices f is ≡ true → index_list mode env is ≡ index_list mode other is
  free_list mode f env other h no_indices k = refl
  free_list mode f env other h (every_and is) k = ap (option_map (λ js. any_index ∷ js)) (free_list mode f env other h is k)
  free_list mode f env other h (index_and e is) k =
      two (λ v js. map_both (λ i ks. at_index i ∷ ks) (number_in v) js)
      (free_value mode f env other h e (and_one (is_free f e) (are_free_indices f is) k)) (free_list mode f env other h is (and_other (is_free f e) (are_free_indices f is) k))

  free_ranges : (mode : Mode) (f : Name → Bool) (env other : Env) → Like f env other → (rs : Ranges) → are_free_ranges f rs ≡ true → range_values mode env rs ≡ range_values mode other rs
  free_ranges mode f env other h no_ranges k = refl
  free_ranges mode f env other h (one_and e rs) k =
      two (λ v ns. map_both put_in (number_in v) ns) (free_value mode f env other h e (and_one (is_free f e) (are_free_ranges f rs) k))
      (free_ranges mode f env other h rs (and_other (is_free f e) (are_free_ranges f rs) k))
  free_ranges mode f env other h (span_and a b rs) k =
      three (λ x y ns. map_both united (map_both between x y) ns)
      (free_end mode f env other h a (first_of_three (is_free_end f a) (is_free_end f b) (are_free_ranges f rs) k))
      (free_end mode f env other h b (second_of_three (is_free_end f a) (is_free_end f b) (are_free_ranges f rs) k))
      (free_ranges mode f env other h rs (third_of_three (is_free_end f a) (is_free_end f b) (are_free_ranges f rs) k))

  free_end : (mode : Mode) (f : Name → Bool) (env other : Env) → Like f env other → (x : End) → is_free_end f x ≡ true → end_value mode env x ≡ end_value mode other x
  free_end mode f env other h no_end k = refl
  free_end mode f env other h (end_at e) k = ap number_in (free_value mode f env other h e k)

  free_reached : (mode : Mode) (f g : Name → Bool) (env other : Env) → Like f env other → (gens : Generators) → Covered g (generator_names gens) env other → are_free_generators f gens ≡ true
      → Zipped (Like g) (reached mode env gens) (reached mode other gens)
  free_reached mode f g env other h no_generators covered k = (record { agree = h.agree; same = λ x told. covered x told refl }, tt)
  free_reached mode f g env other h (generator_and names d gens) covered k =
      names_related (Zipped (Like g)) f g (generator_names gens) d (λ inner. domain_values mode inner d) all_joined (λ inner. reached mode inner gens) (all_zipped (Like g))
      (λ x y l. free_numbers mode f x y l d (and_one (is_free_domain f d) (are_free_generators f gens) k))
      (λ x y l seen. free_reached mode f g x y l gens seen (and_other (is_free_domain f d) (are_free_generators f gens) k)) names env other h covered

  free_defined : (mode : Mode) (f : Name → Bool) (env other : Env) → Like f env other → (gens : Generators) → are_free_generators f gens ≡ true
      → domains_defined mode env gens ≡ domains_defined mode other gens
  free_defined mode f env other h no_generators k = refl
  free_defined mode f env other h (generator_and names d gens) k =
      names_related (λ x y. x ≡ y) f (λ x. true) [] d (λ inner. domain_values mode inner d) all_hold (λ inner. domains_defined mode inner gens) (maybe_same all_hold)
      (λ x y l. free_numbers mode f x y l d (and_one (is_free_domain f d) (are_free_generators f gens) k))
      (λ x y l seen. free_defined mode f x y l gens (and_other (is_free_domain f d) (are_free_generators f gens) k)) names env other h (λ x told. absurd cc)

  free_index : (mode : Mode) (f : Name → Bool) (env other : Env) → Like f env other → (d : IndexDomain) → is_free_index f d ≡ true → (count : ℕ) → index_values mode env d count ≡ index_values mode other d count
  free_index mode f env other h unstated k count = refl
  free_index mode f env other h (over d) k count = free_numbers mode f env other h d k

-- ---- what is known of environments that agree

undecided_same : (one other : Option Bound) → AgreeOn one other → is_decision one ≡ false → one ≡ other
unfolding is_decision
undecided_same None other h k = h
undecided_same (Some (has_value t v)) other h k = h
undecided_same (Some (has_cells s is vs)) other h k = absurd cc
undecided_same (Some (has_domain s is vs)) other h k = h

pub agreed_like : (env other : Env) → Agree env other → Like (decisions_in env) env other
agreed_like env other h = record { agree = h; same = λ x told. undecided_same (env x) (other x) (h x) told }
