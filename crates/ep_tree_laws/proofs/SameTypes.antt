-- A type doesn't depend on which names are decision variables.
use Rattle.std.specs.Prelude.{◌≡◌, ◌&&◌, List, [], ◌∷◌, ◌++◌, map, Bool, true, false, if◌then◌else◌, Some, None, bytes_eq, Option, option_map, refl}
use Rattle.std.proofs.Common.{ap, sym, ◌∙◌}
use Rattle.std.specs.List.{list_all}
use Rattle.ep_base.specs.declared.names.Name.{Name}
use Rattle.ep_tree.specs.Agreement.{Agree, AgreeOn}
use Rattle.ep_tree.specs.Environments.{Bound, Env, context_of, has_cells, has_domain, has_value, meaning_in}
use Rattle.ep_tree.specs.Names.{put}
use Rattle.ep_tree.specs.Trees.{DomainTree, Domains, End, ExprTree, ExprTrees, Generators, IndexDomain, Indices, Ranges, Terms, absolute, all_different, all_of, any_of, at_least, at_most, binary, bool, chain, compare, comprehension, domain_and, end_at, every_and, factorial, flatten, folded, gcc, generator_and, group, group_domain, in_domain, in_set, index_and, int, lex, literal, matrix_domain, minus, named, named_domain, negation, no_domains, no_end, no_generators, no_indices, no_ranges, no_terms, no_trees, number, one_and, over, quantified, ranges, read, set_domain, span_and, table, term_and, to_int, tree_and, truth, unstated}
use Rattle.ep_tree.specs.Types.{Context, Judged, Meaning, are_lists, binary_type, both_scalars, comprehension_type, folded_type, from_many, from_one, from_three, from_two, gives, has_dimensions, indexed_type, inside, inside_all, is_boolean, is_integer, is_matrix, judge, judge_all, judge_domain, judge_domains, judge_end, judge_generators, judge_index, judge_indices, judge_ranges, judge_terms, list_type, matrix_type, named_domain_type, named_type, of_scalar, quantified_name, quantified_type, read_type, reading_contexts, scalar_of, slice_count, typed}
use Rattle.ep_tree.specs.declared.values.ValueType.{ValueType}

-- two contexts give each name the same type
abbrev pub SameTypes : Context → Context → Type 0
SameTypes c c' = (name : Name) → (named_type (c name) ≡ named_type (c' name)) × (named_domain_type (c name) ≡ named_domain_type (c' name))

put_same : (c c' : Context) (name : Name) (m m' : Meaning) → SameTypes c c' → m ≡ m' → SameTypes (put name m c) (put name m' c')
put_same c c' name m m' h e other = go (bytes_eq other name)
  where
    go : (b : Bool) → (named_type (if b then Some m else c other) ≡ named_type (if b then Some m' else c' other))
        × (named_domain_type (if b then Some m else c other) ≡ named_domain_type (if b then Some m' else c' other))
    go true = (ap (λ x. named_type (Some x)) e, ap (λ x. named_domain_type (Some x)) e)
    go false = h other

two : {A B C : Type 0} (f : A → B → C) {a a' : A} {b b' : B} → a ≡ a' → b ≡ b' → f a b ≡ f a' b'
two f {a} {a'} {b} {b'} p q = ap (λ x. f x b) p ∙ ap (f a') q

three : {A B C D : Type 0} (f : A → B → C → D) {a a' : A} {b b' : B} {c c' : C} → a ≡ a' → b ≡ b' → c ≡ c' → f a b c ≡ f a' b' c'
three f {a} {a'} {b} {b'} {c} {c'} p q r = ap (λ x. f x b c) p ∙ ap (λ x. f a' x c) q ∙ ap (f a' b') r

four : {A B C D E : Type 0} (f : A → B → C → D → E) {a a' : A} {b b' : B} {c c' : C} {d d' : D} → a ≡ a' → b ≡ b' → c ≡ c' → d ≡ d' → f a b c d ≡ f a' b' c' d'
four f {a} {a'} {b} {b'} {c} {c'} {d} {d'} p q r t = ap (λ x. f x b c d) p ∙ ap (λ x. f a' x c d) q ∙ ap (λ x. f a' b' x d) r ∙ ap (f a' b' c') t

readings_same : (dom : Context → Judged) → ((c c' : Context) → SameTypes c c' → dom c ≡ dom c')
    → (names : List Name) (c c' : Context) → SameTypes c c'
    → (map dom (reading_contexts names dom c) ≡ map dom (reading_contexts names dom c')) × SameTypes (inside names dom c) (inside names dom c')
unfolding reading_contexts inside
readings_same dom each [] c c' h = (refl, h)
readings_same dom each (name ∷ names) c c' h =
    let q : _ = readings_same dom each names (put name (quantified_name (dom c)) c) (put name (quantified_name (dom c')) c')
    (put_same c c' name (quantified_name (dom c)) (quantified_name (dom c')) h (ap quantified_name (each c c' h))) in
    (two (λ j js. j ∷ js) (each c c' h) q.0, q.1)

mutual
  unfolding judge judge_domain judge_all judge_terms judge_indices judge_ranges judge_end judge_domains judge_index judge_generators inside_all

  -- An expression has one type where each name has.
  pub judge_same : (c c' : Context) → SameTypes c c' → (e : ExprTree) → judge c e ≡ judge c' e
  judge_same c c' h (number p n) = refl
  judge_same c c' h (truth p b) = refl
  judge_same c c' h (named p name) = (h name).0
  judge_same c c' h (group p e) = ap (λ j. from_one j (λ t. typed t)) (judge_same c c' h e)
  judge_same c c' h (negation p e) = ap (λ j. from_one j (λ t. gives ValueType.Bool (is_boolean t))) (judge_same c c' h e)
  judge_same c c' h (minus p e) = ap (λ j. from_one j (λ t. gives ValueType.Int (is_integer t))) (judge_same c c' h e)
  judge_same c c' h (absolute p e) = ap (λ j. from_one j (λ t. gives ValueType.Int (is_integer t))) (judge_same c c' h e)
  judge_same c c' h (to_int p e) = ap (λ j. from_one j (λ t. gives ValueType.Int (is_boolean t))) (judge_same c c' h e)
  judge_same c c' h (factorial p e) = ap (λ j. from_one j (λ t. gives ValueType.Int (is_integer t))) (judge_same c c' h e)
  judge_same c c' h (flatten p e) = ap (λ j. from_one j (λ t. gives (ValueType.Matrix 1 (scalar_of t)) (is_matrix t))) (judge_same c c' h e)
  judge_same c c' h (folded p op e) = ap (λ j. from_one j (λ t. folded_type op t)) (judge_same c c' h e)
  judge_same c c' h (all_different p e) = ap (λ j. from_one j (λ t. gives ValueType.Bool (is_matrix t))) (judge_same c c' h e)
  judge_same c c' h (chain p terms) = ap (λ js. from_many js (λ ts. gives ValueType.Int (list_all is_integer ts))) (terms_same c c' h terms)
  judge_same c c' h (all_of p parts) = ap (λ js. from_many js (λ ts. gives ValueType.Bool (list_all is_boolean ts))) (all_same c c' h parts)
  judge_same c c' h (any_of p parts) = ap (λ js. from_many js (λ ts. gives ValueType.Bool (list_all is_boolean ts))) (all_same c c' h parts)
  judge_same c c' h (binary p op a b) = two (λ i j. from_two i j (λ s t. binary_type op s t)) (judge_same c c' h a) (judge_same c c' h b)
  judge_same c c' h (compare p op a b) = two (λ i j. from_two i j (λ s t. gives ValueType.Bool (is_integer s && is_integer t))) (judge_same c c' h a) (judge_same c c' h b)
  judge_same c c' h (lex p op a b) = two (λ i j. from_two i j (λ s t. gives ValueType.Bool (are_lists s t))) (judge_same c c' h a) (judge_same c c' h b)
  judge_same c c' h (in_set p a b) = two (λ i j. from_two i j (λ s t. gives ValueType.Bool (is_integer s && is_matrix t))) (judge_same c c' h a) (judge_same c c' h b)
  judge_same c c' h (table p a b) = two (λ i j. from_two i j (λ s t. gives ValueType.Bool (has_dimensions 1 s && has_dimensions 2 t))) (judge_same c c' h a) (judge_same c c' h b)
  judge_same c c' h (in_domain p e d) = two (λ i j. from_two i j (λ s t. gives ValueType.Bool (is_integer s && is_integer t))) (judge_same c c' h e) (judge_domain_same c c' h d)
  judge_same c c' h (gcc p a b d) =
      three (λ i j l. from_three i j l (λ s t u. gives ValueType.Bool (is_matrix s && are_lists t u))) (judge_same c c' h a) (judge_same c c' h b) (judge_same c c' h d)
  judge_same c c' h (at_least p a b d) =
      three (λ i j l. from_three i j l (λ s t u. gives ValueType.Bool (is_matrix s && are_lists t u))) (judge_same c c' h a) (judge_same c c' h b) (judge_same c c' h d)
  judge_same c c' h (at_most p a b d) =
      three (λ i j l. from_three i j l (λ s t u. gives ValueType.Bool (is_matrix s && are_lists t u))) (judge_same c c' h a) (judge_same c c' h b) (judge_same c c' h d)
  judge_same c c' h (quantified p op names d e) =
      let r : _ = readings_same (λ x. judge_domain x d) (λ x x' l. judge_domain_same x x' l d) names c c' h in
      two (λ js j. from_many js (λ ds. from_one j (quantified_type op ds))) r.0
      (judge_same (inside names (λ x. judge_domain x d) c) (inside names (λ x. judge_domain x d) c') r.1 e)
  judge_same c c' h (literal p parts d) =
      two (λ is js. from_many is (λ ds. from_many js (λ ts. indexed_type ds (list_type ts)))) (index_same c c' h d) (all_same c c' h parts)
  judge_same c c' h (comprehension p e gens conditions d) =
      let r : _ = generators_same c c' h gens in
      four (λ is js ks j. from_many is (λ index. from_many js (λ domains. from_many ks (λ truths. from_one j (comprehension_type index domains truths)))))
      (index_same c c' h d) r.0 (all_same (inside_all gens c) (inside_all gens c') r.1 conditions) (judge_same (inside_all gens c) (inside_all gens c') r.1 e)
  judge_same c c' h (read p m indices) =
      two (λ j js. from_one j (λ t. from_many js (λ ts. read_type t ts (slice_count indices)))) (judge_same c c' h m) (indices_same c c' h indices)

  -- The same of a domain.
  pub judge_domain_same : (c c' : Context) → SameTypes c c' → (d : DomainTree) → judge_domain c d ≡ judge_domain c' d
  judge_domain_same c c' h (bool p) = refl
  judge_domain_same c c' h (int p) = refl
  judge_domain_same c c' h (ranges p rs) = ap (λ js. from_many js (λ ts. gives ValueType.Int (list_all is_integer ts))) (ranges_same c c' h rs)
  judge_domain_same c c' h (named_domain p name) = (h name).1
  judge_domain_same c c' h (group_domain p d) = ap (λ j. from_one j (λ t. typed t)) (judge_domain_same c c' h d)
  judge_domain_same c c' h (set_domain p op a b) =
      two (λ i j. from_two i j (λ s t. gives (of_scalar (both_scalars (scalar_of s) (scalar_of t))) (is_integer s && is_integer t)))
      (judge_domain_same c c' h a) (judge_domain_same c c' h b)
  judge_domain_same c c' h (matrix_domain p ds d) =
      two (λ j js. from_one j (λ t. from_many js (λ ts. matrix_type ts t))) (judge_domain_same c c' h d) (domains_same c c' h ds)

  all_same : (c c' : Context) → SameTypes c c' → (es : ExprTrees) → judge_all c es ≡ judge_all c' es
  all_same c c' h no_trees = refl
  all_same c c' h (tree_and e es) = two (λ j js. j ∷ js) (judge_same c c' h e) (all_same c c' h es)

  terms_same : (c c' : Context) → SameTypes c c' → (ts : Terms) → judge_terms c ts ≡ judge_terms c' ts
  terms_same c c' h no_terms = refl
  terms_same c c' h (term_and plus e ts) = two (λ j js. j ∷ js) (judge_same c c' h e) (terms_same c c' h ts)

  indices_same : (c c' : Context) → SameTypes c c' → (is : Indices) → judge_indices c is ≡ judge_indices c' is
  indices_same c c' h no_indices = refl
  indices_same c c' h (every_and is) = indices_same c c' h is
  indices_same c c' h (index_and e is) = two (λ j js. j ∷ js) (judge_same c c' h e) (indices_same c c' h is)

  ranges_same : (c c' : Context) → SameTypes c c' → (rs : Ranges) → judge_ranges c rs ≡ judge_ranges c' rs
  ranges_same c c' h no_ranges = refl
  ranges_same c c' h (one_and e rs) = two (λ j js. j ∷ js) (judge_same c c' h e) (ranges_same c c' h rs)
  ranges_same c c' h (span_and a b rs) =
      two (λ is js. is ++ js) (two (λ is js. is ++ js) (end_same c c' h a) (end_same c c' h b)) (ranges_same c c' h rs)

  end_same : (c c' : Context) → SameTypes c c' → (end : End) → judge_end c end ≡ judge_end c' end
  end_same c c' h no_end = refl
  end_same c c' h (end_at e) = ap (λ j. j ∷ []) (judge_same c c' h e)

  domains_same : (c c' : Context) → SameTypes c c' → (ds : Domains) → judge_domains c ds ≡ judge_domains c' ds
  domains_same c c' h no_domains = refl
  domains_same c c' h (domain_and d ds) = two (λ j js. j ∷ js) (judge_domain_same c c' h d) (domains_same c c' h ds)

  index_same : (c c' : Context) → SameTypes c c' → (index : IndexDomain) → judge_index c index ≡ judge_index c' index
  index_same c c' h unstated = refl
  index_same c c' h (over d) = ap (λ j. j ∷ []) (judge_domain_same c c' h d)

  generators_same : (c c' : Context) → SameTypes c c' → (gens : Generators)
      → (judge_generators c gens ≡ judge_generators c' gens) × SameTypes (inside_all gens c) (inside_all gens c')
  generators_same c c' h no_generators = (refl, h)
  generators_same c c' h (generator_and names d gens) =
      let r : _ = readings_same (λ x. judge_domain x d) (λ x x' l. judge_domain_same x x' l d) names c c' h in
      let q : _ = generators_same (inside names (λ x. judge_domain x d) c) (inside names (λ x. judge_domain x d) c') r.1 gens in
      (two (λ is js. is ++ js) r.0 q.0, q.1)

-- ---- environments that agree

agreed_types : (one other : Option Bound) → AgreeOn one other
    → (named_type (option_map meaning_in one) ≡ named_type (option_map meaning_in other))
    × (named_domain_type (option_map meaning_in one) ≡ named_domain_type (option_map meaning_in other))
unfolding named_type named_domain_type meaning_in
agreed_types None other h = (ap (λ b. named_type (option_map meaning_in b)) h, ap (λ b. named_domain_type (option_map meaning_in b)) h)
agreed_types (Some (has_value t v)) other h = (ap (λ b. named_type (option_map meaning_in b)) h, ap (λ b. named_domain_type (option_map meaning_in b)) h)
agreed_types (Some (has_domain s is vs)) other h = (ap (λ b. named_type (option_map meaning_in b)) h, ap (λ b. named_domain_type (option_map meaning_in b)) h)
agreed_types (Some (has_cells s is vs)) other h =
    (sym (ap (λ b. named_type (option_map meaning_in b)) h.1), sym (ap (λ b. named_domain_type (option_map meaning_in b)) h.1))

pub agree_types : (cells values : Env) → Agree cells values → SameTypes (context_of cells) (context_of values)
unfolding context_of
agree_types cells values h name = agreed_types (cells name) (values name) (h name)

-- An expression has one type, whether a decision variable has cells or a value.
pub type_is_kept : (cells values : Env) → Agree cells values → (e : ExprTree) → judge (context_of cells) e ≡ judge (context_of values) e
type_is_kept cells values h e = judge_same (context_of cells) (context_of values) (agree_types cells values h) e

-- The same of a domain.
pub domain_type_is_kept : (cells values : Env) → Agree cells values → (d : DomainTree) → judge_domain (context_of cells) d ≡ judge_domain (context_of values) d
domain_type_is_kept cells values h d = judge_domain_same (context_of cells) (context_of values) (agree_types cells values h) d
