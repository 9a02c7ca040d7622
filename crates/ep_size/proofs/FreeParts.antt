-- What an expression in which no decision variable stands anywhere meets: nodes without decision variables.
use Rattle.ep_size.proofs.Words.{◌≡◌, Bool, true, false, not, ◌&&◌, ◌||◌, List, [], ◌∷◌, ◌++◌, map, ℤ, if◌then◌else◌, cond, Some, None, bytes_eq, filter, flat_map, Option, unwrap_or, option_map, refl, ap, ◌∙◌, or_from, list_all, list_any, Name, Place, is_fixed, Env, has_value, scalar_in, with_number, all_joined, chosen, domain_values, holding, numbered, over_names, reached, standing_for, Met, a_generator, a_node, met, met_all, met_domain, met_domains, met_end, met_generators, met_index, met_indices, met_names, met_ranges, met_terms, decisions_in, generator_names, hiding, holds_decision, index_holds_decision, is_decision, one_holds_decision, term_holds_decision, DomainTree, Domains, End, ExprTree, ExprTrees, Generators, IndexDomain, Indices, Ranges, Terms, absolute, all_different, all_of, any_of, at_least, at_most, binary, bool, chain, compare, comprehension, domain_and, end_at, every_and, factorial, flatten, folded, gcc, generator_and, group, group_domain, in_domain, in_set, index_and, int, lex, literal, matrix_domain, minus, named, named_domain, negation, no_domains, no_end, no_generators, no_indices, no_ranges, no_terms, no_trees, number, one_and, over, quantified, ranges, read, set_domain, span_and, table, term_and, to_int, tree_and, truth, unstated, of_scalar, single, QuantOp, Mode, are_free, are_free_domains, are_free_generators, are_free_indices, are_free_ranges, are_free_terms, is_free, is_free_domain, is_free_end, is_free_index}

-- one test of names says no more than another
abbrev pub Below : (Name → Bool) → (Name → Bool) → Type 0
Below f g = (name : Name) → g name ≡ false → f name ≡ false

pub and_one : (a b : Bool) → (a && b) ≡ true → a ≡ true
and_one true b h = refl
and_one false b h = h

pub and_other : (a b : Bool) → (a && b) ≡ true → b ≡ true
and_other true b h = h
and_other false b h = absurd cc

pub not_true : (b : Bool) → not b ≡ true → b ≡ false
not_true true h = absurd cc
not_true false h = refl

both_hidden : (f g : Name → Bool) (names : List Name) → Below f g → Below (hiding names f) (hiding names g)
unfolding hiding
both_hidden f g names h name k = go (not (list_any (bytes_eq name) names)) (f name) (g name) (h name) k
  where
    go : (a b c : Bool) → (c ≡ false → b ≡ false) → (a && c) ≡ false → (a && b) ≡ false
    go true b c e q = e q
    go false b c e q = refl

mutual
  unfolding holds_decision one_holds_decision term_holds_decision index_holds_decision is_free are_free are_free_terms are_free_indices

  -- none that one test tells stands where none that the other tells stands anywhere
  pub free_holds : (f g : Name → Bool) → Below f g → (e : ExprTree) → is_free g e ≡ true → holds_decision f e ≡ false
  free_holds f g h (number p n) q = refl
  free_holds f g h (truth p b) q = refl
  free_holds f g h (named p name) q = h name (not_true (g name) q)
  free_holds f g h (group p e) q = free_holds f g h e q
  free_holds f g h (negation p e) q = free_holds f g h e q
  free_holds f g h (minus p e) q = free_holds f g h e q
  free_holds f g h (absolute p e) q = free_holds f g h e q
  free_holds f g h (to_int p e) q = free_holds f g h e q
  free_holds f g h (factorial p e) q = free_holds f g h e q
  free_holds f g h (flatten p e) q = free_holds f g h e q
  free_holds f g h (folded p op e) q = free_holds f g h e q
  free_holds f g h (all_different p e) q = free_holds f g h e q
  free_holds f g h (binary p op a b) q = (or_from (holds_decision f a) (holds_decision f b) (free_holds f g h a (and_one (is_free g a) (is_free g b) q)) (free_holds f g h b (and_other (is_free g a) (is_free g b) q)))
  free_holds f g h (compare p op a b) q = (or_from (holds_decision f a) (holds_decision f b) (free_holds f g h a (and_one (is_free g a) (is_free g b) q)) (free_holds f g h b (and_other (is_free g a) (is_free g b) q)))
  free_holds f g h (lex p op a b) q = (or_from (holds_decision f a) (holds_decision f b) (free_holds f g h a (and_one (is_free g a) (is_free g b) q)) (free_holds f g h b (and_other (is_free g a) (is_free g b) q)))
  free_holds f g h (in_set p a b) q = (or_from (holds_decision f a) (holds_decision f b) (free_holds f g h a (and_one (is_free g a) (is_free g b) q)) (free_holds f g h b (and_other (is_free g a) (is_free g b) q)))
  free_holds f g h (table p a b) q = (or_from (holds_decision f a) (holds_decision f b) (free_holds f g h a (and_one (is_free g a) (is_free g b) q)) (free_holds f g h b (and_other (is_free g a) (is_free g b) q)))
  free_holds f g h (gcc p a b c) q =
      or_from (holds_decision f a || holds_decision f b) (holds_decision f c) ((or_from (holds_decision f a) (holds_decision f b) (free_holds f g h a (and_one (is_free g a) (is_free g b) (and_one (is_free g a && is_free g b) (is_free g c) q))) (free_holds f g h b (and_other (is_free g a) (is_free g b) (and_one (is_free g a && is_free g b) (is_free g c) q)))))
      (free_holds f g h c (and_other (is_free g a && is_free g b) (is_free g c) q))
  free_holds f g h (at_least p a b c) q =
      or_from (holds_decision f a || holds_decision f b) (holds_decision f c) ((or_from (holds_decision f a) (holds_decision f b) (free_holds f g h a (and_one (is_free g a) (is_free g b) (and_one (is_free g a && is_free g b) (is_free g c) q))) (free_holds f g h b (and_other (is_free g a) (is_free g b) (and_one (is_free g a && is_free g b) (is_free g c) q)))))
      (free_holds f g h c (and_other (is_free g a && is_free g b) (is_free g c) q))
  free_holds f g h (at_most p a b c) q =
      or_from (holds_decision f a || holds_decision f b) (holds_decision f c) ((or_from (holds_decision f a) (holds_decision f b) (free_holds f g h a (and_one (is_free g a) (is_free g b) (and_one (is_free g a && is_free g b) (is_free g c) q))) (free_holds f g h b (and_other (is_free g a) (is_free g b) (and_one (is_free g a && is_free g b) (is_free g c) q)))))
      (free_holds f g h c (and_other (is_free g a && is_free g b) (is_free g c) q))
  free_holds f g h (chain p terms) q = terms_free f g h terms q
  free_holds f g h (all_of p parts) q = all_free f g h parts q
  free_holds f g h (any_of p parts) q = all_free f g h parts q
  free_holds f g h (in_domain p e d) q = free_holds f g h e (and_one (is_free g e) (is_free_domain g d) q)
  free_holds f g h (quantified p op names d e) q =
      free_holds (hiding names f) (hiding names g) (both_hidden f g names h) e (and_other (is_free_domain g d) (is_free (hiding names g) e) q)
  free_holds f g h (literal p parts d) q = all_free f g h parts (and_one (are_free g parts) (is_free_index g d) q)
  free_holds f g h (comprehension p e gens conditions d) q =
      let n : List Name = generator_names gens in
      free_holds (hiding n f) (hiding n g) (both_hidden f g n h) e
      (and_one (is_free (hiding n g) e) (is_free_index g d)
      (and_other (are_free_generators g gens && are_free (hiding n g) conditions) (is_free (hiding n g) e && is_free_index g d) q))
  free_holds f g h (read p m is) q =
      or_from (holds_decision f m) (index_holds_decision f is) (free_holds f g h m (and_one (is_free g m) (are_free_indices g is) q))
      (indices_free f g h is (and_other (is_free g m) (are_free_indices g is) q))

  all_free : (f g : Name → Bool) → Below f g → (es : ExprTrees) → are_free g es ≡ true → one_holds_decision f es ≡ false
  all_free f g h no_trees q = refl
  all_free f g h (tree_and e es) q =
      or_from (holds_decision f e) (one_holds_decision f es) (free_holds f g h e (and_one (is_free g e) (are_free g es) q)) (all_free f g h es (and_other (is_free g e) (are_free g es) q))

  terms_free : (f g : Name → Bool) → Below f g → (ts : Terms) → are_free_terms g ts ≡ true → term_holds_decision f ts ≡ false
  terms_free f g h no_terms q = refl
  terms_free f g h (term_and plus e ts) q =
      or_from (holds_decision f e) (term_holds_decision f ts) (free_holds f g h e (and_one (is_free g e) (are_free_terms g ts) q))
      (terms_free f g h ts (and_other (is_free g e) (are_free_terms g ts) q))

  indices_free : (f g : Name → Bool) → Below f g → (is : Indices) → are_free_indices g is ≡ true → index_holds_decision f is ≡ false
  indices_free f g h no_indices q = refl
  indices_free f g h (every_and is) q = indices_free f g h is q
  indices_free f g h (index_and e is) q =
      or_from (holds_decision f e) (index_holds_decision f is) (free_holds f g h e (and_one (is_free g e) (are_free_indices g is) q))
      (indices_free f g h is (and_other (is_free g e) (are_free_indices g is) q))

-- what is met, all of it fixed
abbrev pub AreFixed : List Met → Type 0
AreFixed ms = list_all is_fixed ms ≡ true

pub joined : (xs ys : List Met) → AreFixed xs → AreFixed ys → AreFixed (xs ++ ys)
joined [] ys p q = q
joined (x ∷ xs) ys p q = front (is_fixed x) (and_one (is_fixed x) (list_all is_fixed xs) p) (joined xs ys (and_other (is_fixed x) (list_all is_fixed xs) p) q)
  where
    front : (b : Bool) → b ≡ true → AreFixed (xs ++ ys) → (b && list_all is_fixed (xs ++ ys)) ≡ true
    front true e h = h
    front false e h = e

node : (env : Env) (g : Name → Bool) (e : ExprTree) (ms : List Met) → Below (decisions_in env) g → is_free g e ≡ true → AreFixed ms → AreFixed (a_node env e ∷ ms)
unfolding is_fixed
node env g e ms h q k = ap (λ b. not b && list_all is_fixed ms) (free_holds (decisions_in env) g h e q) ∙ k

quantified_node : (env : Env) (k : Name → Bool) (p : Place) (op : QuantOp) (left : List Name) (d : DomainTree) (e : ExprTree) (ms : List Met)
    → Below (hiding left (decisions_in env)) k → is_free k e ≡ true → AreFixed ms → AreFixed (a_node env (quantified p op left d e) ∷ ms)
unfolding is_fixed holds_decision
quantified_node env k p op left d e ms h q r = ap (λ b. not b && list_all is_fixed ms) (free_holds (hiding left (decisions_in env)) k h e q) ∙ r

-- environments in which no more names are decision variables than a test tells
abbrev EachBelow : (Name → Bool) → List Env → Type 0
EachBelow g [] = Unit {0}
EachBelow g (env ∷ envs) = Below (decisions_in env) g × EachBelow g envs

each_met : (g : Name → Bool) (f : Env → List Met) (envs : List Env) → ((env : Env) → Below (decisions_in env) g → AreFixed (f env)) → EachBelow g envs → AreFixed (flat_map f envs)
each_met g f [] each h = refl
each_met g f (env ∷ envs) each h = joined (f env) (flat_map f envs) (each env h.0) (each_met g f envs each h.1)

-- the test of names without one name
abbrev hiding_one : Name → (Name → Bool) → Name → Bool
hiding_one name g other = if bytes_eq other name then false else g other

number_bound : (env : Env) (g : Name → Bool) (name : Name) (d : DomainTree) (n : ℤ) → Below (decisions_in env) g
    → Below (decisions_in (with_number name (scalar_in env d) n env)) (hiding_one name g)
unfolding with_number is_decision
number_bound env g name d n h other k = go (bytes_eq other name) k
  where
    go : (b : Bool) → (if b then false else g other) ≡ false
        → is_decision (if b then Some (has_value (of_scalar (scalar_in env d)) (single n)) else env other) ≡ false
    go true e = refl
    go false e = h other e

numbers_bound : (env : Env) (g : Name → Bool) (name : Name) (d : DomainTree) (ns : List ℤ) → Below (decisions_in env) g
    → EachBelow (hiding_one name g) (map (λ n. with_number name (scalar_in env d) n env) ns)
numbers_bound env g name d [] h = tt
numbers_bound env g name d (n ∷ ns) h = (number_bound env g name d n h, numbers_bound env g name d ns h)

standing_bound : (mode : Mode) (env : Env) (g : Name → Bool) (name : Name) (d : DomainTree) → Below (decisions_in env) g
    → EachBelow (hiding_one name g) (unwrap_or (numbered mode d name env) [])
unfolding standing_for
standing_bound mode env g name d h = go (domain_values mode env d)
  where
    go : (ns : Option (List ℤ)) → EachBelow (hiding_one name g) (unwrap_or (option_map (map (λ n. with_number name (scalar_in env d) n env)) ns) [])
    go None = tt
    go (Some ns) = numbers_bound env g name d ns h

one_below : (g : Name → Bool) (name : Name) → Below (hiding_one name g) g
one_below g name other k = go (bytes_eq other name)
  where
    go : (b : Bool) → (if b then false else g other) ≡ false
    go true = refl
    go false = k

below_then : (f g k : Name → Bool) → Below f g → Below g k → Below f k
below_then f g k a b name e = a name (b name e)

none_hidden : (g : Name → Bool) → Below g (hiding [] g)
unfolding hiding
none_hidden g name e = e

hidden_more : (g : Name → Bool) (name : Name) (names : List Name) → Below (hiding names (hiding_one name g)) (hiding (name ∷ names) g)
unfolding hiding
hidden_more g name names other k = go (bytes_eq other name) (list_any (bytes_eq other) names) (g other) k
  where
    go : (a b c : Bool) → (not (a || b) && c) ≡ false → (not b && (if a then false else c)) ≡ false
    go true true c e = refl
    go true false c e = refl
    go false true c e = refl
    go false false c e = e

names_met : (mode : Mode) (d : DomainTree) (here : List Name → Env → List Met) (inner : Env → List Met) (f k g : Name → Bool)
    → ((names : List Name) (env : Env) → Below (decisions_in env) f → Below (hiding names (decisions_in env)) k → AreFixed (here names env))
    → ((env : Env) → Below (decisions_in env) k → AreFixed (inner env))
    → (names : List Name) (env : Env) → Below g f → Below (hiding names g) k → Below (decisions_in env) g
    → AreFixed (met_names here (numbered mode d) inner names env)
unfolding met_names
names_met mode d here inner f k g p q [] env less rest c = q env (below_then (decisions_in env) g k c (below_then g (hiding [] g) k (none_hidden g) rest))
names_met mode d here inner f k g p q (name ∷ names) env less rest c =
    joined (here (name ∷ names) env) (flat_map (met_names here (numbered mode d) inner names) (unwrap_or (numbered mode d name env) []))
    (p (name ∷ names) env (below_then (decisions_in env) g f c less)
    (below_then (hiding (name ∷ names) (decisions_in env)) (hiding (name ∷ names) g) k (both_hidden (decisions_in env) g (name ∷ names) c) rest))
    (each_met (hiding_one name g) (met_names here (numbered mode d) inner names) (unwrap_or (numbered mode d name env) [])
    (λ e l. names_met mode d here inner f k (hiding_one name g) p q names e
    (below_then (hiding_one name g) g f (one_below g name) less)
    (below_then (hiding names (hiding_one name g)) (hiding (name ∷ names) g) k (hidden_more g name names) rest) l)
    (standing_bound mode env g name d c))

-- a test says no more than itself
pub same_below : (g : Name → Bool) → Below g g
same_below g name e = e

-- what one test allows, a weaker one does
each_below : (f g : Name → Bool) (envs : List Env) → Below f g → EachBelow f envs → EachBelow g envs
each_below f g [] h k = tt
each_below f g (env ∷ envs) h k = (below_then (decisions_in env) f g k.0 h, each_below f g envs h k.1)

envs_append : (g : Name → Bool) (is js : List Env) → EachBelow g is → EachBelow g js → EachBelow g (is ++ js)
envs_append g [] js h k = k
envs_append g (i ∷ is) js h k = (h.0, envs_append g is js h.1 k)

envs_filter : (g : Name → Bool) (p : Env → Bool) (is : List Env) → EachBelow g is → EachBelow g (filter p is)
envs_filter g p [] h = tt
envs_filter g p (i ∷ is) h = go (p i) (envs_filter g p is h.1)
  where
    go : (b : Bool) → EachBelow g (filter p is) → EachBelow g (cond b (i ∷ filter p is) (filter p is))
    go true k = (h.0, k)
    go false k = k

joined_envs : (f g : Name → Bool) (next : Env → List Env) (envs : List Env) → ((env : Env) → Below (decisions_in env) f → EachBelow g (next env))
    → EachBelow f envs → EachBelow g (flat_map (λ xs. xs) (map next envs))
joined_envs f g next [] each h = tt
joined_envs f g next (env ∷ envs) each h =
    envs_append g (next env) (flat_map (λ xs. xs) (map next envs)) (each env h.0) (joined_envs f g next envs each h.1)

-- the environments that some names reach, and others behind them
names_reach : (mode : Mode) (d : DomainTree) (next : Env → List Env) (others : List Name)
    → ((env : Env) (g : Name → Bool) → Below (decisions_in env) g → EachBelow (hiding others g) (next env))
    → (names : List Name) (env : Env) (g : Name → Bool) → Below (decisions_in env) g
    → EachBelow (hiding (names ++ others) g) (over_names (numbered mode d) all_joined next names env)
unfolding over_names all_joined
names_reach mode d next others each [] env g c = each env g c
names_reach mode d next others each (name ∷ names) env g c = go (numbered mode d name env) (standing_bound mode env g name d c)
    (λ e l. each_below (hiding (names ++ others) (hiding_one name g)) (hiding (name ∷ names ++ others) g) (step e)
    (hidden_more g name (names ++ others)) (names_reach mode d next others each names e (hiding_one name g) l))
  where
    step : Env → List Env
    step = over_names (numbered mode d) all_joined next names

    go : (o : Option (List Env)) → EachBelow (hiding_one name g) (unwrap_or o [])
        → ((e : Env) → Below (decisions_in e) (hiding_one name g) → EachBelow (hiding (name ∷ names ++ others) g) (step e))
        → EachBelow (hiding (name ∷ names ++ others) g) (all_joined (option_map (map step) o))
    go None h ih = tt
    go (Some envs) h ih = joined_envs (hiding_one name g) (hiding (name ∷ names ++ others) g) step envs ih h

reached_below : (mode : Mode) (gens : Generators) (env : Env) (g : Name → Bool) → Below (decisions_in env) g
    → EachBelow (hiding (generator_names gens) g) (reached mode env gens)
unfolding reached generator_names
reached_below mode no_generators env g c = (below_then (decisions_in env) g (hiding [] g) c (none_hidden g), tt)
reached_below mode (generator_and names d gens) env g c =
    names_reach mode d (λ inner. reached mode inner gens) (generator_names gens) (λ inner k l. reached_below mode gens inner k l) names env g c

-- hiding names says no more
hidden_below : (g : Name → Bool) (names : List Name) → Below (hiding names g) g
unfolding hiding
hidden_below g names name e = go (not (list_any (bytes_eq name) names)) (g name) e
  where
    go : (a b : Bool) → b ≡ false → (a && b) ≡ false
    go true b h = h
    go false b h = refl

mutual
  unfolding met met_domain met_all met_terms met_indices met_ranges met_end met_domains met_index met_generators is_fixed holding are_free_generators is_free is_free_domain are_free are_free_terms are_free_indices are_free_ranges is_free_end are_free_domains is_free_index

  -- what is met where none stands anywhere
  pub free_met : (mode : Mode) (env : Env) (g : Name → Bool) → Below (decisions_in env) g → (e : ExprTree) → is_free g e ≡ true → AreFixed (met mode env e)
  free_met mode env g h (number p n) q = node env g (number p n) [] h q refl
  free_met mode env g h (truth p b) q = node env g (truth p b) [] h q refl
  free_met mode env g h (named p name) q = node env g (named p name) [] h q refl
  free_met mode env g h (group p e) q = node env g (group p e) (met mode env e) h q (free_met mode env g h e q)
  free_met mode env g h (negation p e) q = node env g (negation p e) (met mode env e) h q (free_met mode env g h e q)
  free_met mode env g h (minus p e) q = node env g (minus p e) (met mode env e) h q (free_met mode env g h e q)
  free_met mode env g h (absolute p e) q = node env g (absolute p e) (met mode env e) h q (free_met mode env g h e q)
  free_met mode env g h (to_int p e) q = node env g (to_int p e) (met mode env e) h q (free_met mode env g h e q)
  free_met mode env g h (factorial p e) q = node env g (factorial p e) (met mode env e) h q (free_met mode env g h e q)
  free_met mode env g h (flatten p e) q = node env g (flatten p e) (met mode env e) h q (free_met mode env g h e q)
  free_met mode env g h (folded p op e) q = node env g (folded p op e) (met mode env e) h q (free_met mode env g h e q)
  free_met mode env g h (all_different p e) q = node env g (all_different p e) (met mode env e) h q (free_met mode env g h e q)
  free_met mode env g h (binary p op a b) q = node env g (binary p op a b) (met mode env a ++ met mode env b) h q ((joined (met mode env a) (met mode env b) (free_met mode env g h a (and_one (is_free g a) (is_free g b) q)) (free_met mode env g h b (and_other (is_free g a) (is_free g b) q))))
  free_met mode env g h (compare p op a b) q = node env g (compare p op a b) (met mode env a ++ met mode env b) h q ((joined (met mode env a) (met mode env b) (free_met mode env g h a (and_one (is_free g a) (is_free g b) q)) (free_met mode env g h b (and_other (is_free g a) (is_free g b) q))))
  free_met mode env g h (lex p op a b) q = node env g (lex p op a b) (met mode env a ++ met mode env b) h q ((joined (met mode env a) (met mode env b) (free_met mode env g h a (and_one (is_free g a) (is_free g b) q)) (free_met mode env g h b (and_other (is_free g a) (is_free g b) q))))
  free_met mode env g h (in_set p a b) q = node env g (in_set p a b) (met mode env a ++ met mode env b) h q ((joined (met mode env a) (met mode env b) (free_met mode env g h a (and_one (is_free g a) (is_free g b) q)) (free_met mode env g h b (and_other (is_free g a) (is_free g b) q))))
  free_met mode env g h (table p a b) q = node env g (table p a b) (met mode env a ++ met mode env b) h q ((joined (met mode env a) (met mode env b) (free_met mode env g h a (and_one (is_free g a) (is_free g b) q)) (free_met mode env g h b (and_other (is_free g a) (is_free g b) q))))
  free_met mode env g h (gcc p a b c) q =
      node env g (gcc p a b c) ((met mode env a ++ met mode env b) ++ met mode env c) h q
      (joined (met mode env a ++ met mode env b) (met mode env c) ((joined (met mode env a) (met mode env b) (free_met mode env g h a (and_one (is_free g a) (is_free g b) (and_one (is_free g a && is_free g b) (is_free g c) q))) (free_met mode env g h b (and_other (is_free g a) (is_free g b) (and_one (is_free g a && is_free g b) (is_free g c) q)))))
      (free_met mode env g h c (and_other (is_free g a && is_free g b) (is_free g c) q)))
  free_met mode env g h (at_least p a b c) q =
      node env g (at_least p a b c) ((met mode env a ++ met mode env b) ++ met mode env c) h q
      (joined (met mode env a ++ met mode env b) (met mode env c) ((joined (met mode env a) (met mode env b) (free_met mode env g h a (and_one (is_free g a) (is_free g b) (and_one (is_free g a && is_free g b) (is_free g c) q))) (free_met mode env g h b (and_other (is_free g a) (is_free g b) (and_one (is_free g a && is_free g b) (is_free g c) q)))))
      (free_met mode env g h c (and_other (is_free g a && is_free g b) (is_free g c) q)))
  free_met mode env g h (at_most p a b c) q =
      node env g (at_most p a b c) ((met mode env a ++ met mode env b) ++ met mode env c) h q
      (joined (met mode env a ++ met mode env b) (met mode env c) ((joined (met mode env a) (met mode env b) (free_met mode env g h a (and_one (is_free g a) (is_free g b) (and_one (is_free g a && is_free g b) (is_free g c) q))) (free_met mode env g h b (and_other (is_free g a) (is_free g b) (and_one (is_free g a && is_free g b) (is_free g c) q)))))
      (free_met mode env g h c (and_other (is_free g a && is_free g b) (is_free g c) q)))
  free_met mode env g h (chain p terms) q = node env g (chain p terms) (met_terms mode env terms) h q (terms_met mode env g h terms q)
  free_met mode env g h (all_of p parts) q = node env g (all_of p parts) (met_all mode env parts) h q (all_met mode env g h parts q)
  free_met mode env g h (any_of p parts) q = node env g (any_of p parts) (met_all mode env parts) h q (all_met mode env g h parts q)
  free_met mode env g h (in_domain p e d) q =
      node env g (in_domain p e d) (met mode env e ++ met_domain mode env d) h q
      (joined (met mode env e) (met_domain mode env d) (free_met mode env g h e (and_one (is_free g e) (is_free_domain g d) q))
      (free_domain_met mode env g h d (and_other (is_free g e) (is_free_domain g d) q)))
  free_met mode env g h (quantified p op names d e) q =
      names_met mode d (λ left inner. a_node inner (quantified p op left d e) ∷ met_domain mode inner d) (λ inner. met mode inner e) g (hiding names g) g
      (λ left inner l m. quantified_node inner (hiding names g) p op left d e (met_domain mode inner d) m (and_other (is_free_domain g d) (is_free (hiding names g) e) q)
      (free_domain_met mode inner g l d (and_one (is_free_domain g d) (is_free (hiding names g) e) q)))
      (λ inner l. free_met mode inner (hiding names g) l e (and_other (is_free_domain g d) (is_free (hiding names g) e) q)) names env (same_below g) (same_below (hiding names g)) h
  free_met mode env g h (literal p parts d) q =
      node env g (literal p parts d) (met_all mode env parts ++ met_index mode env d) h q
      (joined (met_all mode env parts) (met_index mode env d) (all_met mode env g h parts (and_one (are_free g parts) (is_free_index g d) q))
      (index_met mode env g h d (and_other (are_free g parts) (is_free_index g d) q)))
  free_met mode env g h (comprehension p e gens conditions d) q =
      let k : Name → Bool = hiding (generator_names gens) g in
      let gs : List Met = met_generators mode env gens in
      let cs : List Met = flat_map (λ inner. met_all mode inner conditions) (reached mode env gens) in
      let es : List Met = flat_map (λ inner. met mode inner e) (chosen mode env gens conditions) in
      let front : (are_free_generators g gens && are_free k conditions) ≡ true =
      and_one (are_free_generators g gens && are_free k conditions) (is_free k e && is_free_index g d) q in
      let last : (is_free k e && is_free_index g d) ≡ true =
      and_other (are_free_generators g gens && are_free k conditions) (is_free k e && is_free_index g d) q in
      node env g (comprehension p e gens conditions d) (((gs ++ cs) ++ es) ++ met_index mode env d) h q
      (joined ((gs ++ cs) ++ es) (met_index mode env d)
      (joined (gs ++ cs) es
      (joined gs cs (generators_met mode env g h gens (and_one (are_free_generators g gens) (are_free k conditions) front))
      (each_met k (λ inner. met_all mode inner conditions) (reached mode env gens)
      (λ inner l. all_met mode inner k l conditions (and_other (are_free_generators g gens) (are_free k conditions) front)) (reached_below mode gens env g h)))
      (each_met k (λ inner. met mode inner e) (chosen mode env gens conditions)
      (λ inner l. free_met mode inner k l e (and_one (is_free k e) (is_free_index g d) last))
      (envs_filter k _ (reached mode env gens) (reached_below mode gens env g h))))
      (index_met mode env g h d (and_other (is_free k e) (is_free_index g d) last)))
  free_met mode env g h (read p m is) q =
      node env g (read p m is) (met mode env m ++ met_indices mode env is) h q
      (joined (met mode env m) (met_indices mode env is) (free_met mode env g h m (and_one (is_free g m) (are_free_indices g is) q))
      (indices_met mode env g h is (and_other (is_free g m) (are_free_indices g is) q)))

  all_met : (mode : Mode) (env : Env) (g : Name → Bool) → Below (decisions_in env) g → (es : ExprTrees) → are_free g es ≡ true → AreFixed (met_all mode env es)
  all_met mode env g h no_trees q = refl
  all_met mode env g h (tree_and e es) q =
      joined (met mode env e) (met_all mode env es) (free_met mode env g h e (and_one (is_free g e) (are_free g es) q)) (all_met mode env g h es (and_other (is_free g e) (are_free g es) q))

  terms_met : (mode : Mode) (env : Env) (g : Name → Bool) → Below (decisions_in env) g → (ts : Terms) → are_free_terms g ts ≡ true → AreFixed (met_terms mode env ts)
  terms_met mode env g h no_terms q = refl
  terms_met mode env g h (term_and plus e ts) q =
      joined (met mode env e) (met_terms mode env ts) (free_met mode env g h e (and_one (is_free g e) (are_free_terms g ts) q)) (terms_met mode env g h ts (and_other (is_free g e) (are_free_terms g ts) q))

  indices_met : (mode : Mode) (env : Env) (g : Name → Bool) → Below (decisions_in env) g → (is : Indices) → are_free_indices g is ≡ true → AreFixed (met_indices mode env is)
  indices_met mode env g h no_indices q = refl
  indices_met mode env g h (every_and is) q = indices_met mode env g h is q
  indices_met mode env g h (index_and e is) q =
      joined (met mode env e) (met_indices mode env is) (free_met mode env g h e (and_one (is_free g e) (are_free_indices g is) q)) (indices_met mode env g h is (and_other (is_free g e) (are_free_indices g is) q))

  pub free_domain_met : (mode : Mode) (env : Env) (g : Name → Bool) → Below (decisions_in env) g → (d : DomainTree) → is_free_domain g d ≡ true → AreFixed (met_domain mode env d)
  free_domain_met mode env g h (bool p) q = refl
  free_domain_met mode env g h (int p) q = refl
  free_domain_met mode env g h (ranges p rs) q = ranges_met mode env g h rs q
  free_domain_met mode env g h (named_domain p name) q = refl
  free_domain_met mode env g h (group_domain p d) q = free_domain_met mode env g h d q
  free_domain_met mode env g h (set_domain p op c d) q =
      joined (met_domain mode env c) (met_domain mode env d) (free_domain_met mode env g h c (and_one (is_free_domain g c) (is_free_domain g d) q))
      (free_domain_met mode env g h d (and_other (is_free_domain g c) (is_free_domain g d) q))
  free_domain_met mode env g h (matrix_domain p ds d) q =
      joined (met_domains mode env ds) (met_domain mode env d) (domains_met mode env g h ds (and_one (are_free_domains g ds) (is_free_domain g d) q))
      (free_domain_met mode env g h d (and_other (are_free_domains g ds) (is_free_domain g d) q))

  ranges_met : (mode : Mode) (env : Env) (g : Name → Bool) → Below (decisions_in env) g → (rs : Ranges) → are_free_ranges g rs ≡ true → AreFixed (met_ranges mode env rs)
  ranges_met mode env g h no_ranges q = refl
  ranges_met mode env g h (one_and e rs) q =
      joined (met mode env e) (met_ranges mode env rs) (free_met mode env g h e (and_one (is_free g e) (are_free_ranges g rs) q)) (ranges_met mode env g h rs (and_other (is_free g e) (are_free_ranges g rs) q))
  ranges_met mode env g h (span_and a b rs) q =
      let front : (is_free_end g a && is_free_end g b) ≡ true = and_one (is_free_end g a && is_free_end g b) (are_free_ranges g rs) q in
      joined (met_end mode env a ++ met_end mode env b) (met_ranges mode env rs)
      (joined (met_end mode env a) (met_end mode env b) (end_met mode env g h a (and_one (is_free_end g a) (is_free_end g b) front)) (end_met mode env g h b (and_other (is_free_end g a) (is_free_end g b) front)))
      (ranges_met mode env g h rs (and_other (is_free_end g a && is_free_end g b) (are_free_ranges g rs) q))

  end_met : (mode : Mode) (env : Env) (g : Name → Bool) → Below (decisions_in env) g → (end : End) → is_free_end g end ≡ true → AreFixed (met_end mode env end)
  end_met mode env g h no_end q = refl
  end_met mode env g h (end_at e) q = free_met mode env g h e q

  domains_met : (mode : Mode) (env : Env) (g : Name → Bool) → Below (decisions_in env) g → (ds : Domains) → are_free_domains g ds ≡ true → AreFixed (met_domains mode env ds)
  domains_met mode env g h no_domains q = refl
  domains_met mode env g h (domain_and d ds) q =
      joined (met_domain mode env d) (met_domains mode env ds) (free_domain_met mode env g h d (and_one (is_free_domain g d) (are_free_domains g ds) q)) (domains_met mode env g h ds (and_other (is_free_domain g d) (are_free_domains g ds) q))

  index_met : (mode : Mode) (env : Env) (g : Name → Bool) → Below (decisions_in env) g → (index : IndexDomain) → is_free_index g index ≡ true → AreFixed (met_index mode env index)
  index_met mode env g h unstated q = refl
  index_met mode env g h (over d) q = free_domain_met mode env g h d q

  generators_met : (mode : Mode) (env : Env) (g : Name → Bool) → Below (decisions_in env) g → (gens : Generators) → are_free_generators g gens ≡ true → AreFixed (met_generators mode env gens)
  generators_met mode env g h no_generators q = refl
  generators_met mode env g h (generator_and names d gens) q =
      names_met mode d (λ left inner. a_generator ∷ met_domain mode inner d) (λ inner. met_generators mode inner gens) g g g
      (λ left inner l m. free_domain_met mode inner g l d (and_one (is_free_domain g d) (are_free_generators g gens) q))
      (λ inner l. generators_met mode inner g l gens (and_other (is_free_domain g d) (are_free_generators g gens) q))
      names env (same_below g) (hidden_below g names) h
