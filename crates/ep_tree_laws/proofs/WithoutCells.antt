-- In an environment without cells no decision variable stands in what is met.
use Rattle.std.specs.Prelude.{◌≡◌, Bool, true, false, not, ◌&&◌, ◌||◌, List, [], ◌∷◌, ◌++◌, map, ℤ, if◌then◌else◌, cond, Some, None, bytes_eq, filter, flat_map, Option, unwrap_or, option_map, refl}
use Rattle.std.proofs.Common.{ap, ◌∙◌}
use Rattle.std.proofs.lemmas.Bool.{or_from}
use Rattle.std.specs.List.{list_all, list_any}
use Rattle.ep_base.specs.declared.names.Name.{Name}
use Rattle.ep_tree_laws.specs.FixedLimits.{HasNoCells, is_fixed}
use Rattle.ep_tree.proofs.TypedParts.{and_left, and_right}
use Rattle.ep_tree.specs.Environments.{Env, has_value, scalar_in, with_number}
use Rattle.ep_tree.specs.Evaluation.{all_joined, chosen, domain_values, holding, numbered, over_names, reached, standing_for}
use Rattle.ep_tree.specs.Measures.{Met, a_generator, a_node, met, met_all, met_domain, met_domains, met_end, met_generators, met_index, met_indices, met_names, met_ranges, met_terms}
use Rattle.ep_tree.specs.Reach.{decisions_in, generator_names, hiding, holds_decision, index_holds_decision, is_decision, one_holds_decision, term_holds_decision}
use Rattle.ep_tree.specs.Trees.{DomainTree, Domains, End, ExprTree, ExprTrees, Generators, IndexDomain, Indices, Ranges, Terms, absolute, all_different, all_of, any_of, at_least, at_most, binary, bool, chain, compare, comprehension, domain_and, end_at, every_and, factorial, flatten, folded, gcc, generator_and, group, group_domain, in_domain, in_set, index_and, int, lex, literal, matrix_domain, minus, named, named_domain, negation, no_domains, no_end, no_generators, no_indices, no_ranges, no_terms, no_trees, number, one_and, over, quantified, ranges, read, set_domain, span_and, table, term_and, to_int, tree_and, truth, unstated}
use Rattle.ep_tree.specs.Types.{of_scalar}
use Rattle.ep_tree.specs.Values.{single}
use Rattle.ep_tree.specs.declared.values.Mode.{Mode}

-- no name is a decision variable
abbrev NoName : (Name → Bool) → Type 0
NoName decided = (name : Name) → decided name ≡ false

none_hidden : (names : List Name) (decided : Name → Bool) → NoName decided → NoName (hiding names decided)
unfolding hiding
none_hidden names decided h name = go (not (list_any (bytes_eq name) names)) (decided name) (h name)
  where
    go : (a b : Bool) → b ≡ false → (a && b) ≡ false
    go true b e = e
    go false b e = refl

mutual
  unfolding holds_decision one_holds_decision term_holds_decision index_holds_decision

  pub none_held : (f : Name → Bool) → NoName f → (e : ExprTree) → holds_decision f e ≡ false
  none_held f h (number p n) = refl
  none_held f h (truth p b) = refl
  none_held f h (named p name) = h name
  none_held f h (group p e) = none_held f h e
  none_held f h (negation p e) = none_held f h e
  none_held f h (minus p e) = none_held f h e
  none_held f h (absolute p e) = none_held f h e
  none_held f h (to_int p e) = none_held f h e
  none_held f h (factorial p e) = none_held f h e
  none_held f h (flatten p m) = none_held f h m
  none_held f h (chain p terms) = no_term_held f h terms
  none_held f h (binary p op a b) = or_from (holds_decision f a) (holds_decision f b) (none_held f h a) (none_held f h b)
  none_held f h (compare p op a b) = or_from (holds_decision f a) (holds_decision f b) (none_held f h a) (none_held f h b)
  none_held f h (lex p op a b) = or_from (holds_decision f a) (holds_decision f b) (none_held f h a) (none_held f h b)
  none_held f h (in_domain p e d) = none_held f h e
  none_held f h (in_set p e m) = or_from (holds_decision f e) (holds_decision f m) (none_held f h e) (none_held f h m)
  none_held f h (all_of p parts) = no_part_held f h parts
  none_held f h (any_of p parts) = no_part_held f h parts
  none_held f h (quantified p op names d e) = none_held (hiding names f) (none_hidden names f h) e
  none_held f h (literal p parts d) = no_part_held f h parts
  none_held f h (comprehension p e gens conditions d) = none_held (hiding (generator_names gens) f) (none_hidden (generator_names gens) f h) e
  none_held f h (read p m indices) = or_from (holds_decision f m) (index_holds_decision f indices) (none_held f h m) (no_index_held f h indices)
  none_held f h (folded p op m) = none_held f h m
  none_held f h (all_different p m) = none_held f h m
  none_held f h (gcc p a b c) =
      or_from (holds_decision f a || holds_decision f b) (holds_decision f c)
      (or_from (holds_decision f a) (holds_decision f b) (none_held f h a) (none_held f h b)) (none_held f h c)
  none_held f h (at_least p a b c) =
      or_from (holds_decision f a || holds_decision f b) (holds_decision f c)
      (or_from (holds_decision f a) (holds_decision f b) (none_held f h a) (none_held f h b)) (none_held f h c)
  none_held f h (at_most p a b c) =
      or_from (holds_decision f a || holds_decision f b) (holds_decision f c)
      (or_from (holds_decision f a) (holds_decision f b) (none_held f h a) (none_held f h b)) (none_held f h c)
  none_held f h (table p a b) = or_from (holds_decision f a) (holds_decision f b) (none_held f h a) (none_held f h b)

  no_part_held : (f : Name → Bool) → NoName f → (es : ExprTrees) → one_holds_decision f es ≡ false
  no_part_held f h no_trees = refl
  no_part_held f h (tree_and e es) = or_from (holds_decision f e) (one_holds_decision f es) (none_held f h e) (no_part_held f h es)

  no_term_held : (f : Name → Bool) → NoName f → (ts : Terms) → term_holds_decision f ts ≡ false
  no_term_held f h no_terms = refl
  no_term_held f h (term_and plus e ts) = or_from (holds_decision f e) (term_holds_decision f ts) (none_held f h e) (no_term_held f h ts)

  no_index_held : (f : Name → Bool) → NoName f → (is : Indices) → index_holds_decision f is ≡ false
  no_index_held f h no_indices = refl
  no_index_held f h (every_and is) = no_index_held f h is
  no_index_held f h (index_and e is) = or_from (holds_decision f e) (index_holds_decision f is) (none_held f h e) (no_index_held f h is)

-- what is met, all of it fixed
abbrev AreFixed : List Met → Type 0
AreFixed ms = list_all is_fixed ms ≡ true

joined : (xs ys : List Met) → AreFixed xs → AreFixed ys → AreFixed (xs ++ ys)
joined [] ys p q = q
joined (x ∷ xs) ys p q = front (is_fixed x) (and_left (is_fixed x) (list_all is_fixed xs) p) (joined xs ys (and_right (is_fixed x) (list_all is_fixed xs) p) q)
  where
    front : (b : Bool) → b ≡ true → AreFixed (xs ++ ys) → (b && list_all is_fixed (xs ++ ys)) ≡ true
    front true e h = h
    front false e h = e

node : (env : Env) (e : ExprTree) (ms : List Met) → HasNoCells env → AreFixed ms → AreFixed (a_node env e ∷ ms)
unfolding is_fixed
node env e ms h k = ap (λ b. not b && list_all is_fixed ms) (none_held (decisions_in env) h e) ∙ k

-- environments without cells
abbrev EachEnv : List Env → Type 0
EachEnv [] = Unit {0}
EachEnv (env ∷ envs) = HasNoCells env × EachEnv envs

envs_append : (is js : List Env) → EachEnv is → EachEnv js → EachEnv (is ++ js)
envs_append [] js h k = k
envs_append (i ∷ is) js h k = (h.0, envs_append is js h.1 k)

envs_filter : (p : Env → Bool) (is : List Env) → EachEnv is → EachEnv (filter p is)
envs_filter p [] h = tt
envs_filter p (i ∷ is) h = go (p i) (envs_filter p is h.1)
  where
    go : (b : Bool) → EachEnv (filter p is) → EachEnv (cond b (i ∷ filter p is) (filter p is))
    go true k = (h.0, k)
    go false k = k

each_met : (f : Env → List Met) (envs : List Env) → ((env : Env) → HasNoCells env → AreFixed (f env)) → EachEnv envs → AreFixed (flat_map f envs)
each_met f [] each h = refl
each_met f (env ∷ envs) each h = joined (f env) (flat_map f envs) (each env h.0) (each_met f envs each h.1)

number_bound : (env : Env) (name : Name) (d : DomainTree) (n : ℤ) → HasNoCells env → HasNoCells (with_number name (scalar_in env d) n env)
unfolding with_number is_decision
number_bound env name d n h other = go (bytes_eq other name)
  where
    go : (b : Bool) → is_decision (if b then Some (has_value (of_scalar (scalar_in env d)) (single n)) else env other) ≡ false
    go true = refl
    go false = h other

numbers_bound : (env : Env) (name : Name) (d : DomainTree) (ns : List ℤ) → HasNoCells env → EachEnv (map (λ n. with_number name (scalar_in env d) n env) ns)
numbers_bound env name d [] h = tt
numbers_bound env name d (n ∷ ns) h = (number_bound env name d n h, numbers_bound env name d ns h)

standing_bound : (mode : Mode) (env : Env) (name : Name) (d : DomainTree) → HasNoCells env → EachEnv (unwrap_or (numbered mode d name env) [])
unfolding standing_for
standing_bound mode env name d h = go (domain_values mode env d)
  where
    go : (ns : Option (List ℤ)) → EachEnv (unwrap_or (option_map (map (λ n. with_number name (scalar_in env d) n env)) ns) [])
    go None = tt
    go (Some ns) = numbers_bound env name d ns h

names_met : (mode : Mode) (d : DomainTree) (here : List Name → Env → List Met) (inner : Env → List Met)
    → ((names : List Name) (env : Env) → HasNoCells env → AreFixed (here names env)) → ((env : Env) → HasNoCells env → AreFixed (inner env))
    → (names : List Name) (env : Env) → HasNoCells env → AreFixed (met_names here (numbered mode d) inner names env)
unfolding met_names
names_met mode d here inner h k [] env c = k env c
names_met mode d here inner h k (name ∷ names) env c =
    joined (here (name ∷ names) env) (flat_map (met_names here (numbered mode d) inner names) (unwrap_or (numbered mode d name env) []))
    (h (name ∷ names) env c)
    (each_met (met_names here (numbered mode d) inner names) (unwrap_or (numbered mode d name env) [])
    (λ e l. names_met mode d here inner h k names e l) (standing_bound mode env name d c))

joined_envs : (next : Env → List Env) (envs : List Env) → ((env : Env) → HasNoCells env → EachEnv (next env)) → EachEnv envs → EachEnv (flat_map (λ xs. xs) (map next envs))
joined_envs next [] each h = tt
joined_envs next (env ∷ envs) each h = envs_append (next env) (flat_map (λ xs. xs) (map next envs)) (each env h.0) (joined_envs next envs each h.1)

names_reach : (mode : Mode) (d : DomainTree) (next : Env → List Env) → ((env : Env) → HasNoCells env → EachEnv (next env))
    → (names : List Name) (env : Env) → HasNoCells env → EachEnv (over_names (numbered mode d) all_joined next names env)
unfolding over_names all_joined
names_reach mode d next each [] env c = each env c
names_reach mode d next each (name ∷ names) env c = go (numbered mode d name env) (standing_bound mode env name d c)
    (λ e l. names_reach mode d next each names e l)
  where
    step : Env → List Env
    step = over_names (numbered mode d) all_joined next names

    go : (o : Option (List Env)) → EachEnv (unwrap_or o []) → ((e : Env) → HasNoCells e → EachEnv (step e)) → EachEnv (all_joined (option_map (map step) o))
    go None h ih = tt
    go (Some envs) h ih = joined_envs step envs ih h

reached_bound : (mode : Mode) (gens : Generators) (env : Env) → HasNoCells env → EachEnv (reached mode env gens)
unfolding reached
reached_bound mode no_generators env c = (c, tt)
reached_bound mode (generator_and names d gens) env c =
    names_reach mode d (λ inner. reached mode inner gens) (λ inner l. reached_bound mode gens inner l) names env c

mutual
  unfolding met met_domain met_all met_terms met_indices met_ranges met_end met_domains met_index met_generators is_fixed holding

  -- In an environment without cells no decision variable stands in what is met.
  pub met_fixed : (mode : Mode) (env : Env) → HasNoCells env → (e : ExprTree) → list_all is_fixed (met mode env e) ≡ true
  met_fixed mode env h (number p n) = node env (number p n) [] h refl
  met_fixed mode env h (truth p b) = node env (truth p b) [] h refl
  met_fixed mode env h (named p name) = node env (named p name) [] h refl
  met_fixed mode env h (group p e) = node env (group p e) (met mode env e) h (met_fixed mode env h e)
  met_fixed mode env h (negation p e) = node env (negation p e) (met mode env e) h (met_fixed mode env h e)
  met_fixed mode env h (minus p e) = node env (minus p e) (met mode env e) h (met_fixed mode env h e)
  met_fixed mode env h (absolute p e) = node env (absolute p e) (met mode env e) h (met_fixed mode env h e)
  met_fixed mode env h (to_int p e) = node env (to_int p e) (met mode env e) h (met_fixed mode env h e)
  met_fixed mode env h (factorial p e) = node env (factorial p e) (met mode env e) h (met_fixed mode env h e)
  met_fixed mode env h (flatten p e) = node env (flatten p e) (met mode env e) h (met_fixed mode env h e)
  met_fixed mode env h (folded p op e) = node env (folded p op e) (met mode env e) h (met_fixed mode env h e)
  met_fixed mode env h (all_different p e) = node env (all_different p e) (met mode env e) h (met_fixed mode env h e)
  met_fixed mode env h (chain p terms) = node env (chain p terms) (met_terms mode env terms) h (terms_fixed mode env h terms)
  met_fixed mode env h (binary p op a b) = node env (binary p op a b) (met mode env a ++ met mode env b) h (joined (met mode env a) (met mode env b) (met_fixed mode env h a) (met_fixed mode env h b))
  met_fixed mode env h (compare p op a b) = node env (compare p op a b) (met mode env a ++ met mode env b) h (joined (met mode env a) (met mode env b) (met_fixed mode env h a) (met_fixed mode env h b))
  met_fixed mode env h (lex p op a b) = node env (lex p op a b) (met mode env a ++ met mode env b) h (joined (met mode env a) (met mode env b) (met_fixed mode env h a) (met_fixed mode env h b))
  met_fixed mode env h (in_set p a b) = node env (in_set p a b) (met mode env a ++ met mode env b) h (joined (met mode env a) (met mode env b) (met_fixed mode env h a) (met_fixed mode env h b))
  met_fixed mode env h (table p a b) = node env (table p a b) (met mode env a ++ met mode env b) h (joined (met mode env a) (met mode env b) (met_fixed mode env h a) (met_fixed mode env h b))
  met_fixed mode env h (in_domain p e d) =
      node env (in_domain p e d) (met mode env e ++ met_domain mode env d) h (joined (met mode env e) (met_domain mode env d) (met_fixed mode env h e) (met_domain_fixed mode env h d))
  met_fixed mode env h (all_of p parts) = node env (all_of p parts) (met_all mode env parts) h (all_fixed mode env h parts)
  met_fixed mode env h (any_of p parts) = node env (any_of p parts) (met_all mode env parts) h (all_fixed mode env h parts)
  met_fixed mode env h (gcc p a b c) =
      node env (gcc p a b c) ((met mode env a ++ met mode env b) ++ met mode env c) h
      (joined (met mode env a ++ met mode env b) (met mode env c) (joined (met mode env a) (met mode env b) (met_fixed mode env h a) (met_fixed mode env h b)) (met_fixed mode env h c))
  met_fixed mode env h (at_least p a b c) =
      node env (at_least p a b c) ((met mode env a ++ met mode env b) ++ met mode env c) h
      (joined (met mode env a ++ met mode env b) (met mode env c) (joined (met mode env a) (met mode env b) (met_fixed mode env h a) (met_fixed mode env h b)) (met_fixed mode env h c))
  met_fixed mode env h (at_most p a b c) =
      node env (at_most p a b c) ((met mode env a ++ met mode env b) ++ met mode env c) h
      (joined (met mode env a ++ met mode env b) (met mode env c) (joined (met mode env a) (met mode env b) (met_fixed mode env h a) (met_fixed mode env h b)) (met_fixed mode env h c))
  met_fixed mode env h (quantified p op names d e) =
      names_met mode d (λ left inner. a_node inner (quantified p op left d e) ∷ met_domain mode inner d) (λ inner. met mode inner e)
      (λ left inner l. node inner (quantified p op left d e) (met_domain mode inner d) l (met_domain_fixed mode inner l d))
      (λ inner l. met_fixed mode inner l e) names env h
  met_fixed mode env h (literal p parts d) =
      node env (literal p parts d) (met_all mode env parts ++ met_index mode env d) h
      (joined (met_all mode env parts) (met_index mode env d) (all_fixed mode env h parts) (index_fixed mode env h d))
  met_fixed mode env h (comprehension p e gens conditions d) =
      let gs : List Met = met_generators mode env gens in
      let cs : List Met = flat_map (λ inner. met_all mode inner conditions) (reached mode env gens) in
      let es : List Met = flat_map (λ inner. met mode inner e) (chosen mode env gens conditions) in
      node env (comprehension p e gens conditions d) (((gs ++ cs) ++ es) ++ met_index mode env d) h
      (joined ((gs ++ cs) ++ es) (met_index mode env d)
      (joined (gs ++ cs) es
      (joined gs cs (generators_fixed mode env h gens)
      (each_met (λ inner. met_all mode inner conditions) (reached mode env gens) (λ inner l. all_fixed mode inner l conditions) (reached_bound mode gens env h)))
      (each_met (λ inner. met mode inner e) (chosen mode env gens conditions) (λ inner l. met_fixed mode inner l e) (envs_filter _ (reached mode env gens) (reached_bound mode gens env h))))
      (index_fixed mode env h d))
  met_fixed mode env h (read p m indices) =
      node env (read p m indices) (met mode env m ++ met_indices mode env indices) h
      (joined (met mode env m) (met_indices mode env indices) (met_fixed mode env h m) (indices_fixed mode env h indices))

  -- The same of a domain.
  pub met_domain_fixed : (mode : Mode) (env : Env) → HasNoCells env → (d : DomainTree) → list_all is_fixed (met_domain mode env d) ≡ true
  met_domain_fixed mode env h (bool p) = refl
  met_domain_fixed mode env h (int p) = refl
  met_domain_fixed mode env h (ranges p rs) = ranges_fixed mode env h rs
  met_domain_fixed mode env h (named_domain p name) = refl
  met_domain_fixed mode env h (group_domain p d) = met_domain_fixed mode env h d
  met_domain_fixed mode env h (set_domain p op c d) = joined (met_domain mode env c) (met_domain mode env d) (met_domain_fixed mode env h c) (met_domain_fixed mode env h d)
  met_domain_fixed mode env h (matrix_domain p ds d) = joined (met_domains mode env ds) (met_domain mode env d) (domains_fixed mode env h ds) (met_domain_fixed mode env h d)

  all_fixed : (mode : Mode) (env : Env) → HasNoCells env → (es : ExprTrees) → AreFixed (met_all mode env es)
  all_fixed mode env h no_trees = refl
  all_fixed mode env h (tree_and e es) = joined (met mode env e) (met_all mode env es) (met_fixed mode env h e) (all_fixed mode env h es)

  terms_fixed : (mode : Mode) (env : Env) → HasNoCells env → (ts : Terms) → AreFixed (met_terms mode env ts)
  terms_fixed mode env h no_terms = refl
  terms_fixed mode env h (term_and plus e ts) = joined (met mode env e) (met_terms mode env ts) (met_fixed mode env h e) (terms_fixed mode env h ts)

  indices_fixed : (mode : Mode) (env : Env) → HasNoCells env → (is : Indices) → AreFixed (met_indices mode env is)
  indices_fixed mode env h no_indices = refl
  indices_fixed mode env h (every_and is) = indices_fixed mode env h is
  indices_fixed mode env h (index_and e is) = joined (met mode env e) (met_indices mode env is) (met_fixed mode env h e) (indices_fixed mode env h is)

  ranges_fixed : (mode : Mode) (env : Env) → HasNoCells env → (rs : Ranges) → AreFixed (met_ranges mode env rs)
  ranges_fixed mode env h no_ranges = refl
  ranges_fixed mode env h (one_and e rs) = joined (met mode env e) (met_ranges mode env rs) (met_fixed mode env h e) (ranges_fixed mode env h rs)
  ranges_fixed mode env h (span_and a b rs) =
      joined (met_end mode env a ++ met_end mode env b) (met_ranges mode env rs)
      (joined (met_end mode env a) (met_end mode env b) (end_fixed mode env h a) (end_fixed mode env h b)) (ranges_fixed mode env h rs)

  end_fixed : (mode : Mode) (env : Env) → HasNoCells env → (end : End) → AreFixed (met_end mode env end)
  end_fixed mode env h no_end = refl
  end_fixed mode env h (end_at e) = met_fixed mode env h e

  domains_fixed : (mode : Mode) (env : Env) → HasNoCells env → (ds : Domains) → AreFixed (met_domains mode env ds)
  domains_fixed mode env h no_domains = refl
  domains_fixed mode env h (domain_and d ds) = joined (met_domain mode env d) (met_domains mode env ds) (met_domain_fixed mode env h d) (domains_fixed mode env h ds)

  index_fixed : (mode : Mode) (env : Env) → HasNoCells env → (index : IndexDomain) → AreFixed (met_index mode env index)
  index_fixed mode env h unstated = refl
  index_fixed mode env h (over d) = met_domain_fixed mode env h d

  generators_fixed : (mode : Mode) (env : Env) → HasNoCells env → (gens : Generators) → AreFixed (met_generators mode env gens)
  generators_fixed mode env h no_generators = refl
  generators_fixed mode env h (generator_and names d gens) =
      names_met mode d (λ left inner. a_generator ∷ met_domain mode inner d) (λ inner. met_generators mode inner gens)
      (λ left inner l. met_domain_fixed mode inner l d) (λ inner l. generators_fixed mode inner l gens) names env h
