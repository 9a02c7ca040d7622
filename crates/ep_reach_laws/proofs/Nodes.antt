-- The numbers at what is met lie in the reaches there.
use Rattle.std.specs.Prelude.{◌≡◌, ◌&&◌, ◌||◌, not, List, [], ◌∷◌, ◌++◌, ℤ, pos, ◌*ℤ◌, Bool, true, false, Some, None, flat_map, Option, option_to_list, unwrap_or, refl}
use Rattle.std.proofs.Common.{arith, subst, sym, inl, inr}
use Rattle.std.proofs.lemmas.Int.{ints}
use Rattle.ep_base.specs.Intervals.{Interval, LiesIn, only}
use Rattle.ep_base.specs.declared.names.Name.{Name}
use Rattle.ep_tree_laws.proofs.Deciding.{left_none, right_none}
use Rattle.ep_tree_laws.proofs.Intervals.{product_lies}
use Rattle.ep_tree_laws.proofs.Pairs.{Integers, MaybePaired, Paired}
use Rattle.ep_tree.specs.Agreement.{Agreed}
use Rattle.ep_tree.specs.Environments.{Env, context_of}
use Rattle.ep_tree.specs.Evaluation.{chosen, evaluate, number_in, numbered, reached, scalars_in}
use Rattle.ep_tree.specs.Faults.{Fault, domain_faults, end_faults, entry_count, faults, faults_of_all, faults_of_domains, faults_of_generators, faults_of_indices, faults_of_ranges, faults_of_terms, has_open_range, index_faults, is_power, leaves_matrix, open_domain, type_fault, unless}
use Rattle.ep_tree.specs.Limits.{numbers_at, products_from}
use Rattle.ep_tree.specs.Measures.{Met, a_generator, a_node, first_products, met, met_all, met_domain, met_domains, met_end, met_generators, met_index, met_indices, met_names, met_ranges, met_terms, number_reach, reaches_at}
use Rattle.ep_tree.specs.Names.{put}
use Rattle.ep_tree.specs.Reach.{Extent, Span, extent, reaches}
use Rattle.ep_tree.specs.Trees.{DomainTree, Domains, End, ExprTree, ExprTrees, Generators, IndexDomain, Indices, Ranges, Terms, absolute, all_different, all_of, any_of, at_least, at_most, binary, bool, chain, compare, comprehension, domain_and, end_at, every_and, factorial, flatten, folded, gcc, generator_and, group, group_domain, in_domain, in_set, index_and, int, lex, literal, matrix_domain, minus, named, named_domain, negation, no_domains, no_end, no_generators, no_indices, no_ranges, no_terms, no_trees, number, one_and, over, quantified, ranges, read, set_domain, span_and, table, term_and, to_int, tree_and, truth, unstated}
use Rattle.ep_tree.specs.Types.{Context, inside, inside_all, judge, judge_domain, judge_generators, quantified_name, reading_contexts, slice_count}
use Rattle.ep_tree.specs.Values.{ValueTree, matrix, scalars_of, single}
use Rattle.ep_tree.specs.declared.syntax.FoldOp.{FoldOp}
use Rattle.ep_tree.specs.declared.values.Mode.{Mode}
use Rattle.ep_reach_laws.specs.Reaches.{EachLiesInOne, LieInReaches, LiesInOne}
use Rattle.ep_reach_laws.proofs.AlikeEnvironments.{Alike, GeneratorsStand, QuantifierStands, Steps, chosen_alike, generated, generator_steps, quantifier_inside, quantifier_steps, reached_alike, standing_alike}
use Rattle.ep_reach_laws.proofs.Extents.{EachLies, Within, scalars_within}
use Rattle.ep_reach_laws.proofs.Lies.{as_decided, lies}

-- ---- numbers in intervals

one_before : (n : ℤ) (is js : List Interval) → LiesInOne n is → LiesInOne n (is ++ js)
one_before n [] js h = absurd h
one_before n (i ∷ is) js (inl h) = inl h
one_before n (i ∷ is) js (inr h) = inr (one_before n is js h)

one_behind : (n : ℤ) (is js : List Interval) → LiesInOne n js → LiesInOne n (is ++ js)
one_behind n [] js h = h
one_behind n (i ∷ is) js h = inr (one_behind n is js h)

each_before : (ns : List ℤ) (is js : List Interval) → EachLiesInOne ns is → EachLiesInOne ns (is ++ js)
each_before [] is js h = tt
each_before (n ∷ ns) is js h = (one_before n is js h.0, each_before ns is js h.1)

each_behind : (ns : List ℤ) (is js : List Interval) → EachLiesInOne ns js → EachLiesInOne ns (is ++ js)
each_behind [] is js h = tt
each_behind (n ∷ ns) is js h = (one_behind n is js h.0, each_behind ns is js h.1)

each_joined : (ns ms : List ℤ) (is : List Interval) → EachLiesInOne ns is → EachLiesInOne ms is → EachLiesInOne (ns ++ ms) is
each_joined [] ms is h k = k
each_joined (n ∷ ns) ms is h k = (h.0, each_joined ns ms is h.1 k)

pub each_both : (ns ms : List ℤ) (is js : List Interval) → EachLiesInOne ns is → EachLiesInOne ms js → EachLiesInOne (ns ++ ms) (is ++ js)
each_both ns ms is js h k = each_joined ns ms (is ++ js) (each_before ns is js h) (each_behind ms is js k)

-- ---- one node

number_lies : (o : Option ValueTree) (x : Extent) → Within x o → EachLiesInOne (option_to_list (number_in o)) (number_reach x)
unfolding number_in number_reach
number_lies None x w = tt
number_lies (Some (single n)) (single s) w = (inl (w (single n) refl), tt)
number_lies (Some (single n)) (matrix is xs) w = absurd (w (single n) refl)
number_lies (Some (matrix is vs)) x w = tt

-- the products of the first numbers, for each count of them
first_lie : (before : ℤ) (i : Interval) → LiesIn before i → (ns : List ℤ) (ss : List Span) → EachLies ns ss → EachLiesInOne (products_from before ns) (first_products i (reaches ss))
unfolding products_from first_products
first_lie before i h [] [] k = tt
first_lie before i h [] (s ∷ ss) k = absurd k
first_lie before i h (n ∷ ns) [] k = absurd k
first_lie before i h (n ∷ ns) (s ∷ ss) k =
    let one : _ = product_lies before n i s.reach h k.0 in
    (inl one, each_behind (products_from (before *ℤ n) ns) (_ ∷ []) _ (first_lie (before *ℤ n) _ one ns ss k.1))

products_lie : (o : Option ValueTree) (x : Extent) → Within x o
    → EachLiesInOne (products_from (pos 1) (unwrap_or (scalars_in o) [])) (first_products (only (pos 1)) (reaches (scalars_of x)))
unfolding products_from
products_lie None x w = tt
products_lie (Some v) x w =
    first_lie (pos 1) (only (pos 1)) (omega (arith, ints), omega (arith, ints)) (scalars_of v) (scalars_of x) (scalars_within (Some v) x w (scalars_of v) refl)

number_at : (mode : Mode) (e : ExprTree) (cells values : Env) → Alike cells values → faults (context_of cells) true e ≡ []
    → EachLiesInOne (option_to_list (number_in (evaluate mode values e))) (number_reach (extent mode cells e))
number_at mode e cells values a none = number_lies (evaluate mode values e) (extent mode cells e) (lies mode e cells values a none)

product_at : (mode : Mode) (e m : ExprTree) (cells values : Env) → Alike cells values → faults (context_of cells) true e ≡ [] → faults (context_of cells) true m ≡ []
    → EachLiesInOne (option_to_list (number_in (evaluate mode values e)) ++ products_from (pos 1) (unwrap_or (scalars_in (evaluate mode values m)) []))
    (number_reach (extent mode cells e) ++ first_products (only (pos 1)) (reaches (scalars_of (extent mode cells m))))
product_at mode e m cells values a none inner =
    each_both (option_to_list (number_in (evaluate mode values e))) (products_from (pos 1) (unwrap_or (scalars_in (evaluate mode values m)) []))
    (number_reach (extent mode cells e)) (first_products (only (pos 1)) (reaches (scalars_of (extent mode cells m))))
    (number_at mode e cells values a none)
    (products_lie (evaluate mode values m) (extent mode cells m) (lies mode m cells values a inner))

decided_at : (mode : Mode) (e : ExprTree) (cells values : Env) → Alike cells values → faults (context_of cells) true e ≡ []
    → EachLiesInOne (numbers_at mode (a_node values e)) (reaches_at mode (a_node cells e))
unfolding numbers_at reaches_at faults
decided_at mode (number p n) cells values a none = number_at mode (number p n) cells values a none
decided_at mode (truth p b) cells values a none = number_at mode (truth p b) cells values a none
decided_at mode (named p name) cells values a none = number_at mode (named p name) cells values a none
decided_at mode (group p e) cells values a none = number_at mode (group p e) cells values a none
decided_at mode (negation p e) cells values a none = number_at mode (negation p e) cells values a none
decided_at mode (minus p e) cells values a none = number_at mode (minus p e) cells values a none
decided_at mode (absolute p e) cells values a none = number_at mode (absolute p e) cells values a none
decided_at mode (to_int p e) cells values a none = number_at mode (to_int p e) cells values a none
decided_at mode (factorial p e) cells values a none = number_at mode (factorial p e) cells values a none
decided_at mode (flatten p m) cells values a none = number_at mode (flatten p m) cells values a none
decided_at mode (chain p terms) cells values a none = number_at mode (chain p terms) cells values a none
decided_at mode (binary p op x y) cells values a none = number_at mode (binary p op x y) cells values a none
decided_at mode (compare p op x y) cells values a none = number_at mode (compare p op x y) cells values a none
decided_at mode (lex p op x y) cells values a none = number_at mode (lex p op x y) cells values a none
decided_at mode (in_domain p e d) cells values a none = number_at mode (in_domain p e d) cells values a none
decided_at mode (in_set p e m) cells values a none = number_at mode (in_set p e m) cells values a none
decided_at mode (all_of p parts) cells values a none = number_at mode (all_of p parts) cells values a none
decided_at mode (any_of p parts) cells values a none = number_at mode (any_of p parts) cells values a none
decided_at mode (quantified p op names d e) cells values a none = number_at mode (quantified p op names d e) cells values a none
decided_at mode (literal p parts d) cells values a none = number_at mode (literal p parts d) cells values a none
decided_at mode (comprehension p e gens conditions d) cells values a none = number_at mode (comprehension p e gens conditions d) cells values a none
decided_at mode (read p m indices) cells values a none = number_at mode (read p m indices) cells values a none
decided_at mode (folded p FoldOp.Sum m) cells values a none = number_at mode (folded p FoldOp.Sum m) cells values a none
decided_at mode (folded p FoldOp.And m) cells values a none = number_at mode (folded p FoldOp.And m) cells values a none
decided_at mode (folded p FoldOp.Or m) cells values a none = number_at mode (folded p FoldOp.Or m) cells values a none
decided_at mode (folded p FoldOp.Min m) cells values a none = number_at mode (folded p FoldOp.Min m) cells values a none
decided_at mode (folded p FoldOp.Max m) cells values a none = number_at mode (folded p FoldOp.Max m) cells values a none
decided_at mode (all_different p m) cells values a none = number_at mode (all_different p m) cells values a none
decided_at mode (gcc p m ns counts) cells values a none = number_at mode (gcc p m ns counts) cells values a none
decided_at mode (at_least p m counts ns) cells values a none = number_at mode (at_least p m counts ns) cells values a none
decided_at mode (at_most p m counts ns) cells values a none = number_at mode (at_most p m counts ns) cells values a none
decided_at mode (table p row rows) cells values a none = number_at mode (table p row rows) cells values a none
decided_at mode (folded p FoldOp.Product m) cells values a none =
    product_at mode (folded p FoldOp.Product m) m cells values a none (right_none (type_fault p (judge (context_of cells) (folded p FoldOp.Product m))) (faults (context_of cells) true m) none)

-- ---- many nodes

node_at : (mode : Mode) (cells values : Env) → Alike cells values → (f : Bool) (e : ExprTree) → faults (context_of cells) f e ≡ []
    → EachLiesInOne (numbers_at mode (a_node values e)) (reaches_at mode (a_node cells e))
node_at mode cells values a f e none = decided_at mode e cells values a (as_decided (context_of cells) f e none)

node : (mode : Mode) (cells values : Env) → Alike cells values → (f : Bool) (e : ExprTree) → faults (context_of cells) f e ≡ [] → (ms ns : List Met) → LieInReaches mode ms ns
    → LieInReaches mode (a_node cells e ∷ ms) (a_node values e ∷ ns)
node mode cells values a f e none ms ns h = (node_at mode cells values a f e none, h)

both : (mode : Mode) (ms ns ms' ns' : List Met) → LieInReaches mode ms ns → LieInReaches mode ms' ns' → LieInReaches mode (ms ++ ms') (ns ++ ns')
both mode [] [] ms' ns' h k = k
both mode [] (n ∷ ns) ms' ns' h k = absurd h
both mode (m ∷ ms) [] ms' ns' h k = absurd h
both mode (m ∷ ms) (n ∷ ns) ms' ns' h k = (h.0, both mode ms ns ms' ns' h.1 k)

flat_reach : (mode : Mode) (f : Env → List Met) (c : Context) (es os : List Env) → Paired Alike c es os
    → ((e o : Env) → Alike e o → context_of e ≡ c → LieInReaches mode (f e) (f o)) → LieInReaches mode (flat_map f es) (flat_map f os)
flat_reach mode f c [] [] h each = tt
flat_reach mode f c [] (o ∷ os) h each = absurd h
flat_reach mode f c (e ∷ es) [] h each = absurd h
flat_reach mode f c (e ∷ es) (o ∷ os) h each = both mode (f e) (f o) (flat_map f es) (flat_map f os) (each e o h.0.0 h.0.1) (flat_reach mode f c es os h.1 each)

maybe_reach : (mode : Mode) (f : Env → List Met) (c : Context) (es os : Option (List Env)) → MaybePaired Alike c es os
    → ((e o : Env) → Alike e o → context_of e ≡ c → LieInReaches mode (f e) (f o)) → LieInReaches mode (flat_map f (unwrap_or es [])) (flat_map f (unwrap_or os []))
maybe_reach mode f c None None h each = tt
maybe_reach mode f c None (Some os) h each = absurd h
maybe_reach mode f c (Some es) None h each = absurd h
maybe_reach mode f c (Some es) (Some os) h each = flat_reach mode f c es os h each

names_reach : (mode : Mode) (d : DomainTree) (here : List Name → Env → List Met) (inner : Env → List Met) (H : List Name → Context → Type 0) → Steps d H
    → ((name : Name) (names : List Name) (env other : Env) → Alike env other → H (name ∷ names) (context_of env) → LieInReaches mode (here (name ∷ names) env) (here (name ∷ names) other))
    → ((env other : Env) → Alike env other → H [] (context_of env) → LieInReaches mode (inner env) (inner other))
    → (names : List Name) (env other : Env) → Alike env other → H names (context_of env)
    → LieInReaches mode (met_names here (numbered mode d) inner names env) (met_names here (numbered mode d) inner names other)
unfolding met_names
names_reach mode d here inner H steps first each [] env other a h = each env other a h
names_reach mode d here inner H steps first each (name ∷ names) env other a h =
    let p : _ = steps name names env h in
    both mode (here (name ∷ names) env) (here (name ∷ names) other)
    (flat_map (met_names here (numbered mode d) inner names) (unwrap_or (numbered mode d name env) []))
    (flat_map (met_names here (numbered mode d) inner names) (unwrap_or (numbered mode d name other) []))
    (first name names env other a h)
    (maybe_reach mode (met_names here (numbered mode d) inner names) (put name (quantified_name (judge_domain (context_of env) d)) (context_of env))
    (numbered mode d name env) (numbered mode d name other) (standing_alike mode d env other a p.0 p.1.0 p.1.1 p.1.2 name)
    (λ e o l q. names_reach mode d here inner H steps first each names e o l (subst (H names) (sym q) p.2)))

mutual
  unfolding met faults met_domain domain_faults met_all faults_of_all met_terms faults_of_terms met_indices faults_of_indices met_ranges faults_of_ranges met_end end_faults met_domains faults_of_domains met_index index_faults met_generators faults_of_generators judge judge_generators reading_contexts inside numbers_at

  -- The numbers at what an expression meets lie in the reaches there.
  pub reach : (mode : Mode) (cells values : Env) → Alike cells values → (f : Bool) (e : ExprTree) → faults (context_of cells) f e ≡ []
      → LieInReaches mode (met mode cells e) (met mode values e)
  reach mode cells values r f (number p n) none = (node_at mode cells values r f (number p n) none, tt)
  reach mode cells values r f (truth p b) none = (node_at mode cells values r f (truth p b) none, tt)
  reach mode cells values r f (named p name) none = (node_at mode cells values r f (named p name) none, tt)
  reach mode cells values r f (group p e) none = node mode cells values r f (group p e) none (met mode cells e) (met mode values e) (reach mode cells values r f e none)
  reach mode cells values r f (negation p e) none =
      node mode cells values r f (negation p e) none (met mode cells e) (met mode values e)
      (reach mode cells values r f e (right_none (type_fault p (judge (context_of cells) (negation p e))) (faults (context_of cells) f e) none))
  reach mode cells values r f (minus p e) none =
      node mode cells values r f (minus p e) none (met mode cells e) (met mode values e)
      (reach mode cells values r f e (right_none (type_fault p (judge (context_of cells) (minus p e))) (faults (context_of cells) f e) none))
  reach mode cells values r f (absolute p e) none =
      node mode cells values r f (absolute p e) none (met mode cells e) (met mode values e)
      (reach mode cells values r f e (right_none (type_fault p (judge (context_of cells) (absolute p e))) (faults (context_of cells) f e) none))
  reach mode cells values r f (to_int p e) none =
      node mode cells values r f (to_int p e) none (met mode cells e) (met mode values e)
      (reach mode cells values r f e (right_none (type_fault p (judge (context_of cells) (to_int p e))) (faults (context_of cells) f e) none))
  reach mode cells values r f (factorial p e) none =
      node mode cells values r f (factorial p e) none (met mode cells e) (met mode values e)
      (reach mode cells values r false e (right_none (type_fault p (judge (context_of cells) (factorial p e))) (faults (context_of cells) false e) none))
  reach mode cells values r f (flatten p e) none =
      node mode cells values r f (flatten p e) none (met mode cells e) (met mode values e)
      (reach mode cells values r f e (right_none (type_fault p (judge (context_of cells) (flatten p e))) (faults (context_of cells) f e) none))
  reach mode cells values r f (folded p op e) none =
      node mode cells values r f (folded p op e) none (met mode cells e) (met mode values e)
      (reach mode cells values r f e (right_none (type_fault p (judge (context_of cells) (folded p op e))) (faults (context_of cells) f e) none))
  reach mode cells values r f (all_different p e) none =
      node mode cells values r f (all_different p e) none (met mode cells e) (met mode values e)
      (reach mode cells values r f e (right_none (type_fault p (judge (context_of cells) (all_different p e))) (faults (context_of cells) f e) none))
  reach mode cells values r f (chain p terms) none =
      node mode cells values r f (chain p terms) none (met_terms mode cells terms) (met_terms mode values terms)
      (reach_terms mode cells values r f terms (right_none (type_fault p (judge (context_of cells) (chain p terms))) (faults_of_terms (context_of cells) f terms) none))
  reach mode cells values r f (all_of p parts) none =
      node mode cells values r f (all_of p parts) none (met_all mode cells parts) (met_all mode values parts)
      (reach_all mode cells values r f parts (right_none (type_fault p (judge (context_of cells) (all_of p parts))) (faults_of_all (context_of cells) f parts) none))
  reach mode cells values r f (any_of p parts) none =
      node mode cells values r f (any_of p parts) none (met_all mode cells parts) (met_all mode values parts)
      (reach_all mode cells values r f parts (right_none (type_fault p (judge (context_of cells) (any_of p parts))) (faults_of_all (context_of cells) f parts) none))
  reach mode cells values r f (binary p op a b) none =
      node mode cells values r f (binary p op a b) none (met mode cells a ++ met mode cells b) (met mode values a ++ met mode values b)
      (both mode (met mode cells a) (met mode values a) (met mode cells b) (met mode values b)
      (reach mode cells values r f a (right_none (type_fault p (judge (context_of cells) (binary p op a b))) (faults (context_of cells) f a) (left_none (type_fault p (judge (context_of cells) (binary p op a b)) ++ faults (context_of cells) f a) (faults (context_of cells) (f && not (is_power op)) b) none)))
      (reach mode cells values r (f && not (is_power op)) b (right_none (type_fault p (judge (context_of cells) (binary p op a b)) ++ faults (context_of cells) f a) (faults (context_of cells) (f && not (is_power op)) b) none)))
  reach mode cells values r f (compare p op a b) none =
      node mode cells values r f (compare p op a b) none (met mode cells a ++ met mode cells b) (met mode values a ++ met mode values b)
      (both mode (met mode cells a) (met mode values a) (met mode cells b) (met mode values b)
      (reach mode cells values r f a (right_none (type_fault p (judge (context_of cells) (compare p op a b))) (faults (context_of cells) f a) (left_none (type_fault p (judge (context_of cells) (compare p op a b)) ++ faults (context_of cells) f a) (faults (context_of cells) f b) none)))
      (reach mode cells values r f b (right_none (type_fault p (judge (context_of cells) (compare p op a b)) ++ faults (context_of cells) f a) (faults (context_of cells) f b) none)))
  reach mode cells values r f (lex p op a b) none =
      node mode cells values r f (lex p op a b) none (met mode cells a ++ met mode cells b) (met mode values a ++ met mode values b)
      (both mode (met mode cells a) (met mode values a) (met mode cells b) (met mode values b)
      (reach mode cells values r f a (right_none (type_fault p (judge (context_of cells) (lex p op a b))) (faults (context_of cells) f a) (left_none (type_fault p (judge (context_of cells) (lex p op a b)) ++ faults (context_of cells) f a) (faults (context_of cells) f b) none)))
      (reach mode cells values r f b (right_none (type_fault p (judge (context_of cells) (lex p op a b)) ++ faults (context_of cells) f a) (faults (context_of cells) f b) none)))
  reach mode cells values r f (in_set p a b) none =
      node mode cells values r f (in_set p a b) none (met mode cells a ++ met mode cells b) (met mode values a ++ met mode values b)
      (both mode (met mode cells a) (met mode values a) (met mode cells b) (met mode values b)
      (reach mode cells values r f a (right_none (type_fault p (judge (context_of cells) (in_set p a b))) (faults (context_of cells) f a) (left_none (type_fault p (judge (context_of cells) (in_set p a b)) ++ faults (context_of cells) f a) (faults (context_of cells) f b) none)))
      (reach mode cells values r f b (right_none (type_fault p (judge (context_of cells) (in_set p a b)) ++ faults (context_of cells) f a) (faults (context_of cells) f b) none)))
  reach mode cells values r f (table p a b) none =
      node mode cells values r f (table p a b) none (met mode cells a ++ met mode cells b) (met mode values a ++ met mode values b)
      (both mode (met mode cells a) (met mode values a) (met mode cells b) (met mode values b)
      (reach mode cells values r f a (right_none (type_fault p (judge (context_of cells) (table p a b))) (faults (context_of cells) f a) (left_none (type_fault p (judge (context_of cells) (table p a b)) ++ faults (context_of cells) f a) (faults (context_of cells) false b) none)))
      (reach mode cells values r false b (right_none (type_fault p (judge (context_of cells) (table p a b)) ++ faults (context_of cells) f a) (faults (context_of cells) false b) none)))
  reach mode cells values r f (in_domain p e d) none =
      node mode cells values r f (in_domain p e d) none (met mode cells e ++ met_domain mode cells d) (met mode values e ++ met_domain mode values d)
      (both mode (met mode cells e) (met mode values e) (met_domain mode cells d) (met_domain mode values d)
      (reach mode cells values r f e (right_none (type_fault p (judge (context_of cells) (in_domain p e d))) (faults (context_of cells) f e) (left_none (type_fault p (judge (context_of cells) (in_domain p e d)) ++ faults (context_of cells) f e) (domain_faults (context_of cells) false d) none)))
      (reach_domain mode cells values r false d (right_none (type_fault p (judge (context_of cells) (in_domain p e d)) ++ faults (context_of cells) f e) (domain_faults (context_of cells) false d) none)))
  reach mode cells values r f (literal p parts d) none =
      node mode cells values r f (literal p parts d) none (met_all mode cells parts ++ met_index mode cells d) (met_all mode values parts ++ met_index mode values d)
      (both mode (met_all mode cells parts) (met_all mode values parts) (met_index mode cells d) (met_index mode values d)
      (reach_all mode cells values r f parts (right_none (type_fault p (judge (context_of cells) (literal p parts d))) (faults_of_all (context_of cells) f parts) (left_none (type_fault p (judge (context_of cells) (literal p parts d)) ++ faults_of_all (context_of cells) f parts) (index_faults (context_of cells) d) none)))
      (reach_index mode cells values r d (right_none (type_fault p (judge (context_of cells) (literal p parts d)) ++ faults_of_all (context_of cells) f parts) (index_faults (context_of cells) d) none)))
  reach mode cells values r f (read p m indices) none =
      node mode cells values r f (read p m indices) none (met mode cells m ++ met_indices mode cells indices) (met mode values m ++ met_indices mode values indices)
      (both mode (met mode cells m) (met mode values m) (met_indices mode cells indices) (met_indices mode values indices)
      (reach mode cells values r f m (right_none (type_fault p (judge (context_of cells) (read p m indices))) (faults (context_of cells) f m) (left_none (type_fault p (judge (context_of cells) (read p m indices)) ++ faults (context_of cells) f m) (faults_of_indices (context_of cells) (f && not (leaves_matrix (judge (context_of cells) m) (entry_count indices) (slice_count indices))) indices) none)))
      (reach_indices mode cells values r (f && not (leaves_matrix (judge (context_of cells) m) (entry_count indices) (slice_count indices))) indices (right_none (type_fault p (judge (context_of cells) (read p m indices)) ++ faults (context_of cells) f m) (faults_of_indices (context_of cells) (f && not (leaves_matrix (judge (context_of cells) m) (entry_count indices) (slice_count indices))) indices) none)))
  reach mode cells values r f (gcc p x y z) none =
      let second : _ = left_none ((type_fault p (judge (context_of cells) (gcc p x y z)) ++ faults (context_of cells) f x) ++ faults (context_of cells) false y) (faults (context_of cells) f z) none in
      node mode cells values r f (gcc p x y z) none ((met mode cells x ++ met mode cells y) ++ met mode cells z) ((met mode values x ++ met mode values y) ++ met mode values z)
      (both mode (met mode cells x ++ met mode cells y) (met mode values x ++ met mode values y) (met mode cells z) (met mode values z)
      (both mode (met mode cells x) (met mode values x) (met mode cells y) (met mode values y)
      (reach mode cells values r f x (right_none (type_fault p (judge (context_of cells) (gcc p x y z))) (faults (context_of cells) f x) (left_none (type_fault p (judge (context_of cells) (gcc p x y z)) ++ faults (context_of cells) f x) (faults (context_of cells) false y) second)))
      (reach mode cells values r false y (right_none (type_fault p (judge (context_of cells) (gcc p x y z)) ++ faults (context_of cells) f x) (faults (context_of cells) false y) second)))
      (reach mode cells values r f z (right_none ((type_fault p (judge (context_of cells) (gcc p x y z)) ++ faults (context_of cells) f x) ++ faults (context_of cells) false y) (faults (context_of cells) f z) none)))
  reach mode cells values r f (at_least p x y z) none =
      let second : _ = left_none ((type_fault p (judge (context_of cells) (at_least p x y z)) ++ faults (context_of cells) f x) ++ faults (context_of cells) false y) (faults (context_of cells) false z) none in
      node mode cells values r f (at_least p x y z) none ((met mode cells x ++ met mode cells y) ++ met mode cells z) ((met mode values x ++ met mode values y) ++ met mode values z)
      (both mode (met mode cells x ++ met mode cells y) (met mode values x ++ met mode values y) (met mode cells z) (met mode values z)
      (both mode (met mode cells x) (met mode values x) (met mode cells y) (met mode values y)
      (reach mode cells values r f x (right_none (type_fault p (judge (context_of cells) (at_least p x y z))) (faults (context_of cells) f x) (left_none (type_fault p (judge (context_of cells) (at_least p x y z)) ++ faults (context_of cells) f x) (faults (context_of cells) false y) second)))
      (reach mode cells values r false y (right_none (type_fault p (judge (context_of cells) (at_least p x y z)) ++ faults (context_of cells) f x) (faults (context_of cells) false y) second)))
      (reach mode cells values r false z (right_none ((type_fault p (judge (context_of cells) (at_least p x y z)) ++ faults (context_of cells) f x) ++ faults (context_of cells) false y) (faults (context_of cells) false z) none)))
  reach mode cells values r f (at_most p x y z) none =
      let second : _ = left_none ((type_fault p (judge (context_of cells) (at_most p x y z)) ++ faults (context_of cells) f x) ++ faults (context_of cells) false y) (faults (context_of cells) false z) none in
      node mode cells values r f (at_most p x y z) none ((met mode cells x ++ met mode cells y) ++ met mode cells z) ((met mode values x ++ met mode values y) ++ met mode values z)
      (both mode (met mode cells x ++ met mode cells y) (met mode values x ++ met mode values y) (met mode cells z) (met mode values z)
      (both mode (met mode cells x) (met mode values x) (met mode cells y) (met mode values y)
      (reach mode cells values r f x (right_none (type_fault p (judge (context_of cells) (at_most p x y z))) (faults (context_of cells) f x) (left_none (type_fault p (judge (context_of cells) (at_most p x y z)) ++ faults (context_of cells) f x) (faults (context_of cells) false y) second)))
      (reach mode cells values r false y (right_none (type_fault p (judge (context_of cells) (at_most p x y z)) ++ faults (context_of cells) f x) (faults (context_of cells) false y) second)))
      (reach mode cells values r false z (right_none ((type_fault p (judge (context_of cells) (at_most p x y z)) ++ faults (context_of cells) f x) ++ faults (context_of cells) false y) (faults (context_of cells) false z) none)))
  reach mode cells values r f (quantified p op names d e) none =
      names_reach mode d (λ left inner. a_node inner (quantified p op left d e) ∷ met_domain mode inner d) (λ inner. met mode inner e)
      (QuantifierStands p op d e) (quantifier_steps p op d e)
      (λ name left en ot l k. (node_at mode en ot l true (quantified p op (name ∷ left) d e) k, reach_domain mode en ot l false d (quantifier_steps p op d e name left en k).0))
      (λ en ot l k. reach mode en ot l true e (quantifier_inside p op d e (context_of en) k))
      names cells values r (as_decided (context_of cells) f (quantified p op names d e) none)
  reach mode cells values r f (comprehension p e gens conditions d) none =
      let c : Context = context_of cells in
      let inner : Context = inside_all gens c in
      let g : _ = generated p e gens conditions d cells (as_decided c f (comprehension p e gens conditions d) none) in
      let gs : Env → List Met = λ x. met_generators mode x gens in
      let cs : Env → List Met = λ x. flat_map (λ y. met_all mode y conditions) (reached mode x gens) in
      let es : Env → List Met = λ x. flat_map (λ y. met mode y e) (chosen mode x gens conditions) in
      node mode cells values r f (comprehension p e gens conditions d) none
      (((gs cells ++ cs cells) ++ es cells) ++ met_index mode cells d) (((gs values ++ cs values) ++ es values) ++ met_index mode values d)
      (both mode ((gs cells ++ cs cells) ++ es cells) ((gs values ++ cs values) ++ es values) (met_index mode cells d) (met_index mode values d)
      (both mode (gs cells ++ cs cells) (gs values ++ cs values) (es cells) (es values)
      (both mode (gs cells) (gs values) (cs cells) (cs values) (reach_generators mode cells values r gens g.generators g.integers)
      (flat_reach mode (λ y. met_all mode y conditions) inner (reached mode cells gens) (reached mode values gens) (reached_alike mode gens cells values r g.generators g.integers)
      (λ en ot l q. reach_all mode en ot l false conditions (subst (λ x. faults_of_all x false conditions ≡ []) (sym q) g.conditions_none))))
      (flat_reach mode (λ y. met mode y e) inner (chosen mode cells gens conditions) (chosen mode values gens conditions)
      (chosen_alike mode gens conditions cells values r g.generators g.integers g.conditions_none)
      (λ en ot l q. reach mode en ot l true e (subst (λ x. faults x true e ≡ []) (sym q) g.inner))))
      (reach_index mode cells values r d g.index))

  reach_domain : (mode : Mode) (cells values : Env) → Alike cells values → (may_open : Bool) (d : DomainTree) → domain_faults (context_of cells) may_open d ≡ []
      → LieInReaches mode (met_domain mode cells d) (met_domain mode values d)
  reach_domain mode cells values r may_open (bool p) none = tt
  reach_domain mode cells values r may_open (int p) none = tt
  reach_domain mode cells values r may_open (ranges p rs) none =
      reach_ranges mode cells values r rs
      (right_none (unless (may_open || not (has_open_range rs)) (open_domain p) ++ type_fault p (judge_domain (context_of cells) (ranges p rs))) (faults_of_ranges (context_of cells) rs) none)
  reach_domain mode cells values r may_open (named_domain p name) none = tt
  reach_domain mode cells values r may_open (group_domain p d) none = reach_domain mode cells values r may_open d none
  reach_domain mode cells values r may_open (set_domain p op a b) none =
      let own : List Fault = type_fault p (judge_domain (context_of cells) (set_domain p op a b)) in
      both mode (met_domain mode cells a) (met_domain mode values a) (met_domain mode cells b) (met_domain mode values b)
      (reach_domain mode cells values r may_open a (right_none own (domain_faults (context_of cells) may_open a) (left_none (own ++ domain_faults (context_of cells) may_open a) (domain_faults (context_of cells) may_open b) none)))
      (reach_domain mode cells values r may_open b (right_none (own ++ domain_faults (context_of cells) may_open a) (domain_faults (context_of cells) may_open b) none))
  reach_domain mode cells values r may_open (matrix_domain p ds d) none =
      let own : List Fault = type_fault p (judge_domain (context_of cells) (matrix_domain p ds d)) in
      both mode (met_domains mode cells ds) (met_domains mode values ds) (met_domain mode cells d) (met_domain mode values d)
      (reach_domains mode cells values r ds (right_none own (faults_of_domains (context_of cells) ds) (left_none (own ++ faults_of_domains (context_of cells) ds) (domain_faults (context_of cells) may_open d) none)))
      (reach_domain mode cells values r may_open d (right_none (own ++ faults_of_domains (context_of cells) ds) (domain_faults (context_of cells) may_open d) none))

  reach_all : (mode : Mode) (cells values : Env) → Alike cells values → (f : Bool) (es : ExprTrees) → faults_of_all (context_of cells) f es ≡ []
      → LieInReaches mode (met_all mode cells es) (met_all mode values es)
  reach_all mode cells values r f no_trees none = tt
  reach_all mode cells values r f (tree_and e es) none =
      both mode (met mode cells e) (met mode values e) (met_all mode cells es) (met_all mode values es)
      (reach mode cells values r f e (left_none (faults (context_of cells) f e) (faults_of_all (context_of cells) f es) none))
      (reach_all mode cells values r f es (right_none (faults (context_of cells) f e) (faults_of_all (context_of cells) f es) none))

  reach_terms : (mode : Mode) (cells values : Env) → Alike cells values → (f : Bool) (ts : Terms) → faults_of_terms (context_of cells) f ts ≡ []
      → LieInReaches mode (met_terms mode cells ts) (met_terms mode values ts)
  reach_terms mode cells values r f no_terms none = tt
  reach_terms mode cells values r f (term_and plus e ts) none =
      both mode (met mode cells e) (met mode values e) (met_terms mode cells ts) (met_terms mode values ts)
      (reach mode cells values r f e (left_none (faults (context_of cells) f e) (faults_of_terms (context_of cells) f ts) none))
      (reach_terms mode cells values r f ts (right_none (faults (context_of cells) f e) (faults_of_terms (context_of cells) f ts) none))

  reach_indices : (mode : Mode) (cells values : Env) → Alike cells values → (f : Bool) (is : Indices) → faults_of_indices (context_of cells) f is ≡ []
      → LieInReaches mode (met_indices mode cells is) (met_indices mode values is)
  reach_indices mode cells values r f no_indices none = tt
  reach_indices mode cells values r f (every_and is) none = reach_indices mode cells values r f is none
  reach_indices mode cells values r f (index_and e is) none =
      both mode (met mode cells e) (met mode values e) (met_indices mode cells is) (met_indices mode values is)
      (reach mode cells values r f e (left_none (faults (context_of cells) f e) (faults_of_indices (context_of cells) f is) none))
      (reach_indices mode cells values r f is (right_none (faults (context_of cells) f e) (faults_of_indices (context_of cells) f is) none))

  reach_ranges : (mode : Mode) (cells values : Env) → Alike cells values → (rs : Ranges) → faults_of_ranges (context_of cells) rs ≡ []
      → LieInReaches mode (met_ranges mode cells rs) (met_ranges mode values rs)
  reach_ranges mode cells values r no_ranges none = tt
  reach_ranges mode cells values r (one_and e rs) none =
      both mode (met mode cells e) (met mode values e) (met_ranges mode cells rs) (met_ranges mode values rs)
      (reach mode cells values r false e (left_none (faults (context_of cells) false e) (faults_of_ranges (context_of cells) rs) none))
      (reach_ranges mode cells values r rs (right_none (faults (context_of cells) false e) (faults_of_ranges (context_of cells) rs) none))
  reach_ranges mode cells values r (span_and a b rs) none =
      let ends : _ = left_none (end_faults (context_of cells) a ++ end_faults (context_of cells) b) (faults_of_ranges (context_of cells) rs) none in
      both mode (met_end mode cells a ++ met_end mode cells b) (met_end mode values a ++ met_end mode values b) (met_ranges mode cells rs) (met_ranges mode values rs)
      (both mode (met_end mode cells a) (met_end mode values a) (met_end mode cells b) (met_end mode values b)
      (reach_end mode cells values r a (left_none (end_faults (context_of cells) a) (end_faults (context_of cells) b) ends))
      (reach_end mode cells values r b (right_none (end_faults (context_of cells) a) (end_faults (context_of cells) b) ends)))
      (reach_ranges mode cells values r rs (right_none (end_faults (context_of cells) a ++ end_faults (context_of cells) b) (faults_of_ranges (context_of cells) rs) none))

  reach_end : (mode : Mode) (cells values : Env) → Alike cells values → (end : End) → end_faults (context_of cells) end ≡ []
      → LieInReaches mode (met_end mode cells end) (met_end mode values end)
  reach_end mode cells values r no_end none = tt
  reach_end mode cells values r (end_at e) none = reach mode cells values r false e none

  reach_domains : (mode : Mode) (cells values : Env) → Alike cells values → (ds : Domains) → faults_of_domains (context_of cells) ds ≡ []
      → LieInReaches mode (met_domains mode cells ds) (met_domains mode values ds)
  reach_domains mode cells values r no_domains none = tt
  reach_domains mode cells values r (domain_and d ds) none =
      both mode (met_domain mode cells d) (met_domain mode values d) (met_domains mode cells ds) (met_domains mode values ds)
      (reach_domain mode cells values r false d (left_none (domain_faults (context_of cells) false d) (faults_of_domains (context_of cells) ds) none))
      (reach_domains mode cells values r ds (right_none (domain_faults (context_of cells) false d) (faults_of_domains (context_of cells) ds) none))

  reach_index : (mode : Mode) (cells values : Env) → Alike cells values → (index : IndexDomain) → index_faults (context_of cells) index ≡ []
      → LieInReaches mode (met_index mode cells index) (met_index mode values index)
  reach_index mode cells values r unstated none = tt
  reach_index mode cells values r (over d) none = reach_domain mode cells values r false d none

  reach_generators : (mode : Mode) (cells values : Env) → Alike cells values → (gens : Generators) → faults_of_generators (context_of cells) gens ≡ []
      → Integers (judge_generators (context_of cells) gens) → LieInReaches mode (met_generators mode cells gens) (met_generators mode values gens)
  reach_generators mode cells values r no_generators none ints = tt
  reach_generators mode cells values r (generator_and names d gens) none ints =
      names_reach mode d (λ left inner. a_generator ∷ met_domain mode inner d) (λ inner. met_generators mode inner gens)
      (GeneratorsStand d gens) (generator_steps d gens)
      (λ name left en ot l k. (tt, reach_domain mode en ot l false d (generator_steps d gens name left en k).0))
      (λ en ot l k. reach_generators mode en ot l gens k.0 k.1)
      names cells values r (none, ints)

pub numbers_lie_in_reaches : (mode : Mode) (cells values : Env) (e : ExprTree) → Agreed cells values e → LieInReaches mode (met mode cells e) (met mode values e)
numbers_lie_in_reaches mode cells values e agreed = reach mode cells values (record { agree = agreed.agree; typed = agreed.typed }) true e agreed.faultless
