-- What holds of environments that agree but for decision variables.
use Rattle.std.specs.Prelude.{◌≡◌, ◌&&◌, ◌||◌, suc, ◌+◌, List, [], ◌∷◌, ◌++◌, map, length, ℤ, Bool, true, false, not, if◌then◌else◌, Some, None, bytes_eq, flat_map, Option, unwrap_or, refl}
use Rattle.std.proofs.Common.{ap, arith, subst, sym, ◌∙◌}
use Rattle.ep_base.specs.declared.names.Name.{Name}
use Rattle.ep_tree_laws.proofs.DecidedValues.{same_numbers, value_decided, values_decided, numbers_decided}
use Rattle.ep_tree_laws.proofs.Deciding.{left_none, right_none}
use Rattle.ep_tree_laws.proofs.Fixed.{env_flagged, fixed_faultless}
use Rattle.ep_tree_laws.proofs.Pairs.{EachSame, Integers, MaybePaired, Paired, Same, comprehension_readings, holding_paired, integers_split, quantified_readings, reached_paired, standing_paired}
use Rattle.ep_tree_laws.proofs.Typing as typing
use Rattle.ep_tree_laws.specs.DecidedValues.{BoundsAreKept, IsKeptBound}
use Rattle.ep_tree.specs.Agreement.{Agree, AgreeOn, Agreed}
use Rattle.ep_tree.specs.Environments.{Bound, Env, context_of, has_cells, has_domain, has_value, with_number}
use Rattle.ep_tree.specs.Evaluation.{chosen, domain_values, evaluate, holding, numbered, reached, values_of}
use Rattle.ep_tree.specs.Faults.{Fault, domain_faults, end_faults, entry_count, faults, faults_of_all, faults_of_domains, faults_of_generators, faults_of_indices, faults_of_ranges, faults_of_terms, has_open_range, index_faults, is_power, leaves_matrix, open_domain, type_fault, unless}
use Rattle.ep_tree.specs.Measures.{Met, a_generator, a_node, met, met_all, met_domain, met_domains, met_end, met_generators, met_index, met_indices, met_names, met_ranges, met_terms}
use Rattle.ep_tree.specs.Names.{put}
use Rattle.ep_tree.specs.Reach.{decisions_in, holds_decision}
use Rattle.ep_tree.specs.Trees.{DomainTree, Domains, End, ExprTree, ExprTrees, Generators, IndexDomain, Indices, Ranges, Terms, absolute, all_different, all_of, any_of, at_least, at_most, binary, bool, chain, compare, comprehension, domain_and, end_at, every_and, factorial, flatten, folded, gcc, generator_and, group, group_domain, in_domain, in_set, index_and, int, lex, literal, matrix_domain, minus, named, named_domain, negation, no_domains, no_end, no_generators, no_indices, no_ranges, no_terms, no_trees, number, one_and, over, quantified, ranges, read, set_domain, span_and, table, term_and, to_int, tree_and, truth, unstated}
use Rattle.ep_tree.specs.Types.{Context, Judged, inside, inside_all, judge, judge_all, judge_domain, judge_generators, judge_index, of_scalar, quantified_name, reading_contexts, slice_count}
use Rattle.ep_tree.specs.Values.{ValueTree, single}
use Rattle.ep_tree.specs.declared.values.Mode.{Mode}
use Rattle.ep_tree.specs.declared.values.Scalar.{Scalar}

-- ---- values that don't depend on decision variables

agreed_bound : (one other : Option Bound) → AgreeOn one other → IsKeptBound one other
unfolding IsKeptBound
agreed_bound None other h = tt
agreed_bound (Some (has_value t v)) other h = sym h
agreed_bound (Some (has_cells s is vs)) other h = tt
agreed_bound (Some (has_domain s is vs)) other h = sym h

pub agree_kept : (cells values : Env) → Agree cells values → BoundsAreKept cells values
agree_kept cells values h name = agreed_bound (cells name) (values name) (h name)

-- What holds no decision variable has one value.
pub fixed_value_is_kept : (mode : Mode) (cells values : Env) (e : ExprTree) → Agreed cells values e
    → holds_decision (decisions_in cells) e ≡ false → evaluate mode cells e ≡ evaluate mode values e
fixed_value_is_kept mode cells values e agreed h =
    value_decided mode cells values (agree_kept cells values agreed.agree) e
    (fixed_faultless (context_of cells) (decisions_in cells) (env_flagged cells) true e h agreed.faultless)

-- A domain has one list of numbers.
pub domain_is_kept : (mode : Mode) (cells values : Env) → Agree cells values → (d : DomainTree)
    → domain_faults (context_of cells) false d ≡ [] → domain_values mode cells d ≡ domain_values mode values d
domain_is_kept mode cells values h d none = numbers_decided mode cells values (agree_kept cells values h) false d none

-- ---- how much is met

agree_bound : (env other : Env) (name : Name) (s : Scalar) (n : ℤ) → Agree env other → Agree (with_number name s n env) (with_number name s n other)
unfolding with_number
agree_bound env other name s n h x = go (bytes_eq x name)
  where
    go : (b : Bool) → AgreeOn (if b then Some (has_value (of_scalar s) (single n)) else env x) (if b then Some (has_value (of_scalar s) (single n)) else other x)
    go true = refl
    go false = h x

agree_same : (mode : Mode) (d : DomainTree) → Same Agree mode d
agree_same mode d env other r none = same_numbers mode d env other (agree_kept env other r) none

agree_each : (mode : Mode) (gens : Generators) → EachSame Agree mode gens
agree_each mode no_generators = tt
agree_each mode (generator_and names d gens) = (agree_same mode d, agree_each mode gens)

-- as many are met
abbrev SameCount : List Met → List Met → Type 0
SameCount ms ns = length ms ≡ length ns

length_joined : (ms ns : List Met) → length (ms ++ ns) ≡ length ms + length ns
length_joined [] ns = omega arith
length_joined (m ∷ ms) ns = let e : length (ms ++ ns) ≡ length ms + length ns = length_joined ms ns in omega (arith, e)

both : (ms ms' ns ns' : List Met) → SameCount ms ms' → SameCount ns ns' → SameCount (ms ++ ns) (ms' ++ ns')
both ms ms' ns ns' p q = length_joined ms ns ∙ ap (λ n. n + length ns) p ∙ ap (λ n. length ms' + n) q ∙ sym (length_joined ms' ns')

node : (m m' : Met) (ms ms' : List Met) → SameCount ms ms' → SameCount (m ∷ ms) (m' ∷ ms')
node m m' ms ms' p = ap suc p

flat_count : (f : Env → List Met) (c : Context) (es os : List Env) → Paired Agree c es os
    → ((e o : Env) → Agree e o → context_of e ≡ c → SameCount (f e) (f o)) → SameCount (flat_map f es) (flat_map f os)
flat_count f c [] [] h each = refl
flat_count f c [] (o ∷ os) h each = absurd h
flat_count f c (e ∷ es) [] h each = absurd h
flat_count f c (e ∷ es) (o ∷ os) h each = both (f e) (f o) (flat_map f es) (flat_map f os) (each e o h.0.0 h.0.1) (flat_count f c es os h.1 each)

maybe_count : (f : Env → List Met) (c : Context) (es os : Option (List Env)) → MaybePaired Agree c es os
    → ((e o : Env) → Agree e o → context_of e ≡ c → SameCount (f e) (f o)) → SameCount (flat_map f (unwrap_or es [])) (flat_map f (unwrap_or os []))
maybe_count f c None None h each = refl
maybe_count f c None (Some os) h each = absurd h
maybe_count f c (Some es) None h each = absurd h
maybe_count f c (Some es) (Some os) h each = flat_count f c es os h each

names_count : (mode : Mode) (d : DomainTree) (here : List Name → Env → List Met)
    → ((names : List Name) (env other : Env) → Agree env other → domain_faults (context_of env) false d ≡ [] → SameCount (here names env) (here names other))
    → (inner : Env → List Met) (P : Context → Type 0) → ((env other : Env) → Agree env other → P (context_of env) → SameCount (inner env) (inner other))
    → (names : List Name) (env other : Env) → Agree env other
    → flat_map (λ c. domain_faults c false d) (reading_contexts names (λ c. judge_domain c d) (context_of env)) ≡ []
    → Integers (map (λ c. judge_domain c d) (reading_contexts names (λ c. judge_domain c d) (context_of env)))
    → P (inside names (λ c. judge_domain c d) (context_of env))
    → SameCount (met_names here (numbered mode d) inner names env) (met_names here (numbered mode d) inner names other)
unfolding met_names reading_contexts inside
names_count mode d here same inner P each [] env other r no_fault ints p = each env other r p
names_count mode d here same inner P each (name ∷ names) env other r no_fault ints p =
    let read_in : Context → Judged = λ c. judge_domain c d in
    let next : Context = put name (quantified_name (read_in (context_of env))) (context_of env) in
    let fs : Context → List Fault = λ c. flat_map (λ x. domain_faults x false d) (reading_contexts names read_in c) in
    let first : _ = left_none (domain_faults (context_of env) false d) (fs next) no_fault in
    let s : _ = agree_same mode d env other r first in
    both (here (name ∷ names) env) (here (name ∷ names) other)
    (flat_map (met_names here (numbered mode d) inner names) (unwrap_or (numbered mode d name env) []))
    (flat_map (met_names here (numbered mode d) inner names) (unwrap_or (numbered mode d name other) []))
    (same (name ∷ names) env other r first)
    (maybe_count (met_names here (numbered mode d) inner names) next (numbered mode d name env) (numbered mode d name other)
    (standing_paired Agree agree_bound mode d env other r s.0 s.1 ints.0.0 ints.0.1 ints.0.2 name)
    (λ e o l q. names_count mode d here same inner P each names e o l
    (subst (λ c. fs c ≡ []) (sym q) (right_none (domain_faults (context_of env) false d) (fs next) no_fault))
    (subst (λ c. Integers (map read_in (reading_contexts names read_in c))) (sym q) ints.1)
    (subst (λ c. P (inside names read_in c)) (sym q) p)))

mutual
  unfolding met faults met_domain domain_faults met_all faults_of_all met_terms faults_of_terms met_indices faults_of_indices met_ranges faults_of_ranges met_end end_faults met_domains faults_of_domains met_index index_faults met_generators faults_of_generators judge judge_generators

  -- An expression without a fault meets as many nodes.
  pub meets : (mode : Mode) (cells values : Env) → Agree cells values → (f : Bool) (e : ExprTree) → faults (context_of cells) f e ≡ []
      → length (met mode cells e) ≡ length (met mode values e)
  meets mode cells values r f (number p n) none = refl
  meets mode cells values r f (truth p b) none = refl
  meets mode cells values r f (named p name) none = refl
  meets mode cells values r f (group p e) none = node (a_node cells (group p e)) (a_node values (group p e)) (met mode cells e) (met mode values e) (meets mode cells values r f e none)
  meets mode cells values r f (negation p e) none =
      node (a_node cells (negation p e)) (a_node values (negation p e)) (met mode cells e) (met mode values e)
      (meets mode cells values r f e (right_none (type_fault p (judge (context_of cells) (negation p e))) (faults (context_of cells) f e) none))
  meets mode cells values r f (minus p e) none =
      node (a_node cells (minus p e)) (a_node values (minus p e)) (met mode cells e) (met mode values e)
      (meets mode cells values r f e (right_none (type_fault p (judge (context_of cells) (minus p e))) (faults (context_of cells) f e) none))
  meets mode cells values r f (absolute p e) none =
      node (a_node cells (absolute p e)) (a_node values (absolute p e)) (met mode cells e) (met mode values e)
      (meets mode cells values r f e (right_none (type_fault p (judge (context_of cells) (absolute p e))) (faults (context_of cells) f e) none))
  meets mode cells values r f (to_int p e) none =
      node (a_node cells (to_int p e)) (a_node values (to_int p e)) (met mode cells e) (met mode values e)
      (meets mode cells values r f e (right_none (type_fault p (judge (context_of cells) (to_int p e))) (faults (context_of cells) f e) none))
  meets mode cells values r f (factorial p e) none =
      node (a_node cells (factorial p e)) (a_node values (factorial p e)) (met mode cells e) (met mode values e)
      (meets mode cells values r false e (right_none (type_fault p (judge (context_of cells) (factorial p e))) (faults (context_of cells) false e) none))
  meets mode cells values r f (flatten p e) none =
      node (a_node cells (flatten p e)) (a_node values (flatten p e)) (met mode cells e) (met mode values e)
      (meets mode cells values r f e (right_none (type_fault p (judge (context_of cells) (flatten p e))) (faults (context_of cells) f e) none))
  meets mode cells values r f (folded p op e) none =
      node (a_node cells (folded p op e)) (a_node values (folded p op e)) (met mode cells e) (met mode values e)
      (meets mode cells values r f e (right_none (type_fault p (judge (context_of cells) (folded p op e))) (faults (context_of cells) f e) none))
  meets mode cells values r f (all_different p e) none =
      node (a_node cells (all_different p e)) (a_node values (all_different p e)) (met mode cells e) (met mode values e)
      (meets mode cells values r f e (right_none (type_fault p (judge (context_of cells) (all_different p e))) (faults (context_of cells) f e) none))
  meets mode cells values r f (chain p terms) none =
      node (a_node cells (chain p terms)) (a_node values (chain p terms)) (met_terms mode cells terms) (met_terms mode values terms)
      (meets_terms mode cells values r f terms (right_none (type_fault p (judge (context_of cells) (chain p terms))) (faults_of_terms (context_of cells) f terms) none))
  meets mode cells values r f (all_of p parts) none =
      node (a_node cells (all_of p parts)) (a_node values (all_of p parts)) (met_all mode cells parts) (met_all mode values parts)
      (meets_all mode cells values r f parts (right_none (type_fault p (judge (context_of cells) (all_of p parts))) (faults_of_all (context_of cells) f parts) none))
  meets mode cells values r f (any_of p parts) none =
      node (a_node cells (any_of p parts)) (a_node values (any_of p parts)) (met_all mode cells parts) (met_all mode values parts)
      (meets_all mode cells values r f parts (right_none (type_fault p (judge (context_of cells) (any_of p parts))) (faults_of_all (context_of cells) f parts) none))
  meets mode cells values r f (binary p op a b) none =
      node (a_node cells (binary p op a b)) (a_node values (binary p op a b)) (met mode cells a ++ met mode cells b) (met mode values a ++ met mode values b)
      (both (met mode cells a) (met mode values a) (met mode cells b) (met mode values b)
      (meets mode cells values r f a (right_none (type_fault p (judge (context_of cells) (binary p op a b))) (faults (context_of cells) f a) (left_none (type_fault p (judge (context_of cells) (binary p op a b)) ++ faults (context_of cells) f a) (faults (context_of cells) (f && not (is_power op)) b) none)))
      (meets mode cells values r (f && not (is_power op)) b (right_none (type_fault p (judge (context_of cells) (binary p op a b)) ++ faults (context_of cells) f a) (faults (context_of cells) (f && not (is_power op)) b) none)))
  meets mode cells values r f (compare p op a b) none =
      node (a_node cells (compare p op a b)) (a_node values (compare p op a b)) (met mode cells a ++ met mode cells b) (met mode values a ++ met mode values b)
      (both (met mode cells a) (met mode values a) (met mode cells b) (met mode values b)
      (meets mode cells values r f a (right_none (type_fault p (judge (context_of cells) (compare p op a b))) (faults (context_of cells) f a) (left_none (type_fault p (judge (context_of cells) (compare p op a b)) ++ faults (context_of cells) f a) (faults (context_of cells) f b) none)))
      (meets mode cells values r f b (right_none (type_fault p (judge (context_of cells) (compare p op a b)) ++ faults (context_of cells) f a) (faults (context_of cells) f b) none)))
  meets mode cells values r f (lex p op a b) none =
      node (a_node cells (lex p op a b)) (a_node values (lex p op a b)) (met mode cells a ++ met mode cells b) (met mode values a ++ met mode values b)
      (both (met mode cells a) (met mode values a) (met mode cells b) (met mode values b)
      (meets mode cells values r f a (right_none (type_fault p (judge (context_of cells) (lex p op a b))) (faults (context_of cells) f a) (left_none (type_fault p (judge (context_of cells) (lex p op a b)) ++ faults (context_of cells) f a) (faults (context_of cells) f b) none)))
      (meets mode cells values r f b (right_none (type_fault p (judge (context_of cells) (lex p op a b)) ++ faults (context_of cells) f a) (faults (context_of cells) f b) none)))
  meets mode cells values r f (in_set p a b) none =
      node (a_node cells (in_set p a b)) (a_node values (in_set p a b)) (met mode cells a ++ met mode cells b) (met mode values a ++ met mode values b)
      (both (met mode cells a) (met mode values a) (met mode cells b) (met mode values b)
      (meets mode cells values r f a (right_none (type_fault p (judge (context_of cells) (in_set p a b))) (faults (context_of cells) f a) (left_none (type_fault p (judge (context_of cells) (in_set p a b)) ++ faults (context_of cells) f a) (faults (context_of cells) f b) none)))
      (meets mode cells values r f b (right_none (type_fault p (judge (context_of cells) (in_set p a b)) ++ faults (context_of cells) f a) (faults (context_of cells) f b) none)))
  meets mode cells values r f (table p a b) none =
      node (a_node cells (table p a b)) (a_node values (table p a b)) (met mode cells a ++ met mode cells b) (met mode values a ++ met mode values b)
      (both (met mode cells a) (met mode values a) (met mode cells b) (met mode values b)
      (meets mode cells values r f a (right_none (type_fault p (judge (context_of cells) (table p a b))) (faults (context_of cells) f a) (left_none (type_fault p (judge (context_of cells) (table p a b)) ++ faults (context_of cells) f a) (faults (context_of cells) false b) none)))
      (meets mode cells values r false b (right_none (type_fault p (judge (context_of cells) (table p a b)) ++ faults (context_of cells) f a) (faults (context_of cells) false b) none)))
  meets mode cells values r f (in_domain p e d) none =
      node (a_node cells (in_domain p e d)) (a_node values (in_domain p e d)) (met mode cells e ++ met_domain mode cells d) (met mode values e ++ met_domain mode values d)
      (both (met mode cells e) (met mode values e) (met_domain mode cells d) (met_domain mode values d)
      (meets mode cells values r f e (right_none (type_fault p (judge (context_of cells) (in_domain p e d))) (faults (context_of cells) f e) (left_none (type_fault p (judge (context_of cells) (in_domain p e d)) ++ faults (context_of cells) f e) (domain_faults (context_of cells) false d) none)))
      (meets_domain mode cells values r false d (right_none (type_fault p (judge (context_of cells) (in_domain p e d)) ++ faults (context_of cells) f e) (domain_faults (context_of cells) false d) none)))
  meets mode cells values r f (literal p parts d) none =
      node (a_node cells (literal p parts d)) (a_node values (literal p parts d)) (met_all mode cells parts ++ met_index mode cells d) (met_all mode values parts ++ met_index mode values d)
      (both (met_all mode cells parts) (met_all mode values parts) (met_index mode cells d) (met_index mode values d)
      (meets_all mode cells values r f parts (right_none (type_fault p (judge (context_of cells) (literal p parts d))) (faults_of_all (context_of cells) f parts) (left_none (type_fault p (judge (context_of cells) (literal p parts d)) ++ faults_of_all (context_of cells) f parts) (index_faults (context_of cells) d) none)))
      (meets_index mode cells values r d (right_none (type_fault p (judge (context_of cells) (literal p parts d)) ++ faults_of_all (context_of cells) f parts) (index_faults (context_of cells) d) none)))
  meets mode cells values r f (read p m indices) none =
      node (a_node cells (read p m indices)) (a_node values (read p m indices)) (met mode cells m ++ met_indices mode cells indices) (met mode values m ++ met_indices mode values indices)
      (both (met mode cells m) (met mode values m) (met_indices mode cells indices) (met_indices mode values indices)
      (meets mode cells values r f m (right_none (type_fault p (judge (context_of cells) (read p m indices))) (faults (context_of cells) f m) (left_none (type_fault p (judge (context_of cells) (read p m indices)) ++ faults (context_of cells) f m) (faults_of_indices (context_of cells) (f && not (leaves_matrix (judge (context_of cells) m) (entry_count indices) (slice_count indices))) indices) none)))
      (meets_indices mode cells values r (f && not (leaves_matrix (judge (context_of cells) m) (entry_count indices) (slice_count indices))) indices (right_none (type_fault p (judge (context_of cells) (read p m indices)) ++ faults (context_of cells) f m) (faults_of_indices (context_of cells) (f && not (leaves_matrix (judge (context_of cells) m) (entry_count indices) (slice_count indices))) indices) none)))
  meets mode cells values r f (gcc p x y z) none =
      let second : _ = left_none ((type_fault p (judge (context_of cells) (gcc p x y z)) ++ faults (context_of cells) f x) ++ faults (context_of cells) false y) (faults (context_of cells) f z) none in
      node (a_node cells (gcc p x y z)) (a_node values (gcc p x y z)) ((met mode cells x ++ met mode cells y) ++ met mode cells z) ((met mode values x ++ met mode values y) ++ met mode values z)
      (both (met mode cells x ++ met mode cells y) (met mode values x ++ met mode values y) (met mode cells z) (met mode values z)
      (both (met mode cells x) (met mode values x) (met mode cells y) (met mode values y)
      (meets mode cells values r f x (right_none (type_fault p (judge (context_of cells) (gcc p x y z))) (faults (context_of cells) f x) (left_none (type_fault p (judge (context_of cells) (gcc p x y z)) ++ faults (context_of cells) f x) (faults (context_of cells) false y) second)))
      (meets mode cells values r false y (right_none (type_fault p (judge (context_of cells) (gcc p x y z)) ++ faults (context_of cells) f x) (faults (context_of cells) false y) second)))
      (meets mode cells values r f z (right_none ((type_fault p (judge (context_of cells) (gcc p x y z)) ++ faults (context_of cells) f x) ++ faults (context_of cells) false y) (faults (context_of cells) f z) none)))
  meets mode cells values r f (at_least p x y z) none =
      let second : _ = left_none ((type_fault p (judge (context_of cells) (at_least p x y z)) ++ faults (context_of cells) f x) ++ faults (context_of cells) false y) (faults (context_of cells) false z) none in
      node (a_node cells (at_least p x y z)) (a_node values (at_least p x y z)) ((met mode cells x ++ met mode cells y) ++ met mode cells z) ((met mode values x ++ met mode values y) ++ met mode values z)
      (both (met mode cells x ++ met mode cells y) (met mode values x ++ met mode values y) (met mode cells z) (met mode values z)
      (both (met mode cells x) (met mode values x) (met mode cells y) (met mode values y)
      (meets mode cells values r f x (right_none (type_fault p (judge (context_of cells) (at_least p x y z))) (faults (context_of cells) f x) (left_none (type_fault p (judge (context_of cells) (at_least p x y z)) ++ faults (context_of cells) f x) (faults (context_of cells) false y) second)))
      (meets mode cells values r false y (right_none (type_fault p (judge (context_of cells) (at_least p x y z)) ++ faults (context_of cells) f x) (faults (context_of cells) false y) second)))
      (meets mode cells values r false z (right_none ((type_fault p (judge (context_of cells) (at_least p x y z)) ++ faults (context_of cells) f x) ++ faults (context_of cells) false y) (faults (context_of cells) false z) none)))
  meets mode cells values r f (at_most p x y z) none =
      let second : _ = left_none ((type_fault p (judge (context_of cells) (at_most p x y z)) ++ faults (context_of cells) f x) ++ faults (context_of cells) false y) (faults (context_of cells) false z) none in
      node (a_node cells (at_most p x y z)) (a_node values (at_most p x y z)) ((met mode cells x ++ met mode cells y) ++ met mode cells z) ((met mode values x ++ met mode values y) ++ met mode values z)
      (both (met mode cells x ++ met mode cells y) (met mode values x ++ met mode values y) (met mode cells z) (met mode values z)
      (both (met mode cells x) (met mode values x) (met mode cells y) (met mode values y)
      (meets mode cells values r f x (right_none (type_fault p (judge (context_of cells) (at_most p x y z))) (faults (context_of cells) f x) (left_none (type_fault p (judge (context_of cells) (at_most p x y z)) ++ faults (context_of cells) f x) (faults (context_of cells) false y) second)))
      (meets mode cells values r false y (right_none (type_fault p (judge (context_of cells) (at_most p x y z)) ++ faults (context_of cells) f x) (faults (context_of cells) false y) second)))
      (meets mode cells values r false z (right_none ((type_fault p (judge (context_of cells) (at_most p x y z)) ++ faults (context_of cells) f x) ++ faults (context_of cells) false y) (faults (context_of cells) false z) none)))
  meets mode cells values r f (quantified p op names d e) none =
      let c : Context = context_of cells in
      let read_in : Context → Judged = λ x. judge_domain x d in
      let own : List Fault = type_fault p (judge c (quantified p op names d e)) in
      let fs : List Fault = flat_map (λ x. domain_faults x false d) (reading_contexts names read_in c) in
      let first : _ = left_none (own ++ fs) (faults (inside names read_in c) f e) none in
      let typed_node : _ = typing.expression_typed c (typing.context_typed cells) f (quantified p op names d e) none in
      names_count mode d (λ left inner. a_node inner (quantified p op left d e) ∷ met_domain mode inner d)
      (λ left en ot l m. node (a_node en (quantified p op left d e)) (a_node ot (quantified p op left d e)) (met_domain mode en d) (met_domain mode ot d) (meets_domain mode en ot l false d m))
      (λ inner. met mode inner e) (λ x. faults x f e ≡ []) (λ en ot l m. meets mode en ot l f e m)
      names cells values r (right_none own fs first)
      (quantified_readings (map read_in (reading_contexts names read_in c)) (judge (inside names read_in c) e) op typed_node)
      (right_none (own ++ fs) (faults (inside names read_in c) f e) none)
  meets mode cells values r f (comprehension p e gens conditions d) none =
      let c : Context = context_of cells in
      let inner : Context = inside_all gens c in
      let own : List Fault = type_fault p (judge c (comprehension p e gens conditions d)) in
      let third : _ = left_none (((own ++ index_faults c d) ++ faults_of_generators c gens) ++ faults_of_all inner false conditions) (faults inner f e) none in
      let second : _ = left_none ((own ++ index_faults c d) ++ faults_of_generators c gens) (faults_of_all inner false conditions) third in
      let first : _ = left_none (own ++ index_faults c d) (faults_of_generators c gens) second in
      let gens_none : faults_of_generators c gens ≡ [] = right_none (own ++ index_faults c d) (faults_of_generators c gens) second in
      let conditions_none : faults_of_all inner false conditions ≡ [] = right_none ((own ++ index_faults c d) ++ faults_of_generators c gens) (faults_of_all inner false conditions) third in
      let e_none : faults inner f e ≡ [] = right_none (((own ++ index_faults c d) ++ faults_of_generators c gens) ++ faults_of_all inner false conditions) (faults inner f e) none in
      let typed_node : _ = typing.expression_typed c (typing.context_typed cells) f (comprehension p e gens conditions d) none in
      let ints : _ = comprehension_readings (judge_index c d) (judge_generators c gens) (judge_all inner conditions) (judge inner e) typed_node in
      let pairs : _ = reached_paired Agree agree_bound mode gens (agree_each mode gens) cells values r gens_none ints in
      let truths : Env → List (Option ValueTree) = λ x. values_of mode x conditions in
      let held : _ = holding_paired Agree inner truths
      (λ en ot l q. values_decided mode en ot (agree_kept en ot l) conditions (subst (λ x. faults_of_all x false conditions ≡ []) (sym q) conditions_none))
      (reached mode cells gens) (reached mode values gens) pairs in
      let gs : Env → List Met = λ x. met_generators mode x gens in
      let cs : Env → List Met = λ x. flat_map (λ y. met_all mode y conditions) (reached mode x gens) in
      let es : Env → List Met = λ x. flat_map (λ y. met mode y e) (chosen mode x gens conditions) in
      node (a_node cells (comprehension p e gens conditions d)) (a_node values (comprehension p e gens conditions d))
      (((gs cells ++ cs cells) ++ es cells) ++ met_index mode cells d) (((gs values ++ cs values) ++ es values) ++ met_index mode values d)
      (both ((gs cells ++ cs cells) ++ es cells) ((gs values ++ cs values) ++ es values) (met_index mode cells d) (met_index mode values d)
      (both (gs cells ++ cs cells) (gs values ++ cs values) (es cells) (es values)
      (both (gs cells) (gs values) (cs cells) (cs values) (meets_generators mode cells values r gens gens_none ints)
      (flat_count (λ y. met_all mode y conditions) inner (reached mode cells gens) (reached mode values gens) pairs
      (λ en ot l q. meets_all mode en ot l false conditions (subst (λ x. faults_of_all x false conditions ≡ []) (sym q) conditions_none))))
      (flat_count (λ y. met mode y e) inner (holding truths (reached mode cells gens)) (holding truths (reached mode values gens)) held
      (λ en ot l q. meets mode en ot l f e (subst (λ x. faults x f e ≡ []) (sym q) e_none))))
      (meets_index mode cells values r d (right_none own (index_faults c d) first)))

  meets_domain : (mode : Mode) (cells values : Env) → Agree cells values → (may_open : Bool) (d : DomainTree) → domain_faults (context_of cells) may_open d ≡ []
      → SameCount (met_domain mode cells d) (met_domain mode values d)
  meets_domain mode cells values r may_open (bool p) none = refl
  meets_domain mode cells values r may_open (int p) none = refl
  meets_domain mode cells values r may_open (ranges p rs) none =
      meets_ranges mode cells values r rs
      (right_none (unless (may_open || not (has_open_range rs)) (open_domain p) ++ type_fault p (judge_domain (context_of cells) (ranges p rs))) (faults_of_ranges (context_of cells) rs) none)
  meets_domain mode cells values r may_open (named_domain p name) none = refl
  meets_domain mode cells values r may_open (group_domain p d) none = meets_domain mode cells values r may_open d none
  meets_domain mode cells values r may_open (set_domain p op a b) none =
      let own : List Fault = type_fault p (judge_domain (context_of cells) (set_domain p op a b)) in
      both (met_domain mode cells a) (met_domain mode values a) (met_domain mode cells b) (met_domain mode values b)
      (meets_domain mode cells values r may_open a (right_none own (domain_faults (context_of cells) may_open a) (left_none (own ++ domain_faults (context_of cells) may_open a) (domain_faults (context_of cells) may_open b) none)))
      (meets_domain mode cells values r may_open b (right_none (own ++ domain_faults (context_of cells) may_open a) (domain_faults (context_of cells) may_open b) none))
  meets_domain mode cells values r may_open (matrix_domain p ds d) none =
      let own : List Fault = type_fault p (judge_domain (context_of cells) (matrix_domain p ds d)) in
      both (met_domains mode cells ds) (met_domains mode values ds) (met_domain mode cells d) (met_domain mode values d)
      (meets_domains mode cells values r ds (right_none own (faults_of_domains (context_of cells) ds) (left_none (own ++ faults_of_domains (context_of cells) ds) (domain_faults (context_of cells) may_open d) none)))
      (meets_domain mode cells values r may_open d (right_none (own ++ faults_of_domains (context_of cells) ds) (domain_faults (context_of cells) may_open d) none))

  meets_all : (mode : Mode) (cells values : Env) → Agree cells values → (f : Bool) (es : ExprTrees) → faults_of_all (context_of cells) f es ≡ []
      → SameCount (met_all mode cells es) (met_all mode values es)
  meets_all mode cells values r f no_trees none = refl
  meets_all mode cells values r f (tree_and e es) none =
      both (met mode cells e) (met mode values e) (met_all mode cells es) (met_all mode values es)
      (meets mode cells values r f e (left_none (faults (context_of cells) f e) (faults_of_all (context_of cells) f es) none))
      (meets_all mode cells values r f es (right_none (faults (context_of cells) f e) (faults_of_all (context_of cells) f es) none))

  meets_terms : (mode : Mode) (cells values : Env) → Agree cells values → (f : Bool) (ts : Terms) → faults_of_terms (context_of cells) f ts ≡ []
      → SameCount (met_terms mode cells ts) (met_terms mode values ts)
  meets_terms mode cells values r f no_terms none = refl
  meets_terms mode cells values r f (term_and plus e ts) none =
      both (met mode cells e) (met mode values e) (met_terms mode cells ts) (met_terms mode values ts)
      (meets mode cells values r f e (left_none (faults (context_of cells) f e) (faults_of_terms (context_of cells) f ts) none))
      (meets_terms mode cells values r f ts (right_none (faults (context_of cells) f e) (faults_of_terms (context_of cells) f ts) none))

  meets_indices : (mode : Mode) (cells values : Env) → Agree cells values → (f : Bool) (is : Indices) → faults_of_indices (context_of cells) f is ≡ []
      → SameCount (met_indices mode cells is) (met_indices mode values is)
  meets_indices mode cells values r f no_indices none = refl
  meets_indices mode cells values r f (every_and is) none = meets_indices mode cells values r f is none
  meets_indices mode cells values r f (index_and e is) none =
      both (met mode cells e) (met mode values e) (met_indices mode cells is) (met_indices mode values is)
      (meets mode cells values r f e (left_none (faults (context_of cells) f e) (faults_of_indices (context_of cells) f is) none))
      (meets_indices mode cells values r f is (right_none (faults (context_of cells) f e) (faults_of_indices (context_of cells) f is) none))

  meets_ranges : (mode : Mode) (cells values : Env) → Agree cells values → (rs : Ranges) → faults_of_ranges (context_of cells) rs ≡ []
      → SameCount (met_ranges mode cells rs) (met_ranges mode values rs)
  meets_ranges mode cells values r no_ranges none = refl
  meets_ranges mode cells values r (one_and e rs) none =
      both (met mode cells e) (met mode values e) (met_ranges mode cells rs) (met_ranges mode values rs)
      (meets mode cells values r false e (left_none (faults (context_of cells) false e) (faults_of_ranges (context_of cells) rs) none))
      (meets_ranges mode cells values r rs (right_none (faults (context_of cells) false e) (faults_of_ranges (context_of cells) rs) none))
  meets_ranges mode cells values r (span_and a b rs) none =
      let ends : _ = left_none (end_faults (context_of cells) a ++ end_faults (context_of cells) b) (faults_of_ranges (context_of cells) rs) none in
      both (met_end mode cells a ++ met_end mode cells b) (met_end mode values a ++ met_end mode values b) (met_ranges mode cells rs) (met_ranges mode values rs)
      (both (met_end mode cells a) (met_end mode values a) (met_end mode cells b) (met_end mode values b)
      (meets_end mode cells values r a (left_none (end_faults (context_of cells) a) (end_faults (context_of cells) b) ends))
      (meets_end mode cells values r b (right_none (end_faults (context_of cells) a) (end_faults (context_of cells) b) ends)))
      (meets_ranges mode cells values r rs (right_none (end_faults (context_of cells) a ++ end_faults (context_of cells) b) (faults_of_ranges (context_of cells) rs) none))

  meets_end : (mode : Mode) (cells values : Env) → Agree cells values → (end : End) → end_faults (context_of cells) end ≡ []
      → SameCount (met_end mode cells end) (met_end mode values end)
  meets_end mode cells values r no_end none = refl
  meets_end mode cells values r (end_at e) none = meets mode cells values r false e none

  meets_domains : (mode : Mode) (cells values : Env) → Agree cells values → (ds : Domains) → faults_of_domains (context_of cells) ds ≡ []
      → SameCount (met_domains mode cells ds) (met_domains mode values ds)
  meets_domains mode cells values r no_domains none = refl
  meets_domains mode cells values r (domain_and d ds) none =
      both (met_domain mode cells d) (met_domain mode values d) (met_domains mode cells ds) (met_domains mode values ds)
      (meets_domain mode cells values r false d (left_none (domain_faults (context_of cells) false d) (faults_of_domains (context_of cells) ds) none))
      (meets_domains mode cells values r ds (right_none (domain_faults (context_of cells) false d) (faults_of_domains (context_of cells) ds) none))

  meets_index : (mode : Mode) (cells values : Env) → Agree cells values → (index : IndexDomain) → index_faults (context_of cells) index ≡ []
      → SameCount (met_index mode cells index) (met_index mode values index)
  meets_index mode cells values r unstated none = refl
  meets_index mode cells values r (over d) none = meets_domain mode cells values r false d none

  meets_generators : (mode : Mode) (cells values : Env) → Agree cells values → (gens : Generators) → faults_of_generators (context_of cells) gens ≡ []
      → Integers (judge_generators (context_of cells) gens) → SameCount (met_generators mode cells gens) (met_generators mode values gens)
  meets_generators mode cells values r no_generators none ints = refl
  meets_generators mode cells values r (generator_and names d gens) none ints =
      let c : Context = context_of cells in
      let read_in : Context → Judged = λ x. judge_domain x d in
      let fs : List Fault = flat_map (λ x. domain_faults x false d) (reading_contexts names read_in c) in
      let outer : Context = inside names read_in c in
      let i : _ = integers_split (map read_in (reading_contexts names read_in c)) (judge_generators outer gens) ints in
      names_count mode d (λ left inner. a_generator ∷ met_domain mode inner d)
      (λ left en ot l m. node a_generator a_generator (met_domain mode en d) (met_domain mode ot d) (meets_domain mode en ot l false d m))
      (λ inner. met_generators mode inner gens) (λ x. (faults_of_generators x gens ≡ []) × Integers (judge_generators x gens))
      (λ en ot l m. meets_generators mode en ot l gens m.0 m.1)
      names cells values r (left_none fs (faults_of_generators outer gens) none) i.0 (right_none fs (faults_of_generators outer gens) none, i.1)

-- An expression meets as many nodes, whether decision variables have cells or values.
pub meets_as_many : (mode : Mode) (cells values : Env) (e : ExprTree) → Agreed cells values e → length (met mode cells e) ≡ length (met mode values e)
meets_as_many mode cells values e agreed = meets mode cells values agreed.agree true e agreed.faultless
