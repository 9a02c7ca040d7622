-- The value of an expression: direct evaluation on its tree, under one mode and one environment.
--
-- In the relational mode an integer or a matrix without a value makes the nearest Boolean expression around it false,
-- and a Boolean expression always has a value; this is the relational semantics of Nightingale and others (2017). In
-- the strict mode every expression with a part without a value has none; this is the strict semantics of Frisch and
-- Stuckey (2009). An integer or matrix expression has no value where a part has none, after `/` and `%` by 0, and for a
-- read outside the index domains. That a read outside a Boolean matrix is false (relational) or undefined (strict), that
-- a matrix with one undefined part is undefined, what an undefined quantifier's domain or condition does, lists of
-- different lengths in a count or a table, and the remaining undefined forms are this project's own choice.
use Rattle.std.specs.Prelude.{ℕ, ◌+◌, Bool, true, false, not, ◌&&◌, ◌||◌, List, [], ◌∷◌, map, length, ℤ, pos, ◌*ℤ◌, neg_ℤ, is_some, if◌then◌else◌, Some, None, filter, flat_map, Option, unwrap_or, option_map, option_and_then}
use Rattle.std.specs.Int.{int_max, int_min}
use Rattle.std.specs.List.{list_all}
use Rattle.ep_base.specs.Numbers.{absolute_of, all_one, any_one, are_different, compare_holds, counts_hold, factorial_of, greatest_of, has_number, is_one, is_row_of, least_of, lex_holds, of_bool, power, product_of, quotient, remainder, sum_of}
use Rattle.ep_base.specs.Options.{map_both, on_both, on_three}
use Rattle.ep_base.specs.Runs.{counting}
use Rattle.ep_base.specs.declared.names.Name.{Name}
use Rattle.ep_base.specs.declared.operators.CompareOp.{CompareOp}
use Rattle.ep_tree.specs.Domains.{between, put_in, set_values, truth_values, united}
use Rattle.ep_tree.specs.Environments.{Env, context_of, domain_bound, scalar_in, value_bound, with_number}
use Rattle.ep_tree.specs.Trees.{DomainTree, End, ExprTree, ExprTrees, Generators, IndexDomain, Indices, Ranges, Terms, absolute, all_different, all_of, any_of, at_least, at_most, binary, bool, chain, compare, comprehension, end_at, every_and, factorial, flatten, folded, gcc, generator_and, group, group_domain, in_domain, in_set, index_and, int, lex, literal, matrix_domain, minus, named, named_domain, negation, no_end, no_generators, no_indices, no_ranges, no_terms, no_trees, number, one_and, over, quantified, ranges, read, set_domain, span_and, table, term_and, to_int, tree_and, truth, unstated}
use Rattle.ep_tree.specs.Types.{judge, type_from}
use Rattle.ep_tree.specs.Values.{Index, ValueTree, all_defined, any_index, at_index, list_value, matrix, read_value, rows_of, scalars_of, single, with_indices}
use Rattle.ep_tree.specs.declared.syntax.BinaryOp.{BinaryOp}
use Rattle.ep_tree.specs.declared.syntax.FoldOp.{FoldOp}
use Rattle.ep_tree.specs.declared.syntax.QuantOp.{QuantOp}
use Rattle.ep_tree.specs.declared.values.Mode.{Mode}
use Rattle.ep_tree.specs.declared.values.ValueType.{ValueType}

-- a Boolean that has a part without a value: it is 0 in the relational mode, and has no value in the strict mode
unfoldable pub undefined_truth : Mode → Option ValueTree
undefined_truth Mode.Relational = Some (single (pos 0))
undefined_truth Mode.Strict = None

-- a Boolean's value
unfoldable pub truth_in : Mode → Option Bool → Option ValueTree
truth_in mode None = undefined_truth mode
truth_in mode (Some b) = Some (single (of_bool b))

-- a number's value
abbrev pub number_value : Option ℤ → Option ValueTree
number_value n = option_map single n

-- the number of a value that is one
unfoldable pub number_in : Option ValueTree → Option ℤ
number_in None = None
number_in (Some (single n)) = Some n
number_in (Some (matrix indices parts)) = None

-- the truth of a value that is a number
abbrev pub truth_of : Option ValueTree → Option Bool
truth_of v = option_map is_one (number_in v)

-- the scalars of a value, row by row
abbrev pub scalars_in : Option ValueTree → Option (List ℤ)
scalars_in v = option_map scalars_of v

-- the rows of a value
abbrev pub rows_in : Option ValueTree → Option (List (List ℤ))
rows_in v = option_map rows_of v

-- the numbers of many values, where each is defined
abbrev pub all_numbers : List (Option ValueTree) → Option (List ℤ)
all_numbers vs = all_defined (map number_in vs)

-- whether many values are all true, where each is defined
unfoldable pub all_true : List (Option ValueTree) → Option Bool
all_true vs = option_map all_one (all_numbers vs)

-- whether one of many values is true, where each is defined
unfoldable pub any_true : List (Option ValueTree) → Option Bool
any_true vs = option_map any_one (all_numbers vs)

-- `*`, `/`, `%`, `**`, `min` and `max` of two numbers
unfoldable pub binary_number : BinaryOp → ℤ → ℤ → Option ℤ
binary_number BinaryOp.Mul x y = Some (x *ℤ y)
binary_number BinaryOp.Div x y = quotient x y
binary_number BinaryOp.Mod x y = remainder x y
binary_number BinaryOp.Pow x y = power x y
binary_number BinaryOp.Min x y = Some (int_min x y)
binary_number BinaryOp.Max x y = Some (int_max x y)
binary_number BinaryOp.Implies x y = Some (of_bool (not (is_one x) || is_one y))
binary_number BinaryOp.Iff x y = Some (of_bool (compare_holds CompareOp.Equal x y))

-- whether an operator joins Booleans
unfoldable pub joins_truths : BinaryOp → Bool
joins_truths BinaryOp.Implies = true
joins_truths BinaryOp.Iff = true
joins_truths _ = false

-- two numbers with an operator between them: a Boolean for `->` and `<->`, and else a number
unfoldable pub binary_value : Mode → BinaryOp → Option ℤ → Option ℤ → Option ValueTree
binary_value mode op a b =
    let n : Option ℤ = on_both a b (binary_number op) in
    if joins_truths op then truth_in mode (option_map is_one n) else number_value n

-- the value of a matrix folded into one
unfoldable pub folded_value : Mode → FoldOp → Option (List ℤ) → Option ValueTree
folded_value mode FoldOp.Sum xs = number_value (option_map sum_of xs)
folded_value mode FoldOp.Product xs = number_value (option_map product_of xs)
folded_value mode FoldOp.And xs = truth_in mode (option_map all_one xs)
folded_value mode FoldOp.Or xs = truth_in mode (option_map any_one xs)
folded_value mode FoldOp.Min xs = number_value (option_and_then least_of xs)
folded_value mode FoldOp.Max xs = number_value (option_and_then greatest_of xs)

-- A quantifier's value by the values of its instances in the order of the domain's values; there are none where the
-- domain is undefined.
unfoldable pub quantified_value : Mode → QuantOp → Option (List (Option ValueTree)) → Option ValueTree
quantified_value mode QuantOp.ForAll instances = truth_in mode (option_and_then all_true instances)
quantified_value mode QuantOp.Exists instances = truth_in mode (option_and_then any_true instances)
quantified_value mode QuantOp.Sum instances = number_value (option_map sum_of (option_and_then all_numbers instances))

-- What some names over one domain give. Each name in turn stands for each number of the domain, which is read anew with
-- the names before it, and what these environments give is joined; where the domain is undefined there are none.
unfoldable pub over_names :
    {A : Type 0} → (Name → Env → Option (List Env)) → (Option (List A) → A) → (Env → A) → List Name → Env → A
over_names numbered join inner [] env = inner env
over_names numbered join inner (name ∷ names) env =
    join (option_map (map (over_names numbered join inner names)) (numbered name env))

-- the environments in which a name stands for each number of a domain; there are none where the domain is undefined
unfoldable pub standing_for : DomainTree → (Env → Option (List ℤ)) → Name → Env → Option (List Env)
standing_for d numbers name env = option_map (map (λ n. with_number name (scalar_in env d) n env)) (numbers env)

-- all that some lists have, one list after another; nothing where there are none
unfoldable pub all_joined : {A : Type 0} → Option (List (List A)) → List A
all_joined None = []
all_joined (Some lists) = flat_map (λ xs. xs) lists

-- whether there are answers, and each is true
unfoldable pub all_hold : Option (List Bool) → Bool
all_hold None = false
all_hold (Some answers) = list_all (λ b. b) answers

-- the environments in which conditions hold
unfoldable pub holding : (Env → List (Option ValueTree)) → List Env → List Env
holding conditions envs = filter (λ env. unwrap_or (all_true (conditions env)) false) envs

-- whether conditions are defined in each of some environments, also behind one that is false
unfoldable pub are_told : (Env → List (Option ValueTree)) → List Env → Bool
are_told conditions envs = list_all (λ env. is_some (all_true (conditions env))) envs

-- parts as a matrix with these indices, which are as many; it has no value where a part or the indices have none
unfoldable pub matrix_value : (ℕ → Option (List ℤ)) → List (Option ValueTree) → Option ValueTree
matrix_value indices parts = on_both (indices (length parts)) (all_defined parts) with_indices

-- a read's value: in the relational mode it is 0 where it would be a Boolean and there is none
unfoldable pub read_result : Mode → ValueType → Option ValueTree → Option ValueTree
read_result Mode.Relational ValueType.Bool None = Some (single (pos 0))
read_result mode t v = v

-- the type of an expression in an environment; Int where it has none
unfoldable pub type_in : Env → ExprTree → ValueType
type_in env e = unwrap_or (type_from (judge (context_of env) e)) ValueType.Int

-- the sign of a term
unfoldable pub signed : Bool → ℤ → ℤ
signed true x = x
signed false x = neg_ℤ x

unfoldable mutual
  -- the value of an expression, or None where it has none
  pub evaluate : Mode → Env → ExprTree → Option ValueTree
  evaluate mode env (number _ n) = Some (single n)
  evaluate mode env (truth _ b) = Some (single (of_bool b))
  evaluate mode env (named _ name) = value_bound (env name)
  evaluate mode env (group _ e) = evaluate mode env e
  evaluate mode env (negation _ e) = truth_in mode (option_map not (truth_of (evaluate mode env e)))
  evaluate mode env (minus _ e) = number_value (option_map neg_ℤ (number_in (evaluate mode env e)))
  evaluate mode env (absolute _ e) = number_value (option_map absolute_of (number_in (evaluate mode env e)))
  evaluate mode env (to_int _ e) = evaluate mode env e
  evaluate mode env (factorial _ e) = number_value (option_and_then factorial_of (number_in (evaluate mode env e)))
  evaluate mode env (flatten _ m) = option_map list_value (scalars_in (evaluate mode env m))
  evaluate mode env (chain _ terms) = number_value (option_map sum_of (all_defined (term_values mode env terms)))
  evaluate mode env (binary _ op a b) =
      binary_value mode op (number_in (evaluate mode env a)) (number_in (evaluate mode env b))
  evaluate mode env (compare _ op a b) =
      truth_in mode (map_both (compare_holds op) (number_in (evaluate mode env a)) (number_in (evaluate mode env b)))
  evaluate mode env (lex _ op a b) =
      truth_in mode (map_both (lex_holds op) (scalars_in (evaluate mode env a)) (scalars_in (evaluate mode env b)))
  evaluate mode env (in_domain _ e d) =
      truth_in mode (map_both has_number (domain_values mode env d) (number_in (evaluate mode env e)))
  evaluate mode env (in_set _ e m) =
      truth_in mode (map_both has_number (scalars_in (evaluate mode env m)) (number_in (evaluate mode env e)))
  evaluate mode env (all_of _ parts) = truth_in mode (all_true (values_of mode env parts))
  evaluate mode env (any_of _ parts) = truth_in mode (any_true (values_of mode env parts))
  evaluate mode env (quantified _ op names d e) =
      over_names (standing_for d (λ inner. domain_values mode inner d))
      (quantified_value mode op) (λ inner. evaluate mode inner e) names env
  evaluate mode env (literal _ parts d) = matrix_value (index_values mode env d) (values_of mode env parts)
  evaluate mode env (comprehension _ e gens conditions d) =
      if domains_defined mode env gens && are_told (λ inner. values_of mode inner conditions) (reached mode env gens)
      then matrix_value (index_values mode env d)
      (map (λ inner. evaluate mode inner e)
      (holding (λ inner. values_of mode inner conditions) (reached mode env gens)))
      else None
  evaluate mode env (read p m indices) =
      read_result mode (type_in env (read p m indices))
      (on_both (index_list mode env indices) (evaluate mode env m) read_value)
  evaluate mode env (folded _ op m) = folded_value mode op (scalars_in (evaluate mode env m))
  evaluate mode env (all_different _ m) = truth_in mode (option_map are_different (scalars_in (evaluate mode env m)))
  evaluate mode env (gcc _ m values counts) =
      truth_in mode
      (on_three
      (scalars_in (evaluate mode env m)) (scalars_in (evaluate mode env values)) (scalars_in (evaluate mode env counts))
      (counts_hold CompareOp.Equal))
  evaluate mode env (at_least _ m counts values) =
      truth_in mode
      (on_three
      (scalars_in (evaluate mode env m)) (scalars_in (evaluate mode env values)) (scalars_in (evaluate mode env counts))
      (counts_hold CompareOp.AtLeast))
  evaluate mode env (at_most _ m counts values) =
      truth_in mode
      (on_three
      (scalars_in (evaluate mode env m)) (scalars_in (evaluate mode env values)) (scalars_in (evaluate mode env counts))
      (counts_hold CompareOp.AtMost))
  evaluate mode env (table _ row rows) =
      truth_in mode (on_both (rows_in (evaluate mode env rows)) (scalars_in (evaluate mode env row)) is_row_of)

  -- the numbers of a scalar domain in ascending order, or None where a bound has no value or a range is open
  pub domain_values : Mode → Env → DomainTree → Option (List ℤ)
  domain_values mode env (bool _) = Some truth_values
  domain_values mode env (int _) = None
  domain_values mode env (ranges _ rs) = range_values mode env rs
  domain_values mode env (named_domain _ name) = domain_bound (env name)
  domain_values mode env (group_domain _ d) = domain_values mode env d
  domain_values mode env (set_domain _ op c d) =
      map_both (set_values op) (domain_values mode env c) (domain_values mode env d)
  domain_values mode env (matrix_domain _ ds d) = None

  -- the values of some expressions
  pub values_of : Mode → Env → ExprTrees → List (Option ValueTree)
  values_of mode env no_trees = []
  values_of mode env (tree_and e es) = evaluate mode env e ∷ values_of mode env es

  -- the numbers of the terms of a chain, each with its sign
  pub term_values : Mode → Env → Terms → List (Option ℤ)
  term_values mode env no_terms = []
  term_values mode env (term_and plus e terms) =
      option_map (signed plus) (number_in (evaluate mode env e)) ∷ term_values mode env terms

  -- the indices of a read
  pub index_list : Mode → Env → Indices → Option (List Index)
  index_list mode env no_indices = Some []
  index_list mode env (every_and indices) = option_map (λ is. any_index ∷ is) (index_list mode env indices)
  index_list mode env (index_and e indices) =
      map_both (λ i is. at_index i ∷ is) (number_in (evaluate mode env e)) (index_list mode env indices)

  -- the numbers of ranges together
  pub range_values : Mode → Env → Ranges → Option (List ℤ)
  range_values mode env no_ranges = Some []
  range_values mode env (one_and e rs) =
      map_both put_in (number_in (evaluate mode env e)) (range_values mode env rs)
  range_values mode env (span_and a b rs) =
      map_both united (map_both between (end_value mode env a) (end_value mode env b)) (range_values mode env rs)

  -- the number at an end of a range, which an open one doesn't have
  pub end_value : Mode → Env → End → Option ℤ
  end_value mode env no_end = None
  end_value mode env (end_at e) = number_in (evaluate mode env e)

  -- the indices of so many parts: the index domain's values, else the numbers from 1 on
  pub index_values : Mode → Env → IndexDomain → ℕ → Option (List ℤ)
  index_values mode env unstated count = Some (counting (pos 1) count)
  index_values mode env (over d) count = domain_values mode env d

  -- The environments that generators reach, one for each list of their numbers. Later domains see earlier names; an
  -- undefined one leads nowhere.
  pub reached : Mode → Env → Generators → List Env
  reached mode env no_generators = env ∷ []
  reached mode env (generator_and names d gens) =
      over_names (standing_for d (λ inner. domain_values mode inner d))
      all_joined (λ inner. reached mode inner gens) names env

  -- whether each domain that generators come to is defined
  pub domains_defined : Mode → Env → Generators → Bool
  domains_defined mode env no_generators = true
  domains_defined mode env (generator_and names d gens) =
      over_names (standing_for d (λ inner. domain_values mode inner d))
      all_hold (λ inner. domains_defined mode inner gens) names env

-- the environments in which a name stands for each number of a domain
abbrev pub numbered : Mode → DomainTree → Name → Env → Option (List Env)
numbered mode d name env = standing_for d (λ inner. domain_values mode inner d) name env

-- the environments that generators reach in which conditions hold: for each of them a comprehension has a part
abbrev pub chosen : Mode → Env → Generators → ExprTrees → List Env
chosen mode env gens conditions = holding (λ inner. values_of mode inner conditions) (reached mode env gens)

-- whether an expression is true
abbrev pub is_true_in : Mode → Env → ExprTree → Bool
is_true_in mode env e = unwrap_or (truth_of (evaluate mode env e)) false

-- the number of the first expression that isn't true, where they are numbered on from a number
unfoldable pub first_untrue : Mode → Env → ℕ → List ExprTree → Option ℕ
first_untrue mode env n [] = None
first_untrue mode env n (e ∷ es) = if is_true_in mode env e then first_untrue mode env (n + 1) es else Some n
