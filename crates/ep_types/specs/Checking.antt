-- Checking: the type of an expression or domain, or the first fault that is met.
--
-- A text is met from left to right, but parts before their node, and yet an open domain before its bounds; what a
-- statement declares after its domain and its value; and of a comprehension the domain of its indices, its generators
-- and its conditions before its expression. A domain of several names is read whole for one before the next.
--
-- That a first fault is one of those that stand, and that none stands where there is a type, is proved of trees alone.
use Rattle.std.specs.Prelude.{Bool, true, false, not, ◌&&◌, ◌||◌, List, [], ◌∷◌, Some, None, Ok, Err, is_none, is_some, unwrap_or, Option}
use Rattle.std.specs.List.{list_all}
use Rattle.ep_base.specs.declared.names.Name.{Name}
use Rattle.ep_base.specs.declared.places.Place.{Place}
use Rattle.ep_tree.specs.Faults.{entry_count, has_open_range, ill_typed, is_power, leaves_matrix, open_domain, redeclared, unknown_name, wrong_category}
use Rattle.ep_tree.specs.Names.{put}
use Rattle.ep_tree.specs.Statements.{Group, StatementTree, TextTree, branching, constraints, decided, domain_letting, given, heuristic, letting, objective, requirements}
use Rattle.ep_tree.specs.Trees.{place_of, DomainTree, Domains, End, ExprTree, ExprTrees, Generators, IndexDomain, Indices, Ranges, Terms, absolute, all_different, all_of, any_of, at_least, at_most, binary, bool, chain, compare, comprehension, domain_and, end_at, every_and, factorial, flatten, folded, gcc, generator_and, group, group_domain, in_domain, in_set, index_and, int, lex, literal, matrix_domain, minus, named, named_domain, negation, no_domains, no_end, no_generators, no_indices, no_ranges, no_terms, no_trees, number, one_and, over, quantified, ranges, read, set_domain, span_and, table, term_and, to_int, tree_and, truth, unstated}
use Rattle.ep_tree.specs.Types.{Context, Meaning, a_domain, a_value, are_lists, binary_type, both_scalars, folded_type, gives, has_dimensions, is_boolean, is_integer, is_matrix, list_type, matrix_type, of_scalar, quantified_name, quantified_type, read_type, scalar_of, slice_count, typed}
use Rattle.ep_tree.specs.declared.values.ValueType.{ValueType}
use Rattle.ep_types_rules.specs.Concluding.{Checked, conclude, quantified_over, unless_fault, ◌>>=◌}

-- a value, which may be a decision variable's
unfoldable pub check_value : Bool → Place → ValueType → Bool → Checked ValueType
check_value decisions p t false = Ok t
check_value true p t true = Ok t
check_value false p t true = Err (wrong_category p)

-- A name as an expression. A name without a type isn't met, since the domain or value that lacks it has stopped the
-- checking before.
unfoldable pub check_name : Bool → Place → Name → Option Meaning → Checked ValueType
check_name decisions p name None = Err (unknown_name p name)
check_name decisions p name (Some (a_domain t)) = Err (ill_typed p)
check_name decisions p name (Some (a_value None d)) = Err (ill_typed p)
check_name decisions p name (Some (a_value (Some t) decision)) = check_value decisions p t decision

-- A name as a domain. A name without a type isn't met, since the domain that lacks it has stopped the checking before.
unfoldable pub check_domain_name : Place → Name → Option Meaning → Checked ValueType
check_domain_name p name None = Err (unknown_name p name)
check_domain_name p name (Some (a_value t d)) = Err (ill_typed p)
check_domain_name p name (Some (a_domain None)) = Err (ill_typed p)
check_domain_name p name (Some (a_domain (Some t))) = Ok t

-- Whether each reading of a domain, one for each name, is scalar, and the context behind the names.
unfoldable pub check_readings : List Name → (Context → Checked ValueType) → Context → Checked (Bool × Context)
check_readings [] domain context = Ok (true, context)
check_readings (name ∷ names) domain context =
    domain context >>= λ t.
    check_readings names domain (put name (quantified_name (typed t)) context) >>= λ others.
    Ok (is_integer t && others.0, others.1)

unfoldable mutual
  -- an expression
  pub check : Context → Bool → ExprTree → Checked ValueType
  check c d (number p n) = Ok ValueType.Int
  check c d (truth p b) = Ok ValueType.Bool
  check c d (named p name) = check_name d p name (c name)
  check c d (group p e) = check c d e
  check c d (negation p e) = check c d e >>= λ t. conclude p (gives ValueType.Bool (is_boolean t))
  check c d (minus p e) = check c d e >>= λ t. conclude p (gives ValueType.Int (is_integer t))
  check c d (absolute p e) = check c d e >>= λ t. conclude p (gives ValueType.Int (is_integer t))
  check c d (to_int p e) = check c d e >>= λ t. conclude p (gives ValueType.Int (is_boolean t))
  check c d (factorial p e) = check c false e >>= λ t. conclude p (gives ValueType.Int (is_integer t))
  check c d (flatten p m) = check c d m >>= λ t. conclude p (gives (ValueType.Matrix 1 (scalar_of t)) (is_matrix t))
  check c d (chain p terms) = check_terms c d terms >>= λ ts. conclude p (gives ValueType.Int (list_all is_integer ts))
  check c d (binary p op a b) =
      check c d a >>= λ s. check c (d && not (is_power op)) b >>= λ t. conclude p (binary_type op s t)
  check c d (compare p op a b) =
      check c d a >>= λ s. check c d b >>= λ t. conclude p (gives ValueType.Bool (is_integer s && is_integer t))
  check c d (lex p op a b) =
      check c d a >>= λ s. check c d b >>= λ t. conclude p (gives ValueType.Bool (are_lists s t))
  check c d (in_domain p e dom) =
      check c d e >>= λ s. check_domain c false dom >>= λ t.
      conclude p (gives ValueType.Bool (is_integer s && is_integer t))
  check c d (in_set p e m) =
      check c d e >>= λ s. check c d m >>= λ t. conclude p (gives ValueType.Bool (is_integer s && is_matrix t))
  check c d (all_of p parts) = check_all c d parts >>= λ ts. conclude p (gives ValueType.Bool (list_all is_boolean ts))
  check c d (any_of p parts) = check_all c d parts >>= λ ts. conclude p (gives ValueType.Bool (list_all is_boolean ts))
  check c d (quantified p op names dom e) =
      check_readings names (λ x. check_domain x false dom) c >>= λ read.
      check read.1 d e >>= λ t. conclude p (quantified_over read.0 (quantified_type op [] t))
  check c d (literal p parts dom) =
      check_all c d parts >>= λ ts. check_index c dom >>= λ scalar.
      conclude p (quantified_over scalar (list_type ts))
  check c d (comprehension p e gens conditions dom) =
      check_index c dom >>= λ index. check_generators c gens >>= λ behind.
      check_all behind.1 false conditions >>= λ truths.
      check behind.1 d e >>= λ t.
      conclude p (quantified_over (index && behind.0 && list_all is_boolean truths) (list_type (t ∷ [])))
  check c d (read p m indices) =
      check c d m >>= λ t.
      check_indices c (d && not (leaves_matrix (typed t) (entry_count indices) (slice_count indices))) indices >>= λ ts.
      conclude p (read_type t ts (slice_count indices))
  check c d (folded p op m) = check c d m >>= λ t. conclude p (folded_type op t)
  check c d (all_different p m) = check c d m >>= λ t. conclude p (gives ValueType.Bool (is_matrix t))
  check c d (gcc p m values counts) =
      check c d m >>= λ s. check c false values >>= λ t. check c d counts >>= λ u.
      conclude p (gives ValueType.Bool (is_matrix s && are_lists t u))
  check c d (at_least p m counts values) =
      check c d m >>= λ s. check c false counts >>= λ t. check c false values >>= λ u.
      conclude p (gives ValueType.Bool (is_matrix s && are_lists t u))
  check c d (at_most p m counts values) =
      check c d m >>= λ s. check c false counts >>= λ t. check c false values >>= λ u.
      conclude p (gives ValueType.Bool (is_matrix s && are_lists t u))
  check c d (table p row rows) =
      check c d row >>= λ s. check c false rows >>= λ t.
      conclude p (gives ValueType.Bool (has_dimensions 1 s && has_dimensions 2 t))

  -- a domain, whose ranges may be open or may not
  pub check_domain : Context → Bool → DomainTree → Checked ValueType
  check_domain c open' (bool p) = Ok ValueType.Bool
  check_domain c open' (int p) = unless_fault open' (open_domain p) >>= λ _. Ok ValueType.Int
  check_domain c open' (ranges p rs) =
      unless_fault (open' || not (has_open_range rs)) (open_domain p) >>= λ _.
      check_ranges c rs >>= λ ts. conclude p (gives ValueType.Int (list_all is_integer ts))
  check_domain c open' (named_domain p name) = check_domain_name p name (c name)
  check_domain c open' (group_domain p dom) = check_domain c open' dom
  check_domain c open' (set_domain p op a b) =
      check_domain c open' a >>= λ s. check_domain c open' b >>= λ t.
      conclude p (gives (of_scalar (both_scalars (scalar_of s) (scalar_of t))) (is_integer s && is_integer t))
  check_domain c open' (matrix_domain p ds dom) =
      check_domains c ds >>= λ ts. check_domain c open' dom >>= λ t. conclude p (matrix_type ts t)

  -- some expressions
  pub check_all : Context → Bool → ExprTrees → Checked (List ValueType)
  check_all c d no_trees = Ok []
  check_all c d (tree_and e es) = check c d e >>= λ t. check_all c d es >>= λ ts. Ok (t ∷ ts)

  -- the terms of a chain
  pub check_terms : Context → Bool → Terms → Checked (List ValueType)
  check_terms c d no_terms = Ok []
  check_terms c d (term_and _ e terms) = check c d e >>= λ t. check_terms c d terms >>= λ ts. Ok (t ∷ ts)

  -- the indices of a read that aren't `..`
  pub check_indices : Context → Bool → Indices → Checked (List ValueType)
  check_indices c d no_indices = Ok []
  check_indices c d (every_and indices) = check_indices c d indices
  check_indices c d (index_and e indices) = check c d e >>= λ t. check_indices c d indices >>= λ ts. Ok (t ∷ ts)

  -- the bounds of ranges
  pub check_ranges : Context → Ranges → Checked (List ValueType)
  check_ranges c no_ranges = Ok []
  check_ranges c (one_and e rs) = check c false e >>= λ t. check_ranges c rs >>= λ ts. Ok (t ∷ ts)
  check_ranges c (span_and a b rs) =
      check_end c a >>= λ x. check_end c b >>= λ y. check_ranges c rs >>= λ ts. Ok (x ∷ y ∷ ts)

  -- an end of a range; one that is left out is as good as an integer
  pub check_end : Context → End → Checked ValueType
  check_end c no_end = Ok ValueType.Int
  check_end c (end_at e) = check c false e

  -- index domains
  pub check_domains : Context → Domains → Checked (List ValueType)
  check_domains c no_domains = Ok []
  check_domains c (domain_and dom ds) = check_domain c false dom >>= λ t. check_domains c ds >>= λ ts. Ok (t ∷ ts)

  -- whether the domain of a list's indices is scalar, where it is stated
  pub check_index : Context → IndexDomain → Checked Bool
  check_index c unstated = Ok true
  check_index c (over dom) = check_domain c false dom >>= λ t. Ok (is_integer t)

  -- whether the domains of generators are scalar, and the context behind them
  pub check_generators : Context → Generators → Checked (Bool × Context)
  check_generators c no_generators = Ok (true, c)
  check_generators c (generator_and names dom gens) =
      check_readings names (λ x. check_domain x false dom) c >>= λ read.
      check_generators read.1 gens >>= λ behind. Ok (read.0 && behind.0, behind.1)

-- names that a statement declares, each with this meaning, and the context behind them
unfoldable pub check_declared : Meaning → Context → List (Name × Place) → Checked Context
check_declared meaning c [] = Ok c
check_declared meaning c (name ∷ names) =
    unless_fault (is_none (c name.0)) (redeclared name.1 name.0) >>= λ _.
    check_declared meaning (put name.0 meaning c) names

-- groups, and the context behind them
unfoldable pub check_groups : Bool → Bool → Context → List Group → Checked Context
check_groups decisions may_open c [] = Ok c
check_groups decisions may_open c (g ∷ groups) =
    check_domain c may_open g.domain >>= λ t.
    check_declared (a_value (Some t) decisions) c g.names >>= λ inner.
    check_groups decisions may_open inner groups

-- a clause, which is Boolean
unfoldable pub check_clause : Context → Bool → ExprTree → Checked ValueType
check_clause c decisions e = check c decisions e >>= λ t. conclude (place_of e) (gives t (is_boolean t))

-- clauses
unfoldable pub check_clauses : Context → Bool → List ExprTree → Checked (Unit {0})
check_clauses c decisions [] = Ok tt
check_clauses c decisions (e ∷ es) = check_clause c decisions e >>= λ _. check_clauses c decisions es

-- an objective, which is integer
unfoldable pub check_goal : Context → ExprTree → Checked ValueType
check_goal c e = check c true e >>= λ t. conclude (place_of e) (gives t (is_integer t))

-- the domain that a letting states, or else its expression's type
unfoldable pub check_stated : Context → Option DomainTree → Checked (Option ValueType)
check_stated c None = Ok None
check_stated c (Some d) = check_domain c false d >>= λ t. Ok (Some t)

-- the names of `branching on`
unfoldable pub check_branching : Context → List (Name × Place) → Checked (Unit {0})
check_branching c [] = Ok tt
check_branching c (name ∷ names) =
    unless_fault (is_some (c name.0)) (unknown_name name.1 name.0) >>= λ _. check_branching c names

-- a statement, and the context behind it
unfoldable pub check_statement : Context → StatementTree → Checked Context
check_statement c (given _ groups) = check_groups false true c groups
check_statement c (decided _ groups) = check_groups true false c groups
check_statement c (letting _ name at d e) =
    check_stated c d >>= λ stated. check c false e >>= λ t.
    check_declared (a_value (Some (unwrap_or stated t)) false) c ((name, at) ∷ [])
check_statement c (domain_letting _ name at d) =
    check_domain c false d >>= λ t. check_declared (a_domain (Some t)) c ((name, at) ∷ [])
check_statement c (requirements _ es) = check_clauses c false es >>= λ _. Ok c
check_statement c (constraints _ es) = check_clauses c true es >>= λ _. Ok c
check_statement c (objective _ _ e) = check_goal c e >>= λ _. Ok c
check_statement c (branching _ names) = check_branching c names >>= λ _. Ok c
check_statement c (heuristic _ _) = Ok c

-- the statements of a text behind what a context declares
unfoldable pub check_text : Context → TextTree → Checked (Unit {0})
check_text c [] = Ok tt
check_text c (s ∷ statements) = check_statement c s >>= λ next. check_text next statements
