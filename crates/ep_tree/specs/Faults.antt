-- The faults of types and categories of a text: every fault of every node. A fault may stand twice in the list, and its
-- order says nothing.
--
-- A text is well formed when it has none. That a name is declared before it is used, where decision variables may
-- stand, and where a range may be open, is this project's own choice of what the public description leaves open.
use Rattle.std.specs.Prelude.{◌≡◌, ℕ, suc, ◌+◌, Bool, true, false, not, ◌&&◌, ◌||◌, List, [], ◌∷◌, ◌++◌, is_some, is_none, nat_le, nat_lt, Some, None, Contains, filter, flat_map, Option}
use Rattle.ep_base.specs.declared.names.Name.{Name}
use Rattle.ep_base.specs.declared.places.Place.{Place}
use Rattle.ep_tree.specs.Names.{nothing_known, put}
use Rattle.ep_tree.specs.StatementSpelling.{is_letting}
use Rattle.ep_tree.specs.Statements.{Group, StatementTree, TextTree, branching, constraints, decided, domain_letting, given, heuristic, letting, objective, requirements}
use Rattle.ep_tree.specs.Trees.{DomainTree, Domains, End, ExprTree, ExprTrees, Generators, IndexDomain, Indices, Ranges, Terms, absolute, all_different, all_of, any_of, at_least, at_most, binary, bool, chain, compare, comprehension, domain_and, end_at, every_and, factorial, flatten, folded, gcc, generator_and, group, group_domain, in_domain, in_set, index_and, int, lex, literal, matrix_domain, minus, named, named_domain, negation, no_domains, no_end, no_generators, no_indices, no_ranges, no_terms, no_trees, number, one_and, over, place_of, quantified, ranges, read, set_domain, span_and, table, term_and, to_int, tree_and, truth, unstated}
use Rattle.ep_tree.specs.Types.{Context, Judged, Meaning, a_domain, a_value, from_one, gives, inside, inside_all, is_boolean, is_integer, judge, judge_domain, mistyped, reading_contexts, slice_count, type_from, typed, untyped}
use Rattle.ep_tree.specs.declared.syntax.BinaryOp.{BinaryOp}
use Rattle.ep_tree.specs.declared.values.ValueType.{ValueType}

-- a fault with its place, and the name where one is wrong
pub data Fault : Type 0 where
  unknown_name : Place → Name → Fault
  redeclared : Place → Name → Fault
  ill_typed : Place → Fault
  wrong_category : Place → Fault
  open_domain : Place → Fault

-- a node whose parts have types that it doesn't take is ill typed
unfoldable pub type_fault : Place → Judged → List Fault
type_fault p (typed t) = []
type_fault p mistyped = ill_typed p ∷ []
type_fault p untyped = []

-- a fault where a condition doesn't hold
unfoldable pub unless : Bool → Fault → List Fault
unless true fault = []
unless false fault = fault ∷ []

-- A name as an expression: it is declared, it isn't a domain's, and a decision variable stands only where one may.
unfoldable pub name_faults : Bool → Place → Name → Option Meaning → List Fault
name_faults decisions p name None = unknown_name p name ∷ []
name_faults decisions p name (Some (a_value t false)) = []
name_faults decisions p name (Some (a_value t true)) = unless decisions (wrong_category p)
name_faults decisions p name (Some (a_domain t)) = ill_typed p ∷ []

-- a name as a domain: it is declared, and it is a domain's
unfoldable pub domain_name_faults : Place → Name → Option Meaning → List Fault
domain_name_faults p name None = unknown_name p name ∷ []
domain_name_faults p name (Some (a_value t false)) = ill_typed p ∷ []
domain_name_faults p name (Some (a_value t true)) = ill_typed p ∷ wrong_category p ∷ []
domain_name_faults p name (Some (a_domain t)) = []

-- whether a range has an end that is left out
unfoldable pub has_open_range : Ranges → Bool
has_open_range no_ranges = false
has_open_range (one_and _ rs) = has_open_range rs
has_open_range (span_and no_end _ _) = true
has_open_range (span_and (end_at _) no_end _) = true
has_open_range (span_and (end_at _) (end_at _) rs) = has_open_range rs

-- how many entries a read has, of which some may be `..`
unfoldable pub entry_count : Indices → ℕ
entry_count no_indices = 0
entry_count (every_and indices) = suc (entry_count indices)
entry_count (index_and _ indices) = suc (entry_count indices)

-- Whether a read of a node, with so many entries of which so many are `..`, would leave a matrix. Nothing else of the
-- entries is looked at.
unfoldable pub leaves_matrix : Judged → ℕ → ℕ → Bool
leaves_matrix (typed (ValueType.Matrix dims _)) entries slices = nat_le entries dims && nat_lt entries (dims + slices)
leaves_matrix _ entries slices = false

-- whether an operator is `**`, whose second part has no decision variable
unfoldable pub is_power : BinaryOp → Bool
is_power BinaryOp.Pow = true
is_power _ = false

unfoldable mutual
  -- the faults of an expression, which stands where a decision variable may stand or where none may
  pub faults : Context → Bool → ExprTree → List Fault
  faults context decisions (number _ _) = []
  faults context decisions (truth _ _) = []
  faults context decisions (named p name) = name_faults decisions p name (context name)
  faults context decisions (group _ e) = faults context decisions e
  faults context decisions (negation p e) =
      type_fault p (judge context (negation p e)) ++ faults context decisions e
  faults context decisions (minus p e) =
      type_fault p (judge context (minus p e)) ++ faults context decisions e
  faults context decisions (absolute p e) =
      type_fault p (judge context (absolute p e)) ++ faults context decisions e
  faults context decisions (to_int p e) =
      type_fault p (judge context (to_int p e)) ++ faults context decisions e
  faults context decisions (factorial p e) =
      type_fault p (judge context (factorial p e)) ++ faults context false e
  faults context decisions (flatten p m) =
      type_fault p (judge context (flatten p m)) ++ faults context decisions m
  faults context decisions (chain p terms) =
      type_fault p (judge context (chain p terms)) ++ faults_of_terms context decisions terms
  faults context decisions (binary p op a b) =
      type_fault p (judge context (binary p op a b)) ++ faults context decisions a
      ++ faults context (decisions && not (is_power op)) b
  faults context decisions (compare p op a b) =
      type_fault p (judge context (compare p op a b)) ++ faults context decisions a ++ faults context decisions b
  faults context decisions (lex p op a b) =
      type_fault p (judge context (lex p op a b)) ++ faults context decisions a ++ faults context decisions b
  faults context decisions (in_domain p e d) =
      type_fault p (judge context (in_domain p e d)) ++ faults context decisions e ++ domain_faults context false d
  faults context decisions (in_set p e m) =
      type_fault p (judge context (in_set p e m)) ++ faults context decisions e ++ faults context decisions m
  faults context decisions (all_of p parts) =
      type_fault p (judge context (all_of p parts)) ++ faults_of_all context decisions parts
  faults context decisions (any_of p parts) =
      type_fault p (judge context (any_of p parts)) ++ faults_of_all context decisions parts
  faults context decisions (quantified p op names d e) =
      type_fault p (judge context (quantified p op names d e))
      ++ flat_map (λ c. domain_faults c false d) (reading_contexts names (λ c. judge_domain c d) context)
      ++ faults (inside names (λ c. judge_domain c d) context) decisions e
  faults context decisions (literal p parts d) =
      type_fault p (judge context (literal p parts d)) ++ faults_of_all context decisions parts ++ index_faults context d
  faults context decisions (comprehension p e gens conditions d) =
      type_fault p (judge context (comprehension p e gens conditions d))
      ++ index_faults context d ++ faults_of_generators context gens
      ++ faults_of_all (inside_all gens context) false conditions ++ faults (inside_all gens context) decisions e
  faults context decisions (read p m indices) =
      type_fault p (judge context (read p m indices)) ++ faults context decisions m
      ++ faults_of_indices context
      (decisions && not (leaves_matrix (judge context m) (entry_count indices) (slice_count indices))) indices
  faults context decisions (folded p op m) =
      type_fault p (judge context (folded p op m)) ++ faults context decisions m
  faults context decisions (all_different p m) =
      type_fault p (judge context (all_different p m)) ++ faults context decisions m
  faults context decisions (gcc p m values counts) =
      type_fault p (judge context (gcc p m values counts)) ++ faults context decisions m
      ++ faults context false values ++ faults context decisions counts
  faults context decisions (at_least p m counts values) =
      type_fault p (judge context (at_least p m counts values)) ++ faults context decisions m
      ++ faults context false counts ++ faults context false values
  faults context decisions (at_most p m counts values) =
      type_fault p (judge context (at_most p m counts values)) ++ faults context decisions m
      ++ faults context false counts ++ faults context false values
  faults context decisions (table p row rows) =
      type_fault p (judge context (table p row rows)) ++ faults context decisions row ++ faults context false rows

  -- The faults of a domain, which stands where its ranges may be open or where they may not. No decision variable
  -- stands in a domain.
  pub domain_faults : Context → Bool → DomainTree → List Fault
  domain_faults context may_open (bool _) = []
  domain_faults context may_open (int p) = unless may_open (open_domain p)
  domain_faults context may_open (ranges p rs) =
      unless (may_open || not (has_open_range rs)) (open_domain p)
      ++ type_fault p (judge_domain context (ranges p rs)) ++ faults_of_ranges context rs
  domain_faults context may_open (named_domain p name) = domain_name_faults p name (context name)
  domain_faults context may_open (group_domain _ d) = domain_faults context may_open d
  domain_faults context may_open (set_domain p op c d) =
      type_fault p (judge_domain context (set_domain p op c d)) ++ domain_faults context may_open c
      ++ domain_faults context may_open d
  domain_faults context may_open (matrix_domain p ds d) =
      type_fault p (judge_domain context (matrix_domain p ds d)) ++ faults_of_domains context ds
      ++ domain_faults context may_open d

  -- the faults of some expressions
  pub faults_of_all : Context → Bool → ExprTrees → List Fault
  faults_of_all context decisions no_trees = []
  faults_of_all context decisions (tree_and e es) = faults context decisions e ++ faults_of_all context decisions es

  -- the faults of the terms of a chain
  pub faults_of_terms : Context → Bool → Terms → List Fault
  faults_of_terms context decisions no_terms = []
  faults_of_terms context decisions (term_and _ e terms) =
      faults context decisions e ++ faults_of_terms context decisions terms

  -- the faults of the indices of a read
  pub faults_of_indices : Context → Bool → Indices → List Fault
  faults_of_indices context decisions no_indices = []
  faults_of_indices context decisions (every_and indices) = faults_of_indices context decisions indices
  faults_of_indices context decisions (index_and e indices) =
      faults context decisions e ++ faults_of_indices context decisions indices

  -- the faults of the bounds of some ranges
  pub faults_of_ranges : Context → Ranges → List Fault
  faults_of_ranges context no_ranges = []
  faults_of_ranges context (one_and e rs) = faults context false e ++ faults_of_ranges context rs
  faults_of_ranges context (span_and a b rs) =
      end_faults context a ++ end_faults context b ++ faults_of_ranges context rs

  -- the faults of an end of a range
  pub end_faults : Context → End → List Fault
  end_faults context no_end = []
  end_faults context (end_at e) = faults context false e

  -- the faults of index domains, whose ranges aren't open
  pub faults_of_domains : Context → Domains → List Fault
  faults_of_domains context no_domains = []
  faults_of_domains context (domain_and d ds) = domain_faults context false d ++ faults_of_domains context ds

  -- the faults of the domain of a list's indices, whose ranges aren't open
  pub index_faults : Context → IndexDomain → List Fault
  index_faults context unstated = []
  index_faults context (over d) = domain_faults context false d

  -- the faults of the domains of generators, each reading in the context of the names before it
  pub faults_of_generators : Context → Generators → List Fault
  faults_of_generators context no_generators = []
  faults_of_generators context (generator_and names d gens) =
      flat_map (λ c. domain_faults c false d) (reading_contexts names (λ c. judge_domain c d) context)
      ++ faults_of_generators (inside names (λ c. judge_domain c d) context) gens

-- names that a statement declares, each with this meaning, aren't declared before
unfoldable pub declaration_faults : Meaning → Context → List (Name × Place) → List Fault
declaration_faults meaning context [] = []
declaration_faults meaning context (name ∷ names) =
    unless (is_none (context name.0)) (redeclared name.1 name.0)
    ++ declaration_faults meaning (put name.0 meaning context) names

-- the context with names of this meaning
unfoldable pub declare : Meaning → Context → List (Name × Place) → Context
declare meaning context [] = context
declare meaning context (name ∷ names) = declare meaning (put name.0 meaning context) names

-- what the names of a group stand for: values of its domain's type, which may be decision variables
unfoldable pub group_meaning : Context → Bool → Group → Meaning
group_meaning context decisions g = a_value (type_from (judge_domain context g.domain)) decisions

-- the context after a group, which declares its names at its end
unfoldable pub after_group : Context → Bool → Group → Context
after_group context decisions g = declare (group_meaning context decisions g) context g.names

-- the faults of groups, each in the context after those before it
unfoldable pub group_faults : Context → Bool → Bool → List Group → List Fault
group_faults context decisions may_open [] = []
group_faults context decisions may_open (g ∷ groups) =
    domain_faults context may_open g.domain
    ++ declaration_faults (group_meaning context decisions g) context g.names
    ++ group_faults (after_group context decisions g) decisions may_open groups

-- the context after groups
unfoldable pub after_groups : Context → Bool → List Group → Context
after_groups context decisions [] = context
after_groups context decisions (g ∷ groups) = after_groups (after_group context decisions g) decisions groups

-- a clause is Boolean
unfoldable pub clause_faults : Context → Bool → List ExprTree → List Fault
clause_faults context decisions [] = []
clause_faults context decisions (e ∷ es) =
    type_fault (place_of e) (from_one (judge context e) (λ t. gives t (is_boolean t)))
    ++ faults context decisions e ++ clause_faults context decisions es

-- an objective is integer
unfoldable pub goal_faults : Context → ExprTree → List Fault
goal_faults context e =
    type_fault (place_of e) (from_one (judge context e) (λ t. gives t (is_integer t))) ++ faults context true e

-- the faults of the domain that a letting states
unfoldable pub stated_faults : Context → Option DomainTree → List Fault
stated_faults context None = []
stated_faults context (Some d) = domain_faults context false d

-- what a letting's name stands for: a value of the type of its domain where it states one, else of its expression's
unfoldable pub letting_meaning : Context → Option DomainTree → ExprTree → Meaning
letting_meaning context None e = a_value (type_from (judge context e)) false
letting_meaning context (Some d) e = a_value (type_from (judge_domain context d)) false

-- what the name of a domain's letting stands for
unfoldable pub domain_meaning : Context → DomainTree → Meaning
domain_meaning context d = a_domain (type_from (judge_domain context d))

-- the names of `branching on` are declared
unfoldable pub branching_faults : Context → List (Name × Place) → List Fault
branching_faults context [] = []
branching_faults context (name ∷ names) =
    unless (is_some (context name.0)) (unknown_name name.1 name.0) ++ branching_faults context names

-- the faults of a statement after what the context declares
unfoldable pub statement_faults : Context → StatementTree → List Fault
statement_faults context (given _ groups) = group_faults context false true groups
statement_faults context (decided _ groups) = group_faults context true false groups
statement_faults context (letting _ name at d e) =
    stated_faults context d ++ faults context false e
    ++ declaration_faults (letting_meaning context d e) context ((name, at) ∷ [])
statement_faults context (domain_letting _ name at d) =
    domain_faults context false d ++ declaration_faults (domain_meaning context d) context ((name, at) ∷ [])
statement_faults context (requirements _ es) = clause_faults context false es
statement_faults context (constraints _ es) = clause_faults context true es
statement_faults context (objective _ _ e) = goal_faults context e
statement_faults context (branching _ names) = branching_faults context names
statement_faults context (heuristic _ _) = []

-- the context after a statement
unfoldable pub after_statement : Context → StatementTree → Context
after_statement context (given _ groups) = after_groups context false groups
after_statement context (decided _ groups) = after_groups context true groups
after_statement context (letting _ name _ d e) = put name (letting_meaning context d e) context
after_statement context (domain_letting _ name _ d) = put name (domain_meaning context d) context
after_statement context _ = context

-- the faults of the statements of a text after what the context declares
unfoldable pub faults_after : Context → TextTree → List Fault
faults_after context [] = []
faults_after context (s ∷ statements) = statement_faults context s ++ faults_after (after_statement context s) statements

-- the faults of a text
unfoldable pub text_faults : TextTree → List Fault
text_faults statements = faults_after nothing_known statements

-- the lettings of a text; of a parameter or solution text nothing else counts
abbrev pub lettings_of : TextTree → TextTree
lettings_of statements = filter is_letting statements

-- the faults of a parameter or solution text
unfoldable pub params_faults : TextTree → List Fault
params_faults statements = text_faults (lettings_of statements)

-- a text is well formed when it has no fault
abbrev pub IsWellFormed : TextTree → Type 0
IsWellFormed statements = text_faults statements ≡ []

-- a fault is one of a text's
abbrev pub HasFault : TextTree → Fault → Type 0
HasFault statements fault = Contains (text_faults statements) fault
