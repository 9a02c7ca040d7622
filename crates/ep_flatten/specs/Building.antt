-- A flat problem that stands for a ground's terms so far: what is built, and what is known of it.
use Rattle.std.specs.Prelude.{◌≡◌, ℕ, ◌+◌, ◌<◌, ℤ, pos, Bool, true, false, IsTrue, List, [], ◌∷◌, length, map, Some, None, option_map, option_to_list, slice_get, slice_index_or}
use Rattle.std.specs.List.{All, Contains}
use Rattle.ep_base.specs.Intervals.{Interval, IsWithinReach, LiesIn, from_to, only, truth_interval}
use Rattle.ep_base.specs.Reads.{IsWithinNumbers}
use Rattle.ep_flat.specs.Cons.{FlatCon, clause, con_holds, number_at, numbers_of_vars}
use Rattle.ep_flat.specs.Flats.{FlatState, HasSmallCoefficients, IsSoundFlat, Meets, NamesBelow}
use Rattle.ep_flat.specs.FlatViews.{plain_con}
use Rattle.ep_flatten.specs.Forms.{IsFormOf, TermForm, own, summed, compared, form_at, form_parts}
use Rattle.ep_flatten.specs.Saying.{variable_at}
use Rattle.ep_flatten.specs.Tops.{asserts_of, needs_of}
use Rattle.ep_flatten.specs.declared.building.Building.{Building}
use Rattle.ep_numbers.specs.Spans.{interval_of}
use Rattle.ep_ground.specs.Bounds.{IsBounded, node_reach}
use Rattle.ep_ground.specs.Grounds.{AreCellValues, GroundState, IsTermReached, StandsOver}
use Rattle.ep_ground.specs.Nodes.{GroundNode, sum, compare, lex, member, negation, all_of, any_of, same_truth, all_different, counts, at_least, at_most, table}
use Rattle.ep_ground.specs.Terms.{term_value}
use Rattle.ep_ground.specs.declared.cells.Cell.{Cell}

-- a term is marked
abbrev pub IsMarked : List Bool → ℕ → Type 0
IsMarked marks t = slice_index_or marks t false ≡ true

-- wherever the clauses of a ground are true, this term is
abbrev pub IsForced : GroundState → ℕ → Type 0
IsForced g t = (xs : List ℤ) → All (λ u. term_value g.nodes xs u ≡ Some (pos 1)) g.clauses → term_value g.nodes xs t ≡ Some (pos 1)

-- the terms that a ground's objective names
unfoldable pub goal_terms : GroundState → List ℕ
goal_terms g = option_to_list (option_map (λ goal. goal.1) g.objective)

-- The clauses are asserted, with each asserted term those that are true with it, and each asserted term is true where
-- the clauses are. The objective's term is marked, with each asserted term those that need variables for it, with each
-- marked term the parts of its form. The ground leads to all of them.
pub record AreMarks (g : GroundState) (forms : List TermForm) (asserted marks : List Bool) : Type 0 where
  pub clauses : All (IsMarked asserted) g.clauses
  pub goal : All (IsMarked marks) (goal_terms g)
  pub wholes : (t : ℕ) (node : GroundNode) → slice_get g.nodes t ≡ Some node → IsMarked asserted t → All (IsMarked asserted) (asserts_of node)
  pub tops : (t : ℕ) (node : GroundNode) → slice_get g.nodes t ≡ Some node → IsMarked asserted t → All (IsMarked marks) (needs_of t node (form_at forms t))
  pub closed : (t : ℕ) (node : GroundNode) → slice_get g.nodes t ≡ Some node → IsMarked marks t → All (IsMarked marks) (form_parts node (form_at forms t))
  pub forced : (t : ℕ) → IsMarked asserted t → IsForced g t
  pub above : (t : ℕ) → IsMarked asserted t → IsTermReached g t
  pub reached : (t : ℕ) → IsMarked marks t → IsTermReached g t

-- the interval of a term, and [0, 0] of one that has none
abbrev pub span_at : List Interval → ℕ → Interval
span_at spans t = slice_index_or spans t (only (pos 0))

-- an interval has each small number of the node's reach over these intervals of its parts, and no great number
pub record Covers (cells : List Cell) (spans : List Interval) (node : GroundNode) (i : Interval) : Type 0 where
  pub small : IsWithinReach i
  pub holds : (n : ℤ) → LiesIn n (node_reach cells (span_at spans) node) → IsWithinNumbers n → LiesIn n i

-- the interval of the values of a term with this node and this form, where each other term has such an interval
unfoldable pub form_reach : List Cell → (ℕ → Interval) → GroundNode → TermForm → Interval
form_reach cells reach node own = node_reach cells reach node
form_reach cells reach node (summed c parts) = node_reach cells reach (sum c parts)
form_reach cells reach node (compared op parts c) = truth_interval

-- the same of this interval
pub record CoversForm (cells : List Cell) (spans : List Interval) (node : GroundNode) (form : TermForm) (i : Interval) : Type 0 where
  pub small : IsWithinReach i
  pub holds : (n : ℤ) → LiesIn n (form_reach cells (span_at spans) node form) → IsWithinNumbers n → LiesIn n i

-- an interval covers the node's reach, whatever numbers the cells may have
pub record CoversAlways (spans : List Interval) (node : GroundNode) (i : Interval) : Type 0 where
  pub covers : (cells : List Cell) → Covers cells spans node i

-- the same of a term with this node and this form
pub record CoversFormAlways (spans : List Interval) (node : GroundNode) (form : TermForm) (i : Interval) : Type 0 where
  pub covers : (cells : List Cell) → CoversForm cells spans node form i

-- an interval has each small number of another one
abbrev pub HasSmall : Interval → Interval → Type 0
HasSmall reach i = (n : ℤ) → LiesIn n reach → IsWithinNumbers n → LiesIn n i

-- domains and constraints of the variables so far, the variable and the interval of each term so far, and the cells' variables
pub record Built : Type 0 where
  pub vars : List (List ℤ)
  pub cons : List FlatCon
  pub places : List ℕ
  pub spans : List Interval
  pub cells : List ℕ

-- the flat problem so far
abbrev pub flat_of : Built → FlatState
flat_of b = record { vars = b.vars; cons = b.cons }

-- numbers of the variables that meet a flat problem and give its cells these values
pub record Extends (flat : FlatState) (cells : List ℕ) (xs : List ℤ) : Type 0 where
  pub values : List ℤ
  pub meets : Meets flat values
  pub gives : numbers_of_vars values cells ≡ xs

-- What is built stands for the marked ones of the first terms: values of the cells extend to numbers that meet the flat
-- problem, and whatever meets it gives each such term's variable the term's value.
pub record IsBuilt (g : GroundState) (marks : List Bool) (count : ℕ) (b : Built) : Type 0 where
  pub places : length b.places ≡ count
  pub spans : length b.spans ≡ count
  pub sound : IsSoundFlat (flat_of b)
  pub cells : All (λ x. x < length b.vars) b.cells
  pub domains : map (λ x. slice_index_or b.vars x []) b.cells ≡ map (λ one. one.values) g.cells
  pub within : (t : ℕ) → t < count → IsMarked marks t → variable_at b.places t < length b.vars
  pub extends : (xs : List ℤ) → AreCellValues g.cells xs → Extends (flat_of b) b.cells xs
  pub tells : (values : List ℤ) → Meets (flat_of b) values → (t : ℕ) → t < count → IsMarked marks t → term_value g.nodes (numbers_of_vars values b.cells) t ≡ Some (number_at values (variable_at b.places t))
  pub ends : (xs : List ℤ) → AreCellValues g.cells xs → (t : ℕ) → t < count → IsMarked marks t → (n : ℤ) → term_value g.nodes xs t ≡ Some n → LiesIn n (span_at b.spans t)

-- Constraints that hold exactly where each asserted one of the first terms is true: they say so of the numbers that meet
-- what is built.
pub record HasTops (g : GroundState) (asserted : List Bool) (b : Built) (count : ℕ) (tops : List FlatCon) : Type 0 where
  pub names : All (NamesBelow (length b.vars)) tops
  pub small : All HasSmallCoefficients tops
  pub forth : (values : List ℤ) → Meets (flat_of b) values → All (λ con. IsTrue (con_holds values con)) tops → (t : ℕ) → t < count → IsMarked asserted t → term_value g.nodes (numbers_of_vars values b.cells) t ≡ Some (pos 1)
  pub back : (values : List ℤ) → Meets (flat_of b) values → ((t : ℕ) → IsMarked asserted t → term_value g.nodes (numbers_of_vars values b.cells) t ≡ Some (pos 1)) → All (λ con. IsTrue (con_holds values con)) tops

-- what is known of a marked term, of its node and of its form
pub record IsTermOf (g : GroundState) (marks : List Bool) (t : ℕ) (node : GroundNode) (form : TermForm) : Type 0 where
  pub got : slice_get g.nodes t ≡ Some node
  pub is : IsFormOf g.nodes t node form
  pub marked : All (IsMarked marks) (form_parts node form)
  pub reached : IsTermReached g t
  pub stands : StandsOver (length g.cells) node

-- where the first was built for the terms before one with this node and this form, the second is built for that one too
abbrev pub Advances : Built → GroundNode → TermForm → Built → Type 0
Advances old node form new =
    (g : GroundState) (marks : List Bool) (t : ℕ) → IsBuilt g marks t old → IsTermOf g marks t node form → IsBounded g → IsBuilt g marks (t + 1) new

-- a domain has the numbers of an interval, and no other
abbrev pub HasAll : List ℤ → Interval → Type 0
HasAll domain span = (n : ℤ) → (Contains domain n → LiesIn n span) × (LiesIn n span → Contains domain n)

-- the constraint that a term is true, by its variable
abbrev pub truth_con : List ℕ → ℕ → FlatCon
truth_con places t = record { truth = None; kind = clause ((true, variable_at places t) ∷ []) }

-- what the code has built, without where its lists lie in memory
abbrev pub plain_built : Building → Built
plain_built made = record {
  vars = made.vars.items;
  cons = map plain_con made.cons.items;
  places = made.places.items;
  spans = map interval_of made.spans.items;
  cells = made.cells.items;
}

-- whether a node is a truth value
unfoldable pub is_truth_node : GroundNode → Bool
is_truth_node (compare op a b) = true
is_truth_node (lex op ts us) = true
is_truth_node (member a ns) = true
is_truth_node (negation a) = true
is_truth_node (all_of ts) = true
is_truth_node (any_of ts) = true
is_truth_node (same_truth a b) = true
is_truth_node (all_different ts) = true
is_truth_node (counts ts ns us) = true
is_truth_node (at_least ts cs ns) = true
is_truth_node (at_most ts cs ns) = true
is_truth_node (table ts rows) = true
is_truth_node _ = false
