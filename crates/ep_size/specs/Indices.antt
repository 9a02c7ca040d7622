-- The indices of a read, as the definitions have them.
use Rattle.std.specs.Prelude.{Bool, true, false, ℕ, ◌*◌, ℤ, List, [], ◌∷◌, length, Some, None, if◌then◌else◌}
use Rattle.ep_base.specs.Numbers.{has_number}
use Rattle.ep_tree.specs.Environments.{Env}
use Rattle.ep_tree.specs.Evaluation.{evaluate, number_in}
use Rattle.ep_tree.specs.Reach.{MeasuredIndex, decided_index, decisions_in, extent, fixed_index, holds_decision, measured_index, span_of, whole_index}
use Rattle.ep_tree.specs.Solutions.{cell_count}
use Rattle.ep_tree.specs.Trees.{End, ExprTree, absolute, all_different, all_of, any_of, at_least, at_most, binary, chain, compare, comprehension, end_at, factorial, flatten, folded, gcc, group, in_domain, in_set, lex, literal, minus, named, negation, no_end, number, quantified, read, table, to_int, truth}
use Rattle.ep_tree.specs.declared.values.Mode.{Mode}
use Rattle.ep_size.specs.Extents as kept
use Rattle.ep_size.specs.declared.reading.Indexed.{Indexed}
use Rattle.ep_size.specs.declared.reading.Indexed.TheVariants.{Stated, Every, Decided}

-- an index, as the definitions have it
unfoldable pub measured_of : Indexed → MeasuredIndex
measured_of (Stated n) = fixed_index n
measured_of Every = whole_index
measured_of (Decided s) = decided_index (kept.plain_span s)

-- an index, which is `..` where there is none, as it is measured
unfoldable pub index_of : Mode → Env → End → MeasuredIndex
index_of mode env no_end = whole_index
index_of mode env (end_at e) =
    measured_index
    (holds_decision (decisions_in env) e) (span_of (extent mode env e)) (number_in (evaluate mode env e))

-- how many values of an index domain an index leaves
unfoldable pub kept_parts : MeasuredIndex → List ℤ → ℕ
kept_parts (fixed_index None) domain = 0
kept_parts (fixed_index (Some n)) domain = if has_number domain n then 1 else 0
kept_parts whole_index domain = length domain
kept_parts (decided_index s) domain = length domain

-- how many cells are left by indices of those over index domains
unfoldable pub cells_left : List MeasuredIndex → List (List ℤ) → ℕ
cells_left [] domains = cell_count domains
cells_left (i ∷ is) [] = 0
cells_left (i ∷ is) (domain ∷ domains) = kept_parts i domain * cells_left is domains

-- whether an expression is a name
unfoldable pub is_named_tree : ExprTree → Bool
is_named_tree (named _ _) = true
is_named_tree (number _ _) = false
is_named_tree (truth _ _) = false
is_named_tree (negation _ _) = false
is_named_tree (minus _ _) = false
is_named_tree (absolute _ _) = false
is_named_tree (to_int _ _) = false
is_named_tree (factorial _ _) = false
is_named_tree (chain _ _) = false
is_named_tree (binary _ _ _ _) = false
is_named_tree (compare _ _ _ _) = false
is_named_tree (lex _ _ _ _) = false
is_named_tree (in_domain _ _ _) = false
is_named_tree (in_set _ _ _) = false
is_named_tree (all_of _ _) = false
is_named_tree (any_of _ _) = false
is_named_tree (folded _ _ _) = false
is_named_tree (all_different _ _) = false
is_named_tree (gcc _ _ _ _) = false
is_named_tree (at_least _ _ _ _) = false
is_named_tree (at_most _ _ _ _) = false
is_named_tree (table _ _ _) = false
is_named_tree (group _ _) = false
is_named_tree (flatten _ _) = false
is_named_tree (quantified _ _ _ _ _) = false
is_named_tree (literal _ _ _) = false
is_named_tree (comprehension _ _ _ _ _) = false
is_named_tree (read _ _ _) = false

-- whether an index leaves each part
unfoldable pub keeps_all : MeasuredIndex → Bool
keeps_all (fixed_index _) = false
keeps_all whole_index = true
keeps_all (decided_index _) = true
