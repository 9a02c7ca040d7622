-- Whether a decision variable stands in an expression, and whether one stands anywhere in it.
use Rattle.std.specs.Prelude.{Bool, ◌&&◌, ◌||◌}
use Rattle.ep_base.specs.declared.names.Name.{Name}
use Rattle.ep_tree.specs.Reach.{generator_names, hiding, holds_decision, index_holds_decision, one_holds_decision, term_holds_decision}
use Rattle.ep_tree.specs.Trees.{ExprTree, ExprTrees, Indices, Terms}
use Rattle.ep_tree.specs.Views.{generators_of}
use Rattle.ep_size.specs.Free.{are_free, are_free_indices, are_free_terms, is_free}
use Rattle.ep_size.specs.declared.standing.Hidden.{Hidden, Nothing, Names', Generators'}
use Rattle.ep_size.specs.declared.standing.Standing.{Standing}

-- what is said of an expression
abbrev pub standing_of : (Name → Bool) → ExprTree → Standing
standing_of decided e = record { decided = holds_decision decided e; free = is_free decided e }

-- what is said of some expressions
abbrev pub standing_of_all : (Name → Bool) → ExprTrees → Standing
standing_of_all decided es = record { decided = one_holds_decision decided es; free = are_free decided es }

-- what is said of the terms of a chain
abbrev pub standing_of_terms : (Name → Bool) → Terms → Standing
standing_of_terms decided terms = record { decided = term_holds_decision decided terms; free = are_free_terms decided terms }

-- what is said of the indices of a read
abbrev pub standing_of_indices : (Name → Bool) → Indices → Standing
standing_of_indices decided indices =
    record { decided = index_holds_decision decided indices; free = are_free_indices decided indices }

-- what is said of two parts together
abbrev pub both : Standing → Standing → Standing
both one other = record { decided = one.decided || other.decided; free = one.free && other.free }

-- the test of names hidden_without those that are hidden
unfoldable pub hidden_without : (Name → Bool) → Hidden → Name → Bool
hidden_without decided Nothing = decided
hidden_without decided (Names' _ outer names) = hiding names.now (hidden_without decided outer)
hidden_without decided (Generators' _ outer gens) = hiding (generator_names (generators_of gens.now)) (hidden_without decided outer)
