use Rattle.std.proofs.Common.{◌≡◌, ◌++◌, [], ◌∷◌, codes, drop, map, false}
use Rattle.ep_tree.specs.Views.{expr_tree}
use Rattle.ep_print.specs.Putting.{continued, words_spaced}
use Rattle.ep_print.specs.Words.{expr_words}
use Rattle.ep_print.proofs.statements.push_clauses.Given as goal

abbrev pub invariant-loop-clause : goal.invariant-loop-clause
invariant-loop-clause l = l.text.items ++ words_spaced (continued (codes "," ∷ []) l.started (map expr_words (map expr_tree (drop l.clause-index l.clauses)))) ≡ l.initial.text.items ++ words_spaced (continued (codes "," ∷ []) false (map expr_words (map expr_tree l.clauses)))
