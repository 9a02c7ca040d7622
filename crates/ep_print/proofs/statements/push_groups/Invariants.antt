use Rattle.std.proofs.Common.{◌≡◌, ◌++◌, [], ◌∷◌, codes, drop, map, false}
use Rattle.ep_tree.specs.Views.{group_of}
use Rattle.ep_print.specs.Putting.{continued, words_spaced}
use Rattle.ep_print.specs.Words.{group_words}
use Rattle.ep_print.proofs.statements.push_groups.Given as goal

abbrev pub invariant-loop-group : goal.invariant-loop-group
invariant-loop-group l = l.text.items ++ words_spaced (continued (codes "," ∷ []) l.started (map group_words (map group_of (drop l.group-index l.groups)))) ≡ l.initial.text.items ++ words_spaced (continued (codes "," ∷ []) false (map group_words (map group_of l.groups)))
