use Rattle.std.proofs.Common.{◌≡◌, ◌++◌, [], ◌∷◌, codes, drop, map, false}
use Rattle.ep_print.specs.Putting.{continued, words_spaced}
use Rattle.ep_print.proofs.spaced.push_placed.Given as goal

abbrev pub invariant-loop-name : goal.invariant-loop-name
invariant-loop-name l = l.text.items ++ words_spaced (continued (codes "," ∷ []) l.started (map (λ name. name ∷ []) (map (λ entry. entry.0) (drop l.name-index l.names)))) ≡ l.initial.text.items ++ words_spaced (continued (codes "," ∷ []) false (map (λ name. name ∷ []) (map (λ entry. entry.0) l.names)))
