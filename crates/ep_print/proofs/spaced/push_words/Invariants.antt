use Rattle.std.proofs.Common.{◌≡◌, ◌++◌, drop, map}
use Rattle.ep_print.specs.Putting.{words_spaced}
use Rattle.ep_print.proofs.spaced.push_words.Given as goal

abbrev pub invariant-loop-word : goal.invariant-loop-word
invariant-loop-word l = l.text.items ++ words_spaced (map (λ word. word.now) (drop l.word-index l.words)) ≡ l.initial.text.items ++ words_spaced (map (λ word. word.now) l.words)
