use Rattle.std.proofs.Common.{◌≡◌, ◌++◌, drop, map}
use Rattle.ep_tree.specs.Views.{named_value}
use Rattle.ep_print.specs.Answers.{letting_texts}
use Rattle.ep_explain_text.proofs.texts.push_lettings.Given as goal

abbrev pub invariant-loop-entry : goal.invariant-loop-entry
invariant-loop-entry l =
    l.text.items ++ letting_texts (map named_value (drop l.entry-index l.entries)) ≡ l.initial.text.items ++ letting_texts (map named_value l.entries)
