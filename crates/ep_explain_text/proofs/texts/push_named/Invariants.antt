use Rattle.std.proofs.Common.{◌≡◌, ◌++◌, drop, map}
use Rattle.std.specs.List.{flat_map}
use Rattle.ep_explain.specs.Tried.{named_clause}
use Rattle.ep_explain_text.specs.ExplanationTexts.{without_text}
use Rattle.ep_explain_text.proofs.texts.push_named.Given as goal

abbrev pub invariant-loop-one : goal.invariant-loop-one
invariant-loop-one l =
    l.text.items ++ flat_map without_text (map named_clause (drop l.one-index l.named)) ≡ l.initial.text.items ++ flat_map without_text (map named_clause l.named)
