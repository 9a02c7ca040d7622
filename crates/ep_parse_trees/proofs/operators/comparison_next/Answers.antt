use Rattle.std.proofs.Common.{sym, ◌∙◌}
use Rattle.ep_parse_below.proofs.WordFacts.{behind_nothing, behind_open, behind_word}
use Rattle.ep_parse_trees.proofs.operators.comparison_next.Goals as goal

pub returns-then-left : goal.returns-then-left
returns-then-left c = record { next = sym (behind_open _ _ _ (sym c.requires.left.ends ∙ c.if-left.true)) }

pub returns-in_default : goal.returns-in_default
returns-in_default c =
    record { next = sym (behind_nothing _ _ _ _ (sym c.requires.left.ends ∙ c.if-left.false) c.word_next.ensures.next c.in_default.is) }

pub returns : goal.returns
returns c =
    record { next = behind_word _ _ _ _ _ _ (sym c.requires.left.ends ∙ c.if-left.false) c.word_next.ensures.next c.in-Some.is c.find_comparison.ensures.meant }
