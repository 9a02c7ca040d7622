use Rattle.std.proofs.Common.{◌≡◌, length}
use Rattle.sat_text.specs.Words.{behind_line, first_line, words}
use Rattle.sat_text.specs.Proofs.{items_at, any_hint}
use Rattle.sat_text.proofs.ItemSteps.{with_front}
use Rattle.sat_text.proofs.items.hints.Given as goal

abbrev pub invariant-loop-number : goal.invariant-loop-number
invariant-loop-number l =
    (with_front l.found.items (items_at any_hint (words (first_line l.rest))) ≡ items_at any_hint (words (first_line l.text)))
    × (behind_line l.rest ≡ behind_line l.text)

abbrev pub decreases-loop-number : goal.decreases-loop-number
decreases-loop-number l = length l.rest
