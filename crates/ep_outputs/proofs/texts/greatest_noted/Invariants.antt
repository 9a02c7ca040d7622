use Rattle.std.proofs.Common.{◌≤◌, ℕ}
use Rattle.cnf_core.specs.declared.lit.TheConstants.{MOST_VARIABLE}
use Rattle.ep_outputs.specs.Outputs.{AreNotedUpTo}
use Rattle.ep_outputs.proofs.Givens.{AreFirstNoted}
use Rattle.ep_outputs.proofs.texts.greatest_noted.Given as goal

abbrev pub invariant-loop-note : goal.invariant-loop-note
invariant-loop-note l = AreFirstNoted l.most l.note-index l.notes × (l.most ≤ MOST_VARIABLE) × ((n : ℕ) → AreNotedUpTo n l.notes → l.most ≤ n)
