use Rattle.std.proofs.Common.{◌≡◌, ℕ, ◌+◌, ◌≤◌, [], false, length}
use Rattle.cnf_core.specs.Literal.{VariablesUpTo}
use Rattle.sat_text.specs.Words.{lines, text_words}
use Rattle.sat_text.specs.Heard.{Heard}
use Rattle.sat_text.specs.declared.notes.Comments.{Comments}
use Rattle.sat_text.specs.Cnf.{clauses_of_words, Completes}
use Rattle.sat_text.proofs.clauses.read_clauses.Given as goal

abbrev pub invariant-loop-rest : goal.invariant-loop-rest
invariant-loop-rest l =
    VariablesUpTo l.f.vars l.begun.items × (l.f.vars ≡ l.vars) × (l.number + length l.rest ≤ l.before + length l.text)
    × ((last : ℕ) → Completes last l.f l.left l.begun.items (text_words (l.number + 1) (lines l.rest)) (clauses_of_words last l.vars l.count [] (text_words (l.before + 1) (lines l.text))))
    × (l.f.from_new ≡ false) × ((new : Comments) → Heard l.said new (lines l.rest) → Heard l.initial.said new (lines l.text))

abbrev pub decreases-loop-rest : goal.decreases-loop-rest
decreases-loop-rest l = length l.rest
