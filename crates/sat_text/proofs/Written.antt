-- What is read again is in the grammar.
use Rattle.std.proofs.Common.{◌≡◌, ℕ, List, Result, Ok, Err, IfOk}
use Rattle.std.specs.Global.{Vec}
use Rattle.cnf_core.specs.Formula.{Cnf}
use Rattle.cnf_core.specs.Events.{Note}
use Rattle.cnf_core.specs.Lines.{ProofLine}
use Rattle.sat_text.specs.Proofs.{proof_of}
use Rattle.sat_text.specs.Cnf.{plain_formula}
use Rattle.sat_text.specs.CnfGrammar.{SpellsCnf}
use Rattle.sat_text.specs.LogGrammar.{SpellsLog}
use Rattle.sat_text.specs.Writing.{SaysAgain}
use Rattle.sat_text.proofs.CnfSpelled.{cnf_sound}
use Rattle.sat_text.proofs.LogSpelled.{log_sound}

pub log_spelled : {E : Type 0} (r : Result (Vec ℕ) E) (read : List ProofLine) → IfOk r (λ text. proof_of text.items ≡ Ok read) → IfOk r (λ text. SpellsLog text.items read)
log_spelled (Ok text) read again = log_sound text.items read again
log_spelled (Err e) read again = tt

pub cnf_spelled : {E : Type 0} (r : Result (Vec ℕ) E) (f : Cnf) (notes : List Note) (added : ℕ) → IfOk r (λ text. SaysAgain text.items f notes added) → IfOk r (λ text. SpellsCnf text.items f.vars f.clauses)
cnf_spelled (Ok text) f notes added again = cnf_sound text.items (plain_formula f) again.same_formula
cnf_spelled (Err e) f notes added again = tt
