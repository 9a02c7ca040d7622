use Rattle.std.proofs.Common.{refl}
use Rattle.ep_print.specs.Refusals.{file_word}
use Rattle.ep_print.proofs.lines.file_word.Goals as goal

pub returns-in-Model : goal.returns-in-Model
unfolding file_word
returns-in-Model c = rw c.in-Model.is refl

pub returns-in-Params : goal.returns-in-Params
unfolding file_word
returns-in-Params c = rw c.in-Params.is refl

pub returns-in-Solution : goal.returns-in-Solution
unfolding file_word
returns-in-Solution c = rw c.in-Solution.is refl

pub returns-in-Cnf : goal.returns-in-Cnf
unfolding file_word
returns-in-Cnf c = rw c.in-Cnf.is refl

pub returns-in-Log : goal.returns-in-Log
unfolding file_word
returns-in-Log c = rw c.in-Log.is refl

pub returns-in-Opb : goal.returns-in-Opb
unfolding file_word
returns-in-Opb c = rw c.in-Opb.is refl
