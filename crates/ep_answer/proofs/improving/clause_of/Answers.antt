use Rattle.std.proofs.Common.{◌++◌, ◌∷◌, [], ap, ◌∙◌}
use Rattle.ep_answer.proofs.Deciding.{said_literal, said_none}
use Rattle.ep_answer.proofs.improving.clause_of.Goals.{in-False, in-Is+in_ok-push-in-Is}
use Rattle.ep_answer.proofs.improving.clause_of.Goals as goal

pub returns : goal.returns
returns c = elim c.match-known.branch [
  | in-False w ↦ said_none c.new.result c.match-known.lits.items c.args.known c.new.ensures.same (ap (λ ls. ls.items) w.lits-is ∙ c.new-lits.ensures.items) w.in-False.is
  | in-Is+in_ok-push-in-Is w ↦ said_literal c.new.result c.match-known.lits.items c.args.known w.in-Is.lit c.new.ensures.same (ap (λ ls. ls.items) w.lits-is ∙ w.in_ok-push-in-Is.ensures.items ∙ ap (λ ls. ls ++ w.in-Is.lit ∷ []) c.new-lits.ensures.items) w.in-Is.is
]
