use Rattle.ep_unroll.proofs.Words.{ap, sym, ◌∙◌, mode_in, read_result}
use Rattle.ep_unroll.proofs.reads.is_judged.Goals as goal

pub returns-in-Relational-clause-mode : goal.returns-in-Relational-clause-mode
returns-in-Relational-clause-mode c told = sym c.mode.ensures.mode ∙ c.in-Relational.is

pub returns-in-Relational-clause-other : goal.returns-in-Relational-clause-other
returns-in-Relational-clause-other c told o = c.is_truth.ensures.other told (mode_in c.args.scope) o

pub returns-in-Strict-clause-other : goal.returns-in-Strict-clause-other
unfolding read_result
returns-in-Strict-clause-other c told o = ap (λ m. read_result m c.args.ty o) (sym c.mode.ensures.mode ∙ c.in-Strict.is)
