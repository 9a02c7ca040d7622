use Rattle.ep_unroll.proofs.Words.{ap, ◌∙◌, read_result}
use Rattle.ep_unroll.proofs.PartSteps.{plain_empty, plain_int, plain_matrix}
use Rattle.ep_unroll.proofs.reads.is_truth.Goals as goal

pub returns-in-Int-clause-other : goal.returns-in-Int-clause-other
returns-in-Int-clause-other c told mode o = ap (λ t. read_result mode t o) c.in-Int.is ∙ plain_int mode o

pub returns-in-Matrix-clause-other : goal.returns-in-Matrix-clause-other
returns-in-Matrix-clause-other c told mode o = ap (λ t. read_result mode t o) c.in-Matrix.is ∙ plain_matrix mode _ _ o

pub returns-in-Empty-clause-other : goal.returns-in-Empty-clause-other
returns-in-Empty-clause-other c told mode o = ap (λ t. read_result mode t o) c.in-Empty.is ∙ plain_empty mode o
