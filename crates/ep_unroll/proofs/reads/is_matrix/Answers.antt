use Rattle.ep_unroll.proofs.Words.{ap, ◌∙◌, read_result}
use Rattle.ep_unroll.proofs.PartSteps.{plain_empty, plain_matrix}
use Rattle.ep_unroll.proofs.reads.is_matrix.Goals as goal

pub returns-in-Matrix : goal.returns-in-Matrix
returns-in-Matrix c told mode o = ap (λ t. read_result mode t o) c.in-Matrix.is ∙ plain_matrix mode _ _ o

pub returns-in-Empty : goal.returns-in-Empty
returns-in-Empty c told mode o = ap (λ t. read_result mode t o) c.in-Empty.is ∙ plain_empty mode o
