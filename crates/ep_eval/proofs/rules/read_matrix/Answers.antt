use Rattle.ep_eval.proofs.Words.{Some, ap, ◌∙◌, arith, type_if}
use Rattle.ep_eval.proofs.JudgingForms.{reads_beyond, reads_within}
use Rattle.ep_eval.proofs.rules.read_matrix.Goals as goal

pub returns-then-stated-dims : goal.returns-then-stated-dims
returns-then-stated-dims c = reads_beyond c.args.dims c.args.of c.args.integer c.args.stated c.args.slices (omega (arith, c.if-stated-dims.true))

pub returns-then-slices-others : goal.returns-then-slices-others
returns-then-slices-others c =
    reads_beyond c.args.dims c.args.of c.args.integer c.args.stated c.args.slices (omega (arith, c.if-stated-dims.false, c.if-slices-others.true))

pub returns : goal.returns
returns c =
    c.type_if.ensures ∙ ap (λ t. type_if t (Some c.args.integer)) c.left_type.ensures
    ∙ reads_within c.args.dims c.args.of c.args.integer c.args.stated c.args.slices (omega (arith, c.if-stated-dims.false, c.if-slices-others.false))
