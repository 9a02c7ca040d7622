use Rattle.ep_eval.proofs.Words.{ap, sym, ◌∙◌, arith, option_and_then, indices_in, read_value, value_tree, held_value}
use Rattle.ep_eval.proofs.ReadSteps.{read_none}
use Rattle.ep_eval.proofs.WalkSteps.{no_runs}
use Rattle.ep_eval.proofs.reads.read_lent.Goals as goal

pub returns-then-rest-eq0 : goal.returns-then-rest-eq0
unfolding held_value
returns-then-rest-eq0 c =
    sym (c.descend.ensures
    ∙ ap (option_and_then (λ found. read_value (indices_in found.1.now) (value_tree found.0.now))) c.in-Some.is
    ∙ read_none c.in-Some.rest.now (value_tree c.in-Some.part.now) (no_runs c.in-Some.rest.now (omega (arith, c.if-rest-eq0.true))))
