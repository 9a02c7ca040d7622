use Rattle.ep_eval.proofs.Words.{ap, sym, ◌∙◌, truth_in, undefined_truth, of_bool}
use Rattle.ep_eval.proofs.forms.truth_value.Goals as goal

pub returns-in-Some : goal.returns-in-Some
unfolding truth_in
returns-in-Some c = c.held_truth.ensures ∙ ap (truth_in c.args.mode) (sym c.in-Some.is)

pub returns-in-Relational : goal.returns-in-Relational
unfolding truth_in undefined_truth of_bool
returns-in-Relational c =
    c.held_truth-in-Relational.ensures ∙ ap undefined_truth (sym c.in-Relational.is) ∙ ap (truth_in c.args.mode) (sym c.in-None.is)

pub returns-in-Strict : goal.returns-in-Strict
unfolding truth_in undefined_truth
returns-in-Strict c = ap undefined_truth (sym c.in-Strict.is) ∙ ap (truth_in c.args.mode) (sym c.in-None.is)
