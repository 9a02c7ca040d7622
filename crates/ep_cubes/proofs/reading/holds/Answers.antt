use Rattle.std.proofs.Common.{sym, ap, ◌∙◌}
use Rattle.enc_var.specs.Decoding.{known_holds}
use Rattle.sat_cubes.specs.Answers.{is_variable_true}
use Rattle.ep_cubes.proofs.Told.{known_true, known_false, known_literal}
use Rattle.ep_cubes.proofs.reading.holds.Goals as goal

pub returns-in-True : goal.returns-in-True
returns-in-True c = sym (ap (known_holds (is_variable_true c.args.values.now)) c.in-True.is ∙ known_true (is_variable_true c.args.values.now))

pub returns-in-False : goal.returns-in-False
returns-in-False c = sym (ap (known_holds (is_variable_true c.args.values.now)) c.in-False.is ∙ known_false (is_variable_true c.args.values.now))

pub returns-in-Is : goal.returns-in-Is
returns-in-Is c =
    known_literal (is_variable_true c.args.values.now) c.in-Is.lit c.value_at.result c.positive.result (c.value_at.ensures ∙ ap (is_variable_true c.args.values.now) c.var.ensures.value) c.positive.ensures
    ∙ sym (ap (known_holds (is_variable_true c.args.values.now)) c.in-Is.is)
