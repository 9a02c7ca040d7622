use Rattle.std.proofs.Common.{◌∙◌, w64, rules}
use Rattle.std.proofs.lemmas.Int.{to_z-of_z}
use Rattle.enc_var.specs.Layouts.{decoded_values}
use Rattle.sat_cubes.specs.Answers.{is_variable_true}
use Rattle.ep_answer.proofs.Deciding.{numbers_more, numbers_none}
use Rattle.ep_cubes.proofs.reading.read_values.Goals as goal

pub loop-var-init : goal.loop-var-init
loop-var-init c = c.new-found.ensures.items ∙ numbers_none (decoded_values c.args.layout.now (is_variable_true c.args.values.now))

pub loop-var-preserved : goal.loop-var-preserved
loop-var-preserved c =
    c.in_ok-push.ensures.items
    ∙ numbers_more (decoded_values c.args.layout.now (is_variable_true c.args.values.now)) c.args.vars.now c.loop-var.var-index 0 c.loop-var.found.items _ c.loop-var-test.true c.loop-var.invariant (to_z-of_z w64 c.in_ok-number_of.field-0 (search rules) ∙ c.in_ok-number_of.ensures)
