use Rattle.std.proofs.Common.{sym, ap, ◌∙◌}
use Rattle.enc_var.specs.Decoding.{known_holds}
use Rattle.ep_answer.proofs.Deciding.{holds_false, holds_literal, holds_true}
use Rattle.ep_answer.specs.Searches.{kept_values}
use Rattle.ep_answer.proofs.decoding.holds.Goals as goal

pub returns-in-True : goal.returns-in-True
returns-in-True c = sym (ap (known_holds (kept_values c.args.solver.now)) c.in-True.is ∙ holds_true (kept_values c.args.solver.now))

pub returns-in-False : goal.returns-in-False
returns-in-False c = sym (ap (known_holds (kept_values c.args.solver.now)) c.in-False.is ∙ holds_false (kept_values c.args.solver.now))

pub returns-in-Is : goal.returns-in-Is
returns-in-Is c =
    holds_literal c.args.solver.now c.value.result c.positive.result c.var.result c.in-Is.lit c.requires c.value.ensures c.var.ensures.value c.positive.ensures
    ∙ sym (ap (known_holds (kept_values c.args.solver.now)) c.in-Is.is)
