use Rattle.std.proofs.Common.{◌+◌}
use Rattle.enc_all.proofs.Encoding.{variables_all, variables_more, variables_none}
use Rattle.enc_all.proofs.whole.add_variables.Goals as goal

pub loop-domain-init : goal.loop-domain-init
loop-domain-init c = variables_none c.args.layout.now c.args.f.now c.requires.layout c.requires.formula

pub loop-domain-preserved : goal.loop-domain-preserved
loop-domain-preserved c =
    variables_more c.args.domains.now c.loop-domain.domain-index c.domain-item.result c.loop-domain.layout c.loop-domain.f (c.loop-domain.f.vars + 1) c.new_var.new.self c.new_var.new.f c.loop-domain-test.true c.domain-item.is
    c.loop-domain.invariant c.in_ok-_number.ensures.entry c.in_ok-_number.ensures.goes_on c.in_ok-_number.ensures.choice

pub returns : goal.returns
returns c = variables_all c.args.domains.now c.loop-domain.domain-index c.loop-domain.layout c.loop-domain.f c.loop-domain-test.false c.loop-domain.invariant
