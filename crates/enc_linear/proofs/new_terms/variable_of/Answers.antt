use Rattle.std.proofs.Common.{pos, refl}
use Rattle.enc_linear.proofs.NewTerms.{has_variable}
use Rattle.enc_linear.proofs.new_terms.variable_of.Goals as goal

pub returns : goal.returns
returns c =
    has_variable c.args.layout.now c.args.f.now c.new_var.new.self c.new_var.new.f _ c.in_ok-var.var (pos 1) c.in_ok-term.term c.in_ok-var.ensures.entry c.in_ok-var.ensures.goes_on c.in_ok-var.ensures.choice c.in_ok-var.ensures.number
    c.in_ok-term.ensures.of_layout c.in_ok-term.ensures.worth refl
