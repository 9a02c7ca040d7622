use Rattle.std.proofs.Common.{ℕ, cond, eqb, false, ap, ◌∙◌}
use Rattle.cnf_core.specs.Literal.{Literal, code_of}
use Rattle.log_check.specs.Table.{has}
use Rattle.log_check.proofs.Trues.{left_falses}
use Rattle.log_check.proofs.signs.Signs.clear.Goals as goal

pub loop-lit-preserved : goal.loop-lit-preserved
loop-lit-preserved c =
    left_falses (has c.loop-lit.self-inside.falses) (has c.take_out.new.self) c.loop-lit.self-inside.trues.items c.pop.new.self.items c.in-Some.lit c.in-Some.ensures.items c.loop-lit.invariant
    (λ n. c.take_out.ensures n ∙ ap (λ (m : ℕ). cond (eqb m n) false (has c.loop-lit.self-inside.falses n)) (c.code.ensures ∙ ap (λ (l : Literal). code_of l) c.negated.ensures))
