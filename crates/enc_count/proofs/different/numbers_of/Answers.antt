use Rattle.std.proofs.Common.{◌↔◌, ◌∙◌, ℤ, List}
use Rattle.std.specs.List.{Any, Contains}
use Rattle.std.proofs.lemmas.Result.{IfOk-weaker}
use Rattle.ep_base.specs.Runs.{IsIn}
use Rattle.enc_count.proofs.Differing.{runs_end, runs_step}
use Rattle.enc_count.specs.Different.{HasDomains}
use Rattle.enc_count.proofs.different.numbers_of.Goals as goal

pub loop-var-preserved : goal.loop-var-preserved
loop-var-preserved c =
    runs_step c.args.layout.now c.args.vars.now c.loop-var.var-index c.loop-var.parts.items c.extend_from_slice.new.self.items c.runs-runs.result.now c.loop-var-test.true c.loop-var.invariant (c.runs-runs.ensures.numbers ∙ c.domain.ensures) c.in_ok-extend_from_slice.ensures.items

pub returns : goal.returns
returns c =
    IfOk-weaker c.new.result (λ (set : List ℤ). (number : ℤ) → Contains set number ↔ Any (IsIn number) c.loop-var.parts.items) (λ (set : List ℤ). HasDomains c.args.layout.now c.args.vars.now set)
    (λ set h. runs_end c.args.layout.now c.args.vars.now c.loop-var.var-index c.loop-var.parts.items set c.loop-var-test.false c.loop-var.invariant h) c.new.ensures.numbers
