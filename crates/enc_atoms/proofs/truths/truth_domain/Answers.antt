use Rattle.std.proofs.Common.{◌↔◌, ℤ, List}
use Rattle.std.specs.List.{Any, Contains}
use Rattle.std.proofs.lemmas.Result.{IfOk-weaker}
use Rattle.ep_base.specs.Runs.{IsIn}
use Rattle.enc_atoms.specs.Steps.{IsTruthDomain}
use Rattle.enc_atoms.proofs.NewTruths.{truth_domain_is}
use Rattle.enc_atoms.proofs.truths.truth_domain.Goals as goal

pub returns : goal.returns
returns c =
    IfOk-weaker c.new.result (λ (set : List ℤ). (number : ℤ) → Contains set number ↔ Any (IsIn number) c.in_ok-parts.parts.items) IsTruthDomain
    (λ set h. truth_domain_is set c.in_ok-parts.parts.items c.in_ok-parts.ensures.items h) c.new.ensures.numbers
