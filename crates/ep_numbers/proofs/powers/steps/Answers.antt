use Rattle.std.proofs.Common.{pos, negsuc, sym, ap, ◌∙◌, arith, w64, rules}
use Rattle.std.specs.Prelude.{int_lt}
use Rattle.std.proofs.lemmas.Int.{to_z-of_z}
use Rattle.ep_numbers.proofs.PowerLaws.{power_small}
use Rattle.ep_numbers.proofs.powers.steps.Goals as goal

pub returns : goal.returns
returns c =
    let word = to_z-of_z w64 c.args.base (search rules) in
    power_small c.args.base c.args.exponent (ap (int_lt (pos 1)) (sym word) ∙ c.if-base-gt1.false) (ap (λ x. int_lt x (negsuc 0)) (sym word) ∙ c.if-base-ltminus1.false)
    (omega (arith, c.if-exponent-le2.false))
