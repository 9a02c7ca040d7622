use Rattle.std.proofs.Common.{ℤ, subst, sym, w64, arith}
use Rattle.std.proofs.lemmas.Int.{ints, to_z-of_z}
use Rattle.std.specs.Prelude.{IfOk}
use Rattle.enc_linear.specs.declared.sources.Source.{Source}
use Rattle.enc_linear.specs.declared.sources.Source.TheVariants as source
use Rattle.enc_linear.specs.Sources.{SaysAtMost}
use Rattle.enc_linear.proofs.Reading.{variable_at_most}
use Rattle.enc_linear.proofs.sources.at_most.Goals as goal

pub returns-in-Variable : goal.returns-in-Variable
returns-in-Variable c = subst (λ (s : Source). SaysAtMost s c.args.most c.at_most.result) (sym c.in-Variable.is) (variable_at_most _ c.args.most _ c.at_most.result c.at_most.ensures (omega (arith, ints)))

pub returns-in-Ladder : goal.returns-in-Ladder
returns-in-Ladder c =
    subst (λ (s : Source). IfOk c.ladder_at_most.result (λ atom. SaysAtMost s c.args.most atom)) (sym c.in-Ladder.is)
    (subst (λ (m : ℤ). IfOk c.ladder_at_most.result (λ atom. SaysAtMost (source.Ladder c.in-Ladder.ladder) m atom)) (to_z-of_z w64 c.args.most c.ranges.most) c.ladder_at_most.ensures)
