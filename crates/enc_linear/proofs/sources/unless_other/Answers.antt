use Rattle.std.proofs.Common.{ℤ, subst, sym, w64, arith}
use Rattle.std.proofs.lemmas.Int.{ints, to_z-of_z}
use Rattle.std.specs.Prelude.{IfOk}
use Rattle.enc_linear.specs.declared.sources.Source.{Source}
use Rattle.enc_linear.specs.declared.sources.Source.TheVariants as source
use Rattle.enc_linear.specs.Sources.{AreGuardsOrOther}
use Rattle.enc_linear.proofs.Reading.{variable_other}
use Rattle.enc_linear.proofs.sources.unless_other.Goals as goal

pub returns-in_ok-atoms-in-Variable : goal.returns-in_ok-atoms-in-Variable
returns-in_ok-atoms-in-Variable c =
    subst (λ (s : Source). AreGuardsOrOther s c.args.number c.args.guards.now c.in_ok-atoms-in-Variable.atoms.items) (sym c.in-Variable.is)
    (variable_other _ c.args.number _ c.args.guards.now c.in_ok-atoms-in-Variable.atoms.items c.is_not.result c.in_ok-atoms-in-Variable.ensures c.is_not.ensures (omega (arith, ints)))

pub returns-in-Ladder : goal.returns-in-Ladder
returns-in-Ladder c =
    subst (λ (s : Source). IfOk c.unless_other_height.result (λ atoms. AreGuardsOrOther s c.args.number c.args.guards.now atoms.items)) (sym c.in-Ladder.is)
    (subst (λ (m : ℤ). IfOk c.unless_other_height.result (λ atoms. AreGuardsOrOther (source.Ladder c.in-Ladder.ladder) m c.args.guards.now atoms.items)) (to_z-of_z w64 c.args.number c.ranges.number) c.unless_other_height.ensures)
