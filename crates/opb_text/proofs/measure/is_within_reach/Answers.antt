use Rattle.std.proofs.Common.{◌≡◌, ◌≤◌, List, map, subst, sym, ap, ◌∙◌, arith}
use Rattle.std.specs.Prelude.{All}
use Rattle.opb_text.specs.declared.content.OpbRow.{OpbRow}
use Rattle.opb_text.specs.Contents.{objective_terms}
use Rattle.opb_text.specs.Views.{plain_opb, plain_row}
use Rattle.opb_text.specs.Weights.{factors_reach, row_reach, most_reach}
use Rattle.opb_text.proofs.measure.is_within_reach.Goals as goal

pub returns-then-factors_reach-from : goal.returns-then-factors_reach-from
returns-then-factors_reach-from c =
    let size : c.factors_reach.result ≡ factors_reach (objective_terms (plain_opb c.args.opb.now)) = c.factors_reach.ensures.value ∙ ap factors_reach c.objective_terms.ensures in
    (λ is. absurd cc, λ reach. absurd (omega (arith, reach.objective, size, c.from.ensures, c.if-factors_reach-from.true)))

pub returns : goal.returns
returns c =
    let size : c.factors_reach.result ≡ factors_reach (objective_terms (plain_opb c.args.opb.now)) = c.factors_reach.ensures.value ∙ ap factors_reach c.objective_terms.ensures in
    let near : List OpbRow → Type 0 = λ rows. All (λ row. row_reach row ≤ most_reach) (map plain_row rows) in (
      λ is. record {
        objective = omega (arith, size, c.from.ensures, c.if-factors_reach-from.false);
        rows = subst near c.deref.ensures.value (c.are_within_reach.ensures.0 is);
      },
      λ reach. c.are_within_reach.ensures.1 (subst near (sym c.deref.ensures.value) reach.rows),
    )
