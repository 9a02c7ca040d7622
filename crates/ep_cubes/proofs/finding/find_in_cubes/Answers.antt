use Rattle.std.proofs.Common.{ℕ, List, length, sym, subst}
use Rattle.cnf_core.specs.Events.{HasBase}
use Rattle.cnf_core.specs.Literal.{Literal}
use Rattle.ep_answer.specs.AnswerViews.{plain_answer}
use Rattle.ep_flat.specs.FlatViews.{plain_map}
use Rattle.ep_cubes.proofs.Marking.{base_of}
use Rattle.ep_cubes.proofs.finding.find_in_cubes.Goals as goal

pub mark-requires : goal.mark-requires
mark-requires g c =
    let events = c.in_ok-answer.log.events in
    subst (λ (count : ℕ). HasBase events count) (sym c.len.ensures)
    (subst (λ (clauses : List (List Literal)). HasBase events (length clauses)) (sym c.clauses.ensures.value)
    (base_of c.args.layout.now (plain_map c.args.cell_map.now) c.args.formula.now c.args.cubes c.args.budget events (plain_answer c.in_ok-answer.answer)
    (c.in_ok-answer.ensures c.args.formula.now c.args.cubes c.args.budget c.in_ok-cubed.ensures)))
