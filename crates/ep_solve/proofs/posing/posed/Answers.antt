use Rattle.std.proofs.Common.{◌≡◌, ◌∙◌, true, List, map, length, sym, ap, subst}
use Rattle.std.specs.Prelude.{All}
use Rattle.cnf_core.specs.Events.{LogEvent, LogState, given, givens, is_given}
use Rattle.cnf_core.specs.Literal.{Literal}
use Rattle.enc_var.specs.Notes.{cell_notes}
use Rattle.ep_ground.specs.declared.cells.Cell.{Cell}
use Rattle.sat_search.proofs.Continued.{sound_givens}
use Rattle.sat_search.specs.Logs.{IsSound}
use Rattle.sat_search.specs.View.{SolverView}
use Rattle.ep_solve.proofs.GivenLogs.{all-base, are-given, givens-are}
use Rattle.ep_solve.proofs.posing.posed.Goals as goal

pub mark-requires : goal.mark-requires
mark-requires c =
    all-base c.args.encoded.formula.clauses c.give_all.new.log.events c.len-base.result
    (ap (λ (l : LogState). l.events) c.in_ok-give_all.ensures.all)
    (c.len-base.ensures.value ∙ ap length c.events.ensures.value)

pub returns-clause-poses : goal.returns-clause-poses
returns-clause-poses c = λ mode i stands cells.
    let clauses : List (List Literal) = c.args.encoded.formula.clauses in
    let P : List LogEvent → Type 0 = λ es. All (λ e. is_given e ≡ true) es in
    let kept : c.mark.new.self.events ≡ c.give_all.new.log.events = ap (λ (l : LogState). l.events) c.mark.ensures in
    let are : c.mark.new.self.events ≡ map given clauses = kept ∙ ap (λ (l : LogState). l.events) c.in_ok-give_all.ensures.all in
    let counted : c.len-base.result ≡ length c.give_all.new.log.events = c.len-base.ensures.value ∙ ap length c.events.ensures.value in
    record {
      formula = c.args.encoded.formula;
      stands = stands;
      cells = cells;
      are_givens = subst P (sym are) (are-given clauses);
      givens_are = ap givens are ∙ givens-are clauses;
      is_base = ap (λ (l : LogState). l.base) c.mark.ensures ∙ counted ∙ ap length (sym kept);
      notes = ap (λ (l : LogState). l.notes) c.mark.ensures ∙ c.in_ok-notes.ensures ∙ ap (λ (cells : List Cell). cell_notes c.args.encoded.layout cells c.args.encoded.map.cells.items) c.deref.ensures.value;
      is_whole = ap (λ (s : SolverView). s.broken) c.in_ok-solver.ensures.made;
      clauses = ap (λ (s : SolverView). s.clauses) c.in_ok-solver.ensures.made;
    }

pub returns-clause-sound : goal.returns-clause-sound
returns-clause-sound c =
    let kept : c.mark.new.self.events ≡ c.give_all.new.log.events = ap (λ (l : LogState). l.events) c.mark.ensures in
    subst IsSound (sym kept) (sound_givens c.give_all.new.log.events c.in_ok-give_all.ensures.givens)

pub returns-in_err-give_all-clause-sound : goal.returns-in_err-give_all-clause-sound
returns-in_err-give_all-clause-sound c = sound_givens c.give_all.new.log.events c.in_err-give_all.ensures.givens

pub returns-in_err-notes-clause-sound : goal.returns-in_err-notes-clause-sound
returns-in_err-notes-clause-sound c = sound_givens c.give_all.new.log.events c.in_ok-give_all.ensures.givens

pub returns-in_err-solver-clause-sound : goal.returns-in_err-solver-clause-sound
returns-in_err-solver-clause-sound c =
    let kept : c.mark.new.self.events ≡ c.give_all.new.log.events = ap (λ (l : LogState). l.events) c.mark.ensures in
    subst IsSound (sym kept) (sound_givens c.give_all.new.log.events c.in_ok-give_all.ensures.givens)
