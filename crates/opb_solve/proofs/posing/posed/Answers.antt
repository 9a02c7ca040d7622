use Rattle.std.proofs.Common.{◌≡◌, ◌∙◌, ℕ, ℤ, true, List, map, length, take, sym, ap, subst}
use Rattle.std.specs.List.{All}
use Rattle.std.proofs.lemmas.List.FromFn.{length-range_with_len}
use Rattle.cnf_core.specs.Events.{LogEvent, LogState, Note, given, givens, is_given}
use Rattle.cnf_core.specs.Literal.{Literal}
use Rattle.enc_var.specs.Notes.{cell_notes}
use Rattle.ep_flat.specs.Flats.{StandForCells}
use Rattle.ep_flat.specs.FlatViews.{plain_flat, plain_map}
use Rattle.ep_ground.specs.declared.cells.Cell.{Cell}
use Rattle.opb_solve.proofs.Formulas.{first_domains, formula_is}
use Rattle.opb_solve.proofs.GivenLogs.{all_base, are_given, givens_are}
use Rattle.opb_solve.proofs.Notes.{notes_are, readable_notes}
use Rattle.opb_solve.proofs.Allowing.{cell_values}
use Rattle.opb_solve.proofs.posing.posed.Goals as goal
use Rattle.opb_text.specs.Flats.{truth_domains}
use Rattle.opb_text.specs.Views.{plain_opb}
use Rattle.sat_search.proofs.Continued.{sound_givens}
use Rattle.sat_search.specs.Logs.{IsSound}
use Rattle.sat_search.specs.View.{SolverView}
use Rattle.sat_text.specs.Writing.{IsReadableNote}

pub cells_of-requires : goal.cells_of-requires
cells_of-requires c =
    subst (λ (ds : List (List ℤ)). take (length c.args.vars.now) ds ≡ truth_domains c.args.vars.now) (sym c.deref.ensures.value)
    (first_domains (plain_opb c.args.opb.now) c.args.vars.now (plain_flat c.in_ok-flat.flat) c.in_ok-flat.goal c.requires.vars c.in_ok-flat.ensures)

pub notes-requires : goal.notes-requires
notes-requires c =
    let layout = c.in_ok-formula.layout in
    let m = plain_map c.in_ok-map.map in
    let made = formula_is (plain_opb c.args.opb.now) c.args.vars.now (plain_flat c.in_ok-flat.flat) layout c.in_ok-formula.formula c.in_ok-flat.goal m
    c.requires.vars c.in_ok-flat.ensures c.in_ok-formula.ensures c.in_ok-map.ensures in
    subst (λ (cs : List Cell). StandForCells (map (λ one. one.values) cs) (map (λ e. e.domain) layout) m.cells) (sym c.deref-2.ensures.value)
    (subst (λ (ds : List (List ℤ)). StandForCells ds (map (λ e. e.domain) layout) m.cells) (sym (cell_values c.args.vars.now c.in_ok-cells.cells.items c.in_ok-cells.ensures)) made.maps.cells)

pub mark-requires : goal.mark-requires
mark-requires c =
    all_base c.in_ok-formula.formula.clauses c.give_all.new.log.events c.len-base.result
    (ap (λ (l : LogState). l.events) c.in_ok-give_all.ensures.all)
    (c.len-base.ensures.value ∙ ap length c.events.ensures.value)

pub returns-clause-poses : goal.returns-clause-poses
returns-clause-poses c =
    let clauses : List (List Literal) = c.in_ok-formula.formula.clauses in
    let P : List LogEvent → Type 0 = λ es. All (λ e. is_given e ≡ true) es in
    let kept : c.mark.new.self.events ≡ c.give_all.new.log.events = ap (λ (l : LogState). l.events) c.mark.ensures in
    let are : c.mark.new.self.events ≡ map given clauses = kept ∙ ap (λ (l : LogState). l.events) c.in_ok-give_all.ensures.all in
    let counted : c.len-base.result ≡ length c.give_all.new.log.events = c.len-base.ensures.value ∙ ap length c.events.ensures.value in
    record {
      formula = c.in_ok-formula.formula;
      stands = formula_is (plain_opb c.args.opb.now) c.args.vars.now (plain_flat c.in_ok-flat.flat) c.in_ok-formula.layout c.in_ok-formula.formula c.in_ok-flat.goal (plain_map c.in_ok-map.map)
          c.requires.vars c.in_ok-flat.ensures c.in_ok-formula.ensures c.in_ok-map.ensures;
      cells = c.in_ok-cells.ensures;
      are_givens = subst P (sym are) (are_given clauses);
      givens_are = ap givens are ∙ givens_are clauses;
      is_base = ap (λ (l : LogState). l.base) c.mark.ensures ∙ counted ∙ ap length (sym kept);
      notes = ap (λ (l : LogState). l.notes) c.mark.ensures ∙ c.in_ok-notes.ensures ∙ ap (λ (cells : List Cell). cell_notes c.in_ok-formula.layout cells c.in_ok-map.map.cells.items) c.deref-2.ensures.value;
      is_whole = ap (λ (s : SolverView). s.broken) c.in_ok-solver.ensures.made;
      clauses = ap (λ (s : SolverView). s.clauses) c.in_ok-solver.ensures.made;
    }

pub returns-clause-readable : goal.returns-clause-readable
returns-clause-readable c =
    let layout = c.in_ok-formula.layout in
    let places : List ℕ = c.in_ok-map.map.cells.items in
    let long : length places ≡ length c.args.vars.now = ap length c.in_ok-map.ensures.cells ∙ length-range_with_len 0 (length c.args.vars.now) in
    let notes : c.mark.new.self.notes ≡ cell_notes layout c.in_ok-cells.cells.items places =
    ap (λ (l : LogState). l.notes) c.mark.ensures ∙ c.in_ok-notes.ensures ∙ ap (λ (cells : List Cell). cell_notes layout cells places) c.deref-2.ensures.value in
    subst (λ (ns : List Note). All IsReadableNote ns) (sym (notes ∙ notes_are layout c.args.vars.now c.in_ok-cells.cells.items places c.in_ok-cells.ensures long))
    (readable_notes layout c.args.vars.now c.in_ok-cells.cells.items places c.in_ok-cells.ensures)

pub returns-clause-sound : goal.returns-clause-sound
returns-clause-sound c =
    let kept : c.mark.new.self.events ≡ c.give_all.new.log.events = ap (λ (l : LogState). l.events) c.mark.ensures in
    subst IsSound (sym kept) (sound_givens c.give_all.new.log.events c.in_ok-give_all.ensures.givens)

pub returns-in_err-flat-clause-sound : goal.returns-in_err-flat-clause-sound
returns-in_err-flat-clause-sound c =
    subst (λ (log : LogState). IsSound log.events) (sym c.requires.empty) (record { valid = tt; new = tt; effective = tt })

pub returns-in_err-formula-clause-sound : goal.returns-in_err-formula-clause-sound
returns-in_err-formula-clause-sound c =
    subst (λ (log : LogState). IsSound log.events) (sym c.requires.empty) (record { valid = tt; new = tt; effective = tt })

pub returns-in_err-give_all-clause-sound : goal.returns-in_err-give_all-clause-sound
returns-in_err-give_all-clause-sound c = sound_givens c.give_all.new.log.events c.in_err-give_all.ensures.givens

pub returns-in_err-cells-clause-sound : goal.returns-in_err-cells-clause-sound
returns-in_err-cells-clause-sound c = sound_givens c.give_all.new.log.events c.in_ok-give_all.ensures.givens

pub returns-in_err-map-clause-sound : goal.returns-in_err-map-clause-sound
returns-in_err-map-clause-sound c = sound_givens c.give_all.new.log.events c.in_ok-give_all.ensures.givens

pub returns-in_err-notes-clause-sound : goal.returns-in_err-notes-clause-sound
returns-in_err-notes-clause-sound c = sound_givens c.give_all.new.log.events c.in_ok-give_all.ensures.givens

pub returns-in_err-solver-clause-sound : goal.returns-in_err-solver-clause-sound
returns-in_err-solver-clause-sound c =
    let kept : c.mark.new.self.events ≡ c.give_all.new.log.events = ap (λ (l : LogState). l.events) c.mark.ensures in
    subst IsSound (sym kept) (sound_givens c.give_all.new.log.events c.in_ok-give_all.ensures.givens)
