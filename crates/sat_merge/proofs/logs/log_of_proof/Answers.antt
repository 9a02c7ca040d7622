use Rattle.std.proofs.Common.{◌≡◌, ◌+◌, ◌<◌, ◌++◌, ◌∷◌, [], List, ℕ, ap, arith, false, get_or, length, sym, subst, take, ◌∙◌}
use Rattle.std.specs.List.{list_any}
use Rattle.std.proofs.lemmas.Bool.{eqb-false, eqb-true, false≢true}
use Rattle.std.proofs.lemmas.List.{get_or_default, nil_from_length}
use Rattle.cnf_core.specs.Events.{LogState, step}
use Rattle.cnf_core.specs.Literal.{HaveSameLiterals, Literal}
use Rattle.log_check.specs.Verdict.{is_empty_clause, verdict_of}
use Rattle.log_check.specs.declared.Verdict.TheVariants.{Verified}
use Rattle.sat_merge.specs.Proofs.{AreIdPlaces, Ascend, IsProved, first_ids}
use Rattle.sat_merge.proofs.Reading.{IsRead, given_empty, hints_there, nil_is, read_none}
use Rattle.sat_merge.proofs.Turns.{turn_add, turn_delete, turn_empty, turned_all}
use Rattle.sat_merge.proofs.logs.log_of_proof.Goals as goal
use Rattle.sat_merge.proofs.logs.log_of_proof.Goals.{After-rows-rows}
use Rattle.sat_proof.specs.Lines.{plain_line, row_lines}
use Rattle.sat_proof.specs.declared.proof.Row.{Row}

-- at a place stands a clause without literals
abbrev IsEmptyAt : List (List Literal) → ℕ → Type 0
IsEmptyAt clauses place = (place < length clauses) × (get_or clauses place [] ≡ [])

verified : (c : After-rows-rows) → verdict_of c.args.formula.now.clauses (row_lines c.args.proof.now c.rows-rows.result.now) ≡ Verified
verified c = subst (λ (rows : List Row). verdict_of c.args.formula.now.clauses (row_lines c.args.proof.now rows) ≡ Verified) (sym c.rows-rows.ensures) c.requires.verified

pub loop-row-init : goal.loop-row-init
loop-row-init c =
    read_none c.args.formula.now.clauses c.in_ok-ids.ids.items c.args.begun c.clauses-clauses.ensures.clauses
    (c.in_ok-ids.ensures ∙ ap first_ids c.len.ensures ∙ ap (λ (cs : List (List Literal)). first_ids (length cs)) c.clauses-clauses.ensures.value) c.requires.begun

pub places_of-requires : goal.places_of-requires
places_of-requires c = subst Ascend (sym c.deref.ensures.value) c.loop-row.invariant.ascend

pub step-requires : goal.step-requires
step-requires c =
    let ids = c.loop-row.ids.items in
    let places = c.in_ok-places.places.items in
    let read = row_lines c.args.proof.now (take c.loop-row.row-index c.rows-rows.result.now) in
    hints_there c.args.formula.now.clauses read ids c.loop-row.log.events c.loop-row.invariant c.in-Add.hints.now places
    (subst (λ (is : List ℕ). AreIdPlaces is c.in-Add.hints.now places) c.deref.ensures.value c.in_ok-places.ensures)

pub loop-row-preserved : goal.loop-row-preserved
loop-row-preserved c =
    let clauses = c.args.formula.now.clauses in
    let p = c.args.proof.now in
    let rows = c.rows-rows.result.now in
    let k = c.loop-row.row-index in
    let ids = c.loop-row.ids.items in
    let events = c.loop-row.log.events in
    let clause = c.in-Add.clause.now in
    let hints = c.in-Add.hints.now in
    let wide = c.in_ok-new.field-0 in
    let places = c.in_ok-places.places.items in
    let read = row_lines p (take (k + 1) rows) in
    let below = c.loop-row-test.true in
    subst (λ (l : LogState). IsRead clauses read c.push.new.self.items l.events) (sym c.in_ok-step.ensures.ok)
    (subst (λ (is : List ℕ). IsRead clauses read is (events ++ step wide places ∷ [])) (sym c.in_ok-push.ensures.items)
    (turn_add clauses p rows (verified (goal.at.loop-row-preserved c).After-rows-rows) k _ below (get_or_default rows k _ _ below)
    c.in-Add.id clause hints (sym c.line.ensures ∙ ap plain_line c.in-Add.is) ids events c.loop-row.invariant wide places c.in_ok-new.ensures.clause
    (subst (HaveSameLiterals wide) c.in_ok-literals.ensures.items c.in_ok-new.ensures.same)
    (subst (λ (is : List ℕ). AreIdPlaces is hints places) c.deref.ensures.value c.in_ok-places.ensures)
    (omega (arith, eqb-false _ 0 (sym c.is_empty.ensures ∙ c.if-is_empty.false)))))

pub loop-row-preserved-in_default : goal.loop-row-preserved-in_default
loop-row-preserved-in_default c =
    let rows = c.rows-rows.result.now in
    let k = c.loop-row.row-index in
    let below = c.loop-row-test.true in
    turn_delete c.args.formula.now.clauses c.args.proof.now rows (verified (goal.at.loop-row-preserved-in_default c).After-rows-rows) k _ below (get_or_default rows k _ _ below)
    c.loop-row.ids.items c.loop-row.log.events c.in_default.field-0.now (sym c.line.ensures ∙ ap plain_line c.in_default.is) c.loop-row.invariant

pub returns-then-is_empty : goal.returns-then-is_empty
returns-then-is_empty c =
    let clauses = c.args.formula.now.clauses in
    let p = c.args.proof.now in
    let rows = c.rows-rows.result.now in
    let k = c.loop-row.row-index in
    let ids = c.loop-row.ids.items in
    let events = c.loop-row.log.events in
    let clause = c.in-Add.clause.now in
    let hints = c.in-Add.hints.now in
    let wide = c.in_ok-new.field-0 in
    let places = c.in_ok-places.places.items in
    let below = c.loop-row-test.true in
    subst (λ (l : LogState). IsProved clauses l.events) (sym c.in_ok-step.ensures.ok)
    (turn_empty clauses p rows (verified (goal.at.returns-then-is_empty c).After-rows-rows) k _ below (get_or_default rows k _ _ below)
    c.in-Add.id clause hints (sym c.line.ensures ∙ ap plain_line c.in-Add.is) ids events c.loop-row.invariant wide places
    (subst (HaveSameLiterals wide) c.in_ok-literals.ensures.items c.in_ok-new.ensures.same)
    (subst (λ (is : List ℕ). AreIdPlaces is hints places) c.deref.ensures.value c.in_ok-places.ensures)
    (nil_from_length clause (eqb-true _ 0 (sym c.is_empty.ensures ∙ c.if-is_empty.true))))

pub unreachable-requires : goal.unreachable-requires
unreachable-requires c =
    let clauses = c.args.formula.now.clauses in
    let none = subst (λ (cs : List (List Literal)). list_any is_empty_clause cs ≡ false) c.clauses-clauses.ensures.value c.in_default-empty_place.ensures.none in
    let some =
    turned_all clauses c.args.proof.now c.rows-rows.result.now c.loop-row.row-index c.loop-row.ids.items c.loop-row.log.events (verified (goal.at.unreachable-requires c).After-rows-rows) (omega (arith, c.loop-row-test.false)) c.loop-row.invariant in
    false≢true (sym none ∙ some)

pub returns : goal.returns
returns c =
    let clauses = c.args.formula.now.clauses in
    let read = row_lines c.args.proof.now (take c.loop-row.row-index c.rows-rows.result.now) in
    let ids = c.loop-row.ids.items in
    let events = c.loop-row.log.events in
    let place = c.in-Some.place in
    let wide = c.in_ok-new-2.field-0 in
    let hints = c.push-2.new.self.items in
    let none : wide ≡ [] = nil_is wide (subst (HaveSameLiterals wide) c.new-2.ensures.items c.in_ok-new-2.ensures.same) in
    let one : hints ≡ place ∷ [] = c.in_ok-push-2.ensures.items ∙ ap (λ (xs : List ℕ). xs ++ place ∷ []) c.new-hints.ensures.items in
    let stands = subst (λ (cs : List (List Literal)). IsEmptyAt cs place) c.clauses-clauses.ensures.value c.in-Some.ensures.some in
    subst (λ (l : LogState). IsProved clauses l.events) (sym c.in_ok-step-2.ensures.ok)
    (subst (λ (w : List Literal). IsProved clauses (events ++ step w hints ∷ [])) (sym none)
    (subst (λ (hs : List ℕ). IsProved clauses (events ++ step [] hs ∷ [])) (sym one) (given_empty clauses read ids events c.loop-row.invariant place stands.0 stands.1)))
