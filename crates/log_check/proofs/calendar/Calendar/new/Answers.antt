use Rattle.std.proofs.Common.{ℕ, List, [], length, ap, sym, ◌∙◌, subst}
use Rattle.std.proofs.lemmas.List.{get_or_default}
use Rattle.sat_proof.specs.Lines.{plain_line, row_lines}
use Rattle.sat_proof.specs.declared.proof.Row.{Row}
use Rattle.log_check.specs.Parts.{TellsFirst, TellsLives}
use Rattle.log_check.proofs.Found.{line_added, line_deleted, line_stops, line_ends}
use Rattle.log_check.proofs.calendar.Calendar.new.Goals as goal
use Rattle.log_check.proofs.calendar.Calendar.new.Goals.{in-Add+else-id-newest+in_ok-put-in-Add, in-Delete+in_ok-end_all-in-Delete}

pub loop-index-init : goal.loop-index-init
loop-index-init c =
    subst (λ (n : ℕ). TellsFirst c.in_ok-lives.lives n (length c.rows-rows.result.now) c.args.clauses.now [])
    (sym c.len-given.ensures) c.in_ok-lives.ensures

pub loop-index-preserved : goal.loop-index-preserved
loop-index-preserved c =
    let p = c.args.proof.now in
    let formula = c.args.clauses.now in
    let rows = c.rows-rows.result.now in
    elim c.match-line.branch [
      | in-Add+else-id-newest+in_ok-put-in-Add w ↦
          rw (w.lives-is, w.newest-is) (line_added p c.loop-index.lives w.put.new.self c.loop-index.newest (length rows) w.in-Add.id _ formula rows c.loop-index.index _ w.in-Add.hints.now c.loop-index-test.true (get_or_default rows c.loop-index.index _ _ c.loop-index-test.true) (sym c.line.ensures ∙ ap plain_line w.in-Add.is) c.loop-index.invariant w.if-id-newest.false w.in_ok-put-in-Add.ensures)
      | in-Delete+in_ok-end_all-in-Delete w ↦
          rw (w.lives-is, w.newest-is) (line_deleted p c.loop-index.lives w.end_all.new.self c.loop-index.newest (length rows) formula rows c.loop-index.index _ w.in-Delete.ids.now c.loop-index-test.true (get_or_default rows c.loop-index.index _ _ c.loop-index-test.true) (sym c.line.ensures ∙ ap plain_line w.in-Delete.is) c.loop-index.invariant w.in_ok-end_all-in-Delete.ensures)
    ]

pub returns-then-id-newest : goal.returns-then-id-newest
returns-then-id-newest c =
    let p = c.args.proof.now in
    let formula = c.args.clauses.now in
    let rows = c.rows-rows.result.now in
    subst (λ (rs : List Row). TellsLives (record { lives = c.loop-index.lives; ordered = c.loop-index.index }) formula (row_lines p rs)) c.rows-rows.ensures
    (line_stops p c.loop-index.lives c.loop-index.newest c.in-Add.id c.in-Add.clause.now formula rows c.loop-index.index _ c.in-Add.hints.now c.loop-index-test.true (get_or_default rows c.loop-index.index _ _ c.loop-index-test.true) (sym c.line.ensures ∙ ap plain_line c.in-Add.is) c.loop-index.invariant c.if-id-newest.true)

pub returns : goal.returns
returns c =
    let p = c.args.proof.now in
    let formula = c.args.clauses.now in
    let rows = c.rows-rows.result.now in
    subst (λ (rs : List Row). TellsLives (record { lives = c.loop-index.lives; ordered = length rows }) formula (row_lines p rs)) c.rows-rows.ensures
    (line_ends p c.loop-index.lives c.loop-index.newest formula rows c.loop-index.index c.loop-index-test.false c.loop-index.invariant)
