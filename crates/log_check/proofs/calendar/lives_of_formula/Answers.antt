use Rattle.std.proofs.Common.{◌<◌, length, ◌∙◌, arith}
use Rattle.std.proofs.lemmas.List.{get_or_default}
use Rattle.log_check.proofs.Calendars.{tells_none, tells_given, tells_formula}
use Rattle.log_check.proofs.calendar.lives_of_formula.Goals as goal

pub loop-index-init : goal.loop-index-init
loop-index-init c = tells_none c.in_ok-lives.lives c.args.until c.in_ok-lives.ensures

pub loop-index-preserved : goal.loop-index-preserved
loop-index-preserved c =
    let clauses = c.args.clauses.now in
    let k = c.loop-index.index in
    let inside : k < length clauses = omega (arith, c.loop-index-test.true, c.len-index-end.ensures) in
    tells_given c.loop-index.lives c.put.new.self c.args.until clauses k _ inside (c.clause.ensures.value ∙ get_or_default clauses k _ _ inside) c.loop-index.invariant c.in_ok-put.ensures

pub returns : goal.returns
returns c =
    tells_formula c.loop-index.lives c.args.until c.args.clauses.now c.loop-index.index (omega (arith, c.loop-index-test.false, c.loop-index.auto.index-end, c.len-index-end.ensures)) c.loop-index.invariant
