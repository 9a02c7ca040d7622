use Rattle.std.proofs.Common.{◌<◌, ◌^◌, List, length, rules, subst, sym}
use Rattle.std.specs.Prelude.{All}
use Rattle.cnf_core.specs.Literal.{IsClause}
use Rattle.cnf_core.specs.Events.{LogEvent, clauses_of, HintsAreEarlier}
use Rattle.cnf_core.specs.LogLines.{log_lines}
use Rattle.sat_text.specs.Writing.{IsReadable}
use Rattle.sat_text.proofs.Readable.{log_readable}
use Rattle.sat_text.proofs.writing.log_bytes.Goals as goal

pub returns-clause-readable : goal.returns-clause-readable
returns-clause-readable c =
    let is = c.events-events.ensures.value in
    let few : length c.events-events.result.now < 2 ^ 58 = search rules in
    subst (λ (es : List LogEvent). All IsReadable (log_lines es)) is
    (log_readable c.events-events.result.now few
    (subst HintsAreEarlier (sym is) c.events-events.ensures.hints)
    (subst (λ (es : List LogEvent). All IsClause (clauses_of es)) (sym is) c.events-events.ensures.clauses))
