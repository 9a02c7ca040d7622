use Rattle.cnf_core.specs.LogLines.{log_lines}
use Rattle.sat_text.proofs.LogAgain.{log_again}
use Rattle.sat_text.proofs.Written.{log_spelled}
use Rattle.sat_text.proofs.writing.write_log.Goals as goal

pub returns-clause-again : goal.returns-clause-again
returns-clause-again c = log_again c.log_bytes.result c.args.log.now.events c.log_bytes.ensures.text c.log_bytes.ensures.readable

pub returns-clause-spells : goal.returns-clause-spells
returns-clause-spells c =
    log_spelled c.log_bytes.result (log_lines c.args.log.now.events)
    (log_again c.log_bytes.result c.args.log.now.events c.log_bytes.ensures.text c.log_bytes.ensures.readable)
