use Rattle.std.proofs.Common.{map}
use Rattle.cnf_core.specs.Events.{plain_note}
use Rattle.sat_text.proofs.TextAgain.{written_again}
use Rattle.sat_text.proofs.Written.{cnf_spelled}
use Rattle.sat_text.proofs.writing.write_cnf.Goals as goal

pub returns-clause-again : goal.returns-clause-again
returns-clause-again c =
    written_again c.cnf_bytes.result c.args.f.now (map plain_note c.args.notes.now) c.args.added c.cnf_bytes.ensures.readable c.cnf_bytes.ensures.variables
    c.cnf_bytes.ensures.text

pub returns-clause-spells : goal.returns-clause-spells
returns-clause-spells c = λ notes few.
    cnf_spelled c.cnf_bytes.result c.args.f.now (map plain_note c.args.notes.now) c.args.added
    (written_again c.cnf_bytes.result c.args.f.now (map plain_note c.args.notes.now) c.args.added c.cnf_bytes.ensures.readable c.cnf_bytes.ensures.variables
    c.cnf_bytes.ensures.text notes few)
