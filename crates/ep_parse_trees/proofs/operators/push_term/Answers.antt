use Rattle.std.proofs.lemmas.Result.{err_from_is_err_and}
use Rattle.ep_parse_trees.proofs.TermTurns.{no_term, term_added, term_is, term_stopped}
use Rattle.ep_parse_trees.proofs.operators.push_term.Goals as goal

pub returns-in_default : goal.returns-in_default
returns-in_default g c = record { read = no_term _ _ c.in_default.ensures.next }

pub returns-in_err-term : goal.returns-in_err-term
returns-in_err-term g c =
    let p = err_from_is_err_and c.from_residual.result c.from_residual.ensures.1 in
    record { read = rw (p.1, p.2) (term_stopped _ c.in-Some.plus _ _ _ c.in_err-term.field-0.0 c.in-Some.ensures.next c.pass.ensures.passed c.in_err-term.ensures.read) }

pub returns : goal.returns
returns g c =
    record {
      read = term_added _ _ _ c.in-Some.plus c.in_ok-term.term _ _ c.push.ensures.pushed c.push.ensures.counted
          (term_is _ _ _ _ _ _ c.in-Some.ensures.next c.pass.ensures.passed c.in_ok-term.ensures.read.0);
    }
