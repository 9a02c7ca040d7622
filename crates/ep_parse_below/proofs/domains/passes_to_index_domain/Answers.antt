use Rattle.std.proofs.lemmas.Result.{err_from_is_err_and}
use Rattle.ep_parse_below.proofs.DomainLoops.{comma_passed, comma_refused, head_passed, head_refused, nothing_passed}
use Rattle.ep_parse_below.proofs.domains.passes_to_index_domain.Goals as goal

pub returns-in_err-word : goal.returns-in_err-word
returns-in_err-word c =
    let p = err_from_is_err_and c.from_residual.result c.from_residual.ensures.1 in
    record { passed = rw (p.1, p.2) (comma_refused _ _ c.in_err-word.field-0.0 c.if-is_at.ensures.next c.in_err-word.ensures.read) }

pub returns-then-is_at : goal.returns-then-is_at
returns-then-is_at c = record { passed = comma_passed _ _ _ c.if-is_at.ensures.next c.in_ok-word.ensures.read }

pub returns-then-not-matrix_follows : goal.returns-then-not-matrix_follows
returns-then-not-matrix_follows c = record { passed = nothing_passed _ c.if-is_at.ensures.next c.if-not-matrix_follows.ensures.follows }

pub returns-in_err-matrix_head : goal.returns-in_err-matrix_head
returns-in_err-matrix_head c =
    let p = err_from_is_err_and c.from_residual-in_err-matrix_head.result c.from_residual-in_err-matrix_head.ensures.1 in
    record {
      passed = rw (p.1, p.2)
          (head_refused _ _ _ _ _ c.in_err-matrix_head.field-0.0 c.if-is_at.ensures.next c.if-not-matrix_follows.ensures.follows c.pass.ensures.passed c.pass-2.ensures.passed c.pass-3.ensures.passed c.in_err-matrix_head.ensures.read);
    }

pub returns : goal.returns
returns c =
    record {
      passed = head_passed _ _ _ _ _ _ c.if-is_at.ensures.next c.if-not-matrix_follows.ensures.follows c.pass.ensures.passed c.pass-2.ensures.passed c.pass-3.ensures.passed c.in_ok-matrix_head.ensures.read;
    }
