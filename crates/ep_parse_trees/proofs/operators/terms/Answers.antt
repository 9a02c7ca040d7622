use Rattle.std.proofs.Common.{sym, ◌∙◌}
use Rattle.std.proofs.lemmas.Result.{err_from_is_err_and}
use Rattle.ep_parse_trees.proofs.TermTurns.{first_too_high, so_far_first, terms_end, terms_fail, terms_given, terms_go, terms_smaller, terms_stopped}
use Rattle.ep_parse_trees.proofs.operators.terms.Goals as goal

pub returns-then-not-is_below : goal.returns-then-not-is_below
returns-then-not-is_below g c = record { read = first_too_high _ _ _ (sym c.is_below.ensures.low ∙ c.if-not-is_below.true) }

pub more-init : goal.more-init
more-init g c = so_far_first _ c.args.first _ _ _ c.new-terms.ensures.none c.in_ok-push.ensures.pushed c.in_ok-push.ensures.counted

pub push_term-requires : goal.push_term-requires
push_term-requires g c = record { ready = c.requires.ready; counted = c.more.invariant.counted }

pub returns-in_err-push_term : goal.returns-in_err-push_term
returns-in_err-push_term g c =
    let p = err_from_is_err_and c.from_residual-in_err-push_term.result c.from_residual-in_err-push_term.ensures.1 in
    record {
      read = rw (p.1, p.2)
          (terms_stopped _ _ _ _ _ c.in_err-push_term.field-0.0 (sym c.is_below.ensures.low ∙ c.if-not-is_below.false)
          (terms_fail _ _ _ _ _ c.in_err-push_term.field-0.0 c.more.invariant (sym c.more-test.true ∙ c.sign_comes.ensures.next) c.in_err-push_term.ensures.read));
    }

pub more-preserved : goal.more-preserved
more-preserved g c = terms_go _ _ _ _ _ _ c.more.invariant (sym c.more-test.true ∙ c.sign_comes.ensures.next) c.in_ok-push_term.ensures.read

pub more-smaller : goal.more-smaller
more-smaller g c = terms_smaller _ _ _ _ _ c.in_ok-push_term.ensures.read

pub returns : goal.returns
returns g c =
    record {
      read = terms_given _ _ _ _ _ _ (sym c.is_below.ensures.low ∙ c.if-not-is_below.false)
          (terms_end _ _ _ _ c.more.invariant (sym c.more-test.false ∙ c.sign_comes.ensures.next)) c.more.invariant.counted;
    }
