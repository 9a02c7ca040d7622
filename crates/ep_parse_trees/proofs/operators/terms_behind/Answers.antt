use Rattle.std.proofs.Common.{sym, ◌∙◌}
use Rattle.std.proofs.lemmas.Result.{err_from_is_err_and}
use Rattle.ep_parse_parts.proofs.Finding.{finds_shown}
use Rattle.ep_parse_parts.proofs.NodeFacts.{place_of_kind}
use Rattle.ep_parse_trees.proofs.TermTurns.{no_sum, sum_made, sum_stopped}
use Rattle.ep_parse_trees.proofs.operators.terms_behind.Goals as goal

pub returns-then-not-sign_comes : goal.returns-then-not-sign_comes
returns-then-not-sign_comes g c =
    record { read = (no_sum _ _ _ _ _ c.requires.first.ends (sym c.if-not-sign_comes.true ∙ c.sign_comes.ensures.next), c.requires.first) }

pub returns-in_err-terms : goal.returns-in_err-terms
returns-in_err-terms g c =
    let p = err_from_is_err_and c.from_residual.result c.from_residual.ensures.1 in
    record {
      read = rw (p.1, p.2)
          (sum_stopped _ _ _ _ _ c.in_err-terms.field-0.0 c.requires.first.ends (sym c.if-not-sign_comes.false ∙ c.sign_comes.ensures.next) c.in_err-terms.ensures.read);
    }

pub returns : goal.returns
returns g c =
    record {
      read = finds_shown _ _ _ _ c.sum.ensures.made
          (sum_made _ _ _ _ _ _ _ c.requires.first.ends (sym c.if-not-sign_comes.false ∙ c.sign_comes.ensures.next) (place_of_kind c.args.first.expr.place c.args.first.expr.kind) c.in_ok-terms.ensures.read);
    }
