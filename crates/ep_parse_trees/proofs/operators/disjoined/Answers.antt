use Rattle.std.proofs.Common.{refl, sym, ◌∙◌}
use Rattle.std.proofs.lemmas.Result.{err_from_is_err_and}
use Rattle.ep_parse_parts.proofs.Finding.{finds_shown}
use Rattle.ep_parse_trees.proofs.JunctionTurns.{junction_made, junction_stopped, no_junction}
use Rattle.ep_parse_parts.proofs.NodeFacts.{place_of_kind}
use Rattle.ep_tree.specs.Spelling.{rank}
use Rattle.ep_parse_trees.proofs.operators.disjoined.Goals as goal

pub returns-then-not-goes_on : goal.returns-then-not-goes_on
returns-then-not-goes_on g c =
    record { read = (no_junction _ _ _ _ _ _ _ _ c.requires.first.ends (sym c.if-not-goes_on.true ∙ c.goes_on.ensures.next), c.requires.first) }

pub returns-in_err-parts : goal.returns-in_err-parts
unfolding rank
returns-in_err-parts g c =
    let p = err_from_is_err_and c.from_residual.result c.from_residual.ensures.1 in
    record {
      read = rw (p.1, p.2)
          (junction_stopped _ _ _ refl _ _ _ _ _ c.in_err-parts.field-0.0 c.requires.first.ends (sym c.if-not-goes_on.false ∙ c.goes_on.ensures.next) c.in_err-parts.ensures.read);
    }

pub returns : goal.returns
unfolding rank
returns g c =
    record {
      read = finds_shown _ _ _ _ c.disjunction_of.ensures.made
          (junction_made _ _ _ refl _ _ _ _ _ _ _ c.requires.first.ends (sym c.if-not-goes_on.false ∙ c.goes_on.ensures.next) (place_of_kind c.args.first.expr.place c.args.first.expr.kind) c.in_ok-parts.ensures.read);
    }
