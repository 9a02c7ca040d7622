use Rattle.std.proofs.Common.{sym, ◌∙◌}
use Rattle.std.proofs.lemmas.Result.{err_from_is_err_and}
use Rattle.ep_parse_trees.proofs.JunctionTurns.{code_level_is, first_too_high, parts_end, parts_fail, parts_given, parts_go, parts_smaller, parts_stopped, so_far_first}
use Rattle.ep_parse_trees.proofs.operators.parts.Goals as goal

pub returns-then-not-is_below : goal.returns-then-not-is_below
returns-then-not-is_below g c = record { read = first_too_high _ _ _ (sym c.is_below.ensures.low ∙ c.if-not-is_below.true) }

pub more-init : goal.more-init
more-init g c = so_far_first _ _ _ c.args.first _ _ _ c.new-parts.ensures.none c.in_ok-push.ensures.pushed c.in_ok-push.ensures.counted

pub push_part-requires : goal.push_part-requires
push_part-requires g c = record { ready = c.requires.ready; counted = c.more.invariant.counted }

pub returns-in_err-push_part : goal.returns-in_err-push_part
returns-in_err-push_part g c =
    let p = err_from_is_err_and c.from_residual-in_err-push_part.result c.from_residual-in_err-push_part.ensures.1 in
    record {
      read = rw (p.1, p.2)
          (parts_stopped _ _ _ _ _ c.in_err-push_part.field-0.0 (sym c.is_below.ensures.low ∙ c.if-not-is_below.false)
          (parts_fail _ _ _ (code_level_is c.args.level) _ _ _ _ c.in_err-push_part.field-0.0 c.more.invariant (sym c.more-test.true ∙ c.goes_on.ensures.next) c.in_err-push_part.ensures.read));
    }

pub more-preserved : goal.more-preserved
more-preserved g c = parts_go _ _ _ (code_level_is c.args.level) _ _ _ _ _ c.more.invariant (sym c.more-test.true ∙ c.goes_on.ensures.next) c.in_ok-push_part.ensures.read

pub more-smaller : goal.more-smaller
more-smaller g c = parts_smaller _ _ _ (code_level_is c.args.level) _ _ _ _ c.in_ok-push_part.ensures.read

pub returns : goal.returns
returns g c =
    record {
      read = parts_given _ _ _ _ _ _ (sym c.is_below.ensures.low ∙ c.if-not-is_below.false)
          (parts_end _ _ _ (code_level_is c.args.level) _ _ _ c.more.invariant (sym c.more-test.false ∙ c.goes_on.ensures.next)) c.more.invariant.counted;
    }
