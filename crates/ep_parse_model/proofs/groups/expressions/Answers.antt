use Rattle.std.proofs.Common.{◌≡◌, ◌++◌, [], ◌∷◌, map, sym}
use Rattle.std.proofs.lemmas.List.{map_push}
use Rattle.std.proofs.lemmas.Result.{err_from_is_err_and}
use Rattle.ep_parse_model.proofs.TextTurns.{exprs_end, exprs_fail, exprs_go, exprs_last, exprs_smaller}
use Rattle.ep_parse_model.proofs.groups.expressions.Goals as goal
use Rattle.ep_tree.specs.Views.{expr_tree}

pub returns-then-not-expression_next : goal.returns-then-not-expression_next
returns-then-not-expression_next c = record { read = exprs_end _ _ _ c.loop-alloc.invariant (sym c.if-not-expression_next.ensures.next) }

pub returns-in_err-expression : goal.returns-in_err-expression
returns-in_err-expression c =
    let p = err_from_is_err_and c.from_residual.result c.from_residual.ensures.1 in
    record { read = rw (p.1, p.2) (exprs_fail _ _ _ c.loop-alloc.invariant _ c.in_err-expression.field-0.0 (sym c.if-not-expression_next.ensures.next) c.in_err-expression.ensures.read) }

pub returns-then-not-passes : goal.returns-then-not-passes
returns-then-not-passes c =
    let e : map expr_tree c.push.new.self.items ≡ map expr_tree c.loop-alloc.expressions.items ++ expr_tree c.in_ok-expression.expression ∷ [] = rw c.in_ok-push.ensures.items (map_push _ c.loop-alloc.expressions.items c.in_ok-expression.expression) in
    record { read = rw e (exprs_last _ _ _ c.loop-alloc.invariant _ _ _ (sym c.if-not-expression_next.ensures.next) c.in_ok-expression.ensures.read c.if-not-passes.ensures.passed) }

pub loop-alloc-smaller : goal.loop-alloc-smaller
loop-alloc-smaller c = exprs_smaller _ _ _ _ c.in_ok-expression.ensures.read c.if-not-passes.ensures.passed

pub loop-alloc-preserved : goal.loop-alloc-preserved
loop-alloc-preserved c =
    let e : map expr_tree c.push.new.self.items ≡ map expr_tree c.loop-alloc.expressions.items ++ expr_tree c.in_ok-expression.expression ∷ [] = rw c.in_ok-push.ensures.items (map_push _ c.loop-alloc.expressions.items c.in_ok-expression.expression) in
    rw e (exprs_go _ _ _ c.loop-alloc.invariant _ _ _ (sym c.if-not-expression_next.ensures.next) c.in_ok-expression.ensures.read c.if-not-passes.ensures.passed)
