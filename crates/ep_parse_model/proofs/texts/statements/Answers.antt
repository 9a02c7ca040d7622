use Rattle.std.proofs.Common.{◌≡◌, ◌++◌, [], ◌∷◌, map, sym}
use Rattle.std.proofs.lemmas.List.{map_push}
use Rattle.std.proofs.lemmas.Result.{err_from_is_err_and}
use Rattle.ep_parse_model.proofs.TextTurns.{statements_end, statements_fail, statements_go, statements_smaller}
use Rattle.ep_parse_model.proofs.texts.statements.Goals as goal
use Rattle.ep_tree.specs.Views.{statement_tree}

pub returns-then-is_empty : goal.returns-then-is_empty
returns-then-is_empty c = record { read = statements_end _ _ _ _ c.loop-alloc.invariant (sym c.if-is_empty.ensures.none) }

pub returns-in_err-statement : goal.returns-in_err-statement
returns-in_err-statement c =
    let p = err_from_is_err_and c.from_residual.result c.from_residual.ensures.1 in
    record { read = rw (p.1, p.2) (statements_fail _ _ _ _ _ c.in_err-statement.field-0.0 c.loop-alloc.invariant (sym c.if-is_empty.ensures.none) c.in_err-statement.ensures.read) }

pub loop-alloc-smaller : goal.loop-alloc-smaller
loop-alloc-smaller c = statements_smaller _ _ _ _ (sym c.if-is_empty.ensures.none) c.in_ok-statement.ensures.read

pub loop-alloc-preserved : goal.loop-alloc-preserved
loop-alloc-preserved c =
    let e : map statement_tree c.push.new.self.items ≡ map statement_tree c.loop-alloc.statements.items ++ statement_tree c.in_ok-statement.statement ∷ [] = rw c.in_ok-push.ensures.items (map_push _ c.loop-alloc.statements.items c.in_ok-statement.statement) in
    rw e (statements_go _ _ _ _ _ _ _ c.loop-alloc.invariant (sym c.if-is_empty.ensures.none) c.in_ok-statement.ensures.read c.allowed_behind-allowed.ensures.may)
