use Rattle.ep_eval.proofs.Words.{None, Some, pos, ap, sym, ◌∙◌, if◌then◌else◌, read_result, type_in, read, single, expr_tree, indices_of, held_value, seen_held, env_in, mode_in}
use Rattle.ep_eval.proofs.ReadResults.{read_found, read_relational, read_strict}
use Rattle.ep_eval.proofs.typing.given_read.Goals as goal

pub returns-in-Some : goal.returns-in-Some
returns-in-Some c p =
    let t = type_in (env_in c.args.scope) (read p (expr_tree c.args.matrix.now) (indices_of c.args.indices.now)) in
    read_found (mode_in c.args.scope) t (held_value c.in-Some.held)
    ∙ ap (λ o. read_result (mode_in c.args.scope) t (seen_held o)) (sym c.in-Some.is)

pub returns-in-Strict : goal.returns-in-Strict
returns-in-Strict c p =
    let t = type_in (env_in c.args.scope) (read p (expr_tree c.args.matrix.now) (indices_of c.args.indices.now)) in
    read_strict t
    ∙ ap (λ m. read_result m t None) (sym c.in-Strict.is ∙ c.mode.ensures.mode)
    ∙ ap (λ o. read_result (mode_in c.args.scope) t (seen_held o)) (sym c.in-None.is)

pub returns-in_ok-boolean-in-Relational : goal.returns-in_ok-boolean-in-Relational
returns-in_ok-boolean-in-Relational c p =
    let t = type_in (env_in c.args.scope) (read p (expr_tree c.args.matrix.now) (indices_of c.args.indices.now)) in
    c.false_if.ensures
    ∙ ap (λ b. if b then Some (single (pos 0)) else None) (c.in_ok-boolean-in-Relational.ensures p)
    ∙ read_relational t
    ∙ ap (λ m. read_result m t None) (sym c.in-Relational.is ∙ c.mode.ensures.mode)
    ∙ ap (λ o. read_result (mode_in c.args.scope) t (seen_held o)) (sym c.in-None.is)
