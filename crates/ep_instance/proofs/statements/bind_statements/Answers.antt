use Rattle.std.proofs.Common.{◌≡◌, ◌∙◌, ap, arith, length, rules, sym, refl, subst, map, vec_len}
use Rattle.std.specs.Prelude.{Ok}
use Rattle.std.specs.Vec.Iter.{into_iter_items}
use Rattle.std.proofs.lemmas.Result.{err_from_is_err_and}
use Rattle.ep_eval.specs.Known.{env_of}
use Rattle.ep_tree.specs.Binding.{Progress, bind_statement, bind_statements, nothing_bound}
use Rattle.ep_tree.specs.Closed.{IsClosed}
use Rattle.ep_tree.specs.Views.{statement_tree}
use Rattle.ep_instance_parts.proofs.Answering.{refuses_first, then_is}
use Rattle.ep_instance_parts.specs.Refusals.{RefusesBinding}
use Rattle.ep_instance.specs.Progressing.{progress_of}
use Rattle.ep_instance.proofs.ProgressSteps.{Remains, begins, nothing_left, next_statement, no_statement, remains_begin, remains_faultless, remains_next}
use Rattle.ep_instance.proofs.statements.bind_statements.Goals as goal

pub loop-statement-init : goal.loop-statement-init
loop-statement-init c =
    let params = env_of c.args.params.now in
    let start = begins _ _ _ c.new.ensures.items c.new-2.ensures.items c.new-env.ensures.empty in
    let all = ap (map statement_tree) c.into_iter-statement-iterator.ensures.into_iter_gives.0 in
    let left = map statement_tree (into_iter_items c.into_iter-statement-iterator.result) in
    let counted : vec_len c.args.statements ≡ length c.args.statements.items = search rules in (
      c.new-env.ensures.mode,
      ap (λ ss. bind_statements c.args.mode params nothing_bound ss) (sym all) ∙ ap (λ p. bind_statements c.args.mode params p left) (sym start),
      subst (λ (p : Progress). Remains p.instance left) (sym start) (subst (λ ss. Remains nothing_bound.instance ss) (sym all) (remains_begin _ c.requires.faultless)),
      omega (arith, counted, c.into_iter-statement-iterator.ensures.into_iter_gives.1, ap length c.into_iter-statement-iterator.ensures.into_iter_gives.0),
    )

pub bind_statement-requires : goal.bind_statement-requires
bind_statement-requires c =
    let i = (progress_of c.loop-statement.at).instance in
    let s = statement_tree c.in-Some.statement in
    let cut = ap (map statement_tree) c.in-Some.ensures.steps.0 in
    record { faultless = remains_faultless i s _ (subst (λ xs. Remains i xs) cut c.loop-statement.invariant.2) }

pub loop-statement-preserved : goal.loop-statement-preserved
loop-statement-preserved c =
    let at = progress_of c.loop-statement.at in
    let params = env_of c.args.params.now in
    let s = statement_tree c.in-Some.statement in
    let cut = ap (map statement_tree) c.in-Some.ensures.steps.0 in
    let said = subst (λ m. bind_statement m params at s ≡ Ok (progress_of c.bind_statement.new.at)) c.loop-statement.invariant.0 c.in_ok-bind_statement.ensures.progress in (
      c.bind_statement.ensures.mode ∙ c.loop-statement.invariant.0,
      then_is _ _ _ _ (c.loop-statement.invariant.1 ∙ ap (λ ss. bind_statements c.args.mode params at ss) cut ∙ next_statement c.args.mode params at s _) said,
      remains_next c.args.mode params at _ s _ (subst (λ xs. Remains at.instance xs) cut c.loop-statement.invariant.2) said,
      omega (arith, c.loop-statement.invariant.3, c.in-Some.ensures.steps.1, ap length c.in-Some.ensures.steps.0),
    )

pub returns-in_err-bind_statement-clause-instance : goal.returns-in_err-bind_statement-clause-instance
returns-in_err-bind_statement-clause-instance c =
    let at = progress_of c.loop-statement.at in
    let params = env_of c.args.params.now in
    let s = statement_tree c.in-Some.statement in
    let cut = ap (map statement_tree) c.in-Some.ensures.steps.0 in
    let p = err_from_is_err_and c.from_residual.result c.from_residual.ensures.1 in
    rw (p.1, p.2)
    (refuses_first _ _ (bind_statements c.args.mode params nothing_bound _) _ refl
    (refuses_first _ _ (bind_statement c.args.mode params at s) _
    (c.loop-statement.invariant.1 ∙ ap (λ ss. bind_statements c.args.mode params at ss) cut ∙ next_statement c.args.mode params at s _)
    (subst (λ m. RefusesBinding c.in_err-bind_statement.field-0.0 (bind_statement m params at s)) c.loop-statement.invariant.0 c.in_err-bind_statement.ensures.progress)))

pub returns-clause-mode : goal.returns-clause-mode
returns-clause-mode c = ap (λ e. e.mode) c.new-instance.ensures.env ∙ c.loop-statement.invariant.0

pub returns-clause-instance : goal.returns-clause-instance
returns-clause-instance c =
    let at = progress_of c.loop-statement.at in
    let params = env_of c.args.params.now in
    then_is _ _ _ _ refl
    (c.loop-statement.invariant.1 ∙ ap (λ ss. bind_statements c.args.mode params at (map statement_tree ss)) (nothing_left _ (sym c.loop-statement.invariant.3 ∙ c.in-None.ensures.steps.0)) ∙ no_statement c.args.mode params at)
    ∙ ap Ok (sym c.new-instance.ensures.same)

pub returns-clause-closed : goal.returns-clause-closed
returns-clause-closed c = subst IsClosed (sym c.new-instance.ensures.same) c.loop-statement.invariant.2.ready.closed
