use Rattle.std.proofs.Common.{◌≡◌, ◌∙◌, ◌+◌, ap, sym, subst, map, drop, filter}
use Rattle.std.specs.Prelude.{Ok}
use Rattle.std.proofs.lemmas.Result.{err_from_is_err_and}
use Rattle.std.proofs.Math.ListN.{drop_of_length-le}
use Rattle.ep_eval.specs.Known.{env_of}
use Rattle.ep_tree.specs.Binding.{bind_letting, bind_params}
use Rattle.ep_tree.specs.StatementSpelling.{is_letting}
use Rattle.ep_tree.specs.Views.{statement_tree}
use Rattle.ep_types_rules.proofs.RuleSteps.{next_is}
use Rattle.ep_instance_parts.proofs.Answering.{refuses_first, then_is}
use Rattle.ep_instance_parts.specs.Refusals.{RefusesBinding, text_name}
use Rattle.ep_instance.proofs.ParamSteps.{Left, left_begin, letting_faultless, letting_left, next_letting, no_letting}
use Rattle.ep_instance.proofs.lettings.bind_params.Goals as goal

pub loop-statement-init : goal.loop-statement-init
loop-statement-init c =
    let e = c.new-env.ensures.empty in (
      c.new-env.ensures.mode,
      subst (λ x. Left x (map statement_tree c.args.statements.now)) (sym e) (left_begin (map statement_tree c.args.statements.now) c.requires.faultless),
      ap (λ x. bind_params c.args.mode (text_name c.args.text) x (filter is_letting (map statement_tree c.args.statements.now))) (sym e),
    )

pub bind_letting-requires : goal.bind_letting-requires
bind_letting-requires c =
    let k = c.loop-statement.statement-index in
    let s = statement_tree c.statement-item.result in
    let cut = ap (map statement_tree) (next_is c.args.statements.now k c.statement-item.result c.loop-statement-test.true c.statement-item.is) in
    let left = subst (λ xs. Left (env_of c.loop-statement.env) xs) cut c.loop-statement.invariant.1 in
    record { faultless = λ l. letting_faultless (env_of c.loop-statement.env) s _ left.ready left.faultless l }

pub loop-statement-preserved : goal.loop-statement-preserved
loop-statement-preserved c =
    let k = c.loop-statement.statement-index in
    let s = statement_tree c.statement-item.result in
    let env = env_of c.loop-statement.env in
    let text = text_name c.args.text in
    let ss = map statement_tree (drop (k + 1) c.args.statements.now) in
    let cut = ap (map statement_tree) (next_is c.args.statements.now k c.statement-item.result c.loop-statement-test.true c.statement-item.is) in
    let left = subst (λ xs. Left env xs) cut c.loop-statement.invariant.1 in
    let said = subst (λ m. bind_letting m text env s ≡ Ok (env_of c.bind_letting.new.env)) c.loop-statement.invariant.0 c.in_ok-bind_letting.ensures.known in (
      c.bind_letting.ensures.mode ∙ c.loop-statement.invariant.0,
      letting_left c.args.mode text env _ s ss left said,
      then_is _ _ _ _ (c.loop-statement.invariant.2 ∙ ap (λ xs. bind_params c.args.mode text env (filter is_letting xs)) cut ∙ next_letting c.args.mode text env s ss) said,
    )

pub returns-in_err-bind_letting-clause-known : goal.returns-in_err-bind_letting-clause-known
returns-in_err-bind_letting-clause-known c =
    let k = c.loop-statement.statement-index in
    let s = statement_tree c.statement-item.result in
    let env = env_of c.loop-statement.env in
    let text = text_name c.args.text in
    let ss = map statement_tree (drop (k + 1) c.args.statements.now) in
    let cut = ap (map statement_tree) (next_is c.args.statements.now k c.statement-item.result c.loop-statement-test.true c.statement-item.is) in
    let p = err_from_is_err_and c.from_residual.result c.from_residual.ensures.1 in
    rw (p.1, p.2)
    (refuses_first _ _ (bind_letting c.args.mode text env s) _
    (c.loop-statement.invariant.2 ∙ ap (λ xs. bind_params c.args.mode text env (filter is_letting xs)) cut ∙ next_letting c.args.mode text env s ss)
    (subst (λ m. RefusesBinding c.in_err-bind_letting.field-0.0 (bind_letting m text env s)) c.loop-statement.invariant.0 c.in_err-bind_letting.ensures.known))

pub returns-clause-mode : goal.returns-clause-mode
returns-clause-mode c = c.loop-statement.invariant.0

pub returns-clause-known : goal.returns-clause-known
returns-clause-known c =
    let env = env_of c.loop-statement.env in
    c.loop-statement.invariant.2
    ∙ ap (λ xs. bind_params c.args.mode (text_name c.args.text) env (filter is_letting (map statement_tree xs))) (drop_of_length-le c.args.statements.now c.loop-statement-test.false)
    ∙ no_letting c.args.mode (text_name c.args.text) env
