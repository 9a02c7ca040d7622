use Rattle.std.proofs.lemmas.Result.{err_from_is_err_and}
use Rattle.std.proofs.Common.{◌≡◌, ◌∙◌, ℕ, List, Ok, Err, inl, subst}
use Rattle.ep_gen.specs.Texts.{generated_model, generated_params}
use Rattle.ep_print.specs.declared.refusals.TextFile.{TextFile}
use Rattle.ep_tree.specs.Views.{model_tree, params_tree}
use Rattle.ep_tree.specs.declared.values.Mode.{Mode}
use Rattle.ep_driver.specs.Commands.{conflicts_wanted}
use Rattle.ep_driver.specs.Outcomes.{search_outcome}
use Rattle.ep_files.specs.Readings.{IsTextReadAs}
use Rattle.ep_driver.specs.Shown.{comes_to_parameters}
use Rattle.ep_driver.specs.Steps.{IsSearched}
use Rattle.ep_files.specs.Reads.{TellsText}
use Rattle.ep_driver.specs.declared.wanted.Request.{Request}
use Rattle.ep_driver.proofs.Noted.{without-premise}
use Rattle.ep_driver.proofs.Running.{stopped-ends}
use Rattle.ep_driver.proofs.Saying.{nothing-sound}
use Rattle.ep_driver.proofs.ShownTexts.{reply-shown, then-shown, unread-shown}
use Rattle.ep_driver.proofs.generating.generate.Goals as goal

pub returns-in_err-texts-clause-tells : goal.returns-in_err-texts-clause-tells
returns-in_err-texts-clause-tells g c =
    let p = err_from_is_err_and c.from_residual.result c.from_residual.ensures.1 in
    rw (p.1, p.2) (inl c.requires.empty)

pub returns-in_err-texts-clause-ends : goal.returns-in_err-texts-clause-ends
returns-in_err-texts-clause-ends g c =
    let p = err_from_is_err_and c.from_residual.result c.from_residual.ensures.1 in
    rw (p.1, p.2) (nothing-sound c.args.log.now c.requires.empty)

pub returns-in_err-model-clause-tells : goal.returns-in_err-model-clause-tells
returns-in_err-model-clause-tells g c =
    let p = err_from_is_err_and c.from_residual-in_err-model.result c.from_residual-in_err-model.ensures.1 in
    let stop = c.in_err-model.field-0.0 in
    let T : List ℕ → Type 0 = λ t. TellsText model_tree (IsTextReadAs TextFile.Model) t (Err stop) in
    rw (p.1, p.2)
    (unread-shown model_tree (IsTextReadAs TextFile.Model) generated_model (λ m. comes_to_parameters c.args.number c.args.conflicts m) c.args.log.now stop c.requires.empty
    (subst T (c.deref.ensures.value ∙ c.in_ok-texts.ensures.model) c.in_err-model.ensures.tells))

pub returns-in_err-model-clause-ends : goal.returns-in_err-model-clause-ends
returns-in_err-model-clause-ends g c =
    let p = err_from_is_err_and c.from_residual-in_err-model.result c.from_residual-in_err-model.ensures.1 in
    rw (p.1, p.2) (stopped-ends (λ status. IsSearched c.args.conflicts status c.args.log.now) c.args.log.now c.in_err-model.field-0.0 c.requires.empty)

pub returns-in_err-params-clause-tells : goal.returns-in_err-params-clause-tells
returns-in_err-params-clause-tells g c =
    let p = err_from_is_err_and c.from_residual-in_err-params.result c.from_residual-in_err-params.ensures.1 in
    let stop = c.in_err-params.field-0.0 in
    let m = model_tree c.in_ok-model.model in
    let M : List ℕ → Type 0 = λ t. IsTextReadAs TextFile.Model t (Ok m) in
    let T : List ℕ → Type 0 = λ t. TellsText params_tree (IsTextReadAs TextFile.Params) t (Err stop) in
    rw (p.1, p.2)
    (then-shown (IsTextReadAs TextFile.Model generated_model) (λ tree. comes_to_parameters c.args.number c.args.conflicts tree) m c.args.log.now (Err stop)
    (subst M (c.deref.ensures.value ∙ c.in_ok-texts.ensures.model) c.in_ok-model.ensures.tells)
    (unread-shown params_tree (IsTextReadAs TextFile.Params) (generated_params c.args.number) (λ q outcome. outcome ≡ search_outcome Mode.Relational (Request.Generated c.args.number c.args.conflicts) m q)
    c.args.log.now stop c.requires.empty
    (subst T (c.deref-2.ensures.value ∙ c.in_ok-texts.ensures.params) c.in_err-params.ensures)))

pub returns-in_err-params-clause-ends : goal.returns-in_err-params-clause-ends
returns-in_err-params-clause-ends g c =
    let p = err_from_is_err_and c.from_residual-in_err-params.result c.from_residual-in_err-params.ensures.1 in
    rw (p.1, p.2) (stopped-ends (λ status. IsSearched c.args.conflicts status c.args.log.now) c.args.log.now c.in_err-params.field-0.0 c.requires.empty)

pub returns-clause-tells : goal.returns-clause-tells
returns-clause-tells g c =
    let m = model_tree c.in_ok-model.model in
    let q = params_tree c.in_ok-params.params in
    let M : List ℕ → Type 0 = λ t. IsTextReadAs TextFile.Model t (Ok m) in
    let Q : List ℕ → Type 0 = λ t. IsTextReadAs TextFile.Params t (Ok q) in
    let outcome = search_outcome Mode.Relational (Request.Generated c.args.number c.args.conflicts) m q in
    then-shown (IsTextReadAs TextFile.Model generated_model) (λ tree. comes_to_parameters c.args.number c.args.conflicts tree) m c.search_texts.new.log c.search_texts.result
    (subst M (c.deref.ensures.value ∙ c.in_ok-texts.ensures.model) c.in_ok-model.ensures.tells)
    (then-shown (IsTextReadAs TextFile.Params (generated_params c.args.number)) (λ tree result. result ≡ search_outcome Mode.Relational (Request.Generated c.args.number c.args.conflicts) m tree) q
    c.search_texts.new.log c.search_texts.result
    (subst Q (c.deref-2.ensures.value ∙ c.in_ok-texts.ensures.params) c.in_ok-params.ensures)
    (reply-shown outcome c.search_texts.new.log c.search_texts.result c.search_texts.ensures.tells))

pub returns-clause-ends : goal.returns-clause-ends
unfolding conflicts_wanted
returns-clause-ends g c = c.search_texts.ensures.ends

pub returns-clause-readable : goal.returns-clause-readable
returns-clause-readable g c = without-premise _ _ c.search_texts.result tt c.search_texts.ensures.readable
