use Rattle.std.proofs.Common.{Err, option_map, sym, ap, ◌∙◌}
use Rattle.std.proofs.lemmas.Result.{err_from_is_err_and}
use Rattle.ep_types_rules.proofs.Said.{memory_says}
use Rattle.ep_types.proofs.StatementSteps.{declares_again, declares_new, inserted}
use Rattle.ep_types.specs.Meanings.{known_by, meaning_of}
use Rattle.ep_types.proofs.statements.declare.Goals as goal

pub returns-in-Some : goal.returns-in-Some
returns-in-Some c =
    λ fault s. declares_again (meaning_of c.args.standing_for) _ (known_by c.args.declared.now.entries) c.args.name.now c.args.place (sym c.meaning.ensures ∙ ap (option_map meaning_of) c.in-Some.is) ∙ ap Err (c.declared_before.ensures fault s)

pub returns-in_ok-insert-in-None : goal.returns-in_ok-insert-in-None
returns-in_ok-insert-in-None c =
    declares_new (meaning_of c.args.standing_for) (known_by c.args.declared.now.entries) _ c.args.name.now c.args.place (sym c.meaning.ensures ∙ ap (option_map meaning_of) c.in-None.is)
    (inserted c.args.declared.now.entries _ c.text.result c.args.name.now c.args.standing_for c.in_ok-insert-in-None.ensures.entries c.text.ensures.text)

pub returns-in_err-insert-in-None : goal.returns-in_err-insert-in-None
returns-in_err-insert-in-None c =
    let p = err_from_is_err_and c.from_residual.result c.from_residual.ensures.1 in
    rw (p.1, p.2)
    (memory_says _)
