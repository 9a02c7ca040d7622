use Rattle.std.proofs.Common.{◌≡◌}
use Rattle.std.proofs.lemmas.Result.{err_from_is_err_and}
use Rattle.ep_parse_model.proofs.TextRefusals.{model_stopped}
use Rattle.ep_parse_model.proofs.WholeTexts.{model_read, refused_so, spans_lie}
use Rattle.ep_parse_model.proofs.calls.parse_model.Goals as goal
use Rattle.ep_tree.specs.Phrases.{lexemes_of}
use Rattle.ep_tree.specs.StatementSpelling.{SpellsModel}

pub new-cursor-requires : goal.new-cursor-requires
new-cursor-requires c = record { lies = rw c.deref.ensures.value (spans_lie _ _ c.in_ok-tokens.ensures.found) }

pub returns-in_err-tokens : goal.returns-in_err-tokens
returns-in_err-tokens c =
    let p = err_from_is_err_and c.from_residual.result c.from_residual.ensures.1 in
    record { answer = rw (p.1, p.2) (refused_so SpellsModel _ c.in_err-tokens.field-0.0 c.in_err-tokens.ensures.refused) }

pub returns-in-Ok : goal.returns-in-Ok
returns-in-Ok c =
    let all : c.new-cursor.result ≡ lexemes_of c.args.text.now c.in_ok-tokens.tokens.items = rw c.deref.ensures.value at c.new-cursor.ensures.all in
    record { answer = model_read _ _ _ _ _ c.in_ok-tokens.ensures.within c.in_ok-tokens.ensures.found all c.in-Ok.ensures.read }

pub returns : goal.returns
returns c =
    let all : c.new-cursor.result ≡ lexemes_of c.args.text.now c.in_ok-tokens.tokens.items = rw c.deref.ensures.value at c.new-cursor.ensures.all in
    record { answer = rw c.refusal.ensures.why (model_stopped _ _ _ _ _ c.in_ok-tokens.ensures.within c.in_ok-tokens.ensures.found all c.in-Err.ensures.read) }
