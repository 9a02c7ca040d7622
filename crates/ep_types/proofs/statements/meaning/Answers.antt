use Rattle.std.proofs.Common.{option_map, refl, ap, ◌∙◌}
use Rattle.ep_types.proofs.NameSteps.{lookup_known}
use Rattle.ep_types.specs.Meanings.{known_by, meaning_of}
use Rattle.ep_types.proofs.statements.meaning.Goals as goal

pub returns : goal.returns
returns c =
    ap (option_map meaning_of) (c.copied.ensures ∙ c.get.ensures.value)
    ∙ lookup_known _ c.text.result.now (λ key. refl) c.args.declared.now.entries ∙ ap (known_by c.args.declared.now.entries) c.text.ensures.text
