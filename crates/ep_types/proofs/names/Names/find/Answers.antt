use Rattle.std.proofs.Common.{option_map, refl, sym, ap, ◌∙◌}
use Rattle.ep_tree.specs.Types.{Context}
use Rattle.ep_types.proofs.NameSteps.{lookup_known}
use Rattle.ep_types.specs.Meanings.{behind_names, names_context, known_by, meaning_of, or_else}
use Rattle.ep_types.proofs.names.Names.find.Goals as goal

pub returns-in-Some : goal.returns-in-Some
unfolding names_context or_else
returns-in-Some c =
    let k : Context = known_by c.args.self.now.declared.now.entries in
    let n = c.args.name.now in
    sym (ap (λ xs. behind_names xs k n) (sym c.deref.ensures.value) ∙ c.hidden_by.ensures k ∙ ap (λ r. or_else (option_map meaning_of r) (k n)) c.in-Some.is)

pub returns-in-None : goal.returns-in-None
unfolding names_context or_else
returns-in-None c =
    let k : Context = known_by c.args.self.now.declared.now.entries in
    let n = c.args.name.now in
    ap (option_map meaning_of) (c.copied.ensures ∙ c.get.ensures.value)
    ∙ lookup_known _ n (λ key. refl) c.args.self.now.declared.now.entries
    ∙ sym (ap (λ xs. behind_names xs k n) (sym c.deref.ensures.value) ∙ c.hidden_by.ensures k ∙ ap (λ r. or_else (option_map meaning_of r) (k n)) c.in-None.is)
