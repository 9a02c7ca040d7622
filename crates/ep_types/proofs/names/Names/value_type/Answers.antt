use Rattle.std.proofs.Common.{Some, option_map, sym, ap, ◌∙◌}
use Rattle.ep_types_rules.proofs.RuleSteps.{ill_typed_is, says_same}
use Rattle.ep_types.proofs.NameSteps.{named_domain, named_none, named_value, unknown_is}
use Rattle.ep_types.specs.Meanings.{names_context, meaning_of}
use Rattle.ep_types.proofs.names.Names.value_type.Goals as goal

pub returns-in-None : goal.returns-in-None
returns-in-None c =
    unknown_is c.args.place c.args.name.now c.unknown.result _ c.unknown.ensures
    (named_none c.args.decisions c.args.place c.args.name.now _ (sym (ap (λ n. names_context c.args.self.now n) c.text.ensures.text) ∙ sym c.find.ensures ∙ ap (option_map meaning_of) c.in-None.is))

pub returns-in-Some-Domain : goal.returns-in-Some-Domain
returns-in-Some-Domain c =
    ill_typed_is c.args.place _
    (named_domain c.args.decisions c.args.place c.args.name.now _ c.in-Some-Domain.field-0-0
    (sym (ap (λ n. names_context c.args.self.now n) c.text.ensures.text) ∙ sym c.find.ensures ∙ ap (option_map meaning_of) c.in-Some-Domain.is ∙ ap (λ m. Some (meaning_of m)) c.in-Some-Domain.field-0-is))

pub returns-in-Some-Value : goal.returns-in-Some-Value
returns-in-Some-Value c =
    says_same c.may_stand.result _ _
    (named_value c.args.decisions c.args.place c.args.name.now _ c.in-Some-Value.ty c.in-Some-Value.decision
    (sym (ap (λ n. names_context c.args.self.now n) c.text.ensures.text) ∙ sym c.find.ensures ∙ ap (option_map meaning_of) c.in-Some-Value.is ∙ ap (λ m. Some (meaning_of m)) c.in-Some-Value.field-0-is))
    c.may_stand.ensures
