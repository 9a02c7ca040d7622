use Rattle.ep_size.proofs.Words.{ap, sym, ◌∙◌, ◌&&◌, not, decisions_in, hiding, env_in, hidden_without}
use Rattle.ep_size.proofs.standing.+is_shown.Goals as goal

pub returns-in-Nothing : goal.returns-in-Nothing
unfolding hidden_without
returns-in-Nothing t c =
    let f = decisions_in (env_in c.args.scope) in
    c.is_decision.ensures ∙ sym (ap (λ h. hidden_without f h c.args.name.now) c.in-Nothing.is)

pub returns-then-is_one_of : goal.returns-then-is_one_of
unfolding hidden_without hiding
returns-then-is_one_of t c =
    let f = decisions_in (env_in c.args.scope) in
    let name = c.args.name.now in
    sym (ap (λ h. hidden_without f h name) c.in-Names.is ∙ ap (λ b. not b && hidden_without f c.in-Names.outer.now name) (sym c.is_one_of.ensures ∙ c.if-is_one_of.true))

pub returns-else-is_one_of : goal.returns-else-is_one_of
unfolding hidden_without hiding
returns-else-is_one_of t c =
    let f = decisions_in (env_in c.args.scope) in
    let name = c.args.name.now in
    c.is_shown.ensures
    ∙ sym (ap (λ h. hidden_without f h name) c.in-Names.is ∙ ap (λ b. not b && hidden_without f c.in-Names.outer.now name) (sym c.is_one_of.ensures ∙ c.if-is_one_of.false))

pub returns-then-is_generated : goal.returns-then-is_generated
unfolding hidden_without hiding
returns-then-is_generated t c =
    let f = decisions_in (env_in c.args.scope) in
    let name = c.args.name.now in
    sym (ap (λ h. hidden_without f h name) c.in-Generators.is
    ∙ ap (λ b. not b && hidden_without f c.in-Generators.outer.now name) (sym c.is_generated.ensures ∙ c.if-is_generated.true))

pub returns-else-is_generated : goal.returns-else-is_generated
unfolding hidden_without hiding
returns-else-is_generated t c =
    let f = decisions_in (env_in c.args.scope) in
    let name = c.args.name.now in
    c.is_shown-in-Generators.ensures
    ∙ sym (ap (λ h. hidden_without f h name) c.in-Generators.is
    ∙ ap (λ b. not b && hidden_without f c.in-Generators.outer.now name) (sym c.is_generated.ensures ∙ c.if-is_generated.false))
