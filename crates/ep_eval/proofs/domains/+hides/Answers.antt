use Rattle.ep_eval.proofs.Words.{ap, sym, ◌∙◌, Some, if◌then◌else◌, has_value, with_number, of_scalar, single, only_domain, with_all}
use Rattle.ep_eval.proofs.domains.+hides.Goals as goal

pub returns-in-Nothing : goal.returns-in-Nothing
unfolding with_all
returns-in-Nothing t c env = ap (λ a. only_domain (with_all env a c.args.name.now)) c.in-Nothing.is

pub returns-then-eq : goal.returns-then-eq
unfolding with_all with_number only_domain
returns-then-eq t c env =
    let name = c.args.name.now in
    let rest = with_all env c.in-Number.outer.now in
    ap (λ a. only_domain (with_all env a name)) c.in-Number.is
    ∙ ap (λ b. only_domain (if b then Some (has_value (of_scalar c.in-Number.field-2) (single c.in-Number.field-3)) else rest name)) (sym c.eq.ensures ∙ c.if-eq.true)

pub returns-else-eq : goal.returns-else-eq
unfolding with_all with_number
returns-else-eq t c env =
    let name = c.args.name.now in
    let rest = with_all env c.in-Number.outer.now in
    ap (λ a. only_domain (with_all env a name)) c.in-Number.is
    ∙ ap (λ b. only_domain (if b then Some (has_value (of_scalar c.in-Number.field-2) (single c.in-Number.field-3)) else rest name)) (sym c.eq.ensures ∙ c.if-eq.false)
    ∙ c.hides.ensures env
