use Rattle.ep_unroll.proofs.Words.{ap, sym, ◌∙◌, Some, if◌then◌else◌, has_value, with_number, of_scalar, single, with_all}
use Rattle.ep_unroll.proofs.named.+is_quantified.Goals as goal

pub returns-in-Nothing : goal.returns-in-Nothing
unfolding with_all
returns-in-Nothing t c env h = ap (λ a. with_all env a c.args.name.now) c.in-Nothing.is

pub returns-then-eq : goal.returns-then-eq
returns-then-eq t c env h = absurd cc

pub returns-else-eq : goal.returns-else-eq
unfolding with_all with_number
returns-else-eq t c env h =
    let name = c.args.name.now in
    let rest = with_all env c.in-Number.outer.now in
    ap (λ a. with_all env a name) c.in-Number.is
    ∙ ap (λ b. if b then Some (has_value (of_scalar c.in-Number.field-2) (single c.in-Number.field-3)) else rest name) (sym c.eq.ensures ∙ c.if-eq.false)
    ∙ c.is_quantified.ensures env h
