use Rattle.ep_eval.proofs.Words.{ap, sym, ◌∙◌, Some, arith, w64, if◌then◌else◌, ints, to_z-of_z, has_value, value_bound, with_number, of_scalar, single, number_or_value, with_all}
use Rattle.ep_eval.proofs.scopes.+number_around.Goals as goal

pub returns-in-Nothing : goal.returns-in-Nothing
unfolding with_all number_or_value
returns-in-Nothing t c env = ap (λ a. value_bound (with_all env a c.args.name.now)) c.in-Nothing.is

pub returns-then-eq : goal.returns-then-eq
unfolding with_all number_or_value with_number value_bound
returns-then-eq t c env =
    let name = c.args.name.now in
    let rest = with_all env c.in-Number.outer.now in
    ap (λ a. value_bound (with_all env a name)) c.in-Number.is
    ∙ ap (λ b. value_bound (if b then Some (has_value (of_scalar c.in-Number.field-2) (single c.in-Number.number)) else rest name)) (sym c.eq.ensures ∙ c.if-eq.true)
    ∙ ap (λ m. Some (single m)) (sym (to_z-of_z w64 c.in-Number.number (omega (arith, ints))))

pub returns-else-eq : goal.returns-else-eq
unfolding with_all with_number
returns-else-eq t c env =
    let name = c.args.name.now in
    let rest = with_all env c.in-Number.outer.now in
    ap (λ a. value_bound (with_all env a name)) c.in-Number.is
    ∙ ap (λ b. value_bound (if b then Some (has_value (of_scalar c.in-Number.field-2) (single c.in-Number.number)) else rest name)) (sym c.eq.ensures ∙ c.if-eq.false)
    ∙ c.number_around.ensures env
