use Rattle.ep_eval.proofs.Words.{ap, sym, ◌∙◌, Some, option_map, if◌then◌else◌, context_of, has_value, meaning_in, with_number, named_type, of_scalar, type_from, single, scalar_or, with_all}
use Rattle.ep_eval.proofs.within.+scalar_around.Goals as goal

pub returns-in-Nothing : goal.returns-in-Nothing
unfolding with_all scalar_or
returns-in-Nothing t c env = ap (λ a. type_from (named_type (context_of (with_all env a) c.args.name.now))) c.in-Nothing.is

pub returns-then-eq : goal.returns-then-eq
unfolding with_all scalar_or with_number context_of meaning_in named_type type_from
returns-then-eq t c env =
    let name = c.args.name.now in
    let rest = with_all env c.in-Number.outer.now in
    ap (λ a. type_from (named_type (context_of (with_all env a) name))) c.in-Number.is
    ∙ ap (λ b. type_from (named_type (option_map meaning_in (if b then Some (has_value (of_scalar c.in-Number.scalar) (single c.in-Number.field-3)) else rest name)))) (sym c.eq.ensures ∙ c.if-eq.true)

pub returns-else-eq : goal.returns-else-eq
unfolding with_all with_number context_of
returns-else-eq t c env =
    let name = c.args.name.now in
    let rest = with_all env c.in-Number.outer.now in
    ap (λ a. type_from (named_type (context_of (with_all env a) name))) c.in-Number.is
    ∙ ap (λ b. type_from (named_type (option_map meaning_in (if b then Some (has_value (of_scalar c.in-Number.scalar) (single c.in-Number.field-3)) else rest name)))) (sym c.eq.ensures ∙ c.if-eq.false)
    ∙ c.scalar_around.ensures env
