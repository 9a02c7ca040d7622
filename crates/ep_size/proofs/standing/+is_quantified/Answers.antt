use Rattle.ep_size.proofs.Words.{ap, sym, ◌∙◌, Some, if◌then◌else◌, has_value, with_number, decisions_in, is_decision, of_scalar, single, with_all}
use Rattle.ep_size.proofs.standing.+is_quantified.Goals as goal

pub returns-in-Nothing-clause-decided : goal.returns-in-Nothing-clause-decided
unfolding with_all
returns-in-Nothing-clause-decided t c env = ap (λ a. decisions_in (with_all env a) c.args.name.now) c.in-Nothing.is

pub returns-then-eq-clause-decided : goal.returns-then-eq-clause-decided
unfolding with_all with_number is_decision
returns-then-eq-clause-decided t c env =
    let name = c.args.name.now in
    let rest = with_all env c.in-Number.outer.now in
    ap (λ a. decisions_in (with_all env a) name) c.in-Number.is
    ∙ ap (λ b. is_decision (if b then Some (has_value (of_scalar c.in-Number.field-2) (single c.in-Number.field-3)) else rest name)) (sym c.eq.ensures ∙ c.if-eq.true)

pub returns-else-eq-clause-decided : goal.returns-else-eq-clause-decided
unfolding with_all with_number
returns-else-eq-clause-decided t c env =
    let name = c.args.name.now in
    let rest = with_all env c.in-Number.outer.now in
    ap (λ a. decisions_in (with_all env a) name) c.in-Number.is
    ∙ ap (λ b. is_decision (if b then Some (has_value (of_scalar c.in-Number.field-2) (single c.in-Number.field-3)) else rest name)) (sym c.eq.ensures ∙ c.if-eq.false)
    ∙ c.is_quantified.ensures.decided env

pub returns-in-Nothing-clause-apart : goal.returns-in-Nothing-clause-apart
unfolding with_all
returns-in-Nothing-clause-apart t c env h = ap (λ a. with_all env a c.args.name.now) c.in-Nothing.is

pub returns-then-eq-clause-apart : goal.returns-then-eq-clause-apart
returns-then-eq-clause-apart t c env h = absurd cc

pub returns-else-eq-clause-apart : goal.returns-else-eq-clause-apart
unfolding with_all with_number
returns-else-eq-clause-apart t c env h =
    let name = c.args.name.now in
    let rest = with_all env c.in-Number.outer.now in
    ap (λ a. with_all env a name) c.in-Number.is
    ∙ ap (λ b. if b then Some (has_value (of_scalar c.in-Number.field-2) (single c.in-Number.field-3)) else rest name) (sym c.eq.ensures ∙ c.if-eq.false)
    ∙ c.is_quantified.ensures.apart env h
