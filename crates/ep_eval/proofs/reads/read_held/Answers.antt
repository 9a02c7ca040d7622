use Rattle.ep_eval.proofs.Words.{Some, ap, sym, ◌∙◌, arith, w64, ints, to_z-of_z, indices_in, read_value, single, held_value}
use Rattle.ep_eval.proofs.ReadSteps.{given, read_no_number, read_number}
use Rattle.ep_eval.proofs.reads.read_held.Goals as goal

pub returns-then-indices-eq0 : goal.returns-then-indices-eq0
unfolding held_value
returns-then-indices-eq0 c =
    let n = c.in-Number.number in
    let is = c.args.indices.now in
    ap (λ x. Some (single x)) (to_z-of_z w64 n (omega (arith, ints)))
    ∙ read_number is n (omega (arith, c.if-indices-eq0.true)) ∙ ap (λ h. read_value (indices_in is) (held_value h)) (sym c.in-Number.is)

pub returns-else-indices-eq0 : goal.returns-else-indices-eq0
unfolding held_value
returns-else-indices-eq0 c =
    let n = c.in-Number.number in
    let is = c.args.indices.now in
    read_no_number is n (λ e. absurd (omega (arith, e, c.if-indices-eq0.false))) ∙ ap (λ h. read_value (indices_in is) (held_value h)) (sym c.in-Number.is)

pub returns-in-Lent : goal.returns-in-Lent
unfolding held_value
returns-in-Lent c =
    given c.read_lent.result _ _ c.read_lent.ensures (λ found h. h ∙ ap (λ x. read_value (indices_in c.args.indices.now) (held_value x)) (sym c.in-Lent.is))

pub returns-in_ok-copy-in-Made : goal.returns-in_ok-copy-in-Made
unfolding held_value
returns-in_ok-copy-in-Made c =
    c.made.ensures ∙ c.in_ok-copy-in-Made.ensures ∙ ap (λ x. read_value (indices_in c.args.indices.now) (held_value x)) (sym c.in-Made.is)
