use Rattle.std.proofs.Common.{◌≡◌, ℕ, ap, ◌∙◌, arith, Err}
use Rattle.cnf_core.specs.Literal.{Literal}
use Rattle.sat_text.specs.Clauses.{literal_of}
use Rattle.sat_text.proofs.ItemSteps.{stored, zero_stored}
use Rattle.sat_text.proofs.ClauseSteps.{none_left, clause_ends, too_great, literal_more}
use Rattle.sat_text.proofs.clauses.take_number.Goals as goal

pub returns-then-left-eq0-clause-next : goal.returns-then-left-eq0-clause-next
returns-then-left-eq0-clause-next c = λ last word later answer l e h. none_left last c.args.f.now c.args.left.now c.args.begun.now.items word later answer c.if-left-eq0.true h ∙ ap (λ (n : ℕ). Err n) l

pub returns-then-is_zero-clause-next : goal.returns-then-is_zero-clause-next
returns-then-is_zero-clause-next c = λ last word later answer l e h.
    clause_ends last c.args.f.now c.end_clause.new.f c.args.left.now c.args.begun.now.items c.end_clause.new.begun.items word later answer c.args.number (omega (arith, c.if-left-eq0.false)) e
    (zero_stored c.args.number _ _ c.requires.small c.is_zero.ensures c.if-is_zero.true) c.in_ok-end_clause.ensures.ok c.in_ok-end_clause.ensures.empty h

pub returns-then-var-vars-clause-next : goal.returns-then-var-vars-clause-next
returns-then-var-vars-clause-next c = λ last word later answer l e h.
    let lit-is : c.literal-lit.result ≡ literal_of c.args.number = c.literal-lit.ensures ∙ ap literal_of (stored c.args.number c.requires.small) in
    too_great last c.args.f.now c.args.left.now c.args.begun.now.items word later answer c.args.number (omega (arith, c.if-left-eq0.false)) e
    (zero_stored c.args.number _ _ c.requires.small c.is_zero.ensures c.if-is_zero.false)
    (omega (arith, c.if-var-vars.true, c.vars.ensures.value, c.var.ensures.value, ap (λ (l : Literal). l.var) lit-is)) h ∙ ap (λ (n : ℕ). Err n) l

pub returns-clause-next : goal.returns-clause-next
returns-clause-next c = λ last word later answer l e h.
    let lit-is : c.literal-lit.result ≡ literal_of c.args.number = c.literal-lit.ensures ∙ ap literal_of (stored c.args.number c.requires.small) in
    rw (c.in_ok-push.ensures.items, lit-is)
    (literal_more last c.args.f.now c.args.left.now c.args.begun.now.items word later answer c.args.number (omega (arith, c.if-left-eq0.false)) e
    (zero_stored c.args.number _ _ c.requires.small c.is_zero.ensures c.if-is_zero.false)
    (omega (arith, c.if-var-vars.false, c.vars.ensures.value, c.var.ensures.value, ap (λ (l : Literal). l.var) lit-is)) h)
