use Rattle.std.proofs.Common.{◌≡◌, ◌≤◌, ◌∙◌, ℕ, All, List, ap, arith, map, subst, sym}
use Rattle.cnf_core.specs.Events.{Note, givens, plain_note}
use Rattle.cnf_core.specs.Literal.{VariablesUpTo}
use Rattle.ep_outputs.specs.Outputs.{NotesUpTo}
use Rattle.ep_outputs.proofs.Givens.{noted-plain, plain-noted, text-told}
use Rattle.ep_outputs.proofs.texts.formula_text.Goals as goal

pub returns : goal.returns
returns c =
    let f = c.in_ok-formula.formula in
    let kept = c.notes.result.now in
    let notes : List Note = map plain_note c.notes-2.result.now in
    let same : map plain_note kept ≡ notes = c.notes.ensures ∙ sym c.notes-2.ensures in
    let given : f.clauses ≡ c.in_ok-clauses.clauses.items = c.in_ok-formula.ensures.clauses ∙ c.deref-2.ensures.value in
    let asked : f.clauses ≡ c.deref.result.now = given ∙ sym c.deref.ensures.value in
    let over = c.in_ok-formula.ensures.vars in
    let plain : NotesUpTo c.fewest_variables-vars.result notes = subst (NotesUpTo c.fewest_variables-vars.result) same (noted-plain c.fewest_variables-vars.result kept c.fewest_variables-vars.ensures.noted) in
    let noted : NotesUpTo f.vars notes = subst (λ (n : ℕ). NotesUpTo n notes) (sym over) plain in
    let least : (most : ℕ) → All (VariablesUpTo most) f.clauses → NotesUpTo most notes → f.vars ≤ most = λ most all up.
    subst (λ (n : ℕ). n ≤ most) (sym over)
    (c.fewest_variables-vars.ensures.least most (subst (All (VariablesUpTo most)) asked all) (plain-noted most kept (subst (NotesUpTo most) (sym same) up))) in
    text-told c.args.log.now f notes c.added_number-added.result c.write_cnf.result
    (given ∙ c.in_ok-clauses.ensures ∙ ap givens c.events.ensures.value)
    c.clauses-names.ensures.names noted least c.notes-2.ensures c.requires.readable c.added_number-added.ensures (omega (arith, c.if-added-gt-MOST_ADDED.false))
    c.write_cnf.ensures.text c.write_cnf.ensures.again c.write_cnf.ensures.spells
