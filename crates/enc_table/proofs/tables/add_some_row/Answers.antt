use Rattle.std.proofs.Common.{◌∙◌, ℕ, ◌<◌, pos, List, length, sym, ap, refl, get_or, subst}
use Rattle.std.proofs.lemmas.Result.{on_ok_weaker}
use Rattle.enc_atoms.specs.Atoms.{Adds}
use Rattle.enc_atoms.proofs.Naming.{atoms_of, later_guard, later_vars, truths_within}
use Rattle.enc_atoms.proofs.NewTruths.{length-numbers_from}
use Rattle.enc_atoms.specs.Steps.{Unless, are_all}
use Rattle.enc_table.proofs.Supports.{some_whole}
use Rattle.enc_table.specs.Rows.{IsSupported}
use Rattle.enc_table.proofs.tables.add_some_row.Goals as goal

pub add_rows-requires-clause-many : goal.add_rows-requires-clause-many
add_rows-requires-clause-many c = ap length (c.deref.ensures.value ∙ c.in_ok-truths.ensures.numbers) ∙ length-numbers_from (length c.args.layout.now) (length c.args.rows.now)

pub add_rows-requires-clause-truths : goal.add_rows-requires-clause-truths
add_rows-requires-clause-truths c =
    truths_within c.args.layout.now c.args.f.now c.new_truths.new.layout c.new_truths.new.f (length c.args.rows.now) c.deref.result.now c.in_ok-truths.ensures.new (c.deref.ensures.value ∙ c.in_ok-truths.ensures.numbers)

pub add_rows-requires-clause-within : goal.add_rows-requires-clause-within
add_rows-requires-clause-within c = later_vars c.args.layout.now c.args.f.now c.new_truths.new.layout c.new_truths.new.f (length c.args.rows.now) c.args.vars.now c.in_ok-truths.ensures.new c.requires.within

pub add_all_supports-requires-clause-guard : goal.add_all_supports-requires-clause-guard
add_all_supports-requires-clause-guard c = later_guard c.args.layout.now c.args.f.now c.new_truths.new.layout c.new_truths.new.f (length c.args.rows.now) c.args.guard.now c.in_ok-truths.ensures.new c.requires.guard

pub add_all_supports-requires-clause-many : goal.add_all_supports-requires-clause-many
add_all_supports-requires-clause-many c = ap length (c.deref-2.ensures.value ∙ c.in_ok-truths.ensures.numbers) ∙ length-numbers_from (length c.args.layout.now) (length c.args.rows.now)

pub add_all_supports-requires-clause-truths : goal.add_all_supports-requires-clause-truths
add_all_supports-requires-clause-truths c =
    truths_within c.args.layout.now c.args.f.now c.new_truths.new.layout c.new_truths.new.f (length c.args.rows.now) c.deref-2.result.now c.in_ok-truths.ensures.new (c.deref-2.ensures.value ∙ c.in_ok-truths.ensures.numbers)

pub add_all_supports-requires-clause-within : goal.add_all_supports-requires-clause-within
add_all_supports-requires-clause-within c = later_vars c.args.layout.now c.args.f.now c.new_truths.new.layout c.new_truths.new.f (length c.args.rows.now) c.args.vars.now c.in_ok-truths.ensures.new c.requires.within

pub add_guarded-requires-clause-names : goal.add_guarded-requires-clause-names
add_guarded-requires-clause-names c =
    atoms_of c.new_truths.new.layout c.deref-3.result.now (pos 1) c.deref-4.result.now (c.deref-4.ensures.value ∙ c.in_ok-atoms.ensures)
    (truths_within c.args.layout.now c.args.f.now c.new_truths.new.layout c.new_truths.new.f (length c.args.rows.now) c.deref-3.result.now c.in_ok-truths.ensures.new (c.deref-3.ensures.value ∙ c.in_ok-truths.ensures.numbers))

pub returns : goal.returns
returns c =
    on_ok_weaker c.add_guarded.result
    (some_whole c.args.layout.now c.args.f.now c.new_truths.new.layout c.new_truths.new.f c.add_rows.new.f c.add_all_supports.new.f c.add_guarded.new.f c.args.guard.now c.deref-4.result.now c.args.vars.now c.deref.result.now c.args.rows.now (length c.args.rows.now) c.requires.ready.is_layout c.requires.within c.requires.fit c.requires.guard
    c.in_ok-truths.ensures.new refl (c.deref.ensures.value ∙ c.in_ok-truths.ensures.numbers)
    (c.deref-4.ensures.value ∙ c.in_ok-atoms.ensures ∙ ap (λ ts. are_all ts (pos 1)) (c.deref-3.ensures.value ∙ sym c.deref.ensures.value)) c.in_ok-add_rows.ensures
    (subst (λ (ts : List ℕ). Adds c.new_truths.new.layout c.add_rows.new.f c.new_truths.new.layout c.add_all_supports.new.f (λ values. (k : ℕ) → k < length c.args.vars.now → Unless c.args.guard.now (IsSupported ts c.args.rows.now k (get_or c.args.vars.now k 0)) values)) (c.deref-2.ensures.value ∙ sym c.deref.ensures.value) c.in_ok-add_all_supports.ensures))
    c.add_guarded.ensures
