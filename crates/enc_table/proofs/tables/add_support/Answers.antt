use Rattle.std.proofs.Common.{◌≡◌, ◌∙◌, ℕ, ℤ, pos, List, IsTrue, get_or, subst, sym, w64, to_z, of_z, arith}
use Rattle.std.proofs.lemmas.Int.{ints, to_z-of_z}
use Rattle.std.proofs.lemmas.Result.{on_ok_weaker}
use Rattle.ep_base.specs.Numbers.{has_number}
use Rattle.ep_flat.specs.Cons.{number_at, numbers_of_vars}
use Rattle.enc_atoms.specs.Atoms.{Adds}
use Rattle.enc_atoms.specs.Steps.{AreOf, Unless}
use Rattle.enc_table.proofs.Supports.{having_within}
use Rattle.enc_table.specs.Rows.{truths_having}
use Rattle.enc_table.proofs.tables.add_support.Goals as goal

pub add_one_where-requires-clause-chosen : goal.add_one_where-requires-clause-chosen
add_one_where-requires-clause-chosen c =
    subst (λ (xs : List ℕ). AreOf c.args.layout.now xs) (sym (c.deref.ensures.value ∙ c.in_ok-chosen.ensures)) (having_within c.args.layout.now c.args.truths.now c.args.rows.now c.args.place _ c.requires.truths)

pub add_one_where-requires-clause-there : goal.add_one_where-requires-clause-there
add_one_where-requires-clause-there c = c.requires.within c.args.place 0 c.requires.place

pub returns : goal.returns
returns c =
    let v : ℤ = c.args.number in
    let whole : to_z w64 (of_z w64 v) ≡ v = to_z-of_z w64 v (omega (arith, ints)) in
    let L = c.args.layout.now in
    on_ok_weaker c.add_one_where.result
    (λ h. subst (λ (w : ℤ). Adds L c.args.f.now L c.add_one_where.new.f (Unless c.args.guard.now (λ values. number_at values (get_or c.args.vars.now c.args.place 0) ≡ w → IsTrue (has_number (numbers_of_vars values (truths_having c.args.truths.now c.args.rows.now c.args.place w)) (pos 1))))) whole
    (subst (λ (xs : List ℕ). Adds L c.args.f.now L c.add_one_where.new.f (Unless c.args.guard.now (λ values. number_at values (get_or c.args.vars.now c.args.place 0) ≡ to_z w64 (of_z w64 v) → IsTrue (has_number (numbers_of_vars values xs) (pos 1))))) (c.deref.ensures.value ∙ c.in_ok-chosen.ensures) h))
    c.add_one_where.ensures
