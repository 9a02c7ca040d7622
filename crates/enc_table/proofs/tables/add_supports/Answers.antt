use Rattle.std.proofs.Common.{◌≡◌, ◌∙◌, ℤ, pos, List, IsTrue, subst, get_or, w64, to_z, of_z, rules}
use Rattle.std.proofs.lemmas.Int.{to_z-of_z}
use Rattle.ep_base.specs.Numbers.{has_number}
use Rattle.ep_flat.specs.Cons.{number_at, numbers_of_vars}
use Rattle.enc_atoms.proofs.Adding.{adds_none, adds_one_more}
use Rattle.enc_atoms.specs.Atoms.{Adds}
use Rattle.enc_atoms.specs.Steps.{Unless}
use Rattle.enc_table.proofs.Supports.{supports_whole}
use Rattle.enc_table.specs.Rows.{truths_having}
use Rattle.enc_table.proofs.tables.add_supports.Goals as goal

pub domain-requires : goal.domain-requires
domain-requires c = c.requires.within c.args.place 0 c.requires.place

pub loop-number-init : goal.loop-number-init
loop-number-init c =
    adds_none c.args.layout.now c.args.f.now (λ values (v : ℤ). Unless c.args.guard.now (λ vs. number_at vs (get_or c.args.vars.now c.args.place 0) ≡ v → IsTrue (has_number (numbers_of_vars vs (truths_having c.args.truths.now c.args.rows.now c.args.place v)) (pos 1))) values)
    c.deref-number-items.result.now c.requires.ready.is_layout c.requires.ready.from_new

pub loop-number-preserved : goal.loop-number-preserved
loop-number-preserved c =
    let L = c.args.layout.now in
    let ns : List ℤ = c.deref-number-items.result.now in
    let k = c.loop-number.number-index in
    let n : ℤ = get_or ns k (pos 0) in
    let whole : to_z w64 (of_z w64 n) ≡ n = to_z-of_z w64 n (search rules) in
    adds_one_more L c.args.f.now c.loop-number.f L c.add_support.new.f (λ values (v : ℤ). Unless c.args.guard.now (λ vs. number_at vs (get_or c.args.vars.now c.args.place 0) ≡ v → IsTrue (has_number (numbers_of_vars vs (truths_having c.args.truths.now c.args.rows.now c.args.place v)) (pos 1))) values)
    ns k (pos 0) c.requires.ready.is_layout c.loop-number-test.true c.loop-number.invariant
    (subst (λ (w : ℤ). Adds L c.loop-number.f L c.add_support.new.f (Unless c.args.guard.now (λ vs. number_at vs (get_or c.args.vars.now c.args.place 0) ≡ w → IsTrue (has_number (numbers_of_vars vs (truths_having c.args.truths.now c.args.rows.now c.args.place w)) (pos 1))))) whole c.in_ok-add_support.ensures)

pub returns : goal.returns
returns c =
    supports_whole c.args.layout.now c.args.f.now c.loop-number.f c.args.guard.now c.args.truths.now c.args.rows.now c.args.place (get_or c.args.vars.now c.args.place 0) c.deref-number-items.result.now c.loop-number.number-index c.requires.ready.is_layout (c.requires.within c.args.place 0 c.requires.place)
    (c.deref-number-items.ensures.value ∙ c.in_ok-numbers.ensures ∙ c.domain.ensures) c.loop-number-test.false c.loop-number.invariant
