use Rattle.std.proofs.Common.{◌≡◌, ℤ, pos, List, IsTrue, subst, get_or, w64, to_z, of_z, rules}
use Rattle.std.proofs.lemmas.Int.{to_z-of_z}
use Rattle.ep_base.specs.Numbers.{has_number}
use Rattle.ep_flat.specs.Cons.{numbers_of_vars}
use Rattle.enc_atoms.proofs.Adding.{adds_all, adds_none, adds_one_more}
use Rattle.enc_atoms.specs.Atoms.{Adds}
use Rattle.enc_atoms.proofs.Guards.{unless_all}
use Rattle.enc_atoms.specs.Steps.{Unless}
use Rattle.enc_count.proofs.different.add_each_taken.Goals as goal

pub loop-number-init : goal.loop-number-init
loop-number-init c = adds_none c.args.layout.now c.args.f.now (λ values (v : ℤ). Unless c.args.guard.now (λ vs. IsTrue (has_number (numbers_of_vars vs c.args.vars.now) v)) values) c.args.numbers.now c.requires.ready.is_layout c.requires.ready.from_new

pub loop-number-preserved : goal.loop-number-preserved
loop-number-preserved c =
    let L = c.args.layout.now in
    let ns : List ℤ = c.args.numbers.now in
    let k = c.loop-number.number-index in
    let n : ℤ = get_or ns k (pos 0) in
    let whole : to_z w64 (of_z w64 n) ≡ n = to_z-of_z w64 n (search rules) in
    adds_one_more L c.args.f.now c.loop-number.f L c.add_taken.new.f (λ values (v : ℤ). Unless c.args.guard.now (λ vs. IsTrue (has_number (numbers_of_vars vs c.args.vars.now) v)) values) ns k (pos 0) c.requires.ready.is_layout c.loop-number-test.true c.loop-number.invariant
    (subst (λ (w : ℤ). Adds L c.loop-number.f L c.add_taken.new.f (Unless c.args.guard.now (λ vs. IsTrue (has_number (numbers_of_vars vs c.args.vars.now) w)))) whole c.in_ok-add_taken.ensures)

pub returns : goal.returns
returns c =
    unless_all c.args.layout.now c.args.f.now c.args.layout.now c.loop-number.f c.args.guard.now (λ values (v : ℤ). IsTrue (has_number (numbers_of_vars values c.args.vars.now) v)) c.args.numbers.now c.requires.ready.is_layout
    (adds_all c.args.layout.now c.args.f.now c.args.layout.now c.loop-number.f (λ values (v : ℤ). Unless c.args.guard.now (λ vs. IsTrue (has_number (numbers_of_vars vs c.args.vars.now) v)) values) c.args.numbers.now c.loop-number.number-index c.loop-number-test.false c.loop-number.invariant)
