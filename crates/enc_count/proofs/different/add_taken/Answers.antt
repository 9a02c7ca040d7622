use Rattle.std.proofs.Common.{◌∙◌, ℤ, IsTrue, ap, w64, arith}
use Rattle.std.proofs.lemmas.Int.{ints, to_z-of_z}
use Rattle.std.proofs.lemmas.Result.{on_ok_weaker}
use Rattle.ep_base.specs.Numbers.{has_number}
use Rattle.ep_flat.specs.Cons.{numbers_of_vars}
use Rattle.enc_atoms.proofs.Guards.{unless_says}
use Rattle.enc_atoms.proofs.Naming.{atoms_of, one_is_says}
use Rattle.enc_atoms.specs.Steps.{are_all}
use Rattle.enc_count.proofs.different.add_taken.Goals as goal

pub add_guarded-requires-clause-names : goal.add_guarded-requires-clause-names
add_guarded-requires-clause-names c = atoms_of c.args.layout.now c.args.vars.now _ c.deref.result.now (c.deref.ensures.value ∙ c.in_ok-atoms.ensures) c.requires.within

pub returns : goal.returns
returns c =
    let v : ℤ = c.args.number in
    on_ok_weaker c.add_guarded.result
    (unless_says c.args.layout.now c.args.f.now c.add_guarded.new.f c.args.guard.now c.deref.result.now (are_all c.args.vars.now v) (λ values. IsTrue (has_number (numbers_of_vars values c.args.vars.now) v)) c.requires.ready.is_layout
    (c.deref.ensures.value ∙ c.in_ok-atoms.ensures ∙ ap (are_all c.args.vars.now) (to_z-of_z w64 v (omega (arith, ints))))
    (λ values. one_is_says values c.args.vars.now v))
    c.add_guarded.ensures
