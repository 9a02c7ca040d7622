use Rattle.std.proofs.Common.{◌≡◌, ◌∙◌, [], ◌∷◌, ◌++◌, List, ap, arith, length, refl, sym}
use Rattle.std.proofs.lemmas.Bool.Decides.{nat_tests}
use Rattle.std.proofs.lemmas.Result.{on_ok_weaker}
use Rattle.enc_atoms.proofs.Guards.{adds_clause}
use Rattle.enc_atoms.proofs.guarded.add_guarded.Goals as goal
use Rattle.enc_atoms.specs.declared.atoms.Atom.{Atom}

-- a list without parts is none
none_left : (xs : List Atom) → length xs ≡ 0 → xs ≡ []
none_left [] e = refl
none_left (x ∷ xs) e = absurd (omega (arith, e))

pub returns-then-is_empty : goal.returns-then-is_empty
returns-then-is_empty c =
    let none : c.args.guard.now ≡ [] = none_left c.args.guard.now (grind (arith, nat_tests, c.is_empty.ensures, c.if-is_empty.true)) in
    on_ok_weaker c.add_clause.result
    (adds_clause c.args.layout.now c.args.f.now c.add_clause.new.f c.args.guard.now c.args.atoms.now c.args.atoms.now c.requires.ready.is_layout (ap (λ xs. xs ++ c.args.atoms.now) (sym none)))
    c.add_clause.ensures

pub returns : goal.returns
returns c =
    on_ok_weaker c.add_clause-2.result
    (adds_clause c.args.layout.now c.args.f.now c.add_clause-2.new.f c.args.guard.now c.args.atoms.now c.deref.result.now c.requires.ready.is_layout
    (c.deref.ensures.value ∙ c.in_ok-extend_from_slice.ensures.items ∙ ap (λ xs. xs ++ c.args.atoms.now) c.in_ok-all.ensures.items))
    c.add_clause-2.ensures
