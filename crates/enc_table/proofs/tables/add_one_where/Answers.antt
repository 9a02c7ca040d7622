use Rattle.std.proofs.Common.{◌≡◌, ◌∙◌, ◌<◌, ◌++◌, [], ◌∷◌, ℤ, List, length, ap, subst, sym, w64, arith}
use Rattle.std.proofs.lemmas.Int.{ints, to_z-of_z}
use Rattle.std.proofs.lemmas.List.Elements.{All-push}
use Rattle.std.proofs.lemmas.Result.{on_ok_weaker}
use Rattle.enc_atoms.specs.declared.atoms.Atom.{Atom}
use Rattle.enc_atoms.proofs.Naming.{atoms_of}
use Rattle.enc_atoms.specs.Steps.{AreAtomsOf, is_not}
use Rattle.enc_table.proofs.Supports.{one_where}
use Rattle.enc_table.proofs.tables.add_one_where.Goals as goal

pub add_guarded-requires-clause-guard : goal.add_guarded-requires-clause-guard
add_guarded-requires-clause-guard c =
    let items : c.deref.result.now ≡ c.args.guard.now ++ c.is_not.result ∷ [] = c.deref.ensures.value ∙ c.in_ok-push.ensures.items ∙ ap (λ items. items ++ c.is_not.result ∷ []) c.in_ok-closed.ensures.items in
    subst (λ (those : List Atom). AreAtomsOf c.args.layout.now those) (sym items)
    (All-push (λ (a : Atom). a.var < length c.args.layout.now) c.args.guard.now c.is_not.result c.requires.guard (subst (λ (a : Atom). a.var < length c.args.layout.now) (sym c.is_not.ensures) c.requires.there))

pub add_guarded-requires-clause-names : goal.add_guarded-requires-clause-names
add_guarded-requires-clause-names c = atoms_of c.args.layout.now c.args.chosen.now _ c.deref-2.result.now (c.deref-2.ensures.value ∙ c.in_ok-atoms.ensures) c.requires.chosen

pub returns : goal.returns
returns c =
    let v : ℤ = c.args.number in
    let atom_is : c.is_not.result ≡ is_not c.args.var v = c.is_not.ensures ∙ ap (λ u. is_not c.args.var u) (to_z-of_z w64 v (omega (arith, ints))) in
    on_ok_weaker c.add_guarded.result
    (one_where c.args.layout.now c.args.f.now c.add_guarded.new.f c.args.guard.now c.deref.result.now c.deref-2.result.now c.is_not.result c.args.chosen.now c.args.var v c.requires.ready.is_layout
    (c.deref.ensures.value ∙ c.in_ok-push.ensures.items ∙ ap (λ items. items ++ c.is_not.result ∷ []) c.in_ok-closed.ensures.items) atom_is (c.deref-2.ensures.value ∙ c.in_ok-atoms.ensures))
    c.add_guarded.ensures
