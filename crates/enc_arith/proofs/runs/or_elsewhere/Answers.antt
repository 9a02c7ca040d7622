use Rattle.std.proofs.Common.{◌≡◌, ◌∙◌, ◌-◌, [], ◌∷◌, ◌++◌, List, ℤ, inl, inr, ap, get_or, pos, w64, to_z, of_z, rules, arith}
use Rattle.std.proofs.lemmas.Int.{to_z-of_z}
use Rattle.enc_atoms.specs.declared.atoms.Atom.{Atom}
use Rattle.enc_arith.specs.Elements.{or_outside}
use Rattle.enc_arith.proofs.Cases.{is_not_atom}
use Rattle.enc_arith.proofs.runs.or_elsewhere.Goals as goal

pub returns-then-end-start-eq1 : goal.returns-then-end-start-eq1
returns-then-end-start-eq1 c =
    let n : ℤ = get_or c.args.numbers.now c.args.start (pos 0) in
    let word : to_z w64 (of_z w64 n) ≡ n = to_z-of_z w64 n (search rules) in
    inl (
      omega (arith, c.if-end-start-eq1.true, c.requires.run),
      c.in_ok-push.ensures.items ∙ ap (λ (xs : List Atom). xs ++ c.is_not.result ∷ []) c.in_ok-atoms.ensures.items ∙ ap (λ (a : Atom). c.args.when.now ++ a ∷ []) (c.is_not.ensures ∙ ap (is_not_atom c.args.y) word),
    )

pub returns : goal.returns
returns c =
    let n : ℤ = get_or c.args.numbers.now (c.args.end - 1) (pos 0) in
    let word : to_z w64 (of_z w64 n) ≡ n = to_z-of_z w64 n (search rules) in
    inr (c.in_ok-outside.ensures ∙ ap (λ o. or_outside c.args.when.now c.args.y o (to_z w64 (of_z w64 n))) c.before-above.ensures ∙ ap (or_outside c.args.when.now c.args.y _) word)
