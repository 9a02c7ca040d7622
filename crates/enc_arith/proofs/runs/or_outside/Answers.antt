use Rattle.std.proofs.Common.{◌≡◌, [], ◌∷◌, ◌++◌, List, ℤ, ap, sym, ◌∙◌, w64, rules}
use Rattle.std.proofs.lemmas.Int.{to_z-of_z}
use Rattle.enc_atoms.specs.declared.atoms.Atom.{Atom}
use Rattle.enc_atoms.specs.declared.atoms.Test.{Test}
use Rattle.enc_arith.specs.Elements.{or_outside, or_up_to}
use Rattle.enc_arith.proofs.runs.or_outside.Goals as goal
use Rattle.enc_arith.proofs.runs.or_outside.Goals.{in-Some+in_ok-push, in_default}

pub returns : goal.returns
unfolding or_outside or_up_to
returns c =
    let when : List Atom = c.args.when.now in
    let one : Test → ℤ → Atom = λ test n. record { var = c.args.index; test = test; value = n } in
    let atoms : c.match-above.atoms.items ≡ or_up_to when c.args.index c.args.above =
    elim c.match-above.branch [
      | in-Some+in_ok-push w ↦ ap (λ v. v.items) w.atoms-is ∙ w.in_ok-push.ensures.items ∙ ap (λ (ys : List Atom). ys ++ w.at_most.result ∷ []) c.in_ok-atoms.ensures.items
          ∙ ap (λ (a : Atom). when ++ a ∷ []) (w.at_most.ensures ∙ ap (one Test.AtMost) (to_z-of_z w64 w.in-Some.above (search rules))) ∙ sym (ap (or_up_to when c.args.index) w.in-Some.is)
      | in_default w ↦ ap (λ v. v.items) w.atoms-is ∙ c.in_ok-atoms.ensures.items ∙ sym (ap (or_up_to when c.args.index) w.in_default.is)
    ] in
    c.in_ok-push-2.ensures.items ∙ ap (λ (ys : List Atom). ys ++ c.above.result ∷ []) atoms
    ∙ ap (λ (a : Atom). or_up_to when c.args.index c.args.above ++ a ∷ []) (c.above.ensures ∙ ap (one Test.Above) (to_z-of_z w64 c.args.last (search rules)))
