use Rattle.std.proofs.Common.{◌≡◌, ◌∙◌, ℤ, [], ◌∷◌, ap, w64, arith}
use Rattle.std.proofs.lemmas.Int.{ints, to_z-of_z}
use Rattle.std.proofs.lemmas.Result.{on_ok_weaker}
use Rattle.enc_atoms.proofs.Guards.{unless_says}
use Rattle.enc_atoms.proofs.Meanings.{not_both_says}
use Rattle.enc_atoms.specs.Steps.{NotBoth, is_not}
use Rattle.enc_atoms.proofs.pairs.add_not_both.Goals as goal

pub returns : goal.returns
returns c =
    let x = c.args.one.0 in
    let v : ℤ = c.args.one.1 in
    let y = c.args.other.0 in
    let w : ℤ = c.args.other.1 in
    let first : c.is_not.result ≡ is_not x v = c.is_not.ensures ∙ ap (λ u. is_not x u) (to_z-of_z w64 v (omega (arith, ints))) in
    let second : c.is_not-2.result ≡ is_not y w = c.is_not-2.ensures ∙ ap (λ u. is_not y u) (to_z-of_z w64 w (omega (arith, ints))) in
    on_ok_weaker c.add_guarded.result
    (unless_says c.args.layout.now c.args.f.now c.add_guarded.new.f c.args.guard.now (c.is_not.result ∷ c.is_not-2.result ∷ []) (is_not x v ∷ is_not y w ∷ []) (NotBoth x v y w) c.requires.ready.is_layout
    (ap (λ a. a ∷ c.is_not-2.result ∷ []) first ∙ ap (λ a. is_not x v ∷ a ∷ []) second)
    (λ values. not_both_says values x v y w))
    c.add_guarded.ensures
