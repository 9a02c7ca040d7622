use Rattle.std.proofs.Common.{◌≡◌, ◌∙◌, ℤ, [], ◌∷◌, ap, w64, arith}
use Rattle.std.proofs.lemmas.Int.{ints, to_z-of_z}
use Rattle.std.proofs.lemmas.Result.{on_ok_weaker}
use Rattle.enc_atoms.proofs.Guards.{unless_says}
use Rattle.enc_atoms.proofs.Meanings.{implied_says}
use Rattle.enc_atoms.specs.Steps.{Implied, is, is_not}
use Rattle.enc_atoms.proofs.pairs.add_implied.Goals as goal

pub returns : goal.returns
returns c =
    let x = c.args.given.0 in
    let v : ℤ = c.args.given.1 in
    let y = c.args.then.0 in
    let w : ℤ = c.args.then.1 in
    let first : c.is_not.result ≡ is_not x v = c.is_not.ensures ∙ ap (λ u. is_not x u) (to_z-of_z w64 v (omega (arith, ints))) in
    let second : c.is.result ≡ is y w = c.is.ensures ∙ ap (λ u. is y u) (to_z-of_z w64 w (omega (arith, ints))) in
    on_ok_weaker c.add_guarded.result
    (unless_says c.args.layout.now c.args.f.now c.add_guarded.new.f c.args.guard.now (c.is_not.result ∷ c.is.result ∷ []) (is_not x v ∷ is y w ∷ []) (Implied x v y w) c.requires.ready.is_layout
    (ap (λ a. a ∷ c.is.result ∷ []) first ∙ ap (λ a. is_not x v ∷ a ∷ []) second)
    (λ values. implied_says values x v y w))
    c.add_guarded.ensures
