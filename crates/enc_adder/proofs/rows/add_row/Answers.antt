use Rattle.std.proofs.Common.{◌≡◌, ◌∙◌, ℤ, [], ◌∷◌, ap, refl, w64, arith}
use Rattle.std.proofs.lemmas.Int.{ints, to_z-of_z}
use Rattle.std.proofs.lemmas.Result.{on_ok_weaker}
use Rattle.enc_atoms.specs.Steps.{is_not}
use Rattle.enc_adder.proofs.Following.{row_adds}
use Rattle.enc_adder.proofs.rows.add_row.Goals as goal

pub returns : goal.returns
returns c =
    let row = c.args.row in
    let v : ℤ = row.0.1 in
    let w : ℤ = row.1.1 in
    let first : c.is_not.result ≡ is_not row.0.0 v = c.is_not.ensures ∙ ap (λ u. is_not row.0.0 u) (to_z-of_z w64 v (omega (arith, ints))) in
    let second : c.is_not-2.result ≡ is_not row.1.0 w = c.is_not-2.ensures ∙ ap (λ u. is_not row.1.0 u) (to_z-of_z w64 w (omega (arith, ints))) in
    on_ok_weaker c.add_implied.result
    (row_adds c.args.layout.now c.args.f.now c.add_implied.new.f row (c.is_not.result ∷ c.is_not-2.result ∷ []) row.2 row.3 c.requires.ready.is_layout
    (ap (λ a. a ∷ c.is_not-2.result ∷ []) first ∙ ap (λ a. is_not row.0.0 v ∷ a ∷ []) second) refl refl)
    c.add_implied.ensures
