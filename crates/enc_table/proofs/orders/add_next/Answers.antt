use Rattle.std.proofs.Common.{◌≡◌, ◌∙◌, ℤ, pos, [], ◌∷◌, ap, w64, arith}
use Rattle.std.proofs.lemmas.Int.{ints, to_z-of_z}
use Rattle.std.proofs.lemmas.Result.{on_ok_weaker}
use Rattle.enc_atoms.proofs.Guards.{unless_says}
use Rattle.enc_atoms.specs.Steps.{above, is, is_not}
use Rattle.enc_table.proofs.Links.{next_says}
use Rattle.enc_table.specs.Orders.{IsNext}
use Rattle.enc_table.proofs.orders.add_next.Goals as goal

pub returns : goal.returns
returns c =
    let x = c.args.x in
    let y = c.args.y in
    let next = c.args.next in
    let v : ℤ = c.args.number in
    let first : c.is_not.result ≡ is_not x v = c.is_not.ensures ∙ ap (λ u. is_not x u) (to_z-of_z w64 v (omega (arith, ints))) in
    let second : c.above.result ≡ above y v = c.above.ensures ∙ ap (λ u. above y u) (to_z-of_z w64 v (omega (arith, ints))) in
    on_ok_weaker c.add_guarded.result
    (unless_says c.args.layout.now c.args.f.now c.add_guarded.new.f c.args.guard.now (c.is_not.result ∷ c.above.result ∷ c.is.result ∷ []) (is_not x v ∷ above y v ∷ is next (pos 1) ∷ []) (IsNext x y next v) c.requires.ready.is_layout
    (ap (λ a. a ∷ c.above.result ∷ c.is.result ∷ []) first ∙ ap (λ a. is_not x v ∷ a ∷ c.is.result ∷ []) second ∙ ap (λ a. is_not x v ∷ above y v ∷ a ∷ []) c.is.ensures)
    (λ values. next_says values x y next v))
    c.add_guarded.ensures
