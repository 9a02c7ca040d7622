use Rattle.std.proofs.Common.{◌≡◌, ◌∙◌, ℤ, ◌≤ℤ◌, [], ◌∷◌, ap, w64, arith}
use Rattle.std.proofs.lemmas.Int.{ints, to_z-of_z}
use Rattle.std.proofs.lemmas.Result.{on_ok_weaker}
use Rattle.ep_flat.specs.Cons.{number_at}
use Rattle.enc_atoms.proofs.Guards.{unless_says}
use Rattle.enc_atoms.specs.Steps.{above, at_most}
use Rattle.enc_table.proofs.Links.{bound_says}
use Rattle.enc_table.proofs.orders.add_bound.Goals as goal

pub returns : goal.returns
returns c =
    let x = c.args.x in
    let y = c.args.y in
    let v : ℤ = c.args.number in
    let first : c.above.result ≡ above y v = c.above.ensures ∙ ap (λ u. above y u) (to_z-of_z w64 v (omega (arith, ints))) in
    let second : c.at_most.result ≡ at_most x v = c.at_most.ensures ∙ ap (λ u. at_most x u) (to_z-of_z w64 v (omega (arith, ints))) in
    on_ok_weaker c.add_guarded.result
    (unless_says c.args.layout.now c.args.f.now c.add_guarded.new.f c.args.guard.now (c.above.result ∷ c.at_most.result ∷ []) (above y v ∷ at_most x v ∷ []) (λ values. number_at values y ≤ℤ v → number_at values x ≤ℤ v) c.requires.ready.is_layout
    (ap (λ a. a ∷ c.at_most.result ∷ []) first ∙ ap (λ a. above y v ∷ a ∷ []) second)
    (λ values. bound_says values x y v))
    c.add_guarded.ensures
