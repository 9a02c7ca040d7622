use Rattle.std.proofs.Common.{◌≡◌, ◌∙◌, ℤ, [], ◌∷◌, ap, w64, arith}
use Rattle.std.proofs.lemmas.Int.{ints, to_z-of_z}
use Rattle.std.proofs.lemmas.Result.{on_ok_weaker}
use Rattle.ep_flat.specs.Cons.{number_at}
use Rattle.enc_atoms.proofs.Guards.{unless_says}
use Rattle.enc_atoms.specs.Steps.{is}
use Rattle.enc_atoms.proofs.Meanings.{is_clause}
use Rattle.enc_table.proofs.tables.add_is.Goals as goal

pub returns : goal.returns
returns c =
    let x = c.args.var in
    let v : ℤ = c.args.number in
    on_ok_weaker c.add_guarded.result
    (unless_says c.args.layout.now c.args.f.now c.add_guarded.new.f c.args.guard.now (c.is.result ∷ []) (is x v ∷ []) (λ values. number_at values x ≡ v) c.requires.ready.is_layout
    (ap (λ a. a ∷ []) (c.is.ensures ∙ ap (λ u. is x u) (to_z-of_z w64 v (omega (arith, ints)))))
    (λ values. is_clause values x v))
    c.add_guarded.ensures
