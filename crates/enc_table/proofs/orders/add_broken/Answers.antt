use Rattle.std.proofs.Common.{◌≡◌, pos, [], ◌∷◌, ap}
use Rattle.std.proofs.lemmas.Result.{on_ok_weaker}
use Rattle.ep_flat.specs.Cons.{number_at}
use Rattle.enc_atoms.proofs.Guards.{clause_says}
use Rattle.enc_atoms.specs.Steps.{is_not}
use Rattle.enc_table.proofs.Links.{broken_says}
use Rattle.enc_table.proofs.orders.add_broken.Goals as goal

pub returns : goal.returns
returns c =
    let t = c.args.link in
    on_ok_weaker c.add_clause.result
    (clause_says c.args.layout.now c.args.f.now c.add_clause.new.f (c.is_not.result ∷ []) (is_not t (pos 1) ∷ []) (λ values. number_at values t ≡ pos 1 → ⊥) c.requires.ready.is_layout
    (ap (λ a. a ∷ []) c.is_not.ensures)
    (λ values. broken_says values t))
    c.add_clause.ensures
