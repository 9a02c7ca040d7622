use Rattle.std.proofs.Common.{[], ◌∷◌, Some, refl, ap}
use Rattle.std.proofs.lemmas.Result.{on_ok_weaker}
use Rattle.enc_atoms.proofs.Naming.{never_some}
use Rattle.enc_atoms.proofs.never.add_off.Goals as goal

pub returns : goal.returns
returns c =
    on_ok_weaker c.add_clause.result
    (never_some c.args.layout.now c.args.f.now c.add_clause.new.f (Some c.args.truth) c.args.truth (c.is.result ∷ []) c.requires.ready.is_layout refl (ap (λ a. a ∷ []) c.is.ensures))
    c.add_clause.ensures
