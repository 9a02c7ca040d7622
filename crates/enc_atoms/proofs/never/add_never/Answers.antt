use Rattle.std.proofs.Common.{false, refl}
use Rattle.std.proofs.lemmas.Result.{on_ok_weaker}
use Rattle.enc_atoms.proofs.Naming.{adds_some, never_none}
use Rattle.enc_atoms.proofs.never.add_never.Goals as goal

pub returns-in-None : goal.returns-in-None
returns-in-None c =
    on_ok_weaker c.add_clause.result
    (never_none c.args.layout.now c.args.f.now c.add_clause.new.f c.args.truth _ c.requires.ready.is_layout c.in-None.is refl)
    c.add_clause.ensures

pub returns-in-Some : goal.returns-in-Some
returns-in-Some c =
    on_ok_weaker c.add_off.result
    (adds_some c.args.layout.now c.args.f.now c.args.layout.now c.add_off.new.f c.args.truth c.in-Some.truth (λ values. false) c.in-Some.is)
    c.add_off.ensures
