use Rattle.std.proofs.Common.{refl}
use Rattle.std.proofs.lemmas.Result.{on_ok_weaker}
use Rattle.ep_base.specs.Numbers.{are_different}
use Rattle.ep_flat.specs.Cons.{numbers_of_vars}
use Rattle.enc_atoms.proofs.Naming.{adds_plain, adds_some}
use Rattle.enc_count.proofs.different.encode_different.Goals as goal

pub returns-in-None : goal.returns-in-None
returns-in-None c =
    on_ok_weaker c.add_different.result
    (adds_plain c.args.layout.now c.args.f.now c.args.layout.now c.add_different.new.f c.args.truth _ (λ values. are_different (numbers_of_vars values c.args.vars.now)) c.requires.ready.is_layout c.in-None.is refl)
    c.add_different.ensures

pub returns-in-Some : goal.returns-in-Some
returns-in-Some c =
    on_ok_weaker c.encode_truth.result
    (adds_some c.args.layout.now c.args.f.now c.encode_truth.new.layout c.encode_truth.new.f c.args.truth c.in-Some.truth (λ values. are_different (numbers_of_vars values c.args.vars.now)) c.in-Some.is)
    c.encode_truth.ensures
