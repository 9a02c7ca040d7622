use Rattle.std.proofs.Common.{refl}
use Rattle.std.proofs.lemmas.Result.{on_ok_weaker}
use Rattle.ep_flat.specs.Cons.{numbers_of_vars}
use Rattle.enc_atoms.proofs.Naming.{adds_plain, adds_some}
use Rattle.enc_table.specs.Orders.{is_before}
use Rattle.enc_table.proofs.orders.encode_before.Goals as goal

pub returns-in-None : goal.returns-in-None
returns-in-None c =
    on_ok_weaker c.add_before.result
    (adds_plain c.args.layout.now c.args.f.now c.add_before.new.layout c.add_before.new.f c.args.truth _ (λ values. is_before c.args.strict (numbers_of_vars values c.args.xs.now) (numbers_of_vars values c.args.ys.now)) c.requires.ready.is_layout c.in-None.is refl)
    c.add_before.ensures

pub returns-in-Some : goal.returns-in-Some
returns-in-Some c =
    on_ok_weaker c.encode_truth.result
    (adds_some c.args.layout.now c.args.f.now c.encode_truth.new.layout c.encode_truth.new.f c.args.truth c.in-Some.truth (λ values. is_before c.args.strict (numbers_of_vars values c.args.xs.now) (numbers_of_vars values c.args.ys.now)) c.in-Some.is)
    c.encode_truth.ensures
