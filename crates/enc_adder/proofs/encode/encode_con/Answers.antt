use Rattle.std.proofs.Common.{ap, arith}
use Rattle.std.proofs.lemmas.Int.{ints}
use Rattle.std.proofs.lemmas.Result.{on_ok_weaker}
use Rattle.ep_base.specs.Numbers.{compare_holds}
use Rattle.ep_flat.specs.FlatViews.{plain_con, plain_kind}
use Rattle.enc_atoms.proofs.Naming.{keeps_con, kind_named, truth_named}
use Rattle.enc_adder.proofs.LinearKinds.{linear_named, linear_says}
use Rattle.enc_adder.specs.Parts.{sum_of_parts}
use Rattle.enc_adder.proofs.OtherKinds.{other_kind}
use Rattle.enc_adder.proofs.encode.encode_con.Goals as goal

pub add_linear-requires-clause-truth : goal.add_linear-requires-clause-truth
add_linear-requires-clause-truth c = truth_named c.args.layout.now c.args.con.now.truth (plain_kind c.args.con.now.kind) c.requires.can_take.names

pub add_linear-requires-clause-parts : goal.add_linear-requires-clause-parts
add_linear-requires-clause-parts c =
    linear_named c.args.layout.now (plain_kind c.args.con.now.kind) c.in-Linear.parts.items c.deref.result.now c.in-Linear.op c.in-Linear.number (ap plain_kind c.in-Linear.is) c.deref.ensures.value
    (kind_named c.args.layout.now c.args.con.now.truth (plain_kind c.args.con.now.kind) c.requires.can_take.names)

pub returns-clause-goes_on : goal.returns-clause-goes_on
returns-clause-goes_on c = on_ok_weaker c.add_linear.result (λ adds. adds.goes_on) c.add_linear.ensures

pub returns-clause-keeps : goal.returns-clause-keeps
returns-clause-keeps c =
    on_ok_weaker c.add_linear.result
    (keeps_con c.args.layout.now c.args.f.now c.add_linear.new.layout c.add_linear.new.f (plain_con c.args.con.now) (λ values. compare_holds c.in-Linear.op (sum_of_parts values c.deref.result.now) _)
    (λ values. linear_says values (plain_kind c.args.con.now.kind) c.in-Linear.parts.items c.deref.result.now c.in-Linear.op c.in-Linear.number _ (ap plain_kind c.in-Linear.is) c.deref.ensures.value (omega (arith, ints))))
    c.add_linear.ensures

pub unreachable-requires : goal.unreachable-requires
unreachable-requires c = other_kind c.args.con.now.kind c.requires.family c.in_default.not-Linear
