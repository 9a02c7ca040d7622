use Rattle.std.proofs.Common.{IsTrue, ap, length, subst, sym, ◌<◌, arith}
use Rattle.std.proofs.lemmas.Int.{ints}
use Rattle.std.specs.List.{All}
use Rattle.ep_base.specs.Numbers.{has_number}
use Rattle.ep_flat.specs.Cons.{is_as_said, number_at}
use Rattle.ep_flat.specs.FlatViews.{plain_con, plain_kind}
use Rattle.enc_linear.proofs.Families.{goes_on, keeps, linear_keeps, linear_named, member_named, member_said, truth_named}
use Rattle.enc_linear.proofs.encode.encode_con.Goals as goal

pub add_member-requires-clause-truth : goal.add_member-requires-clause-truth
add_member-requires-clause-truth c = truth_named (length c.args.layout.now) c.args.con.now.truth (plain_kind c.args.con.now.kind) c.requires.can_take.names

pub add_member-requires-clause-var : goal.add_member-requires-clause-var
add_member-requires-clause-var c =
    member_named (length c.args.layout.now) c.args.con.now.truth (plain_kind c.args.con.now.kind) c.in-Member.var c.in-Member.numbers (ap plain_kind c.in-Member.is) c.requires.can_take.names

pub returns-in-Member-clause-keeps : goal.returns-in-Member-clause-keeps
returns-in-Member-clause-keeps c =
    keeps c.add_member.result c.args.layout.now c.args.f.now c.args.layout.now c.add_member.new.f
    (λ values. IsTrue (is_as_said values c.args.con.now.truth (has_number c.in-Member.numbers (number_at values c.in-Member.var)))) (plain_con c.args.con.now) c.requires.can_take.is_layout
    (λ values. member_said c.args.con.now.truth (plain_kind c.args.con.now.kind) c.in-Member.var c.in-Member.numbers values (ap plain_kind c.in-Member.is)) c.add_member.ensures

pub add_linear-requires-clause-truth : goal.add_linear-requires-clause-truth
add_linear-requires-clause-truth c = truth_named (length c.args.layout.now) c.args.con.now.truth (plain_kind c.args.con.now.kind) c.requires.can_take.names

pub add_linear-requires-clause-parts : goal.add_linear-requires-clause-parts
add_linear-requires-clause-parts c =
    subst (All (λ part. part.1 < length c.args.layout.now)) (sym c.deref.ensures.value)
    (linear_named (length c.args.layout.now) c.args.con.now.truth (plain_kind c.args.con.now.kind) c.in-Linear.parts.items c.in-Linear.op c.in-Linear.number (ap plain_kind c.in-Linear.is) c.requires.can_take.names)

pub returns-in-Linear-clause-goes_on : goal.returns-in-Linear-clause-goes_on
returns-in-Linear-clause-goes_on c = goes_on _ _ _ _ _ _ c.add_linear.ensures

pub returns-in-Linear-clause-keeps : goal.returns-in-Linear-clause-keeps
returns-in-Linear-clause-keeps c =
    linear_keeps c.add_linear.result c.args.layout.now c.args.f.now c.add_linear.new.layout c.add_linear.new.f c.args.con.now.truth (plain_kind c.args.con.now.kind) c.deref.result.now c.in-Linear.parts.items c.in-Linear.op _ c.in-Linear.number
    c.requires.can_take.is_layout c.add_linear.ensures c.deref.ensures.value (omega (arith, ints)) (ap plain_kind c.in-Linear.is)
