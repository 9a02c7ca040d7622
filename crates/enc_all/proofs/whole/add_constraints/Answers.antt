use Rattle.std.proofs.Common.{IsTrue, map, length, ◌≤◌, subst, sym}
use Rattle.std.proofs.lemmas.List.{length-map}
use Rattle.enc_all.proofs.Encoding.{below_plain, constraints_more, read_plain, take_later, taken}
use Rattle.enc_all.proofs.whole.add_constraints.Goals as goal
use Rattle.enc_atoms.proofs.Adding.{adds_all, adds_none}
use Rattle.ep_flat.specs.Cons.{con_holds}
use Rattle.ep_flat.specs.FlatViews.{plain_con}

pub loop-con-init : goal.loop-con-init
loop-con-init c = adds_none c.args.layout.now c.args.f.now (λ values con. IsTrue (con_holds values con)) (map plain_con c.args.cons.now) c.requires.is_layout c.requires.from_new

pub loop-con-preserved : goal.loop-con-preserved
loop-con-preserved c =
    constraints_more c.args.layout.now c.args.f.now c.loop-con.layout c.loop-con.f c.encode_con.new.layout c.encode_con.new.f (map plain_con c.args.cons.now) c.loop-con.con-index (plain_con c.con-item.result) c.requires.is_layout
    (below_plain c.args.cons.now c.loop-con.con-index c.loop-con-test.true) (read_plain c.args.cons.now c.loop-con.con-index c.con-item.result c.loop-con-test.true c.con-item.is)
    (taken c.args.layout.now c.args.f.now c.args.cons.now c.loop-con.con-index c.con-item.result c.requires.can_take c.loop-con-test.true c.con-item.is).names c.loop-con.invariant c.in_ok-encode_con.ensures

pub encode_con-requires : goal.encode_con-requires
encode_con-requires c = take_later c.args.layout.now c.args.f.now c.loop-con.layout c.loop-con.f (plain_con c.con-item.result) (taken c.args.layout.now c.args.f.now c.args.cons.now c.loop-con.con-index c.con-item.result c.requires.can_take c.loop-con-test.true c.con-item.is) c.loop-con.invariant.goes_on

pub returns : goal.returns
returns c =
    adds_all c.args.layout.now c.args.f.now c.loop-con.layout c.loop-con.f (λ values con. IsTrue (con_holds values con)) (map plain_con c.args.cons.now) c.loop-con.con-index
    (subst (λ n. n ≤ c.loop-con.con-index) (sym (length-map c.args.cons.now plain_con)) c.loop-con-test.false) c.loop-con.invariant
