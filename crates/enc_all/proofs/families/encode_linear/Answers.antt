use Rattle.std.proofs.Common.{ap, length}
use Rattle.ep_flat.specs.Cons.{family_of, is_linear}
use Rattle.ep_flat.specs.FlatViews.{plain_kind}
use Rattle.enc_all.proofs.LinearParts.{linear_named}
use Rattle.enc_all.proofs.families.encode_linear.Goals as goal

pub is_wide-requires : goal.is_wide-requires
is_wide-requires c = linear_named (length c.args.layout.now) c.args.con.now.truth (plain_kind c.args.con.now.kind) c.args.parts.now c.args.op _ c.requires.linear c.requires.can_take.names

pub encode_con-requires-clause-family : goal.encode_con-requires-clause-family
unfolding is_linear
encode_con-requires-clause-family c = ap is_linear c.requires.linear

pub encode_con-requires-2-clause-family : goal.encode_con-requires-2-clause-family
unfolding family_of
encode_con-requires-2-clause-family c = ap family_of c.requires.linear
