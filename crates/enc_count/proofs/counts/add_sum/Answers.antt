use Rattle.std.proofs.Common.{◌≡◌, ℤ, refl, w64, to_z, of_z, rules}
use Rattle.std.proofs.lemmas.Int.{to_z-of_z}
use Rattle.ep_flat.specs.Cons.{family_of}
use Rattle.enc_count.proofs.Counting.{on_ok_both, sum_kept, sum_taken}
use Rattle.enc_count.proofs.counts.add_sum.Goals as goal

pub encode_con-requires-clause-family : goal.encode_con-requires-clause-family
unfolding family_of
encode_con-requires-clause-family c = refl

pub encode_con-requires-clause-can_take : goal.encode_con-requires-clause-can_take
encode_con-requires-clause-can_take c =
    sum_taken c.args.layout.now c.args.f.now c.args.truth c.args.op c.args.marks.now c.args.wanted c.in_ok-parts.parts.items _ c.requires.ready c.requires.truth c.requires.marks c.requires.wanted c.in_ok-parts.ensures

pub returns : goal.returns
returns c =
    let m : ℤ = c.args.wanted.count in
    let whole : to_z w64 (of_z w64 m) ≡ m = to_z-of_z w64 m (search rules) in
    on_ok_both c.encode_con.result
    (sum_kept c.args.layout.now c.args.f.now c.encode_con.new.layout c.encode_con.new.f c.args.truth c.args.op c.args.marks.now c.args.wanted c.in_ok-parts.parts.items (to_z w64 (of_z w64 m)) c.requires.ready.is_layout c.in_ok-parts.ensures whole)
    c.encode_con.ensures.goes_on c.encode_con.ensures.keeps
