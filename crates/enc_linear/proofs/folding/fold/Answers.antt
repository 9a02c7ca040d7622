use Rattle.enc_linear.proofs.Folds.{gives_then}
use Rattle.enc_linear.proofs.folding.fold.Goals as goal

pub ends-preserved : goal.ends-preserved
ends-preserved c = record {
  bounds = c.in_ok-join_end.ensures.bounds;
  gives_way = gives_then c.args.c c.args.layout.now c.args.f.now c.args.sum.now.terms.items c.ends.layout c.ends.f c.ends.sum.terms.items c.join_end.new.layout c.join_end.new.f c.join_end.new.sum.terms.items
      c.ends.invariant.gives_way c.in_ok-join_end.ensures.gives_way;
}
