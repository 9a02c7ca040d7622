use Rattle.ep_unroll.proofs.Words.{arith, worth}
use Rattle.ep_unroll.proofs.WholeSteps.{term_whole}
use Rattle.ep_unroll.proofs.wholes.term_guarded.Goals as goal

pub whole_term-requires : goal.whole_term-requires
whole_term-requires c = record {
  term = omega (arith, c.if-node-count.false, c.from-node.ensures, c.number.ensures, c.len-count.ensures.value);
  others = c.requires;
}

pub returns : goal.returns
unfolding worth
returns c = term_whole c.args.arena.now c.whole_term.new.arena c.args.others.items c.args.term c.in_ok-whole.whole c.in_ok-whole.ensures
