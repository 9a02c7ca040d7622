use Rattle.ep_unroll.proofs.FormValues.{grows_long, if_ok}
use Rattle.ep_unroll.proofs.truths.judged.Goals as goal

pub whole_term-requires : goal.whole_term-requires
whole_term-requires c = record {
  term = c.in_ok-term.ensures.known;
  others = λ k d less. grows_long c.args.arena.now c.put.new.arena _ c.in_ok-term.ensures.grows (c.requires.others k d less);
}

pub returns : goal.returns
returns c = if_ok c.whole_term.result _ _ (λ t h. record { between = c.put.new.arena; own = c.in_ok-term.term; puts = c.in_ok-term.ensures; whole = h }) c.whole_term.ensures
