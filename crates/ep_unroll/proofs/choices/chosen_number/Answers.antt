use Rattle.ep_unroll.proofs.FormValues.{grows_long, if_ok}
use Rattle.ep_unroll.proofs.PartReadSteps.{chosen_is}
use Rattle.ep_unroll.proofs.choices.chosen_number.Goals as goal

pub whole_term-requires : goal.whole_term-requires
whole_term-requires c = record {
  term = c.in_ok-term.ensures.known;
  others = λ k d less. grows_long c.args.arena.now c.found_term.new.arena _ c.in_ok-term.ensures.grows (c.requires.others k d less);
}

pub returns : goal.returns
returns c =
    if_ok c.whole_term.result _ _
    (λ t whole. chosen_is c.args.arena.now c.found_term.new.arena c.whole_term.new.arena c.args.entries.keys.items c.args.entries.terms.items c.args.indices.items c.args.others.items c.in_ok-term.term t
    c.requires.others c.in_ok-term.ensures whole) c.whole_term.ensures
