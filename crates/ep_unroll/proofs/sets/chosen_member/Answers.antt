use Rattle.ep_unroll.proofs.Words.{◌∷◌, mode_in}
use Rattle.ep_ground.specs.Nodes.{parts_of}
use Rattle.ep_unroll.proofs.FormValues.{asked, grows_long, grows_on, if_ok}
use Rattle.ep_unroll.proofs.SetSteps.{chosen_is}
use Rattle.ep_unroll.proofs.sets.chosen_member.Goals as goal

pub whole_term-requires : goal.whole_term-requires
whole_term-requires c = record { term = c.requires.part; others = c.in_ok-partial.ensures.known }

pub equalities-requires : goal.equalities-requires
equalities-requires c = record { part = c.in_ok-whole.ensures.known; terms = λ k d less. grows_long c.args.arena.now c.whole_term.new.arena _ c.in_ok-whole.ensures.grows (c.requires.terms k d less) }

pub judged-requires : goal.judged-requires
unfolding parts_of
judged-requires c = record {
  node = c.in_ok-tests.ensures.known;
  others = λ k d less.
      grows_long c.args.arena.now c.equalities.new.arena _ (grows_on c.args.arena.now c.whole_term.new.arena c.equalities.new.arena c.in_ok-whole.ensures.grows c.in_ok-tests.ensures.grows)
      (c.in_ok-needed.ensures.known k d less);
}

pub returns : goal.returns
returns c n cells nodes p e f mode counted h own =
    let old = c.args.arena.now in
    let vs = c.in_ok-needed.needed.items in
    if_ok c.judged.result _ _
    (λ t j. chosen_is n cells nodes old c.whole_term.new.arena c.equalities.new.arena c.judged.new.arena p e f c.args.count c.args.part c.in_ok-whole.whole t c.args.terms.now
    c.in_ok-partial.partial.items c.in_ok-tests.tests.items vs counted h own
    (asked n old c.args.count (mode_in c.args.scope) (c.args.part ∷ c.args.terms.now) vs mode counted c.in_ok-needed.ensures)
    c.in_ok-partial.ensures c.in_ok-whole.ensures c.in_ok-tests.ensures j) c.judged.ensures
