use Rattle.ep_unroll.proofs.Words.{◌≡◌, ◌∷◌, ◌+◌, ◌∙◌, ap, arith, sym, subst, IsWalkBehind, before_rest, numbers_left, cell_count, cells_value, each_from, worth}
use Rattle.ep_unroll.proofs.FormValues.{if_both}
use Rattle.ep_unroll.proofs.wholes.cells_behind.Goals as goal

pub cells_from-requires : goal.cells_from-requires
unfolding IsWalkBehind
cells_from-requires c = subst IsWalkBehind c.in-Some.is c.next_number.ensures.walk

pub returns : goal.returns
unfolding before_rest
returns c =
    let next : c.in-Some-checked_add.second ≡ c.args.start + cell_count c.args.inner.now = omega (arith, c.in-Some-checked_add.ensures) ∙ ap (λ k. c.args.start + k) c.in_ok-each.ensures in
    if_both c.cells_from.result _ _ _
    (λ parts worths terms. record {
      index = c.in-Some._index;
      later = numbers_left c.in-Some.later;
      cut = sym c.runs.ensures.numbers ∙ sym c.walk_of.ensures.numbers ∙ c.next_number.ensures.numbers ∙ ap before_rest c.in-Some.is;
      worths = λ nodes numbers.
          worths nodes numbers
          ∙ ap (λ k. worth nodes numbers c.args.first ∷ each_from (cells_value numbers c.args.inner.now) (cell_count c.args.inner.now) k (numbers_left c.in-Some.later)) next;
      terms = terms;
    }) c.cells_from.ensures.worths c.cells_from.ensures.terms
