use Rattle.ep_unroll.proofs.Words.{[], length, refl, cell, node_value, cells_value}
use Rattle.ep_ground.specs.Nodes.{parts_of}
use Rattle.ep_unroll.proofs.FormSteps.{none_known}
use Rattle.ep_unroll.proofs.WholeSteps.{known_kept, put_whole}
use Rattle.ep_unroll.proofs.wholes.cell_guarded.Goals as goal

pub put-requires : goal.put-requires
unfolding parts_of
put-requires c = none_known (length c.args.arena.now)

pub whole_term-requires : goal.whole_term-requires
whole_term-requires c = record {
  term = c.in_ok-term.ensures.known;
  others = known_kept c.args.arena.now c.put.new.arena c.args.others.items c.in_ok-term.ensures.grows c.requires;
}

pub returns : goal.returns
unfolding node_value cells_value
returns c =
    put_whole c.args.arena.now c.put.new.arena c.whole_term.new.arena c.args.others.items (cell c.args.cell) (λ numbers. cells_value numbers [] c.args.cell) c.in_ok-term.term c.in_ok-whole.whole
    c.requires c.in_ok-term.ensures c.in_ok-whole.ensures (λ numbers. refl)
