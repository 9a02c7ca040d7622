use Rattle.ep_unroll.proofs.Words.{◌≡◌, Some, ap, arith, length, of_z, to_z, w64, ints, to_z-of_z, constant, node_value, single}
use Rattle.ep_ground.specs.Nodes.{parts_of}
use Rattle.ep_unroll.proofs.FormSteps.{none_known}
use Rattle.ep_unroll.proofs.WholeSteps.{known_kept, put_whole}
use Rattle.ep_unroll.proofs.wholes.number_guarded.Goals as goal

pub put-requires : goal.put-requires
unfolding parts_of
put-requires c = none_known (length c.args.arena.now)

pub whole_term-requires : goal.whole_term-requires
whole_term-requires c = record {
  term = c.in_ok-term.ensures.known;
  others = known_kept c.args.arena.now c.put.new.arena c.args.others.items c.in_ok-term.ensures.grows c.requires;
}

pub returns : goal.returns
unfolding node_value
returns c =
    let word : to_z w64 (of_z w64 c.args.number) ≡ c.args.number = to_z-of_z w64 c.args.number (omega (arith, ints)) in
    put_whole c.args.arena.now c.put.new.arena c.whole_term.new.arena c.args.others.items (constant (to_z w64 (of_z w64 c.args.number))) (λ numbers. Some (single c.args.number)) c.in_ok-term.term c.in_ok-whole.whole
    c.requires c.in_ok-term.ensures c.in_ok-whole.ensures (λ numbers. ap (λ n. Some (single n)) word)
