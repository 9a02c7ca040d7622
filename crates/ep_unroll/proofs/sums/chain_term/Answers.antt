use Rattle.ep_unroll.proofs.Words.{length, ◌<◌, All-map}
use Rattle.ep_ground.specs.Nodes.{parts_of}
use Rattle.ep_unroll.proofs.FormValues.{if_ok}
use Rattle.ep_unroll.proofs.SumValues.{chain_is}
use Rattle.ep_unroll.proofs.sums.chain_term.Goals as goal

pub put-requires : goal.put-requires
unfolding parts_of
put-requires c = All-map (λ part. part < length c.args.arena.now) (λ p. p.1) c.args.parts.items c.requires

pub returns : goal.returns
returns c n cells nodes p terms h =
    if_ok c.put.result _ _ (λ t put. chain_is n cells nodes c.args.arena.now c.put.new.arena p terms c.args.parts.items t h put) c.put.ensures
