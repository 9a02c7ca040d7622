use Rattle.enc_linear.specs.Bounds.{Reaches, StaysWithin}
use Rattle.enc_linear.proofs.Multiples.{mirror_of}
use Rattle.enc_linear.proofs.Summing.{stays_so}
use Rattle.enc_linear.proofs.Turns.{relabelled}
use Rattle.enc_linear.proofs.joining.add_stay.Goals as goal

pub add_reach-requires-clause-first : goal.add_reach-requires-clause-first
add_reach-requires-clause-first c = mirror_of c.args.layout.now c.args.f.now c.args.first.now c.in_ok-one.one c.requires.first c.in_ok-one.ensures

pub add_reach-requires-clause-second : goal.add_reach-requires-clause-second
add_reach-requires-clause-second c = mirror_of c.args.layout.now c.args.f.now c.args.second.now c.in_ok-other.other c.requires.second c.in_ok-other.ensures

pub add_reach-requires-clause-sum : goal.add_reach-requires-clause-sum
add_reach-requires-clause-sum c = mirror_of c.args.layout.now c.args.f.now c.args.sum.now c.in_ok-both.both c.requires.sum c.in_ok-both.ensures

pub returns : goal.returns
returns c =
    relabelled c.add_reach.result c.args.layout.now c.args.f.now c.args.layout.now c.add_reach.new.f (Reaches c.in_ok-opposite.opposite.high c.in_ok-one.one c.in_ok-other.other c.in_ok-both.both)
    (StaysWithin c.args.clip.low c.args.first.now c.args.second.now c.args.sum.now) c.requires.is_layout
    (λ values among. stays_so values c.args.first.now c.args.second.now c.args.sum.now c.in_ok-one.one c.in_ok-other.other c.in_ok-both.both c.args.clip.low c.in_ok-opposite.opposite.high
    c.in_ok-one.ensures c.in_ok-other.ensures c.in_ok-both.ensures c.in_ok-opposite.ensures.high)
    c.add_reach.ensures
