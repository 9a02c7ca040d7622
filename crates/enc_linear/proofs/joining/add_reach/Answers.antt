use Rattle.std.proofs.Common.{◌+ℤ◌, ◌≤ℤ◌, pos, arith}
use Rattle.std.proofs.lemmas.Int.{ints}
use Rattle.enc_linear.specs.Bounds.{Reaches}
use Rattle.enc_linear.specs.Terms.{worth_of}
use Rattle.enc_linear.proofs.Multiples.{mirror_of, raised_of}
use Rattle.enc_linear.proofs.Summing.{reaches_so}
use Rattle.enc_linear.proofs.Turns.{relabelled}
use Rattle.enc_linear.proofs.joining.add_reach.Goals as goal

pub add_at_most_none-requires-clause-third : goal.add_at_most_none-requires-clause-third
add_at_most_none-requires-clause-third c =
    mirror_of c.args.layout.now c.args.f.now c.in_ok-high.high c.in_ok-opposite.opposite
    (raised_of c.args.layout.now c.args.f.now c.in_ok-raise.raise.from c.in_ok-raise.raise.by c.args.sum.now c.in_ok-high.high c.in_ok-raise.ensures.natural c.requires.sum c.in_ok-high.ensures) c.in_ok-opposite.ensures

pub returns : goal.returns
returns c =
    let L = c.args.layout.now in
    let one = c.args.first.now in
    let two = c.args.second.now in
    let raise = c.in_ok-raise.raise in
    let far = c.in_ok-raise.ensures.far in
    let from = c.in_ok-raise.ensures.from in
    relabelled c.add_at_most_none.result L c.args.f.now L c.add_at_most_none.new.f (λ vs. (worth_of vs one +ℤ (worth_of vs two +ℤ worth_of vs c.in_ok-opposite.opposite)) ≤ℤ pos 0) (Reaches c.args.clip.high one two c.args.sum.now)
    c.requires.is_layout
    (λ values among. reaches_so L c.args.f.now values one two c.args.sum.now c.in_ok-high.high c.in_ok-opposite.opposite raise.from raise.by c.args.clip.high c.requires.first c.requires.second c.requires.sum among
    c.in_ok-high.ensures c.in_ok-opposite.ensures c.in_ok-raise.ensures.natural (omega (arith, ints, far, from)) (omega (arith, ints, from)))
    c.add_at_most_none.ensures
