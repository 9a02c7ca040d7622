use Rattle.enc_linear.proofs.Arising.{term_later}
use Rattle.enc_linear.proofs.Summing.{stands_for}
use Rattle.enc_linear.proofs.joining.add_tie.Goals as goal

pub add_no_greater-requires-clause-first : goal.add_no_greater-requires-clause-first
add_no_greater-requires-clause-first c = term_later c.args.layout.now c.args.f.now c.args.layout.now c.add_no_less.new.f c.args.first.now c.in_ok-add_no_less.ensures.goes_on c.requires.first

pub add_no_greater-requires-clause-second : goal.add_no_greater-requires-clause-second
add_no_greater-requires-clause-second c = term_later c.args.layout.now c.args.f.now c.args.layout.now c.add_no_less.new.f c.args.second.now c.in_ok-add_no_less.ensures.goes_on c.requires.second

pub add_no_greater-requires-clause-sum : goal.add_no_greater-requires-clause-sum
add_no_greater-requires-clause-sum c = term_later c.args.layout.now c.args.f.now c.args.layout.now c.add_no_less.new.f c.args.sum.now c.in_ok-add_no_less.ensures.goes_on c.requires.sum

pub returns : goal.returns
returns c =
    stands_for c.add_no_greater.result c.args.layout.now c.args.f.now c.add_no_less.new.f c.add_no_greater.new.f c.args.c c.args.clip.low c.args.clip.high c.args.first.now c.args.second.now c.args.sum.now
    c.requires.is_layout c.in_ok-add_no_less.ensures c.add_no_greater.ensures
