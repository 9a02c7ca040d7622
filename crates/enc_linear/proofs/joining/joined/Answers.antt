use Rattle.std.proofs.Common.{arith}
use Rattle.std.proofs.lemmas.Int.{ints}
use Rattle.enc_linear.proofs.Summing.{joined_terms}
use Rattle.enc_linear.proofs.Arising.{term_later}
use Rattle.enc_linear.proofs.joining.joined.Goals as goal

pub any_of-requires : goal.any_of-requires
any_of-requires c = record { ready = record { from_new = c.requires.from_new; is_layout = c.requires.is_layout } }

pub add_tie-requires-clause-from_new : goal.add_tie-requires-clause-from_new
add_tie-requires-clause-from_new c = c.in_ok-sum.ensures.goes_on.from_new

pub add_tie-requires-clause-is_layout : goal.add_tie-requires-clause-is_layout
add_tie-requires-clause-is_layout c = c.in_ok-sum.ensures.goes_on.is_layout

pub add_tie-requires-clause-first : goal.add_tie-requires-clause-first
add_tie-requires-clause-first c = term_later c.args.layout.now c.args.f.now c.any_of.new.layout c.any_of.new.f c.args.first.now c.in_ok-sum.ensures.goes_on c.requires.first

pub add_tie-requires-clause-second : goal.add_tie-requires-clause-second
add_tie-requires-clause-second c = term_later c.args.layout.now c.args.f.now c.any_of.new.layout c.any_of.new.f c.args.second.now c.in_ok-sum.ensures.goes_on c.requires.second

pub add_tie-requires-clause-sum : goal.add_tie-requires-clause-sum
add_tie-requires-clause-sum c = c.in_ok-sum.ensures.of_layout

pub returns : goal.returns
returns c others of_others bounds =
    joined_terms c.args.layout.now c.args.f.now c.any_of.new.layout c.any_of.new.f c.add_tie.new.f _ others c.args.first.now c.args.second.now c.in_ok-sum.sum c.args.c c.args.rest c.in_ok-clip.clip.low c.in_ok-clip.clip.high _
    c.requires.is_layout c.requires.first c.requires.second c.requires.truth c.in_ok-clip.ensures.low c.in_ok-clip.ensures.high (omega (arith, ints))
    c.in_ok-sum.ensures c.in_ok-domain.ensures c.in_ok-add_tie.ensures of_others bounds
