use Rattle.std.proofs.Common.{map, arith}
use Rattle.std.proofs.lemmas.Int.{ints}
use Rattle.ep_base.specs.Reads.{weighted_sum}
use Rattle.ep_flat.specs.Cons.{number_at}
use Rattle.enc_linear.specs.Terms.{total}
use Rattle.enc_linear.proofs.Folds.{led}
use Rattle.enc_linear.proofs.Totals.{linear_from}
use Rattle.enc_linear.proofs.folding.add_linear.Goals as goal

pub folded-requires-clause-terms : goal.folded-requires-clause-terms
folded-requires-clause-terms c = c.in_ok-terms.ensures.of_layout c.args.f.now

pub returns : goal.returns
returns c =
    linear_from c.add_said.result c.args.layout.now c.args.f.now c.folded.new.layout c.add_said.new.f c.args.truth c.args.op (λ values. total values c.in_ok-terms.terms.items)
    (λ values. weighted_sum (map (λ part. (part.0, number_at values part.1)) c.args.parts.now)) _ c.args.number c.requires.is_layout
    (led c.add_said.result _ c.args.layout.now c.args.f.now c.in_ok-terms.terms.items c.folded.new.layout c.folded.new.f c.in_ok-few.few.items c.deref.result.now c.folded.new.layout c.add_said.new.f _ c.in_ok-few.ensures c.deref.ensures.value (omega (arith, ints)) c.add_said.ensures)
    (omega (arith, ints)) (λ values among. c.in_ok-terms.ensures.sum values among)
