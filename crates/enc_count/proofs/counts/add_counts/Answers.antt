use Rattle.std.proofs.Common.{◌≡◌, ℕ, IsTrue, Option, length, get_or, option_to_list, subst, sym, arith}
use Rattle.ep_flat.specs.Cons.{is_as_said}
use Rattle.enc_atoms.specs.Atoms.{Adds}
use Rattle.enc_count.proofs.Counting.{counts_end, counts_more, counts_none, fit_later, of_later, place_fit}
use Rattle.enc_count.specs.Counts.{AreFit, no_wanted, wanted_holds}
use Rattle.enc_count.proofs.counts.add_counts.Goals as goal

pub loop-k-init : goal.loop-k-init
loop-k-init c = counts_none c.args.layout.now c.args.f.now c.args.truths.now c.args.op c.args.vars.now c.args.wanted.now c.requires.ready.is_layout c.requires.ready.from_new

pub loop-k-preserved : goal.loop-k-preserved
unfolding no_wanted
loop-k-preserved c =
    counts_more c.args.layout.now c.args.f.now c.loop-k.layout c.loop-k.f c.add_count.new.layout c.add_count.new.f c.args.truths.now c.args.op c.args.vars.now c.args.wanted.now c.loop-k.k c.requires.ready.is_layout c.requires.truths c.requires.vars c.requires.wanted c.loop-k-test.true c.loop-k.invariant
    (subst (λ (o : Option ℕ). Adds c.loop-k.layout c.loop-k.f c.add_count.new.layout c.add_count.new.f (λ values. IsTrue (is_as_said values o (wanted_holds values c.args.op c.args.vars.now (get_or c.args.wanted.now c.loop-k.k no_wanted))))) c.at_place-truth.ensures c.in_ok-add_count.ensures)

pub add_count-requires-clause-truth : goal.add_count-requires-clause-truth
add_count-requires-clause-truth c =
    fit_later c.args.layout.now c.args.f.now c.loop-k.layout c.loop-k.f (option_to_list c.at_place-truth.result) c.loop-k.invariant.goes_on
    (subst (λ (o : Option ℕ). AreFit c.args.layout.now (option_to_list o)) (sym c.at_place-truth.ensures) (place_fit c.args.layout.now c.args.truths.now c.loop-k.k c.requires.truths))

pub add_count-requires-clause-vars : goal.add_count-requires-clause-vars
add_count-requires-clause-vars c = of_later c.args.layout.now c.args.f.now c.loop-k.layout c.loop-k.f c.args.vars.now c.loop-k.invariant.goes_on c.requires.vars

pub add_count-requires-clause-wanted : goal.add_count-requires-clause-wanted
unfolding no_wanted
add_count-requires-clause-wanted c = fit_later c.args.layout.now c.args.f.now c.loop-k.layout c.loop-k.f (option_to_list (get_or c.args.wanted.now c.loop-k.k no_wanted).var) c.loop-k.invariant.goes_on (c.requires.wanted c.loop-k.k no_wanted c.loop-k-test.true)

pub returns : goal.returns
returns c =
    let all : c.loop-k.k ≡ length c.args.wanted.now = omega arith in
    counts_end c.args.layout.now c.args.f.now c.loop-k.layout c.loop-k.f c.args.truths.now c.args.op c.args.vars.now c.args.wanted.now c.loop-k.k all c.loop-k.invariant
