use Rattle.std.proofs.Common.{length, subst, sym}
use Rattle.ep_flat.specs.Cons.{is_value, number_at}
use Rattle.enc_arith.specs.Running.{AreOutside}
use Rattle.enc_arith.proofs.Running.{adds_run_of, outside_named}
use Rattle.enc_arith.proofs.runs.add_run.Goals as goal

pub add_found-requires-clause-names : goal.add_found-requires-clause-names
add_found-requires-clause-names c =
    outside_named (length c.args.layout.now) c.args.when.now c.as_slice.result.now c.args.y c.args.numbers.now c.args.start c.args.end
    (subst (AreOutside c.args.when.now c.args.y c.args.numbers.now c.args.start c.args.end) (sym c.as_slice.ensures.value) c.in_ok-atoms.ensures) c.requires.names c.requires.argument

pub returns : goal.returns
returns c =
    adds_run_of c.args.layout.now c.args.f.now c.add_found.new.f c.args.when.now c.as_slice.result.now c.args.y c.args.numbers.now c.args.start c.args.end c.args.target.truth (λ values. is_value c.args.found (number_at values c.args.target.result))
    c.requires.ready c.requires.argument c.requires.numbers c.requires.ascending c.requires.run c.requires.within
    (subst (AreOutside c.args.when.now c.args.y c.args.numbers.now c.args.start c.args.end) (sym c.as_slice.ensures.value) c.in_ok-atoms.ensures) c.in_ok-add_found.ensures
