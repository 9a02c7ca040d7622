use Rattle.std.proofs.Common.{ℤ, get_or, pos, w64, to_z, of_z, rules}
use Rattle.std.proofs.lemmas.Int.{to_z-of_z}
use Rattle.enc_var.specs.Layouts.{literals_at}
use Rattle.enc_arith.specs.Functions.{function_value}
use Rattle.enc_arith.proofs.Running.{run_of_more, run_of_one}
use Rattle.enc_arith.proofs.runs.run_end.Goals as goal

pub more-init : goal.more-init
more-init c = run_of_one (literals_at c.args.layout.now c.args.var).domain c.args.found (function_value c.args.function) c.args.numbers.now c.args.start c.requires.start c.requires.found

pub found_in-other-requires : goal.found_in-other-requires
found_in-other-requires c = record { there = c.requires.there; numbers = c.requires.small }

pub more-preserved : goal.more-preserved
more-preserved c =
    let n : ℤ = get_or c.args.numbers.now c.more.end (pos 0) in
    run_of_more (literals_at c.args.layout.now c.args.var).domain c.args.found c.found_in-other.result (function_value c.args.function) c.args.numbers.now c.args.start c.more.end (to_z w64 (of_z w64 n)) c.more.invariant c.more-test.true
    (to_z-of_z w64 n (search rules)) c.found_in-other.ensures (c.is_same.ensures c.if-not-is_same.false)

pub returns-then-not-is_same-clause-above : goal.returns-then-not-is_same-clause-above
returns-then-not-is_same-clause-above c = c.more.invariant.some

pub returns-then-not-is_same-clause-within : goal.returns-then-not-is_same-clause-within
returns-then-not-is_same-clause-within c = c.more.invariant.within

pub returns-then-not-is_same-clause-same : goal.returns-then-not-is_same-clause-same
returns-then-not-is_same-clause-same c = c.more.invariant.same

pub returns-clause-above : goal.returns-clause-above
returns-clause-above c = c.more.invariant.some

pub returns-clause-within : goal.returns-clause-within
returns-clause-within c = c.more.invariant.within

pub returns-clause-same : goal.returns-clause-same
returns-clause-same c = c.more.invariant.same
