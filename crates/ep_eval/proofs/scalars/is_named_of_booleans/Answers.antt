use Rattle.ep_eval.proofs.Words.{arith}
use Rattle.ep_eval.proofs.ScalarSteps.{bool_named, int_named, matrix_named}
use Rattle.ep_eval.proofs.scalars.is_named_of_booleans.Goals as goal

pub returns-then-len-gt0 : goal.returns-then-len-gt0
returns-then-len-gt0 c = matrix_named c.args.domain.now.of c.args.domain.now.indices.items c.args.domain.now.values (omega (arith, c.if-len-gt0.true, c.len.ensures))

pub returns-in-Bool : goal.returns-in-Bool
returns-in-Bool c = bool_named c.args.domain.now.of c.args.domain.now.indices.items c.args.domain.now.values c.in-Bool.is (omega (arith, c.if-len-gt0.false, c.len.ensures))

pub returns-in-Int : goal.returns-in-Int
returns-in-Int c = int_named c.args.domain.now.of c.args.domain.now.indices.items c.args.domain.now.values c.in-Int.is (omega (arith, c.if-len-gt0.false, c.len.ensures))
