use Rattle.std.proofs.Common.{sym, ◌∙◌, arith}
use Rattle.sat_text.proofs.LineSteps.{blank_passed}
use Rattle.sat_text.proofs.words.behind_blanks.Goals as goal

pub returns-then-not-blank-clause-words : goal.returns-then-not-blank-clause-words
returns-then-not-blank-clause-words c = c.loop-rest.invariant.0

pub returns-then-not-blank-clause-line : goal.returns-then-not-blank-clause-line
returns-then-not-blank-clause-line c = c.loop-rest.invariant.1

pub returns-then-not-blank-clause-no_longer : goal.returns-then-not-blank-clause-no_longer
returns-then-not-blank-clause-no_longer c = c.loop-rest.invariant.2

pub loop-rest-preserved : goal.loop-rest-preserved
loop-rest-preserved c =
    let passed = blank_passed c.loop-rest.rest.now (omega (arith, c.in-len1-up.len_at_least)) (sym c.blank.ensures ∙ c.if-not-blank.false) in
    (passed.0 ∙ c.loop-rest.invariant.0, passed.1 ∙ c.loop-rest.invariant.1, omega (arith, c.loop-rest.invariant.2, passed.2))

pub returns-clause-words : goal.returns-clause-words
returns-clause-words c = c.loop-rest.invariant.0

pub returns-clause-line : goal.returns-clause-line
returns-clause-line c = c.loop-rest.invariant.1
