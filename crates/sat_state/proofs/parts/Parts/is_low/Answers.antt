use Rattle.std.proofs.Common.{◌≡◌, ◌≤◌, ◌<◌, true, false, sym, ap, ◌∙◌, arith}
use Rattle.std.proofs.lemmas.Bool.Decides.{nat_tests}
use Rattle.cnf_core.specs.Literal.{is_among}
use Rattle.sat_state.specs.Trail.{literals, level_of}
use Rattle.sat_state.specs.Guards.{is_false}
use Rattle.sat_state.proofs.Entries.{not_low_free, not_low_level, low_level}
use Rattle.sat_state.proofs.parts.Parts.is_low.Goals as goal

pub returns-then-not-is_true-clause-high : goal.returns-then-not-is_true-clause-high
returns-then-not-is_true-clause-high c = λ e.
    let trail = c.args.self.now.assigned.trail in
    let free : is_false (literals trail) c.args.lit ≡ false = ap (is_among (literals trail)) (sym c.negated.ensures) ∙ sym c.is_true.ensures ∙ c.if-not-is_true.true in
    not_low_free trail c.args.lit free

pub returns-clause-high : goal.returns-clause-high
returns-clause-high c = λ e.
    let trail = c.args.self.now.assigned.trail in
    let reached : level_of trail ≤ c.level_of.result = let l = c.level.ensures in grind (arith, nat_tests) in
    not_low_level c.args.self.now.clauses.lists trail c.args.lit c.var.result c.level_of.result c.requires.grounded c.var.ensures.value c.level_of.ensures reached

pub returns-clause-low : goal.returns-clause-low
returns-clause-low c = λ e.
    let trail = c.args.self.now.assigned.trail in
    let lower : c.level_of.result < level_of trail = let l = c.level.ensures in grind (arith, nat_tests) in
    let falsified : is_false (literals trail) c.args.lit ≡ true = ap (is_among (literals trail)) (sym c.negated.ensures) ∙ sym c.is_true.ensures ∙ c.if-not-is_true.false in
    low_level c.args.self.now.clauses.lists trail c.args.lit c.var.result c.level_of.result c.requires.grounded c.var.ensures.value c.level_of.ensures lower falsified
