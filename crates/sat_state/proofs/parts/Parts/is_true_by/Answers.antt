use Rattle.std.proofs.Common.{◌≡◌, ◌≤◌, ◌<◌, true, false, sym, ◌∙◌, arith}
use Rattle.std.proofs.lemmas.Bool.Decides.{nat_tests}
use Rattle.cnf_core.specs.Literal.{is_among}
use Rattle.sat_state.specs.Trail.{literals}
use Rattle.sat_state.proofs.Entries.{true_by_read, not_by_read, not_by_open}
use Rattle.sat_state.proofs.parts.Parts.is_true_by.Goals as goal

pub returns-then-not-is_short_true-clause-is_not : goal.returns-then-not-is_short_true-clause-is_not
returns-then-not-is_short_true-clause-is_not c = λ e t.
    let trail = c.args.self.now.assigned.trail in
    let none : is_among (literals trail) c.args.lit ≡ false = sym c.is_short_true.ensures ∙ c.if-not-is_short_true.true in
    not_by_open trail c.args.lit c.args.level none t

pub returns-clause-is_true : goal.returns-clause-is_true
returns-clause-is_true c = λ e.
    let trail = c.args.self.now.assigned.trail in
    let low : c.level_of.result ≤ c.args.level = grind (arith, nat_tests) in
    let is : is_among (literals trail) c.args.lit ≡ true = sym c.is_short_true.ensures ∙ c.if-not-is_short_true.false in
    true_by_read c.args.self.now.clauses.lists trail c.args.lit c.var.result c.level_of.result c.args.level c.requires.grounded c.var.ensures.value c.level_of.ensures low is

pub returns-clause-is_not : goal.returns-clause-is_not
returns-clause-is_not c = λ e.
    let trail = c.args.self.now.assigned.trail in
    let high : c.args.level < c.level_of.result = grind (arith, nat_tests) in
    not_by_read c.args.self.now.clauses.lists trail c.args.lit c.var.result c.level_of.result c.args.level c.requires.grounded c.var.ensures.value c.level_of.ensures high
