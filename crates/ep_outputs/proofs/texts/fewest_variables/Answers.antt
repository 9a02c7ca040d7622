use Rattle.cnf_core.specs.declared.lit.TheConstants.{MOST_VARIABLE}
use Rattle.ep_outputs.proofs.Givens.{noted-greater, up-to-greater}
use Rattle.ep_outputs.proofs.texts.fewest_variables.Goals as goal

pub returns-clause-clauses : goal.returns-clause-clauses
returns-clause-clauses c =
    up-to-greater c.greatest_variable.result c.greater.result c.args.clauses.now c.greater.ensures.first c.greatest_variable.ensures.none_above

pub returns-clause-noted : goal.returns-clause-noted
returns-clause-noted c =
    noted-greater c.greatest_noted.result c.greater.result c.args.notes.now c.greater.ensures.second c.greatest_noted.ensures.none_above

pub returns-clause-least : goal.returns-clause-least
returns-clause-least c = λ most all up.
    c.greater.ensures.least most (c.greatest_variable.ensures.least most all) (c.greatest_noted.ensures.least most up)

pub returns-clause-in_range : goal.returns-clause-in_range
returns-clause-in_range c =
    c.greater.ensures.least MOST_VARIABLE c.greatest_variable.ensures.in_range c.greatest_noted.ensures.in_range
