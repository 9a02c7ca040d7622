-- What contracts see of a formula, and what is true of each.
use Rattle.std.specs.Prelude.{◌≡◌, ◌≤◌, All, IsTrue, vec_len}
use Rattle.cnf_core.specs.declared.formula.Formula.TheInside.{Inside}
use Rattle.cnf_core.specs.declared.lit.TheConstants.{MOST_VARIABLE}
use Rattle.cnf_core.specs.Literal.{IsClause, VariablesUpTo}
use Rattle.cnf_core.specs.Formula.{Cnf}

abbrev pub cnf_of : Inside → Cnf
cnf_of f = record { vars = f.vars; clauses = f.clauses; from_new = f.from_new }

-- a formula that can grow has a mark for each variable, and each clause is one and names only variables of the formula
pub record IsFormula (f : Inside) : Type 0 where
  pub marked : IsTrue f.from_new → f.vars ≡ vec_len f.marks
  pub in_range : f.vars ≤ MOST_VARIABLE
  pub clauses : All IsClause f.clauses
  pub names : All (VariablesUpTo f.vars) f.clauses
