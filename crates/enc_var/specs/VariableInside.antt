-- What contracts see of a variable's literals, and what is true of each.
use Rattle.std.specs.Prelude.{◌≡◌, ◌+◌, ◌*◌, ◌≤◌, length}
use Rattle.ep_base.specs.Runs.{IsAscending}
use Rattle.enc_var.specs.declared.variables.Variable.TheInside.{Inside}
use Rattle.cnf_core.specs.Literal.{IsVariable}
use Rattle.cnf_core.specs.declared.lit.TheConstants.{MOST_VARIABLE}
use Rattle.enc_var.specs.Decoding.{VariableLiterals}

-- the values of a variable and where its literals begin
abbrev pub literals_of : Inside → VariableLiterals
literals_of v = record { domain = v.domain; first = v.first }

-- the values are those of the domain, in ascending order, and there is a variable for each literal
pub record IsVariableInside (v : Inside) : Type 0 where
  pub values : v.values.items ≡ v.domain
  pub ascending : IsAscending v.values.items
  pub first : IsVariable v.first
  pub room : v.first + 2 * length v.values.items ≤ MOST_VARIABLE + 4
