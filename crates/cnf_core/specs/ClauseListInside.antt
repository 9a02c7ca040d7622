-- What contracts see of clauses that lie in one list, and what is true of each such list.
use Rattle.std.specs.Prelude.{◌≡◌, ◌≤◌, List, All, length}
use Rattle.cnf_core.specs.declared.lists.ClauseList.TheInside.{Inside}
use Rattle.cnf_core.specs.Literal.{Literal, IsClause}
use Rattle.cnf_core.specs.Pieces.{last_end, lists_from}

abbrev pub clauses_in : Inside → List (List Literal)
clauses_in c = lists_from c.literals.items 0 c.ends.items

-- each clause lies in the list, the last one ends where the list does, and each is one
pub record AreClauses (c : Inside) : Type 0 where
  pub within : All (λ end. end ≤ length c.literals.items) c.ends.items
  pub whole : last_end 0 c.ends.items ≡ length c.literals.items
  pub clauses : All IsClause (clauses_in c)
