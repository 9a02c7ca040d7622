use Rattle.std.proofs.lemmas.Result.{on_ok_weaker}
use Rattle.cnf_core.proofs.Keeping.{same_variables}
use Rattle.enc_var.proofs.Saying.{says_clause}
use Rattle.enc_var.proofs.clauses.add_clause.Goals as goal

pub add-requires : goal.add-requires
add-requires c = same_variables c.args.f.now.vars c.in_ok-clause.clause c.args.literals.items c.in_ok-clause.ensures.same c.requires.names

pub returns : goal.returns
returns c =
    on_ok_weaker c.add.result
    (λ is. says_clause c.args.f.now c.add.new.self c.in_ok-clause.clause c.args.literals.items c.in_ok-clause.ensures.same c.requires.consistent is) c.add.ensures.ok
