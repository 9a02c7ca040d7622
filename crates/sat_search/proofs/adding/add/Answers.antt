use Rattle.std.proofs.Common.{◌≤◌, subst, sym, arith, All}
use Rattle.std.proofs.lemmas.List.Elements.{All-push, All-weaker}
use Rattle.cnf_core.specs.Literal.{Literal, VariablesUpTo}
use Rattle.sat_search.specs.Analysis.{AreInRange}
use Rattle.sat_search.proofs.adding.add.Goals as goal

pub returns-clause-known : goal.returns-clause-known
returns-clause-known c =
    let most = c.most_variable-most.result in
    let e = c.most_variable-most.ensures in
    let brings = c.in_ok-add.ensures.vars in
    let up_to : VariablesUpTo most c.args.clause = All-weaker (λ (x : Literal). (1 ≤ x.var) × (x.var ≤ most)) (λ (x : Literal). x.var ≤ most) (λ x both. both.1) c.args.clause e.range in
    let low : c.args.state.now.vars ≤ most = omega (arith, c.requires.known.vars_are, e.keeps) in
    let high : c.args.vars ≤ c.add.new.self.vars = omega (arith, c.requires.known.vars_are, brings.keeps) in
    record {
      vars_are = omega (arith, brings.least most low up_to, e.least c.add.new.self.vars high brings.knows);
      most = e.most;
      names = subst (All (AreInRange most)) (sym c.in_ok-add.ensures.clauses)
          (All-push (AreInRange most) c.args.state.now.clauses c.args.clause
          (All-weaker (AreInRange c.args.vars) (AreInRange most)
          (λ clause range. All-weaker (λ (x : Literal). (1 ≤ x.var) × (x.var ≤ c.args.vars)) (λ (x : Literal). (1 ≤ x.var) × (x.var ≤ most)) (λ x both. (both.0, omega (arith, both.1, e.keeps))) clause range)
          c.args.state.now.clauses c.requires.known.names)
          e.range);
    }
