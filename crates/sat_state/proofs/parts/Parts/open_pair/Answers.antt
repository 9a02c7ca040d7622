use Rattle.std.proofs.Common.{◌≡◌, ◌≢◌, ℕ, List, [], All, is_some, ap, sym, subst, true}
use Rattle.cnf_core.specs.Literal.{Literal, IsVariable, code_of}
use Rattle.sat_state.specs.Trail.{literals}
use Rattle.sat_state.specs.Stored.{clause_at}
use Rattle.sat_state.specs.Guards.{is_false}
use Rattle.sat_state.specs.View.{AreTwoOf}
use Rattle.sat_state.proofs.Retired.{first_two, none_two, one_two}
use Rattle.sat_state.proofs.parts.Parts.open_pair.Goals as goal
use Rattle.sat_state.proofs.parts.Parts.open_pair.Goals.{in-Some+in_default-first_open, in_default}

pub returns-clause-open : goal.returns-clause-open
returns-clause-open c = λ two.
    let p = c.args.self.now in
    let trues = literals p.assigned.trail in
    let clause = clause_at p.clauses.lists c.args.number in
    let lits = c.lits-lits.result.now in
    let same : lits ≡ clause = c.lits-lits.ensures in
    absurd (elim c.match-first_open.branch [
      | in-Some+in_default-first_open w ↦ one_two trues clause lits w.in-Some.one same
          (subst (λ (k : ℕ). All (λ (l : Literal). code_of l ≢ k → is_false trues l ≡ true) lits) w.code.ensures.value (w.first_open-in-Some.ensures.none (ap is_some w.in_default-first_open.is))) two
      | in_default w ↦ none_two trues clause lits same (subst (λ (ls : List Literal). All (λ l. IsVariable l.var) ls) (sym same) (c.requires.joined.clauses c.args.number [] c.requires.there).variables) (c.first_open.ensures.none (ap is_some w.in_default.is)) two
    ])

pub returns-clause-two : goal.returns-clause-two
returns-clause-two c =
    let clause = clause_at c.args.self.now.clauses.lists c.args.number in
    subst (λ (l : Literal). AreTwoOf clause l c.lit-2.result) (sym c.lit.ensures)
    (subst (λ (l : Literal). AreTwoOf clause c.index-lits-0.result l) (sym c.lit-2.ensures)
    (first_two clause c.lits-lits.result.now c.index-lits-0.result c.index-lits-1.result c.lits-lits.ensures (c.requires.joined.clauses c.args.number [] c.requires.there).ordered c.requires.long c.index-lits-0.is c.index-lits-1.is))
