use Rattle.std.proofs.Common.{◌≡◌, ◌≢◌, ◌+◌, ◌<◌, None, List, [], ◌∷◌, ◌++◌, All, refl, sym, ap, ◌∙◌, ◌⊎◌, subst, inr, arith}
use Rattle.std.proofs.lemmas.List.Elements.{All-nil, All-cons}
use Rattle.cnf_core.specs.Literal.{Literal, negation}
use Rattle.sat_state.specs.Trail.{Entry, level_of, IsOpenBelow}
use Rattle.sat_search_tests.proofs.states.a_clause_is_added_where_it_is_unit.Goals as goal

-- where only a decision is true, no entry is of a lower level
none_below : (e : Entry) (l : Literal) → e.level ≡ 1 → e.reason ≡ None → All (λ x. x.level < level_of (e ∷ []) → x.literal ≢ l) (e ∷ [])
none_below e l level reason =
    All-cons (λ (x : Entry). x.level < level_of (e ∷ []) → x.literal ≢ l) e []
    (λ (lower : e.level < level_of (e ∷ [])). absurd (omega (arith, rw reason at lower, level)))
    (All-nil (λ (x : Entry). x.level < level_of (e ∷ []) → x.literal ≢ l))

pub add-requires : goal.add-requires
add-requires g c =
    let clause = c.in_ok-new.field-0 in
    let decided = c.new-decided.result in
    let forced = c.new-forced.result in
    let e : Entry = record { literal = decided; level = 1; reason = None } in
    let before : c.in_ok-state.state.trail ≡ [] = c.in_ok-state.ensures.trail in
    let only : c.decide.new.self.trail ≡ e ∷ [] = c.decide.ensures.trail ∙ ap (λ (trail : List Entry). trail ++ record { literal = decided; level = level_of trail + 1; reason = None } ∷ []) before in
    let named = rw c.in_ok-lits.ensures.items at c.in_ok-new.ensures.same.from_second in
    let apart : c.negated.result ≢ forced = λ (same : c.negated.result ≡ forced).
    absurd (omega (arith, ap (λ (l : Literal). l.var) same, ap (λ (l : Literal). l.var) c.negated.ensures, ap (λ (l : Literal). l.var) c.new-decided.ensures, ap (λ (l : Literal). l.var) c.new-forced.ensures)) in
    subst (λ (trail : List Entry). ◌⊎◌ (level_of trail ≡ 0) (IsOpenBelow trail clause)) (sym only) (inr (record {
      one = c.negated.result;
      other = forced;
      two = apart;
      one_in = named 0 c.negated.result (omega arith);
      other_in = named 1 c.negated.result (omega arith);
      one_not_false_below = none_below e (negation c.negated.result) refl refl;
      other_not_false_below = none_below e (negation forced) refl refl;
    }))
