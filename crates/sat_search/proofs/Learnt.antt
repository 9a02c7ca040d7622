-- A step that was explained is valid, new and effective.
use Rattle.std.proofs.Common.{◌≡◌, ◌≢◌, ℕ, ◌+◌, ◌<◌, ◌≤◌, Bool, true, false, ◌⊎◌, inl, inr, List, [], ◌∷◌, ◌++◌, length, get_or, map, refl, ap, ◌∙◌, sym, subst, arith, All}
use Rattle.std.specs.Prelude.{Contains}
use Rattle.std.proofs.lemmas.Bool.{false≢true}
use Rattle.std.proofs.lemmas.List.{get_or-map, length-map, append-nil}
use Rattle.std.proofs.lemmas.List.Elements.{Contains-append_left, Contains-push, All-contains, All-weaker, All-nil, All-push}
use Rattle.cnf_core.specs.Literal.{Literal, negation, same_literal, HaveSameLiterals}
use Rattle.cnf_core.specs.Events.{LogEvent, given, step, clause_of, clauses_of, givens, EachStep}
use Rattle.cnf_core.specs.Steps.{IsValidStep, StandsInGiven, IsConsistent, Includes, IsNewStep, IsLastOf, HasTrueLiteral, HasTwoNotFalse, IsEffectiveStep, NonEmptyStepsAreNew}
use Rattle.cnf_core.proofs.Members.{either, none_in_nil, negation-negation, literals_from_test, same_literal-true, All-from_contains}
use Rattle.cnf_core.proofs.Readings.{shown_by_reading}
use Rattle.cnf_core.proofs.Following.{clauses_of-push}
use Rattle.cnf_core.proofs.Events.{EachStep-step}
use Rattle.sat_search.specs.Analysis.{StandsIn, HasLast, IsExplained, AreInRange}
use Rattle.sat_search.specs.Logs.{IsSound}

same_or_not : (a b : Literal) → (a ≡ b) ⊎ (a ≢ b)
same_or_not a b = elim (either (same_literal a b)) [
  | inl is ↦ inl (literals_from_test a b is)
  | inr isnt ↦ inr (λ e. false≢true (sym isnt ∙ same_literal-true a b e))
]

contains_map : (f : Literal → Literal) (xs : List Literal) (x : Literal) → Contains xs x → Contains (map f xs) (f x)
contains_map f xs x (k, below, is) = (k, omega (arith, below, length-map xs f), get_or-map f xs k x (f x) below ∙ ap f is)

-- a clause of the same literals has the same last one
last_same : (trues clause lits : List Literal) (l : Literal) → HaveSameLiterals clause lits → IsLastOf trues lits l → IsLastOf trues clause l
last_same trues clause lits l same last = record {
  in_clause = All-contains (Contains clause) lits l same.from_second last.in_clause;
  others = λ m found differs. last.others m (All-contains (Contains lits) clause m same.from_first found) differs;
  not_true = last.not_true;
  not_false = last.not_false;
}

-- a clause with a last literal at an end of propagation has no contradiction
consistent_last : (trues clause : List Literal) (l : Literal) → IsConsistent trues → IsLastOf trues clause l → IsConsistent clause
consistent_last trues clause l consistent last m found negated = elim (same_or_not m l) [
  | inl is ↦ elim (same_or_not (negation m) l) [
    | inl also ↦ absurd (itself m (is ∙ sym also))
    | inr differs ↦ last.not_true (subst (Contains trues) (negation-negation m ∙ is) (last.others (negation m) negated differs))
  ]
  | inr differs ↦ elim (same_or_not (negation m) l) [
    | inl also ↦ last.not_true (subst (Contains trues) also (last.others m found differs))
    | inr other ↦ consistent m (subst (Contains trues) (negation-negation m) (last.others (negation m) negated other)) (last.others m found differs)
  ]
]
  where
    itself : (m : Literal) → m ≡ negation m → ⊥
    itself m e = flips m.positive (ap (λ (x : Literal). x.positive) e)
      where
        flips : (p : Bool) → p ≡ Rattle.std.proofs.Common.not p → ⊥
        flips true e = false≢true (sym e)
        flips false e = false≢true e

-- it includes no clause that is settled there
none_included : (trues clause : List Literal) (l : Literal) → IsConsistent trues → IsLastOf trues clause l → (other : List Literal) → HasTrueLiteral trues other ⊎ HasTwoNotFalse trues other → Includes clause other → ⊥
none_included trues clause l consistent last other (inl found) includes =
    elim (same_or_not found.0 l) [
      | inl is ↦ last.not_true (subst (Contains trues) is found.2)
      | inr differs ↦ consistent found.0 found.2 (last.others found.0 (All-contains (Contains clause) other found.0 includes found.1) differs)
    ]
none_included trues clause l consistent last other (inr two) includes =
    elim (same_or_not two.one l) [
      | inr differs ↦ two.one_not_false (last.others two.one (All-contains (Contains clause) other two.one includes two.one_in) differs)
      | inl is ↦ two.other_not_false (last.others two.other (All-contains (Contains clause) other two.other includes two.other_in) (λ e. two.two (is ∙ sym e)))
    ]

givens-append : (xs ys : List LogEvent) → givens (xs ++ ys) ≡ givens xs ++ givens ys
givens-append [] ys = refl
givens-append (given clause ∷ xs) ys = ap (λ (cs : List (List Literal)). clause ∷ cs) (givens-append xs ys)
givens-append (step clause hints ∷ xs) ys = givens-append xs ys

stands_more : (xs ys : List LogEvent) (v : ℕ) → StandsInGiven xs v → StandsInGiven (xs ++ ys) v
stands_more xs ys v stands = record {
  clause = stands.clause;
  literal = stands.literal;
  is_given = subst (λ (cs : List (List Literal)). Contains cs stands.clause) (sym (givens-append xs ys)) (Contains-append_left (givens xs) (givens ys) stands.clause stands.is_given);
  in_clause = stands.in_clause;
  names = stands.names;
}

abbrev AllStand : List LogEvent → List LogEvent → Type 0
AllStand all events = All (λ clause. All (λ l. StandsInGiven all l.var) clause) (clauses_of events)

abbrev NewIfNonEmpty : List LogEvent → List Literal → List ℕ → Type 0
NewIfNonEmpty earlier clause hints = 0 < length clause → IsNewStep earlier clause

stand_push : (events : List LogEvent) (e : LogEvent) → AllStand events events → All (λ l. StandsInGiven (events ++ e ∷ []) l.var) (clause_of e) → AllStand (events ++ e ∷ []) (events ++ e ∷ [])
stand_push events e before here =
    subst (All (λ c. All (λ (l : Literal). StandsInGiven (events ++ e ∷ []) l.var) c)) (sym (clauses_of-push events e))
    (All-push (λ c. All (λ (l : Literal). StandsInGiven (events ++ e ∷ []) l.var) c) (clauses_of events) (clause_of e)
    (All-weaker (λ c. All (λ (l : Literal). StandsInGiven events l.var) c) (λ c. All (λ (l : Literal). StandsInGiven (events ++ e ∷ []) l.var) c)
    (λ c all. All-weaker (λ (l : Literal). StandsInGiven events l.var) (λ (l : Literal). StandsInGiven (events ++ e ∷ []) l.var) (λ l stands. stands_more events (e ∷ []) l.var stands) c all)
    (clauses_of events) before)
    here)

given_stands : (events : List LogEvent) (clause : List Literal) → All (λ l. StandsInGiven (events ++ given clause ∷ []) l.var) clause
given_stands events clause = All-from_contains (λ (l : Literal). StandsInGiven (events ++ given clause ∷ []) l.var) clause (λ l found. record {
  clause = clause;
  literal = l;
  is_given = subst (λ (cs : List (List Literal)). Contains cs clause) (sym (givens-append events (given clause ∷ []))) (Contains-push (givens events) clause);
  in_clause = found;
  names = refl;
})

step_stands : (events : List LogEvent) (clause : List Literal) (hints : List ℕ) → NewIfNonEmpty events clause hints → All (λ l. StandsInGiven (events ++ step clause hints ∷ []) l.var) clause
step_stands events [] hints new = All-nil (λ (l : Literal). StandsInGiven (events ++ step [] hints ∷ []) l.var)
step_stands events (m ∷ clause) hints new =
    All-weaker (λ (l : Literal). StandsInGiven events l.var) (λ (l : Literal). StandsInGiven (events ++ step (m ∷ clause) hints ∷ []) l.var)
    (λ l stands. stands_more events (step (m ∷ clause) hints ∷ []) l.var stands) (m ∷ clause) (new (omega arith)).variables

-- where each step with a literal is new, all variables stand in givens
all_stand : (earlier later : List LogEvent) → EachStep NewIfNonEmpty earlier later → AllStand earlier earlier → AllStand (earlier ++ later) (earlier ++ later)
all_stand earlier [] each before = subst (λ (es : List LogEvent). AllStand es es) (sym (append-nil earlier)) before
all_stand earlier (given clause ∷ later) each before =
    subst (λ (es : List LogEvent). AllStand es es) (Rattle.std.proofs.Common.append_assoc earlier (given clause ∷ []) later)
    (all_stand (earlier ++ given clause ∷ []) later each (stand_push earlier (given clause) before (given_stands earlier clause)))
all_stand earlier (step clause hints ∷ later) each before =
    subst (λ (es : List LogEvent). AllStand es es) (Rattle.std.proofs.Common.append_assoc earlier (step clause hints ∷ []) later)
    (all_stand (earlier ++ step clause hints ∷ []) later each.1 (stand_push earlier (step clause hints) before (step_stands earlier clause hints each.0)))

stands_in_given : (events : List LogEvent) (v : ℕ) → NonEmptyStepsAreNew events → StandsIn (clauses_of events) v → StandsInGiven events v
stands_in_given events v new stands =
    subst (StandsInGiven events) stands.names
    (All-contains (λ (l : Literal). StandsInGiven events l.var) stands.clause stands.literal
    (All-contains (λ c. All (λ (l : Literal). StandsInGiven events l.var) c) (clauses_of events) stands.clause
    (all_stand [] events new (All-nil (λ c. All (λ (l : Literal). StandsInGiven [] l.var) c))) stands.is_there)
    stands.in_clause)

effective : (events : List LogEvent) (clause lits : List Literal) (hints : List ℕ) → NonEmptyStepsAreNew events → HaveSameLiterals clause lits → IsExplained (clauses_of events) lits hints → HasLast (clauses_of events) lits → IsEffectiveStep events clause
effective events clause lits hints new same found last =
    let is_last = last_same last.trues clause lits last.last same last.is_last in
    record {
      new = record {
        consistent = consistent_last last.trues clause last.last last.at_end.consistent is_last;
        variables = All-from_contains (λ (l : Literal). StandsInGiven events l.var) clause (λ l found_l.
            stands_in_given events l.var new (All-contains (λ (m : Literal). StandsIn (clauses_of events) m.var) lits l found.named (All-contains (Contains lits) clause l same.from_first found_l)));
        not_included = All-weaker (λ c. HasTrueLiteral last.trues c ⊎ HasTwoNotFalse last.trues c) (λ other. Includes clause other → ⊥)
            (none_included last.trues clause last.last last.at_end.consistent is_last) (clauses_of events) last.at_end.settled;
      };
      trues = last.trues;
      last = last.last;
      is_last = is_last;
      at_end = last.at_end;
    }

some_literal : (clause lits : List Literal) → HaveSameLiterals clause lits → 0 < length clause → lits ≡ [] → ⊥
some_literal [] lits same some none = omega arith
some_literal (l ∷ clause) lits same some none =
    none_in_nil l (subst (λ (ls : List Literal). Contains ls l) none (All-contains (Contains lits) (l ∷ clause) l same.from_first (Rattle.cnf_core.proofs.Members.Contains-here l clause)))

effective_if : (events : List LogEvent) (clause lits : List Literal) (hints : List ℕ) → NonEmptyStepsAreNew events → HaveSameLiterals clause lits → IsExplained (clauses_of events) lits hints → 0 < length clause → IsEffectiveStep events clause
effective_if events clause lits hints new same found some = elim found.last [
  | inl none ↦ absurd (some_literal clause lits same some none)
  | inr last ↦ effective events clause lits hints new same found last
]

valid : (events : List LogEvent) (clause lits : List Literal) (hints : List ℕ) → HaveSameLiterals clause lits → IsExplained (clauses_of events) lits hints → IsValidStep events clause hints
valid events clause lits hints same found = record {
  hints_are_there = All-weaker (λ (h : ℕ). h < length (clauses_of events)) (λ (h : ℕ). h < length events) (λ h below. omega (arith, below, length-map events clause_of)) hints found.hints_there;
  shown = shown_by_reading clause _ (found.shown (map negation clause) (λ l found_l. contains_map negation clause l (All-contains (Contains clause) lits l same.from_second found_l)));
}

-- so a log goes on soundly with it
pub sound_push : (events : List LogEvent) (clause lits : List Literal) (hints : List ℕ) → IsSound events → HaveSameLiterals clause lits → IsExplained (clauses_of events) lits hints → IsSound (events ++ step clause hints ∷ [])
sound_push events clause lits hints sound same found = record {
  valid = EachStep-step IsValidStep [] events clause hints sound.valid (valid events clause lits hints same found);
  new = EachStep-step (λ earlier c hs. 0 < length c → IsNewStep earlier c) [] events clause hints sound.new (λ some. (effective_if events clause lits hints sound.new same found some).new);
  effective = EachStep-step (λ earlier c hs. 0 < length c → IsEffectiveStep earlier c) [] events clause hints sound.effective (effective_if events clause lits hints sound.new same found);
}

-- its variables are those of the clauses
pub learnt_range : (vars : ℕ) (clauses : List (List Literal)) (clause lits : List Literal) (hints : List ℕ) → All (AreInRange vars) clauses → HaveSameLiterals clause lits → IsExplained clauses lits hints → AreInRange vars clause
learnt_range vars clauses clause lits hints names same found =
    All-from_contains (λ (l : Literal). (1 ≤ l.var) × (l.var ≤ vars)) clause (λ l found_l.
    let stands : StandsIn clauses l.var = All-contains (λ (m : Literal). StandsIn clauses m.var) lits l found.named (All-contains (Contains lits) clause l same.from_first found_l) in
    subst (λ (v : ℕ). (1 ≤ v) × (v ≤ vars)) stands.names
    (All-contains (λ (m : Literal). (1 ≤ m.var) × (m.var ≤ vars)) stands.clause stands.literal
    (All-contains (AreInRange vars) clauses stands.clause names stands.is_there) stands.in_clause))

-- no clause is empty where propagation came to an end
pub none_empty : (clauses : List (List Literal)) (lits : List Literal) → HasLast clauses lits → All (λ clause. clause ≢ []) clauses
none_empty clauses lits last =
    All-weaker (λ c. HasTrueLiteral last.trues c ⊎ HasTwoNotFalse last.trues c) (λ c. c ≢ []) (has_some last.trues) clauses last.at_end.settled
  where
    has_some : (trues c : List Literal) → HasTrueLiteral trues c ⊎ HasTwoNotFalse trues c → c ≢ []
    has_some trues c (inl found) none = none_in_nil found.0 (subst (λ (ls : List Literal). Contains ls found.0) none found.1)
    has_some trues c (inr two) none = none_in_nil two.one (subst (λ (ls : List Literal). Contains ls two.one) none two.one_in)
