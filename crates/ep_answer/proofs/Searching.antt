-- How a search goes on: the log with more events, what the best so far leaves, and the three ends.
use Rattle.std.proofs.Common.{◌≡◌, ◌↔◌, ℕ, ◌-◌, ◌<◌, ◌≤◌, suc, ℤ, Bool, true, false, List, [], ◌∷◌, ◌++◌, length, Option, None, Some, refl, sym, ap, subst, ◌∙◌, arith, append_assoc}
use Rattle.std.proofs.lemmas.Int.{ints}
use Rattle.std.specs.Prelude.{◌≢◌, Err, IfSome, IsErr, IsSome, IsSomeAnd, IsTrue, MatchOption, Ok, Result, filter, unwrap_or, drop, map, option_map, slice_get, take}
use Rattle.std.specs.List.{All, AllPairs, AllZip, Contains}
use Rattle.std.proofs.lemmas.Bool.{false≢true}
use Rattle.std.proofs.lemmas.List.{append-nil}
use Rattle.std.proofs.lemmas.List.Elements.{All-cons, All-contains, All-head, All-nil, All-push, All-tail, All-weaker, Contains-append_left, Contains-append_right}
use Rattle.std.proofs.lemmas.List.Sums.{length-filter}
use Rattle.std.proofs.lemmas.List.Kept.{AllPairs-cons}
use Rattle.cnf_core.specs.Clauses.{Satisfies, SatisfiesClause}
use Rattle.cnf_core.specs.Events.{LogEvent, LogState, clauses_of, given, givens, is_given, is_nonempty_step, nonempty_steps, step}
use Rattle.cnf_core.specs.Literal.{Literal}
use Rattle.cnf_core.proofs.Members.{All-from_contains}
use Rattle.ep_base.specs.Senses.{better_number}
use Rattle.ep_base.specs.declared.operators.Sense.{Sense}
use Rattle.enc_var.specs.Decoding.{Means, VariableLiterals, decoded}
use Rattle.enc_var.specs.Layouts.{GivesCells, decoded_cells, decoded_values, literals_at}
use Rattle.ep_flat.specs.Cons.{number_at}
use Rattle.ep_flat.specs.Flats.{objective_number}
use Rattle.ep_answer.proofs.Deciding.{lt_true, number_is, numbers_fall}
use Rattle.ep_answer.specs.Answered.{AnswersCells, FoundCells, Improves, IsBetterThan, IsReachedGoal, IsRightAnswer, IsNumberWanted, SaysBetter, added_givens, best_number, no_solution, optimum, solution, unknown}
use Rattle.ep_answer.specs.Problems.{CanSearch, IsAllowed, MapMeans, ProblemState, base_clauses}
use Rattle.ep_answer.specs.Searches.{ClauseSaysBetter, Continues, HasFound, IsImproved, IsPursued, best_answer, numbers_left, kept_values}
use Rattle.sat_search.proofs.Continued.{sound_givens}
use Rattle.sat_search.specs.View.{SolverView, value_in}
use Rattle.sat_search.specs.declared.outcome.Outcome.{Outcome}
use Rattle.sat_search.specs.declared.outcome.SolveError.{SolveError}
use Rattle.sat_search.specs.Logs.{AddsSteps, EndsWithEmptyStep, IsSound, NoneIsEmpty}

take_front : {X : Type 0} (xs ys : List X) → take (length xs) (xs ++ ys) ≡ xs
take_front [] ys = refl
take_front (x ∷ xs) ys = ap (λ zs. x ∷ zs) (take_front xs ys)

drop_front : {X : Type 0} (xs ys : List X) → drop (length xs) (xs ++ ys) ≡ ys
drop_front [] ys = refl
drop_front (x ∷ xs) ys = drop_front xs ys

pub givens_append : (before added : List LogEvent) → givens (before ++ added) ≡ givens before ++ givens added
givens_append [] added = refl
givens_append (given clause ∷ before) added = ap (λ cs. clause ∷ cs) (givens_append before added)
givens_append (step clause hints ∷ before) added = givens_append before added

no_givens : (added : List LogEvent) → All (λ e. is_given e ≡ false) added → givens added ≡ []
no_givens [] all = refl
no_givens (given clause ∷ added) all = absurd (false≢true (sym (All-head (λ e. is_given e ≡ false) (given clause) added all)))
no_givens (step clause hints ∷ added) all = no_givens added (All-tail (λ e. is_given e ≡ false) (step clause hints) added all)

-- steps add no given
pub givens_stay : (before added : List LogEvent) → All (λ e. is_given e ≡ false) added → givens (before ++ added) ≡ givens before
givens_stay before added steps = givens_append before added ∙ ap (λ cs. givens before ++ cs) (no_givens added steps) ∙ append-nil (givens before)

-- no event is added
unfoldable pub begun : (budget : ℕ) (log : LogState) → IsSound log.events → nonempty_steps log.events ≤ budget → Continues budget log log
begun budget log sound within = record {
  sound = sound;
  within = within;
  more = [];
  events = sym (append-nil log.events);
  notes = refl;
  base = refl;
}

-- steps are added
unfoldable pub goes_by_steps : (budget : ℕ) (old now next : LogState) → Continues budget old now → AddsSteps now next → IsSound next.events → nonempty_steps next.events ≤ budget → Continues budget old next
goes_by_steps budget old now next goes adds sound within = record {
  sound = sound;
  within = within;
  more = goes.more ++ adds.added;
  events = adds.events ∙ ap (λ es. es ++ adds.added) goes.events ∙ append_assoc old.events goes.more adds.added;
  notes = adds.notes ∙ goes.notes;
  base = adds.base ∙ goes.base;
}

-- a given is added
unfoldable pub goes_by_given : (budget : ℕ) (old now next : LogState) (clause : List Literal) → Continues budget old now → next ≡ record now { events = now.events ++ given clause ∷ [] } → IsSound next.events → nonempty_steps next.events ≤ budget → Continues budget old next
goes_by_given budget old now next clause goes is sound within = record {
  sound = sound;
  within = within;
  more = goes.more ++ given clause ∷ [];
  events = ap (λ l. l.events) is ∙ ap (λ es. es ++ given clause ∷ []) goes.events ∙ append_assoc old.events goes.more (given clause ∷ []);
  notes = ap (λ l. l.notes) is ∙ goes.notes;
  base = ap (λ l. l.base) is ∙ goes.base;
}

pub front_stays : (budget : ℕ) (old now : LogState) → Continues budget old now → take (length old.events) now.events ≡ old.events
front_stays budget old now goes = ap (λ es. take (length old.events) es) goes.events ∙ take_front old.events goes.more

pub added_are : (budget : ℕ) (old now : LogState) (goes : Continues budget old now) → added_givens old now ≡ givens goes.more
added_are budget old now goes = ap (λ es. givens (drop (length old.events) es)) goes.events ∙ ap givens (drop_front old.events goes.more)

-- the problem's own clauses are the old log's givens
pub base_is : (old : LogState) → old.base ≡ length old.events → base_clauses old ≡ givens old.events
base_is old is = ap (λ n. givens (take n old.events)) is ∙ ap givens (whole old.events)
  where
    whole : {X : Type 0} (xs : List X) → take (length xs) xs ≡ xs
    whole [] = refl
    whole (x ∷ xs) = ap (λ ys. x ∷ ys) (whole xs)

-- and stay the problem's own
pub base_stays : (budget : ℕ) (old now : LogState) → old.base ≡ length old.events → Continues budget old now → base_clauses now ≡ base_clauses old
base_stays budget old now is goes =
    ap (λ n. givens (take n now.events)) (goes.base ∙ is) ∙ ap givens (front_stays budget old now goes) ∙ sym (base_is old is)

-- what is said of the old log's own clauses is said of the new one's
pub long_domains : (layout : List VariableLiterals) → length (map (λ e. e.domain) layout) ≡ length layout
long_domains [] = refl
long_domains (e ∷ layout) = ap suc (long_domains layout)

module _ (p : ProblemState) (old now : LogState) (same : base_clauses now ≡ base_clauses old) where
  pub allowed_now : (cells : List ℤ) (goal : Option ℤ) → IsAllowed p old cells goal → IsAllowed p now cells goal
  allowed_now cells goal h = subst (λ cs. GivesCells p.layout p.variables cs cells goal) (sym same) h

  pub allowed_then : (cells : List ℤ) (goal : Option ℤ) → IsAllowed p now cells goal → IsAllowed p old cells goal
  allowed_then cells goal h = subst (λ cs. GivesCells p.layout p.variables cs cells goal) same h

  reached_now : (n : ℤ) → IsReachedGoal p old n → IsReachedGoal p now n
  reached_now n h = record { cells = h.cells; allowed = allowed_now h.cells (Some n) h.allowed }

-- The best so far is none.
pub pursued_from : (p : ProblemState) (budget : ℕ) (old : LogState) → CanSearch p old → IsSound old.events → nonempty_steps old.events ≤ budget → IsPursued p budget old old None
unfolding IsNumberWanted begun
pursued_from p budget old can sound within = record {
  goes = begun budget old sound within;
  bests = [];
  reached = All-nil (IsReachedGoal p old);
  better = λ i j d low high. absurd (omega (arith, high));
  last = refl;
  said = tt;
  incumbent = tt;
  left = λ s. (λ met. (subst (Satisfies s) (sym (base_is old can.is_base)) met, tt), λ both. subst (Satisfies s) (base_is old can.is_base) both.0);
}

-- the solver's steps leave what is left
pub pursued_on : (p : ProblemState) (budget : ℕ) (old now next : LogState) (best : Option (ℤ × List ℤ)) → IsPursued p budget old now best → AddsSteps now next → IsSound next.events → nonempty_steps next.events ≤ budget → IsPursued p budget old next best
unfolding goes_by_steps
pursued_on p budget old now next best h adds sound within =
    let same : givens next.events ≡ givens now.events = ap givens adds.events ∙ givens_stay now.events adds.added adds.are_steps in
    record {
      goes = goes_by_steps budget old now next h.goes adds sound within;
      bests = h.bests;
      reached = h.reached;
      better = h.better;
      last = h.last;
      said = subst (AllZip (SaysBetter p) h.bests) (sym (givens_stay h.goes.more adds.added adds.are_steps)) h.said;
      incumbent = h.incumbent;
      left = λ s. (λ met. (h.left s).0 (subst (Satisfies s) same met), λ both. subst (Satisfies s) (sym same) ((h.left s).1 both));
    }

or_else : {X : Type 0} → X → Option X → X
or_else d None = d
or_else d (Some x) = x

some_same : {X : Type 0} (x y : X) → Some x ≡ Some y → x ≡ y
unfolding or_else
some_same x y e = ap (or_else x) e

objective_is : (p : ProblemState) (sense : Sense) (variable : ℕ) (values : List ℤ) → p.variables.objective ≡ Some (sense, variable) → objective_number p.variables values ≡ Some (number_at values variable)
unfolding objective_number
objective_is p sense variable values stated = ap (option_map (λ goal. number_at values goal.1)) stated

-- an objective with this variable is better than a number where the variable's number is
pub better_than : (p : ProblemState) (sense : Sense) (variable : ℕ) (best : ℤ) (values : List ℤ) → p.variables.objective ≡ Some (sense, variable)
    → IsBetterThan p best (objective_number p.variables values) ↔ IsTrue (better_number sense (number_at values variable) best)
unfolding objective_number
better_than p sense variable best values stated = (
  λ h.
      let same : Some (h.sense, h.variable) ≡ Some (sense, variable) = sym h.stated ∙ stated in
      let pair : (h.sense, h.variable) ≡ (sense, variable) = some_same (h.sense, h.variable) (sense, variable) same in
      let drives : Some (number_at values variable) ≡ Some h.number = sym (ap (option_map (λ goal. number_at values goal.1)) stated) ∙ h.drives in
      subst (λ n. IsTrue (better_number sense n best)) (sym (some_same (number_at values variable) h.number drives))
      (subst (λ w. IsTrue (better_number w h.number best)) (ap (λ w. w.0) pair) h.better),
  λ is. record {
    sense = sense;
    variable = variable;
    number = number_at values variable;
    stated = stated;
    drives = ap (option_map (λ goal. number_at values goal.1)) stated;
    better = is;
  },
)

-- what is better than a better number is better
better_on : (p : ProblemState) (best number : ℤ) (goal : Option ℤ) → IsBetterThan p best (Some number) → IsBetterThan p number goal → IsBetterThan p best goal
unfolding better_number
better_on p best number goal first second = record {
  sense = second.sense;
  variable = second.variable;
  number = second.number;
  stated = second.stated;
  drives = second.drives;
  better =
      through second.sense second.number number best second.better
      (subst (λ n. IsTrue (better_number second.sense n best)) (sym (some_same number first.number first.drives))
      (subst (λ w. IsTrue (better_number w first.number best)) (ap (λ w. w.0) (some_same (first.sense, first.variable) (second.sense, second.variable) (sym first.stated ∙ second.stated))) first.better));
}
  where
    through : (sense : Sense) (x y z : ℤ) → IsTrue (better_number sense x y) → IsTrue (better_number sense y z) → IsTrue (better_number sense x z)
    through Sense.Minimising x y z a b = lt_true x z (omega (arith, ints, a, b))
    through Sense.Maximising x y z a b = lt_true z x (omega (arith, ints, a, b))

pub zip_push : {A B : Type 0} (R : A → B → Type 0) (xs : List A) (ys : List B) (x : A) (y : B) → AllZip R xs ys → R x y → AllZip R (xs ++ x ∷ []) (ys ++ y ∷ [])
zip_push R [] [] x y h r = (r, tt)
zip_push R [] (b ∷ ys) x y h r = absurd h
zip_push R (a ∷ xs) [] x y h r = absurd h
zip_push R (a ∷ xs) (b ∷ ys) x y h r = (h.0, zip_push R xs ys x y h.1 r)

last_pushed : {X : Type 0} (xs : List X) (x : X) → slice_get (xs ++ x ∷ []) (length (xs ++ x ∷ []) - 1) ≡ Some x
last_pushed xs x = ap (λ n. slice_get (xs ++ x ∷ []) n) (one_less xs x) ∙ there xs x
  where
    one_less : {Y : Type 0} (ys : List Y) (y : Y) → length (ys ++ y ∷ []) - 1 ≡ length ys
    one_less [] y = refl
    one_less (z ∷ ys) y = omega (arith, longer ys y)
      where
        longer : {Z : Type 0} (zs : List Z) (z : Z) → length (zs ++ z ∷ []) ≡ suc (length zs)
        longer [] z = refl
        longer (w ∷ zs) z = ap suc (longer zs z)

    there : {Y : Type 0} (ys : List Y) (y : Y) → slice_get (ys ++ y ∷ []) (length ys) ≡ Some y
    there [] y = refl
    there (z ∷ ys) y = there ys y

pub pairs_push : {X : Type 0} (R : X → X → Type 0) (xs : List X) (x : X) → AllPairs R xs → All (λ y. R y x) xs → AllPairs R (xs ++ x ∷ [])
pairs_push R [] x pairs all = λ i j d low high. absurd (omega (arith, low, high))
pairs_push R (y ∷ xs) x pairs all =
    AllPairs-cons R y (xs ++ x ∷ []) (All-push (R y) xs x (λ k d low. pairs 0 (suc k) d (omega arith) (omega (arith, low))) (All-head (λ z. R z x) y xs all))
    (pairs_push R xs x (λ i j d low high. pairs (suc i) (suc j) d (omega (arith, low)) (omega (arith, high))) (All-tail (λ z. R z x) y xs all))

-- Under an assignment that satisfies the problem's clauses and those added, the objective is better than each number before.
all_beaten : (p : ProblemState) (s : ℕ → Bool) (goal : Option ℤ) → MapMeans s p.layout p.variables → objective_number p.variables (decoded_values p.layout s) ≡ goal
    → (bests : List ℤ) (clauses : List (List Literal)) → AllZip (SaysBetter p) bests clauses → Satisfies s clauses → All (λ n. IsBetterThan p n goal) bests
all_beaten p s goal means is [] clauses said met = All-nil (λ n. IsBetterThan p n goal)
all_beaten p s goal means is (n ∷ ns) [] said met = absurd said
all_beaten p s goal means is (n ∷ ns) (c ∷ cs) said met =
    All-cons (λ m. IsBetterThan p m goal) n ns (subst (IsBetterThan p n) is ((said.0.says s means.objective).0 (All-head (SatisfiesClause s) c cs met)))
    (all_beaten p s goal means is ns cs said.1 (All-tail (SatisfiesClause s) c cs met))

pub first_part : (s : ℕ → Bool) (xs ys : List (List Literal)) → Satisfies s (xs ++ ys) → Satisfies s xs
first_part s xs ys h = All-from_contains (SatisfiesClause s) xs (λ c found. All-contains (SatisfiesClause s) (xs ++ ys) c h (Contains-append_left xs ys c found))

pub second_part : (s : ℕ → Bool) (xs ys : List (List Literal)) → Satisfies s (xs ++ ys) → Satisfies s ys
second_part s xs ys h = All-from_contains (SatisfiesClause s) ys (λ c found. All-contains (SatisfiesClause s) (xs ++ ys) c h (Contains-append_right xs ys c found))

-- the literals of the objective's variable mean what they say
pub drives_meant : (s : ℕ → Bool) (layout : List VariableLiterals) (objective : Option (Sense × ℕ)) (sense : Sense) (variable : ℕ) → objective ≡ Some (sense, variable)
    → IfSome objective (λ goal. Means s (literals_at layout goal.1)) → Means s (literals_at layout variable)
drives_meant s layout objective sense variable stated means = subst (λ (o : Option (Sense × ℕ)). IfSome o (λ goal. Means s (literals_at layout goal.1))) stated means

-- the clause says of the problem that the objective is better
says_better : (p : ProblemState) (sense : Sense) (variable : ℕ) (number : ℤ) (clause : List Literal) → p.variables.objective ≡ Some (sense, variable) → variable < length p.layout
    → ClauseSaysBetter (literals_at p.layout variable) sense number clause → SaysBetter p number clause
says_better p sense variable number clause stated low says = record {
  says = λ s means.
      let e = literals_at p.layout variable in
      let one = says s (drives_meant s p.layout p.variables.objective sense variable stated means) in
      let other = better_than p sense variable number (decoded_values p.layout s) stated in
      let same : number_at (decoded_values p.layout s) variable ≡ decoded s e = number_is p.layout s variable low in (
        λ h. other.1 (subst (λ n. IsTrue (better_number sense n number)) (sym same) (one.0 h)),
        λ b. one.1 (subst (λ n. IsTrue (better_number sense n number)) same (other.0 b)),
      );
}

-- what is better than a number that is still wanted is still wanted
still_on : (p : ProblemState) (best : Option (ℤ × List ℤ)) (number : ℤ) (goal : Option ℤ) → IsNumberWanted p best (Some number) → IsBetterThan p number goal → IsNumberWanted p best goal
unfolding IsNumberWanted
still_on p None number goal first second = tt
still_on p (Some best) number goal first second = better_on p best.0 number goal first second

-- a better solution is found
pub pursued_more : (p : ProblemState) (budget : ℕ) (old now next : LogState) (best : Option (ℤ × List ℤ)) (sense : Sense) (variable : ℕ) (s : ℕ → Bool) (number : ℤ) (cells : List ℤ)
    → CanSearch p old → p.variables.objective ≡ Some (sense, variable) → variable < length p.layout → IsPursued p budget old now best → Satisfies s (givens now.events)
    → IsImproved p sense variable s now next number cells → IsSound next.events → nonempty_steps next.events ≤ budget → IsPursued p budget old next (Some (number, cells))
unfolding IsNumberWanted goes_by_given
pursued_more p budget old now next best sense variable s number cells can stated low h met found sound within =
    let both = (h.left s).0 met in
    let clause = found.clause in
    let goal_is : objective_number p.variables (decoded_values p.layout s) ≡ Some number = objective_is p sense variable (decoded_values p.layout s) stated ∙ ap Some (sym found.number_is) in
    let allowed : IsAllowed p old cells (Some number) = record { are_given = record { assignment = s; satisfies = both.0; gives = sym found.cells_are }; drives = goal_is } in
    let says : SaysBetter p number clause = says_better p sense variable number clause stated low found.says in
    let meaning : (t : ℕ → Bool) → Satisfies t (base_clauses old) → MapMeans t p.layout p.variables = λ t base. can.meaning t (subst (Satisfies t) (base_is old can.is_base) base) in
    let wanted : IsNumberWanted p best (Some number) = subst (IsNumberWanted p best) goal_is both.1 in
    let all_givens : givens now.events ≡ givens old.events ++ givens h.goes.more = ap givens h.goes.events ∙ givens_append old.events h.goes.more in
    let next_givens : givens next.events ≡ givens now.events ++ clause ∷ [] = ap (λ l. givens l.events) found.new_is ∙ givens_append now.events (given clause ∷ []) in
    record {
      goes = goes_by_given budget old now next clause h.goes found.new_is sound within;
      bests = h.bests ++ number ∷ [];
      reached = All-push (IsReachedGoal p old) h.bests number h.reached (record { cells = cells; allowed = allowed });
      better = pairs_push (λ earlier later. IsBetterThan p earlier (Some later)) h.bests number h.better
          (all_beaten p s (Some number) (meaning s both.0) goal_is h.bests (givens h.goes.more) h.said (second_part s (givens old.events) (givens h.goes.more) (subst (Satisfies s) all_givens met)));
      last = last_pushed h.bests number;
      said = subst (AllZip (SaysBetter p) (h.bests ++ number ∷ [])) (sym (givens_append h.goes.more (given clause ∷ []))) (zip_push (SaysBetter p) h.bests (givens h.goes.more) number clause h.said says);
      incumbent = allowed;
      left = λ t. (
        λ all.
            let parts : Satisfies t (givens now.events ++ clause ∷ []) = subst (Satisfies t) next_givens all in
            let base = ((h.left t).0 (first_part t (givens now.events) (clause ∷ []) parts)).0 in
            (base, (says.says t (meaning t base).objective).0 (All-head (SatisfiesClause t) clause [] (second_part t (givens now.events) (clause ∷ []) parts))),
        λ pair. subst (Satisfies t) (sym next_givens)
            (All-push (SatisfiesClause t) (givens now.events) clause
            ((h.left t).1 (pair.0, still_on p best number (objective_number p.variables (decoded_values p.layout t)) wanted pair.1)) ((says.says t (meaning t pair.0).objective).1 pair.1)),
      );
    }

-- nothing satisfies the givens: nothing is still wanted
pub answers_end : (p : ProblemState) (budget : ℕ) (old now : LogState) (best : Option (ℤ × List ℤ)) → old.base ≡ length old.events → IsPursued p budget old now best → EndsWithEmptyStep now.events
    → ((s : ℕ → Bool) → Satisfies s (givens now.events) → ⊥) → AnswersCells p budget now (best_answer best)
unfolding IsNumberWanted IsRightAnswer
answers_end p budget old now None is h ends none = record {
  sound = h.goes.sound;
  within = h.goes.within;
  right = record {
    none = λ cells goal allowed.
        let s = allowed.are_given.assignment in
        none s ((h.left s).1 (subst (Satisfies s) (base_stays budget old now is h.goes) allowed.are_given.satisfies, tt));
    ends = ends;
  };
}
answers_end p budget old now (Some best) is h ends none = record {
  sound = h.goes.sound;
  within = h.goes.within;
  right = record {
    allowed = allowed_now p old now (base_stays budget old now is h.goes) best.1 (Some best.0) h.incumbent;
    best = λ others goal allowed better.
        let s = allowed.are_given.assignment in
        none s ((h.left s).1 (subst (Satisfies s) (base_stays budget old now is h.goes) allowed.are_given.satisfies, subst (IsBetterThan p best.0) (sym allowed.drives) better));
    ends = ends;
  };
}

-- the budget is spent
pub answers_spent : (p : ProblemState) (budget : ℕ) (old now : LogState) (best : Option (ℤ × List ℤ)) → old.base ≡ length old.events → IsPursued p budget old now best → nonempty_steps now.events ≡ budget
    → NoneIsEmpty now.events → AnswersCells p budget now (unknown best)
unfolding IsRightAnswer
answers_spent p budget old now best is h spent none_empty =
    let same = base_stays budget old now is h.goes in
    record {
      sound = h.goes.sound;
      within = h.goes.within;
      right = record {
        steps = spent;
        none_is_empty = none_empty;
        incumbent = incumbent_now best h.incumbent same;
        left = λ cells goal. (
          λ x.
              let s = x.are_given.assignment in
              let both = (h.left s).0 x.are_given.satisfies in (
                record { are_given = record { assignment = s; satisfies = subst (Satisfies s) (sym same) both.0; gives = x.are_given.gives }; drives = x.drives },
                subst (IsNumberWanted p best) x.drives both.1,
              ),
          λ pair.
              let s = pair.0.are_given.assignment in
              record {
                are_given = record {
                  assignment = s;
                  satisfies = (h.left s).1 (subst (Satisfies s) same pair.0.are_given.satisfies, subst (IsNumberWanted p best) (sym pair.0.drives) pair.1);
                  gives = pair.0.are_given.gives;
                };
                drives = pair.0.drives;
              },
        );
      };
    }
  where
    incumbent_now : (b : Option (ℤ × List ℤ)) → IfSome b (λ one. IsAllowed p old one.1 (Some one.0)) → base_clauses now ≡ base_clauses old → IfSome b (λ one. IsAllowed p now one.1 (Some one.0))
    incumbent_now None x same = tt
    incumbent_now (Some one) x same = allowed_now p old now same one.1 (Some one.0) x

-- how the best was looked for
pub improves : (p : ProblemState) (budget : ℕ) (old now : LogState) (best : Option (ℤ × List ℤ)) (found : FoundCells) → old.base ≡ length old.events → IsPursued p budget old now best
    → option_map (λ one. one.0) best ≡ best_number found → Improves p old now found
improves p budget old now best found is h number =
    let same = base_stays budget old now is h.goes in
    record {
      bests = h.bests;
      reached = All-weaker (IsReachedGoal p old) (IsReachedGoal p now) (reached_now p old now same) h.bests h.reached;
      better = h.better;
      last = h.last ∙ number;
      said = subst (AllZip (SaysBetter p) h.bests) (sym (added_are budget old now h.goes)) h.said;
    }

pub improves_end : (p : ProblemState) (budget : ℕ) (old now : LogState) (best : Option (ℤ × List ℤ)) → old.base ≡ length old.events → IsPursued p budget old now best → Improves p old now (best_answer best)
unfolding best_number
improves_end p budget old now None is h = improves p budget old now None no_solution is h refl
improves_end p budget old now (Some best) is h = improves p budget old now (Some best) (optimum best.0 best.1) is h refl

pub improves_spent : (p : ProblemState) (budget : ℕ) (old now : LogState) (best : Option (ℤ × List ℤ)) → old.base ≡ length old.events → IsPursued p budget old now best → Improves p old now (unknown best)
unfolding best_number
improves_spent p budget old now best is h = improves p budget old now best (unknown best) is h refl

-- an assignment that satisfies the givens gives a solution of a problem without an objective
pub answers_found : (p : ProblemState) (budget : ℕ) (old now : LogState) (s : ℕ → Bool) (cells : List ℤ) → old.base ≡ length old.events → p.variables.objective ≡ None → IsPursued p budget old now None
    → Satisfies s (givens now.events) → cells ≡ decoded_cells p.layout p.variables s → AnswersCells p budget now (solution cells)
unfolding IsRightAnswer objective_number
answers_found p budget old now s cells is unstated h met are = record {
  sound = h.goes.sound;
  within = h.goes.within;
  right = record {
    unstated = unstated;
    allowed = record {
      are_given = record { assignment = s; satisfies = subst (Satisfies s) (sym (base_stays budget old now is h.goes)) ((h.left s).0 met).0; gives = sym are };
      drives = ap (option_map (λ goal. number_at (decoded_values p.layout s) goal.1)) unstated;
    };
  };
}

-- a log of givens has no step with a literal
no_steps : (events : List LogEvent) → All (λ e. is_given e ≡ true) events → length (filter is_nonempty_step events) ≡ 0
no_steps [] all = refl
no_steps (given clause ∷ events) all = no_steps events (All-tail (λ e. is_given e ≡ true) (given clause) events all)
no_steps (step clause hints ∷ events) all = absurd (false≢true (All-head (λ e. is_given e ≡ true) (step clause hints) events all))

pub within_any : (budget : ℕ) (events : List LogEvent) → All (λ e. is_given e ≡ true) events → nonempty_steps events ≤ budget
within_any budget events all = let none : nonempty_steps events ≡ 0 = sym (length-filter is_nonempty_step events) ∙ no_steps events all in omega (arith, none)

-- a search begins
pub pursued_first : (p : ProblemState) (budget : ℕ) (old : LogState) → CanSearch p old → IsPursued p budget old old None
pursued_first p budget old can = pursued_from p budget old can (sound_givens old.events can.are_givens) (within_any budget old.events can.are_givens)

-- the values that are kept satisfy what the answer says
pub kept_satisfies : (solver : SolverView) (clauses : List (List Literal)) → IsSomeAnd solver.kept (λ trues. Satisfies (value_in trues) clauses) → Satisfies (kept_values solver) clauses
kept_satisfies solver clauses h = by solver.kept h
  where
    by : (k : Option (List Literal)) → IsSomeAnd k (λ trues. Satisfies (value_in trues) clauses) → Satisfies (value_in (unwrap_or k [])) clauses
    by None h2 = absurd h2
    by (Some trues) h2 = h2

pub kept_some : (solver : SolverView) (clauses : List (List Literal)) → IsSomeAnd solver.kept (λ trues. Satisfies (value_in trues) clauses) → IsSome solver.kept
kept_some solver clauses h = by solver.kept h
  where
    by : (k : Option (List Literal)) → IsSomeAnd k (λ trues. Satisfies (value_in trues) clauses) → IsSome k
    by None h2 = absurd h2
    by (Some trues) h2 = refl

-- a call that answered leaves the solver whole
pub stays_whole : (broken : Bool) (outcome : Outcome) (r : Result Outcome SolveError) → (broken ≡ true → IsErr r) → r ≡ Ok outcome → broken ≡ false
stays_whole false outcome r h is = refl
stays_whole true outcome r h is = absurd (false≢true (subst (λ (q : Result Outcome SolveError). IsErr q) is (h refl)))

-- a call of a solver that no call broke isn't refused for an earlier one
pub not_broken : {A : Type 0} (broken : Bool) (r : Result A SolveError) (error : SolveError) → broken ≡ false → (r ≡ Err SolveError.Broken → broken ≡ true) → r ≡ Err error → error ≢ SolveError.Broken
not_broken broken r error whole breaks is = λ e. false≢true (sym whole ∙ breaks (is ∙ ap Err e))

-- the literals mean what they say under an assignment that satisfies the givens
pub means_now : (p : ProblemState) (budget : ℕ) (old now : LogState) (best : Option (ℤ × List ℤ)) (s : ℕ → Bool) → CanSearch p old → IsPursued p budget old now best → Satisfies s (givens now.events) → MapMeans s p.layout p.variables
means_now p budget old now best s can h met = can.meaning s (subst (Satisfies s) (base_is old can.is_base) ((h.left s).0 met).0)

-- the objective's variable is there
pub objective_there : (p : ProblemState) (sense : Sense) (variable : ℕ) (old : LogState) → CanSearch p old → p.variables.objective ≡ Some (sense, variable) → variable < length p.layout
objective_there p sense variable old can stated =
    let there : MatchOption {T = Sense × ℕ} (Some (sense, variable)) (Unit {0}) (λ goal. goal.1 < length (map (λ e. e.domain) p.layout)) =
    subst (λ (o : Option (Sense × ℕ)). MatchOption {T = Sense × ℕ} o (Unit {0}) (λ goal. goal.1 < length (map (λ e. e.domain) p.layout))) stated can.maps.objective in
    subst (λ n. variable < n) (long_domains p.layout) there

-- a solution was found
pub has_found : (p : ProblemState) (budget : ℕ) (old now : LogState) (best : Option (ℤ × List ℤ)) (solver : SolverView) (sense : Sense) (variable : ℕ) → CanSearch p old → p.variables.objective ≡ Some (sense, variable) → IsPursued p budget old now best
    → solver.broken ≡ false → solver.clauses ≡ clauses_of now.events → IsSomeAnd solver.kept (λ trues. Satisfies (value_in trues) (givens now.events)) → HasFound (record p { solver = solver }) variable now
has_found p budget old now best solver sense variable can stated h whole clauses kept = record {
  is_whole = whole;
  kept = kept_some solver (givens now.events) kept;
  sound = h.goes.sound;
  clauses = clauses;
  cells = subst (λ n. All (λ x. x < n) p.variables.cells) (long_domains p.layout) can.maps.cells.there;
  there = objective_there p sense variable old can stated;
  meaning = (means_now p budget old now best (kept_values solver) can h (kept_satisfies solver (givens now.events) kept)).cells;
  drives = drives_meant (kept_values solver) p.layout p.variables.objective sense variable stated
      (means_now p budget old now best (kept_values solver) can h (kept_satisfies solver (givens now.events) kept)).objective;
}

pub cells_there : (p : ProblemState) (old : LogState) → CanSearch p old → All (λ x. x < length p.layout) p.variables.cells
cells_there p old can = subst (λ n. All (λ x. x < n) p.variables.cells) (long_domains p.layout) can.maps.cells.there

-- the solver's part is of no account for what was found
pub improved_same : (p : ProblemState) (solver : SolverView) (sense : Sense) (variable : ℕ) (s : ℕ → Bool) (old new : LogState) (number : ℤ) (cells : List ℤ) → IsImproved (record p { solver = solver }) sense variable s old new number cells
    → IsImproved p sense variable s old new number cells
improved_same p solver sense variable s old new number cells h = record { number_is = h.number_is; cells_are = h.cells_are; clause = h.clause; says = h.says; new_is = h.new_is }

-- fewer numbers are left
pub falls : (p : ProblemState) (budget : ℕ) (old now next : LogState) (best : Option (ℤ × List ℤ)) (sense : Sense) (variable : ℕ) (s : ℕ → Bool) (number : ℤ) (cells : List ℤ) → CanSearch p old → p.variables.objective ≡ Some (sense, variable)
    → IsPursued p budget old now best → Satisfies s (givens now.events) → IsImproved p sense variable s now next number cells
    → numbers_left sense (literals_at p.layout variable).domain (Some number) < numbers_left sense (literals_at p.layout variable).domain (option_map (λ one. one.0) best)
unfolding IsNumberWanted
falls p budget old now next best sense variable s number cells can stated h met found =
    let e = literals_at p.layout variable in
    let low = objective_there p sense variable old can stated in
    let means : Means s e = drives_meant s p.layout p.variables.objective sense variable stated (means_now p budget old now best s can h met).objective in
    let same : decoded s e ≡ number = sym (number_is p.layout s variable low) ∙ sym found.number_is in
    numbers_fall sense e.domain (option_map (λ one. one.0) best) number (subst (Contains e.domain) same means.among)
    (wanted_better best (subst (IsNumberWanted p best) (objective_is p sense variable (decoded_values p.layout s) stated ∙ ap Some (sym found.number_is)) ((h.left s).0 met).1))
  where
    wanted_better : (b : Option (ℤ × List ℤ)) → IsNumberWanted p b (Some number) → IfSome (option_map (λ one. one.0) b) (λ n. IsTrue (better_number sense number n))
    wanted_better None w = tt
    wanted_better (Some one) w =
        subst (λ n. IsTrue (better_number sense n one.0)) (sym (some_same number w.number w.drives))
        (subst (λ t. IsTrue (better_number t w.number one.0)) (ap (λ t. t.0) (some_same (w.sense, w.variable) (sense, variable) (sym w.stated ∙ stated))) w.better)
