-- What the cubes of an instance's formula show of the instance.
use Rattle.std.proofs.Common.{◌≡◌, ℕ, ◌^◌, inl, inr, ℤ, Bool, true, false, List, [], ◌∷◌, ◌++◌, length, map, take, drop, Option, Some, None, refl, sym, ap, subst, ◌∙◌}
use Rattle.std.specs.Prelude.{All, Contains, is_some, option_map}
use Rattle.std.proofs.lemmas.Bool.{false≢true}
use Rattle.std.proofs.Math.Seq.{drop-append_seam, take-append_seam}
use Rattle.std.proofs.lemmas.List.{append-nil, append_assoc, length-map}
use Rattle.std.proofs.lemmas.List.Elements.{All-append, All-cons, All-contains, All-head, All-nil, All-tail, Contains-append_right}
use Rattle.cnf_core.specs.Clauses.{IsTrueUnder, Satisfies, SatisfiesClause}
use Rattle.cnf_core.specs.Events.{LogEvent, LogState, given, givens, is_given, step}
use Rattle.cnf_core.specs.Formula.{Cnf}
use Rattle.cnf_core.specs.Literal.{Literal}
use Rattle.cnf_core.specs.Steps.{IsValidLog, NonEmptyStepsAreNew}
use Rattle.cnf_core.proofs.Members.{All-from_contains, Contains-cases, Contains-here, none_in_nil}
use Rattle.enc_var.specs.Decoding.{VariableLiterals}
use Rattle.enc_var.specs.Layouts.{GivesCells, decoded_cells, decoded_values, literals_at}
use Rattle.enc_var.specs.Notes.{cell_notes}
use Rattle.ep_answer.specs.Answered.{AllTell, FoundCells, IsRightAnswer, LiteralsTell}
use Rattle.ep_answer.specs.Answered as say
use Rattle.ep_answer.specs.Problems.{IsAllowed, ProblemState, base_clauses}
use Rattle.ep_base.specs.declared.operators.Sense.{Sense}
use Rattle.ep_flat.specs.Cons.{number_at}
use Rattle.ep_flat.specs.Flats.{MapState, objective_number}
use Rattle.ep_print.specs.Answers.{AnswerTree, HasTypedValues}
use Rattle.ep_tree.specs.Binding.{Instance}
use Rattle.ep_tree.specs.Closed.{IsClosed}
use Rattle.ep_tree.specs.Solutions.{found_of}
use Rattle.ep_tree.specs.declared.values.Mode.{Mode}
use Rattle.ep_unroll.specs.Cells.{found_numbers, instance_cells}
use Rattle.sat_split.specs.Cubes.{AreCubeVariables, LiesInCube, all_given, cube_literals, unit_of}
use Rattle.sat_cubes.specs.Answers.{AreRefutedWithin, NoneBelow}
use Rattle.ep_cubes.specs.Divided.{AnswersByCubes, IsFoundInCube, IsRightByCubes, IsCubeSpent as IsCellsSpent}
use Rattle.ep_solve.specs.Formulas.{IsFormulaFor, Poses}
use Rattle.ep_solve.specs.Logged.{IsLogged, Stands, TellNumbers, TellSolutions, added_clauses}
use Rattle.ep_solve.specs.Reading.{answer_from, assignment_from}
use Rattle.ep_solve.specs.Right.{IsRight}
use Rattle.ep_solve.proofs.Answering.{Allows, ReadsSolution, answered-right, answered-typed}
use Rattle.ep_solve.proofs.GivenLogs.{are-given, clauses-are, givens-are}
use Rattle.ep_solve.proofs.Leaving.{Keeps, givens-append, kept, narrower, stands, tell-solutions, told}
use Rattle.ep_solve.proofs.Solved.{SearchedFor, allows-after}
use Rattle.ep_solve.proofs.Telling.{cells-meant, notes-told}
use Rattle.ep_divided.specs.Divided.{AreToldIn, IsLoggedAsDivided, IsSolutionInCube, IsSpentInCube, ShowsInCubes}

-- ---- numbers that literals tell are the same

told-once : (s : ℕ → Bool) (e : VariableLiterals) (x y : ℤ) → LiteralsTell s e x → LiteralsTell s e y → x ≡ y
told-once s e x y one other = (other.literals x one.among).0 ((one.literals x one.among).1 refl)

told-same : (s : ℕ → Bool) (layout : List VariableLiterals) (vars : List ℕ) (xs ys : List ℤ) → AllTell s layout vars xs → AllTell s layout vars ys → xs ≡ ys
told-same s layout [] [] [] one other = refl
told-same s layout [] [] (y ∷ ys) one other = absurd other
told-same s layout [] (x ∷ xs) ys one other = absurd one
told-same s layout (v ∷ vars) [] ys one other = absurd one
told-same s layout (v ∷ vars) (x ∷ xs) [] one other = absurd other
told-same s layout (v ∷ vars) (x ∷ xs) (y ∷ ys) one other =
    ap (λ z. z ∷ xs) (told-once s (literals_at layout v) x y one.0 other.0) ∙ ap (λ zs. y ∷ zs) (told-same s layout vars xs ys one.1 other.1)

-- ---- logs that begin with a formula's clauses

steps-give-none : (steps : List LogEvent) → All (λ e. is_given e ≡ false) steps → givens steps ≡ []
steps-give-none [] all = refl
steps-give-none (given clause ∷ steps) all = absurd (false≢true (sym (All-head (λ e. is_given e ≡ false) (given clause) steps all)))
steps-give-none (step clause hints ∷ steps) all = steps-give-none steps (All-tail (λ e. is_given e ≡ false) (step clause hints) steps all)

module _ (clauses : List (List Literal)) (rest events : List LogEvent) (is : events ≡ all_given clauses ++ rest) where
  first-events : take (length clauses) events ≡ all_given clauses
  first-events = ap (take (length clauses)) is ∙ ap (λ (n : ℕ). take n (all_given clauses ++ rest)) (sym (length-map clauses given)) ∙ take-append_seam (all_given clauses) rest

  later-events : drop (length clauses) events ≡ rest
  later-events = ap (drop (length clauses)) is ∙ ap (λ (n : ℕ). drop n (all_given clauses ++ rest)) (sym (length-map clauses given)) ∙ drop-append_seam (all_given clauses) rest

-- an assignment satisfies a cube's literals as clauses exactly where it lies in the cube
units-met : (s : ℕ → Bool) (literals : List Literal) → LiesInCube literals s → Satisfies s (map unit_of literals)
units-met s [] lies = All-nil (SatisfiesClause s)
units-met s (l ∷ literals) lies =
    All-cons (SatisfiesClause s) (unit_of l) (map unit_of literals) (record { literal = l; in_clause = Contains-here l []; is_true = All-head (IsTrueUnder s) l literals lies })
    (units-met s literals (All-tail (IsTrueUnder s) l literals lies))

met-units : (s : ℕ → Bool) (literals : List Literal) → Satisfies s (map unit_of literals) → LiesInCube literals s
met-units s [] met = All-nil (IsTrueUnder s)
met-units s (l ∷ literals) met =
    let first = All-head (SatisfiesClause s) (unit_of l) (map unit_of literals) met in
    All-cons (IsTrueUnder s) l literals (subst (IsTrueUnder s) (sym (only l first.literal first.in_clause)) first.is_true) (met-units s literals (All-tail (SatisfiesClause s) (unit_of l) (map unit_of literals) met))
  where
    only : (l x : Literal) → Contains (l ∷ []) x → l ≡ x
    only l x found = elim (Contains-cases l [] x found) [ inl is ↦ is | inr none ↦ absurd (none_in_nil x none) ]

-- where one has no objective the other has none
stated-none : {A B : Type 0} (goal : Option (Sense × A)) (objective : Option (Sense × B)) → option_map (λ g. g.0) goal ≡ option_map (λ g. g.0) objective → goal ≡ None → objective ≡ None
stated-none None None same h = refl
stated-none None (Some s) same h = absurd cc
stated-none (Some o) objective same h = absurd cc

-- ---- the cubes of an instance's formula

-- A formula stands for an instance without an objective, and its cubes were solved.
pub record AreSolvedFor (mode : Mode) (i : Instance) (most budget : ℕ) : Type 0 where
  pub closed : IsClosed i
  pub unstated : i.goal ≡ None
  pub layout : List VariableLiterals
  pub variables : MapState
  pub formula : Cnf
  pub stands : IsFormulaFor mode i layout variables formula
  pub log : LogState
  pub found : FoundCells
  pub answers : AnswersByCubes layout (instance_cells i) variables formula most budget log found

module _ (mode : Mode) (i : Instance) (most budget : ℕ) (h : AreSolvedFor mode i most budget) where
  abbrev f : Cnf
  f = h.formula

  -- the log with which the search of the undivided formula would begin
  abbrev begun : LogState
  begun = record { events = all_given f.clauses; notes = cell_notes h.layout (instance_cells i) h.variables.cells; base = length f.clauses }

  abbrev problem : ProblemState
  problem = record { layout = h.layout; cells = instance_cells i; variables = h.variables; solver = record { clauses = f.clauses; broken = false; kept = None } }

  poses : Poses mode i problem begun
  poses = record {
    formula = f;
    stands = h.stands;
    cells = refl;
    are_givens = are-given f.clauses;
    givens_are = givens-are f.clauses;
    is_base = sym (length-map f.clauses given);
    notes = refl;
    is_whole = refl;
    clauses = sym (clauses-are f.clauses);
  }

  -- the events are the formula's clauses, and others
  record GoesOn : Type 0 where
    pub rest : List LogEvent
    pub events_are : h.log.events ≡ all_given f.clauses ++ rest

  goes-on : (found : FoundCells) (vars : List ℕ) → IsRightByCubes h.layout h.variables f vars budget h.log.events found → GoesOn
  unfolding IsRightByCubes
  goes-on (say.solution cells) vars is = record { rest = is.joined.steps; events_are = is.joined.events_are }
  goes-on (say.optimum number cells) vars is = absurd is
  goes-on say.no_solution vars is = record { rest = is.joined.steps; events_are = is.joined.events_are }
  goes-on (say.unknown None) vars is = record {
    rest = all_given (map unit_of (cube_literals is.cube vars)) ++ is.spent.steps;
    events_are = is.spent.events_are ∙ append_assoc (all_given f.clauses) (all_given (map unit_of (cube_literals is.cube vars))) is.spent.steps;
  }
  goes-on (say.unknown (Some best)) vars is = absurd is

  front : take (length begun.events) h.log.events ≡ begun.events
  front =
      let on = goes-on h.found h.answers.found_by.vars h.answers.found_by.right in
      ap (λ (n : ℕ). take n h.log.events) (length-map f.clauses given) ∙ first-events f.clauses on.rest h.log.events on.events_are

  abbrev searched : SearchedFor mode i
  searched = record { closed = h.closed; p = problem; old = begun; new = h.log; poses = poses; front = front; base = h.answers.base }

  keeps : Keeps mode i problem h.log
  keeps = kept mode i searched h.answers.notes

  pub log-stands : Stands mode i h.log
  log-stands = stands mode i searched keeps

  own : base_clauses h.log ≡ f.clauses
  own =
      let on = goes-on h.found h.answers.found_by.vars h.answers.found_by.right in
      ap (λ (n : ℕ). givens (take n h.log.events)) h.answers.base ∙ ap givens (first-events f.clauses on.rest h.log.events on.events_are) ∙ givens-are f.clauses

  allows : Allows mode i problem h.log
  allows = allows-after mode i problem begun h.log h.closed poses front h.answers.base

  no-goal : h.variables.objective ≡ None
  no-goal = stated-none i.goal h.variables.objective (sym h.stands.senses) h.unstated

  no-number : (values : List ℤ) → objective_number h.variables values ≡ None
  unfolding objective_number
  no-number values = ap (λ (o : Option (Sense × ℕ)). option_map (λ goal. number_at values goal.1) o) no-goal

  -- ---- answers

  -- numbers that an assignment gives the cells are allowed
  allowed : (s : ℕ → Bool) (cells : List ℤ) → Satisfies s f.clauses → decoded_cells h.layout h.variables s ≡ cells → IsAllowed problem h.log cells None
  allowed s cells met gives = record {
    are_given = record { assignment = s; satisfies = subst (Satisfies s) (sym own) met; gives = gives };
    drives = no-number (decoded_values h.layout s);
  }

  none-allowed : ((s : ℕ → Bool) → Satisfies s f.clauses → ⊥) → (cells : List ℤ) (goal : Option ℤ) → IsAllowed problem h.log cells goal → ⊥
  none-allowed none cells goal is = none is.are_given.assignment (subst (Satisfies is.are_given.assignment) own is.are_given.satisfies)

  right : (found : FoundCells) (vars : List ℕ) → IsRightByCubes h.layout h.variables f vars budget h.log.events found → IsRight mode i budget (answer_from i.finds budget found) × HasTypedValues (answer_from i.finds budget found)
  unfolding IsRightByCubes IsRightAnswer IsRight answer_from
  right (say.solution cells) vars is =
      let it : IsRightAnswer problem budget h.log (say.solution cells) = record { unstated = no-goal; allowed = allowed is.assignment cells is.satisfies is.gives } in
      (answered-right mode i problem h.log allows h.stands.senses budget (say.solution cells) it, answered-typed mode i problem h.log allows budget (say.solution cells) it)
  right (say.optimum number cells) vars is = absurd is
  right say.no_solution vars is =
      let it : IsRightAnswer problem budget h.log say.no_solution = record { none = none-allowed is.none; ends = is.ends } in
      (answered-right mode i problem h.log allows h.stands.senses budget say.no_solution it, tt)
  right (say.unknown None) vars is = (refl, tt)
  right (say.unknown (Some best)) vars is = absurd is

  -- ---- what the log shows

  -- numbers that an assignment gives the cells are told by the notes
  are-told : (vars : List ℕ) (cube : ℕ) (s : ℕ → Bool) (cells : List ℤ) → Satisfies s (base_clauses h.log) → LiesInCube (cube_literals cube vars) s → decoded_cells h.layout h.variables s ≡ cells → AreToldIn i h.log.notes (base_clauses h.log) (cube_literals cube vars) cells
  are-told vars cube s cells met lies gives = record {
    assignment = s;
    satisfies = met;
    lies_in = lies;
    tell = subst (TellNumbers s h.log.notes (instance_cells i)) gives (told mode i problem h.log keeps s met);
  }

  -- what the notes tell is what the assignment gives
  told-gives : (s : ℕ → Bool) (numbers : List ℤ) → Satisfies s (base_clauses h.log) → TellNumbers s h.log.notes (instance_cells i) numbers → decoded_cells h.layout h.variables s ≡ numbers
  told-gives s numbers met tell =
      told-same s h.layout h.variables.cells (decoded_cells h.layout h.variables s) numbers
      (cells-meant s h.layout (map (λ one. one.values) (instance_cells i)) h.variables h.stands.maps (keeps.meaning s met))
      (notes-told s h.layout (instance_cells i) h.variables numbers h.stands.maps (subst (λ notes. TellNumbers s notes (instance_cells i) numbers) keeps.notes tell))

  added-behind : (rest : List LogEvent) → h.log.events ≡ all_given f.clauses ++ rest → added_clauses h.log ≡ givens rest
  added-behind rest is = ap (λ (n : ℕ). givens (drop n h.log.events)) h.answers.base ∙ ap givens (later-events f.clauses rest h.log.events is)

  solution-shown : (vars : List ℕ) (cells : List ℤ) → IsFoundInCube h.layout h.variables f vars budget h.log.events cells → IsSolutionInCube i vars budget h.log (assignment_from i.finds cells)
  solution-shown vars cells is =
      let read : ReadsSolution mode i cells None = allows.solves cells None (allowed is.assignment cells is.satisfies is.gives) in
      record {
        cube = is.cube;
        is_cube = is.is_cube;
        told = are-told vars is.cube is.assignment (found_numbers (found_of (assignment_from i.finds cells))) (subst (Satisfies is.assignment) (sym own) is.satisfies) is.lies_in (is.gives ∙ sym read.reads.numbers_are);
        none_below = subst (λ (cs : List (List Literal)). NoneBelow cs vars is.cube) (sym own) is.none_below;
        refuted_within = subst (λ (cs : List (List Literal)). AreRefutedWithin cs vars is.cube budget) (sym own) is.refuted_within;
        refuted = is.joined.refuted;
        added = added-behind is.joined.steps is.joined.events_are ∙ steps-give-none is.joined.steps is.joined.are_steps;
      }

  module _ (vars : List ℕ) (is : IsCellsSpent f vars budget h.log.events) where
    abbrev literals : List Literal
    literals = cube_literals is.cube vars

    abbrev units : List (List Literal)
    units = map unit_of literals

    split : h.log.events ≡ all_given f.clauses ++ (all_given units ++ is.spent.steps)
    split = is.spent.events_are ∙ append_assoc (all_given f.clauses) (all_given units) is.spent.steps

    units-added : givens (all_given units ++ is.spent.steps) ≡ units
    units-added =
        givens-append (all_given units) is.spent.steps ∙ ap (λ (cs : List (List Literal)). givens (all_given units) ++ cs) (steps-give-none is.spent.steps is.spent.are_steps)
        ∙ append-nil (givens (all_given units)) ∙ givens-are units

    all-givens : givens h.log.events ≡ f.clauses ++ units
    all-givens = ap givens split ∙ givens-append (all_given f.clauses) (all_given units ++ is.spent.steps) ∙ ap (λ (cs : List (List Literal)). cs ++ givens (all_given units ++ is.spent.steps)) (givens-are f.clauses) ∙ ap (λ (cs : List (List Literal)). f.clauses ++ cs) units-added

    -- what is left are the solutions that are told in the cube
    left : TellSolutions mode i h.log.notes (givens h.log.events) (λ found. AreToldIn i h.log.notes (base_clauses h.log) (cube_literals is.cube vars) (found_numbers found))
    left =
        tell-solutions mode i problem h.log keeps (givens h.log.events) (λ s met. narrower s h.log.base h.log.events met)
        (λ numbers goal. AreToldIn i h.log.notes (base_clauses h.log) (cube_literals is.cube vars) numbers) (λ found. AreToldIn i h.log.notes (base_clauses h.log) (cube_literals is.cube vars) (found_numbers found)) (λ a s. (λ x. x, λ x. x))
        (λ numbers goal. (to numbers goal, from numbers goal))
      where
        to : (numbers : List ℤ) (goal : Option ℤ) → GivesCells h.layout h.variables (givens h.log.events) numbers goal → IsAllowed problem h.log numbers goal × AreToldIn i h.log.notes (base_clauses h.log) (cube_literals is.cube vars) numbers
        to numbers goal gives =
            let s = gives.are_given.assignment in
            let met : Satisfies s (base_clauses h.log) = narrower s h.log.base h.log.events gives.are_given.satisfies in
            let both : Satisfies s (f.clauses ++ units) = subst (Satisfies s) all-givens gives.are_given.satisfies in (
              record { are_given = record { assignment = s; satisfies = met; gives = gives.are_given.gives }; drives = gives.drives },
              are-told vars is.cube s numbers met
                  (met-units s literals (All-from_contains (SatisfiesClause s) units (λ c found. All-contains (SatisfiesClause s) (f.clauses ++ units) c both (Contains-append_right f.clauses units c found))))
                  gives.are_given.gives,
            )

        from : (numbers : List ℤ) (goal : Option ℤ) → IsAllowed problem h.log numbers goal × AreToldIn i h.log.notes (base_clauses h.log) (cube_literals is.cube vars) numbers → GivesCells h.layout h.variables (givens h.log.events) numbers goal
        from numbers goal both =
            let s = both.1.assignment in record {
              are_given = record {
                assignment = s;
                satisfies = subst (Satisfies s) (sym all-givens) (All-append (SatisfiesClause s) f.clauses units (subst (Satisfies s) own both.1.satisfies) (units-met s literals both.1.lies_in));
                gives = told-gives s numbers both.1.satisfies both.1.tell;
              };
              drives = no-number (decoded_values h.layout s) ∙ sym (no-number (decoded_values h.layout both.0.are_given.assignment)) ∙ both.0.drives;
            }

    spent-shown : IsSpentInCube mode i vars budget h.log
    spent-shown = record {
      cube = is.cube;
      is_cube = is.spent.is_cube;
      sound = is.spent.sound;
      spent = (is.spent.spent, is.spent.none_empty);
      added = added-behind (all_given units ++ is.spent.steps) split ∙ units-added;
      left = left;
      none_below = subst (λ (cs : List (List Literal)). NoneBelow cs vars is.cube) (sym own) is.spent.none_below;
      refuted_within = subst (λ (cs : List (List Literal)). AreRefutedWithin cs vars is.cube budget) (sym own) is.spent.refuted_within;
    }

  -- the steps are valid and new, and the log shows the answer
  record IsShown (vars : List ℕ) (found : FoundCells) : Type 0 where
    pub valid : IsValidLog h.log.events
    pub new : NonEmptyStepsAreNew h.log.events
    pub shows : ShowsInCubes mode i vars budget h.log (answer_from i.finds budget found)

  shown : (vars : List ℕ) (found : FoundCells) → IsRightByCubes h.layout h.variables f vars budget h.log.events found → IsShown vars found
  unfolding IsRightByCubes ShowsInCubes answer_from
  shown vars (say.solution cells) is = record { valid = is.joined.valid; new = is.joined.new; shows = solution-shown vars cells is }
  shown vars (say.optimum number cells) is = absurd is
  shown vars say.no_solution is = record {
    valid = is.joined.valid;
    new = is.joined.new;
    shows = record {
      refuted_within = subst (λ (cs : List (List Literal)). AreRefutedWithin cs vars (2 ^ length vars) budget) (sym own) is.refuted_within;
      ends = is.ends;
      added = added-behind is.joined.steps is.joined.events_are ∙ steps-give-none is.joined.steps is.joined.are_steps;
    };
  }
  shown vars (say.unknown None) is = record { valid = is.spent.sound.valid; new = is.spent.sound.new; shows = spent-shown vars is }
  shown vars (say.unknown (Some best)) is = absurd is

  pub divided-right : (answer : AnswerTree) → answer ≡ answer_from i.finds budget h.found → IsRight mode i budget answer
  divided-right answer same = subst (IsRight mode i budget) (sym same) (right h.found h.answers.found_by.vars h.answers.found_by.right).0

  pub divided-typed : (answer : AnswerTree) → answer ≡ answer_from i.finds budget h.found → HasTypedValues answer
  divided-typed answer same = subst HasTypedValues (sym same) (right h.found h.answers.found_by.vars h.answers.found_by.right).1

  pub divided-valid : IsValidLog h.log.events
  divided-valid = (shown h.answers.found_by.vars h.found h.answers.found_by.right).valid

  pub divided-new : NonEmptyStepsAreNew h.log.events
  divided-new = (shown h.answers.found_by.vars h.found h.answers.found_by.right).new

  pub divided-logged : (answer : AnswerTree) → answer ≡ answer_from i.finds budget h.found → IsLoggedAsDivided mode i most budget h.log answer
  divided-logged answer same = record {
    divided = λ unstated. record {
      stands = log-stands;
      valid = divided-valid;
      new = divided-new;
      vars = h.answers.found_by.vars;
      are = subst (λ (cs : List (List Literal)). AreCubeVariables most cs h.answers.found_by.vars) (sym own) h.answers.found_by.are;
      shows = subst (ShowsInCubes mode i h.answers.found_by.vars budget h.log) (sym same) (shown h.answers.found_by.vars h.found h.answers.found_by.right).shows;
    };
    undivided = λ stated. absurd (stated h.unstated);
  }

-- with an objective nothing is divided
pub undivided-logged : (mode : Mode) (i : Instance) (most budget : ℕ) (log : LogState) (answer : AnswerTree) → (i.goal ≡ None → ⊥) → IsLogged mode i budget log answer → IsLoggedAsDivided mode i most budget log answer
undivided-logged mode i most budget log answer stated logged = record { divided = λ unstated. absurd (stated unstated); undivided = λ other. logged }

-- ---- whether an objective is stated

pub unstated : {A B : Type 0} (f : A → B) (o : Option A) (goal : Option B) → option_map f o ≡ goal → is_some o ≡ false → goal ≡ None
unstated f None goal same none = sym same
unstated f (Some x) goal same none = absurd (false≢true (sym none))

pub stated : {A B : Type 0} (f : A → B) (o : Option A) (goal : Option B) → option_map f o ≡ goal → is_some o ≡ true → goal ≡ None → ⊥
stated f None goal same some none = false≢true some
stated f (Some x) goal same some none = let no : ⊥ = cc (same ∙ none) in no
