-- The listing of solutions: what is kept from one to the next, and its ends.
use Rattle.std.proofs.Common.{◌≡◌, ◌≢◌, ◌⊎◌, inl, inr, ℕ, ◌<◌, ◌≤◌, suc, zero, ℤ, pos, Bool, true, false, List, [], ◌∷◌, ◌++◌, length, Option, refl, sym, ap, subst, ◌∙◌, arith}
use Rattle.std.specs.Prelude.{IsSomeAnd, map, slice_index_or, drop}
use Rattle.std.specs.List.{All, AllZip, Contains}
use Rattle.std.specs.Ordering.{int_eq}
use Rattle.std.proofs.lemmas.Bool.{false≢true}
use Rattle.std.proofs.lemmas.Bool.Decides.{Decides-int_eq}
use Rattle.std.proofs.lemmas.List.Elements.{All-head, All-nil, All-push, All-tail, All-weaker, Contains-append_cases, Contains-append_left, Contains-append_right, Contains-push}
use Rattle.cnf_core.specs.Clauses.{Satisfies, SatisfiesClause}
use Rattle.cnf_core.specs.Events.{LogState, Note, clauses_of, given, givens, nonempty_steps}
use Rattle.cnf_core.specs.Literal.{Literal, negation}
use Rattle.cnf_core.proofs.Members.{All-from_contains}
use Rattle.ep_flat.specs.Cons.{number_at, numbers_of_vars}
use Rattle.ep_flat.specs.Flats.{objective_number}
use Rattle.ep_ground.specs.declared.cells.Cell.{Cell}
use Rattle.enc_var.specs.Decoding.{Means, VariableLiterals, literal_of_note}
use Rattle.enc_var.specs.Layouts.{decoded_cells, decoded_values, literals_at}
use Rattle.enc_var.specs.Notes.{cell_notes, cell_text, notes_of_cell}
use Rattle.ep_answer.specs.Answered.{AllTell, BlocksCells, IsNegatedNote, IsRightEnd, ListingEnd, ListsCells, LiteralsTell, complete, spent, stopped}
use Rattle.ep_answer.specs.Problems.{AllMean, CanSearch, IsAllowed, ProblemState, base_clauses}
use Rattle.ep_answer.specs.Searches.{AreNumbers, HasCells, IsBlocked, ListsNumbers, IsNotNumber, OtherNumbers, kept_values}
use Rattle.ep_answer.proofs.Deciding.{number_is}
use Rattle.ep_answer.proofs.OtherNumbers.{means_told, number_had}
use Rattle.ep_answer.proofs.Searching.{added_are, allowed_now, base_is, base_stays, begun, cells_there, first_part, givens_append, givens_stay, goes_by_given, goes_by_steps, kept_satisfies, kept_some, pairs_push, second_part, within_any, zip_push}
use Rattle.sat_search.proofs.Continued.{sound_givens}
use Rattle.sat_search.specs.Logs.{AddsSteps, EndsWithEmptyStep, IsSound, NoneIsEmpty}
use Rattle.sat_search.specs.View.{SolverView, value_in}

nothing_in : {X : Type 0} (x : X) → Contains [] x → ⊥
nothing_in x found = omega (arith, found.1)

-- nothing is found
pub listed_first : (p : ProblemState) (budget : ℕ) (old : LogState) → CanSearch p old → ListsNumbers p budget old old []
unfolding begun
listed_first p budget old can = record {
  goes = begun budget old (sound_givens old.events can.are_givens) (within_any budget old.events can.are_givens);
  allowed = All-nil (λ cells. (goal : Option ℤ) × IsAllowed p old cells goal);
  different = λ i j d low high. absurd (omega (arith, high));
  blocked = tt;
  left = λ s. (
    λ met. (subst (Satisfies s) (sym (base_is old can.is_base)) met, nothing_in (decoded_cells p.layout p.variables s)),
    λ both. subst (Satisfies s) (base_is old can.is_base) both.0,
  );
}

-- the solver's steps leave what is left
pub listed_on : (p : ProblemState) (budget : ℕ) (old now next : LogState) (found : List (List ℤ)) → ListsNumbers p budget old now found → AddsSteps now next → IsSound next.events → nonempty_steps next.events ≤ budget → ListsNumbers p budget old next found
unfolding goes_by_steps
listed_on p budget old now next found h adds sound within =
    let same : givens next.events ≡ givens now.events = ap givens adds.events ∙ givens_stay now.events adds.added adds.are_steps in
    record {
      goes = goes_by_steps budget old now next h.goes adds sound within;
      allowed = h.allowed;
      different = h.different;
      blocked = subst (AllZip (BlocksCells p old) found) (sym (givens_stay h.goes.more adds.added adds.are_steps)) h.blocked;
      left = λ s. (λ met. (h.left s).0 (subst (Satisfies s) same met), λ both. subst (Satisfies s) (sym same) ((h.left s).1 both));
    }

-- the literals mean what they say under an assignment that satisfies the givens
pub means_listed : (p : ProblemState) (budget : ℕ) (old now : LogState) (found : List (List ℤ)) (s : ℕ → Bool) → CanSearch p old → ListsNumbers p budget old now found → Satisfies s (givens now.events) → AllMean s p.layout p.variables.cells
means_listed p budget old now found s can h met = (can.meaning s (subst (Satisfies s) (base_is old can.is_base) ((h.left s).0 met).0)).cells

pub has_cells : (p : ProblemState) (budget : ℕ) (old now : LogState) (found : List (List ℤ)) (solver : SolverView) → CanSearch p old → ListsNumbers p budget old now found → solver.broken ≡ false → solver.clauses ≡ clauses_of now.events
    → IsSomeAnd solver.kept (λ trues. Satisfies (value_in trues) (givens now.events)) → HasCells (record p { solver = solver }) now
has_cells p budget old now found solver can h whole clauses kept = record {
  is_whole = whole;
  kept = kept_some solver (givens now.events) kept;
  sound = h.goes.sound;
  clauses = clauses;
  cells = cells_there p old can;
  meaning = means_listed p budget old now found (kept_values solver) can h (kept_satisfies solver (givens now.events) kept);
}

pub blocked_same : (p : ProblemState) (solver : SolverView) (s : ℕ → Bool) (old new : LogState) (cells : List ℤ) → IsBlocked (record p { solver = solver }) s old new cells → IsBlocked p s old new cells
blocked_same p solver s old new cells h = record { cells_are = h.cells_are; clause = h.clause; blocks = h.blocks; new_is = h.new_is }

-- what an assignment gives is among the numbers of the variables
pub are_numbers : (layout : List VariableLiterals) (s : ℕ → Bool) (vars : List ℕ) (cells : List ℤ) → All (λ x. x < length layout) vars → AllMean s layout vars → cells ≡ numbers_of_vars (decoded_values layout s) vars → AreNumbers layout vars cells
unfolding numbers_of_vars
are_numbers layout s vars cells there means is = subst (AreNumbers layout vars) (sym is) (by vars there means)
  where
    by : (xs : List ℕ) → All (λ x. x < length layout) xs → AllMean s layout xs → AreNumbers layout xs (map (number_at (decoded_values layout s)) xs)
    by [] low each = tt
    by (x ∷ xs) low each = (
      subst (Contains (literals_at layout x).domain) (sym (number_is layout s x (All-head (λ y. y < length layout) x xs low))) (All-head (λ y. Means s (literals_at layout y)) x xs each).among,
      by xs (All-tail (λ y. y < length layout) x xs low) (All-tail (λ y. Means s (literals_at layout y)) x xs each),
    )

-- where the literals of variables mean what they say, those of their values tell the numbers that an assignment gives
pub all_told : (layout : List VariableLiterals) (s : ℕ → Bool) (vars : List ℕ) → All (λ x. x < length layout) vars → AllMean s layout vars → AllTell s layout vars (numbers_of_vars (decoded_values layout s) vars)
unfolding numbers_of_vars
all_told layout s [] there means = tt
all_told layout s (x ∷ vars) there means = (
  subst (LiteralsTell s (literals_at layout x)) (sym (number_is layout s x (All-head (λ y. y < length layout) x vars there)))
      (means_told s (literals_at layout x) (All-head (λ y. Means s (literals_at layout y)) x vars means)),
  all_told layout s vars (All-tail (λ y. y < length layout) x vars there) (All-tail (λ y. Means s (literals_at layout y)) x vars means),
)

mapped_in : {X Y : Type 0} (f : X → Y) (xs : List X) (x : X) → Contains xs x → Contains (map f xs) (f x)
mapped_in f [] x found = absurd (omega (arith, found.1))
mapped_in f (y ∷ xs) x (zero, low, is) = (0, omega arith, ap f is)
mapped_in f (y ∷ xs) x (suc k, low, is) = Contains-append_right (f y ∷ []) (map f xs) (f x) (mapped_in f xs x (k, omega (arith, low), is))

-- a cell's note is among the notes
record NoteOf (layout : List VariableLiterals) (notes : List Note) (x : ℕ) (v : ℤ) : Type 0 where
  pub note : Note
  pub noted : Contains notes note
  pub lit : note.lit ≡ literal_of_note (literals_at layout x) v

note_at : (layout : List VariableLiterals) (cells : List Cell) (vars : List ℕ) (place x : ℕ) (v : ℤ) → map (λ one. one.values) cells ≡ map (λ y. (literals_at layout y).domain) vars → place < length vars
    → Contains (literals_at layout (slice_index_or vars place x)).domain v → NoteOf layout (cell_notes layout cells vars) (slice_index_or vars place x) v
unfolding cell_notes notes_of_cell
note_at layout cells [] place x v same low found = absurd (omega (arith, low))
note_at layout [] (y ∷ vars) place x v same low found = absurd (omega (arith, ap length same))
note_at layout (one ∷ cells) (y ∷ vars) zero x v same low found =
    let values : one.values ≡ (literals_at layout y).domain = ap (λ ds. slice_index_or ds 0 []) same in
    record {
      note = record { cell = cell_text one; value = v; lit = literal_of_note (literals_at layout y) v };
      noted = Contains-append_left (map (λ w. record { cell = cell_text one; value = w; lit = literal_of_note (literals_at layout y) w }) one.values) (cell_notes layout cells vars) (record { cell = cell_text one; value = v; lit = literal_of_note (literals_at layout y) v })
          (mapped_in (λ w. record { cell = cell_text one; value = w; lit = literal_of_note (literals_at layout y) w }) one.values v (subst (λ vs. Contains vs v) (sym values) found));
      lit = refl;
    }
note_at layout (one ∷ cells) (y ∷ vars) (suc place) x v same low found =
    let rest = note_at layout cells vars place x v (ap (drop 1) same) (omega (arith, low)) found in
    record {
      note = rest.note;
      noted = Contains-append_right (map (λ w. record { cell = cell_text one; value = w; lit = literal_of_note (literals_at layout y) w }) one.values) (cell_notes layout cells vars) rest.note rest.noted;
      lit = rest.lit;
    }

domains_same : (layout : List VariableLiterals) (vars : List ℕ) → All (λ x. x < length layout) vars → map (λ x. slice_index_or (map (λ e. e.domain) layout) x []) vars ≡ map (λ y. (literals_at layout y).domain) vars
domains_same layout [] low = refl
domains_same layout (x ∷ vars) low =
    ap (λ d. d ∷ map (λ y. slice_index_or (map (λ e. e.domain) layout) y []) vars) (at layout x (All-head (λ y. y < length layout) x vars low))
    ∙ ap (λ ds. (literals_at layout x).domain ∷ ds) (domains_same layout vars (All-tail (λ y. y < length layout) x vars low))
  where
    at : (es : List VariableLiterals) (y : ℕ) → y < length es → slice_index_or (map (λ e. e.domain) es) y [] ≡ (literals_at es y).domain
    at [] y below = absurd (omega (arith, below))
    at (e ∷ es) zero below = refl
    at (e ∷ es) (suc y) below = at es y (omega (arith, below))

-- the clause blocks the cells
blocks : (p : ProblemState) (old : LogState) (cells : List ℤ) (clause : List Literal) → CanSearch p old → AreNumbers p.layout p.variables.cells cells → OtherNumbers p.layout p.variables.cells cells clause → BlocksCells p old cells clause
blocks p old cells clause can numbers other = record {
  says = other.says;
  literals = All-weaker (IsNotNumber p.layout p.variables.cells cells) (IsNegatedNote old) negated clause other.literals;
}
  where
    negated : (l : Literal) → IsNotNumber p.layout p.variables.cells cells l → IsNegatedNote old l
    negated l h =
        let x = slice_index_or p.variables.cells h.place 0 in
        let v = slice_index_or cells h.place (pos 0) in
        let values : map (λ one. one.values) p.cells ≡ map (λ y. (literals_at p.layout y).domain) p.variables.cells = sym can.maps.cells.domains ∙ domains_same p.layout p.variables.cells (cells_there p old can) in
        let note = note_at p.layout p.cells p.variables.cells h.place 0 v values h.there (number_had p.layout p.variables.cells cells h.place 0 (pos 0) numbers h.there) in
        record {
          note = note.note;
          noted = subst (λ notes. Contains notes note.note) (sym can.notes) note.noted;
          negated = h.is 0 (pos 0) ∙ ap negation (sym note.lit);
        }

-- one more solution is found
pub listed_more : (p : ProblemState) (budget : ℕ) (old now next : LogState) (found : List (List ℤ)) (s : ℕ → Bool) (cells : List ℤ) → CanSearch p old → ListsNumbers p budget old now found → Satisfies s (givens now.events)
    → IsBlocked p s now next cells → IsSound next.events → nonempty_steps next.events ≤ budget → ListsNumbers p budget old next (found ++ cells ∷ [])
unfolding goes_by_given
listed_more p budget old now next found s cells can h met new sound within =
    let both = (h.left s).0 met in
    let clause = new.clause in
    let numbers = are_numbers p.layout s p.variables.cells cells (cells_there p old can) (means_listed p budget old now found s can h met) new.cells_are in
    let says = blocks p old cells clause can numbers new.blocks in
    let told : (t : ℕ → Bool) → Satisfies t (base_clauses old) → AllTell t p.layout p.variables.cells (decoded_cells p.layout p.variables t) =
    λ t base. all_told p.layout t p.variables.cells (cells_there p old can) (can.meaning t (subst (Satisfies t) (base_is old can.is_base) base)).cells in
    let next_givens : givens next.events ≡ givens now.events ++ clause ∷ [] = ap (λ l. givens l.events) new.new_is ∙ givens_append now.events (given clause ∷ []) in
    record {
      goes = goes_by_given budget old now next clause h.goes new.new_is sound within;
      allowed = All-push (λ one. (goal : Option ℤ) × IsAllowed p old one goal) found cells h.allowed
          (objective_number p.variables (decoded_values p.layout s), record { are_given = record { assignment = s; satisfies = both.0; gives = sym new.cells_are }; drives = refl });
      different = pairs_push ◌≢◌ found cells h.different (All-from_contains (λ one. one ≢ cells) found (λ one there is. both.1 (subst (Contains found) (is ∙ new.cells_are) there)));
      blocked = subst (AllZip (BlocksCells p old) (found ++ cells ∷ [])) (sym (givens_append h.goes.more (given clause ∷ []))) (zip_push (BlocksCells p old) found (givens h.goes.more) cells clause h.blocked says);
      left = λ t. (
        λ all.
            let parts : Satisfies t (givens now.events ++ clause ∷ []) = subst (Satisfies t) next_givens all in
            let before = (h.left t).0 (first_part t (givens now.events) (clause ∷ []) parts) in (
              before.0,
              λ there. elim (Contains-append_cases found (cells ∷ []) (decoded_cells p.layout p.variables t) there) as (λ _. ⊥) [
                | inl w ↦ before.1 w
                | inr w ↦ (says.says t (decoded_cells p.layout p.variables t) (told t before.0)).0 (All-head (SatisfiesClause t) clause [] (second_part t (givens now.events) (clause ∷ []) parts)) (only cells (decoded_cells p.layout p.variables t) w)
              ],
            ),
        λ pair. subst (Satisfies t) (sym next_givens)
            (All-push (SatisfiesClause t) (givens now.events) clause
            ((h.left t).1 (pair.0, λ there. pair.1 (Contains-append_left found (cells ∷ []) (decoded_cells p.layout p.variables t) there)))
            ((says.says t (decoded_cells p.layout p.variables t) (told t pair.0)).1 (λ is. pair.1 (subst (Contains (found ++ cells ∷ [])) (sym is) (Contains-push found cells))))),
      );
    }
  where
    only : (one other : List ℤ) → Contains (one ∷ []) other → other ≡ one
    only one other (zero, low, is) = sym is
    only one other (suc k, low, is) = absurd (omega (arith, low))

-- a listing ends
pub lists : (p : ProblemState) (budget most : ℕ) (old now : LogState) (found : List (List ℤ)) (end : ListingEnd) → CanSearch p old → ListsNumbers p budget old now found → IsRightEnd p budget most now found end → ListsCells p budget most old now found end
lists p budget most old now found end can h right =
    let same = base_stays budget old now can.is_base h.goes in
    record {
      sound = h.goes.sound;
      within = h.goes.within;
      allowed = All-weaker (λ cells. (goal : Option ℤ) × IsAllowed p old cells goal) (λ cells. (goal : Option ℤ) × IsAllowed p now cells goal) (λ cells one. (one.0, allowed_now p old now same cells one.0 one.1)) found h.allowed;
      different = h.different;
      blocked = subst (AllZip (BlocksCells p now) found) (sym (added_are budget old now h.goes)) (all_block found (givens h.goes.more) h.goes.notes h.blocked);
      left = λ cells goal. (
        λ x.
            let s = x.are_given.assignment in
            let both = (h.left s).0 x.are_given.satisfies in (
              record { are_given = record { assignment = s; satisfies = subst (Satisfies s) (sym same) both.0; gives = x.are_given.gives }; drives = x.drives },
              λ there. both.1 (subst (Contains found) (sym x.are_given.gives) there),
            ),
        λ pair.
            let s = pair.0.are_given.assignment in
            record {
              are_given = record {
                assignment = s;
                satisfies = (h.left s).1 (subst (Satisfies s) same pair.0.are_given.satisfies, λ there. pair.1 (subst (Contains found) pair.0.are_given.gives there));
                gives = pair.0.are_given.gives;
              };
              drives = pair.0.drives;
            },
      );
      right_end = right;
    }
  where
    all_block : (fs : List (List ℤ)) (cs : List (List Literal)) → now.notes ≡ old.notes → AllZip (BlocksCells p old) fs cs → AllZip (BlocksCells p now) fs cs
    all_block [] [] notes h2 = tt
    all_block [] (c ∷ cs) notes h2 = h2
    all_block (f ∷ fs) [] notes h2 = h2
    all_block (f ∷ fs) (c ∷ cs) notes h2 = (
      record {
        says = h2.0.says;
        literals = All-weaker (IsNegatedNote old) (IsNegatedNote now) (λ l one. record { note = one.note; noted = subst (λ ns. Contains ns one.note) (sym notes) one.noted; negated = one.negated }) c h2.0.literals;
      },
      all_block fs cs notes h2.1,
    )

-- ---- the three ends

lists_same : (a b : List ℤ) → (a ≡ b) ⊎ (a ≡ b → ⊥)
lists_same [] [] = inl refl
lists_same [] (y ∷ b) = inr (λ e. absurd cc)
lists_same (x ∷ a) [] = inr (λ e. absurd cc)
lists_same (x ∷ a) (y ∷ b) = heads (int_eq x y) refl (lists_same a b)
  where
    heads : (t : Bool) → int_eq x y ≡ t → (a ≡ b) ⊎ (a ≡ b → ⊥) → (x ∷ a ≡ y ∷ b) ⊎ (x ∷ a ≡ y ∷ b → ⊥)
    heads true e (inl same) = inl (ap (λ c. c ∷ a) ((Decides-int_eq x y).0 e) ∙ ap (λ c. y ∷ c) same)
    heads true e (inr differ) = inr (λ all. differ (ap (drop 1) all))
    heads false e rest = inr (λ all. let same : x ≡ y = cc in false≢true (sym e ∙ (Decides-int_eq x y).1 same))

-- numbers were found, or not
found_or_not : (found : List (List ℤ)) (cells : List ℤ) → Contains found cells ⊎ (Contains found cells → ⊥)
found_or_not [] cells = inr (nothing_in cells)
found_or_not (x ∷ xs) cells = by (lists_same x cells) (found_or_not xs cells)
  where
    first_or_later : (x ≡ cells → ⊥) → (Contains xs cells → ⊥) → Contains (x ∷ xs) cells → ⊥
    first_or_later differ none (zero, low, is) = differ is
    first_or_later differ none (suc k, low, is) = none (k, omega (arith, low), is)

    by : (x ≡ cells) ⊎ (x ≡ cells → ⊥) → Contains xs cells ⊎ (Contains xs cells → ⊥) → Contains (x ∷ xs) cells ⊎ (Contains (x ∷ xs) cells → ⊥)
    by (inl same) rest = inl (0, omega arith, same)
    by (inr differ) (inl there) = inl (suc there.0, omega (arith, there.1), there.2)
    by (inr differ) (inr none) = inr (first_or_later differ none)

-- nothing satisfies the givens: all were found
pub right_complete : (p : ProblemState) (budget most : ℕ) (old now : LogState) (found : List (List ℤ)) → CanSearch p old → ListsNumbers p budget old now found → length found < most → EndsWithEmptyStep now.events
    → ((s : ℕ → Bool) → Satisfies s (givens now.events) → ⊥) → IsRightEnd p budget most now found complete
unfolding IsRightEnd
right_complete p budget most old now found can h few ends none = (
  few,
  λ cells goal allowed.
      let s = allowed.are_given.assignment in
      let base : Satisfies s (base_clauses old) = subst (Satisfies s) (base_stays budget old now can.is_base h.goes) allowed.are_given.satisfies in
      elim (found_or_not found (decoded_cells p.layout p.variables s)) as (λ _. Contains found cells) [
        | inl there ↦ subst (Contains found) allowed.are_given.gives there
        | inr missing ↦ absurd (none s ((h.left s).1 (base, missing)))
      ],
  ends,
)

pub right_stopped : (p : ProblemState) (budget most : ℕ) (log : LogState) (found : List (List ℤ)) → length found ≡ most → IsRightEnd p budget most log found stopped
unfolding IsRightEnd
right_stopped p budget most log found is = is

pub right_spent : (p : ProblemState) (budget most : ℕ) (log : LogState) (found : List (List ℤ)) → length found < most → nonempty_steps log.events ≡ budget → NoneIsEmpty log.events → IsRightEnd p budget most log found spent
unfolding IsRightEnd
right_spent p budget most log found few is none = (few, is, none)
