-- What satisfies the givens that stand for an instance and the first of those that were added.
use Rattle.std.proofs.Common.{◌≡◌, ◌≢◌, ◌↔◌, ℕ, ◌<◌, suc, zero, ℤ, Bool, List, [], ◌∷◌, ◌++◌, drop, length, take, map, Option, Some, refl, sym, ap, subst, ◌∙◌, arith}
use Rattle.std.specs.Prelude.{slice_get, slice_index_or}
use Rattle.std.specs.List.{All, AllPairs, AllZip, Contains}
use Rattle.std.proofs.Math.Seq.{drop-append_seam, take-append_seam}
use Rattle.std.proofs.lemmas.List.Elements.{All-append, All-cons, All-contains, All-drop, All-head, All-nil, All-tail, All-take}
use Rattle.cnf_core.proofs.Members.{All-from_contains}
use Rattle.cnf_core.specs.Clauses.{Satisfies, SatisfiesClause}
use Rattle.cnf_core.specs.Events.{LogState, givens}
use Rattle.cnf_core.specs.Literal.{Literal}
use Rattle.enc_var.specs.Layouts.{decoded_cells, decoded_values}
use Rattle.ep_answer.specs.Answered.{added_givens}
use Rattle.ep_answer.specs.Problems.{MapMeans, ProblemState, base_clauses}
use Rattle.ep_flat.specs.Flats.{objective_number}
use Rattle.ep_tree.specs.Binding.{Instance}
use Rattle.ep_tree.specs.Solutions.{Found, found_of, goal_value}
use Rattle.ep_tree.specs.declared.values.Mode.{Mode}
use Rattle.ep_unroll.specs.Cells.{found_numbers}
use Rattle.ep_solve.specs.Logged.{AreWanted, SaysOfSolutions, TellSolutions, added_clauses, first_givens}
use Rattle.ep_solve.specs.Reading.{assignment_from}
use Rattle.ep_solve.proofs.Answering.{ReadsSolution}
use Rattle.ep_solve.proofs.Cells.{numbers-same}
use Rattle.ep_solve.proofs.Leaving.{Agree, Keeps, are-wanted, tell-solutions, told}
use Rattle.ep_solve.proofs.Solved.{SearchedFor}

-- ---- two lists, place by place

pub as-long : {A B : Type 0} (R : A → B → Type 0) (xs : List A) (ys : List B) → AllZip R xs ys → length xs ≡ length ys
as-long R [] [] all = refl
as-long R [] (y ∷ ys) all = absurd all
as-long R (x ∷ xs) [] all = absurd all
as-long R (x ∷ xs) (y ∷ ys) all = ap suc (as-long R xs ys all.1)

pub zip-weaker : {A B : Type 0} (R S : A → B → Type 0) → ((x : A) (y : B) → R x y → S x y) → (xs : List A) (ys : List B) → AllZip R xs ys → AllZip S xs ys
zip-weaker R S more [] [] all = tt
zip-weaker R S more [] (y ∷ ys) all = absurd all
zip-weaker R S more (x ∷ xs) [] all = absurd all
zip-weaker R S more (x ∷ xs) (y ∷ ys) all = (more x y all.0, zip-weaker R S more xs ys all.1)

pub zip-second : {A B : Type 0} (R : A → B → Type 0) (P : B → Type 0) → ((x : A) (y : B) → R x y → P y) → (xs : List A) (ys : List B) → AllZip R xs ys → All P ys
zip-second R P more [] [] all = All-nil P
zip-second R P more [] (y ∷ ys) all = absurd all
zip-second R P more (x ∷ xs) [] all = absurd all
zip-second R P more (x ∷ xs) (y ∷ ys) all = All-cons P y ys (more x y all.0) (zip-second R P more xs ys all.1)

pub zip-mapped : {A B C : Type 0} (R : B → C → Type 0) (f : A → B) (xs : List A) (ys : List C) → AllZip (λ x y. R (f x) y) xs ys → AllZip R (map f xs) ys
zip-mapped R f [] [] all = tt
zip-mapped R f [] (y ∷ ys) all = absurd all
zip-mapped R f (x ∷ xs) [] all = absurd all
zip-mapped R f (x ∷ xs) (y ∷ ys) all = (all.0, zip-mapped R f xs ys all.1)

pub zip-with : {A B : Type 0} (P : A → Type 0) (R S : A → B → Type 0) → ((x : A) (y : B) → P x → R x y → S x y) → (xs : List A) (ys : List B) → All P xs → AllZip R xs ys → AllZip S xs ys
zip-with P R S more [] [] each all = tt
zip-with P R S more [] (y ∷ ys) each all = absurd all
zip-with P R S more (x ∷ xs) [] each all = absurd all
zip-with P R S more (x ∷ xs) (y ∷ ys) each all = (more x y (All-head P x xs each) all.0, zip-with P R S more xs ys (All-tail P x xs each) all.1)

-- ---- elements of a list

-- where an element stands, and that it does
pub stands-at : {A : Type 0} (xs : List A) (k : ℕ) (x d : A) → slice_get xs k ≡ Some x → (k < length xs) × (slice_index_or xs k d ≡ x)
stands-at [] k x d h = absurd cc
stands-at (y ∷ xs) zero x d h = (omega arith, cc)
stands-at (y ∷ xs) (suc k) x d h = let q = stands-at xs k x d h in (omega (arith, q.0), q.1)

-- what holds of the first elements holds of the last one of them
pub last-holds : {A : Type 0} (P : A → Type 0) (xs : List A) (k : ℕ) (x : A) → slice_get xs k ≡ Some x → All P (take (suc k) xs) → P x
last-holds P [] k x h all = absurd cc
last-holds P (y ∷ xs) zero x h all = let same : y ≡ x = cc in subst P same (All-head P y (take zero xs) all)
last-holds P (y ∷ xs) (suc k) x h all = last-holds P xs k x h (All-tail P y (take (suc k) xs) all)

-- where something holds of each earlier element as soon as it does of a later one, it holds of the first ones where it holds of the
-- last of them
pub first-hold : {A : Type 0} (R : A → A → Type 0) (P : A → Type 0) → ((x y : A) → R x y → P y → P x) → (xs : List A) (k : ℕ) (x : A) → AllPairs R xs → slice_get xs k ≡ Some x → P x → All P (take (suc k) xs)
first-hold R P more [] k x pairs h holds = absurd cc
first-hold R P more (y ∷ xs) zero x pairs h holds = let same : y ≡ x = cc in All-cons P y (take zero xs) (subst P (sym same) holds) (All-nil P)
first-hold R P more (y ∷ xs) (suc k) x pairs h holds =
    let at = stands-at xs k x x h in
    All-cons P y (take (suc k) xs) (more y x (subst (R y) at.1 (pairs 0 (suc k) x (omega arith) (omega (arith, at.0)))) holds)
    (first-hold R P more xs k x (λ i j d low high. pairs (suc i) (suc j) d (omega (arith, low)) (omega (arith, high))) h holds)

-- something isn't among elements exactly where it differs from each
pub not-among : {A : Type 0} (xs : List A) (y : A) → All (λ x. y ≢ x) xs ↔ (Contains xs y → ⊥)
not-among xs y = (
  λ all there. All-contains (λ x. y ≢ x) xs y all there refl,
  λ none. All-from_contains (λ x. y ≢ x) xs (λ x there e. none (subst (Contains xs) (sym e) there)),
)

-- ---- the first clauses of a list

-- where each clause says something of an element, the first so many say it of as many elements
first-say : {A : Type 0} (s : ℕ → Bool) (P : A → Type 0) (xs : List A) (cs : List (List Literal)) → AllZip (λ x c. SatisfiesClause s c ↔ P x) xs cs → (n : ℕ) → Satisfies s (take n cs) ↔ All P (take n xs)
first-say s P xs cs all zero = (λ met. All-nil P, λ h. All-nil (SatisfiesClause s))
first-say s P [] [] all (suc n) = (λ met. All-nil P, λ h. All-nil (SatisfiesClause s))
first-say s P [] (c ∷ cs) all (suc n) = absurd all
first-say s P (x ∷ xs) [] all (suc n) = absurd all
first-say s P (x ∷ xs) (c ∷ cs) all (suc n) =
    let later = first-say s P xs cs all.1 n in (
      λ met. All-cons P x (take n xs) (all.0.0 (All-head (SatisfiesClause s) c (take n cs) met)) (later.0 (All-tail (SatisfiesClause s) c (take n cs) met)),
      λ h. All-cons (SatisfiesClause s) c (take n cs) (all.0.1 (All-head P x (take n xs) h)) (later.1 (All-tail P x (take n xs) h)),
    )

front-met : (s : ℕ → Bool) (xs ys : List (List Literal)) → Satisfies s (xs ++ ys) → Satisfies s xs
front-met s xs ys met = subst (Satisfies s) (take-append_seam xs ys) (All-take (SatisfiesClause s) (length xs) (xs ++ ys) met)

back-met : (s : ℕ → Bool) (xs ys : List (List Literal)) → Satisfies s (xs ++ ys) → Satisfies s ys
back-met s xs ys met = subst (Satisfies s) (drop-append_seam xs ys) (All-drop (SatisfiesClause s) (length xs) (xs ++ ys) met)

-- ---- the givens of a log

-- the givens that were added to a problem's log stand behind its base
pub added-behind : (mode : Mode) (i : Instance) (h : SearchedFor mode i) → added_givens h.old h.new ≡ added_clauses h.new
added-behind mode i h = ap (λ n. givens (drop n h.new.events)) (sym (h.base ∙ h.poses.is_base))

-- what a clause says of an element, wherever the literals mean what they say
abbrev pub Says : {A : Type 0} → ProblemState → (A → List ℤ → Option ℤ → Type 0) → A → List Literal → Type 0
Says p P x clause =
    (s : ℕ → Bool) → MapMeans s p.layout p.variables
    → SatisfiesClause s clause ↔ P x (decoded_cells p.layout p.variables s) (objective_number p.variables (decoded_values p.layout s))

-- what a clause says of numbers of the cells it says of solutions, where the one is so exactly where the other is wanted
pub says-of-solutions : {A : Type 0} (mode : Mode) (i : Instance) (p : ProblemState) (log : LogState) → Keeps mode i p log → (P : A → List ℤ → Option ℤ → Type 0) (x : A) (wanted : Found → Type 0) (clause : List Literal)
    → Agree mode i (P x) wanted → Says p P x clause → SaysOfSolutions mode i log wanted clause
says-of-solutions mode i p log k P x wanted clause agree say = record {
  says = λ s met.
      let numbers : List ℤ = decoded_cells p.layout p.variables s in
      let goal : Option ℤ = objective_number p.variables (decoded_values p.layout s) in
      let solves : ReadsSolution mode i numbers goal = k.allows.solves numbers goal (record { are_given = record { assignment = s; satisfies = met; gives = refl }; drives = refl }) in
      let one = say s (k.meaning s met) in
      (numbers, told mode i p log k s met, (λ holds. are-wanted mode i numbers goal (P x) wanted agree solves (one.0 holds), λ is. one.1 (back numbers goal solves is)));
}
  where
    back : (numbers : List ℤ) (goal : Option ℤ) → ReadsSolution mode i numbers goal → AreWanted mode i wanted numbers → P x numbers goal
    back numbers goal solves w =
        let same : w.solves.found ≡ found_of (assignment_from i.finds numbers) = numbers-same i w.assigned (assignment_from i.finds numbers) w.solves.found (found_of (assignment_from i.finds numbers)) w.solves.fits solves.reads.fits
        (w.numbers_are ∙ sym solves.reads.numbers_are) in
        subst (λ ns. P x ns goal) w.numbers_are (subst (P x (found_numbers w.solves.found)) (ap (goal_value mode i) same ∙ solves.valued) ((agree w.assigned w.solves).1 w.is_wanted))

-- Where each given that was added says something of an element, what satisfies the givens of the base and the first so many of them
-- are exactly the solutions of which it is so of as many elements.
pub tell-first : {A : Type 0} (mode : Mode) (i : Instance) (p : ProblemState) (log : LogState) → Keeps mode i p log → (xs : List A) (P : A → List ℤ → Option ℤ → Type 0) → AllZip (Says p P) xs (added_clauses log)
    → (n : ℕ) (V : Found → Type 0) → Agree mode i (λ numbers goal. All (λ x. P x numbers goal) (take n xs)) V
    → TellSolutions mode i log.notes (first_givens log n) V
tell-first {A} mode i p log k xs P say n V agree =
    let own : List (List Literal) = base_clauses log in
    let more : List (List Literal) = take n (added_clauses log) in
    let W : List ℤ → Option ℤ → Type 0 = λ numbers goal. All (λ x. P x numbers goal) (take n xs) in
    tell-solutions mode i p log k (first_givens log n) (λ s met. front-met s own more met) W V agree (λ numbers goal. (
      λ gives.
          let s : ℕ → Bool = gives.are_given.assignment in
          let met : Satisfies s own = front-met s own more gives.are_given.satisfies in
          let so : W (decoded_cells p.layout p.variables s) (objective_number p.variables (decoded_values p.layout s)) = (says s met).0 (back-met s own more gives.are_given.satisfies) in (
            record { are_given = record { assignment = s; satisfies = met; gives = gives.are_given.gives }; drives = gives.drives },
            subst (λ ns. W ns goal) gives.are_given.gives (subst (W (decoded_cells p.layout p.variables s)) gives.drives so),
          ),
      λ both.
          let s : ℕ → Bool = both.0.are_given.assignment in
          let met : Satisfies s own = both.0.are_given.satisfies in
          let so : W (decoded_cells p.layout p.variables s) (objective_number p.variables (decoded_values p.layout s)) =
          subst (W (decoded_cells p.layout p.variables s)) (sym both.0.drives) (subst (λ ns. W ns goal) (sym both.0.are_given.gives) both.1) in
          record {
            are_given = record { assignment = s; satisfies = All-append (SatisfiesClause s) own more met ((says s met).1 so); gives = both.0.are_given.gives };
            drives = both.0.drives;
          },
    ))
  where
    says : (s : ℕ → Bool) → Satisfies s (base_clauses log) → Satisfies s (take n (added_clauses log)) ↔ All (λ x. P x (decoded_cells p.layout p.variables s) (objective_number p.variables (decoded_values p.layout s))) (take n xs)
    says s met =
        let Now : A → Type 0 = λ x. P x (decoded_cells p.layout p.variables s) (objective_number p.variables (decoded_values p.layout s)) in
        first-say s Now xs (added_clauses log) (zip-weaker (Says p P) (λ x c. SatisfiesClause s c ↔ Now x) (λ x c one. one s (k.meaning s met)) xs (added_clauses log) say) n
