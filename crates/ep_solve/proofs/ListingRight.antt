-- What is listed in the problem of an instance is a right list of its solutions, and the log shows it.
use Rattle.std.proofs.Common.{◌≡◌, ◌≢◌, ◌↔◌, ℕ, ◌<◌, suc, zero, ℤ, List, [], ◌∷◌, length, map, take, Option, refl, sym, ap, subst, ◌∙◌, arith}
use Rattle.std.specs.List.{All, AllPairs, AllZip, Contains}
use Rattle.std.proofs.lemmas.List.{length-map, take-map}
use Rattle.std.proofs.lemmas.List.Elements.{All-contains, All-map, All-tail, All-take, All-weaker}
use Rattle.std.proofs.lemmas.List.Kept.{AllPairs-cons}
use Rattle.cnf_core.specs.Clauses.{SatisfiesClause}
use Rattle.cnf_core.specs.Events.{givens}
use Rattle.cnf_core.specs.Literal.{Literal}
use Rattle.ep_answer.specs.Answered.{BlocksCells, IsNegatedNote, IsRightEnd, ListingEnd, ListsCells, added_givens}
use Rattle.ep_answer.specs.Answered as cells
use Rattle.ep_answer.specs.Problems.{IsAllowed}
use Rattle.enc_var.specs.Layouts.{decoded_cells}
use Rattle.ep_print.specs.Listings.{ListingTree}
use Rattle.ep_tree.specs.Binding.{Instance}
use Rattle.ep_tree.specs.Solutions.{Assigned, Found, IsSolution, IsWritten, found_of, goal_value}
use Rattle.ep_tree.specs.declared.values.Mode.{Mode}
use Rattle.ep_unroll.specs.Cells.{found_numbers, instance_cells}
use Rattle.ep_solve.specs.Listed.{BlocksSolution, EndsRightly, IsListed, IsUnlisted, Lists}
use Rattle.ep_solve.specs.Logged.{TellNumbers, TellSolutions, added_clauses, first_givens}
use Rattle.ep_solve.specs.Reading.{assignment_from, end_from, listing_from}
use Rattle.ep_solve.proofs.Answering.{ReadsSolution}
use Rattle.ep_solve.proofs.Cells.{found-read}
use Rattle.ep_solve.proofs.Leaving.{Agree, Keeps, kept, narrower, stands, tell-solutions}
use Rattle.ep_solve.proofs.Solved.{SearchedFor}
use Rattle.ep_solve.proofs.Stepwise.{Says, added-behind, as-long, not-among, tell-first, zip-mapped, zip-second, zip-weaker, zip-with}
use Rattle.ep_solve.proofs.Telling.{cells-meant, mapped, notes-told}

-- ---- lists of what a function gives of different elements

-- what a function gives of an element, which is made again from it
record Comes {A B : Type 0} (g : A → B) (xs : List A) (y : B) : Type 0 where
  from : A
  there : Contains xs from
  is : g from ≡ y

comes-from : {A B : Type 0} (g : A → B) (xs : List A) (y : B) → Contains (map g xs) y → Comes g xs y
comes-from g [] y found = absurd (omega (arith, found.1))
comes-from g (x ∷ xs) y (zero, low, is) = record { from = x; there = (0, omega arith, refl); is = is }
comes-from g (x ∷ xs) y (suc k, low, is) =
    let q = comes-from g xs y (k, omega (arith, low), is) in
    record { from = q.from; there = (suc q.there.0, omega (arith, q.there.1), q.there.2); is = q.is }

-- where each element can be made again from what is given of it, different elements give different things
stay-different : {A B : Type 0} (g : A → B) (back : B → A) (xs : List A) → All (λ x. back (g x) ≡ x) xs → AllPairs ◌≢◌ xs → AllPairs ◌≢◌ (map g xs)
stay-different g back [] again pairs = λ i j d low high. absurd (omega (arith, high))
stay-different g back (x ∷ xs) again pairs =
    AllPairs-cons ◌≢◌ (g x) (map g xs)
    (All-map (λ y. g x ≢ y) g xs (λ k d low e. pairs 0 (suc k) d (omega arith) (omega (arith, low)) (sym (again 0 d (omega arith)) ∙ ap back e ∙ again (suc k) d (omega (arith, low)))))
    (stay-different g back xs (All-tail (λ y. back (g y) ≡ y) x xs again) (λ i j d low high. pairs (suc i) (suc j) d (omega (arith, low)) (omega (arith, high))))

mapped-twice : {A B C : Type 0} (g : B → C) (f : A → B) (xs : List A) → map g (map f xs) ≡ map (λ x. g (f x)) xs
mapped-twice g f [] = refl
mapped-twice g f (x ∷ xs) = ap (λ ys. g (f x) ∷ ys) (mapped-twice g f xs)

-- ---- numbers of the cells that were found

-- the assignment with these numbers, and what it gives the decision variables
abbrev read-as : Instance → List ℤ → Assigned
read-as i numbers = assignment_from i.finds numbers

abbrev given-by : Instance → List ℤ → Found
given-by i numbers = found_of (read-as i numbers)

-- each numbers of the cells are a solution
abbrev AllSolve : Mode → Instance → List (List ℤ) → Type 0
AllSolve mode i found = All (λ numbers. (goal : Option ℤ) × ReadsSolution mode i numbers goal) found

-- numbers of a solution were found exactly where the solution is listed
listed-as : (mode : Mode) (i : Instance) (found : List (List ℤ)) → AllSolve mode i found → (a : Assigned) (s : IsSolution mode i a)
    → Contains found (found_numbers s.found) ↔ IsListed (map (read-as i) found) s.found
listed-as mode i found all a s = (
  λ there. subst (λ fs. Contains fs s.found) (sym (mapped-twice found_of (read-as i) found))
      (subst (Contains (map (given-by i) found)) (found-read i a s.found s.fits) (mapped (given-by i) found (found_numbers s.found) there)),
  λ there.
      let q = comes-from (given-by i) found s.found (subst (λ fs. Contains fs s.found) (mapped-twice found_of (read-as i) found) there) in
      let at : (goal : Option ℤ) × ReadsSolution mode i q.from goal = All-contains (λ numbers. (goal : Option ℤ) × ReadsSolution mode i numbers goal) found q.from all q.there in
      subst (Contains found) (sym at.1.reads.numbers_are ∙ ap found_numbers q.is) q.there,
)

-- ---- the list

solve-all : (mode : Mode) (i : Instance) (budget most : ℕ) (h : SearchedFor mode i) → Keeps mode i h.p h.new → (found : List (List ℤ)) (end : ListingEnd)
    → ListsCells h.p budget most h.old h.new found end → AllSolve mode i found
solve-all mode i budget most h k found end lists =
    All-weaker (λ numbers. (goal : Option ℤ) × IsAllowed h.p h.new numbers goal) (λ numbers. (goal : Option ℤ) × ReadsSolution mode i numbers goal)
    (λ numbers one. (one.0, k.allows.solves numbers one.0 one.1)) found lists.allowed

-- what is wanted of numbers that weren't found is what is wanted of a solution that isn't listed
unlisted : (mode : Mode) (i : Instance) (found : List (List ℤ)) → AllSolve mode i found → Agree mode i (λ numbers goal. Contains found numbers → ⊥) (IsUnlisted (map (read-as i) found))
unlisted mode i found all a s =
    let both = listed-as mode i found all a s in
    (λ none there. none (both.1 there), λ none there. none (both.0 there))

-- each given that was added says of the cells' numbers that they aren't those of a solution
abbrev Differs : List ℤ → List ℤ → Option ℤ → Type 0
Differs ones numbers goal = numbers ≢ ones

-- each given that was added blocks a solution
blocked-each : (mode : Mode) (i : Instance) (h : SearchedFor mode i) → Keeps mode i h.p h.new → (found : List (List ℤ)) → AllSolve mode i found → AllZip (BlocksCells h.p h.new) found (added_givens h.old h.new)
    → AllZip (BlocksSolution i h.new) (map (read-as i) found) (added_clauses h.new)
blocked-each mode i h k found all blocks =
    zip-mapped (BlocksSolution i h.new) (read-as i) found (added_clauses h.new)
    (zip-with (λ numbers. (goal : Option ℤ) × ReadsSolution mode i numbers goal) (BlocksCells h.p h.new) (λ ones. BlocksSolution i h.new (read-as i ones)) more found (added_clauses h.new) all
    (subst (AllZip (BlocksCells h.p h.new) found) (added-behind mode i h) blocks))
  where
    more : (ones : List ℤ) (clause : List Literal) → ((goal : Option ℤ) × ReadsSolution mode i ones goal) → BlocksCells h.p h.new ones clause → BlocksSolution i h.new (read-as i ones) clause
    more ones clause solves one = record {
      blocks = λ s numbers tell.
          subst (λ ns. SatisfiesClause s clause ↔ (numbers ≢ ns)) (sym solves.1.reads.numbers_are)
          (one.says s numbers (notes-told s h.p.layout (instance_cells i) h.p.variables numbers k.maps (subst (λ notes. TellNumbers s notes (instance_cells i) numbers) k.notes tell)));
    }

-- the first so many givens that were added block the first so many that were listed
blocked-first : (mode : Mode) (i : Instance) (h : SearchedFor mode i) → Keeps mode i h.p h.new → (found : List (List ℤ)) → AllSolve mode i found → AllZip (BlocksCells h.p h.new) found (added_givens h.old h.new)
    → (count : ℕ) → TellSolutions mode i h.new.notes (first_givens h.new count) (IsUnlisted (take count (map (read-as i) found)))
blocked-first mode i h k found all blocks count =
    subst (λ listed. TellSolutions mode i h.new.notes (first_givens h.new count) (IsUnlisted listed)) (sym (take-map (read-as i) count found))
    (tell-first mode i h.p h.new k found Differs say count (IsUnlisted (map (read-as i) (take count found))) agree)
  where
    say : AllZip (Says h.p Differs) found (added_clauses h.new)
    say = subst (AllZip (Says h.p Differs) found) (added-behind mode i h)
        (zip-weaker (BlocksCells h.p h.new) (Says h.p Differs) (λ ones clause one s means. one.says s (decoded_cells h.p.layout h.p.variables s) (cells-meant s h.p.layout (map (λ one. one.values) (instance_cells i)) h.p.variables k.maps means)) found (added_givens h.old h.new) blocks)

    agree : Agree mode i (λ numbers goal. All (λ ones. Differs ones numbers goal) (take count found)) (IsUnlisted (map (read-as i) (take count found)))
    agree a s =
        let among = not-among (take count found) (found_numbers s.found) in
        let both = unlisted mode i (take count found) (All-take (λ numbers. (goal : Option ℤ) × ReadsSolution mode i numbers goal) count found all) a s in
        (λ differ. both.0 (among.0 differ), λ none. among.1 (both.1 none))

-- how the list ends
ends-rightly : (mode : Mode) (i : Instance) (budget most : ℕ) (h : SearchedFor mode i) → Keeps mode i h.p h.new → (found : List (List ℤ)) (end : ListingEnd) → AllSolve mode i found
    → IsRightEnd h.p budget most h.new found end → EndsRightly mode i budget most h.new (map (read-as i) found) (end_from budget end)
unfolding IsRightEnd EndsRightly end_from
ends-rightly mode i budget most h k found cells.complete all right = (
  subst (λ n. n < most) (sym (length-map found (read-as i))) right.0,
  λ a s. (listed-as mode i found all a s).0 (right.1 (found_numbers s.found) (goal_value mode i s.found) (k.allows.allowed a s)),
  right.2,
)
ends-rightly mode i budget most h k found cells.stopped all right = length-map found (read-as i) ∙ right
ends-rightly mode i budget most h k found cells.spent all right = (
  subst (λ n. n < most) (sym (length-map found (read-as i))) right.0,
  refl,
  (right.1, right.2),
)

-- what was listed in the problem of an instance is a right list
pub lists-right : (mode : Mode) (i : Instance) (budget most : ℕ) (found : List (List ℤ)) (end : ListingEnd) (listing : ListingTree) → (h : SearchedFor mode i) → h.new.notes ≡ h.old.notes
    → ListsCells h.p budget most h.old h.new found end → listing ≡ listing_from i.finds budget found end → Lists mode i budget most h.new listing
unfolding listing_from
lists-right mode i budget most found end listing h notes lists same =
    let k : Keeps mode i h.p h.new = kept mode i h notes in
    let all : AllSolve mode i found = solve-all mode i budget most h k found end lists in
    subst (Lists mode i budget most h.new) (sym same) (record {
      stands = stands mode i h k;
      sound = lists.sound;
      within = lists.within;
      solutions = All-map (λ a. IsWritten i a × IsSolution mode i a) (read-as i) found
          (All-weaker (λ numbers. (goal : Option ℤ) × ReadsSolution mode i numbers goal) (λ numbers. IsWritten i (read-as i numbers) × IsSolution mode i (read-as i numbers))
          (λ numbers one. (one.1.reads.fits.values, one.1.solves)) found all);
      different = subst (AllPairs ◌≢◌) (sym (mapped-twice found_of (read-as i) found))
          (stay-different (given-by i) found_numbers found
          (All-weaker (λ numbers. (goal : Option ℤ) × ReadsSolution mode i numbers goal) (λ numbers. found_numbers (given-by i numbers) ≡ numbers) (λ numbers one. one.1.reads.numbers_are) found all) lists.different);
      added = ap length (sym (added-behind mode i h)) ∙ sym (as-long (BlocksCells h.p h.new) found (added_givens h.old h.new) lists.blocked)
          ∙ sym (length-map found (read-as i));
      literals = subst (All (All (IsNegatedNote h.new))) (added-behind mode i h)
          (zip-second (BlocksCells h.p h.new) (All (IsNegatedNote h.new)) (λ ones clause one. one.literals) found (added_givens h.old h.new) lists.blocked);
      blocked = blocked-each mode i h k found all lists.blocked;
      narrows = blocked-first mode i h k found all lists.blocked;
      left = tell-solutions mode i h.p h.new k (givens h.new.events) (λ s met. narrower s h.new.base h.new.events met)
          (λ numbers goal. Contains found numbers → ⊥) (IsUnlisted (map (read-as i) found)) (unlisted mode i found all) lists.left;
      ends = ends-rightly mode i budget most h k found end all lists.right_end;
    })
