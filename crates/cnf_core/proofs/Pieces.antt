-- Lists that lie one behind the other: one of them, and one more.
use Rattle.std.proofs.Common.{◌≡◌, ◌⊎◌, inl, inr, ℕ, zero, suc, ◌+◌, ◌-◌, ◌<◌, ◌≤◌, true, false, leb, List, [], ◌∷◌, ◌++◌, length, take, drop, slice_index, refl, sym, ap, subst, ◌∙◌, length-append, arith}
use Rattle.std.specs.Prelude.{All, slice_index_or}
use Rattle.std.specs.List.{AllByRecursion}
use Rattle.std.proofs.lemmas.Bool.Decides.{nat_tests}
use Rattle.std.proofs.lemmas.List.{length-drop, take-append-le, drop-append-le, take_all}
use Rattle.std.proofs.lemmas.List.Elements.{All-from_recursion, All-push, recursion_from_All}
use Rattle.std.proofs.Math.Seq.{drop-append_seam}
use Rattle.cnf_core.specs.Literal.{Literal, IsClause}
use Rattle.cnf_core.specs.Pieces.{last_end, lists_from, part_of, start_of}
use Rattle.cnf_core.specs.ClauseListInside.{AreClauses, clauses_in}
use Rattle.cnf_core.specs.declared.lists.ClauseList.TheInside.{Inside}

-- ---- parts

pub part_grown : {X : Type 0} (xs ys : List X) (from until : ℕ) → until ≤ length xs → part_of (xs ++ ys) from until ≡ part_of xs from until
part_grown xs ys from until there =
    let long : leb until (length (xs ++ ys)) ≡ true = grind (arith, nat_tests, length-append) in
    let was : leb until (length xs) ≡ true = grind (arith, nat_tests) in
    elim (ordered from until) [
      | inl le ↦
          let first : leb from until ≡ true = grind (arith, nat_tests) in
          let dropped : drop from (xs ++ ys) ≡ drop from xs ++ ys = drop-append-le from xs ys (omega arith) in
          let size : length (drop from xs) ≡ length xs - from = length-drop from xs in
          rw (first, long, was) (ap (take (until - from)) dropped ∙ take-append-le (until - from) (drop from xs) ys (omega (arith, size)))
      | inr gt ↦
          let first : leb from until ≡ false = grind (arith, nat_tests) in
          rw first refl
    ]
  where
    ordered : (a b : ℕ) → (a ≤ b) ⊎ (b < a)
    ordered a b = grind arith

part_added : {X : Type 0} (xs ys : List X) → part_of (xs ++ ys) (length xs) (length (xs ++ ys)) ≡ ys
part_added xs ys =
    let size : length (xs ++ ys) ≡ length xs + length ys = length-append xs ys in
    let first : leb (length xs) (length (xs ++ ys)) ≡ true = grind (arith, nat_tests) in
    let last : leb (length (xs ++ ys)) (length (xs ++ ys)) ≡ true = grind (arith, nat_tests) in
    rw (first, last) (ap (take (length (xs ++ ys) - length xs)) (drop-append_seam xs ys) ∙ take_all (length (xs ++ ys) - length xs) ys (omega (arith, size)))

-- what a list has got at its end is its part from there on
pub part_last : {X : Type 0} (old new more : List X) (from until : ℕ) → new ≡ old ++ more → from ≡ length old → until ≡ length new → part_of new from until ≡ more
part_last {X} old new more from until is begin end =
    ap (λ (n : ℕ). part_of new n until) begin ∙ ap (part_of new (length old)) end
    ∙ ap (λ (xs : List X). part_of xs (length old) (length xs)) is ∙ part_added old more

-- ---- lists

pub lists_length : {X : Type 0} (all : List X) (from : ℕ) (ends : List ℕ) → length (lists_from all from ends) ≡ length ends
lists_length all from [] = refl
lists_length all from (end ∷ ends) = ap suc (lists_length all end ends)

pub start_first : (from : ℕ) (ends : List ℕ) (k : ℕ) → k ≡ 0 → from ≡ start_of from ends k
start_first from ends zero e = refl
start_first from ends (suc k) e = absurd (omega arith)

pub start_behind : (from : ℕ) (ends : List ℕ) (k : ℕ) → 0 < k → slice_index ends (k - 1) ≡ start_of from ends k
start_behind from ends zero lt = absurd (omega arith)
start_behind from ends (suc k) lt = let back : suc k - 1 ≡ k = omega arith in ap (slice_index ends) back

start_next : (from end : ℕ) (ends : List ℕ) (k : ℕ) → start_of end ends k ≡ start_of from (end ∷ ends) (suc k)
start_next from end ends zero = refl
start_next from end ends (suc k) = refl

-- the list of a number
pub list_there : {X : Type 0} (all : List X) (from : ℕ) (ends : List ℕ) (k : ℕ) → k < length ends → slice_index_or (lists_from all from ends) k [] ≡ part_of all (start_of from ends k) (slice_index ends k)
list_there all from [] k lt = absurd (omega arith)
list_there all from (end ∷ ends) zero lt = refl
list_there all from (end ∷ ends) (suc k) lt =
    list_there all end ends k (omega arith) ∙ ap (λ (n : ℕ). part_of all n (slice_index ends k)) (start_next from end ends k)

lists_grown : {X : Type 0} (all more : List X) (from : ℕ) (ends : List ℕ) → AllByRecursion (λ end. end ≤ length all) ends → lists_from (all ++ more) from ends ≡ lists_from all from ends
lists_grown all more from [] has = refl
lists_grown {X} all more from (end ∷ ends) has =
    ap (λ (list : List X). list ∷ lists_from (all ++ more) end ends) (part_grown all more from end has.0)
    ∙ ap (λ (lists : List (List X)). part_of all from end ∷ lists) (lists_grown all more end ends has.1)

lists_push : {X : Type 0} (all : List X) (from : ℕ) (ends : List ℕ) (end : ℕ) → lists_from all from (ends ++ end ∷ []) ≡ lists_from all from ends ++ part_of all (last_end from ends) end ∷ []
lists_push all from [] end = refl
lists_push {X} all from (first ∷ ends) end = ap (λ (lists : List (List X)). part_of all from first ∷ lists) (lists_push all first ends end)

pub last_push : (from : ℕ) (ends : List ℕ) (end : ℕ) → last_end from (ends ++ end ∷ []) ≡ end
last_push from [] end = refl
last_push from (first ∷ ends) end = last_push first ends end

-- a list more
pub list_added : {X : Type 0} (all grown more : List X) (ends : List ℕ) (end : ℕ) → grown ≡ all ++ more → end ≡ length grown → All (λ e. e ≤ length all) ends → last_end 0 ends ≡ length all
    → lists_from grown 0 (ends ++ end ∷ []) ≡ lists_from all 0 ends ++ more ∷ []
list_added {X} all grown more ends end is at within whole =
    lists_push grown 0 ends end
    ∙ ap (λ (list : List X). lists_from grown 0 ends ++ list ∷ []) (part_last all grown more (last_end 0 ends) end is whole at)
    ∙ ap (λ (lists : List (List X)). lists ++ more ∷ [])
    (ap (λ (xs : List X). lists_from xs 0 ends) is ∙ lists_grown all more 0 ends (recursion_from_All (λ e. e ≤ length all) ends within))

pub within_more : {X : Type 0} (all grown more : List X) (ends : List ℕ) → grown ≡ all ++ more → AllByRecursion (λ e. e ≤ length all) ends → AllByRecursion (λ e. e ≤ length grown) ends
within_more all grown more [] is has = tt
within_more all grown more (end ∷ ends) is has =
    let size : length grown ≡ length all + length more = ap length is ∙ length-append all more in
    let here = has.0 in
    (omega (arith, size, here), within_more all grown more ends is has.1)

-- ---- clauses

-- a clause more
pub one_more : (old new : Inside) (clause : List Literal) (end : ℕ) → new.literals.items ≡ old.literals.items ++ clause → new.ends.items ≡ old.ends.items ++ end ∷ [] → end ≡ length new.literals.items
    → AreClauses old → IsClause clause → AreClauses new × (clauses_in new ≡ clauses_in old ++ clause ∷ [])
one_more old new clause end lits ends at are here =
    let size : length new.literals.items ≡ length old.literals.items + length clause = ap length lits ∙ length-append old.literals.items clause in
    let within : All (λ e. e ≤ length new.literals.items) old.ends.items
    = All-from_recursion (λ e. e ≤ length new.literals.items) old.ends.items
    (within_more old.literals.items new.literals.items clause old.ends.items lits (recursion_from_All (λ e. e ≤ length old.literals.items) old.ends.items are.within)) in
    let lists : clauses_in new ≡ clauses_in old ++ clause ∷ []
    = ap (lists_from new.literals.items 0) ends
    ∙ list_added old.literals.items new.literals.items clause old.ends.items end lits at are.within are.whole in (
      record {
        within = subst (All (λ e. e ≤ length new.literals.items)) (sym ends) (All-push (λ e. e ≤ length new.literals.items) old.ends.items end within (omega (arith, at)));
        whole = ap (last_end 0) ends ∙ last_push 0 old.ends.items end ∙ at;
        clauses = subst (All IsClause) (sym lists) (All-push IsClause (clauses_in old) clause are.clauses here);
      },
      lists,
    )

-- the same lists
pub none_more : (old new : Inside) → new.literals.items ≡ old.literals.items → new.ends.items ≡ old.ends.items → AreClauses old → AreClauses new × (clauses_in new ≡ clauses_in old)
none_more old new lits ends are =
    let lists : clauses_in new ≡ clauses_in old = ap (λ (xs : List Literal). lists_from xs 0 new.ends.items) lits ∙ ap (lists_from old.literals.items 0) ends in (
      record {
        within = subst (λ (xs : List Literal). All (λ e. e ≤ length xs) new.ends.items) (sym lits) (subst (All (λ e. e ≤ length old.literals.items)) (sym ends) are.within);
        whole = ap (last_end 0) ends ∙ are.whole ∙ ap length (sym lits);
        clauses = subst (All IsClause) (sym lists) are.clauses;
      },
      lists,
    )
