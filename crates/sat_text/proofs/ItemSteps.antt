-- Reading items one after the other, as a loop does.
use Rattle.std.proofs.Common.{◌≡◌, ◌<◌, ◌^◌, to_z, of_z, w64, ℕ, zero, suc, ℤ, pos, negsuc, arith, Bool, true, false, cond, List, [], ◌∷◌, ◌++◌, Option, Some, None, refl, sym, ap, subst, ◌∙◌, append_assoc}
use Rattle.std.proofs.lemmas.List.{append-nil}
use Rattle.std.specs.Prelude.{unsigned_abs}
use Rattle.std.proofs.lemmas.Int.{ints, to_z-of_z}
use Rattle.sat_text.specs.Numbers.{whole_of}
use Rattle.sat_text.specs.Clauses.{is_zero}
use Rattle.std.proofs.lemmas.Bool.Decides.{nat_tests}
use Rattle.sat_text.specs.declared.faults.Fault.{Fault}
use Rattle.sat_text.specs.declared.faults.Fault.TheVariants.{Memory, Wrong}
use Rattle.sat_text.specs.Answers.{◌>>=◌, Fails}
use Rattle.sat_text.specs.Proofs.{whole_at, items_at}

-- what was read before, and what is still read
abbrev pub with_front : {X : Type 0} → List X → Option (List X × List (List ℕ)) → Option (List X × List (List ℕ))
with_front front read = read >>= λ x. Some (front ++ x.0, x.1)

abbrev read_item : {X : Type 0} (item : ℤ → Option X) (n : ℤ) (later : List (List ℕ)) → Option (List X × List (List ℕ))
read_item item n later = cond (is_zero n) (Some ([], later)) (item n >>= λ x. items_at item later >>= λ others. Some (x ∷ others.0, others.1))

abbrev paired : List (List ℕ) → ℤ → Option (ℤ × List (List ℕ))
paired ws m = Some (m, ws)

first_item : {X : Type 0} (item : ℤ → Option X) (w : Option ℤ) (n : ℤ) (ws later : List (List ℕ)) → (w >>= paired ws) ≡ Some (n, later)
    → (w >>= λ m. read_item item m ws) ≡ read_item item n later
first_item item None n ws later e = absurd cc
first_item item (Some m) n ws later e =
    let pair : (m, ws) ≡ (n, later) = cc in
    ap (λ (p : ℤ × List (List ℕ)). read_item item p.0 p.1) pair

items_step : {X : Type 0} (item : ℤ → Option X) (ws : List (List ℕ)) (n : ℤ) (later : List (List ℕ)) → whole_at ws ≡ Some (n, later) → items_at item ws ≡ read_item item n later
unfolding whole_at items_at
items_step item [] n later e = absurd cc
items_step item (w ∷ ws) n later e = first_item item (whole_of w) n ws later e

none_item : {X : Type 0} (w : Option ℤ) (ws : List (List ℕ)) (f : ℤ → Option X) → (w >>= paired ws) ≡ None → (w >>= f) ≡ None
none_item None ws f e = refl
none_item (Some m) ws f e = absurd cc

items_none : {X : Type 0} (item : ℤ → Option X) (ws : List (List ℕ)) → whole_at ws ≡ None → items_at item ws ≡ None
unfolding whole_at items_at
items_none item [] e = refl
items_none item (w ∷ ws) e = none_item (whole_of w) ws (λ m. read_item item m ws) e

pub item_stops : {X : Type 0} (item : ℤ → Option X) (front : List X) (ws : List (List ℕ)) (total : Option (List X × List (List ℕ))) → whole_at ws ≡ None → with_front front (items_at item ws) ≡ total → total ≡ None
item_stops item front ws total e so_far = sym so_far ∙ ap (with_front front) (items_none item ws e)

pub item_ends : {X : Type 0} (item : ℤ → Option X) (front : List X) (ws : List (List ℕ)) (n : ℤ) (later : List (List ℕ)) (total : Option (List X × List (List ℕ))) → whole_at ws ≡ Some (n, later) → is_zero n ≡ true
    → with_front front (items_at item ws) ≡ total → total ≡ Some (front, later)
item_ends item front ws n later total e z so_far =
    let step : items_at item ws ≡ Some ([], later) = items_step item ws n later e ∙ rw z refl in
    sym so_far ∙ ap (with_front front) step ∙ ap (λ (xs : List _). Some (xs, later)) (append-nil front)

pub item_wrong : {X : Type 0} (item : ℤ → Option X) (front : List X) (ws : List (List ℕ)) (n : ℤ) (later : List (List ℕ)) (total : Option (List X × List (List ℕ))) → whole_at ws ≡ Some (n, later) → is_zero n ≡ false
    → item n ≡ None → with_front front (items_at item ws) ≡ total → total ≡ None
item_wrong item front ws n later total e z i so_far =
    let step : items_at item ws ≡ None = items_step item ws n later e ∙ rw (z, i) refl in
    sym so_far ∙ ap (with_front front) step

regroup : {X : Type 0} (front : List X) (x : X) (read : Option (List X × List (List ℕ))) → with_front front (read >>= λ others. Some (x ∷ others.0, others.1)) ≡ with_front (front ++ x ∷ []) read
regroup front x None = refl
regroup front x (Some found) = ap (λ (xs : List _). Some (xs, found.1)) (simp append_assoc)

pub item_more : {X : Type 0} (item : ℤ → Option X) (front : List X) (ws : List (List ℕ)) (n : ℤ) (x : X) (later : List (List ℕ)) (total : Option (List X × List (List ℕ))) → whole_at ws ≡ Some (n, later) → is_zero n ≡ false
    → item n ≡ Some x → with_front front (items_at item ws) ≡ total → with_front (front ++ x ∷ []) (items_at item later) ≡ total
item_more item front ws n x later total e z i so_far =
    let step : items_at item ws ≡ (items_at item later >>= λ others. Some (x ∷ others.0, others.1)) = items_step item ws n later e ∙ rw (z, i) refl in
    sym (ap (with_front front) step ∙ regroup front x (items_at item later)) ∙ so_far

pub start : {X : Type 0} (read : Option (List X × List (List ℕ))) → with_front [] read ≡ read
start None = refl
start (Some found) = refl

pub item_fails : {X : Type 0} (item : ℤ → Option X) (e : Fault) (front : List X) (ws : List (List ℕ)) (total : Option (List X × List (List ℕ))) → Fails e (whole_at ws) → with_front front (items_at item ws) ≡ total → Fails e total
item_fails item Memory front ws total h so_far = tt
item_fails item Wrong front ws total h so_far = item_stops item front ws total h so_far

pub item_refused : {X : Type 0} (item : ℤ → Option X) (e : Fault) (front : List X) (ws : List (List ℕ)) (n : ℤ) (later : List (List ℕ)) (total : Option (List X × List (List ℕ))) → whole_at ws ≡ Some (n, later) → is_zero n ≡ false
    → Fails e (item n) → with_front front (items_at item ws) ≡ total → Fails e total
item_refused item Memory front ws n later total e z i so_far = tt
item_refused item Wrong front ws n later total e z i so_far = item_wrong item front ws n later total e z i so_far

pub zero_is : (n : ℤ) → n ≡ pos 0 → is_zero n ≡ true
zero_is n e = rw e refl

pub zero_not : (n : ℤ) → (n ≡ pos 0 → ⊥) → is_zero n ≡ false
zero_not (pos zero) ne = absurd (ne refl)
zero_not (pos (suc n)) ne = grind (arith, nat_tests)
zero_not (negsuc n) ne = refl

-- a number of at most eighteen digits is stored as it is
pub stored : (n : ℤ) → unsigned_abs n < 10 ^ 18 → to_z w64 (of_z w64 n) ≡ n
stored (pos k) small = to_z-of_z w64 (pos k) (grind (arith, ints))
stored (negsuc k) small = to_z-of_z w64 (negsuc k) (grind (arith, ints))

pub zero_stored : (n : ℤ) (result answer : Bool) → unsigned_abs n < 10 ^ 18 → result ≡ is_zero (to_z w64 (of_z w64 n)) → result ≡ answer → is_zero n ≡ answer
zero_stored n result answer small e r = subst (λ (m : ℤ). is_zero m ≡ answer) (stored n small) (sym e ∙ r)
