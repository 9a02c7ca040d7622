-- The ids under which lines add, and what is live behind one line more.
use Rattle.std.proofs.Common.{◌≡◌, ℕ, ℤ, ◌<◌, Bool, true, false, ltb, ◌&&◌, List, [], ◌∷◌, ◌++◌, fold, refl, sym, ap, ◌∙◌, arith}
use Rattle.std.specs.List.{list_all}
use Rattle.std.proofs.lemmas.Bool.{ltb-true}
use Rattle.std.proofs.lemmas.Bool.Decides.{nat_tests}
use Rattle.std.proofs.Math.Bool.{and-true}
use Rattle.cnf_core.specs.Literal.{Literal}
use Rattle.cnf_core.specs.Lines.{ProofLine, add, delete}
use Rattle.log_check.specs.Verdict.{Live, live_after, added_ids}

pub and_left : (a b : Bool) → (a && b) ≡ true → a ≡ true
and_left true b e = refl
and_left false b e = e

pub both_below : (m n id : ℕ) → ltb m n ≡ true → (ltb m id && ltb n id) ≡ ltb n id
both_below m n id e =
    let lt : m < n = ltb-true _ _ e in
    grind (arith, nat_tests)

and_assoc : (a b c : Bool) → ((a && b) && c) ≡ (a && (b && c))
and_assoc true b c = refl
and_assoc false b c = refl

pub all_push : (p : ℕ → Bool) (xs : List ℕ) (x : ℕ) → list_all p (xs ++ x ∷ []) ≡ (list_all p xs && p x)
all_push p [] x = and-true (p x)
all_push p (y ∷ ys) x = ap (λ b. p y && b) (all_push p ys x) ∙ sym (and_assoc (p y) (list_all p ys) (p x))

pub added_push : (lines : List ProofLine) (id : ℕ) (clause : List Literal) (hints : List ℤ) → added_ids (lines ++ add id clause hints ∷ []) ≡ added_ids lines ++ id ∷ []
added_push [] id clause hints = refl
added_push (add i c h ∷ lines) id clause hints = ap (λ (ids : List ℕ). i ∷ ids) (added_push lines id clause hints)
added_push (delete ids ∷ lines) id clause hints = added_push lines id clause hints

pub added_push_delete : (lines : List ProofLine) (gone : List ℕ) → added_ids (lines ++ delete gone ∷ []) ≡ added_ids lines
added_push_delete [] gone = refl
added_push_delete (add i c h ∷ lines) gone = ap (λ (ids : List ℕ). i ∷ ids) (added_push_delete lines gone)
added_push_delete (delete ids ∷ lines) gone = added_push_delete lines gone

pub live_push : (start : List Live) (lines : List ProofLine) (line : ProofLine) → fold live_after start (lines ++ line ∷ []) ≡ live_after (fold live_after start lines) line
live_push start [] line = refl
live_push start (l ∷ lines) line = live_push (live_after start l) lines line
