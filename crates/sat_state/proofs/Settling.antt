-- Trails that begin with another, and elements that a count leaves out.
use Rattle.std.proofs.Common.{◌≡◌, zero, suc, ◌+◌, ◌≤◌, Bool, true, false, List, [], ◌∷◌, ◌++◌, length, take, drop, count_by, Contains, refl, sym, ap, ◌∙◌, inl, inr, ◌⊎◌, ⊎_elim, arith}
use Rattle.std.proofs.lemmas.List.{take-append-drop, length-take, take-take}
use Rattle.std.proofs.lemmas.List.Sums.{sum_by-cons, count_by-le-length}
use Rattle.sat_state.specs.Trail.{Entry}
use Rattle.sat_state.proofs.Counts.{one_if}

Contains-cons : {X : Type 0} (x y : X) (xs : List X) → Contains (x ∷ xs) y → (x ≡ y) ⊎ Contains xs y
Contains-cons x y xs (zero, h, e) = inl e
Contains-cons x y xs (suc k, h, e) = inr (k, omega arith, e)

count_cons : {X : Type 0} (p : X → Bool) (x : X) (xs : List X) (b : Bool) → p x ≡ b → count_by p (x ∷ xs) ≡ one_if b + count_by p xs
count_cons p x xs b e = sum_by-cons (λ y. one_if (p y)) x xs ∙ ap (λ (c : Bool). one_if c + count_by p xs) e

one_at_most : (b : Bool) → one_if b ≤ 1
one_at_most true = omega arith
one_at_most false = omega arith

-- an element that fails the test isn't counted
pub one_fails : {X : Type 0} (p : X → Bool) (xs : List X) (u : X) → Contains xs u → p u ≡ false → count_by p xs + 1 ≤ length xs
one_fails p [] u (k, h, e) fails = absurd (omega arith)
one_fails p (x ∷ xs) u has fails = ⊎_elim
    (λ (e : x ≡ u). omega (arith, count_cons p x xs false (ap p e ∙ fails), count_by-le-length p xs))
    (λ (later : Contains xs u). omega (arith, count_cons p x xs (p x) refl, one_at_most (p x), one_fails p xs u later fails))
    (Contains-cons x u xs has)

-- a trail that begins with another is that one and what is behind it
pub behind : (old new : List Entry) → take (length old) new ≡ old → new ≡ old ++ drop (length old) new
behind old new front = sym (take-append-drop (length old) new) ∙ ap (λ (es : List Entry). es ++ drop (length old) new) front

pub length_front : (old new : List Entry) → take (length old) new ≡ old → length old ≤ length new
length_front old new front = omega (arith, ap length front, length-take (length old) new)

-- a trail that begins with one that begins with another
pub front_again : (first second third : List Entry) → take (length first) second ≡ first → take (length second) third ≡ second → take (length first) third ≡ first
front_again first second third one two =
    sym (take-take (length first) (length second) third (length_front first second one)) ∙ ap (take (length first)) two ∙ one
