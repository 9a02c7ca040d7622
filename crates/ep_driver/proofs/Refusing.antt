-- Refusals that come first, and what comes after them.
use Rattle.std.proofs.Common.{◌≡◌, ℕ, zero, suc, ◌<◌, List, [], ◌∷◌, map, length, Ok, Err, Contains, slice_index_or, refl, ap, ◌∙◌, arith}
use Rattle.std.proofs.lemmas.List.Elements.{Contains-append_right}
use Rattle.ep_print.specs.declared.refusals.Refusal.{Refusal}
use Rattle.ep_driver.specs.Outcomes.{Outcome, and_then, unless_refused}
use Rattle.ep_driver.specs.Steps.{IsAmong}

pub contains-first : {A : Type 0} (x : A) (xs : List A) → Contains (x ∷ xs) x
contains-first x xs = (0, omega arith, refl)

pub contains-later : {A : Type 0} (y x : A) (xs : List A) → Contains xs x → Contains (y ∷ xs) x
contains-later y x xs h = Contains-append_right (y ∷ []) xs x h

mapped-at : {A B : Type 0} (f : A → B) (xs : List A) (x : A) (k : ℕ) → k < length xs → slice_index_or xs k x ≡ x → Contains (map f xs) (f x)
mapped-at f [] x k lt e = absurd (omega (arith, lt))
mapped-at f (y ∷ ys) x zero lt e = (0, omega arith, ap f e)
mapped-at f (y ∷ ys) x (suc k) lt e = contains-later (f y) (f x) (map f ys) (mapped-at f ys x k (omega (arith, lt)) e)

pub contains-map : {A B : Type 0} (f : A → B) (xs : List A) (x : A) → Contains xs x → Contains (map f xs) (f x)
contains-map f xs x h = mapped-at f xs x h.0 h.1 h.2

-- ---- where there are refusals, they come out

some-refused : {A : Type 0} (rs : List Refusal) (r : Refusal) (o : Outcome A) → Contains rs r → unless_refused rs o ≡ Err rs
unfolding unless_refused
some-refused [] r o h = absurd (omega (arith, h.1))
some-refused (x ∷ rs) r o h = refl

pub none-refused : {A : Type 0} (rs : List Refusal) (o : Outcome A) → rs ≡ [] → unless_refused rs o ≡ o
unfolding unless_refused
none-refused [] o e = refl
none-refused (x ∷ rs) o e = absurd cc

pub among-first : {A : Type 0} (rs : List Refusal) (r : Refusal) (o : Outcome A) → Contains rs r → IsAmong (unless_refused rs o) r
among-first rs r o h = (rs, some-refused rs r o h, h)

pub among-later : {A : Type 0} (rs : List Refusal) (r : Refusal) (o : Outcome A) → rs ≡ [] → IsAmong o r → IsAmong (unless_refused rs o) r
among-later rs r o e h = (h.0, none-refused rs o e ∙ h.1, h.2)

-- ---- a step, and then another

pub then-next : {A B : Type 0} (o : Outcome A) (x : A) (next : A → Outcome B) → o ≡ Ok x → and_then o next ≡ next x
unfolding and_then
then-next o x next e = ap (λ y. and_then y next) e

then-refused : {A B : Type 0} (o : Outcome A) (rs : List Refusal) (next : A → Outcome B) → o ≡ Err rs → and_then o next ≡ Err rs
unfolding and_then
then-refused o rs next e = ap (λ y. and_then y next) e

pub among-then : {A B : Type 0} (o : Outcome A) (r : Refusal) (next : A → Outcome B) → IsAmong o r → IsAmong (and_then o next) r
among-then o r next h = (h.0, then-refused o h.0 next h.1, h.2)

pub among-next : {A B : Type 0} (o : Outcome A) (x : A) (r : Refusal) (next : A → Outcome B) → o ≡ Ok x → IsAmong (next x) r → IsAmong (and_then o next) r
among-next o x r next e h = (h.0, then-next o x next e ∙ h.1, h.2)
