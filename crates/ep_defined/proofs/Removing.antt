-- Clauses of the new ground say what those of the old one say.
use Rattle.std.proofs.Common.{◌≡◌, ℕ, ℤ, pos, Bool, true, false, List, [], ◌∷◌, Option, Some, None, refl, sym, ap, subst, ◌∙◌}
use Rattle.std.specs.Prelude.{IsSome, option_to_list}
use Rattle.std.specs.List.{All, flat_map}
use Rattle.std.proofs.lemmas.List.Elements.{All-append, All-cons, All-head, All-nil, All-tail}
use Rattle.std.proofs.lemmas.Option.{none-some, same_Some}
use Rattle.ep_base.specs.Numbers.{of_bool}
use Rattle.ep_defined.specs.Images.{image_at}
use Rattle.ep_defined.specs.Translations.{IsTruth, StandsForTerm, clause_terms, only_if}
use Rattle.ep_defined.specs.declared.images.Image.{Image}
use Rattle.ep_defined.proofs.Listing.{All-left, All-right}

-- a term is 1
abbrev pub IsOneUnder : (ℕ → Option ℤ) → ℕ → Type 0
IsOneUnder w t = w t ≡ Some (pos 1)

nought_one : {X : Type 0} → pos 0 ≡ pos 1 → X
nought_one e = absurd (cc)

guard_true : (w : ℕ → Option ℤ) (o : Option ℕ) (b : Bool) → IsTruth w o b → All (IsOneUnder w) (option_to_list o) → b ≡ true
unfolding of_bool
guard_true w None b h all = h
guard_true w (Some g) true h all = refl
guard_true w (Some g) false h all = nought_one (same_Some (pos 0) (pos 1) (sym h ∙ All-head (IsOneUnder w) g [] all))

true_guard : (w : ℕ → Option ℤ) (o : Option ℕ) (b : Bool) → IsTruth w o b → b ≡ true → All (IsOneUnder w) (option_to_list o)
unfolding of_bool
true_guard w None b h e = All-nil (IsOneUnder w)
true_guard w (Some g) true h e = All-cons (IsOneUnder w) g [] h (All-nil (IsOneUnder w))
true_guard w (Some g) false h e = absurd (cc)

one_inside : (has : Bool) (n : ℤ) → only_if has n ≡ Some (pos 1) → (has ≡ true) × (n ≡ pos 1)
one_inside true n e = (refl, same_Some n (pos 1) e)
one_inside false n e = absurd (none-some (pos 1) e)

-- where its terms are 1 the old term is
pub clause_says : (w : ℕ → Option ℤ) (old : Option ℤ) (image : Image) → StandsForTerm w old image → All (IsOneUnder w) (clause_terms image) → old ≡ Some (pos 1)
clause_says w old image s all =
    let has = guard_true w image.guard s.has s.guard (All-tail (IsOneUnder w) image.total (option_to_list image.guard) all) in
    let number = same_Some s.number (pos 1) (sym s.total ∙ All-head (IsOneUnder w) image.total (option_to_list image.guard) all) in
    s.is ∙ (λ i. only_if (has i) (number i))

-- and where that is 1 they are
pub clause_holds : (w : ℕ → Option ℤ) (old : Option ℤ) (image : Image) → StandsForTerm w old image → old ≡ Some (pos 1) → All (IsOneUnder w) (clause_terms image)
clause_holds w old image s one =
    let inside = one_inside s.has s.number (sym s.is ∙ one) in
    All-cons (IsOneUnder w) image.total (option_to_list image.guard) (s.total ∙ ap (λ n. Some n) inside.1) (true_guard w image.guard s.has s.guard inside.0)

some_there : (has : Bool) (n : ℤ) → has ≡ true → IsSome (only_if has n)
some_there true n e = refl
some_there false n e = absurd (cc)

true_there : (has : Bool) (n : ℤ) → IsSome (only_if has n) → has ≡ true
true_there true n h = refl
true_there false n h = absurd (cc)

-- an objective has a number where its guard is 1
pub objective_says : (w : ℕ → Option ℤ) (old : Option ℤ) (image : Image) → StandsForTerm w old image → All (IsOneUnder w) (option_to_list image.guard) → IsSome old
objective_says w old image s all = subst IsSome (sym s.is) (some_there s.has s.number (guard_true w image.guard s.has s.guard all))

pub objective_holds : (w : ℕ → Option ℤ) (old : Option ℤ) (image : Image) → StandsForTerm w old image → IsSome old → All (IsOneUnder w) (option_to_list image.guard)
objective_holds w old image s h = true_guard w image.guard s.has s.guard (true_there s.has s.number (subst IsSome s.is h))

-- and then it is the old one
pub objective_same : (w : ℕ → Option ℤ) (old : Option ℤ) (image : Image) → StandsForTerm w old image → IsSome old → w image.total ≡ old
objective_same w old image s h = s.total ∙ sym (s.is ∙ ap (λ b. only_if b s.number) (true_there s.has s.number (subst IsSome s.is h)))

-- what holds of all lists that are joined holds of each
pub all_parts : (P : ℕ → Type 0) (images : List Image) (ts : List ℕ) → All P (flat_map (λ t. clause_terms (image_at images t)) ts) → All (λ t. All P (clause_terms (image_at images t))) ts
all_parts P images [] h = All-nil (λ t. All P (clause_terms (image_at images t)))
all_parts P images (t ∷ ts) h =
    let front = clause_terms (image_at images t) in
    let rest = flat_map (λ u. clause_terms (image_at images u)) ts in
    All-cons (λ u. All P (clause_terms (image_at images u))) t ts (All-left P front rest h) (all_parts P images ts (All-right P front rest h))

pub all_joined : (P : ℕ → Type 0) (images : List Image) (ts : List ℕ) → All (λ t. All P (clause_terms (image_at images t))) ts → All P (flat_map (λ t. clause_terms (image_at images t)) ts)
all_joined P images [] h = All-nil P
all_joined P images (t ∷ ts) h =
    All-append P (clause_terms (image_at images t)) (flat_map (λ u. clause_terms (image_at images u)) ts)
    (All-head (λ u. All P (clause_terms (image_at images u))) t ts h) (all_joined P images ts (All-tail (λ u. All P (clause_terms (image_at images u))) t ts h))
