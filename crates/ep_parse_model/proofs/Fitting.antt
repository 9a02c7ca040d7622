-- Which statements may follow one another: a model has one objective at most, and a parameter text lettings alone.
use Rattle.std.specs.Prelude.{◌≡◌, ℕ, suc, ◌≤◌, Bool, true, false, ◌&&◌, nat_le, [], ◌∷◌, length, count_by, filter, refl}
use Rattle.std.specs.List.{list_all}
use Rattle.std.proofs.Common.{arith, sym, subst, ◌∙◌}
use Rattle.std.proofs.lemmas.Bool.{and_parts}
use Rattle.std.proofs.lemmas.Bool.Decides.{nat_tests}
use Rattle.std.proofs.lemmas.List.Sums.{length-filter}
use Rattle.ep_parse_model.specs.declared.openings.Allowed.{Allowed}
use Rattle.ep_parse_model.specs.declared.openings.Opening.{Opening}
use Rattle.ep_parse_model.specs.TextReaders.{allowed_behind, allows}
use Rattle.ep_tree.specs.StatementSpelling.{is_letting, is_objective}
use Rattle.ep_tree.specs.Statements.{StatementTree, TextTree, branching, constraints, decided, domain_letting, given, heuristic, letting, objective, requirements}

-- the word of a statement
abbrev pub opening_of : StatementTree → Opening
opening_of (given p gs) = Opening.Given
opening_of (decided p gs) = Opening.Find
opening_of (letting p x at d e) = Opening.Letting
opening_of (domain_letting p x at d) = Opening.Letting
opening_of (requirements p es) = Opening.Where
opening_of (constraints p es) = Opening.SuchThat
opening_of (objective p sense e) = Opening.Objective sense
opening_of (branching p xs) = Opening.Branching
opening_of (heuristic p x) = Opening.Heuristic

-- each statement may come where it stands
unfoldable pub Fits : Allowed → TextTree → Type 0
Fits allowed [] = Unit {0}
Fits allowed (s ∷ ss) = (allows allowed (opening_of s) ≡ true) × Fits (allowed_behind s allowed) ss

-- ---- what a grammar says of it

-- a statement that may come where no objective may is none, and changes nothing
record Plain (s : StatementTree) : Type 0 where
  none : is_objective s ≡ false
  same : (allowed : Allowed) → allowed_behind s allowed ≡ allowed
  allowed : allows Allowed.NoObjective (opening_of s) ≡ true

-- a statement is an objective, or it is plain
data Kind (s : StatementTree) : Type 0 where
  plain : Plain s → Kind s
  aims : is_objective s ≡ true → allows Allowed.NoObjective (opening_of s) ≡ false → allowed_behind s Allowed.All ≡ Allowed.NoObjective → Kind s

kind_of : (s : StatementTree) → Kind s
unfolding is_objective
kind_of (given p gs) = plain (record { none = refl; same = λ allowed. refl; allowed = refl })
kind_of (decided p gs) = plain (record { none = refl; same = λ allowed. refl; allowed = refl })
kind_of (letting p x at d e) = plain (record { none = refl; same = λ allowed. refl; allowed = refl })
kind_of (domain_letting p x at d) = plain (record { none = refl; same = λ allowed. refl; allowed = refl })
kind_of (requirements p es) = plain (record { none = refl; same = λ allowed. refl; allowed = refl })
kind_of (constraints p es) = plain (record { none = refl; same = λ allowed. refl; allowed = refl })
kind_of (objective p sense e) = aims refl refl refl
kind_of (branching p xs) = plain (record { none = refl; same = λ allowed. refl; allowed = refl })
kind_of (heuristic p x) = plain (record { none = refl; same = λ allowed. refl; allowed = refl })

-- how many objectives a text has
abbrev aims_of : TextTree → ℕ
aims_of ss = length (filter is_objective ss)

one_more : (s : StatementTree) (ss : TextTree) → is_objective s ≡ true → aims_of (s ∷ ss) ≡ suc (aims_of ss)
one_more s ss e = rw e refl

no_more : (s : StatementTree) (ss : TextTree) → is_objective s ≡ false → aims_of (s ∷ ss) ≡ aims_of ss
no_more s ss e = rw e refl

not_both : (b : Bool) → b ≡ true → b ≡ false → ⊥
not_both true j k = let wrong_way : true ≡ false = k in absurd cc
not_both false j k = let wrong_way : false ≡ true = j in absurd cc

-- ---- from what may come

none_left : (ss : TextTree) → Fits Allowed.NoObjective ss → aims_of ss ≤ 0
unfolding Fits
none_left [] h = omega arith
none_left (s ∷ ss) h = go (kind_of s) (none_left ss)
  where
    go : Kind s → (Fits Allowed.NoObjective ss → aims_of ss ≤ 0) → aims_of (s ∷ ss) ≤ 0
    go (plain p) others = omega (arith, no_more s ss p.none, others (subst (λ x. Fits x ss) (p.same Allowed.NoObjective) h.1))
    go (aims is barred on) others = absurd (not_both (allows Allowed.NoObjective (opening_of s)) h.0 barred)

one_left : (ss : TextTree) → Fits Allowed.All ss → aims_of ss ≤ 1
unfolding Fits
one_left [] h = omega arith
one_left (s ∷ ss) h = go (kind_of s) (one_left ss)
  where
    go : Kind s → (Fits Allowed.All ss → aims_of ss ≤ 1) → aims_of (s ∷ ss) ≤ 1
    go (plain p) others = omega (arith, no_more s ss p.none, others (subst (λ x. Fits x ss) (p.same Allowed.All) h.1))
    go (aims is barred on) others = omega (arith, one_more s ss is, none_left ss (subst (λ x. Fits x ss) on h.1))

pub one_objective : (ss : TextTree) → Fits Allowed.All ss → nat_le (count_by is_objective ss) 1 ≡ true
one_objective ss h =
    let few : aims_of ss ≤ 1 = one_left ss h in
    let same : aims_of ss ≡ count_by is_objective ss = length-filter is_objective ss in
    grind (arith, nat_tests)

letting_allowed : (s : StatementTree) → allows Allowed.Lettings (opening_of s) ≡ is_letting s
unfolding is_letting
letting_allowed (given p gs) = refl
letting_allowed (decided p gs) = refl
letting_allowed (letting p x at d e) = refl
letting_allowed (domain_letting p x at d) = refl
letting_allowed (requirements p es) = refl
letting_allowed (constraints p es) = refl
letting_allowed (objective p sense e) = refl
letting_allowed (branching p xs) = refl
letting_allowed (heuristic p x) = refl

same_behind : (s : StatementTree) → allowed_behind s Allowed.Lettings ≡ Allowed.Lettings
same_behind (given p gs) = refl
same_behind (decided p gs) = refl
same_behind (letting p x at d e) = refl
same_behind (domain_letting p x at d) = refl
same_behind (requirements p es) = refl
same_behind (constraints p es) = refl
same_behind (objective p sense e) = refl
same_behind (branching p xs) = refl
same_behind (heuristic p x) = refl

both_true : (a b : Bool) → a ≡ true → b ≡ true → (a && b) ≡ true
both_true true b h k = k
both_true false b h k = h

pub all_lettings : (ss : TextTree) → Fits Allowed.Lettings ss → list_all is_letting ss ≡ true
unfolding Fits
all_lettings [] h = refl
all_lettings (s ∷ ss) h =
    both_true (is_letting s) (list_all is_letting ss) (sym (letting_allowed s) ∙ h.0) (all_lettings ss (subst (λ x. Fits x ss) (same_behind s) h.1))

-- ---- and to it

fits_none : (ss : TextTree) → aims_of ss ≤ 0 → Fits Allowed.NoObjective ss
unfolding Fits
fits_none [] h = tt
fits_none (s ∷ ss) h = go (kind_of s) (fits_none ss)
  where
    go : Kind s → (aims_of ss ≤ 0 → Fits Allowed.NoObjective ss) → Fits Allowed.NoObjective (s ∷ ss)
    go (plain p) others = (p.allowed, subst (λ x. Fits x ss) (sym (p.same Allowed.NoObjective)) (others (omega (arith, h, no_more s ss p.none))))
    go (aims is barred on) others = absurd (omega (arith, h, one_more s ss is))

all_may : (s : StatementTree) → allows Allowed.All (opening_of s) ≡ true
all_may s = refl

fits_one : (ss : TextTree) → aims_of ss ≤ 1 → Fits Allowed.All ss
unfolding Fits
fits_one [] h = tt
fits_one (s ∷ ss) h = go (kind_of s) (fits_one ss)
  where
    go : Kind s → (aims_of ss ≤ 1 → Fits Allowed.All ss) → Fits Allowed.All (s ∷ ss)
    go (plain p) others = (all_may s, subst (λ x. Fits x ss) (sym (p.same Allowed.All)) (others (omega (arith, h, no_more s ss p.none))))
    go (aims is barred on) others = (all_may s, subst (λ x. Fits x ss) (sym on) (fits_none ss (omega (arith, h, one_more s ss is))))

pub model_fits : (ss : TextTree) → nat_le (count_by is_objective ss) 1 ≡ true → Fits Allowed.All ss
model_fits ss h =
    let same : aims_of ss ≡ count_by is_objective ss = length-filter is_objective ss in
    let few : count_by is_objective ss ≤ 1 = grind (arith, nat_tests) in
    fits_one ss (omega (arith, same, few))

pub params_fits : (ss : TextTree) → list_all is_letting ss ≡ true → Fits Allowed.Lettings ss
unfolding Fits
params_fits [] h = tt
params_fits (s ∷ ss) h =
    let parts = and_parts (is_letting s) (list_all is_letting ss) h in
    (letting_allowed s ∙ parts.0, subst (λ x. Fits x ss) (sym (same_behind s)) (params_fits ss parts.1))
