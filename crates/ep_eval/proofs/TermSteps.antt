-- Totals of terms one after another.
use Rattle.ep_eval.proofs.Words.{true, false, ◌≡◌, ℕ, ◌+◌, ◌*◌, ◌≤◌, Bool, List, [], ◌∷◌, ◌++◌, ℤ, pos, ◌+ℤ◌, ◌-ℤ◌, FitsSigned, SFits, w64, refl, sym, ap, subst, arith, ◌∙◌, Option, Some, None, option_map, neg_ℤ, w128, ints, sum_of, map_both, Env, evaluate, number_in, signed, term_values, met, met_terms, ValueTree, all_defined, expr_tree, terms_of, Expr, Mode, IsWithin, Going, Told, Meter}
use Rattle.ep_eval.proofs.MeterSteps.{going_begins, going_ends, going_more_at, joins, meets_some}

nothing_more : (o : Option ℤ) → map_both ◌+ℤ◌ (Some (pos 0)) o ≡ o
unfolding map_both
nothing_more None = refl
nothing_more (Some x) = ap Some (omega (arith, ints))

pub nothing_behind : (o : Option ℤ) → map_both ◌+ℤ◌ o (Some (pos 0)) ≡ o
unfolding map_both
nothing_behind None = refl
nothing_behind (Some x) = ap Some (omega (arith, ints))

pub total_regrouped : (a b c : Option ℤ) → map_both ◌+ℤ◌ a (map_both ◌+ℤ◌ b c) ≡ map_both ◌+ℤ◌ (map_both ◌+ℤ◌ a b) c
unfolding map_both
total_regrouped None b c = refl
total_regrouped (Some x) None c = refl
total_regrouped (Some x) (Some y) None = refl
total_regrouped (Some x) (Some y) (Some z) = ap Some (omega (arith, ints))

inner_total : (x : ℤ) (o : Option (List ℤ)) → option_map sum_of (option_map (λ ys. x ∷ ys) o) ≡ map_both ◌+ℤ◌ (Some x) (option_map sum_of o)
unfolding map_both sum_of
inner_total x None = refl
inner_total x (Some ys) = refl

-- one number more in front
pub total_more : (o : Option ℤ) (os : List (Option ℤ)) → option_map sum_of (all_defined (o ∷ os)) ≡ map_both ◌+ℤ◌ o (option_map sum_of (all_defined os))
unfolding map_both all_defined
total_more None os = refl
total_more (Some x) os = inner_total x (all_defined os)

-- a total that lies within a bound lies within a greater one
pub wider : (a b : ℕ) (o : Option ℤ) → a ≤ b → IsWithin a o → IsWithin b o
unfolding IsWithin
wider a b None h k = tt
wider a b (Some n) h k = omega (arith, h, k)

-- some terms are evaluated, and others are left; the total is as small as so many numbers allow
abbrev pub TotalSoFar : Mode → Env → Meter → Meter → List (Bool × Expr) → List (Bool × Expr) → Option ℤ → Type 0
TotalSoFar mode env start now terms left total =
    Going mode start now (met_terms mode env (terms_of terms)) (met_terms mode env (terms_of left))
    ((option_map sum_of (all_defined (term_values mode env (terms_of terms)))
    ≡ map_both ◌+ℤ◌ total (option_map sum_of (all_defined (term_values mode env (terms_of left)))))
    × IsWithin (now.size * 9223372036854775808) total)

pub total_begins : (mode : Mode) (env : Env) (start : Meter) (terms : List (Bool × Expr)) → TotalSoFar mode env start start terms terms (Some (pos 0))
unfolding IsWithin
total_begins mode env start terms =
    going_begins (joins mode) start _ _ refl (sym (nothing_more (option_map sum_of (all_defined (term_values mode env (terms_of terms))))), omega arith)

met_term : (mode : Mode) (env : Env) (term : Bool × Expr) (rest : List (Bool × Expr)) → met_terms mode env (terms_of (term ∷ rest)) ≡ met mode env (expr_tree term.1) ++ met_terms mode env (terms_of rest)
unfolding met_terms terms_of
met_term mode env term rest = refl

values_term : (mode : Mode) (env : Env) (term : Bool × Expr) (rest : List (Bool × Expr))
    → term_values mode env (terms_of (term ∷ rest)) ≡ option_map (signed term.0) (number_in (evaluate mode env (expr_tree term.1))) ∷ term_values mode env (terms_of rest)
unfolding term_values terms_of
values_term mode env term rest = refl

-- what is added stays exact, and as small as one number more allows
abbrev pub AddsUp : Option ℤ → Option ℤ → Option ℤ → Type 0
AddsUp total term more =
    (most : ℕ) → most ≤ 46116860184273879040000000 → IsWithin most total → (more ≡ map_both ◌+ℤ◌ total term) × IsWithin (most + 9223372036854775808) more

pub total_goes_on : (mode : Mode) (env : Env) (start now after : Meter) (terms left : List (Bool × Expr)) (total more : Option ℤ) (term : Bool × Expr) (rest : List (Bool × Expr)) (seen : Option ValueTree)
    → TotalSoFar mode env start now terms left total → left ≡ term ∷ rest
    → Told mode now after (met mode env (expr_tree term.1)) (evaluate mode env (expr_tree term.1) ≡ seen)
    → AddsUp total (option_map (signed term.0) (number_in seen)) more
    → TotalSoFar mode env start after terms rest more
total_goes_on mode env start now after terms left total more term rest seen g cut told adds =
    going_more_at (joins mode) start now after _ _ (met mode env (expr_tree term.1)) _ g (ap (λ l. met_terms mode env (terms_of l)) cut ∙ met_term mode env term rest) told
    (λ went known value.
    let one = meets_some mode env (expr_tree term.1) in
    let count = went.count in
    let small = went.small one in
    let next = adds (now.size * 9223372036854775808) (omega (arith, one, count, small)) known.1 in (
      known.0
          ∙ ap (λ l. map_both ◌+ℤ◌ total (option_map sum_of (all_defined l)))
          (ap (λ l. term_values mode env (terms_of l)) cut ∙ values_term mode env term rest
          ∙ ap (λ v. option_map (signed term.0) (number_in v) ∷ term_values mode env (terms_of rest)) value)
          ∙ ap (map_both ◌+ℤ◌ total) (total_more (option_map (signed term.0) (number_in seen)) (term_values mode env (terms_of rest)))
          ∙ total_regrouped total (option_map (signed term.0) (number_in seen)) (option_map sum_of (all_defined (term_values mode env (terms_of rest))))
          ∙ ap (λ o. map_both ◌+ℤ◌ o (option_map sum_of (all_defined (term_values mode env (terms_of rest))))) (sym next.0),
      wider (now.size * 9223372036854775808 + 9223372036854775808) (after.size * 9223372036854775808) more (omega (arith, one, count)) next.1,
    ))

no_terms_left : (mode : Mode) (env : Env) (left : List (Bool × Expr)) → left ≡ [] → met_terms mode env (terms_of left) ≡ []
unfolding met_terms terms_of
no_terms_left mode env left none = ap (λ l. met_terms mode env (terms_of l)) none

pub total_ends : (mode : Mode) (env : Env) (start now : Meter) (terms left : List (Bool × Expr)) (total : Option ℤ)
    → TotalSoFar mode env start now terms left total → left ≡ []
    → Told mode start now (met_terms mode env (terms_of terms)) (total ≡ option_map sum_of (all_defined (term_values mode env (terms_of terms))))
unfolding term_values terms_of all_defined sum_of
total_ends mode env start now terms left total g none =
    going_ends start now _ _ g (no_terms_left mode env left none)
    (λ known. sym (known.0 ∙ ap (λ l. map_both ◌+ℤ◌ total (option_map sum_of (all_defined (term_values mode env (terms_of l))))) none ∙ nothing_behind total))

-- ---- one term more

sum_within : (most : ℕ) (s n : ℤ) → IsWithin most (Some s) → SFits w64 n → IsWithin (most + 9223372036854775808) (Some (s +ℤ n))
unfolding IsWithin
sum_within most s n h k = omega (arith, ints, h, k)

sum_fits : (most : ℕ) (s n : ℤ) → most ≤ 46116860184273879040000000 → IsWithin most (Some s) → SFits w64 n → FitsSigned w128 (s +ℤ n)
unfolding IsWithin
sum_fits most s n b h k = omega (arith, ints, b, h, k)

less_within : (most : ℕ) (s n : ℤ) → IsWithin most (Some s) → SFits w64 n → IsWithin (most + 9223372036854775808) (Some (s +ℤ neg_ℤ n))
unfolding IsWithin
less_within most s n h k = omega (arith, ints, h, k)

less_fits : (most : ℕ) (s n : ℤ) → most ≤ 46116860184273879040000000 → IsWithin most (Some s) → SFits w64 n → FitsSigned w128 (s +ℤ neg_ℤ n)
unfolding IsWithin
less_fits most s n b h k = omega (arith, ints, b, h, k)

-- where both are there, and the sum is taken where it fits
pub adds_number : (plus : Bool) (s n m : ℤ) (total term more : Option ℤ) → total ≡ Some s → term ≡ Some n → SFits w64 n → m ≡ signed plus n
    → (FitsSigned w128 (s +ℤ m) → more ≡ Some (s +ℤ m)) → AddsUp total (option_map (signed plus) term) more
unfolding signed map_both
adds_number plus s n m total term more t u fits is sum =
    subst (λ o. AddsUp o (option_map (signed plus) term) more) (sym t)
    (subst (λ o. AddsUp (Some s) (option_map (signed plus) o) more) (sym u) (by plus m is sum))
  where
    by : (plus : Bool) (m : ℤ) → m ≡ signed plus n → (FitsSigned w128 (s +ℤ m) → more ≡ Some (s +ℤ m)) → AddsUp (Some s) (Some (signed plus n)) more
    by true m is sum = λ most b h.
        let e : more ≡ Some (s +ℤ n) = subst (λ x. FitsSigned w128 (s +ℤ x) → more ≡ Some (s +ℤ x)) is sum (sum_fits most s n b h fits) in
        (e, subst (IsWithin (most + 9223372036854775808)) (sym e) (sum_within most s n h fits))
    by false m is sum = λ most b h.
        let e : more ≡ Some (s +ℤ neg_ℤ n) = subst (λ x. FitsSigned w128 (s +ℤ x) → more ≡ Some (s +ℤ x)) is sum (less_fits most s n b h fits) in
        (e, subst (IsWithin (most + 9223372036854775808)) (sym e) (less_within most s n h fits))

-- where one isn't there
pub adds_none : (total term : Option ℤ) → ((s : ℤ) → total ≡ Some s → term ≡ None) → AddsUp total term None
unfolding map_both IsWithin
adds_none None term h = λ most b k. (refl, tt)
adds_none (Some s) term h = λ most b k. (sym (ap (map_both ◌+ℤ◌ (Some s)) (h s refl)), tt)
