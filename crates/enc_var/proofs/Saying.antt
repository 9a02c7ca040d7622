-- What added clauses say.
use Rattle.std.proofs.Common.{◌≡◌, ◌↔◌, ◌⊎◌, inl, inr, ℕ, ◌+◌, ◌-◌, ◌<◌, nat_lt, Bool, true, false, not, List, [], ◌∷◌, ◌++◌, refl, sym, ap, subst, ◌∙◌, arith, append_assoc}
use Rattle.std.specs.List.{Contains}
use Rattle.std.proofs.lemmas.List.Elements.{All-append, All-contains, All-head, Contains-append_left, Contains-append_right}
use Rattle.cnf_core.proofs.Keeping.{same_consistent, same_satisfied}
use Rattle.cnf_core.proofs.Members.{All-from_contains, Contains-cases, Contains-here, Contains-there, none_in_nil}
use Rattle.cnf_core.specs.Clauses.{IsTrueUnder, SatisfiesClause}
use Rattle.cnf_core.specs.Formula.{Cnf}
use Rattle.cnf_core.specs.Literal.{HaveSameLiterals, Literal, negation}
use Rattle.cnf_core.specs.Steps.{IsConsistent}
use Rattle.enc_var.proofs.Places.{lt_back, lt_back_false}
use Rattle.enc_var.specs.Decoding.{no, yes}
use Rattle.enc_var.specs.Ties.{AreTied, IsTied, SaysMore}

none_consistent : IsConsistent []
none_consistent l found other = none_in_nil l found

opposite : {X : Type 0} (a b : Bool) → a ≡ b → a ≡ not b → X
opposite a true e f = absurd (bad (sym e ∙ f))
  where
    bad : true ≡ false → ⊥
    bad h = cc
opposite a false e f = absurd (bad (sym e ∙ f))
  where
    bad : false ≡ true → ⊥
    bad h = cc

-- a literal of another variable keeps a clause without a literal together with its negation
consistent_more : (a : Literal) (xs : List Literal) → IsConsistent xs → ((m : Literal) → Contains xs m → a.var ≡ m.var → ⊥) → IsConsistent (a ∷ xs)
consistent_more a xs h apart l found other =
    elim (Contains-cases a xs l found) as (λ _. ⊥) [
      | inl is ↦ elim (Contains-cases a xs (negation l) other) as (λ _. ⊥) [
        | inl turned ↦ opposite a.positive l.positive (ap (λ m. m.positive) is) (ap (λ m. m.positive) turned)
        | inr later ↦ apart (negation l) later (ap (λ m. m.var) is)
      ]
      | inr among ↦ elim (Contains-cases a xs (negation l) other) as (λ _. ⊥) [
        | inl turned ↦ apart l among (ap (λ m. m.var) turned)
        | inr later ↦ h l among later
      ]
    ]

pub only_one : (b m : Literal) → Contains (b ∷ []) m → b ≡ m
only_one b m found = elim (Contains-cases b [] m found) as (λ _. b ≡ m) [ inl is ↦ is | inr nowhere ↦ absurd (none_in_nil m nowhere) ]

pub one_consistent : (a : Literal) → IsConsistent (a ∷ [])
one_consistent a = consistent_more a [] none_consistent (λ m found same. none_in_nil m found)

pub two_consistent : (a b : Literal) → (a.var ≡ b.var → ⊥) → IsConsistent (a ∷ b ∷ [])
two_consistent a b apart = consistent_more a (b ∷ []) (one_consistent b) (λ m found same. apart (same ∙ ap (λ l. l.var) (sym (only_one b m found))))

pub three_consistent : (a b c : Literal) → (a.var ≡ b.var → ⊥) → (a.var ≡ c.var → ⊥) → (b.var ≡ c.var → ⊥) → IsConsistent (a ∷ b ∷ c ∷ [])
three_consistent a b c one two three = consistent_more a (b ∷ c ∷ []) (two_consistent b c three)
    (λ m found same. elim (Contains-cases b (c ∷ []) m found) as (λ _. ⊥) [
      | inl is ↦ one (same ∙ ap (λ l. l.var) (sym is))
      | inr later ↦ two (same ∙ ap (λ l. l.var) (sym (only_one c m later)))
    ])

-- a clause of one, two and three literals says that one of them is true
pub one_says : (s : ℕ → Bool) (a : Literal) → SatisfiesClause s (a ∷ []) ↔ IsTrueUnder s a
one_says s a = (
  λ h. subst (IsTrueUnder s) (sym (only_one a h.literal h.in_clause)) h.is_true,
  λ on. record { literal = a; in_clause = Contains-here a []; is_true = on },
)

pub two_says : (s : ℕ → Bool) (a b : Literal) → SatisfiesClause s (a ∷ b ∷ []) ↔ (IsTrueUnder s a ⊎ IsTrueUnder s b)
two_says s a b = (
  λ h. elim (Contains-cases a (b ∷ []) h.literal h.in_clause) as (λ _. IsTrueUnder s a ⊎ IsTrueUnder s b) [
    | inl is ↦ inl (subst (IsTrueUnder s) (sym is) h.is_true)
    | inr later ↦ inr (subst (IsTrueUnder s) (sym (only_one b h.literal later)) h.is_true)
  ],
  λ on. elim on as (λ _. SatisfiesClause s (a ∷ b ∷ [])) [
    | inl first ↦ record { literal = a; in_clause = Contains-here a (b ∷ []); is_true = first }
    | inr second ↦ record { literal = b; in_clause = Contains-there a (b ∷ []) b (Contains-here b []); is_true = second }
  ],
)

pub three_says : (s : ℕ → Bool) (a b c : Literal) → SatisfiesClause s (a ∷ b ∷ c ∷ []) ↔ (IsTrueUnder s a ⊎ (IsTrueUnder s b ⊎ IsTrueUnder s c))
three_says s a b c = (
  λ h. elim (Contains-cases a (b ∷ c ∷ []) h.literal h.in_clause) as (λ _. IsTrueUnder s a ⊎ (IsTrueUnder s b ⊎ IsTrueUnder s c)) [
    | inl is ↦ inl (subst (IsTrueUnder s) (sym is) h.is_true)
    | inr later ↦ inr ((two_says s b c).0 (record { literal = h.literal; in_clause = later; is_true = h.is_true }))
  ],
  λ on. elim on as (λ _. SatisfiesClause s (a ∷ b ∷ c ∷ [])) [
    | inl first ↦ record { literal = a; in_clause = Contains-here a (b ∷ c ∷ []); is_true = first }
    | inr other ↦ let h = (two_says s b c).1 other in record { literal = h.literal; in_clause = Contains-there a (b ∷ c ∷ []) h.literal h.in_clause; is_true = h.is_true }
  ],
)

-- an added clause says what its literals do
pub says_clause : (f g : Cnf) (c literals : List Literal) → HaveSameLiterals c literals → IsConsistent literals → g ≡ record f { clauses = f.clauses ++ c ∷ [] } → SaysMore f g (λ s. SatisfiesClause s literals)
says_clause f g c literals same consistent is = record {
  vars = ap (λ x. x.vars) is;
  from_new = ap (λ x. x.from_new) is;
  added = c ∷ [];
  clauses = ap (λ x. x.clauses) is;
  consistent = All-from_contains IsConsistent (c ∷ []) (λ d found. elim (Contains-cases c [] d found) as (λ _. IsConsistent d) [
    | inl here ↦ subst IsConsistent here (same_consistent c literals same consistent)
    | inr nowhere ↦ absurd (none_in_lists d nowhere)
  ]);
  says = λ s. (
    λ met. (same_satisfied s c literals same).0 (All-head (SatisfiesClause s) c [] met),
    λ on. All-from_contains (SatisfiesClause s) (c ∷ []) (λ d found. elim (Contains-cases c [] d found) as (λ _. SatisfiesClause s d) [
      | inl here ↦ subst (SatisfiesClause s) here ((same_satisfied s c literals same).1 on)
      | inr nowhere ↦ absurd (none_in_lists d nowhere)
    ]),
  );
}
  where
    none_in_lists : (d : List Literal) → Contains [] d → ⊥
    none_in_lists d found = none_in_nil d found

-- what is said after one another is said together
pub says_both : (f g h : Cnf) (C D : (ℕ → Bool) → Type 0) → SaysMore f g C → SaysMore g h D → SaysMore f h (λ s. C s × D s)
says_both f g h C D one two = record {
  vars = two.vars ∙ one.vars;
  from_new = two.from_new ∙ one.from_new;
  added = one.added ++ two.added;
  clauses = two.clauses ∙ ap (λ xs. xs ++ two.added) one.clauses ∙ append_assoc f.clauses one.added two.added;
  consistent = All-append IsConsistent one.added two.added one.consistent two.consistent;
  says = λ s. (
    λ met. (
      (one.says s).0 (All-from_contains (SatisfiesClause s) one.added (λ c found. All-contains (SatisfiesClause s) (one.added ++ two.added) c met (Contains-append_left one.added two.added c found))),
      (two.says s).0 (All-from_contains (SatisfiesClause s) two.added (λ c found. All-contains (SatisfiesClause s) (one.added ++ two.added) c met (Contains-append_right one.added two.added c found))),
    ),
    λ on. All-append (SatisfiesClause s) one.added two.added ((one.says s).1 on.0) ((two.says s).1 on.1),
  );
}

pub says_like : (f g : Cnf) (C D : (ℕ → Bool) → Type 0) → SaysMore f g C → ((s : ℕ → Bool) → C s ↔ D s) → SaysMore f g D
says_like f g C D h same = record {
  vars = h.vars;
  from_new = h.from_new;
  added = h.added;
  clauses = h.clauses;
  consistent = h.consistent;
  says = λ s. (λ met. (same s).0 ((h.says s).0 met), λ on. (h.says s).1 ((same s).1 on));
}

-- a formula says no more than itself
pub says_nothing : (f : Cnf) → SaysMore f f (λ s. Unit {0})
says_nothing f = record { vars = refl; from_new = refl; added = []; clauses = sym (nothing f.clauses); consistent = λ k d low. absurd (omega (arith, low)); says = λ s. (λ met. tt, λ on. λ k d low. absurd (omega (arith, low))) }
  where
    nothing : {X : Type 0} (xs : List X) → xs ++ [] ≡ xs
    nothing [] = refl
    nothing (x ∷ xs) = ap (λ ys. x ∷ ys) (nothing xs)

-- the four clauses of a tie say it
pub tie_said : (f one two three four : Cnf) (low high is : ℕ) (a b c d e g h i j : Literal)
    → a ≡ no high → b ≡ yes low → c ≡ no is → d ≡ yes low → e ≡ no is → g ≡ no high → h ≡ yes is → i ≡ no low → j ≡ yes high
    → SaysMore f one (λ s. IsTrueUnder s a ⊎ IsTrueUnder s b) → SaysMore one two (λ s. IsTrueUnder s c ⊎ IsTrueUnder s d)
    → SaysMore two three (λ s. IsTrueUnder s e ⊎ IsTrueUnder s g) → SaysMore three four (λ s. IsTrueUnder s h ⊎ (IsTrueUnder s i ⊎ IsTrueUnder s j))
    → SaysMore f four (IsTied low high is)
tie_said f one two three four low high is a b c d e g h i j la lb lc ld le lg lh li lj first second third fourth =
    let First : (ℕ → Bool) → Type 0 = λ s. IsTrueUnder s (no high) ⊎ IsTrueUnder s (yes low) in
    let Second : (ℕ → Bool) → Type 0 = λ s. IsTrueUnder s (no is) ⊎ IsTrueUnder s (yes low) in
    let Third : (ℕ → Bool) → Type 0 = λ s. IsTrueUnder s (no is) ⊎ IsTrueUnder s (no high) in
    let Fourth : (ℕ → Bool) → Type 0 = λ s. IsTrueUnder s (yes is) ⊎ (IsTrueUnder s (no low) ⊎ IsTrueUnder s (yes high)) in
    let first_is : SaysMore f one First =
    subst (λ l. SaysMore f one (λ s. IsTrueUnder s (no high) ⊎ IsTrueUnder s l)) lb (subst (λ l. SaysMore f one (λ s. IsTrueUnder s l ⊎ IsTrueUnder s b)) la first) in
    let second_is : SaysMore one two Second =
    subst (λ l. SaysMore one two (λ s. IsTrueUnder s (no is) ⊎ IsTrueUnder s l)) ld (subst (λ l. SaysMore one two (λ s. IsTrueUnder s l ⊎ IsTrueUnder s d)) lc second) in
    let third_is : SaysMore two three Third =
    subst (λ l. SaysMore two three (λ s. IsTrueUnder s (no is) ⊎ IsTrueUnder s l)) lg (subst (λ l. SaysMore two three (λ s. IsTrueUnder s l ⊎ IsTrueUnder s g)) le third) in
    let fourth_is : SaysMore three four Fourth =
    subst (λ l. SaysMore three four (λ s. IsTrueUnder s (yes is) ⊎ (IsTrueUnder s (no low) ⊎ IsTrueUnder s l))) lj
    (subst (λ l. SaysMore three four (λ s. IsTrueUnder s (yes is) ⊎ (IsTrueUnder s l ⊎ IsTrueUnder s j))) li
    (subst (λ l. SaysMore three four (λ s. IsTrueUnder s l ⊎ (IsTrueUnder s i ⊎ IsTrueUnder s j))) lh fourth)) in
    let both = says_both f one two First Second first_is second_is in
    let all_three = says_both f two three (λ s. First s × Second s) Third both third_is in
    let all_four = says_both f three four (λ s. (First s × Second s) × Third s) Fourth all_three fourth_is in
    says_like f four (λ s. ((First s × Second s) × Third s) × Fourth s) (IsTied low high is) all_four
    (λ s. (λ on. record { chain = on.0.0.0; from_low = on.0.0.1; from_high = on.0.1; between = on.1 }, λ tied. (((tied.chain, tied.from_low), tied.from_high), tied.between)))

-- one more tie
pub ties_more : (f g h : Cnf) (first count k : ℕ)
    → SaysMore f g (λ s. (j : ℕ) → j < k → IsTied (first + j) (first + (j + 1)) (first + (count - 1) + j) s)
    → SaysMore g h (IsTied (first + k) (first + (k + 1)) (first + (count - 1) + k))
    → SaysMore f h (λ s. (j : ℕ) → j < k + 1 → IsTied (first + j) (first + (j + 1)) (first + (count - 1) + j) s)
ties_more f g h first count k so_far more =
    let One : (ℕ → Bool) → ℕ → Type 0 = λ s j. IsTied (first + j) (first + (j + 1)) (first + (count - 1) + j) s in
    says_like f h (λ s. ((j : ℕ) → j < k → One s j) × One s k) (λ s. (j : ℕ) → j < k + 1 → One s j)
    (says_both f g h (λ s. (j : ℕ) → j < k → One s j) (λ s. One s k) so_far more)
    (λ s. (
      λ on j low. by (One s) on.0 on.1 j low (nat_lt j k) refl,
      λ on. (λ j low. on j (omega (arith, low)), on k (omega arith)),
    ))
  where
    by : (P : ℕ → Type 0) → ((j : ℕ) → j < k → P j) → P k → (j : ℕ) → j < k + 1 → (t : Bool) → nat_lt j k ≡ t → P j
    by P before here j low true e = before j (lt_back j k e)
    by P before here j low false e = let is : k ≡ j = omega (arith, low, lt_back_false j k e) in subst P is here

pub ties_none : (f : Cnf) (first count : ℕ) → SaysMore f f (λ s. (j : ℕ) → j < 0 → IsTied (first + j) (first + (j + 1)) (first + (count - 1) + j) s)
ties_none f first count = says_like f f (λ s. Unit {0}) (λ s. (j : ℕ) → j < 0 → IsTied (first + j) (first + (j + 1)) (first + (count - 1) + j) s) (says_nothing f)
    (λ s. (λ on j low. absurd (omega (arith, low)), λ on. tt))

pub ties_all : (f g : Cnf) (first count k : ℕ) → k ≡ count - 2 → SaysMore f g (λ s. (j : ℕ) → j < k → IsTied (first + j) (first + (j + 1)) (first + (count - 1) + j) s) → SaysMore f g (AreTied first count)
ties_all f g first count k is h = says_like f g (λ s. (j : ℕ) → j < k → IsTied (first + j) (first + (j + 1)) (first + (count - 1) + j) s) (AreTied first count) h
    (λ s. (λ on j low. on j (omega (arith, low, is)), λ on j low. on j (omega (arith, low, is))))
