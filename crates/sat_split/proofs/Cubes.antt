-- The literals of cubes: of which variables they are, and that cubes of different numbers differ.
use Rattle.std.proofs.Common.{◌≡◌, ℕ, suc, ◌*◌, ◌/◌, ◌%◌, ◌^◌, ◌<◌, ◌==◌, Bool, true, false, not, nat_eq, inl, inr, List, [], ◌∷◌, length, refl, ap, ◌∙◌, sym, subst, arith}
use Rattle.std.specs.Prelude.{All, AllPairs, Contains}
use Rattle.std.proofs.lemmas.Bool.{false≢true, eqb-true}
use Rattle.std.proofs.lemmas.Bool.Decides.{nat_tests}
use Rattle.std.proofs.lemmas.List.Elements.{All-contains, All-from_get_or}
use Rattle.cnf_core.specs.Literal.{Literal, negation}
use Rattle.cnf_core.specs.Clauses.{IsTrueUnder, SatisfiesClause}
use Rattle.cnf_core.proofs.Literals.{literal_ext}
use Rattle.cnf_core.proofs.Members.{Contains-here, Contains-there, Contains-cases, none_in_nil, either}
use Rattle.cnf_core.proofs.Following.{values_consistent}
use Rattle.sat_split.specs.Cubes.{cube_literals, LiesInCube, IsFalseIn}

pub pairs_head : (v : ℕ) (vars : List ℕ) → AllPairs ◌<◌ (v ∷ vars) → All (λ w. v < w) vars
pairs_head v vars pairs = All-from_get_or (λ (w : ℕ). v < w) vars 0 (λ i below. pairs 0 (suc i) 0 (omega arith) (omega arith))

pub pairs_tail : (v : ℕ) (vars : List ℕ) → AllPairs ◌<◌ (v ∷ vars) → AllPairs ◌<◌ vars
pairs_tail v vars pairs i j d order below = pairs (suc i) (suc j) d (omega arith) (omega arith)

-- a literal of a cube is of one of the variables
pub cube_names : (cube : ℕ) (vars : List ℕ) (q : Literal) → Contains (cube_literals cube vars) q → Contains vars q.var
cube_names cube [] q found = absurd (none_in_nil q found)
cube_names cube (v ∷ vars) q found =
    elim (Contains-cases (record { var = v; positive = cube % 2 == 1 }) (cube_literals (cube / 2) vars) q found) [
      | inl here ↦ subst (λ (l : Literal). Contains (v ∷ vars) l.var) here (Contains-here v vars)
      | inr there ↦ Contains-there v vars q.var (cube_names (cube / 2) vars q there)
    ]

not_itself : (p : Bool) → p ≡ not p → ⊥
not_itself true e = false≢true (sym e)
not_itself false e = false≢true e

-- a cube has no literal together with its negation
pub cube_apart : (cube : ℕ) (vars : List ℕ) → AllPairs ◌<◌ vars → (q : Literal) → Contains (cube_literals cube vars) q → Contains (cube_literals cube vars) (negation q) → ⊥
cube_apart cube [] pairs q here there = none_in_nil q here
cube_apart cube (v ∷ vars) pairs q here there =
    let head : Literal = record { var = v; positive = cube % 2 == 1 } in
    let above : (l : Literal) → Contains (cube_literals (cube / 2) vars) l → v < l.var =
    λ l found. All-contains (λ (w : ℕ). v < w) vars l.var (pairs_head v vars pairs) (cube_names (cube / 2) vars l found) in
    elim (Contains-cases head (cube_literals (cube / 2) vars) q here) [
      | inl is ↦ elim (Contains-cases head (cube_literals (cube / 2) vars) (negation q) there) [
        | inl also ↦ not_itself q.positive (ap (λ (l : Literal). l.positive) (sym is ∙ also))
        | inr later ↦ let e : v ≡ q.var = ap (λ (l : Literal). l.var) is in omega (arith, e, above (negation q) later)
      ]
      | inr within ↦ elim (Contains-cases head (cube_literals (cube / 2) vars) (negation q) there) [
        | inl also ↦ let e : v ≡ q.var = ap (λ (l : Literal). l.var) also in omega (arith, e, above q within)
        | inr later ↦ cube_apart (cube / 2) vars (pairs_tail v vars pairs) q within later
      ]
    ]

-- as many cubes again with one variable more
pub twice_as_many : (v : ℕ) (vars : List ℕ) → 2 ^ length (v ∷ vars) ≡ 2 * 2 ^ length vars
twice_as_many v vars = grind arith

-- cubes of different numbers differ in the sign of a literal
pub cubes_differ : (one other : ℕ) (vars : List ℕ) → one < 2 ^ length vars → other < 2 ^ length vars → (one ≡ other → ⊥) → (l : Literal) × Contains (cube_literals one vars) l × Contains (cube_literals other vars) (negation l)
cubes_differ one other [] below also differ = absurd (differ (omega arith))
cubes_differ one other (v ∷ vars) below also differ = elim (either (nat_eq (one % 2) (other % 2))) [
  | inl same ↦
      let bits : one % 2 ≡ other % 2 = eqb-true (one % 2) (other % 2) same in
      let twice = twice_as_many v vars in
      let found = cubes_differ (one / 2) (other / 2) vars (omega (arith, twice, below)) (omega (arith, twice, also)) (λ e. differ (omega (arith, e, bits))) in (
        found.0,
        Contains-there (record { var = v; positive = one % 2 == 1 }) (cube_literals (one / 2) vars) found.0 found.1,
        Contains-there (record { var = v; positive = other % 2 == 1 }) (cube_literals (other / 2) vars) (negation found.0) found.2,
      )
  | inr apart ↦
      let l : Literal = record { var = v; positive = one % 2 == 1 } in
      let turned : not (one % 2 == 1) ≡ (other % 2 == 1) = grind (arith, nat_tests, apart) in (
        l,
        Contains-here l (cube_literals (one / 2) vars),
        subst (Contains (cube_literals other (v ∷ vars)))
            (sym (literal_ext (negation l) (record { var = v; positive = other % 2 == 1 }) refl turned))
            (Contains-here (record { var = v; positive = other % 2 == 1 }) (cube_literals (other / 2) vars)),
      )
]

-- a clause that is false in a cube isn't satisfied there
pub refuted_there : (literals clause : List Literal) (s : ℕ → Bool) → IsFalseIn literals clause → LiesInCube literals s → SatisfiesClause s clause → ⊥
refuted_there literals clause s is_false lies satisfied =
    values_consistent s satisfied.literal satisfied.is_true
    (All-contains (IsTrueUnder s) literals (negation satisfied.literal) lies
    (All-contains (λ l. Contains literals (negation l)) clause satisfied.literal is_false satisfied.in_clause))
