-- The least number of a variable.
use Rattle.std.proofs.Common.{◌≡◌, ℕ, zero, suc, ◌<◌, ℤ, pos, ◌+ℤ◌, ◌≤ℤ◌, ◌<ℤ◌, List, [], ◌∷◌, length, get_or, sym, subst, ◌∙◌, arith}
use Rattle.std.specs.List.{All, Contains}
use Rattle.std.proofs.lemmas.Int.{ints}
use Rattle.std.proofs.lemmas.List.{get_or_default}
use Rattle.std.proofs.lemmas.List.Elements.{All-nil}
use Rattle.cnf_core.proofs.Members.{All-from_contains}
use Rattle.ep_base.proofs.RunSteps.{in_numbers}
use Rattle.ep_base.specs.Runs.{AreApart, numbers}
use Rattle.ep_base.specs.declared.run_lists.Run.{Run}

-- no number of runs that are apart is less than the first one's first
first_least : (runs : List Run) (first : Run) → AreApart runs → ((d : Run) → get_or runs 0 d ≡ first) → (v : ℤ) → Contains (numbers runs) v → first.lo ≤ℤ v
first_least runs first apart first_is v found =
    let a = (in_numbers runs v).0 found in
    from_first a.0 a.1 a.2 a.3 a.4.0
  where
    from_first : (k : ℕ) (run : Run) → k < length runs → get_or runs k run ≡ run → run.lo ≤ℤ v → first.lo ≤ℤ v
    from_first zero run low is h = subst (λ r. r.lo ≤ℤ v) (sym is ∙ first_is run) h
    from_first (suc k) run low is h =
        let gap : ((get_or runs 0 run).hi +ℤ pos 1) <ℤ (get_or runs (suc k) run).lo = apart.gaps 0 (suc k) run (omega arith) low in
        let gap' : (first.hi +ℤ pos 1) <ℤ run.lo = subst (λ r. (r.hi +ℤ pos 1) <ℤ run.lo) (first_is run) (subst (λ r. ((get_or runs 0 run).hi +ℤ pos 1) <ℤ r.lo) is gap) in
        let filled : first.lo ≤ℤ first.hi = subst (λ r. r.lo ≤ℤ r.hi) (first_is run) (apart.filled 0 run (omega (arith, low))) in
        omega (arith, ints, gap', filled, h)

pub none_less : (runs : List Run) (d : Run) (low : ℤ) (domain : List ℤ) → AreApart runs → numbers runs ≡ domain → 0 < length runs → low ≡ (get_or runs 0 d).lo → All (λ v. low ≤ℤ v) domain
none_less runs d low domain apart same some least =
    subst (All (λ v. low ≤ℤ v)) same
    (All-from_contains (λ v. low ≤ℤ v) (numbers runs)
    (λ v found. subst (λ n. n ≤ℤ v) (sym least) (first_least runs (get_or runs 0 d) apart (λ e. get_or_default runs 0 e d some) v found)))

-- runs of which there is none have no number
pub none_there : (runs : List Run) (low : ℤ) (domain : List ℤ) → numbers runs ≡ domain → length runs < 1 → All (λ v. low ≤ℤ v) domain
unfolding numbers
none_there [] low domain same none = subst (All (λ v. low ≤ℤ v)) same (All-nil (λ v. low ≤ℤ v))
none_there (run ∷ runs) low domain same none = absurd (omega (arith, none))

-- no number of a list is less than the least one of the domain that it lists
pub at_place : (values domain : List ℤ) (k : ℕ) (d low : ℤ) → All (λ v. low ≤ℤ v) domain → values ≡ domain → k < length values → low ≤ℤ get_or values k d
at_place values domain k d low least same there = subst (All (λ v. low ≤ℤ v)) (sym same) least k d there
