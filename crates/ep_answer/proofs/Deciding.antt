-- The number of a variable from its literals, and the clause which says that it is better.
use Rattle.std.proofs.Common.{◌≡◌, ◌↔◌, ◌⊎◌, inl, inr, ℕ, ◌+◌, ◌-◌, ◌<◌, ◌≤◌, suc, zero, ℤ, pos, ◌+ℤ◌, ◌-ℤ◌, ◌≤ℤ◌, ◌<ℤ◌, Bool, true, false, cond, not, List, [], ◌∷◌, ◌++◌, length, Option, None, Some, refl, sym, ap, subst, ◌∙◌, arith}
use Rattle.std.proofs.lemmas.Int.{ints}
use Rattle.std.specs.Prelude.{◌==◌, filter, map, take, IfOk, IfSome, IsSome, IsTrue, Result, Ok, Err, unwrap_or, int_le, int_lt, slice_index_or}
use Rattle.std.specs.List.{Contains}
use mathlib.Core.Bool.{beq}
use Rattle.std.proofs.lemmas.Bool.{false≢true}
use Rattle.std.proofs.lemmas.Bool.Decides.{nat_tests}
use Rattle.std.proofs.lemmas.List.{get_or_default, map-append, take_more}
use Rattle.cnf_core.specs.Clauses.{SatisfiesClause}
use Rattle.cnf_core.specs.Literal.{HaveSameLiterals, Literal, negation}
use Rattle.cnf_core.proofs.Keeping.{same_satisfied}
use Rattle.cnf_core.proofs.Members.{Contains-here, none_in_nil}
use Rattle.ep_base.specs.Senses.{better_number}
use Rattle.ep_base.specs.declared.errors.Memory.{Memory}
use Rattle.ep_base.specs.Reads.{same_bool}
use Rattle.ep_base.specs.Runs.{AreApart, numbers}
use Rattle.ep_base.specs.declared.operators.Sense.{Sense}
use Rattle.ep_base.specs.declared.run_lists.Run.{Run}
use Rattle.ep_base.proofs.RunSteps.{in_numbers}
use Rattle.ep_flat.specs.Cons.{number_at, numbers_of_vars}
use Rattle.enc_var.specs.Layouts.{decoded_values, literals_at}
use Rattle.enc_var.specs.Decoding.{Means, VariableLiterals, decoded, known_holds, le_of, literal_holds}
use Rattle.enc_var.specs.declared.known.Known.{Known}
use Rattle.enc_var.specs.declared.known.Known.TheVariants as known
use Rattle.sat_search.specs.View.{SolverView, value_in}
use Rattle.ep_answer.specs.Searches.{AreWithin, Reaches, numbers_left, kept_values}

-- each number of runs that are apart lies between the start of the first one and the end of the last one
within_hull : (runs : List Run) (first last : Run) → AreApart runs → ((d : Run) → slice_index_or runs 0 d ≡ first) → ((d : Run) → slice_index_or runs (length runs - 1) d ≡ last) → (v : ℤ) → Contains (numbers runs) v → (first.lo ≤ℤ v) × (v ≤ℤ last.hi)
within_hull runs first last apart first_is last_is v found =
    let a = (in_numbers runs v).0 found in
    (from_first a.0 a.1 a.2 a.3 a.4.0, to_last a.0 a.1 a.2 a.3 a.4.1)
  where
    from_first : (k : ℕ) (run : Run) → k < length runs → slice_index_or runs k run ≡ run → run.lo ≤ℤ v → first.lo ≤ℤ v
    from_first zero run low is h = subst (λ r. r.lo ≤ℤ v) (sym is ∙ first_is run) h
    from_first (suc k) run low is h =
        let gap : ((slice_index_or runs 0 run).hi +ℤ pos 1) <ℤ (slice_index_or runs (suc k) run).lo = apart.gaps 0 (suc k) run (omega arith) low in
        let gap' : (first.hi +ℤ pos 1) <ℤ run.lo = subst (λ r. (r.hi +ℤ pos 1) <ℤ run.lo) (first_is run) (subst (λ r. ((slice_index_or runs 0 run).hi +ℤ pos 1) <ℤ r.lo) is gap) in
        let filled : first.lo ≤ℤ first.hi = subst (λ r. r.lo ≤ℤ r.hi) (first_is run) (apart.filled 0 run (omega (arith, low))) in
        omega (arith, ints, gap', filled, h)

    to_last : (k : ℕ) (run : Run) → k < length runs → slice_index_or runs k run ≡ run → v ≤ℤ run.hi → v ≤ℤ last.hi
    to_last k run low is h = by (either_place k (length runs) low)
      where
        either_place : (i n : ℕ) → i < n → (i ≡ n - 1) ⊎ (i < n - 1)
        either_place i zero lt = absurd (omega (arith, lt))
        either_place i (suc n) lt = elim (cases i n lt) as (λ _. (i ≡ suc n - 1) ⊎ (i < suc n - 1)) [
          | inl e ↦ inl (omega (arith, e))
          | inr l ↦ inr (omega (arith, l))
        ]
          where
            cases : (j m : ℕ) → j < suc m → (j ≡ m) ⊎ (j < m)
            cases zero zero lt2 = inl (omega arith)
            cases zero (suc m) lt2 = inr (omega arith)
            cases (suc j) zero lt2 = absurd (omega (arith, lt2))
            cases (suc j) (suc m) lt2 = elim (cases j m (omega (arith, lt2))) as (λ _. (suc j ≡ suc m) ⊎ (suc j < suc m)) [
              | inl e ↦ inl (ap suc e)
              | inr l ↦ inr (omega (arith, l))
            ]

        by : (k ≡ length runs - 1) ⊎ (k < length runs - 1) → v ≤ℤ last.hi
        by (inl e) = subst (λ r. v ≤ℤ r.hi) (sym is ∙ ap (λ n. slice_index_or runs n run) e ∙ last_is run) h
        by (inr less) =
            let gap : ((slice_index_or runs k run).hi +ℤ pos 1) <ℤ (slice_index_or runs (length runs - 1) run).lo = apart.gaps k (length runs - 1) run less (omega (arith, low)) in
            let gap' : (run.hi +ℤ pos 1) <ℤ last.lo = subst (λ r. (run.hi +ℤ pos 1) <ℤ r.lo) (last_is run) (subst (λ r. (r.hi +ℤ pos 1) <ℤ (slice_index_or runs (length runs - 1) run).lo) is gap) in
            let filled : last.lo ≤ℤ last.hi = subst (λ r. r.lo ≤ℤ r.hi) (last_is run) (apart.filled (length runs - 1) run (omega (arith, low))) in
            omega (arith, ints, gap', filled, h)

pub within_ends : (runs : List Run) (d : Run) → AreApart runs → (length runs ≡ 0 → ⊥) → AreWithin (numbers runs) (record { lo = (slice_index_or runs 0 d).lo; hi = (slice_index_or runs (length runs - 1) d).hi })
within_ends runs d apart some v found =
    let low : 0 < length runs = positive (length runs) some in
    within_hull runs (slice_index_or runs 0 d) (slice_index_or runs (length runs - 1) d) apart (λ e. get_or_default runs 0 e d low) (λ e. get_or_default runs (length runs - 1) e d (omega (arith, low))) v found
  where
    positive : (n : ℕ) → (n ≡ 0 → ⊥) → 0 < n
    positive zero h = absurd (h refl)
    positive (suc n) h = omega arith

-- no run has no number
pub none_within : (runs : List Run) → length runs ≡ 0 → (v : ℤ) → Contains (numbers runs) v → ⊥
none_within [] none v found = absurd (omega (arith, ((in_numbers [] v).0 found).2))
none_within (run ∷ runs) none v found = absurd (omega (arith, none))

pub number_is : (layout : List VariableLiterals) (s : ℕ → Bool) (x : ℕ) → x < length layout → number_at (decoded_values layout s) x ≡ decoded s (literals_at layout x)
unfolding number_at decoded_values
number_is [] s x low = absurd (omega (arith, low))
number_is (e ∷ layout) s zero low = refl
number_is (e ∷ layout) s (suc x) low = number_is layout s x (omega (arith, low))

-- where no number is left between the two, the lower one is the variable's
pub number_found : (layout : List VariableLiterals) (s : ℕ → Bool) (x : ℕ) (low high : ℤ) → x < length layout → low ≤ℤ decoded s (literals_at layout x) → decoded s (literals_at layout x) ≤ℤ high → high ≤ℤ low → low ≡ number_at (decoded_values layout s) x
number_found layout s x low high there above below none = (omega (arith, ints, above, below, none)) ∙ sym (number_is layout s x there)

pub numbers_more : (values : List ℤ) (xs : List ℕ) (k : ℕ) (d : ℕ) (found : List ℤ) (number : ℤ) → k < length xs → found ≡ numbers_of_vars values (take k xs) → number ≡ number_at values (slice_index_or xs k d) → found ++ number ∷ [] ≡ numbers_of_vars values (take (k + 1) xs)
unfolding numbers_of_vars
numbers_more values xs k d found number low so_far is =
    ap (λ ns. ns ++ number ∷ []) so_far
    ∙ ap (λ n. map (number_at values) (take k xs) ++ n ∷ []) is
    ∙ sym (map-append (number_at values) (take k xs) (slice_index_or xs k d ∷ []))
    ∙ ap (map (number_at values)) (sym (take_more xs k d low))

pub numbers_none : (values : List ℤ) → [] ≡ numbers_of_vars values []
unfolding numbers_of_vars
numbers_none values = refl

-- the two tests of two truth values
pub same_test : (a b : Bool) → beq a b ≡ same_bool a b
unfolding same_bool
same_test true true = refl
same_test true false = refl
same_test false true = refl
same_test false false = refl

turned : (a b : Bool) → same_bool a (not b) ≡ not (same_bool a b)
unfolding same_bool
turned true b = refl
turned false b = refl

not_true : (b c : Bool) → c ≡ not b → IsTrue c ↔ (b ≡ false)
not_true true c e = (λ t. absurd (false≢true (sym e ∙ t)), λ f. absurd (false≢true (sym f)))
not_true false c e = (λ t. refl, λ f. e)

pub contrary_true : (s : ℕ → Bool) → IsTrue (known_holds s known.False) ↔ (known_holds s known.True ≡ false)
unfolding known_holds
contrary_true s = not_true true false refl

pub contrary_false : (s : ℕ → Bool) → IsTrue (known_holds s known.True) ↔ (known_holds s known.False ≡ false)
unfolding known_holds
contrary_false s = not_true false true refl

pub contrary_is : (s : ℕ → Bool) (l m : Literal) → m ≡ negation l → IsTrue (known_holds s (known.Is m)) ↔ (known_holds s (known.Is l) ≡ false)
unfolding known_holds literal_holds
contrary_is s l m is = not_true (same_bool (s l.var) l.positive) (same_bool (s m.var) m.positive) (ap (λ k. same_bool (s k.var) k.positive) is ∙ turned (s l.var) l.positive)

le_true : (a b : ℤ) → a ≤ℤ b → int_le a b ≡ true
le_true a b h = by (int_le a b) refl
  where
    by : (t : Bool) → int_le a b ≡ t → t ≡ true
    by true e = refl
    by false e = absurd (grind (arith, ints))

pub lt_true : (a b : ℤ) → a <ℤ b → int_lt a b ≡ true
lt_true a b h = by (int_lt a b) refl
  where
    by : (t : Bool) → int_lt a b ≡ t → t ≡ true
    by true e = refl
    by false e = absurd (grind (arith, ints))

pub zero_is : (n : ℕ) → true ≡ (n == 0) → n ≡ 0
zero_is n h = grind (arith, nat_tests)

pub zero_isnt : (n : ℕ) → false ≡ (n == 0) → n ≡ 0 → ⊥
zero_isnt n h is = grind (arith, nat_tests)

-- no number of the variable is better than one that isn't above the least
pub none_better : (s : ℕ → Bool) (e : VariableLiterals) (lo hi best : ℤ) → AreWithin e.domain (record { lo = lo; hi = hi }) → best ≤ℤ lo → Means s e → IsTrue (known_holds s known.False) ↔ IsTrue (better_number Sense.Minimising (decoded s e) best)
unfolding known_holds better_number
none_better s e lo hi best within low means = (
  λ t. absurd (false≢true t),
  λ b. let at = within (decoded s e) means.among in absurd (omega (arith, ints, at.0, low, b)),
)

-- "it is at most the number before"
pub less_said : (s : ℕ → Bool) (e : VariableLiterals) (best before : ℤ) (k : Known) → before ≡ (best -ℤ pos 1) → k ≡ le_of e before → Means s e → IsTrue (known_holds s k) ↔ IsTrue (better_number Sense.Minimising (decoded s e) best)
unfolding better_number
less_said s e best before k one is means =
    let same : known_holds s k ≡ int_le (decoded s e) before = ap (known_holds s) is ∙ means.at_most before in (
      λ t. let low : IsTrue (int_le (decoded s e) before) = sym same ∙ t in lt_true (decoded s e) best (omega (arith, ints, low, one)),
      λ b. same ∙ le_true (decoded s e) before (omega (arith, ints, b, one)),
    )

-- the contrary of "it is at most the number"
pub more_said : (s : ℕ → Bool) (e : VariableLiterals) (best : ℤ) (k : Known) → (IsTrue (known_holds s k) ↔ (known_holds s (le_of e best) ≡ false)) → Means s e → IsTrue (known_holds s k) ↔ IsTrue (better_number Sense.Maximising (decoded s e) best)
unfolding better_number
more_said s e best k contrary means = (
  λ t. above (decoded s e) (sym (means.at_most best) ∙ contrary.0 t),
  λ b. contrary.1 (means.at_most best ∙ below (decoded s e) b),
)
  where
    above : (n : ℤ) → int_le n best ≡ false → IsTrue (int_lt best n)
    above n h = by (int_lt best n) refl
      where
        by : (b : Bool) → int_lt best n ≡ b → b ≡ true
        by true e2 = refl
        by false e2 = absurd (grind (arith, ints))

    below : (n : ℤ) → IsTrue (int_lt best n) → int_le n best ≡ false
    below n h = by (int_le n best) refl
      where
        by : (b : Bool) → int_le n best ≡ b → b ≡ false
        by false e2 = refl
        by true e2 = absurd (grind (arith, ints))

pub holds_true : (s : ℕ → Bool) → known_holds s known.True ≡ true
unfolding known_holds
holds_true s = refl

pub holds_false : (s : ℕ → Bool) → known_holds s known.False ≡ false
unfolding known_holds
holds_false s = refl

-- a literal holds where the solver's value is its sign
pub holds_literal : (solver : SolverView) (value sign : Bool) (var : ℕ) (l : Literal) → IsSome solver.kept → IfSome solver.kept (λ trues. value ≡ value_in trues var) → var ≡ l.var → sign ≡ l.positive
    → beq value sign ≡ known_holds (kept_values solver) (known.Is l)
unfolding known_holds literal_holds
holds_literal solver value sign var l some is at positive =
    same_test value sign ∙ ap (λ b. same_bool b sign) (kept solver.kept some is ∙ ap (kept_values solver) at) ∙ ap (λ b. same_bool (kept_values solver l.var) b) positive
  where
    kept : (k : Option (List Literal)) → IsSome k → IfSome k (λ trues. value ≡ value_in trues var) → value ≡ value_in (unwrap_or k []) var
    kept None some2 is2 = absurd (false≢true some2)
    kept (Some trues) some2 is2 = is2

-- a clause of one literal
pub clause_is : (s : ℕ → Bool) (clause lits : List Literal) (l : Literal) → HaveSameLiterals clause lits → lits ≡ l ∷ [] → SatisfiesClause s clause ↔ IsTrue (known_holds s (known.Is l))
unfolding known_holds literal_holds same_bool
clause_is s clause lits l same is =
    let both = same_satisfied s clause (l ∷ []) (subst (HaveSameLiterals clause) is same) in (
      λ h. let one = both.0 h in told (s l.var) l.positive (only one.literal one.in_clause one.is_true),
      λ t. both.1 (record { literal = l; in_clause = Contains-here l []; is_true = back (s l.var) l.positive t }),
    )
  where
    told : (a b : Bool) → a ≡ b → same_bool a b ≡ true
    told true true e = refl
    told false false e = refl
    told true false e = cc
    told false true e = cc

    back : (a b : Bool) → same_bool a b ≡ true → a ≡ b
    back true true e = refl
    back false false e = refl
    back true false e = sym e
    back false true e = e

    only : (m : Literal) → Contains (l ∷ []) m → s m.var ≡ m.positive → s l.var ≡ l.positive
    only m (zero, low, at) h = subst (λ k. s k.var ≡ k.positive) (sym at) h
    only m (suc k, low, at) h = absurd (omega (arith, low))

-- the clause of no literal
pub clause_none : (s : ℕ → Bool) (clause lits : List Literal) → HaveSameLiterals clause lits → lits ≡ [] → SatisfiesClause s clause ↔ IsTrue (known_holds s known.False)
unfolding known_holds
clause_none s clause lits same is =
    let both = same_satisfied s clause [] (subst (HaveSameLiterals clause) is same) in (
      λ h. let one = both.0 h in absurd (none_in_nil one.literal one.in_clause),
      λ t. absurd (false≢true t),
    )

-- that a number is better than itself isn't so
pub not_better_than_itself : (sense : Sense) (n : ℤ) → IsTrue (better_number sense n n) → ⊥
unfolding better_number
not_better_than_itself Sense.Minimising n h = omega (arith, ints, h)
not_better_than_itself Sense.Maximising n h = omega (arith, ints, h)

-- what a variable can be isn't always better than a number that the variable reaches
pub not_always : (e : VariableLiterals) (sense : Sense) (best : ℤ) (k : Known) → ((s : ℕ → Bool) × Reaches s e best)
    → ((s : ℕ → Bool) → Means s e → IsTrue (known_holds s k) ↔ IsTrue (better_number sense (decoded s e) best)) → k ≡ known.True → ⊥
not_always e sense best k reached says is =
    let s = reached.0 in
    not_better_than_itself sense best
    (subst (λ n. IsTrue (better_number sense n best)) reached.1.is ((says s reached.1.means).0 (ap (known_holds s) is ∙ holds_true s)))

-- the same of a clause that is made
pub said_none : (r : Result (List Literal) Memory) (lits : List Literal) (k : Known) → IfOk r (λ clause. HaveSameLiterals clause lits) → lits ≡ [] → k ≡ known.False
    → IfOk r (λ clause. (s : ℕ → Bool) → SatisfiesClause s clause ↔ IsTrue (known_holds s k))
said_none (Ok clause) lits k same is at = λ s. subst (λ (j : Known). SatisfiesClause s clause ↔ IsTrue (known_holds s j)) (sym at) (clause_none s clause lits same is)
said_none (Err e) lits k same is at = tt

pub said_literal : (r : Result (List Literal) Memory) (lits : List Literal) (k : Known) (l : Literal) → IfOk r (λ clause. HaveSameLiterals clause lits) → lits ≡ l ∷ [] → k ≡ known.Is l
    → IfOk r (λ clause. (s : ℕ → Bool) → SatisfiesClause s clause ↔ IsTrue (known_holds s k))
said_literal (Ok clause) lits k l same is at = λ s. subst (λ (j : Known). SatisfiesClause s clause ↔ IsTrue (known_holds s j)) (sym at) (clause_is s clause lits l same is)
said_literal (Err e) lits k l same is at = tt

-- what a variable's number comes from
pub reached_by : (layout : List VariableLiterals) (s : ℕ → Bool) (x : ℕ) (n m : ℤ) → x < length layout → Means s (literals_at layout x) → n ≡ number_at (decoded_values layout s) x → m ≡ n → (t : ℕ → Bool) × Reaches t (literals_at layout x) m
reached_by layout s x n m low means is same =
    (s, record { means = means; is = sym (number_is layout s x low) ∙ sym is ∙ sym same })

fewer : {X : Type 0} (p q : X → Bool) (xs : List X) → ((x : X) → p x ≡ true → q x ≡ true) → length (filter p xs) ≤ length (filter q xs)
fewer p q [] h = omega arith
fewer p q (x ∷ xs) h = by (p x) (q x) (h x) (fewer p q xs h)
  where
    by : (a b : Bool) → (a ≡ true → b ≡ true) → length (filter p xs) ≤ length (filter q xs) → length (cond a (x ∷ filter p xs) (filter p xs)) ≤ length (cond b (x ∷ filter q xs) (filter q xs))
    by true true i rest = omega (arith, rest)
    by true false i rest = absurd (false≢true (i refl))
    by false true i rest = omega (arith, rest)
    by false false i rest = rest

one_fewer : {X : Type 0} (p q : X → Bool) (xs : List X) (n : X) → ((x : X) → p x ≡ true → q x ≡ true) → Contains xs n → q n ≡ true → p n ≡ false → length (filter p xs) < length (filter q xs)
one_fewer p q [] n h (k, low, at) passes fails = absurd (omega (arith, low))
one_fewer p q (x ∷ xs) n h (zero, low, at) passes fails = by (p x) (q x) (ap p at ∙ fails) (ap q at ∙ passes) (fewer p q xs h)
  where
    by : (a b : Bool) → a ≡ false → b ≡ true → length (filter p xs) ≤ length (filter q xs) → length (cond a (x ∷ filter p xs) (filter p xs)) < length (cond b (x ∷ filter q xs) (filter q xs))
    by true b e f rest = absurd (false≢true (sym e))
    by false true e f rest = omega (arith, rest)
    by false false e f rest = absurd (false≢true f)
one_fewer p q (x ∷ xs) n h (suc k, low, at) passes fails = by (p x) (q x) (h x) (one_fewer p q xs n h (k, omega (arith, low), at) passes fails)
  where
    by : (a b : Bool) → (a ≡ true → b ≡ true) → length (filter p xs) < length (filter q xs) → length (cond a (x ∷ filter p xs) (filter p xs)) < length (cond b (x ∷ filter q xs) (filter q xs))
    by true true i rest = omega (arith, rest)
    by true false i rest = absurd (false≢true (i refl))
    by false true i rest = omega (arith, rest)
    by false false i rest = rest

better_through : (sense : Sense) (x y z : ℤ) → IsTrue (better_number sense x y) → IsTrue (better_number sense y z) → IsTrue (better_number sense x z)
unfolding better_number
better_through Sense.Minimising x y z a b = lt_true x z (omega (arith, ints, a, b))
better_through Sense.Maximising x y z a b = lt_true z x (omega (arith, ints, a, b))

isnt : (b : Bool) → (b ≡ true → ⊥) → b ≡ false
isnt true h = absurd (h refl)
isnt false h = refl

-- with a better number fewer are left
pub numbers_fall : (sense : Sense) (domain : List ℤ) (best : Option ℤ) (number : ℤ) → Contains domain number → IfSome best (λ b. IsTrue (better_number sense number b)) → numbers_left sense domain (Some number) < numbers_left sense domain best
unfolding numbers_left
numbers_fall sense domain None number found better =
    let most : length (filter (λ v. better_number sense v number) domain) ≤ length (filter (λ v. true) domain) = fewer (λ v. better_number sense v number) (λ v. true) domain (λ v t. refl) in
    omega (arith, most, all_pass domain)
  where
    all_pass : (vs : List ℤ) → length (filter (λ (v : ℤ). true) vs) ≡ length vs
    all_pass [] = refl
    all_pass (v ∷ vs) = ap suc (all_pass vs)
numbers_fall sense domain (Some b) number found better =
    one_fewer (λ v. better_number sense v number) (λ v. better_number sense v b) domain number (λ v t. better_through sense v number b t better) found better (isnt (better_number sense number number) (not_better_than_itself sense number))
