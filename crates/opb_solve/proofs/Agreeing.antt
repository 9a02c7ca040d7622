-- Truth values that agree on the variables of a problem agree on its solutions, and truth values that are read back from numbers.
use Rattle.std.proofs.Common.{◌≡◌, ◌⊎◌, inl, inr, ℕ, zero, suc, ◌+◌, ◌<◌, ◌≤◌, ℤ, ◌+ℤ◌, ◌*ℤ◌, ◌-ℤ◌, pos, Bool, true, false, eqb, if◌then◌else◌, List, [], ◌∷◌, ◌++◌, length, map, take, get_or, refl, sym, ap, subst, ◌∙◌, arith}
use Rattle.std.specs.List.{All, AllPairs, AllZip, Contains}
use Rattle.std.proofs.lemmas.Bool.{eqb-true}
use Rattle.std.proofs.lemmas.Bool.Decides.{nat_tests}
use Rattle.std.proofs.lemmas.List.{length-map, length-take, take_more}
use Rattle.std.proofs.lemmas.List.Elements.{All-cons, All-head, All-nil, All-tail}
use Rattle.ep_base.specs.Numbers.{is_one, of_bool, sum_of}
use Rattle.opb_answer.specs.Answers.{truths_in}
use Rattle.opb_answer.specs.declared.answers.OpbValue.{OpbValue}
use Rattle.opb_solve.specs.Meant.{numbers_in, values_from}
use Rattle.opb_solve.proofs.NamedTerms.{named_goal, named_rows}
use Rattle.opb_text.specs.Contents.{OpbContent, OpbConstraint, objective_terms}
use Rattle.opb_text.specs.Flats.{truth_domains, truth_numbers, truths_of}
use Rattle.opb_text.specs.Solutions.{IsOpbSolution, SidesHold, RowHolds, literal_value, objective_value, terms_total}
use Rattle.opb_text.specs.Sums.{AreNamed, AreNamedRows}
use Rattle.opb_text.specs.Weights.{AreVariablesOf}
use Rattle.opb_text.specs.declared.content.OpbTerm.{OpbTerm}

-- ---- totals

-- two assignments agree on variables
abbrev pub Agree : List ℕ → (ℕ → Bool) → (ℕ → Bool) → Type 0
Agree vars t u = (var : ℕ) → Contains vars var → t var ≡ u var

pub same_total : (vars : List ℕ) (terms : List OpbTerm) (t u : ℕ → Bool) → AreNamed vars terms → Agree vars t u → terms_total t terms ≡ terms_total u terms
unfolding sum_of
same_total vars [] t u named agree = refl
same_total vars (one ∷ terms) t u named agree =
    let same : t one.var ≡ u one.var = agree one.var (All-head (λ (x : OpbTerm). Contains vars x.var) one terms named) in
    let value : literal_value t one ≡ literal_value u one = ap (λ (b : Bool). if one.negated then pos 1 -ℤ of_bool b else of_bool b) same in
    ap (λ (n : ℤ). (one.factor *ℤ n) +ℤ terms_total t terms) value
    ∙ ap (λ (n : ℤ). (one.factor *ℤ literal_value u one) +ℤ n) (same_total vars terms t u (All-tail (λ (x : OpbTerm). Contains vars x.var) one terms named) agree)

same_rows : (vars : List ℕ) (rows : List OpbConstraint) (t u : ℕ → Bool) → AreNamedRows vars rows → Agree vars t u → All (RowHolds t) rows → All (RowHolds u) rows
same_rows vars [] t u named agree all = All-nil (RowHolds u)
same_rows vars (row ∷ rows) t u named agree all =
    let P : OpbConstraint → Type 0 = λ r. AreNamed vars r.terms in
    All-cons (RowHolds u) row rows
    (subst (λ (n : ℤ). SidesHold row.equal n row.right) (same_total vars row.terms t u (All-head P row rows named) agree) (All-head (RowHolds t) row rows all))
    (same_rows vars rows t u (All-tail P row rows named) agree (All-tail (RowHolds t) row rows all))

pub same_solution : (content : OpbContent) (vars : List ℕ) (t u : ℕ → Bool) → AreVariablesOf content vars → Agree vars t u → IsOpbSolution content t → IsOpbSolution content u
same_solution content vars t u are agree s = same_rows vars content.rows t u (named_rows content vars are) agree s

pub same_objective : (content : OpbContent) (vars : List ℕ) (t u : ℕ → Bool) → AreVariablesOf content vars → Agree vars t u → objective_value content t ≡ objective_value content u
same_objective content vars t u are agree = same_total vars (objective_terms content) t u (named_goal content vars are) agree

-- ---- numbers and back

one_again : (b : Bool) → is_one (of_bool b) ≡ b
unfolding is_one of_bool
one_again true = refl
one_again false = refl

head_or_tail : (x y : ℕ) (xs : List ℕ) → Contains (x ∷ xs) y → (eqb x y ≡ true) ⊎ Contains xs y
head_or_tail x y xs (zero, low, is) = inl (let e : x ≡ y = is in grind (arith, nat_tests))
head_or_tail x y xs (suc k, low, is) = inr (k, omega (arith, low), is)

behind : (x y : ℕ) (xs : List ℕ) → eqb x y ≡ false → (eqb x y ≡ true) ⊎ Contains xs y → Contains xs y
behind x y xs other (inl same) = absurd cc
behind x y xs other (inr there) = there

-- the numbers of truth values say these truth values
pub truths_again : (vars : List ℕ) (truths : ℕ → Bool) → Agree vars (truths_of vars (numbers_in vars truths)) truths
truths_again [] truths var c = absurd (omega (arith, c.1))
truths_again (x ∷ vars) truths var c = by (truths_again vars truths var) (eqb x var) refl
  where
    by : (Contains vars var → truths_of vars (numbers_in vars truths) var ≡ truths var) → (b : Bool) → eqb x var ≡ b → truths_of (x ∷ vars) (numbers_in (x ∷ vars) truths) var ≡ truths var
    by again true e = rw e (one_again (truths x) ∙ ap truths (eqb-true x var e))
    by again false e = rw e (again (behind x var vars e (head_or_tail x var vars c)))

number_fits : (b : Bool) → Contains truth_numbers (of_bool b)
unfolding of_bool
number_fits true = (1, omega arith, refl)
number_fits false = (0, omega arith, refl)

pub numbers_fit : (vars : List ℕ) (truths : ℕ → Bool) → AllZip Contains (truth_domains vars) (numbers_in vars truths)
numbers_fit [] truths = tt
numbers_fit (x ∷ vars) truths = (number_fits (truths x), numbers_fit vars truths)

pub long_numbers_in : (vars : List ℕ) (truths : ℕ → Bool) → length (numbers_in vars truths) ≡ length vars
long_numbers_in vars truths = length-map vars (λ var. of_bool (truths var))

number_again : (n : ℤ) → Contains truth_numbers n → of_bool (is_one n) ≡ n
unfolding of_bool is_one
number_again n (zero, low, is) = subst (λ (m : ℤ). of_bool (is_one m) ≡ m) is refl
number_again n (suc zero, low, is) = subst (λ (m : ℤ). of_bool (is_one m) ≡ m) is refl
number_again n (suc (suc k), low, is) = absurd (omega (arith, low))

-- a variable in front doesn't say what those behind it are, where they are greater
later_numbers : (x : ℕ) (n : ℤ) (vars later : List ℕ) (numbers : List ℤ) → All (λ v. x < v) later
    → map (λ var. of_bool (truths_of (x ∷ vars) (n ∷ numbers) var)) later ≡ map (λ var. of_bool (truths_of vars numbers var)) later
later_numbers x n vars [] numbers above = refl
later_numbers x n vars (y ∷ later) numbers above =
    let less : x < y = All-head (λ v. x < v) y later above in
    let other : eqb x y ≡ false = grind (arith, nat_tests) in
    ap (λ (b : Bool). of_bool (if b then is_one n else truths_of vars numbers y) ∷ map (λ var. of_bool (truths_of (x ∷ vars) (n ∷ numbers) var)) later) other
    ∙ ap (λ ns. of_bool (truths_of vars numbers y) ∷ ns) (later_numbers x n vars later numbers (All-tail (λ v. x < v) y later above))

-- numbers of variables are those of the truth values that they say
pub numbers_again : (vars : List ℕ) (numbers : List ℤ) → AllPairs ◌<◌ vars → AllZip Contains (truth_domains vars) numbers → numbers ≡ numbers_in vars (truths_of vars numbers)
numbers_again [] [] up fit = refl
numbers_again [] (n ∷ numbers) up fit = absurd fit
numbers_again (x ∷ vars) [] up fit = absurd fit
numbers_again (x ∷ vars) (n ∷ numbers) up fit =
    let above : All (λ v. x < v) vars = λ k d low. up 0 (suc k) d (omega arith) (omega (arith, low)) in
    let later : AllPairs ◌<◌ vars = λ i j d lt low. up (suc i) (suc j) d (omega arith) (omega (arith, low)) in
    let same : eqb x x ≡ true = grind (arith, nat_tests) in
    ap (λ m. m ∷ numbers) (sym (number_again n fit.0))
    ∙ ap (λ ns. of_bool (is_one n) ∷ ns) (numbers_again vars numbers later fit.1 ∙ sym (later_numbers x n vars vars numbers above))
    ∙ ap (λ (b : Bool). of_bool (if b then is_one n else truths_of vars numbers x) ∷ map (λ var. of_bool (truths_of (x ∷ vars) (n ∷ numbers) var)) vars) (sym same)

-- ---- values

pub values_vars : (vars : List ℕ) (numbers : List ℤ) → length numbers ≡ length vars → map (λ (v : OpbValue). v.var) (values_from vars numbers) ≡ vars
unfolding values_from
values_vars [] numbers long = refl
values_vars (x ∷ vars) [] long = absurd (omega (arith, long))
values_vars (x ∷ vars) (n ∷ numbers) long = ap (λ xs. x ∷ xs) (values_vars vars numbers (omega (arith, long)))

pub values_truths : (vars : List ℕ) (numbers : List ℤ) (var : ℕ) → truths_of vars numbers var ≡ truths_in (values_from vars numbers) var
unfolding values_from
values_truths [] numbers var = refl
values_truths (x ∷ vars) [] var = refl
values_truths (x ∷ vars) (n ∷ numbers) var = ap (λ (b : Bool). if eqb x var then is_one n else b) (values_truths vars numbers var)

-- ---- values, one after another

pub values_push : (xs : List ℕ) (y : ℕ) (numbers : List ℤ) → length xs < length numbers → values_from (xs ++ y ∷ []) numbers ≡ values_from xs numbers ++ record { var = y; holds = is_one (get_or numbers (length xs) (pos 0)) } ∷ []
unfolding values_from
values_push [] y [] low = absurd (omega (arith, low))
values_push [] y (n ∷ numbers) low = refl
values_push (x ∷ xs) y [] low = absurd (omega (arith, low))
values_push (x ∷ xs) y (n ∷ numbers) low =
    let own : OpbValue = record { var = x; holds = is_one n } in ap (λ (vs : List OpbValue). own ∷ vs) (values_push xs y numbers (omega (arith, low)))

pub values_more : (vars : List ℕ) (numbers : List ℤ) (n var : ℕ) (number : ℤ) → n < length vars → n < length numbers → var ≡ get_or vars n 0 → number ≡ get_or numbers n (pos 0)
    → values_from (take n vars) numbers ++ record { var = var; holds = is_one number } ∷ [] ≡ values_from (take (n + 1) vars) numbers
values_more vars numbers n var number below within first second =
    let long : length (take n vars) ≡ n = let l = length-take n vars in omega (arith, l, below) in
    let pushed = values_push (take n vars) (get_or vars n 0) numbers (omega (arith, long, within)) in
    let value : ℕ → ℤ → OpbValue = λ v m. record { var = v; holds = is_one m } in
    sym (ap (λ (vs : List ℕ). values_from vs numbers) (take_more vars n 0 below) ∙ pushed
    ∙ ap (λ (k : ℕ). values_from (take n vars) numbers ++ value (get_or vars n 0) (get_or numbers k (pos 0)) ∷ []) long
    ∙ ap (λ (v : ℕ). values_from (take n vars) numbers ++ value v (get_or numbers n (pos 0)) ∷ []) (sym first)
    ∙ ap (λ (m : ℤ). values_from (take n vars) numbers ++ value var m ∷ []) (sym second))

pub values_taken : (vars : List ℕ) (numbers : List ℤ) (n : ℕ) → (length vars ≤ n) ⊎ (length numbers ≤ n) → values_from (take n vars) numbers ≡ values_from vars numbers
unfolding values_from
values_taken [] numbers zero low = refl
values_taken [] numbers (suc n) low = refl
values_taken (x ∷ vars) [] zero low = refl
values_taken (x ∷ vars) [] (suc n) low = refl
values_taken (x ∷ vars) (m ∷ numbers) zero (inl low) = absurd (omega (arith, low))
values_taken (x ∷ vars) (m ∷ numbers) zero (inr low) = absurd (omega (arith, low))
values_taken (x ∷ vars) (m ∷ numbers) (suc n) (inl low) =
    let own : OpbValue = record { var = x; holds = is_one m } in ap (λ (vs : List OpbValue). own ∷ vs) (values_taken vars numbers n (inl (omega (arith, low))))
values_taken (x ∷ vars) (m ∷ numbers) (suc n) (inr low) =
    let own : OpbValue = record { var = x; holds = is_one m } in ap (λ (vs : List OpbValue). own ∷ vs) (values_taken vars numbers n (inr (omega (arith, low))))
