-- What flat constraints on sums say, and that all of them together stand for the problem.
use Rattle.std.proofs.Common.{Result, Ok, Err, IfOk, OnOk, negsuc, ◌≡◌, ◌↔◌, inl, inr, ℕ, zero, suc, ◌+◌, ◌<◌, ◌≤◌, ℤ, pos, neg_ℤ, ◌+ℤ◌, ◌-ℤ◌, ◌*ℤ◌, ◌≤ℤ◌, ◌<ℤ◌, Bool, true, false, IsTrue, List, [], ◌∷◌, ◌++◌, length, map, take, get_or, Option, Some, None, refl, sym, ap, subst, ◌∙◌, arith, int_le}
use Rattle.std.specs.Prelude.{MatchOption, unsigned_abs}
use Rattle.std.proofs.lemmas.List.Sums.{sum_by-cons}
use Rattle.ep_base.proofs.Ascending.{ascending_cons, ascending_lists_are_equal, first_of, first_or_later, later_of, nothing_in}
use Rattle.std.specs.List.{All, AllPairs, AllZip, Any, Contains}
use Rattle.std.proofs.lemmas.List.Quantifiers.{Any-push}
use Rattle.ep_base.proofs.RunSteps.{any_push_cases}
use Rattle.ep_base.specs.Runs.{IsIn}
use Rattle.ep_base.specs.declared.run_lists.Run.{Run}
use Rattle.std.proofs.lemmas.Bool.Decides.{Decides-int_eq}
use Rattle.std.proofs.lemmas.Int.{ints}
use Rattle.std.proofs.lemmas.List.{append-nil, map-append, get_or_append_left, length-map, length-append, take_more, get_or-map}
use Rattle.std.proofs.lemmas.List.Elements.{All-push, All-nil, All-weaker, All-head, All-tail, All-cons, All-contains_itself, All-map}
use Rattle.std.proofs.Math.Seq.{get_or-append_seam, take-append_seam}
use Rattle.ep_base.specs.Numbers.{compare_holds, sum_of}
use Rattle.ep_base.specs.Reads.{IsWithinNumbers, weighted_sum}
use Rattle.ep_base.specs.declared.operators.CompareOp.{CompareOp}
use Rattle.ep_base.specs.declared.operators.CompareOp.TheVariants as op
use Rattle.ep_flat.specs.Cons.{FlatCon, con_holds, con_variables, is_as_said, kind_coefficients, kind_holds, kind_variables, linear, number_at}
use Rattle.ep_flat.specs.declared.flats.Con.{Con}
use Rattle.ep_flat.specs.FlatViews.{plain_con}
use Rattle.opb_text.specs.declared.content.OpbRow.{OpbRow}
use Rattle.opb_text.specs.Views.{plain_row}
use Rattle.ep_flat.specs.Flats.{FlatState, HasSmallCoefficients, Meets, NamesBelow}
use Rattle.opb_text.specs.declared.content.OpbTerm.{OpbTerm}
use Rattle.opb_text.specs.Contents.{OpbConstraint, OpbContent}
use Rattle.opb_text.specs.Flats.{StandsFor, HasValueOf, truth_domains, truth_numbers, truths_of}
use Rattle.opb_text.specs.Solutions.{SidesHold, RowHolds, terms_total}
use Rattle.opb_text.specs.Sums.{AreConsOf, AreNamed, AreNamedRows, AreBitsOf, GoesOnWith, IsConOf, IsGoalCon, IsSpan, IsSumOf, IsBit, NamesUpTo, compared, parts_reach, opb_parts_total}
use Rattle.opb_text.specs.Weights.{AreVariablesOf, factors_reach}
use Rattle.opb_text.proofs.SumLaws.{total_push, within_numbers}

-- a sum that is compared with a number
abbrev pub sum_con : List (ℤ × ℕ) → CompareOp → ℤ → FlatCon
sum_con parts operator number = record { truth = None; kind = linear parts operator number }

-- ---- numbers of variables that come first

pub number_front : (values more : List ℤ) (x : ℕ) → x < length values → number_at (values ++ more) x ≡ number_at values x
unfolding number_at
number_front values more x lt = get_or_append_left values more (pos 0) x lt

pub total_front : (values more : List ℤ) (parts : List (ℤ × ℕ)) → NamesUpTo (length values) parts → opb_parts_total (values ++ more) parts ≡ opb_parts_total values parts
unfolding weighted_sum sum_of
total_front values more [] named = refl
total_front values more (p ∷ parts) named =
    let lt : p.1 < length values = named 0 p (omega arith) in
    ap (λ (n : ℤ). (p.0 *ℤ n) +ℤ opb_parts_total (values ++ more) parts) (number_front values more p.1 lt)
    ∙ ap (λ (n : ℤ). (p.0 *ℤ number_at values p.1) +ℤ n) (total_front values more parts (λ k d below. named (suc k) d (omega arith)))

-- ---- comparisons

at_most_is : (a b : ℤ) → int_le a b ≡ true → a ≤ℤ b
at_most_is a b e = omega (arith, ints, e)

is_at_most : (a b : ℤ) → a ≤ℤ b → int_le a b ≡ true
is_at_most a b h = by (int_le a b) refl
  where
    by : (t : Bool) → int_le a b ≡ t → t ≡ true
    by true e = refl
    by false e = absurd (omega (arith, ints, h, e))

equal_says : (sum number : ℤ) → IsTrue (compare_holds op.Equal sum number) ↔ (sum ≡ number)
unfolding compare_holds
equal_says sum number = ((Decides-int_eq sum number).0, (Decides-int_eq sum number).1)

least_says : (sum number : ℤ) → IsTrue (compare_holds op.AtLeast sum number) ↔ (number ≤ℤ sum)
unfolding compare_holds
least_says sum number = (at_most_is number sum, is_at_most number sum)

-- a comparison of a part of a sum with what is left of the right side
compared_says : (equal : Bool) (whole sum constant right : ℤ) → whole ≡ (sum +ℤ constant) → IsTrue (compare_holds (compared equal) sum (right -ℤ constant)) ↔ SidesHold equal whole right
compared_says true whole sum constant right e = (
  λ holds. let h = (equal_says sum (right -ℤ constant)).0 holds in omega (arith, ints, h, e),
  λ reaches. (equal_says sum (right -ℤ constant)).1 (omega (arith, ints, reaches, e)),
)
compared_says false whole sum constant right e = (
  λ holds. let h = (least_says sum (right -ℤ constant)).0 holds in omega (arith, ints, h, e),
  λ reaches. (least_says sum (right -ℤ constant)).1 (omega (arith, ints, reaches, e)),
)

-- ---- one constraint

small_part : (parts : List (ℤ × ℕ)) (k : ℕ) (d : ℤ × ℕ) → k < length parts → unsigned_abs (get_or parts k d).0 ≤ parts_reach parts
small_part [] k d lt = absurd (omega arith)
small_part (p ∷ parts) zero d lt = let s = sum_by-cons (λ (q : ℤ × ℕ). unsigned_abs q.0) p parts in omega (arith, s)
small_part (p ∷ parts) (suc k) d lt =
    let s = sum_by-cons (λ (q : ℤ × ℕ). unsigned_abs q.0) p parts in let inner = small_part parts k d (omega (arith, lt)) in omega (arith, s, inner)

pub parts_small : (parts : List (ℤ × ℕ)) → parts_reach parts ≤ 1099511627776 → All IsWithinNumbers (map (λ p. p.0) parts)
parts_small parts small = All-map IsWithinNumbers (λ (p : ℤ × ℕ). p.0) parts (λ k d lt. within_numbers (get_or parts k d).0 (let one = small_part parts k d lt in omega (arith, one, small)))

names_mapped : (count : ℕ) (parts : List (ℤ × ℕ)) → NamesUpTo count parts → All (λ x. x < count) (map (λ p. p.1) parts)
names_mapped count parts named = All-map (λ x. x < count) (λ (p : ℤ × ℕ). p.1) parts named

pub row_con_is : (vars : List ℕ) (row : OpbConstraint) (parts : List (ℤ × ℕ)) (constant number : ℤ) → IsSumOf vars row.terms parts constant → factors_reach row.terms ≤ 1099511627776 → number ≡ (row.right -ℤ constant)
    → IsConOf vars row (sum_con parts (compared row.equal) number)
unfolding con_holds is_as_said kind_holds con_variables kind_variables kind_coefficients
row_con_is vars row parts constant number s small is = record {
  holds = λ values more are.
      let named = subst (λ (n : ℕ). NamesUpTo n parts) (sym are.long) s.names in
      let front = total_front values more parts named in
      let says = compared_says row.equal (terms_total (truths_of vars values) row.terms) (opb_parts_total values parts) constant row.right (s.value values are) in
      subst (λ (n : ℤ). IsTrue (compare_holds (compared row.equal) n number) ↔ RowHolds (truths_of vars values) row) (sym front)
      (subst (λ (m : ℤ). IsTrue (compare_holds (compared row.equal) (opb_parts_total values parts) m) ↔ RowHolds (truths_of vars values) row) (sym is) says);
  names = names_mapped (length vars) parts s.names;
  small = parts_small parts (omega (arith, s.size, small));
}

-- ---- the objective

last_number : (values : List ℤ) (number : ℤ) → number_at (values ++ number ∷ []) (length values) ≡ number
unfolding number_at
last_number values number = get_or-append_seam values number [] (pos 0)

goal_total : (values : List ℤ) (number : ℤ) (parts : List (ℤ × ℕ)) (goal : ℕ) → goal ≡ length values → NamesUpTo (length values) parts
    → opb_parts_total (values ++ number ∷ []) (parts ++ (neg_ℤ (pos 1), goal) ∷ []) ≡ (opb_parts_total values parts +ℤ neg_ℤ number)
goal_total values number parts goal is named =
    let last : number_at (values ++ number ∷ []) goal ≡ number = ap (number_at (values ++ number ∷ [])) is ∙ last_number values number in
    let pushed = total_push (values ++ number ∷ []) parts (neg_ℤ (pos 1), goal) in
    let front = total_front values (number ∷ []) parts named in
    let one : (neg_ℤ (pos 1) *ℤ number_at (values ++ number ∷ []) goal) ≡ (neg_ℤ (pos 1) *ℤ number) = ap (λ (n : ℤ). neg_ℤ (pos 1) *ℤ n) last in
    omega (arith, ints, pushed, front, one)

names_weaker : (count : ℕ) (parts : List (ℤ × ℕ)) → NamesUpTo count parts → NamesUpTo (count + 1) parts
names_weaker count parts named = All-weaker (λ (p : ℤ × ℕ). p.1 < count) (λ (p : ℤ × ℕ). p.1 < count + 1) (λ p lt. omega (arith, lt)) parts named

pub goal_con_is : (vars : List ℕ) (terms : List OpbTerm) (parts : List (ℤ × ℕ)) (constant number : ℤ) (goal : ℕ) → IsSumOf vars terms parts constant → factors_reach terms ≤ 1099511627776
    → number ≡ neg_ℤ constant → goal ≡ length vars → IsGoalCon vars terms (sum_con (parts ++ (neg_ℤ (pos 1), goal) ∷ []) op.Equal number)
unfolding con_holds is_as_said kind_holds con_variables kind_variables kind_coefficients
goal_con_is vars terms parts constant number goal s small is at = record {
  holds = λ values value are.
      let named = subst (λ (n : ℕ). NamesUpTo n parts) (sym are.long) s.names in
      let whole = goal_total values value parts goal (at ∙ sym are.long) named in
      let sum = s.value values are in
      let says = equal_says (opb_parts_total (values ++ value ∷ []) (parts ++ (neg_ℤ (pos 1), goal) ∷ [])) number in (
        λ holds. let h = says.0 holds in omega (arith, ints, h, whole, sum, is),
        λ e. says.1 (omega (arith, ints, e, whole, sum, is)),
      );
  names = names_mapped (length vars + 1) (parts ++ (neg_ℤ (pos 1), goal) ∷ []) (All-push (λ (p : ℤ × ℕ). p.1 < length vars + 1) parts (neg_ℤ (pos 1), goal) (names_weaker (length vars) parts s.names) (omega (arith, at)));
  small = subst (All IsWithinNumbers) (sym (map-append (λ (p : ℤ × ℕ). p.0) parts ((neg_ℤ (pos 1), goal) ∷ [])))
      (All-push IsWithinNumbers (map (λ (p : ℤ × ℕ). p.0) parts) (neg_ℤ (pos 1)) (parts_small parts (omega (arith, s.size, small))) (within_numbers (neg_ℤ (pos 1)) (omega arith)));
}

-- ---- domains

pub domain_truth : (n : ℤ) → Contains truth_numbers n → IsBit n
domain_truth n c = elim (first_or_later (pos 0) n (pos 1 ∷ []) c) as (λ _. IsBit n) [
  | inl e ↦ inl (sym e)
  | inr w ↦ elim (first_or_later (pos 1) n [] w) as (λ _. IsBit n) [
    | inl e ↦ inr (sym e)
    | inr v ↦ nothing_in n v
  ]
]

pub domains_truths : (vars : List ℕ) (values : List ℤ) → AllZip Contains (truth_domains vars) values → AreBitsOf vars values
domains_truths [] [] zip = record { long = refl; bits = All-nil IsBit }
domains_truths [] (v ∷ values) zip = absurd zip
domains_truths (x ∷ vars) [] zip = absurd zip
domains_truths (x ∷ vars) (v ∷ values) zip =
    let inner = domains_truths vars values zip.1 in
    record { long = ap suc inner.long; bits = All-cons IsBit v values (domain_truth v zip.0) inner.bits }

zip_front : (domains more : List (List ℤ)) (values others : List ℤ) → length values ≡ length domains → AllZip Contains (domains ++ more) (values ++ others) → AllZip Contains domains values × AllZip Contains more others
zip_front [] more [] others long zip = (tt, zip)
zip_front [] more (v ∷ values) others long zip = absurd (omega (arith, long))
zip_front (d ∷ domains) more [] others long zip = absurd (omega (arith, long))
zip_front (d ∷ domains) more (v ∷ values) others long zip =
    let inner = zip_front domains more values others (omega (arith, long)) zip.1 in ((zip.0, inner.0), inner.1)

zip_both : (domains more : List (List ℤ)) (values others : List ℤ) → AllZip Contains domains values → AllZip Contains more others → AllZip Contains (domains ++ more) (values ++ others)
zip_both [] more [] others zip rest = rest
zip_both [] more (v ∷ values) others zip rest = absurd zip
zip_both (d ∷ domains) more [] others zip rest = absurd zip
zip_both (d ∷ domains) more (v ∷ values) others zip rest = (zip.0, zip_both domains more values others zip.1 rest)

-- ---- all constraints

pub rows_say : (vars : List ℕ) (rows : List OpbConstraint) (cons : List FlatCon) (values more : List ℤ) → AreConsOf vars rows cons → AreBitsOf vars values
    → All (λ con. IsTrue (con_holds (values ++ more) con)) cons ↔ All (RowHolds (truths_of vars values)) rows
rows_say vars [] [] values more zip are = (λ all. All-nil (RowHolds (truths_of vars values)), λ all. All-nil (λ con. IsTrue (con_holds (values ++ more) con)))
rows_say vars [] (con ∷ cons) values more zip are = absurd zip
rows_say vars (row ∷ rows) [] values more zip are = absurd zip
rows_say vars (row ∷ rows) (con ∷ cons) values more zip are =
    let inner = rows_say vars rows cons values more zip.1 are in
    let one = zip.0.holds values more are in
    let P : FlatCon → Type 0 = λ c. IsTrue (con_holds (values ++ more) c) in
    let Q : OpbConstraint → Type 0 = RowHolds (truths_of vars values) in (
      λ all. All-cons Q row rows (one.0 (All-head P con cons all)) (inner.0 (All-tail P con cons all)),
      λ all. All-cons P con cons (one.1 (All-head Q row rows all)) (inner.1 (All-tail Q row rows all)),
    )

cons_sound : (vars : List ℕ) (rows : List OpbConstraint) (cons : List FlatCon) → AreConsOf vars rows cons → All (NamesBelow (length vars)) cons × All HasSmallCoefficients cons
cons_sound vars [] [] zip = (All-nil (NamesBelow (length vars)), All-nil HasSmallCoefficients)
cons_sound vars [] (con ∷ cons) zip = absurd zip
cons_sound vars (row ∷ rows) [] zip = absurd zip
cons_sound vars (row ∷ rows) (con ∷ cons) zip =
    let inner = cons_sound vars rows cons zip.1 in
    (All-cons (NamesBelow (length vars)) con cons zip.0.names inner.0, All-cons HasSmallCoefficients con cons zip.0.small inner.1)

truth_near : All IsWithinNumbers truth_numbers
truth_near = All-cons IsWithinNumbers (pos 0) (pos 1 ∷ []) (within_numbers (pos 0) (omega arith)) (All-cons IsWithinNumbers (pos 1) [] (within_numbers (pos 1) (omega arith)) (All-nil IsWithinNumbers))

domains_near : (vars : List ℕ) → All (λ domain. All IsWithinNumbers domain) (truth_domains vars)
domains_near vars = All-map (λ domain. All IsWithinNumbers domain) (λ (x : ℕ). truth_numbers) vars (λ k d lt. truth_near)

-- ---- the whole

-- the flat problem of the constraints
pub record StandsForRows (content : OpbContent) (vars : List ℕ) (flat : FlatState) : Type 0 where
  pub variables : AreVariablesOf content vars
  pub domains : flat.vars ≡ truth_domains vars
  pub cons : AreConsOf vars content.rows flat.cons

abbrev rows_flat : List ℕ → List FlatCon → FlatState
rows_flat vars cons = record { vars = truth_domains vars; cons = cons }

length_domains : (vars : List ℕ) → length (truth_domains vars) ≡ length vars
length_domains vars = length-map vars (λ (x : ℕ). truth_numbers)

take_domains : (vars : List ℕ) (more : List (List ℤ)) → take (length vars) (truth_domains vars ++ more) ≡ truth_domains vars
take_domains vars more =
    ap (λ (n : ℕ). take n (truth_domains vars ++ more)) (sym (length_domains vars)) ∙ take-append_seam (truth_domains vars) more

no_more : (vars : List ℕ) (values more : List ℤ) → AllZip Contains (truth_domains vars) values → AllZip Contains (truth_domains vars) (values ++ more) → more ≡ []
no_more [] [] [] zip whole = refl
no_more [] [] (m ∷ more) zip whole = absurd whole
no_more [] (v ∷ values) more zip whole = absurd zip
no_more (x ∷ vars) [] more zip whole = absurd zip
no_more (x ∷ vars) (v ∷ values) more zip whole = no_more vars values more zip.1 whole.1

rows_stand : (content : OpbContent) (vars : List ℕ) (cons : List FlatCon) → content.objective ≡ None → AreVariablesOf content vars → AreConsOf vars content.rows cons → StandsFor content (rows_flat vars cons) None
rows_stand content vars cons none are all = record {
  vars = vars;
  variables = are;
  first = ap (take (length vars)) (sym (append-nil (truth_domains vars))) ∙ take_domains vars [];
  solutions = λ values zip.
      let truths = domains_truths vars values zip in (
        λ meets. (rows_say vars content.rows cons values meets.0 all truths).0 meets.1.cons,
        λ solution. (
          [],
          record {
            domains = subst (λ (vs : List ℤ). AllZip Contains (truth_domains vars) vs) (sym (append-nil values)) zip;
            cons = (rows_say vars content.rows cons values [] all truths).1 solution;
          },
        ),
      );
  objective = subst (λ (o : Option (List OpbTerm)). MatchOption o (◌≡◌ {A = Option ℕ} None None) (λ terms. (x : ℕ) × (◌≡◌ {A = Option ℕ} None (Some x)) × HasValueOf terms vars (rows_flat vars cons) x)) (sym none) refl;
  sound =
      let both = cons_sound vars content.rows cons all in
      record {
        names = subst (λ (n : ℕ). All (NamesBelow n) cons) (sym (length_domains vars)) both.0;
        numbers = domains_near vars;
        coefficients = both.1;
      };
}

pub stands_for_rows : (content : OpbContent) (vars : List ℕ) (flat : FlatState) → content.objective ≡ None → StandsForRows content vars flat → StandsFor content flat None
stands_for_rows content vars flat none s =
    subst (λ (ds : List (List ℤ)). StandsFor content (record { vars = ds; cons = flat.cons }) None) (sym s.domains) (rows_stand content vars flat.cons none s.variables s.cons)

abbrev goal_flat : List ℕ → List FlatCon → List ℤ → FlatCon → FlatState
goal_flat vars cons domain con = record { vars = truth_domains vars ++ domain ∷ []; cons = cons ++ con ∷ [] }

-- numbers that meet the flat problem of an objective: those of the variables, and one more
record Parted (vars : List ℕ) (domain : List ℤ) (values more : List ℤ) : Type 0 where
  pub zip : AllZip Contains (truth_domains vars) values
  pub number : ℤ
  pub is : more ≡ number ∷ []
  pub among : Contains domain number

one_number : (domain more : List ℤ) → AllZip Contains (domain ∷ []) more → (number : ℤ) × (more ≡ number ∷ []) × Contains domain number
one_number domain [] zip = absurd zip
one_number domain (n ∷ []) zip = (n, refl, zip.0)
one_number domain (n ∷ m ∷ more) zip = absurd zip.1

parted : (vars : List ℕ) (domain : List ℤ) (values more : List ℤ) → length values ≡ length vars → AllZip Contains (truth_domains vars ++ domain ∷ []) (values ++ more) → Parted vars domain values more
parted vars domain values more long zip =
    let both = zip_front (truth_domains vars) (domain ∷ []) values more (long ∙ sym (length_domains vars)) zip in
    let one = one_number domain more both.1 in
    record { zip = both.0; number = one.0; is = one.1; among = one.2 }

all_front : {X : Type 0} (P : X → Type 0) (xs : List X) (x : X) → All P (xs ++ x ∷ []) → All P xs × P x
all_front P [] x all = (All-nil P, all 0 x (omega arith))
all_front P (y ∷ xs) x all =
    let inner = all_front P xs x (All-tail P y (xs ++ x ∷ []) all) in (All-cons P y xs (All-head P y (xs ++ x ∷ []) all) inner.0, inner.1)

cons_parts : (cons : List FlatCon) (con : FlatCon) (values : List ℤ) → All (λ c. IsTrue (con_holds values c)) (cons ++ con ∷ []) → All (λ c. IsTrue (con_holds values c)) cons × IsTrue (con_holds values con)
cons_parts cons con values all = all_front (λ c. IsTrue (con_holds values c)) cons con all

names_grow : (count : ℕ) (con : FlatCon) → NamesBelow count con → NamesBelow (count + 1) con
names_grow count con names = All-weaker (λ x. x < count) (λ x. x < count + 1) (λ x lt. omega (arith, lt)) (con_variables con) names

goal_value : (vars : List ℕ) (terms : List OpbTerm) (cons : List FlatCon) (domain : List ℤ) (con : FlatCon) (values more : List ℤ) → IsGoalCon vars terms con → length values ≡ length vars → Meets (goal_flat vars cons domain con) (values ++ more)
    → number_at (values ++ more) (length vars) ≡ terms_total (truths_of vars values) terms
goal_value vars terms cons domain con values more goal long meets =
    let p = parted vars domain values more long meets.domains in
    let truths = domains_truths vars values p.zip in
    let held = subst (λ (m : List ℤ). IsTrue (con_holds (values ++ m) con)) p.is (cons_parts cons con (values ++ more) meets.cons).1 in
    ap (λ (m : List ℤ). number_at (values ++ m) (length vars)) p.is
    ∙ ap (number_at (values ++ p.number ∷ [])) (sym long) ∙ last_number values p.number
    ∙ (goal.holds values p.number truths).0 held

length_goal : (vars : List ℕ) (domain : List ℤ) → length (truth_domains vars ++ domain ∷ []) ≡ length vars + 1
length_goal vars domain = let a = length-append (truth_domains vars) (domain ∷ []) in let b = length_domains vars in omega (arith, a, b)

goal_stands : (content : OpbContent) (terms : List OpbTerm) (vars : List ℕ) (cons : List FlatCon) (domain : List ℤ) (con : FlatCon) → content.objective ≡ Some terms → AreVariablesOf content vars → AreConsOf vars content.rows cons
    → IsGoalCon vars terms con → ((truths : ℕ → Bool) → Contains domain (terms_total truths terms)) → All IsWithinNumbers domain → StandsFor content (goal_flat vars cons domain con) (Some (length vars))
goal_stands content terms vars cons domain con some are all goal has near = record {
  vars = vars;
  variables = are;
  first = take_domains vars (domain ∷ []);
  solutions = λ values zip.
      let truths = domains_truths vars values zip in
      let value = terms_total (truths_of vars values) terms in (
        λ meets. (rows_say vars content.rows cons values meets.0 all truths).0 (cons_parts cons con (values ++ meets.0) meets.1.cons).0,
        λ solution. (
          value ∷ [],
          record {
            domains = zip_both (truth_domains vars) (domain ∷ []) values (value ∷ []) zip (has (truths_of vars values), tt);
            cons = All-push (λ c. IsTrue (con_holds (values ++ value ∷ []) c)) cons con ((rows_say vars content.rows cons values (value ∷ []) all truths).1 solution) ((goal.holds values value truths).1 refl);
          },
        ),
      );
  objective =
      let whole : (x : ℕ) × (◌≡◌ {A = Option ℕ} (Some (length vars)) (Some x)) × HasValueOf terms vars (goal_flat vars cons domain con) x = (
        length vars,
        refl,
        record {
          there = let long = length_goal vars domain in omega (arith, long);
          value = λ values more long meets. goal_value vars terms cons domain con values more goal long meets;
        },
      ) in
      subst (λ (o : Option (List OpbTerm)). MatchOption o (◌≡◌ {A = Option ℕ} (Some (length vars)) None) (λ ts. (x : ℕ) × (◌≡◌ {A = Option ℕ} (Some (length vars)) (Some x)) × HasValueOf ts vars (goal_flat vars cons domain con) x)) (sym some) whole;
  sound =
      let both = cons_sound vars content.rows cons all in
      let wider = All-weaker (NamesBelow (length vars)) (NamesBelow (length vars + 1)) (names_grow (length vars)) cons both.0 in
      record {
        names = subst (λ (n : ℕ). All (NamesBelow n) (cons ++ con ∷ [])) (sym (length_goal vars domain)) (All-push (NamesBelow (length vars + 1)) cons con wider goal.names);
        numbers = All-push (λ d. All IsWithinNumbers d) (truth_domains vars) domain (domains_near vars) near;
        coefficients = All-push HasSmallCoefficients cons con both.1 goal.small;
      };
}

pub stands_with_goal : (content : OpbContent) (terms : List OpbTerm) (vars : List ℕ) (old new : FlatState) (goal : ℕ) → content.objective ≡ Some terms → StandsForRows content vars old → goal ≡ length vars → GoesOnWith vars terms old new → StandsFor content new (Some goal)
stands_with_goal content terms vars old new goal some s is g =
    let vars_are : new.vars ≡ truth_domains vars ++ g.domain ∷ [] = g.vars_are ∙ ap (λ (ds : List (List ℤ)). ds ++ g.domain ∷ []) s.domains in
    let made = goal_stands content terms vars old.cons g.domain g.con some s.variables s.cons g.is_goal g.has_value g.near in
    subst (λ (x : ℕ). StandsFor content new (Some x)) (sym is)
    (subst (λ (ds : List (List ℤ)). StandsFor content (record { vars = ds; cons = new.cons }) (Some (length vars))) (sym vars_are)
    (subst (λ (cs : List FlatCon). StandsFor content (record { vars = truth_domains vars ++ g.domain ∷ []; cons = cs }) (Some (length vars))) (sym g.cons_are) made))

-- ---- what the code leaves

pub on_ok : {X E P Q : Type 0} (r : Result X E) → OnOk r P → (P → Q) → OnOk r Q
on_ok (Ok x) p f = f p
on_ok (Err e) p f = tt

pub both_ok : {X E : Type 0} {P Q R : X → Type 0} (r : Result X E) → IfOk r P → IfOk r Q → ((x : X) → P x → Q x → R x) → IfOk r R
both_ok (Ok x) p q f = f x p q
both_ok (Err e) p q f = tt

zero_or_one : (n : ℤ) → pos 0 ≤ℤ n → n ≤ℤ pos 1 → IsBit n
zero_or_one (pos zero) low high = inl refl
zero_or_one (pos (suc zero)) low high = inr refl
zero_or_one (pos (suc (suc n))) low high = absurd (omega (arith, ints, high))
zero_or_one (negsuc n) low high = absurd (omega (arith, ints, low))

truth_there : (n : ℤ) → IsBit n → Contains truth_numbers n
truth_there n (inl is) = subst (Contains truth_numbers) (sym is) (first_of (pos 0) (pos 1 ∷ []))
truth_there n (inr is) = subst (Contains truth_numbers) (sym is) (later_of (pos 0) (pos 1) (pos 1 ∷ []) (first_of (pos 1) []))

truth_low : (n : ℤ) → IsBit n → pos 0 ≤ℤ n
truth_low n (inl is) = omega (arith, ints, is)
truth_low n (inr is) = omega (arith, ints, is)

truth_high : (n : ℤ) → IsBit n → n ≤ℤ pos 1
truth_high n (inl is) = omega (arith, ints, is)
truth_high n (inr is) = omega (arith, ints, is)

truths_ascend : AllPairs ◌<ℤ◌ truth_numbers
truths_ascend = ascending_cons (pos 0) (pos 1 ∷ []) (All-cons (λ v. pos 0 <ℤ v) (pos 1) [] (omega (arith, ints)) (All-nil (λ v. pos 0 <ℤ v)))
    (ascending_cons (pos 1) [] (All-nil (λ v. pos 1 <ℤ v)) (λ i j d low high. absurd (omega arith)))

pub truth_set : (set : List ℤ) → IsSpan (pos 0) (pos 1) set → AllPairs ◌<ℤ◌ set → set ≡ truth_numbers
truth_set set span up = ascending_lists_are_equal set truth_numbers up truths_ascend (λ v. (
  λ there. let within = (span.has v).0 there in truth_there v (zero_or_one v within.0 within.1),
  λ there. let truth = domain_truth v there in (span.has v).1 (truth_low v truth, truth_high v truth),
))

pub span_near : (low high : ℤ) (set : List ℤ) → IsSpan low high set → IsWithinNumbers low → IsWithinNumbers high → All IsWithinNumbers set
span_near low high set span a b =
    All-weaker (Contains set) IsWithinNumbers (λ n there. let within = (span.has n).0 there in (omega (arith, ints, within.0, a.0), omega (arith, ints, within.1, b.1))) set (All-contains_itself set)

zip_push : {A B : Type 0} (R : A → B → Type 0) (xs : List A) (ys : List B) (x : A) (y : B) → AllZip R xs ys → R x y → AllZip R (xs ++ x ∷ []) (ys ++ y ∷ [])
zip_push R [] [] x y zip one = (one, tt)
zip_push R [] (b ∷ ys) x y zip one = absurd zip
zip_push R (a ∷ xs) [] x y zip one = absurd zip
zip_push R (a ∷ xs) (b ∷ ys) x y zip one = (zip.0, zip_push R xs ys x y zip.1 one)

pub cons_step : (vars : List ℕ) (rows : List OpbRow) (i : ℕ) (row : OpbRow) (old new : List Con) (con : Con) → i < length rows → row ≡ get_or rows i row → new ≡ old ++ con ∷ []
    → AreConsOf vars (map plain_row (take i rows)) (map plain_con old) → IsConOf vars (plain_row row) (plain_con con) → AreConsOf vars (map plain_row (take (i + 1) rows)) (map plain_con new)
cons_step vars rows i row old new con lt is pushed zip one =
    let rows_are : map plain_row (take (i + 1) rows) ≡ map plain_row (take i rows) ++ plain_row row ∷ []
    = ap (map plain_row) (take_more rows i row lt ∙ ap (λ (r : OpbRow). take i rows ++ r ∷ []) (sym is)) ∙ map-append plain_row (take i rows) (row ∷ []) in
    let cons_are : map plain_con new ≡ map plain_con old ++ plain_con con ∷ [] = ap (map plain_con) pushed ∙ map-append plain_con old (con ∷ []) in
    subst (λ (rs : List OpbConstraint). AreConsOf vars rs (map plain_con new)) (sym rows_are)
    (subst (λ (cs : List FlatCon). AreConsOf vars (map plain_row (take i rows) ++ plain_row row ∷ []) cs) (sym cons_are)
    (zip_push (IsConOf vars) (map plain_row (take i rows)) (map plain_con old) (plain_row row) (plain_con con) zip one))

pub named_row : (vars : List ℕ) (rows : List OpbRow) (i : ℕ) (row : OpbRow) → AreNamedRows vars (map plain_row rows) → i < length rows → row ≡ get_or rows i row → AreNamed vars row.terms.items
named_row vars rows i row all lt is =
    let long : length (map plain_row rows) ≡ length rows = length-map rows plain_row in
    let there : get_or (map plain_row rows) i (plain_row row) ≡ plain_row row = get_or-map plain_row rows i row (plain_row row) lt ∙ ap plain_row (sym is) in
    subst (λ (r : OpbConstraint). AreNamed vars r.terms) there (all i (plain_row row) (omega (arith, long, lt)))

pub span_of : (low high : ℤ) (run : Run) (parts : List Run) (set : List ℤ) → run.lo ≡ low → run.hi ≡ high → parts ≡ run ∷ [] → ((n : ℤ) → Contains set n ↔ Any (IsIn n) parts) → IsSpan low high set
span_of low high run parts set lo hi is numbers = record {
  has = λ n. (
    λ there. elim (any_push_cases (IsIn n) [] run (subst (λ (rs : List Run). Any (IsIn n) rs) is ((numbers n).0 there))) as (λ _. (low ≤ℤ n) × (n ≤ℤ high)) [
      | inl none ↦ absurd (omega (arith, none.2))
      | inr within ↦ (subst (λ (z : ℤ). z ≤ℤ n) lo within.0, subst (λ (z : ℤ). n ≤ℤ z) hi within.1)
    ],
    λ within. (numbers n).1 (subst (λ (rs : List Run). Any (IsIn n) rs) (sym is) (Any-push (IsIn n) [] run (subst (λ (z : ℤ). z ≤ℤ n) (sym lo) within.0, subst (λ (z : ℤ). n ≤ℤ z) (sym hi) within.1))),
  );
}
