-- Different variables: pair by pair, and number by number.
use Rattle.std.proofs.Common.{◌≡◌, ◌↔◌, ◌⊎◌, inl, inr, ℕ, ◌+◌, ◌<◌, ◌≤◌, ℤ, pos, Bool, true, false, not, ◌&&◌, ◌||◌, IsTrue, List, [], ◌∷◌, ◌++◌, length, map, take, drop, refl, sym, ap, subst, ◌∙◌, arith, get_or}
use Rattle.std.specs.List.{All, Any, AllByRecursion, Contains, IsDistinct, list_any}
use Rattle.std.specs.Ordering.{int_eq}
use Rattle.std.proofs.lemmas.Cmp.{int_eq_equiv}
use Rattle.std.proofs.lemmas.List.{append-nil, append_assoc, drop_all, drop_more, get_or-append-add, get_or-map, get_or_append_left, get_or_default, length-append, length-map, map_more, take_all}
use Rattle.std.proofs.lemmas.List.Elements.{All-append, All-contains, All-head, All-map, All-more, All-nil, All-tail, All-weaker, Contains-append_left, Contains-append_right}
use Rattle.std.proofs.lemmas.List.Folds.{Any-from_list_any, list_any_at}
use Rattle.std.proofs.lemmas.Map.Made.{length-le_from_is_member}
use Rattle.cnf_core.proofs.Members.{All-from_contains}
use Rattle.cnf_core.specs.Formula.{Cnf}
use Rattle.ep_base.proofs.RunSteps.{in_numbers}
use Rattle.ep_base.specs.Numbers.{are_different, has_number}
use Rattle.ep_base.specs.Runs.{IsIn, numbers}
use Rattle.ep_base.specs.declared.run_lists.Run.{Run}
use Rattle.ep_flat.specs.Cons.{number_at, numbers_of_vars}
use Rattle.enc_atoms.proofs.Adding.{adds_all, adds_both, adds_like, adds_nothing}
use Rattle.enc_atoms.proofs.Decoded.{length_among, number_among}
use Rattle.enc_atoms.specs.Atoms.{Adds, AreOfDomains, clause_holds}
use Rattle.enc_atoms.specs.declared.atoms.Atom.{Atom}
use Rattle.enc_atoms.proofs.Choosing.{choosing, number_from, number_kept, number_there}
use Rattle.enc_atoms.proofs.Guards.{unless_all, unless_both, unless_like}
use Rattle.enc_atoms.proofs.Meanings.{are_all_says, clause_none, either, not_false, same, same_test}
use Rattle.enc_atoms.proofs.NewTruths.{adds_truths, length_later, numbers_from_at}
use Rattle.enc_atoms.specs.Steps.{AreAtomsOf, AreOf, HasTruths, Implied, NotBoth, SomeTruths, Unless, are_all, numbers_from}
use Rattle.enc_var.specs.Decoding.{VariableLiterals}
use Rattle.enc_var.specs.Layouts.{IsLayoutOf, literals_at}
use Rattle.enc_count.specs.Different.{AreEqual, AreWithin, Covers, Differ, HasDomains, all_pairs}

-- where each number isn't both variables', they differ
pub apart_all : (L : List VariableLiterals) (f g : Cnf) (guard : List Atom) (x y : ℕ) (numbers : List ℤ) (k : ℕ) → IsLayoutOf L f → x < length L → numbers ≡ (literals_at L x).domain → length numbers ≤ k
    → Adds L f L g (λ values. All (λ v. Unless guard (NotBoth x v y v) values) (take k numbers)) → Adds L f L g (Unless guard (Differ (x, y)))
apart_all L f g guard x y numbers k is_layout low are long adds =
    unless_like L f L g guard (λ values. All (λ v. NotBoth x v y v values) numbers) (Differ (x, y)) is_layout
    (unless_all L f L g guard (λ values v. NotBoth x v y v values) numbers is_layout
    (adds_all L f L g (λ values v. Unless guard (NotBoth x v y v) values) numbers k long adds))
    (λ values among. (
      λ h equal. All-contains (λ v. NotBoth x v y v values) numbers (number_at values x) h (subst (λ ns. Contains ns (number_at values x)) (sym are) (number_among L values x among low)) refl (sym equal),
      λ differ k' d below at there. differ (at ∙ sym there),
    ))

-- the numbers of a list of variables, one by one
pub number_of : (values : List ℤ) (xs : List ℕ) (k : ℕ) (d : ℤ) → k < length xs → get_or (numbers_of_vars values xs) k d ≡ number_at values (get_or xs k 0)
unfolding numbers_of_vars
number_of values xs k d low = get_or-map (number_at values) xs k 0 d low

pub length_numbers : (values : List ℤ) (xs : List ℕ) → length (numbers_of_vars values xs) ≡ length xs
unfolding numbers_of_vars
length_numbers values xs = length-map xs (number_at values)

and_both : (a b : Bool) → a ≡ true → b ≡ true → (a && b) ≡ true
and_both true b e h = h
and_both false b e h = not_false false e refl

and_first : (a b : Bool) → (a && b) ≡ true → a ≡ true
and_first true b e = refl
and_first false b e = not_false false e refl

and_second : (a b : Bool) → (a && b) ≡ true → b ≡ true
and_second true b e = e
and_second false b e = not_false false e refl

not_there : (b : Bool) → (b ≡ true → ⊥) → not b ≡ true
not_there true none = absurd (none refl)
not_there false none = refl

there_not : (b : Bool) → not b ≡ true → b ≡ true → ⊥
there_not true e h = not_false false e refl
there_not false e h = not_false false h refl

-- a number that isn't among those of some variables
none_same : (values : List ℤ) (x : ℕ) (xs : List ℕ) → All (λ p. Differ p values) (map (λ y. (x, y)) xs) → not (has_number (numbers_of_vars values xs) (number_at values x)) ≡ true
none_same values x xs differ = not_there (has_number (numbers_of_vars values xs) (number_at values x)) (λ found.
    let at = number_there (numbers_of_vars values xs) (number_at values x) found in
    let k : ℕ = at.0 in
    let low : k < length xs = omega (arith, at.2, length_numbers values xs) in
    let here : Differ (x, get_or xs k 0) values = pair_at k low in
    here (same (number_at values x) at.1 at.4 ∙ sym at.3 ∙ get_or_default (numbers_of_vars values xs) k at.1 (pos 0) at.2 ∙ number_of values xs k (pos 0) low))
  where
    pair_at : (k : ℕ) → k < length xs → Differ (x, get_or xs k 0) values
    pair_at k low = subst (λ (p : ℕ × ℕ). Differ p values) (get_or-map (λ y. (x, y)) xs k 0 (0, 0) low) (differ k (0, 0) (omega (arith, low, length-map {B = ℕ × ℕ} xs (λ y. (x, y)))))

same_none : (values : List ℤ) (x : ℕ) (xs : List ℕ) → not (has_number (numbers_of_vars values xs) (number_at values x)) ≡ true → All (λ p. Differ p values) (map (λ y. (x, y)) xs)
same_none values x xs none =
    All-map (λ p. Differ p values) (λ y. (x, y)) xs (λ k d low equal.
    there_not (has_number (numbers_of_vars values xs) (number_at values x)) none
    (number_from (numbers_of_vars values xs) (number_at values x) k (pos 0) (omega (arith, low, length_numbers values xs))
    (number_of values xs k (pos 0) low ∙ ap (number_at values) (get_or_default xs k 0 d low) ∙ sym equal)))

front : {X : Type 0} (P : X → Type 0) (xs ys : List X) → All P (xs ++ ys) → All P xs
front P xs ys h = All-from_contains P xs (λ x found. All-contains P (xs ++ ys) x h (Contains-append_left xs ys x found))

back : {X : Type 0} (P : X → Type 0) (xs ys : List X) → All P (xs ++ ys) → All P ys
back P xs ys h = All-from_contains P ys (λ x found. All-contains P (xs ++ ys) x h (Contains-append_right xs ys x found))

-- all numbers are different exactly where those of each pair are
pub from_pairs : (values : List ℤ) (xs : List ℕ) → All (λ p. Differ p values) (all_pairs xs) → are_different (numbers_of_vars values xs) ≡ true
unfolding all_pairs are_different numbers_of_vars
from_pairs values [] h = refl
from_pairs values (x ∷ xs) h =
    and_both (not (has_number (numbers_of_vars values xs) (number_at values x))) (are_different (numbers_of_vars values xs))
    (none_same values x xs (front (λ p. Differ p values) (map (λ y. (x, y)) xs) (all_pairs xs) h))
    (from_pairs values xs (back (λ p. Differ p values) (map (λ y. (x, y)) xs) (all_pairs xs) h))

pub to_pairs : (values : List ℤ) (xs : List ℕ) → are_different (numbers_of_vars values xs) ≡ true → All (λ p. Differ p values) (all_pairs xs)
unfolding all_pairs are_different numbers_of_vars
to_pairs values [] h = All-nil (λ p. Differ p values)
to_pairs values (x ∷ xs) h =
    All-append (λ p. Differ p values) (map (λ y. (x, y)) xs) (all_pairs xs)
    (same_none values x xs (and_first (not (has_number (numbers_of_vars values xs) (number_at values x))) (are_different (numbers_of_vars values xs)) h))
    (to_pairs values xs (and_second (not (has_number (numbers_of_vars values xs) (number_at values x))) (are_different (numbers_of_vars values xs)) h))

-- different numbers are distinct
distinct : (xs : List ℤ) → are_different xs ≡ true → IsDistinct int_eq xs
unfolding are_different has_number IsDistinct
distinct [] h = tt
distinct (x ∷ xs) h = (
  none_after x xs (and_first (not (list_any (λ y. int_eq x y) xs)) (are_different xs) h),
  distinct xs (and_second (not (list_any (λ y. int_eq x y) xs)) (are_different xs) h),
)
  where
    none_after : (x : ℤ) (ys : List ℤ) → not (list_any (λ y. int_eq x y) ys) ≡ true → AllByRecursion (λ y. int_eq x y ≡ false) ys
    none_after x [] none = tt
    none_after x (y ∷ ys) none = elim (either (int_eq x y)) as (λ _. AllByRecursion (λ z. int_eq x z ≡ false) (y ∷ ys)) [
      | inl on ↦ absurd (there_not (int_eq x y || list_any (λ z. int_eq x z) ys) none (ap (λ b. b || list_any (λ z. int_eq x z) ys) on))
      | inr off ↦ (off, none_after x ys (ap (λ b. not (b || list_any (λ z. int_eq x z) ys)) (sym off) ∙ none))
    ]

-- distinct numbers among others are no more than these
no_more : (xs numbers : List ℤ) → are_different xs ≡ true → ((v : ℤ) → has_number xs v ≡ true → has_number numbers v ≡ true) → length xs ≤ length numbers
unfolding has_number
no_more xs numbers differ within = length-le_from_is_member int_eq_equiv xs numbers (distinct xs differ) within

-- the numbers of variables are among those of their domains
among_domains : (L : List VariableLiterals) (values : List ℤ) (xs : List ℕ) (numbers : List ℤ) → AreOfDomains L values → AreOf L xs → HasDomains L xs numbers → (v : ℤ) → has_number (numbers_of_vars values xs) v ≡ true → has_number numbers v ≡ true
among_domains L values xs numbers among low has v found =
    let at = number_there (numbers_of_vars values xs) v found in
    let k : ℕ = at.0 in
    let within : k < length xs = omega (arith, at.2, length_numbers values xs) in
    let x : ℕ = get_or xs k 0 in
    let is : number_at values x ≡ v = sym (number_of values xs k (pos 0) within) ∙ get_or_default (numbers_of_vars values xs) k (pos 0) at.1 at.2 ∙ at.3 ∙ sym (same v at.1 at.4) in
    let there = has k 0 within (number_at values x) (number_among L values x among (low k 0 within)) in
    number_from numbers v there.0 (number_at values x) there.1 (there.2 ∙ is)

cons_found : (v u : ℤ) (xs : List ℤ) → has_number (v ∷ xs) u ≡ true → (u ≡ v) ⊎ (has_number xs u ≡ true)
unfolding has_number
cons_found v u xs h = elim (either (int_eq u v)) as (λ _. (u ≡ v) ⊎ (list_any (λ y. int_eq u y) xs ≡ true)) [
  | inl on ↦ inl (same u v on)
  | inr off ↦ inr (ap (λ b. b || list_any (λ y. int_eq u y) xs) (sym off) ∙ h)
]

differ_cons : (v : ℤ) (xs : List ℤ) → has_number xs v ≡ false → are_different xs ≡ true → are_different (v ∷ xs) ≡ true
unfolding are_different
differ_cons v xs none differ = and_both (not (has_number xs v)) (are_different xs) (ap not none) differ

-- different variables cover the numbers that they can have
pub covers : (L : List VariableLiterals) (values : List ℤ) (xs : List ℕ) (numbers : List ℤ) → AreOfDomains L values → AreOf L xs → HasDomains L xs numbers → are_different (numbers_of_vars values xs) ≡ true → Covers xs numbers values
covers L values xs numbers among low has differ = record {
  enough = λ fewer. let most = no_more (numbers_of_vars values xs) numbers differ (among_domains L values xs numbers among low has) in omega (arith, fewer, most, length_numbers values xs);
  taken = λ many k d below. elim (either (has_number (numbers_of_vars values xs) (get_or numbers k d))) as (λ _. IsTrue (has_number (numbers_of_vars values xs) (get_or numbers k d))) [
    | inl on ↦ on
    | inr off ↦ absurd (too_many (get_or numbers k d) (number_from numbers (get_or numbers k d) k d below refl) off many)
  ];
}
  where
    too_many : (v : ℤ) → has_number numbers v ≡ true → has_number (numbers_of_vars values xs) v ≡ false → length numbers ≡ length xs → ⊥
    too_many v there none many =
        let most : length (v ∷ numbers_of_vars values xs) ≤ length numbers =
        no_more (v ∷ numbers_of_vars values xs) numbers (differ_cons v (numbers_of_vars values xs) none differ)
        (λ u found. elim (cons_found v u (numbers_of_vars values xs) found) as (λ _. has_number numbers u ≡ true) [
          | inl is ↦ ap (has_number numbers) is ∙ there
          | inr later ↦ among_domains L values xs numbers among low has u later
        ]) in
        omega (arith, most, many, length_numbers values xs)

-- pairs that differ, and what follows for different variables, are different variables
pub different_whole : (L : List VariableLiterals) (f f1 f2 : Cnf) (guard : List Atom) (xs : List ℕ) (pairs : List (ℕ × ℕ)) (set numbers : List ℤ) → IsLayoutOf L f → AreOf L xs → pairs ≡ all_pairs xs → HasDomains L xs set → numbers ≡ set
    → Adds L f L f1 (Unless guard (λ values. All (λ p. Differ p values) pairs)) → Adds L f1 L f2 (Unless guard (Covers xs numbers))
    → Adds L f L f2 (Unless guard (λ values. IsTrue (are_different (numbers_of_vars values xs))))
different_whole L f f1 f2 guard xs pairs set numbers is_layout low pairs_are has numbers_are one two =
    unless_like L f L f2 guard (λ values. All (λ p. Differ p values) pairs × Covers xs numbers values) (λ values. IsTrue (are_different (numbers_of_vars values xs))) is_layout
    (unless_both L f f1 L f2 guard (λ values. All (λ p. Differ p values) pairs) (Covers xs numbers) is_layout one two)
    (λ values among. (
      λ h. from_pairs values xs (subst (λ ps. All (λ p. Differ p values) ps) pairs_are h.0),
      λ differ. (
        subst (λ ps. All (λ p. Differ p values) ps) (sym pairs_are) (to_pairs values xs differ),
        subst (λ ns. Covers xs ns values) (sym numbers_are) (covers L values xs set among low has differ),
      ),
    ))

-- the pairs of variables of a layout are of the layout
pub pairs_within : (L : List VariableLiterals) (xs : List ℕ) → AreOf L xs → AreWithin L (all_pairs xs)
unfolding all_pairs
pairs_within L [] low = All-nil (λ (p : ℕ × ℕ). (p.0 < length L) × (p.1 < length L))
pairs_within L (x ∷ xs) low =
    All-append (λ (p : ℕ × ℕ). (p.0 < length L) × (p.1 < length L)) (map (λ y. (x, y)) xs) (all_pairs xs)
    (All-map (λ (p : ℕ × ℕ). (p.0 < length L) × (p.1 < length L)) (λ y. (x, y)) xs (λ k d below. (All-head (λ y. y < length L) x xs low, All-tail (λ y. y < length L) x xs low k d below)))
    (pairs_within L xs (All-tail (λ y. y < length L) x xs low))

-- equal at each number of the first variable
pub equal_all : (L : List VariableLiterals) (f g : Cnf) (guard : List Atom) (t x y : ℕ) (numbers : List ℤ) (k : ℕ) → IsLayoutOf L f → x < length L → numbers ≡ (literals_at L x).domain → length numbers ≤ k
    → ((values : List ℤ) → (clause_holds values guard ≡ false) ↔ (number_at values t ≡ pos 1))
    → Adds L f L g (λ values. All (λ v. Unless guard (Implied x v y v) values) (take k numbers)) → Adds L f L g (AreEqual t (x, y))
equal_all L f g guard t x y numbers k is_layout low are long fails adds =
    adds_like L f L g (Unless guard (λ values. All (λ v. Implied x v y v values) numbers)) (AreEqual t (x, y)) is_layout
    (unless_all L f L g guard (λ values v. Implied x v y v values) numbers is_layout
    (adds_all L f L g (λ values v. Unless guard (Implied x v y v) values) numbers k long adds))
    (λ values among. (
      λ h one. sym (All-contains (λ v. Implied x v y v values) numbers (number_at values x) (h ((fails values).1 one)) (subst (λ ns. Contains ns (number_at values x)) (sym are) (number_among L values x among low)) refl),
      λ equal off k' d below at. sym (equal ((fails values).0 off)) ∙ at,
    ))

-- whether the variables of a pair have one number
pub same_pair : List ℤ → ℕ × ℕ → Bool
same_pair values p = int_eq (number_at values p.0) (number_at values p.1)

-- not all numbers are different exactly where those of a pair are the same
some_pair : (values : List ℤ) (xs : List ℕ) → (list_any (same_pair values) (all_pairs xs) ≡ true) ↔ (are_different (numbers_of_vars values xs) ≡ false)
unfolding same_pair
some_pair values xs = (
  λ h.
      let at = Any-from_list_any (same_pair values) (all_pairs xs) h in
      elim (either (are_different (numbers_of_vars values xs))) as (λ _. are_different (numbers_of_vars values xs) ≡ false) [
        | inl differ ↦ absurd (subst (λ (p : ℕ × ℕ). Differ p values) at.3 (to_pairs values xs differ at.0 at.1 at.2) (same (number_at values at.1.0) (number_at values at.1.1) at.4))
        | inr off ↦ off
      ],
  λ off. elim (either (list_any (same_pair values) (all_pairs xs))) as (λ _. list_any (same_pair values) (all_pairs xs) ≡ true) [
    | inl on ↦ on
    | inr none ↦ not_false (are_different (numbers_of_vars values xs))
        (from_pairs values xs (λ k d below equal. not_false (list_any (same_pair values) (all_pairs xs)) (list_any_at (same_pair values) (all_pairs xs) k d below (same_test (number_at values (get_or (all_pairs xs) k d).0) (number_at values (get_or (all_pairs xs) k d).1) equal)) none)) off
  ],
)

-- more pairs of a variable with others
pub pair_pushed : (old now new : List (ℕ × ℕ)) (x : ℕ) (ys : List ℕ) (k : ℕ) → k < length ys → now ≡ old ++ map (λ y. (x, y)) (take k ys) → new ≡ now ++ (x, get_or ys k 0) ∷ [] → new ≡ old ++ map (λ y. (x, y)) (take (k + 1) ys)
pair_pushed old now new x ys k low so_far pushed =
    pushed ∙ ap (λ ps. ps ++ (x, get_or ys k 0) ∷ []) so_far
    ∙ append_assoc old (map (λ y. (x, y)) (take k ys)) ((x, get_or ys k 0) ∷ [])
    ∙ ap (λ ps. old ++ ps) (sym (map_more {Y = ℕ × ℕ} (λ y. (x, y)) ys k 0 low))

-- the pairs of one more variable
pub pairs_step : (items new whole : List (ℕ × ℕ)) (vars others : List ℕ) (i : ℕ) → i < length vars → items ++ all_pairs (drop i vars) ≡ whole → others ≡ drop (i + 1) vars → new ≡ items ++ map (λ y. (get_or vars i 0, y)) others → new ++ all_pairs (drop (i + 1) vars) ≡ whole
unfolding all_pairs
pairs_step items new whole vars others i low so_far are pushed =
    ap (λ ps. ps ++ all_pairs (drop (i + 1) vars)) (pushed ∙ ap (λ ys. items ++ map (λ y. (get_or vars i 0, y)) ys) are)
    ∙ append_assoc items (map (λ y. (get_or vars i 0, y)) (drop (i + 1) vars)) (all_pairs (drop (i + 1) vars))
    ∙ ap (λ xs. items ++ all_pairs xs) (sym (drop_more vars i 0 low))
    ∙ so_far

pub pairs_end : (items whole : List (ℕ × ℕ)) (vars : List ℕ) (i : ℕ) → length vars ≤ i → items ++ all_pairs (drop i vars) ≡ whole → items ≡ whole
unfolding all_pairs
pairs_end items whole vars i long so_far = sym (append-nil items) ∙ ap (λ xs. items ++ all_pairs xs) (sym (drop_all i vars long)) ∙ so_far

any_left : {X : Type 0} (P : X → Type 0) (xs ys : List X) → Any P xs → Any P (xs ++ ys)
any_left P xs ys (k, x, low, at, h) = (k, x, omega (arith, low, length-append xs ys), get_or_append_left xs ys x k low ∙ at, h)

any_right : {X : Type 0} (P : X → Type 0) (xs ys : List X) → Any P ys → Any P (xs ++ ys)
any_right P xs ys (k, x, low, at, h) = (length xs + k, x, omega (arith, low, length-append xs ys), get_or-append-add xs ys k x ∙ at, h)

-- the runs of one more domain
pub runs_step : (L : List VariableLiterals) (vars : List ℕ) (k : ℕ) (parts new runs : List Run) → k < length vars → All (λ x. (v : ℤ) → Contains (literals_at L x).domain v → Any (IsIn v) parts) (take k vars) → numbers runs ≡ (literals_at L (get_or vars k 0)).domain → new ≡ parts ++ runs
    → All (λ x. (v : ℤ) → Contains (literals_at L x).domain v → Any (IsIn v) new) (take (k + 1) vars)
runs_step L vars k parts new runs low so_far are pushed =
    subst (λ (ps : List Run). All (λ x. (v : ℤ) → Contains (literals_at L x).domain v → Any (IsIn v) ps) (take (k + 1) vars)) (sym pushed)
    (All-more (λ x. (v : ℤ) → Contains (literals_at L x).domain v → Any (IsIn v) (parts ++ runs)) vars k 0 low
    (All-weaker (λ x. (v : ℤ) → Contains (literals_at L x).domain v → Any (IsIn v) parts) (λ x. (v : ℤ) → Contains (literals_at L x).domain v → Any (IsIn v) (parts ++ runs)) (λ x h v found. any_left (IsIn v) parts runs (h v found)) (take k vars) so_far)
    (λ v found. any_right (IsIn v) parts runs ((in_numbers runs v).0 (subst (λ (ns : List ℤ). Contains ns v) (sym are) found))))

pub runs_end : (L : List VariableLiterals) (vars : List ℕ) (k : ℕ) (parts : List Run) (set : List ℤ) → length vars ≤ k → All (λ x. (v : ℤ) → Contains (literals_at L x).domain v → Any (IsIn v) parts) (take k vars) → ((number : ℤ) → Contains set number ↔ Any (IsIn number) parts) → HasDomains L vars set
runs_end L vars k parts set long so_far same_set =
    All-weaker (λ x. (v : ℤ) → Contains (literals_at L x).domain v → Any (IsIn v) parts) (λ x. (v : ℤ) → Contains (literals_at L x).domain v → Contains set v) (λ x h v found. (same_set v).1 (h v found)) vars
    (subst (λ (xs : List ℕ). All (λ x. (v : ℤ) → Contains (literals_at L x).domain v → Any (IsIn v) parts) xs) (take_all k vars long) so_far)

-- fewer numbers than variables: nothing covers them
pub covers_few : (L : List VariableLiterals) (f g : Cnf) (guard atoms : List Atom) (vars : List ℕ) (numbers : List ℤ) → IsLayoutOf L f → length numbers < length vars → atoms ≡ [] → Adds L f L g (Unless guard (λ values. IsTrue (clause_holds values atoms))) → Adds L f L g (Unless guard (Covers vars numbers))
covers_few L f g guard atoms vars numbers is_layout few none adds =
    unless_like L f L g guard (λ values. IsTrue (clause_holds values atoms)) (Covers vars numbers) is_layout adds
    (λ values among. (λ h. not_false (clause_holds values atoms) h (ap (clause_holds values) none ∙ clause_none values), λ h. absurd (h.enough few)))

-- as many numbers as variables
pub covers_same : (L : List VariableLiterals) (f g : Cnf) (guard : List Atom) (vars : List ℕ) (numbers : List ℤ) → IsLayoutOf L f → length numbers ≡ length vars → Adds L f L g (Unless guard (λ values. All (λ v. IsTrue (has_number (numbers_of_vars values vars) v)) numbers)) → Adds L f L g (Unless guard (Covers vars numbers))
covers_same L f g guard vars numbers is_layout many adds =
    unless_like L f L g guard (λ values. All (λ v. IsTrue (has_number (numbers_of_vars values vars) v)) numbers) (Covers vars numbers) is_layout adds
    (λ values among. (λ h. record { enough = λ few. omega (arith, few, many); taken = λ any. h }, λ h. h.taken many))

-- more numbers than variables: nothing is said
pub covers_more : (L : List VariableLiterals) (f : Cnf) (guard : List Atom) (vars : List ℕ) (numbers : List ℤ) → IsLayoutOf L f → IsTrue f.from_new → (length numbers < length vars → ⊥) → (length numbers ≡ length vars → ⊥) → Adds L f L f (Unless guard (Covers vars numbers))
covers_more L f guard vars numbers is_layout from_new enough apart =
    adds_like L f L f (λ values. Unit {0}) (Unless guard (Covers vars numbers)) is_layout (adds_nothing L f is_layout from_new)
    (λ values among. (λ any off. record { enough = enough; taken = λ many. absurd (apart many) }, λ h. tt))

pub within_later : (L : List VariableLiterals) (f : Cnf) (L1 : List VariableLiterals) (g : Cnf) (count : ℕ) (pairs : List (ℕ × ℕ)) → HasTruths L f L1 g count → AreWithin L pairs → AreWithin L1 pairs
within_later L f L1 g count pairs new low = All-weaker (λ (p : ℕ × ℕ). (p.0 < length L) × (p.1 < length L)) (λ (p : ℕ × ℕ). (p.0 < length L1) × (p.1 < length L1)) (λ p h. (omega (arith, h.0, length_later L f L1 g count new), omega (arith, h.1, length_later L f L1 g count new))) pairs low

-- variables that choose pairs of equal variables say that not all are different
pub some_equal_whole : (L : List VariableLiterals) (f : Cnf) (L1 : List VariableLiterals) (f1 f2 f3 : Cnf) (guard atoms : List Atom) (xs truths : List ℕ) (pairs : List (ℕ × ℕ)) (count : ℕ) → IsLayoutOf L f → AreOf L xs → AreAtomsOf L guard → pairs ≡ all_pairs xs → HasTruths L f L1 f1 count → count ≡ length pairs → truths ≡ numbers_from (length L) count → atoms ≡ are_all truths (pos 1)
    → Adds L1 f1 L1 f2 (λ values. (k : ℕ) → k < length pairs → AreEqual (get_or truths k 0) (get_or pairs k (0, 0)) values) → Adds L1 f2 L1 f3 (Unless guard (λ values. IsTrue (clause_holds values atoms)))
    → Adds L f L1 f3 (Unless guard (λ values. are_different (numbers_of_vars values xs) ≡ false))
unfolding same_pair
some_equal_whole L f L1 f1 f2 f3 guard atoms xs truths pairs count is_layout low guard_low pairs_are new many truths_are_from atoms_are one two =
    adds_like L f L1 f3 (λ values. SomeTruths count (λ bits. Q (values ++ bits))) (Unless guard (λ values. are_different (numbers_of_vars values xs) ≡ false)) is_layout
    (adds_truths L f L1 f1 L1 f3 count Q is_layout new
    (adds_both L1 f1 f2 L1 f3 (λ values. (k : ℕ) → k < length pairs → AreEqual (get_or truths k 0) (get_or pairs k (0, 0)) values) (Unless guard (λ values. IsTrue (clause_holds values atoms))) new.goes_on.is_layout one two))
    (λ values among.
    let long : length values ≡ length L = length_among L values among in
    let guard_below : All (λ (a : Atom). a.var < length values) guard = All-weaker (λ (a : Atom). a.var < length L) (λ (a : Atom). a.var < length values) (λ a below. omega (arith, below, long)) guard guard_low in
    let chosen = choosing values (length L) guard (all_pairs xs) (0, 0) (same_pair values) (λ bits. Unit {0}) long guard_below (λ h. tt) in (
      λ h off. (some_pair values xs).0 (chosen.0 (record {
        truths = h.truths;
        many = h.many ∙ total;
        each = h.each;
        holds_there = (
          λ k below one_is. same_test (number_at values (get_or (all_pairs xs) k (0, 0)).0) (number_at values (get_or (all_pairs xs) k (0, 0)).1) (kept values h.truths long k below (there values h.truths k below h.holds_there.0 one_is)),
          λ off_there. sym (clause_is (values ++ h.truths)) ∙ h.holds_there.1 off_there,
          tt,
        );
      }) off),
      λ h.
          let some = chosen.1 (λ off. (some_pair values xs).1 (h off)) in
          record {
            truths = some.truths;
            many = some.many ∙ sym total;
            each = some.each;
            holds_there = (
              λ k below one_is. back_there values some.truths long k below (same (number_at values (get_or (all_pairs xs) k (0, 0)).0) (number_at values (get_or (all_pairs xs) k (0, 0)).1)
                  (some.holds_there.0 k (omega (arith, below, ap length pairs_are)) (sym (ap (number_at (values ++ some.truths)) (at_truth k below)) ∙ one_is))),
              λ off_there. clause_is (values ++ some.truths) ∙ some.holds_there.1 off_there,
            );
          },
    ))
  where
    Q : List ℤ → Type 0
    Q values = ((k : ℕ) → k < length pairs → AreEqual (get_or truths k 0) (get_or pairs k (0, 0)) values) × Unless guard (λ vs. IsTrue (clause_holds vs atoms)) values

    total : count ≡ length (all_pairs xs)
    total = many ∙ ap length pairs_are

    at_truth : (k : ℕ) → k < length pairs → get_or truths k 0 ≡ length L + k
    at_truth k below = ap (λ ts. get_or ts k 0) truths_are_from ∙ numbers_from_at (length L) count k 0 (omega (arith, below, many))

    clause_is : (vs : List ℤ) → clause_holds vs atoms ≡ has_number (numbers_of_vars vs (numbers_from (length L) (length (all_pairs xs)))) (pos 1)
    clause_is vs = ap (clause_holds vs) (atoms_are ∙ ap (λ ts. are_all ts (pos 1)) (truths_are_from ∙ ap (numbers_from (length L)) total)) ∙ are_all_says vs (numbers_from (length L) (length (all_pairs xs))) (pos 1)

    pair_kept : (values bits : List ℤ) → length values ≡ length L → (k : ℕ) → k < length (all_pairs xs) → (number_at (values ++ bits) (get_or (all_pairs xs) k (0, 0)).0 ≡ number_at values (get_or (all_pairs xs) k (0, 0)).0) × (number_at (values ++ bits) (get_or (all_pairs xs) k (0, 0)).1 ≡ number_at values (get_or (all_pairs xs) k (0, 0)).1)
    pair_kept values bits long k below =
        let h = pairs_within L xs low k (0, 0) below in
        (number_kept values bits (get_or (all_pairs xs) k (0, 0)).0 (omega (arith, h.0, long)), number_kept values bits (get_or (all_pairs xs) k (0, 0)).1 (omega (arith, h.1, long)))

    kept : (values bits : List ℤ) → length values ≡ length L → (k : ℕ) → k < length (all_pairs xs) → number_at (values ++ bits) (get_or (all_pairs xs) k (0, 0)).0 ≡ number_at (values ++ bits) (get_or (all_pairs xs) k (0, 0)).1 → number_at values (get_or (all_pairs xs) k (0, 0)).0 ≡ number_at values (get_or (all_pairs xs) k (0, 0)).1
    kept values bits long k below equal = let h = pair_kept values bits long k below in sym h.0 ∙ equal ∙ h.1

    there : (values bits : List ℤ) (k : ℕ) → k < length (all_pairs xs) → ((j : ℕ) → j < length pairs → AreEqual (get_or truths j 0) (get_or pairs j (0, 0)) (values ++ bits)) → number_at (values ++ bits) (length L + k) ≡ pos 1 → number_at (values ++ bits) (get_or (all_pairs xs) k (0, 0)).0 ≡ number_at (values ++ bits) (get_or (all_pairs xs) k (0, 0)).1
    there values bits k below each one_is =
        let within : k < length pairs = omega (arith, below, ap length pairs_are) in
        subst (λ (ps : List (ℕ × ℕ)). number_at (values ++ bits) (get_or ps k (0, 0)).0 ≡ number_at (values ++ bits) (get_or ps k (0, 0)).1) pairs_are (each k within (ap (number_at (values ++ bits)) (at_truth k within) ∙ one_is))

    back_there : (values bits : List ℤ) → length values ≡ length L → (k : ℕ) → k < length pairs → number_at values (get_or (all_pairs xs) k (0, 0)).0 ≡ number_at values (get_or (all_pairs xs) k (0, 0)).1 → number_at (values ++ bits) (get_or pairs k (0, 0)).0 ≡ number_at (values ++ bits) (get_or pairs k (0, 0)).1
    back_there values bits long k below equal =
        let h = pair_kept values bits long k (omega (arith, below, ap length pairs_are)) in
        subst (λ (ps : List (ℕ × ℕ)). number_at (values ++ bits) (get_or ps k (0, 0)).0 ≡ number_at (values ++ bits) (get_or ps k (0, 0)).1) (sym pairs_are) (h.0 ∙ equal ∙ sym h.1)
