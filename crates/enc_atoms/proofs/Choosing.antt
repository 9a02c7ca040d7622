-- Variables of 0 and 1 that choose among things: where none of the guard holds, one that is chosen is as it has to be.
use Rattle.std.proofs.Common.{◌≡◌, ◌↔◌, inl, inr, ℕ, ◌+◌, ◌<◌, ℤ, pos, Bool, true, false, ◌||◌, IsTrue, List, [], ◌∷◌, ◌++◌, length, map, refl, sym, ap, subst, ◌∙◌, arith, get_or}
use Rattle.std.specs.List.{All, Any, list_any}
use Rattle.std.specs.Ordering.{int_eq}
use Rattle.std.proofs.lemmas.List.{get_or-append-add, get_or-map, get_or_append_left, get_or_default, length-map, same_lists}
use Rattle.std.proofs.lemmas.List.Elements.{All-head, All-tail}
use Rattle.std.proofs.lemmas.List.Folds.{Any-from_list_any, list_any_at}
use Rattle.ep_base.specs.Numbers.{has_number, of_bool}
use Rattle.ep_flat.specs.Cons.{number_at, numbers_of_vars}
use Rattle.enc_atoms.specs.Atoms.{atom_holds, clause_holds, test_holds}
use Rattle.enc_atoms.specs.declared.atoms.Atom.{Atom}
use Rattle.enc_atoms.proofs.Meanings.{not_false, same, same_test}
use Rattle.enc_atoms.proofs.NewTruths.{length-numbers_from, numbers_from_at}
use Rattle.enc_atoms.specs.Steps.{IsTruth, SomeTruths, Unless, numbers_from}

-- the numbers of later variables, and of earlier ones
pub truth_at : (values truths : List ℤ) (n k : ℕ) → length values ≡ n → number_at (values ++ truths) (n + k) ≡ get_or truths k (pos 0)
unfolding number_at
truth_at values truths n k long = ap (λ m. get_or (values ++ truths) (m + k) (pos 0)) (sym long) ∙ get_or-append-add values truths k (pos 0)

pub number_kept : (values truths : List ℤ) (x : ℕ) → x < length values → number_at (values ++ truths) x ≡ number_at values x
unfolding number_at
number_kept values truths x low = get_or_append_left values truths (pos 0) x low

pub numbers_kept : (values truths : List ℤ) (xs : List ℕ) → All (λ x. x < length values) xs → numbers_of_vars (values ++ truths) xs ≡ numbers_of_vars values xs
unfolding numbers_of_vars
numbers_kept values truths [] low = refl
numbers_kept values truths (x ∷ xs) low =
    ap (λ v. v ∷ map (number_at (values ++ truths)) xs) (number_kept values truths x (All-head (λ y. y < length values) x xs low))
    ∙ ap (λ vs. number_at values x ∷ vs) (numbers_kept values truths xs (All-tail (λ y. y < length values) x xs low))

pub guard_kept : (values truths : List ℤ) (guard : List Atom) → All (λ a. a.var < length values) guard → clause_holds (values ++ truths) guard ≡ clause_holds values guard
unfolding clause_holds atom_holds
guard_kept values truths [] low = refl
guard_kept values truths (a ∷ guard) low =
    ap (λ v. test_holds a.test a.value v || list_any (atom_holds (values ++ truths)) guard) (number_kept values truths a.var (All-head (λ b. b.var < length values) a guard low))
    ∙ ap (λ b. test_holds a.test a.value (number_at values a.var) || b) (guard_kept values truths guard (All-tail (λ b. b.var < length values) a guard low))

pub truths_are : (values truths : List ℤ) (n count : ℕ) → length values ≡ n → length truths ≡ count → numbers_of_vars (values ++ truths) (numbers_from n count) ≡ truths
unfolding numbers_of_vars
truths_are values truths n count long many =
    same_lists (map (number_at (values ++ truths)) (numbers_from n count)) truths
    (length-map (numbers_from n count) (number_at (values ++ truths)) ∙ length-numbers_from n count ∙ sym many)
    (λ k d low.
    let within : k < count = omega (arith, low, length-map (numbers_from n count) (number_at (values ++ truths)), length-numbers_from n count) in
    get_or-map (number_at (values ++ truths)) (numbers_from n count) k 0 d (omega (arith, within, length-numbers_from n count))
    ∙ ap (number_at (values ++ truths)) (numbers_from_at n count k 0 within)
    ∙ truth_at values truths n k long
    ∙ get_or_default truths k (pos 0) d (omega (arith, within, many)))

is_truth : (b : Bool) → IsTruth (of_bool b)
unfolding of_bool
is_truth true = inr refl
is_truth false = inl refl

one_back : (b : Bool) → of_bool b ≡ pos 1 → b ≡ true
unfolding of_bool
one_back true e = refl
one_back false e = cc

one_there : (b : Bool) → b ≡ true → of_bool b ≡ pos 1
unfolding of_bool
one_there true e = refl
one_there false e = absurd (not_false false e refl)

pub number_there : (xs : List ℤ) (v : ℤ) → has_number xs v ≡ true → Any (λ x. int_eq v x ≡ true) xs
unfolding has_number
number_there xs v h = Any-from_list_any (λ y. int_eq v y) xs h

pub number_from : (xs : List ℤ) (v : ℤ) (k : ℕ) (d : ℤ) → k < length xs → get_or xs k d ≡ v → has_number xs v ≡ true
unfolding has_number
number_from xs v k d low is = list_any_at (λ y. int_eq v y) xs k d low (same_test v (get_or xs k d) (sym is))

-- where none of the guard holds one of the variables is 1
abbrev pub OneIs : List Atom → ℕ → ℕ → List ℤ → Type 0
OneIs guard n count = Unless guard (λ vs. IsTrue (has_number (numbers_of_vars vs (numbers_from n count)) (pos 1)))

-- Some of the things are chosen, each of these passes, and where none of the guard holds one is chosen: that can be so exactly
-- where one passes, unless the guard holds. What else is asked of the choice has to be so of the choice of all that pass.
pub choosing : {X : Type 0} (values : List ℤ) (n : ℕ) (guard : List Atom) (ts : List X) (d : X) (K : X → Bool) (E : List ℤ → Type 0)
    → length values ≡ n → All (λ a. a.var < length values) guard
    → (Unless guard (λ vs. list_any K ts ≡ true) values → E (map (λ t. of_bool (K t)) ts))
    → SomeTruths (length ts) (λ truths. ((k : ℕ) → k < length ts → number_at (values ++ truths) (n + k) ≡ pos 1 → K (get_or ts k d) ≡ true) × OneIs guard n (length ts) (values ++ truths) × E truths)
    ↔ Unless guard (λ vs. list_any K ts ≡ true) values
choosing {X} values n guard ts d K E long low extra = (
  λ h off.
      let some : has_number h.truths (pos 1) ≡ true =
      ap (λ vs. has_number vs (pos 1)) (sym (truths_are values h.truths n (length ts) long h.many)) ∙ h.holds_there.1 (guard_kept values h.truths guard low ∙ off) in
      let at = number_there h.truths (pos 1) some in
      let k : ℕ = at.0 in
      let within : k < length ts = omega (arith, at.2, h.many) in
      let one : get_or h.truths k (pos 0) ≡ pos 1 =
      get_or_default h.truths k (pos 0) at.1 at.2 ∙ at.3 ∙ sym (same (pos 1) at.1 at.4) in
      list_any_at K ts k d within (h.holds_there.0 k within (truth_at values h.truths n k long ∙ one)),
  λ h. record {
    truths = map (λ t. of_bool (K t)) ts;
    many = length-map ts (λ t. of_bool (K t));
    each = are_truths;
    holds_there = (each_passes, some_is h, extra h);
  },
)
  where
    bit : (k : ℕ) (e : ℤ) → k < length ts → get_or (map (λ t. of_bool (K t)) ts) k e ≡ of_bool (K (get_or ts k d))
    bit k e within = get_or-map (λ t. of_bool (K t)) ts k d e within

    are_truths : All IsTruth (map (λ t. of_bool (K t)) ts)
    are_truths k e within = let lowk : k < length ts = omega (arith, within, length-map ts (λ t. of_bool (K t))) in subst IsTruth (sym (bit k e lowk)) (is_truth (K (get_or ts k d)))

    each_passes : (k : ℕ) → k < length ts → number_at (values ++ map (λ t. of_bool (K t)) ts) (n + k) ≡ pos 1 → K (get_or ts k d) ≡ true
    each_passes k within one = one_back (K (get_or ts k d)) (sym (bit k (pos 0) within) ∙ sym (truth_at values (map (λ t. of_bool (K t)) ts) n k long) ∙ one)

    some_is : Unless guard (λ vs. list_any K ts ≡ true) values → OneIs guard n (length ts) (values ++ map (λ t. of_bool (K t)) ts)
    some_is h off =
        let at = Any-from_list_any K ts (h (sym (guard_kept values (map (λ t. of_bool (K t)) ts) guard low) ∙ off)) in
        let k : ℕ = at.0 in
        let passes : K (get_or ts k d) ≡ true = ap K (get_or_default ts k d at.1 at.2 ∙ at.3) ∙ at.4 in
        ap (λ vs. has_number vs (pos 1)) (truths_are values (map (λ t. of_bool (K t)) ts) n (length ts) long (length-map ts (λ t. of_bool (K t))))
        ∙ number_from (map (λ t. of_bool (K t)) ts) (pos 1) k (pos 0) (omega (arith, at.2, length-map ts (λ t. of_bool (K t)))) (bit k (pos 0) at.2 ∙ one_there (K (get_or ts k d)) passes)
