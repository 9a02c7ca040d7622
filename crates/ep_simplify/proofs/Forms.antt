-- What numbers and intervals among the parts of a node say of its value.
use Rattle.std.proofs.Common.{◌≡◌, ◌&&◌, cond, not, ℕ, zero, suc, ◌<◌, ◌⊎◌, inl, inr, Bool, true, false, ℤ, pos, negsuc, ◌≤ℤ◌, List, [], ◌∷◌, length, Option, Some, None, refl, sym, ap, subst, ◌∙◌, arith, slice_get}
use Rattle.std.specs.Prelude.{◌||◌, IsSome, get_or, is_some, map, option_and_then, option_map}
use Rattle.std.specs.List.{All, Any, Contains}
use Rattle.std.proofs.lemmas.Bool.Decides.{Decides-int_eq}
use Rattle.std.proofs.lemmas.Int.{ints}
use Rattle.std.proofs.lemmas.List.Elements.{All-cons, All-contains, All-head, All-nil, All-tail, Contains-append_right}
use Rattle.std.proofs.lemmas.Option.{same_Some}
use Rattle.ep_base.proofs.Contraries.{contrary_holds}
use Rattle.ep_base.specs.Intervals.{Interval, LiesIn, only, truth_interval}
use Rattle.ep_base.specs.Numbers.{all_one, any_one, compare_holds, contrary_comparison, has_number, is_one, of_bool}
use Rattle.ep_base.specs.Options.{on_both}
use Rattle.ep_base.specs.Reads.{same_bool}
use Rattle.ep_base.specs.declared.operators.CompareOp.{CompareOp}
use Rattle.ep_defined.proofs.Parts.{has_value, none_there, of_cons, there, values_there}
use Rattle.ep_defined.specs.Growing.{IsNodeAt, IsSafeOver}
use Rattle.ep_ground.specs.Bounds.{node_reach, term_reach}
use Rattle.ep_ground.specs.Grounds.{AreCellValues, StandsOver}
use Rattle.ep_ground.specs.Nodes.{GroundNode, constant, compare, member, negation, all_of, any_of, same_truth, parts_of}
use Rattle.ep_ground.specs.Terms.{node_value, term_value, truth}
use Rattle.ep_ground.specs.declared.cells.Cell.{Cell}
use Rattle.ep_reach.proofs.Lies.{node_lies, term_lies}
use Rattle.ep_reach.proofs.Narrower.{lies_wider}
use Rattle.ep_reach.specs.Narrowing.{IsNarrower}
use Rattle.ep_simplify.specs.Decided.{Decides, constant_of, lone_number}
use Rattle.ep_simplify.specs.Settling.{IsNews, IsTruthNumber, AlwaysSays, open_parts}
use Rattle.ep_simplify.specs.declared.news.News.{News}
use Rattle.ep_simplify.proofs.Values.{Numbered, number_under, numbered, over_numbers, zip_length}

-- ---- the numbers of terms

-- the numbers of the new terms under values of the cells
abbrev pub NumbersOf : List Cell → News → List ℤ → Type 0
NumbersOf cells news values = Numbered cells news.arena values

pub numbers_of : (cells : List Cell) (news : News) (values : List ℤ) → IsNews cells news → AreCellValues cells values → NumbersOf cells news values
numbers_of cells news values h are = numbered cells news.arena values h.before h.safe are

-- a node over these terms, by their numbers
pub by_numbers : (cells : List Cell) (news : News) (values : List ℤ) → NumbersOf cells news values → (node : GroundNode) → All (λ p. p < length news.arena) (parts_of node)
    → node_value values (term_value news.arena values) node ≡ node_value values (there (number_under news.arena values)) node
by_numbers cells news values m node below = over_numbers news.arena values (length news.arena) m.have node (λ p found. All-contains (λ q. q < length news.arena) (parts_of node) p below found)

pub number_is : (nodes : List GroundNode) (t : ℕ) (n : ℤ) → lone_number nodes t ≡ Some n → IsNodeAt nodes t (constant n)
unfolding lone_number constant_of
number_is nodes t n e = by (slice_get nodes t) refl e
  where
    of_constant : (node : GroundNode) → constant_of node ≡ Some n → node ≡ constant n
    of_constant (constant m) f = ap constant (same_Some m n f)
    of_constant node f = absurd cc

    by : (o : Option GroundNode) → slice_get nodes t ≡ o → option_and_then constant_of o ≡ Some n → slice_get nodes t ≡ Some (constant n)
    by None at f = absurd cc
    by (Some node) at f = at ∙ ap (λ m. Some m) (of_constant node f)

-- the number of a term that is one alone
pub alone : (cells : List Cell) (news : News) (values : List ℤ) → NumbersOf cells news values → (t : ℕ) (n : ℤ) → IsNodeAt news.arena t (constant n) → number_under news.arena values t ≡ n
unfolding node_value
alone cells news values m t n is = sym (same_Some n (number_under news.arena values t) (m.is t (constant n) is))

pub alone_at : (cells : List Cell) (news : News) (values : List ℤ) → NumbersOf cells news values → (t : ℕ) (n : ℤ) → lone_number news.arena t ≡ Some n → number_under news.arena values t ≡ n
alone_at cells news values m t n e = alone cells news values m t n (number_is news.arena t n e)

-- ---- numbers by reaches

one_between : (y n : ℤ) → n ≤ℤ y → y ≤ℤ n → y ≡ n
one_between y n h g = omega (arith, ints, h, g)

-- a node that reaches one number has it
pub reach_says : (cells : List Cell) (news : News) (node : GroundNode) (n : ℤ) → IsNews cells news → All (λ p. p < length news.arena) (parts_of node) → IsSafeOver (length cells) node
    → node_reach cells (term_reach news.arena cells) node ≡ only n → (values : List ℤ) → AreCellValues cells values → node_value values (term_value news.arena values) node ≡ Some n
reach_says cells news node n h below safe reach values are =
    let m = numbers_of cells news values h are in
    let many = zip_length (λ (one : Cell) (value : ℤ). Contains one.values value) cells values are in
    let has = has_value values (number_under news.arena values) node safe.whole (subst (λ k. StandsOver k node) (sym many) safe.stands) in
    let e = by_numbers cells news values m node below ∙ has.1 in
    let lies = subst (LiesIn has.0) reach (node_lies cells values (term_value news.arena values) (term_reach news.arena cells) are (term_lies news.arena cells values are) node has.0 e) in
    e ∙ ap (λ y. Some y) (one_between has.0 n lies.0 lies.1)

-- ---- comparisons

compare_value : (values : List ℤ) (n : ℕ → ℤ) (op : CompareOp) (a b : ℕ) → node_value values (there n) (compare op a b) ≡ Some (of_bool (compare_holds op (n a) (n b)))
unfolding node_value truth on_both
compare_value values n op a b = refl

-- a comparison of numbers says whether it holds
compare_says : (cells : List Cell) (news : News) (op : CompareOp) (a b : ℕ) (known : Bool) → a < length news.arena → b < length news.arena
    → ((values : List ℤ) → NumbersOf cells news values → compare_holds op (number_under news.arena values a) (number_under news.arena values b) ≡ known) → IsNews cells news → AlwaysSays cells news.arena (compare op a b) known
unfolding parts_of
compare_says cells news op a b known la lb holds h values are =
    let m = numbers_of cells news values h are in
    by_numbers cells news values m (compare op a b) (both_below (length news.arena) a b la lb)
    ∙ compare_value values (number_under news.arena values) op a b ∙ ap (λ x. Some (of_bool x)) (holds values m)
  where
    both_below : (k x y : ℕ) → x < k → y < k → All (λ p. p < k) (x ∷ y ∷ [])
    both_below k x y lx ly = All-cons (λ p. p < k) x (y ∷ []) lx (All-cons (λ p. p < k) y [] ly (All-nil (λ p. p < k)))

-- a number compares with itself as 0 does
compared_with_itself : (op : CompareOp) (x : ℤ) → compare_holds op x x ≡ compare_holds op (pos 0) (pos 0)
unfolding compare_holds
compared_with_itself CompareOp.Equal x = (Decides-int_eq x x).1 refl
compared_with_itself CompareOp.NotEqual x = ap not ((Decides-int_eq x x).1 refl)
compared_with_itself CompareOp.Less x = grind (arith, ints)
compared_with_itself CompareOp.AtMost x = grind (arith, ints)
compared_with_itself CompareOp.Greater x = grind (arith, ints)
compared_with_itself CompareOp.AtLeast x = grind (arith, ints)

-- ---- members

member_value : (values : List ℤ) (n : ℕ → ℤ) (a : ℕ) (ns : List ℤ) → node_value values (there n) (member a ns) ≡ Some (of_bool (has_number ns (n a)))
unfolding node_value truth
member_value values n a ns = refl

pub member_says : (cells : List Cell) (news : News) (a : ℕ) (ns : List ℤ) (known : Bool) → a < length news.arena
    → ((values : List ℤ) → NumbersOf cells news values → has_number ns (number_under news.arena values a) ≡ known) → IsNews cells news → AlwaysSays cells news.arena (member a ns) known
unfolding parts_of
member_says cells news a ns known la holds h values are =
    let m = numbers_of cells news values h are in
    by_numbers cells news values m (member a ns) (All-cons (λ p. p < length news.arena) a [] la (All-nil (λ p. p < length news.arena)))
    ∙ member_value values (number_under news.arena values) a ns ∙ ap (λ x. Some (of_bool x)) (holds values m)

-- ---- negations

negation_value : (values : List ℤ) (n : ℕ → ℤ) (a : ℕ) → node_value values (there n) (negation a) ≡ Some (of_bool (not (is_one (n a))))
unfolding node_value truth
negation_value values n a = refl

pub negation_says : (cells : List Cell) (news : News) (a : ℕ) (known : Bool) → a < length news.arena
    → ((values : List ℤ) → NumbersOf cells news values → not (is_one (number_under news.arena values a)) ≡ known) → IsNews cells news → AlwaysSays cells news.arena (negation a) known
unfolding parts_of
negation_says cells news a known la holds h values are =
    let m = numbers_of cells news values h are in
    by_numbers cells news values m (negation a) (All-cons (λ p. p < length news.arena) a [] la (All-nil (λ p. p < length news.arena)))
    ∙ negation_value values (number_under news.arena values) a ∙ ap (λ x. Some (of_bool x)) (holds values m)

one_of : (b : Bool) → is_one (of_bool b) ≡ b
unfolding is_one of_bool
one_of true = refl
one_of false = refl

not_not : (b : Bool) → not (not b) ≡ b
not_not true = refl
not_not false = refl

-- a number of two is the truth value that it stands for
pub of_one : (x : ℤ) → pos 0 ≤ℤ x → x ≤ℤ pos 1 → of_bool (is_one x) ≡ x
unfolding of_bool is_one
of_one (pos zero) h g = refl
of_one (pos (suc zero)) h g = refl
of_one (pos (suc (suc n))) h g = absurd (omega (arith, ints, g))
of_one (negsuc n) h g = absurd (omega (arith, ints, h))

-- the number of a term that reaches only truth values is one
truth_number : (cells : List Cell) (news : News) (values : List ℤ) → NumbersOf cells news values → (t : ℕ) → t < length news.arena → IsNarrower (term_reach news.arena cells t) truth_interval
    → of_bool (is_one (number_under news.arena values t)) ≡ number_under news.arena values t
truth_number cells news values m t below narrow =
    let lies = lies_wider (number_under news.arena values t) (term_reach news.arena cells t) truth_interval narrow (m.lie t below) in
    of_one (number_under news.arena values t) lies.0 lies.1

-- the negation of a comparison is the contrary one
pub contrary_value : (cells : List Cell) (news : News) (op : CompareOp) (a x y : ℕ) → IsNews cells news → a < length news.arena → IsNodeAt news.arena a (compare op x y) → All (λ p. p < length news.arena) (x ∷ y ∷ [])
    → (values : List ℤ) → AreCellValues cells values → node_value values (term_value news.arena values) (compare (contrary_comparison op) x y) ≡ node_value values (term_value news.arena values) (negation a)
unfolding parts_of
contrary_value cells news op a x y h la is below values are =
    let m = numbers_of cells news values h are in
    let n = number_under news.arena values in
    let value : n a ≡ of_bool (compare_holds op (n x) (n y)) = same_Some (n a) (of_bool (compare_holds op (n x) (n y))) (sym (m.is a (compare op x y) is) ∙ compare_value values n op x y) in
    by_numbers cells news values m (compare (contrary_comparison op) x y) below
    ∙ compare_value values n (contrary_comparison op) x y
    ∙ ap (λ b. Some (of_bool b)) (contrary_holds op (n x) (n y) ∙ ap not (sym (ap is_one value ∙ one_of (compare_holds op (n x) (n y)))))
    ∙ sym (negation_value values n a)
    ∙ sym (by_numbers cells news values m (negation a) (All-cons (λ p. p < length news.arena) a [] la (All-nil (λ p. p < length news.arena))))

-- the negation of a negation is what that negates
pub double_value : (cells : List Cell) (news : News) (a inner : ℕ) → IsNews cells news → a < length news.arena → inner < length news.arena → IsNodeAt news.arena a (negation inner) → IsNarrower (term_reach news.arena cells inner) truth_interval
    → (values : List ℤ) → AreCellValues cells values → term_value news.arena values inner ≡ node_value values (term_value news.arena values) (negation a)
unfolding parts_of
double_value cells news a inner h la li is narrow values are =
    let m = numbers_of cells news values h are in
    let n = number_under news.arena values in
    let value : n a ≡ of_bool (not (is_one (n inner))) = same_Some (n a) (of_bool (not (is_one (n inner)))) (sym (m.is a (negation inner) is) ∙ negation_value values n inner) in
    m.have inner li
    ∙ ap (λ x. Some x) (sym (truth_number cells news values m inner li narrow))
    ∙ ap (λ b. Some (of_bool b)) (sym (ap (λ x. not (is_one x)) value ∙ ap not (one_of (not (is_one (n inner)))) ∙ not_not (is_one (n inner))))
    ∙ sym (negation_value values n a)
    ∙ sym (by_numbers cells news values m (negation a) (All-cons (λ p. p < length news.arena) a [] la (All-nil (λ p. p < length news.arena))))

-- ---- equivalences

same_value : (values : List ℤ) (n : ℕ → ℤ) (a b : ℕ) → node_value values (there n) (same_truth a b) ≡ Some (of_bool (same_bool (is_one (n a)) (is_one (n b))))
unfolding node_value truth on_both
same_value values n a b = refl

pub same_says : (cells : List Cell) (news : News) (a b : ℕ) (known : Bool) → All (λ p. p < length news.arena) (a ∷ b ∷ [])
    → ((values : List ℤ) → NumbersOf cells news values → same_bool (is_one (number_under news.arena values a)) (is_one (number_under news.arena values b)) ≡ known) → IsNews cells news → AlwaysSays cells news.arena (same_truth a b) known
unfolding parts_of
same_says cells news a b known below holds h values are =
    let m = numbers_of cells news values h are in
    by_numbers cells news values m (same_truth a b) below
    ∙ same_value values (number_under news.arena values) a b ∙ ap (λ x. Some (of_bool x)) (holds values m)

pub same_itself : (b : Bool) → same_bool b b ≡ true
unfolding same_bool
same_itself true = refl
same_itself false = refl

pub same_turned : (a b : Bool) → same_bool a b ≡ same_bool b a
unfolding same_bool
same_turned true true = refl
same_turned true false = refl
same_turned false true = refl
same_turned false false = refl

same_false : (a b : Bool) → a ≡ false → same_bool a b ≡ not b
unfolding same_bool
same_false true b e = absurd cc
same_false false b e = refl

same_true : (a b : Bool) → a ≡ true → same_bool a b ≡ b
unfolding same_bool
same_true true b e = refl
same_true false b e = absurd cc

-- beside a number that isn't true stands the negation
pub beside_false : (cells : List Cell) (news : News) (a b other : ℕ) (known : ℤ) → IsNews cells news → All (λ p. p < length news.arena) (a ∷ b ∷ []) → other < length news.arena → is_one known ≡ false
    → ((lone_number news.arena a ≡ Some known) × (other ≡ b)) ⊎ ((lone_number news.arena b ≡ Some known) × (other ≡ a))
    → (values : List ℤ) → AreCellValues cells values → node_value values (term_value news.arena values) (negation other) ≡ node_value values (term_value news.arena values) (same_truth a b)
unfolding parts_of
beside_false cells news a b other known h below lo isnt at values are =
    let m = numbers_of cells news values h are in
    let n = number_under news.arena values in
    by_numbers cells news values m (negation other) (All-cons (λ p. p < length news.arena) other [] lo (All-nil (λ p. p < length news.arena)))
    ∙ negation_value values n other
    ∙ ap (λ x. Some (of_bool x)) (sym (elim at as (λ _. same_bool (is_one (n a)) (is_one (n b)) ≡ not (is_one (n other))) [
      | inl g ↦ same_false (is_one (n a)) (is_one (n b)) (ap is_one (alone_at cells news values m a known g.0) ∙ isnt) ∙ ap (λ t. not (is_one (n t))) (sym g.1)
      | inr g ↦ same_turned (is_one (n a)) (is_one (n b)) ∙ same_false (is_one (n b)) (is_one (n a)) (ap is_one (alone_at cells news values m b known g.0) ∙ isnt) ∙ ap (λ t. not (is_one (n t))) (sym g.1)
    ]))
    ∙ sym (same_value values n a b)
    ∙ sym (by_numbers cells news values m (same_truth a b) below)

-- beside one that is true stands the other term
pub beside_true : (cells : List Cell) (news : News) (a b other : ℕ) (known : ℤ) → IsNews cells news → All (λ p. p < length news.arena) (a ∷ b ∷ []) → other < length news.arena → is_one known ≡ true → IsNarrower (term_reach news.arena cells other) truth_interval
    → ((lone_number news.arena a ≡ Some known) × (other ≡ b)) ⊎ ((lone_number news.arena b ≡ Some known) × (other ≡ a))
    → (values : List ℤ) → AreCellValues cells values → term_value news.arena values other ≡ node_value values (term_value news.arena values) (same_truth a b)
unfolding parts_of
beside_true cells news a b other known h below lo is narrow at values are =
    let m = numbers_of cells news values h are in
    let n = number_under news.arena values in
    m.have other lo
    ∙ ap (λ x. Some x) (sym (truth_number cells news values m other lo narrow))
    ∙ ap (λ x. Some (of_bool x)) (sym (elim at as (λ _. same_bool (is_one (n a)) (is_one (n b)) ≡ is_one (n other)) [
      | inl g ↦ same_true (is_one (n a)) (is_one (n b)) (ap is_one (alone_at cells news values m a known g.0) ∙ is) ∙ ap (λ t. is_one (n t)) (sym g.1)
      | inr g ↦ same_turned (is_one (n a)) (is_one (n b)) ∙ same_true (is_one (n b)) (is_one (n a)) (ap is_one (alone_at cells news values m b known g.0) ∙ is) ∙ ap (λ t. is_one (n t)) (sym g.1)
    ]))
    ∙ sym (same_value values n a b)
    ∙ sym (by_numbers cells news values m (same_truth a b) below)

-- ---- "and" and "or"

and_value : (values : List ℤ) (n : ℕ → ℤ) (ts : List ℕ) → node_value values (there n) (all_of ts) ≡ Some (of_bool (all_one (map n ts)))
unfolding node_value truth
and_value values n ts = ap (λ o. truth (option_map all_one o)) (values_there n ts)

or_value : (values : List ℤ) (n : ℕ → ℤ) (ts : List ℕ) → node_value values (there n) (any_of ts) ≡ Some (of_bool (any_one (map n ts)))
unfolding node_value truth
or_value values n ts = ap (λ o. truth (option_map any_one o)) (values_there n ts)

-- a term that is a number alone has it
abbrev Tells : List GroundNode → (ℕ → ℤ) → Type 0
Tells nodes n = (t : ℕ) (x : ℤ) → lone_number nodes t ≡ Some x → n t ≡ x

-- a part that is no truth number of the one kind is true or false as is said
unsaid : (asked : Bool) (x : ℤ) → (same_bool asked (is_one x) ≡ true → ⊥) → is_one x ≡ not asked
unfolding same_bool
unsaid asked x h = by asked (is_one x) h
  where
    by : (a b : Bool) → (same_bool a b ≡ true → ⊥) → b ≡ not a
    by true true g = absurd (g refl)
    by true false g = refl
    by false true g = refl
    by false false g = absurd (g refl)

said : (asked : Bool) (x : ℤ) → same_bool asked (is_one x) ≡ true → is_one x ≡ asked
unfolding same_bool
said asked x h = by asked (is_one x) h
  where
    by : (a b : Bool) → same_bool a b ≡ true → b ≡ a
    by true true g = refl
    by true false g = absurd cc
    by false true g = absurd cc
    by false false g = refl

-- where no part is a number that isn't true, all are true exactly where all that are no numbers are
and_of_rest : (nodes : List GroundNode) (n : ℕ → ℤ) → Tells nodes n → (ts : List ℕ) → All (λ t. IsTruthNumber nodes false t → ⊥) ts → all_one (map n (open_parts nodes ts)) ≡ all_one (map n ts)
unfolding all_one
and_of_rest nodes n tells [] h = refl
and_of_rest nodes n tells (t ∷ ts) h = by (lone_number nodes t) refl (and_of_rest nodes n tells ts (All-tail (λ u. IsTruthNumber nodes false u → ⊥) t ts h))
  where
    by : (o : Option ℤ) → lone_number nodes t ≡ o → all_one (map n (open_parts nodes ts)) ≡ all_one (map n ts) → all_one (map n (open_parts nodes (t ∷ ts))) ≡ all_one (map n (t ∷ ts))
    by None e rest = ap (λ o. all_one (map n (cond (not (is_some o)) (t ∷ open_parts nodes ts) (open_parts nodes ts)))) e ∙ ap (λ b. is_one (n t) && b) rest
    by (Some x) e rest =
        let one = ap is_one (tells t x e) ∙ unsaid false x (λ s. All-head (λ u. IsTruthNumber nodes false u → ⊥) t ts h (x, e, s)) in
        ap (λ o. all_one (map n (cond (not (is_some o)) (t ∷ open_parts nodes ts) (open_parts nodes ts)))) e ∙ rest ∙ ap (λ b. b && all_one (map n ts)) (sym one)

-- and one of them is true exactly where one of those is, where no part is a number that is true
or_of_rest : (nodes : List GroundNode) (n : ℕ → ℤ) → Tells nodes n → (ts : List ℕ) → All (λ t. IsTruthNumber nodes true t → ⊥) ts → any_one (map n (open_parts nodes ts)) ≡ any_one (map n ts)
unfolding any_one
or_of_rest nodes n tells [] h = refl
or_of_rest nodes n tells (t ∷ ts) h = by (lone_number nodes t) refl (or_of_rest nodes n tells ts (All-tail (λ u. IsTruthNumber nodes true u → ⊥) t ts h))
  where
    by : (o : Option ℤ) → lone_number nodes t ≡ o → any_one (map n (open_parts nodes ts)) ≡ any_one (map n ts) → any_one (map n (open_parts nodes (t ∷ ts))) ≡ any_one (map n (t ∷ ts))
    by None e rest = ap (λ o. any_one (map n (cond (not (is_some o)) (t ∷ open_parts nodes ts) (open_parts nodes ts)))) e ∙ ap (λ b. is_one (n t) || b) rest
    by (Some x) e rest =
        let none = ap is_one (tells t x e) ∙ unsaid true x (λ s. All-head (λ u. IsTruthNumber nodes true u → ⊥) t ts h (x, e, s)) in
        ap (λ o. any_one (map n (cond (not (is_some o)) (t ∷ open_parts nodes ts) (open_parts nodes ts)))) e ∙ rest ∙ ap (λ b. b || any_one (map n ts)) (sym none)

one_false : (n : ℕ → ℤ) (ts : List ℕ) (k : ℕ) (d : ℕ) → k < length ts → is_one (n (get_or ts k d)) ≡ false → all_one (map n ts) ≡ false
unfolding all_one
one_false n [] k d h e = absurd (omega (arith, h))
one_false n (t ∷ ts) zero d h e = ap (λ b. b && all_one (map n ts)) e
one_false n (t ∷ ts) (suc k) d h e = ap (λ b. is_one (n t) && b) (one_false n ts k d (omega (arith, h)) e) ∙ and_false (is_one (n t))
  where
    and_false : (b : Bool) → (b && false) ≡ false
    and_false true = refl
    and_false false = refl

one_true : (n : ℕ → ℤ) (ts : List ℕ) (k : ℕ) (d : ℕ) → k < length ts → is_one (n (get_or ts k d)) ≡ true → any_one (map n ts) ≡ true
unfolding any_one
one_true n [] k d h e = absurd (omega (arith, h))
one_true n (t ∷ ts) zero d h e = ap (λ b. b || any_one (map n ts)) e
one_true n (t ∷ ts) (suc k) d h e = ap (λ b. is_one (n t) || b) (one_true n ts k d (omega (arith, h)) e) ∙ or_true (is_one (n t))
  where
    or_true : (b : Bool) → (b || true) ≡ true
    or_true true = refl
    or_true false = refl

tells : (cells : List Cell) (news : News) (values : List ℤ) → NumbersOf cells news values → Tells news.arena (number_under news.arena values)
tells cells news values m = λ t x e. alone_at cells news values m t x e

-- a part that is a number which isn't true decides an "and"
pub and_false_says : (cells : List Cell) (news : News) (ts : List ℕ) → IsNews cells news → All (λ p. p < length news.arena) ts → Any (IsTruthNumber news.arena false) ts → AlwaysSays cells news.arena (all_of ts) false
unfolding parts_of
and_false_says cells news ts h below found values are =
    let m = numbers_of cells news values h are in
    let n = number_under news.arena values in
    let one : is_one (n found.1) ≡ false = ap is_one (alone_at cells news values m found.1 found.4.0 found.4.1) ∙ said false found.4.0 found.4.2 in
    by_numbers cells news values m (all_of ts) below ∙ and_value values n ts
    ∙ ap (λ b. Some (of_bool b)) (one_false n ts found.0 found.1 found.2 (ap (λ t. is_one (n t)) found.3 ∙ one))

-- one that is true decides an "or"
pub or_true_says : (cells : List Cell) (news : News) (ts : List ℕ) → IsNews cells news → All (λ p. p < length news.arena) ts → Any (IsTruthNumber news.arena true) ts → AlwaysSays cells news.arena (any_of ts) true
unfolding parts_of
or_true_says cells news ts h below found values are =
    let m = numbers_of cells news values h are in
    let n = number_under news.arena values in
    let one : is_one (n found.1) ≡ true = ap is_one (alone_at cells news values m found.1 found.4.0 found.4.1) ∙ said true found.4.0 found.4.2 in
    by_numbers cells news values m (any_of ts) below ∙ or_value values n ts
    ∙ ap (λ b. Some (of_bool b)) (one_true n ts found.0 found.1 found.2 (ap (λ t. is_one (n t)) found.3 ∙ one))

-- an "and" by the parts that are no numbers
and_by_rest : (cells : List Cell) (news : News) (values : List ℤ) → NumbersOf cells news values → (ts : List ℕ) → All (λ p. p < length news.arena) ts → All (λ t. IsTruthNumber news.arena false t → ⊥) ts
    → node_value values (term_value news.arena values) (all_of ts) ≡ Some (of_bool (all_one (map (number_under news.arena values) (open_parts news.arena ts))))
unfolding parts_of
and_by_rest cells news values m ts below none =
    by_numbers cells news values m (all_of ts) below ∙ and_value values (number_under news.arena values) ts
    ∙ ap (λ b. Some (of_bool b)) (sym (and_of_rest news.arena (number_under news.arena values) (tells cells news values m) ts none))

-- an "or" by them
or_by_rest : (cells : List Cell) (news : News) (values : List ℤ) → NumbersOf cells news values → (ts : List ℕ) → All (λ p. p < length news.arena) ts → All (λ t. IsTruthNumber news.arena true t → ⊥) ts
    → node_value values (term_value news.arena values) (any_of ts) ≡ Some (of_bool (any_one (map (number_under news.arena values) (open_parts news.arena ts))))
unfolding parts_of
or_by_rest cells news values m ts below none =
    by_numbers cells news values m (any_of ts) below ∙ or_value values (number_under news.arena values) ts
    ∙ ap (λ b. Some (of_bool b)) (sym (or_of_rest news.arena (number_under news.arena values) (tells cells news values m) ts none))

one_and : (b : Bool) → (b && true) ≡ b
one_and true = refl
one_and false = refl

one_or : (b : Bool) → (b || false) ≡ b
one_or true = refl
one_or false = refl

pub and_none_says : (cells : List Cell) (news : News) (ts : List ℕ) → IsNews cells news → All (λ p. p < length news.arena) ts → All (λ t. IsTruthNumber news.arena false t → ⊥) ts → open_parts news.arena ts ≡ [] → AlwaysSays cells news.arena (all_of ts) true
unfolding all_one
and_none_says cells news ts h below none rest values are =
    and_by_rest cells news values (numbers_of cells news values h are) ts below none ∙ ap (λ us. Some (of_bool (all_one (map (number_under news.arena values) us)))) rest

pub or_none_says : (cells : List Cell) (news : News) (ts : List ℕ) → IsNews cells news → All (λ p. p < length news.arena) ts → All (λ t. IsTruthNumber news.arena true t → ⊥) ts → open_parts news.arena ts ≡ [] → AlwaysSays cells news.arena (any_of ts) false
unfolding any_one
or_none_says cells news ts h below none rest values are =
    or_by_rest cells news values (numbers_of cells news values h are) ts below none ∙ ap (λ us. Some (of_bool (any_one (map (number_under news.arena values) us)))) rest

-- the one part that is left of an "and", where it is a truth value
pub and_one_value : (cells : List Cell) (news : News) (ts : List ℕ) (t : ℕ) → IsNews cells news → All (λ p. p < length news.arena) ts → All (λ u. IsTruthNumber news.arena false u → ⊥) ts → open_parts news.arena ts ≡ t ∷ [] → t < length news.arena → IsNarrower (term_reach news.arena cells t) truth_interval
    → (values : List ℤ) → AreCellValues cells values → term_value news.arena values t ≡ node_value values (term_value news.arena values) (all_of ts)
unfolding all_one
and_one_value cells news ts t h below none rest lt narrow values are =
    let m = numbers_of cells news values h are in
    let n = number_under news.arena values in
    m.have t lt ∙ ap (λ x. Some x) (sym (truth_number cells news values m t lt narrow))
    ∙ ap (λ b. Some (of_bool b)) (sym (one_and (is_one (n t))))
    ∙ ap (λ us. Some (of_bool (all_one (map n us)))) (sym rest)
    ∙ sym (and_by_rest cells news values m ts below none)

-- that of an "or"
pub or_one_value : (cells : List Cell) (news : News) (ts : List ℕ) (t : ℕ) → IsNews cells news → All (λ p. p < length news.arena) ts → All (λ u. IsTruthNumber news.arena true u → ⊥) ts → open_parts news.arena ts ≡ t ∷ [] → t < length news.arena → IsNarrower (term_reach news.arena cells t) truth_interval
    → (values : List ℤ) → AreCellValues cells values → term_value news.arena values t ≡ node_value values (term_value news.arena values) (any_of ts)
unfolding any_one
or_one_value cells news ts t h below none rest lt narrow values are =
    let m = numbers_of cells news values h are in
    let n = number_under news.arena values in
    m.have t lt ∙ ap (λ x. Some x) (sym (truth_number cells news values m t lt narrow))
    ∙ ap (λ b. Some (of_bool b)) (sym (one_or (is_one (n t))))
    ∙ ap (λ us. Some (of_bool (any_one (map n us)))) (sym rest)
    ∙ sym (or_by_rest cells news values m ts below none)

-- what is left of some terms stands among them
pub rest_in : (nodes : List GroundNode) (ts : List ℕ) (p : ℕ) → Contains (open_parts nodes ts) p → Contains ts p × (lone_number nodes p ≡ None)
rest_in nodes [] p found = none_there p found
rest_in nodes (t ∷ ts) p found = by (lone_number nodes t) refl (λ g. let h = rest_in nodes ts p g in (Contains-append_right (t ∷ []) ts p h.0, h.1))
  where
    by : (o : Option ℤ) → lone_number nodes t ≡ o → (Contains (open_parts nodes ts) p → Contains (t ∷ ts) p × (lone_number nodes p ≡ None)) → Contains (t ∷ ts) p × (lone_number nodes p ≡ None)
    by None e further = elim (of_cons t (open_parts nodes ts) p (subst (λ us. Contains us p) (ap (λ o. cond (not (is_some o)) (t ∷ open_parts nodes ts) (open_parts nodes ts)) e) found)) as (λ _. Contains (t ∷ ts) p × (lone_number nodes p ≡ None)) [
      | inl same ↦ ((0, omega arith, same), subst (λ u. lone_number nodes u ≡ None) same e)
      | inr g ↦ further g
    ]
    by (Some x) e further = further (subst (λ us. Contains us p) (ap (λ o. cond (not (is_some o)) (t ∷ open_parts nodes ts) (open_parts nodes ts)) e) found)

-- an "and" of what is left has the value of the whole
pub rest_and_value : (cells : List Cell) (news : News) (values : List ℤ) → NumbersOf cells news values → (ts : List ℕ) → All (λ p. p < length news.arena) ts → All (λ p. p < length news.arena) (open_parts news.arena ts) → All (λ t. IsTruthNumber news.arena false t → ⊥) ts
    → node_value values (term_value news.arena values) (all_of (open_parts news.arena ts)) ≡ node_value values (term_value news.arena values) (all_of ts)
unfolding parts_of
rest_and_value cells news values m ts below rest none =
    by_numbers cells news values m (all_of (open_parts news.arena ts)) rest ∙ and_value values (number_under news.arena values) (open_parts news.arena ts)
    ∙ sym (and_by_rest cells news values m ts below none)

-- and so has an "or"
pub rest_or_value : (cells : List Cell) (news : News) (values : List ℤ) → NumbersOf cells news values → (ts : List ℕ) → All (λ p. p < length news.arena) ts → All (λ p. p < length news.arena) (open_parts news.arena ts) → All (λ t. IsTruthNumber news.arena true t → ⊥) ts
    → node_value values (term_value news.arena values) (any_of (open_parts news.arena ts)) ≡ node_value values (term_value news.arena values) (any_of ts)
unfolding parts_of
rest_or_value cells news values m ts below rest none =
    by_numbers cells news values m (any_of (open_parts news.arena ts)) rest ∙ or_value values (number_under news.arena values) (open_parts news.arena ts)
    ∙ sym (or_by_rest cells news values m ts below none)

-- ---- what comparisons say

pub is_none : (o : Option ℤ) → o ≡ None → IsSome o → ⊥
is_none None e h = absurd cc
is_none (Some n) e h = absurd cc

-- numbers alone say whether a comparison holds
pub numbers_say : (cells : List Cell) (news : News) (op : CompareOp) (a b : ℕ) (x y : ℤ) (known : Bool) → a < length news.arena → b < length news.arena → lone_number news.arena a ≡ Some x → lone_number news.arena b ≡ Some y → known ≡ compare_holds op x y → IsNews cells news → AlwaysSays cells news.arena (compare op a b) known
numbers_say cells news op a b x y known la lb one other is h =
    compare_says cells news op a b known la lb (λ values m. (λ i. compare_holds op (alone_at cells news values m a x one i) (alone_at cells news values m b y other i)) ∙ sym is) h

-- intervals do
pub decided_says : (cells : List Cell) (news : News) (op : CompareOp) (a b : ℕ) (known : Bool) (i j : Interval) → a < length news.arena → b < length news.arena → i ≡ term_reach news.arena cells a → j ≡ term_reach news.arena cells b → Decides op i j known → IsNews cells news → AlwaysSays cells news.arena (compare op a b) known
decided_says cells news op a b known i j la lb one other d h =
    compare_says cells news op a b known la lb
    (λ values m. d (number_under news.arena values a) (number_under news.arena values b) (subst (LiesIn (number_under news.arena values a)) (sym one) (m.lie a la)) (subst (LiesIn (number_under news.arena values b)) (sym other) (m.lie b lb))) h

-- a term compares with itself as 0 does
pub itself_says : (cells : List Cell) (news : News) (op : CompareOp) (a b : ℕ) (known : Bool) → a < length news.arena → b < length news.arena → a ≡ b → known ≡ compare_holds op (pos 0) (pos 0) → IsNews cells news → AlwaysSays cells news.arena (compare op a b) known
itself_says cells news op a b known la lb same is h =
    compare_says cells news op a b known la lb
    (λ values m. ap (λ t. compare_holds op (number_under news.arena values a) (number_under news.arena values t)) (sym same) ∙ compared_with_itself op (number_under news.arena values a) ∙ sym is) h

-- a number alone says whether it is one of some numbers
pub number_member : (cells : List Cell) (news : News) (a : ℕ) (ns : List ℤ) (n : ℤ) (known : Bool) → a < length news.arena → lone_number news.arena a ≡ Some n → has_number ns n ≡ known → IsNews cells news → AlwaysSays cells news.arena (member a ns) known
number_member cells news a ns n known la at is h = member_says cells news a ns known la (λ values m. ap (has_number ns) (alone_at cells news values m a n at) ∙ is) h

-- an interval says whether a term is one of some numbers
pub members_say : (cells : List Cell) (news : News) (a : ℕ) (ns : List ℤ) (known : Bool) (i : Interval) → a < length news.arena → i ≡ term_reach news.arena cells a → ((n : ℤ) → LiesIn n i → has_number ns n ≡ known) → IsNews cells news → AlwaysSays cells news.arena (member a ns) known
members_say cells news a ns known i la one d h =
    member_says cells news a ns known la (λ values m. d (number_under news.arena values a) (subst (LiesIn (number_under news.arena values a)) (sym one) (m.lie a la))) h

two_below : (k x y : ℕ) → x < k → y < k → All (λ p. p < k) (x ∷ y ∷ [])
two_below k x y lx ly = All-cons (λ p. p < k) x (y ∷ []) lx (All-cons (λ p. p < k) y [] ly (All-nil (λ p. p < k)))

-- a term has its own truth value
pub itself_equivalent : (cells : List Cell) (news : News) (a b : ℕ) → a < length news.arena → b < length news.arena → a ≡ b → IsNews cells news → AlwaysSays cells news.arena (same_truth a b) true
itself_equivalent cells news a b la lb same h =
    same_says cells news a b true (two_below (length news.arena) a b la lb)
    (λ values m. ap (λ t. same_bool (is_one (number_under news.arena values a)) (is_one (number_under news.arena values t))) (sym same) ∙ same_itself (is_one (number_under news.arena values a))) h

-- two numbers alone say whether they have one
pub numbers_equivalent : (cells : List Cell) (news : News) (a b : ℕ) (x y : ℤ) (one known : Bool) → a < length news.arena → b < length news.arena → lone_number news.arena a ≡ Some x → lone_number news.arena b ≡ Some y → one ≡ same_bool true (is_one x) → known ≡ same_bool one (is_one y) → IsNews cells news → AlwaysSays cells news.arena (same_truth a b) known
unfolding same_bool
numbers_equivalent cells news a b x y one known la lb at_a at_b is known_is h =
    same_says cells news a b known (two_below (length news.arena) a b la lb)
    (λ values m.
    (λ i. same_bool (is_one (alone_at cells news values m a x at_a i)) (is_one (alone_at cells news values m b y at_b i)))
    ∙ ap (λ t. same_bool t (is_one y)) (sym is) ∙ sym known_is) h
