-- What it takes for a term to be true, and constraints that say that it is.
use Rattle.std.specs.Prelude.{◌≡◌, ℕ, zero, suc, ◌+◌, ◌<◌, ◌⊎◌, Bool, true, false, ◌&&◌, ◌||◌, if◌then◌else◌, IsTrue, List, [], ◌∷◌, ◌++◌, length, map, ℤ, pos, Option, Some, None, option_map, option_and_then, slice_get, slice_index_or, nat_lt, refl}
use Rattle.std.proofs.Common.{ap, arith, inl, inr, subst, sym, ◌∙◌}
use Rattle.std.specs.List.{All, Contains, list_all}
use Rattle.std.proofs.lemmas.Bool.{false≢true}
use Rattle.std.proofs.lemmas.Bool.Decides.{Decides-int_eq}
use Rattle.std.proofs.lemmas.List.Elements.{All-append, All-cons, All-contains, All-head, All-nil, All-tail}
use Rattle.ep_base.specs.Numbers.{all_one, is_one, of_bool}
use Rattle.ep_base.specs.Reads.{IsWithinNumbers, all_there, same_bool}
use Rattle.ep_flat.specs.Cons.{FlatCon, FlatKind, con_holds, con_variables, is_as_said, kind_coefficients, kind_holds, kind_variables, number_at, numbers_of_vars}
use Rattle.ep_flat.specs.Flats.{HasSmallCoefficients, Meets, NamesBelow}
use Rattle.ep_flatten.specs.Building.{is_truth_node, AreMarks, Built, HasTops, IsBuilt, IsForced, IsMarked, flat_of, truth_con}
use Rattle.ep_flatten.specs.Saying.{variable_at, value_under}
use Rattle.ep_flatten.specs.Forms.{HaveForms, IsFormOf, TermForm, own, summed, compared, form_at, form_coefficients, form_parts, form_value}
use Rattle.ep_flatten.specs.Tops.{Asserts, HasFormValue, HaveVariables, Tells, TellsForm, asserts_of, is_all, is_test, needs_by, needs_of}
use Rattle.ep_flatten.proofs.FormLaws.{form_there}
use Rattle.ep_flatten.proofs.SumLaws.{all_from}
use Rattle.ep_base.specs.declared.operators.CompareOp.{CompareOp}
use Rattle.std.proofs.lemmas.Option.{get_or_from_slice_get}
use Rattle.ep_base.proofs.Small.{some_is}
use Rattle.ep_ground.specs.Bounds.{IsBounded}
use Rattle.ep_flatten.proofs.Sayings.{plain}
use Rattle.ep_flatten.proofs.Unrolled.{all_left, all_right, unrolled}
use Rattle.ep_ground.specs.Grounds.{GroundState}
use Rattle.ep_ground.specs.Nodes.{GroundNode, compare, lex, member, negation, all_of, any_of, same_truth, all_different, counts, at_least, at_most, table, coefficients_of, parts_of, undefined}
use Rattle.ep_ground.specs.Terms.{node_value, term_value, truth, term_values_of}

-- ---- truth values

of_true : (b : Bool) → of_bool b ≡ pos 1 → b ≡ true
unfolding of_bool
of_true true h = refl
of_true false h = absurd cc

both_left : (b c : Bool) → (b && c) ≡ true → b ≡ true
both_left true c h = refl
both_left false c h = absurd (false≢true h)

both_right : (b c : Bool) → (b && c) ≡ true → c ≡ true
both_right true c h = h
both_right false c h = absurd (false≢true h)

pub one_is : (n : ℤ) → is_one n ≡ true → n ≡ pos 1
unfolding is_one
one_is n e = (Decides-int_eq n (pos 1)).0 e

pub is_one_of : (n : ℤ) → n ≡ pos 1 → is_one n ≡ true
unfolding is_one
is_one_of n e = (Decides-int_eq n (pos 1)).1 e

same_true : (b : Bool) → (same_bool b true || false) ≡ b
unfolding same_bool
same_true true = refl
same_true false = refl

-- the clause of a term holds where its variable is 1
truth_holds : (values : List ℤ) (places : List ℕ) (t : ℕ) → con_holds values (truth_con places t) ≡ is_one (number_at values (variable_at places t))
unfolding con_holds is_as_said kind_holds
truth_holds values places t = same_true (is_one (number_at values (variable_at places t)))

-- ---- conjunctions

one_more_true : (n : ℤ) (o : Option (List ℤ)) → truth (option_map all_one (option_map (λ ns. n ∷ ns) o)) ≡ Some (pos 1) → (n ≡ pos 1) × (truth (option_map all_one o) ≡ Some (pos 1))
unfolding truth all_one of_bool
one_more_true n None h = absurd cc
one_more_true n (Some ns) h =
    let both : (is_one n && list_all is_one ns) ≡ true = of_true (is_one n && list_all is_one ns) (some_is h) in
    (one_is n (both_left (is_one n) (list_all is_one ns) both), ap (λ b. Some (of_bool b)) (both_right (is_one n) (list_all is_one ns) both))

true_with_one : (o : Option (List ℤ)) → truth (option_map all_one o) ≡ Some (pos 1) → truth (option_map all_one (option_map (λ ns. pos 1 ∷ ns) o)) ≡ Some (pos 1)
unfolding truth all_one of_bool
true_with_one None h = h
true_with_one (Some ns) h = ap (λ b. Some (of_bool (b && list_all is_one ns))) (is_one_of (pos 1) refl) ∙ h

all_true : (value : ℕ → Option ℤ) (ts : List ℕ) → truth (option_map all_one (term_values_of value ts)) ≡ Some (pos 1) → All (λ u. value u ≡ Some (pos 1)) ts
unfolding term_values_of all_there truth of_bool
all_true value [] h = All-nil (λ u. value u ≡ Some (pos 1))
all_true value (t ∷ ts) h = by (value t) refl h (all_true value ts)
  where
    by : (o : Option ℤ) → value t ≡ o → truth (option_map all_one (option_and_then (λ n. option_map (λ ns. n ∷ ns) (all_there (map value ts))) o)) ≡ Some (pos 1)
        → (truth (option_map all_one (term_values_of value ts)) ≡ Some (pos 1) → All (λ u. value u ≡ Some (pos 1)) ts) → All (λ u. value u ≡ Some (pos 1)) (t ∷ ts)
    by None e k rest = absurd cc
    by (Some n) e k rest =
        let one = one_more_true n (all_there (map value ts)) k in
        All-cons (λ u. value u ≡ Some (pos 1)) t ts (e ∙ ap (λ m. Some m) one.0) (rest one.1)

true_all : (value : ℕ → Option ℤ) (ts : List ℕ) → All (λ u. value u ≡ Some (pos 1)) ts → truth (option_map all_one (term_values_of value ts)) ≡ Some (pos 1)
unfolding term_values_of all_there truth of_bool all_one
true_all value [] h = refl
true_all value (t ∷ ts) h =
    ap (λ o. truth (option_map all_one (option_and_then (λ n. option_map (λ ns. n ∷ ns) (all_there (map value ts))) o))) (All-head (λ u. value u ≡ Some (pos 1)) t ts h)
    ∙ true_with_one (term_values_of value ts) (true_all value ts (All-tail (λ u. value u ≡ Some (pos 1)) t ts h))

-- the terms that have to be true with one are where it is
whole_parts : (cells : List ℤ) (value : ℕ → Option ℤ) (node : GroundNode) → node_value cells value node ≡ Some (pos 1) → All (λ u. value u ≡ Some (pos 1)) (asserts_of node)
unfolding asserts_of node_value
whole_parts cells value (all_of ts) h = all_true value ts h
whole_parts cells value node h = All-nil (λ u. value u ≡ Some (pos 1))

whole_true : (cells : List ℤ) (value : ℕ → Option ℤ) (node : GroundNode) → is_all node ≡ true → All (λ u. value u ≡ Some (pos 1)) (asserts_of node) → node_value cells value node ≡ Some (pos 1)
unfolding asserts_of node_value is_all
whole_true cells value (all_of ts) e h = true_all value ts h
whole_true cells value node e h = absurd (false≢true e)

no_element : {X : Type 0} {A : Type 0} (x : X) → Contains [] x → A
no_element x (k, l, e) = absurd (omega (arith, l))

-- a part of what has to be true is a part
pub asserts_in : (node : GroundNode) (u : ℕ) → Contains (asserts_of node) u → Contains (parts_of node) u
unfolding asserts_of parts_of
asserts_in (all_of ts) u h = h
asserts_in node u h = no_element u h

-- ---- what needs a variable

needs_test : (t : ℕ) (node : GroundNode) → is_all node ≡ false → is_test node ≡ true → needs_of t node own ≡ parts_of node
unfolding needs_of needs_by
needs_test t node e f = ap (λ b. if b then [] else needs_by t node own) e ∙ ap (λ b. if b then parts_of node else t ∷ []) f

needs_compared : (t : ℕ) (node : GroundNode) (op : CompareOp) (parts : List (ℤ × ℕ)) (c : ℤ) → is_all node ≡ false → needs_of t node (compared op parts c) ≡ form_parts node (compared op parts c)
unfolding needs_of needs_by form_parts
needs_compared t node op parts c e = ap (λ b. if b then [] else needs_by t node (compared op parts c)) e

pub needs_itself : (t : ℕ) (node : GroundNode) → is_all node ≡ false → is_test node ≡ false → needs_of t node own ≡ t ∷ []
unfolding needs_of needs_by
needs_itself t node e f = ap (λ b. if b then [] else needs_by t node own) e ∙ ap (λ b. if b then parts_of node else t ∷ []) f

pub needs_summed : (t : ℕ) (node : GroundNode) (c : ℤ) (parts : List (ℤ × ℕ)) → is_all node ≡ false → needs_of t node (summed c parts) ≡ t ∷ []
unfolding needs_of needs_by
needs_summed t node c parts e = ap (λ b. if b then [] else needs_by t node (summed c parts)) e

one_there : (t u : ℕ) → Contains (t ∷ []) u → t ≡ u
one_there t u (zero, l, e) = e
one_there t u (suc k, l, e) = absurd (omega (arith, l))

-- it is the term itself or one of the parts of its form
pub needs_in : (t : ℕ) (node : GroundNode) (form : TermForm) (u : ℕ) → Contains (needs_of t node form) u → (t ≡ u) ⊎ Contains (form_parts node form) u
unfolding needs_of needs_by form_parts
needs_in t node form u h = by (is_all node) h
  where
    own_in : (q : Bool) → Contains (if q then parts_of node else t ∷ []) u → (t ≡ u) ⊎ Contains (parts_of node) u
    own_in true k = inr k
    own_in false k = inl (one_there t u k)

    form_in : (f : TermForm) → Contains (needs_by t node f) u → (t ≡ u) ⊎ Contains (form_parts node f) u
    form_in own k = own_in (is_test node) k
    form_in (summed c parts) k = inl (one_there t u k)
    form_in (compared op parts c) k = inr k

    by : (p : Bool) → Contains (if p then [] else needs_by t node form) u → (t ≡ u) ⊎ Contains (form_parts node form) u
    by true k = no_element u k
    by false k = form_in form k

pub needs_before : (t : ℕ) (node : GroundNode) (form : TermForm) → All (λ p. p < t) (form_parts node form) → All (λ p. p < t + 1) (needs_of t node form)
needs_before t node form h =
    all_from (λ p. p < t + 1) (needs_of t node form)
    (λ u found. elim (needs_in t node form u found) as (λ _. u < t + 1) [
      | inl same ↦ subst (λ v. v < t + 1) same (omega arith)
      | inr part ↦ let less : u < t = All-contains (λ p. p < t) (form_parts node form) u h part in omega (arith, less)
    ])

-- ---- constraints

pub test_truth : (node : GroundNode) → is_test node ≡ true → is_truth_node node ≡ true
unfolding is_test is_truth_node
test_truth (compare op a b) e = refl
test_truth (lex op ts us) e = refl
test_truth (member a ns) e = refl
test_truth (negation a) e = refl
test_truth (any_of ts) e = refl
test_truth (same_truth a b) e = refl
test_truth (all_different ts) e = refl
test_truth (counts ts ns us) e = refl
test_truth (at_least ts cs ns) e = refl
test_truth (at_most ts cs ns) e = refl
test_truth (table ts rows) e = refl
test_truth node e = absurd (false≢true e)

pub asserts_truth : (places : List ℕ) (t : ℕ) (node : GroundNode) (kind : FlatKind) → Tells places node kind → is_all node ≡ false → is_test node ≡ true → Asserts places t node own (plain kind)
unfolding con_holds is_as_said con_variables of_bool form_value form_parts
asserts_truth places t node kind h other is =
    let needs = needs_test t node other is in
    let valued : (cells values : List ℤ) (value : ℕ → Option ℤ) → HaveVariables values places value (needs_of t node own) → HasFormValue cells values places value t node own → value t ≡ Some (of_bool (kind_holds values kind)) =
    λ cells values value same e. e (subst (HaveVariables values places value) needs same) ∙ h.gives cells values in
    record {
      forth = λ cells values value same e holds. valued cells values value same e ∙ ap (λ b. Some (of_bool b)) holds;
      back = λ cells values value same e one. of_true (kind_holds values kind) (some_is (sym (valued cells values value same e) ∙ one));
      names = λ bound k. h.names bound (subst (λ ps. All (λ p. variable_at places p < bound) ps) needs k);
      small = λ _. h.coefficients;
    }

pub asserts_compared : (places : List ℕ) (t : ℕ) (node : GroundNode) (op : CompareOp) (parts : List (ℤ × ℕ)) (c : ℤ) (kind : FlatKind) → TellsForm places node (compared op parts c) kind → is_all node ≡ false → Asserts places t node (compared op parts c) (plain kind)
unfolding con_holds is_as_said con_variables of_bool
asserts_compared places t node op parts c kind h other =
    let form = compared op parts c in
    let needs = needs_compared t node op parts c other in
    let valued : (cells values : List ℤ) (value : ℕ → Option ℤ) → HaveVariables values places value (needs_of t node form) → HasFormValue cells values places value t node form → value t ≡ Some (of_bool (kind_holds values kind)) =
    λ cells values value same e. e (subst (HaveVariables values places value) needs same) ∙ h.gives cells values in
    record {
      forth = λ cells values value same e holds. valued cells values value same e ∙ ap (λ b. Some (of_bool b)) holds;
      back = λ cells values value same e one. of_true (kind_holds values kind) (some_is (sym (valued cells values value same e) ∙ one));
      names = λ bound k. h.names bound (subst (λ ps. All (λ p. variable_at places p < bound) ps) needs k);
      small = h.coefficients;
    }

pub asserts_place : (places : List ℕ) (t : ℕ) (node : GroundNode) (form : TermForm) → needs_of t node form ≡ t ∷ [] → Asserts places t node form (truth_con places t)
unfolding value_under con_variables kind_variables kind_coefficients
asserts_place places t node form needs =
    let valued : (values : List ℤ) (value : ℕ → Option ℤ) → HaveVariables values places value (needs_of t node form) → value t ≡ Some (number_at values (variable_at places t)) =
    λ values value same. All-head (λ p. value p ≡ value_under values places p) t [] (subst (HaveVariables values places value) needs same) in
    record {
      forth = λ cells values value same _ holds. valued values value same ∙ ap (λ n. Some n) (one_is (number_at values (variable_at places t)) (sym (truth_holds values places t) ∙ holds));
      back = λ cells values value same _ one. truth_holds values places t ∙ is_one_of (number_at values (variable_at places t)) (some_is (sym (valued values value same) ∙ one));
      names = λ bound k. All-cons (λ x. x < bound) (variable_at places t) [] (All-head (λ p. variable_at places p < bound) t [] (subst (λ ps. All (λ p. variable_at places p < bound) ps) needs k)) (All-nil (λ x. x < bound));
      small = λ _. All-nil IsWithinNumbers;
    }

-- where a node has to be true, so have those terms
pub forced_part : (g : GroundState) (t u : ℕ) (node : GroundNode) → IsForced g t → slice_get g.nodes t ≡ Some node → All (λ p. p < t) (parts_of node) → Contains (asserts_of node) u → IsForced g u
forced_part g t u node h got before found xs clauses =
    let all : All (λ v. term_value g.nodes xs v ≡ Some (pos 1)) (asserts_of node) = whole_parts xs (term_value g.nodes xs) node (sym (unrolled xs g.nodes t node got before) ∙ h xs clauses) in
    All-contains (λ v. term_value g.nodes xs v ≡ Some (pos 1)) (asserts_of node) u all found

-- ---- the constraints of all terms that have to be true

is_end : (t u : ℕ) → u < t + 1 → nat_lt u t ≡ false → t ≡ u
is_end t u l e = grind (arith, e)

-- what holds of the terms before one and of that one
one_more : (P : ℕ → Type 0) (t : ℕ) → ((u : ℕ) → u < t → P u) → P t → (u : ℕ) → u < t + 1 → P u
one_more P t h k u l = by (nat_lt u t) refl
  where
    by : (b : Bool) → nat_lt u t ≡ b → P u
    by true e = h u (grind (arith, e))
    by false e = subst P (is_end t u l e) k

pub tops_none : (g : GroundState) (asserted : List Bool) (b : Built) → HasTops g asserted b 0 []
tops_none g asserted b = record {
  names = All-nil (NamesBelow (length b.vars));
  small = All-nil HasSmallCoefficients;
  forth = λ values meets holds t l. absurd (omega (arith, l));
  back = λ values meets _. All-nil (λ con. IsTrue (con_holds values con));
}

-- a term that needn't be true
pub tops_skip : (g : GroundState) (asserted : List Bool) (b : Built) (t : ℕ) (cons : List FlatCon) → HasTops g asserted b t cons → slice_index_or asserted t false ≡ false → HasTops g asserted b (t + 1) cons
tops_skip g asserted b t cons h none = record {
  names = h.names;
  small = h.small;
  forth = λ values meets holds. one_more (λ u. IsMarked asserted u → term_value g.nodes (numbers_of_vars values b.cells) u ≡ Some (pos 1)) t (h.forth values meets holds) (λ m. absurd (false≢true (sym none ∙ m)));
  back = h.back;
}

-- a conjunction is true by its parts
pub tops_whole : (g : GroundState) (forms : List TermForm) (asserted marks : List Bool) (b : Built) (t : ℕ) (node : GroundNode) (cons : List FlatCon) → HasTops g asserted b t cons → AreMarks g forms asserted marks → IsMarked asserted t
    → slice_get g.nodes t ≡ Some node → All (λ p. p < t) (parts_of node) → is_all node ≡ true → HasTops g asserted b (t + 1) cons
unfolding asserts_of parts_of
tops_whole g forms asserted marks b t node cons h are m got before is = record {
  names = h.names;
  small = h.small;
  forth = λ values meets holds. one_more (λ u. IsMarked asserted u → term_value g.nodes (numbers_of_vars values b.cells) u ≡ Some (pos 1)) t (h.forth values meets holds)
      (λ _.
      let xs = numbers_of_vars values b.cells in
      unrolled xs g.nodes t node got before
      ∙ whole_true xs (term_value g.nodes xs) node is (λ k d l.
      let u = slice_index_or (asserts_of node) k d in
      h.forth values meets holds u (part_before node k d l before) (are.wholes t node got m k d l)));
  back = h.back;
}
  where
    part_before : (other : GroundNode) (k d : ℕ) → k < length (asserts_of other) → All (λ p. p < t) (parts_of other) → slice_index_or (asserts_of other) k d < t
    part_before (all_of ts) k d l all = all k d l
    part_before other k d l all = absurd (omega (arith, l))

-- another term has its constraint
pub tops_more : (g : GroundState) (forms : List TermForm) (asserted marks : List Bool) (b : Built) (t : ℕ) (node : GroundNode) (cons : List FlatCon) (con : FlatCon) → HasTops g asserted b t cons → AreMarks g forms asserted marks → HaveForms g.nodes (length g.nodes) forms → IsBounded g → IsMarked asserted t
    → IsBuilt g marks (length g.nodes) b → slice_get g.nodes t ≡ Some node → t < length g.nodes → Asserts b.places t node (form_at forms t) con → HasTops g asserted b (t + 1) (cons ++ con ∷ [])
unfolding value_under
tops_more g forms asserted marks b t node cons con h are have bounded m built got below says =
    let form = form_at forms t in
    let is : IsFormOf g.nodes t node form = form_there g.nodes forms t node have got below in
    let needs = needs_of t node form in
    let marked : All (IsMarked marks) needs = are.tops t node got m in
    let inside : All (λ p. p < t + 1) needs = needs_before t node form is.before in
    let same : (values : List ℤ) → Meets (flat_of b) values → HaveVariables values b.places (term_value g.nodes (numbers_of_vars values b.cells)) needs =
    λ values meets k d l.
    let less = inside k d l in
    told values meets (slice_index_or needs k d) (omega (arith, less, below)) (marked k d l) in
    let valued : (values : List ℤ) → HasFormValue (numbers_of_vars values b.cells) values b.places (term_value g.nodes (numbers_of_vars values b.cells)) t node form =
    λ values theirs. is.value (numbers_of_vars values b.cells) (λ p. number_at values (variable_at b.places p)) theirs in
    let small : All IsWithinNumbers (form_coefficients node form) = is.coefficients (subst (λ n. All IsWithinNumbers (coefficients_of n)) (get_or_from_slice_get g.nodes t node undefined got) (bounded.coefficients t (are.above t m))) in
    record {
      names = All-append (NamesBelow (length b.vars)) cons (con ∷ []) h.names
          (All-cons (NamesBelow (length b.vars)) con [] (says.names (length b.vars) (λ k d l. let less = inside k d l in built.within (slice_index_or needs k d) (omega (arith, less, below)) (marked k d l))) (All-nil (NamesBelow (length b.vars))));
      small = All-append HasSmallCoefficients cons (con ∷ []) h.small (All-cons HasSmallCoefficients con [] (says.small small) (All-nil HasSmallCoefficients));
      forth = λ values meets holds. one_more (λ u. IsMarked asserted u → term_value g.nodes (numbers_of_vars values b.cells) u ≡ Some (pos 1)) t
          (h.forth values meets (all_left (λ c. IsTrue (con_holds values c)) cons (con ∷ []) holds))
          (λ _. says.forth (numbers_of_vars values b.cells) values (term_value g.nodes (numbers_of_vars values b.cells)) (same values meets) (valued values)
          (All-head (λ c. IsTrue (con_holds values c)) con [] (all_right (λ c. IsTrue (con_holds values c)) cons (con ∷ []) holds)));
      back = λ values meets true_ones. All-append (λ c. IsTrue (con_holds values c)) cons (con ∷ []) (h.back values meets true_ones)
          (All-cons (λ c. IsTrue (con_holds values c)) con []
          (says.back (numbers_of_vars values b.cells) values (term_value g.nodes (numbers_of_vars values b.cells)) (same values meets) (valued values) (true_ones t m))
          (All-nil (λ c. IsTrue (con_holds values c))));
    }
  where
    told : (values : List ℤ) → Meets (flat_of b) values → (u : ℕ) → u < length g.nodes → IsMarked marks u → term_value g.nodes (numbers_of_vars values b.cells) u ≡ value_under values b.places u
    told values meets u l n = built.tells values meets u l n
