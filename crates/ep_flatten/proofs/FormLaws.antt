-- The forms of terms.
use Rattle.std.specs.Prelude.{◌≡◌, ℕ, zero, suc, ◌+◌, ◌<◌, Bool, true, false, List, [], ◌∷◌, ◌++◌, length, map, ℤ, pos, negsuc, ◌+ℤ◌, ◌*ℤ◌, neg_ℤ, Option, Some, None, option_map, slice_get, slice_index_or, nat_lt, refl}
use Rattle.std.proofs.Common.{ap, arith, subst, sym, ◌∙◌}
use Rattle.std.proofs.lemmas.Int.{ints}
use Rattle.std.specs.List.{All, Contains}
use Rattle.std.proofs.lemmas.List.{get_or_append_left, get_or_at, length-map, length_push}
use Rattle.std.proofs.lemmas.List.Elements.{All-cons, All-contains, All-nil}
use Rattle.std.proofs.lemmas.Option.{get_or_from_slice_get}
use Rattle.ep_base.proofs.Small.{no_some, some_is}
use Rattle.ep_base.specs.Numbers.{compare_holds, sum_of}
use Rattle.ep_base.specs.Reads.{IsWithinNumbers, weighted_sum}
use Rattle.ep_base.specs.declared.operators.CompareOp.{CompareOp}
use Rattle.ep_base.specs.declared.operators.CompareOp.TheVariants as comparisons
use Rattle.ep_flatten.specs.Forms.{HaveForms, IsFormOf, IsNextForm, StandsAt, TermForm, own, summed, compared, form_at, form_coefficients, form_parts, form_value, node_at}
use Rattle.ep_flatten.specs.FormViews.{plain_form, plain_forms}
use Rattle.ep_flatten.specs.declared.forms.Form.{Form}
use Rattle.ep_flatten.specs.Sums.{Gathers, SumState, parts_total, terms_in}
use Rattle.ep_flatten.proofs.SumLaws.{all_from, sum_numbers, weighed_numbers}
use Rattle.ep_base.specs.Intervals.{Interval, LiesIn}
use Rattle.ep_base.specs.Options.{on_both}
use Rattle.ep_flatten.specs.Building.{form_reach}
use Rattle.ep_reach.proofs.Lies.{Lie, node_lies, truth_lies}
use Rattle.ep_flatten.proofs.Unrolled.{node_same, unrolled, weighed_same}
use Rattle.ep_ground.specs.Grounds.{AreCellValues, LeadsTo, by_part, itself}
use Rattle.ep_ground.specs.declared.cells.Cell.{Cell}
use Rattle.ep_ground.specs.Nodes.{GroundNode, constant, sum, product, compare, coefficients_of, parts_of, undefined}
use Rattle.ep_ground.specs.Terms.{node_value, term_value, truth, weighed}

-- ---- terms by their nodes

value_of : (nodes : List GroundNode) (t : ℕ) (node : GroundNode) → StandsAt nodes t node → (cells : List ℤ) → term_value nodes cells t ≡ node_value cells (term_value nodes cells) node
value_of nodes t node h cells = unrolled cells nodes t node h.got h.before

leads_to_parts : (nodes : List GroundNode) (t : ℕ) (node : GroundNode) → StandsAt nodes t node → All (LeadsTo nodes t) (parts_of node)
leads_to_parts nodes t node h = all_from (LeadsTo nodes t) (parts_of node) (λ u found. by_part t u u node h.got found (itself u))

-- any term may be spoken of by its node
pub form_own : (nodes : List GroundNode) (t : ℕ) (node : GroundNode) → StandsAt nodes t node → IsFormOf nodes t node own
unfolding form_value form_parts form_coefficients
form_own nodes t node h = record {
  value = λ cells numbers have. value_of nodes t node h cells ∙ node_same cells (term_value nodes cells) (λ p. Some (numbers p)) node have;
  before = h.before;
  leads = leads_to_parts nodes t node h;
  coefficients = λ small. small;
}

pub next_own : (forms : List TermForm) (node : GroundNode) → IsNextForm forms node own
next_own forms node nodes have h = form_own nodes (length forms) node h

-- ---- sums

-- what the parts of a sum come from stands before the term that has it
came_before : (nodes : List GroundNode) (t : ℕ) (node : GroundNode) (c : ℤ) (parts : List (ℤ × ℕ)) (s : SumState) → StandsAt nodes t node → ((u : ℕ) → Contains (terms_in parts) u → Contains (parts_of node) u) → Gathers nodes c parts s → All (λ p. p < t) (terms_in s.parts)
came_before nodes t node c parts s h inside g =
    all_from (λ p. p < t) (terms_in s.parts)
    (λ u found.
    let from = g.from u found in
    let less : from.part < t = All-contains (λ p. p < t) (parts_of node) from.part h.before (inside from.part from.found) in
    let near : u < from.part + 1 = from.before in
    omega (arith, less, near))

came_leads : (nodes : List GroundNode) (t : ℕ) (node : GroundNode) (c : ℤ) (parts : List (ℤ × ℕ)) (s : SumState) → StandsAt nodes t node → ((u : ℕ) → Contains (terms_in parts) u → Contains (parts_of node) u) → Gathers nodes c parts s → All (LeadsTo nodes t) (terms_in s.parts)
came_leads nodes t node c parts s h inside g =
    all_from (LeadsTo nodes t) (terms_in s.parts)
    (λ u found.
    let from = g.from u found in
    by_part t from.part u node h.got (inside from.part from.found) from.leads)

zero_more : (x : ℤ) → (x +ℤ pos 0) ≡ x
zero_more x = omega (arith, ints)

-- a number is a sum without parts
pub next_constant : (forms : List TermForm) (n : ℤ) (m : ℤ) (parts : List (ℤ × ℕ)) → m ≡ n → parts ≡ [] → IsNextForm forms (constant n) (summed m parts)
unfolding form_value form_parts form_coefficients node_value weighted_sum sum_of
next_constant forms n m parts e f nodes have h =
    subst (λ ps. IsFormOf nodes (length forms) (constant n) (summed m ps)) (sym f)
    (record {
      value = λ cells numbers _. value_of nodes (length forms) (constant n) h cells ∙ ap (λ x. Some x) (sym e ∙ sym (zero_more m)) ∙ sym (sum_numbers cells numbers (constant n) m []);
      before = All-nil (λ p. p < length forms);
      leads = All-nil (LeadsTo nodes (length forms));
      coefficients = λ _. All-nil IsWithinNumbers;
    })

pub form_sum : (nodes : List GroundNode) (t : ℕ) (c : ℤ) (parts : List (ℤ × ℕ)) (s : SumState) → Gathers nodes c parts s → StandsAt nodes t (sum c parts) → IsFormOf nodes t (sum c parts) (summed s.number s.parts)
unfolding form_parts form_coefficients node_value parts_of coefficients_of
form_sum nodes t c parts s g h = record {
  value = λ cells numbers have.
      let all = g.value cells numbers have in
      value_of nodes t (sum c parts) h cells
      ∙ ap (option_map (λ ps. c +ℤ weighted_sum ps)) all.1
      ∙ ap (λ x. Some x) (sym all.2)
      ∙ sym (sum_numbers cells numbers (sum c parts) s.number s.parts);
  before = came_before nodes t (sum c parts) c parts s h (λ u found. found) g;
  leads = came_leads nodes t (sum c parts) c parts s h (λ u found. found) g;
  coefficients = g.small;
}

-- ---- products

one_weighed : (value : ℕ → Option ℤ) (k : ℤ) (t : ℕ) (ps : List (ℤ × ℤ)) → weighed value ((k, t) ∷ []) ≡ Some ps → (x : ℤ) × (value t ≡ Some x) × (ps ≡ (k, x) ∷ [])
unfolding weighed on_both
one_weighed value k t ps e = by (value t) refl e
  where
    by : (o : Option ℤ) → value t ≡ o → on_both {A = ℤ} {B = List (ℤ × ℤ)} o (Some []) (λ x rest. Some ((k, x) ∷ rest)) ≡ Some ps → (x : ℤ) × (value t ≡ Some x) × (ps ≡ (k, x) ∷ [])
    by None f g = no_some g
    by (Some x) f g = (x, f, sym (some_is g))

-- a term that is a number
record IsNumber (nodes : List GroundNode) (t : ℕ) (k : ℤ) : Type 0 where
  value : (cells : List ℤ) → term_value nodes cells t ≡ Some k

number_there : (nodes : List GroundNode) (t : ℕ) (node : GroundNode) (k : ℤ) (form : TermForm) → form ≡ summed k [] → IsFormOf nodes t node form → IsNumber nodes t k
unfolding form_parts weighted_sum sum_of
number_there nodes t node k form e h = record {
  value = λ cells.
      let is = subst (IsFormOf nodes t node) e h in
      is.value cells (λ p. pos 0) (All-nil (λ p. term_value nodes cells p ≡ Some (pos 0))) ∙ sum_numbers cells (λ p. pos 0) node k [] ∙ ap (λ x. Some x) (zero_more k);
}

one_sum : (k x : ℤ) (ps : List (ℤ × ℤ)) → ps ≡ (k, x) ∷ [] → (pos 0 +ℤ weighted_sum ps) ≡ (k *ℤ x)
unfolding weighted_sum sum_of
one_sum k x ps e = ap (λ qs. pos 0 +ℤ weighted_sum qs) e ∙ omega (arith, ints)

times_swapped : (x k : ℤ) → (x *ℤ k) ≡ (k *ℤ x)
times_swapped x k = omega (arith, ints)

first_part : (a b u : ℕ) → Contains (b ∷ []) u → Contains (a ∷ b ∷ []) u
first_part a b u (k, l, e) = (suc k, omega (arith, l), e)

second_part : (a b u : ℕ) → Contains (a ∷ []) u → Contains (a ∷ b ∷ []) u
second_part a b u (zero, l, e) = (0, omega arith, e)
second_part a b u (suc k, l, e) = absurd (omega (arith, l))

one_small : (k : ℤ) → IsWithinNumbers k → All IsWithinNumbers (k ∷ [])
one_small k h = All-cons IsWithinNumbers k [] h (All-nil IsWithinNumbers)

form_left : (nodes : List GroundNode) (t a b : ℕ) (k : ℤ) (s : SumState) → IsNumber nodes a k → IsWithinNumbers k → Gathers nodes (pos 0) ((k, b) ∷ []) s → StandsAt nodes t (product a b) → IsFormOf nodes t (product a b) (summed s.number s.parts)
unfolding form_parts form_coefficients node_value parts_of on_both
form_left nodes t a b k s number small g h = record {
  value = λ cells numbers have.
      let all = g.value cells numbers have in
      let one = one_weighed (term_value nodes cells) k b all.0 all.1 in
      value_of nodes t (product a b) h cells
      ∙ ap (λ o. on_both {C = ℤ} o (term_value nodes cells b) (λ x y. Some (x *ℤ y))) (number.value cells)
      ∙ ap (λ o. on_both {C = ℤ} (Some k) o (λ x y. Some (x *ℤ y))) one.1
      ∙ ap (λ x. Some x) (sym (all.2 ∙ one_sum k one.0 all.0 one.2))
      ∙ sym (sum_numbers cells numbers (product a b) s.number s.parts);
  before = came_before nodes t (product a b) (pos 0) ((k, b) ∷ []) s h (first_part a b) g;
  leads = came_leads nodes t (product a b) (pos 0) ((k, b) ∷ []) s h (first_part a b) g;
  coefficients = λ _. g.small (one_small k small);
}

form_right : (nodes : List GroundNode) (t a b : ℕ) (k : ℤ) (s : SumState) → IsNumber nodes b k → IsWithinNumbers k → Gathers nodes (pos 0) ((k, a) ∷ []) s → StandsAt nodes t (product a b) → IsFormOf nodes t (product a b) (summed s.number s.parts)
unfolding form_parts form_coefficients node_value parts_of on_both
form_right nodes t a b k s number small g h = record {
  value = λ cells numbers have.
      let all = g.value cells numbers have in
      let one = one_weighed (term_value nodes cells) k a all.0 all.1 in
      value_of nodes t (product a b) h cells
      ∙ ap (λ o. on_both {C = ℤ} o (term_value nodes cells b) (λ x y. Some (x *ℤ y))) one.1
      ∙ ap (λ o. on_both {C = ℤ} (Some one.0) o (λ x y. Some (x *ℤ y))) (number.value cells)
      ∙ ap (λ x. Some x) (times_swapped one.0 k ∙ sym (all.2 ∙ one_sum k one.0 all.0 one.2))
      ∙ sym (sum_numbers cells numbers (product a b) s.number s.parts);
  before = came_before nodes t (product a b) (pos 0) ((k, a) ∷ []) s h (second_part a b) g;
  leads = came_leads nodes t (product a b) (pos 0) ((k, a) ∷ []) s h (second_part a b) g;
  coefficients = λ _. g.small (one_small k small);
}

-- a product by a number
pub next_left : (forms : List TermForm) (a b : ℕ) (k : ℤ) (s : SumState) → a < length forms → form_at forms a ≡ summed k [] → IsWithinNumbers k
    → ((nodes : List GroundNode) → HaveForms nodes (length forms) forms → Gathers nodes (pos 0) ((k, b) ∷ []) s) → IsNextForm forms (product a b) (summed s.number s.parts)
next_left forms a b k s l e small g nodes have h =
    form_left nodes (length forms) a b k s (number_there nodes a (node_at nodes a) k (form_at forms a) e (have.each a l)) small (g nodes have) h

pub next_right : (forms : List TermForm) (a b : ℕ) (k : ℤ) (s : SumState) → b < length forms → form_at forms b ≡ summed k [] → IsWithinNumbers k
    → ((nodes : List GroundNode) → HaveForms nodes (length forms) forms → Gathers nodes (pos 0) ((k, a) ∷ []) s) → IsNextForm forms (product a b) (summed s.number s.parts)
next_right forms a b k s l e small g nodes have h =
    form_right nodes (length forms) a b k s (number_there nodes b (node_at nodes b) k (form_at forms b) e (have.each b l)) small (g nodes have) h

-- ---- comparisons

two_weighed : (value : ℕ → Option ℤ) (k m : ℤ) (t u : ℕ) (ps : List (ℤ × ℤ)) → weighed value ((k, t) ∷ (m, u) ∷ []) ≡ Some ps → (x : ℤ) × (y : ℤ) × (value t ≡ Some x) × (value u ≡ Some y) × (ps ≡ (k, x) ∷ (m, y) ∷ [])
unfolding weighed on_both
two_weighed value k m t u ps e = by (value t) (value u) refl refl e
  where
    by : (o p : Option ℤ) → value t ≡ o → value u ≡ p → on_both {A = ℤ} {B = List (ℤ × ℤ)} o (on_both {A = ℤ} {B = List (ℤ × ℤ)} p (Some []) (λ x rest. Some ((m, x) ∷ rest))) (λ x rest. Some ((k, x) ∷ rest)) ≡ Some ps
        → (x : ℤ) × (y : ℤ) × (value t ≡ Some x) × (value u ≡ Some y) × (ps ≡ (k, x) ∷ (m, y) ∷ [])
    by None p f g h = no_some h
    by (Some x) None f g h = no_some h
    by (Some x) (Some y) f g h = (x, y, f, g, sym (some_is h))

difference_is : (x y n w r : ℤ) (ps : List (ℤ × ℤ)) → ps ≡ (pos 1, x) ∷ (negsuc 0, y) ∷ [] → (n +ℤ w) ≡ (pos 0 +ℤ weighted_sum ps) → r ≡ neg_ℤ n → (w +ℤ y) ≡ (x +ℤ r)
unfolding weighted_sum sum_of
difference_is x y n w r ps e f g =
    let whole : (n +ℤ w) ≡ (pos 0 +ℤ ((pos 1 *ℤ x) +ℤ ((negsuc 0 *ℤ y) +ℤ pos 0))) = f ∙ ap (λ qs. pos 0 +ℤ weighted_sum qs) e in
    omega (arith, ints, whole, g)

compared_is : (op : CompareOp) (x y w r : ℤ) → (w +ℤ y) ≡ (x +ℤ r) → compare_holds op w r ≡ compare_holds op x y
unfolding compare_holds
compared_is comparisons.Equal x y w r e = grind (arith, ints)
compared_is comparisons.NotEqual x y w r e = grind (arith, ints)
compared_is comparisons.Less x y w r e = grind (arith, ints)
compared_is comparisons.AtMost x y w r e = grind (arith, ints)
compared_is comparisons.Greater x y w r e = grind (arith, ints)
compared_is comparisons.AtLeast x y w r e = grind (arith, ints)

one_within : IsWithinNumbers (pos 1)
one_within = (omega (arith, ints), omega (arith, ints))

minus_one_within : IsWithinNumbers (negsuc 0)
minus_one_within = (omega (arith, ints), omega (arith, ints))

form_compare : (nodes : List GroundNode) (t : ℕ) (op : CompareOp) (a b : ℕ) (s : SumState) (r : ℤ) → r ≡ neg_ℤ s.number → Gathers nodes (pos 0) ((pos 1, a) ∷ (negsuc 0, b) ∷ []) s → StandsAt nodes t (compare op a b)
    → IsFormOf nodes t (compare op a b) (compared op s.parts r)
unfolding form_value form_parts form_coefficients node_value parts_of on_both
form_compare nodes t op a b s r e g h = record {
  value = λ cells numbers have.
      let all = g.value cells numbers have in
      let both = two_weighed (term_value nodes cells) (pos 1) (negsuc 0) a b all.0 all.1 in
      let x = both.0 in
      let y = both.1 in
      value_of nodes t (compare op a b) h cells
      ∙ ap (λ o. truth (on_both {B = ℤ} o (term_value nodes cells b) (λ x y. Some (compare_holds op x y)))) both.2
      ∙ ap (λ o. truth (on_both {A = ℤ} (Some x) o (λ x y. Some (compare_holds op x y)))) both.3
      ∙ ap (λ c. truth (Some c)) (sym (compared_is op x y (parts_total numbers s.parts) r (difference_is x y s.number (parts_total numbers s.parts) r all.0 both.4 all.2 e)))
      ∙ ap (λ o. truth (option_map (λ ps. compare_holds op (weighted_sum ps) r) o)) (sym (weighed_numbers numbers s.parts));
  before = came_before nodes t (compare op a b) (pos 0) ((pos 1, a) ∷ (negsuc 0, b) ∷ []) s h (λ u found. found) g;
  leads = came_leads nodes t (compare op a b) (pos 0) ((pos 1, a) ∷ (negsuc 0, b) ∷ []) s h (λ u found. found) g;
  coefficients = λ _. g.small (All-cons IsWithinNumbers (pos 1) (negsuc 0 ∷ []) one_within (one_small (negsuc 0) minus_one_within));
}

pub next_compare : (forms : List TermForm) (op : CompareOp) (a b : ℕ) (s : SumState) (r : ℤ) → r ≡ neg_ℤ s.number → ((nodes : List GroundNode) → HaveForms nodes (length forms) forms → Gathers nodes (pos 0) ((pos 1, a) ∷ (negsuc 0, b) ∷ []) s)
    → IsNextForm forms (compare op a b) (compared op s.parts r)
next_compare forms op a b s r e g nodes have h = form_compare nodes (length forms) op a b s r e (g nodes have) h

-- ---- the forms of all terms

pub node_is : (nodes : List GroundNode) (t : ℕ) (node : GroundNode) → slice_get nodes t ≡ Some node → node_at nodes t ≡ node
node_is nodes t node e = get_or_from_slice_get nodes t node undefined e

pub forms_none : (nodes : List GroundNode) → HaveForms nodes 0 []
forms_none nodes = record { long = refl; each = λ t l. absurd (omega (arith, l)) }

is_end : (t u : ℕ) → u < t + 1 → nat_lt u t ≡ false → t ≡ u
is_end t u l e = grind (arith, e)

below_or_end : {P : Type 0} (u n : ℕ) → u < n + 1 → (u < n → P) → (n ≡ u → P) → P
below_or_end {P} u n l f k = by (nat_lt u n) refl
  where
    by : (b : Bool) → nat_lt u n ≡ b → P
    by true e = f (grind (arith, e))
    by false e = k (is_end n u l e)

pub forms_more : (nodes : List GroundNode) (n : ℕ) (node : GroundNode) (forms new : List TermForm) (form : TermForm) → HaveForms nodes n forms → StandsAt nodes n node → IsNextForm forms node form → new ≡ forms ++ form ∷ [] → HaveForms nodes (n + 1) new
forms_more nodes n node forms new form h stands next e =
    subst (HaveForms nodes (n + 1)) (sym e)
    (record {
      long = length_push forms form ∙ ap (λ m. m + 1) h.long;
      each = λ t l. below_or_end t n l
          (λ m. subst (IsFormOf nodes t (node_at nodes t)) (sym (get_or_append_left forms (form ∷ []) own t (subst (λ j. t < j) (sym h.long) m))) (h.each t m))
          (λ k. subst (λ u. IsFormOf nodes u (node_at nodes u) (form_at (forms ++ form ∷ []) u)) k
          (subst (λ m. IsFormOf nodes m (node_at nodes m) (form_at (forms ++ form ∷ []) m)) h.long here));
    })
  where
    m : ℕ
    m = length forms

    there : HaveForms nodes m forms
    there = subst (λ j. HaveForms nodes j forms) (sym h.long) h

    standing : StandsAt nodes m node
    standing = subst (λ j. StandsAt nodes j node) (sym h.long) stands

    here : IsFormOf nodes m (node_at nodes m) (form_at (forms ++ form ∷ []) m)
    here =
        subst (λ x. IsFormOf nodes m x (form_at (forms ++ form ∷ []) m)) (sym (node_is nodes m node standing.got))
        (subst (IsFormOf nodes m node) (sym (get_or_at forms form [] own m refl)) (next nodes there standing))

-- the form of a term as the code reads it
pub form_read : (forms : List Form) (t : ℕ) (form : Form) → t < length forms → form ≡ slice_index_or forms t form → plain_form form ≡ form_at (plain_forms forms) t
form_read forms t form l e = ap plain_form e ∙ sym (at_map plain_form forms t form own l)
  where
    at_map : {A B : Type 0} (f : A → B) (xs : List A) (k : ℕ) (d : A) (e : B) → k < length xs → slice_index_or (map f xs) k e ≡ f (slice_index_or xs k d)
    at_map f [] k d e h = absurd (omega (arith, h))
    at_map f (x ∷ xs) zero d e h = refl
    at_map f (x ∷ xs) (suc k) d e h = at_map f xs k d e (omega (arith, h))

pub forms_long : (forms : List Form) (t : ℕ) → t < length forms → t < length (plain_forms forms)
forms_long forms t l = omega (arith, l, length-map forms plain_form)

-- the form of a term that is seen as a sum
pub form_summed : (forms : List Form) (t : ℕ) (form : Form) (n : ℤ) (parts : List (ℤ × ℕ)) (nodes : List GroundNode) → t < length forms → form ≡ slice_index_or forms t form → plain_form form ≡ summed n parts
    → HaveForms nodes (length (plain_forms forms)) (plain_forms forms) → IsFormOf nodes t (node_at nodes t) (summed n parts)
form_summed forms t form n parts nodes l e is have = subst (IsFormOf nodes t (node_at nodes t)) (sym (form_read forms t form l e) ∙ is) (have.each t (forms_long forms t l))

-- the form of a term with this node
pub form_there : (nodes : List GroundNode) (forms : List TermForm) (t : ℕ) (node : GroundNode) → HaveForms nodes (length nodes) forms → slice_get nodes t ≡ Some node → t < length nodes → IsFormOf nodes t node (form_at forms t)
form_there nodes forms t node have got l = subst (λ n. IsFormOf nodes t n (form_at forms t)) (node_is nodes t node got) (have.each t l)

-- ---- values and reaches

-- the value by a form depends on the values of its parts alone
pub form_same : (cells : List ℤ) (f g : ℕ → Option ℤ) (node : GroundNode) (form : TermForm) → All (λ t. f t ≡ g t) (form_parts node form) → form_value cells f node form ≡ form_value cells g node form
unfolding form_value form_parts parts_of
form_same cells f g node own h = node_same cells f g node h
form_same cells f g node (summed c parts) h = node_same cells f g (sum c parts) h
form_same cells f g node (compared op parts c) h = ap (λ o. truth (option_map (λ ps. compare_holds op (weighted_sum ps) c) o)) (weighed_same f g parts h)

pub form_lies : (cells : List Cell) (values : List ℤ) (value : ℕ → Option ℤ) (reach : ℕ → Interval) → AreCellValues cells values → Lie value reach → (node : GroundNode) (form : TermForm) (n : ℤ) → form_value values value node form ≡ Some n → LiesIn n (form_reach cells reach node form)
unfolding form_value form_reach
form_lies cells values value reach are h node own n e = node_lies cells values value reach are h node n e
form_lies cells values value reach are h node (summed c parts) n e = node_lies cells values value reach are h (sum c parts) n e
form_lies cells values value reach are h node (compared op parts c) n e = truth_lies _ n e

pub form_inside : (nodes : List GroundNode) (forms : List Form) (t : ℕ) → HaveForms nodes (length nodes) (plain_forms forms) → t < length nodes → t < length forms
form_inside nodes forms t have l = omega (arith, l, have.long, length-map forms plain_form)
