-- Scalars, each unrolled by itself, put behind others one after another.
use Rattle.ep_unroll.proofs.Words.{◌≡◌, ℕ, suc, ◌+◌, ◌-◌, ◌<◌, ◌≤◌, ℤ, pos, List, [], ◌∷◌, ◌++◌, length, drop, get_or, Some, None, Ok, Err, refl, sym, ap, subst, ◌∙◌, arith, slice_get, append_assoc, OnOk, Option, Result, map, option_map, append-nil, drop_more, length-map, map-append, all_there, counting, Place, held_value, GroundNode, term_value, evaluate-flatten, Env, number_in, scalars_in, ExprTree, flatten, all_defined, as_parts, list_value, matrix, scalars_of, scalars_of_all, single, AddsParts, AreTerms, Means, worth, HaveTerms, worths, Numbering, cells_value, cells_from, Unrolled, Fixed, Matrix, Number}
use Rattle.std.specs.declared.alloc.Global.{Global}
use Rattle.std.specs.declared.vec.Vec.{Vec}
use Rattle.ep_eval.specs.declared.held.Held.TheVariants as held
use Rattle.ep_unroll.proofs.FormValues.{there_defined}
use Rattle.ep_unroll.proofs.GrownParts.{have_both, have_one, matrix_terms, matrix_worth}
use Rattle.ep_unroll.proofs.MatrixSteps.{each_cut, joined, scalars_each, there_cut, whole_scalars}
use Rattle.ep_unroll.proofs.PartListSteps.{defined_long}

-- scalars by nodes and by the numbers of the cells
abbrev pub Scalars : Type 0
Scalars = List GroundNode → List ℤ → Option (List ℤ)

-- ---- lists joined, where both are there

pub joined_none : (o : Option (List ℤ)) → joined (Some []) o ≡ o
unfolding joined
joined_none None = refl
joined_none (Some xs) = refl

pub joined_all : (o : Option (List ℤ)) → joined o (Some []) ≡ o
unfolding joined
joined_all None = refl
joined_all (Some xs) = ap Some (append-nil xs)

pub joined_regrouped : (a b c : Option (List ℤ)) → joined (joined a b) c ≡ joined a (joined b c)
unfolding joined
joined_regrouped None b c = refl
joined_regrouped (Some x) None c = refl
joined_regrouped (Some x) (Some y) None = refl
joined_regrouped (Some x) (Some y) (Some z) = ap Some (append_assoc x y z)

pub on_ok : {A E : Type 0} (r : Result A E) (P Q : Type 0) → (P → Q) → OnOk r P → OnOk r Q
on_ok (Ok x) P Q f h = f h
on_ok (Err e) P Q f h = h

-- ---- what is left of numbers, and of cells

pub numbers_cut : (all : List ℤ) (k : ℕ) → k < length all → Some (drop k all) ≡ joined (Some (get_or all k (pos 0) ∷ [])) (Some (drop (k + 1) all))
unfolding joined
numbers_cut all k less = ap Some (drop_more all k (pos 0) less)

-- the cells that are left
abbrev pub cells_left : ℕ → ℕ → ℕ → List ℤ → Option (List ℤ)
cells_left first count passed numbers = all_there (cells_from numbers (first + passed) (count - passed))

pub cells_first : (first count : ℕ) (numbers : List ℤ) → cells_left first count 0 numbers ≡ all_there (cells_from numbers first count)
cells_first first count numbers = ap (λ k. all_there (cells_from numbers k (count - 0))) (none_behind first) ∙ ap (λ m. all_there (cells_from numbers first m)) (none_off count)
  where
    none_behind : (n : ℕ) → n + 0 ≡ n
    none_behind n = omega arith

    none_off : (n : ℕ) → n - 0 ≡ n
    none_off n = omega arith

there_front : (o : Option ℤ) (os : List (Option ℤ)) → all_there (o ∷ os) ≡ joined (all_there (o ∷ [])) (all_there os)
there_front o os = there_cut (o ∷ []) os

pub cells_cut : (first count passed : ℕ) (numbers : List ℤ) → passed < count
    → cells_left first count passed numbers ≡ joined (all_there (slice_get numbers (first + passed) ∷ [])) (cells_left first count (passed + 1) numbers)
unfolding cells_from
cells_cut first count passed numbers less =
    ap (λ m. all_there (cells_from numbers (first + passed) m)) (one_off count passed less)
    ∙ ap (λ j. all_there (slice_get numbers (first + passed) ∷ cells_from numbers j (count - (passed + 1)))) (one_on first passed)
    ∙ there_front (slice_get numbers (first + passed)) (cells_from numbers (first + (passed + 1)) (count - (passed + 1)))
  where
    one_off : (m n : ℕ) → n < m → m - n ≡ suc (m - (n + 1))
    one_off m n h = omega (arith, h)

    one_on : (m n : ℕ) → suc (m + n) ≡ m + (n + 1)
    one_on m n = omega arith

pub cells_end : (first count passed : ℕ) (numbers : List ℤ) → count ≤ passed → cells_left first count passed numbers ≡ Some []
unfolding cells_from all_there
cells_end first count passed numbers h = ap (λ m. all_there (cells_from numbers (first + passed) m)) (none_over count passed h)
  where
    none_over : (m n : ℕ) → m ≤ n → m - n ≡ 0
    none_over m n h = omega (arith, h)

-- ---- one scalar

pub flat_one : (before after from : List Unrolled) (x : Unrolled) (o : List GroundNode → List ℤ → Option ℤ) → ((count : ℕ) → HaveTerms count from → AreTerms count x)
    → ((nodes : List GroundNode) (numbers : List ℤ) → worth nodes numbers x ≡ option_map single (o nodes numbers)) → after ≡ before ++ x ∷ []
    → AddsParts before after from (λ nodes numbers. all_there (o nodes numbers ∷ []))
flat_one before after from x o known is pushed = record {
  more = x ∷ [];
  whole = pushed;
  terms = λ count h. have_one count x (known count h);
  own = λ nodes numbers. o nodes numbers ∷ [];
  each = λ nodes numbers. ap (λ v. v ∷ []) (is nodes numbers);
  values = λ nodes numbers. refl;
}

pub flat_same : (before after from : List Unrolled) (scalars other : Scalars) → ((nodes : List GroundNode) (numbers : List ℤ) → scalars nodes numbers ≡ other nodes numbers)
    → AddsParts before after from scalars → AddsParts before after from other
flat_same before after from scalars other same h = record {
  more = h.more;
  whole = h.whole;
  terms = h.terms;
  own = h.own;
  each = h.each;
  values = λ nodes numbers. h.values nodes numbers ∙ same nodes numbers;
}

-- the same with terms that come from others
pub flat_from : (before after from other : List Unrolled) (scalars : Scalars) → ((count : ℕ) → HaveTerms count other → HaveTerms count from) → AddsParts before after from scalars
    → AddsParts before after other scalars
flat_from before after from other scalars known h = record {
  more = h.more;
  whole = h.whole;
  terms = λ count k. h.terms count (known count k);
  own = h.own;
  each = h.each;
  values = h.values;
}

pub flat_number : (before after : List Unrolled) (m n : ℤ) → m ≡ n → after ≡ before ++ Fixed (Some (held.Number m)) ∷ [] → AddsParts before after [] (λ nodes numbers. Some (n ∷ []))
unfolding worth AreTerms held_value all_there
flat_number before after m n same pushed =
    flat_one before after [] (Fixed (Some (held.Number m))) (λ nodes numbers. Some n) (λ count h. tt) (λ nodes numbers. ap (λ k. Some (single k)) same) pushed

pub flat_nothing : (before after : List Unrolled) → after ≡ before ++ Fixed None ∷ [] → AddsParts before after [] (λ nodes numbers. None)
unfolding worth AreTerms all_there
flat_nothing before after pushed = flat_one before after [] (Fixed None) (λ nodes numbers. None) (λ count h. tt) (λ nodes numbers. refl) pushed

pub flat_cell : (before after : List Unrolled) (x : Unrolled) (k first passed : ℕ) → k ≡ first + passed → after ≡ before ++ x ∷ [] → ((count : ℕ) → AreTerms count x)
    → ((nodes : List GroundNode) (numbers : List ℤ) → worth nodes numbers x ≡ cells_value numbers [] k) → AddsParts before after [] (λ nodes numbers. all_there (slice_get numbers (first + passed) ∷ []))
unfolding cells_value
flat_cell before after x k first passed same pushed known is =
    flat_one before after [] x (λ nodes numbers. slice_get numbers (first + passed)) (λ count h. known count)
    (λ nodes numbers. is nodes numbers ∙ ap (λ j. option_map single (slice_get numbers j)) same) pushed

alone_there : (o : Option ℤ) → all_there (o ∷ []) ≡ scalars_in (option_map single o)
unfolding all_there scalars_of
alone_there None = refl
alone_there (Some x) = refl

pub flat_term : (before after : List Unrolled) (t : ℕ) → after ≡ before ++ Number t ∷ [] → AddsParts before after (Number t ∷ []) (λ nodes numbers. scalars_in (worth nodes numbers (Number t)))
unfolding worth HaveTerms
flat_term before after t pushed =
    flat_same before after (Number t ∷ []) _ _ (λ nodes numbers. alone_there (term_value nodes numbers t))
    (flat_one before after (Number t ∷ []) (Number t) (λ nodes numbers. term_value nodes numbers t) (λ count h. h.0) (λ nodes numbers. refl) pushed)

-- ---- some are put, and others are left

pub record FlatSoFar (before now from : List Unrolled) (all left : Scalars) : Type 0 where
  pub more : List Unrolled
  pub whole : now ≡ before ++ more
  pub terms : (count : ℕ) → HaveTerms count from → HaveTerms count more
  pub own : List GroundNode → List ℤ → List (Option ℤ)
  pub each : (nodes : List GroundNode) (numbers : List ℤ) → worths nodes numbers more ≡ map (λ o. option_map single o) (own nodes numbers)
  pub values : (nodes : List GroundNode) (numbers : List ℤ) → joined (all_there (own nodes numbers)) (left nodes numbers) ≡ all nodes numbers

pub flat_begins : (before from : List Unrolled) (all left : Scalars) → ((nodes : List GroundNode) (numbers : List ℤ) → left nodes numbers ≡ all nodes numbers) → FlatSoFar before before from all left
unfolding all_there HaveTerms
flat_begins before from all left same = record {
  more = [];
  whole = sym (append-nil before);
  terms = λ count h. tt;
  own = λ nodes numbers. [];
  each = λ nodes numbers. refl;
  values = λ nodes numbers. joined_none (left nodes numbers) ∙ same nodes numbers;
}

pub flat_more : (before now after from : List Unrolled) (all left one rest : Scalars) → FlatSoFar before now from all left
    → ((nodes : List GroundNode) (numbers : List ℤ) → left nodes numbers ≡ joined (one nodes numbers) (rest nodes numbers)) → AddsParts now after from one → FlatSoFar before after from all rest
flat_more before now after from all left one rest so cut adds = record {
  more = so.more ++ adds.more;
  whole = adds.whole ∙ ap (λ xs. xs ++ adds.more) so.whole ∙ append_assoc before so.more adds.more;
  terms = λ count h. have_both count so.more adds.more (so.terms count h) (adds.terms count h);
  own = λ nodes numbers. so.own nodes numbers ++ adds.own nodes numbers;
  each = λ nodes numbers.
      map-append (worth nodes numbers) so.more adds.more
      ∙ ap (λ vs. vs ++ worths nodes numbers adds.more) (so.each nodes numbers)
      ∙ ap (λ vs. map (λ o. option_map single o) (so.own nodes numbers) ++ vs) (adds.each nodes numbers)
      ∙ sym (map-append (λ o. option_map single o) (so.own nodes numbers) (adds.own nodes numbers));
  values = λ nodes numbers.
      let front : Option (List ℤ) = all_there (so.own nodes numbers) in
      ap (λ o. joined o (rest nodes numbers)) (there_cut (so.own nodes numbers) (adds.own nodes numbers) ∙ ap (λ o. joined front o) (adds.values nodes numbers))
      ∙ joined_regrouped front (one nodes numbers) (rest nodes numbers)
      ∙ ap (λ o. joined front o) (sym (cut nodes numbers))
      ∙ so.values nodes numbers;
}

pub flat_ends : (before now from : List Unrolled) (all left : Scalars) → FlatSoFar before now from all left → ((nodes : List GroundNode) (numbers : List ℤ) → left nodes numbers ≡ Some [])
    → AddsParts before now from all
flat_ends before now from all left so none = record {
  more = so.more;
  whole = so.whole;
  terms = so.terms;
  own = so.own;
  each = so.each;
  values = λ nodes numbers.
      sym (ap (λ o. joined (all_there (so.own nodes numbers)) o) (none nodes numbers) ∙ joined_all (all_there (so.own nodes numbers))) ∙ so.values nodes numbers;
}

-- ---- the parts of a matrix

-- the scalars of some parts
abbrev pub scalars_each_of : List Unrolled → Scalars
scalars_each_of xs nodes numbers = scalars_each (worths nodes numbers xs)

-- the scalars of some parts so far, of which others are left
pub record PartsFlat (before now all left : List Unrolled) : Type 0 where
  pub known : (count : ℕ) → HaveTerms count all → HaveTerms count left
  pub so : FlatSoFar before now all (scalars_each_of all) (scalars_each_of left)

pub parts_flat_begin : (before all : List Unrolled) → PartsFlat before before all all
parts_flat_begin before all = record {
  known = λ count h. h;
  so = flat_begins before all (scalars_each_of all) (scalars_each_of all) (λ nodes numbers. refl);
}

pub parts_flat_more : (before now after all left rest : List Unrolled) (part : Unrolled) → PartsFlat before now all left → left ≡ part ∷ rest
    → AddsParts now after (part ∷ []) (λ nodes numbers. scalars_in (worth nodes numbers part)) → PartsFlat before after all rest
unfolding HaveTerms
parts_flat_more before now after all left rest part h cut one = record {
  known = λ count k. (subst (HaveTerms count) cut (h.known count k)).1;
  so = flat_more before now after all (scalars_each_of all) (scalars_each_of left) (λ nodes numbers. scalars_in (worth nodes numbers part)) (scalars_each_of rest) h.so
      (λ nodes numbers. ap (λ xs. scalars_each_of xs nodes numbers) cut ∙ each_cut (worth nodes numbers part) (worths nodes numbers rest))
      (flat_from now after (part ∷ []) all _ (λ count k. have_one count part (subst (HaveTerms count) cut (h.known count k)).0) one);
}

no_scalars : scalars_each [] ≡ Some []
unfolding scalars_each all_defined scalars_of_all as_parts
no_scalars = refl

pub parts_flat_all : (before now all left : List Unrolled) (x : Unrolled) (indices : Vec ℤ Global) (parts : Vec Unrolled Global) → PartsFlat before now all left → left ≡ [] → x ≡ Matrix indices parts
    → all ≡ parts.items → AddsParts before now (x ∷ []) (λ nodes numbers. scalars_in (worth nodes numbers x))
unfolding scalars_each HaveTerms
parts_flat_all before now all left x indices parts h none is items =
    flat_same before now (x ∷ []) (scalars_each_of all) _
    (λ nodes numbers.
    ap (λ xs. scalars_each_of xs nodes numbers) items ∙ whole_scalars indices.items (all_defined (worths nodes numbers parts.items))
    ∙ ap scalars_in (sym (ap (worth nodes numbers) is ∙ matrix_worth nodes numbers indices parts)))
    (flat_from before now all (x ∷ []) (scalars_each_of all)
    (λ count k. subst (HaveTerms count) (sym items) (matrix_terms count indices parts (subst (AreTerms count) is k.0)))
    (flat_ends before now all (scalars_each_of all) (scalars_each_of left) h.so (λ nodes numbers. ap (λ xs. scalars_each_of xs nodes numbers) none ∙ no_scalars)))

-- ---- all scalars

pub flat_known : (xs : List Unrolled) (x : Unrolled) (scalars : Scalars) (count : ℕ) → AddsParts [] xs (x ∷ []) scalars → AreTerms count x → HaveTerms count xs
flat_known xs x scalars count h known = subst (HaveTerms count) (sym h.whole) (h.terms count (have_one count x known))

-- the number of a scalar
abbrev pub number_at : List GroundNode → List ℤ → Unrolled → Option ℤ
number_at nodes numbers x = number_in (worth nodes numbers x)

numbers_again : (os : List (Option ℤ)) → map number_in (map (λ o. option_map single o) os) ≡ os
unfolding number_in
numbers_again [] = refl
numbers_again (None ∷ os) = ap (λ ps. None ∷ ps) (numbers_again os)
numbers_again (Some x ∷ os) = ap (λ ps. Some x ∷ ps) (numbers_again os)

map_twice : {A B C : Type 0} (f : B → C) (g : A → B) (xs : List A) → map (λ x. f (g x)) xs ≡ map f (map g xs)
map_twice f g [] = refl
map_twice f g (x ∷ xs) = ap (λ ys. f (g x) ∷ ys) (map_twice f g xs)

pub flat_numbers : (nodes : List GroundNode) (numbers : List ℤ) (xs : List Unrolled) (x : Unrolled) (scalars : Scalars) → (h : AddsParts [] xs (x ∷ []) scalars)
    → map (number_at nodes numbers) xs ≡ h.own nodes numbers
flat_numbers nodes numbers xs x scalars h =
    map_twice number_in (worth nodes numbers) xs ∙ ap (map number_in) (ap (worths nodes numbers) h.whole ∙ h.each nodes numbers) ∙ numbers_again (h.own nodes numbers)

defined_singles : (os : List (Option ℤ)) → all_defined (map (λ o. option_map single o) os) ≡ option_map (map single) (all_defined os)
unfolding all_defined
defined_singles [] = refl
defined_singles (None ∷ os) = refl
defined_singles (Some x ∷ os) = ap (option_map (λ ys. single x ∷ ys)) (defined_singles os) ∙ by (all_defined os)
  where
    by : (o : Option (List ℤ)) → option_map (λ ys. single x ∷ ys) (option_map (map single) o) ≡ option_map (map single) (option_map (λ ys. x ∷ ys) o)
    by None = refl
    by (Some xs) = refl

listed : (os : List (Option ℤ)) (count : ℕ) → count ≡ length os
    → option_map (λ vs. matrix (counting (pos 1) count) (as_parts vs)) (all_defined (map (λ o. option_map single o) os)) ≡ option_map list_value (all_there os)
unfolding list_value
listed os count same = ap (option_map (λ vs. matrix (counting (pos 1) count) (as_parts vs))) (defined_singles os) ∙ by (all_defined os) refl ∙ ap (option_map list_value) (sym (there_defined os))
  where
    by : (o : Option (List ℤ)) → all_defined os ≡ o → option_map (λ vs. matrix (counting (pos 1) count) (as_parts vs)) (option_map (map single) o) ≡ option_map list_value o
    by None e = refl
    by (Some xs) e = ap (λ n. Some (matrix (counting (pos 1) n) (as_parts (map single xs)))) (same ∙ sym (defined_long os xs e))

pub flatten_is : (n : Numbering) (cells : Env) (nodes new : List GroundNode) (p : Place) (e : ExprTree) (x y : Unrolled) (xs : List Unrolled) → Means n cells nodes new e x
    → AddsParts [] xs (x ∷ []) (λ ns numbers. scalars_in (worth ns numbers x))
    → ((numbers : List ℤ) → worth new numbers y ≡ option_map (λ vs. matrix (counting (pos 1) (length xs)) (as_parts vs)) (all_defined (worths new numbers xs)))
    → (HaveTerms (length new) xs → AreTerms (length new) y) → Means n cells nodes new (flatten p e) y
flatten_is n cells nodes new p e x y xs h flat is known = record {
  grows = h.grows;
  known = known (flat_known xs x _ (length new) flat h.known);
  value = λ r.
      let os : List (Option ℤ) = flat.own new r.numbers in
      let same : worths new r.numbers xs ≡ map (λ o. option_map single o) os = ap (worths new r.numbers) flat.whole ∙ flat.each new r.numbers in
      let long : length xs ≡ length os = sym (length-map xs (worth new r.numbers)) ∙ ap length same ∙ length-map os (λ o. option_map single o) in
      is r.numbers ∙ ap (λ vs. option_map (λ ws. matrix (counting (pos 1) (length xs)) (as_parts ws)) (all_defined vs)) same
      ∙ listed os (length xs) long
      ∙ ap (option_map list_value) (flat.values new r.numbers ∙ ap scalars_in (h.value r))
      ∙ sym (evaluate-flatten n.mode r.values p e);
}
