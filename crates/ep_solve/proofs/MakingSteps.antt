-- Values and assignments read from numbers of cells, part by part.
use Rattle.std.proofs.Common.{◌≡◌, ℕ, zero, suc, ◌+◌, ℤ, pos, List, [], ◌∷◌, ◌++◌, map, length, drop, get_or, ◌<◌, ◌≤◌, refl, sym, ap, ◌∙◌, arith}
use Rattle.std.proofs.lemmas.List.{append-nil, drop_all, drop_more}
use Rattle.ep_instance_parts.specs.Instances.{find_of}
use Rattle.ep_instance_parts.specs.declared.instances.Find.{Find}
use Rattle.ep_tree.specs.Environments.{shape_type}
use Rattle.ep_tree.specs.Solutions.{Assigned, NamedValue}
use Rattle.ep_tree.specs.Types.{scalar_of}
use Rattle.ep_tree.specs.Values.{ValueTree, as_parts, matrix, single, value_and}
use Rattle.ep_tree.specs.Views.{named_value, value_tree, values_from}
use Rattle.ep_tree.specs.declared.values.Entry.{Entry}
use Rattle.ep_tree.specs.declared.values.Value.{Value}
use Rattle.ep_solve.specs.Reading.{assignment_from, parts_from, value_from}
use Rattle.ep_base.specs.Reads.{first_or_zero}

-- a pair by its parts
pub paired : {A B : Type 0} (p : A × B) (a : A) (b : B) → a ≡ p.0 → b ≡ p.1 → p ≡ (a, b)
paired p a b e f = sym (ap (λ x. (x, b)) e ∙ ap (λ x. (p.0, x)) f)

-- one value more
pub parts-more : (make : List ℤ → ValueTree × List ℤ) (k : ℕ) (n rest left : List ℤ) (done : List ValueTree) (v : ValueTree)
    → parts_from make k n ≡ (done, rest) → make rest ≡ (v, left) → parts_from make (suc k) n ≡ (done ++ v ∷ [], left)
unfolding parts_from
parts-more make zero n rest left done v e f =
    let none : [] ≡ done = ap (λ (q : List ValueTree × List ℤ). q.0) e in
    let same : n ≡ rest = ap (λ (q : List ValueTree × List ℤ). q.1) e in
    ap (λ (m : List ℤ). ((make m).0 ∷ [], (make m).1)) same
    ∙ ap (λ (q : ValueTree × List ℤ). (q.0 ∷ [], q.1)) f
    ∙ ap (λ (ds : List ValueTree). (ds ++ v ∷ [], left)) none
parts-more make (suc k) n rest left done v e f =
    let p : List ValueTree × List ℤ = parts_from make k (make n).1 in
    let all : (make n).0 ∷ p.0 ≡ done = ap (λ (q : List ValueTree × List ℤ). q.0) e in
    let same : p.1 ≡ rest = ap (λ (q : List ValueTree × List ℤ). q.1) e in
    let others = parts-more make k (make n).1 rest left p.0 v (ap (λ (m : List ℤ). (p.0, m)) same) f in
    ap (λ (q : List ValueTree × List ℤ). ((make n).0 ∷ q.0, q.1)) others
    ∙ ap (λ (ds : List ValueTree). (ds ++ v ∷ [], left)) all

pub no-parts : (make : List ℤ → ValueTree × List ℤ) (n : List ℤ) → parts_from make 0 n ≡ ([], n)
unfolding parts_from
no-parts make n = refl

map-push : (done : List Value) (v : Value) → map value_tree (done ++ v ∷ []) ≡ map value_tree done ++ value_tree v ∷ []
map-push [] v = refl
map-push (d ∷ done) v = ap (λ vs. value_tree d ∷ vs) (map-push done v)

-- the same of the code's values
pub made-more : (indices : List (List ℤ)) (k : ℕ) (n rest left : List ℤ) (done : List Value) (v : Value)
    → parts_from (value_from indices) k n ≡ (map value_tree done, rest)
    → value_tree v ≡ (value_from indices rest).0
    → left ≡ (value_from indices rest).1
    → parts_from (value_from indices) (k + 1) n ≡ (map value_tree (done ++ v ∷ []), left)
made-more indices k n rest left done v e value over =
    let next : k + 1 ≡ suc k = omega arith in
    ap (λ c. parts_from (value_from indices) c n) next
    ∙ parts-more (value_from indices) k n rest left (map value_tree done) (value_tree v) e (paired (value_from indices rest) (value_tree v) left value over)
    ∙ ap (λ (vs : List ValueTree). (vs, left)) (sym (map-push done v))

-- ---- the value of one cell

pub flat-value : (indices : List (List ℤ)) (n : List ℤ) (x : ℤ) → length indices ≡ 0 → x ≡ first_or_zero n → single x ≡ (value_from indices n).0
unfolding value_from
flat-value [] n x none e = ap single e
flat-value (is ∷ inner) n x none e = absurd (omega (arith, none))

pub flat-left : (indices : List (List ℤ)) (n left : List ℤ) → length indices ≡ 0 → left ≡ drop 1 n → left ≡ (value_from indices n).1
unfolding value_from
flat-left [] n left none e = e
flat-left (is ∷ inner) n left none e = absurd (omega (arith, none))

-- ---- a matrix

parts_of : (done : List Value) → as_parts (map value_tree done) ≡ values_from done
unfolding as_parts values_from
parts_of [] = refl
parts_of (v ∷ vs) = ap (λ rest. value_and (value_tree v) rest) (parts_of vs)

pub matrix-value : (indices inner : List (List ℤ)) (first : List ℤ) (k : ℕ) (n rest : List ℤ) (done : List Value) → indices ≡ first ∷ inner → k ≡ length first
    → parts_from (value_from inner) k n ≡ (map value_tree done, rest)
    → matrix first (values_from done) ≡ (value_from indices n).0
unfolding value_from
matrix-value indices inner first k n rest done cut counted e =
    let make : List ℤ → ValueTree × List ℤ = value_from inner in
    ap (matrix first) (sym (parts_of done))
    ∙ sym (ap (λ (q : List ValueTree × List ℤ). matrix first (as_parts q.0)) e)
    ∙ ap (λ c. matrix first (as_parts (parts_from make c n).0)) counted
    ∙ sym (ap (λ is. (value_from is n).0) cut)

pub matrix-left : (indices inner : List (List ℤ)) (first : List ℤ) (k : ℕ) (n rest : List ℤ) (done : List Value) → indices ≡ first ∷ inner → k ≡ length first
    → parts_from (value_from inner) k n ≡ (map value_tree done, rest)
    → rest ≡ (value_from indices n).1
unfolding value_from
matrix-left indices inner first k n rest done cut counted e =
    let make : List ℤ → ValueTree × List ℤ = value_from inner in
    sym (ap (λ (q : List ValueTree × List ℤ). q.1) e)
    ∙ ap (λ c. (parts_from make c n).1) counted
    ∙ sym (ap (λ is. (value_from is n).1) cut)

-- ---- an assignment

one-entry : (f : Find) (fs : List Find) (rest left : List ℤ) (e : Entry) → e.name ≡ f.name → e.ty ≡ shape_type (scalar_of f.ty) f.indices.items
    → value_from f.indices.items rest ≡ (value_tree e.value, left)
    → assignment_from (map find_of (f ∷ fs)) rest ≡ named_value e ∷ assignment_from (map find_of fs) left
unfolding assignment_from
one-entry f fs rest left e name ty value =
    let others : List ℤ → Assigned = assignment_from (map find_of fs) in
    let whole : NamedValue → List ℤ → Assigned = λ g r. g ∷ others r in
    ap (λ (q : ValueTree × List ℤ). whole (record { name = f.name; ty = shape_type (scalar_of f.ty) f.indices.items; value = q.0 }) q.1) value
    ∙ ap (λ n. whole (record { name = n; ty = shape_type (scalar_of f.ty) f.indices.items; value = value_tree e.value }) left) (sym name)
    ∙ ap (λ t. whole (record { name = e.name; ty = t; value = value_tree e.value }) left) (sym ty)

push-entry : (done : List Entry) (e : Entry) (others : Assigned) → map named_value done ++ (named_value e ∷ others) ≡ map named_value (done ++ e ∷ []) ++ others
push-entry [] e others = refl
push-entry (d ∷ done) e others = ap (λ a. named_value d ∷ a) (push-entry done e others)

-- one decision variable more
pub entry-more : (finds : List Find) (k : ℕ) (number rest left : List ℤ) (f : Find) (done : List Entry) (e : Entry) → drop k finds ≡ f ∷ drop (k + 1) finds
    → e.name ≡ f.name → e.ty ≡ shape_type (scalar_of f.ty) f.indices.items
    → value_tree e.value ≡ (value_from f.indices.items rest).0
    → left ≡ (value_from f.indices.items rest).1
    → assignment_from (map find_of finds) number ≡ map named_value done ++ assignment_from (map find_of (drop k finds)) rest
    → assignment_from (map find_of finds) number ≡ map named_value (done ++ e ∷ []) ++ assignment_from (map find_of (drop (k + 1) finds)) left
entry-more finds k number rest left f done e cut name ty value over so-far =
    let others : Assigned = assignment_from (map find_of (drop (k + 1) finds)) left in
    so-far
    ∙ ap (λ fs. map named_value done ++ assignment_from (map find_of fs) rest) cut
    ∙ ap (λ a. map named_value done ++ a) (one-entry f (drop (k + 1) finds) rest left e name ty (paired (value_from f.indices.items rest) (value_tree e.value) left value over))
    ∙ push-entry done e others

pub all-entries : (finds : List Find) (k : ℕ) (number rest : List ℤ) (done : List Entry) → drop k finds ≡ []
    → assignment_from (map find_of finds) number ≡ map named_value done ++ assignment_from (map find_of (drop k finds)) rest
    → map named_value done ≡ assignment_from (map find_of finds) number
unfolding assignment_from
all-entries finds k number rest done none so-far =
    sym (so-far ∙ ap (λ fs. map named_value done ++ assignment_from (map find_of fs) rest) none ∙ append-nil (map named_value done))

-- ---- the number at a place

nothing-first : (numbers : List ℤ) → numbers ≡ [] → pos 0 ≡ first_or_zero numbers
unfolding first_or_zero
nothing-first [] e = refl
nothing-first (n ∷ numbers) e = absurd cc

-- behind the last number there is none
pub no-number : (numbers : List ℤ) (place : ℕ) → length numbers ≤ place → pos 0 ≡ first_or_zero (drop place numbers)
no-number numbers place past = nothing-first (drop place numbers) (drop_all place numbers past)

-- the number at a place is the first of those from there on
pub number-there : (numbers : List ℤ) (place : ℕ) (d : ℤ) → place < length numbers → get_or numbers place d ≡ first_or_zero (drop place numbers)
unfolding first_or_zero
number-there numbers place d lt = sym (ap first_or_zero (drop_more numbers place d lt))
