-- Numbers of cells are those of assignments that fit.
use Rattle.std.proofs.Common.{◌≡◌, ℕ, zero, suc, ◌+◌, ◌*◌, ◌<◌, Bool, true, false, ◌&&◌, ◌||◌, ℤ, List, [], ◌∷◌, ◌++◌, map, length, get_or, Option, Some, None, refl, sym, ap, subst, ◌∙◌, arith, if◌then◌else◌, bytes_eq, IsTrue}
use Rattle.std.specs.Prelude.{option_and_then, flat_map, IsPermutation}
use Rattle.std.specs.List.{All, AllByRecursion, AllZip, Contains, IsDistinct, list_all}
use Rattle.std.specs.Ordering.{int_eq}
use Rattle.std.proofs.lemmas.Bool.Decides.{Decides-int_eq}
use Rattle.std.proofs.lemmas.List.{length-append}
use Rattle.std.proofs.lemmas.List.Sorted.{IsPermutation-refl}
use Rattle.std.proofs.lemmas.Slice.Eq.{bytes_eq-Decides}
use Rattle.ep_base.specs.Numbers.{has_number}
use Rattle.ep_base.specs.declared.names.Name.{Name}
use Rattle.ep_ground.specs.Grounds.{AreCellValues}
use Rattle.ep_ground.specs.declared.cells.Cell.{Cell}
use Rattle.ep_tree.specs.Binding.{Find, Instance}
use Rattle.ep_tree.specs.Closed.{IsClosed}
use Rattle.ep_tree.specs.Environments.{has_value, shape_type}
use Rattle.ep_tree.specs.Solutions.{Assigned, Fits, Found, NamedValue, cell_count, find_type, fitted_find, found_of, found_values, named_in}
use Rattle.ep_tree.specs.Types.{of_scalar, scalar_of}
use Rattle.ep_tree.specs.Values.{ValueTree, fitted, scalars_of}
use Rattle.ep_tree.specs.declared.values.Scalar.{Scalar}
use Rattle.ep_tree.specs.declared.values.ValueType.{ValueType}
use Rattle.ep_tree.specs.TypedValues.{IsOf, is_number_of}
use Rattle.ep_print.specs.Answers.{AreTyped}
use Rattle.std.proofs.lemmas.List.Elements.{All-cons, All-head, All-nil, All-tail}
use Rattle.std.proofs.lemmas.Bool.{or_left, or_right}
use Rattle.ep_base.specs.Options.{on_both}
use Rattle.ep_unroll.specs.Cells.{bound_numbers, find_cells, found_numbers, index_lists, instance_cells, is_truth}
use Rattle.ep_solve.specs.Reading.{GivesNumbers, ReadsAs, assignment_from, value_from}
use Rattle.ep_solve.proofs.Scalars.{Passing, all-weaker, fitted-passes, value-fits, value-made, value-read, value-typed}

-- ---- how many cells there are

length-map : {A B : Type 0} (f : A → B) (xs : List A) → length (map f xs) ≡ length xs
length-map f [] = refl
length-map f (x ∷ xs) = ap suc (length-map f xs)

index-count : (indices : List ℤ) (inner : List (List ℤ)) → length (flat_map (λ i. map (λ rest. i ∷ rest) inner) indices) ≡ length indices * length inner
index-count [] inner = omega arith
index-count (i ∷ indices) inner =
    length-append (map (λ rest. i ∷ rest) inner) (flat_map (λ i. map (λ rest. i ∷ rest) inner) indices)
    ∙ omega (arith, length-map (λ rest. i ∷ rest) inner, index-count indices inner)

lists-count : (indices : List (List ℤ)) → length (index_lists indices) ≡ cell_count indices
unfolding index_lists cell_count
lists-count [] = refl
lists-count (indices ∷ inner) = index-count indices (index_lists inner) ∙ ap (λ n. length indices * n) (lists-count inner)

cells-count : (f : Find) → length (find_cells f) ≡ cell_count f.indices
unfolding find_cells
cells-count f = length-map _ (index_lists f.indices) ∙ lists-count f.indices

-- ---- numbers among the values of cells

pub contains-number : (values : List ℤ) (x : ℤ) → has_number values x ≡ true → Contains values x
unfolding has_number
contains-number [] x h = absurd cc
contains-number (v ∷ vs) x h = by-first (int_eq x v) (has_number vs x) (Decides-int_eq x v).0 (contains-number vs x) h
  where
    by-first : (here there : Bool) → (here ≡ true → x ≡ v) → (there ≡ true → Contains vs x) → (here || there) ≡ true → Contains (v ∷ vs) x
    by-first true there same more h = (0, omega arith, sym (same refl))
    by-first false there same more h = let q = more h in (suc q.0, omega (arith, q.1), q.2)

at-place : (values : List ℤ) (x : ℤ) (p : ℕ) → p < length values → get_or values p x ≡ x → has_number values x ≡ true
unfolding has_number
at-place [] x p lt e = absurd (omega (arith, lt))
at-place (v ∷ vs) x zero lt e = or_left (int_eq x v) (has_number vs x) ((Decides-int_eq x v).1 (sym e))
at-place (v ∷ vs) x (suc p) lt e = or_right (int_eq x v) (has_number vs x) (at-place vs x p (omega (arith, lt)) e)

pub number-contained : (values : List ℤ) (x : ℤ) → Contains values x → has_number values x ≡ true
number-contained values x h = at-place values x h.0 h.1 h.2

-- a cell of a decision variable
abbrev cell_of : Find → List ℤ → Cell
cell_of f indices = record { name = f.name; indices = indices; truth = is_truth f.scalar; values = f.values }

-- a number is one of a cell's values
abbrev IsValueOf : Cell → ℤ → Type 0
IsValueOf one value = Contains one.values value

zip-append : (cells more : List Cell) (own others : List ℤ) → AllZip IsValueOf cells own → AllZip IsValueOf more others → AllZip IsValueOf (cells ++ more) (own ++ others)
zip-append [] more [] others h g = g
zip-append [] more (n ∷ own) others h g = absurd h
zip-append (c ∷ cells) more [] others h g = absurd h
zip-append (c ∷ cells) more (n ∷ own) others h g = (h.0, zip-append cells more own others h.1 g)

-- the numbers of some cells and of more, cut between them
record Cut (cells more : List Cell) (numbers : List ℤ) : Type 0 where
  own : List ℤ
  others : List ℤ
  cut : numbers ≡ own ++ others
  first : AllZip IsValueOf cells own
  second : AllZip IsValueOf more others

zip-cut : (cells more : List Cell) (numbers : List ℤ) → AllZip IsValueOf (cells ++ more) numbers → Cut cells more numbers
zip-cut [] more numbers h = record { own = []; others = numbers; cut = refl; first = tt; second = h }
zip-cut (c ∷ cells) more [] h = absurd h
zip-cut (c ∷ cells) more (n ∷ numbers) h =
    let q = zip-cut cells more numbers h.1 in
    record { own = n ∷ q.own; others = q.others; cut = ap (λ ns. n ∷ ns) q.cut; first = (h.0, q.first); second = q.second }

both-true : (a b : Bool) → (a && b) ≡ true → (a ≡ true) × (b ≡ true)
both-true true true h = (refl, refl)
both-true true false h = absurd cc
both-true false b h = absurd cc

zip-passing : (f : Find) (lists : List (List ℤ)) (own : List ℤ) → length own ≡ length lists → list_all (has_number f.values) own ≡ true → AllZip IsValueOf (map (cell_of f) lists) own
zip-passing f [] [] many pass = tt
zip-passing f [] (n ∷ own) many pass = absurd (omega (arith, many))
zip-passing f (l ∷ lists) [] many pass = absurd (omega (arith, many))
zip-passing f (l ∷ lists) (n ∷ own) many pass =
    let q = both-true (has_number f.values n) (list_all (has_number f.values) own) pass in
    (contains-number f.values n q.0, zip-passing f lists own (omega (arith, many)) q.1)

passing-zip : (f : Find) (lists : List (List ℤ)) (own : List ℤ) → AllZip IsValueOf (map (cell_of f) lists) own → Passing (has_number f.values) (length lists) own
passing-zip f [] [] h = record { many = refl; pass = refl }
passing-zip f [] (n ∷ own) h = absurd h
passing-zip f (l ∷ lists) [] h = absurd h
passing-zip f (l ∷ lists) (n ∷ own) h =
    let q = passing-zip f lists own h.1 in
    record { many = ap suc q.many; pass = ap (λ b. b && list_all (has_number f.values) own) (number-contained f.values n h.0) ∙ q.pass }

-- ---- an assignment that fits gives the cells values of theirs

-- the numbers of decision variables that are found are values of their cells
abbrev AreOfCells : List Find → List ℤ → Type 0
AreOfCells fs numbers = AllZip IsValueOf (flat_map find_cells fs) numbers

given-value : (f : Find) (g : Option NamedValue) (v : ValueTree) → option_and_then (fitted_find f) g ≡ Some v
    → (w : ValueTree) × (own : Scalar) × (fitted own f.scalar (has_number f.values) f.indices w ≡ Some v)
unfolding fitted_find
given-value f None v e = absurd cc
given-value f (Some g) v e = (g.value, scalar_of g.ty, e)

both-found : (name : Name) (ty : ValueType) (value : Option ValueTree) (others : Option Found) (found : Found)
    → on_both value others (λ v rest. Some ((name, has_value ty v) ∷ rest)) ≡ Some found
    → (v : ValueTree) × (rest : Found) × (value ≡ Some v) × (others ≡ Some rest) × ((name, has_value ty v) ∷ rest ≡ found)
unfolding on_both
both-found name ty None others found e = absurd cc
both-found name ty (Some v) None found e = absurd cc
both-found name ty (Some v) (Some rest) found e = (v, rest, refl, refl, cc)

own-cells : (f : Find) (own : List ℤ) → Passing (has_number f.values) (cell_count f.indices) own → AllZip IsValueOf (find_cells f) own
unfolding find_cells
own-cells f own p = zip-passing f (index_lists f.indices) own (p.many ∙ sym (lists-count f.indices)) p.pass

own-numbers : (f : Find) (own : List ℤ) → AllZip IsValueOf (find_cells f) own → Passing (has_number f.values) (cell_count f.indices) own
unfolding find_cells
own-numbers f own h =
    let p = passing-zip f (index_lists f.indices) own h in
    record { many = p.many ∙ lists-count f.indices; pass = p.pass }

found-first : (name : Name) (ty : ValueType) (v : ValueTree) (rest : Found) → found_numbers ((name, has_value ty v) ∷ rest) ≡ scalars_of v ++ found_numbers rest
unfolding found_numbers bound_numbers
found-first name ty v rest = refl

found-none : found_numbers [] ≡ []
unfolding found_numbers
found-none = refl

finds-give : (fs : List Find) (a : Assigned) (found : Found) → found_values fs a ≡ Some found → AreOfCells fs (found_numbers found)
unfolding found_values
finds-give [] a [] e = subst (AllZip IsValueOf []) (sym found-none) tt
finds-give [] a (x ∷ found) e = absurd cc
finds-give (f ∷ fs) a found e =
    let cut = both-found f.name (find_type f) (option_and_then (fitted_find f) (named_in a f.name)) (found_values fs a) found e in
    let v : ValueTree = cut.0 in
    let value = given-value f (named_in a f.name) v cut.2 in
    let P : Found → Type 0 = λ x. AreOfCells (f ∷ fs) (found_numbers x) in
    let Q : List ℤ → Type 0 = AreOfCells (f ∷ fs) in
    subst P cut.4 (subst Q (sym (found-first f.name (find_type f) v cut.1))
    (zip-append (find_cells f) (flat_map find_cells fs) (scalars_of v) (found_numbers cut.1)
    (own-cells f (scalars_of v) (fitted-passes value.1 f.scalar (has_number f.values) f.indices value.0 v value.2))
    (finds-give fs a cut.1 cut.3)))

pub fits-gives : (i : Instance) (a : Assigned) (found : Found) → Fits i a found → GivesNumbers i found
unfolding instance_cells
fits-gives i a found h = finds-give i.finds a found h.values

-- ---- numbers of the cells are those of an assignment

cut-same : (xs ys us vs : List ℤ) → xs ++ ys ≡ us ++ vs → length xs ≡ length us → (xs ≡ us) × (ys ≡ vs)
cut-same [] ys [] vs e h = (refl, e)
cut-same [] ys (u ∷ us) vs e h = absurd (omega (arith, h))
cut-same (x ∷ xs) ys [] vs e h = absurd (omega (arith, h))
cut-same (x ∷ xs) ys (u ∷ us) vs e h =
    let head : x ≡ u = cc in
    let tail : xs ++ ys ≡ us ++ vs = cc in
    let q = cut-same xs ys us vs tail (omega (arith, h)) in
    (ap (λ y. y ∷ xs) head ∙ ap (λ zs. u ∷ zs) q.0, q.1)

-- The first value that is read from numbers of cells: its scalars and what is left are those of the cut.
record First (f : Find) (fs : List Find) (numbers : List ℤ) : Type 0 where
  cut : numbers ≡ scalars_of (value_from f.indices numbers).0 ++ (value_from f.indices numbers).1
  pass : list_all (has_number f.values) (scalars_of (value_from f.indices numbers).0) ≡ true
  left : AreOfCells fs (value_from f.indices numbers).1

first-read : (f : Find) (fs : List Find) (numbers : List ℤ) → AreOfCells (f ∷ fs) numbers → First f fs numbers
first-read f fs numbers h =
    let q = zip-cut (find_cells f) (flat_map find_cells fs) numbers h in
    let p = own-numbers f q.own q.first in
    let all : length numbers ≡ length q.own + length q.others = ap length q.cut ∙ length-append q.own q.others in
    let m = value-made f.indices numbers (omega (arith, p.many, all)) in
    let same = cut-same q.own q.others (scalars_of (value_from f.indices numbers).0) (value_from f.indices numbers).1 (sym q.cut ∙ m.cut) (p.many ∙ sym m.many) in
    let P : List ℤ → Type 0 = λ ns. list_all (has_number f.values) ns ≡ true in
    record { cut = m.cut; pass = subst P same.0 p.pass; left = subst (AreOfCells fs) same.1 q.second }

skip-first : (fs : List Find) (g : NamedValue) (a : Assigned) → AllByRecursion (λ name. bytes_eq g.name name ≡ false) (map (λ f. f.name) fs) → found_values fs (g ∷ a) ≡ found_values fs a
unfolding found_values named_in
skip-first [] g a h = refl
skip-first (f ∷ fs) g a h =
    ap (λ b. on_both (option_and_then (fitted_find f) (if b then Some g else named_in a f.name)) (found_values fs (g ∷ a)) (λ v rest. Some ((f.name, has_value (find_type f) v) ∷ rest))) h.0
    ∙ ap (λ others. on_both (option_and_then (fitted_find f) (named_in a f.name)) others (λ v rest. Some ((f.name, has_value (find_type f) v) ∷ rest))) (skip-first fs g a h.1)

scalar-of-shape : (s : Scalar) (indices : List (List ℤ)) → scalar_of (shape_type s indices) ≡ s
unfolding scalar_of shape_type of_scalar
scalar-of-shape Scalar.Bool [] = refl
scalar-of-shape Scalar.Int [] = refl
scalar-of-shape s (is ∷ inner) = refl

find-fits : (f : Find) (v : ValueTree) → fitted f.scalar f.scalar (has_number f.values) f.indices v ≡ Some v → fitted_find f (record { name = f.name; ty = find_type f; value = v }) ≡ Some v
unfolding fitted_find
find-fits f v h = ap (λ s. fitted s f.scalar (has_number f.values) f.indices v) (scalar-of-shape f.scalar f.indices) ∙ h

found-more : (f : Find) (fs : List Find) (a : Assigned) (v : ValueTree) (found : Found)
    → AllByRecursion (λ name. bytes_eq f.name name ≡ false) (map (λ g. g.name) fs)
    → fitted_find f (record { name = f.name; ty = find_type f; value = v }) ≡ Some v
    → found_values fs a ≡ Some found
    → found_values (f ∷ fs) (record { name = f.name; ty = find_type f; value = v } ∷ a) ≡ Some ((f.name, has_value (find_type f) v) ∷ found)
unfolding found_values named_in on_both
found-more f fs a v found apart fits rest =
    let g : NamedValue = record { name = f.name; ty = find_type f; value = v } in
    let F : ValueTree → Found → Option Found = λ v rest. Some ((f.name, has_value (find_type f) v) ∷ rest) in
    ap (λ b. on_both (option_and_then (fitted_find f) (if b then Some g else named_in a f.name)) (found_values fs (g ∷ a)) F) ((bytes_eq-Decides f.name f.name).1 refl)
    ∙ ap (λ o. on_both o (found_values fs (g ∷ a)) F) fits
    ∙ ap (λ o. on_both (Some v) o F) (skip-first fs g a apart ∙ rest)

-- the assignment that is read from numbers of cells has them, and fits
record Read (fs : List Find) (numbers : List ℤ) : Type 0 where
  found : found_values fs (assignment_from fs numbers) ≡ Some (found_of (assignment_from fs numbers))
  numbers_are : found_numbers (found_of (assignment_from fs numbers)) ≡ numbers
  names : map (λ g. g.name) (assignment_from fs numbers) ≡ map (λ f. f.name) fs
  typed : AreTyped (assignment_from fs numbers)

nothing-found : (a : Assigned) → found_values [] a ≡ Some []
unfolding found_values
nothing-found a = refl

-- the values of a decision variable are of its scalar
abbrev HasScalarValues : Find → Type 0
HasScalarValues f = IsTrue (list_all (is_number_of f.scalar) f.values)

-- a number among numbers of a scalar is of it
number-of-scalar : (s : Scalar) (values : List ℤ) → list_all (is_number_of s) values ≡ true → (x : ℤ) → has_number values x ≡ true → is_number_of s x ≡ true
unfolding has_number
number-of-scalar s [] h x there = absurd cc
number-of-scalar s (v ∷ vs) h x there =
    let q = both-true (is_number_of s v) (list_all (is_number_of s) vs) h in
    by-first (int_eq x v) (has_number vs x) (λ e. ap (is_number_of s) ((Decides-int_eq x v).0 e) ∙ q.0) (number-of-scalar s vs q.1 x) there
  where
    by-first : (here more : Bool) → (here ≡ true → is_number_of s x ≡ true) → (more ≡ true → is_number_of s x ≡ true) → (here || more) ≡ true → is_number_of s x ≡ true
    by-first true more one other e = one refl
    by-first false more one other e = other e

finds-read : (fs : List Find) (numbers : List ℤ) → IsDistinct bytes_eq (map (λ f. f.name) fs) → All HasScalarValues fs → AreOfCells fs numbers → Read fs numbers
unfolding IsDistinct assignment_from
finds-read [] [] apart of h = record { found = nothing-found []; numbers_are = found-none; names = refl; typed = All-nil (λ g. IsOf g.ty g.value) }
finds-read [] (n ∷ numbers) apart of h = absurd h
finds-read (f ∷ fs) numbers apart of h =
    let q = first-read f fs numbers h in
    let v : ValueTree = (value_from f.indices numbers).0 in
    let left : List ℤ = (value_from f.indices numbers).1 in
    let rest = finds-read fs left apart.1 (All-tail HasScalarValues f fs of) q.left in
    record {
      found = found-more f fs (assignment_from fs left) v (found_of (assignment_from fs left)) apart.0 (find-fits f v (value-fits f.scalar (has_number f.values) f.indices numbers q.pass)) rest.found;
      numbers_are = found-first f.name (find_type f) v (found_of (assignment_from fs left)) ∙ ap (λ ns. scalars_of v ++ ns) rest.numbers_are ∙ sym q.cut;
      names = ap (λ ns. f.name ∷ ns) rest.names;
      typed = All-cons (λ g. IsOf g.ty g.value) (record { name = f.name; ty = find_type f; value = v }) (assignment_from fs left)
          (value-typed f.scalar f.indices numbers
          (all-weaker (has_number f.values) (is_number_of f.scalar) (scalars_of v) (number-of-scalar f.scalar f.values (All-head HasScalarValues f fs of)) q.pass)) rest.typed;
    }

pub numbers-read : (i : Instance) (numbers : List ℤ) → IsClosed i → AreCellValues (instance_cells i) numbers → ReadsAs i numbers
unfolding instance_cells
numbers-read i numbers closed h =
    let q = finds-read i.finds numbers closed.distinct closed.values h in
    let P : List Name → Type 0 = λ names. IsPermutation (map (λ g. g.name) (assignment_from i.finds numbers)) names in
    record {
      fits = record { same_names = subst P q.names (IsPermutation-refl (map (λ g. g.name) (assignment_from i.finds numbers))); values = q.found };
      numbers_are = q.numbers_are;
      typed = q.typed;
    }

-- ---- what fits is what is read from the numbers of its cells

read-first : (f : Find) (fs : List Find) (v : ValueTree) (numbers : List ℤ) → value_from f.indices numbers ≡ (v, (value_from f.indices numbers).1)
    → found_of (assignment_from (f ∷ fs) numbers) ≡ (f.name, has_value (find_type f) v) ∷ found_of (assignment_from fs (value_from f.indices numbers).1)
unfolding assignment_from
read-first f fs v numbers e =
    ap (λ (w : ValueTree). (f.name, has_value (find_type f) w) ∷ found_of (assignment_from fs (value_from f.indices numbers).1)) (ap (λ (p : ValueTree × List ℤ). p.0) e)

read-none : (numbers : List ℤ) → found_of (assignment_from [] numbers) ≡ []
unfolding assignment_from
read-none numbers = refl

finds-found : (fs : List Find) (a : Assigned) (found : Found) → found_values fs a ≡ Some found → found_of (assignment_from fs (found_numbers found)) ≡ found
unfolding found_values
finds-found [] a [] e = read-none (found_numbers [])
finds-found [] a (x ∷ found) e = absurd cc
finds-found (f ∷ fs) a found e =
    let cut = both-found f.name (find_type f) (option_and_then (fitted_find f) (named_in a f.name)) (found_values fs a) found e in
    let v : ValueTree = cut.0 in
    let rest : Found = cut.1 in
    let value = given-value f (named_in a f.name) v cut.2 in
    let numbers : List ℤ = scalars_of v ++ found_numbers rest in
    let read : value_from f.indices numbers ≡ (v, found_numbers rest) = value-read value.1 f.scalar (has_number f.values) f.indices value.0 v (found_numbers rest) value.2 in
    let left : (value_from f.indices numbers).1 ≡ found_numbers rest = ap (λ (p : ValueTree × List ℤ). p.1) read in
    let whole : value_from f.indices numbers ≡ (v, (value_from f.indices numbers).1) = read ∙ ap (λ (ns : List ℤ). (v, ns)) (sym left) in
    let P : Found → Type 0 = λ x. found_of (assignment_from (f ∷ fs) (found_numbers x)) ≡ x in
    subst P cut.4
    (ap (λ ns. found_of (assignment_from (f ∷ fs) ns)) (found-first f.name (find_type f) v rest)
    ∙ read-first f fs v numbers whole
    ∙ ap (λ ns. (f.name, has_value (find_type f) v) ∷ found_of (assignment_from fs ns)) left
    ∙ ap (λ (others : Found). (f.name, has_value (find_type f) v) ∷ others) (finds-found fs a rest cut.3))

pub found-read : (i : Instance) (a : Assigned) (found : Found) → Fits i a found → found_of (assignment_from i.finds (found_numbers found)) ≡ found
found-read i a found h = finds-found i.finds a found h.values

-- what gives the cells the same numbers is the same
pub numbers-same : (i : Instance) (a b : Assigned) (found other : Found) → Fits i a found → Fits i b other → found_numbers found ≡ found_numbers other → found ≡ other
numbers-same i a b found other one two same =
    sym (found-read i a found one) ∙ ap (λ ns. found_of (assignment_from i.finds ns)) same ∙ found-read i b other two
