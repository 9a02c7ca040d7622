-- Lists that loops make, and the values that rows and squares are.
use Rattle.std.proofs.Common.{◌≡◌, ℕ, zero, suc, ◌+◌, ◌*◌, ◌-◌, ◌<◌, List, [], ◌∷◌, ◌++◌, length, ℤ, pos, refl, sym, ap, ◌∙◌, add-one, arith}
use Rattle.std.proofs.lemmas.Int.{ints}
use Rattle.std.proofs.lemmas.List.{length-map, map-append}
use Rattle.std.proofs.lemmas.List.FromFn.{length-map-range_with_len, map-range_with_len_more}
use Rattle.std.specs.List.{list_all, range_with_len}
use Rattle.std.specs.Prelude.{map, true, ◌+ℤ◌}
use Rattle.std.specs.declared.vec.Vec.{Vec}
use Rattle.std.specs.declared.alloc.Global.{Global}
use Rattle.ep_base.specs.Runs.{counting}
use Rattle.ep_tree.proofs.TypedParts.{list_value_is, listed-as_parts}
use Rattle.ep_tree.proofs.ViewLemmas.{value_tree-matrix, value_tree-number}
use Rattle.ep_tree.specs.TypedValues.{AreOfDims, IsOfDims, is_number_of}
use Rattle.ep_tree.specs.Values.{ValueTree, as_parts, list_value, matrix, single, value_and}
use Rattle.ep_tree.specs.Views.{value_tree, values_from}
use Rattle.ep_tree.specs.declared.values.Scalar.{Scalar}
use Rattle.ep_tree.specs.declared.values.Value.{Matrix, Number, Value}
use Rattle.ep_numbers.proofs.Counting.{length-counting}
use Rattle.ep_gen.specs.Hints.{hint_of, next_number, nth_number, row_of, square_rows, square_value}

-- ---- lists

-- one value more, where those before it are numbered from 1 to the number before this one
pub one_more : {A B : Type 0} (g : A → B) (f : ℕ → B) (new old : List A) (x : A) (k : ℕ)
    → 0 < k → new ≡ old ++ x ∷ [] → map g old ≡ map f (range_with_len 1 (k - 1)) → g x ≡ f k
    → map g new ≡ map f (range_with_len 1 ((k + 1) - 1))
one_more g f new old x k some e before same =
    let next : (k + 1) - 1 ≡ (k - 1) + 1 = omega (arith, some) in
    ap (map g) e ∙ map-append g old (x ∷ []) ∙ ap (λ ys. ys ++ g x ∷ []) before
    ∙ ap (λ y. map f (range_with_len 1 (k - 1)) ++ y ∷ []) same
    ∙ sym (ap (λ n. map f (range_with_len 1 n)) next ∙ map-range_with_len_more f 1 (k - 1) k (omega (arith, some)))

map_twice : {A B C : Type 0} (g : B → C) (f : A → B) (xs : List A) → map g (map f xs) ≡ map (λ x. g (f x)) xs
map_twice g f [] = refl
map_twice g f (x ∷ xs) = ap (λ ys. g (f x) ∷ ys) (map_twice g f xs)

-- values in a row are those of a list
values_from-map : (vs : List Value) → values_from vs ≡ as_parts (map value_tree vs)
unfolding values_from as_parts
values_from-map [] = refl
values_from-map (v ∷ vs) = ap (λ ws. value_and (value_tree v) ws) (values_from-map vs)

-- ---- the stream

-- the next number of the stream is that with the next place
pub next_place : (number before k s : ℕ) → 0 < k → s ≡ nth_number number (before + (k - 1)) → next_number s ≡ nth_number number (before + k)
unfolding nth_number
next_place number before k s some e =
    let next : before + k ≡ suc (before + (k - 1)) = omega (arith, some) in
    ap next_number e ∙ sym (ap (nth_number number) next)

one_row : (k n : ℕ) → k * n + n ≡ suc k * n
one_row k n = grind arith

-- what the rows before another one took, and that one
pub rows_before : (i n : ℕ) → 0 < i → (i - 1) * n + n ≡ ((i + 1) - 1) * n
rows_before i n some =
    let next : (i + 1) - 1 ≡ suc (i - 1) = omega (arith, some) in
    one_row (i - 1) n ∙ sym (ap (λ k. k * n) next)

-- one hint more
pub one_hint : (number before n i k s : ℕ) (new old : List Value) (pushed h : ℤ) → 0 < k → new ≡ old ++ Number pushed ∷ [] → pushed ≡ h
    → h ≡ hint_of n i k s → s ≡ nth_number number (before + k)
    → map value_tree old ≡ map (λ j. single (hint_of n i j (nth_number number (before + j)))) (range_with_len 1 (k - 1))
    → map value_tree new ≡ map (λ j. single (hint_of n i j (nth_number number (before + j)))) (range_with_len 1 ((k + 1) - 1))
one_hint number before n i k s new old pushed h some e same is at made =
    one_more value_tree (λ j. single (hint_of n i j (nth_number number (before + j)))) new old (Number pushed) k some e made
    (value_tree-number pushed ∙ ap (λ x. single x) (same ∙ is ∙ ap (hint_of n i k) at))

-- ---- matrices

-- indices from 1 with the values behind them
indexed : (is : Vec ℤ Global) (vs : Vec Value Global) (n : ℕ) (ws : List ValueTree) → is.items ≡ counting (pos 1) n
    → map value_tree vs.items ≡ ws → value_tree (Matrix is vs) ≡ matrix (counting (pos 1) n) (as_parts ws)
indexed is vs n ws e h =
    value_tree-matrix is vs ∙ ap (λ l. matrix l (values_from vs.items)) e
    ∙ ap (matrix (counting (pos 1) n)) (values_from-map vs.items ∙ ap as_parts h)

-- numbers as a row
pub row_value : (is : Vec ℤ Global) (vs : Vec Value Global) (n : ℕ) (f : ℕ → ℤ) → is.items ≡ counting (pos 1) n
    → map value_tree vs.items ≡ map (λ j. single (f j)) (range_with_len 1 n)
    → value_tree (Matrix is vs) ≡ list_value (map f (range_with_len 1 n))
unfolding list_value
row_value is vs n f e h =
    indexed is vs n (map (λ j. single (f j)) (range_with_len 1 n)) e h
    ∙ ap (λ k. matrix (counting (pos 1) k) (as_parts (map (λ j. single (f j)) (range_with_len 1 n)))) (sym (length-map-range_with_len f 1 n))
    ∙ ap (λ ws. matrix (counting (pos 1) (length (map f (range_with_len 1 n)))) (as_parts ws)) (sym (map_twice (λ x. single x) f (range_with_len 1 n)))

-- rows as a square
pub square_is : (is : Vec ℤ Global) (vs : Vec Value Global) (n : ℕ) (f : ℕ → List ℤ) → is.items ≡ counting (pos 1) n
    → map value_tree vs.items ≡ map (λ i. list_value (f i)) (range_with_len 1 n)
    → value_tree (Matrix is vs) ≡ square_value n (map f (range_with_len 1 n))
unfolding square_value
square_is is vs n f e h =
    indexed is vs n (map (λ i. list_value (f i)) (range_with_len 1 n)) e h
    ∙ ap (λ ws. matrix (counting (pos 1) n) (as_parts ws)) (sym (map_twice (λ row. list_value row) f (range_with_len 1 n)))

-- ---- types

any_number : (ns : List ℤ) → list_all (is_number_of Scalar.Int) ns ≡ true
unfolding is_number_of
any_number [] = refl
any_number (n ∷ ns) = any_number ns

rows_are : (rows : List (List ℤ)) → AreOfDims Scalar.Int 1 (as_parts (map (λ row. list_value row) rows))
unfolding as_parts
rows_are [] = tt
rows_are (row ∷ rows) = (list_value_is Scalar.Int row (any_number row), rows_are rows)

-- as many rows as the order says are a matrix of integers
pub square_typed : (n : ℕ) (rows : List (List ℤ)) → length rows ≡ n → IsOfDims Scalar.Int 2 (square_value n rows)
unfolding square_value
square_typed n rows e = (
  length-counting (pos 1) n ∙ sym e
      ∙ sym (ap length (listed-as_parts (map (λ row. list_value row) rows)) ∙ length-map rows (λ row. list_value row)),
  rows_are rows,
)

-- the rows of a number are so many
pub rows_count : (number n : ℕ) → length (square_rows number n) ≡ n
unfolding square_rows
rows_count number n = length-map-range_with_len (λ i. row_of number n ((i - 1) * n) i) 1 n
