-- The text of the parameters is neither too long nor too high.
use Rattle.std.proofs.Common.{◌≡◌, ℕ, suc, ◌+◌, ◌*◌, ◌≤◌, Bool, true, false, cond, List, [], ◌∷◌, ◌++◌, length, map, codes, ℤ, pos, negsuc, refl, sym, ap, subst, ◌∙◌, arith, int_le, length-append}
use Rattle.std.specs.Fmt.{signed_decimal}
use Rattle.std.specs.List.{AllByRecursion, list_all}
use Rattle.std.specs.Ordering.{int_eq}
use Rattle.std.proofs.lemmas.Bool.{and_parts, false≢true}
use Rattle.std.proofs.lemmas.Fmt.{length-decimal-le_succ}
use Rattle.std.proofs.lemmas.Int.{ints}
use Rattle.ep_base.specs.Runs.{counting}
use Rattle.ep_tree.specs.Heights.{domain_height, height, highest, highest_range}
use Rattle.ep_tree.specs.Placeless.{SameButPlaces}
use Rattle.ep_tree.specs.Statements.{TextTree, stated_height, statement_height, text_height}
use Rattle.ep_tree.specs.Types.{scalar_of}
use Rattle.ep_tree.specs.Values.{ValueTree, as_parts, list_value, single}
use Rattle.ep_tree.specs.declared.values.Scalar.{Scalar}
use Rattle.ep_tree.specs.Trees.{ExprTree, Ranges, end_at, one_and, span_and}
use Rattle.ep_print.specs.Answers.{language_line, letting_text, letting_texts}
use Rattle.ep_print.specs.Joining.{with_between}
use Rattle.ep_print.specs.Values.{Stretch, index_domain_text, runs_of, scalar_text, scalar_value_text, scalar_value_texts, value_text}
use Rattle.ep_print_laws.specs.Answered.{indices_domain, letting_of, number_expr, run_and, run_ranges, scalar_expr, value_expr, value_exprs}
use Rattle.ep_print_laws.proofs.Clearing.{text_cleared}
use Rattle.ep_gen.specs.Hints.{square_value}
use Rattle.ep_gen_laws.proofs.Fitting.{RowsPass}
use Rattle.ep_gen_laws.proofs.ParamsKnown.{hints_value, order_value}
use Rattle.ep_gen_laws.proofs.ParamsText.{either_one}
use Rattle.ep_gen_laws.proofs.Passing.{up_to}

-- ---- lengths

one_more : (k m : ℕ) → suc k * m ≡ m + k * m
one_more k m = grind arith

-- texts of at most so many bytes, with a comma and a space between any two
joined_length : (b m : ℕ) (ts : List (List ℕ)) → b + 2 ≤ m → AllByRecursion (λ t. length t ≤ b) ts → length (with_between (codes ", ") ts) ≤ length ts * m
unfolding with_between
joined_length b m [] le all = omega arith
joined_length b m (t ∷ []) le all = let more = one_more 0 m in let own = all.0 in omega (arith, le, more, own)
joined_length b m (t ∷ u ∷ ts) le all =
    let others = joined_length b m (u ∷ ts) le all.1 in
    let cut = length-append t (codes ", " ++ with_between (codes ", ") (u ∷ ts)) in
    let more = one_more (length (u ∷ ts)) m in
    let own = all.0 in
    omega (arith, le, own, others, cut, more)

number_length : (m : ℕ) → m ≤ 50 → length (signed_decimal (pos m)) ≤ 51
number_length m le = let short = length-decimal-le_succ m (omega (arith, le)) in omega (arith, short, le)

numbers_lengths : (n : ℕ) (row : List ℤ) → n ≤ 50 → list_all (up_to n) row ≡ true → AllByRecursion (λ t. length t ≤ 51) (scalar_value_texts Scalar.Int (as_parts (map (λ x. single x) row)))
unfolding scalar_value_text scalar_text as_parts
numbers_lengths n [] le pass = tt
numbers_lengths n (pos m ∷ row) le pass =
    let both = and_parts (up_to n (pos m)) (list_all (up_to n) row) pass in
    let at : int_le (pos m) (pos n) ≡ true = (and_parts (int_le (pos 0) (pos m)) (int_le (pos m) (pos n)) (either_one _ both.0)).1 in
    (number_length m (omega (arith, ints, at, le)), numbers_lengths n row le both.1)
numbers_lengths n (negsuc m ∷ row) le pass = absurd (false≢true (and_parts (up_to n (negsuc m)) (list_all (up_to n) row) pass).0)

texts_count : {A : Type 0} (f : A → ValueTree) (xs : List A) → length (scalar_value_texts Scalar.Int (as_parts (map f xs))) ≡ length xs
unfolding scalar_value_text as_parts
texts_count f [] = refl
texts_count f (x ∷ xs) = ap suc (texts_count f xs)

-- the brackets and the indices around joined texts
bracketed : (joined indices : List ℕ) → length (codes "[" ++ (joined ++ (codes "; " ++ (indices ++ codes "]")))) ≡ length joined + length indices + 4
bracketed joined indices =
    let a = length-append joined (codes "; " ++ (indices ++ codes "]")) in
    let b = length-append indices (codes "]") in
    omega (arith, a, b)

row_length : (n : ℕ) (row : List ℤ) → n ≤ 50 → length (index_domain_text (counting (pos 1) n)) ≤ 20 → list_all (up_to n) row ≡ true → length row ≡ n → length (scalar_value_text Scalar.Int (list_value row)) ≤ 3000
unfolding scalar_value_text list_value as_parts
row_length n [] le few pass long = omega arith
row_length n (x ∷ row) le few pass long =
    let texts : List (List ℕ) = scalar_value_texts Scalar.Int (as_parts (map (λ x. single x) (x ∷ row))) in
    let indices : List ℕ = index_domain_text (counting (pos 1) (length (x ∷ row))) in
    let own : length (with_between (codes ", ") texts) ≤ length texts * 53 = joined_length 51 53 texts (omega arith) (numbers_lengths n (x ∷ row) le pass) in
    let count : length texts ≡ length (x ∷ row) = texts_count (λ x. single x) (x ∷ row) in
    let small : length indices ≤ 20 = subst (λ k. length (index_domain_text (counting (pos 1) k)) ≤ 20) (sym long) few in
    let whole = bracketed (with_between (codes ", ") texts) indices in
    omega (arith, own, count, small, whole, long, le)

rows_lengths : (n : ℕ) (rows : List (List ℤ)) → n ≤ 50 → length (index_domain_text (counting (pos 1) n)) ≤ 20 → RowsPass (up_to n) n rows
    → AllByRecursion (λ t. length t ≤ 3000) (scalar_value_texts Scalar.Int (as_parts (map (λ row. list_value row) rows)))
unfolding scalar_value_text as_parts
rows_lengths n [] le few pass = tt
rows_lengths n (row ∷ rows) le few pass = (row_length n row le few pass.0 pass.1, rows_lengths n rows le few pass.2)

square_length : (n : ℕ) (rows : List (List ℤ)) → n ≤ 50 → length (index_domain_text (counting (pos 1) n)) ≤ 20 → length rows ≡ n → RowsPass (up_to n) n rows → length (scalar_value_text Scalar.Int (square_value n rows)) ≤ 160000
unfolding scalar_value_text square_value as_parts
square_length n [] le few count pass = omega arith
square_length n (row ∷ rows) le few count pass =
    let texts : List (List ℕ) = scalar_value_texts Scalar.Int (as_parts (map (λ row. list_value row) (row ∷ rows))) in
    let indices : List ℕ = index_domain_text (counting (pos 1) n) in
    let own : length (with_between (codes ", ") texts) ≤ length texts * 3002 = joined_length 3000 3002 texts (omega arith) (rows_lengths n (row ∷ rows) le few pass) in
    let each : length texts ≡ length (row ∷ rows) = texts_count (λ row. list_value row) (row ∷ rows) in
    let whole = bracketed (with_between (codes ", ") texts) indices in
    omega (arith, own, each, few, whole, count, le)

-- a letting of a name, with the text of its value
letting_length : (name value : List ℕ) → length (codes "letting " ++ (name ++ (codes " be " ++ (value ++ codes "\n")))) ≡ length name + length value + 13
letting_length name value =
    let a = length-append name (codes " be " ++ (value ++ codes "\n")) in
    let b = length-append value (codes "\n") in
    omega (arith, a, b)

pub params_short : (n : ℕ) (rows : List (List ℤ)) → n ≤ 50 → length (index_domain_text (counting (pos 1) n)) ≤ 20 → length rows ≡ n → RowsPass (up_to n) n rows
    → length (language_line ++ letting_texts (order_value n ∷ hints_value n rows ∷ [])) ≤ 16777216
unfolding letting_text value_text scalar_value_text scalar_text scalar_of
params_short n rows le few count pass =
    let one : List ℕ = codes "letting " ++ (codes "n" ++ (codes " be " ++ (signed_decimal (pos n) ++ codes "\n"))) in
    let value : List ℕ = scalar_value_text Scalar.Int (square_value n rows) in
    let other : List ℕ = codes "letting " ++ (codes "hint" ++ (codes " be " ++ (value ++ codes "\n"))) in
    let a : length (one ++ (other ++ [])) ≡ length one + length (other ++ []) = length-append one (other ++ []) in
    let b : length (other ++ []) ≡ length other + 0 = length-append other [] in
    let c : length one ≡ 1 + length (signed_decimal (pos n)) + 13 = letting_length (codes "n") (signed_decimal (pos n)) in
    let d : length other ≡ 4 + length value + 13 = letting_length (codes "hint") value in
    let e : length (signed_decimal (pos n)) ≤ 51 = number_length n le in
    let f : length value ≤ 160000 = square_length n rows le few count pass in
    let g : length (language_line ++ (one ++ (other ++ []))) ≡ 22 + length (one ++ (other ++ [])) = length-append language_line (one ++ (other ++ [])) in
    omega (arith, a, b, c, d, e, f, g)

-- ---- heights

number_low : (z : ℤ) → height (number_expr z) ≤ 2
unfolding height number_expr
number_low (pos n) = omega arith
number_low (negsuc n) = omega arith

both_low : (b : Bool) (one other : ExprTree) (rs : Ranges) → height one ≤ 2 → height other ≤ 2 → highest_range rs ≤ 2 → highest_range (cond b (one_and one rs) (span_and (end_at one) (end_at other) rs)) ≤ 2
unfolding height
both_low true one other rs h k l = omega (arith, h, k, l)
both_low false one other rs h k l = omega (arith, h, k, l)

runs_low : (ss : List Stretch) → highest_range (run_ranges ss) ≤ 2
unfolding height run_ranges run_and
runs_low [] = omega arith
runs_low (s ∷ ss) = both_low (int_eq s.first s.last) (number_expr s.first) (number_expr s.last) (run_ranges ss) (number_low s.first) (number_low s.last) (runs_low ss)

indices_low : (indices : List ℤ) → domain_height (indices_domain indices) ≤ 3
unfolding height indices_domain
indices_low [] = omega arith
indices_low (x ∷ xs) = let low = runs_low (runs_of (x ∷ xs)) in omega (arith, low)

numbers_low : (row : List ℤ) → highest (value_exprs Scalar.Int (as_parts (map (λ x. single x) row))) ≤ 2
unfolding height value_expr scalar_expr as_parts
numbers_low [] = omega arith
numbers_low (x ∷ row) = let one = number_low x in let others = numbers_low row in omega (arith, one, others)

row_low : (row : List ℤ) → height (value_expr Scalar.Int (list_value row)) ≤ 4
unfolding height value_expr list_value as_parts
row_low [] = let low = indices_low [] in omega (arith, low)
row_low (x ∷ row) = let parts = numbers_low (x ∷ row) in let low = indices_low (counting (pos 1) (length (x ∷ row))) in omega (arith, parts, low)

rows_low : (rows : List (List ℤ)) → highest (value_exprs Scalar.Int (as_parts (map (λ row. list_value row) rows))) ≤ 4
unfolding height value_expr as_parts
rows_low [] = omega arith
rows_low (row ∷ rows) = let one = row_low row in let others = rows_low rows in omega (arith, one, others)

square_low : (n : ℕ) (rows : List (List ℤ)) → height (value_expr Scalar.Int (square_value n rows)) ≤ 5
unfolding height value_expr square_value as_parts
square_low n [] = let low = indices_low [] in omega (arith, low)
square_low n (row ∷ rows) = let parts = rows_low (row ∷ rows) in let low = indices_low (counting (pos 1) n) in omega (arith, parts, low)

lettings_low : (n : ℕ) (rows : List (List ℤ)) → text_height (map letting_of (order_value n ∷ hints_value n rows ∷ [])) ≤ 256
unfolding text_height statement_height stated_height letting_of scalar_of value_expr scalar_expr
lettings_low n rows = let one = number_low (pos n) in let other = square_low n rows in omega (arith, one, other)

pub params_low : (n : ℕ) (rows : List (List ℤ)) (text : TextTree) → SameButPlaces text (map letting_of (order_value n ∷ hints_value n rows ∷ [])) → text_height text ≤ 256
params_low n rows text same =
    let lettings : TextTree = map letting_of (order_value n ∷ hints_value n rows ∷ []) in
    subst (λ h. h ≤ 256) (sym (sym (text_cleared text) ∙ ap text_height same ∙ text_cleared lettings)) (lettings_low n rows)
