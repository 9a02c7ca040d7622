-- The parameters have no fault, and are bound to the order and to the hints.
use Rattle.std.proofs.Common.{◌≡◌, ℕ, zero, suc, ◌+◌, ◌*◌, ◌≤◌, Bool, true, false, not, List, [], ◌∷◌, length, map, codes, ℤ, pos, negsuc, ◌+ℤ◌, ◌<ℤ◌, Ok, refl, sym, ap, subst, ◌∙◌, arith, int_le, int_lt, length-append}
use Rattle.std.specs.Prelude.{bytes_eq, if◌then◌else◌, nat_lt}
use Rattle.std.specs.List.{AllByRecursion, IsDistinct, list_all, list_any}
use Rattle.std.proofs.lemmas.Bool.{and_from, and_parts, false≢true, or_from}
use Rattle.std.proofs.lemmas.Bool.Decides.{nat_tests}
use Rattle.std.proofs.lemmas.Int.{ints}
use Rattle.std.proofs.lemmas.List.{length-map}
use Rattle.std.proofs.lemmas.List.Elements.{All-from_recursion}
use Rattle.std.proofs.lemmas.List.Kept.{AllPairs-cons}
use Rattle.ep_base.specs.Numbers.{absolute_of}
use Rattle.ep_base.specs.Reads.{MOST_NUMBER, is_too_far}
use Rattle.ep_base.specs.Runs.{IsAscending, counting}
use Rattle.ep_numbers.proofs.Counting.{length-counting}
use Rattle.ep_tree.proofs.TypedParts.{listed-as_parts}
use Rattle.ep_tree.proofs.Opened.{the_language}
use Rattle.ep_tree.specs.Binding.{bind_params, parameter_text}
use Rattle.ep_tree.specs.Environments.{Env}
use Rattle.ep_tree.specs.Faults.{lettings_of, params_faults, text_faults}
use Rattle.ep_tree.specs.Limits.{MOST_SIZE}
use Rattle.ep_tree.specs.Measures.{Met, met, met_all, met_domain, size_of}
use Rattle.ep_tree.specs.Names.{nothing_known}
use Rattle.ep_tree.specs.Placeless.{SameButPlaces}
use Rattle.ep_tree.specs.Solutions.{Assigned, NamedValue, named_in}
use Rattle.ep_tree.specs.Statements.{TextTree}
use Rattle.ep_tree.specs.TypedValues.{is_number_of}
use Rattle.ep_tree.specs.Types.{scalar_of}
use Rattle.ep_tree.specs.Values.{ValueTree, as_parts, list_value, listed_values, single}
use Rattle.ep_tree.specs.declared.values.Mode.{Mode}
use Rattle.ep_tree.specs.declared.values.Scalar.{Scalar}
use Rattle.ep_tree.specs.declared.values.ValueType.{ValueType}
use Rattle.ep_print_laws.specs.Answered.{AreInOrder, IsInOrder, indices_domain, letting_of, number_expr, scalar_expr, value_expr, value_exprs}
use Rattle.ep_print_laws.specs.GivenBack.{are_near_values, is_large, is_near, is_near_value}
use Rattle.ep_print_laws.proofs.Lettings.{CanStand, IsKnownAs, LettingsFor, all_are_lettings, bounds_of, lettings_bind, lettings_faultless, lettings_known, lettings_stand, put_each, too_large}
use Rattle.ep_print_laws.proofs.Shapes.{HasShape, HaveShape}
use Rattle.ep_gen.specs.Hints.{order_of, square_rows, square_value}
use Rattle.ep_gen_laws.proofs.Fitting.{RowsPass}
use Rattle.ep_gen_laws.proofs.ParamsText.{either_one}
use Rattle.ep_gen_laws.proofs.Passing.{up_to}

-- the order and the hints as values of their names
abbrev pub order_value : ℕ → NamedValue
order_value n = record { name = codes "n"; ty = ValueType.Int; value = single (pos n) }

abbrev pub hints_value : ℕ → List (List ℤ) → NamedValue
hints_value n rows = record { name = codes "hint"; ty = ValueType.Matrix 2 Scalar.Int; value = square_value n rows }

-- The parameters of a number are known.
pub record KnowsParams (number : ℕ) (known : Env) : Type 0 where
  pub order : IsKnownAs known (codes "n") (order_value (order_of number))
  pub hints : IsKnownAs known (codes "hint") (hints_value (order_of number) (square_rows number (order_of number)))

-- ---- counted numbers

later_above : (k : ℕ) (low first : ℤ) → low <ℤ first → AllByRecursion (λ v. low <ℤ v) (counting first k)
unfolding counting
later_above zero low first less = tt
later_above (suc k) low first less = (less, later_above k low (first +ℤ pos 1) (omega (arith, ints, less)))

pub counting_ascends : (k : ℕ) (first : ℤ) → IsAscending (counting first k)
unfolding counting
counting_ascends zero first = λ i j d lt inside. absurd (omega arith)
counting_ascends (suc k) first =
    AllPairs-cons ◌<ℤ◌ first (counting (first +ℤ pos 1) k)
    (All-from_recursion (λ v. first <ℤ v) (counting (first +ℤ pos 1) k) (later_above k first (first +ℤ pos 1) (omega (arith, ints))))
    (counting_ascends k (first +ℤ pos 1))

-- ---- in order

numbers_in_order : (row : List ℤ) → AreInOrder Scalar.Int (as_parts (map (λ x. single x) row))
unfolding as_parts is_number_of
numbers_in_order [] = tt
numbers_in_order (x ∷ row) = (refl, numbers_in_order row)

as_many : {A : Type 0} (f : A → ValueTree) (xs : List A) (k : ℕ) → length xs ≡ k → length (counting (pos 1) k) ≡ length (listed_values (as_parts (map f xs)))
as_many f xs k e = length-counting (pos 1) k ∙ sym e ∙ sym (ap length (listed-as_parts (map f xs)) ∙ length-map xs f)

rows_in_order : (rows : List (List ℤ)) → AreInOrder Scalar.Int (as_parts (map (λ row. list_value row) rows))
unfolding as_parts list_value
rows_in_order [] = tt
rows_in_order (row ∷ rows) = ((as_many (λ x. single x) row (length row) refl, counting_ascends (length row) (pos 1), numbers_in_order row), rows_in_order rows)

square_in_order : (n : ℕ) (rows : List (List ℤ)) → length rows ≡ n → IsInOrder Scalar.Int (square_value n rows)
unfolding square_value
square_in_order n rows count = (as_many (λ row. list_value row) rows n count, counting_ascends n (pos 1), rows_in_order rows)

-- ---- shapes

numbers_shaped : (row : List ℤ) → HaveShape [] (as_parts (map (λ x. single x) row))
unfolding as_parts
numbers_shaped [] = tt
numbers_shaped (x ∷ row) = (tt, numbers_shaped row)

rows_shaped : (n : ℕ) (rows : List (List ℤ)) → RowsPass (up_to n) n rows → HaveShape (counting (pos 1) n ∷ []) (as_parts (map (λ row. list_value row) rows))
unfolding as_parts list_value
rows_shaped n [] pass = tt
rows_shaped n (row ∷ rows) pass = ((as_many (λ x. single x) row n pass.1, numbers_shaped row), rows_shaped n rows pass.2)

square_shaped : (n : ℕ) (rows : List (List ℤ)) → length rows ≡ n → RowsPass (up_to n) n rows → HasShape (counting (pos 1) n ∷ counting (pos 1) n ∷ []) (square_value n rows)
unfolding square_value
square_shaped n rows count pass = (as_many (λ row. list_value row) rows n count, rows_shaped n rows pass)

-- ---- near

small_near : (m : ℕ) → m ≤ 100 → is_near (pos m) ≡ true
unfolding is_near is_too_far absolute_of
small_near m le = let low : int_lt MOST_NUMBER (pos m) ≡ false = grind (arith, ints) in ap not low

passing_near : (n : ℕ) (x : ℤ) → n ≤ 50 → up_to n x ≡ true → is_near x ≡ true
passing_near n (pos m) le h =
    let at : int_le (pos m) (pos n) ≡ true = (and_parts (int_le (pos 0) (pos m)) (int_le (pos m) (pos n)) (either_one _ h)).1 in
    small_near m (omega (arith, ints, at, le))
passing_near n (negsuc m) le h = absurd (false≢true h)

counting_near : (k first : ℕ) → first + k ≤ 100 → list_all is_near (counting (pos first) k) ≡ true
unfolding counting
counting_near zero first le = refl
counting_near (suc k) first le = and_from _ _ (small_near first (omega (arith, le))) (counting_near k (first + 1) (omega (arith, le)))

row_near : (n : ℕ) (row : List ℤ) → n ≤ 50 → list_all (up_to n) row ≡ true → are_near_values (as_parts (map (λ x. single x) row)) ≡ true
unfolding are_near_values is_near_value as_parts
row_near n [] le pass = refl
row_near n (x ∷ row) le pass =
    let both = and_parts (up_to n x) (list_all (up_to n) row) pass in
    and_from _ _ (passing_near n x le both.0) (row_near n row le both.1)

rows_near : (n : ℕ) (rows : List (List ℤ)) → n ≤ 50 → RowsPass (up_to n) n rows → are_near_values (as_parts (map (λ row. list_value row) rows)) ≡ true
unfolding are_near_values is_near_value as_parts list_value
rows_near n [] le pass = refl
rows_near n (row ∷ rows) le pass =
    let long = pass.1 in
    and_from _ _ (and_from _ _ (counting_near (length row) 1 (omega (arith, le, long))) (row_near n row le pass.0)) (rows_near n rows le pass.2)

square_near : (n : ℕ) (rows : List (List ℤ)) → n ≤ 50 → RowsPass (up_to n) n rows → is_near_value (square_value n rows) ≡ true
unfolding is_near_value square_value
square_near n rows le pass = and_from _ _ (counting_near n 1 (omega (arith, le))) (rows_near n rows le pass)

-- ---- how many nodes

numbers_met : (env : Env) (n : ℕ) (row : List ℤ) → list_all (up_to n) row ≡ true → size_of (met_all Mode.Relational env (value_exprs Scalar.Int (as_parts (map (λ x. single x) row)))) ≡ length row
unfolding met value_expr scalar_expr number_expr as_parts
numbers_met env n [] pass = refl
numbers_met env n (pos m ∷ row) pass = ap suc (numbers_met env n row (and_parts (up_to n (pos m)) (list_all (up_to n) row) pass).1)
numbers_met env n (negsuc m ∷ row) pass = absurd (false≢true (and_parts (up_to n (negsuc m)) (list_all (up_to n) row) pass).0)

-- what the domain of the indices of a row meets
abbrev bounds_met : Env → ℕ → List Met
bounds_met env n = met_domain Mode.Relational env (indices_domain (counting (pos 1) n))

row_met : (env : Env) (n : ℕ) (row : List ℤ) → size_of (bounds_met env n) ≤ 4 → list_all (up_to n) row ≡ true → length row ≡ n → size_of (met Mode.Relational env (value_expr Scalar.Int (list_value row))) ≤ n + 5
unfolding the_language value_expr indices_domain
row_met env n [] few pass long = omega (arith, long)
row_met env n (x ∷ row) few pass long =
    let parts : List Met = met_all Mode.Relational env (value_exprs Scalar.Int (as_parts (map (λ x. single x) (x ∷ row)))) in
    let bounds : List Met = bounds_met env (length (x ∷ row)) in
    let own : size_of parts ≡ length (x ∷ row) = numbers_met env n (x ∷ row) pass in
    let small : size_of bounds ≤ 4 = subst (λ k. size_of (bounds_met env k) ≤ 4) (sym long) few in
    let all = length-append parts bounds in
    omega (arith, own, small, all, long)

rows_met : (env : Env) (n : ℕ) (rows : List (List ℤ)) → n ≤ 50 → size_of (bounds_met env n) ≤ 4 → RowsPass (up_to n) n rows
    → size_of (met_all Mode.Relational env (value_exprs Scalar.Int (as_parts (map (λ row. list_value row) rows)))) ≤ length rows * 60
unfolding met value_expr as_parts
rows_met env n [] le few pass = omega arith
rows_met env n (row ∷ rows) le few pass =
    let parts : List Met = met Mode.Relational env (value_expr Scalar.Int (list_value row)) in
    let behind : List Met = met_all Mode.Relational env (value_exprs Scalar.Int (as_parts (map (λ row. list_value row) rows))) in
    let own : size_of parts ≤ n + 5 = row_met env n row few pass.0 pass.1 in
    let others : size_of behind ≤ length rows * 60 = rows_met env n rows le few pass.2 in
    let all = length-append parts behind in
    omega (arith, own, others, le, all)

square_met : (env : Env) (n : ℕ) (rows : List (List ℤ)) → n ≤ 50 → size_of (bounds_met env n) ≤ 4 → length rows ≡ n → RowsPass (up_to n) n rows
    → size_of (met Mode.Relational env (value_expr Scalar.Int (square_value n rows))) ≤ 4000
unfolding the_language value_expr indices_domain square_value
square_met env n [] le few count pass = omega arith
square_met env n (row ∷ rows) le few count pass =
    let parts : List Met = met_all Mode.Relational env (value_exprs Scalar.Int (as_parts (map (λ row. list_value row) (row ∷ rows)))) in
    let own : size_of parts ≤ length (row ∷ rows) * 60 = rows_met env n (row ∷ rows) le few pass in
    let all = length-append parts (bounds_met env n) in
    omega (arith, own, few, all, count, le)

-- ---- both parameters

order_small : (n : ℕ) → is_large Mode.Relational (order_value n) ≡ false
unfolding is_large the_language value_expr scalar_expr number_expr
order_small n = refl

not_large : (m : ℕ) → m ≤ 4000 → nat_lt MOST_SIZE m ≡ false
not_large m le = grind (arith, nat_tests)

hints_small : (n : ℕ) (rows : List (List ℤ)) → n ≤ 50 → size_of (bounds_met nothing_known n) ≤ 4 → length rows ≡ n → RowsPass (up_to n) n rows → is_large Mode.Relational (hints_value n rows) ≡ false
unfolding is_large scalar_of
hints_small n rows le few count pass = not_large (size_of (met Mode.Relational nothing_known (value_expr Scalar.Int (square_value n rows)))) (square_met nothing_known n rows le few count pass)

order_stands : (n : ℕ) → n ≤ 50 → CanStand (order_value n)
unfolding is_number_of is_near_value scalar_of
order_stands n le = record { can = record { in_order = refl; near = small_near n (omega (arith, le)) }; indices = []; shape = tt }

hints_stand : (n : ℕ) (rows : List (List ℤ)) → n ≤ 50 → length rows ≡ n → RowsPass (up_to n) n rows → CanStand (hints_value n rows)
unfolding scalar_of
hints_stand n rows le count pass =
    record {
      can = record { in_order = square_in_order n rows count; near = square_near n rows le pass };
      indices = counting (pos 1) n ∷ counting (pos 1) n ∷ [];
      shape = square_shaped n rows count pass;
    }

two_names : (n : ℕ) (rows : List (List ℤ)) → IsDistinct bytes_eq (map (λ g. g.name) (order_value n ∷ hints_value n rows ∷ []))
unfolding IsDistinct
two_names n rows = ((refl, tt), (tt, tt))

-- The parameters as they are read: they have no fault, and are bound.
pub record ParamsBind (n : ℕ) (rows : List (List ℤ)) (text : TextTree) : Type 0 where
  pub faultless : params_faults text ≡ []
  pub known : Env
  pub bound : bind_params Mode.Relational parameter_text nothing_known (lettings_of text) ≡ Ok known
  pub order : IsKnownAs known (codes "n") (order_value n)
  pub hints : IsKnownAs known (codes "hint") (hints_value n rows)

pub params_bind : (n : ℕ) (rows : List (List ℤ)) (text : TextTree) → n ≤ 50 → size_of (bounds_met nothing_known n) ≤ 4 → length rows ≡ n → RowsPass (up_to n) n rows
    → SameButPlaces text (map letting_of (order_value n ∷ hints_value n rows ∷ [])) → ParamsBind n rows text
unfolding params_faults text_faults named_in
params_bind n rows text le few count pass same =
    let a : Assigned = order_value n ∷ hints_value n rows ∷ [] in
    let l : LettingsFor a text = lettings_stand a text (order_stands n le, (hints_stand n rows le count pass, tt)) same in
    let plain = all_are_lettings a text l in
    let distinct = two_names n rows in
    let small : list_any (is_large Mode.Relational) a ≡ false = or_from _ _ (order_small n) (or_from _ _ (hints_small n rows le few count pass) refl) in
    record {
      faultless = ap text_faults plain ∙ lettings_faultless a text nothing_known l distinct (refl, (refl, tt));
      known = put_each (bounds_of a text l) nothing_known;
      bound =
          ap (bind_params Mode.Relational parameter_text nothing_known) plain
          ∙ lettings_bind Mode.Relational parameter_text a text nothing_known l
          ∙ ap (λ (b : Bool). if b then too_large else Ok (put_each (bounds_of a text l) nothing_known)) small;
      order = lettings_known a text l nothing_known distinct (codes "n") (order_value n) refl;
      hints = lettings_known a text l nothing_known distinct (codes "hint") (hints_value n rows) refl;
    }
