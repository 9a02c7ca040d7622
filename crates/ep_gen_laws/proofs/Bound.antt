-- The model is bound under the parameters of a number.
use Rattle.std.proofs.Common.{◌≡◌, ℕ, ◌<◌, true, false, ◌&&◌, ◌||◌, List, [], ◌∷◌, length, ℤ, pos, None, Some, Ok, codes, refl, sym, ap, subst, ◌∙◌, int_le}
use Rattle.ep_base.specs.declared.names.Name.{Name}
use Rattle.ep_base.specs.declared.places.Place.{Place}
use Rattle.ep_tree.proofs.Opened.{the_language}
use Rattle.ep_tree.specs.Binding.{Find, Instance, Progress, Shape, and_next, bind_givens, bind_names, bind_statement, bind_statements, first_missing, fitted_into, given_bound, in_env, limits_met, nothing_bound, now_with, or_refuse, parameter, shape_of, unless_any}
use Rattle.ep_tree.specs.Domains.{between, united}
use Rattle.ep_tree.specs.Environments.{Env, has_value, shape_type}
use Rattle.ep_tree.specs.Measures.{met_domain}
use Rattle.ep_tree.specs.Names.{nothing_known, put}
use Rattle.ep_tree.specs.Statements.{TextTree, constraints, decided, given}
use Rattle.ep_tree.specs.Trees.{DomainTree, number}
use Rattle.ep_tree.specs.Values.{ValueTree, single}
use Rattle.ep_tree.specs.declared.values.Mode.{Mode}
use Rattle.ep_tree.specs.declared.values.Scalar.{Scalar}
use Rattle.ep_tree.specs.declared.values.ValueType.{ValueType}
use Rattle.ep_print_laws.proofs.Shapes.{IsOwn, fit_of_own}
use Rattle.ep_gen.specs.Hints.{square_value}
use Rattle.ep_gen_laws.proofs.ModelTree.{Places, columns_differ, hints_are_met, model_tree, numbers_at, one_name, rows_differ, square_at}
use Rattle.ep_gen_laws.proofs.Fitting.{RowsPass, square_fits, square_in}
use Rattle.ep_gen_laws.proofs.Passing.{up_to}

-- ---- one name

-- a parameter that fits is bound
one_bound : (mode : Mode) (known : Env) (now : Progress) (p : Place) (at : Places) (k : ℕ) (name : Name) (d : DomainTree) (shape : Shape) (t : ValueType) (v w : ValueTree)
    → limits_met mode (met_domain mode now.instance.env d) ≡ [] → shape_of mode now.instance.env d ≡ Some shape → known name ≡ Some (has_value t v) → fitted_into shape t v ≡ Some w
    → bind_statement mode known now (given p (one_name at k name d)) ≡ Ok (now_with now (in_env now.instance (put name (has_value (shape_type shape.scalar shape.indices) w) now.instance.env)))
unfolding bind_statement bind_givens unless_any and_next or_refuse first_missing parameter bind_names given_bound
one_bound mode known now p at k name d shape t v w limits shaped is fits = rw (limits, shaped, is, fits) refl

-- ---- the instance

-- the numbers from 1 to the order, as the domain's definition gives them
abbrev pub orders : ℕ → List ℤ
orders n = united (between (pos 1) (pos n)) []

-- what names stand for: the order, and the hints with the indices of their domain
abbrev pub env_with_order : ℕ → Env
env_with_order n = put (codes "n") (has_value ValueType.Int (single (pos n))) nothing_known

abbrev pub env_with_hints : ℕ → ValueTree → Env
env_with_hints n v = put (codes "hint") (has_value (ValueType.Matrix 2 Scalar.Int) v) (env_with_order n)

-- the square of decision variables
abbrev pub square_find : ℕ → Find
square_find n = record { name = codes "q"; scalar = Scalar.Int; indices = orders n ∷ orders n ∷ []; values = orders n }

-- the instance of an order and of a matrix of hints
abbrev pub instance_of : Places → ℕ → ValueTree → Instance
instance_of at n v = record {
  finds = square_find n ∷ [];
  clauses = rows_differ at ∷ columns_differ at ∷ hints_are_met at ∷ [];
  goal = None;
  env = env_with_hints n v;
}

abbrev after_order : ℕ → Progress
after_order n = now_with nothing_bound (in_env nothing_bound.instance (env_with_order n))

abbrev after_hints : ℕ → ValueTree → Progress
after_hints n v = now_with (after_order n) (in_env (after_order n).instance (env_with_hints n v))

abbrev pub all_bound : Places → ℕ → ValueTree → Progress
all_bound at n v = record { instance = instance_of at n v; next_where = 1 }

-- the domain of the order, and that of the hints
abbrev order_shape : Shape
order_shape = record { scalar = Scalar.Int; indices = []; passes = λ x. int_le (pos 1) x && int_le x (pos 100) || false; values = Some (orders 100) }

abbrev hints_shape : ℕ → Shape
hints_shape n = record { scalar = Scalar.Int; indices = orders n ∷ orders n ∷ []; passes = up_to n; values = Some (united (between (pos 0) (pos n)) []) }

-- ---- what is computed

-- What holds of an order by computation.
pub record IsFittingOrder (n : ℕ) : Type 0 where
  pub some : 0 < n
  pub fits : (int_le (pos 1) (pos n) && int_le (pos n) (pos 100) || false) ≡ true
  pub count : length (orders n) ≡ n

order_bound : (at : Places) (n : ℕ) (known : Env) (t : ValueType) → IsFittingOrder n → known (codes "n") ≡ Some (has_value t (single (pos n))) → IsOwn Scalar.Int t
    → bind_statement Mode.Relational known nothing_bound (given (at 5) (one_name at 6 (codes "n") (numbers_at at 8 (pos 1) (number (at 12) (pos 100))))) ≡ Ok (after_order n)
unfolding the_language
order_bound at n known t fitting is whole =
    one_bound Mode.Relational known nothing_bound (at 5) at 6 (codes "n") (numbers_at at 8 (pos 1) (number (at 12) (pos 100))) order_shape t (single (pos n)) (single (pos n))
    refl refl is
    (fit_of_own Scalar.Int Scalar.Int t order_shape.passes [] (single (pos n)) (single (pos n)) whole (rw fitting.fits refl))

hints_bound : (at : Places) (n : ℕ) (rows : List (List ℤ)) (known : Env) (t : ValueType) → IsFittingOrder n → length rows ≡ n → RowsPass (up_to n) n rows
    → limits_met Mode.Relational (met_domain Mode.Relational (env_with_order n) (square_at at 17 (pos 0))) ≡ []
    → known (codes "hint") ≡ Some (has_value t (square_value n rows)) → IsOwn Scalar.Int t
    → bind_statement Mode.Relational known (after_order n) (given (at 14) (one_name at 15 (codes "hint") (square_at at 17 (pos 0)))) ≡ Ok (after_hints n (square_in (orders n) rows))
unfolding the_language
hints_bound at n rows known t fitting count pass limits is whole =
    one_bound Mode.Relational known (after_order n) (at 14) at 15 (codes "hint") (square_at at 17 (pos 0)) (hints_shape n) t (square_value n rows) (square_in (orders n) rows)
    limits refl is
    (fit_of_own Scalar.Int Scalar.Int t (up_to n) (orders n ∷ orders n ∷ []) (square_value n rows) (square_in (orders n) rows) whole
    (square_fits (up_to n) (orders n) n rows (count ∙ sym fitting.count) (subst (λ k. RowsPass (up_to n) k rows) (sym fitting.count) pass)))

rest_bound : (at : Places) (n : ℕ) (v : ValueTree) (known : Env)
    → limits_met Mode.Relational (met_domain Mode.Relational (env_with_hints n v) (square_at at 45 (pos 1))) ≡ []
    → bind_statements Mode.Relational known (after_hints n v) (decided (at 42) (one_name at 43 (codes "q") (square_at at 45 (pos 1))) ∷ constraints (at 70) (rows_differ at ∷ columns_differ at ∷ hints_are_met at ∷ []) ∷ []) ≡ Ok (all_bound at n v)
unfolding the_language
rest_bound at n v known limits = rw limits refl

-- the whole model
pub model_bound : (at : Places) (n : ℕ) (rows : List (List ℤ)) (known : Env) (t u : ValueType) → IsFittingOrder n → length rows ≡ n → RowsPass (up_to n) n rows
    → limits_met Mode.Relational (met_domain Mode.Relational (env_with_order n) (square_at at 17 (pos 0))) ≡ []
    → limits_met Mode.Relational (met_domain Mode.Relational (env_with_hints n (square_in (orders n) rows)) (square_at at 45 (pos 1))) ≡ []
    → known (codes "n") ≡ Some (has_value t (single (pos n))) → IsOwn Scalar.Int t
    → known (codes "hint") ≡ Some (has_value u (square_value n rows)) → IsOwn Scalar.Int u
    → bind_statements Mode.Relational known nothing_bound (model_tree at) ≡ Ok (all_bound at n (square_in (orders n) rows))
unfolding bind_statements and_next model_tree
model_bound at n rows known t u fitting count pass before later is whole are all_whole =
    let squares : TextTree = decided (at 42) (one_name at 43 (codes "q") (square_at at 45 (pos 1))) ∷ constraints (at 70) (rows_differ at ∷ columns_differ at ∷ hints_are_met at ∷ []) ∷ [] in
    let hinted : TextTree = given (at 14) (one_name at 15 (codes "hint") (square_at at 17 (pos 0))) ∷ squares in
    ap (λ r. and_next r (λ next. bind_statements Mode.Relational known next hinted)) (order_bound at n known t fitting is whole)
    ∙ ap (λ r. and_next r (λ next. bind_statements Mode.Relational known next squares)) (hints_bound at n rows known u fitting count pass before are all_whole)
    ∙ rest_bound at n (square_in (orders n) rows) known later
