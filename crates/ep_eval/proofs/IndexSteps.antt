-- The indices of a read one after another.
use Rattle.ep_eval.proofs.Words.{◌≡◌, ℕ, ◌≤◌, true, List, [], ◌∷◌, ◌++◌, ℤ, Option, Some, None, option_map, refl, sym, ap, subst, ◌∙◌, is_some, append-nil, map_both, Env, end_value, evaluate, index_list, number_in, met_end, met_indices, Index, any_index, at_index, index_in, indices_in, end_of, expr_tree, indices_of, Expr, Mode, Going, Told, Meter, with_index}
use Rattle.std.specs.declared.alloc.Global.{Global}
use Rattle.std.specs.declared.vec.Vec.{Vec}
use Rattle.ep_eval.proofs.MeterSteps.{going_begins, going_ends, going_more, joins}

-- the values of some indices before those of others
abbrev pub joined_indices : Option (List (Option ℤ)) → Option (List Index) → Option (List Index)
joined_indices values left = map_both (λ is js. indices_in is ++ js) values left

-- some indices are evaluated, and others are left
abbrev pub IndicesSoFar : Mode → Env → Meter → Meter → List (Option Expr) → List (Option Expr) → Option (List (Option ℤ)) → Type 0
IndicesSoFar mode env start now all left values =
    Going mode start now (met_indices mode env (indices_of all)) (met_indices mode env (indices_of left))
    (index_list mode env (indices_of all) ≡ joined_indices values (index_list mode env (indices_of left)))

none_before : (o : Option (List Index)) → o ≡ joined_indices (Some []) o
unfolding map_both
none_before None = refl
none_before (Some js) = refl

pub indices_begin : (mode : Mode) (env : Env) (start : Meter) (all : List (Option Expr)) → IndicesSoFar mode env start start all all (Some [])
indices_begin mode env start all = going_begins (joins mode) start _ _ refl (none_before (index_list mode env (indices_of all)))

met_cons : (mode : Mode) (env : Env) (i : Option Expr) (rest : List (Option Expr)) → met_indices mode env (indices_of (i ∷ rest)) ≡ met_end mode env (end_of i) ++ met_indices mode env (indices_of rest)
unfolding met_indices indices_of end_of
met_cons mode env None rest = refl
met_cons mode env (Some e) rest = refl

put_behind : (is : List (Option ℤ)) (i : Option ℤ) (js : List Index) → indices_in is ++ (index_in i ∷ js) ≡ indices_in (is ++ i ∷ []) ++ js
put_behind [] i js = refl
put_behind (x ∷ is) i js = ap (λ l. index_in x ∷ l) (put_behind is i js)

every_one : (is : List (Option ℤ)) (o : Option (List Index))
    → joined_indices (Some is) (option_map (λ js. any_index ∷ js) o) ≡ joined_indices (Some (is ++ None ∷ [])) o
unfolding map_both index_in
every_one is None = refl
every_one is (Some js) = ap Some (put_behind is None js)

stated_one : (is : List (Option ℤ)) (n : Option ℤ) (o : Option (List Index))
    → joined_indices (Some is) (map_both (λ i js. at_index i ∷ js) n o) ≡ joined_indices (with_index (Some is) true n) o
unfolding map_both with_index index_in
stated_one is None o = refl
stated_one is (Some n) None = refl
stated_one is (Some n) (Some js) = ap Some (put_behind is (Some n) js)

one_more : (mode : Mode) (env : Env) (values : Option (List (Option ℤ))) (i : Option Expr) (rest : List (Option Expr))
    → joined_indices values (index_list mode env (indices_of (i ∷ rest)))
    ≡ joined_indices (with_index values (is_some i) (end_value mode env (end_of i))) (index_list mode env (indices_of rest))
unfolding index_list indices_of end_of end_value with_index map_both
one_more mode env None i rest = refl
one_more mode env (Some is) None rest = every_one is (index_list mode env (indices_of rest))
one_more mode env (Some is) (Some e) rest = stated_one is (number_in (evaluate mode env (expr_tree e))) (index_list mode env (indices_of rest))

pub indices_more : (mode : Mode) (env : Env) (start now after : Meter) (all left : List (Option Expr)) (i : Option Expr) (rest : List (Option Expr)) (values more : Option (List (Option ℤ))) (n : Option ℤ)
    → IndicesSoFar mode env start now all left values → left ≡ i ∷ rest → Told mode now after (met_end mode env (end_of i)) (n ≡ end_value mode env (end_of i))
    → more ≡ with_index values (is_some i) n → IndicesSoFar mode env start after all rest more
indices_more mode env start now after all left i rest values more n g cut told is =
    going_more (joins mode) start now after _ _ (met_end mode env (end_of i)) _ g (ap (λ l. met_indices mode env (indices_of l)) cut ∙ met_cons mode env i rest) told
    (λ known value.
    known ∙ ap (λ l. joined_indices values (index_list mode env (indices_of l))) cut ∙ one_more mode env values i rest
    ∙ ap (λ m. joined_indices (with_index values (is_some i) m) (index_list mode env (indices_of rest))) (sym value)
    ∙ ap (λ o. joined_indices o (index_list mode env (indices_of rest))) (sym is))

none_behind : (values : Option (List (Option ℤ))) → joined_indices values (Some []) ≡ option_map (λ is. indices_in is) values
unfolding map_both
none_behind None = refl
none_behind (Some is) = ap Some (append-nil (indices_in is))

in_option : (o : Option (Vec (Option ℤ) Global)) → option_map (λ v. indices_in v.items) o ≡ option_map (λ is. indices_in is) (option_map (λ v. v.items) o)
in_option None = refl
in_option (Some v) = refl

no_indices_left : (mode : Mode) (env : Env) (left : List (Option Expr)) → left ≡ [] → met_indices mode env (indices_of left) ≡ []
unfolding met_indices indices_of
no_indices_left mode env left none = ap (λ l. met_indices mode env (indices_of l)) none

pub indices_end : (mode : Mode) (env : Env) (start now : Meter) (all left : List (Option Expr)) (values : Option (Vec (Option ℤ) Global))
    → IndicesSoFar mode env start now all left (option_map (λ v. v.items) values) → left ≡ []
    → Told mode start now (met_indices mode env (indices_of all)) (option_map (λ v. indices_in v.items) values ≡ index_list mode env (indices_of all))
unfolding index_list indices_of
indices_end mode env start now all left values g none =
    going_ends start now _ _ g (no_indices_left mode env left none)
    (λ known.
    in_option values
    ∙ sym (known ∙ ap (λ l. joined_indices (option_map (λ v. v.items) values) (index_list mode env (indices_of l))) none ∙ none_behind (option_map (λ v. v.items) values)))
