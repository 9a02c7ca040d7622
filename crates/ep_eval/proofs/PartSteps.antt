-- Truths of expressions one after another.
use Rattle.ep_eval.proofs.Words.{◌≡◌, Bool, true, false, List, [], ◌∷◌, ◌++◌, ℤ, refl, sym, ap, ◌∙◌, Option, Some, None, map, option_map, all_one, any_one, is_one, map_both, Env, all_true, any_true, evaluate, number_in, truth_of, values_of, met, met_all, ValueTree, all_defined, expr_tree, expr_trees, Expr, Mode, of_all, together, Going, Told, Meter}
use Rattle.ep_eval.proofs.MeterSteps.{going_begins, going_ends, going_more, joins}

first_unit : (e : Bool) (o : Option Bool) → map_both (together e) (Some e) o ≡ o
unfolding map_both together
first_unit true None = refl
first_unit true (Some b) = refl
first_unit false None = refl
first_unit false (Some b) = refl

pub last_unit : (e : Bool) (o : Option Bool) → map_both (together e) o (Some e) ≡ o
unfolding map_both together
last_unit true None = refl
last_unit true (Some true) = refl
last_unit true (Some false) = refl
last_unit false None = refl
last_unit false (Some true) = refl
last_unit false (Some false) = refl

pub regrouped : (e : Bool) (a b c : Option Bool) → map_both (together e) a (map_both (together e) b c) ≡ map_both (together e) (map_both (together e) a b) c
unfolding map_both together
regrouped e None b c = refl
regrouped e (Some x) None c = refl
regrouped e (Some x) (Some y) None = refl
regrouped true (Some true) (Some y) (Some z) = refl
regrouped true (Some false) (Some y) (Some z) = refl
regrouped false (Some true) (Some y) (Some z) = refl
regrouped false (Some false) (Some y) (Some z) = refl

inner_every : (x : ℤ) (o : Option (List ℤ)) → option_map all_one (option_map (λ ys. x ∷ ys) o) ≡ map_both (together true) (Some (is_one x)) (option_map all_one o)
unfolding all_one map_both together
inner_every x None = refl
inner_every x (Some ys) = refl

inner_any : (x : ℤ) (o : Option (List ℤ)) → option_map any_one (option_map (λ ys. x ∷ ys) o) ≡ map_both (together false) (Some (is_one x)) (option_map any_one o)
unfolding any_one map_both together
inner_any x None = refl
inner_any x (Some ys) = refl

every_more : (n : Option ℤ) (ns : List (Option ℤ)) → option_map all_one (all_defined (n ∷ ns)) ≡ map_both (together true) (option_map is_one n) (option_map all_one (all_defined ns))
unfolding all_defined map_both
every_more None ns = refl
every_more (Some x) ns = inner_every x (all_defined ns)

any_more : (n : Option ℤ) (ns : List (Option ℤ)) → option_map any_one (all_defined (n ∷ ns)) ≡ map_both (together false) (option_map is_one n) (option_map any_one (all_defined ns))
unfolding all_defined map_both
any_more None ns = refl
any_more (Some x) ns = inner_any x (all_defined ns)

-- one value more in front
pub of_all_more : (e : Bool) (v : Option ValueTree) (vs : List (Option ValueTree)) → of_all e (v ∷ vs) ≡ map_both (together e) (truth_of v) (of_all e vs)
unfolding of_all all_true any_true
of_all_more true v vs = every_more (number_in v) (map number_in vs)
of_all_more false v vs = any_more (number_in v) (map number_in vs)

-- some expressions are evaluated, and others are left
abbrev pub TruthsSoFar : Mode → Env → Bool → Meter → Meter → List Expr → List Expr → Option Bool → Type 0
TruthsSoFar mode env every start now parts left truth =
    Going mode start now (met_all mode env (expr_trees parts)) (met_all mode env (expr_trees left))
    (of_all every (values_of mode env (expr_trees parts)) ≡ map_both (together every) truth (of_all every (values_of mode env (expr_trees left))))

pub truths_begin : (mode : Mode) (env : Env) (every : Bool) (start : Meter) (parts : List Expr) → TruthsSoFar mode env every start start parts parts (Some every)
truths_begin mode env every start parts = going_begins (joins mode) start _ _ refl (sym (first_unit every (of_all every (values_of mode env (expr_trees parts)))))

pub met_part : (mode : Mode) (env : Env) (part : Expr) (rest : List Expr) → met_all mode env (expr_trees (part ∷ rest)) ≡ met mode env (expr_tree part) ++ met_all mode env (expr_trees rest)
unfolding met_all expr_trees
met_part mode env part rest = refl

pub values_part : (mode : Mode) (env : Env) (part : Expr) (rest : List Expr) → values_of mode env (expr_trees (part ∷ rest)) ≡ evaluate mode env (expr_tree part) ∷ values_of mode env (expr_trees rest)
unfolding values_of expr_trees
values_part mode env part rest = refl

pub truths_more : (mode : Mode) (env : Env) (every : Bool) (start now after : Meter) (parts left : List Expr) (truth : Option Bool) (part : Expr) (rest : List Expr) (seen : Option ValueTree)
    → TruthsSoFar mode env every start now parts left truth → left ≡ part ∷ rest
    → Told mode now after (met mode env (expr_tree part)) (evaluate mode env (expr_tree part) ≡ seen)
    → TruthsSoFar mode env every start after parts rest (map_both (together every) truth (truth_of seen))
truths_more mode env every start now after parts left truth part rest seen g cut told =
    going_more (joins mode) start now after _ _ (met mode env (expr_tree part)) _ g (ap (λ l. met_all mode env (expr_trees l)) cut ∙ met_part mode env part rest) told
    (λ known value.
    known
    ∙ ap (λ l. map_both (together every) truth (of_all every l))
    (ap (λ l. values_of mode env (expr_trees l)) cut ∙ values_part mode env part rest ∙ ap (λ v. v ∷ values_of mode env (expr_trees rest)) value)
    ∙ ap (map_both (together every) truth) (of_all_more every seen (values_of mode env (expr_trees rest)))
    ∙ regrouped every truth (truth_of seen) (of_all every (values_of mode env (expr_trees rest))))

pub of_none : (e : Bool) → of_all e [] ≡ Some e
unfolding of_all all_true any_true all_defined all_one any_one
of_none true = refl
of_none false = refl

pub no_parts : (mode : Mode) (env : Env) (left : List Expr) → left ≡ [] → met_all mode env (expr_trees left) ≡ []
unfolding met_all expr_trees
no_parts mode env left none = ap (λ l. met_all mode env (expr_trees l)) none

pub truths_end : (mode : Mode) (env : Env) (every : Bool) (start now : Meter) (parts left : List Expr) (truth : Option Bool)
    → TruthsSoFar mode env every start now parts left truth → left ≡ []
    → Told mode start now (met_all mode env (expr_trees parts)) (truth ≡ of_all every (values_of mode env (expr_trees parts)))
unfolding values_of expr_trees
truths_end mode env every start now parts left truth g none =
    going_ends start now _ _ g (no_parts mode env left none)
    (λ known.
    sym (known ∙ ap (λ l. map_both (together every) truth (of_all every (values_of mode env (expr_trees l)))) none
    ∙ ap (map_both (together every) truth) (of_none every) ∙ last_unit every truth))
