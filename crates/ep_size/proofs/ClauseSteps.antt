-- Clauses that are measured one after another.
use Rattle.ep_size.proofs.Words.{◌≡◌, List, [], ◌∷◌, ◌++◌, refl, sym, ap, ◌∙◌, map, append-nil, met_in, Env, Met, met, ExprTree, expr_tree, Expr, Mode, Going, Told, Totals}
use Rattle.ep_size.proofs.MeterSteps.{going_begins, going_ends, going_more}

-- what some clauses meet
abbrev pub met_clauses : Mode → Env → List Expr → List Met
met_clauses mode env clauses = met_in mode env (map expr_tree clauses)

-- some clauses are measured, and these are left
abbrev pub ClausesSoFar : Mode → Env → Totals → Totals → List Expr → List Expr → Type 0
ClausesSoFar mode env start now all left = Going mode start now (met_clauses mode env all) (met_clauses mode env left) (Unit {0})

pub clauses_begin : (mode : Mode) (env : Env) (start : Totals) (all : List Expr) → ClausesSoFar mode env start start all all
clauses_begin mode env start all = going_begins mode start _ _ refl tt

met_first : (mode : Mode) (env : Env) (x : Expr) (xs : List Expr) → met_clauses mode env (x ∷ xs) ≡ met mode env (expr_tree x) ++ met_clauses mode env xs
unfolding met_in
met_first mode env x xs = refl

pub clauses_more : (mode : Mode) (env : Env) (start now after : Totals) (all left : List Expr) (x : Expr) (rest : List Expr) → ClausesSoFar mode env start now all left
    → left ≡ x ∷ rest → Told mode now after (met mode env (expr_tree x)) (Unit {0}) → ClausesSoFar mode env start after all rest
clauses_more mode env start now after all left x rest g cut told =
    going_more mode start now after _ _ (met mode env (expr_tree x)) _ g (ap (met_clauses mode env) cut ∙ met_first mode env x rest) told (λ p q. tt)

none_left : (mode : Mode) (env : Env) → met_clauses mode env [] ≡ []
unfolding met_in
none_left mode env = refl

pub clauses_end : (mode : Mode) (env : Env) (start now : Totals) (all left : List Expr) → ClausesSoFar mode env start now all left → left ≡ []
    → Told mode start now (met_clauses mode env all) (Unit {0})
clauses_end mode env start now all left g none = going_ends mode start now _ _ g (ap (met_clauses mode env) none ∙ none_left mode env) (λ p. tt)

-- one expression alone
pub met_one : (mode : Mode) (env : Env) (e : ExprTree) → met mode env e ≡ met_in mode env (e ∷ [])
unfolding met_in
met_one mode env e = sym (append-nil (met mode env e))

pub met_none : (mode : Mode) (env : Env) → met_in mode env [] ≡ []
unfolding met_in
met_none mode env = refl
