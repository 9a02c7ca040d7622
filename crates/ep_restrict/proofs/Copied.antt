-- Lists that a loop copies.
use Rattle.std.proofs.Common.{◌≡◌, ℕ, ◌+◌, ◌-◌, ◌<◌, List, [], ◌∷◌, ◌++◌, length, take, get_or, refl, sym, ap, ◌∙◌}
use Rattle.std.specs.Prelude.{None, Some, map, option_map, option_to_list, slice_get}
use Rattle.std.proofs.lemmas.Grind.{flat_map-append}
use Rattle.std.proofs.lemmas.List.{map-append, take_more}
use Rattle.std.proofs.lemmas.Option.{slice_get-get_or, slice_get-map}
use Rattle.std.proofs.lemmas.List.Concat.{flat_map-cons}
use Rattle.ep_restrict.specs.Restricted.{numbered_clauses, restricted}
use Rattle.ep_tree.specs.Binding.{Find, Instance}
use Rattle.ep_tree.specs.Environments.{Env}
use Rattle.ep_tree.specs.Trees.{ExprTree}
use Rattle.ep_tree.specs.Views.{expr_tree}
use Rattle.ep_tree.specs.declared.syntax.Expr.{Expr}

-- one element more on either side
pub map_more : {A B : Type 0} (f : A → B) (xs ys : List A) (x d : A) (i : ℕ) → i < length ys → map f xs ≡ map f (take i ys) → f x ≡ f (get_or ys i d)
    → map f (xs ++ x ∷ []) ≡ map f (take (i + 1) ys)
map_more f xs ys x d i within before same =
    map-append f xs (x ∷ []) ∙ ap (λ l. l ++ f x ∷ []) before ∙ ap (λ y. map f (take i ys) ++ y ∷ []) same
    ∙ sym (ap (map f) (take_more ys i d within) ∙ map-append f (take i ys) (get_or ys i d ∷ []))

-- no number, no clause
pub none_at : (cs : List ExprTree) → ◌≡◌ {A = List ExprTree} [] (numbered_clauses cs [])
unfolding numbered_clauses
none_at cs = refl

-- one clause more, that of the next number
pub clause_more : (cs : List ExprTree) (ns : List ℕ) (i : ℕ) (xs : List Expr) (x : Expr) → i < length ns
    → map expr_tree xs ≡ numbered_clauses cs (take i ns) → slice_get cs (get_or ns i 0 - 1) ≡ Some (expr_tree x)
    → map expr_tree (xs ++ x ∷ []) ≡ numbered_clauses cs (take (i + 1) ns)
unfolding numbered_clauses
clause_more cs ns i xs x within before got =
    map-append expr_tree xs (x ∷ []) ∙ ap (λ l. l ++ expr_tree x ∷ []) before
    ∙ ap (λ o. numbered_clauses cs (take i ns) ++ (option_to_list o ++ [])) (sym got)
    ∙ ap (λ ys. numbered_clauses cs (take i ns) ++ ys) (sym (flat_map-cons (λ m. option_to_list (slice_get cs (m - 1))) (get_or ns i 0) []))
    ∙ sym (flat_map-append (λ m. option_to_list (slice_get cs (m - 1))) (take i ns) (get_or ns i 0 ∷ []))
    ∙ ap (numbered_clauses cs) (sym (take_more ns i 0 within))

-- the clause of a number, copied
pub clause_got : (cs : List Expr) (k : ℕ) (d x : Expr) → k < length cs → expr_tree x ≡ expr_tree (get_or cs k d) → slice_get (map expr_tree cs) k ≡ Some (expr_tree x)
clause_got cs k d x within same =
    slice_get-map expr_tree cs k ∙ ap (option_map expr_tree) (slice_get-get_or cs k d within) ∙ ap (λ e. Some e) (sym same)

-- an instance without an objective
abbrev pub plain_of : List Find → List ExprTree → Env → Instance
plain_of fs cs env = record { finds = fs; clauses = cs; goal = None; env = env }

-- with these parts it is the instance with the clauses of these numbers alone
pub made : (i r : Instance) (ns : List ℕ) (fs : List Find) (cs : List ExprTree) (env : Env) → r ≡ plain_of fs cs env → fs ≡ i.finds
    → cs ≡ numbered_clauses i.clauses ns → env ≡ i.env → r ≡ restricted i ns
made i r ns fs cs env is finds clauses known =
    is ∙ ap (λ x. plain_of x cs env) finds ∙ ap (λ x. plain_of i.finds x env) clauses ∙ ap (plain_of i.finds (numbered_clauses i.clauses ns)) known
