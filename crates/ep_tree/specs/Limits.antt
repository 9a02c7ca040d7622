-- Limits of what is evaluated: of how many nodes are met, and of the numbers that are their values.
--
-- The limits are this project's own.
use Rattle.std.specs.Prelude.{ℕ, ◌+◌, Bool, List, [], ◌∷◌, ◌++◌, ℤ, pos, ◌*ℤ◌, if◌then◌else◌, nat_lt, Ok, Err, flat_map, Option, Result, unwrap_or, option_to_list}
use Rattle.std.specs.List.{list_any}
use Rattle.ep_base.specs.Reads.{is_too_far}
use Rattle.ep_base.specs.declared.operators.Limit.{Limit}
use Rattle.ep_tree.specs.Environments.{Env}
use Rattle.ep_tree.specs.Evaluation.{domain_values, evaluate, number_in, scalars_in}
use Rattle.ep_tree.specs.Measures.{Met, a_generator, a_node, met, met_domain, size_of}
use Rattle.ep_tree.specs.Trees.{DomainTree, ExprTree, folded}
use Rattle.ep_tree.specs.Values.{ValueTree}
use Rattle.ep_tree.specs.declared.syntax.FoldOp.{FoldOp}
use Rattle.ep_tree.specs.declared.values.Mode.{Mode}

-- the greatest size of a statement and of an instance
abbrev pub MOST_SIZE : ℕ
MOST_SIZE = 5000000

-- the greatest weight of an instance
abbrev pub MOST_WEIGHT : ℕ
MOST_WEIGHT = 20000000

-- a number times the first of some numbers, for each count of them
unfoldable pub products_from : ℤ → List ℤ → List ℤ
products_from n [] = []
products_from n (x ∷ xs) = (n *ℤ x) ∷ products_from (n *ℤ x) xs

-- The numbers at a node: its value, where that is a number and no matrix, and at a `product` the products of its first
-- parts.
unfoldable pub numbers_at : Mode → Met → List ℤ
numbers_at mode a_generator = []
numbers_at mode (a_node env (folded p FoldOp.Product m)) =
    option_to_list (number_in (evaluate mode env (folded p FoldOp.Product m)))
    ++ products_from (pos 1) (unwrap_or (scalars_in (evaluate mode env m)) [])
numbers_at mode (a_node env e) = option_to_list (number_in (evaluate mode env e))

-- The limits that some nodes pass, where so many others were met before: of size, and of the numbers at them. Either
-- may be named.
unfoldable pub limits_of_values : Mode → ℕ → List Met → List Limit
limits_of_values mode before ms =
    (if nat_lt MOST_SIZE (before + size_of ms) then Limit.Size ∷ [] else [])
    ++ (if list_any is_too_far (flat_map (numbers_at mode) ms) then Limit.Reach ∷ [] else [])

-- an answer where no limit is passed, and else the limits of which one may be named
unfoldable pub within : {A : Type 0} → List Limit → A → Result A (List Limit)
within [] answer = Ok answer
within (l ∷ ls) answer = Err (l ∷ ls)

-- what evaluating an expression says where so many nodes were met before: its value, and how many were met by then
unfoldable pub counted_value : Mode → ℕ → Env → ExprTree → Result (Option ValueTree × ℕ) (List Limit)
counted_value mode before env e =
    let ms : List Met = met mode env e in
    within (limits_of_values mode before ms) (evaluate mode env e, before + size_of ms)

-- the same of a scalar domain and its numbers
unfoldable pub counted_domain : Mode → ℕ → Env → DomainTree → Result (Option (List ℤ) × ℕ) (List Limit)
counted_domain mode before env d =
    let ms : List Met = met_domain mode env d in
    within (limits_of_values mode before ms) (domain_values mode env d, before + size_of ms)
