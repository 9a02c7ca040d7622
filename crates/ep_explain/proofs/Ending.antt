-- What is explained, begun and ended.
use Rattle.std.proofs.Common.{◌≡◌, ℕ, Bool, true, false, List, [], sym, ap, ◌∙◌, subst}
use Rattle.std.specs.Prelude.{IfSome, None, Option, Some, is_some, map}
use Rattle.std.specs.List.{All}
use Rattle.std.specs.declared.vec.Vec.{Vec}
use Rattle.std.specs.declared.alloc.Global.{Global}
use Rattle.std.proofs.lemmas.List.Elements.{All-nil, All-weaker}
use Rattle.cnf_core.specs.Events.{LogState}
use Rattle.ep_restrict.specs.Restricted.{AreClauseNumbers, numbered_clauses, restricted}
use Rattle.ep_tree.specs.Binding.{Instance}
use Rattle.ep_tree.specs.Trees.{ExprTree}
use Rattle.ep_tree.specs.Views.{assigned}
use Rattle.ep_tree.specs.declared.values.Assignment.{Assignment}
use Rattle.ep_tree.specs.declared.values.Mode.{Mode}
use Rattle.ep_explain.proofs.Leaving.{explains}
use Rattle.ep_explain.specs.Explained.{Explains, HasNoSolution, IsWrittenSolution, all_but, without_goal}
use Rattle.ep_explain.specs.Narrowing.{IsAllSettled, AreLeft, IsNarrowed, IsSeen, IsWitnessed, left_numbers, settled_clause}
use Rattle.ep_explain.specs.Tried.{IsRightExplanation, IsSpentAt, ends_spent, named_clause}
use Rattle.ep_explain.specs.declared.explaining.Dropped.{Dropped}
use Rattle.ep_explain.specs.declared.explaining.Explained.TheVariants.{Core, Satisfiable, Spent as SpentOn}
use Rattle.ep_explain.specs.declared.left.Left.{Left}
use Rattle.ep_explain.specs.declared.left.Narrowed.{Narrowed}

-- ---- the beginning

unsettled_one : (mode : Mode) (i : Instance) (ns : List ℕ) (one : Left) → one.without ≡ None → IsWitnessed mode i ns one
unsettled_one mode i ns one none = subst (λ w. IfSome w (λ a. IsWrittenSolution mode (restricted i (all_but one.clause ns)) (assigned a))) (sym none) tt

pub narrowed_begun : (mode : Mode) (i : Instance) (all : List ℕ) (n : Narrowed) → left_numbers n.left.items ≡ all → All (λ one. one.without ≡ None) n.left.items
    → n.seen.items ≡ [] → AreClauseNumbers i all → HasNoSolution mode (restricted i all) → IsNarrowed mode i n
narrowed_begun mode i all n same unsettled nothing are none = record {
  left = record {
    numbers = subst (AreClauseNumbers i) (sym same) are;
    none = subst (λ ns. HasNoSolution mode (restricted i ns)) (sym same) none;
    settled = All-weaker (λ one. one.without ≡ None) (IsWitnessed mode i (left_numbers n.left.items)) (unsettled_one mode i (left_numbers n.left.items)) n.left.items unsettled;
  };
  seen = subst (All (IsSeen mode i (left_numbers n.left.items))) (sym nothing) (All-nil (IsSeen mode i (left_numbers n.left.items)));
}

-- ---- the ends

whole : (i : Instance) (ns : List ℕ) → numbered_clauses i.clauses ns ≡ i.clauses → restricted i ns ≡ without_goal i
whole i ns same = ap (λ (cs : List ExprTree). record i { clauses = cs; goal = None }) same

pub right_satisfiable : (mode : Mode) (i : Instance) (budget : ℕ) (log : LogState) (ns : List ℕ) (a : Assignment) → numbered_clauses i.clauses ns ≡ i.clauses
    → IsWrittenSolution mode (restricted i ns) (assigned a) → IsRightExplanation mode i budget log (Satisfiable a)
unfolding IsRightExplanation
right_satisfiable mode i budget log ns a same shown = subst (λ x. IsWrittenSolution mode x (assigned a)) (whole i ns same) shown

pub right_spent : (mode : Mode) (i : Instance) (budget : ℕ) (log : LogState) (numbers : Vec ℕ Global) → IsSpentAt mode i budget log numbers.items
    → IsRightExplanation mode i budget log (SpentOn numbers)
unfolding IsRightExplanation
right_spent mode i budget log numbers spent = spent

pub right_core : (mode : Mode) (i : Instance) (budget : ℕ) (log : LogState) (left : List Left) (named : Vec Dropped Global) → AreLeft mode i left → IsAllSettled left
    → map named_clause named.items ≡ map settled_clause left → IsRightExplanation mode i budget log (Core named)
unfolding IsRightExplanation
right_core mode i budget log left named l all same = subst (Explains mode i) (sym same) (explains mode i left l all)

-- ---- the ends, as the code comes to them

pub some_spent : (mode : Mode) (i : Instance) (budget : ℕ) (log : LogState) (o : Option (Vec ℕ Global)) (numbers : Vec ℕ Global) → o ≡ Some numbers
    → IfSome o (λ ns. IsSpentAt mode i budget log ns.items) → IsRightExplanation mode i budget log (SpentOn numbers)
some_spent mode i budget log o numbers is spent =
    right_spent mode i budget log numbers (subst (λ (x : Option (Vec ℕ Global)). IfSome x (λ ns. IsSpentAt mode i budget log ns.items)) is spent)

pub ends_satisfiable : (s : Bool) (a : Assignment) → s ≡ false → s ≡ ends_spent (Satisfiable a)
unfolding ends_spent
ends_satisfiable s a is = is

pub ends_core : (s : Bool) (o : Option (Vec ℕ Global)) (named : Vec Dropped Global) → s ≡ is_some o → o ≡ None → s ≡ ends_spent (Core named)
unfolding ends_spent
ends_core s o named spent is = spent ∙ ap is_some is

pub ends_open : (s : Bool) (numbers : Vec ℕ Global) → s ≡ true → s ≡ ends_spent (SpentOn numbers)
unfolding ends_spent
ends_open s numbers is = is

pub ends_some : (s : Bool) (o : Option (Vec ℕ Global)) (numbers : Vec ℕ Global) → s ≡ is_some o → o ≡ Some numbers → s ≡ ends_spent (SpentOn numbers)
unfolding ends_spent
ends_some s o numbers spent is = spent ∙ ap is_some is
