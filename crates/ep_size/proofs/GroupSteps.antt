-- What is known of an expression in brackets.
use Rattle.ep_size.proofs.Words.{◌≡◌, ℕ, Bool, true, false, List, ◌∷◌, ℤ, refl, sym, ap, ◌∙◌, arith, Place, extent-group, holds_decision-group, Env, type_in, a_node, decided_weight, number_reach, reaches_at, weight_at, decisions_in, extent, group_extent, holds_decision, truth_span, ExprTree, group, filled, single, Mode, ValueType, IsKnownExtent, TellsValue, grid_of, plain_span, Finished, IsLightNode, IsNumberNode, Matrix, Matrix'}
use Rattle.ep_tree.specs.Reach as defined
use Rattle.std.specs.declared.alloc.Global.{Global}
use Rattle.std.specs.declared.vec.Vec.{Vec}
use Rattle.ep_size.proofs.ExtentViews.{grid_of-matrix}
use Rattle.ep_size.proofs.FormSteps.{measured_decided, own_weight}
use Rattle.ep_size.proofs.Measurings.{near_nothing}
use Rattle.ep_size.specs.declared.extents.Extent.{Extent, Cells, Fixed, NoParts, Nothing, Number}
use Rattle.ep_size.specs.declared.extents.Span.{Span}

-- ---- a node that weighs nothing

pub light_number : (mode : Mode) (env : Env) (e : ExprTree) (x : Extent) (s : Span) → grid_of x ≡ single (plain_span s) → IsLightNode mode env e x
    → IsNumberNode mode env e 0 (plain_span s)
light_number mode env e x s is h = record { plain = h.plain; value = h.known.extent ∙ is; holds = h.holds; weight = h.weight }

-- a matrix of cells is near
pub light_cells : (mode : Mode) (env : Env) (e : ExprTree) (x : Extent) (t : ℕ) (s : Span) (i : List ℤ) (is : List (List ℤ))
    → grid_of x ≡ filled (plain_span s) (i ∷ is) → IsLightNode mode env e x → Finished mode env e t t x
unfolding number_reach filled
light_cells mode env e x t s i is grid h = record {
  near = near_nothing mode (a_node env e) (h.plain ∙ ap number_reach (h.known.extent ∙ grid));
  known = h.known;
  added = let none = h.weight in omega (arith, none);
}

-- a matrix of parts is near
pub light_matrix : (mode : Mode) (env : Env) (e : ExprTree) (t : ℕ) (is : Vec ℤ Global) (parts : Vec Extent Global) → IsLightNode mode env e (Matrix is parts)
    → Finished mode env e t t (Matrix is parts)
unfolding number_reach
light_matrix mode env e t is parts h = record {
  near = near_nothing mode (a_node env e) (h.plain ∙ ap number_reach (h.known.extent ∙ grid_of-matrix is parts));
  known = h.known;
  added = let none = h.weight in omega (arith, none);
}

-- a decision variable doesn't both stand in an expression and not
pub both_ways : (A : Type 0) (b : Bool) → b ≡ true → b ≡ false → A
both_ways A true h k = absurd cc
both_ways A false h k = absurd cc

-- ---- brackets

-- what is known of brackets that hold a decision variable
bracketed : (mode : Mode) (env : Env) (p : Place) (e : ExprTree) (t : ValueType) → holds_decision (decisions_in env) (group p e) ≡ true → t ≡ type_in env e
    → extent mode env (group p e) ≡ group_extent t (extent mode env e)
bracketed mode env p e t holds typed =
    extent-group mode env p e ∙ measured_decided mode env (group p e) (group_extent (type_in env e) (extent mode env e)) holds
    ∙ ap (λ u. group_extent u (extent mode env e)) (sym typed)

group_weight : (mode : Mode) (env : Env) (p : Place) (e : ExprTree) → holds_decision (decisions_in env) (group p e) ≡ true → weight_at mode (a_node env (group p e)) ≡ 0
unfolding decided_weight
group_weight mode env p e h = own_weight mode env (group p e) 0 h refl

-- a truth value in brackets
pub truth_group : (mode : Mode) (env : Env) (p : Place) (e : ExprTree) (t : ValueType) → holds_decision (decisions_in env) (group p e) ≡ true → t ≡ type_in env e
    → ((y : defined.Extent) → group_extent t y ≡ single truth_span) → IsNumberNode mode env (group p e) 0 truth_span
unfolding reaches_at
truth_group mode env p e t holds typed is = record {
  plain = refl;
  value = bracketed mode env p e t holds typed ∙ is (extent mode env e);
  holds = holds;
  weight = group_weight mode env p e holds;
}

-- what is told of an expression with a decision variable is told of it in brackets
tells_group : (mode : Mode) (env : Env) (p : Place) (e : ExprTree) (x : Extent) → holds_decision (decisions_in env) (group p e) ≡ true → TellsValue mode env e x
    → TellsValue mode env (group p e) x
unfolding TellsValue
tells_group mode env p e (Number s) holds h = holds
tells_group mode env p e (Cells s is) holds h = holds
tells_group mode env p e (Fixed held) holds h = both_ways _ _ holds (holds_decision-group (decisions_in env) p e ∙ h.0)
tells_group mode env p e (Matrix' is _ parts) holds h = holds
tells_group mode env p e Nothing holds h = both_ways _ _ holds (holds_decision-group (decisions_in env) p e ∙ h.0)
tells_group mode env p e NoParts holds h = both_ways _ _ holds (holds_decision-group (decisions_in env) p e ∙ h.0)

-- anything else in brackets
pub same_group : (mode : Mode) (env : Env) (p : Place) (e : ExprTree) (t : ValueType) (x : Extent) → holds_decision (decisions_in env) (group p e) ≡ true
    → t ≡ type_in env e → ((y : defined.Extent) → group_extent t y ≡ y) → IsKnownExtent mode env e x → IsLightNode mode env (group p e) x
unfolding reaches_at
same_group mode env p e t x holds typed same h = record {
  plain = refl;
  known = record {
    extent = bracketed mode env p e t holds typed ∙ same (extent mode env e) ∙ h.extent;
    value = tells_group mode env p e x holds h.value;
  };
  holds = holds;
  weight = group_weight mode env p e holds;
}
