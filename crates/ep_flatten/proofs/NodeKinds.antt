-- Which kinds of node are left where others are excluded.
use Rattle.std.specs.Prelude.{◌≡◌, ℕ, ℤ, true, false, List, refl}
use Rattle.std.proofs.Common.{Vec, sym}
use Rattle.std.specs.Global.{Global}
use Rattle.std.proofs.lemmas.Bool.{false≢true}
use Rattle.ep_base.specs.declared.keys.Key.{Key}
use Rattle.ep_base.specs.declared.operators.CompareOp.{CompareOp}
use Rattle.ep_base.specs.declared.operators.LexOp.{LexOp}
use Rattle.ep_flatten.specs.Building.{is_truth_node}
use Rattle.ep_flatten.specs.Saying.{is_operation}
use Rattle.ep_ground.specs.NodeViews.{plain_node}
use Rattle.ep_ground.specs.Nodes.{is_partial}
use Rattle.ep_ground.specs.declared.nodes.Node.{Node}
use Rattle.ep_ground.specs.declared.nodes.Node.TheVariants as code
use Rattle.ep_ground.specs.declared.terms.Term.{Term}

-- a node that isn't a number or a cell and has a value is an operation
pub operation_left : (n : Node) → is_partial (plain_node n) ≡ false → ((x : ℤ) → n ≡ code.Const x → ⊥) → ((x : ℕ) → n ≡ code.Cell x → ⊥) → is_operation (plain_node n) ≡ true
unfolding is_operation is_partial
operation_left (code.Const x) h p q = absurd (p x refl)
operation_left (code.Cell x) h p q = absurd (q x refl)
operation_left code.Undefined h p q = sym h
operation_left (code.Div a b) h p q = sym h
operation_left (code.Mod a b) h p q = sym h
operation_left (code.Pick ts ks us) h p q = sym h
operation_left (code.Whole a ts) h p q = sym h
operation_left n h p q = refl

-- an operation that is no function of numbers is a truth value
pub truth_left : (n : Node) → is_operation (plain_node n) ≡ true
    → ((x : ℤ) (ps : Vec (ℤ × Term) Global) → n ≡ code.Add x ps → ⊥) → ((x y : Term) → n ≡ code.Mul x y → ⊥) → ((x : Term) (k : ℕ) → n ≡ code.Pow x k → ⊥) → ((x : Term) → n ≡ code.Abs x → ⊥)
    → ((ts : Vec Term Global) → n ≡ code.Min ts → ⊥) → ((ts : Vec Term Global) → n ≡ code.Max ts → ⊥) → ((x y : Term) → n ≡ code.SafeDiv x y → ⊥) → ((x y : Term) → n ≡ code.SafeMod x y → ⊥)
    → ((ts : Vec Term Global) (ks : Vec Key Global) (us : Vec Term Global) → n ≡ code.SafePick ts ks us → ⊥) → is_truth_node (plain_node n) ≡ true
unfolding is_operation is_truth_node
truth_left (code.Const x) h p1 p2 p3 p4 p5 p6 p7 p8 p9 = h
truth_left (code.Cell x) h p1 p2 p3 p4 p5 p6 p7 p8 p9 = h
truth_left code.Undefined h p1 p2 p3 p4 p5 p6 p7 p8 p9 = h
truth_left (code.Div a b) h p1 p2 p3 p4 p5 p6 p7 p8 p9 = h
truth_left (code.Mod a b) h p1 p2 p3 p4 p5 p6 p7 p8 p9 = h
truth_left (code.Pick ts ks us) h p1 p2 p3 p4 p5 p6 p7 p8 p9 = h
truth_left (code.Whole a ts) h p1 p2 p3 p4 p5 p6 p7 p8 p9 = h
truth_left (code.Add x ps) h p1 p2 p3 p4 p5 p6 p7 p8 p9 = absurd (p1 x ps refl)
truth_left (code.Mul x y) h p1 p2 p3 p4 p5 p6 p7 p8 p9 = absurd (p2 x y refl)
truth_left (code.Pow x k) h p1 p2 p3 p4 p5 p6 p7 p8 p9 = absurd (p3 x k refl)
truth_left (code.Abs x) h p1 p2 p3 p4 p5 p6 p7 p8 p9 = absurd (p4 x refl)
truth_left (code.Min ts) h p1 p2 p3 p4 p5 p6 p7 p8 p9 = absurd (p5 ts refl)
truth_left (code.Max ts) h p1 p2 p3 p4 p5 p6 p7 p8 p9 = absurd (p6 ts refl)
truth_left (code.SafeDiv x y) h p1 p2 p3 p4 p5 p6 p7 p8 p9 = absurd (p7 x y refl)
truth_left (code.SafeMod x y) h p1 p2 p3 p4 p5 p6 p7 p8 p9 = absurd (p8 x y refl)
truth_left (code.SafePick ts ks us) h p1 p2 p3 p4 p5 p6 p7 p8 p9 = absurd (p9 ts ks us refl)
truth_left n h p1 p2 p3 p4 p5 p6 p7 p8 p9 = refl

-- no other kind is a truth value
pub no_truth_left : (n : Node) → is_truth_node (plain_node n) ≡ true
    → ((op : CompareOp) (x y : Term) → n ≡ code.Compare op x y → ⊥) → ((op : LexOp) (ts us : Vec Term Global) → n ≡ code.Lex op ts us → ⊥) → ((x : Term) (ns : List ℤ) → n ≡ code.Member x ns → ⊥) → ((x : Term) → n ≡ code.Not x → ⊥)
    → ((ts : Vec Term Global) → n ≡ code.And ts → ⊥) → ((ts : Vec Term Global) → n ≡ code.Or ts → ⊥) → ((x y : Term) → n ≡ code.Iff x y → ⊥) → ((ts : Vec Term Global) → n ≡ code.AllDiff ts → ⊥)
    → ((ts : Vec Term Global) (ns : Vec ℤ Global) (us : Vec Term Global) → n ≡ code.Gcc ts ns us → ⊥) → ((ts : Vec Term Global) (cs ns : Vec ℤ Global) → n ≡ code.AtLeast ts cs ns → ⊥)
    → ((ts : Vec Term Global) (cs ns : Vec ℤ Global) → n ≡ code.AtMost ts cs ns → ⊥) → ((ts : Vec Term Global) (rows : Vec Key Global) → n ≡ code.Table ts rows → ⊥) → ⊥
unfolding is_truth_node
no_truth_left (code.Compare op x y) h p1 p2 p3 p4 p5 p6 p7 p8 p9 p10 p11 p12 = p1 op x y refl
no_truth_left (code.Lex op ts us) h p1 p2 p3 p4 p5 p6 p7 p8 p9 p10 p11 p12 = p2 op ts us refl
no_truth_left (code.Member x ns) h p1 p2 p3 p4 p5 p6 p7 p8 p9 p10 p11 p12 = p3 x ns refl
no_truth_left (code.Not x) h p1 p2 p3 p4 p5 p6 p7 p8 p9 p10 p11 p12 = p4 x refl
no_truth_left (code.And ts) h p1 p2 p3 p4 p5 p6 p7 p8 p9 p10 p11 p12 = p5 ts refl
no_truth_left (code.Or ts) h p1 p2 p3 p4 p5 p6 p7 p8 p9 p10 p11 p12 = p6 ts refl
no_truth_left (code.Iff x y) h p1 p2 p3 p4 p5 p6 p7 p8 p9 p10 p11 p12 = p7 x y refl
no_truth_left (code.AllDiff ts) h p1 p2 p3 p4 p5 p6 p7 p8 p9 p10 p11 p12 = p8 ts refl
no_truth_left (code.Gcc ts ns us) h p1 p2 p3 p4 p5 p6 p7 p8 p9 p10 p11 p12 = p9 ts ns us refl
no_truth_left (code.AtLeast ts cs ns) h p1 p2 p3 p4 p5 p6 p7 p8 p9 p10 p11 p12 = p10 ts cs ns refl
no_truth_left (code.AtMost ts cs ns) h p1 p2 p3 p4 p5 p6 p7 p8 p9 p10 p11 p12 = p11 ts cs ns refl
no_truth_left (code.Table ts rows) h p1 p2 p3 p4 p5 p6 p7 p8 p9 p10 p11 p12 = p12 ts rows refl
no_truth_left n h p1 p2 p3 p4 p5 p6 p7 p8 p9 p10 p11 p12 = false≢true h
