-- Which kinds of node are left where others are excluded.
use Rattle.std.specs.Prelude.{◌≡◌, ℕ, ℤ, List, refl}
use Rattle.std.proofs.Common.{Vec}
use Rattle.std.specs.Global.{Global}
use Rattle.ep_base.specs.declared.keys.Key.{Key}
use Rattle.ep_base.specs.declared.operators.CompareOp.{CompareOp}
use Rattle.ep_base.specs.declared.operators.LexOp.{LexOp}
use Rattle.ep_defined.specs.Images.{image_kind}
use Rattle.ep_defined.specs.declared.kinds.Kind.{Kind}
use Rattle.ep_ground.specs.NodeViews.{plain_node}
use Rattle.ep_ground.specs.declared.nodes.Node.{Node}
use Rattle.ep_ground.specs.declared.nodes.Node.TheVariants as code
use Rattle.ep_ground.specs.declared.terms.Term.{Term}

-- a node of no other kind is a truth value
pub truth_left : (n : Node)
    → ((x : ℤ) → n ≡ code.Const x → ⊥) → (n ≡ code.Undefined → ⊥) → ((x : ℕ) → n ≡ code.Cell x → ⊥)
    → ((x : ℤ) (ps : Vec (ℤ × Term) Global) → n ≡ code.Add x ps → ⊥) → ((x y : Term) → n ≡ code.Mul x y → ⊥) → ((x y : Term) → n ≡ code.Div x y → ⊥)
    → ((x y : Term) → n ≡ code.Mod x y → ⊥) → ((x : Term) (k : ℕ) → n ≡ code.Pow x k → ⊥) → ((x : Term) → n ≡ code.Abs x → ⊥)
    → ((ts : Vec Term Global) → n ≡ code.Min ts → ⊥) → ((ts : Vec Term Global) → n ≡ code.Max ts → ⊥) → ((ts : Vec Term Global) (ks : Vec Key Global) (us : Vec Term Global) → n ≡ code.Pick ts ks us → ⊥)
    → ((x : Term) (ts : Vec Term Global) → n ≡ code.Whole x ts → ⊥) → ((x y : Term) → n ≡ code.SafeDiv x y → ⊥) → ((x y : Term) → n ≡ code.SafeMod x y → ⊥)
    → ((ts : Vec Term Global) (ks : Vec Key Global) (us : Vec Term Global) → n ≡ code.SafePick ts ks us → ⊥)
    → image_kind (plain_node n) ≡ Kind.Truth
unfolding image_kind
truth_left (code.Const x) p1 p2 p3 p4 p5 p6 p7 p8 p9 p10 p11 p12 p13 p14 p15 p16 = absurd (p1 x refl)
truth_left code.Undefined p1 p2 p3 p4 p5 p6 p7 p8 p9 p10 p11 p12 p13 p14 p15 p16 = absurd (p2 refl)
truth_left (code.Cell x) p1 p2 p3 p4 p5 p6 p7 p8 p9 p10 p11 p12 p13 p14 p15 p16 = absurd (p3 x refl)
truth_left (code.Add x ps) p1 p2 p3 p4 p5 p6 p7 p8 p9 p10 p11 p12 p13 p14 p15 p16 = absurd (p4 x ps refl)
truth_left (code.Mul x y) p1 p2 p3 p4 p5 p6 p7 p8 p9 p10 p11 p12 p13 p14 p15 p16 = absurd (p5 x y refl)
truth_left (code.Div x y) p1 p2 p3 p4 p5 p6 p7 p8 p9 p10 p11 p12 p13 p14 p15 p16 = absurd (p6 x y refl)
truth_left (code.Mod x y) p1 p2 p3 p4 p5 p6 p7 p8 p9 p10 p11 p12 p13 p14 p15 p16 = absurd (p7 x y refl)
truth_left (code.Pow x k) p1 p2 p3 p4 p5 p6 p7 p8 p9 p10 p11 p12 p13 p14 p15 p16 = absurd (p8 x k refl)
truth_left (code.Abs x) p1 p2 p3 p4 p5 p6 p7 p8 p9 p10 p11 p12 p13 p14 p15 p16 = absurd (p9 x refl)
truth_left (code.Min ts) p1 p2 p3 p4 p5 p6 p7 p8 p9 p10 p11 p12 p13 p14 p15 p16 = absurd (p10 ts refl)
truth_left (code.Max ts) p1 p2 p3 p4 p5 p6 p7 p8 p9 p10 p11 p12 p13 p14 p15 p16 = absurd (p11 ts refl)
truth_left (code.Pick ts ks us) p1 p2 p3 p4 p5 p6 p7 p8 p9 p10 p11 p12 p13 p14 p15 p16 = absurd (p12 ts ks us refl)
truth_left (code.Whole x ts) p1 p2 p3 p4 p5 p6 p7 p8 p9 p10 p11 p12 p13 p14 p15 p16 = absurd (p13 x ts refl)
truth_left (code.SafeDiv x y) p1 p2 p3 p4 p5 p6 p7 p8 p9 p10 p11 p12 p13 p14 p15 p16 = absurd (p14 x y refl)
truth_left (code.SafeMod x y) p1 p2 p3 p4 p5 p6 p7 p8 p9 p10 p11 p12 p13 p14 p15 p16 = absurd (p15 x y refl)
truth_left (code.SafePick ts ks us) p1 p2 p3 p4 p5 p6 p7 p8 p9 p10 p11 p12 p13 p14 p15 p16 = absurd (p16 ts ks us refl)
truth_left n p1 p2 p3 p4 p5 p6 p7 p8 p9 p10 p11 p12 p13 p14 p15 p16 = refl

-- no other node is a truth value
pub no_truth_left : (n : Node) → image_kind (plain_node n) ≡ Kind.Truth
    → ((op : CompareOp) (x y : Term) → n ≡ code.Compare op x y → ⊥) → ((op : LexOp) (ts us : Vec Term Global) → n ≡ code.Lex op ts us → ⊥) → ((x : Term) (ns : List ℤ) → n ≡ code.Member x ns → ⊥)
    → ((x : Term) → n ≡ code.Not x → ⊥) → ((ts : Vec Term Global) → n ≡ code.And ts → ⊥) → ((ts : Vec Term Global) → n ≡ code.Or ts → ⊥)
    → ((x y : Term) → n ≡ code.Iff x y → ⊥) → ((ts : Vec Term Global) → n ≡ code.AllDiff ts → ⊥) → ((ts : Vec Term Global) (ns : Vec ℤ Global) (us : Vec Term Global) → n ≡ code.Gcc ts ns us → ⊥)
    → ((ts : Vec Term Global) (cs ns : Vec ℤ Global) → n ≡ code.AtLeast ts cs ns → ⊥) → ((ts : Vec Term Global) (cs ns : Vec ℤ Global) → n ≡ code.AtMost ts cs ns → ⊥) → ((ts : Vec Term Global) (rows : Vec Key Global) → n ≡ code.Table ts rows → ⊥)
    → ⊥
unfolding image_kind
no_truth_left (code.Const x) e p1 p2 p3 p4 p5 p6 p7 p8 p9 p10 p11 p12 = absurd (cc)
no_truth_left code.Undefined e p1 p2 p3 p4 p5 p6 p7 p8 p9 p10 p11 p12 = absurd (cc)
no_truth_left (code.Cell x) e p1 p2 p3 p4 p5 p6 p7 p8 p9 p10 p11 p12 = absurd (cc)
no_truth_left (code.Add x ps) e p1 p2 p3 p4 p5 p6 p7 p8 p9 p10 p11 p12 = absurd (cc)
no_truth_left (code.Mul x y) e p1 p2 p3 p4 p5 p6 p7 p8 p9 p10 p11 p12 = absurd (cc)
no_truth_left (code.Div x y) e p1 p2 p3 p4 p5 p6 p7 p8 p9 p10 p11 p12 = absurd (cc)
no_truth_left (code.Mod x y) e p1 p2 p3 p4 p5 p6 p7 p8 p9 p10 p11 p12 = absurd (cc)
no_truth_left (code.Pow x k) e p1 p2 p3 p4 p5 p6 p7 p8 p9 p10 p11 p12 = absurd (cc)
no_truth_left (code.Abs x) e p1 p2 p3 p4 p5 p6 p7 p8 p9 p10 p11 p12 = absurd (cc)
no_truth_left (code.Min ts) e p1 p2 p3 p4 p5 p6 p7 p8 p9 p10 p11 p12 = absurd (cc)
no_truth_left (code.Max ts) e p1 p2 p3 p4 p5 p6 p7 p8 p9 p10 p11 p12 = absurd (cc)
no_truth_left (code.Pick ts ks us) e p1 p2 p3 p4 p5 p6 p7 p8 p9 p10 p11 p12 = absurd (cc)
no_truth_left (code.Whole x ts) e p1 p2 p3 p4 p5 p6 p7 p8 p9 p10 p11 p12 = absurd (cc)
no_truth_left (code.SafeDiv x y) e p1 p2 p3 p4 p5 p6 p7 p8 p9 p10 p11 p12 = absurd (cc)
no_truth_left (code.SafeMod x y) e p1 p2 p3 p4 p5 p6 p7 p8 p9 p10 p11 p12 = absurd (cc)
no_truth_left (code.SafePick ts ks us) e p1 p2 p3 p4 p5 p6 p7 p8 p9 p10 p11 p12 = absurd (cc)
no_truth_left (code.Compare op x y) e p1 p2 p3 p4 p5 p6 p7 p8 p9 p10 p11 p12 = p1 op x y refl
no_truth_left (code.Lex op ts us) e p1 p2 p3 p4 p5 p6 p7 p8 p9 p10 p11 p12 = p2 op ts us refl
no_truth_left (code.Member x ns) e p1 p2 p3 p4 p5 p6 p7 p8 p9 p10 p11 p12 = p3 x ns refl
no_truth_left (code.Not x) e p1 p2 p3 p4 p5 p6 p7 p8 p9 p10 p11 p12 = p4 x refl
no_truth_left (code.And ts) e p1 p2 p3 p4 p5 p6 p7 p8 p9 p10 p11 p12 = p5 ts refl
no_truth_left (code.Or ts) e p1 p2 p3 p4 p5 p6 p7 p8 p9 p10 p11 p12 = p6 ts refl
no_truth_left (code.Iff x y) e p1 p2 p3 p4 p5 p6 p7 p8 p9 p10 p11 p12 = p7 x y refl
no_truth_left (code.AllDiff ts) e p1 p2 p3 p4 p5 p6 p7 p8 p9 p10 p11 p12 = p8 ts refl
no_truth_left (code.Gcc ts ns us) e p1 p2 p3 p4 p5 p6 p7 p8 p9 p10 p11 p12 = p9 ts ns us refl
no_truth_left (code.AtLeast ts cs ns) e p1 p2 p3 p4 p5 p6 p7 p8 p9 p10 p11 p12 = p10 ts cs ns refl
no_truth_left (code.AtMost ts cs ns) e p1 p2 p3 p4 p5 p6 p7 p8 p9 p10 p11 p12 = p11 ts cs ns refl
no_truth_left (code.Table ts rows) e p1 p2 p3 p4 p5 p6 p7 p8 p9 p10 p11 p12 = p12 ts rows refl

-- no other node is a quotient or a remainder
pub no_division_left : (n : Node) → image_kind (plain_node n) ≡ Kind.Division
    → ((x y : Term) → n ≡ code.Div x y → ⊥) → ((x y : Term) → n ≡ code.Mod x y → ⊥)
    → ⊥
unfolding image_kind
no_division_left (code.Const x) e p1 p2 = absurd (cc)
no_division_left code.Undefined e p1 p2 = absurd (cc)
no_division_left (code.Cell x) e p1 p2 = absurd (cc)
no_division_left (code.Add x ps) e p1 p2 = absurd (cc)
no_division_left (code.Mul x y) e p1 p2 = absurd (cc)
no_division_left (code.Div x y) e p1 p2 = p1 x y refl
no_division_left (code.Mod x y) e p1 p2 = p2 x y refl
no_division_left (code.Pow x k) e p1 p2 = absurd (cc)
no_division_left (code.Abs x) e p1 p2 = absurd (cc)
no_division_left (code.Min ts) e p1 p2 = absurd (cc)
no_division_left (code.Max ts) e p1 p2 = absurd (cc)
no_division_left (code.Pick ts ks us) e p1 p2 = absurd (cc)
no_division_left (code.Whole x ts) e p1 p2 = absurd (cc)
no_division_left (code.SafeDiv x y) e p1 p2 = absurd (cc)
no_division_left (code.SafeMod x y) e p1 p2 = absurd (cc)
no_division_left (code.SafePick ts ks us) e p1 p2 = absurd (cc)
no_division_left (code.Compare op x y) e p1 p2 = absurd (cc)
no_division_left (code.Lex op ts us) e p1 p2 = absurd (cc)
no_division_left (code.Member x ns) e p1 p2 = absurd (cc)
no_division_left (code.Not x) e p1 p2 = absurd (cc)
no_division_left (code.And ts) e p1 p2 = absurd (cc)
no_division_left (code.Or ts) e p1 p2 = absurd (cc)
no_division_left (code.Iff x y) e p1 p2 = absurd (cc)
no_division_left (code.AllDiff ts) e p1 p2 = absurd (cc)
no_division_left (code.Gcc ts ns us) e p1 p2 = absurd (cc)
no_division_left (code.AtLeast ts cs ns) e p1 p2 = absurd (cc)
no_division_left (code.AtMost ts cs ns) e p1 p2 = absurd (cc)
no_division_left (code.Table ts rows) e p1 p2 = absurd (cc)

-- no other node is a pick
pub no_pick_left : (n : Node) → image_kind (plain_node n) ≡ Kind.Pick
    → ((ts : Vec Term Global) (ks : Vec Key Global) (us : Vec Term Global) → n ≡ code.Pick ts ks us → ⊥)
    → ⊥
unfolding image_kind
no_pick_left (code.Const x) e p1 = absurd (cc)
no_pick_left code.Undefined e p1 = absurd (cc)
no_pick_left (code.Cell x) e p1 = absurd (cc)
no_pick_left (code.Add x ps) e p1 = absurd (cc)
no_pick_left (code.Mul x y) e p1 = absurd (cc)
no_pick_left (code.Div x y) e p1 = absurd (cc)
no_pick_left (code.Mod x y) e p1 = absurd (cc)
no_pick_left (code.Pow x k) e p1 = absurd (cc)
no_pick_left (code.Abs x) e p1 = absurd (cc)
no_pick_left (code.Min ts) e p1 = absurd (cc)
no_pick_left (code.Max ts) e p1 = absurd (cc)
no_pick_left (code.Pick ts ks us) e p1 = p1 ts ks us refl
no_pick_left (code.Whole x ts) e p1 = absurd (cc)
no_pick_left (code.SafeDiv x y) e p1 = absurd (cc)
no_pick_left (code.SafeMod x y) e p1 = absurd (cc)
no_pick_left (code.SafePick ts ks us) e p1 = absurd (cc)
no_pick_left (code.Compare op x y) e p1 = absurd (cc)
no_pick_left (code.Lex op ts us) e p1 = absurd (cc)
no_pick_left (code.Member x ns) e p1 = absurd (cc)
no_pick_left (code.Not x) e p1 = absurd (cc)
no_pick_left (code.And ts) e p1 = absurd (cc)
no_pick_left (code.Or ts) e p1 = absurd (cc)
no_pick_left (code.Iff x y) e p1 = absurd (cc)
no_pick_left (code.AllDiff ts) e p1 = absurd (cc)
no_pick_left (code.Gcc ts ns us) e p1 = absurd (cc)
no_pick_left (code.AtLeast ts cs ns) e p1 = absurd (cc)
no_pick_left (code.AtMost ts cs ns) e p1 = absurd (cc)
no_pick_left (code.Table ts rows) e p1 = absurd (cc)

-- no other node asks that other terms have values
pub no_whole_left : (n : Node) → image_kind (plain_node n) ≡ Kind.Whole
    → ((x : Term) (ts : Vec Term Global) → n ≡ code.Whole x ts → ⊥)
    → ⊥
unfolding image_kind
no_whole_left (code.Const x) e p1 = absurd (cc)
no_whole_left code.Undefined e p1 = absurd (cc)
no_whole_left (code.Cell x) e p1 = absurd (cc)
no_whole_left (code.Add x ps) e p1 = absurd (cc)
no_whole_left (code.Mul x y) e p1 = absurd (cc)
no_whole_left (code.Div x y) e p1 = absurd (cc)
no_whole_left (code.Mod x y) e p1 = absurd (cc)
no_whole_left (code.Pow x k) e p1 = absurd (cc)
no_whole_left (code.Abs x) e p1 = absurd (cc)
no_whole_left (code.Min ts) e p1 = absurd (cc)
no_whole_left (code.Max ts) e p1 = absurd (cc)
no_whole_left (code.Pick ts ks us) e p1 = absurd (cc)
no_whole_left (code.Whole x ts) e p1 = p1 x ts refl
no_whole_left (code.SafeDiv x y) e p1 = absurd (cc)
no_whole_left (code.SafeMod x y) e p1 = absurd (cc)
no_whole_left (code.SafePick ts ks us) e p1 = absurd (cc)
no_whole_left (code.Compare op x y) e p1 = absurd (cc)
no_whole_left (code.Lex op ts us) e p1 = absurd (cc)
no_whole_left (code.Member x ns) e p1 = absurd (cc)
no_whole_left (code.Not x) e p1 = absurd (cc)
no_whole_left (code.And ts) e p1 = absurd (cc)
no_whole_left (code.Or ts) e p1 = absurd (cc)
no_whole_left (code.Iff x y) e p1 = absurd (cc)
no_whole_left (code.AllDiff ts) e p1 = absurd (cc)
no_whole_left (code.Gcc ts ns us) e p1 = absurd (cc)
no_whole_left (code.AtLeast ts cs ns) e p1 = absurd (cc)
no_whole_left (code.AtMost ts cs ns) e p1 = absurd (cc)
no_whole_left (code.Table ts rows) e p1 = absurd (cc)
