-- What stands for any node.
use Rattle.std.proofs.Common.{◌≡◌, ◌<◌, ℤ, List, Vec, length, refl, subst}
use Rattle.ep_base.specs.declared.keys.Key.{Key}
use Rattle.std.specs.Global.{Global}
use Rattle.std.specs.List.{All}
use Rattle.ep_base.specs.Intervals.{only}
use Rattle.ep_base.specs.declared.operators.CompareOp.{CompareOp}
use Rattle.ep_defined.specs.Growing.{IsSafeOver}
use Rattle.ep_ground.specs.Bounds.{node_reach, term_reach}
use Rattle.ep_ground.specs.NodeViews.{plain_node}
use Rattle.ep_ground.specs.Nodes.{GroundNode, constant, parts_of}
use Rattle.ep_ground.specs.declared.cells.Cell.{Cell}
use Rattle.ep_ground.specs.declared.nodes.Node.{Node}
use Rattle.ep_ground.specs.declared.nodes.Node.TheVariants as code
use Rattle.ep_ground.specs.declared.terms.Term.{Term}
use Rattle.ep_reach.specs.Narrowing.{IsNarrower}
use Rattle.ep_simplify.proofs.Forms.{reach_says}
use Rattle.ep_simplify.proofs.Taking.{replaced_by_number}
use Rattle.ep_simplify.specs.Decided.{IsOpen, IsUntoldBy}
use Rattle.ep_simplify.specs.Settling.{IsNews, IsUntold, Replaces}
use Rattle.ep_simplify.specs.declared.news.News.{News}

-- a node of another kind is left undecided by its parts
pub open_others : (nodes : List GroundNode) (n : Node)
    → ((ts : Vec Term Global) → n ≡ code.Min ts → ⊥) → ((ts : Vec Term Global) → n ≡ code.Max ts → ⊥) → ((ts : Vec Term Global) (ks : Vec Key Global) (us : Vec Term Global) → n ≡ code.SafePick ts ks us → ⊥)
    → ((op : CompareOp) (a b : Term) → n ≡ code.Compare op a b → ⊥) → ((a : Term) (ns : List ℤ) → n ≡ code.Member a ns → ⊥) → ((a : Term) → n ≡ code.Not a → ⊥)
    → ((ts : Vec Term Global) → n ≡ code.And ts → ⊥) → ((ts : Vec Term Global) → n ≡ code.Or ts → ⊥) → ((a b : Term) → n ≡ code.Iff a b → ⊥) → IsOpen nodes (plain_node n)
unfolding IsOpen
open_others nodes (code.Min ts) p1 p2 p3 p4 p5 p6 p7 p8 p9 = absurd (p1 ts refl)
open_others nodes (code.Max ts) p1 p2 p3 p4 p5 p6 p7 p8 p9 = absurd (p2 ts refl)
open_others nodes (code.SafePick ts ks us) p1 p2 p3 p4 p5 p6 p7 p8 p9 = absurd (p3 ts ks us refl)
open_others nodes (code.Compare op a b) p1 p2 p3 p4 p5 p6 p7 p8 p9 = absurd (p4 op a b refl)
open_others nodes (code.Member a ns) p1 p2 p3 p4 p5 p6 p7 p8 p9 = absurd (p5 a ns refl)
open_others nodes (code.Not a) p1 p2 p3 p4 p5 p6 p7 p8 p9 = absurd (p6 a refl)
open_others nodes (code.And ts) p1 p2 p3 p4 p5 p6 p7 p8 p9 = absurd (p7 ts refl)
open_others nodes (code.Or ts) p1 p2 p3 p4 p5 p6 p7 p8 p9 = absurd (p8 ts refl)
open_others nodes (code.Iff a b) p1 p2 p3 p4 p5 p6 p7 p8 p9 = absurd (p9 a b refl)
open_others nodes n p1 p2 p3 p4 p5 p6 p7 p8 p9 = tt

-- the number that a node reaches alone replaces it
pub reached_number : (cells : List Cell) (news : News) (node : GroundNode) (n : ℤ) → IsNews cells news → All (λ p. p < length news.arena) (parts_of node) → IsSafeOver (length cells) node → node_reach cells (term_reach news.arena cells) node ≡ only n → Replaces cells news.arena node (constant n)
reached_number cells news node n h below safe reach =
    replaced_by_number cells news.arena node n (reach_says cells news node n h below safe reach) (λ i k. (subst (λ r. IsNarrower r i) reach k).low)

-- nor do intervals of its parts tell it
others_untold_by : (cells : List Cell) (nodes : List GroundNode) (n : Node)
    → ((ts : Vec Term Global) → n ≡ code.Min ts → ⊥) → ((ts : Vec Term Global) → n ≡ code.Max ts → ⊥) → ((ts : Vec Term Global) (ks : Vec Key Global) (us : Vec Term Global) → n ≡ code.SafePick ts ks us → ⊥)
    → ((op : CompareOp) (a b : Term) → n ≡ code.Compare op a b → ⊥) → ((a : Term) (ns : List ℤ) → n ≡ code.Member a ns → ⊥) → ((a : Term) → n ≡ code.Not a → ⊥)
    → ((ts : Vec Term Global) → n ≡ code.And ts → ⊥) → ((ts : Vec Term Global) → n ≡ code.Or ts → ⊥) → ((a b : Term) → n ≡ code.Iff a b → ⊥) → IsUntoldBy nodes (term_reach nodes cells) (plain_node n)
unfolding IsUntoldBy
others_untold_by cells nodes (code.Min ts) p1 p2 p3 p4 p5 p6 p7 p8 p9 = absurd (p1 ts refl)
others_untold_by cells nodes (code.Max ts) p1 p2 p3 p4 p5 p6 p7 p8 p9 = absurd (p2 ts refl)
others_untold_by cells nodes (code.SafePick ts ks us) p1 p2 p3 p4 p5 p6 p7 p8 p9 = absurd (p3 ts ks us refl)
others_untold_by cells nodes (code.Compare op a b) p1 p2 p3 p4 p5 p6 p7 p8 p9 = absurd (p4 op a b refl)
others_untold_by cells nodes (code.Member a ns) p1 p2 p3 p4 p5 p6 p7 p8 p9 = absurd (p5 a ns refl)
others_untold_by cells nodes (code.Not a) p1 p2 p3 p4 p5 p6 p7 p8 p9 = absurd (p6 a refl)
others_untold_by cells nodes (code.And ts) p1 p2 p3 p4 p5 p6 p7 p8 p9 = absurd (p7 ts refl)
others_untold_by cells nodes (code.Or ts) p1 p2 p3 p4 p5 p6 p7 p8 p9 = absurd (p8 ts refl)
others_untold_by cells nodes (code.Iff a b) p1 p2 p3 p4 p5 p6 p7 p8 p9 = absurd (p9 a b refl)
others_untold_by cells nodes n p1 p2 p3 p4 p5 p6 p7 p8 p9 = tt

pub others_untold : (cells : List Cell) (nodes : List GroundNode) (n : Node)
    → ((ts : Vec Term Global) → n ≡ code.Min ts → ⊥) → ((ts : Vec Term Global) → n ≡ code.Max ts → ⊥) → ((ts : Vec Term Global) (ks : Vec Key Global) (us : Vec Term Global) → n ≡ code.SafePick ts ks us → ⊥)
    → ((op : CompareOp) (a b : Term) → n ≡ code.Compare op a b → ⊥) → ((a : Term) (ns : List ℤ) → n ≡ code.Member a ns → ⊥) → ((a : Term) → n ≡ code.Not a → ⊥)
    → ((ts : Vec Term Global) → n ≡ code.And ts → ⊥) → ((ts : Vec Term Global) → n ≡ code.Or ts → ⊥) → ((a b : Term) → n ≡ code.Iff a b → ⊥)
    → ((k : ℤ) → node_reach cells (term_reach nodes cells) (plain_node n) ≡ only k → ⊥) → IsUntold cells nodes (plain_node n)
others_untold cells nodes n p1 p2 p3 p4 p5 p6 p7 p8 p9 none = record {
  untold = others_untold_by cells nodes n p1 p2 p3 p4 p5 p6 p7 p8 p9;
  folded = λ k e. absurd (none k e);
}
