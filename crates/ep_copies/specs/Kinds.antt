-- Which kinds of expressions a function copies, where one function for all of them would be too long.
use Rattle.std.specs.Prelude.{◌≡◌, ◌⊎◌, Option}
use Rattle.std.specs.declared.alloc.Global.{Global}
use Rattle.std.specs.declared.boxed.Box.{Box}
use Rattle.std.specs.declared.vec.Vec.{Vec}
use Rattle.ep_base.specs.declared.operators.CompareOp.{CompareOp}
use Rattle.ep_base.specs.declared.operators.LexOp.{LexOp}
use Rattle.ep_tree.specs.declared.syntax.BinaryOp.{BinaryOp}
use Rattle.ep_tree.specs.declared.syntax.Domain.{Domain}
use Rattle.ep_tree.specs.declared.syntax.Expr.{Expr}
use Rattle.ep_tree.specs.declared.syntax.FoldOp.{FoldOp}
use Rattle.ep_tree.specs.declared.syntax.Generator.{Generator}
use Rattle.ep_tree.specs.declared.syntax.Kind.{Kind, Abs, AllDiff, AtLeast, AtMost, Binary, Compare, Comprehension, Factorial, Flatten, Fold, Gcc, Group, InDomain, InSet, Lex, Literal, Neg, Not, Read, Table, ToInt}

-- an expression around one other
abbrev pub IsAround : Kind → Type 0
IsAround k =
    ((e : Box Expr Global) × (k ≡ Group e))
    ⊎ (((e : Box Expr Global) × (k ≡ Not e))
    ⊎ (((e : Box Expr Global) × (k ≡ Neg e))
    ⊎ (((e : Box Expr Global) × (k ≡ Abs e))
    ⊎ (((e : Box Expr Global) × (k ≡ ToInt e))
    ⊎ (((e : Box Expr Global) × (k ≡ Factorial e))
    ⊎ (((e : Box Expr Global) × (k ≡ Flatten e))
    ⊎ (((op : FoldOp) × (e : Box Expr Global) × (k ≡ Fold op e))
    ⊎ ((e : Box Expr Global) × (k ≡ AllDiff e)))))))))

-- an expression of two parts
abbrev pub IsPair : Kind → Type 0
IsPair k =
    ((op : BinaryOp) × (a : Box Expr Global) × (b : Box Expr Global) × (k ≡ Binary op a b))
    ⊎ (((op : CompareOp) × (a : Box Expr Global) × (b : Box Expr Global) × (k ≡ Compare op a b))
    ⊎ (((op : LexOp) × (a : Box Expr Global) × (b : Box Expr Global) × (k ≡ Lex op a b))
    ⊎ (((a : Box Expr Global) × (d : Box Domain Global) × (k ≡ InDomain a d))
    ⊎ (((a : Box Expr Global) × (b : Box Expr Global) × (k ≡ InSet a b))
    ⊎ ((a : Box Expr Global) × (b : Box Expr Global) × (k ≡ Table a b))))))

-- `gcc`, `atleast` or `atmost`
abbrev pub IsCount : Kind → Type 0
IsCount k =
    ((m : Box Expr Global) × (a : Box Expr Global) × (b : Box Expr Global) × (k ≡ Gcc m a b))
    ⊎ (((m : Box Expr Global) × (a : Box Expr Global) × (b : Box Expr Global) × (k ≡ AtLeast m a b))
    ⊎ ((m : Box Expr Global) × (a : Box Expr Global) × (b : Box Expr Global) × (k ≡ AtMost m a b)))

-- a list in square brackets, a comprehension, or a read
abbrev pub IsOfMatrix : Kind → Type 0
IsOfMatrix k =
    ((es : Vec Expr Global) × (d : Option (Box Domain Global)) × (k ≡ Literal es d))
    ⊎ (((e : Box Expr Global) × (gens : Vec Generator Global) × (es : Vec Expr Global) × (d : Option (Box Domain Global))
    × (k ≡ Comprehension e gens es d))
    ⊎ ((m : Box Expr Global) × (indices : Vec (Option Expr) Global) × (k ≡ Read m indices)))
