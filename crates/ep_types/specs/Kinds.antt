-- Which kinds of expressions a function takes, where one function for all of them would be too long.
use Rattle.std.specs.Prelude.{◌≡◌, ◌⊎◌, Bool, Option}
use Rattle.std.specs.declared.alloc.Global.{Global}
use Rattle.std.specs.declared.boxed.Box.{Box}
use Rattle.std.specs.declared.vec.Vec.{Vec}
use Rattle.ep_base.specs.declared.names.Name.{Name}
use Rattle.ep_base.specs.declared.operators.CompareOp.{CompareOp}
use Rattle.ep_base.specs.declared.operators.LexOp.{LexOp}
use Rattle.ep_tree.specs.declared.syntax.BinaryOp.{BinaryOp}
use Rattle.ep_tree.specs.declared.syntax.Domain.{Domain}
use Rattle.ep_tree.specs.declared.syntax.Expr.{Expr}
use Rattle.ep_tree.specs.declared.syntax.FoldOp.{FoldOp}
use Rattle.ep_tree.specs.declared.syntax.Generator.{Generator}
use Rattle.ep_tree.specs.declared.syntax.QuantOp.{QuantOp}
use Rattle.ep_tree.specs.declared.syntax.Kind.{Kind, Abs, Add, AllDiff, And, AtLeast, AtMost, Binary, Compare, Comprehension, Factorial, Flatten, Fold, Gcc, InDomain, InSet, Lex, Literal, Neg, Not, Or, Quant, Read, Table, ToInt}

-- an expression with one part
abbrev pub HasOnePart : Kind → Type 0
HasOnePart k =
    ((e : Box Expr Global) × (k ≡ Not e))
    ⊎ (((e : Box Expr Global) × (k ≡ Neg e))
    ⊎ (((e : Box Expr Global) × (k ≡ Abs e))
    ⊎ (((e : Box Expr Global) × (k ≡ ToInt e))
    ⊎ (((e : Box Expr Global) × (k ≡ Factorial e))
    ⊎ (((e : Box Expr Global) × (k ≡ Flatten e))
    ⊎ (((op : FoldOp) × (e : Box Expr Global) × (k ≡ Fold op e))
    ⊎ ((e : Box Expr Global) × (k ≡ AllDiff e))))))))

-- an expression with two parts
abbrev pub HasTwoParts : Kind → Type 0
HasTwoParts k =
    ((op : BinaryOp) × (a : Box Expr Global) × (b : Box Expr Global) × (k ≡ Binary op a b))
    ⊎ (((op : CompareOp) × (a : Box Expr Global) × (b : Box Expr Global) × (k ≡ Compare op a b))
    ⊎ (((op : LexOp) × (a : Box Expr Global) × (b : Box Expr Global) × (k ≡ Lex op a b))
    ⊎ (((a : Box Expr Global) × (b : Box Expr Global) × (k ≡ InSet a b))
    ⊎ ((a : Box Expr Global) × (b : Box Expr Global) × (k ≡ Table a b)))))

-- `gcc`, `atleast` or `atmost`
abbrev pub HasThreeParts : Kind → Type 0
HasThreeParts k =
    ((m : Box Expr Global) × (a : Box Expr Global) × (b : Box Expr Global) × (k ≡ Gcc m a b))
    ⊎ (((m : Box Expr Global) × (a : Box Expr Global) × (b : Box Expr Global) × (k ≡ AtLeast m a b))
    ⊎ ((m : Box Expr Global) × (a : Box Expr Global) × (b : Box Expr Global) × (k ≡ AtMost m a b)))

-- an expression with a list of parts
abbrev pub HasList : Kind → Type 0
HasList k =
    ((terms : Vec (Bool × Expr) Global) × (k ≡ Add terms))
    ⊎ (((es : Vec Expr Global) × (k ≡ And es))
    ⊎ (((es : Vec Expr Global) × (k ≡ Or es))
    ⊎ (((es : Vec Expr Global) × (d : Option (Box Domain Global)) × (k ≡ Literal es d))
    ⊎ ((m : Box Expr Global) × (indices : Vec (Option Expr) Global) × (k ≡ Read m indices)))))

-- an expression with a domain whose values are gone through or tested
abbrev pub HasDomain : Kind → Type 0
HasDomain k =
    ((e : Box Expr Global) × (d : Box Domain Global) × (k ≡ InDomain e d))
    ⊎ (((op : QuantOp) × (names : Vec Name Global) × (d : Box Domain Global) × (e : Box Expr Global) × (k ≡ Quant op names d e))
    ⊎ ((e : Box Expr Global) × (gens : Vec Generator Global) × (es : Vec Expr Global) × (d : Option (Box Domain Global))
    × (k ≡ Comprehension e gens es d)))
