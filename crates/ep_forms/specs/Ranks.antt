-- How deep the parts of an expression are, and by which number a walk through it gets smaller.
use Rattle.std.specs.Prelude.{ℕ, ◌+◌, ◌*◌, ◌<◌, List, length, Option, Some, None, if◌then◌else◌, nat_le}
use Rattle.std.specs.declared.alloc.Global.{Global}
use Rattle.std.specs.declared.boxed.Box.{Box}
use Rattle.ep_tree.specs.declared.syntax.Domain.{Domain, size-Domain}
use Rattle.ep_tree.specs.declared.syntax.Expr.{Expr, size-Expr}
use Rattle.ep_tree.specs.declared.syntax.Generator.{Generator, size-Generator}
use Rattle.ep_forms.specs.declared.forms.Form.{Form}
use Rattle.ep_forms.specs.declared.forms.Form.TheVariants.{One, Two, Counts, Truths, Chain, InDomain, Quant, Literal, Comprehension, Read}
use Rattle.ep_forms.specs.declared.forms.Listing.{Listing}
use Rattle.ep_forms.specs.declared.forms.Quantifier.{Quantifier}
use denote.Param.Weighed.{most}

-- A walk gets smaller where the depth of what is left does; at one depth where the lists that are left get shorter, and
-- else from step to step.
abbrev pub walk_rank : ℕ → ℕ → ℕ → ℕ
walk_rank depth lists step = depth * 1361129467683753853853498429727072845824 + (lists * 36893488147419103232 + step)

-- the greater of two numbers
unfoldable pub greater : ℕ → ℕ → ℕ
greater a b = if nat_le a b then b else a

-- the depth of a quantifier's parts
abbrev pub depth_of : Quantifier → ℕ
depth_of q = greater (size-Domain q.domain.now) (size-Expr q.body.now)

-- the depth of a comprehension's expression and conditions
abbrev pub listing_depth : Listing → ℕ
listing_depth l = greater (size-Expr l.body.now) (most size-Expr l.conditions.now)

-- the depth of these and of generators
abbrev pub generators_depth : Listing → List Generator → ℕ
generators_depth l gens = greater (listing_depth l) (most size-Generator gens)

-- the depth of the domain of a list's indices
unfoldable pub index_depth : Option (Box Domain Global) → ℕ
index_depth None = 0
index_depth (Some d) = size-Domain d.value

-- the depth of an index of a read
unfoldable pub end_depth : Option Expr → ℕ
end_depth None = 0
end_depth (Some e) = size-Expr e

-- each part of a form is less deep than so much, and lists of names and of generators are no longer than memory allows
unfoldable pub IsBelow : ℕ → Form → Type 0
IsBelow n (One op e) = size-Expr e.now < n
IsBelow n (Two op a b) = (size-Expr a.now < n) × (size-Expr b.now < n)
IsBelow n (Counts op m a b) = (size-Expr m.now < n) × ((size-Expr a.now < n) × (size-Expr b.now < n))
IsBelow n (Truths every parts) = most size-Expr parts.now < n
IsBelow n (Chain terms) = most (λ t. size-Expr t.1) terms.now < n
IsBelow n (InDomain e d) = (size-Expr e.now < n) × (size-Domain d.now < n)
IsBelow n (Quant q names) = (depth_of q < n) × (length names.now < 18446744073709551616)
IsBelow n (Literal parts d) = (most size-Expr parts.now < n) × (index_depth d.now < n)
IsBelow n (Comprehension l gens d) =
    ((generators_depth l gens.now < n) × (length gens.now < 18446744073709551616)) × (index_depth d.now < n)
IsBelow n (Read m indices) = (size-Expr m.now < n) × (most end_depth indices.now < n)
IsBelow n f = Unit {0}
