-- No constraint on rows or orders is of another kind.
use Rattle.std.proofs.Common.{◌≡◌, ℕ, Vec, refl}
use Rattle.std.specs.Global.{Global}
use Rattle.ep_base.specs.declared.keys.Key.{Key}
use Rattle.ep_base.specs.declared.operators.LexOp.{LexOp}
use Rattle.ep_flat.specs.Cons.{family_of, of_counts, of_functions, of_rows, of_sums, of_truths}
use Rattle.ep_flat.specs.FlatViews.{plain_kind}
use Rattle.ep_flat.specs.declared.flats.ConKind.{ConKind}
use Rattle.ep_flat.specs.declared.flats.ConKind.TheVariants as code

pub other_kind : (k : ConKind) → family_of (plain_kind k) ≡ of_rows
    → ((xs : Vec ℕ Global) (rows : Vec Key Global) → k ≡ code.Table xs rows → ⊥) → ((op : LexOp) (xs ys : Vec ℕ Global) → k ≡ code.Lex op xs ys → ⊥) → ⊥
unfolding family_of
other_kind (code.Clause parts) h p1 p2 = let e : of_truths ≡ of_rows = h in cc
other_kind (code.All xs) h p1 p2 = let e : of_truths ≡ of_rows = h in cc
other_kind (code.Same x y) h p1 p2 = let e : of_truths ≡ of_rows = h in cc
other_kind (code.Linear parts op n) h p1 p2 = let e : of_sums ≡ of_rows = h in cc
other_kind (code.Member x ns) h p1 p2 = let e : of_sums ≡ of_rows = h in cc
other_kind (code.Product x y z) h p1 p2 = let e : of_functions ≡ of_rows = h in cc
other_kind (code.Quotient x y z) h p1 p2 = let e : of_functions ≡ of_rows = h in cc
other_kind (code.Remainder x y z) h p1 p2 = let e : of_functions ≡ of_rows = h in cc
other_kind (code.Power x y z) h p1 p2 = let e : of_functions ≡ of_rows = h in cc
other_kind (code.Absolute x y) h p1 p2 = let e : of_functions ≡ of_rows = h in cc
other_kind (code.Least x xs) h p1 p2 = let e : of_functions ≡ of_rows = h in cc
other_kind (code.Greatest x xs) h p1 p2 = let e : of_functions ≡ of_rows = h in cc
other_kind (code.Element x xs ks ys) h p1 p2 = let e : of_functions ≡ of_rows = h in cc
other_kind (code.AllDiff xs) h p1 p2 = let e : of_counts ≡ of_rows = h in cc
other_kind (code.Gcc xs ns cs) h p1 p2 = let e : of_counts ≡ of_rows = h in cc
other_kind (code.AtLeast xs cs ns) h p1 p2 = let e : of_counts ≡ of_rows = h in cc
other_kind (code.AtMost xs cs ns) h p1 p2 = let e : of_counts ≡ of_rows = h in cc
other_kind (code.Table xs rows) h p1 p2 = p1 xs rows refl
other_kind (code.Lex op xs ys) h p1 p2 = p2 op xs ys refl
