-- No constraint on counts is of another kind.
use Rattle.std.proofs.Common.{◌≡◌, ℕ, ℤ, Vec, refl}
use Rattle.std.specs.Global.{Global}
use Rattle.ep_flat.specs.Cons.{family_of, of_counts, of_functions, of_rows, of_sums, of_truths}
use Rattle.ep_flat.specs.FlatViews.{plain_kind}
use Rattle.ep_flat.specs.declared.flats.ConKind.{ConKind}
use Rattle.ep_flat.specs.declared.flats.ConKind.TheVariants as code

pub other_kind : (k : ConKind) → family_of (plain_kind k) ≡ of_counts
    → ((xs : Vec ℕ Global) → k ≡ code.AllDiff xs → ⊥) → ((xs : Vec ℕ Global) (ns : Vec ℤ Global) (cs : Vec ℕ Global) → k ≡ code.Gcc xs ns cs → ⊥) → ((xs : Vec ℕ Global) (cs ns : Vec ℤ Global) → k ≡ code.AtLeast xs cs ns → ⊥)
    → ((xs : Vec ℕ Global) (cs ns : Vec ℤ Global) → k ≡ code.AtMost xs cs ns → ⊥) → ⊥
unfolding family_of
other_kind (code.Clause parts) h p1 p2 p3 p4 = let e : of_truths ≡ of_counts = h in cc
other_kind (code.All xs) h p1 p2 p3 p4 = let e : of_truths ≡ of_counts = h in cc
other_kind (code.Same x y) h p1 p2 p3 p4 = let e : of_truths ≡ of_counts = h in cc
other_kind (code.Linear parts op n) h p1 p2 p3 p4 = let e : of_sums ≡ of_counts = h in cc
other_kind (code.Member x ns) h p1 p2 p3 p4 = let e : of_sums ≡ of_counts = h in cc
other_kind (code.Product x y z) h p1 p2 p3 p4 = let e : of_functions ≡ of_counts = h in cc
other_kind (code.Quotient x y z) h p1 p2 p3 p4 = let e : of_functions ≡ of_counts = h in cc
other_kind (code.Remainder x y z) h p1 p2 p3 p4 = let e : of_functions ≡ of_counts = h in cc
other_kind (code.Power x y z) h p1 p2 p3 p4 = let e : of_functions ≡ of_counts = h in cc
other_kind (code.Absolute x y) h p1 p2 p3 p4 = let e : of_functions ≡ of_counts = h in cc
other_kind (code.Least x xs) h p1 p2 p3 p4 = let e : of_functions ≡ of_counts = h in cc
other_kind (code.Greatest x xs) h p1 p2 p3 p4 = let e : of_functions ≡ of_counts = h in cc
other_kind (code.Element x xs ks ys) h p1 p2 p3 p4 = let e : of_functions ≡ of_counts = h in cc
other_kind (code.AllDiff xs) h p1 p2 p3 p4 = p1 xs refl
other_kind (code.Gcc xs ns cs) h p1 p2 p3 p4 = p2 xs ns cs refl
other_kind (code.AtLeast xs cs ns) h p1 p2 p3 p4 = p3 xs cs ns refl
other_kind (code.AtMost xs cs ns) h p1 p2 p3 p4 = p4 xs cs ns refl
other_kind (code.Table xs rows) h p1 p2 p3 p4 = let e : of_rows ≡ of_counts = h in cc
other_kind (code.Lex op xs ys) h p1 p2 p3 p4 = let e : of_rows ≡ of_counts = h in cc
