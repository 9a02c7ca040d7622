-- No sum that is compared with a number is of another kind.
use Rattle.std.proofs.Common.{◌≡◌, ℕ, ℤ, Vec, true, refl}
use Rattle.std.specs.Global.{Global}
use Rattle.ep_base.specs.declared.operators.CompareOp.{CompareOp}
use Rattle.std.proofs.lemmas.Bool.{false≢true}
use Rattle.ep_flat.specs.Cons.{is_linear}
use Rattle.ep_flat.specs.FlatViews.{plain_kind}
use Rattle.ep_flat.specs.declared.flats.ConKind.{ConKind}
use Rattle.ep_flat.specs.declared.flats.ConKind.TheVariants as code

pub other_kind : (k : ConKind) → is_linear (plain_kind k) ≡ true
    → ((parts : Vec (ℤ × ℕ) Global) (op : CompareOp) (n : ℤ) → k ≡ code.Linear parts op n → ⊥) → ⊥
unfolding is_linear
other_kind (code.Clause parts) h p1 = false≢true h
other_kind (code.All xs) h p1 = false≢true h
other_kind (code.Same x y) h p1 = false≢true h
other_kind (code.Linear parts op n) h p1 = p1 parts op n refl
other_kind (code.Member x ns) h p1 = false≢true h
other_kind (code.Product x y z) h p1 = false≢true h
other_kind (code.Quotient x y z) h p1 = false≢true h
other_kind (code.Remainder x y z) h p1 = false≢true h
other_kind (code.Power x y z) h p1 = false≢true h
other_kind (code.Absolute x y) h p1 = false≢true h
other_kind (code.Least x xs) h p1 = false≢true h
other_kind (code.Greatest x xs) h p1 = false≢true h
other_kind (code.Element x xs ks ys) h p1 = false≢true h
other_kind (code.AllDiff xs) h p1 = false≢true h
other_kind (code.Gcc xs ns cs) h p1 = false≢true h
other_kind (code.AtLeast xs cs ns) h p1 = false≢true h
other_kind (code.AtMost xs cs ns) h p1 = false≢true h
other_kind (code.Table xs rows) h p1 = false≢true h
other_kind (code.Lex op xs ys) h p1 = false≢true h
