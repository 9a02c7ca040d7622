-- Small lemmas on what may be missing.
use Rattle.std.proofs.Common.{◌≡◌, refl}
use Rattle.std.specs.Prelude.{None, Option, Some, option_and_then, option_map}

pub some_is : {A : Type 0} {x y : A} → Some x ≡ Some y → x ≡ y
some_is e = cc

pub no_some : {A B : Type 0} {x : A} → None ≡ Some x → B
no_some e = absurd cc

pub map_is : {A B : Type 0} (f : A → B) (o : Option A) (v : B) → option_map f o ≡ Some v → (x : A) × (o ≡ Some x) × (f x ≡ v)
map_is f None v e = no_some e
map_is f (Some x) v e = (x, refl, some_is e)

pub then_is : {A B : Type 0} (f : A → Option B) (o : Option A) (v : B) → option_and_then f o ≡ Some v → (x : A) × (o ≡ Some x) × (f x ≡ Some v)
then_is f None v e = no_some e
then_is f (Some x) v e = (x, refl, e)
