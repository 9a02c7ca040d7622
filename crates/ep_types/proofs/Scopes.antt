-- Names that stand for the same from call to call.
use Rattle.std.specs.Prelude.{Err, Ok, OnOk, Result, refl}
use Rattle.std.proofs.Common.{◌∙◌}
use Rattle.ep_types.specs.Meanings.{IsSame}
use Rattle.ep_types.specs.declared.names.Names.{Names}

pub same_again : (names : Names) → IsSame names names
same_again names = record { inner = refl; declared = refl; context = refl }

pub same_after : (old mid new : Names) → IsSame old mid → IsSame mid new → IsSame old new
same_after old mid new a b = record { inner = b.inner ∙ a.inner; declared = b.declared ∙ a.declared; context = b.context ∙ a.context }

-- what holds whatever a call returned
pub on_ok : {T E P : Type 0} (r : Result T E) → P → OnOk r P
on_ok (Ok x) h = h
on_ok (Err e) h = tt
