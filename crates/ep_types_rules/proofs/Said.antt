-- What errors say of checks.
use Rattle.std.specs.Prelude.{◌≡◌, List, Some, Err, refl}
use Rattle.ep_base.specs.declared.places.Place.{Place}
use Rattle.ep_tree.specs.Faults.{Fault, ill_typed, open_domain, wrong_category}
use Rattle.ep_types_rules.specs.Concluding.{Checked, ◌>>=◌}
use Rattle.ep_types_rules.specs.Named.{IsAmongFaults, fault_of}
use Rattle.ep_types_rules.specs.declared.errors.StaticError.{StaticError}
use Rattle.ep_types_rules.specs.declared.errors.StaticError.TheVariants.{IllTyped, Memory, OpenDomain, WrongCategory}

-- want of memory names no fault
pub memory_names_none : (faults : List Fault) → IsAmongFaults faults Memory
unfolding fault_of
memory_names_none faults = λ fault e. absurd cc

pub memory_says : {A : Type 0} (check : Checked A) (fault : Fault) → fault_of Memory ≡ Some fault → check ≡ Err fault
unfolding fault_of
memory_says check fault e = absurd cc

pub ill_typed_says : {A : Type 0} (p : Place) (fault : Fault) → fault_of (IllTyped p) ≡ Some fault → ◌≡◌ {A = Checked A} (Err (ill_typed p)) (Err fault)
unfolding fault_of
ill_typed_says p fault e = cc

pub open_domain_says : {A : Type 0} (p : Place) (fault : Fault) → fault_of (OpenDomain p) ≡ Some fault → ◌≡◌ {A = Checked A} (Err (open_domain p)) (Err fault)
unfolding fault_of
open_domain_says p fault e = cc

pub wrong_category_says : {A : Type 0} (p : Place) (fault : Fault) → fault_of (WrongCategory p) ≡ Some fault → ◌≡◌ {A = Checked A} (Err (wrong_category p)) (Err fault)
unfolding fault_of
wrong_category_says p fault e = cc

-- an error that is passed on says of what follows what it says of the check before
pub passed_on : {A B : Type 0} (e : StaticError) (one : Checked A) (next : A → Checked B) → ((fault : Fault) → fault_of e ≡ Some fault → one ≡ Err fault)
    → (fault : Fault) → fault_of e ≡ Some fault → (one >>= next) ≡ Err fault
passed_on e one next h fault s = rw (h fault s) refl
