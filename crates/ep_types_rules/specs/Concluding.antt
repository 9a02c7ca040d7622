-- What is concluded of a node from the types of its parts: its type, or a fault.
use Rattle.std.specs.Prelude.{◌≡◌, Bool, true, false, Some, Ok, Err, Result}
use Rattle.ep_base.specs.declared.places.Place.{Place}
use Rattle.ep_tree.specs.Faults.{Fault, ill_typed}
use Rattle.ep_tree.specs.Types.{Judged, mistyped, typed, untyped}
use Rattle.ep_tree.specs.declared.values.ValueType.{ValueType}
use Rattle.ep_types_rules.specs.Named.{fault_of}
use Rattle.ep_types_rules.specs.declared.errors.StaticError.{StaticError}

-- what is checked, or the first fault
abbrev pub Checked : Type 0 → Type 0
Checked A = Result A Fault

infixl 10 ◌>>=◌
abbrev pub ◌>>=◌ : {A B : Type 0} → Checked A → (A → Checked B) → Checked B
(Ok x) >>= next = next x
(Err fault) >>= next = Err fault

-- What a function returned, seen by view, is what checking says. Want of memory says nothing.
abbrev pub SaysOfCheck : {X Y : Type 0} → (X → Y) → Result X StaticError → Checked Y → Type 0
SaysOfCheck view (Ok x) check = check ≡ Ok (view x)
SaysOfCheck view (Err e) check = (fault : Fault) → fault_of e ≡ Some fault → check ≡ Err fault

-- The type of a node whose parts have types. That it is told of no type isn't met, since a part without a type has stopped
-- the checking before.
abbrev pub conclude : Place → Judged → Checked ValueType
conclude p (typed t) = Ok t
conclude p mistyped = Err (ill_typed p)
conclude p untyped = Err (ill_typed p)

-- where a condition holds
abbrev pub unless_fault : Bool → Fault → Checked (Unit {0})
unless_fault true fault = Ok tt
unless_fault false fault = Err fault

-- a quantifier over domains that are scalar or aren't
abbrev pub quantified_over : Bool → Judged → Judged
quantified_over true judged = judged
quantified_over false judged = mistyped
