-- What an error of checking says of a text.
use Rattle.std.specs.Prelude.{◌≡◌, List, Some, None, Contains, Option}
use Rattle.ep_base.specs.declared.names.Name.{Name}
use Rattle.ep_base.specs.declared.places.Place.{Place}
use Rattle.ep_tree.specs.Faults.{Fault, ill_typed, open_domain, redeclared, unknown_name, wrong_category}
use Rattle.ep_types_rules.specs.declared.errors.StaticError.{StaticError}
use Rattle.ep_types_rules.specs.declared.errors.StaticError.TheVariants.{IllTyped, Memory, OpenDomain, Redeclared, UnknownName, WrongCategory}

-- the fault that an error names; want of memory names none
unfoldable pub fault_of : StaticError → Option Fault
fault_of (UnknownName p name) = Some (unknown_name p name)
fault_of (Redeclared p name) = Some (redeclared p name)
fault_of (IllTyped p) = Some (ill_typed p)
fault_of (WrongCategory p) = Some (wrong_category p)
fault_of (OpenDomain p) = Some (open_domain p)
fault_of Memory = None

-- an error may be answered where these faults stand: what it names is one of them
abbrev pub IsAmongFaults : List Fault → StaticError → Type 0
IsAmongFaults faults error = (fault : Fault) → fault_of error ≡ Some fault → Contains faults fault

-- an error says that a name is unknown, or want of memory
abbrev pub IsUnknown : Place → Name → StaticError → Type 0
IsUnknown p name error = (fault : Fault) → fault_of error ≡ Some fault → unknown_name p name ≡ fault
