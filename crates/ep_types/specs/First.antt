-- Which fault is named.
use Rattle.std.specs.Prelude.{◌≡◌, Some, Err}
use Rattle.ep_tree.specs.Faults.{Fault}
use Rattle.ep_tree.specs.Names.{nothing_known}
use Rattle.ep_tree.specs.Statements.{TextTree}
use Rattle.ep_types_rules.specs.Named.{fault_of}
use Rattle.ep_types_rules.specs.declared.errors.StaticError.{StaticError}
use Rattle.ep_types.specs.Checking.{check_text}

-- The fault that an error names is the first that checking a text meets: from left to right, but parts before their
-- node, and yet an open domain before its bounds; what a statement declares after its domain and its value; and of a
-- comprehension the domain of its indices, its generators and its conditions before its expression.
abbrev pub IsFirst : TextTree → StaticError → Type 0
IsFirst text error = (fault : Fault) → fault_of error ≡ Some fault → check_text nothing_known text ≡ Err fault
