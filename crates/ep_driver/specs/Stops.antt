-- What errors of the steps say as refusals.
use Rattle.ep_print.specs.declared.refusals.Refusal.{Refusal}
use Rattle.ep_print.specs.declared.refusals.TextFile.{TextFile}
use Rattle.ep_files.specs.declared.stops.Stop.{Stop}
use Rattle.ep_types_rules.specs.declared.errors.StaticError.{StaticError}
use Rattle.ep_instance_parts.specs.declared.errors.BindError.{BindError}
use Rattle.ep_instance_parts.specs.declared.errors.Source.{Source}
use Rattle.opb_solve.specs.declared.replies.OpbStop.{OpbStop}
use Rattle.ep_driver.specs.Outcomes.{opb_refusal}

-- an error of types or categories
abbrev pub static_stop : TextFile → StaticError → Stop
static_stop file (StaticError.UnknownName place name) = Stop.Refused (Refusal.UnknownName file place name)
static_stop file (StaticError.Redeclared place name) = Stop.Refused (Refusal.Redeclared file place name)
static_stop file (StaticError.IllTyped place) = Stop.Refused (Refusal.IllTyped file place)
static_stop file (StaticError.WrongCategory place) = Stop.Refused (Refusal.WrongCategory file place)
static_stop file (StaticError.OpenDomain place) = Stop.Refused (Refusal.OpenDomain file place)
static_stop file StaticError.Memory = Stop.Memory

-- the word for a text
abbrev pub source_file : Source → TextFile
source_file Source.Model = TextFile.Model
source_file Source.Params = TextFile.Params
source_file Source.Solution = TextFile.Solution

-- an error of binding
abbrev pub bind_stop : BindError → Stop
bind_stop (BindError.Missing name) = Stop.Refused (Refusal.Missing name)
bind_stop (BindError.Outside name) = Stop.Refused (Refusal.Outside name)
bind_stop (BindError.Undefined source place) = Stop.Refused (Refusal.Undefined (source_file source) place)
bind_stop (BindError.WhereFalse number) = Stop.Refused (Refusal.WhereFalse number)
bind_stop (BindError.Limit limit) = Stop.Refused (Refusal.Over limit)
bind_stop BindError.Memory = Stop.Memory

-- why the text of a pseudo-Boolean problem has no reply
abbrev pub opb_stop : OpbStop → Stop
opb_stop (OpbStop.Refused refusal) = Stop.Refused (opb_refusal refusal)
opb_stop OpbStop.Memory = Stop.Memory
