-- What errors of reading say as refusals.
use Rattle.ep_parse_model.specs.declared.text_errors.TextError.{TextError}
use Rattle.sat_text.specs.declared.cnf.CnfError.{CnfError}
use Rattle.sat_text.specs.declared.proof.LogError.{LogError}
use Rattle.ep_print.specs.declared.refusals.Refusal.{Refusal}
use Rattle.ep_print.specs.declared.refusals.TextFile.{TextFile}
use Rattle.ep_files.specs.declared.stops.Stop.{Stop}

-- an error of reading a text
abbrev pub text_stop : TextFile → TextError → Stop
text_stop file TextError.TooLong = Stop.Refused (Refusal.TooLong file)
text_stop file (TextError.BadByte place) = Stop.Refused (Refusal.BadByte file place)
text_stop file (TextError.LongNumber place) = Stop.Refused (Refusal.LongNumber file place)
text_stop file (TextError.Syntax place) = Stop.Refused (Refusal.Syntax file place)
text_stop file (TextError.TooHigh place) = Stop.Refused (Refusal.TooHigh file place)
text_stop file TextError.Memory = Stop.Memory

-- an error of reading the text of a formula
abbrev pub cnf_stop : CnfError → Stop
cnf_stop CnfError.TooLong = Stop.Refused (Refusal.TooLong TextFile.Cnf)
cnf_stop (CnfError.Bad line) = Stop.Refused (Refusal.BadCnf line)
cnf_stop CnfError.Memory = Stop.Memory

-- an error of reading the text of a proof
abbrev pub log_stop : LogError → Stop
log_stop LogError.TooLong = Stop.Refused (Refusal.TooLong TextFile.Log)
log_stop (LogError.Bad line) = Stop.Refused (Refusal.BadLog line)
log_stop LogError.Memory = Stop.Memory
