-- How a run ends.
use Rattle.std.specs.Prelude.{◌≡◌, ◌⊎◌, ℕ}
use Rattle.ep_print.specs.declared.refusals.Refusal.{Refusal}
use Rattle.ep_files.specs.declared.status.Status.{Status}

-- the code with which the program ends
abbrev pub exit_code : Status → ℕ
exit_code Status.Answered = 0
exit_code Status.Unknown = 1
exit_code Status.Usage = 2
exit_code Status.Text = 3
exit_code Status.Limit = 4
exit_code Status.Device = 5
exit_code Status.Memory = 6
exit_code Status.Refuted = 7

-- a run ends with a reply: an answer, the end of its budget, or the judgement of what is no solution
abbrev pub HasReply : Status → Type 0
HasReply s = (s ≡ Status.Answered) ⊎ ((s ≡ Status.Unknown) ⊎ (s ≡ Status.Refuted))

-- how a run ends that is refused
unfoldable pub status_of : Refusal → Status
status_of Refusal.Usage = Status.Usage
status_of (Refusal.BadByte _ _) = Status.Text
status_of (Refusal.Syntax _ _) = Status.Text
status_of (Refusal.UnknownName _ _ _) = Status.Text
status_of (Refusal.Redeclared _ _ _) = Status.Text
status_of (Refusal.IllTyped _ _) = Status.Text
status_of (Refusal.WrongCategory _ _) = Status.Text
status_of (Refusal.OpenDomain _ _) = Status.Text
status_of (Refusal.Missing _) = Status.Text
status_of (Refusal.Outside _) = Status.Text
status_of (Refusal.Undefined _ _) = Status.Text
status_of (Refusal.WhereFalse _) = Status.Text
status_of (Refusal.BadCnf _) = Status.Text
status_of (Refusal.BadLog _) = Status.Text
status_of (Refusal.BadOpb _) = Status.Text
status_of (Refusal.TooLong _) = Status.Limit
status_of (Refusal.LongNumber _ _) = Status.Limit
status_of (Refusal.TooHigh _ _) = Status.Limit
status_of (Refusal.Over _) = Status.Limit
status_of (Refusal.CannotRead _) = Status.Device
status_of (Refusal.CannotWrite _) = Status.Device
status_of Refusal.Memory = Status.Memory
