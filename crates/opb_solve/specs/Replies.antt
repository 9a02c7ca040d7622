-- What the text of a pseudo-Boolean problem comes to, and what is said of it.
use Rattle.std.specs.Prelude.{◌≡◌, ◌<◌, ◌≤◌, ℕ, Bool, true, false, List, length, Result, Ok, Err}
use Rattle.cnf_core.specs.Events.{LogState}
use Rattle.ep_base.specs.declared.operators.Limit.{Limit}
use Rattle.opb_answer.specs.Answers.{OpbFound, no_solution, optimum, solution, unknown}
use Rattle.opb_answer.specs.Lines.{answer_lines}
use Rattle.opb_answer.specs.Right.{IsRightOpb}
use Rattle.opb_solve.specs.Logged.{IsOpbLogged}
use Rattle.opb_solve.specs.declared.replies.OpbRefusal.{OpbRefusal}
use Rattle.opb_solve.specs.declared.replies.OpbReply.{OpbReply}
use Rattle.opb_solve.specs.declared.replies.OpbStop.{OpbStop}
use Rattle.opb_text.specs.Contents.{OpbContent}
use Rattle.opb_text.specs.Grammar.{IsOpbFaultLine, SpellsOpb}
use Rattle.opb_text.specs.Views.{plain_opb}
use Rattle.opb_text.specs.Weights.{IsProblemWithinReach, Weighs, most_weight}
use Rattle.opb_text.specs.declared.content.Opb.{Opb}
use Rattle.opb_text.specs.declared.errors.OpbError.{OpbError}
use Rattle.opb_text.specs.declared.errors.OpbSizeError.{OpbSizeError}
use Rattle.opb_text.specs.Words.{most_opb_bytes}

-- ---- what a text comes to

-- a text that isn't too long spells this problem
pub record IsOpbReadAs (text : List ℕ) (content : OpbContent) : Type 0 where
  pub short : length text ≤ most_opb_bytes
  pub spells : SpellsOpb text content

-- a text that isn't too long spells no problem, and its fault stands on this line
pub record IsOpbFaulty (text : List ℕ) (line : ℕ) : Type 0 where
  pub short : length text ≤ most_opb_bytes
  pub spells_none : (content : OpbContent) → ¬ SpellsOpb text content
  pub fault : IsOpbFaultLine text line

-- a problem has this weight, which is taken on or not
pub record IsWithinWeight (content : OpbContent) : Type 0 where
  pub weight : ℕ
  pub weighs : Weighs content weight
  pub low : weight ≤ most_weight

pub record IsOverWeight (content : OpbContent) : Type 0 where
  pub weight : ℕ
  pub weighs : Weighs content weight
  pub high : most_weight < weight

-- a problem is over a limit: one of its sums reaches too far; or none does, and it weighs too much
abbrev pub IsOverOpbLimit : OpbContent → Limit → Type 0
IsOverOpbLimit content Limit.Size = ⊥
IsOverOpbLimit content Limit.Reach = ¬ IsProblemWithinReach content
IsOverOpbLimit content Limit.Weight = IsProblemWithinReach content × IsOverWeight content

-- What a text comes to: the problem that it spells, within the limits; or that it is too long; or the line of its fault; or the
-- limit that its problem is over.
abbrev pub OpbComesTo : List ℕ → Result OpbContent OpbRefusal → Type 0
OpbComesTo text (Ok content) = IsOpbReadAs text content × IsProblemWithinReach content × IsWithinWeight content
OpbComesTo text (Err OpbRefusal.TooLong) = most_opb_bytes < length text
OpbComesTo text (Err (OpbRefusal.Bad line)) = IsOpbFaulty text line
OpbComesTo text (Err (OpbRefusal.Over limit)) = (content : OpbContent) × IsOpbReadAs text content × IsOverOpbLimit content limit

-- ---- what is said

-- whether an answer is that the conflicts were spent
unfoldable pub says_spent : OpbFound → Bool
says_spent (solution values) = false
says_spent (optimum values) = false
says_spent no_solution = false
says_spent (unknown best) = true

-- a reply says a right answer, which the log shows
pub record IsOpbReply (content : OpbContent) (budget : ℕ) (log : LogState) (reply : OpbReply) : Type 0 where
  pub found : OpbFound
  pub right : IsRightOpb content found
  pub logged : IsOpbLogged content budget log found
  pub text : reply.text.items ≡ answer_lines found
  pub spent : reply.spent ≡ says_spent found

-- a reply answers the problem that a text comes to, or a refusal is what it comes to; want of memory says nothing
abbrev pub RepliesToOpb : List ℕ → ℕ → LogState → Result OpbReply OpbStop → Type 0
RepliesToOpb text budget log (Ok reply) = (content : OpbContent) × OpbComesTo text (Ok content) × IsOpbReply content budget log reply
RepliesToOpb text budget log (Err (OpbStop.Refused refusal)) = OpbComesTo text (Err refusal)
RepliesToOpb text budget log (Err OpbStop.Memory) = Unit {0}

-- ---- the steps

-- a text is refused whatever the limits of problems are
abbrev pub IsOpbUnread : List ℕ → OpbRefusal → Type 0
IsOpbUnread text OpbRefusal.TooLong = most_opb_bytes < length text
IsOpbUnread text (OpbRefusal.Bad line) = IsOpbFaulty text line
IsOpbUnread text (OpbRefusal.Over limit) = ⊥

-- a text is read as the problem that it spells, or is refused so; want of memory says nothing
abbrev pub ReadsOpb : List ℕ → Result Opb OpbStop → Type 0
ReadsOpb text (Ok opb) = IsOpbReadAs text (plain_opb opb)
ReadsOpb text (Err (OpbStop.Refused refusal)) = IsOpbUnread text refusal
ReadsOpb text (Err OpbStop.Memory) = Unit {0}

-- the same with the limits
abbrev pub GivesOpb : List ℕ → Result Opb OpbStop → Type 0
GivesOpb text (Ok opb) = OpbComesTo text (Ok (plain_opb opb))
GivesOpb text (Err (OpbStop.Refused refusal)) = OpbComesTo text (Err refusal)
GivesOpb text (Err OpbStop.Memory) = Unit {0}

-- what an error of reading stops for
abbrev pub read_stop : OpbError → OpbStop
read_stop OpbError.TooLong = OpbStop.Refused OpbRefusal.TooLong
read_stop (OpbError.Bad line) = OpbStop.Refused (OpbRefusal.Bad line)
read_stop OpbError.Memory = OpbStop.Memory

-- what an error of measuring stops for
abbrev pub size_stop : OpbSizeError → OpbStop
size_stop (OpbSizeError.Limit limit) = OpbStop.Refused (OpbRefusal.Over limit)
size_stop OpbSizeError.Memory = OpbStop.Memory
