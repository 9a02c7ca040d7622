-- What a reader of a part answers, against what reading gives.
use Rattle.std.specs.Prelude.{◌≡◌, [], ◌∷◌, ◌++◌, Option, Some, None, Result, Ok, Err, option_and_then}
use Rattle.cnf_core.specs.Lines.{ProofLine}
use Rattle.sat_proof.specs.Lines.{FlatProof, proof_lines}
use Rattle.sat_text.specs.declared.faults.Fault.{Fault}
use Rattle.sat_text.specs.declared.faults.Fault.TheVariants.{Memory, Wrong}

infixl 10 ◌>>=◌
abbrev pub ◌>>=◌ : {A B : Type 0} → Option A → (A → Option B) → Option B
o >>= f = option_and_then f o

-- where a reader fails, and not for want of memory, reading gives nothing
abbrev pub Fails : {Y : Type 0} → Fault → Option Y → Type 0
Fails Memory read = Unit {0}
Fails Wrong read = read ≡ None

-- what a reader gives, seen by view, is what reading gives
abbrev pub Gives : {X Y : Type 0} → (X → Y) → Result X Fault → Option Y → Type 0
Gives view (Ok x) read = read ≡ Some (view x)
Gives view (Err fault) read = Fails fault read

-- a reader of a line appends the line that reading gives
abbrev pub AddsLine : {X : Type 0} → FlatProof → FlatProof → Result X Fault → Option ProofLine → Type 0
AddsLine old new (Ok later) read = (line : ProofLine) × (read ≡ Some line) × (proof_lines new ≡ proof_lines old ++ line ∷ [])
AddsLine old new (Err fault) read = Fails fault read
