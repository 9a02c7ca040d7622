-- What devices tell of themselves, and what their calls may answer and change.
use Rattle.std.specs.Prelude.{◌≡◌, ◌≢◌, ◌⊎◌, ℕ, ◌-◌, ◌^◌, ◌<◌, ◌≤◌, List, ◌++◌, length, take, Option, Some, None, option_map, if◌then◌else◌, IsSomeAnd}
use Rattle.std.specs.Str.{bytes_eq}
use Rattle.std.specs.Io.KnownBytes.{Consumes}

-- the contents of a device of files: the bytes under each name, where it has the name
abbrev pub Held : Type 0
Held = List ℕ → Option (List ℕ)

-- the same contents, but that exactly these bytes stand under this name
abbrev pub with_bytes : List ℕ → List ℕ → Held → Held
with_bytes name bytes held = λ asked. if bytes_eq asked name then Some bytes else held asked

-- What a read may give. Where the contents are told: the bytes under the name, cut off behind `at_most`, and None exactly where there is no such name. Where they aren't told: never None, and at most `at_most` bytes.
abbrev pub ReadGives : Option Held → List ℕ → ℕ → Option (List ℕ) → Type 0
ReadGives (Some held) name at_most answer = answer ≡ option_map (take at_most) (held name)
ReadGives None name at_most answer = IsSomeAnd answer (λ bytes. length bytes ≤ at_most)

-- what is told after a failed write: nothing if nothing was told before, and of every name but this one the same as before
abbrev pub SameElsewhere : List ℕ → Option Held → Option Held → Type 0
SameElsewhere name None after = after ≡ None
SameElsewhere name (Some before) after = IsSomeAnd after (λ held. (other : List ℕ) → other ≢ name → held other ≡ before other)

-- a count of faults rose: it grew, or it stands at its end
abbrev pub Rose : ℕ → ℕ → Type 0
Rose before after = (before < after) ⊎ (after ≡ 2 ^ 64 - 1)

-- what a sink that tells what it took tells after it has taken more
abbrev pub with_more : List ℕ → Option (List ℕ) → Option (List ℕ)
with_more more taken = option_map (λ before. before ++ more) taken

-- of these bytes a first part that isn't the whole was taken, in order, and nothing else
abbrev pub TookPart : List ℕ → Option (List ℕ) → Option (List ℕ) → Type 0
TookPart bytes before after = (count : ℕ) × (count < length bytes) × (after ≡ with_more (take count bytes) before)

-- a read appended so many bytes to a list: those with which what was left began, which are gone from it
abbrev pub AppendsRead : Option (List ℕ) → Option (List ℕ) → List ℕ → List ℕ → ℕ → Type 0
AppendsRead before after old new count =
    (more : List ℕ) × (new ≡ old ++ more) × (length more ≡ count) × Consumes before after more
