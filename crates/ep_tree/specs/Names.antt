-- What names stand for.
use Rattle.std.specs.Prelude.{List, [], ◌∷◌, if◌then◌else◌, Some, None, bytes_eq, Option}
use Rattle.ep_base.specs.declared.names.Name.{Name}

-- what each name stands for, if it stands for anything
abbrev pub Known : Type 0 → Type 0
Known A = Name → Option A

-- no name stands for anything
abbrev pub nothing_known : {A : Type 0} → Known A
nothing_known name = None

-- A name stands for something new, which hides what it stood for; all other names stand for what they did.
abbrev pub put : {A : Type 0} → Name → A → Known A → Known A
put name x known other = if bytes_eq other name then Some x else known other

-- names that are put one after another, the last of the list first
unfoldable pub put_all : {A : Type 0} → List (Name × A) → Known A → Known A
put_all [] known = known
put_all (entry ∷ entries) known = put entry.0 entry.1 (put_all entries known)
