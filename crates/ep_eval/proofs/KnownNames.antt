-- What names stand for, by the entries of a table.
use Rattle.ep_eval.proofs.Words.{◌≡◌, Bool, true, false, List, refl, sym, ap, ◌∙◌, cond, Option, Some, option_map, bytes_eq, if◌then◌else◌, lookup, one_answer, bytes_eq-Decides, Name, Bound, Env, put, bound_of}
use Rattle.ep_eval.specs.declared.environments.Meaning.{Meaning}

-- the environment of some entries
abbrev pub entries_env : List (Name × Meaning) → Env
entries_env es name = option_map bound_of (lookup (bytes_eq name) es)

-- whatever holds of what no name and what one name stands for holds after one more name
pub kept_by : (P : Option Bound → Type 0) (env : Env) (k : Name) (b : Bound) → P (Some b) → ((name : Name) → P (env name)) → (name : Name) → P (put k b env name)
kept_by P env k b new old name = elim (bytes_eq name k) as (λ c. P (if c then Some b else env name)) [ true ↦ new | false ↦ old name ]

pub bytes_eq-symmetric : (k q : Name) → bytes_eq k q ≡ bytes_eq q k
bytes_eq-symmetric k q =
    one_answer {P = k ≡ q} (bytes_eq k q) (bytes_eq q k) (bytes_eq-Decides k q)
    (λ h. sym ((bytes_eq-Decides q k).0 h), λ e. (bytes_eq-Decides q k).1 (sym e))
