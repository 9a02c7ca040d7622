use Rattle.std.proofs.Common.{Result, Ok, Err, rules}
use Rattle.std.specs.Prelude.{IsOk, MatchResult}
use Rattle.std.proofs.lemmas.Str.{IsUtf8-from_ascii}
use Rattle.ep_parse_parts.proofs.cursor.name_in.Goals as goal

-- a result that is no error
is_ok_from : {X E : Type 0} (P : X → Type 0) (Q : E → Type 0) (r : Result X E) → MatchResult r P Q → ((e : E) → Q e → ⊥) → IsOk r
is_ok_from P Q (Ok x) h never = search rules
is_ok_from P Q (Err e) h never = absurd (never e h)

pub unwrap-requires : goal.unwrap-requires
unwrap-requires c = is_ok_from _ _ _ c.from_utf8.ensures.cases (λ e h. h.0 (IsUtf8-from_ascii _ (c.requires.ascii c.in-Name.is)))
