-- What a result tells of its error.
use Rattle.std.proofs.Common.{Result, Ok, Err, MatchResult, IfErr}

pub if_err : {X E : Type 0} (r : Result X E) (P : X → Type 0) (Q R : E → Type 0) → MatchResult r P Q → ((e : E) → Q e → R e) → IfErr r R
if_err (Ok x) P Q R told from = tt
if_err (Err e) P Q R told from = from e told
