use Rattle.ep_eval.proofs.Words.{◌≡◌, drop, Context, meaning_or, with_typed}
use Rattle.ep_eval.proofs.TypedNames.{shown}
use Rattle.ep_eval.proofs.within.scalar_within.Given as goal

abbrev pub invariant-loop-own : goal.invariant-loop-own
invariant-loop-own l = (c : Context) → with_typed l.typed c l.name ≡ shown (drop l.own-index l.typed) l.name (meaning_or l.found (c l.name))
