use Rattle.std.proofs.Common.{◌≡◌, ◌↔◌, ℤ, ◌≤ℤ◌, List, false, sym, ap, subst, ◌∙◌, w64, to_z, of_z, arith, rules}
use Rattle.std.proofs.lemmas.Int.{ints, to_z-of_z}
use Rattle.std.specs.Prelude.{IsTrue}
use Rattle.ep_base.specs.Senses.{better_number}
use Rattle.ep_base.specs.declared.operators.Sense.{Sense}
use Rattle.enc_var.specs.Decoding.{decoded, known_holds, le_of}
use Rattle.enc_var.specs.Layouts.{literals_at}
use Rattle.enc_var.specs.declared.known.Known.TheVariants as known
use Rattle.ep_answer.specs.Searches.{AreWithin}
use Rattle.ep_answer.proofs.Deciding.{less_said, more_said, none_better}
use Rattle.ep_answer.proofs.improving.better.Goals as goal

pub returns-then-best-within : goal.returns-then-best-within
returns-then-best-within c = λ s means.
    let low : c.args.best ≤ℤ c.hull-within.result.lo = omega (arith, ints) in
    subst (λ (sense : Sense). IsTrue (known_holds s known.False) ↔ IsTrue (better_number sense (decoded s (literals_at c.args.layout.now c.args.var)) c.args.best)) (sym c.in-Minimising.is)
    (none_better s (literals_at c.args.layout.now c.args.var) c.hull-within.result.lo c.hull-within.result.hi c.args.best
    (subst (λ (domain : List ℤ). AreWithin domain c.hull-within.result) (c.runs.ensures.numbers ∙ c.domain.ensures) c.hull-within.ensures) low means)

pub returns-else-best-within : goal.returns-else-best-within
returns-else-best-within c = λ s means.
    subst (λ (sense : Sense). IsTrue (known_holds s c.le.result) ↔ IsTrue (better_number sense (decoded s (literals_at c.args.layout.now c.args.var)) c.args.best)) (sym c.in-Minimising.is)
    (less_said s (literals_at c.args.layout.now c.args.var) c.args.best _ c.le.result (omega (arith, ints)) c.le.ensures means)

pub returns-in-Maximising : goal.returns-in-Maximising
returns-in-Maximising c = λ s means.
    let best : to_z w64 (of_z w64 c.args.best) ≡ c.args.best = to_z-of_z w64 c.args.best (search rules) in
    subst (λ (sense : Sense). IsTrue (known_holds s c.contrary.result) ↔ IsTrue (better_number sense (decoded s (literals_at c.args.layout.now c.args.var)) c.args.best)) (sym c.in-Maximising.is)
    (more_said s (literals_at c.args.layout.now c.args.var) c.args.best c.contrary.result
    (subst (λ k. IsTrue (known_holds s c.contrary.result) ↔ (known_holds s k ≡ false)) (c.le-in-Maximising.ensures ∙ ap (le_of (literals_at c.args.layout.now c.args.var)) best) (c.contrary.ensures s)) means)
