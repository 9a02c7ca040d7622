-- Keeping composes.
use Rattle.std.proofs.Common.{ℕ, Bool, refl, sym, ◌∙◌, arith}
use Rattle.cnf_core.specs.Clauses.{Satisfies}
use Rattle.cnf_core.specs.Formula.{Cnf, Extends, Keeps, SpeaksOf}

extension_both : (f g h : Cnf) (C E : (ℕ → Bool) → Type 0) (s : ℕ → Bool) → Keeps f g C → Keeps g h E → SpeaksOf f.vars E → Satisfies s f.clauses → Extends f.vars s h → C s × E s
extension_both f g h C E s first second speaks here far =
    let middle : Satisfies far.values g.clauses = second.restriction far.values far.satisfies in (
      (first.extension s here).0 (record { values = far.values; agrees = far.agrees; satisfies = middle }),
      speaks far.values s (λ v one below. sym (far.agrees v one below))
          ((second.extension far.values middle).0 (record { values = far.values; agrees = λ v one below. refl; satisfies = far.satisfies })),
    )

both_extend : (f g h : Cnf) (C E : (ℕ → Bool) → Type 0) (s : ℕ → Bool) → Keeps f g C → Keeps g h E → SpeaksOf f.vars E → Satisfies s f.clauses → C s × E s → Extends f.vars s h
both_extend f g h C E s first second speaks here both =
    let near : Extends f.vars s g = (first.extension s here).1 both.0 in
    let far : Extends g.vars near.values h = (second.extension near.values near.satisfies).1 (speaks s near.values near.agrees both.1) in
    record {
      values = far.values;
      agrees = λ v one below. near.agrees v one below ∙ far.agrees v one (omega (arith, below, first.variables));
      satisfies = far.satisfies;
    }

-- where g keeps f under C, and h keeps g under E, which speaks of the variables of f alone, h keeps f under both
pub Keeps-trans : (f g h : Cnf) (C E : (ℕ → Bool) → Type 0) → Keeps f g C → Keeps g h E → SpeaksOf f.vars E → Keeps f h (λ s. C s × E s)
Keeps-trans f g h C E first second speaks = record {
  variables = omega (arith, first.variables, second.variables);
  extension = λ s here. (extension_both f g h C E s first second speaks here, both_extend f g h C E s first second speaks here);
  restriction = λ s satisfied. first.restriction s (second.restriction s satisfied);
}
