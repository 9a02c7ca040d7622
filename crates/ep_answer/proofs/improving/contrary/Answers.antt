use Rattle.std.proofs.Common.{◌≡◌, ◌↔◌, false, sym, subst}
use Rattle.std.specs.Prelude.{IsTrue}
use Rattle.enc_var.specs.Decoding.{known_holds}
use Rattle.enc_var.specs.declared.known.Known.{Known}
use Rattle.enc_var.specs.declared.known.Known.TheVariants as known
use Rattle.ep_answer.proofs.Deciding.{contrary_false, contrary_is, contrary_true}
use Rattle.ep_answer.proofs.improving.contrary.Goals as goal

pub returns-in-True : goal.returns-in-True
returns-in-True c = λ s. subst (λ (k : Known). IsTrue (known_holds s known.False) ↔ (known_holds s k ≡ false)) (sym c.in-True.is) (contrary_true s)

pub returns-in-False : goal.returns-in-False
returns-in-False c = λ s. subst (λ (k : Known). IsTrue (known_holds s known.True) ↔ (known_holds s k ≡ false)) (sym c.in-False.is) (contrary_false s)

pub returns-in-Is : goal.returns-in-Is
returns-in-Is c =
    λ s. subst (λ (k : Known). IsTrue (known_holds s (known.Is c.negated.result)) ↔ (known_holds s k ≡ false)) (sym c.in-Is.is) (contrary_is s c.in-Is.lit c.negated.result c.negated.ensures)
