-- Values of a formula's variables, and the number that they give a variable.
use Rattle.std.proofs.Common.{◌≡◌, ℕ, ℤ, pos, Bool, true, false, cond, List, [], ◌∷◌, refl, ap, ◌∙◌}
use Rattle.std.specs.Prelude.{filter}
use Rattle.ep_base.specs.Reads.{first_or_zero}
use Rattle.enc_var.specs.Decoding.{VariableLiterals, decoded, known_holds, eq_of, literal_holds}
use Rattle.enc_var.specs.declared.known.Known.TheVariants as known
use Rattle.cnf_core.specs.Literal.{Literal}
use Rattle.ep_base.specs.Reads.{same_bool}
use mathlib.Core.Bool.{beq}
use Rattle.ep_answer.proofs.Deciding.{same_test}

-- the first of these numbers that the literals of a variable tell, or 0
unfoldable pub first_told : (ℕ → Bool) → VariableLiterals → List ℤ → ℤ
first_told s e numbers = first_or_zero (filter (λ v. known_holds s (eq_of e v)) numbers)

pub told_here : (s : ℕ → Bool) (e : VariableLiterals) (v : ℤ) (vs : List ℤ) → known_holds s (eq_of e v) ≡ true → first_told s e (v ∷ vs) ≡ v
unfolding first_told first_or_zero
told_here s e v vs t = ap (λ b. first_or_zero (cond b (v ∷ filter (λ w. known_holds s (eq_of e w)) vs) (filter (λ w. known_holds s (eq_of e w)) vs))) t

pub told_later : (s : ℕ → Bool) (e : VariableLiterals) (v : ℤ) (vs : List ℤ) → known_holds s (eq_of e v) ≡ false → first_told s e (v ∷ vs) ≡ first_told s e vs
unfolding first_told
told_later s e v vs t = ap (λ b. first_or_zero (cond b (v ∷ filter (λ w. known_holds s (eq_of e w)) vs) (filter (λ w. known_holds s (eq_of e w)) vs))) t

pub told_nowhere : (s : ℕ → Bool) (e : VariableLiterals) → first_told s e [] ≡ pos 0
unfolding first_told first_or_zero
told_nowhere s e = refl

pub known_true : (s : ℕ → Bool) → known_holds s known.True ≡ true
unfolding known_holds
known_true s = refl

pub known_false : (s : ℕ → Bool) → known_holds s known.False ≡ false
unfolding known_holds
known_false s = refl

-- a literal holds where its variable's value is its sign
pub known_literal : (s : ℕ → Bool) (l : Literal) (value positive : Bool) → value ≡ s l.var → positive ≡ l.positive → beq value positive ≡ known_holds s (known.Is l)
unfolding known_holds literal_holds
known_literal s l value positive is sign = same_test value positive ∙ ap (λ b. same_bool b positive) is ∙ ap (same_bool (s l.var)) sign

pub told_all : (s : ℕ → Bool) (e : VariableLiterals) → first_told s e e.domain ≡ decoded s e
unfolding first_told decoded
told_all s e = refl
