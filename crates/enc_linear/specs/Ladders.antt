-- New terms that can be worth any of some numbers.
use Rattle.std.specs.Prelude.{◌≡◌, ℕ, suc, ℤ, pos, Bool, true, List, [], ◌∷◌}
use Rattle.std.specs.List.{Contains}
use Rattle.cnf_core.specs.Clauses.{Satisfies}
use Rattle.cnf_core.specs.Formula.{Cnf, Extends}
use Rattle.enc_linear.specs.declared.sources.Ladder.{Ladder}
use Rattle.enc_linear.specs.declared.sources.Source.TheVariants as source
use Rattle.enc_linear.specs.declared.terms.Step.{Step}
use Rattle.enc_linear.specs.declared.terms.Term.{Term}
use Rattle.enc_linear.specs.Terms.{HoldsSteps, IsTermOf, worth_of}
use Rattle.enc_var.specs.Decoding.{VariableLiterals}
use Rattle.enc_var.specs.Layouts.{GoesOn, decoded_values}

-- A formula and its layout go on from others by a term that can be worth any of these numbers, whatever the earlier
-- variables are.
pub record HasTerm (layout : List VariableLiterals) (f : Cnf) (later : List VariableLiterals) (g : Cnf) (numbers : List ℤ) (term : Term) : Type 0 where
  pub goes_on : GoesOn layout f later g
  pub of_layout : IsTermOf later g term
  pub choice : (s : ℕ → Bool) (n : ℤ) → Satisfies s f.clauses → Contains numbers n
      → (far : Extends f.vars s g) × (worth_of (decoded_values later far.values) term ≡ n)

-- steps that are worth these numbers, from this height on
unfoldable pub steps_from : ℕ → List ℤ → List Step
steps_from k [] = []
steps_from k (n ∷ ns) = (record { value = pos k; worth = n }) ∷ steps_from (suc k) ns

-- A term is that of a ladder, which is worth these numbers by its height.
pub record IsLadderTerm (ladder : Ladder) (numbers : List ℤ) (term : Term) : Type 0 where
  pub is_ladder : term.source ≡ source.Ladder ladder
  pub rising : term.rising ≡ true
  pub steps : term.steps.items ≡ steps_from 0 numbers
  pub bounds : HoldsSteps term.bounds term.steps.items
