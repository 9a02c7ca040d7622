-- What is written of a joined log proves the formula, and what a file has that was read.
use Rattle.std.proofs.Common.{◌≡◌, ◌↔◌, ℕ, ◌+◌, ◌<◌, ◌≤◌, true, false, List, [], ◌∷◌, ◌++◌, length, take, Option, Some, None, Result, Ok, Err, IfOk, option_map, inl, inr, refl, ap, sym, subst, ◌∙◌, arith}
use Rattle.std.specs.Prelude.{All}
use Rattle.std.proofs.lemmas.Bool.{cases_lt, false≢true}
use Rattle.std.proofs.lemmas.List.{length-take, take_all}
use Rattle.std.proofs.lemmas.List.Elements.{All-head, All-tail}
use Rattle.cnf_core.specs.Events.{LogEvent, given, givens, is_given, step}
use Rattle.cnf_core.specs.Literal.{Literal, IsVariable}
use Rattle.cnf_core.specs.LogLines.{log_lines}
use Rattle.cnf_core.specs.Steps.{IsValidLog}
use Rattle.ep_base.specs.Outside.{Held, ReadGives}
use Rattle.join_cubes.specs.Texts.{HasFormula, IsProofText, IsShortFormulaText, ProvesFirst}
use Rattle.log_check.proofs.Accepted.{closed_is_verified}
use Rattle.log_check.specs.Verdict.{verdict_of}
use Rattle.log_check.specs.declared.Verdict.TheVariants.{Verified}
use Rattle.sat_join.specs.Joins.{Divides, IsLogOfClauses}
use Rattle.sat_search.specs.Logs.{EndsWithEmptyStep}
use Rattle.sat_split.specs.Cubes.{AreCubeVariables, all_given}
use Rattle.sat_text.specs.CnfGrammar.{SpellsCnf}
use Rattle.sat_text.specs.LogGrammar.{SpellsLog}
use Rattle.sat_text.specs.Words.{most_text_bytes}

-- ---- the joined log

steps_give_none : (steps : List LogEvent) → All (λ e. is_given e ≡ false) steps → givens steps ≡ []
steps_give_none [] all = refl
steps_give_none (given clause ∷ steps) all = absurd (false≢true (sym (All-head (λ e. is_given e ≡ false) (given clause) steps all)))
steps_give_none (step clause hints ∷ steps) all = steps_give_none steps (All-tail (λ e. is_given e ≡ false) (step clause hints) steps all)

given_first : (clauses : List (List Literal)) (steps : List LogEvent) → All (λ e. is_given e ≡ false) steps → givens (all_given clauses ++ steps) ≡ clauses
given_first [] steps all = steps_give_none steps all
given_first (clause ∷ clauses) steps all = ap (λ (cs : List (List Literal)). clause ∷ cs) (given_first clauses steps all)

pub proves : (clauses : List (List Literal)) (events : List LogEvent) (text : List ℕ) → IsLogOfClauses clauses events → EndsWithEmptyStep events → SpellsLog text (log_lines events) → IsProofText clauses text
proves clauses events text joined ends spelled =
    let are : givens events ≡ clauses = ap givens joined.events_are ∙ given_first clauses joined.steps joined.are_steps in
    record {
      lines = log_lines events;
      spelled = spelled;
      verified = subst (λ (cs : List (List Literal)). verdict_of cs (log_lines events) ≡ Verified) are
          (subst (λ (es : List LogEvent). verdict_of (givens es) (log_lines es) ≡ Verified) (sym ends.events_are)
          (closed_is_verified ends.before ends.hints (subst IsValidLog ends.events_are joined.valid)));
    }

-- ---- the formula's file

-- The greatest number of bytes of a text is a variable in these: as a literal it would be counted down.
-- What was read is the whole text, where it isn't longer than a text may be.
whole : (most : ℕ) (text bytes : List ℕ) → text ≡ take (most + 1) bytes → length text ≤ most → text ≡ bytes
whole most text bytes is within =
    let long : length (take (most + 1) bytes) ≤ most = subst (λ (t : List ℕ). length t ≤ most) is within in
    is ∙ take_all (most + 1) bytes (omega (arith, long, length-take (most + 1) bytes))

found_formula : (most : ℕ) (held : Held) (name text : List ℕ) (vars : ℕ) (clauses : List (List Literal)) (found : Option (List ℕ)) → held name ≡ found → Some text ≡ option_map (take (most + 1)) found → length text ≤ most → SpellsCnf text vars clauses
    → HasFormula held name clauses
found_formula most held name text vars clauses None there gives within spelled = absurd (let no : ⊥ = cc gives in no)
found_formula most held name text vars clauses (Some bytes) there gives within spelled =
    let is : text ≡ take (most + 1) bytes = cc gives in
    record {
      text = bytes;
      there = there;
      vars = vars;
      spelled = subst (λ (t : List ℕ). SpellsCnf t vars clauses) (whole most text bytes is within) spelled;
    }

pub has_formula : (most : ℕ) (told : Option Held) (name text : List ℕ) (vars : ℕ) (clauses : List (List Literal)) → ReadGives told name (most + 1) (Some text) → length text ≤ most → SpellsCnf text vars clauses → (held : Held) → told ≡ Some held → HasFormula held name clauses
has_formula most told name text vars clauses gives within spelled held is =
    found_formula most held name text vars clauses (held name) refl (subst (λ (t : Option Held). ReadGives t name (most + 1) (Some text)) is gives) within spelled

pub not_long : (most : ℕ) (text : List ℕ) (TooLong : Type 0) → TooLong ↔ (most < length text) → (TooLong → ⊥) → length text ≤ most
not_long most text TooLong long not = elim (cases_lt most (length text)) [
  | inl more ↦ absurd (not (long.1 more))
  | inr within ↦ within
]

pub formula_read : {A E : Type 0} (clauses : A → List (List Literal)) (told : Option Held) (name text : List ℕ) (r : Result A E) → ReadGives told name (most_text_bytes + 1) (Some text) → IfOk r (λ f. IsShortFormulaText text (clauses f))
    → IfOk r (λ f. (held : Held) → told ≡ Some held → HasFormula held name (clauses f))
formula_read clauses told name text (Ok f) gives h = λ held is. has_formula most_text_bytes told name text h.vars (clauses f) gives h.within h.spelled held is
formula_read clauses told name text (Err e) gives h = tt

-- ---- both

-- the same of a name that is told as a text
pub same_name : (told : Option Held) (clauses : List (List Literal)) (text name : List ℕ) → text ≡ name → ((held : Held) → told ≡ Some held → HasFormula held text clauses) → (held : Held) → told ≡ Some held → HasFormula held name clauses
same_name told clauses text name same has held is = subst (λ (n : List ℕ). HasFormula held n clauses) same (has held is)

pub first_proved : {A E : Type 0} (items : A → List ℕ) (told : Option Held) (words : List (List ℕ)) (name : List ℕ) (names : List (List ℕ)) (clauses : List (List Literal)) (r : Result A E) → words ≡ name ∷ names
    → ((held : Held) → told ≡ Some held → HasFormula held name clauses) → IfOk r (λ text. IsProofText clauses (items text)) → IfOk r (λ text. (held : Held) → told ≡ Some held → ProvesFirst held words (items text))
first_proved items told words name names clauses (Ok text) are has h = λ held is.
    let P : List (List ℕ) → Type 0 = λ ws. ProvesFirst held ws (items text) in
    subst P (sym are) (clauses, has held is, h)
first_proved items told words name names clauses (Err e) are has h = tt

-- ---- the cube variables

pub divides : (most : ℕ) (clauses : List (List Literal)) (vars : List ℕ) → AreCubeVariables most clauses vars → All IsVariable vars → Divides clauses vars
divides most clauses vars are variables = record { ascending = are.ascending; named = are.named; variables = variables }
