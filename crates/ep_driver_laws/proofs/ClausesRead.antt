-- Each text is read as something, be a formula to be read or a proof.
use Rattle.std.specs.Prelude.{◌≡◌, ℕ, ◌≤◌, List, length, Result, Ok, Err, refl}
use Rattle.std.proofs.Common.{inl, inr}
use Rattle.cnf_core.specs.Lines.{ProofLine}
use Rattle.ep_print.specs.declared.refusals.Refusal.{Refusal}
use Rattle.ep_print.specs.declared.refusals.TextFile.{TextFile}
use Rattle.sat_text.proofs.CnfFaults.{fault_line}
use Rattle.sat_text.proofs.CnfSpelled.{cnf_sound, refused_spells_none as no_formula}
use Rattle.sat_text.proofs.LogSpelled.{first_wrong_line, log_sound, refused_spells_none as no_proof}
use Rattle.sat_text.specs.Cnf.{CnfContent, formula_of}
use Rattle.sat_text.specs.Proofs.{proof_of}
use Rattle.sat_text.specs.Words.{most_text_bytes}
use Rattle.ep_files.specs.Readings.{IsFormulaReadAs, IsProofReadAs, ReadsTexts}
use Rattle.ep_driver_laws.proofs.TextsRead.{at_most_or_more}

-- a text is read as something
abbrev pub IsRead : {A : Type 0} → ReadsTexts A → List ℕ → Type 0
IsRead {A} reads text = (reading : Result A Refusal) × reads text reading

short_formula : (text : List ℕ) → length text ≤ most_text_bytes → (r : Result CnfContent ℕ) → formula_of text ≡ r → IsRead IsFormulaReadAs text
short_formula text short (Ok f) e = (Ok f.clauses, (short, (f.vars, cnf_sound text f e)))
short_formula text short (Err line) e =
    (Err (Refusal.BadCnf line), inr (short, (λ spelled. no_formula text line spelled.1.0 spelled.0 e spelled.1.1), line, fault_line text line e, refl))

pub formula_read : (text : List ℕ) → IsRead IsFormulaReadAs text
formula_read text = elim (at_most_or_more (length text) most_text_bytes) [
  | inl short ↦ short_formula text short (formula_of text) refl
  | inr long ↦ (Err (Refusal.TooLong TextFile.Cnf), inl (long, refl))
]

short_proof : (text : List ℕ) → length text ≤ most_text_bytes → (r : Result (List ProofLine) ℕ) → proof_of text ≡ r → IsRead IsProofReadAs text
short_proof text short (Ok lines) e = (Ok lines, (short, log_sound text lines e))
short_proof text short (Err line) e =
    (Err (Refusal.BadLog line), inr (short, (λ spelled. no_proof text line spelled.0 e spelled.1), line, first_wrong_line text line e, refl))

pub proof_read : (text : List ℕ) → IsRead IsProofReadAs text
proof_read text = elim (at_most_or_more (length text) most_text_bytes) [
  | inl short ↦ short_proof text short (proof_of text) refl
  | inr long ↦ (Err (Refusal.TooLong TextFile.Log), inl (long, refl))
]
