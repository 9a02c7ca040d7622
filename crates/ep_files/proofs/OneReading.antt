-- The text of a formula, or of a proof, is read as one thing alone.
use Rattle.std.proofs.Common.{◌≡◌, ◌≤◌, ◌∙◌, ℕ, List, length, Ok, Err, Result, inl, inr, sym, ap, arith}
use Rattle.cnf_core.specs.Lines.{ProofLine}
use Rattle.cnf_core.specs.Literal.{Literal}
use Rattle.ep_print.specs.declared.refusals.Refusal.{Refusal}
use Rattle.ep_print.specs.declared.refusals.TextFile.{TextFile}
use Rattle.sat_text.proofs.FaultLines.{one_fault_line, one_wrong_line}
use Rattle.sat_text.specs.CnfGrammar.{IsFaultLine, SpellsCnf}
use Rattle.sat_text.specs.LogGrammar.{IsFirstWrongLine, SpellsLog}
use Rattle.sat_text.specs.Words.{most_text_bytes}
use Rattle.ep_files.specs.Readings.{IsClausesRefusal, IsFormulaReadAs, IsProofReadAs, SpellsFormulaClauses}

-- a text spells one formula at most
abbrev pub OneFormula : Type 0
OneFormula = (text : List ℕ) (vars others : ℕ) (clauses other_clauses : List (List Literal)) → SpellsCnf text vars clauses → SpellsCnf text others other_clauses → (vars ≡ others) × (clauses ≡ other_clauses)

-- a text spells one proof at most
abbrev pub OneProof : Type 0
OneProof = (text : List ℕ) (lines others : List ProofLine) → SpellsLog text lines → SpellsLog text others → lines ≡ others

-- ---- readings

not-refused : (file : TextFile) (bad : ℕ → Refusal) (text : List ℕ) (Spells : Type 0) (Faulty : ℕ → Type 0) (r : Refusal) → length text ≤ most_text_bytes → Spells → IsClausesRefusal file bad text Spells Faulty r → ⊥
not-refused file bad text Spells Faulty r within spells h = elim h [ inl long ↦ omega (arith, long.0, within) | inr wrong ↦ wrong.1 spells ]

refusals-once : (file : TextFile) (bad : ℕ → Refusal) (text : List ℕ) (Spells : Type 0) (Faulty : ℕ → Type 0) → ((m n : ℕ) → Faulty m → Faulty n → m ≡ n) → (r s : Refusal) → IsClausesRefusal file bad text Spells Faulty r → IsClausesRefusal file bad text Spells Faulty s → r ≡ s
refusals-once file bad text Spells Faulty once r s g h =
    elim g [
      | inl long ↦ elim h [
        | inl other ↦ long.1 ∙ sym other.1
        | inr other ↦ absurd (omega (arith, long.0, other.0))
      ]
      | inr wrong ↦ elim h [
        | inl other ↦ absurd (omega (arith, other.0, wrong.0))
        | inr other ↦ wrong.4 ∙ ap bad (once wrong.2 other.2 wrong.3 other.3) ∙ sym other.4
      ]
    ]

pub formula-once : OneFormula → (text : List ℕ) (a b : Result (List (List Literal)) Refusal) → IsFormulaReadAs text a → IsFormulaReadAs text b → a ≡ b
formula-once one text (Ok x) (Ok y) g h = ap Ok (one text g.1.0 h.1.0 x y g.1.1 h.1.1).1
formula-once one text (Ok x) (Err r) g h = absurd (not-refused TextFile.Cnf Refusal.BadCnf text ((clauses : List (List Literal)) × SpellsFormulaClauses text clauses) (IsFaultLine text) r g.0 (x, g.1) h)
formula-once one text (Err r) (Ok y) g h = absurd (not-refused TextFile.Cnf Refusal.BadCnf text ((clauses : List (List Literal)) × SpellsFormulaClauses text clauses) (IsFaultLine text) r h.0 (y, h.1) g)
formula-once one text (Err r) (Err s) g h = ap Err (refusals-once TextFile.Cnf Refusal.BadCnf text ((clauses : List (List Literal)) × SpellsFormulaClauses text clauses) (IsFaultLine text) (one_fault_line text) r s g h)

pub proof-once : OneProof → (text : List ℕ) (a b : Result (List ProofLine) Refusal) → IsProofReadAs text a → IsProofReadAs text b → a ≡ b
proof-once one text (Ok x) (Ok y) g h = ap Ok (one text x y g.1 h.1)
proof-once one text (Ok x) (Err r) g h = absurd (not-refused TextFile.Log Refusal.BadLog text ((lines : List ProofLine) × SpellsLog text lines) (IsFirstWrongLine text) r g.0 (x, g.1) h)
proof-once one text (Err r) (Ok y) g h = absurd (not-refused TextFile.Log Refusal.BadLog text ((lines : List ProofLine) × SpellsLog text lines) (IsFirstWrongLine text) r h.0 (y, h.1) g)
proof-once one text (Err r) (Err s) g h = ap Err (refusals-once TextFile.Log Refusal.BadLog text ((lines : List ProofLine) × SpellsLog text lines) (IsFirstWrongLine text) (one_wrong_line text) r s g h)
