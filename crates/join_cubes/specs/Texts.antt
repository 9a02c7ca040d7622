-- Texts of formulas in files, and texts of their proofs.
use Rattle.std.specs.Prelude.{◌≡◌, ◌≤◌, ℕ, List, [], ◌∷◌, Some, length}
use Rattle.cnf_core.specs.Lines.{ProofLine}
use Rattle.cnf_core.specs.Literal.{Literal}
use Rattle.ep_base.specs.Outside.{Held}
use Rattle.log_check.specs.Verdict.{verdict_of}
use Rattle.log_check.specs.declared.Verdict.TheVariants.{Verified}
use Rattle.sat_text.specs.CnfGrammar.{SpellsCnf}
use Rattle.sat_text.specs.LogGrammar.{SpellsLog}
use Rattle.sat_text.specs.Words.{most_text_bytes}

-- a text spells a proof of these clauses that is verified: no assignment satisfies them
pub record IsProofText (clauses : List (List Literal)) (text : List ℕ) : Type 0 where
  pub lines : List ProofLine
  pub spelled : SpellsLog text lines
  pub verified : verdict_of clauses lines ≡ Verified

-- a text that isn't too long spells a formula of these clauses
pub record IsShortFormulaText (text : List ℕ) (clauses : List (List Literal)) : Type 0 where
  pub within : length text ≤ most_text_bytes
  pub vars : ℕ
  pub spelled : SpellsCnf text vars clauses

-- the text of a file spells a formula of these clauses
pub record HasFormula (held : Held) (name : List ℕ) (clauses : List (List Literal)) : Type 0 where
  pub text : List ℕ
  pub there : held name ≡ Some text
  pub vars : ℕ
  pub spelled : SpellsCnf text vars clauses

-- a text spells a verified proof of the formula of the file that the first of these words names
abbrev pub ProvesFirst : Held → List (List ℕ) → List ℕ → Type 0
ProvesFirst held [] text = ⊥
ProvesFirst held (name ∷ names) text =
    (clauses : List (List Literal)) × HasFormula held name clauses × IsProofText clauses text
