-- From the first bytes of a file to what the file is read as.
use Rattle.std.proofs.Common.{◌≡◌, ◌↔◌, ℕ, ◌+◌, ◌<◌, ◌≤◌, List, length, take, Option, Some, None, Ok, Err, Result, IfOk, IfSome, IsErrOf, IsSomeAnd, MatchResult, option_map, inl, inr, refl, subst, arith, [], ap}
use Rattle.std.proofs.lemmas.List.{take_all, length-take}
use Rattle.ep_base.specs.Outside.{Held, ReadGives}
use Rattle.ep_parse_model.specs.Answers.{RefusesText}
use Rattle.ep_parse_model.specs.declared.text_errors.TextError.{TextError}
use Rattle.ep_print.specs.declared.refusals.Refusal.{Refusal}
use Rattle.ep_print.specs.declared.refusals.TextFile.{TextFile}
use Rattle.ep_tree.specs.Phrases.{Phrase}
use Rattle.ep_tree.specs.StatementSpelling.{SpellsParams}
use Rattle.ep_tree.specs.Statements.{TextTree}
use Rattle.ep_tree.specs.Texts.{Answers, HasHeightFault, HasSyntaxFault, HasTokenFault, IsReadAs as IsTreeOf, MOST_BYTES, TextAnswer, bad_byte, long_number, read_as, syntax_fault, too_high, too_long}
use Rattle.ep_base.specs.Tokens.{BadByte, LongNumber}
use Rattle.ep_files.specs.Readings.{HasParams, IsClausesRefusal, IsFormulaReadAs, IsHeldReadBy, IsProofReadAs, IsReadBy, IsTextReadAs, ReadsTexts, SpellsFormulaClauses, spells_in, tree_or_refusal}
use Rattle.ep_files.specs.Status.{status_of}
use Rattle.ep_files.specs.Reads.{TellsRead, TellsText, formula_clauses, IsNotThere, IsUnreadStop, TellsBytes, TellsParams}
use Rattle.ep_files.specs.Stops.{cnf_stop, log_stop, text_stop}
use Rattle.sat_text.specs.CnfGrammar.{IsFaultLine, SpellsCnf}
use Rattle.sat_text.specs.LogGrammar.{IsFirstWrongLine, SpellsLog}
use Rattle.sat_text.specs.Words.{most_text_bytes}
use Rattle.sat_text.specs.declared.cnf.CnfError.{CnfError}
use Rattle.sat_text.specs.declared.cnf.CnfFile.{CnfFile}
use Rattle.sat_text.specs.declared.proof.LogError.{LogError}
use Rattle.cnf_core.specs.Formula.{Cnf}
use Rattle.cnf_core.specs.Lines.{ProofLine}
use Rattle.sat_proof.specs.Lines.{proof_lines}
use Rattle.cnf_core.specs.Literal.{Literal}
use Rattle.sat_proof.specs.declared.proof.Proof.{Proof}
use Rattle.ep_files.specs.declared.stops.Stop.{Stop}
use Rattle.std.specs.declared.alloc.Global.{Global}
use Rattle.std.specs.declared.vec.Vec.{Vec}
use Rattle.ep_tree.specs.Views.{params_tree}
use Rattle.ep_tree.specs.declared.statements.Params.{Params}

-- ---- the first bytes of a text tell what it is read as

pub whole : (most : ℕ) (text : List ℕ) → length (take (most + 1) text) ≤ most → take (most + 1) text ≡ text
whole most text h = take_all (most + 1) text (omega (arith, h, length-take (most + 1) text))

pub longer : (most : ℕ) (text : List ℕ) → most < length (take (most + 1) text) → most < length text
longer most text h = omega (arith, h, length-take (most + 1) text)

-- the first bytes of a text, one more than it may have, are read as the text is
abbrev pub IsCutAlike : {A : Type 0} → ℕ → ReadsTexts A → Type 0
IsCutAlike {A} most reads = (text : List ℕ) (reading : Result A Refusal) → reads (take (most + 1) text) reading → reads text reading

pub cut-answers : (spells : TextTree → Phrase) (text : List ℕ) (answer : TextAnswer) → Answers spells (take (MOST_BYTES + 1) text) answer → Answers spells text answer
cut-answers spells text (read_as tree) h =
    let P : List ℕ → Type 0 = λ x. IsTreeOf spells x tree in subst P (whole MOST_BYTES text h.within) h
cut-answers spells text too_long h = longer MOST_BYTES text h
cut-answers spells text (bad_byte place) h =
    let P : List ℕ → Type 0 = λ x. HasTokenFault x (BadByte place) in subst P (whole MOST_BYTES text h.within) h
cut-answers spells text (long_number place) h =
    let P : List ℕ → Type 0 = λ x. HasTokenFault x (LongNumber place) in subst P (whole MOST_BYTES text h.within) h
cut-answers spells text (syntax_fault place) h =
    let P : List ℕ → Type 0 = λ x. HasSyntaxFault spells x place in subst P (whole MOST_BYTES text h.within) h
cut-answers spells text (too_high place) h =
    let P : List ℕ → Type 0 = λ x. HasHeightFault spells x place in subst P (whole MOST_BYTES text h.within) h

pub cut-tree : (file : TextFile) → IsCutAlike MOST_BYTES (IsTextReadAs file)
cut-tree file text reading h = (h.0, cut-answers (spells_in file) text h.0 h.1, h.2)

cut-refusal : (file : TextFile) (bad : ℕ → Refusal) (text : List ℕ) (Spells : List ℕ → Type 0) (Faulty : List ℕ → ℕ → Type 0) (r : Refusal)
    → IsClausesRefusal file bad (take (most_text_bytes + 1) text) (Spells (take (most_text_bytes + 1) text)) (Faulty (take (most_text_bytes + 1) text)) r
    → IsClausesRefusal file bad text (Spells text) (Faulty text) r
cut-refusal file bad text Spells Faulty r h =
    let P : List ℕ → Type 0 = λ t. IsClausesRefusal file bad t (Spells t) (Faulty t) r in
    elim h [
      | inl long ↦ inl (longer most_text_bytes text long.0, long.1)
      | inr wrong ↦ subst P (whole most_text_bytes text wrong.0) (inr wrong)
    ]

pub cut-formula : IsCutAlike most_text_bytes IsFormulaReadAs
cut-formula text (Ok clauses) h =
    let P : List ℕ → Type 0 = λ t. IsFormulaReadAs t (Ok clauses) in subst P (whole most_text_bytes text h.0) h
cut-formula text (Err r) h = cut-refusal TextFile.Cnf Refusal.BadCnf text (λ t. (clauses : List (List Literal)) × SpellsFormulaClauses t clauses) IsFaultLine r h

pub cut-proof : IsCutAlike most_text_bytes IsProofReadAs
cut-proof text (Ok lines) h =
    let P : List ℕ → Type 0 = λ t. IsProofReadAs t (Ok lines) in subst P (whole most_text_bytes text h.0) h
cut-proof text (Err r) h = cut-refusal TextFile.Log Refusal.BadLog text (λ t. (lines : List ProofLine) × SpellsLog t lines) IsFirstWrongLine r h

-- ---- what a read gave

none-mapped : (n : ℕ) (x : Option (List ℕ)) → None ≡ option_map (take n) x → x ≡ None
none-mapped n None e = refl
none-mapped n (Some text) e = absurd cc

pub not-there : (told : Option Held) (name : List ℕ) (n : ℕ) → ReadGives told name n None → IsSomeAnd told (λ held. held name ≡ None)
not-there None name n h = absurd h
not-there (Some held) name n h = none-mapped n (held name) h

by-held : {A : Type 0} (most : ℕ) (texts : ReadsTexts A) → IsCutAlike most texts → (name bytes : List ℕ) (reading : Result A Refusal) (x : Option (List ℕ)) → Some bytes ≡ option_map (take (most + 1)) x → texts bytes reading → IsHeldReadBy texts name x reading
by-held most texts alike name bytes reading None e h = absurd cc
by-held most texts alike name bytes reading (Some text) e h =
    let same : bytes ≡ take (most + 1) text = cc in
    let P : List ℕ → Type 0 = λ x. texts x reading in
    alike text reading (subst P same h)

told-read : {A : Type 0} (most : ℕ) (texts : ReadsTexts A) → IsCutAlike most texts → (told : Option Held) (name bytes : List ℕ) (reading : Result A Refusal) → ReadGives told name (most + 1) (Some bytes) → texts bytes reading → IfSome told (λ held. IsReadBy texts held name reading)
told-read most texts alike None name bytes reading gives h = tt
told-read most texts alike (Some held) name bytes reading gives h = by-held most texts alike name bytes reading (held name) gives h

-- what is told of the first bytes of a file is told of the file
pub tells-read : {V A : Type 0} (view : V → A) (most : ℕ) (texts : ReadsTexts A) → IsCutAlike most texts → (told : Option Held) (name bytes : List ℕ) (rose : Type 0) (result : Result V Stop) → ReadGives told name (most + 1) (Some bytes) → TellsText view texts bytes result → TellsRead view texts told name rose result
tells-read view most texts alike told name bytes rose (Ok x) gives h = told-read most texts alike told name bytes (Ok (view x)) gives h
tells-read view most texts alike told name bytes rose (Err (Stop.Refused r)) gives h =
    inr (h.0, told-read most texts alike told name bytes (Err r) gives h.1)
tells-read view most texts alike told name bytes rose (Err Stop.Memory) gives h = tt

-- ---- what an error of reading a text says

pub text-stopped : {V : Type 0} (view : V → TextTree) (file : TextFile) (text : List ℕ) (error : TextError) → RefusesText (spells_in file) text error → TellsText view (IsTextReadAs file) text (Err (text_stop file error))
unfolding tree_or_refusal status_of
text-stopped view file text TextError.TooLong h = (inr refl, (too_long, h, refl))
text-stopped view file text (TextError.BadByte place) h = (inl refl, (bad_byte place, h, refl))
text-stopped view file text (TextError.LongNumber place) h = (inr refl, (long_number place, h, refl))
text-stopped view file text (TextError.Syntax place) h = (inl refl, (syntax_fault place, h, refl))
text-stopped view file text (TextError.TooHigh place) h = (inr refl, (too_high place, h, refl))
text-stopped view file text TextError.Memory h = tt

-- ---- what an error of reading a formula or a proof says

-- what reading a formula says of its text
pub record FormulaAnswers (text : List ℕ) (result : Result CnfFile CnfError) : Type 0 where
  pub too_long : IsErrOf result CnfError.TooLong ↔ (most_text_bytes < length text)
  pub spelled : IfOk result (λ file. SpellsCnf text file.formula.vars file.formula.clauses)
  pub complete : (vars : ℕ) (clauses : List (List Literal)) → SpellsCnf text vars clauses → MatchResult result (λ file. (file.formula.vars ≡ vars) × (file.formula.clauses ≡ clauses)) (λ error. (line : ℕ) → error ≡ CnfError.Bad line → ⊥)
  pub fault : (line : ℕ) → result ≡ Err (CnfError.Bad line) → IsFaultLine text line

within-of : (most n : ℕ) → ¬ (most < n) → n ≤ most
within-of most n h = omega (arith, h)

pub formula-read : (text : List ℕ) (file : CnfFile) → FormulaAnswers text (Ok file) → IsFormulaReadAs text (Ok (formula_clauses file.formula))
formula-read text file h = (within-of most_text_bytes (length text) (λ long. let e = h.too_long.1 long in absurd cc), (file.formula.vars, h.spelled))

pub formula-stopped : (text : List ℕ) (error : CnfError) → FormulaAnswers text (Err error) → TellsText {V = Cnf} formula_clauses IsFormulaReadAs text (Err (cnf_stop error))
unfolding status_of
formula-stopped text CnfError.TooLong h = (inr refl, inl (h.too_long.0 refl, refl))
formula-stopped text (CnfError.Bad line) h = (
  inl refl,
  inr (
    within-of most_text_bytes (length text) (λ long. let e = h.too_long.1 long in absurd cc),
    (λ spelled. h.complete spelled.1.0 spelled.0 spelled.1.1 line refl),
    line,
    h.fault line refl,
    refl,
  ),
)
formula-stopped text CnfError.Memory h = tt

-- what reading a proof says of its text
pub record ProofAnswers (text : List ℕ) (result : Result Proof LogError) : Type 0 where
  pub too_long : IsErrOf result LogError.TooLong ↔ (most_text_bytes < length text)
  pub spelled : IfOk result (λ p. SpellsLog text (proof_lines p))
  pub complete : (proof : List ProofLine) → SpellsLog text proof → MatchResult result (λ p. proof_lines p ≡ proof) (λ error. (line : ℕ) → error ≡ LogError.Bad line → ⊥)
  pub fault : (line : ℕ) → result ≡ Err (LogError.Bad line) → IsFirstWrongLine text line

pub proof-read : (text : List ℕ) (p : Proof) → ProofAnswers text (Ok p) → IsProofReadAs text (Ok (proof_lines p))
proof-read text p h = (within-of most_text_bytes (length text) (λ long. let e = h.too_long.1 long in absurd cc), h.spelled)

pub proof-stopped : (text : List ℕ) (error : LogError) → ProofAnswers text (Err error) → TellsText {V = Proof} proof_lines IsProofReadAs text (Err (log_stop error))
unfolding status_of
proof-stopped text LogError.TooLong h = (inr refl, inl (h.too_long.0 refl, refl))
proof-stopped text (LogError.Bad line) h = (
  inl refl,
  inr (
    within-of most_text_bytes (length text) (λ long. let e = h.too_long.1 long in absurd cc),
    (λ spelled. h.complete spelled.0 spelled.1 line refl),
    line,
    h.fault line refl,
    refl,
  ),
)
proof-stopped text LogError.Memory h = tt

-- ---- parameter and solution texts

pub as-params : (file : TextFile) → HasParams file → (text : List ℕ) (answer : TextAnswer) → Answers SpellsParams text answer → Answers (spells_in file) text answer
as-params TextFile.Model has text answer h = absurd has
as-params TextFile.Params has text answer h = h
as-params TextFile.Solution has text answer h = h
as-params TextFile.Cnf has text answer h = h
as-params TextFile.Log has text answer h = h
as-params TextFile.Opb has text answer h = h

pub as-refuses : (file : TextFile) → HasParams file → (text : List ℕ) (error : TextError) → RefusesText SpellsParams text error → RefusesText (spells_in file) text error
as-refuses TextFile.Model has text error h = absurd has
as-refuses TextFile.Params has text error h = h
as-refuses TextFile.Solution has text error h = h
as-refuses TextFile.Cnf has text error h = h
as-refuses TextFile.Log has text error h = h
as-refuses TextFile.Opb has text error h = h

-- ---- what wasn't read

pub unread-bytes : (most : ℕ) (told : Option Held) (name : List ℕ) (rose : Type 0) (stop : Stop) → IsUnreadStop name stop → IsNotThere told name rose → TellsBytes {V = Vec ℕ Global} (λ bytes. bytes.items) most told name rose (Err stop)
unread-bytes most told name rose (Stop.Refused r) h there = (h, there)
unread-bytes most told name rose Stop.Memory h there = tt

pub none-read : (told : Option Held) (rose : Type 0) (params : Params) → params_tree params ≡ [] → TellsParams told None rose (Ok params)
none-read None rose params e = tt
none-read (Some held) rose params e = ap Ok e
