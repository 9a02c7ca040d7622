-- Of two files the verdict is said on what their texts spell.
use Rattle.std.proofs.Common.{◌≡◌, ◌≤◌, ℕ, List, [], ◌∷◌, Option, Some, None, Ok, Err, Result, length, inl, inr, refl, sym, ap, subst, ◌∙◌}
use Rattle.cnf_core.specs.Events.{LogState}
use Rattle.cnf_core.specs.Lines.{ProofLine}
use Rattle.cnf_core.specs.Literal.{Literal}
use Rattle.ep_base.specs.Outside.{Held}
use Rattle.ep_print.specs.declared.refusals.Refusal.{Refusal}
use Rattle.ep_words.proofs.SettingLaws.{one_job}
use Rattle.log_check.specs.Verdict.{verdict_of}
use Rattle.sat_text.proofs.CnfSpelled.{cnf_complete, same_content}
use Rattle.sat_text.proofs.LogSpelled.{log_complete, same_lines}
use Rattle.sat_text.specs.CnfGrammar.{SpellsCnf}
use Rattle.sat_text.specs.LogGrammar.{SpellsLog}
use Rattle.sat_text.specs.Words.{most_text_bytes}
use Rattle.ep_driver.specs.Answers.{Settles, verdict_status}
use Rattle.ep_said.specs.Verdicts.{verdict_text}
use Rattle.ep_driver.specs.Commands.{Want, wanted_of}
use Rattle.ep_driver.specs.Outcomes.{Outcome, Task, to_check}
use Rattle.ep_files.specs.Readings.{IsFormulaReadAs, IsHeldReadBy, IsProofReadAs, IsReadBy}
use Rattle.ep_driver.specs.Shown.{Ask, ComesTo, ThenShows, comes_to_check}
use Rattle.ep_files.specs.declared.status.Status.{Status}
use Rattle.ep_driver.specs.declared.wanted.Wanted.{Wanted}
use Rattle.ep_driver_laws.specs.Certificates.{ChecksSaySo, SaysVerdict}

-- ---- what is asked

formula_is : (name : List ℕ) (o : Option (List ℕ)) (text : List ℕ) (vars : ℕ) (clauses : List (List Literal)) → o ≡ Some text → length text ≤ most_text_bytes → SpellsCnf text vars clauses → IsHeldReadBy IsFormulaReadAs name o (Ok clauses)
formula_is name None text vars clauses e short spelled = absurd cc
formula_is name (Some other) text vars clauses e short spelled =
    let same : text ≡ other = cc in subst (λ (t : List ℕ). IsFormulaReadAs t (Ok clauses)) same (short, (vars, spelled))

proof_is : (name : List ℕ) (o : Option (List ℕ)) (text : List ℕ) (lines : List ProofLine) → o ≡ Some text → length text ≤ most_text_bytes → SpellsLog text lines → IsHeldReadBy IsProofReadAs name o (Ok lines)
proof_is name None text lines e short said = absurd cc
proof_is name (Some other) text lines e short said =
    let same : text ≡ other = cc in subst (λ (t : List ℕ). IsProofReadAs t (Ok lines)) same (short, said)

-- ---- what is read

formula_spelled : (name : List ℕ) (o : Option (List ℕ)) (text : List ℕ) (clauses : List (List Literal)) → o ≡ Some text → IsHeldReadBy IsFormulaReadAs name o (Ok clauses) → (vars : ℕ) × SpellsCnf text vars clauses
formula_spelled name None text clauses e is = absurd cc
formula_spelled name (Some other) text clauses e is =
    let same : other ≡ text = cc in subst (λ (t : List ℕ). (vars : ℕ) × SpellsCnf t vars clauses) same is.1

proof_spelled : (name : List ℕ) (o : Option (List ℕ)) (text : List ℕ) (lines : List ProofLine) → o ≡ Some text → IsHeldReadBy IsProofReadAs name o (Ok lines) → SpellsLog text lines
proof_spelled name None text lines e is = absurd cc
proof_spelled name (Some other) text lines e is =
    let same : other ≡ text = cc in subst (λ (t : List ℕ). SpellsLog t lines) same is.1

-- words want one thing at most
pub wants_one : (words : List (List ℕ)) (one other : Wanted) → Want words one → Want words other → one ≡ other
wants_one words one other a b =
    sym a.2 ∙ ap wanted_of (one_job words a.0 b.0 a.1 b.1) ∙ b.2

ok_same : (x y : Task) → ◌≡◌ {A = Outcome Task} (Ok x) (Ok y) → x ≡ y
ok_same x y e = cc

-- ---- the whole

then_task : {A : Type 0} (reads : Result A Refusal → Type 0) (next : A → Outcome Task → Type 0) (task : Task) → ThenShows reads next (Ok task) → (x : A) × reads (Ok x) × next x (Ok task)
then_task reads next task (inl h) = h
then_task reads next task (inr h) = absurd (let wrong : ◌≡◌ {A = Outcome Task} (Ok task) (Err (h.0 ∷ [])) = h.2 in cc)

settled : (clauses : List (List Literal)) (lines : List ProofLine) (status : Status) (said : List ℕ) (log : LogState) → Settles (to_check clauses lines) status said log
    → (status ≡ verdict_status (verdict_of clauses lines)) × (said ≡ verdict_text (verdict_of clauses lines))
unfolding Settles
settled clauses lines status said log settles = settles

module _ (formula steps : List ℕ) (vars : ℕ) (clauses : List (List Literal)) (lines : List ProofLine) (spelled : SpellsCnf formula vars clauses) (spells : SpellsLog steps lines) (cnf proof : List ℕ) (workers : ℕ) (held : Held) (is_formula : held cnf ≡ Some formula) (is_proof : held proof ≡ Some steps) where
  task_is : (task : Task) → ComesTo (Wanted.Check cnf proof workers) held (Ok task) → task ≡ to_check clauses lines
  task_is task comes =
      let f = then_task (IsReadBy IsFormulaReadAs held cnf) (λ own. comes_to_check proof own held) task comes in
      let l = then_task (IsReadBy IsProofReadAs held proof) (λ own outcome. outcome ≡ Ok (to_check f.0 own)) task f.2 in
      let other = formula_spelled cnf (held cnf) formula f.0 is_formula f.1 in
      let same_clauses : clauses ≡ f.0 = (same_content formula (record { vars = vars; clauses = clauses }) other.0 f.0 (cnf_complete formula vars clauses spelled) other.1).1 in
      let those_lines : lines ≡ l.0 = same_lines steps lines l.0 (log_complete steps lines spells) (proof_spelled proof (held proof) steps l.0 is_proof l.1) in
      ok_same task (to_check f.0 l.0) l.2 ∙ ap (λ (cs : List (List Literal)). to_check cs l.0) (sym same_clauses) ∙ ap (λ (ls : List ProofLine). to_check clauses ls) (sym those_lines)

  asked_says : (words : List (List ℕ)) → Want words (Wanted.Check cnf proof workers) → (task : Task) → Ask words held task → (status : Status) (said : List ℕ) (log : LogState) → Settles task status said log
      → (status ≡ verdict_status (verdict_of clauses lines)) × (said ≡ verdict_text (verdict_of clauses lines))
  asked_says words want task (inl none) status said log settles = absurd (none.0 (Wanted.Check cnf proof workers) want)
  asked_says words want task (inr is) status said log settles =
      let wanted : is.0 ≡ Wanted.Check cnf proof workers = wants_one words is.0 (Wanted.Check cnf proof workers) is.1 want in
      let same : task ≡ to_check clauses lines = task_is task (subst (λ (w : Wanted). ComesTo w held (Ok task)) wanted is.2) in
      settled clauses lines status said log (subst (λ (t : Task). Settles t status said log) same settles)

  check_says : (words : List (List ℕ)) → Want words (Wanted.Check cnf proof workers) → length formula ≤ most_text_bytes → length steps ≤ most_text_bytes → SaysVerdict words held (verdict_of clauses lines)
  check_says words want short few = record {
    asked = (
      to_check clauses lines,
      inr (Wanted.Check cnf proof workers, want, inl (clauses, formula_is cnf (held cnf) formula vars clauses is_formula short spelled, inl (lines, proof_is proof (held proof) steps lines is_proof few spells, refl))),
    );
    says = asked_says words want;
  }

pub checks_say_so : ChecksSaySo
checks_say_so formula steps vars clauses lines spelled spells short few words cnf proof workers want held is_formula is_proof =
    check_says formula steps vars clauses lines spelled spells cnf proof workers held is_formula is_proof words want short few
