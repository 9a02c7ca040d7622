-- What a run promises of what it put out: it is true of the texts that the words name.
--
-- Of a number's own texts nothing is said here.
use Rattle.std.specs.Prelude.{◌≡◌, ◌⊎◌, ℕ, ℤ, Bool, List, Option, Some, None, codes}
use Rattle.cnf_core.specs.Clauses.{Satisfies}
use Rattle.cnf_core.specs.Literal.{Literal}
use Rattle.ep_base.specs.Outside.{Held}
use Rattle.ep_explain.specs.Explained.{Core, Explains, IsWrittenSolution, without_goal}
use Rattle.ep_explain_text.specs.ExplanationTexts.{core_text}
use Rattle.ep_print.specs.Answers.{AnswerTree, answer_text, solution, unknown}
use Rattle.ep_print.specs.Listings.{ListingTree, listing_text}
use Rattle.ep_promise.specs.Promise.{AreTrueOf, GivesAssignment, IsSolutionOf, IsTrueOf, Make}
use Rattle.ep_tree.specs.Binding.{Instance}
use Rattle.ep_tree.specs.Solutions.{Assigned, a_solution}
use Rattle.ep_tree.specs.declared.values.Mode.{Mode}
use Rattle.opb_answer.specs.Answers.{OpbFound}
use Rattle.opb_answer.specs.Lines.{answer_lines}
use Rattle.opb_answer.specs.Right.{IsRightOpb}
use Rattle.opb_text.specs.Contents.{OpbContent}
use Rattle.opb_text.specs.Grammar.{SpellsOpb}
use Rattle.sat_text.specs.CnfGrammar.{SpellsCnf}
use Rattle.ep_driver.specs.Answers.{answer_status, listing_status, opb_status}
use Rattle.ep_files.specs.declared.status.Status.{Status}
use Rattle.ep_said.specs.Judgements.{judgement_text}
use Rattle.ep_driver.specs.declared.wanted.Request.{Request}
use Rattle.ep_driver.specs.declared.wanted.Wanted.{Wanted}

-- the file of the parameters holds a text; where none is named there is none
abbrev pub HoldsGiven : Held → Option (List ℕ) → Option (List ℕ) → Type 0
HoldsGiven held None given = given ≡ None
HoldsGiven held (Some name) given = (text : List ℕ) × (held name ≡ Some text) × (given ≡ Some text)

-- The files of a model and of its parameters hold texts that make an instance.
pub record FilesMake (held : Held) (mode : Mode) (model : List ℕ) (params : Option (List ℕ)) (i : Instance) : Type 0 where
  pub text : List ℕ
  pub given : Option (List ℕ)
  pub model_held : held model ≡ Some text
  pub params_held : HoldsGiven held params given
  pub make : Make mode text given i

-- What is told of an instance is so, its objective aside: that an assignment is a solution; or that some of its clauses have no solution
-- together, and beside each of them a solution of it with all others of them alone; or it is said that the conflicts were spent, by which
-- nothing more is promised.
abbrev pub IsExplanation : Mode → Instance → ℕ → Status → List ℕ → Type 0
IsExplanation mode i conflicts status text =
    ((status ≡ Status.Answered) × (a : Assigned) × IsWrittenSolution mode (without_goal i) a × (text ≡ answer_text (solution a)))
    ⊎ ((status ≡ Status.Answered) × (core : Core) × Explains mode i core × (text ≡ core_text core))
    ⊎ ((status ≡ Status.Unknown) × (text ≡ answer_text (unknown conflicts)))

-- What was put out is the text of an answer, or of a list of solutions, that is true of the instance which the files make; or of what
-- is told of why that has no solution, or that it has one; or it says with status 0 that the assignment of a solution text is a solution, and that is so; or it says with status 0 that a proof is verified,
-- and no assignment satisfies the clauses that the formula's text spells; or it is the lines of an answer that is right for the pseudo-Boolean problem that the file's text spells.
unfoldable pub IsPromised : Held → Wanted → Status → List ℕ → Type 0
IsPromised held (Wanted.Search model params mode (Request.One conflicts) outputs) status text =
    (i : Instance) × FilesMake held mode model params i
    × (answer : AnswerTree) × IsTrueOf mode i answer × (status ≡ answer_status answer) × (text ≡ answer_text answer)
IsPromised held (Wanted.Search model params mode (Request.Divided cubes conflicts) outputs) status text =
    (i : Instance) × FilesMake held mode model params i
    × (answer : AnswerTree) × IsTrueOf mode i answer × (status ≡ answer_status answer) × (text ≡ answer_text answer)
IsPromised held (Wanted.Search model params mode (Request.Many most conflicts) outputs) status text =
    (i : Instance) × FilesMake held mode model params i
    × (listing : ListingTree) × AreTrueOf mode i listing × (status ≡ listing_status listing.ending)
    × (text ≡ listing_text listing)
IsPromised held (Wanted.Search model params mode (Request.Explained conflicts) outputs) status text =
    (i : Instance) × FilesMake held mode model params i × IsExplanation mode i conflicts status text
IsPromised held (Wanted.Verify model params mode solution_name) status text =
    (i : Instance) × FilesMake held mode model params i
    × (solution_text : List ℕ) × (held solution_name ≡ Some solution_text)
    × (a : Assigned) × GivesAssignment mode i solution_text a
    × (value : Option ℤ) × IsSolutionOf mode i a value × (status ≡ Status.Answered)
    × (text ≡ judgement_text (a_solution value))
IsPromised held (Wanted.Opb opb conflicts) status text =
    (opb_text : List ℕ) × (held opb ≡ Some opb_text) × (content : OpbContent) × SpellsOpb opb_text content
    × (found : OpbFound) × IsRightOpb content found × (status ≡ opb_status found) × (text ≡ answer_lines found)
IsPromised held (Wanted.Check formula proof workers) status text =
    (formula_text : List ℕ) × (held formula ≡ Some formula_text)
    × (vars : ℕ) × (clauses : List (List Literal)) × SpellsCnf formula_text vars clauses
    × ((s : ℕ → Bool) → ¬ Satisfies s clauses) × (status ≡ Status.Answered) × (text ≡ codes "$ verified\n")
IsPromised held _ status text = Unit {0}
