-- What judging an assignment says, and the limits within which an instance is judged.
use Rattle.std.specs.Prelude.{◌≡◌, List, [], Ok, Err, Result, Contains, sum_by}
use Rattle.ep_base.specs.declared.names.Name.{Name}
use Rattle.ep_tree.specs.Binding.{Instance, Refusal}
use Rattle.ep_tree.specs.SolutionTexts as texts
use Rattle.ep_tree.specs.Solutions as defined
use Rattle.ep_tree.specs.declared.values.Mode.{Mode}
use Rattle.ep_tree.specs.Views.{assigned}
use Rattle.ep_instance_parts.specs.Refusals.{RefusesBinding}
use Rattle.ep_instance_parts.specs.declared.errors.BindError.{BindError}
use Rattle.ep_instance.specs.declared.judging.Shaped.{Shaped}
use Rattle.ep_instance.specs.declared.judging.Shaped.TheVariants.{Fits, WrongShape}
use Rattle.ep_eval.specs.Known.{env_of}
use Rattle.ep_instance.specs.Assigning.{AgreeElsewhere}
use Rattle.ep_instance.specs.declared.judging.Judge.{Judge}
use Rattle.ep_instance.specs.declared.judging.Judgement.{Judgement}
use Rattle.ep_instance.specs.declared.judging.Judgement.TheVariants.{Solution, Violated, ObjectiveUndefined}

-- a judgement
abbrev pub judgement_of : Judgement → defined.Judgement
judgement_of (Solution objective) = defined.a_solution objective
judgement_of (Violated n) = defined.violates n
judgement_of ObjectiveUndefined = defined.goal_undefined

-- neither the limit of size nor that of reach is passed
abbrev pub IsWithinLimits : Mode → Instance → Type 0
IsWithinLimits mode i =
    defined.limits_passed mode (sum_by (λ f. defined.cell_count f.indices) i.finds) (defined.met_instance mode i) ≡ []

-- an assignment that is read fits
abbrev pub FitsIfShaped : Instance → Shaped → Type 0
FitsIfShaped i (Fits a) = (found : defined.Found) × defined.Fits i (assigned a) found
FitsIfShaped i (WrongShape name) = Unit {0}

-- A judge of an instance: it evaluates in its mode, and each name that is no decision variable's stands for what it
-- stands for there.
pub record IsJudgeOf (mode : Mode) (i : Instance) (judge : Judge) : Type 0 where
  pub in_mode : judge.env.mode ≡ mode
  pub elsewhere : AgreeElsewhere i.finds (env_of judge.env) i.env

-- An answer to a solution text is what is defined: an assignment that fits, or one of the names that keep it from
-- having a right shape.
abbrev pub ShapeAnswers : Result Shaped BindError → Result texts.Shaped (List Refusal) → Type 0
ShapeAnswers (Ok (Fits a)) said = said ≡ Ok (texts.fits (assigned a))
ShapeAnswers (Ok (WrongShape name)) said =
    (names : List Name) × (said ≡ Ok (texts.wrong_shape names)) × Contains names name
ShapeAnswers (Err e) said = RefusesBinding e said
