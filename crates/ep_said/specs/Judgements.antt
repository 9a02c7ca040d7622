-- The texts of judgements: what is said of an assignment, or of a solution text that gives none.
use Rattle.std.specs.Prelude.{ℕ, List, ◌++◌, codes, Some, None}
use Rattle.std.specs.Fmt.{decimal, signed_decimal}
use Rattle.ep_tree.specs.Solutions.{Judgement, a_solution, goal_undefined, violates}

-- what is said of an assignment
unfoldable pub judgement_text : Judgement → List ℕ
judgement_text (a_solution None) = codes "$ solution\n"
judgement_text (a_solution (Some value)) = codes "$ solution objective " ++ (signed_decimal value ++ codes "\n")
judgement_text (violates number) = codes "$ violated " ++ (decimal number ++ codes "\n")
judgement_text goal_undefined = codes "$ objective undefined\n"

-- a name keeps a solution text from giving an assignment
abbrev pub wrong_shape_text : List ℕ → List ℕ
wrong_shape_text name = codes "$ wrong shape " ++ (name ++ codes "\n")
