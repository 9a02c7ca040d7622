-- What reading a solution text finds, step by step.
use Rattle.std.specs.Prelude.{◌≡◌, List, [], Option, Some, None, Contains}
use Rattle.ep_base.specs.declared.names.Name.{Name}
use Rattle.ep_tree.specs.Binding.{Find}
use Rattle.ep_tree.specs.Environments.{Env}
use Rattle.ep_tree.specs.SolutionTexts.{with_lettings, without_letting}
use Rattle.ep_tree.specs.Statements.{StatementTree, domain_letting, letting}
use Rattle.ep_tree.specs.Views.{assigned}
use Rattle.ep_instance.specs.declared.judging.Shaped.{Shaped}
use Rattle.ep_instance.specs.declared.judging.Shaped.TheVariants.{Fits, WrongShape}

-- the values of all decision variables, or one without a letting that fits
abbrev pub GivesEntries : Env → List Find → Shaped → Type 0
GivesEntries known fs (Fits a) = (without_letting known fs ≡ []) × (with_lettings known fs ≡ assigned a)
GivesEntries known fs (WrongShape name) = Contains (without_letting known fs) name

-- one of some names, and none only where there is none
abbrev pub GivesOneOf : List Name → Option Name → Type 0
GivesOneOf names None = names ≡ []
GivesOneOf names (Some name) = Contains names name

-- the name that a statement gives a value or a domain
unfoldable pub letting_name : StatementTree → Option Name
letting_name (letting p name at d e) = Some name
letting_name (domain_letting p name at d) = Some name
letting_name _ = None
