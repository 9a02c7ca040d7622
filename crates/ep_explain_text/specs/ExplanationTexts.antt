-- The texts of explanations: the language line, a comment that says what is explained, and what belongs to it.
use Rattle.std.specs.Prelude.{ℕ, List, ◌++◌, codes, length, map}
use Rattle.std.specs.Fmt.{decimal}
use Rattle.std.specs.List.{All, flat_map}
use Rattle.ep_explain.specs.Explained.{Core}
use Rattle.ep_explain.specs.Tried.{named_clause}
use Rattle.ep_explain.specs.declared.explaining.Explained.{Explained}
use Rattle.ep_explain.specs.declared.explaining.Explained.TheVariants.{Core as NamedClauses, Satisfiable, Spent}
use Rattle.ep_print.specs.Answers.{AreTyped, answer_text, language_line, letting_texts, solution, unknown}
use Rattle.ep_tree.specs.Solutions.{Assigned}
use Rattle.ep_tree.specs.Views.{assigned}

-- a clause that is named, with a letting for each value of what makes the others true
unfoldable pub without_text : ℕ × Assigned → List ℕ
without_text one = codes "$ without " ++ (decimal one.0 ++ (codes "\n" ++ letting_texts one.1))

-- the clauses that explain, how many and then one after another
unfoldable pub core_text : Core → List ℕ
core_text core = language_line ++ (codes "$ explanation " ++ (decimal (length core) ++ (codes "\n" ++ flat_map without_text core)))

-- the text of what is explained, where an attempt may spend so many conflicts
unfoldable pub explanation_text : ℕ → Explained → List ℕ
explanation_text conflicts (Satisfiable a) = answer_text (solution (assigned a))
explanation_text conflicts (NamedClauses named) = core_text (map named_clause named.items)
explanation_text conflicts (Spent numbers) = answer_text (unknown conflicts)

-- each value that an explanation names is of its type
unfoldable pub HasTypedParts : Explained → Type 0
HasTypedParts (Satisfiable a) = AreTyped (assigned a)
HasTypedParts (NamedClauses named) = All (λ one. AreTyped one.1) (map named_clause named.items)
HasTypedParts (Spent numbers) = Unit {0}
