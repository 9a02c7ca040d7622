-- How texts are put out: one word after another, with a space behind each.
use Rattle.std.specs.Prelude.{ℕ, Bool, true, false, List, [], ◌∷◌, ◌++◌, codes, Option, Some, None}
use Rattle.std.specs.List.{flat_map}
use Rattle.std.specs.declared.boxed.Box.{Box}
use Rattle.std.specs.declared.alloc.Global.{Global}
use Rattle.ep_tree.specs.Trees.{IndexDomain, Terms, over, unstated}
use Rattle.ep_tree.specs.Views.{domain_tree, expr_tree, held_end, kind_tree}
use Rattle.ep_tree.specs.declared.syntax.Domain.{Domain}
use Rattle.ep_tree.specs.declared.syntax.Expr.{Expr}
use Rattle.ep_tree.specs.declared.syntax.Range.{Range, One', Span'}
use Rattle.ep_print.specs.Words.{Words, chain_words, end_words, expr_words, term_words, word}

-- words with a space behind each
unfoldable pub words_spaced : Words → List ℕ
words_spaced words = flat_map (λ w. w ++ codes " ") words

-- something where something stands before it, and else nothing
unfoldable pub between_if : {A : Type 0} → Bool → List A → List A
between_if true between = between
between_if false between = []

-- lists with something before each, but for the first where nothing stands before it
unfoldable pub continued : {A : Type 0} → List A → Bool → List (List A) → List A
continued between started [] = []
continued between started (x ∷ xs) = between_if started between ++ (x ++ continued between true xs)

-- the terms of a chain with their signs, but for the first where nothing stands before it
unfoldable pub chain_from : Bool → Terms → Words
chain_from true terms = term_words terms
chain_from false terms = chain_words terms

-- the domain of a list's indices, where one is written
unfoldable pub index_tree : Option (Box Domain Global) → IndexDomain
index_tree None = unstated
index_tree (Some d) = over (domain_tree d.value)

-- one index
unfoldable pub held_index_words : Option Expr → Words
held_index_words None = word ".."
held_index_words (Some e) = expr_words (expr_tree e)

-- one range
unfoldable pub held_range_words : Range → Words
held_range_words (One' p e) = expr_words (kind_tree p e)
held_range_words (Span' a b) = end_words (held_end a) ++ (word ".." ++ end_words (held_end b))
