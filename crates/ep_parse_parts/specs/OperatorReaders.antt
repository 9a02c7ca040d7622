-- Reading reads and operators, with readers of what is lower by one.
use Rattle.std.specs.Prelude.{ℕ, Bool, true, false, not, ◌&&◌, List, [], ◌∷◌, Option, Some, None, nat_lt, nat_le, codes}
use Rattle.ep_base.specs.declared.operators.CompareOp.{CompareOp}
use Rattle.ep_base.specs.declared.operators.LexOp.{LexOp}
use Rattle.ep_base.specs.declared.places.Place.{Place}
use Rattle.ep_parse_parts.specs.OperandReaders.{Lower, as_trees, call_from, closed_by, if_low, is_there, operand_from}
use Rattle.ep_parse_parts.specs.Readers.{Read, Reader, behind, either_reader, grown, if_some, kept, kept_or, next_in, others_from, says, took, word_from, wrong, ◌and_then◌}
use Rattle.ep_tree.specs.Heights.{height}
use Rattle.ep_tree.specs.Phrases.{Lexeme}
use Rattle.ep_tree.specs.Spelling.{Level, comparisons, conjunctions, disjunctions, ends_open, implications, own_level, powers, primaries, products, rank, reads, set_operations, sums, takes_own_group, unaries}
use Rattle.ep_tree.specs.Trees.{ExprTree, ExprTrees, Indices, Terms, all_of, any_of, binary, chain, compare, every_and, in_domain, in_set, index_and, lex, no_indices, no_terms, place_of, read, term_and}
use Rattle.ep_tree.specs.declared.syntax.BinaryOp.{BinaryOp}

-- ---- reads

-- an index, with whether a `..` has come
abbrev pub ReadIndex : Type 0
ReadIndex = Bool × Option ExprTree

-- an index before others
abbrev pub with_index : Option ExprTree → Indices → Indices
with_index None others = every_and others
with_index (Some e) others = index_and e others

-- indices as those of a read
unfoldable pub as_indices : List ReadIndex → Indices
as_indices [] = no_indices
as_indices (index ∷ indices) = with_index index.1 (as_indices indices)

-- an index
unfoldable pub index_from : Lower → Bool → Reader ReadIndex
index_from low every ls =
    either_reader (says (codes "..") ls) (λ all. took (true, None) (behind all))
    (λ all. low.expr implications all and_then λ e rest. took (every, Some e) rest) ls

-- indices go on behind a comma, and as long as no `..` has come in the next bracket group
unfoldable pub another_index : ReadIndex → List Lexeme → Option (List Lexeme)
another_index last ls =
    kept_or (says (codes ",") ls) (behind ls)
    (kept (not last.0 && (says (codes "]") ls && says (codes "[") (behind ls))) (behind (behind ls)))

-- the indices of a read behind its bracket
unfoldable pub read_from : Lower → ExprTree → Reader ExprTree
read_from low m ls =
    index_from low false ls and_then λ first rest.
    others_from another_index (λ last. index_from low last.0) first rest and_then λ others end.
    closed_by (codes "]") (read (place_of m) m (as_indices (first ∷ others))) end

-- what follows where a test holds, else nothing
abbrev pub only_if : {A : Type 0} → Bool → (List Lexeme → Read A) → List Lexeme → Option (Read A)
only_if true reader ls = Some (reader ls)
only_if false reader ls = None

-- Whether indices may stand behind an expression: not behind `!`, `-` or a quantifier, and a read without `..` has taken
-- all bracket groups already.
unfoldable pub takes_group : ExprTree → Bool
takes_group m = nat_le (rank reads) (rank (own_level m)) && takes_own_group m

-- a further read of what was read
unfoldable pub another_read : ℕ → Lower → ExprTree → List Lexeme → Option (Read ExprTree)
another_read most low m ls =
    only_if (says (codes "[") ls && takes_group m) (if_low (nat_lt (height m) most) (λ all. read_from low m (behind all))) ls

-- an operand, with reads of it
unfoldable pub unary_from : ℕ → Lower → Reader ExprTree
unary_from most low ls = operand_from (nat_lt 1 most) low ls and_then grown (another_read most low)

-- ---- operators

-- what is read of an operator that is there, where a test holds
abbrev pub operated : {A B : Type 0} → Bool → Option A → (A → Read B) → Option (Read B)
operated closed None go = None
operated false (Some op) go = None
operated true (Some op) go = Some (go op)

-- what follows an operator of a table that is next, where the left operand isn't open, nor too high
abbrev pub behind_operator : {A : Type 0} → ℕ → List (List ℕ × A) → ExprTree → (A → Reader ExprTree) → List Lexeme → Option (Read ExprTree)
behind_operator most words left go_on ls =
    operated (not (ends_open left)) (next_in words ls)
    (λ op. if_low (nat_lt (height left) most) (λ all. go_on op (behind all)) ls)

-- one more operator of two parts, and its right part
unfoldable pub another_binary : ℕ → Lower → List (List ℕ × BinaryOp) → Level → ExprTree → List Lexeme → Option (Read ExprTree)
another_binary most low words right left ls =
    behind_operator most words left
    (λ op rest. low.expr right rest and_then λ b end. took (binary (place_of left) op left b) end) ls

abbrev pub power_words : List (List ℕ × BinaryOp)
power_words = (codes "**", BinaryOp.Pow) ∷ []

abbrev pub product_words : List (List ℕ × BinaryOp)
product_words = (codes "*", BinaryOp.Mul) ∷ (codes "/", BinaryOp.Div) ∷ (codes "%", BinaryOp.Mod) ∷ []

abbrev pub implication_words : List (List ℕ × BinaryOp)
implication_words = (codes "->", BinaryOp.Implies) ∷ (codes "<->", BinaryOp.Iff) ∷ []

-- a chain of powers
unfoldable pub power_from : ℕ → Lower → Reader ExprTree
power_from most low ls = unary_from most low ls and_then grown (another_binary most low power_words unaries)

-- a chain of products
unfoldable pub product_from : ℕ → Lower → Reader ExprTree
product_from most low ls = power_from most low ls and_then grown (another_binary most low product_words powers)

-- a part of a chain with its sign
abbrev pub Term : Type 0
Term = Bool × ExprTree

-- terms as those of a chain
unfoldable pub as_terms : List Term → Terms
as_terms [] = no_terms
as_terms (term ∷ terms) = term_and term.0 term.1 (as_terms terms)

abbrev pub sign_words : List (List ℕ × Bool)
sign_words = (codes "+", true) ∷ (codes "-", false) ∷ []

-- the tokens, where an operator of a table is next and what stands before isn't open
abbrev pub with_operator : {A : Type 0} → List (List ℕ × A) → ExprTree → List Lexeme → Option (List Lexeme)
with_operator words left ls = kept (not (ends_open left) && is_there (next_in words ls)) ls

-- a term behind its sign
unfoldable pub term_behind : Lower → Bool → Reader Term
term_behind low plus ls = low.expr products ls and_then λ e rest. took (plus, e) rest

-- a term with its sign
unfoldable pub term_from : Lower → Reader Term
term_from low ls = if_some (next_in sign_words ls) (λ plus. term_behind low plus (behind ls)) (wrong ls)

-- the terms behind the first part of a chain of sums
unfoldable pub terms_from : Lower → ExprTree → Reader ExprTree
terms_from low first ls =
    term_from low ls and_then λ t rest.
    others_from (λ last. with_operator sign_words last.1) (λ last. term_from low) t rest and_then λ ts end.
    took (chain (place_of first) (term_and true first (as_terms (t ∷ ts)))) end

-- a chain of sums behind its first part
unfoldable pub terms_behind : ℕ → Lower → ExprTree → Reader ExprTree
terms_behind most low first ls =
    if_some (with_operator sign_words first ls) (if_low (nat_lt (height first) most) (terms_from low first))
    (took first ls)

-- an operand, or a chain of sums
unfoldable pub chain_from : ℕ → Lower → Reader ExprTree
chain_from most low ls = product_from most low ls and_then terms_behind most low

-- what an operator of comparisons does
pub data Comparison : Type 0 where
  of_numbers : CompareOp → Comparison
  of_lists : LexOp → Comparison
  of_set : Comparison

abbrev pub comparison_words : List (List ℕ × Comparison)
comparison_words =
    (codes "=", of_numbers CompareOp.Equal) ∷ (codes "!=", of_numbers CompareOp.NotEqual)
    ∷ (codes "<", of_numbers CompareOp.Less) ∷ (codes "<=", of_numbers CompareOp.AtMost)
    ∷ (codes ">", of_numbers CompareOp.Greater) ∷ (codes ">=", of_numbers CompareOp.AtLeast)
    ∷ (codes "<lex", of_lists LexOp.Less) ∷ (codes "<=lex", of_lists LexOp.AtMost)
    ∷ (codes ">lex", of_lists LexOp.Greater) ∷ (codes ">=lex", of_lists LexOp.AtLeast) ∷ (codes "in", of_set) ∷ []

-- what stands behind an operator of comparisons
unfoldable pub compared_with : Lower → ExprTree → Comparison → Reader ExprTree
compared_with low a (of_numbers op) ls =
    low.expr sums ls and_then λ b rest. took (compare (place_of a) op a b) rest
compared_with low a (of_lists op) ls = low.expr sums ls and_then λ b rest. took (lex (place_of a) op a b) rest
compared_with low a of_set ls =
    either_reader (says (codes "toSet") ls) (λ all. call_from low (in_set (place_of a) a) (behind all))
    (λ all. low.domain set_operations all and_then λ d rest. took (in_domain (place_of a) a d) rest) ls

-- what was read, or a comparison of it
unfoldable pub comparison_behind : ℕ → Lower → ExprTree → Reader ExprTree
comparison_behind most low a ls =
    if_some (behind_operator most comparison_words a (compared_with low a) ls) (λ compared. compared) (took a ls)

-- a chain of sums, or a comparison
unfoldable pub comparison_from : ℕ → Lower → Reader ExprTree
comparison_from most low ls = chain_from most low ls and_then comparison_behind most low

-- a part of a chain behind the chain's word
unfoldable pub part_from : Lower → List ℕ → Level → Reader ExprTree
part_from low bytes level ls = word_from bytes ls and_then λ _ rest. low.expr level rest

-- the one word of a chain as a table
abbrev pub only_word : List ℕ → List (List ℕ × Bool)
only_word bytes = (bytes, true) ∷ []

-- the parts behind the first part of a chain
unfoldable pub parts_from : Lower → List ℕ → Level → (Place → ExprTrees → ExprTree) → ExprTree → Reader ExprTree
parts_from low bytes level make first ls =
    part_from low bytes level ls and_then λ e rest.
    others_from (with_operator (only_word bytes)) (λ last. part_from low bytes level) e rest and_then λ es end.
    took (make (place_of first) (as_trees (first ∷ e ∷ es))) end

-- a chain of parts with a word between any two, behind its first part
unfoldable pub parts_behind : ℕ → Lower → List ℕ → Level → (Place → ExprTrees → ExprTree) → ExprTree → Reader ExprTree
parts_behind most low bytes level make first ls =
    if_some (with_operator (only_word bytes) first ls)
    (if_low (nat_lt (height first) most) (parts_from low bytes level make first)) (took first ls)

-- a comparison, or a conjunction
unfoldable pub conjunction_from : ℕ → Lower → Reader ExprTree
conjunction_from most low ls = comparison_from most low ls and_then parts_behind most low (codes "/\\") comparisons all_of

-- a conjunction, or a disjunction
unfoldable pub disjunction_from : ℕ → Lower → Reader ExprTree
disjunction_from most low ls =
    conjunction_from most low ls and_then parts_behind most low (codes "\\/") conjunctions any_of

-- any expression
unfoldable pub implication_from : ℕ → Lower → Reader ExprTree
implication_from most low ls =
    disjunction_from most low ls and_then grown (another_binary most low implication_words disjunctions)

-- an expression where a level is asked for, which is that of unary operators or a looser one
unfoldable pub at_level : ℕ → Lower → Level → Reader ExprTree
at_level most low implications = implication_from most low
at_level most low disjunctions = disjunction_from most low
at_level most low conjunctions = conjunction_from most low
at_level most low comparisons = comparison_from most low
at_level most low sums = chain_from most low
at_level most low products = product_from most low
at_level most low powers = power_from most low
at_level most low unaries = unary_from most low
at_level most low reads = unary_from most low
at_level most low primaries = operand_from (nat_lt 1 most) low
