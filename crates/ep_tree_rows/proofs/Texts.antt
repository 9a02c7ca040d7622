-- Texts of rows: their tokens, and what the definitions of reading make of them.
--
-- Reading is sound and complete for the spelling of the language, so a row of texts is one of the language's definitions. The
-- definition of tokens looks at each length behind each byte, which takes half a minute for a text of 120 bytes; so a text is cut
-- here between bytes that can't stand side by side in a token.
use Rattle.std.specs.Prelude.{ℕ, suc, Bool, true, false, ◌&&◌, ◌||◌, List, [], ◌∷◌, ◌++◌, map, Option, Some, None, ◌==◌, codes}
use Rattle.std.specs.List.{list_any}
use Prim.Native.String.{String}
use Rattle.ep_base.specs.TokenTexts.{continues_name, is_symbol, is_word, kind_of}
use Rattle.ep_base.specs.Tokens.{is_blank, place_after}
use Rattle.ep_base.specs.declared.places.Place.{Place}
use Rattle.ep_parse_parts.specs.DomainReaders.{another_index_domain, another_operation, any_domain_from, as_domains, as_ranges, domain_at_level, domain_begun_from, domain_open_from, domain_part_from, end_from, index_domain_behind, matrix_follows, matrix_from, matrix_head_from, operations_from, range_from, ranges_from}
use Rattle.ep_parse_parts.specs.OperandReaders.{another_generator, as_generators, as_trees, begun_from, bracket_from, call_from, call_of_three_from, call_of_two_from, colon_comes, comprehension_from, conditions_from, domain_next, expression_next, generator_from, index_domain_from, literal_from, open_from, opened_from, operand_from, quantifier_from, sum_from, table_from}
use Rattle.ep_parse_parts.specs.OperatorReaders.{another_binary, another_index, another_read, as_indices, as_terms, at_level, chain_from, compared_with, comparison_behind, comparison_from, conjunction_from, disjunction_from, implication_from, index_from, part_from, parts_behind, parts_from, power_from, product_from, read_from, takes_group, term_behind, term_from, terms_behind, terms_from, unary_from}
use Rattle.ep_parse_parts.specs.Readers.{Read, grown_from, high, looked_up, more_from, name_from, name_in, names_from, next_in, number_from, says, took, word_from, wrong}
use Rattle.ep_parse_parts.specs.Sayings.{name_next, said_number_next, word_next}
use Rattle.ep_parse_parts.specs.TreeReaders.{expr_from, some_domain_from}
use Rattle.ep_parse_model.specs.TextReaders.{full, allowed_statement_from, be_from, bracket_names_from, branching_from, expressions_within, group_from, groups_from, let_from, letting_from, line_from, model_from, params_from, placed_name_from, placed_name_in, placed_names_from, stated_from, statement_behind, statements_within, value_from}
use Rattle.ep_tree.specs.Phrases.{Lexeme, saying_of}
use Rattle.ep_tree.specs.Reading.{MOST_HEIGHT}
use Rattle.ep_tree.specs.Spelling.{domains, implications}
use Rattle.ep_tree.specs.Statements.{TextTree}
use Rattle.ep_tree.specs.Trees.{DomainTree, ExprTree}

-- ---- texts cut into tokens

-- the pairs of bytes that stand side by side in a symbol
abbrev pairs : List (List ℕ)
pairs =
    codes ".." ∷ codes "**" ∷ codes "!=" ∷ codes "<=" ∷ codes ">=" ∷ codes "/\\" ∷ codes "\\/" ∷ codes "->" ∷ codes "<-"
    ∷ codes "<l" ∷ codes "=l" ∷ codes ">l" ∷ []

-- whether two bytes are these
abbrev are : ℕ → ℕ → List ℕ → Bool
are byte next (one ∷ other ∷ []) = byte == one && next == other
are byte next _ = false

-- whether two bytes that stand side by side are of one token: of a name, a number, the language's name or a symbol
abbrev joins : ℕ → ℕ → Bool
joins byte next = continues_name byte && (continues_name next || next == 39) || list_any (are byte next) pairs

-- whether a byte is of one token with the first of those behind it
abbrev joins_first : ℕ → List ℕ → Bool
joins_first byte [] = false
joins_first byte (next ∷ bytes) = joins byte next

-- words with the places of their first bytes
abbrev Words : Type 0
Words = List (Place × List ℕ)

-- a byte, blank or not, and of one word with the next byte or not, before the words behind it
abbrev with_byte : Bool → Bool → Place → ℕ → Words → Words
with_byte true _ place byte words = words
with_byte false true place byte (first ∷ words) = (place, byte ∷ first.1) ∷ words
with_byte false _ place byte words = (place, byte ∷ []) ∷ words

-- the words of bytes that stand from a place on
abbrev words_from : Place → List ℕ → Words
words_from place [] = []
words_from place (byte ∷ bytes) =
    with_byte (is_blank byte) (joins_first byte bytes) place byte (words_from (place_after place byte) bytes)

-- the tokens of bytes
abbrev pub lexed : List ℕ → List Lexeme
lexed bytes =
    map (λ (word : Place × List ℕ). record { place = word.0; saying = saying_of word.1 (kind_of word.1) }) (words_from (record { line = 1; column = 1 }) bytes)

-- ---- what is read

-- what is read, if it's all
abbrev pub whole : {A : Type 0} → Read A → Option A
whole (took x []) = Some x
whole (took x (l ∷ ls)) = None
whole (wrong ls) = None
whole (high ls) = None

-- the expression that a text is
abbrev pub expr_in : String → Option ExprTree
expr_in text = whole (expr_from MOST_HEIGHT implications (lexed (codes text)))

-- the domain that a text is
abbrev pub domain_in : String → Option DomainTree
domain_in text = whole (some_domain_from MOST_HEIGHT domains (lexed (codes text)))

-- the tokens of the language line, and of a text from line 2 on
abbrev pub model_tokens : String → List Lexeme
model_tokens text = lexed (codes "language ESSENCE' 1.0" ++ 10 ∷ codes text)

-- the model whose lines behind the language line are a text
abbrev pub model_in : String → Option TextTree
model_in text = whole (model_from full (model_tokens text))

-- the parameter text that a text is
abbrev pub params_in : String → Option TextTree
params_in text = whole (params_from full (lexed (codes text)))

-- a row that says `unfolding the_readers` computes with all of these
unfoldable pub the_readers : ℕ
unfolding is_word is_symbol kind_of says word_from name_in name_from number_from looked_up next_in more_from grown_from names_from name_next said_number_next word_next expression_next domain_next as_trees index_domain_from as_generators generator_from colon_comes another_generator conditions_from comprehension_from literal_from bracket_from quantifier_from call_from call_of_two_from table_from call_of_three_from sum_from opened_from open_from begun_from operand_from as_indices index_from another_index read_from takes_group another_read unary_from another_binary power_from product_from as_terms term_behind term_from terms_from terms_behind chain_from compared_with comparison_behind comparison_from part_from parts_from parts_behind conjunction_from disjunction_from implication_from at_level as_ranges end_from range_from ranges_from domain_open_from domain_begun_from domain_part_from another_operation operations_from matrix_head_from matrix_follows another_index_domain index_domain_behind as_domains matrix_from any_domain_from domain_at_level expr_from some_domain_from placed_name_in placed_name_from placed_names_from group_from groups_from expressions_within stated_from be_from value_from let_from letting_from bracket_names_from branching_from statement_behind allowed_statement_from statements_within line_from model_from params_from
the_readers = 0

-- ---- tables

-- a row with its number, if it's wrong
abbrev unless_right : {A : Type 0} → Bool → A → List A → List A
unless_right true row rows = rows
unless_right false row rows = row ∷ rows

-- whether something was found, and it's the same
abbrev is_found : {A : Type 0} → (A → A → Bool) → A → Option A → Bool
is_found same wanted (Some found) = same wanted found
is_found same wanted None = false

-- the numbers of the rows that are wrong, each with what is found there; nothing is found where a text isn't read
abbrev pub wrong_rows : {S A : Type 0} → (A → A → Bool) → (S → Option A) → ℕ → List (S × A) → List (ℕ × Option A)
wrong_rows same found n [] = []
wrong_rows same found n (row ∷ rows) =
    unless_right (is_found same row.1 (found row.0)) (n, found row.0) (wrong_rows same found (suc n) rows)

-- whether two are both there and the same, or both missing
abbrev pub same_option : {A : Type 0} → (A → A → Bool) → Option A → Option A → Bool
same_option same (Some x) (Some y) = same x y
same_option same None None = true
same_option same _ _ = false

-- whether two pairs have the same parts
abbrev pub same_pair : {A B : Type 0} → (A → A → Bool) → (B → B → Bool) → A × B → A × B → Bool
same_pair same_first same_second x y = same_first x.0 y.0 && same_second x.1 y.1

-- whether two lists have the same parts
abbrev pub same_list : {A : Type 0} → (A → A → Bool) → List A → List A → Bool
same_list same [] [] = true
same_list same (x ∷ xs) (y ∷ ys) = same x y && same_list same xs ys
same_list same _ _ = false

-- ---- places

abbrev pub at : ℕ → ℕ → Place
at line column = record { line = line; column = column }

abbrev pub same_place : Place → Place → Bool
same_place p q = p.line == q.line && p.column == q.column
