-- The text of the model is read as its tree.
use Rattle.std.proofs.Common.{◌≡◌, true, List, [], ◌∷◌, ◌++◌, length, codes, map, refl, subst, nat_le}
use Rattle.std.proofs.lemmas.Bool.{leb-true}
use Rattle.ep_base.specs.TokenTexts.{is_symbol, is_token, is_word}
use Rattle.ep_parse_model.proofs.WholeTexts.{model_read}
use Rattle.ep_parse_model.specs.TextReaders.{full, model_from}
use Rattle.ep_parse_parts.specs.Readers.{took}
use Rattle.ep_tree.proofs.Opened.{the_language}
use Rattle.ep_tree.specs.Phrases.{Lexeme, lexemes_of}
use Rattle.ep_tree.specs.StatementSpelling.{SpellsModel}
use Rattle.ep_tree.specs.Texts.{IsReadAs, MOST_BYTES}
use Rattle.ep_tree_rows.proofs.Texts.{the_readers}
use Rattle.ep_print.specs.Answers.{language_line}
use Rattle.ep_print.specs.Words.{Words}
use Rattle.ep_print_laws.proofs.Printed.{language_lexed}
use Rattle.ep_print_laws.proofs.Scanned.{Lexed, Reads, whole_text, word_sayings}
use Rattle.ep_print_laws.proofs.TextsAgain.{language_words}
use Rattle.ep_gen.specs.Texts.{generated_model}
use Rattle.ep_gen_laws.proofs.ModelTree.{Places, model_tree}
use Rattle.ep_gen_laws.proofs.Pieces.{Piece, are_cut, ended, joined, pieces_lexed, placed, placed_as, places_of, spaced, text_of, word_of}

-- what stands behind the language line
unfoldable pieces : List Piece
pieces =
    spaced (codes "given") ∷ spaced (codes "n") ∷ spaced (codes ":") ∷ joined (codes "int") ∷ joined (codes "(") ∷ joined (codes "1") ∷ joined (codes "..") ∷ joined (codes "100") ∷ ended (codes ")") ∷
    spaced (codes "given") ∷ spaced (codes "hint") ∷ spaced (codes ":") ∷ spaced (codes "matrix") ∷ spaced (codes "indexed") ∷ spaced (codes "by") ∷ joined (codes "[") ∷ joined (codes "int") ∷ joined (codes "(") ∷ joined (codes "1") ∷ joined (codes "..") ∷ joined (codes "n") ∷ joined (codes ")") ∷ spaced (codes ",") ∷ joined (codes "int") ∷ joined (codes "(") ∷ joined (codes "1") ∷ joined (codes "..") ∷ joined (codes "n") ∷ joined (codes ")") ∷ spaced (codes "]") ∷ spaced (codes "of") ∷ joined (codes "int") ∷ joined (codes "(") ∷ joined (codes "0") ∷ joined (codes "..") ∷ joined (codes "n") ∷ ended (codes ")") ∷
    spaced (codes "find") ∷ spaced (codes "q") ∷ spaced (codes ":") ∷ spaced (codes "matrix") ∷ spaced (codes "indexed") ∷ spaced (codes "by") ∷ joined (codes "[") ∷ joined (codes "int") ∷ joined (codes "(") ∷ joined (codes "1") ∷ joined (codes "..") ∷ joined (codes "n") ∷ joined (codes ")") ∷ spaced (codes ",") ∷ joined (codes "int") ∷ joined (codes "(") ∷ joined (codes "1") ∷ joined (codes "..") ∷ joined (codes "n") ∷ joined (codes ")") ∷ spaced (codes "]") ∷ spaced (codes "of") ∷ joined (codes "int") ∷ joined (codes "(") ∷ joined (codes "1") ∷ joined (codes "..") ∷ joined (codes "n") ∷ ended (codes ")") ∷
    spaced (codes "such") ∷ ended (codes "that") ∷
    spaced (codes "forAll") ∷ spaced (codes "i") ∷ spaced (codes ":") ∷ joined (codes "int") ∷ joined (codes "(") ∷ joined (codes "1") ∷ joined (codes "..") ∷ joined (codes "n") ∷ spaced (codes ")") ∷ spaced (codes ".") ∷ joined (codes "allDiff") ∷ joined (codes "(") ∷ joined (codes "q") ∷ joined (codes "[") ∷ joined (codes "i") ∷ joined (codes ",") ∷ joined (codes "..") ∷ joined (codes "]") ∷ joined (codes ")") ∷ ended (codes ",") ∷
    spaced (codes "forAll") ∷ spaced (codes "j") ∷ spaced (codes ":") ∷ joined (codes "int") ∷ joined (codes "(") ∷ joined (codes "1") ∷ joined (codes "..") ∷ joined (codes "n") ∷ spaced (codes ")") ∷ spaced (codes ".") ∷ joined (codes "allDiff") ∷ joined (codes "(") ∷ joined (codes "q") ∷ joined (codes "[") ∷ joined (codes "..") ∷ joined (codes ",") ∷ joined (codes "j") ∷ joined (codes "]") ∷ joined (codes ")") ∷ ended (codes ",") ∷
    spaced (codes "forAll") ∷ joined (codes "i") ∷ joined (codes ",") ∷ spaced (codes "j") ∷ spaced (codes ":") ∷ joined (codes "int") ∷ joined (codes "(") ∷ joined (codes "1") ∷ joined (codes "..") ∷ joined (codes "n") ∷ spaced (codes ")") ∷ spaced (codes ".") ∷ joined (codes "(") ∷ joined (codes "hint") ∷ joined (codes "[") ∷ joined (codes "i") ∷ joined (codes ",") ∷ joined (codes "j") ∷ spaced (codes "]") ∷ spaced (codes "!=") ∷ joined (codes "0") ∷ spaced (codes ")") ∷ spaced (codes "->") ∷ joined (codes "(") ∷ joined (codes "q") ∷ joined (codes "[") ∷ joined (codes "i") ∷ joined (codes ",") ∷ joined (codes "j") ∷ spaced (codes "]") ∷ spaced (codes "=") ∷ joined (codes "hint") ∷ joined (codes "[") ∷ joined (codes "i") ∷ joined (codes ",") ∷ joined (codes "j") ∷ joined (codes "]") ∷ ended (codes ")") ∷ []

all_cut : are_cut pieces ≡ true
unfolding pieces is_token is_symbol is_word
all_cut = refl

same_text : language_line ++ text_of pieces ≡ generated_model
unfolding pieces generated_model
same_text = refl

-- the words of the model
abbrev model_words : Words
model_words = language_words ++ map word_of pieces

model_lexed : Lexed generated_model model_words
model_lexed = subst (λ text. Lexed text model_words) same_text (language_lexed (text_of pieces) (map word_of pieces) (pieces_lexed pieces all_cut))

-- what the words say is read as the tree, wherever they stand
tree_read : (at : Places) → model_from full (placed (word_sayings model_words) at) ≡ took (model_tree at) []
unfolding pieces model_tree the_language the_readers
tree_read at = refl

short : nat_le (length generated_model) MOST_BYTES ≡ true
unfolding generated_model
short = refl

-- The text is read as the tree.
pub record ModelRead : Type 0 where
  pub at : Places
  pub reads : IsReadAs SpellsModel generated_model (model_tree at)

pub model_is_read : ModelRead
model_is_read =
    let r : Reads generated_model model_words = whole_text generated_model model_words model_lexed in
    let ls : List Lexeme = lexemes_of generated_model r.tokens in
    let at : Places = places_of ls in
    record {
      at = at;
      reads = model_read generated_model r.tokens (model_tree at) (placed (word_sayings model_words) at) [] (leb-true (length generated_model) MOST_BYTES short) r.found (placed_as ls (word_sayings model_words) r.says) (tree_read at);
    }
