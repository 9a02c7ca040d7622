-- Printed models are spelled again, and read again.
use Rattle.std.proofs.Common.{◌≡◌, ℕ, ◌≤◌, true, List, [], ◌∷◌, ◌++◌, codes, map, length, refl, sym, ap, subst, ◌∙◌, append_assoc}
use Rattle.std.specs.List.{flat_map, list_all}
use Rattle.std.proofs.lemmas.Bool.{and_parts}
use Rattle.std.proofs.lemmas.List.Folds.{list_all-append}
use Rattle.ep_base.specs.TokenTexts.{is_symbol, is_token}
use Rattle.ep_tree.specs.Phrases.{lexemes_of}
use Rattle.ep_tree.specs.Placeless.{SameButPlaces, placeless_statement}
use Rattle.ep_tree.specs.Reading.{MOST_HEIGHT}
use Rattle.ep_tree.specs.Statements.{TextTree, text_height}
use Rattle.ep_tree.specs.Texts.{AnswersModel, IsSpellable, MOST_BYTES, read_as}
use Rattle.ep_print.specs.Answers.{language_line}
use Rattle.ep_print.specs.Joining.{with_between}
use Rattle.ep_print.specs.Models.{model_text, statement_text}
use Rattle.ep_print.specs.Words.{Words, statement_words}
use Rattle.ep_print_laws.specs.Printed.{SpellsAgain}
use Rattle.ep_print_laws.proofs.Clearing.{text_cleared}
use Rattle.ep_print_laws.proofs.Literals.{the_tokens}
use Rattle.ep_print_laws.proofs.Pieces.{kept}
use Rattle.ep_print_laws.proofs.Said.{is_written, tokens_said}
use Rattle.ep_print_laws.proofs.Scanned.{Lexed, begins_no_gap, is_short, lexed_end, lexed_line_end, lexed_space, lexed_word, whole_text}
use Rattle.ep_print_laws.proofs.TextsAgain.{language_words, model_again}

-- a word before a space
pub spaced_word : (word rest : List ℕ) (words : Words) → is_written word ≡ true → Lexed rest words → Lexed (word ++ (32 ∷ rest)) (word ∷ words)
unfolding is_token is_symbol
spaced_word word rest words written later =
    let parts = and_parts (is_token word (32 ∷ [])) _ written in
    let others = and_parts (is_short word) (begins_no_gap word) parts.1 in
    lexed_word word (32 ∷ rest) words others.1 others.0 parts.0 refl (lexed_space rest words later)

-- a word before a line end
last_word : (word rest : List ℕ) (words : Words) → is_written word ≡ true → Lexed rest words → Lexed (word ++ (10 ∷ rest)) (word ∷ words)
unfolding is_token is_symbol
last_word word rest words written later =
    let parts = and_parts (is_token word (32 ∷ [])) _ written in
    let others = and_parts (is_short word) (begins_no_gap word) parts.1 in
    lexed_word word (10 ∷ rest) words others.1 others.0 parts.0 refl (lexed_line_end rest words later)

line_lexed : (line : Words) (rest : List ℕ) (words : Words) → list_all is_written line ≡ true → Lexed rest words → Lexed ((with_between (codes " ") line ++ codes "\n") ++ rest) (line ++ words)
unfolding with_between
line_lexed [] rest words written later = lexed_line_end rest words later
line_lexed (w ∷ []) rest words written later =
    subst (λ (t : List ℕ). Lexed t (w ∷ words)) (sym (append_assoc w (codes "\n") rest)) (last_word w rest words (and_parts (is_written w) true written).0 later)
line_lexed (w ∷ v ∷ line) rest words written later =
    let parts = and_parts (is_written w) _ written in
    let behind = with_between (codes " ") (v ∷ line) in
    let regrouped : ((w ++ (32 ∷ behind)) ++ codes "\n") ++ rest ≡ w ++ (32 ∷ ((behind ++ codes "\n") ++ rest)) =
    ap (λ t. t ++ rest) (append_assoc w (32 ∷ behind) (codes "\n")) ∙ append_assoc w (32 ∷ (behind ++ codes "\n")) rest in
    subst (λ (t : List ℕ). Lexed t (w ∷ v ∷ (line ++ words))) (sym regrouped)
    (spaced_word w ((behind ++ codes "\n") ++ rest) (v ∷ (line ++ words)) parts.0 (line_lexed (v ∷ line) rest words parts.1 later))

statements_lexed : (statements : TextTree) → list_all is_written (flat_map statement_words statements) ≡ true → Lexed (flat_map statement_text statements) (flat_map statement_words statements)
unfolding statement_text
statements_lexed [] written = lexed_end
statements_lexed (s ∷ statements) written =
    let parts = and_parts (list_all is_written (statement_words s)) _ (sym (list_all-append is_written (statement_words s) (flat_map statement_words statements)) ∙ written) in
    line_lexed (statement_words s) (flat_map statement_text statements) (flat_map statement_words statements) parts.0 (statements_lexed statements parts.1)

pub language_lexed : (rest : List ℕ) (words : Words) → Lexed rest words → Lexed (language_line ++ rest) (language_words ++ words)
unfolding the_tokens
language_lexed rest words later =
    lexed_word (codes "language") (32 ∷ (codes "ESSENCE' 1.0\n" ++ rest)) _ refl refl refl refl (lexed_space _ _
    (lexed_word (codes "ESSENCE'") (32 ∷ (codes "1.0\n" ++ rest)) _ refl refl refl refl (lexed_space _ _
    (lexed_word (codes "1") (codes ".0\n" ++ rest) _ refl refl refl refl
    (lexed_word (codes ".") (codes "0\n" ++ rest) _ refl refl refl refl
    (lexed_word (codes "0") (codes "\n" ++ rest) _ refl refl refl refl (lexed_line_end rest words later)))))))

pub spelled_again : (model : TextTree) → IsSpellable model → SpellsAgain model (model_text model)
unfolding model_text
spelled_again model spellable =
    let text = spellable.0 in
    let spells = spellable.1 in
    let words = flat_map statement_words model in
    let r = (model_again model).again (lexemes_of text spells.tokens) (tokens_said text spells.tokens spells.found) spells.spelled in
    let written = and_parts (list_all is_written language_words) (list_all is_written words) (sym (list_all-append is_written language_words words) ∙ r.written) in
    let reads = whole_text (model_text model) (language_words ++ words) (language_lexed (flat_map statement_text model) words (statements_lexed model written.1)) in
    let x = r.said (lexemes_of (model_text model) reads.tokens) reads.says in
    record {
      again = x.0.tree;
      spelled = record { tokens = reads.tokens; found = reads.found; spelled = x.1 };
      same = x.0.same;
      high = kept (map placeless_statement) text_height text_cleared model x.0;
    }

pub read_again : (model : TextTree) → IsSpellable model → length (model_text model) ≤ MOST_BYTES → text_height model ≤ MOST_HEIGHT → (again : TextTree) × SameButPlaces again model × AnswersModel (model_text model) (read_as again)
read_again model spellable within low =
    let s = spelled_again model spellable in (
      s.again,
      s.same,
      record {
        within = within;
        tokens = s.spelled.tokens;
        found = s.spelled.found;
        reads = record { spelled = s.spelled.spelled; low = subst (λ (n : ℕ). n ≤ MOST_HEIGHT) (sym s.high) low };
      },
    )
