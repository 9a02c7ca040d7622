-- A text of lettings is a parameter text with these lettings.
use Rattle.std.proofs.Common.{◌≡◌, ℕ, suc, Bool, true, false, cond, ◌&&◌, List, [], ◌∷◌, ◌++◌, codes, map, ℤ, pos, None, refl, sym, ap, ap₂, subst, ◌∙◌, append_assoc, arith, inl}
use Rattle.std.specs.List.{All, flat_map, list_all}
use Rattle.std.specs.Ordering.{int_eq}
use Rattle.std.proofs.lemmas.Bool.{and_parts}
use Rattle.ep_tree.specs.Phrases.{PlacedNames, a_name, lexemes_of}
use Rattle.ep_tree.specs.Placeless.{placeless_statement, somewhere}
use Rattle.ep_tree.specs.Solutions.{Assigned, NamedValue}
use Rattle.ep_tree.specs.Spelling.{truth_word}
use Rattle.ep_tree.specs.StatementSpelling.{SaysBe, SpellsParams, SpellsStated, SpellsStatement, SpellsStatements, is_letting}
use Rattle.ep_tree.specs.Statements.{TextTree, letting}
use Rattle.ep_tree.specs.Types.{scalar_of}
use Rattle.ep_tree.specs.Values.{ValueTree, ValueTrees, matrix, no_values, single, value_and}
use Rattle.ep_tree.specs.declared.values.Scalar.{Scalar}
use Rattle.ep_print.specs.Answers.{language_line, letting_text, letting_texts}
use Rattle.ep_print.specs.Joining.{with_between}
use Rattle.ep_print.specs.Values.{index_domain_text, scalar_text, scalar_value_text, scalar_value_texts, value_text}
use Rattle.ep_print.specs.Words.{Words, all_words, domain_words, expr_words, stated_words, statement_words, word}
use Rattle.ep_print_laws.specs.Answered.{CanBeWritten, SpellsLettings, are_short_values, has_few_digits, indices_domain, is_short_value, letting_of, scalar_expr, value_expr, value_exprs}
use Rattle.ep_print_laws.proofs.Clearing.{letting_cleared}
use Rattle.ep_print_laws.proofs.Literals as literals
use Rattle.ep_print_laws.proofs.Literals.{the_tokens}
use Rattle.ep_print_laws.proofs.Pieces.{behind, joined_behind, kept}
use Rattle.ep_print_laws.proofs.Printed.{language_lexed, spaced_word}
use Rattle.ep_print_laws.proofs.Respelled.{Respelled, Twin, respelled_as, respelled_is, respelled_none, respelled_then, respelled_word}
use Rattle.ep_print_laws.proofs.Said.{name_says, name_written}
use Rattle.ep_print_laws.proofs.Scanned.{Lexed, lexed_end, lexed_line_end, lexed_space, lexed_word, whole_text}
use Rattle.ep_print_laws.proofs.TextsAgain.{language_respelled, language_words, respelled_from}
use Rattle.ep_print_laws.proofs.ValuesLexed.{Breaks, alone, comma_lexed, indices_lexed, square_lexed, whole_lexed}
use Rattle.ep_print_laws.proofs.ValuesSpelled.{value_spelled}

-- ---- values

truth_lexed : (b : Bool) (rest : List ℕ) (words : Words) → Breaks rest → Lexed rest words → Lexed (cond b (codes "true") (codes "false") ++ rest) (codes (truth_word b) ∷ words)
unfolding the_tokens truth_word
truth_lexed true rest words breaks later = lexed_word (codes "true") rest words refl refl refl (breaks (codes "true")) later
truth_lexed false rest words breaks later = lexed_word (codes "false") rest words refl refl refl (breaks (codes "false")) later

scalar_lexed : (s : Scalar) (n : ℤ) (rest : List ℕ) (words : Words) → has_few_digits n ≡ true → Breaks rest → Lexed rest words → Lexed (scalar_text s n ++ rest) (expr_words (scalar_expr s n) ++ words)
unfolding scalar_text scalar_expr expr_words
scalar_lexed Scalar.Bool n rest words few breaks later = truth_lexed (int_eq n (pos 1)) rest words breaks later
scalar_lexed Scalar.Int n rest words few breaks later = whole_lexed n rest words few (λ w e. breaks w) later

-- an open bracket
open_lexed : (rest : List ℕ) (words : Words) → Lexed rest words → Lexed (91 ∷ rest) (codes "[" ∷ words)
unfolding the_tokens
open_lexed rest words later = lexed_word (codes "[") rest words refl refl refl (alone 91 refl refl rest) later

-- a semicolon, a space and an index domain in front of the closing bracket
closing_lexed : (indices : List ℤ) (rest : List ℕ) (words : Words) → list_all has_few_digits indices ≡ true → Lexed rest words
    → Lexed (codes "; " ++ (index_domain_text indices ++ (93 ∷ rest))) (codes ";" ∷ (domain_words (indices_domain indices) ++ (codes "]" ∷ words)))
unfolding the_tokens
closing_lexed indices rest words few later =
    lexed_word (codes ";") (32 ∷ (index_domain_text indices ++ (93 ∷ rest))) _ refl refl refl refl
    (lexed_space _ _ (indices_lexed indices (93 ∷ rest) (codes "]" ∷ words) few (square_lexed rest words later)))

-- the same behind no part
empty_closing : (rest : List ℕ) (words : Words) → Lexed rest words → Lexed (codes "; int(1..0)]" ++ rest) (codes ";" ∷ (domain_words (indices_domain []) ++ (codes "]" ∷ words)))
unfolding index_domain_text
empty_closing rest words later = closing_lexed [] rest words refl later

breaks_behind : (ts : List (List ℕ)) (rest : List ℕ) → Breaks rest → Breaks (behind (codes ", ") ts ++ rest)
breaks_behind [] rest breaks w = breaks w
breaks_behind (t ∷ ts) rest breaks w = refl

-- the text of a matrix with parts, opened
opened_text : (t i : List ℕ) (rest : List ℕ) → (codes "[" ++ (t ++ (codes "; " ++ (i ++ codes "]")))) ++ rest ≡ 91 ∷ (t ++ (codes "; " ++ (i ++ (93 ∷ rest))))
opened_text t i rest =
    ap (λ x. 91 ∷ x) (append_assoc t (codes "; " ++ (i ++ codes "]")) rest) ∙ ap (λ x. 91 ∷ (t ++ (codes "; " ++ x))) (append_assoc i (codes "]") rest)

-- and its words
opened_words : (w d words : Words) → (word "[" ++ (w ++ ((word ";" ++ d) ++ word "]"))) ++ words ≡ codes "[" ∷ (w ++ (codes ";" ∷ (d ++ (codes "]" ∷ words))))
opened_words w d words =
    ap (λ x. codes "[" ∷ x) (append_assoc w ((word ";" ++ d) ++ word "]") words) ∙ ap (λ x. codes "[" ∷ (w ++ (codes ";" ∷ x))) (append_assoc d (word "]") words)

mutual
  unfolding scalar_value_text value_expr is_short_value expr_words with_between

  value_lexed : (s : Scalar) (v : ValueTree) (rest : List ℕ) (words : Words) → is_short_value v ≡ true → Breaks rest → Lexed rest words → Lexed (scalar_value_text s v ++ rest) (expr_words (value_expr s v) ++ words)
  value_lexed s (single n) rest words short breaks later = scalar_lexed s n rest words short breaks later
  value_lexed s (matrix indices no_values) rest words short breaks later =
      subst (λ (ws : Words). Lexed (codes "[; int(1..0)]" ++ rest) ws) (sym (opened_words [] (domain_words (indices_domain [])) words))
      (open_lexed (codes "; int(1..0)]" ++ rest) _ (empty_closing rest words later))
  value_lexed s (matrix indices (value_and v vs)) rest words short breaks later =
      let parts = and_parts (list_all has_few_digits indices) _ short in
      let both = and_parts (is_short_value v) (are_short_values vs) parts.1 in
      let t = scalar_value_text s v in
      let ts = scalar_value_texts s vs in
      let w = expr_words (value_expr s v) in
      let ws = all_words (value_exprs s vs) in
      let end = codes "; " ++ (index_domain_text indices ++ (93 ∷ rest)) in
      let end_words = codes ";" ∷ (domain_words (indices_domain indices) ++ (codes "]" ∷ words)) in
      let inside : Lexed (with_between (codes ", ") (t ∷ ts) ++ end) (with_between (word ",") (w ∷ ws) ++ end_words) =
      subst (λ (x : List ℕ). Lexed x (with_between (word ",") (w ∷ ws) ++ end_words)) (sym (append_assoc t (behind (codes ", ") ts) end) ∙ ap (λ x. x ++ end) (joined_behind (codes ", ") t ts))
      (subst (λ (x : Words). Lexed (t ++ (behind (codes ", ") ts ++ end)) x) (sym (append_assoc w (behind (word ",") ws) end_words) ∙ ap (λ x. x ++ end_words) (joined_behind (word ",") w ws))
      (value_lexed s v (behind (codes ", ") ts ++ end) (behind (word ",") ws ++ end_words) both.0 (breaks_behind ts end (λ x. refl))
      (values_lexed s vs end end_words both.1 (λ x. refl) (closing_lexed indices rest words parts.0 later)))) in
      subst (λ (x : List ℕ). Lexed x ((word "[" ++ (with_between (word ",") (w ∷ ws) ++ ((word ";" ++ domain_words (indices_domain indices)) ++ word "]"))) ++ words)) (sym (opened_text (with_between (codes ", ") (t ∷ ts)) (index_domain_text indices) rest))
      (subst (λ (x : Words). Lexed (91 ∷ (with_between (codes ", ") (t ∷ ts) ++ end)) x) (sym (opened_words (with_between (word ",") (w ∷ ws)) (domain_words (indices_domain indices)) words))
      (open_lexed (with_between (codes ", ") (t ∷ ts) ++ end) (with_between (word ",") (w ∷ ws) ++ end_words) inside))

  values_lexed : (s : Scalar) (vs : ValueTrees) (rest : List ℕ) (words : Words) → are_short_values vs ≡ true → Breaks rest → Lexed rest words
      → Lexed (behind (codes ", ") (scalar_value_texts s vs) ++ rest) (behind (word ",") (all_words (value_exprs s vs)) ++ words)
  values_lexed s no_values rest words short breaks later = later
  values_lexed s (value_and v vs) rest words short breaks later =
      let both = and_parts (is_short_value v) (are_short_values vs) short in
      let t = scalar_value_text s v in
      let ts = behind (codes ", ") (scalar_value_texts s vs) in
      let w = expr_words (value_expr s v) in
      let ws = behind (word ",") (all_words (value_exprs s vs)) in
      subst (λ (x : List ℕ). Lexed (44 ∷ 32 ∷ x) (codes "," ∷ ((w ++ ws) ++ words))) (sym (append_assoc t ts rest))
      (subst (λ (x : Words). Lexed (44 ∷ 32 ∷ (t ++ (ts ++ rest))) (codes "," ∷ x)) (sym (append_assoc w ws words))
      (comma_lexed (t ++ (ts ++ rest)) (w ++ (ws ++ words))
      (value_lexed s v (ts ++ rest) (ws ++ words) both.0 (breaks_behind (scalar_value_texts s vs) rest breaks) (values_lexed s vs rest words both.1 breaks later))))

-- ---- lettings

letting_lexed : (g : NamedValue) (rest : List ℕ) (words : Words) → CanBeWritten g → Lexed rest words → Lexed (letting_text g ++ rest) (statement_words (letting_of g) ++ words)
unfolding letting_text value_text statement_words letting_of stated_words
letting_lexed g rest words can later =
    let s = scalar_of g.ty in
    let v = scalar_value_text s g.value in
    let w = expr_words (value_expr s g.value) in
    let spread : (codes "letting " ++ (g.name ++ (codes " be " ++ (v ++ codes "\n")))) ++ rest ≡ codes "letting " ++ (g.name ++ (codes " be " ++ (v ++ (10 ∷ rest)))) =
    ap (λ x. codes "letting " ++ x) (append_assoc g.name (codes " be " ++ (v ++ codes "\n")) rest ∙ ap (λ x. g.name ++ (codes " be " ++ x)) (append_assoc v (codes "\n") rest)) in
    subst (λ (x : List ℕ). Lexed x (codes "letting" ∷ g.name ∷ codes "be" ∷ (w ++ words))) (sym spread)
    (spaced_word (codes "letting") (g.name ++ (codes " be " ++ (v ++ (10 ∷ rest)))) (g.name ∷ codes "be" ∷ (w ++ words)) literals.letting.written
    (spaced_word g.name (codes "be " ++ (v ++ (10 ∷ rest))) (codes "be" ∷ (w ++ words)) (name_written g.name can.name)
    (spaced_word (codes "be") (v ++ (10 ∷ rest)) (w ++ words) literals.be.written
    (value_lexed s g.value (10 ∷ rest) words can.short (λ x. refl) (lexed_line_end rest words later)))))

letting_spelled : (g : NamedValue) → CanBeWritten g → Respelled (λ (x : Twin placeless_statement (letting_of g)). SpellsStatement x.tree) (statement_words (letting_of g))
unfolding SpellsStatement statement_words placeless_statement letting_of stated_words PlacedNames SpellsStated
letting_spelled g can =
    respelled_as
    (respelled_from (respelled_then (respelled_word "letting" literals.letting)
    (respelled_then (respelled_from (respelled_is (a_name g.name) g.name (name_written g.name can.name) (name_says g.name can.no_word can.name)))
    (respelled_then respelled_none
    (respelled_then (respelled_as {R = λ (u : Unit {0}). SaysBe} (respelled_word "be" literals.be) (λ u. u) (λ u ts h. inl h)) (value_spelled (scalar_of g.ty) g.value can.short))))))
    (λ x. record { tree = letting x.0 g.name x.1.1.0.0 None x.1.1.1.1.1.tree; same = ap (letting somewhere g.name somewhere None) x.1.1.1.1.1.same }) (λ x ts h. h)

-- each of some values can be written
abbrev pub AllWritten : Assigned → Type 0
AllWritten [] = Unit {0}
AllWritten (g ∷ gs) = CanBeWritten g × AllWritten gs

pub all_written : (a : Assigned) → All CanBeWritten a → AllWritten a
all_written [] all = tt
all_written (g ∷ gs) all = (all 0 g (omega arith), all_written gs (λ k d within. all (suc k) d (omega (arith, within))))

pub lettings_lexed : (a : Assigned) → AllWritten a → Lexed (letting_texts a) (flat_map statement_words (map letting_of a))
lettings_lexed [] can = lexed_end
lettings_lexed (g ∷ gs) can = letting_lexed g (letting_texts gs) (flat_map statement_words (map letting_of gs)) can.0 (lettings_lexed gs can.1)

lettings_spelled : (a : Assigned) → AllWritten a → Respelled (λ (x : Twin (map placeless_statement) (map letting_of a)). SpellsStatements x.tree) (flat_map statement_words (map letting_of a))
unfolding SpellsStatements
lettings_spelled [] can = respelled_as respelled_none (λ u. record { tree = []; same = refl }) (λ u ts h. h)
lettings_spelled (g ∷ gs) can =
    respelled_as (respelled_then (letting_spelled g can.0) (lettings_spelled gs can.1))
    (λ x. record { tree = x.0.tree ∷ x.1.tree; same = ap₂ (λ s ss. s ∷ ss) x.0.same x.1.same }) (λ x ts h. h)

lettings_cleared : (text : TextTree) → list_all is_letting (map placeless_statement text) ≡ list_all is_letting text
lettings_cleared [] = refl
lettings_cleared (s ∷ text) = ap₂ (λ b c. b && c) (letting_cleared s) (lettings_cleared text)

all_lettings : (a : Assigned) → list_all is_letting (map letting_of a) ≡ true
unfolding is_letting letting_of
all_lettings [] = refl
all_lettings (g ∷ gs) = all_lettings gs

-- the language line, and then what has these lettings
pub with_lettings : (a : Assigned) (text : List ℕ) → AllWritten a → Lexed text (flat_map statement_words (map letting_of a)) → SpellsLettings (map letting_of a) (language_line ++ text)
unfolding SpellsParams
with_lettings a text can lexed =
    let words = flat_map statement_words (map letting_of a) in
    let reads = whole_text (language_line ++ text) (language_words ++ words) (language_lexed text words lexed) in
    let r = respelled_then language_respelled (lettings_spelled a can) in
    let x = r.said (lexemes_of (language_line ++ text) reads.tokens) reads.says in
    let lettings = kept (map placeless_statement) (list_all is_letting) lettings_cleared (map letting_of a) x.0.1 ∙ all_lettings a in
    record {
      tree = x.0.1.tree;
      spelled = record { tokens = reads.tokens; found = reads.found; spelled = (lettings, (x.1.0, x.1.1, x.1.2, inl x.1.3, x.1.4)) };
      same = x.0.1.same;
    }
