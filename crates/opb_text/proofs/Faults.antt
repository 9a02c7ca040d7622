-- Where reading stops, no text can go on; before that, and where it doesn't stop, one can.
use Rattle.std.proofs.Common.{◌≡◌, ℕ, ℤ, pos, Bool, true, false, List, [], ◌∷◌, ◌++◌, Option, Some, None, Ok, Err, refl, sym, ap, subst, ◌∙◌, append_assoc, inl, inr}
use Rattle.std.specs.Prelude.{codes, option_and_then}
use Rattle.std.proofs.lemmas.List.{append-nil}
use Rattle.ep_base.proofs.Small.{some_is, no_some}
use Rattle.sat_text.specs.Words.{PlacedWord, last_line}
use Rattle.opb_text.specs.declared.content.OpbTerm.{OpbTerm}
use Rattle.opb_text.specs.declared.reader.Part.TheVariants as part
use Rattle.opb_text.specs.declared.reader.Stage.{Stage}
use Rattle.opb_text.specs.declared.reader.Stage.TheVariants.{Start, Term, Literal, Right, End}
use Rattle.opb_text.specs.Contents.{OpbConstraint, OpbContent}
use Rattle.opb_text.specs.Grammar.{SpellsContent, SpellsOpb, CanGoOnAsOpb, IsOpbFaultLine, bare_words, relation_word, end_word}
use Rattle.opb_text.specs.Numbers.{signed_number_of}
use Rattle.opb_text.specs.Reading.{Begun, start, opb_step, run, is_done, content_of}
use Rattle.opb_text.specs.Words.{placed_opb_words}
use Rattle.opb_text.proofs.Following.{follow, follow_on, run_ok, run_err}
use Rattle.opb_text.proofs.Again.{content_read}
use Rattle.opb_text.proofs.Reached.{ReachedAt, InRow, InGoal, reached, whole_rows, row_begins, goal_ends, goal_term_ends, row_term_ends, behind_row, row_ends, done_spells}
use Rattle.opb_text.proofs.Texts.{IsClean, AreClean, clean_append, clean_front, text_clean, made_text, made_text_has, bare_append}

-- ---- words that complete others

-- with further words, these spell a problem
pub record CanBeWhole (words : List (List ℕ)) : Type 0 where
  pub more : List (List ℕ)
  pub content : OpbContent
  pub clean : AreClean more
  pub spells : SpellsContent content (words ++ more)

one_more : (words : List (List ℕ)) (word : List ℕ) → IsClean word → CanBeWhole (words ++ word ∷ []) → CanBeWhole words
unfolding AreClean
one_more words word clean can = record {
  more = word ∷ can.more;
  content = can.content;
  clean = (clean, can.clean);
  spells = subst (SpellsContent can.content) (append_assoc words (word ∷ []) can.more) can.spells;
}

is_whole : (content : OpbContent) (words : List (List ℕ)) → SpellsContent content words → CanBeWhole words
unfolding AreClean
is_whole content words s = record {
  more = [];
  content = content;
  clean = tt;
  spells = subst (SpellsContent content) (sym (append-nil words)) s;
}

abbrev zero_word : List ℕ
zero_word = codes "0"

abbrev literal_word : List ℕ
literal_word = codes "x1"

zero_clean : IsClean zero_word
zero_clean = record { plain = refl; alone = refl }

literal_clean : IsClean literal_word
literal_clean = record { plain = refl; alone = refl }

end_clean : IsClean end_word
end_clean = record { plain = refl; alone = refl }

relation_clean : (equal : Bool) → IsClean (relation_word equal)
relation_clean true = record { plain = refl; alone = refl }
relation_clean false = record { plain = refl; alone = refl }

abbrev new_term : ℤ → OpbTerm
new_term factor = record { factor = factor; negated = false; var = 1 }

rows_whole : (o : Option (List OpbTerm)) (rows : List OpbConstraint) (words : List (List ℕ)) → InRow o rows [] [] words → CanBeWhole words
rows_whole o rows words r = is_whole (record { objective = o; rows = rows }) words (whole_rows o rows [] words r refl)

end_whole : (o : Option (List OpbTerm)) (rows : List OpbConstraint) (terms : List OpbTerm) (equal : Bool) (right : ℤ) (words : List (List ℕ)) (s : (number : List ℕ) × (signed_number_of number ≡ Some right) × InRow o rows terms (relation_word equal ∷ number ∷ []) words) → CanBeWhole words
end_whole o rows terms equal right words s =
    one_more words end_word end_clean
    (rows_whole o (rows ++ record { terms = terms; equal = equal; right = right } ∷ []) (words ++ end_word ∷ []) (row_ends o rows terms equal right words s.0 s.1 s.2))

right_whole : (o : Option (List OpbTerm)) (rows : List OpbConstraint) (terms : List OpbTerm) (equal : Bool) (words : List (List ℕ)) → InRow o rows terms (relation_word equal ∷ []) words → CanBeWhole words
right_whole o rows terms equal words r =
    one_more words zero_word zero_clean
    (end_whole o rows terms equal (pos 0) (words ++ zero_word ∷ []) (zero_word, refl, behind_row o rows terms (relation_word equal ∷ []) words zero_word r))

row_whole : (o : Option (List OpbTerm)) (rows : List OpbConstraint) (terms : List OpbTerm) (words : List (List ℕ)) → InRow o rows terms [] words → CanBeWhole words
row_whole o rows terms words r =
    one_more words (relation_word false) (relation_clean false)
    (right_whole o rows terms false (words ++ relation_word false ∷ []) (behind_row o rows terms [] words (relation_word false) r))

goal_whole : (rows : List OpbConstraint) (terms : List OpbTerm) (words : List (List ℕ)) → InGoal rows terms [] words → CanBeWhole words
goal_whole rows terms words r = one_more words end_word end_clean (rows_whole (Some terms) rows (words ++ end_word ∷ []) (goal_ends rows terms words r))

whole_at : (s : Stage) (o : Option (List OpbTerm)) (rows : List OpbConstraint) (terms : List OpbTerm) (words : List (List ℕ)) → ReachedAt s o rows terms words → CanBeWhole words
unfolding ReachedAt
whole_at Start o rows terms words s = row_whole o rows terms words (row_begins o rows terms words s)
whole_at (Term part.Goal) o rows terms words s = goal_whole rows terms words s
whole_at (Term part.Row) o rows terms words s = row_whole o rows terms words s
whole_at (Literal part.Goal factor) o rows terms words s =
    one_more words literal_word literal_clean
    (goal_whole rows (terms ++ new_term factor ∷ []) (words ++ literal_word ∷ []) (goal_term_ends rows terms (new_term factor) words s.0 literal_word (record { factor = s.1; literal = refl }) s.2))
whole_at (Literal part.Row factor) o rows terms words s =
    one_more words literal_word literal_clean
    (row_whole o rows (terms ++ new_term factor ∷ []) (words ++ literal_word ∷ []) (row_term_ends o rows terms (new_term factor) words s.0 literal_word (record { factor = s.1; literal = refl }) s.2))
whole_at (Right equal) o rows terms words s = right_whole o rows terms equal words s
whole_at (End equal right) o rows terms words s = end_whole o rows terms equal right words s

-- clean words that were read begin some text that spells a problem
can_go_on : (words : List (List ℕ)) (b : Begun) → AreClean words → follow start words ≡ Some b → CanGoOnAsOpb words
can_go_on words b clean e =
    let can = whole_at b.stage b.objective b.rows b.terms words (reached words b e) in
    let has = made_text_has (words ++ can.more) (clean_append words can.more clean can.clean) in
    (made_text (words ++ can.more), can.more, can.content, has, subst (SpellsContent can.content) (sym has) can.spells)

-- ---- where reading stops

-- what spells a problem is read
spelled_is_read : (content : OpbContent) (words : List (List ℕ)) → SpellsContent content words → (last : Begun) × (follow start words ≡ Some last) × (is_done last ≡ true) × (content_of last ≡ content)
spelled_is_read content words s = let r = content_read content words s in (r.last, r.followed, r.done, r.content_is)

-- nothing is read behind a wrong word
wrong_reads_nothing : (front later : List (List ℕ)) (word : List ℕ) (at : Begun) → follow start front ≡ Some at → opb_step at word ≡ None → follow start (front ++ word ∷ later) ≡ None
unfolding follow
wrong_reads_nothing front later word at e wrong =
    follow_on start at front (word ∷ later) e ∙ ap (option_and_then (λ (next : Begun). follow next later)) wrong

not_good : (front : List (List ℕ)) (word : List ℕ) (at : Begun) → follow start front ≡ Some at → opb_step at word ≡ None → CanGoOnAsOpb (front ++ word ∷ []) → ⊥
not_good front word at e wrong can =
    let r = spelled_is_read can.2 (bare_words (placed_opb_words can.0)) can.4 in
    let cut : bare_words (placed_opb_words can.0) ≡ front ++ word ∷ can.1 = can.3 ∙ append_assoc front (word ∷ []) can.1 in
    let nothing : follow start (bare_words (placed_opb_words can.0)) ≡ None = ap (follow start) cut ∙ wrong_reads_nothing front can.1 word at e wrong in
    no_some (sym nothing ∙ r.1)

bare_cut : (found front : List PlacedWord) (word : PlacedWord) (later : List PlacedWord) → found ≡ front ++ word ∷ later → bare_words found ≡ bare_words front ++ word.bytes ∷ bare_words later
bare_cut found front word later e = ap bare_words e ∙ bare_append front (word ∷ later)

-- the line at which reading stops is that of the fault
pub stopped_at_fault : (text : List ℕ) (line : ℕ) → run start (placed_opb_words text) ≡ Err line → IsOpbFaultLine text line
stopped_at_fault text line e =
    let s = run_err (placed_opb_words text) start line e in
    let cut = bare_cut (placed_opb_words text) s.front s.word s.later s.all_words in
    let clean : AreClean (bare_words s.front) = clean_front (bare_words s.front) (s.word.bytes ∷ bare_words s.later) (subst AreClean cut (text_clean text)) in
    inl (
      s.word,
      record {
        front = s.front;
        later = s.later;
        all_words = s.all_words;
        good_before = can_go_on (bare_words s.front) s.at clean s.followed;
        not_good = not_good (bare_words s.front) s.word.bytes s.at s.followed s.wrong;
      },
      s.is,
    )

-- ---- what a text spells

-- where reading stops, the text spells nothing
pub stopped_spells_nothing : (text : List ℕ) (line : ℕ) (content : OpbContent) → run start (placed_opb_words text) ≡ Err line → SpellsOpb text content → ⊥
stopped_spells_nothing text line content e s =
    let stop = run_err (placed_opb_words text) start line e in
    let cut = bare_cut (placed_opb_words text) stop.front stop.word stop.later stop.all_words in
    let r = spelled_is_read content (bare_words (placed_opb_words text)) s in
    let nothing : follow start (bare_words (placed_opb_words text)) ≡ None = ap (follow start) cut ∙ wrong_reads_nothing (bare_words stop.front) (bare_words stop.later) stop.word.bytes stop.at stop.followed stop.wrong in
    no_some (sym nothing ∙ r.1)

read_is_spelled : (text : List ℕ) (b : Begun) (content : OpbContent) → run start (placed_opb_words text) ≡ Ok b → SpellsOpb text content → (is_done b ≡ true) × (content_of b ≡ content)
read_is_spelled text b content e s =
    let r = spelled_is_read content (bare_words (placed_opb_words text)) s in
    let same : r.0 ≡ b = some_is (sym r.1 ∙ run_ok (placed_opb_words text) start b e) in
    (subst (λ (c : Begun). is_done c ≡ true) same r.2, subst (λ (c : Begun). content_of c ≡ content) same r.3)

-- what is read is all that the text spells
pub read_content : (text : List ℕ) (b : Begun) (content : OpbContent) → run start (placed_opb_words text) ≡ Ok b → SpellsOpb text content → content_of b ≡ content
read_content text b content e s = (read_is_spelled text b content e s).1

-- where words are wanting, the text spells nothing
pub wanting_spells_nothing : (text : List ℕ) (b : Begun) (content : OpbContent) → run start (placed_opb_words text) ≡ Ok b → is_done b ≡ false → SpellsOpb text content → ⊥
wanting_spells_nothing text b content e isnt s = let h = (read_is_spelled text b content e s).0 in absurd (let k : false ≡ true = sym isnt ∙ h in cc)

-- where reading doesn't stop and words are wanting, the fault is behind the last word
pub wanting_at_end : (text : List ℕ) (b : Begun) (line : ℕ) → run start (placed_opb_words text) ≡ Ok b → is_done b ≡ false → line ≡ last_line text → IsOpbFaultLine text line
wanting_at_end text b line e isnt is = inr (
  can_go_on (bare_words (placed_opb_words text)) b (text_clean text) (run_ok (placed_opb_words text) start b e),
  (λ content s. wanting_spells_nothing text b content e isnt s),
  is,
)

-- what is read whole is spelled
pub read_spells : (text : List ℕ) (b : Begun) → run start (placed_opb_words text) ≡ Ok b → is_done b ≡ true → SpellsOpb text (content_of b)
read_spells text b e done = done_spells b (bare_words (placed_opb_words text)) (run_ok (placed_opb_words text) start b e) done
