-- Words that spell a problem are read as it.
use Rattle.std.proofs.Common.{◌≡◌, ℕ, ℤ, Bool, true, false, List, [], ◌∷◌, ◌++◌, Option, Some, None, refl, sym, ap, subst, ◌∙◌, append_assoc}
use Rattle.std.specs.Prelude.{codes, option_and_then}
use Rattle.std.proofs.lemmas.List.{append-nil}
use Rattle.opb_text.specs.declared.content.OpbTerm.{OpbTerm}
use Rattle.opb_text.specs.declared.reader.Part.{Part}
use Rattle.opb_text.specs.declared.reader.Part.TheVariants as part
use Rattle.opb_text.specs.declared.reader.Stage.{Stage}
use Rattle.opb_text.specs.declared.reader.Stage.TheVariants.{Term}
use Rattle.opb_text.specs.Contents.{OpbConstraint, OpbContent}
use Rattle.opb_text.specs.Grammar.{SpellsTerm, SpellsOpbTerms, SpellsRow, SpellsRows, SpellsObjective, SpellsContent, relation_word, end_word}
use Rattle.opb_text.specs.Numbers.{signed_number_of}
use Rattle.opb_text.specs.Words.{relation_of, is_goal}
use Rattle.opb_text.specs.Reading.{Begun, start, opb_step, opb_step_at, row_term, at_row_term, with_relation, is_done, may_end, content_of}
use Rattle.opb_text.proofs.Following.{follow}
use Rattle.opb_text.proofs.Signs.{relation_no_number, relation_again, relation_no_goal, number_no_goal}

-- what was read, by its parts
abbrev pub begun : Option (List OpbTerm) → List OpbConstraint → List OpbTerm → Stage → Begun
begun objective rows terms stage = record { objective = objective; rows = rows; terms = terms; stage = stage }

-- ---- terms

one_term : (p : Part) (o : Option (List OpbTerm)) (rows : List OpbConstraint) (terms : List OpbTerm) (t : OpbTerm) (number literal : List ℕ) (later : List (List ℕ)) → SpellsTerm t number literal
    → follow (begun o rows terms (Term p)) (number ∷ literal ∷ later) ≡ follow (begun o rows (terms ++ t ∷ []) (Term p)) later
unfolding follow opb_step_at
one_term part.Goal o rows terms t number literal later s = rw (s.factor, s.literal) refl
one_term part.Row o rows terms t number literal later s = rw (s.factor, s.literal) refl

pub terms_again : (p : Part) (o : Option (List OpbTerm)) (rows : List OpbConstraint) (more terms : List OpbTerm) (words later : List (List ℕ)) → SpellsOpbTerms more words
    → follow (begun o rows terms (Term p)) (words ++ later) ≡ follow (begun o rows (terms ++ more) (Term p)) later
terms_again p o rows [] terms words later s =
    ap (λ (ws : List (List ℕ)). follow (begun o rows terms (Term p)) (ws ++ later)) s
    ∙ ap (λ (ts : List OpbTerm). follow (begun o rows ts (Term p)) later) (sym (append-nil terms))
terms_again p o rows (t ∷ more) terms words later s =
    ap (λ (ws : List (List ℕ)). follow (begun o rows terms (Term p)) (ws ++ later)) s.3
    ∙ one_term p o rows terms t s.0 s.1 (s.2 ++ later) s.4
    ∙ terms_again p o rows more (terms ++ t ∷ []) s.2 later s.5
    ∙ ap (λ (ts : List OpbTerm). follow (begun o rows ts (Term p)) later) (append_assoc terms (t ∷ []) more)

-- ---- constraints

row_end : (o : Option (List OpbTerm)) (rows : List OpbConstraint) (row : OpbConstraint) (right : List ℕ) (later : List (List ℕ)) → signed_number_of right ≡ Some row.right
    → follow (begun o rows row.terms (Term part.Row)) (relation_word row.equal ∷ right ∷ end_word ∷ later) ≡ follow (begun o (rows ++ row ∷ []) [] (Term part.Row)) later
unfolding follow opb_step_at
row_end o rows row right later s = rw (relation_no_number row.equal, relation_again row.equal, s) refl

pub row_again : (o : Option (List OpbTerm)) (rows : List OpbConstraint) (row : OpbConstraint) (words later : List (List ℕ)) → SpellsRow row words
    → follow (begun o rows [] (Term part.Row)) (words ++ later) ≡ follow (begun o (rows ++ row ∷ []) [] (Term part.Row)) later
row_again o rows row words later s =
    let ending = relation_word row.equal ∷ s.right_word ∷ end_word ∷ [] in
    ap (λ (ws : List (List ℕ)). follow (begun o rows [] (Term part.Row)) (ws ++ later)) s.all_words
    ∙ ap (follow (begun o rows [] (Term part.Row))) (append_assoc s.terms_words ending later)
    ∙ terms_again part.Row o rows row.terms [] s.terms_words (ending ++ later) s.terms
    ∙ row_end o rows row s.right_word later s.right

pub rows_again : (o : Option (List OpbTerm)) (more rows : List OpbConstraint) (words : List (List ℕ)) → SpellsRows more words
    → follow (begun o rows [] (Term part.Row)) words ≡ Some (begun o (rows ++ more) [] (Term part.Row))
unfolding follow
rows_again o [] rows words s =
    ap (follow (begun o rows [] (Term part.Row))) s
    ∙ ap (λ (rs : List OpbConstraint). Some (begun o rs [] (Term part.Row))) (sym (append-nil rows))
rows_again o (row ∷ more) rows words s =
    ap (follow (begun o rows [] (Term part.Row))) s.2
    ∙ row_again o rows row s.0 s.1 s.3
    ∙ rows_again o more (rows ++ row ∷ []) s.1 s.4
    ∙ ap (λ (rs : List OpbConstraint). Some (begun o rs [] (Term part.Row))) (append_assoc rows (row ∷ []) more)

-- ---- the whole

-- a constraint begins with a word that doesn't begin the objective
record FirstWord (words : List (List ℕ)) : Type 0 where
  pub word : List ℕ
  pub later : List (List ℕ)
  pub is : words ≡ word ∷ later
  pub no_goal : is_goal word ≡ false

first_by_terms : (terms : List OpbTerm) (terms_words : List (List ℕ)) (equal : Bool) (ending : List (List ℕ)) → SpellsOpbTerms terms terms_words → FirstWord (terms_words ++ relation_word equal ∷ ending)
first_by_terms [] terms_words equal ending s = record {
  word = relation_word equal;
  later = ending;
  is = ap (λ (ws : List (List ℕ)). ws ++ relation_word equal ∷ ending) s;
  no_goal = relation_no_goal equal;
}
first_by_terms (t ∷ terms) terms_words equal ending s = record {
  word = s.0;
  later = s.1 ∷ s.2 ++ relation_word equal ∷ ending;
  is = ap (λ (ws : List (List ℕ)). ws ++ relation_word equal ∷ ending) s.3;
  no_goal = number_no_goal s.0 t.factor s.4.factor;
}

first_of_row : (row : OpbConstraint) (words : List (List ℕ)) → SpellsRow row words → FirstWord words
first_of_row row words s = subst FirstWord (sym s.all_words) (first_by_terms row.terms s.terms_words row.equal (s.right_word ∷ end_word ∷ []) s.terms)

with_relation_alike : (r : Option Bool) → with_relation start r ≡ with_relation (begun None [] [] (Term part.Row)) r
with_relation_alike None = refl
with_relation_alike (Some equal) = refl

row_term_alike : (word : List ℕ) (n : Option ℤ) → row_term start word n ≡ row_term (begun None [] [] (Term part.Row)) word n
row_term_alike word None = with_relation_alike (relation_of word)
row_term_alike word (Some factor) = refl

-- where no objective is stated, the first constraint may begin at once
start_alike : (words more : List (List ℕ)) → FirstWord words → follow start (words ++ more) ≡ follow (begun None [] [] (Term part.Row)) (words ++ more)
unfolding follow opb_step_at
start_alike words more f =
    let none : at_row_term start f.word ≡ at_row_term (begun None [] [] (Term part.Row)) f.word = row_term_alike f.word (signed_number_of f.word) in
    let step_alike : opb_step start f.word ≡ opb_step (begun None [] [] (Term part.Row)) f.word = rw f.no_goal none in
    let whole : words ++ more ≡ f.word ∷ (f.later ++ more) = ap (λ (ws : List (List ℕ)). ws ++ more) f.is in
    ap (follow start) whole
    ∙ ap (option_and_then (λ (next : Begun). follow next (f.later ++ more))) step_alike
    ∙ ap (follow (begun None [] [] (Term part.Row))) (sym whole)

-- what is read where words spell a problem
pub record IsRead (content : OpbContent) (words : List (List ℕ)) : Type 0 where
  pub last : Begun
  pub followed : follow start words ≡ Some last
  pub done : is_done last ≡ true
  pub content_is : content_of last ≡ content

rows_read : (rows : List OpbConstraint) (words : List (List ℕ)) → SpellsRows rows words → IsRead (record { objective = None; rows = rows }) words
unfolding follow may_end
rows_read [] words s = record {
  last = start;
  followed = ap (follow start) s;
  done = refl;
  content_is = refl;
}
rows_read (row ∷ rows) words s = record {
  last = begun None (row ∷ rows) [] (Term part.Row);
  followed = ap (follow start) s.2
      ∙ start_alike s.0 s.1 (first_of_row row s.0 s.3)
      ∙ ap (follow (begun None [] [] (Term part.Row))) (sym s.2)
      ∙ rows_again None (row ∷ rows) [] words s;
  done = refl;
  content_is = refl;
}

goal_begins : (later : List (List ℕ)) → follow start (codes "min:" ∷ later) ≡ follow (begun None [] [] (Term part.Goal)) later
unfolding follow opb_step_at
goal_begins later = refl

goal_ends : (terms : List OpbTerm) (later : List (List ℕ)) → follow (begun None [] terms (Term part.Goal)) (end_word ∷ later) ≡ follow (begun (Some terms) [] [] (Term part.Row)) later
unfolding follow opb_step_at
goal_ends terms later = refl

goal_read : (terms : List OpbTerm) (rows : List OpbConstraint) (goal_words rows_words : List (List ℕ)) → SpellsObjective (Some terms) goal_words → SpellsRows rows rows_words
    → IsRead (record { objective = Some terms; rows = rows }) (goal_words ++ rows_words)
unfolding may_end
goal_read terms rows goal_words rows_words g r = record {
  last = begun (Some terms) rows [] (Term part.Row);
  followed =
      ap (λ (ws : List (List ℕ)). follow start (ws ++ rows_words)) g.1
      ∙ ap (λ (ws : List (List ℕ)). follow start (codes "min:" ∷ ws)) (append_assoc g.0 (end_word ∷ []) rows_words)
      ∙ goal_begins (g.0 ++ end_word ∷ rows_words)
      ∙ terms_again part.Goal None [] terms [] g.0 (end_word ∷ rows_words) g.2
      ∙ goal_ends terms rows_words
      ∙ rows_again (Some terms) rows [] rows_words r;
  done = refl;
  content_is = refl;
}

read_parts : (objective : Option (List OpbTerm)) (rows : List OpbConstraint) (objective_words rows_words : List (List ℕ)) → SpellsObjective objective objective_words → SpellsRows rows rows_words
    → IsRead (record { objective = objective; rows = rows }) (objective_words ++ rows_words)
read_parts None rows objective_words rows_words o r =
    subst (IsRead (record { objective = None; rows = rows })) (sym (ap (λ (ws : List (List ℕ)). ws ++ rows_words) o)) (rows_read rows rows_words r)
read_parts (Some terms) rows objective_words rows_words o r = goal_read terms rows objective_words rows_words o r

-- words that spell a problem are read as it
pub content_read : (content : OpbContent) (words : List (List ℕ)) → SpellsContent content words → IsRead content words
content_read content words s =
    subst (IsRead content) (sym s.all_words) (read_parts content.objective content.rows s.objective_words s.rows_words s.objective s.rows)
