-- What is read is spelled by the words that were read, and can be gone on with.
use Rattle.std.proofs.Common.{◌≡◌, ℕ, ℤ, Bool, true, List, [], ◌∷◌, ◌++◌, Option, Some, None, refl, sym, ap, subst, ◌∙◌, append_assoc, inl, inr}
use Rattle.std.specs.Prelude.{codes, option_and_then}
use Rattle.std.proofs.lemmas.List.{append-nil}
use Rattle.ep_base.proofs.Small.{some_is, no_some, map_is}
use Rattle.sat_text.proofs.Cuts.{bool_cases}
use Rattle.opb_text.specs.declared.content.OpbTerm.{OpbTerm}
use Rattle.opb_text.specs.declared.reader.Part.TheVariants as part
use Rattle.opb_text.specs.declared.reader.Stage.{Stage}
use Rattle.opb_text.specs.declared.reader.Stage.TheVariants.{Start, Term, Literal, Right, End}
use Rattle.opb_text.specs.Contents.{OpbConstraint}
use Rattle.opb_text.specs.Grammar.{SpellsTerm, SpellsOpbTerms, SpellsRow, SpellsRows, SpellsObjective, SpellsContent, relation_word, end_word}
use Rattle.opb_text.specs.Numbers.{signed_number_of, opb_literal_of}
use Rattle.opb_text.specs.Words.{relation_of, is_goal, is_end}
use Rattle.opb_text.specs.Reading.{Begun, start, opb_step, opb_step_at, then_comes, row_term, goal_term, with_relation, with_term, with_objective, with_row, is_done, may_end, has_none, content_of}
use Rattle.opb_text.proofs.Following.{follow}
use Rattle.opb_text.proofs.Signs.{end_is, goal_is, relation_is}

-- ---- one more at the end

terms_more : (terms : List OpbTerm) (t : OpbTerm) (words : List (List ℕ)) (number literal : List ℕ) → SpellsOpbTerms terms words → SpellsTerm t number literal
    → SpellsOpbTerms (terms ++ t ∷ []) (words ++ number ∷ literal ∷ [])
terms_more [] t words number literal s one = (number, literal, [], ap (λ (ws : List (List ℕ)). ws ++ number ∷ literal ∷ []) s, one, refl)
terms_more (first ∷ terms) t words number literal s one =
    (s.0, s.1, s.2 ++ number ∷ literal ∷ [], ap (λ (ws : List (List ℕ)). ws ++ number ∷ literal ∷ []) s.3, s.4, terms_more terms t s.2 number literal s.5 one)

rows_more : (rows : List OpbConstraint) (row : OpbConstraint) (words more : List (List ℕ)) → SpellsRows rows words → SpellsRow row more → SpellsRows (rows ++ row ∷ []) (words ++ more)
rows_more [] row words more s one = (more, [], ap (λ (ws : List (List ℕ)). ws ++ more) s ∙ sym (append-nil more), one, refl)
rows_more (first ∷ rows) row words more s one =
    (s.0, s.1 ++ more, ap (λ (ws : List (List ℕ)). ws ++ more) s.2 ∙ append_assoc s.0 s.1 more, s.3, rows_more rows row s.1 more s.4 one)

-- ---- what the words so far spell

-- the words of what is whole, and then those of a constraint that was begun: its terms, and what stands behind them
pub record InRow (objective : Option (List OpbTerm)) (rows : List OpbConstraint) (terms : List OpbTerm) (tail words : List (List ℕ)) : Type 0 where
  pub objective_words : List (List ℕ)
  pub rows_words : List (List ℕ)
  pub terms_words : List (List ℕ)
  pub all_words : words ≡ objective_words ++ (rows_words ++ (terms_words ++ tail))
  pub objective_is : SpellsObjective objective objective_words
  pub rows_are : SpellsRows rows rows_words
  pub terms_are : SpellsOpbTerms terms terms_words

-- the words of an objective that was begun: its terms, and what stands behind them
pub record InGoal (rows : List OpbConstraint) (terms : List OpbTerm) (tail words : List (List ℕ)) : Type 0 where
  pub terms_words : List (List ℕ)
  pub no_rows : rows ≡ []
  pub all_words : words ≡ codes "min:" ∷ (terms_words ++ tail)
  pub terms_are : SpellsOpbTerms terms terms_words

-- nothing was read
pub record AtStart (objective : Option (List OpbTerm)) (rows : List OpbConstraint) (terms : List OpbTerm) (words : List (List ℕ)) : Type 0 where
  pub no_objective : objective ≡ None
  pub no_rows : rows ≡ []
  pub no_terms : terms ≡ []
  pub no_words : words ≡ []

-- these words lead to what was read
unfoldable pub ReachedAt : Stage → Option (List OpbTerm) → List OpbConstraint → List OpbTerm → List (List ℕ) → Type 0
ReachedAt Start o rows terms words = AtStart o rows terms words
ReachedAt (Term part.Goal) o rows terms words = InGoal rows terms [] words
ReachedAt (Term part.Row) o rows terms words = InRow o rows terms [] words
ReachedAt (Literal part.Goal factor) o rows terms words = (number : List ℕ) × (signed_number_of number ≡ Some factor) × InGoal rows terms (number ∷ []) words
ReachedAt (Literal part.Row factor) o rows terms words = (number : List ℕ) × (signed_number_of number ≡ Some factor) × InRow o rows terms (number ∷ []) words
ReachedAt (Right equal) o rows terms words = InRow o rows terms (relation_word equal ∷ []) words
ReachedAt (End equal right) o rows terms words =
    (number : List ℕ) × (signed_number_of number ≡ Some right) × InRow o rows terms (relation_word equal ∷ number ∷ []) words

abbrev pub Reached : Begun → List (List ℕ) → Type 0
Reached b words = ReachedAt b.stage b.objective b.rows b.terms words

-- ---- a word behind the others

pub behind_row : (o : Option (List OpbTerm)) (rows : List OpbConstraint) (terms : List OpbTerm) (tail words : List (List ℕ)) (word : List ℕ) → InRow o rows terms tail words → InRow o rows terms (tail ++ word ∷ []) (words ++ word ∷ [])
behind_row o rows terms tail words word r = record {
  objective_words = r.objective_words;
  rows_words = r.rows_words;
  terms_words = r.terms_words;
  objective_is = r.objective_is;
  rows_are = r.rows_are;
  terms_are = r.terms_are;
  all_words =
      ap (λ (ws : List (List ℕ)). ws ++ word ∷ []) r.all_words
      ∙ append_assoc r.objective_words (r.rows_words ++ (r.terms_words ++ tail)) (word ∷ [])
      ∙ ap (λ (ws : List (List ℕ)). r.objective_words ++ ws) (
      append_assoc r.rows_words (r.terms_words ++ tail) (word ∷ [])
      ∙ ap (λ (ws : List (List ℕ)). r.rows_words ++ ws) (append_assoc r.terms_words tail (word ∷ []))
      );
}

behind_goal : (rows : List OpbConstraint) (terms : List OpbTerm) (tail words : List (List ℕ)) (word : List ℕ) → InGoal rows terms tail words → InGoal rows terms (tail ++ word ∷ []) (words ++ word ∷ [])
behind_goal rows terms tail words word r = record {
  terms_words = r.terms_words;
  no_rows = r.no_rows;
  terms_are = r.terms_are;
  all_words =
      ap (λ (ws : List (List ℕ)). ws ++ word ∷ []) r.all_words
      ∙ ap (λ (ws : List (List ℕ)). codes "min:" ∷ ws) (append_assoc r.terms_words tail (word ∷ []));
}

-- nothing was read, and a constraint begins
pub row_begins : (o : Option (List OpbTerm)) (rows : List OpbConstraint) (terms : List OpbTerm) (words : List (List ℕ)) → AtStart o rows terms words → InRow o rows terms [] words
row_begins o rows terms words s = record {
  objective_words = [];
  rows_words = [];
  terms_words = [];
  all_words = s.no_words;
  objective_is = subst (λ (p : Option (List OpbTerm)). SpellsObjective p []) (sym s.no_objective) refl;
  rows_are = subst (λ (rs : List OpbConstraint). SpellsRows rs []) (sym s.no_rows) refl;
  terms_are = subst (λ (ts : List OpbTerm). SpellsOpbTerms ts []) (sym s.no_terms) refl;
}

-- a term is whole
pub row_term_ends : (o : Option (List OpbTerm)) (rows : List OpbConstraint) (terms : List OpbTerm) (t : OpbTerm) (words : List (List ℕ)) (number literal : List ℕ) → SpellsTerm t number literal
    → InRow o rows terms (number ∷ []) words → InRow o rows (terms ++ t ∷ []) [] (words ++ literal ∷ [])
unfolding behind_row
row_term_ends o rows terms t words number literal one r =
    let more = behind_row o rows terms (number ∷ []) words literal r in
    record {
      objective_words = r.objective_words;
      rows_words = r.rows_words;
      terms_words = r.terms_words ++ number ∷ literal ∷ [];
      all_words = more.all_words ∙ ap (λ (ws : List (List ℕ)). r.objective_words ++ (r.rows_words ++ ws)) (sym (append-nil (r.terms_words ++ number ∷ literal ∷ [])));
      objective_is = r.objective_is;
      rows_are = r.rows_are;
      terms_are = terms_more terms t r.terms_words number literal r.terms_are one;
    }

pub goal_term_ends : (rows : List OpbConstraint) (terms : List OpbTerm) (t : OpbTerm) (words : List (List ℕ)) (number literal : List ℕ) → SpellsTerm t number literal
    → InGoal rows terms (number ∷ []) words → InGoal rows (terms ++ t ∷ []) [] (words ++ literal ∷ [])
unfolding behind_goal
goal_term_ends rows terms t words number literal one r =
    let more = behind_goal rows terms (number ∷ []) words literal r in
    record {
      terms_words = r.terms_words ++ number ∷ literal ∷ [];
      no_rows = r.no_rows;
      all_words = more.all_words ∙ ap (λ (ws : List (List ℕ)). codes "min:" ∷ ws) (sym (append-nil (r.terms_words ++ number ∷ literal ∷ [])));
      terms_are = terms_more terms t r.terms_words number literal r.terms_are one;
    }

-- the objective is whole
pub goal_ends : (rows : List OpbConstraint) (terms : List OpbTerm) (words : List (List ℕ)) → InGoal rows terms [] words → InRow (Some terms) rows [] [] (words ++ end_word ∷ [])
unfolding behind_goal
goal_ends rows terms words r =
    let more = behind_goal rows terms [] words end_word r in
    record {
      objective_words = codes "min:" ∷ (r.terms_words ++ end_word ∷ []);
      rows_words = [];
      terms_words = [];
      all_words = more.all_words ∙ sym (append-nil (codes "min:" ∷ (r.terms_words ++ end_word ∷ [])));
      objective_is = (r.terms_words, refl, r.terms_are);
      rows_are = subst (λ (rs : List OpbConstraint). SpellsRows rs []) (sym r.no_rows) refl;
      terms_are = refl;
    }

-- a constraint is whole
pub row_ends : (o : Option (List OpbTerm)) (rows : List OpbConstraint) (terms : List OpbTerm) (equal : Bool) (right : ℤ) (words : List (List ℕ)) (number : List ℕ) → signed_number_of number ≡ Some right
    → InRow o rows terms (relation_word equal ∷ number ∷ []) words → InRow o (rows ++ record { terms = terms; equal = equal; right = right } ∷ []) [] [] (words ++ end_word ∷ [])
unfolding behind_row
row_ends o rows terms equal right words number e r =
    let more = behind_row o rows terms (relation_word equal ∷ number ∷ []) words end_word r in
    let row_words = r.terms_words ++ relation_word equal ∷ number ∷ end_word ∷ [] in
    record {
      objective_words = r.objective_words;
      rows_words = r.rows_words ++ row_words;
      terms_words = [];
      all_words = more.all_words ∙ ap (λ (ws : List (List ℕ)). r.objective_words ++ ws) (sym (append-nil (r.rows_words ++ row_words)));
      objective_is = r.objective_is;
      rows_are = rows_more rows (record { terms = terms; equal = equal; right = right }) r.rows_words row_words r.rows_are (record {
        terms_words = r.terms_words;
        right_word = number;
        all_words = refl;
        terms = r.terms_are;
        right = e;
      });
      terms_are = refl;
    }

-- ---- the next word

row_next_sign : (b next : Begun) (words : List (List ℕ)) (word : List ℕ) (r : Option Bool) → InRow b.objective b.rows b.terms [] words → relation_of word ≡ r → with_relation b r ≡ Some next
    → Reached next (words ++ word ∷ [])
unfolding ReachedAt
row_next_sign b next words word None s is e = no_some e
row_next_sign b next words word (Some equal) s is e =
    subst (λ (c : Begun). Reached c (words ++ word ∷ [])) (some_is e)
    (subst (λ (w : List ℕ). InRow b.objective b.rows b.terms (w ∷ []) (words ++ word ∷ [])) (relation_is word equal is) (behind_row b.objective b.rows b.terms [] words word s))

row_next : (b next : Begun) (words : List (List ℕ)) (word : List ℕ) (n : Option ℤ) → InRow b.objective b.rows b.terms [] words → signed_number_of word ≡ n → row_term b word n ≡ Some next
    → Reached next (words ++ word ∷ [])
unfolding ReachedAt
row_next b next words word None s is e = row_next_sign b next words word (relation_of word) s refl e
row_next b next words word (Some factor) s is e =
    subst (λ (c : Begun). Reached c (words ++ word ∷ [])) (some_is e)
    (word, is, behind_row b.objective b.rows b.terms [] words word s)

goal_next : (b next : Begun) (words : List (List ℕ)) (word : List ℕ) (n : Option ℤ) → InGoal b.rows b.terms [] words → signed_number_of word ≡ n → goal_term b word n ≡ Some next
    → Reached next (words ++ word ∷ [])
unfolding ReachedAt
goal_next b next words word (Some factor) s is e =
    subst (λ (c : Begun). Reached c (words ++ word ∷ [])) (some_is e)
    (word, is, behind_goal b.rows b.terms [] words word s)
goal_next b next words word None s is e = elim (bool_cases (is_end word)) [
  | inl end ↦
      let same : Some (with_objective b) ≡ Some next = sym (rw end refl) ∙ e in
      subst (λ (c : Begun). Reached c (words ++ word ∷ [])) (some_is same)
      (subst (λ (w : List ℕ). InRow (Some b.terms) b.rows [] [] (words ++ w ∷ [])) (sym (end_is word end)) (goal_ends b.rows b.terms words s))
  | inr isnt ↦ no_some (let same : None ≡ Some next = sym (rw isnt refl) ∙ e in same)
]

goal_begins : (b : Begun) (words : List (List ℕ)) (word : List ℕ) → AtStart b.objective b.rows b.terms words → is_goal word ≡ true → InGoal b.rows b.terms [] (words ++ word ∷ [])
goal_begins b words word s is = record {
  terms_words = [];
  no_rows = s.no_rows;
  all_words = ap (λ (ws : List (List ℕ)). ws ++ word ∷ []) s.no_words ∙ ap (λ (w : List ℕ). w ∷ []) (goal_is word is);
  terms_are = subst (λ (ts : List OpbTerm). SpellsOpbTerms ts []) (sym s.no_terms) refl;
}

next_at : (s : Stage) (b next : Begun) (words : List (List ℕ)) (word : List ℕ) → ReachedAt s b.objective b.rows b.terms words → opb_step_at s b word ≡ Some next → Reached next (words ++ word ∷ [])
unfolding opb_step_at ReachedAt
next_at Start b next words word s e = elim (bool_cases (is_goal word)) [
  | inl is ↦
      let same : Some (then_comes (Term part.Goal) b) ≡ Some next = sym (rw is refl) ∙ e in
      subst (λ (c : Begun). Reached c (words ++ word ∷ [])) (some_is same) (goal_begins b words word s is)
  | inr isnt ↦
      let same : row_term b word (signed_number_of word) ≡ Some next = sym (rw isnt refl) ∙ e in
      row_next b next words word (signed_number_of word) (row_begins b.objective b.rows b.terms words s) refl same
]
next_at (Term part.Goal) b next words word s e = goal_next b next words word (signed_number_of word) s refl e
next_at (Term part.Row) b next words word s e = row_next b next words word (signed_number_of word) s refl e
next_at (Literal part.Goal factor) b next words word s e =
    let r = map_is (with_term part.Goal factor b) (opb_literal_of word) next e in
    subst (λ (c : Begun). Reached c (words ++ word ∷ [])) r.2
    (goal_term_ends b.rows b.terms (record { factor = factor; negated = r.0.0; var = r.0.1 }) words s.0 word (record { factor = s.1; literal = r.1 }) s.2)
next_at (Literal part.Row factor) b next words word s e =
    let r = map_is (with_term part.Row factor b) (opb_literal_of word) next e in
    subst (λ (c : Begun). Reached c (words ++ word ∷ [])) r.2
    (row_term_ends b.objective b.rows b.terms (record { factor = factor; negated = r.0.0; var = r.0.1 }) words s.0 word (record { factor = s.1; literal = r.1 }) s.2)
next_at (Right equal) b next words word s e =
    let r = map_is (λ right. then_comes (End equal right) b) (signed_number_of word) next e in
    subst (λ (c : Begun). Reached c (words ++ word ∷ [])) r.2
    (word, r.1, behind_row b.objective b.rows b.terms (relation_word equal ∷ []) words word s)
next_at (End equal right) b next words word s e = elim (bool_cases (is_end word)) [
  | inl end ↦
      let same : Some (with_row equal right b) ≡ Some next = sym (rw end refl) ∙ e in
      subst (λ (c : Begun). Reached c (words ++ word ∷ [])) (some_is same)
      (subst (λ (w : List ℕ). InRow b.objective (b.rows ++ record { terms = b.terms; equal = equal; right = right } ∷ []) [] [] (words ++ w ∷ [])) (sym (end_is word end))
      (row_ends b.objective b.rows b.terms equal right words s.0 s.1 s.2))
  | inr isnt ↦ no_some (let same : None ≡ Some next = sym (rw isnt refl) ∙ e in same)
]

-- ---- all words

then_reached : (o : Option Begun) (last : Begun) (words : List (List ℕ)) (word : List ℕ) (later : List (List ℕ)) → ((next : Begun) → o ≡ Some next → Reached next (words ++ word ∷ []))
    → ((next : Begun) → Reached next (words ++ word ∷ []) → follow next later ≡ Some last → Reached last ((words ++ word ∷ []) ++ later))
    → option_and_then (λ next. follow next later) o ≡ Some last → Reached last (words ++ word ∷ later)
then_reached None last words word later here rest e = no_some e
then_reached (Some next) last words word later here rest e =
    subst (Reached last) (append_assoc words (word ∷ []) later) (rest next (here next refl) e)

reached_later : (later words : List (List ℕ)) (b last : Begun) → Reached b words → follow b later ≡ Some last → Reached last (words ++ later)
unfolding follow
reached_later [] words b last s e = subst (Reached last) (sym (append-nil words)) (subst (λ (c : Begun). Reached c words) (some_is e) s)
reached_later (word ∷ later) words b last s e =
    then_reached (opb_step b word) last words word later (λ next is. next_at b.stage b next words word s is) (λ next r f. reached_later later (words ++ word ∷ []) next last r f) e

-- what words make of nothing is spelled by them
pub reached : (words : List (List ℕ)) (last : Begun) → follow start words ≡ Some last → Reached last words
unfolding ReachedAt
reached words last e = reached_later words [] start last (record { no_objective = refl; no_rows = refl; no_terms = refl; no_words = refl }) e

-- ---- where a text may end

no_terms : (terms : List OpbTerm) → has_none terms ≡ true → terms ≡ []
no_terms [] e = refl
no_terms (t ∷ terms) e = absurd cc

no_words_of : (terms : List OpbTerm) (words : List (List ℕ)) → terms ≡ [] → SpellsOpbTerms terms words → words ≡ []
no_words_of terms words e s = subst (λ (ts : List OpbTerm). SpellsOpbTerms ts words → words ≡ []) (sym e) (λ is. is) s

pub whole_rows : (o : Option (List OpbTerm)) (rows : List OpbConstraint) (terms : List OpbTerm) (words : List (List ℕ)) → InRow o rows terms [] words → terms ≡ [] → SpellsContent (record { objective = o; rows = rows }) words
whole_rows o rows terms words r none = record {
  objective_words = r.objective_words;
  rows_words = r.rows_words;
  all_words = r.all_words ∙ ap (λ (ws : List (List ℕ)). r.objective_words ++ (r.rows_words ++ (ws ++ []))) (no_words_of terms r.terms_words none r.terms_are)
      ∙ ap (λ (ws : List (List ℕ)). r.objective_words ++ ws) (append-nil r.rows_words);
  objective = r.objective_is;
  rows = r.rows_are;
}

done_at : (s : Stage) (o : Option (List OpbTerm)) (rows : List OpbConstraint) (terms : List OpbTerm) (words : List (List ℕ)) → ReachedAt s o rows terms words → may_end s terms ≡ true → SpellsContent (record { objective = o; rows = rows }) words
unfolding may_end ReachedAt
done_at Start o rows terms words s e = whole_rows o rows terms words (row_begins o rows terms words s) s.no_terms
done_at (Term part.Goal) o rows terms words s e = absurd cc
done_at (Term part.Row) o rows terms words s e = whole_rows o rows terms words s (no_terms terms e)
done_at (Literal p factor) o rows terms words s e = absurd cc
done_at (Right equal) o rows terms words s e = absurd cc
done_at (End equal right) o rows terms words s e = absurd cc

-- where a text may end, its words spell what was read
pub done_spells : (b : Begun) (words : List (List ℕ)) → follow start words ≡ Some b → is_done b ≡ true → SpellsContent (content_of b) words
done_spells b words e done = done_at b.stage b.objective b.rows b.terms words (reached words b e) done
