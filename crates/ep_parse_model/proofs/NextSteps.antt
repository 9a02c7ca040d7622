-- What is next, as the functions over the tokens tell it.
use Rattle.std.specs.Prelude.{◌≡◌, ℕ, Bool, true, false, List, [], ◌∷◌, length, Option, Some, None, refl}
use Rattle.std.proofs.Common.{ap, sym, ◌∙◌}
use Rattle.ep_base.specs.declared.names.Name.{Name}
use Rattle.ep_base.specs.declared.places.Place.{Place}
use Rattle.ep_base.specs.Tokens.{place_at}
use Rattle.ep_parse_parts.specs.Cursors.{StopsReading, none_left}
use Rattle.ep_parse_model.specs.Answers.{place_left}
use Rattle.ep_parse_parts.specs.DomainReaders.{place_next}
use Rattle.ep_parse_parts.specs.declared.cursor.Stop.{Stop}
use Rattle.ep_parse_parts.specs.Readers.{Read, behind, either_reader, if_some, looked_up, meant_by, name_from, name_in, next_in, took, wrong, ◌and_then◌}
use Rattle.ep_parse_parts.specs.Sayings.{word_next, word_of}
use Rattle.ep_parse_model.proofs.CommaTurns.{stops_all, stops_so}
use Rattle.ep_parse_model.specs.TextReaders.{allowed_statement_from, allows, full, placed_name_from, placed_name_in, statement_behind, statement_words}
use Rattle.ep_parse_model.specs.declared.openings.Allowed.{Allowed}
use Rattle.ep_parse_model.specs.declared.openings.Opening.{Opening}
use Rattle.ep_tree.specs.Phrases.{Lexeme, Saying, a_name, a_number, a_word}

placed_in : (l : Lexeme) (s : Saying) (ls : List Lexeme) → (name_in l s ls and_then λ x rest. took (x, l.place) rest) ≡ placed_name_in l s ls
unfolding name_in placed_name_in
placed_in l (a_name x) ls = refl
placed_in l (a_number n) ls = refl
placed_in l (a_word w) ls = refl

placed_is : (ls : List Lexeme) → (name_from ls and_then λ x rest. took (x, place_next ls) rest) ≡ placed_name_from ls
unfolding name_from placed_name_from
placed_is [] = refl
placed_is (l ∷ ls) = placed_in l l.saying ls

pub placed_fails : (ls new : List Lexeme) (e : Stop) → StopsReading e new (name_from ls) → StopsReading e new (placed_name_from ls)
placed_fails ls new e h = stops_so e new _ (placed_name_from ls) (placed_is ls) (stops_all e new (name_from ls) (λ x rest. took (x, place_next ls) rest) h)

pub placed_reads : (ls new : List Lexeme) (x y : Name) (p : Place) → name_from ls ≡ took x new → y ≡ x → p ≡ place_next ls → placed_name_from ls ≡ took (y, p) new
placed_reads ls new x y p h same at =
    sym (placed_is ls) ∙ ap (λ (r : Read Name). r and_then λ z rest. took (z, place_next ls) rest) h ∙ ap (λ z. took (z, place_next ls) new) (sym same) ∙ ap (λ q. took (y, q) new) (sym at)

meant : {A : Type 0} (words : List (List ℕ × A)) (s : Saying) (w : List ℕ) → word_of s ≡ Some w → meant_by words s ≡ looked_up words w
meant words (a_word v) w h = ap (looked_up words) (ap (λ o. or_this o) h)
  where
    or_this : Option (List ℕ) → List ℕ
    or_this None = w
    or_this (Some z) = z
meant words (a_name x) w h = absurd cc
meant words (a_number n) w h = absurd cc

meant_none : {A : Type 0} (words : List (List ℕ × A)) (s : Saying) → word_of s ≡ None → meant_by words s ≡ None
meant_none words (a_word v) h = absurd cc
meant_none words (a_name x) h = refl
meant_none words (a_number n) h = refl

pub next_is : {A : Type 0} (words : List (List ℕ × A)) (ls : List Lexeme) (w : List ℕ) → word_next ls ≡ Some w → next_in words ls ≡ looked_up words w
unfolding next_in word_next
next_is words [] w h = absurd cc
next_is words (l ∷ ls) w h = meant words l.saying w h

pub next_is_none : {A : Type 0} (words : List (List ℕ × A)) (ls : List Lexeme) → word_next ls ≡ None → next_in words ls ≡ None
unfolding next_in word_next
next_is_none words [] h = refl
next_is_none words (l ∷ ls) h = meant_none words l.saying h

-- ---- statements

-- no word of a statement is next
pub no_word : (allowed : Allowed) (ls : List Lexeme) → next_in statement_words ls ≡ None → allowed_statement_from full allowed ls ≡ wrong ls
unfolding allowed_statement_from
no_word allowed ls h =
    ap (λ o. if_some o (λ what. either_reader (allows allowed what) (λ all. statement_behind full (place_next all) what (behind all)) (λ all. wrong all) ls) (wrong ls)) h

with_word : (allowed : Allowed) (ls : List Lexeme) (what : Opening) (may : Bool) → next_in statement_words ls ≡ Some what → allows allowed what ≡ may
    → allowed_statement_from full allowed ls ≡ either_reader may (λ all. statement_behind full (place_next all) what (behind all)) (λ all. wrong all) ls
unfolding allowed_statement_from
with_word allowed ls what may h k =
    ap (λ o. if_some o (λ what. either_reader (allows allowed what) (λ all. statement_behind full (place_next all) what (behind all)) (λ all. wrong all) ls) (wrong ls)) h
    ∙ ap (λ b. either_reader b (λ all. statement_behind full (place_next all) what (behind all)) (λ all. wrong all) ls) k

-- the statement that the next word begins may not come
pub may_not : (allowed : Allowed) (ls : List Lexeme) (what : Opening) → next_in statement_words ls ≡ Some what → allows allowed what ≡ false → allowed_statement_from full allowed ls ≡ wrong ls
may_not allowed ls what h k = with_word allowed ls what false h k

-- it may come
pub may_come : (allowed : Allowed) (ls rest : List Lexeme) (what : Opening) (p : Place) → next_in statement_words ls ≡ Some what → allows allowed what ≡ true → p ≡ place_next ls → rest ≡ behind ls
    → allowed_statement_from full allowed ls ≡ statement_behind full p what rest
may_come allowed ls rest what p h k at is =
    with_word allowed ls what true h k ∙ ap (λ q. statement_behind full q what (behind ls)) (sym at) ∙ ap (λ r. statement_behind full p what r) (sym is)

-- ---- places

-- the place of the end, where no token is left
pub place_at_end : (text : List ℕ) (ls : List Lexeme) (p : Place) → none_left ls ≡ true → p ≡ place_at text (length text) → p ≡ place_left text ls
place_at_end text [] p none is = is
place_at_end text (l ∷ ls) p none is = let wrong_way : false ≡ true = none in absurd cc

-- and else that of the next
pub place_of_next : (text : List ℕ) (ls : List Lexeme) (p : Place) → none_left ls ≡ false → p ≡ place_next ls → p ≡ place_left text ls
place_of_next text [] p some is = let wrong_way : true ≡ false = some in absurd cc
place_of_next text (l ∷ ls) p some is = is
