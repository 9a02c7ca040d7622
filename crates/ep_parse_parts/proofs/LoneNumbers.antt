-- A number before a word with which no expression goes on is what is read at each level.
use Rattle.std.specs.List.{list_any}
use Rattle.std.specs.Option.{option_copied}
use Rattle.std.specs.Prelude.{◌≡◌, ◌≤◌, ◌||◌, ℕ, ℤ, Bool, true, false, nat_le, List, [], ◌∷◌, Option, Some, None, bytes_eq, codes, refl}
use Rattle.std.proofs.Common.{Bor, ap, sym, subst, ◌∙◌}
use Rattle.std.proofs.lemmas.Slice.Eq.{bytes_eq-Decides}
use Rattle.ep_base.specs.declared.places.Place.{Place}
use Rattle.ep_parse_parts.proofs.Again.{Ends, NoImplications, lexeme}
use Rattle.ep_parse_parts.proofs.AgainAll.{all_complete}
use Rattle.ep_parse_parts.proofs.AgainPhrases.{Closes, bracket_closes, comma_closes, group_closes, semicolon_closes, span_closes}
use Rattle.ep_parse_parts.proofs.Finding.{finds_shown}
use Rattle.ep_parse_parts.specs.DomainReaders.{place_next}
use Rattle.ep_parse_parts.specs.Founds.{Shows}
use Rattle.ep_parse_parts.specs.LoneNumbers.{TakesAtOnce, closers}
use Rattle.ep_parse_parts.specs.Openings.{level_of}
use Rattle.ep_parse_parts.specs.Readers.{behind, took}
use Rattle.ep_parse_parts.specs.Sayings.{said_number_next, said_number, word_next, word_of}
use Rattle.ep_parse_parts.specs.TreeReaders.{expr_from}
use Rattle.ep_parse_parts.specs.declared.found.Found.{Found}
use Rattle.ep_parse_parts.specs.declared.words.Level.{Level}
use Rattle.ep_parse_parts.specs.declared.words.Level.TheVariants as level
use Rattle.ep_tree.specs.Heights.{height}
use Rattle.ep_tree.specs.Phrases.{Lexeme, Saying, a_name, a_number, a_word}
use Rattle.ep_tree.specs.Spelling.{SpellsNode, own_level, primaries, rank, unaries}
use Rattle.ep_tree.specs.Trees.{number, place_of}

-- ---- what tokens say

says_that_number : (s : Saying) (n : ℤ) → said_number s ≡ Some n → s ≡ a_number n
says_that_number (a_name x) n e = absurd cc
says_that_number (a_number m) n e = ap (λ o. a_number (or_this o)) e
  where
    or_this : Option ℤ → ℤ
    or_this (Some z) = z
    or_this None = m
says_that_number (a_word w) n e = absurd cc

said_word : (s : Saying) (w : List ℕ) → word_of s ≡ Some w → s ≡ a_word w
said_word (a_name x) w e = absurd cc
said_word (a_number m) w e = absurd cc
said_word (a_word v) w e = ap (λ o. a_word (or_this o)) e
  where
    or_this : Option (List ℕ) → List ℕ
    or_this (Some z) = z
    or_this None = v

closes_as : (w v : List ℕ) → Closes v → bytes_eq w v ≡ true → Closes w
closes_as w v c e = subst (λ u. Closes u) (sym ((bytes_eq-Decides w v).0 e)) c

closer : (w : List ℕ) → list_any (bytes_eq w) closers ≡ true → Closes w
closer w e = go (bytes_eq w (codes ",")) (bytes_eq w (codes "]")) (bytes_eq w (codes ";")) (bytes_eq w (codes "..")) (bytes_eq w (codes ")")) refl refl refl refl refl e
  where
    go : (a b c d f : Bool) → bytes_eq w (codes ",") ≡ a → bytes_eq w (codes "]") ≡ b → bytes_eq w (codes ";") ≡ c → bytes_eq w (codes "..") ≡ d → bytes_eq w (codes ")") ≡ f
        → (a || (b || (c || (d || (f || false))))) ≡ true → Closes w
    go true b c d f p q r s t e = closes_as w (codes ",") comma_closes p
    go false true c d f p q r s t e = closes_as w (codes "]") bracket_closes q
    go false false true d f p q r s t e = closes_as w (codes ";") semicolon_closes r
    go false false false true f p q r s t e = closes_as w (codes "..") span_closes s
    go false false false false true p q r s t e = closes_as w (codes ")") group_closes t
    go false false false false false p q r s t e = let no : false ≡ true = e in absurd cc

-- ---- levels

no_tighter : (level : Level) → nat_le (rank (level_of level)) (rank unaries) ≡ true
unfolding rank
no_tighter level.Implications = refl
no_tighter level.Disjunctions = refl
no_tighter level.Conjunctions = refl
no_tighter level.Comparisons = refl
no_tighter level.Sums = refl
no_tighter level.Products = refl
no_tighter level.Powers = refl
no_tighter level.Unaries = refl

stands : (level : Level) → nat_le (rank (level_of level)) (rank primaries) ≡ true
unfolding rank
stands level.Implications = refl
stands level.Disjunctions = refl
stands level.Conjunctions = refl
stands level.Comparisons = refl
stands level.Sums = refl
stands level.Products = refl
stands level.Powers = refl
stands level.Unaries = refl

ends_each : (level : Level) (ls : List Lexeme) → NoImplications ls → Ends (level_of level) ls
ends_each level.Implications ls e = e
ends_each level.Disjunctions ls e = e.tighter
ends_each level.Conjunctions ls e = e.tighter.tighter
ends_each level.Comparisons ls e = e.tighter.tighter.tighter
ends_each level.Sums ls e = e.tighter.tighter.tighter.tighter
ends_each level.Products ls e = e.tighter.tighter.tighter.tighter.tighter
ends_each level.Powers ls e = e.tighter.tighter.tighter.tighter.tighter.tighter
ends_each level.Unaries ls e = e.tighter.tighter.tighter.tighter.tighter.tighter.tighter

-- ---- what is read

-- The height of a number is one, so one that is allowed is enough.
lone : (most : ℕ) (level : Level) (p : Place) (n : ℤ) (ls : List Lexeme) → 1 ≤ most → NoImplications ls → expr_from most (level_of level) (lexeme p (a_number n) ∷ ls) ≡ took (number p n) ls
unfolding SpellsNode own_level rank place_of height
lone most level p n ls some ends =
    (all_complete most).expr (level_of level) (no_tighter level) (number p n) (lexeme p (a_number n) ∷ []) ls (stands level, (refl, (p, refl))) some
    (record { ends = ends_each level ls ends; open_ends = λ _. ends })

-- a number by what is next, and a word that is next behind it
lone_next : (most : ℕ) (level : Level) (n : ℤ) (w : List ℕ) (ls : List Lexeme) → 1 ≤ most → said_number_next ls ≡ Some n → word_next (behind ls) ≡ Some w → Closes w
    → expr_from most (level_of level) ls ≡ took (number (place_next ls) n) (behind ls)
unfolding said_number_next word_next
lone_next most level n w [] some is next closes = absurd cc
lone_next most level n w (l ∷ []) some is next closes = absurd cc
lone_next most level n w (l ∷ t ∷ ls) some is next closes =
    let ends : NoImplications (t ∷ ls) = subst (λ (s : Saying). NoImplications (lexeme t.place s ∷ ls)) (sym (said_word t.saying w next)) (closes.expr t.place ls) in
    ap (λ (s : Saying). expr_from most (level_of level) (lexeme l.place s ∷ t ∷ ls)) (says_that_number l.saying n is) ∙ lone most level l.place n (t ∷ ls) some ends

-- what is taken where a number and such a word behind it were seen
pub taken : (found : Found) (n : ℤ) (word : Option (Bor (List ℕ))) (w : Bor (List ℕ)) (p : Place) (old ahead new : List Lexeme) → said_number_next old ≡ Some n → ahead ≡ behind old
    → option_copied word ≡ word_next ahead → word ≡ Some w → list_any (bytes_eq w.now) closers ≡ true → p ≡ place_next old → new ≡ behind old → Shows found (number p n) → TakesAtOnce (Some found) old new
taken found n word w p old ahead new is passed seen some closes at left shows =
    λ most level h.
    finds_shown found (number p n) new (expr_from most (level_of level) old) shows
    (lone_next most level n w.now old h is (ap word_next (sym passed) ∙ sym seen ∙ ap option_copied some) (closer w.now closes)
    ∙ ap (λ q. took (number q n) (behind old)) (sym at) ∙ ap (λ ls. took (number p n) ls) (sym left))
