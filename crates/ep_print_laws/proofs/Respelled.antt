-- Words that spell a phrase again: whatever tokens say them, something like what was spelled is spelled.
use Rattle.std.proofs.Common.{◌≡◌, Bool, true, List, [], ◌∷◌, ◌++◌, ℤ, pos, codes, refl, sym, ap, ap₂, subst, ◌∙◌}
use Rattle.std.specs.Fmt.{signed_decimal}
use Rattle.std.specs.List.{list_all}
use Rattle.std.proofs.lemmas.Bool.{and_from}
use Rattle.std.proofs.lemmas.List.Folds.{list_all-append}
use Prim.Native.String.{String}
use Rattle.ep_base.specs.declared.names.Name.{Name}
use Rattle.ep_tree.specs.Phrases.{Is, Lexeme, Nothing, Phrase, Says, Saying, Silence, When, a_name, a_number, a_word, ◌followed_by◌}
use Rattle.ep_print.specs.Words.{Words, word}
use Rattle.ep_print_laws.proofs.Said.{AreSaid, CanSay, is_written, name_says, name_written, numbered, said_parts}
use Rattle.ep_print_laws.proofs.Scanned.{sayings, word_saying, word_sayings}

-- The words stand in a printed text, and whatever tokens say them spell something by one of these phrases.
pub record Respelled {X : Type 0} (Q : X → Phrase) (ws : Words) : Type 0 where
  pub written : list_all is_written ws ≡ true
  pub said : (ts : List Lexeme) → sayings ts ≡ word_sayings ws → (x : X) × Q x ts

-- What tokens of a text spell by a phrase is spelled again by the words.
pub record Again (P : Phrase) {X : Type 0} (Q : X → Phrase) (ws : Words) : Type 0 where
  pub again : (tokens : List Lexeme) → AreSaid tokens → P tokens → Respelled Q ws

-- a tree that is the same as another once both are cleared of their places
pub record Twin {T : Type 0} (clear : T → T) (t : T) : Type 0 where
  pub tree : T
  pub same : clear tree ≡ clear t

-- ---- cutting what is said

abbrev others_of : List Saying → List Saying
others_of [] = []
others_of (s ∷ ss) = ss

abbrev first_of : Saying → List Saying → Saying
first_of d [] = d
first_of d (s ∷ ss) = s

record Cut (ts : List Lexeme) (a b : Words) : Type 0 where
  front : List Lexeme
  back : List Lexeme
  parts : ts ≡ front ++ back
  first : sayings front ≡ word_sayings a
  second : sayings back ≡ word_sayings b

cut : (a b : Words) (ts : List Lexeme) → sayings ts ≡ word_sayings (a ++ b) → Cut ts a b
cut [] b ts e = record { front = []; back = ts; parts = refl; first = refl; second = e }
cut (w ∷ a) b [] e = absurd cc
cut (w ∷ a) b (t ∷ ts) e =
    let c = cut a b ts (ap others_of e) in
    record {
      front = t ∷ c.front;
      back = c.back;
      parts = ap (λ x. t ∷ x) c.parts;
      first = ap₂ (λ s ss. s ∷ ss) (ap (first_of t.saying) e) c.first;
      second = c.second;
    }

-- ---- what is spelled by words

pub respelled_as : {X Y : Type 0} {Q : X → Phrase} {R : Y → Phrase} {ws : Words} → Respelled Q ws → (f : X → Y) → ((x : X) (ts : List Lexeme) → Q x ts → R (f x) ts) → Respelled R ws
respelled_as r f goes = record { written = r.written; said = λ ts e. let x = r.said ts e in (f x.0, goes x.0 ts x.1) }

pub respelled_words : {X : Type 0} (Q : X → Phrase) {v w : Words} → v ≡ w → Respelled Q v → Respelled Q w
respelled_words Q e r = subst (λ (ws : Words). Respelled Q ws) e r

pub respelled_then : {X Y : Type 0} {Q : X → Phrase} {R : Y → Phrase} {v w : Words} → Respelled Q v → Respelled R w → Respelled (λ (x : X × Y). Q x.0 followed_by R x.1) (v ++ w)
respelled_then {v = v} {w = w} one other = record {
  written = list_all-append is_written v w ∙ and_from _ _ one.written other.written;
  said = λ ts e.
      let c = cut v w ts e in
      let x = one.said c.front c.first in
      let y = other.said c.back c.second in
      ((x.0, y.0), (c.front, c.back, c.parts, x.1, y.1));
}

pub respelled_none : Respelled (λ (u : Unit {0}). Silence) []
respelled_none = record { written = refl; said = all }
  where
    all : (ts : List Lexeme) → sayings ts ≡ word_sayings [] → (u : Unit {0}) × Silence ts
    all [] e = (tt, refl)
    all (t ∷ ts) e = absurd cc

pub respelled_is : (s : Saying) (w : List _) → is_written w ≡ true → word_saying w ≡ s → Respelled (λ (u : Unit {0}). Is s) (w ∷ [])
respelled_is s w written says = record { written = and_from _ _ written refl; said = all }
  where
    all : (ts : List Lexeme) → sayings ts ≡ word_sayings (w ∷ []) → (u : Unit {0}) × Is s ts
    all [] e = absurd cc
    all (t ∷ []) e = (tt, (t.place, ap (λ x. record { place = t.place; saying = x } ∷ []) (ap (first_of t.saying) e ∙ says)))
    all (t ∷ u ∷ ts) e = let f = ap others_of e in absurd cc

-- a word of the language that a printed text may have
pub record IsLiteral (w : String) : Type 0 where
  pub written : is_written (codes w) ≡ true
  pub says : word_saying (codes w) ≡ a_word (codes w)

pub respelled_word : (w : String) → IsLiteral w → Respelled (λ (u : Unit {0}). Says w) (word w)
respelled_word w is = respelled_is (a_word (codes w)) (codes w) is.written is.says

-- ---- what tokens spelled before

pub again_as : {P : Phrase} {X Y : Type 0} {Q : X → Phrase} {R : Y → Phrase} {ws : Words} → Again P Q ws → (f : X → Y) → ((x : X) (ts : List Lexeme) → Q x ts → R (f x) ts) → Again P R ws
again_as a f goes = record { again = λ tokens said h. respelled_as (a.again tokens said h) f goes }

pub again_words : {P : Phrase} {X : Type 0} {Q : X → Phrase} {v w : Words} → v ≡ w → Again P Q v → Again P Q w
again_words {Q = Q} e a = record { again = λ tokens said h. respelled_words Q e (a.again tokens said h) }

pub again_then : {P P' : Phrase} {X Y : Type 0} {Q : X → Phrase} {R : Y → Phrase} {v w : Words} → Again P Q v → Again P' R w
    → Again (P followed_by P') (λ (x : X × Y). Q x.0 followed_by R x.1) (v ++ w)
again_then a b = record {
  again = λ tokens said h.
      let both = said_parts h.0 h.1 (subst AreSaid h.2 said) in
      respelled_then (a.again h.0 both.0 h.3) (b.again h.1 both.1 h.4);
}

-- what is spelled whatever was spelled before
pub always : {P : Phrase} {X : Type 0} {Q : X → Phrase} {ws : Words} → Respelled Q ws → Again P Q ws
always r = record { again = λ tokens said h. r }

pub again_nothing : {X : Type 0} {Q : X → Phrase} {ws : Words} → Again Nothing Q ws
again_nothing = record { again = λ tokens said h. absurd h }

pub again_none : Again Silence (λ (u : Unit {0}). Silence) []
again_none = always respelled_none

pub again_word : (w : String) → IsLiteral w → Again (Says w) (λ (u : Unit {0}). Says w) (word w)
again_word w is = always (respelled_word w is)

pub again_when : (c : Bool) {P : Phrase} {X : Type 0} {Q : X → Phrase} {ws : Words} → Again P Q ws → (d : X → Bool) → ((x : X) → d x ≡ c) → Again (When c P) (λ (x : X). When (d x) (Q x)) ws
again_when c {Q = Q} a d same = record {
  again = λ tokens said h. respelled_as (a.again tokens said h.1) (λ x. x) (λ x ts q. (same x ∙ h.0, q));
}

of_said : (s : Saying) (tokens : List Lexeme) → AreSaid tokens → Is s tokens → CanSay s
of_said s tokens said is = let one : AreSaid (record { place = is.0; saying = s } ∷ []) = subst AreSaid is.1 said in one.0

pub again_name : (x : Name) → Again (Is (a_name x)) (λ (u : Unit {0}). Is (a_name x)) (x ∷ [])
again_name x = record {
  again = λ tokens said is.
      let can = of_said (a_name x) tokens said is in
      respelled_is (a_name x) x (name_written x can.1) (name_says x can.0 can.1);
}

pub again_number : (z : ℤ) → Again (Is (a_number z)) (λ (u : Unit {0}). Is (a_number z)) (signed_decimal z ∷ [])
again_number z = record {
  again = λ tokens said is.
      let can = of_said (a_number z) tokens said is in
      let number = numbered can.0 can.2 in
      subst (λ (y : ℤ). Respelled (λ (u : Unit {0}). Is (a_number y)) (signed_decimal y ∷ [])) (sym can.1)
      (respelled_is (a_number (pos can.0)) (signed_decimal (pos can.0)) number.written number.says);
}
