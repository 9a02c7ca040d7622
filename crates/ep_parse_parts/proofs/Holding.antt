-- What holds of whatever a reader takes, and how this is shown of readers that are made of others.
use Rattle.std.specs.Prelude.{◌≡◌, ℕ, zero, suc, Bool, true, false, List, [], ◌∷◌, ◌++◌, Option, Some, None, bytes_eq, refl}
use Rattle.std.proofs.Common.{ap, sym, subst, ◌∙◌, append_assoc}
use Rattle.std.proofs.lemmas.Slice.Eq.{bytes_eq-Decides}
use Rattle.ep_base.specs.declared.places.Place.{Place}
use Rattle.ep_tree.specs.Phrases.{Is, Lexeme, Phrase, Saying, Silence, StartsAt, a_name, a_number, a_word, ◌followed_by◌}
use Rattle.ep_parse_parts.specs.OperandReaders.{if_low}
use Rattle.ep_parse_parts.specs.OperatorReaders.{only_if, operated}
use Rattle.ep_parse_parts.specs.Readers.{Read, Reader, behind, either_reader, found_or, going_on, grown_from, growing, high, if_some, says_word, looked_up, meant_by, more_from, next_in, says, took, word_from, wrong, ◌and_then◌}

-- something holds of what is taken and of the tokens behind it
pub record Holds {A : Type 0} (Q : A → List Lexeme → Type 0) (r : Read A) : Type 0 where
  pub holds : (x : A) (ls : List Lexeme) → r ≡ took x ls → Q x ls

got : {A : Type 0} → A → Read A → A
got d (took x ls) = x
got d (wrong ls) = d
got d (high ls) = d

rest_of : {A : Type 0} → Read A → List Lexeme
rest_of (took x ls) = ls
rest_of (wrong ls) = ls
rest_of (high ls) = ls

pub holds_took : {A : Type 0} (Q : A → List Lexeme → Type 0) (x : A) (ls : List Lexeme) → Q x ls → Holds Q (took x ls)
unfolding got rest_of
holds_took Q x ls q =
    record { holds = λ y ks e. subst (λ k. Q y k) (ap rest_of e) (subst (λ z. Q z ls) (ap (got x) e) q) }

pub holds_wrong : {A : Type 0} (Q : A → List Lexeme → Type 0) (ls : List Lexeme) → Holds Q (wrong ls)
holds_wrong Q ls = record { holds = λ x ks e. absurd cc }

pub holds_high : {A : Type 0} (Q : A → List Lexeme → Type 0) (ls : List Lexeme) → Holds Q (high ls)
holds_high Q ls = record { holds = λ x ks e. absurd cc }

pub holds_then : {A B : Type 0} (Q : A → List Lexeme → Type 0) (R : B → List Lexeme → Type 0) (r : Read A) (f : A → Reader B)
    → Holds Q r → ((x : A) (ls : List Lexeme) → Q x ls → Holds R (f x ls)) → Holds R (r and_then f)
holds_then Q R (took x ls) f h k = k x ls (h.holds x ls refl)
holds_then Q R (wrong ls) f h k = holds_wrong R ls
holds_then Q R (high ls) f h k = holds_high R ls

pub holds_chosen : {A : Type 0} (Q : A → List Lexeme → Type 0) (b : Bool) (one other : Reader A) (ls : List Lexeme)
    → (b ≡ true → Holds Q (one ls)) → (b ≡ false → Holds Q (other ls)) → Holds Q (either_reader b one other ls)
holds_chosen Q true one other ls h k = h refl
holds_chosen Q false one other ls h k = k refl

pub holds_low : {A : Type 0} (Q : A → List Lexeme → Type 0) (b : Bool) (reader : Reader A) (ls : List Lexeme)
    → (b ≡ true → Holds Q (reader ls)) → Holds Q (if_low b reader ls)
holds_low Q true reader ls h = h refl
holds_low Q false reader ls h = holds_high Q ls

pub holds_as : {A : Type 0} (Q R : A → List Lexeme → Type 0) (r : Read A) → Holds Q r → ((x : A) (ls : List Lexeme) → Q x ls → R x ls) → Holds R r
holds_as Q R r h k = record { holds = λ x ls e. k x ls (h.holds x ls e) }

-- ---- lists and chains

module _ {A : Type 0} (goes_on : A → List Lexeme → Option (List Lexeme)) (item : A → Reader A) (R : A → List Lexeme → List A → List Lexeme → Type 0)
    (nil : (last : A) (ls : List Lexeme) → R last ls [] ls)
    (cons : (last : A) (ls next : List Lexeme) → goes_on last ls ≡ Some next
    → Holds (λ x rest. (xs : List A) (end : List Lexeme) → R x rest xs end → R last ls (x ∷ xs) end) (item last next)) where
  step : (n : ℕ) → ((last : A) (ls : List Lexeme) → Holds (R last ls) (more_from goes_on item n last ls))
      → (last : A) (ls : List Lexeme) (o : Option (List Lexeme)) → goes_on last ls ≡ o
      → Holds (R last ls) (going_on o ls (λ next. item last next and_then λ x rest. more_from goes_on item n x rest and_then λ xs end. took (x ∷ xs) end))
  step n ih last ls None e = holds_took (R last ls) [] ls (nil last ls)
  step n ih last ls (Some next) e =
      holds_then (λ x rest. (xs : List A) (end : List Lexeme) → R x rest xs end → R last ls (x ∷ xs) end) (R last ls) (item last next)
      (λ x rest. more_from goes_on item n x rest and_then λ xs end. took (x ∷ xs) end)
      (cons last ls next e)
      (λ x rest k. holds_then (R x rest) (R last ls) (more_from goes_on item n x rest) (λ xs end. took (x ∷ xs) end)
      (ih x rest) (λ xs end r. holds_took (R last ls) (x ∷ xs) end (k xs end r)))

  pub more_sound : (n : ℕ) (last : A) (ls : List Lexeme) → Holds (R last ls) (more_from goes_on item n last ls)
  unfolding more_from
  more_sound zero last ls = holds_took (R last ls) [] ls (nil last ls)
  more_sound (suc n) last ls = step n (more_sound n) last ls (goes_on last ls) refl

-- what holds of a step, if there is one
abbrev pub HoldsIf : {A : Type 0} → (A → List Lexeme → Type 0) → Option (Read A) → Type 0
HoldsIf Q None = Unit {0}
HoldsIf Q (Some r) = Holds Q r

module _ {A : Type 0} (step : A → List Lexeme → Option (Read A)) (Q : A → List Lexeme → Type 0)
    (kept : (x : A) (ls : List Lexeme) → Q x ls → HoldsIf Q (step x ls)) where
  grows : (n : ℕ) → ((x : A) (ls : List Lexeme) → Q x ls → Holds Q (grown_from step n x ls))
      → (x : A) (ls : List Lexeme) → Q x ls → (o : Option (Read A)) → HoldsIf Q o → Holds Q (growing o x ls (grown_from step n))
  grows n ih x ls q None h = holds_took Q x ls q
  grows n ih x ls q (Some r) h = holds_then Q Q r (grown_from step n) h ih

  pub grown_sound : (n : ℕ) (x : A) (ls : List Lexeme) → Q x ls → Holds Q (grown_from step n x ls)
  unfolding grown_from
  grown_sound zero x ls q = holds_took Q x ls q
  grown_sound (suc n) x ls q = grows n (grown_sound n) x ls q (step x ls) (kept x ls q)

-- ---- phrases

-- the first tokens of some are a phrase, and others follow
pub record Takes (phrase : Phrase) (ls rest : List Lexeme) : Type 0 where
  pub front : List Lexeme
  pub parts : ls ≡ front ++ rest
  pub spelled : phrase front

abbrev pub takes_then : (a b : Phrase) (ls mid rest : List Lexeme) → Takes a ls mid → Takes b mid rest → Takes (a followed_by b) ls rest
takes_then a b ls mid rest s t =
    record {
      front = s.front ++ t.front;
      parts = s.parts ∙ ap (λ x. s.front ++ x) t.parts ∙ sym (append_assoc s.front t.front rest);
      spelled = (s.front, t.front, refl, s.spelled, t.spelled);
    }

pub takes_nothing : (ls : List Lexeme) → Takes Silence ls ls
takes_nothing ls = record { front = []; parts = refl; spelled = refl }

pub takes_as : (a b : Phrase) (ls rest : List Lexeme) → ((front : List Lexeme) → a front → b front) → Takes a ls rest → Takes b ls rest
takes_as a b ls rest f t = record { front = t.front; parts = t.parts; spelled = f t.front t.spelled }

abbrev pub takes_token : (l : Lexeme) (ls : List Lexeme) (s : Saying) → l.saying ≡ s → Takes (Is s) (l ∷ ls) ls
takes_token l ls s e =
    record { front = l ∷ []; parts = refl; spelled = (l.place, ap (λ (x : Saying). record { place = l.place; saying = x } ∷ []) e) }

pub starts_front : (p : Place) (xs ys : List Lexeme) → StartsAt p xs → StartsAt p (xs ++ ys)
starts_front p [] ys h = absurd h
starts_front p (x ∷ xs) ys h = h

-- ---- words

pub is_word-sound : (w : List ℕ) (s : Saying) → says_word w s ≡ true → s ≡ a_word w
is_word-sound w (a_word v) e = ap a_word ((bytes_eq-Decides v w).0 e)
is_word-sound w (a_name x) e = absurd cc
is_word-sound w (a_number n) e = absurd cc

pub word_sound : (w : List ℕ) (ls : List Lexeme) → Holds (λ p rest. Takes (Is (a_word w)) ls rest) (word_from w ls)
unfolding word_from
word_sound w [] = holds_wrong (λ p rest. Takes (Is (a_word w)) [] rest) []
word_sound w (l ∷ ls) =
    let Q : Place → List Lexeme → Type 0 = λ p rest. Takes (Is (a_word w)) (l ∷ ls) rest in
    holds_chosen Q (says_word w l.saying) (λ all. took l.place ls) (λ all. wrong all) (l ∷ ls)
    (λ e. holds_took Q l.place ls (takes_token l ls (a_word w) (is_word-sound w l.saying e)))
    (λ e. holds_wrong Q (l ∷ ls))

-- a word that is next is taken with the tokens behind it
pub says_sound : (w : List ℕ) (ls : List Lexeme) → says w ls ≡ true → Takes (Is (a_word w)) ls (behind ls)
unfolding says
says_sound w [] e = absurd cc
says_sound w (l ∷ ls) e = takes_token l ls (a_word w) (is_word-sound w l.saying e)

-- ---- tables

-- each entry of a table stands for the word that it has
abbrev pub AreWordsOf : {A : Type 0} → (A → List ℕ) → List (List ℕ × A) → Type 0
AreWordsOf word_of [] = Unit {0}
AreWordsOf word_of (entry ∷ entries) = (entry.0 ≡ word_of entry.1) × AreWordsOf word_of entries

module _ {A : Type 0} (word_of : A → List ℕ) where
  some_is : (x y : A) → Some x ≡ Some y → x ≡ y
  some_is x y e = ap (λ o. or_else o) e
    where
      or_else : Option A → A
      or_else None = x
      or_else (Some z) = z

  here_or : (b : Bool) (w v : List ℕ) (y x : A) (other : Option A) → found_or b y other ≡ Some x → (b ≡ true → v ≡ w) → v ≡ word_of y → (other ≡ Some x → w ≡ word_of x) → w ≡ word_of x
  here_or true w v y x other e here is there = sym (here refl) ∙ is ∙ ap word_of (some_is y x e)
  here_or false w v y x other e here is there = there e

  pub looked_up-sound : (entries : List (List ℕ × A)) → AreWordsOf word_of entries → (w : List ℕ) (x : A) → looked_up entries w ≡ Some x → w ≡ word_of x
  unfolding looked_up
  looked_up-sound [] h w x e = absurd cc
  looked_up-sound (entry ∷ entries) h w x e =
      here_or (bytes_eq entry.0 w) w entry.0 entry.1 x (looked_up entries w) e (λ k. (bytes_eq-Decides entry.0 w).0 k) h.0 (looked_up-sound entries h.1 w x)

  pub meant_by-sound : (entries : List (List ℕ × A)) → AreWordsOf word_of entries → (s : Saying) (x : A) → meant_by entries s ≡ Some x → s ≡ a_word (word_of x)
  meant_by-sound entries h (a_word w) x e = ap a_word (looked_up-sound entries h w x e)
  meant_by-sound entries h (a_name y) x e = absurd cc
  meant_by-sound entries h (a_number n) x e = absurd cc

  pub next_in-sound : (entries : List (List ℕ × A)) → AreWordsOf word_of entries → (ls : List Lexeme) (x : A) → next_in entries ls ≡ Some x → Takes (Is (a_word (word_of x))) ls (behind ls)
  unfolding next_in
  next_in-sound entries h [] x e = absurd cc
  next_in-sound entries h (l ∷ ls) x e = takes_token l ls (a_word (word_of x)) (meant_by-sound entries h l.saying x e)

-- phrases that follow one another are grouped to the right
pub regrouped : (a b c : Phrase) (front : List Lexeme) → ((a followed_by b) followed_by c) front → (a followed_by b followed_by c) front
regrouped a b c front h =
    (h.3.0, h.3.1 ++ h.1, h.2 ∙ ap (λ x. x ++ h.1) h.3.2 ∙ append_assoc h.3.0 h.3.1 h.1, h.3.3, (h.3.1, h.1, refl, h.3.4, h.4))

-- a phrase behind two
pub behind_two : (a b c : Phrase) (ls mid rest : List Lexeme) → Takes (a followed_by b) ls mid → Takes c mid rest → Takes (a followed_by b followed_by c) ls rest
behind_two a b c ls mid rest s t =
    takes_as ((a followed_by b) followed_by c) (a followed_by b followed_by c) ls rest (regrouped a b c) (takes_then (a followed_by b) c ls mid rest s t)

-- a phrase behind three
pub behind_three : (a b c d : Phrase) (ls mid rest : List Lexeme) → Takes (a followed_by b followed_by c) ls mid → Takes d mid rest
    → Takes (a followed_by b followed_by c followed_by d) ls rest
behind_three a b c d ls mid rest s t =
    takes_as (a followed_by ((b followed_by c) followed_by d)) (a followed_by b followed_by c followed_by d) ls rest
    (λ front k. (k.0, k.1, k.2, k.3, regrouped b c d k.1 k.4)) (behind_two a (b followed_by c) d ls mid rest s t)

-- and to the left
pub ungrouped : (a b c : Phrase) (front : List Lexeme) → (a followed_by b followed_by c) front → ((a followed_by b) followed_by c) front
ungrouped a b c front h =
    let k = h.4 in
    (h.0 ++ k.0, k.1, h.2 ∙ ap (λ x. h.0 ++ x) k.2 ∙ sym (append_assoc h.0 k.0 k.1), (h.0, k.0, refl, h.3, k.3), k.4)

-- something holds of each entry of a table
abbrev pub AllEntries : {A : Type 0} → (A → Type 0) → List (List ℕ × A) → Type 0
AllEntries P [] = Unit {0}
AllEntries P (entry ∷ entries) = P entry.1 × AllEntries P entries

module _ {A : Type 0} (P : A → Type 0) where
  found_all : (b : Bool) (y x : A) (other : Option A) → found_or b y other ≡ Some x → P y → (other ≡ Some x → P x) → P x
  found_all true y x other e here there = subst P (ap (λ o. or_else o) e) here
    where
      or_else : Option A → A
      or_else None = x
      or_else (Some z) = z
  found_all false y x other e here there = there e

  looked_up-all : (entries : List (List ℕ × A)) → AllEntries P entries → (w : List ℕ) (x : A) → looked_up entries w ≡ Some x → P x
  unfolding looked_up
  looked_up-all [] h w x e = absurd cc
  looked_up-all (entry ∷ entries) h w x e = found_all (bytes_eq entry.0 w) entry.1 x (looked_up entries w) e h.0 (looked_up-all entries h.1 w x)

  meant_by-all : (entries : List (List ℕ × A)) → AllEntries P entries → (s : Saying) (x : A) → meant_by entries s ≡ Some x → P x
  meant_by-all entries h (a_word w) x e = looked_up-all entries h w x e
  meant_by-all entries h (a_name y) x e = absurd cc
  meant_by-all entries h (a_number n) x e = absurd cc

  pub next_in-all : (entries : List (List ℕ × A)) → AllEntries P entries → (ls : List Lexeme) (x : A) → next_in entries ls ≡ Some x → P x
  unfolding next_in
  next_in-all entries h [] x e = absurd cc
  next_in-all entries h (l ∷ ls) x e = meant_by-all entries h l.saying x e

pub operated_sound : {A B : Type 0} (Q : B → List Lexeme → Type 0) (closed : Bool) (o : Option A) (go : A → Read B)
    → ((op : A) → closed ≡ true → o ≡ Some op → Holds Q (go op)) → HoldsIf Q (operated closed o go)
operated_sound Q closed None go k = tt
operated_sound Q false (Some op) go k = tt
operated_sound Q true (Some op) go k = k op refl refl

pub only_if_sound : {A : Type 0} (Q : A → List Lexeme → Type 0) (b : Bool) (reader : Reader A) (ls : List Lexeme)
    → (b ≡ true → Holds Q (reader ls)) → HoldsIf Q (only_if b reader ls)
only_if_sound Q true reader ls k = k refl
only_if_sound Q false reader ls k = tt

pub if_grown_sound : {A : Type 0} (Q : A → List Lexeme → Type 0) (o : Option (Read A)) (x : A) (ls : List Lexeme)
    → HoldsIf Q o → Q x ls → Holds Q (if_some o (λ r. r) (took x ls))
if_grown_sound Q None x ls h q = holds_took Q x ls q
if_grown_sound Q (Some r) x ls h q = h

pub if_some_sound : {A B : Type 0} (Q : A → List Lexeme → Type 0) (o : Option B) (go : B → Read A) (other : Read A)
    → ((x : B) → o ≡ Some x → Holds Q (go x)) → Holds Q other → Holds Q (if_some o go other)
if_some_sound Q None go other h k = k
if_some_sound Q (Some x) go other h k = h x refl
