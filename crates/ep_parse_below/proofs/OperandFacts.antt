-- Reading what a token begins, from what is next.
use Rattle.std.specs.Prelude.{◌≡◌, ℕ, ℤ, Bool, true, false, nat_lt, List, [], ◌∷◌, Option, Some, None, codes, refl}
use Rattle.std.proofs.Common.{ap, sym, ◌∙◌}
use Rattle.ep_base.specs.declared.names.Name.{Name}
use Rattle.ep_base.specs.declared.places.Place.{Place}
use Rattle.ep_parse_parts.specs.DomainReaders.{domain_begun_from, domain_open_from, domain_openings, domain_part_from, place_next}
use Rattle.ep_parse_parts.specs.DomainReaders as domain_readers
use Rattle.ep_parse_parts.specs.OperandReaders.{Lower, a_bracket, a_truth, begun_from, bracket_from, if_low, open_from, opened_from, openings, operand_from}
use Rattle.ep_parse_parts.specs.OperandReaders as readers
use Rattle.ep_parse_parts.specs.Openings.{opening_of}
use Rattle.ep_parse_parts.specs.Readers.{Read, behind, either_reader, high, looked_up, took, wrong}
use Rattle.ep_parse_parts.specs.Sayings.{name_next, name_of, said_number_next, said_number, word_next, word_of}
use Rattle.ep_parse_parts.specs.declared.words.Opening.{Opening}
use Rattle.ep_parse_parts.specs.declared.words.Opening.TheVariants as opening
use Rattle.ep_tree.specs.Phrases.{Lexeme, Saying, a_name, a_number, a_word}
use Rattle.ep_tree.specs.Trees.{DomainTree, ExprTree, named, named_domain, number, truth}

-- ---- expressions

begun_name : (b : Bool) (low : Lower) (p : Place) (s : Saying) (x : List ℕ) (ls all : List Lexeme) → name_of s ≡ Some x → begun_from b low p s ls all ≡ took (named p x) ls
unfolding begun_from
begun_name b low p (a_name y) x ls all e = ap (λ o. took (named p (or_this o)) ls) e
  where
    or_this : Option (List ℕ) → List ℕ
    or_this (Some z) = z
    or_this None = y
begun_name b low p (a_number n) x ls all e = absurd cc
begun_name b low p (a_word w) x ls all e = absurd cc

begun_number : (b : Bool) (low : Lower) (p : Place) (s : Saying) (x : ℤ) (ls all : List Lexeme) → said_number s ≡ Some x → begun_from b low p s ls all ≡ took (number p x) ls
unfolding begun_from
begun_number b low p (a_name y) x ls all e = absurd cc
begun_number b low p (a_number n) x ls all e = ap (λ o. took (number p (or_this o)) ls) e
  where
    or_this : Option ℤ → ℤ
    or_this (Some z) = z
    or_this None = n
begun_number b low p (a_word w) x ls all e = absurd cc

begun_word : (b : Bool) (low : Lower) (p : Place) (s : Saying) (w : List ℕ) (ls all : List Lexeme) → word_of s ≡ Some w → begun_from b low p s ls all ≡ open_from b low p (looked_up openings w) ls all
unfolding begun_from
begun_word b low p (a_name y) w ls all e = absurd cc
begun_word b low p (a_number n) w ls all e = absurd cc
begun_word b low p (a_word v) w ls all e = ap (λ o. open_from b low p (looked_up openings (or_this o)) ls all) e
  where
    or_this : Option (List ℕ) → List ℕ
    or_this (Some z) = z
    or_this None = v

named_now : (b : Bool) (low : Lower) (ls : List Lexeme) (x : List ℕ) → name_next ls ≡ Some x → operand_from b low ls ≡ took (named (place_next ls) x) (behind ls)
unfolding operand_from name_next
named_now b low [] x e = absurd cc
named_now b low (l ∷ ls) x e = begun_name b low l.place l.saying x ls (l ∷ ls) e

numbered_now : (b : Bool) (low : Lower) (ls : List Lexeme) (x : ℤ) → said_number_next ls ≡ Some x → operand_from b low ls ≡ took (number (place_next ls) x) (behind ls)
unfolding operand_from said_number_next
numbered_now b low [] x e = absurd cc
numbered_now b low (l ∷ ls) x e = begun_number b low l.place l.saying x ls (l ∷ ls) e

pub worded_now : (b : Bool) (low : Lower) (ls : List Lexeme) (w : List ℕ) → word_next ls ≡ Some w → operand_from b low ls ≡ open_from b low (place_next ls) (looked_up openings w) (behind ls) ls
unfolding operand_from word_next
worded_now b low [] w e = absurd cc
worded_now b low (l ∷ ls) w e = begun_word b low l.place l.saying w ls (l ∷ ls) e

pub operand_named : (b : Bool) (low : Lower) (x : List ℕ) (ls new : List Lexeme) (p : Place) (name : Name) → name_next ls ≡ Some x → name ≡ x → p ≡ place_next ls → new ≡ behind ls
    → operand_from b low ls ≡ took (named p name) new
operand_named b low x ls new p name e n q k =
    named_now b low ls x e ∙ ap (λ r. took (named r x) (behind ls)) (sym q) ∙ ap (λ y. took (named p y) (behind ls)) (sym n) ∙ ap (λ y. took (named p name) y) (sym k)

pub operand_numbered : (b : Bool) (low : Lower) (x : ℤ) (ls new : List Lexeme) (p : Place) → said_number_next ls ≡ Some x → p ≡ place_next ls → new ≡ behind ls → operand_from b low ls ≡ took (number p x) new
operand_numbered b low x ls new p e q k =
    numbered_now b low ls x e ∙ ap (λ r. took (number r x) (behind ls)) (sym q) ∙ ap (λ y. took (number p x) y) (sym k)

-- no word
pub operand_nothing : (b : Bool) (low : Lower) (ls : List Lexeme) → name_next ls ≡ None → said_number_next ls ≡ None → word_next ls ≡ None → operand_from b low ls ≡ wrong ls
unfolding operand_from name_next said_number_next word_next begun_from
operand_nothing b low [] f h j = refl
operand_nothing b low (l ∷ ls) f h j = by_saying l.saying f h j
  where
    by_saying : (s : Saying) → name_of s ≡ None → said_number s ≡ None → word_of s ≡ None → begun_from b low l.place s ls (l ∷ ls) ≡ wrong (l ∷ ls)
    by_saying (a_name y) a b c = absurd cc
    by_saying (a_number n) a b c = absurd cc
    by_saying (a_word v) a b c = absurd cc

-- a word that begins nothing
pub operand_unknown : (b : Bool) (low : Lower) (w : List ℕ) (ls : List Lexeme) → word_next ls ≡ Some w → None ≡ looked_up openings w → operand_from b low ls ≡ wrong ls
unfolding open_from
operand_unknown b low w ls e m = worded_now b low ls w e ∙ ap (λ k. open_from b low (place_next ls) k (behind ls) ls) (sym m)

-- a word that begins something
pub operand_begun : (b : Bool) (low : Lower) (x : readers.Opening) (w : List ℕ) (ls : List Lexeme) → word_next ls ≡ Some w → Some x ≡ looked_up openings w
    → operand_from b low ls ≡ open_from b low (place_next ls) (Some x) (behind ls) ls
operand_begun b low x w ls e m = worded_now b low ls w e ∙ ap (λ k. open_from b low (place_next ls) k (behind ls) ls) (sym m)

-- what is neither a truth value nor a bracket
pub open_with_part : (b : Bool) (low : Lower) (o : Opening) (all : List Lexeme) → ((t : Bool) → o ≡ opening.Truth t → ⊥) → (o ≡ opening.Bracket → ⊥)
    → open_from b low (place_next all) (Some (opening_of o)) (behind all) all ≡ if_low b (λ ls. opened_from low (place_next ls) (opening_of o) (behind ls)) all
unfolding open_from
open_with_part b low o all h k = by_opening b o h k
  where
    by_opening : (b : Bool) (o : Opening) → ((t : Bool) → o ≡ opening.Truth t → ⊥) → (o ≡ opening.Bracket → ⊥)
        → open_from b low (place_next all) (Some (opening_of o)) (behind all) all ≡ if_low b (λ ls. opened_from low (place_next ls) (opening_of o) (behind ls)) all
    by_opening b (opening.Truth t) h k = absurd (h t refl)
    by_opening b opening.Bracket h k = absurd (k refl)
    by_opening true opening.Group h k = refl
    by_opening false opening.Group h k = refl
    by_opening true opening.Bar h k = refl
    by_opening false opening.Bar h k = refl
    by_opening true opening.Negation h k = refl
    by_opening false opening.Negation h k = refl
    by_opening true opening.Minus h k = refl
    by_opening false opening.Minus h k = refl
    by_opening true (opening.Quantifier op) h k = refl
    by_opening false (opening.Quantifier op) h k = refl
    by_opening true opening.Sum h k = refl
    by_opening false opening.Sum h k = refl
    by_opening true (opening.One what) h k = refl
    by_opening false (opening.One what) h k = refl
    by_opening true opening.Least h k = refl
    by_opening false opening.Least h k = refl
    by_opening true opening.Greatest h k = refl
    by_opening false opening.Greatest h k = refl
    by_opening true opening.Table h k = refl
    by_opening false opening.Table h k = refl
    by_opening true (opening.Three what) h k = refl
    by_opening false (opening.Three what) h k = refl

-- a truth value
pub open_truth : (b : Bool) (low : Lower) (q : Place) (o : Opening) (rest all : List Lexeme) (t : Bool) (p : Place) (new : List Lexeme) → o ≡ opening.Truth t → p ≡ q → new ≡ rest
    → open_from b low q (Some (opening_of o)) rest all ≡ took (truth p t) new
unfolding open_from
open_truth b low q o rest all t p new e f g =
    ap (λ x. open_from b low q (Some (opening_of x)) rest all) e ∙ ap (λ x. took (truth x t) rest) (sym f) ∙ ap (λ ls. took (truth p t) ls) (sym g)

-- a list
pub open_bracket : (b : Bool) (low : Lower) (q : Place) (o : Opening) (rest all : List Lexeme) (p : Place) (new : List Lexeme) → o ≡ opening.Bracket → p ≡ q → new ≡ rest
    → open_from b low q (Some (opening_of o)) rest all ≡ bracket_from b low p new
unfolding open_from
open_bracket b low q o rest all p new e f g =
    ap (λ x. open_from b low q (Some (opening_of x)) rest all) e ∙ ap (λ x. bracket_from b low x rest) (sym f) ∙ ap (λ ls. bracket_from b low p ls) (sym g)

-- ---- domains

domain_begun_name : (b : Bool) (low : Lower) (p : Place) (s : Saying) (x : List ℕ) (ls all : List Lexeme) → name_of s ≡ Some x → domain_begun_from b low p s ls all ≡ took (named_domain p x) ls
unfolding domain_begun_from
domain_begun_name b low p (a_name y) x ls all e = ap (λ o. took (named_domain p (or_this o)) ls) e
  where
    or_this : Option (List ℕ) → List ℕ
    or_this (Some z) = z
    or_this None = y
domain_begun_name b low p (a_number n) x ls all e = absurd cc
domain_begun_name b low p (a_word w) x ls all e = absurd cc

domain_begun_word : (b : Bool) (low : Lower) (p : Place) (s : Saying) (w : List ℕ) (ls all : List Lexeme) → word_of s ≡ Some w → domain_begun_from b low p s ls all ≡ domain_open_from b low p (looked_up domain_openings w) ls all
unfolding domain_begun_from
domain_begun_word b low p (a_name y) w ls all e = absurd cc
domain_begun_word b low p (a_number n) w ls all e = absurd cc
domain_begun_word b low p (a_word v) w ls all e = ap (λ o. domain_open_from b low p (looked_up domain_openings (or_this o)) ls all) e
  where
    or_this : Option (List ℕ) → List ℕ
    or_this (Some z) = z
    or_this None = v

domain_named_now : (b : Bool) (low : Lower) (ls : List Lexeme) (x : List ℕ) → name_next ls ≡ Some x → domain_part_from b low ls ≡ took (named_domain (place_next ls) x) (behind ls)
unfolding domain_part_from name_next
domain_named_now b low [] x e = absurd cc
domain_named_now b low (l ∷ ls) x e = domain_begun_name b low l.place l.saying x ls (l ∷ ls) e

domain_worded_now : (b : Bool) (low : Lower) (ls : List Lexeme) (w : List ℕ) → word_next ls ≡ Some w → domain_part_from b low ls ≡ domain_open_from b low (place_next ls) (looked_up domain_openings w) (behind ls) ls
unfolding domain_part_from word_next
domain_worded_now b low [] w e = absurd cc
domain_worded_now b low (l ∷ ls) w e = domain_begun_word b low l.place l.saying w ls (l ∷ ls) e

pub domain_named : (b : Bool) (low : Lower) (x : List ℕ) (ls new : List Lexeme) (p : Place) (name : Name) → name_next ls ≡ Some x → name ≡ x → p ≡ place_next ls → new ≡ behind ls
    → domain_part_from b low ls ≡ took (named_domain p name) new
domain_named b low x ls new p name e n q k =
    domain_named_now b low ls x e ∙ ap (λ r. took (named_domain r x) (behind ls)) (sym q) ∙ ap (λ y. took (named_domain p y) (behind ls)) (sym n) ∙ ap (λ y. took (named_domain p name) y) (sym k)

pub domain_nothing : (b : Bool) (low : Lower) (ls : List Lexeme) → name_next ls ≡ None → word_next ls ≡ None → domain_part_from b low ls ≡ wrong ls
unfolding domain_part_from name_next word_next domain_begun_from
domain_nothing b low [] f j = refl
domain_nothing b low (l ∷ ls) f j = by_saying l.saying f j
  where
    by_saying : (s : Saying) → name_of s ≡ None → word_of s ≡ None → domain_begun_from b low l.place s ls (l ∷ ls) ≡ wrong (l ∷ ls)
    by_saying (a_name y) a c = absurd cc
    by_saying (a_number n) a c = refl
    by_saying (a_word v) a c = absurd cc

pub domain_unknown : (b : Bool) (low : Lower) (w : List ℕ) (ls : List Lexeme) → word_next ls ≡ Some w → None ≡ looked_up domain_openings w → domain_part_from b low ls ≡ wrong ls
unfolding domain_open_from
domain_unknown b low w ls e m = domain_worded_now b low ls w e ∙ ap (λ k. domain_open_from b low (place_next ls) k (behind ls) ls) (sym m)

pub domain_begun : (b : Bool) (low : Lower) (x : domain_readers.DomainOpening) (w : List ℕ) (ls : List Lexeme) → word_next ls ≡ Some w → Some x ≡ looked_up domain_openings w
    → domain_part_from b low ls ≡ domain_open_from b low (place_next ls) (Some x) (behind ls) ls
domain_begun b low x w ls e m = domain_worded_now b low ls w e ∙ ap (λ k. domain_open_from b low (place_next ls) k (behind ls) ls) (sym m)
