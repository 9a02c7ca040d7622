-- Whether a domain is next, from what is next.
use Rattle.std.specs.List.{list_any}
use Rattle.std.specs.Prelude.{◌≡◌, ℕ, Bool, true, false, ◌||◌, List, [], ◌∷◌, Option, Some, None, bytes_eq, codes, refl}
use Rattle.std.proofs.Common.{ap, sym, ◌∙◌, Bor, is_some}
use Rattle.std.specs.Option.{option_copied}
use Rattle.ep_parse_parts.specs.Beginnings.{beginners}
use Rattle.ep_parse_parts.specs.OperandReaders.{domain_next, opens_domain}
use Rattle.ep_parse_parts.specs.Openings.{domain_level_of}
use Rattle.ep_parse_parts.specs.Sayings.{name_next, name_of, word_next, word_of}
use Rattle.ep_parse_parts.specs.declared.words.DomainLevel.{DomainLevel}
use Rattle.ep_parse_parts.specs.declared.words.DomainLevel.TheVariants as domain_level
use Rattle.ep_tree.specs.Phrases.{Lexeme, Saying, a_name, a_number, a_word}

by_name : (level : DomainLevel) (s : Saying) (x : List ℕ) → name_of s ≡ Some x → opens_domain (domain_level_of level) s ≡ true
by_name domain_level.Domains (a_name y) x e = refl
by_name domain_level.SetOperations (a_name y) x e = refl
by_name domain_level.SetParts (a_name y) x e = refl
by_name level (a_number n) x e = absurd cc
by_name level (a_word w) x e = absurd cc

by_word : (level : DomainLevel) (s : Saying) (w : List ℕ) → word_of s ≡ Some w → opens_domain (domain_level_of level) s ≡ list_any (bytes_eq w) (beginners level)
by_word level (a_name y) w e = absurd cc
by_word level (a_number n) w e = absurd cc
by_word domain_level.Domains (a_word v) w e = ap (λ o. list_any (bytes_eq (or_this o)) (beginners domain_level.Domains)) e
  where
    or_this : Option (List ℕ) → List ℕ
    or_this (Some z) = z
    or_this None = v
by_word domain_level.SetOperations (a_word v) w e = ap (λ o. list_any (bytes_eq (or_this o)) (beginners domain_level.SetOperations)) e
  where
    or_this : Option (List ℕ) → List ℕ
    or_this (Some z) = z
    or_this None = v
by_word domain_level.SetParts (a_word v) w e = ap (λ o. list_any (bytes_eq (or_this o)) (beginners domain_level.SetParts)) e
  where
    or_this : Option (List ℕ) → List ℕ
    or_this (Some z) = z
    or_this None = v

by_neither : (level : DomainLevel) (s : Saying) → name_of s ≡ None → word_of s ≡ None → opens_domain (domain_level_of level) s ≡ false
by_neither level (a_name y) a b = absurd cc
by_neither domain_level.Domains (a_number n) a b = refl
by_neither domain_level.SetOperations (a_number n) a b = refl
by_neither domain_level.SetParts (a_number n) a b = refl
by_neither level (a_word w) a b = absurd cc

pub domain_is_named : (level : DomainLevel) (o : Option (Bor (List ℕ))) (ls : List Lexeme) → option_copied o ≡ name_next ls → true ≡ is_some o → true ≡ domain_next (domain_level_of level) ls
unfolding name_next domain_next
domain_is_named level None ls e t = absurd cc
domain_is_named level (Some x) [] e t = absurd cc
domain_is_named level (Some x) (l ∷ ls) e t = sym (by_name level l.saying x.now (sym e))

pub domain_is_worded : (level : DomainLevel) (o : Option (Bor (List ℕ))) (w : Bor (List ℕ)) (ls : List Lexeme) (b : Bool) → option_copied o ≡ word_next ls → o ≡ Some w → b ≡ list_any (bytes_eq w.now) (beginners level) → b ≡ domain_next (domain_level_of level) ls
unfolding word_next domain_next
domain_is_worded level o w [] b e s k = let none : None ≡ Some w.now = sym e ∙ ap option_copied s in absurd cc
domain_is_worded level o w (l ∷ ls) b e s k = k ∙ sym (by_word level l.saying w.now (sym e ∙ ap option_copied s))

pub domain_is_nothing : (level : DomainLevel) (o w : Option (Bor (List ℕ))) (ls : List Lexeme) → option_copied o ≡ name_next ls → false ≡ is_some o → option_copied w ≡ word_next ls → w ≡ None → false ≡ domain_next (domain_level_of level) ls
unfolding name_next word_next domain_next
domain_is_nothing level (Some o) w ls a x c z = absurd cc
domain_is_nothing level None w [] a x c z = refl
domain_is_nothing level None w (l ∷ ls) a x c z = sym (by_neither level l.saying (sym a) (sym c ∙ ap option_copied z))

-- a word of a longer table
one_more_word : (a b c d : Bool) → (a || (b || (c || false))) ≡ true → true ≡ (a || (b || (c || (d || false))))
one_more_word true b c d e = refl
one_more_word false true c d e = refl
one_more_word false false true d e = refl
one_more_word false false false d e = absurd cc

last_word : (a b c d : Bool) → (a || (b || (c || false))) ≡ false → d ≡ (a || (b || (c || (d || false))))
last_word true b c d e = absurd cc
last_word false true c d e = absurd cc
last_word false false true d e = absurd cc
last_word false false false true e = refl
last_word false false false false e = refl

pub part_begins : (w : List ℕ) → list_any (bytes_eq w) (codes "bool" ∷ codes "int" ∷ codes "(" ∷ []) ≡ true → true ≡ list_any (bytes_eq w) (codes "bool" ∷ codes "int" ∷ codes "(" ∷ codes "matrix" ∷ [])
part_begins w e = one_more_word (bytes_eq w (codes "bool")) (bytes_eq w (codes "int")) (bytes_eq w (codes "(")) (bytes_eq w (codes "matrix")) e

pub matrix_begins : (w : List ℕ) (matrix : Bool) → list_any (bytes_eq w) (codes "bool" ∷ codes "int" ∷ codes "(" ∷ []) ≡ false → matrix ≡ bytes_eq w (codes "matrix")
    → matrix ≡ list_any (bytes_eq w) (codes "bool" ∷ codes "int" ∷ codes "(" ∷ codes "matrix" ∷ [])
matrix_begins w matrix e m = m ∙ last_word (bytes_eq w (codes "bool")) (bytes_eq w (codes "int")) (bytes_eq w (codes "(")) (bytes_eq w (codes "matrix")) e
