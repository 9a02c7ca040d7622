-- What the readers of names, words and parts take is spelled.
use Rattle.std.specs.Prelude.{◌≡◌, ℕ, ◌≤◌, Bool, true, false, nat_le, List, [], ◌∷◌, ◌++◌, length, Option, Some, None, codes, refl}
use Rattle.std.proofs.Common.{ap, arith, sym, subst, ◌∙◌}
use Rattle.std.proofs.lemmas.Bool.Decides.{nat_tests}
use Rattle.ep_base.specs.declared.names.Name.{Name}
use Rattle.ep_tree.specs.Heights.{domain_height, height}
use Rattle.ep_tree.specs.Phrases.{Is, Lexeme, Names, Phrase, Says, Saying, Silence, StartsAt, a_name, a_number, a_word, ◌followed_by◌}
use Rattle.ep_tree.specs.Spelling.{DomainLevel, Level, Spells, SpellsDomain, SpellsDomainNode, SpellsNode, domain_rank, implications, own_domain_level, own_level, rank, unaries}
use Rattle.ep_tree.specs.Trees.{DomainTree, ExprTree, place_of, place_of_domain}
use Rattle.ep_parse_parts.specs.OperandReaders.{Lower, and_part, closed_by, in_brackets}
use Rattle.ep_parse_parts.specs.Readers.{Reader, behind, behind_comma, kept, name_from, name_in, names_from, others_from, says, took, word_from, ◌and_then◌}
use Rattle.ep_parse_parts.proofs.Holding.{Holds, Takes, holds_as, holds_then, holds_took, holds_wrong, more_sound, says_sound, starts_front, takes_as, takes_nothing, takes_then, takes_token, word_sound}

-- ---- expressions and domains that are taken

-- the first tokens spell an expression that isn't higher than so much
pub record IsExpr (level : Level) (most : ℕ) (ls : List Lexeme) (e : ExprTree) (rest : List Lexeme) : Type 0 where
  pub front : List Lexeme
  pub parts : ls ≡ front ++ rest
  pub spelled : Spells level e front
  pub low : height e ≤ most

-- the first tokens spell a domain that isn't higher than so much
pub record IsDomain (level : DomainLevel) (most : ℕ) (ls : List Lexeme) (d : DomainTree) (rest : List Lexeme) : Type 0 where
  pub front : List Lexeme
  pub parts : ls ≡ front ++ rest
  pub spelled : SpellsDomain level d front
  pub low : domain_height d ≤ most

-- what readers of lower trees take is spelled
pub record AreSound (less : ℕ) (low : Lower) : Type 0 where
  pub expr : (level : Level) → nat_le (rank level) (rank unaries) ≡ true → (ls : List Lexeme) → Holds (IsExpr level less ls) (low.expr level ls)
  pub domain : (level : DomainLevel) (ls : List Lexeme) → Holds (IsDomain level less ls) (low.domain level ls)

abbrev pub takes_expr : (level : Level) (most : ℕ) (ls : List Lexeme) (e : ExprTree) (rest : List Lexeme) → IsExpr level most ls e rest → Takes (Spells level e) ls rest
takes_expr level most ls e rest h = record { front = h.front; parts = h.parts; spelled = h.spelled }

abbrev pub takes_domain : (level : DomainLevel) (most : ℕ) (ls : List Lexeme) (d : DomainTree) (rest : List Lexeme) → IsDomain level most ls d rest → Takes (SpellsDomain level d) ls rest
takes_domain level most ls d rest h = record { front = h.front; parts = h.parts; spelled = h.spelled }

le_on : (a b c : ℕ) → nat_le a b ≡ true → nat_le b c ≡ true → nat_le a c ≡ true
le_on a b c h k = grind (arith, nat_tests)

-- what is taken at a tighter level may stand at a looser one
pub looser : (asked given : Level) (most : ℕ) (ls : List Lexeme) (e : ExprTree) (rest : List Lexeme) → nat_le (rank asked) (rank given) ≡ true
    → IsExpr given most ls e rest → IsExpr asked most ls e rest
looser asked given most ls e rest le h =
    record {
      front = h.front;
      parts = h.parts;
      spelled = (le_on (rank asked) (rank given) (rank (own_level e)) le h.spelled.0, h.spelled.1);
      low = h.low;
    }

pub looser_domain : (asked given : DomainLevel) (most : ℕ) (ls : List Lexeme) (d : DomainTree) (rest : List Lexeme) → nat_le (domain_rank asked) (domain_rank given) ≡ true
    → IsDomain given most ls d rest → IsDomain asked most ls d rest
looser_domain asked given most ls d rest le h =
    record {
      front = h.front;
      parts = h.parts;
      spelled = (le_on (domain_rank asked) (domain_rank given) (domain_rank (own_domain_level d)) le h.spelled.0, h.spelled.1);
      low = h.low;
    }

-- ---- nodes

-- an expression of one token
pub alone : (level : Level) (most : ℕ) (l : Lexeme) (ls : List Lexeme) (e : ExprTree) (s : Saying) → l.saying ≡ s → place_of e ≡ l.place
    → ((front : List Lexeme) → Is s front → SpellsNode e front) → nat_le (rank level) (rank (own_level e)) ≡ true → height e ≤ most → IsExpr level most (l ∷ ls) e ls
alone level most l ls e s is at node own low =
    let t = takes_token l ls s is in
    record { front = l ∷ []; parts = refl; spelled = (own, (sym at, node (l ∷ []) t.spelled)); low = low }

-- an expression that begins with a word
pub opened_by : (level : Level) (most : ℕ) (l : Lexeme) (ls rest : List Lexeme) (e : ExprTree) (w : List ℕ) (a : Phrase) → l.saying ≡ a_word w → place_of e ≡ l.place
    → ((front : List Lexeme) → (Is (a_word w) followed_by a) front → SpellsNode e front) → nat_le (rank level) (rank (own_level e)) ≡ true
    → Takes a ls rest → height e ≤ most → IsExpr level most (l ∷ ls) e rest
opened_by level most l ls rest e w a is at node own t low =
    let first = takes_token l ls (a_word w) is in
    record {
      front = l ∷ t.front;
      parts = ap (λ x. l ∷ x) t.parts;
      spelled = (own, (sym at, node (l ∷ t.front) (l ∷ [], t.front, refl, first.spelled, t.spelled)));
      low = low;
    }

-- an expression that begins with another
pub begun_by : (level part : Level) (most high : ℕ) (ls mid rest : List Lexeme) (left e : ExprTree) (b : Phrase) → place_of e ≡ place_of left → IsExpr part high ls left mid
    → Takes b mid rest → ((front : List Lexeme) → (Spells part left followed_by b) front → SpellsNode e front) → nat_le (rank level) (rank (own_level e)) ≡ true
    → height e ≤ most → IsExpr level most ls e rest
begun_by level part most high ls mid rest left e b at h t node own low =
    let both = takes_then (Spells part left) b ls mid rest (takes_expr part high ls left mid h) t in
    record {
      front = h.front ++ t.front;
      parts = both.parts;
      spelled = (own, (subst (λ p. StartsAt p (h.front ++ t.front)) (sym at) (starts_front (place_of left) h.front t.front h.spelled.1.0), node (h.front ++ t.front) both.spelled));
      low = low;
    }

-- the same for domains
pub domain_alone : (level : DomainLevel) (most : ℕ) (l : Lexeme) (ls : List Lexeme) (d : DomainTree) (s : Saying) → l.saying ≡ s → place_of_domain d ≡ l.place
    → ((front : List Lexeme) → Is s front → SpellsDomainNode d front) → nat_le (domain_rank level) (domain_rank (own_domain_level d)) ≡ true → domain_height d ≤ most → IsDomain level most (l ∷ ls) d ls
domain_alone level most l ls d s is at node own low =
    let t = takes_token l ls s is in
    record { front = l ∷ []; parts = refl; spelled = (own, (sym at, node (l ∷ []) t.spelled)); low = low }

pub domain_opened_by : (level : DomainLevel) (most : ℕ) (l : Lexeme) (ls rest : List Lexeme) (d : DomainTree) (w : List ℕ) (a : Phrase) → l.saying ≡ a_word w → place_of_domain d ≡ l.place
    → ((front : List Lexeme) → (Is (a_word w) followed_by a) front → SpellsDomainNode d front) → nat_le (domain_rank level) (domain_rank (own_domain_level d)) ≡ true
    → Takes a ls rest → domain_height d ≤ most → IsDomain level most (l ∷ ls) d rest
domain_opened_by level most l ls rest d w a is at node own t low =
    let first = takes_token l ls (a_word w) is in
    record {
      front = l ∷ t.front;
      parts = ap (λ x. l ∷ x) t.parts;
      spelled = (own, (sym at, node (l ∷ t.front) (l ∷ [], t.front, refl, first.spelled, t.spelled)));
      low = low;
    }

pub domain_begun_by : (level part : DomainLevel) (most high : ℕ) (ls mid rest : List Lexeme) (left d : DomainTree) (b : Phrase) → place_of_domain d ≡ place_of_domain left → IsDomain part high ls left mid
    → Takes b mid rest → ((front : List Lexeme) → (SpellsDomain part left followed_by b) front → SpellsDomainNode d front) → nat_le (domain_rank level) (domain_rank (own_domain_level d)) ≡ true
    → domain_height d ≤ most → IsDomain level most ls d rest
domain_begun_by level part most high ls mid rest left d b at h t node own low =
    let both = takes_then (SpellsDomain part left) b ls mid rest (takes_domain part high ls left mid h) t in
    record {
      front = h.front ++ t.front;
      parts = both.parts;
      spelled = (own, (subst (λ p. StartsAt p (h.front ++ t.front)) (sym at) (starts_front (place_of_domain left) h.front t.front h.spelled.1.0), node (h.front ++ t.front) both.spelled));
      low = low;
    }

-- ---- names

name_in_sound : (l : Lexeme) (s : Saying) (ls : List Lexeme) → l.saying ≡ s → Holds (λ x rest. Takes (Is (a_name x)) (l ∷ ls) rest) (name_in l s ls)
unfolding name_in
name_in_sound l (a_name x) ls e = holds_took (λ x rest. Takes (Is (a_name x)) (l ∷ ls) rest) x ls (takes_token l ls (a_name x) e)
name_in_sound l (a_number n) ls e = holds_wrong (λ x rest. Takes (Is (a_name x)) (l ∷ ls) rest) (l ∷ ls)
name_in_sound l (a_word w) ls e = holds_wrong (λ x rest. Takes (Is (a_name x)) (l ∷ ls) rest) (l ∷ ls)

pub name_sound : (ls : List Lexeme) → Holds (λ x rest. Takes (Is (a_name x)) ls rest) (name_from ls)
unfolding name_from
name_sound [] = holds_wrong (λ x rest. Takes (Is (a_name x)) [] rest) []
name_sound (l ∷ ls) = name_in_sound l l.saying ls refl

kept_some : (b : Bool) (ls next : List Lexeme) → kept b ls ≡ Some next → (b ≡ true) × (next ≡ ls)
kept_some true ls next e = (refl, sym (ap or_else e))
  where
    or_else : Option (List Lexeme) → List Lexeme
    or_else None = ls
    or_else (Some z) = z
kept_some false ls next e = absurd cc

pub kept-sound : (b : Bool) (ls next : List Lexeme) → kept b ls ≡ Some next → (b ≡ true) × (next ≡ ls)
kept-sound = kept_some

-- a list that goes on has a comma, and the tokens behind it
pub comma_sound : {A : Type 0} (last : A) (ls next : List Lexeme) → behind_comma last ls ≡ Some next → Takes (Says ",") ls next
comma_sound last ls next e =
    let k = kept_some (says (codes ",") ls) (behind ls) next e in
    subst (λ x. Takes (Says ",") ls x) (sym k.1) (says_sound (codes ",") ls k.0)

-- names behind another, each behind a comma
MoreNames : List Name → Phrase
MoreNames [] = Silence
MoreNames (x ∷ xs) = Says "," followed_by Is (a_name x) followed_by MoreNames xs

names_made : (x : Name) (xs : List Name) (front : List Lexeme) → (Is (a_name x) followed_by MoreNames xs) front → Names (x ∷ xs) front
unfolding Names MoreNames
names_made x [] front h = (h.3.0, h.2 ∙ ap (λ y. h.0 ++ y) h.4 ∙ ap (λ y. y ++ []) h.3.1)
names_made x (y ∷ ys) front h = (h.0, h.1, h.2, h.3, (h.4.0, h.4.1, h.4.2, h.4.3, names_made y ys h.4.1 h.4.4))

pub names_sound : (ls : List Lexeme) → Holds (λ xs rest. Takes (Names xs) ls rest) (names_from ls)
unfolding names_from MoreNames
names_sound ls =
    holds_then (λ x rest. Takes (Is (a_name x)) ls rest) (λ xs rest. Takes (Names xs) ls rest) (name_from ls) _ (name_sound ls)
    (λ x rest t.
    holds_then (λ xs end. Takes (MoreNames xs) rest end) (λ xs end. Takes (Names xs) ls end) (others_from behind_comma (λ last. name_from) x rest) (λ xs end. took (x ∷ xs) end)
    (more_sound behind_comma (λ last. name_from) (λ last from xs end. Takes (MoreNames xs) from end) (λ last from. takes_nothing from)
    (λ last from next e. holds_as (λ y r. Takes (Is (a_name y)) next r) _ (name_from next) (name_sound next)
    (λ y r s ys end m. takes_then (Says ",") (Is (a_name y) followed_by MoreNames ys) from next end (comma_sound last from next e) (takes_then (Is (a_name y)) (MoreNames ys) next r end s m)))
    (length rest) x rest)
    (λ xs end m. holds_took (λ xs end. Takes (Names xs) ls end) (x ∷ xs) end (takes_as (Is (a_name x) followed_by MoreNames xs) (Names (x ∷ xs)) ls end (names_made x xs) (takes_then (Is (a_name x)) (MoreNames xs) ls rest end t m))))

-- ---- parts

pub closed_sound : (Q : ExprTree → List Lexeme → Type 0) (bytes : List ℕ) (e : ExprTree) (ls : List Lexeme)
    → ((rest : List Lexeme) → Takes (Is (a_word bytes)) ls rest → Q e rest) → Holds Q (closed_by bytes e ls)
closed_sound Q bytes e ls k =
    holds_then (λ p rest. Takes (Is (a_word bytes)) ls rest) Q (word_from bytes ls) (λ p rest. took e rest) (word_sound bytes ls) (λ p rest t. holds_took Q e rest (k rest t))

module _ (less : ℕ) (low : Lower) (good : AreSound less low) where
  -- a part behind a word
  part_sound : {A : Type 0} (Q : A → List Lexeme → Type 0) (bytes : List ℕ) (go_on : ExprTree → Reader A) (ls : List Lexeme)
      → ((e : ExprTree) (rest : List Lexeme) → height e ≤ less → Takes (Is (a_word bytes) followed_by Spells implications e) ls rest → Holds Q (go_on e rest))
      → Holds Q (word_from bytes ls and_then λ _ rest. low.expr implications rest and_then go_on)
  unfolding rank
  part_sound Q bytes go_on ls k =
      holds_then (λ p rest. Takes (Is (a_word bytes)) ls rest) Q (word_from bytes ls) (λ _ rest. low.expr implications rest and_then go_on) (word_sound bytes ls)
      (λ p mid t. holds_then (IsExpr implications less mid) Q (low.expr implications mid) go_on (good.expr implications refl mid)
      (λ e rest h. k e rest h.low (takes_then (Is (a_word bytes)) (Spells implications e) ls mid rest t (takes_expr implications less mid e rest h))))

  pub brackets_sound : {A : Type 0} (Q : A → List Lexeme → Type 0) (go_on : ExprTree → Reader A) (ls : List Lexeme)
      → ((e : ExprTree) (rest : List Lexeme) → height e ≤ less → Takes (Says "(" followed_by Spells implications e) ls rest → Holds Q (go_on e rest))
      → Holds Q (in_brackets low go_on ls)
  brackets_sound Q go_on ls k = part_sound Q (codes "(") go_on ls k

  pub and_part_sound : (Q : ExprTree → List Lexeme → Type 0) (go_on : ExprTree → Reader ExprTree) (ls : List Lexeme)
      → ((e : ExprTree) (rest : List Lexeme) → height e ≤ less → Takes (Says "," followed_by Spells implications e) ls rest → Holds Q (go_on e rest))
      → Holds Q (and_part low go_on ls)
  and_part_sound Q go_on ls k = part_sound Q (codes ",") go_on ls k
