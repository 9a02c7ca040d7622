-- Loops over lists that begin with an item, over items behind commas, and over what grows.
use Rattle.std.specs.Prelude.{◌≡◌, ◌≤◌, ◌<◌, ℕ, zero, suc, Bool, true, false, List, [], ◌∷◌, ◌++◌, length, Option, Some, None, codes, refl}
use Rattle.std.proofs.Common.{ap, arith, append_assoc, sym, subst, ◌∙◌}
use Rattle.ep_parse_parts.proofs.ListTurns.{list_ends, list_fails, list_goes}
use Rattle.ep_parse_parts.proofs.NameTurns.{behind_short, continued, kept_is, passed}
use Rattle.ep_parse_parts.proofs.Turns.{grown_turn, list_turn}
use Rattle.ep_parse_parts.specs.Cursors.{StopsReading, passing}
use Rattle.ep_parse_parts.specs.Gathered.{Gathered}
use Rattle.ep_parse_parts.specs.Readers.{Read, Reader, behind, behind_comma, going_on, grown, growing, high, kept, more_from, others_from, says, took, wrong, ◌and_then◌}
use Rattle.ep_parse_parts.specs.declared.cursor.Stop.{Stop}
use Rattle.ep_parse_parts.specs.declared.cursor.Stop.TheVariants.{Memory, TooHigh, Wrong}
use Rattle.ep_tree.specs.Phrases.{Lexeme}

-- ---- what is gathered

items_of : {A : Type 0} → Read (List A) → List A
items_of (took xs ls) = xs
items_of (wrong ls) = []
items_of (high ls) = []

tokens_of : {A : Type 0} → Read A → List Lexeme
tokens_of (took x ls) = ls
tokens_of (wrong ls) = ls
tokens_of (high ls) = ls

pub gathered : {A : Type 0} (done all : List A) (left : List Lexeme) (r : Read (List A)) → continued done r ≡ took all left → Gathered done all left r
unfolding items_of tokens_of
gathered done all left (took more ls) e =
    record { more = more; is = ap (λ k. took more k) (ap tokens_of e); together = sym (ap items_of e) }
gathered done all left (wrong ls) e = absurd cc
gathered done all left (high ls) e = absurd cc

pub stops_inside : {A : Type 0} (done : List A) (e : Stop) (left : List Lexeme) (r : Read (List A)) → StopsReading e left (continued done r) → StopsReading e left r
unfolding tokens_of
stops_inside done Wrong left (took more ls) s = absurd cc
stops_inside done Wrong left (wrong ls) s = ap (λ k. wrong k) (ap tokens_of s)
stops_inside done Wrong left (high ls) s = absurd cc
stops_inside done TooHigh left (took more ls) s = absurd cc
stops_inside done TooHigh left (wrong ls) s = absurd cc
stops_inside done TooHigh left (high ls) s = ap (λ k. high k) (ap tokens_of s)
stops_inside done Memory left r s = tt

pub continued_none : {A : Type 0} (r : Read (List A)) → continued [] r ≡ r
continued_none (took xs ls) = refl
continued_none (wrong ls) = refl
continued_none (high ls) = refl

-- ---- a list behind its first item

-- items, the first of which is given
abbrev pub from_first : {A : Type 0} → (A → List Lexeme → Option (List Lexeme)) → (A → Reader A) → Read A → Read (List A)
from_first goes_on item first = first and_then λ x rest. others_from goes_on item x rest and_then λ xs end. took (x ∷ xs) end

one_behind : {A : Type 0} (items : List A) (x : A) (r : Read (List A)) → continued items (r and_then λ xs end. took (x ∷ xs) end) ≡ continued (items ++ x ∷ []) r
one_behind items x (took ys ls) = ap (λ zs. took zs ls) (sym (append_assoc items (x ∷ []) ys))
one_behind items x (wrong ls) = refl
one_behind items x (high ls) = refl

module _ {A : Type 0} (goes_on : A → List Lexeme → Option (List Lexeme)) (item : A → Reader A)
    (ends : (last : A) → goes_on last [] ≡ None)
    (shrinks : (last : A) (ls next : List Lexeme) (x : A) (rest : List Lexeme) → goes_on last ls ≡ Some next → item last next ≡ took x rest → length rest < length ls) where
  -- the item is refused: so is the list
  pub first_fails : (done : List A) (first : Read A) (whole : Read (List A)) (new : List Lexeme) (e : Stop) → continued done (from_first goes_on item first) ≡ whole → StopsReading e new first → StopsReading e new whole
  first_fails done first whole new Wrong inv s = sym inv ∙ ap (λ r. continued done (from_first goes_on item r)) s
  first_fails done first whole new TooHigh inv s = sym inv ∙ ap (λ r. continued done (from_first goes_on item r)) s
  first_fails done first whole new Memory inv s = tt

  behind_first : (done : List A) (first : Read A) (whole : Read (List A)) (x : A) (mid : List Lexeme) → continued done (from_first goes_on item first) ≡ whole → first ≡ took x mid
      → whole ≡ continued (done ++ x ∷ []) (others_from goes_on item x mid)
  behind_first done first whole x mid inv e =
      sym inv ∙ ap (λ r. continued done (from_first goes_on item r)) e ∙ one_behind done x (others_from goes_on item x mid)

  -- the list ends behind it
  pub first_ends : (done : List A) (first : Read A) (whole : Read (List A)) (x : A) (mid : List Lexeme) → continued done (from_first goes_on item first) ≡ whole → first ≡ took x mid
      → goes_on x mid ≡ None → whole ≡ took (done ++ x ∷ []) mid
  first_ends done first whole x mid inv e o =
      list_ends goes_on item ends shrinks whole (done ++ x ∷ []) x mid (sym (behind_first done first whole x mid inv e)) o

  -- the list goes on behind it
  pub first_goes : (done : List A) (first : Read A) (whole : Read (List A)) (x : A) (mid next : List Lexeme) → continued done (from_first goes_on item first) ≡ whole → first ≡ took x mid
      → goes_on x mid ≡ Some next → continued (done ++ x ∷ []) (from_first goes_on item (item x next)) ≡ whole
  first_goes done first whole x mid next inv e o =
      sym (behind_first done first whole x mid inv e
      ∙ ap (continued (done ++ x ∷ [])) (list_turn goes_on item ends shrinks x mid ∙ ap (λ p. going_on p mid (λ n. from_first goes_on item (item x n))) o))

-- ---- items behind commas

-- a list whose first item is given, behind which more is made of all
pub regrouped : {A B : Type 0} (first : Read A) (others : A → Reader (List A)) (make : List A → Reader B)
    → (first and_then λ x rest. others x rest and_then λ xs end. make (x ∷ xs) end) ≡ ((first and_then λ x rest. others x rest and_then λ xs end. took (x ∷ xs) end) and_then make)
regrouped {A} {B} (took x rest) others make = inner x (others x rest)
  where
    inner : (x : A) (r : Read (List A)) → (r and_then λ xs end. make (x ∷ xs) end) ≡ ((r and_then λ xs end. took (x ∷ xs) end) and_then make)
    inner x (took xs end) = refl
    inner x (wrong ls) = refl
    inner x (high ls) = refl
regrouped {A} {B} (wrong ls) others make = refl
regrouped {A} {B} (high ls) others make = refl

pub comma_ends : {A : Type 0} (last : A) → behind_comma last [] ≡ None
unfolding says
comma_ends last = refl

pub comma_shorter : {A : Type 0} (last : A) (ls next : List Lexeme) → behind_comma last ls ≡ Some next → length next ≤ length ls
comma_shorter last ls next o =
    let is : length next ≡ length (behind ls) = ap length (kept_is (says (codes ",") ls) (behind ls) next o) in
    omega (arith, is, behind_short ls)

-- whether a comma came
pub comma_came : {A : Type 0} (last : A) (new mid : List Lexeme) → (true, new) ≡ passing (codes ",") mid → behind_comma last mid ≡ Some new
comma_came last new mid e = let p = passed true new mid e in ap (λ b. kept b (behind mid)) p.0 ∙ ap (λ k. Some k) (sym p.1)

pub no_comma : {A : Type 0} (last : A) (new mid : List Lexeme) → (false, new) ≡ passing (codes ",") mid → behind_comma last mid ≡ None
no_comma last new mid e = let p = passed false new mid e in ap (λ b. kept b (behind mid)) p.0

pub same_without_comma : (new mid : List Lexeme) → (false, new) ≡ passing (codes ",") mid → new ≡ mid
same_without_comma new mid e = (passed false new mid e).1

module _ {A : Type 0} (item : Reader A) (shorter : (ls rest : List Lexeme) (x : A) → item ls ≡ took x rest → length rest < length ls) where
  comma_shrinks : (last : A) (ls next : List Lexeme) (x : A) (rest : List Lexeme) → behind_comma last ls ≡ Some next → item next ≡ took x rest → length rest < length ls
  comma_shrinks last ls next x rest o e = omega (arith, shorter next rest x e, comma_shorter last ls next o)

  any_last : (n : ℕ) (x y : A) (ls : List Lexeme) → more_from behind_comma (λ last. item) n x ls ≡ more_from behind_comma (λ last. item) n y ls
  unfolding more_from
  any_last zero x y ls = refl
  any_last (suc n) x y ls = refl

  -- which item is the last doesn't matter
  pub same_last : (x y : A) (ls : List Lexeme) → others_from behind_comma (λ last. item) x ls ≡ others_from behind_comma (λ last. item) y ls
  same_last x y ls = any_last (length ls) x y ls

  pub commas_end : (done : List A) (d : A) (whole : Read (List A)) (ls new : List Lexeme) → continued done (others_from behind_comma (λ last. item) d ls) ≡ whole → (false, new) ≡ passing (codes ",") ls
      → whole ≡ took done new
  commas_end done d whole ls new inv e =
      list_ends behind_comma (λ last. item) comma_ends comma_shrinks whole done d ls inv (no_comma d new ls e) ∙ ap (λ k. took done k) (sym (same_without_comma new ls e))

  pub commas_fail : (done : List A) (d : A) (whole : Read (List A)) (ls next new : List Lexeme) (e : Stop) → continued done (others_from behind_comma (λ last. item) d ls) ≡ whole
      → (true, next) ≡ passing (codes ",") ls → StopsReading e new (item next) → StopsReading e new whole
  commas_fail done d whole ls next new e inv p s =
      list_fails behind_comma (λ last. item) comma_ends comma_shrinks whole done d ls next new e inv (comma_came d next ls p) s

  pub commas_go : (done : List A) (d x : A) (whole : Read (List A)) (ls next new : List Lexeme) → continued done (others_from behind_comma (λ last. item) d ls) ≡ whole
      → (true, next) ≡ passing (codes ",") ls → item next ≡ took x new → continued (done ++ x ∷ []) (others_from behind_comma (λ last. item) d new) ≡ whole
  commas_go done d x whole ls next new inv p e =
      ap (continued (done ++ x ∷ [])) (same_last d x new)
      ∙ list_goes behind_comma (λ last. item) comma_ends comma_shrinks whole done d x ls next new inv (comma_came d next ls p) e

  pub commas_smaller : (x : A) (ls next new : List Lexeme) → (true, next) ≡ passing (codes ",") ls → item next ≡ took x new → length new < length ls
  commas_smaller x ls next new p e = comma_shrinks x ls next x new (comma_came x next ls p) e

-- ---- what grows

module _ {A : Type 0} (step : A → List Lexeme → Option (Read A))
    (ends : (x : A) → step x [] ≡ None)
    (shrinks : (x y : A) (ls rest : List Lexeme) → step x ls ≡ Some (took y rest) → length rest < length ls) where
  grown_as : (x : A) (ls : List Lexeme) (whole : Read A) (o : Option (Read A)) → grown step x ls ≡ whole → step x ls ≡ o → whole ≡ growing o x ls (grown step)
  grown_as x ls whole o inv e = sym inv ∙ grown_turn step ends shrinks x ls ∙ ap (λ p. growing p x ls (grown step)) e

  -- no step is made
  pub grown_ends : (x : A) (ls : List Lexeme) (whole : Read A) → grown step x ls ≡ whole → step x ls ≡ None → whole ≡ took x ls
  grown_ends x ls whole inv e = grown_as x ls whole None inv e

  -- a step is refused
  pub grown_fails : (x : A) (ls new : List Lexeme) (whole r : Read A) (e : Stop) → grown step x ls ≡ whole → step x ls ≡ Some r → StopsReading e new r → StopsReading e new whole
  grown_fails x ls new whole r Wrong inv e s = grown_as x ls whole (Some r) inv e ∙ ap (λ q. q and_then grown step) s
  grown_fails x ls new whole r TooHigh inv e s = grown_as x ls whole (Some r) inv e ∙ ap (λ q. q and_then grown step) s
  grown_fails x ls new whole r Memory inv e s = tt

  -- a step is made
  pub grown_goes : (x y : A) (ls new : List Lexeme) (whole r : Read A) → grown step x ls ≡ whole → step x ls ≡ Some r → r ≡ took y new → grown step y new ≡ whole
  grown_goes x y ls new whole r inv e s = sym (grown_as x ls whole (Some r) inv e ∙ ap (λ q. q and_then grown step) s)

  pub grown_smaller : (x y : A) (ls new : List Lexeme) (r : Read A) → step x ls ≡ Some r → r ≡ took y new → length new < length ls
  grown_smaller x y ls new r e s = shrinks x y ls new (e ∙ ap (λ q. Some q) s)
