-- A turn of a list of names.
use Rattle.std.specs.Prelude.{◌≡◌, ◌≤◌, ◌<◌, Bool, true, false, List, [], ◌∷◌, ◌++◌, length, Option, Some, None, codes, if◌then◌else◌, refl}
use Rattle.std.proofs.Common.{ap, arith, sym, ◌∙◌, append_assoc}
use Rattle.ep_base.specs.declared.names.Name.{Name}
use Rattle.ep_parse_parts.proofs.Turns.{list_turn}
use Rattle.ep_parse_parts.specs.Cursors.{StopsReading, passing}
use Rattle.ep_parse_parts.specs.declared.cursor.Stop.{Stop}
use Rattle.ep_parse_parts.specs.declared.cursor.Stop.TheVariants.{Memory, TooHigh, Wrong}
use Rattle.ep_parse_parts.specs.Readers.{Read, behind, behind_comma, going_on, high, kept, name_from, name_in, names_from, others_from, says, took, wrong, ◌and_then◌}
use Rattle.ep_tree.specs.Phrases.{Lexeme, Saying, a_name, a_number, a_word}

-- items before those that are read
abbrev pub continued : {A : Type 0} → List A → Read (List A) → Read (List A)
continued xs r = r and_then λ ys end. took (xs ++ ys) end

said_shrinks : (l : Lexeme) (s : Saying) (ls rest : List Lexeme) (x : Name) → name_in l s ls ≡ took x rest → length rest ≡ length ls
unfolding name_in
said_shrinks l (a_name y) ls rest x e = ap (λ r. length (left r)) (sym e)
  where
    left : Read Name → List Lexeme
    left (took z zs) = zs
    left (wrong zs) = zs
    left (high zs) = zs
said_shrinks l (a_number n) ls rest x e = absurd cc
said_shrinks l (a_word w) ls rest x e = absurd cc

pub name_shrinks : (ls rest : List Lexeme) (x : Name) → name_from ls ≡ took x rest → length rest < length ls
unfolding name_from
name_shrinks [] rest x e = absurd cc
name_shrinks (l ∷ ls) rest x e = let same = said_shrinks l l.saying ls rest x e in omega (arith, same)

comma_ends : (last : Name) → behind_comma last [] ≡ None
unfolding says
comma_ends last = refl

pub kept_is : (b : Bool) (ls next : List Lexeme) → kept b ls ≡ Some next → next ≡ ls
kept_is true ls next e = ap (λ o. or_this o) (sym e)
  where
    or_this : Option (List Lexeme) → List Lexeme
    or_this (Some x) = x
    or_this None = ls
kept_is false ls next e = absurd cc

pub behind_short : (ls : List Lexeme) → length (behind ls) ≤ length ls
behind_short [] = omega arith
behind_short (l ∷ ls) = omega arith

comma_shrinks : (last : Name) (ls next : List Lexeme) (x : Name) (rest : List Lexeme) → behind_comma last ls ≡ Some next → name_from next ≡ took x rest → length rest < length ls
comma_shrinks last ls next x rest o e =
    let is : length next ≡ length (behind ls) = ap length (kept_is (says (codes ",") ls) (behind ls) next o) in
    omega (arith, is, name_shrinks next rest x e, behind_short ls)

-- names are a name, and then names where a comma is next
pub names_turn : (x : Name) (ls : List Lexeme) → others_from behind_comma (λ last. name_from) x ls ≡ going_on (behind_comma x ls) ls names_from
unfolding names_from
names_turn x ls = list_turn behind_comma (λ last. name_from) comma_ends comma_shrinks x ls

-- ---- the loop over names

-- where a name is refused, names are
pub names_fail : (items : List Name) (cursor new start : List Lexeme) (e : Stop) → continued items (names_from cursor) ≡ names_from start → StopsReading e new (name_from cursor) → StopsReading e new (names_from start)
unfolding names_from
names_fail items cursor new start Wrong inv k =
    sym inv ∙ ap (λ r. continued items (r and_then λ x rest. others_from behind_comma (λ last. name_from) x rest and_then λ xs end. took (x ∷ xs) end)) k
names_fail items cursor new start TooHigh inv k =
    sym inv ∙ ap (λ r. continued items (r and_then λ x rest. others_from behind_comma (λ last. name_from) x rest and_then λ xs end. took (x ∷ xs) end)) k
names_fail items cursor new start Memory inv k = tt

-- names, where the first is this
with_name : (items : List Name) (cursor mid start : List Lexeme) (x : Name) → continued items (names_from cursor) ≡ names_from start → name_from cursor ≡ took x mid
    → names_from start ≡ continued items (going_on (behind_comma x mid) mid names_from and_then λ xs end. took (x ∷ xs) end)
unfolding names_from
with_name items cursor mid start x inv first =
    sym inv
    ∙ ap (λ r. continued items (r and_then λ y rest. others_from behind_comma (λ last. name_from) y rest and_then λ xs end. took (y ∷ xs) end)) first
    ∙ ap (λ r. continued items (r and_then λ xs end. took (x ∷ xs) end)) (names_turn x mid)

pub passed : (seen : Bool) (new mid : List Lexeme) → (seen, new) ≡ passing (codes ",") mid → (says (codes ",") mid ≡ seen) × (new ≡ (if seen then behind mid else mid))
unfolding passing
passed seen new mid e =
    let one : says (codes ",") mid ≡ seen = sym (ap (λ (p : Bool × List Lexeme). p.0) e) in
    (one, ap (λ (p : Bool × List Lexeme). p.1) e ∙ ap (λ b. if b then behind mid else mid) one)

-- no comma comes: these are the names
pub names_end : (items : List Name) (cursor mid new start : List Lexeme) (x : Name) → continued items (names_from cursor) ≡ names_from start → name_from cursor ≡ took x mid → (false, new) ≡ passing (codes ",") mid
    → names_from start ≡ took (items ++ x ∷ []) new
names_end items cursor mid new start x inv first e =
    let p = passed false new mid e in
    with_name items cursor mid start x inv first
    ∙ ap (λ b. continued items (going_on (kept b (behind mid)) mid names_from and_then λ xs end. took (x ∷ xs) end)) p.0
    ∙ ap (λ ls. took (items ++ x ∷ []) ls) (sym p.1)

pub one_more : (items : List Name) (x : Name) (r : Read (List Name)) → continued items (r and_then λ xs end. took (x ∷ xs) end) ≡ continued (items ++ x ∷ []) r
one_more items x (took ys ls) = ap (λ zs. took zs ls) (sym (append_assoc items (x ∷ []) ys))
one_more items x (wrong ls) = refl
one_more items x (high ls) = refl

-- a comma comes: names go on
pub names_go : (items : List Name) (cursor mid new start : List Lexeme) (x : Name) → continued items (names_from cursor) ≡ names_from start → name_from cursor ≡ took x mid → (true, new) ≡ passing (codes ",") mid
    → continued (items ++ x ∷ []) (names_from new) ≡ names_from start
names_go items cursor mid new start x inv first e =
    let p = passed true new mid e in
    sym (with_name items cursor mid start x inv first
    ∙ ap (λ b. continued items (going_on (kept b (behind mid)) mid names_from and_then λ xs end. took (x ∷ xs) end)) p.0
    ∙ one_more items x (names_from (behind mid))
    ∙ ap (λ ls. continued (items ++ x ∷ []) (names_from ls)) (sym p.1))

pub names_smaller : (cursor mid new : List Lexeme) (x : Name) → name_from cursor ≡ took x mid → (true, new) ≡ passing (codes ",") mid → length new < length cursor
names_smaller cursor mid new x first e =
    let p = passed true new mid e in
    let is : length new ≡ length (behind mid) = ap length p.1 in
    omega (arith, is, behind_short mid, name_shrinks cursor mid x first)
