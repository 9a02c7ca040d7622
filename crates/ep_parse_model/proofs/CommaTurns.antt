-- Loops over lists with commas between the items.
use Rattle.std.specs.Prelude.{◌≡◌, ◌<◌, Bool, true, false, List, [], ◌∷◌, ◌++◌, length, Option, Some, None, codes, if◌then◌else◌, refl}
use Rattle.std.proofs.Common.{ap, arith, sym, ◌∙◌, append_assoc}
use Rattle.ep_parse_parts.proofs.NameTurns.{continued}
use Rattle.ep_parse_parts.proofs.Turns.{list_turn}
use Rattle.ep_parse_parts.specs.Cursors.{StopsReading, passing}
use Rattle.ep_parse_parts.specs.declared.cursor.Stop.{Stop}
use Rattle.ep_parse_parts.specs.declared.cursor.Stop.TheVariants.{Memory, TooHigh, Wrong}
use Rattle.ep_parse_parts.specs.Readers.{Read, Reader, behind, behind_comma, going_on, high, kept, others_from, says, took, wrong, ◌and_then◌}
use Rattle.ep_parse_model.proofs.Shrinking.{behind_short}
use Rattle.ep_tree.specs.Phrases.{Lexeme}

pub kept_is : (b : Bool) (ls next : List Lexeme) → kept b ls ≡ Some next → next ≡ ls
kept_is true ls next e = ap (λ o. or_this o) (sym e)
  where
    or_this : Option (List Lexeme) → List Lexeme
    or_this (Some x) = x
    or_this None = ls
kept_is false ls next e = absurd cc

-- what is known where it was tried to pass a comma
pub passed : (seen : Bool) (new mid : List Lexeme) → (seen, new) ≡ passing (codes ",") mid → (says (codes ",") mid ≡ seen) × (new ≡ (if seen then behind mid else mid))
unfolding passing
passed seen new mid e =
    let one : says (codes ",") mid ≡ seen = sym (ap (λ (p : Bool × List Lexeme). p.0) e) in
    (one, ap (λ (p : Bool × List Lexeme). p.1) e ∙ ap (λ b. if b then behind mid else mid) one)

-- items that were read, one more, and others
pub one_more : {A : Type 0} (items : List A) (x : A) (r : Read (List A)) → continued items (r and_then λ xs end. took (x ∷ xs) end) ≡ continued (items ++ x ∷ []) r
one_more items x (took ys ls) = ap (λ zs. took zs ls) (sym (append_assoc items (x ∷ []) ys))
one_more items x (wrong ls) = refl
one_more items x (high ls) = refl

-- nothing was read yet
pub none_yet : {A : Type 0} (r : Read (List A)) → continued [] r ≡ r
none_yet (took ys ls) = refl
none_yet (wrong ls) = refl
none_yet (high ls) = refl

-- what stops a part stops all
pub stops_all : {A B : Type 0} (e : Stop) (new : List Lexeme) (r : Read A) (f : A → Reader B) → StopsReading e new r → StopsReading e new (r and_then f)
stops_all Wrong new r f h = ap (λ q. q and_then f) h
stops_all TooHigh new r f h = ap (λ q. q and_then f) h
stops_all Memory new r f h = tt

pub stops_so : {A : Type 0} (e : Stop) (new : List Lexeme) (r s : Read A) → r ≡ s → StopsReading e new r → StopsReading e new s
stops_so Wrong new r s same h = sym same ∙ h
stops_so TooHigh new r s same h = sym same ∙ h
stops_so Memory new r s same h = tt

module _ {A : Type 0} (item : Reader A) (shrinks : (ls rest : List Lexeme) (x : A) → item ls ≡ took x rest → length rest < length ls) where
  -- items with commas between them
  abbrev pub all : Reader (List A)
  all ls = item ls and_then λ x rest. others_from behind_comma (λ last. item) x rest and_then λ xs end. took (x ∷ xs) end

  comma_ends : (last : A) → behind_comma last [] ≡ None
  unfolding says
  comma_ends last = refl

  comma_shrinks : (last : A) (ls next : List Lexeme) (x : A) (rest : List Lexeme) → behind_comma last ls ≡ Some next → item next ≡ took x rest → length rest < length ls
  comma_shrinks last ls next x rest o e =
      let is : length next ≡ length (behind ls) = ap length (kept_is (says (codes ",") ls) (behind ls) next o) in
      omega (arith, is, shrinks next rest x e, behind_short ls)

  all_turn : (x : A) (ls : List Lexeme) → others_from behind_comma (λ last. item) x ls ≡ going_on (behind_comma x ls) ls all
  all_turn x ls = list_turn behind_comma (λ last. item) comma_ends comma_shrinks x ls

  pub fails : (items : List A) (cursor new start : List Lexeme) (e : Stop) → continued items (all cursor) ≡ all start → StopsReading e new (item cursor) → StopsReading e new (all start)
  fails items cursor new start e inv k =
      stops_so e new (continued items (all cursor)) (all start) inv
      (stops_all e new (all cursor) (λ ys end. took (items ++ ys) end) (stops_all e new (item cursor) (λ x rest. others_from behind_comma (λ last. item) x rest and_then λ xs end. took (x ∷ xs) end) k))

  with_item : (items : List A) (cursor mid start : List Lexeme) (x : A) → continued items (all cursor) ≡ all start → item cursor ≡ took x mid
      → all start ≡ continued items (going_on (behind_comma x mid) mid all and_then λ xs end. took (x ∷ xs) end)
  with_item items cursor mid start x inv first =
      sym inv
      ∙ ap (λ r. continued items (r and_then λ y rest. others_from behind_comma (λ last. item) y rest and_then λ xs end. took (y ∷ xs) end)) first
      ∙ ap (λ r. continued items (r and_then λ xs end. took (x ∷ xs) end)) (all_turn x mid)

  -- no comma comes: these are the items
  pub ends : (items : List A) (cursor mid new start : List Lexeme) (x : A) → continued items (all cursor) ≡ all start → item cursor ≡ took x mid → (false, new) ≡ passing (codes ",") mid
      → all start ≡ took (items ++ x ∷ []) new
  ends items cursor mid new start x inv first e =
      let p = passed false new mid e in
      with_item items cursor mid start x inv first
      ∙ ap (λ b. continued items (going_on (kept b (behind mid)) mid all and_then λ xs end. took (x ∷ xs) end)) p.0
      ∙ ap (λ ls. took (items ++ x ∷ []) ls) (sym p.1)

  -- a comma comes: items go on
  pub goes : (items : List A) (cursor mid new start : List Lexeme) (x : A) → continued items (all cursor) ≡ all start → item cursor ≡ took x mid → (true, new) ≡ passing (codes ",") mid
      → continued (items ++ x ∷ []) (all new) ≡ all start
  goes items cursor mid new start x inv first e =
      let p = passed true new mid e in
      sym (with_item items cursor mid start x inv first
      ∙ ap (λ b. continued items (going_on (kept b (behind mid)) mid all and_then λ xs end. took (x ∷ xs) end)) p.0
      ∙ one_more items x (all (behind mid))
      ∙ ap (λ ls. continued (items ++ x ∷ []) (all ls)) (sym p.1))

  pub smaller : (cursor mid new : List Lexeme) (x : A) → item cursor ≡ took x mid → (true, new) ≡ passing (codes ",") mid → length new < length cursor
  smaller cursor mid new x first e =
      let p = passed true new mid e in
      let is : length new ≡ length (behind mid) = ap length p.1 in
      omega (arith, is, behind_short mid, shrinks cursor mid x first)
