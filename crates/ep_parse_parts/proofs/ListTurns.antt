-- A turn of the loop over a list, whatever its items are: what was read so far, and what is still read, are all that is
-- read.
use Rattle.std.specs.Prelude.{◌≡◌, ◌<◌, List, [], ◌∷◌, ◌++◌, length, Option, Some, None, refl}
use Rattle.std.proofs.Common.{ap, append_assoc, sym, ◌∙◌}
use Rattle.ep_parse_parts.proofs.NameTurns.{continued}
use Rattle.ep_parse_parts.proofs.Turns.{list_turn}
use Rattle.ep_parse_parts.specs.Cursors.{StopsReading}
use Rattle.ep_parse_parts.specs.Readers.{Read, Reader, going_on, high, others_from, took, wrong, ◌and_then◌}
use Rattle.ep_parse_parts.specs.declared.cursor.Stop.{Stop}
use Rattle.ep_parse_parts.specs.declared.cursor.Stop.TheVariants.{Memory, TooHigh, Wrong}
use Rattle.ep_tree.specs.Phrases.{Lexeme}

one_more : {A : Type 0} (items : List A) (x : A) (r : Read (List A)) → continued items (r and_then λ xs end. took (x ∷ xs) end) ≡ continued (items ++ x ∷ []) r
one_more items x (took ys ls) = ap (λ zs. took zs ls) (sym (append_assoc items (x ∷ []) ys))
one_more items x (wrong ls) = refl
one_more items x (high ls) = refl

module _ {A : Type 0} (goes_on : A → List Lexeme → Option (List Lexeme)) (item : A → Reader A)
    (ends : (last : A) → goes_on last [] ≡ None)
    (shrinks : (last : A) (ls next : List Lexeme) (x : A) (rest : List Lexeme) → goes_on last ls ≡ Some next → item last next ≡ took x rest → length rest < length ls) where
  -- the loop's invariant
  abbrev pub Whole : Read (List A) → List A → A → List Lexeme → Type 0
  Whole whole done last ls = continued done (others_from goes_on item last ls) ≡ whole

  turned : (whole : Read (List A)) (done : List A) (last : A) (ls : List Lexeme) (o : Option (List Lexeme)) → Whole whole done last ls → goes_on last ls ≡ o
      → whole ≡ continued done (going_on o ls (λ next. item last next and_then λ x rest. others_from goes_on item x rest and_then λ xs end. took (x ∷ xs) end))
  turned whole done last ls o inv e =
      sym inv ∙ ap (continued done) (list_turn goes_on item ends shrinks last ls)
      ∙ ap (λ p. continued done (going_on p ls (λ next. item last next and_then λ x rest. others_from goes_on item x rest and_then λ xs end. took (x ∷ xs) end))) e

  none_more : (xs : List A) → xs ++ [] ≡ xs
  none_more [] = refl
  none_more (x ∷ xs) = ap (λ ys. x ∷ ys) (none_more xs)

  -- the list ends here
  pub list_ends : (whole : Read (List A)) (done : List A) (last : A) (ls : List Lexeme) → Whole whole done last ls → goes_on last ls ≡ None → whole ≡ took done ls
  list_ends whole done last ls inv e = turned whole done last ls None inv e ∙ ap (λ xs. took xs ls) (none_more done)

  on : (whole : Read (List A)) (done : List A) (last : A) (ls next : List Lexeme) → Whole whole done last ls → goes_on last ls ≡ Some next
      → whole ≡ continued done (item last next and_then λ x rest. others_from goes_on item x rest and_then λ xs end. took (x ∷ xs) end)
  on whole done last ls next inv e = turned whole done last ls (Some next) inv e

  -- an item is refused: so is the list
  pub list_fails : (whole : Read (List A)) (done : List A) (last : A) (ls next new : List Lexeme) (e : Stop) → Whole whole done last ls → goes_on last ls ≡ Some next
      → StopsReading e new (item last next) → StopsReading e new whole
  list_fails whole done last ls next new Wrong inv g s =
      on whole done last ls next inv g ∙ ap (λ r. continued done (r and_then λ x rest. others_from goes_on item x rest and_then λ xs end. took (x ∷ xs) end)) s
  list_fails whole done last ls next new TooHigh inv g s =
      on whole done last ls next inv g ∙ ap (λ r. continued done (r and_then λ x rest. others_from goes_on item x rest and_then λ xs end. took (x ∷ xs) end)) s
  list_fails whole done last ls next new Memory inv g s = tt

  -- an item is read: the list goes on behind it
  pub list_goes : (whole : Read (List A)) (done : List A) (last x : A) (ls next new : List Lexeme) → Whole whole done last ls → goes_on last ls ≡ Some next
      → item last next ≡ took x new → Whole whole (done ++ x ∷ []) x new
  list_goes whole done last x ls next new inv g e =
      sym (on whole done last ls next inv g ∙ ap (λ r. continued done (r and_then λ x rest. others_from goes_on item x rest and_then λ xs end. took (x ∷ xs) end)) e
      ∙ one_more done x (others_from goes_on item x new))
