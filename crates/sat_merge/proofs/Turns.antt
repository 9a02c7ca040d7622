-- A turn of the loop over the rows of a proof.
use Rattle.std.proofs.Common.{◌≡◌, ℕ, ◌+◌, ◌<◌, ◌≤◌, true, false, ℤ, List, [], ◌∷◌, ◌++◌, length, get_or, take, drop, refl, ap, ◌∙◌, sym, subst, arith}
use Rattle.std.specs.List.{list_any}
use Rattle.std.proofs.lemmas.List.{drop_more, take-append-drop, take_all, map-append, map_more}
use Rattle.cnf_core.specs.Literal.{Literal, IsClause, HaveSameLiterals}
use Rattle.cnf_core.specs.Events.{LogEvent, step}
use Rattle.cnf_core.specs.Lines.{ProofLine, add, delete}
use Rattle.sat_proof.specs.Lines.{FlatProof, row_line, row_lines}
use Rattle.sat_proof.specs.declared.proof.Row.{Row}
use Rattle.log_check.specs.Verdict.{adds_empty_clause, is_empty_clause, is_valid_line, verdict_of}
use Rattle.log_check.specs.declared.Verdict.TheVariants.{Verified}
use Rattle.sat_merge.specs.Proofs.{AreIdPlaces, IsProved}
use Rattle.sat_merge.proofs.Reading.{IsRead, formula_empty, read_add, read_delete, read_empty, verified_line}

-- a clause that has a literal isn't empty
pub not_empty : (clause : List Literal) → 0 < length clause → is_empty_clause clause ≡ false
not_empty [] some = absurd (omega (arith, some))
not_empty (l ∷ clause) some = refl

module _ (clauses : List (List Literal)) (p : FlatProof) (lines : List Row) (verified : verdict_of clauses (row_lines p lines) ≡ Verified)
    (k : ℕ) (e : Row) (below : k < length lines) (is : e ≡ get_or lines k e) where
  parts : row_lines p lines ≡ row_lines p (take k lines) ++ row_line p e ∷ row_lines p (drop (k + 1) lines)
  parts =
      ap (row_lines p) (sym (take-append-drop k lines))
      ∙ map-append (row_line p) (take k lines) (drop k lines)
      ∙ ap (λ (ls : List Row). row_lines p (take k lines) ++ row_lines p ls) (drop_more lines k e below ∙ ap (λ (x : Row). x ∷ drop (k + 1) lines) (sym is))

  next : row_lines p (take (k + 1) lines) ≡ row_lines p (take k lines) ++ row_line p e ∷ []
  next = map_more (row_line p) lines k e below ∙ ap (λ (x : Row). row_lines p (take k lines) ++ row_line p x ∷ []) (sym is)

  valid_here : is_valid_line clauses (row_lines p (take k lines)) (row_line p e) ≡ true
  valid_here = verified_line clauses (row_lines p lines) (row_lines p (take k lines)) (row_line p e) (row_lines p (drop (k + 1) lines)) verified parts

  -- a line that deletes
  pub turn_delete : (ids : List ℕ) (events : List LogEvent) (gone : List ℕ) → row_line p e ≡ delete gone → IsRead clauses (row_lines p (take k lines)) ids events → IsRead clauses (row_lines p (take (k + 1) lines)) ids events
  turn_delete ids events gone deletes h =
      subst (λ (read : List ProofLine). IsRead clauses read ids events) (sym (next ∙ ap (λ (l : ProofLine). row_lines p (take k lines) ++ l ∷ []) deletes))
      (read_delete clauses (row_lines p (take k lines)) ids events gone h)

  module _ (id : ℕ) (clause : List Literal) (hints : List ℤ) (adds : row_line p e ≡ add id clause hints) (ids : List ℕ) (events : List LogEvent) (h : IsRead clauses (row_lines p (take k lines)) ids events) where
    line : is_valid_line clauses (row_lines p (take k lines)) (add id clause hints) ≡ true
    line = subst (λ (l : ProofLine). is_valid_line clauses (row_lines p (take k lines)) l ≡ true) adds valid_here

    -- a line that adds a clause
    pub turn_add : (wide : List Literal) (places : List ℕ) → IsClause wide → HaveSameLiterals wide clause → AreIdPlaces ids hints places → 0 < length clause → IsRead clauses (row_lines p (take (k + 1) lines)) (ids ++ id ∷ []) (events ++ step wide places ∷ [])
    turn_add wide places is_clause same are some =
        subst (λ (read : List ProofLine). IsRead clauses read (ids ++ id ∷ []) (events ++ step wide places ∷ [])) (sym (next ∙ ap (λ (l : ProofLine). row_lines p (take k lines) ++ l ∷ []) adds))
        (read_add clauses (row_lines p (take k lines)) ids events h id clause wide hints places line is_clause same are (not_empty clause some))

    -- one that adds the empty clause
    pub turn_empty : (wide : List Literal) (places : List ℕ) → HaveSameLiterals wide clause → AreIdPlaces ids hints places → clause ≡ [] → IsProved clauses (events ++ step wide places ∷ [])
    turn_empty wide places same are none =
        read_empty clauses (row_lines p (take k lines)) ids events h id wide hints places (subst (λ (c : List Literal). is_valid_line clauses (row_lines p (take k lines)) (add id c hints) ≡ true) none line)
        (subst (HaveSameLiterals wide) none same) are

-- once all lines are read and none adds the empty clause, the formula has it
pub turned_all : (clauses : List (List Literal)) (p : FlatProof) (lines : List Row) (k : ℕ) (ids : List ℕ) (events : List LogEvent) → verdict_of clauses (row_lines p lines) ≡ Verified → length lines ≤ k → IsRead clauses (row_lines p (take k lines)) ids events → list_any is_empty_clause clauses ≡ true
turned_all clauses p lines k ids events verified all h =
    formula_empty clauses (row_lines p lines) verified (ap (λ (ls : List Row). list_any adds_empty_clause (row_lines p ls)) (sym (take_all k lines all)) ∙ h.none_empty)
