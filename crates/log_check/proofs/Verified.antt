-- Where the verdict is Verified no assignment satisfies the formula.
use Rattle.std.proofs.Common.{◌≡◌, ℕ, ◌+◌, ℤ, pos, negsuc, Bool, true, false, not, cond, ◌&&◌, ◌||◌, ◌⊎◌, nat_eq, nat_lt, List, [], ◌∷◌, ◌++◌, length, filter, Option, Some, None, refl, sym, subst, inl, inr}
use Rattle.std.specs.List.{list_any, list_all}
use Rattle.std.proofs.lemmas.Bool.{false≢true}
use Rattle.std.proofs.lemmas.List.Elements.{All-nil, All-cons, All-head, All-tail, All-contains}
use Rattle.cnf_core.specs.Literal.{Literal}
use Rattle.cnf_core.specs.Clauses.{SatisfiesClause, Satisfies}
use Rattle.cnf_core.specs.Reading.{is_shown_by}
use Rattle.cnf_core.proofs.Members.{passes_some, none_in_nil}
use Rattle.cnf_core.proofs.Following.{shown_follows}
use Rattle.cnf_core.specs.Lines.{ProofLine, add, delete}
use Rattle.log_check.specs.Verdict.{Live, numbered_from, is_number_among, live_after, live_behind, live_clause, hinted_clause, before_later, hinted_clauses, added_ids, is_valid_line, first_bad, is_empty_clause, adds_empty_clause, has_empty_clause, verdict_from, verdict_of}
use Rattle.log_check.specs.declared.Verdict.TheVariants.{Verified}
use Rattle.log_check.proofs.Ids.{live_push}

-- each live clause is satisfied
abbrev LiveHolds : (ℕ → Bool) → List Live → Type 0
LiveHolds s [] = Unit {0}
LiveHolds s (l ∷ live) = SatisfiesClause s l.clause × LiveHolds s live

-- each added clause is satisfied
abbrev AddedHolds : (ℕ → Bool) → List ProofLine → Type 0
AddedHolds s [] = Unit {0}
AddedHolds s (add id clause hints ∷ lines) = SatisfiesClause s clause × AddedHolds s lines
AddedHolds s (delete ids ∷ lines) = AddedHolds s lines

numbered_holds : (s : ℕ → Bool) (n : ℕ) (clauses : List (List Literal)) → Satisfies s clauses → LiveHolds s (numbered_from n clauses)
numbered_holds s n [] satisfied = tt
numbered_holds s n (c ∷ clauses) satisfied = (
  All-head (SatisfiesClause s) c clauses satisfied,
  numbered_holds s (n + 1) clauses (All-tail (SatisfiesClause s) c clauses satisfied),
)

choice_holds : (s : ℕ → Bool) (b : Bool) (c clause : List Literal) (found : Option (List Literal))
    → SatisfiesClause s c → (found ≡ Some clause → SatisfiesClause s clause) → cond b (Some c) found ≡ Some clause → SatisfiesClause s clause
choice_holds s true c clause found here later e =
    let same : c ≡ clause = cc e in
    subst (SatisfiesClause s) same here
choice_holds s false c clause found here later e = later e

live_clause_holds : (s : ℕ → Bool) (live : List Live) (id : ℕ) (clause : List Literal) → LiveHolds s live → live_clause live id ≡ Some clause → SatisfiesClause s clause
live_clause_holds s [] id clause holds e = absurd (let no : ⊥ = cc e in no)
live_clause_holds s (l ∷ live) id clause holds e =
    choice_holds s (nat_eq id l.id) l.clause clause (live_clause live id) holds.0 (live_clause_holds s live id clause holds.1) e

hinted_clause_holds : (s : ℕ → Bool) (live : List Live) (hint : ℤ) (clause : List Literal) → LiveHolds s live → hinted_clause live hint ≡ Some clause → SatisfiesClause s clause
hinted_clause_holds s live (pos id) clause holds e = live_clause_holds s live id clause holds e
hinted_clause_holds s live (negsuc n) clause holds e = absurd (let no : ⊥ = cc e in no)

before_holds : (s : ℕ → Bool) (found : Option (List Literal)) (later : List (List Literal))
    → ((clause : List Literal) → found ≡ Some clause → SatisfiesClause s clause) → Satisfies s later → Satisfies s (before_later found later)
before_holds s None later here rest = All-nil (SatisfiesClause s)
before_holds s (Some clause) later here rest = All-cons (SatisfiesClause s) clause later (here clause refl) rest

hinted_hold : (s : ℕ → Bool) (live : List Live) (hints : List ℤ) → LiveHolds s live → Satisfies s (hinted_clauses live hints)
hinted_hold s live [] holds = All-nil (SatisfiesClause s)
hinted_hold s live (hint ∷ hints) holds =
    before_holds s (hinted_clause live hint) (hinted_clauses live hints)
    (λ clause e. hinted_clause_holds s live hint clause holds e)
    (hinted_hold s live hints holds)

kept_holds : (s : ℕ → Bool) (b : Bool) (l : Live) (live : List Live) → SatisfiesClause s l.clause → LiveHolds s live → LiveHolds s (cond b (l ∷ live) live)
kept_holds s true l live here rest = (here, rest)
kept_holds s false l live here rest = rest

left_holds : (s : ℕ → Bool) (p : Live → Bool) (live : List Live) → LiveHolds s live → LiveHolds s (filter p live)
left_holds s p [] holds = tt
left_holds s p (l ∷ live) holds = kept_holds s (p l) l (filter p live) holds.0 (left_holds s p live holds.1)

and_left : (a b : Bool) → (a && b) ≡ true → a ≡ true
and_left true b e = refl
and_left false b e = e

and_right : (a b : Bool) → (a && b) ≡ true → b ≡ true
and_right true b e = e
and_right false b e = absurd (false≢true e)

-- a valid line is left behind, where none is bad
valid_first : (b : Bool) (rest : Option ℕ) (n : ℕ) → cond b rest (Some n) ≡ None → (b ≡ true) × (rest ≡ None)
valid_first true rest n e = (refl, e)
valid_first false rest n e = absurd (let no : ⊥ = cc e in no)

behind_push : (formula : List (List Literal)) (earlier : List ProofLine) (line : ProofLine) → live_behind formula (earlier ++ line ∷ []) ≡ live_after (live_behind formula earlier) line
behind_push formula earlier line = live_push (numbered_from 1 formula) earlier line

-- where no line is bad, each added clause is satisfied
added_hold : (s : ℕ → Bool) (formula : List (List Literal)) (earlier later : List ProofLine) → LiveHolds s (live_behind formula earlier) → first_bad formula earlier later ≡ None → AddedHolds s later
added_hold s formula earlier [] holds e = tt
added_hold s formula earlier (add id clause hints ∷ later) holds e =
    let both : (is_valid_line formula earlier (add id clause hints) ≡ true) × (first_bad formula (earlier ++ add id clause hints ∷ []) later ≡ None) =
    valid_first (is_valid_line formula earlier (add id clause hints)) (first_bad formula (earlier ++ add id clause hints ∷ []) later) (length earlier + 1) e in
    let shown : is_shown_by clause (hinted_clauses (live_behind formula earlier) hints) ≡ true =
    and_right (list_all (λ n. nat_lt n id) (length formula ∷ added_ids earlier)) (is_shown_by clause (hinted_clauses (live_behind formula earlier) hints)) both.0 in
    let here : SatisfiesClause s clause =
    shown_follows s clause (hinted_clauses (live_behind formula earlier) hints) shown (hinted_hold s (live_behind formula earlier) hints holds) in
    (here, added_hold s formula (earlier ++ add id clause hints ∷ []) later (subst (LiveHolds s) (sym (behind_push formula earlier (add id clause hints))) (here, holds)) both.1)
added_hold s formula earlier (delete ids ∷ later) holds e =
    let both : (is_valid_line formula earlier (delete ids) ≡ true) × (first_bad formula (earlier ++ delete ids ∷ []) later ≡ None) =
    valid_first (is_valid_line formula earlier (delete ids)) (first_bad formula (earlier ++ delete ids ∷ []) later) (length earlier + 1) e in
    added_hold s formula (earlier ++ delete ids ∷ []) later
    (subst (LiveHolds s) (sym (behind_push formula earlier (delete ids))) (left_holds s (λ l. not (is_number_among ids l.id)) (live_behind formula earlier) holds)) both.1

empty_fails : (s : ℕ → Bool) (clause : List Literal) → is_empty_clause clause ≡ true → SatisfiesClause s clause → ⊥
empty_fails s [] e satisfied = none_in_nil satisfied.literal satisfied.in_clause
empty_fails s (l ∷ clause) e satisfied = false≢true e

formula_fails : (s : ℕ → Bool) (formula : List (List Literal)) → list_any is_empty_clause formula ≡ true → Satisfies s formula → ⊥
formula_fails s formula e satisfied =
    let found = passes_some is_empty_clause formula e in
    empty_fails s found.0 found.2 (All-contains (SatisfiesClause s) formula found.0 satisfied found.1)

or_cases : (a b : Bool) → (a || b) ≡ true → (a ≡ true) ⊎ (b ≡ true)
or_cases true b e = inl refl
or_cases false b e = inr e

lines_fail : (s : ℕ → Bool) (lines : List ProofLine) → list_any adds_empty_clause lines ≡ true → AddedHolds s lines → ⊥
lines_fail s [] e holds = false≢true e
lines_fail s (add id clause hints ∷ lines) e holds =
    elim (or_cases (is_empty_clause clause) (list_any adds_empty_clause lines) e) [
      | inl here ↦ empty_fails s clause here holds.0
      | inr later ↦ lines_fail s lines later holds.1
    ]
lines_fail s (delete ids ∷ lines) e holds = lines_fail s lines e holds

verified_cases : (found : Option ℕ) (empty : Bool) → verdict_from found empty ≡ Verified → (found ≡ None) × (empty ≡ true)
verified_cases (Some line) empty e = absurd (let no : ⊥ = cc e in no)
verified_cases None true e = (refl, refl)
verified_cases None false e = absurd (let no : ⊥ = cc e in no)

pub verified_has_no_solution : (formula : List (List Literal)) (lines : List ProofLine) (s : ℕ → Bool) → verdict_of formula lines ≡ Verified → Satisfies s formula → ⊥
verified_has_no_solution formula lines s e satisfied =
    let both : (first_bad formula [] lines ≡ None) × (has_empty_clause formula lines ≡ true) = verified_cases (first_bad formula [] lines) (has_empty_clause formula lines) e in
    elim (or_cases (list_any is_empty_clause formula) (list_any adds_empty_clause lines) both.1) [
      | inl here ↦ formula_fails s formula here satisfied
      | inr added ↦ lines_fail s lines added (added_hold s formula [] lines (numbered_holds s 1 formula satisfied) both.0)
    ]
