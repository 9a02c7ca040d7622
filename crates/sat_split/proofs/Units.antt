-- Literals as clauses of their own.
use Rattle.std.proofs.Common.{◌≡◌, inl, inr, List, [], ◌∷◌, ◌++◌, ap, ◌∙◌, sym, subst, arith, append_assoc}
use Rattle.std.specs.Prelude.{Contains, map}
use Rattle.std.proofs.lemmas.Bool.{false≢true}
use Rattle.std.proofs.lemmas.List.{append-nil, map_push}
use Rattle.std.proofs.lemmas.List.Elements.{All-head, All-tail}
use Rattle.cnf_core.specs.Literal.{Literal, IsOrdered, Precedes, HaveSameLiterals}
use Rattle.cnf_core.specs.Events.{LogEvent, LogState, given}
use Rattle.cnf_core.proofs.Members.{Contains-cases, none_in_nil}
use Rattle.sat_split.specs.Cubes.{all_given, unit_of, cube_log}

only : (l x : Literal) → Contains (l ∷ []) x → l ≡ x
only l x found = elim (Contains-cases l [] x found) [ inl is ↦ is | inr none ↦ absurd (none_in_nil x none) ]

precedes_itself : (l : Literal) → Precedes l l → ⊥
precedes_itself l (inl below) = omega arith
precedes_itself l (inr same) = false≢true (sym same.2 ∙ same.1)

-- a clause of one literal
pub unit_is : (clause : List Literal) (l : Literal) → IsOrdered clause → HaveSameLiterals clause (l ∷ []) → clause ≡ l ∷ []
unit_is [] l ordered same = absurd (none_in_nil l (All-head (Contains []) l [] same.from_second))
unit_is (a ∷ []) l ordered same = ap (λ (x : Literal). x ∷ []) (sym (only l a (All-head (Contains (l ∷ [])) a [] same.from_first)))
unit_is (a ∷ b ∷ rest) l ordered same =
    let first = only l a (All-head (Contains (l ∷ [])) a (b ∷ rest) same.from_first) in
    let second = only l b (All-head (Contains (l ∷ [])) b rest (All-tail (Contains (l ∷ [])) a (b ∷ rest) same.from_first)) in
    absurd (precedes_itself l (subst (λ (x : Literal). Precedes l x) (sym second) (subst (λ (x : Literal). Precedes x b) (sym first) (ordered 0 1 l (omega arith) (omega arith)))))

abbrev pub with_given : LogState → List Literal → LogState
with_given log clause = record log { events = log.events ++ given clause ∷ [] }

pub cube_log_none : (clauses : List (List Literal)) → record { events = all_given clauses; notes = []; base = 0 } ≡ cube_log clauses []
cube_log_none clauses = ap (λ (es : List LogEvent). record { events = es; notes = []; base = 0 }) (sym (append-nil (all_given clauses)))

pub cube_log_more : (clauses : List (List Literal)) (literals : List Literal) (l : Literal) → with_given (cube_log clauses literals) (l ∷ []) ≡ cube_log clauses (literals ++ l ∷ [])
cube_log_more clauses literals l =
    ap (λ (es : List LogEvent). record { events = es; notes = []; base = 0 })
    (append_assoc (all_given clauses) (all_given (map unit_of literals)) (given (l ∷ []) ∷ [])
    ∙ ap (λ (es : List LogEvent). all_given clauses ++ es) (sym (ap (map given) (map_push unit_of literals l) ∙ map_push given (map unit_of literals) (l ∷ []))))
