-- What marking a variable changes.
use Rattle.std.proofs.Common.{◌≡◌, ◌≢◌, ℕ, ◌+◌, ◌<◌, Bool, true, false, ◌⊎◌, inl, inr, List, [], ◌∷◌, ◌++◌, length, get_or, set, take, ap, ◌∙◌, sym, subst, eqb}
use Rattle.std.proofs.lemmas.Bool.{eqb-true, eqb-false}
use Rattle.std.proofs.lemmas.List.{take_more, get_or-set_same, get_or-set_other, set-get_or}
use Rattle.std.proofs.lemmas.List.Elements.{Contains-push_cases, Contains-push, Contains-append_left}
use Rattle.cnf_core.specs.Literal.{Literal}
use Rattle.cnf_core.proofs.Members.{either, none_in_nil}
use Rattle.sat_search.specs.Analysis.{is_marked, MarksClause}

pub same_or_not : (v w : ℕ) → (v ≡ w) ⊎ (v ≢ w)
same_or_not v w = elim (either (eqb v w)) [ inl same ↦ inl (eqb-true v w same) | inr differs ↦ inr (eqb-false v w differs) ]

set_marks : (marks : List Bool) (w : ℕ) → w < length marks → is_marked (set marks w true) w ≡ true
set_marks marks w within = get_or-set_same marks w true false within

set_keeps : (marks : List Bool) (v w : ℕ) → w < length marks → is_marked marks v ≡ true → is_marked (set marks w true) v ≡ true
set_keeps marks v w within is = elim (same_or_not v w) [
  | inl same ↦ ap (is_marked (set marks w true)) same ∙ set_marks marks w within
  | inr differs ↦ get_or-set_other marks w v true false differs ∙ is
]

set_only : (marks : List Bool) (v w : ℕ) → is_marked (set marks w true) v ≡ true → (is_marked marks v ≡ true) ⊎ (w ≡ v)
set_only marks v w is = elim (same_or_not v w) [
  | inl same ↦ inr (sym same)
  | inr differs ↦ inl (sym (get_or-set_other marks w v true false differs) ∙ is)
]

-- nothing is marked of no literals
pub marks_none : (marks : List Bool) → MarksClause marks marks []
marks_none marks = record {
  marked = λ l found. absurd (none_in_nil l found);
  keeps = λ v is. is;
  only = λ v is. inl is;
}

-- one more literal's variable is marked
pub marks_more : (old now : List Bool) (lits : List Literal) (i : ℕ) (l : Literal) → MarksClause old now (take i lits) → i < length lits → l ≡ get_or lits i l → l.var < length now → MarksClause old (set now l.var true) (take (i + 1) lits)
marks_more old now lits i l marks within is room =
    let more : take (i + 1) lits ≡ take i lits ++ l ∷ [] = take_more lits i l within ∙ ap (λ (m : Literal). take i lits ++ m ∷ []) (sym is) in
    subst (MarksClause old (set now l.var true)) (sym more) (record {
      marked = λ m found. elim (Contains-push_cases (take i lits) l m found) [
        | inl before ↦ set_keeps now m.var l.var room (marks.marked m before)
        | inr here ↦ subst (λ (x : Literal). is_marked (set now l.var true) x.var ≡ true) here (set_marks now l.var room)
      ];
      keeps = λ v was. set_keeps now v l.var room (marks.keeps v was);
      only = λ v now_is. elim (set_only now v l.var now_is) [
        | inl before ↦ elim (marks.only v before) [
          | inl was ↦ inl was
          | inr named ↦ inr (record { literal = named.literal; in_clause = Contains-append_left (take i lits) (l ∷ []) named.literal named.in_clause; names = named.names })
        ]
        | inr same ↦ inr (record { literal = l; in_clause = Contains-push (take i lits) l; names = same })
      ];
    })

-- marking a variable that is marked changes nothing
pub marked_already : (marks : List Bool) (v : ℕ) → is_marked marks v ≡ true → marks ≡ set marks v true
marked_already marks v is = sym (set-get_or marks v false) ∙ ap (set marks v) is
