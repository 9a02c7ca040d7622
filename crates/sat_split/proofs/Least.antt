-- The least variable over a number that stands in clauses.
use Rattle.std.proofs.Common.{◌≡◌, ℕ, ◌<◌, ◌≤◌, ◌⊎◌, inl, inr, Option, Some, None, List, [], ◌∷◌, ◌++◌, length, refl, ap, ◌∙◌, sym, subst, arith}
use Rattle.std.specs.Prelude.{min, All, Contains}
use Rattle.std.proofs.lemmas.Bool.{cases_lt}
use Rattle.std.proofs.lemmas.List.Elements.{Contains-append_left, Contains-push_cases, Contains-push, All-push, All-nil, All-weaker, All-contains, All-get_or}
use Rattle.std.proofs.lemmas.List.Quantifiers.{all_pairs_push}
use Rattle.cnf_core.specs.Literal.{Literal, IsClause, IsVariable}
use Rattle.cnf_core.proofs.Members.{none_in_nil}
use Rattle.sat_split.specs.Cubes.{IsNamed, AreCubeVariables}
use Rattle.sat_split.specs.Found.{IsLeastAbove, AreNamedUpTo, least_with_one}

module _ (clauses : List (List Literal)) (front : List Literal) (l : Literal) where
  -- the clauses with the front of one more, and with one literal more of it
  abbrev before : List (List Literal)
  before = clauses ++ front ∷ []

  abbrev after : List (List Literal)
  after = clauses ++ (front ++ l ∷ []) ∷ []

  named_more : (w : ℕ) → IsNamed before w → IsNamed after w
  named_more w named = elim (Contains-push_cases clauses front named.clause named.is_there) [
    | inl there ↦ record {
      clause = named.clause;
      literal = named.literal;
      is_there = Contains-append_left clauses ((front ++ l ∷ []) ∷ []) named.clause there;
      in_clause = named.in_clause;
      names = named.names;
    }
    | inr is ↦ record {
      clause = front ++ l ∷ [];
      literal = named.literal;
      is_there = Contains-push clauses (front ++ l ∷ []);
      in_clause = Contains-append_left front (l ∷ []) named.literal (subst (λ (c : List Literal). Contains c named.literal) (sym is) named.in_clause);
      names = named.names;
    }
  ]

  named_new : IsNamed after l.var
  named_new = record {
    clause = front ++ l ∷ [];
    literal = l;
    is_there = Contains-push clauses (front ++ l ∷ []);
    in_clause = Contains-push front l;
    names = refl;
  }

  named_split : (w : ℕ) → IsNamed after w → IsNamed before w ⊎ (l.var ≡ w)
  named_split w named = elim (Contains-push_cases clauses (front ++ l ∷ []) named.clause named.is_there) [
    | inl there ↦ inl (record {
      clause = named.clause;
      literal = named.literal;
      is_there = Contains-append_left clauses (front ∷ []) named.clause there;
      in_clause = named.in_clause;
      names = named.names;
    })
    | inr is ↦ elim (Contains-push_cases front l named.literal (subst (λ (c : List Literal). Contains c named.literal) (sym is) named.in_clause)) [
      | inl old ↦ inl (record {
        clause = front;
        literal = named.literal;
        is_there = Contains-push clauses front;
        in_clause = old;
        names = named.names;
      })
      | inr new ↦ inr (ap (λ (m : Literal). m.var) new ∙ named.names)
    ]
  ]

  least_at : (above v : ℕ) → IsNamed after v → above < v → v ≤ l.var → ((w : ℕ) → IsNamed before w → above < w → v ≤ w) → IsLeastAbove above after (Some v)
  least_at above v named over within least = (
    named,
    over,
    λ w stands high. elim (named_split w stands) [
      | inl old ↦ least w old high
      | inr is ↦ omega (arith, within, is)
    ],
  )

  stays : (above : ℕ) (least : Option ℕ) → l.var ≤ above → IsLeastAbove above before least → IsLeastAbove above after least
  stays above None low none = λ w named high. elim (named_split w named) [
    | inl old ↦ none w old high
    | inr is ↦ omega (arith, low, is, high)
  ]
  stays above (Some v) low some = (
    named_more v some.0,
    some.1,
    λ w named high. elim (named_split w named) [
      | inl old ↦ some.2 w old high
      | inr is ↦ omega (arith, low, is, high)
    ],
  )

  comes : (above : ℕ) (least : Option ℕ) → above < l.var → IsLeastAbove above before least → IsLeastAbove above after (least_with_one least l.var)
  comes above None over none = least_at above l.var named_new over (omega arith) (λ w old high. absurd (none w old high))
  comes above (Some v) over some = elim (cases_lt l.var v) [
    | inl below ↦ subst (λ (n : ℕ). IsLeastAbove above after (Some n)) (let e : l.var ≡ min v l.var = omega (arith, below) in e)
        (least_at above l.var named_new over (omega arith) (λ w old high. omega (arith, below, some.2 w old high)))
    | inr within ↦ subst (λ (n : ℕ). IsLeastAbove above after (Some n)) (let e : v ≡ min v l.var = omega (arith, within) in e)
        (least_at above v (named_more v some.0) some.1 within some.2)
  ]

  pub least_more : (above : ℕ) (least result : Option ℕ) → (l.var ≤ above → result ≡ least) → (above < l.var → result ≡ least_with_one least l.var) → IsLeastAbove above before least → IsLeastAbove above after result
  least_more above least result low high is = elim (cases_lt above l.var) [
    | inl over ↦ subst (IsLeastAbove above after) (sym (high over)) (comes above least over is)
    | inr within ↦ subst (IsLeastAbove above after) (sym (low within)) (stays above least within is)
  ]

named_none : (clauses : List (List Literal)) (w : ℕ) → IsNamed (clauses ++ [] ∷ []) w → IsNamed clauses w
named_none clauses w named = elim (Contains-push_cases clauses [] named.clause named.is_there) [
  | inl there ↦ record { clause = named.clause; literal = named.literal; is_there = there; in_clause = named.in_clause; names = named.names }
  | inr is ↦ absurd (none_in_nil named.literal (subst (λ (c : List Literal). Contains c named.literal) (sym is) named.in_clause))
]

-- a clause of which nothing was looked at
pub least_begun : (clauses : List (List Literal)) (above : ℕ) (least : Option ℕ) → IsLeastAbove above clauses least → IsLeastAbove above (clauses ++ [] ∷ []) least
least_begun clauses above None none = λ w named high. none w (named_none clauses w named) high
least_begun clauses above (Some v) some = (
  record {
    clause = some.0.clause;
    literal = some.0.literal;
    is_there = Contains-append_left clauses ([] ∷ []) some.0.clause some.0.is_there;
    in_clause = some.0.in_clause;
    names = some.0.names;
  },
  some.1,
  λ w named high. some.2 w (named_none clauses w named) high,
)

pub least_of_none : (above : ℕ) → IsLeastAbove above [] None
least_of_none above = λ w named high. none_in_nil named.clause named.is_there

pub named_variable : (clauses : List (List Literal)) (v : ℕ) → All IsClause clauses → IsNamed clauses v → IsVariable v
named_variable clauses v are named =
    subst IsVariable named.names (All-contains (λ l. IsVariable l.var) named.clause named.literal (All-contains IsClause clauses named.clause are named.is_there).variables named.in_clause)

pub variables_named : (clauses : List (List Literal)) (vars : List ℕ) → All IsClause clauses → All (IsNamed clauses) vars → All IsVariable vars
variables_named clauses vars are named = All-weaker (IsNamed clauses) IsVariable (λ v n. named_variable clauses v are n) vars named

pub none_gathered : (clauses : List (List Literal)) → All IsClause clauses → AreNamedUpTo clauses 0 []
none_gathered clauses are = record {
  ascending = λ i j d order below. absurd (omega arith);
  named = All-nil (IsNamed clauses);
  within = All-nil (λ w. w ≤ 0);
  others = λ v named. inr (let one = (named_variable clauses v are named).0 in omega (arith, one));
}

pub one_gathered : (clauses : List (List Literal)) (above v : ℕ) (vars : List ℕ) → AreNamedUpTo clauses above vars → IsLeastAbove above clauses (Some v) → AreNamedUpTo clauses v (vars ++ v ∷ [])
one_gathered clauses above v vars are least = record {
  ascending = all_pairs_push ◌<◌ vars v are.ascending (λ k d below. let within = All-get_or (λ w. w ≤ above) vars k d below are.within in omega (arith, within, least.1));
  named = All-push (IsNamed clauses) vars v are.named least.0;
  within = All-push (λ w. w ≤ v) vars v (All-weaker (λ w. w ≤ above) (λ w. w ≤ v) (λ w low. omega (arith, low, least.1)) vars are.within) (omega arith);
  others = λ w named. elim (are.others w named) [
    | inl old ↦ inl (Contains-append_left vars (v ∷ []) w old)
    | inr over ↦ elim (cases_lt v w) [
      | inl high ↦ inr high
      | inr low ↦ inl (subst (Contains (vars ++ v ∷ [])) (let e : v ≡ w = omega (arith, low, least.2 w named over) in e) (Contains-push vars v))
    ]
  ];
}

pub all_gathered : (clauses : List (List Literal)) (above most : ℕ) (vars : List ℕ) → AreNamedUpTo clauses above vars → length vars ≤ most → IsLeastAbove above clauses None → AreCubeVariables most clauses vars
all_gathered clauses above most vars are within none = record {
  ascending = are.ascending;
  named = are.named;
  at_most = within;
  lowest = λ v named. elim (are.others v named) [ inl old ↦ inl old | inr over ↦ absurd (none v named over) ];
}

pub enough_gathered : (clauses : List (List Literal)) (above most : ℕ) (vars : List ℕ) → AreNamedUpTo clauses above vars → length vars ≡ most → AreCubeVariables most clauses vars
enough_gathered clauses above most vars are count = record {
  ascending = are.ascending;
  named = are.named;
  at_most = omega (arith, count);
  lowest = λ v named. elim (are.others v named) [
    | inl old ↦ inl old
    | inr over ↦ inr (count, All-weaker (λ w. w ≤ above) (λ w. w < v) (λ w low. omega (arith, low, over)) vars are.within)
  ];
}
