-- What the literals of a clause of atoms say.
use Rattle.std.proofs.Common.{◌≡◌, ◌↔◌, inl, inr, ℕ, zero, suc, ◌+◌, ◌<◌, ◌≤◌, ℤ, Bool, true, false, not, ◌||◌, IsTrue, List, [], ◌∷◌, ◌++◌, length, take, refl, sym, ap, subst, ◌∙◌, arith, get_or, pos, int_le, int_lt}
use Rattle.std.specs.List.{All, Contains, list_any}
use Rattle.std.proofs.lemmas.Bool.{cases_lt}
use Rattle.std.proofs.lemmas.Int.{ints}
use Rattle.std.proofs.lemmas.List.{get_or-map, get_or_default, take_all, take_more}
use Rattle.std.proofs.lemmas.List.Elements.{All-append, All-contains, All-push, Contains-append_left, Contains-append_right, Contains-get_or}
use Rattle.std.proofs.Math.Bool.{or-false}
use Rattle.cnf_core.proofs.Keeping.{keeps_like, same_satisfied}
use Rattle.cnf_core.proofs.Literals.{literal_ext}
use Rattle.cnf_core.proofs.Members.{All-from_contains, none_in_nil, passes_some}
use Rattle.cnf_core.specs.Clauses.{IsTrueUnder, Satisfies, SatisfiesClause}
use Rattle.cnf_core.specs.Formula.{Cnf, Extends}
use Rattle.cnf_core.specs.Literal.{HaveSameLiterals, IsOrdered, Literal, Precedes, negation}
use Rattle.cnf_core.specs.Steps.{IsConsistent}
use Rattle.ep_base.specs.Reads.{same_bool}
use Rattle.enc_var.specs.Decoding.{HasLiteralsUpTo, IsKnownUpTo, Means, VariableLiterals, decoded, eq_of, known_holds, le_of, literal_holds}
use Rattle.enc_var.specs.Layouts.{IsLayoutOf, decoded_values, literals_at}
use Rattle.enc_var.specs.Ties.{SaysMore}
use Rattle.enc_var.specs.declared.known.Known.{Known}
use Rattle.enc_var.specs.declared.known.Known.TheVariants as known
use Rattle.enc_var.proofs.Saying.{says_clause, says_nothing}
use Rattle.ep_flat.specs.Cons.{number_at}
use Rattle.enc_atoms.proofs.Adding.{adds_nothing}
use Rattle.enc_atoms.proofs.Decoded.{values_along}
use Rattle.enc_atoms.specs.Atoms.{Adds, atom_holds, clause_holds, test_holds}
use Rattle.enc_atoms.specs.Literals.{AreGathered, HasContraries, contrary_of, known_of, known_of_test}
use Rattle.enc_atoms.specs.declared.atoms.Atom.{Atom}
use Rattle.enc_atoms.specs.declared.atoms.Test.{Test}

bad : {X : Type 0} → true ≡ false → X
bad h = absurd (no h)
  where
    no : true ≡ false → ⊥
    no h = cc

opposite : {X : Type 0} (p : Bool) → p ≡ not p → X
opposite true h = bad h
opposite false h = bad (sym h)

-- neighbours of one variable are a literal and its negation
pub neighbours : (literals : List Literal) (i j : ℕ) (d : Literal) → IsOrdered literals → i < j → j < length literals → (get_or literals i d).var ≡ (get_or literals j d).var → HasContraries literals
neighbours literals i j d ordered less within same = record {
  literal = get_or literals i d;
  stands = Contains-get_or literals i d (omega (arith, less, within));
  contrary = subst (Contains literals) (turned (get_or literals i d) (get_or literals j d) same (ordered i j d less within)) (Contains-get_or literals j d within);
}
  where
    turned : (a b : Literal) → a.var ≡ b.var → Precedes a b → b ≡ negation a
    turned a b same (inl below) = absurd (omega (arith, below, same))
    turned a b same (inr signs) = literal_ext b (negation a) (sym same) (signs.2 ∙ sym (ap not signs.1))

le_from_precedes : (a b : Literal) → Precedes a b → a.var ≤ b.var
le_from_precedes a b (inl below) = omega (arith, below)
le_from_precedes a b (inr same) = omega (arith, same.0)

-- ordered literals of which no two neighbours are of one variable hold none together with its negation
pub consistent_from_neighbours : (literals : List Literal) → IsOrdered literals → ((j : ℕ) (d : Literal) → j + 1 < length literals → (get_or literals j d).var ≡ (get_or literals (j + 1) d).var → ⊥) → IsConsistent literals
consistent_from_neighbours literals ordered apart l found other =
    let here : get_or literals found.0 l ≡ l = found.2 in
    let there : get_or literals other.0 l ≡ negation l = get_or_default literals other.0 l (negation l) other.1 ∙ other.2 in
    let same : (get_or literals found.0 l).var ≡ (get_or literals other.0 l).var = ap (λ (m : Literal). m.var) here ∙ sym (ap (λ (m : Literal). m.var) there) in
    elim (cases_lt found.0 other.0) as (λ _. ⊥) [
      | inl less ↦ between found.0 other.0 less other.1 same
      | inr more ↦ elim (cases_lt other.0 found.0) as (λ _. ⊥) [
        | inl less ↦ between other.0 found.0 less found.1 (sym same)
        | inr most ↦ opposite l.positive (ap (λ (m : Literal). m.positive) (sym here ∙ ap (λ i. get_or literals i l) (equal found.0 other.0 more most) ∙ there))
      ]
    ]
  where
    equal : (i j : ℕ) → j ≤ i → i ≤ j → i ≡ j
    equal i j low high = omega (arith, low, high)

    between : (i j : ℕ) → i < j → j < length literals → (get_or literals i l).var ≡ (get_or literals j l).var → ⊥
    between i j less within same =
        elim (cases_lt (i + 1) j) as (λ _. ⊥) [
          | inl room ↦
              let first = le_from_precedes (get_or literals i l) (get_or literals (i + 1) l) (ordered i (i + 1) l (omega arith) (omega (arith, room, within))) in
              let second = le_from_precedes (get_or literals (i + 1) l) (get_or literals j l) (ordered (i + 1) j l room within) in
              apart i l (omega (arith, room, within)) (omega (arith, first, second, same))
          | inr next ↦ let is : j ≡ i + 1 = omega (arith, next, less) in apart i l (omega (arith, is, within)) (same ∙ ap (λ n. (get_or literals n l).var) is)
        ]

-- a clause with a literal and its negation always holds
pub always : (s : ℕ → Bool) (literals : List Literal) → HasContraries literals → SatisfiesClause s literals
always s literals h = by (s h.literal.var) refl h.literal.positive refl
  where
    by : (a : Bool) → s h.literal.var ≡ a → (b : Bool) → h.literal.positive ≡ b → SatisfiesClause s literals
    by true e true g = record { literal = h.literal; in_clause = h.stands; is_true = e ∙ sym g }
    by false e false g = record { literal = h.literal; in_clause = h.stands; is_true = e ∙ sym g }
    by true e false g = record { literal = negation h.literal; in_clause = h.contrary; is_true = e ∙ sym (ap not g) }
    by false e true g = record { literal = negation h.literal; in_clause = h.contrary; is_true = e ∙ sym (ap not g) }

pub says_always : (f : Cnf) (clause seen literals : List Literal) → seen ≡ clause → HaveSameLiterals clause literals → HasContraries seen → SaysMore f f (λ s. SatisfiesClause s literals)
says_always f clause seen literals is same h =
    let none = says_nothing f in
    record {
      vars = none.vars;
      from_new = none.from_new;
      added = none.added;
      clauses = none.clauses;
      consistent = none.consistent;
      says = λ s. (λ met. (same_satisfied s clause literals same).0 (subst (SatisfiesClause s) is (always s seen h)), λ on. (none.says s).1 tt);
    }

-- an added clause of the same literals says what they do
pub says_added : (f g : Cnf) (clause seen literals : List Literal) → seen ≡ clause → HaveSameLiterals clause literals → IsConsistent seen → g ≡ record f { clauses = f.clauses ++ clause ∷ [] } → SaysMore f g (λ s. SatisfiesClause s literals)
says_added f g clause seen literals is same consistent added =
    says_clause f g clause literals same
    (λ l here there. subst IsConsistent is consistent l (All-contains (Contains clause) literals l same.from_second here) (All-contains (Contains clause) literals (negation l) same.from_second there)) added

turned_bool : (a b : Bool) → same_bool a (not b) ≡ not (same_bool a b)
unfolding same_bool
turned_bool true b = refl
turned_bool false b = refl

-- the contrary holds exactly where the statement doesn't
contrary_holds : (s : ℕ → Bool) (k : Known) → known_holds s (contrary_of k) ≡ not (known_holds s k)
unfolding known_holds contrary_of literal_holds
contrary_holds s known.True = refl
contrary_holds s known.False = refl
contrary_holds s (known.Is l) = turned_bool (s l.var) l.positive

above_not_below : (n given : ℤ) → not (int_le n given) ≡ int_lt given n
above_not_below n given = by (int_le n given) refl (int_lt given n) refl
  where
    by : (a : Bool) → int_le n given ≡ a → (b : Bool) → int_lt given n ≡ b → not a ≡ b
    by true e true g = absurd (grind (arith, ints))
    by true e false g = refl
    by false e true g = refl
    by false e false g = absurd (grind (arith, ints))

number_is : (layout : List VariableLiterals) (s : ℕ → Bool) (x : ℕ) → x < length layout → number_at (decoded_values layout s) x ≡ decoded s (literals_at layout x)
unfolding number_at decoded_values
number_is layout s x low = get_or-map (decoded s) layout x (record { domain = []; first = 0 }) (pos 0) low

-- what is known of an atom is whether it holds
pub known_meant : (layout : List VariableLiterals) (s : ℕ → Bool) (atom : Atom) → atom.var < length layout → All (Means s) layout → known_holds s (known_of layout atom) ≡ atom_holds (decoded_values layout s) atom
unfolding known_of atom_holds known_of_test test_holds
known_meant layout s atom low means = by atom.test ∙ ap (test_holds atom.test atom.value) (sym (number_is layout s atom.var low))
  where
    e : VariableLiterals
    e = literals_at layout atom.var

    meant : Means s e
    meant = means atom.var (record { domain = []; first = 0 }) low

    by : (t : Test) → known_holds s (known_of_test e t atom) ≡ test_holds t atom.value (decoded s e)
    by Test.AtMost = meant.at_most atom.value
    by Test.Above = contrary_holds s (le_of e atom.value) ∙ ap not (meant.at_most atom.value) ∙ above_not_below (decoded s e) atom.value
    by Test.Is = meant.equal atom.value
    by Test.IsNot = contrary_holds s (eq_of e atom.value) ∙ ap not (meant.equal atom.value)

any_push : {X : Type 0} (p : X → Bool) (xs : List X) (x : X) → list_any p (xs ++ x ∷ []) ≡ (list_any p xs || p x)
any_push p [] x = or_none (p x)
  where
    or_none : (b : Bool) → (b || false) ≡ b
    or_none true = refl
    or_none false = refl
any_push p (y ∷ xs) x = ap (λ b. p y || b) (any_push p xs x) ∙ grouped (p y) (list_any p xs) (p x)
  where
    grouped : (a b c : Bool) → (a || (b || c)) ≡ ((a || b) || c)
    grouped true b c = refl
    grouped false b c = refl

or_true : (b : Bool) → (b || true) ≡ true
or_true true = refl
or_true false = refl

-- whether one of the atoms so far holds, with one more atom
clause_more : (values : List ℤ) (atoms : List Atom) (k : ℕ) (d : Atom) → k < length atoms → clause_holds values (take (k + 1) atoms) ≡ (clause_holds values (take k atoms) || atom_holds values (get_or atoms k d))
unfolding clause_holds
clause_more values atoms k d low = ap (list_any (atom_holds values)) (take_more atoms k d low) ∙ any_push (atom_holds values) (take k atoms) (get_or atoms k d)

pub gathered_none : (layout : List VariableLiterals) (most : ℕ) (atoms : List Atom) (literals : List Literal) → literals ≡ [] → AreGathered layout most (take 0 atoms) literals
unfolding clause_holds
gathered_none layout most atoms literals is = subst (AreGathered layout most (take 0 atoms)) (sym is)
    (record { names = λ k d low. absurd (omega (arith, low)); same = λ s means. refl })

-- an atom that never holds
pub gathered_false : (layout : List VariableLiterals) (most : ℕ) (atoms : List Atom) (literals : List Literal) (k : ℕ) (d : Atom) → k < length atoms → (get_or atoms k d).var < length layout
    → AreGathered layout most (take k atoms) literals → known.False ≡ known_of layout (get_or atoms k d) → AreGathered layout most (take (k + 1) atoms) literals
unfolding known_holds
gathered_false layout most atoms literals k d low names gathered is = record {
  names = gathered.names;
  same = λ s means.
      let here : false ≡ atom_holds (decoded_values layout s) (get_or atoms k d) = ap (known_holds s) is ∙ known_meant layout s (get_or atoms k d) names means in
      gathered.same s means ∙ sym (or-false (clause_holds (decoded_values layout s) (take k atoms)))
      ∙ ap (λ b. clause_holds (decoded_values layout s) (take k atoms) || b) here ∙ sym (clause_more (decoded_values layout s) atoms k d low);
}

contrary_up_to : (most : ℕ) (k : Known) → IsKnownUpTo most k → IsKnownUpTo most (contrary_of k)
unfolding contrary_of IsKnownUpTo
contrary_up_to most known.True h = tt
contrary_up_to most known.False h = tt
contrary_up_to most (known.Is l) h = h

test_up_to : (most : ℕ) (e : VariableLiterals) (t : Test) (atom : Atom) → HasLiteralsUpTo most e → IsKnownUpTo most (known_of_test e t atom)
unfolding known_of_test
test_up_to most e Test.AtMost atom has = has.at_most atom.value
test_up_to most e Test.Above atom has = contrary_up_to most (le_of e atom.value) (has.at_most atom.value)
test_up_to most e Test.Is atom has = has.equal atom.value
test_up_to most e Test.IsNot atom has = contrary_up_to most (eq_of e atom.value) (has.equal atom.value)

known_up_to : (layout : List VariableLiterals) (most : ℕ) (atom : Atom) (l : Literal) → atom.var < length layout → All (HasLiteralsUpTo most) layout → known.Is l ≡ known_of layout atom → l.var ≤ most
unfolding known_of IsKnownUpTo
known_up_to layout most atom l low up is =
    let within : IsKnownUpTo most (known.Is l) = subst (IsKnownUpTo most) (sym is) (test_up_to most (literals_at layout atom.var) atom.test atom (up atom.var (record { domain = []; first = 0 }) low)) in
    within.1

-- an atom that is a literal
pub gathered_literal : (layout : List VariableLiterals) (most : ℕ) (atoms : List Atom) (literals : List Literal) (k : ℕ) (d : Atom) (l : Literal) → k < length atoms → (get_or atoms k d).var < length layout → All (HasLiteralsUpTo most) layout
    → AreGathered layout most (take k atoms) literals → known.Is l ≡ known_of layout (get_or atoms k d) → AreGathered layout most (take (k + 1) atoms) (literals ++ l ∷ [])
unfolding known_holds
gathered_literal layout most atoms literals k d l low names up gathered is = record {
  names = All-push (λ m. m.var ≤ most) literals l gathered.names (known_up_to layout most (get_or atoms k d) l names up is);
  same = λ s means.
      let here : literal_holds s l ≡ atom_holds (decoded_values layout s) (get_or atoms k d) = ap (known_holds s) is ∙ known_meant layout s (get_or atoms k d) names means in
      any_push (literal_holds s) literals l ∙ ap (λ b. b || literal_holds s l) (gathered.same s means)
      ∙ ap (λ b. clause_holds (decoded_values layout s) (take k atoms) || b) here ∙ sym (clause_more (decoded_values layout s) atoms k d low);
}

true_is : (b : Bool) → true ≡ b → IsTrue b
true_is b h = sym h

pub any_at : {X : Type 0} (p : X → Bool) (xs : List X) (x : X) → Contains xs x → p x ≡ true → list_any p xs ≡ true
any_at p [] x found holds = absurd (none_in_nil x found)
any_at p (y ∷ xs) x (zero, low, is) holds = ap (λ b. b || list_any p xs) (ap p is ∙ holds)
any_at p (y ∷ xs) x (suc k, low, is) holds = ap (λ b. p y || b) (any_at p xs x (k, omega (arith, low), is) holds) ∙ or_true (p y)

always_holds : (layout : List VariableLiterals) (s : ℕ → Bool) (atoms : List Atom) (k : ℕ) (d : Atom) → k < length atoms → (get_or atoms k d).var < length layout → known.True ≡ known_of layout (get_or atoms k d)
    → All (Means s) layout → clause_holds (decoded_values layout s) atoms ≡ true
unfolding clause_holds known_holds
always_holds layout s atoms k d low names is means = any_at (atom_holds (decoded_values layout s)) atoms (get_or atoms k d) (Contains-get_or atoms k d low)
    (sym (known_meant layout s (get_or atoms k d) names means) ∙ sym (ap (known_holds s) is))

-- where an atom always holds the clause does, and nothing is added
pub adds_always : (layout : List VariableLiterals) (f : Cnf) (atoms : List Atom) (k : ℕ) (d : Atom) → k < length atoms → (get_or atoms k d).var < length layout → IsLayoutOf layout f → IsTrue f.from_new
    → known.True ≡ known_of layout (get_or atoms k d) → Adds layout f layout f (λ values. IsTrue (clause_holds values atoms))
adds_always layout f atoms k d low names is_layout from_new is = record {
  goes_on = (adds_nothing layout f is_layout from_new).goes_on;
  keeps = keeps_like f f (λ s. Unit {0}) (λ s. IsTrue (clause_holds (decoded_values layout s) atoms)) (adds_nothing layout f is_layout from_new).keeps
      (λ s met. (λ any. true_is (clause_holds (decoded_values layout s) atoms) (sym (always_holds layout s atoms k d low names is (is_layout.meaning s met))), λ on. tt));
}

literal_true : (s : ℕ → Bool) (l : Literal) → IsTrueUnder s l ↔ (literal_holds s l ≡ true)
unfolding literal_holds same_bool
literal_true s l = (λ e. by (s l.var) l.positive e, λ e. back (s l.var) l.positive e)
  where
    by : (a b : Bool) → a ≡ b → same_bool a b ≡ true
    by true b e = sym e
    by false b e = ap not (sym e)

    back : (a b : Bool) → same_bool a b ≡ true → a ≡ b
    back true b e = sym e
    back false true e = bad (sym e)
    back false false e = refl

-- literals are satisfied where one of them is true
satisfied_any : (s : ℕ → Bool) (literals : List Literal) → SatisfiesClause s literals ↔ IsTrue (list_any (literal_holds s) literals)
satisfied_any s literals = (
  λ h. true_is (list_any (literal_holds s) literals) (sym (any_at (literal_holds s) literals h.literal h.in_clause ((literal_true s h.literal).0 h.is_true))),
  λ on. let found = passes_some (literal_holds s) literals on in
      record { literal = found.0; in_clause = found.1; is_true = (literal_true s found.0).1 found.2 },
)

-- Clauses that say what something says of the variables' numbers.
pub adds_said : (layout : List VariableLiterals) (f g : Cnf) (C : (ℕ → Bool) → Type 0) (holds : List ℤ → Type 0) → IsLayoutOf layout f → IsTrue f.from_new → SaysMore f g C
    → ((s : ℕ → Bool) → Satisfies s f.clauses → C s ↔ holds (decoded_values layout s)) → Adds layout f layout g holds
adds_said layout f g C holds is_layout from_new says same = record {
  goes_on = record {
    from_new = subst IsTrue (sym says.from_new) from_new;
    is_layout = record {
      literals = subst (λ n. All (HasLiteralsUpTo n) layout) (sym says.vars) is_layout.literals;
      meaning = λ s met. is_layout.meaning s (before s met);
    };
    earlier = take_all (length layout) layout (omega arith);
    variables = omega (arith, says.vars);
    added = says.added;
    clauses = says.clauses;
    consistent = says.consistent;
  };
  keeps = record {
    variables = omega (arith, says.vars);
    extension = λ s met. (λ far. forth s met far, λ on. back s met on);
    restriction = before;
  };
}
  where
    before : (s : ℕ → Bool) → Satisfies s g.clauses → Satisfies s f.clauses
    before s met = All-from_contains (SatisfiesClause s) f.clauses
        (λ c found. All-contains (SatisfiesClause s) (f.clauses ++ says.added) c (subst (Satisfies s) says.clauses met) (Contains-append_left f.clauses says.added c found))

    after : (s : ℕ → Bool) → Satisfies s g.clauses → Satisfies s says.added
    after s met = All-from_contains (SatisfiesClause s) says.added
        (λ c found. All-contains (SatisfiesClause s) (f.clauses ++ says.added) c (subst (Satisfies s) says.clauses met) (Contains-append_right f.clauses says.added c found))

    forth : (s : ℕ → Bool) → Satisfies s f.clauses → Extends f.vars s g → holds (decoded_values layout s)
    forth s met far = subst holds (sym (values_along f.vars s far.values layout far.agrees is_layout.literals))
        ((same far.values (before far.values far.satisfies)).0 ((says.says far.values).0 (after far.values far.satisfies)))

    back : (s : ℕ → Bool) → Satisfies s f.clauses → holds (decoded_values layout s) → Extends f.vars s g
    back s met on = record {
      values = s;
      agrees = λ v low high. refl;
      satisfies = subst (Satisfies s) (sym says.clauses) (All-append (SatisfiesClause s) f.clauses says.added met ((says.says s).1 ((same s met).1 on)));
    }

-- The clause of the gathered literals says that one of the atoms holds.
pub adds_gathered : (layout : List VariableLiterals) (f g : Cnf) (atoms : List Atom) (k : ℕ) (literals : List Literal) → IsLayoutOf layout f → IsTrue f.from_new → length atoms ≤ k
    → AreGathered layout f.vars (take k atoms) literals → SaysMore f g (λ s. SatisfiesClause s literals) → Adds layout f layout g (λ values. IsTrue (clause_holds values atoms))
adds_gathered layout f g atoms k literals is_layout from_new long gathered says =
    adds_said layout f g (λ s. SatisfiesClause s literals) (λ values. IsTrue (clause_holds values atoms)) is_layout from_new says
    (λ s met.
    let is : list_any (literal_holds s) literals ≡ clause_holds (decoded_values layout s) atoms =
    gathered.same s (is_layout.meaning s met) ∙ ap (clause_holds (decoded_values layout s)) (take_all k atoms long) in
    (λ h. subst IsTrue is ((satisfied_any s literals).0 h), λ on. (satisfied_any s literals).1 (subst IsTrue (sym is) on)))
