-- The clause which says that variables have other numbers.
use Rattle.std.proofs.Common.{◌≡◌, ◌≢◌, ◌↔◌, ◌⊎◌, inl, inr, ℕ, ◌+◌, ◌<◌, ◌≤◌, suc, zero, ℤ, pos, Bool, true, false, List, [], ◌∷◌, ◌++◌, length, refl, sym, ap, subst, ◌∙◌, arith}
use Rattle.std.specs.Prelude.{IfOk, Ok, Err, Result, drop, if◌then◌else◌, nat_le, slice_index_or, take}
use Rattle.std.specs.List.{All, Contains}
use Rattle.std.proofs.lemmas.Bool.{false≢true}
use Rattle.std.proofs.lemmas.Bool.Decides.{Decides-int_eq, nat_tests}
use Rattle.std.proofs.lemmas.List.{append-nil, get_or_default, take_more}
use Rattle.std.proofs.lemmas.List.Elements.{All-append, All-contains, All-cons, All-nil, Contains-append_cases, Contains-append_left, Contains-append_right}
use Rattle.std.specs.Ordering.{int_eq}
use Rattle.cnf_core.specs.Clauses.{IsTrueUnder, SatisfiesClause}
use Rattle.cnf_core.specs.Literal.{HaveSameLiterals, Literal, negation}
use Rattle.cnf_core.proofs.Keeping.{same_satisfied}
use Rattle.cnf_core.proofs.Members.{All-from_contains, Contains-here, none_in_nil, passes_none}
use Rattle.ep_base.specs.Numbers.{has_number}
use Rattle.ep_base.specs.Reads.{same_bool}
use Rattle.ep_base.specs.declared.errors.Memory.{Memory}
use Rattle.ep_flat.specs.Cons.{numbers_of_vars}
use Rattle.enc_var.specs.Decoding.{Means, VariableLiterals, decoded, eq_of, known_holds, literal_holds, literal_of_note}
use Rattle.enc_var.specs.Layouts.{literals_at}
use Rattle.enc_var.specs.declared.known.Known.{Known}
use Rattle.enc_var.specs.declared.known.Known.TheVariants as known
use Rattle.ep_answer.specs.Answered.{AllTell, LiteralsTell}
use Rattle.ep_answer.specs.Searches.{AreNumbers, BlocksFirst, IsNotNumber, OtherNumbers}
use Rattle.ep_answer.proofs.Deciding.{contrary_is, clause_is}

-- the two parts of a list that grew at its end
ends_same : {X : Type 0} (xs ys : List X) (x y : X) → xs ++ x ∷ [] ≡ ys ++ y ∷ [] → length xs ≡ length ys → (xs ≡ ys) × (x ≡ y)
ends_same [] [] x y e long = (refl, ap (λ zs. slice_index_or zs 0 x) e)
ends_same [] (b ∷ ys) x y e long = absurd (omega (arith, long))
ends_same (a ∷ xs) [] x y e long = absurd (omega (arith, long))
ends_same (a ∷ xs) (b ∷ ys) x y e long =
    let rest = ends_same xs ys x y (ap (drop 1) e) (omega (arith, long)) in
    (ap (λ zs. a ∷ zs) rest.0 ∙ ap (λ c. c ∷ ys) (ap (λ zs. slice_index_or zs 0 a) e), rest.1)

long_take : {X : Type 0} (k : ℕ) (xs : List X) → k ≤ length xs → length (take k xs) ≡ k
long_take zero xs low = refl
long_take (suc k) [] low = absurd (omega (arith, low))
long_take (suc k) (x ∷ xs) low = ap suc (long_take k xs (omega (arith, low)))

pub long_numbers : (values : List ℤ) (xs : List ℕ) → length (numbers_of_vars values xs) ≡ length xs
unfolding numbers_of_vars
long_numbers values [] = refl
long_numbers values (x ∷ xs) = ap suc (long_numbers values xs)

-- a clause of two parts
either_part : (s : ℕ → Bool) (xs ys : List Literal) → SatisfiesClause s (xs ++ ys) → SatisfiesClause s xs ⊎ SatisfiesClause s ys
either_part s xs ys h = elim (Contains-append_cases xs ys h.literal h.in_clause) as (λ _. SatisfiesClause s xs ⊎ SatisfiesClause s ys) [
  | inl w ↦ inl (record { literal = h.literal; in_clause = w; is_true = h.is_true })
  | inr w ↦ inr (record { literal = h.literal; in_clause = w; is_true = h.is_true })
]

-- ---- literals of values

-- a literal holds exactly where it is true
holds_as : (a b : Bool) → (same_bool a b ≡ true) ↔ (a ≡ b)
unfolding same_bool
holds_as true true = (λ e. refl, λ e. refl)
holds_as false false = (λ e. refl, λ e. refl)
holds_as true false = (λ e. absurd (false≢true e), λ e. absurd (false≢true (sym e)))
holds_as false true = (λ e. absurd (false≢true e), λ e. absurd (false≢true e))

-- where the literals of a variable mean what they say, those of its values tell its number
pub means_told : (s : ℕ → Bool) (e : VariableLiterals) → Means s e → LiteralsTell s e (decoded s e)
unfolding literal_holds
means_told s e means = record {
  among = means.among;
  literals = λ v there.
      let l : Literal = literal_of_note e v in (
        λ is. sym ((Decides-int_eq (decoded s e) v).0 (sym (means.noted v there) ∙ (holds_as (s l.var) l.positive).1 is)),
        λ same. (holds_as (s l.var) l.positive).0 (means.noted v there ∙ (Decides-int_eq (decoded s e) v).1 (sym same)),
      );
}

-- what is known by a literal isn't so exactly where the literal isn't true
fails_as : (s : ℕ → Bool) (l : Literal) → (known_holds s (known.Is l) ≡ false) ↔ (IsTrueUnder s l → ⊥)
unfolding known_holds literal_holds
fails_as s l = (
  λ f is. false≢true (sym f ∙ (holds_as (s l.var) l.positive).1 is),
  λ none. by (same_bool (s l.var) l.positive) (λ t. none ((holds_as (s l.var) l.positive).0 t)),
)
  where
    by : (b : Bool) → (b ≡ true → ⊥) → b ≡ false
    by true never = absurd (never refl)
    by false never = refl

-- where literals say that a variable isn't its number
pub record SaysNot (e : VariableLiterals) (v : ℤ) (adds : List Literal) : Type 0 where
  pub says : (s : ℕ → Bool) (number : ℤ) → LiteralsTell s e number → SatisfiesClause s adds ↔ (number ≢ v)

isnt_equal : (a b : ℤ) → int_eq a b ≡ false ↔ (a ≢ b)
isnt_equal a b = (
  λ f is. false≢true (sym f ∙ (Decides-int_eq a b).1 is),
  λ differs. by (int_eq a b) refl differs,
)
  where
    by : (t : Bool) → int_eq a b ≡ t → (a ≢ b) → int_eq a b ≡ false
    by false e differs = e
    by true e differs = absurd (differs ((Decides-int_eq a b).0 e))

is_false : Known → Bool
is_false known.True = false
is_false known.False = true
is_false (known.Is l) = false

has_it : (xs : List ℤ) (v : ℤ) → Contains xs v → has_number xs v ≡ true
unfolding has_number
has_it xs v found = by (has_number xs v) refl
  where
    by : (t : Bool) → has_number xs v ≡ t → has_number xs v ≡ true
    by true e = e
    by false e = absurd (false≢true (sym (passes_none (λ y. int_eq v y) xs v e found) ∙ (Decides-int_eq v v).1 refl))

chosen_known : Bool → Bool → Literal → Known
chosen_known has one l = if has then (if one then known.True else known.Is l) else known.False

eq_is : (e : VariableLiterals) (v : ℤ) → eq_of e v ≡ chosen_known (has_number e.domain v) (nat_le (length e.domain) 1) (literal_of_note e v)
unfolding eq_of chosen_known
eq_is e v = refl

-- that a variable is one of its numbers isn't known to be false
pub never_false : (e : VariableLiterals) (v : ℤ) → Contains e.domain v → known.False ≡ eq_of e v → ⊥
unfolding is_false chosen_known
never_false e v found is =
    by (nat_le (length e.domain) 1) (is ∙ eq_is e v ∙ ap (λ has. chosen_known has (nat_le (length e.domain) 1) (literal_of_note e v)) (has_it e.domain v found))
  where
    by : (b : Bool) → known.False ≡ chosen_known true b (literal_of_note e v) → ⊥
    by true h = false≢true (sym (ap is_false h))
    by false h = false≢true (sym (ap is_false h))

always_is : Known → Bool
always_is known.True = true
always_is known.False = false
always_is (known.Is l) = false

literal_or : Literal → Known → Literal
literal_or d known.True = d
literal_or d known.False = d
literal_or d (known.Is l) = l

is_literal : Known → Bool
is_literal known.True = false
is_literal known.False = false
is_literal (known.Is l) = true

-- the literal is that of the note
pub note_is : (e : VariableLiterals) (v : ℤ) (l : Literal) → known.Is l ≡ eq_of e v → l ≡ literal_of_note e v
unfolding chosen_known literal_or is_literal
note_is e v l is = by (has_number e.domain v) (nat_le (length e.domain) 1) (is ∙ eq_is e v)
  where
    by : (a b : Bool) → known.Is l ≡ chosen_known a b (literal_of_note e v) → l ≡ literal_of_note e v
    by true true h = absurd (false≢true (sym (ap is_literal h)))
    by true false h = ap (literal_or l) h
    by false b h = absurd (false≢true (sym (ap is_literal h)))

-- a literal of "it is the number" is turned
pub says_not_literal : (e : VariableLiterals) (v : ℤ) (l m : Literal) → Contains e.domain v → known.Is l ≡ eq_of e v → m ≡ negation l → SaysNot e v (m ∷ [])
says_not_literal e v l m there is turned = record {
  says = λ s number tell.
      let one = clause_is s (m ∷ []) (m ∷ []) m (record { from_first = itself m; from_second = itself m }) refl in
      let two = contrary_is s l m turned in
      let three = fails_as s l in
      let noted : l ≡ literal_of_note e v = note_is e v l is in
      let four : IsTrueUnder s l ↔ (v ≡ number) = subst (λ k. IsTrueUnder s k ↔ (v ≡ number)) (sym noted) (tell.literals v there) in (
        λ h same. three.0 (two.0 (one.0 h)) (four.1 (sym same)),
        λ differs. one.1 (two.1 (three.1 (λ holds. differs (sym (four.0 holds))))),
      );
}
  where
    itself : (n : Literal) → All (Contains (n ∷ [])) (n ∷ [])
    itself n = All-cons (Contains (n ∷ [])) n [] (Contains-here n []) (All-nil (Contains (n ∷ [])))

-- of at most one value any two are the same
only_one : (values : List ℤ) (a b : ℤ) → length values ≤ 1 → Contains values a → Contains values b → a ≡ b
only_one [] a b few one other = absurd (omega (arith, one.1))
only_one (v ∷ values) a b few (zero, low, is) (zero, down, at) = sym is ∙ at
only_one (v ∷ values) a b few (suc k, low, is) other = absurd (omega (arith, few, low))
only_one (v ∷ values) a b few (zero, low, is) (suc k, down, at) = absurd (omega (arith, few, down))

-- what is known without a literal, of one of a variable's values, is known of its only one
known_few : (e : VariableLiterals) (v : ℤ) → known.True ≡ eq_of e v → length e.domain ≤ 1
unfolding chosen_known always_is
known_few e v is = by (has_number e.domain v) (nat_le (length e.domain) 1) refl (is ∙ eq_is e v)
  where
    by : (a b : Bool) → nat_le (length e.domain) 1 ≡ b → known.True ≡ chosen_known a b (literal_of_note e v) → length e.domain ≤ 1
    by true true test h = grind (arith, nat_tests)
    by true false test h = absurd (false≢true (sym (ap always_is h)))
    by false b test h = absurd (false≢true (sym (ap always_is h)))

-- a variable that can only be the number wants no literal
pub says_not_none : (e : VariableLiterals) (v : ℤ) → Contains e.domain v → known.True ≡ eq_of e v → SaysNot e v []
says_not_none e v there is = record {
  says = λ s number tell. (
    λ h. absurd (none_in_nil h.literal h.in_clause),
    λ differs. absurd (differs (only_one e.domain number v (known_few e v is) tell.among there)),
  );
}

-- no variable so far
pub blocks_none : (layout : List VariableLiterals) (vars : List ℕ) (cells : List ℤ) (lits : List Literal) → lits ≡ [] → BlocksFirst layout vars cells 0 lits
blocks_none layout vars cells lits is = record {
  says = λ s numbers tell. (
    λ h. absurd (none_in_nil h.literal (subst (λ ls. Contains ls h.literal) is h.in_clause)),
    λ differs. absurd (differs refl),
  );
  literals = subst (All (IsNotNumber layout vars cells)) (sym is) (All-nil (IsNotNumber layout vars cells));
}

-- ---- variables one after another

-- what is told of variables is told of each
tell_at : (s : ℕ → Bool) (layout : List VariableLiterals) (vars : List ℕ) (numbers : List ℤ) (k x : ℕ) (n : ℤ) → AllTell s layout vars numbers → k < length vars → LiteralsTell s (literals_at layout (slice_index_or vars k x)) (slice_index_or numbers k n)
tell_at s layout [] numbers k x n tell low = absurd (omega (arith, low))
tell_at s layout (y ∷ vars) [] k x n tell low = absurd tell
tell_at s layout (y ∷ vars) (m ∷ numbers) zero x n tell low = tell.0
tell_at s layout (y ∷ vars) (m ∷ numbers) (suc k) x n tell low = tell_at s layout vars numbers k x n tell.1 (omega (arith, low))

long_told : (s : ℕ → Bool) (layout : List VariableLiterals) (vars : List ℕ) (numbers : List ℤ) → AllTell s layout vars numbers → length numbers ≡ length vars
long_told s layout [] [] tell = refl
long_told s layout [] (m ∷ numbers) tell = absurd tell
long_told s layout (y ∷ vars) [] tell = absurd tell
long_told s layout (y ∷ vars) (m ∷ numbers) tell = ap suc (long_told s layout vars numbers tell.1)

-- one variable more
pub blocks_more : (layout : List VariableLiterals) (vars : List ℕ) (cells : List ℤ) (k : ℕ) (lits adds : List Literal) → length cells ≡ length vars → k < length vars
    → SaysNot (literals_at layout (slice_index_or vars k 0)) (slice_index_or cells k (pos 0)) adds → All (IsNotNumber layout vars cells) adds → BlocksFirst layout vars cells k lits → BlocksFirst layout vars cells (k + 1) (lits ++ adds)
blocks_more layout vars cells k lits adds long low one literals h = record {
  says = λ s numbers tell.
      let v = slice_index_or cells k (pos 0) in
      let number = slice_index_or numbers k (pos 0) in
      let at = tell_at s layout vars numbers k 0 (pos 0) tell low in
      let many : length numbers ≡ length vars = long_told s layout vars numbers tell in
      let whole : take (k + 1) numbers ≡ take k numbers ++ number ∷ [] = take_more numbers k (pos 0) (omega (arith, low, many)) in
      let cells_whole : take (k + 1) cells ≡ take k cells ++ v ∷ [] = take_more cells k (pos 0) (omega (arith, low, long)) in
      let longs : length (take k numbers) ≡ length (take k cells) = long_take k numbers (omega (arith, low, many)) ∙ sym (long_take k cells (omega (arith, low, long))) in
      let parts : take (k + 1) numbers ≡ take (k + 1) cells → (take k numbers ≡ take k cells) × (number ≡ v) = λ is. ends_same (take k numbers) (take k cells) number v (sym whole ∙ is ∙ cells_whole) longs in
      let from_parts : take k numbers ≡ take k cells → number ≡ v → take (k + 1) numbers ≡ take (k + 1) cells =
      λ fs ns. whole ∙ ap (λ ms. ms ++ number ∷ []) fs ∙ ap (λ n. take k cells ++ n ∷ []) ns ∙ sym cells_whole in (
        λ sat is. elim (either_part s lits adds sat) as (λ _. ⊥) [
          | inl w ↦ (h.says s numbers tell).0 w (parts is).0
          | inr w ↦ (one.says s number at).0 w (parts is).1
        ],
        λ differs. decide s (lits) (adds) (int_eq number v) number v refl
            (λ d. (one.says s number at).1 d) (λ ns. (h.says s numbers tell).1 (λ fs. differs (from_parts fs ns))),
      );
  literals = All-append (IsNotNumber layout vars cells) lits adds h.literals literals;
}
  where
    decide : (s : ℕ → Bool) (xs ys : List Literal) (t : Bool) (a b : ℤ) → int_eq a b ≡ t → ((a ≢ b) → SatisfiesClause s ys) → ((a ≡ b) → SatisfiesClause s xs) → SatisfiesClause s (xs ++ ys)
    decide s xs ys true a b e other same =
        let w = same ((Decides-int_eq a b).0 e) in record { literal = w.literal; in_clause = Contains-append_left xs ys w.literal w.in_clause; is_true = w.is_true }
    decide s xs ys false a b e other same =
        let w = other ((isnt_equal a b).0 e) in record { literal = w.literal; in_clause = Contains-append_right xs ys w.literal w.in_clause; is_true = w.is_true }

-- all variables
pub blocks_all : (layout : List VariableLiterals) (vars : List ℕ) (cells : List ℤ) (lits : List Literal) (r : Result (List Literal) Memory) → length cells ≡ length vars → BlocksFirst layout vars cells (length vars) lits
    → IfOk r (λ clause. HaveSameLiterals clause lits) → IfOk r (OtherNumbers layout vars cells)
blocks_all layout vars cells lits (Err e) long h same = tt
blocks_all layout vars cells lits (Ok clause) long h same = record {
  says = λ s numbers tell.
      let both = same_satisfied s clause lits same in
      let all = h.says s numbers tell in
      let numbers_whole : take (length vars) numbers ≡ numbers = ap (λ n. take n numbers) (sym (long_told s layout vars numbers tell)) ∙ whole numbers in
      let cells_whole : take (length vars) cells ≡ cells = ap (λ n. take n cells) (sym long) ∙ whole cells in (
        λ c is. all.0 (both.0 c) (numbers_whole ∙ is ∙ sym cells_whole),
        λ differs. both.1 (all.1 (λ is. differs (sym numbers_whole ∙ is ∙ cells_whole))),
      );
  literals = All-from_contains (IsNotNumber layout vars cells) clause (λ l found. All-contains (IsNotNumber layout vars cells) lits l h.literals (All-contains (Contains lits) clause l same.from_first found));
}
  where
    whole : {X : Type 0} (xs : List X) → take (length xs) xs ≡ xs
    whole [] = refl
    whole (x ∷ xs) = ap (λ ys. x ∷ ys) (whole xs)

-- the literal of a place
pub not_number : (layout : List VariableLiterals) (vars : List ℕ) (cells : List ℤ) (k : ℕ) (l m : Literal) → length cells ≡ length vars → k < length vars → known.Is l ≡ eq_of (literals_at layout (slice_index_or vars k 0)) (slice_index_or cells k (pos 0)) → m ≡ negation l
    → All (IsNotNumber layout vars cells) (m ∷ [])
not_number layout vars cells k l m long low is turned = All-cons (IsNotNumber layout vars cells) m [] (record {
  place = k;
  there = low;
  is = λ x v.
      turned ∙ ap negation (note_is (literals_at layout (slice_index_or vars k 0)) (slice_index_or cells k (pos 0)) l is)
      ∙ ap (λ y. negation (literal_of_note (literals_at layout y) (slice_index_or cells k (pos 0)))) (get_or_default vars k 0 x low)
      ∙ ap (λ w. negation (literal_of_note (literals_at layout (slice_index_or vars k x)) w)) (get_or_default cells k (pos 0) v (omega (arith, low, long)));
}) (All-nil (IsNotNumber layout vars cells))

-- a number that is found is one that its variable can have
pub number_had : (layout : List VariableLiterals) (vars : List ℕ) (cells : List ℤ) (k : ℕ) (x : ℕ) (v : ℤ) → AreNumbers layout vars cells → k < length vars → Contains (literals_at layout (slice_index_or vars k x)).domain (slice_index_or cells k v)
number_had layout [] cells k x v numbers low = absurd (omega (arith, low))
number_had layout (y ∷ vars) [] k x v numbers low = absurd numbers
number_had layout (y ∷ vars) (n ∷ cells) zero x v numbers low = numbers.0
number_had layout (y ∷ vars) (n ∷ cells) (suc k) x v numbers low = number_had layout vars cells k x v numbers.1 (omega (arith, low))

-- one variable more, whose literal is turned
pub blocks_literal : (layout : List VariableLiterals) (vars : List ℕ) (cells : List ℤ) (k : ℕ) (lits now : List Literal) (l m : Literal) (v : ℤ) → AreNumbers layout vars cells → length cells ≡ length vars → k < length vars
    → v ≡ slice_index_or cells k (pos 0) → known.Is l ≡ eq_of (literals_at layout (slice_index_or vars k 0)) v → m ≡ negation l → now ≡ lits ++ m ∷ []
    → BlocksFirst layout vars cells k lits → BlocksFirst layout vars cells (k + 1) now
blocks_literal layout vars cells k lits now l m v numbers long low number is turned grown h =
    let e = literals_at layout (slice_index_or vars k 0) in
    let is_now : known.Is l ≡ eq_of e (slice_index_or cells k (pos 0)) = is ∙ ap (eq_of e) number in
    subst (BlocksFirst layout vars cells (k + 1)) (sym grown)
    (blocks_more layout vars cells k lits (m ∷ []) long low (says_not_literal e (slice_index_or cells k (pos 0)) l m (number_had layout vars cells k 0 (pos 0) numbers low) is_now turned) (not_number layout vars cells k l m long low is_now turned) h)

-- one variable more, which can only be its number
pub blocks_only : (layout : List VariableLiterals) (vars : List ℕ) (cells : List ℤ) (k : ℕ) (lits now : List Literal) (one : Known) (v : ℤ) → AreNumbers layout vars cells → length cells ≡ length vars → k < length vars
    → v ≡ slice_index_or cells k (pos 0) → one ≡ eq_of (literals_at layout (slice_index_or vars k 0)) v → ((l : Literal) → one ≡ known.Is l → ⊥) → now ≡ lits
    → BlocksFirst layout vars cells k lits → BlocksFirst layout vars cells (k + 1) now
blocks_only layout vars cells k lits now one v numbers long low number is other same h =
    let e = literals_at layout (slice_index_or vars k 0) in
    let w : ℤ = slice_index_or cells k (pos 0) in
    let is_now : one ≡ eq_of e w = is ∙ ap (eq_of e) number in
    let sure : known.True ≡ eq_of e w = by one is_now other in
    subst (BlocksFirst layout vars cells (k + 1)) (append-nil lits ∙ sym same)
    (blocks_more layout vars cells k lits [] long low (says_not_none e w (number_had layout vars cells k 0 (pos 0) numbers low) sure) (All-nil (IsNotNumber layout vars cells)) h)
  where
    by : (one : Known) → one ≡ eq_of (literals_at layout (slice_index_or vars k 0)) (slice_index_or cells k (pos 0)) → ((l : Literal) → one ≡ known.Is l → ⊥) → known.True ≡ eq_of (literals_at layout (slice_index_or vars k 0)) (slice_index_or cells k (pos 0))
    by known.True e none = e
    by known.False e none = absurd (never_false (literals_at layout (slice_index_or vars k 0)) (slice_index_or cells k (pos 0)) (number_had layout vars cells k 0 (pos 0) numbers low) e)
    by (known.Is l) e none = absurd (none l refl)
