-- Two terms of a sum give way to a new one that stands for what they come to.
use Rattle.std.proofs.Common.{◌≡◌, inl, inr, ◌↔◌, ℕ, ◌+◌, ◌<◌, ℤ, pos, neg_ℤ, ◌+ℤ◌, ◌-ℤ◌, ◌≤ℤ◌, Bool, true, IsTrue, List, [], ◌∷◌, ◌++◌, length, take, get_or, refl, sym, ap, subst, ◌∙◌, arith}
use Rattle.std.specs.List.{All, Any, Contains}
use Rattle.std.specs.Prelude.{Err, IfOk, MatchOption, None, Ok, OnOk, Option, Result, Some}
use Rattle.std.proofs.lemmas.Int.{ints}
use Rattle.std.proofs.lemmas.List.{get_or_append_left, length-append}
use Rattle.std.proofs.lemmas.List.Elements.{All-cons, All-contains, All-head, All-more, All-nil, All-tail, All-weaker}
use Rattle.std.proofs.lemmas.List.Quantifiers.{Any-push}
use Rattle.cnf_core.specs.Formula.{Cnf}
use Rattle.ep_base.specs.Numbers.{compare_holds, sum_of}
use Rattle.ep_base.specs.Runs.{IsIn}
use Rattle.ep_base.specs.declared.run_lists.Run.{Run}
use Rattle.ep_flat.specs.Cons.{is_as_said}
use Rattle.enc_atoms.proofs.Adding.{adds_both, goes_further}
use Rattle.enc_atoms.proofs.Decoded.{number_front}
use Rattle.enc_atoms.specs.Atoms.{Adds}
use Rattle.enc_linear.proofs.Arising.{arise_earlier, term_later, terms_later, worth_front}
use Rattle.enc_linear.proofs.Clipping.{NoGreater, NoLess, IsClipOver, clip_over, clipped_near, said_beyond, same_beyond, worth_within}
use Rattle.enc_linear.proofs.Ladders.{stands_of}
use Rattle.enc_linear.proofs.Multiples.{at_most_raised, mirror_worth, raised_worth}
use Rattle.enc_linear.proofs.NewTerms.{IsChosen, adds_term}
use Rattle.enc_linear.proofs.Saying.{no_guard}
use Rattle.enc_linear.proofs.Turns.{nothing_new, relabelled, then_both}
use Rattle.enc_linear.specs.Bounds.{Compares, HasBounds, HasSums, IsRaised, Reaches, StandsForSum, StaysWithin, clipped, needs_no_greater, needs_no_less}
use Rattle.enc_linear.specs.Folding.{GiveWay}
use Rattle.enc_linear.specs.Guards.{Unless}
use Rattle.enc_linear.specs.Ladders.{HasTerm}
use Rattle.enc_linear.specs.Sources.{source_number}
use Rattle.enc_linear.specs.Terms.{Arise, IsMirror, IsTermOf, total, worth_at, worth_of}
use Rattle.enc_linear.specs.declared.bounds.Bounds.{Bounds}
use Rattle.enc_linear.specs.declared.comparison.Comparison.{Comparison}
use Rattle.enc_linear.specs.declared.terms.Step.{Step}
use Rattle.enc_linear.specs.declared.terms.Term.{Term}
use Rattle.enc_var.specs.Decoding.{VariableLiterals}
use Rattle.enc_var.specs.Layouts.{IsLayoutOf}

-- what a sum comes to and what is said of it doesn't depend on later variables
pub total_front : (L : List VariableLiterals) (f : Cnf) (terms : List Term) (values : List ℤ) → All (IsTermOf L f) terms → total (take (length L) values) terms ≡ total values terms
unfolding total sum_of
total_front L f [] values of_layout = refl
total_front L f (t ∷ terms) values of_layout =
    let rest = total_front L f terms values (All-tail (IsTermOf L f) t terms of_layout) in
    let here = worth_front values (length L) t (All-head (IsTermOf L f) t terms of_layout).names in
    omega (arith, ints, rest, here)

pub said_front : (values : List ℤ) (n : ℕ) (truth : Option ℕ) (h : Bool) → MatchOption truth (n ≡ n) (λ t. t < n) → is_as_said (take n values) truth h ≡ is_as_said values truth h
unfolding is_as_said
said_front values n None h low = refl
said_front values n (Some t) h low = rw (number_front values n t low) refl

-- the sum of what two terms are worth, within a clip, is among the sums of their steps
pub has_sum : (low high : ℤ) (L : List VariableLiterals) (f : Cnf) (numbers : List ℤ) (first second : Term) (values : List ℤ) → IsTermOf L f first → IsTermOf L f second → Arise L f values → HasSums low high numbers first second
    → Contains numbers (clipped low high (worth_of values first +ℤ worth_of values second))
unfolding worth_of
has_sum low high L f numbers first second values of_first of_second arise has =
    let a = stands_of L f first values of_first arise in
    let b = stands_of L f second values of_second arise in
    let row = All-contains (λ (x : Step). All (λ (y : Step). Contains numbers (clipped low high (x.worth +ℤ y.worth))) second.steps.items) first.steps.items a.step has a.there in
    let cell = All-contains (λ (y : Step). Contains numbers (clipped low high (a.step.worth +ℤ y.worth))) second.steps.items b.step row b.there in
    subst (λ n. Contains numbers (clipped low high n)) (ap (λ n. n +ℤ b.step.worth) (sym a.worth) ∙ ap (λ n. worth_at first.steps.items (source_number values first.source) +ℤ n) (sym b.worth)) cell

-- what terms come to, with one or two in front
pub total_one : (values : List ℤ) (term : Term) (terms : List Term) → total values (term ∷ terms) ≡ total values terms +ℤ worth_of values term
unfolding total sum_of
total_one values term terms = omega (arith, ints)

pub total_two : (values : List ℤ) (first second : Term) (terms : List Term) → total values (first ∷ second ∷ terms) ≡ total values terms +ℤ (worth_of values first +ℤ worth_of values second)
unfolding total sum_of
total_two values first second terms = omega (arith, ints)

-- the whole step: there is a number for the new term with which the later sum compares as it should exactly where the earlier one does
pub joined_terms : (L : List VariableLiterals) (f : Cnf) (L1 : List VariableLiterals) (f1 f2 : Cnf) (numbers : List ℤ) (others : List Term) (first second sum : Term) (c : Comparison) (rest : Bounds) (low high number : ℤ)
    → IsLayoutOf L f → IsTermOf L f first → IsTermOf L f second → MatchOption c.truth (length L ≡ length L) (λ t. t < length L)
    → low ≡ (number -ℤ rest.greatest) -ℤ pos 1 → high ≡ (number -ℤ rest.least) +ℤ pos 1 → number ≡ c.number
    → HasTerm L f L1 f1 numbers sum → HasSums low high numbers first second
    → Adds L1 f1 L1 f2 (StandsForSum c low high first second sum) → All (IsTermOf L f) others → HasBounds rest others → GiveWay c L f (first ∷ second ∷ others) L1 f2 (sum ∷ others)
unfolding needs_no_less needs_no_greater
joined_terms L f L1 f1 f2 numbers others first second sum c rest low high number is_layout of_first of_second low_truth is_low is_high same new has tie of_others bounds = record {
  from_new = tie.goes_on.from_new;
  is_layout = tie.goes_on.is_layout;
  earlier = new.goes_on.earlier;
  of_layout = All-cons (IsTermOf L1 f2) sum others (term_later L1 f1 L1 f2 sum tie.goes_on new.of_layout) (terms_later L f L1 f2 others (goes_further L f L1 f1 L1 f2 new.goes_on tie.goes_on) of_others);
  leads = λ last h added.
      adds_term L f L1 f1 last h numbers sum Q (Compares c (first ∷ second ∷ others)) is_layout new
      (adds_both L1 f1 f2 last h (StandsForSum c low high first second sum) (Compares c (sum ∷ others)) new.goes_on.is_layout tie added)
      (λ later a q. forth later a q.0 q.1)
      (λ values a said. chosen values a said);
}
  where
    Q : List ℤ → Type 0
    Q values = StandsForSum c low high first second sum values × Compares c (sum ∷ others) values

    clip : (values : List ℤ) → Arise L f values → IsClipOver low high c.number (total values others)
    clip values a = clip_over L f others rest c.number low high values of_others bounds a (subst (λ n. low ≡ (n -ℤ rest.greatest) -ℤ pos 1) same is_low) (subst (λ n. high ≡ (n -ℤ rest.least) +ℤ pos 1) same is_high)

    -- what later numbers come to
    parts : (later : List ℤ) → (worth_of (take (length L) later) first +ℤ worth_of (take (length L) later) second) ≡ (worth_of later first +ℤ worth_of later second)
    parts later =
        let a = worth_front later (length L) first of_first.names in
        let b = worth_front later (length L) second of_second.names in
        omega (arith, ints, a, b)

    later_total : (later : List ℤ) → total later (sum ∷ others) ≡ total (take (length L) later) others +ℤ worth_of later sum
    later_total later = let a = total_one later sum others in let b = total_front L f others later of_others in omega (arith, ints, a, b)

    whole : (values : List ℤ) → compare_holds c.op (total values (first ∷ second ∷ others)) c.number ≡ compare_holds c.op (total values others +ℤ (worth_of values first +ℤ worth_of values second)) c.number
    whole values = ap (λ n. compare_holds c.op n c.number) (total_two values first second others)

    forth : (later : List ℤ) → Arise L1 f1 later → StandsForSum c low high first second sum later → Compares c (sum ∷ others) later → Compares c (first ∷ second ∷ others) (take (length L) later)
    forth later a stands said =
        let values : List ℤ = take (length L) later in
        let e = parts later in
        let n : ℤ = worth_of later sum in
        let here : IsTrue (is_as_said values c.truth (compare_holds c.op (total values others +ℤ n) c.number)) =
        sym (ap (λ m. is_as_said values c.truth (compare_holds c.op m c.number)) (later_total later))
        ∙ said_front later (length L) c.truth (compare_holds c.op (total later (sum ∷ others)) c.number) low_truth ∙ said in
        ap (is_as_said values c.truth) (whole values)
        ∙ said_beyond values c.truth c.op low high c.number (total values others) (worth_of values first +ℤ worth_of values second) n (clip values (arise_earlier L f L1 f1 later new.goes_on a))
        (λ need. elim (stands.no_less need) as (λ _. NoLess high (worth_of values first +ℤ worth_of values second) n) [ inl far ↦ inl far | inr near ↦ inr (omega (arith, ints, near, e)) ])
        (λ need. elim (stands.no_greater need) as (λ _. NoGreater low (worth_of values first +ℤ worth_of values second) n) [ inl far ↦ inl far | inr near ↦ inr (omega (arith, ints, near, e)) ])
        here

    reached : (values later : List ℤ) → Arise L f values → Compares c (first ∷ second ∷ others) values → take (length L) later ≡ values → worth_of later sum ≡ clipped low high (worth_of values first +ℤ worth_of values second) → Q later
    reached values later a said front is =
        let e : (worth_of values first +ℤ worth_of values second) ≡ (worth_of later first +ℤ worth_of later second) = ap (λ vs. worth_of vs first +ℤ worth_of vs second) (sym front) ∙ parts later in
        let near : NoLess high (worth_of values first +ℤ worth_of values second) (worth_of later sum) × NoGreater low (worth_of values first +ℤ worth_of values second) (worth_of later sum) = subst (λ n. NoLess high (worth_of values first +ℤ worth_of values second) n × NoGreater low (worth_of values first +ℤ worth_of values second) n) (sym is) (clipped_near low high (worth_of values first +ℤ worth_of values second)) in (
          record {
            no_less = λ need. elim near.0 as (λ _. Reaches high first second sum later) [ inl far ↦ inl far | inr on ↦ inr (omega (arith, ints, on, e)) ];
            no_greater = λ need. elim near.1 as (λ _. StaysWithin low first second sum later) [ inl far ↦ inl far | inr on ↦ inr (omega (arith, ints, on, e)) ];
          },
          sym (said_front later (length L) c.truth (compare_holds c.op (total later (sum ∷ others)) c.number) low_truth)
              ∙ ap (λ m. is_as_said (take (length L) later) c.truth (compare_holds c.op m c.number)) (later_total later)
              ∙ ap (λ vs. is_as_said vs c.truth (compare_holds c.op (total vs others +ℤ worth_of later sum) c.number)) front
              ∙ ap (is_as_said values c.truth) (same_beyond c.op low high c.number (total values others) (worth_of values first +ℤ worth_of values second) (worth_of later sum) (clip values a) near.0 near.1)
              ∙ sym (ap (is_as_said values c.truth) (whole values)) ∙ said,
        )

    chosen : (values : List ℤ) → Arise L f values → Compares c (first ∷ second ∷ others) values → IsChosen L1 f1 numbers sum (length L) values Q
    chosen values a said = record {
      number = clipped low high (worth_of values first +ℤ worth_of values second);
      among = has_sum low high L f numbers first second values of_first of_second a has;
      leads = λ later arise front is. reached values later a said front is;
    }

-- an element stays where one is added
pub any_before : (number : ℤ) (old new : List Run) (r : Run) → new ≡ old ++ r ∷ [] → Any (IsIn number) old → Any (IsIn number) new
any_before number old new r is (k, x, low, at, h) =
    subst (Any (IsIn number)) (sym is) (k, x, omega (arith, low, length-append old (r ∷ [])), get_or_append_left old (r ∷ []) x k low ∙ at, h)

pub any_last : (number : ℤ) (old new : List Run) (lo hi : ℤ) → new ≡ old ++ record { lo = lo; hi = hi } ∷ [] → lo ≡ number → hi ≡ number → Any (IsIn number) new
any_last number old new lo hi is low high =
    subst (Any (IsIn number)) (sym is) (Any-push (IsIn number) old (record { lo = lo; hi = hi }) (omega (arith, ints, low), omega (arith, ints, high)))

-- sums of a step with the first steps of another term, and one more
pub sums_step : (g : ℤ → ℤ → ℤ) (a : ℤ) (xs : List Step) (i : ℕ) (d : Step) (old new : List Run) → i < length xs → ((number : ℤ) → Any (IsIn number) old → Any (IsIn number) new)
    → All (λ (other : Step). Any (IsIn (g a other.worth)) old) (take i xs) → Any (IsIn (g a (get_or xs i d).worth)) new → All (λ (other : Step). Any (IsIn (g a other.worth)) new) (take (i + 1) xs)
sums_step g a xs i d old new low kept before here =
    All-more (λ (other : Step). Any (IsIn (g a other.worth)) new) xs i d low
    (All-weaker (λ (other : Step). Any (IsIn (g a other.worth)) old) (λ (other : Step). Any (IsIn (g a other.worth)) new) (λ other h. kept (g a other.worth) h) (take i xs) before) here

-- rows of sums, and one row more
abbrev pub Rows : (ℤ → ℤ → ℤ) → List Step → List Run → List Step → Type 0
Rows g ys runs xs = All (λ (one : Step). All (λ (other : Step). Any (IsIn (g one.worth other.worth)) runs) ys) xs

pub rows_step : (g : ℤ → ℤ → ℤ) (ys xs : List Step) (i : ℕ) (d : Step) (old new : List Run) → i < length xs → ((number : ℤ) → Any (IsIn number) old → Any (IsIn number) new)
    → Rows g ys old (take i xs) → All (λ (other : Step). Any (IsIn (g (get_or xs i d).worth other.worth)) new) ys → Rows g ys new (take (i + 1) xs)
rows_step g ys xs i d old new low kept before here =
    All-more (λ (one : Step). All (λ (other : Step). Any (IsIn (g one.worth other.worth)) new) ys) xs i d low
    (All-weaker (λ (one : Step). All (λ (other : Step). Any (IsIn (g one.worth other.worth)) old) ys) (λ (one : Step). All (λ (other : Step). Any (IsIn (g one.worth other.worth)) new) ys)
    (λ one h. All-weaker (λ (other : Step). Any (IsIn (g one.worth other.worth)) old) (λ (other : Step). Any (IsIn (g one.worth other.worth)) new) (λ other k. kept (g one.worth other.worth) k) ys h) (take i xs) before) here

-- a set of all those numbers
pub rows_all : (g : ℤ → ℤ → ℤ) (ys xs : List Step) (runs : List Run) (set : List ℤ) → ((number : ℤ) → Contains set number ↔ Any (IsIn number) runs) → Rows g ys runs xs → All (λ (one : Step). All (λ (other : Step). Contains set (g one.worth other.worth)) ys) xs
rows_all g ys xs runs set same rows =
    All-weaker (λ (one : Step). All (λ (other : Step). Any (IsIn (g one.worth other.worth)) runs) ys) (λ (one : Step). All (λ (other : Step). Contains set (g one.worth other.worth)) ys)
    (λ one h. All-weaker (λ (other : Step). Any (IsIn (g one.worth other.worth)) runs) (λ (other : Step). Contains set (g one.worth other.worth)) (λ other k. (same (g one.worth other.worth)).1 k) ys h) xs rows

pub sums_none : (g : ℤ → ℤ → ℤ) (a : ℤ) (xs : List Step) (runs : List Run) → All (λ (other : Step). Any (IsIn (g a other.worth)) runs) (take 0 xs)
sums_none g a xs runs = All-nil (λ (other : Step). Any (IsIn (g a other.worth)) runs)

pub rows_none : (g : ℤ → ℤ → ℤ) (ys xs : List Step) (runs : List Run) → Rows g ys runs (take 0 xs)
rows_none g ys xs runs = All-nil (λ (one : Step). All (λ (other : Step). Any (IsIn (g one.worth other.worth)) runs) ys)

pub rows_turn : (g : ℤ → ℤ → ℤ) (ys xs : List Step) (i : ℕ) (d : Step) (old new : List Run) (a : ℤ) → i < length xs → ((number : ℤ) → Any (IsIn number) old → Any (IsIn number) new)
    → Rows g ys old (take i xs) → All (λ (other : Step). Any (IsIn (g a other.worth)) new) ys → a ≡ (get_or xs i d).worth → Rows g ys new (take (i + 1) xs)
rows_turn g ys xs i d old new a low kept before here same =
    rows_step g ys xs i d old new low kept before (subst (λ (w : ℤ). All (λ (other : Step). Any (IsIn (g w other.worth)) new) ys) same here)

pub rows_said : {E : Type 0} (g : ℤ → ℤ → ℤ) (r : Result (List ℤ) E) (ys xs : List Step) (runs : List Run) → IfOk r (λ set. (number : ℤ) → Contains set number ↔ Any (IsIn number) runs) → Rows g ys runs xs
    → IfOk r (λ set. All (λ (one : Step). All (λ (other : Step). Contains set (g one.worth other.worth)) ys) xs)
rows_said g (Ok set) ys xs runs same rows = rows_all g ys xs runs set same rows
rows_said g (Err e) ys xs runs same rows = tt

-- ---- what ties the new term to the two

-- without a guard
pub unguarded : (P : List ℤ → Type 0) (values : List ℤ) → Unless [] P values ↔ P values
unguarded P values = (λ h. elim h as (λ _. P values) [ inl g ↦ absurd (no_guard values g) | inr p ↦ p ], λ p. inr p)

-- three terms come to at most a number that is 0, in whatever order they stand
pub in_any_order : (one other : List ℤ → ℤ) (m : ℤ) (values : List ℤ) → m ≡ pos 0 → one values ≡ other values → Unless [] (λ vs. one vs ≤ℤ m) values ↔ (other values ≤ℤ pos 0)
in_any_order one other m values is same =
    let plain = unguarded (λ vs. one vs ≤ℤ m) values in
    (λ h. let low = plain.0 h in omega (arith, ints, low, is, same), λ h. plain.1 (omega (arith, ints, h, is, same)))

pub reordered : {T E : Type 0} (r : Result T E) (L : List VariableLiterals) (f g : Cnf) (one other : List ℤ → ℤ) (m : ℤ) → IsLayoutOf L f → OnOk r (Adds L f L g (Unless [] (λ vs. one vs ≤ℤ m))) → m ≡ pos 0 → ((values : List ℤ) → one values ≡ other values)
    → OnOk r (Adds L f L g (λ vs. other vs ≤ℤ pos 0))
reordered r L f g one other m is_layout added is same =
    relabelled r L f L g (Unless [] (λ vs. one vs ≤ℤ m)) (λ vs. other vs ≤ℤ pos 0) is_layout (λ values among. in_any_order one other m values is (same values)) added

-- two terms and the opposite of a raised one come to at most 0 exactly where that one is worth as much, or at least the number from which it is raised
pub reaches_so : (L : List VariableLiterals) (f : Cnf) (values : List ℤ) (first second sum high opposite : Term) (from by end : ℤ) → IsTermOf L f first → IsTermOf L f second → IsTermOf L f sum → Arise L f values
    → IsRaised from by sum high → IsMirror high opposite → pos 0 ≤ℤ by → (first.bounds.greatest +ℤ second.bounds.greatest) ≤ℤ (from +ℤ by) → from ≡ end
    → ((worth_of values first +ℤ (worth_of values second +ℤ worth_of values opposite)) ≤ℤ pos 0) ↔ Reaches end first second sum values
reaches_so L f values first second sum high opposite from by end of_first of_second of_sum among raises mirror natural far is =
    let a = worth_within L f first values of_first among in
    let b = worth_within L f second values of_second among in
    let d = mirror_worth values high opposite mirror in
    let g = raised_worth L f from by values sum high of_sum among raises in
    let same = at_most_raised from by (worth_of values first +ℤ worth_of values second) (first.bounds.greatest +ℤ second.bounds.greatest) (worth_of values sum) (omega (arith, ints, a.1, b.1)) far natural in
    subst (λ n. ((worth_of values first +ℤ (worth_of values second +ℤ worth_of values opposite)) ≤ℤ pos 0) ↔ Reaches n first second sum values) is
    (λ h. same.0 (omega (arith, ints, h, d, g)), λ h. let low = same.1 h in omega (arith, ints, low, d, g))

-- mirrors reach the opposite of a lower end exactly where the terms stay within it
pub stays_so : (values : List ℤ) (first second sum one other both : Term) (low high : ℤ) → IsMirror first one → IsMirror second other → IsMirror sum both → high ≡ neg_ℤ low
    → Reaches high one other both values ↔ StaysWithin low first second sum values
stays_so values first second sum one other both low high a b d is =
    let p = mirror_worth values first one a in
    let q = mirror_worth values second other b in
    let r = mirror_worth values sum both d in (
      λ h. elim h as (λ _. StaysWithin low first second sum values) [ inl far ↦ inl (omega (arith, ints, far, r, is)) | inr near ↦ inr (omega (arith, ints, near, p, q, r)) ],
      λ h. elim h as (λ _. Reaches high one other both values) [ inl far ↦ inl (omega (arith, ints, far, r, is)) | inr near ↦ inr (omega (arith, ints, near, p, q, r)) ],
    )

-- what isn't needed
pub not_needed : (L : List VariableLiterals) (f : Cnf) (need : Bool) (P : List ℤ → Type 0) → IsLayoutOf L f → IsTrue f.from_new → (need ≡ true → ⊥) → Adds L f L f (λ values. need ≡ true → P values)
not_needed L f need P is_layout from_new never = nothing_new L f (λ values. need ≡ true → P values) is_layout from_new (λ values among h. absurd (never h))

-- what is needed
pub needed : {T E : Type 0} (r : Result T E) (L : List VariableLiterals) (f : Cnf) (L1 : List VariableLiterals) (g : Cnf) (need : Bool) (P : List ℤ → Type 0) → IsLayoutOf L f → need ≡ true → OnOk r (Adds L f L1 g P) → OnOk r (Adds L f L1 g (λ values. need ≡ true → P values))
needed r L f L1 g need P is_layout on added = relabelled r L f L1 g P (λ values. need ≡ true → P values) is_layout (λ values among. (λ p h. p, λ p. p on)) added

-- both sides of what stands for a sum
pub stands_for : {T E : Type 0} (r : Result T E) (L : List VariableLiterals) (f f1 g : Cnf) (c : Comparison) (low high : ℤ) (first second sum : Term) → IsLayoutOf L f
    → Adds L f L f1 (λ values. needs_no_less c ≡ true → Reaches high first second sum values) → OnOk r (Adds L f1 L g (λ values. needs_no_greater c ≡ true → StaysWithin low first second sum values))
    → OnOk r (Adds L f L g (StandsForSum c low high first second sum))
stands_for r L f f1 g c low high first second sum is_layout less greater =
    then_both r L f f1 g (λ values. needs_no_less c ≡ true → Reaches high first second sum values) (λ values. needs_no_greater c ≡ true → StaysWithin low first second sum values) (StandsForSum c low high first second sum)
    is_layout less (λ values among. (λ h. record { no_less = h.0; no_greater = h.1 }, λ h. (h.no_less, h.no_greater))) greater
