-- Many new variables of 0 and 1.
use Rattle.std.proofs.Common.{◌≡◌, ◌↔◌, inl, inr, ℕ, zero, suc, ◌+◌, ◌<◌, ℤ, pos, negsuc, Bool, List, [], ◌∷◌, ◌++◌, length, map, take, refl, sym, ap, subst, ◌∙◌, arith, get_or}
use Rattle.std.specs.List.{All, Any, Contains}
use Rattle.std.proofs.lemmas.List.{append-nil, append_assoc, length-append, length_push, length-take-le, map-append, nil_from_length, take_all, take_more}
use Rattle.std.proofs.lemmas.List.Elements.{All-cons, All-contains, All-head, All-nil, All-push, All-tail, All-take, Contains-append_right}
use Rattle.std.proofs.lemmas.Int.{ints}
use Rattle.cnf_core.proofs.Keeping.{agree_below, agree_on}
use Rattle.cnf_core.proofs.Members.{All-from_contains}
use Rattle.cnf_core.specs.Clauses.{AgreeUpTo, Satisfies}
use Rattle.cnf_core.specs.Formula.{Cnf, Extends}
use Rattle.ep_base.specs.Runs.{IsIn}
use Rattle.ep_base.specs.declared.run_lists.Run.{Run}
use Rattle.enc_atoms.proofs.Adding.{goes_further, goes_nowhere, satisfied_before}
use Rattle.enc_atoms.proofs.Decoded.{length_values, values_along, values_push}
use Rattle.enc_atoms.specs.Atoms.{Adds}
use Rattle.enc_var.specs.Decoding.{HasLiteralsUpTo, Means, VariableLiterals, decoded}
use Rattle.enc_var.specs.Layouts.{GoesOn, HasFreeChoice, IsLayoutOf, decoded_values}
use Rattle.enc_atoms.specs.Steps.{HasTruths, IsReady, IsTruth, IsTruthDomain, SomeTruths, numbers_from}

-- the numbers of the run from 0 to 1
pub truth_domain_is : (domain : List ℤ) (parts : List Run) → parts ≡ record { lo = pos 0; hi = pos 1 } ∷ [] → ((number : ℤ) → Contains domain number ↔ Any (IsIn number) parts) → IsTruthDomain domain
truth_domain_is domain parts is numbers = record {
  has = λ v truth. (numbers v).1 (subst (Any (IsIn v)) (sym is) (0, record { lo = pos 0; hi = pos 1 }, omega arith, refl, within v truth));
  only = λ v found. by v (subst (Any (IsIn v)) is ((numbers v).0 found));
}
  where
    within : (v : ℤ) → IsTruth v → IsIn v (record { lo = pos 0; hi = pos 1 })
    within v truth = elim truth as (λ _. IsIn v (record { lo = pos 0; hi = pos 1 })) [
      | inl zero_is ↦ (omega (arith, ints, zero_is), omega (arith, ints, zero_is))
      | inr one_is ↦ (omega (arith, ints, one_is), omega (arith, ints, one_is))
    ]

    either : (v : ℤ) → IsIn v (record { lo = pos 0; hi = pos 1 }) → IsTruth v
    either (pos zero) h = inl refl
    either (pos (suc zero)) h = inr refl
    either (pos (suc (suc n))) h = absurd (omega (arith, ints, h.1))
    either (negsuc n) h = absurd (omega (arith, ints, h.0))

    by : (v : ℤ) → Any (IsIn v) (record { lo = pos 0; hi = pos 1 } ∷ []) → IsTruth v
    by v (zero, run, low, is_run, h) = either v (subst (IsIn v) (sym is_run) h)
    by v (suc k, run, low, is_run, h) = absurd (omega (arith, low))

values_append : (layout added : List VariableLiterals) (s : ℕ → Bool) → decoded_values (layout ++ added) s ≡ decoded_values layout s ++ decoded_values added s
unfolding decoded_values
values_append layout added s = map-append (decoded s) layout added

none_decoded : (s : ℕ → Bool) → decoded_values [] s ≡ []
unfolding decoded_values
none_decoded s = refl

-- no variable
pub no_truths : (L : List VariableLiterals) (f : Cnf) → IsReady L f → HasTruths L f L f 0
no_truths L f ready = record {
  goes_on = goes_nowhere L f ready.is_layout ready.from_new;
  added = [];
  pushed = sym (append-nil L);
  many = refl;
  domains = All-nil (λ e. IsTruthDomain e.domain);
  choice = λ s truths met none each. (
    record { values = s; agrees = λ v one below. refl; satisfies = met },
    none_decoded s ∙ sym (nil_from_length truths none),
  );
}

-- one more variable
pub one_more_truth : (L : List VariableLiterals) (f : Cnf) (L1 : List VariableLiterals) (g : Cnf) (L2 : List VariableLiterals) (h : Cnf) (e : VariableLiterals) (k : ℕ)
    → HasTruths L f L1 g k → IsTruthDomain e.domain → L2 ≡ L1 ++ e ∷ [] → GoesOn L1 g L2 h → HasFreeChoice g e h → HasTruths L f L2 h (k + 1)
one_more_truth L f L1 g L2 h e k so_far domain pushed goes free = record {
  goes_on = goes_further L f L1 g L2 h so_far.goes_on goes;
  added = so_far.added ++ e ∷ [];
  pushed = pushed ∙ ap (λ es. es ++ e ∷ []) so_far.pushed ∙ append_assoc L so_far.added (e ∷ []);
  many = length_push so_far.added e ∙ ap (λ n. n + 1) so_far.many;
  domains = All-push (λ d. IsTruthDomain d.domain) so_far.added e so_far.domains domain;
  choice = choose;
}
  where
    choose : (s : ℕ → Bool) (truths : List ℤ) → Satisfies s f.clauses → length truths ≡ k + 1 → All IsTruth truths
        → (far : Extends f.vars s h) × (decoded_values (so_far.added ++ e ∷ []) far.values ≡ truths)
    choose s truths met many each =
        let low : k < length truths = omega (arith, many) in
        let near = so_far.choice s (take k truths) met (length-take-le k truths (omega (arith, many))) (All-take IsTruth k truths each) in
        let last : ℤ = get_or truths k (pos 0) in
        let there = free.choice near.0.values last near.0.satisfies (domain.has last (each k (pos 0) low)) in
        let t = there.0.values in
        let known : All (HasLiteralsUpTo g.vars) so_far.added =
        All-from_contains (HasLiteralsUpTo g.vars) so_far.added (λ d found. All-contains (HasLiteralsUpTo g.vars) (L ++ so_far.added) d (subst (All (HasLiteralsUpTo g.vars)) so_far.pushed so_far.goes_on.is_layout.literals) (Contains-append_right L so_far.added d found)) in (
          record {
            values = t;
            agrees = agree_on f.vars s near.0.values t near.0.agrees (agree_below f.vars g.vars near.0.values t so_far.goes_on.variables there.0.agrees);
            satisfies = there.0.satisfies;
          },
          values_push so_far.added e t
              ∙ ap (λ vs. vs ++ decoded t e ∷ []) (sym (values_along g.vars near.0.values t so_far.added there.0.agrees known) ∙ near.1)
              ∙ ap (λ v. take k truths ++ v ∷ []) there.1
              ∙ sym (take_more truths k (pos 0) low)
              ∙ take_all (k + 1) truths (omega (arith, many)),
        )

-- what decodes among domains of 0 and 1
are_truths : (t : ℕ → Bool) (es : List VariableLiterals) → All (Means t) es → All (λ e. IsTruthDomain e.domain) es → All IsTruth (decoded_values es t)
unfolding decoded_values
are_truths t [] means domains = All-nil IsTruth
are_truths t (e ∷ es) means domains =
    All-cons IsTruth (decoded t e) (map (decoded t) es)
    ((All-head (λ x. IsTruthDomain x.domain) e es domains).only (decoded t e) (All-head (Means t) e es means).among)
    (are_truths t es (All-tail (Means t) e es means) (All-tail (λ x. IsTruthDomain x.domain) e es domains))

-- Many variables of 0 and 1, and then what is said of their numbers and of those of the earlier variables.
pub adds_truths : (L : List VariableLiterals) (f : Cnf) (L1 : List VariableLiterals) (f1 : Cnf) (L2 : List VariableLiterals) (f2 : Cnf) (count : ℕ) (Q : List ℤ → Type 0) → IsLayoutOf L f
    → HasTruths L f L1 f1 count → Adds L1 f1 L2 f2 Q → Adds L f L2 f2 (λ values. SomeTruths count (λ truths. Q (values ++ truths)))
adds_truths L f L1 f1 L2 f2 count Q is_layout new adds = record {
  goes_on = goes_further L f L1 f1 L2 f2 new.goes_on adds.goes_on;
  keeps = record {
    variables = omega (arith, new.goes_on.variables, adds.keeps.variables);
    extension = λ s met. (λ far. forth s met far, λ on. back s met on.truths on.many on.each on.holds_there);
    restriction = λ s met. satisfied_before L f L1 f1 new.goes_on s (adds.keeps.restriction s met);
  };
}
  where
    parts : (t : ℕ → Bool) → decoded_values L1 t ≡ decoded_values L t ++ decoded_values new.added t
    parts t = ap (λ es. decoded_values es t) new.pushed ∙ values_append L new.added t

    same : (s t : ℕ → Bool) → AgreeUpTo f.vars s t → decoded_values L s ≡ decoded_values L t
    same s t agree = values_along f.vars s t L agree is_layout.literals

    means : (t : ℕ → Bool) → Satisfies t f1.clauses → All (Means t) new.added
    means t met = All-from_contains (Means t) new.added (λ d found. All-contains (Means t) (L ++ new.added) d (subst (All (Means t)) new.pushed (new.goes_on.is_layout.meaning t met)) (Contains-append_right L new.added d found))

    forth : (s : ℕ → Bool) → Satisfies s f.clauses → Extends f.vars s f2 → SomeTruths count (λ truths. Q (decoded_values L s ++ truths))
    forth s met far =
        let t = far.values in
        let on_one = adds.keeps.restriction t far.satisfies in
        let here : Extends f1.vars t f2 = record { values = t; agrees = λ v low high. refl; satisfies = far.satisfies } in
        record {
          truths = decoded_values new.added t;
          many = length_values new.added t ∙ new.many;
          each = are_truths t new.added (means t on_one) new.domains;
          holds_there = subst (λ values. Q (values ++ decoded_values new.added t)) (sym (same s t far.agrees)) (subst Q (parts t) ((adds.keeps.extension t on_one).0 here));
        }

    back : (s : ℕ → Bool) → Satisfies s f.clauses → (truths : List ℤ) → length truths ≡ count → All IsTruth truths → Q (decoded_values L s ++ truths) → Extends f.vars s f2
    back s met truths many each q =
        let chosen = new.choice s truths met many each in
        let t = chosen.0.values in
        let there : decoded_values L s ++ truths ≡ decoded_values L1 t =
        ap (λ values. values ++ truths) (same s t chosen.0.agrees) ∙ ap (λ vs. decoded_values L t ++ vs) (sym chosen.1) ∙ sym (parts t) in
        let far = (adds.keeps.extension t chosen.0.satisfies).1 (subst Q there q) in
        record {
          values = far.values;
          agrees = agree_on f.vars s t far.values chosen.0.agrees (agree_below f.vars f1.vars t far.values new.goes_on.variables far.agrees);
          satisfies = far.satisfies;
        }

-- numbers one after another
one_more_number : (count first : ℕ) → numbers_from first count ++ (first + count) ∷ [] ≡ numbers_from first (suc count)
unfolding numbers_from
one_more_number zero first = ap (λ n. n ∷ []) (omega arith)
one_more_number (suc count) first = ap (λ ns. first ∷ ns) (ap (λ n. numbers_from (first + 1) count ++ n ∷ []) (omega arith) ∙ one_more_number count (first + 1))

-- the next of many numbers
pub next_number : (items : List ℕ) (number first count : ℕ) → items ≡ numbers_from first count → number ≡ first + count → items ++ number ∷ [] ≡ numbers_from first (count + 1)
next_number items number first count so_far is =
    ap (λ ns. ns ++ number ∷ []) so_far ∙ ap (λ n. numbers_from first count ++ n ∷ []) is ∙ one_more_number count first ∙ ap (numbers_from first) (omega arith)

pub no_number : (first : ℕ) → [] ≡ numbers_from first 0
unfolding numbers_from
no_number first = refl

-- how many variables there are behind new ones
pub length_later : (L : List VariableLiterals) (f : Cnf) (L1 : List VariableLiterals) (g : Cnf) (k : ℕ) → HasTruths L f L1 g k → length L1 ≡ length L + k
length_later L f L1 g k new = ap length new.pushed ∙ length-append L new.added ∙ ap (λ n. length L + n) new.many

pub length-numbers_from : (first count : ℕ) → length (numbers_from first count) ≡ count
unfolding numbers_from
length-numbers_from first zero = refl
length-numbers_from first (suc count) = ap suc (length-numbers_from (first + 1) count)

pub numbers_from_at : (first count k d : ℕ) → k < count → get_or (numbers_from first count) k d ≡ first + k
unfolding numbers_from
numbers_from_at first zero k d low = absurd (omega (arith, low))
numbers_from_at first (suc count) zero d low = omega arith
numbers_from_at first (suc count) (suc k) d low = numbers_from_at (first + 1) count k d (omega (arith, low)) ∙ omega arith
