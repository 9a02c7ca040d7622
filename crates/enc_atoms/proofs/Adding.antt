-- Laws of what is added to a formula: each composes what encoders have said so far with what they say next.
use Rattle.std.proofs.Common.{◌≡◌, ◌↔◌, ℕ, zero, suc, ◌+◌, ◌<◌, ◌≤◌, ℤ, Bool, IsTrue, List, [], ◌∷◌, ◌++◌, length, take, refl, sym, ap, subst, ◌∙◌, arith, get_or}
use Rattle.std.specs.List.{All, Contains}
use Rattle.std.proofs.lemmas.List.{append-nil, append_assoc, take_more, take-take, take_all}
use Rattle.std.proofs.lemmas.List.Elements.{All-append, All-contains, All-more, Contains-append_left, Contains-push}
use Rattle.cnf_core.proofs.Keeping.{agree_below, agree_on, keeps_itself, keeps_like}
use Rattle.cnf_core.proofs.Members.{All-from_contains}
use Rattle.cnf_core.specs.Clauses.{AgreeUpTo, Satisfies, SatisfiesClause}
use Rattle.cnf_core.specs.Formula.{Cnf, Extends}
use Rattle.cnf_core.specs.Steps.{IsConsistent}
use Rattle.enc_var.specs.Decoding.{Means, VariableLiterals, decoded}
use Rattle.enc_var.specs.Layouts.{GoesOn, HasFreeChoice, IsLayoutOf, decoded_values}
use Rattle.enc_atoms.proofs.Decoded.{length_among, values_along, values_among, values_front, values_push}
use Rattle.enc_atoms.specs.Atoms.{Adds, AreOfDomains, HasNumber}

-- a layout and its formula go on from themselves
pub goes_nowhere : (layout : List VariableLiterals) (f : Cnf) → IsLayoutOf layout f → IsTrue f.from_new → GoesOn layout f layout f
goes_nowhere layout f is_layout from_new = record {
  from_new = from_new;
  is_layout = is_layout;
  earlier = take_all (length layout) layout (omega arith);
  variables = omega arith;
  added = [];
  clauses = sym (append-nil f.clauses);
  consistent = λ k d low. absurd (omega (arith, low));
}

-- two steps
pub goes_further : (L : List VariableLiterals) (f : Cnf) (L1 : List VariableLiterals) (f1 : Cnf) (L2 : List VariableLiterals) (f2 : Cnf) → GoesOn L f L1 f1 → GoesOn L1 f1 L2 f2 → GoesOn L f L2 f2
goes_further L f L1 f1 L2 f2 one two = record {
  from_new = two.from_new;
  is_layout = two.is_layout;
  earlier = front_of_front L L1 L2 one.earlier two.earlier;
  variables = omega (arith, one.variables, two.variables);
  added = one.added ++ two.added;
  clauses = two.clauses ∙ ap (λ xs. xs ++ two.added) one.clauses ∙ append_assoc f.clauses one.added two.added;
  consistent = All-append IsConsistent one.added two.added one.consistent two.consistent;
}
  where
    short : (n : ℕ) (xs : List VariableLiterals) → length (take n xs) ≤ length xs
    short zero xs = omega arith
    short (suc n) [] = omega arith
    short (suc n) (x ∷ xs) = let h = short n xs in omega (arith, h)

    front_of_front : (xs ys zs : List VariableLiterals) → take (length xs) ys ≡ xs → take (length ys) zs ≡ ys → take (length xs) zs ≡ xs
    front_of_front xs ys zs first second =
        let low : length xs ≤ length ys = subst (λ n. n ≤ length ys) (ap length first) (short (length xs) ys) in
        sym (take-take (length xs) (length ys) zs low) ∙ ap (take (length xs)) second ∙ first

-- what satisfies the later formula satisfies the earlier one
pub satisfied_before : (L : List VariableLiterals) (f : Cnf) (L1 : List VariableLiterals) (g : Cnf) → GoesOn L f L1 g → (s : ℕ → Bool) → Satisfies s g.clauses → Satisfies s f.clauses
satisfied_before L f L1 g goes s met =
    All-from_contains (SatisfiesClause s) f.clauses
    (λ c found. All-contains (SatisfiesClause s) (f.clauses ++ goes.added) c (subst (Satisfies s) goes.clauses met) (Contains-append_left f.clauses goes.added c found))

-- Nothing is added.
pub adds_nothing : (L : List VariableLiterals) (f : Cnf) → IsLayoutOf L f → IsTrue f.from_new → Adds L f L f (λ values. Unit {0})
adds_nothing L f is_layout from_new = record {
  goes_on = goes_nowhere L f is_layout from_new;
  keeps = keeps_itself f;
}

-- The same in other words, which need only agree on numbers of the variables' domains.
pub adds_like : (L : List VariableLiterals) (f : Cnf) (L1 : List VariableLiterals) (g : Cnf) (P R : List ℤ → Type 0) → IsLayoutOf L f → Adds L f L1 g P → ((values : List ℤ) → AreOfDomains L values → P values ↔ R values) → Adds L f L1 g R
adds_like L f L1 g P R is_layout adds same = record {
  goes_on = adds.goes_on;
  keeps = keeps_like f g (λ s. P (decoded_values L s)) (λ s. R (decoded_values L s)) adds.keeps
      (λ s met. same (decoded_values L s) (values_among L s (is_layout.meaning s met)));
}

-- Two steps, the second of which says of the later layout's numbers what `Q0` says of the earlier layout's.
pub adds_later : (L : List VariableLiterals) (f : Cnf) (L1 : List VariableLiterals) (f1 : Cnf) (L2 : List VariableLiterals) (f2 : Cnf) (P Q Q0 : List ℤ → Type 0) → IsLayoutOf L f
    → Adds L f L1 f1 P → Adds L1 f1 L2 f2 Q → ((values : List ℤ) → AreOfDomains L1 values → Q values ↔ Q0 (take (length L) values))
    → Adds L f L2 f2 (λ values. P values × Q0 values)
adds_later L f L1 f1 L2 f2 P Q Q0 is_layout one two speaks = record {
  goes_on = goes_further L f L1 f1 L2 f2 one.goes_on two.goes_on;
  keeps = record {
    variables = omega (arith, one.keeps.variables, two.keeps.variables);
    extension = λ s met. (λ far. forth s met far, λ on. back s met on.0 on.1);
    restriction = λ s met. one.keeps.restriction s (two.keeps.restriction s met);
  };
}
  where
    -- the earlier variables have the same numbers
    same : (s t : ℕ → Bool) → AgreeUpTo f.vars s t → decoded_values L s ≡ take (length L) (decoded_values L1 t)
    same s t agree = values_along f.vars s t L agree is_layout.literals ∙ sym (values_front L L1 t one.goes_on.earlier)

    among : (t : ℕ → Bool) → Satisfies t f1.clauses → AreOfDomains L1 (decoded_values L1 t)
    among t met = values_among L1 t (one.goes_on.is_layout.meaning t met)

    forth : (s : ℕ → Bool) → Satisfies s f.clauses → Extends f.vars s f2 → P (decoded_values L s) × Q0 (decoded_values L s)
    forth s met far =
        let t = far.values in
        let on_one = two.keeps.restriction t far.satisfies in
        let here : Extends f1.vars t f2 = record { values = t; agrees = λ v low high. refl; satisfies = far.satisfies } in (
          (one.keeps.extension s met).0 (record { values = t; agrees = far.agrees; satisfies = on_one }),
          subst Q0 (sym (same s t far.agrees)) ((speaks (decoded_values L1 t) (among t on_one)).0 ((two.keeps.extension t on_one).0 here)),
        )

    back : (s : ℕ → Bool) → Satisfies s f.clauses → P (decoded_values L s) → Q0 (decoded_values L s) → Extends f.vars s f2
    back s met p q =
        let mid = (one.keeps.extension s met).1 p in
        let t = mid.values in
        let far = (two.keeps.extension t mid.satisfies).1 ((speaks (decoded_values L1 t) (among t mid.satisfies)).1 (subst Q0 (same s t mid.agrees) q)) in
        record {
          values = far.values;
          agrees = agree_on f.vars s t far.values mid.agrees (agree_below f.vars f1.vars t far.values one.keeps.variables far.agrees);
          satisfies = far.satisfies;
        }

-- Two steps, the first of which makes no variable of the layout.
pub adds_both : (L : List VariableLiterals) (f f1 : Cnf) (L2 : List VariableLiterals) (f2 : Cnf) (P Q : List ℤ → Type 0) → IsLayoutOf L f
    → Adds L f L f1 P → Adds L f1 L2 f2 Q → Adds L f L2 f2 (λ values. P values × Q values)
adds_both L f f1 L2 f2 P Q is_layout one two =
    adds_later L f L f1 L2 f2 P Q Q is_layout one two
    (λ values among. let whole = take_all (length L) values (omega (arith, length_among L values among)) in (λ q. subst Q (sym whole) q, λ q. subst Q whole q))

one_more : {X : Type 0} (P : X → Type 0) (xs : List X) (k : ℕ) (d : X) → k < length xs → (All P (take k xs) × P (get_or xs k d)) ↔ All P (take (k + 1) xs)
one_more P xs k d low = (
  λ on. All-more P xs k d low on.0 on.1,
  λ all.
      let pushed = subst (All P) (take_more xs k d low) all in (
        All-from_contains P (take k xs) (λ x found. All-contains P (take k xs ++ get_or xs k d ∷ []) x pushed (Contains-append_left (take k xs) (get_or xs k d ∷ []) x found)),
        All-contains P (take k xs ++ get_or xs k d ∷ []) (get_or xs k d) pushed (Contains-push (take k xs) (get_or xs k d)),
      ),
)

-- One more of many: what holds of the elements so far, and of the next one.
pub adds_one_more : {X : Type 0} (L : List VariableLiterals) (f f1 : Cnf) (L2 : List VariableLiterals) (f2 : Cnf) (H : List ℤ → X → Type 0) (xs : List X) (k : ℕ) (d : X) → IsLayoutOf L f → k < length xs
    → Adds L f L f1 (λ values. All (H values) (take k xs)) → Adds L f1 L2 f2 (λ values. H values (get_or xs k d)) → Adds L f L2 f2 (λ values. All (H values) (take (k + 1) xs))
adds_one_more L f f1 L2 f2 H xs k d is_layout low one two =
    let P : List ℤ → Type 0 = λ values. All (H values) (take k xs) × H values (get_or xs k d) in
    adds_like L f L2 f2 P (λ values. All (H values) (take (k + 1) xs)) is_layout
    (adds_both L f f1 L2 f2 (λ values. All (H values) (take k xs)) (λ values. H values (get_or xs k d)) is_layout one two)
    (λ values among. one_more (H values) xs k d low)

-- none of them yet
pub adds_none : {X : Type 0} (L : List VariableLiterals) (f : Cnf) (H : List ℤ → X → Type 0) (xs : List X) → IsLayoutOf L f → IsTrue f.from_new → Adds L f L f (λ values. All (H values) (take 0 xs))
adds_none L f H xs is_layout from_new =
    adds_like L f L f (λ values. Unit {0}) (λ values. All (H values) (take 0 xs)) is_layout (adds_nothing L f is_layout from_new)
    (λ values among. (λ any k d low. absurd (omega (arith, low)), λ all. tt))

-- all of them
pub adds_all : {X : Type 0} (L : List VariableLiterals) (f : Cnf) (L2 : List VariableLiterals) (f2 : Cnf) (H : List ℤ → X → Type 0) (xs : List X) (k : ℕ) → length xs ≤ k
    → Adds L f L2 f2 (λ values. All (H values) (take k xs)) → Adds L f L2 f2 (λ values. All (H values) xs)
adds_all L f L2 f2 H xs k long adds = subst (λ ys. Adds L f L2 f2 (λ values. All (H values) ys)) (take_all k xs long) adds

-- One more of many, where further variables may have been made on the way.
pub adds_one_more_later : {X : Type 0} (L : List VariableLiterals) (f : Cnf) (L1 : List VariableLiterals) (f1 : Cnf) (L2 : List VariableLiterals) (f2 : Cnf) (Q : List ℤ → Type 0) (H : List ℤ → X → Type 0) (xs : List X) (k : ℕ) (d : X) → IsLayoutOf L f → k < length xs
    → Adds L f L1 f1 (λ values. All (H values) (take k xs)) → Adds L1 f1 L2 f2 Q → ((values : List ℤ) → AreOfDomains L1 values → Q values ↔ H (take (length L) values) (get_or xs k d))
    → Adds L f L2 f2 (λ values. All (H values) (take (k + 1) xs))
adds_one_more_later L f L1 f1 L2 f2 Q H xs k d is_layout low one two speaks =
    let P : List ℤ → Type 0 = λ values. All (H values) (take k xs) × H values (get_or xs k d) in
    adds_like L f L2 f2 P (λ values. All (H values) (take (k + 1) xs)) is_layout
    (adds_later L f L1 f1 L2 f2 (λ values. All (H values) (take k xs)) Q (λ values. H values (get_or xs k d)) is_layout one two speaks)
    (λ values among. one_more (H values) xs k d low)

-- A new variable, and then what is said of its number and of those of the earlier variables.
pub adds_variable : (L : List VariableLiterals) (f : Cnf) (L1 : List VariableLiterals) (f1 : Cnf) (e : VariableLiterals) (L2 : List VariableLiterals) (f2 : Cnf) (Q : List ℤ → Type 0) → IsLayoutOf L f
    → L1 ≡ L ++ e ∷ [] → GoesOn L f L1 f1 → HasFreeChoice f e f1 → Adds L1 f1 L2 f2 Q
    → Adds L f L2 f2 (λ values. HasNumber e.domain (λ v. Q (values ++ v ∷ [])))
adds_variable L f L1 f1 e L2 f2 Q is_layout pushed goes free adds = record {
  goes_on = goes_further L f L1 f1 L2 f2 goes adds.goes_on;
  keeps = record {
    variables = omega (arith, goes.variables, adds.keeps.variables);
    extension = λ s met. (λ far. forth s met far, λ on. back s met on.number on.among on.holds_there);
    restriction = λ s met. satisfied_before L f L1 f1 goes s (adds.keeps.restriction s met);
  };
}
  where
    pushed_values : (t : ℕ → Bool) → decoded_values L1 t ≡ decoded_values L t ++ decoded t e ∷ []
    pushed_values t = ap (λ es. decoded_values es t) pushed ∙ values_push L e t

    same : (s t : ℕ → Bool) → AgreeUpTo f.vars s t → decoded_values L s ≡ decoded_values L t
    same s t agree = values_along f.vars s t L agree is_layout.literals

    means : (t : ℕ → Bool) → Satisfies t f1.clauses → Contains e.domain (decoded t e)
    means t met = (All-contains (Means t) (L ++ e ∷ []) e (subst (All (Means t)) pushed (goes.is_layout.meaning t met)) (Contains-push L e)).among

    forth : (s : ℕ → Bool) → Satisfies s f.clauses → Extends f.vars s f2 → HasNumber e.domain (λ v. Q (decoded_values L s ++ v ∷ []))
    forth s met far =
        let t = far.values in
        let on_one = adds.keeps.restriction t far.satisfies in
        let here : Extends f1.vars t f2 = record { values = t; agrees = λ v low high. refl; satisfies = far.satisfies } in
        record {
          number = decoded t e;
          among = means t on_one;
          holds_there = subst (λ values. Q (values ++ decoded t e ∷ [])) (sym (same s t far.agrees)) (subst Q (pushed_values t) ((adds.keeps.extension t on_one).0 here));
        }

    back : (s : ℕ → Bool) → Satisfies s f.clauses → (v : ℤ) → Contains e.domain v → Q (decoded_values L s ++ v ∷ []) → Extends f.vars s f2
    back s met v found q =
        let chosen = free.choice s v met found in
        let t = chosen.0.values in
        let there : decoded_values L s ++ v ∷ [] ≡ decoded_values L1 t =
        ap (λ values. values ++ v ∷ []) (same s t chosen.0.agrees) ∙ ap (λ w. decoded_values L t ++ w ∷ []) (sym chosen.1) ∙ sym (pushed_values t) in
        let far = (adds.keeps.extension t chosen.0.satisfies).1 (subst Q there q) in
        record {
          values = far.values;
          agrees = agree_on f.vars s t far.values chosen.0.agrees (agree_below f.vars f1.vars t far.values goes.variables far.agrees);
          satisfies = far.satisfies;
        }
