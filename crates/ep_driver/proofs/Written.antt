-- What files that were written one after another leave as it was.
use Rattle.std.proofs.Common.{◌≡◌, ℕ, List, [], ◌∷◌, ◌++◌, Option, Some, None, Bool, true, false, All, bytes_eq, option_map, if◌then◌else◌, inl, inr, refl, sym, ap, subst, ◌∙◌}
use Rattle.std.proofs.lemmas.List.Elements.{All-append, All-cons, All-head, All-nil, All-tail}
use Rattle.std.proofs.lemmas.Slice.Eq.{bytes_eq-Decides}
use Rattle.cnf_core.specs.Events.{LogState}
use Rattle.ep_base.specs.Outside.{Held, SameElsewhere, with_bytes}
use Rattle.ep_gen.specs.Texts.{generated_model, generated_params}
use Rattle.ep_driver.specs.Commands.{Want}
use Rattle.ep_outputs.specs.Outputs.{ArePartlyWritten, AreWritten, Content, FailsAt, Output, a_formula, a_text, an_answer, for_texts, named, steps}
use Rattle.ep_driver.specs.Outputs.{IsOutput, SameBut, outputs_in_order, written_for}
use Rattle.ep_driver.specs.declared.wanted.Wanted.{Wanted}

-- nothing is written where nothing is named
pub nothing-written : (log : LogState) (answer : List ℕ) (wanted : Wanted) (told after : Option Held) → written_for wanted ≡ [] → AreWritten log answer (written_for wanted) told after → after ≡ told
nothing-written log answer wanted told after e h =
    let P : List Output → Type 0 = λ os. AreWritten log answer os told after in
    let none : AreWritten log answer [] told after = subst P e h in
    none

-- ---- every other file

pub same-self : (P : List ℕ → Type 0) (told : Option Held) → SameBut P told told
same-self P None = refl
same-self P (Some held) = λ name other. refl

same-trans : (P : List ℕ → Type 0) (a b c : Option Held) → SameBut P a b → SameBut P b c → SameBut P a c
same-trans P None b c g h = subst (λ (x : Option Held). SameBut P x c) g h
same-trans P (Some x) None c g h = absurd g
same-trans P (Some x) (Some y) None g h = absurd h
same-trans P (Some x) (Some y) (Some z) g h = λ name other. h name other ∙ g name other

other-held : (P : List ℕ → Type 0) (name text asked : List ℕ) (held : Held) → P name → ¬ P asked → with_bytes name text held asked ≡ held asked
other-held P name text asked held is other = by (bytes_eq asked name) refl
  where
    by : (b : Bool) → bytes_eq asked name ≡ b → (if bytes_eq asked name then Some text else held asked) ≡ held asked
    by true e =
        let same : asked ≡ name = (bytes_eq-Decides asked name).0 e in
        absurd (other (subst P (sym same) is))
    by false e = ap (λ (b : Bool). if b then Some text else held asked) e

same-one : (P : List ℕ → Type 0) (name text : List ℕ) → P name → (told : Option Held) → SameBut P told (option_map (with_bytes name text) told)
same-one P name text is None = refl
same-one P name text is (Some held) = λ asked other. other-held P name text asked held is other

-- these files are among some
abbrev pub AllNamed : (List ℕ → Type 0) → List Output → Type 0
AllNamed P outputs = All (λ (o : Output). P o.name) outputs

pub written-same : (P : List ℕ → Type 0) (log : LogState) (answer : List ℕ) (outputs : List Output) (a b : Option Held) → AllNamed P outputs → AreWritten log answer outputs a b → SameBut P a b
written-same P log answer [] a b all h = subst (SameBut P a) (sym h) (same-self P a)
written-same P log answer (o ∷ os) a b all h =
    let next : Option Held = option_map (with_bytes o.name h.0) a in
    same-trans P a next b (same-one P o.name h.0 (All-head (λ (x : Output). P x.name) o os all) a) (written-same P log answer os next b (All-tail (λ (x : Output). P x.name) o os all) h.2)

front-named : (P : List ℕ → Type 0) (xs ys : List Output) → AllNamed P (xs ++ ys) → AllNamed P xs
front-named P [] ys all = All-nil (λ (x : Output). P x.name)
front-named P (x ∷ xs) ys all =
    All-cons (λ (x : Output). P x.name) x xs (All-head (λ (x : Output). P x.name) x (xs ++ ys) all) (front-named P xs ys (All-tail (λ (x : Output). P x.name) x (xs ++ ys) all))

one-named : (P : List ℕ → Type 0) (xs : List Output) (o : Output) (ys : List Output) → AllNamed P (xs ++ o ∷ ys) → P o.name
one-named P [] o ys all = All-head (λ (x : Output). P x.name) o ys all
one-named P (x ∷ xs) o ys all = one-named P xs o ys (All-tail (λ (x : Output). P x.name) x (xs ++ o ∷ ys) all)

same-elsewhere : (P : List ℕ → Type 0) (name : List ℕ) (told after : Option Held) → P name → SameElsewhere name told after → SameBut P told after
same-elsewhere P name None after is h = h
same-elsewhere P name (Some before) None is h = absurd h
same-elsewhere P name (Some before) (Some held) is h = λ asked other. h asked (λ same. other (subst P (sym same) is))

pub failed-same : (P : List ℕ → Type 0) (log : LogState) (answer : List ℕ) (outputs : List Output) (a c : Option Held) (name : List ℕ) → AllNamed P outputs → FailsAt log answer outputs a c name → SameBut P a c
failed-same P log answer outputs a c name all h =
    let cut : AllNamed P (h.made ++ h.failed ∷ h.rest) = subst (AllNamed P) h.cut all in
    let is : P name = subst P (sym h.is_named) (one-named P h.made h.failed h.rest cut) in
    same-trans P a h.between c (written-same P log answer h.made a h.between (front-named P h.made (h.failed ∷ h.rest) cut) h.written) (same-elsewhere P name h.between c is h.elsewhere)

pub partly-same : (P : List ℕ → Type 0) (log : LogState) (answer : List ℕ) (outputs : List Output) (a c : Option Held) → AllNamed P outputs → ArePartlyWritten log answer outputs a c → SameBut P a c
partly-same P log answer outputs a c all h =
    written-same P log answer h.made a c (front-named P h.made h.rest (subst (AllNamed P) h.cut all)) h.written

-- ---- the files that words name

named-all : (P : List ℕ → Type 0) (content : Content) (output : Option (List ℕ)) → ((name : List ℕ) → output ≡ Some name → P name) → AllNamed P (named content output)
unfolding named
named-all P content None all = All-nil (λ (x : Output). P x.name)
named-all P content (Some name) all = All-cons (λ (x : Output). P x.name) (record { content = content; name = name }) [] (all name refl) (All-nil (λ (x : Output). P x.name))

pub outputs-named : (words : List (List ℕ)) (wanted : Wanted) → Want words wanted → AllNamed (IsOutput words) (written_for wanted)
unfolding for_texts outputs_in_order written_for
outputs-named words (Wanted.Search model params mode request o) want =
    let wanted : Wanted = Wanted.Search model params mode request o in
    let P : Output → Type 0 = λ x. IsOutput words x.name in
    All-append P (named a_formula o.formula) (named steps o.log ++ named an_answer o.solution)
    (named-all (IsOutput words) a_formula o.formula (λ name e. (wanted, want, inl e)))
    (All-append P (named steps o.log) (named an_answer o.solution)
    (named-all (IsOutput words) steps o.log (λ name e. (wanted, want, inr (inl e))))
    (named-all (IsOutput words) an_answer o.solution (λ name e. (wanted, want, inr (inr e)))))
outputs-named words (Wanted.Opb opb conflicts) want = All-nil (λ (x : Output). IsOutput words x.name)
outputs-named words (Wanted.Verify model params mode solution) want = All-nil (λ (x : Output). IsOutput words x.name)
outputs-named words (Wanted.Check formula proof workers) want = All-nil (λ (x : Output). IsOutput words x.name)
outputs-named words (Wanted.Generate number conflicts eprime param) want =
    let wanted : Wanted = Wanted.Generate number conflicts eprime param in
    let P : Output → Type 0 = λ x. IsOutput words x.name in
    All-append P (named (a_text generated_model) eprime) (named (a_text (generated_params number)) param)
    (named-all (IsOutput words) (a_text generated_model) eprime (λ name e. (wanted, want, inl e)))
    (named-all (IsOutput words) (a_text (generated_params number)) param (λ name e. (wanted, want, inr e)))
