-- Settings, one after another.
use Rattle.std.proofs.Common.{◌≡◌, ◌≢◌, inl, inr, List, [], ◌∷◌, ◌++◌, Some, None, refl, sym, ◌∙◌, ap, ap₂, subst, false}
use Rattle.std.specs.Str.{bytes_eq}
use Rattle.std.proofs.lemmas.Bool.{cases_Bool, false_from_ne_true, both_ways}
use Rattle.std.proofs.lemmas.Slice.Eq.{bytes_eq-Decides}
use Rattle.ep_words.specs.Settings.{AreSetOnce, BeginsBySetting, MakeSettings, Setting, Text, value_of}
use Rattle.ep_words.specs.Commands.{IsCommand}
use Rattle.ep_words.specs.Jobs.{job_of}
use Rattle.ep_words.specs.declared.job.Job.{Job}
use Rattle.ep_words.proofs.Splits.{no_split, options_have_no_equals, same_split}
use Rattle.ep_words.proofs.Words.{behind_dashes, heads, tails}

-- ---- one setting

pub record Same (name value : Text) (others : List Text) (name' value' : Text) (others' : List Text) : Type 0 where
  pub names : name ≡ name'
  pub values : value ≡ value'
  pub rests : others ≡ others'

-- words begin by one setting at most
pub same_begin : (words : List Text) (n v : Text) (o : List Text) (m w : Text) (p : List Text) → BeginsBySetting words n v o → BeginsBySetting words m w p → Same n v o m w p
same_begin words n v o m w p a b =
    let a_lacks = options_have_no_equals n a.known in
    let b_lacks = options_have_no_equals m b.known in
    elim a.spelled [
      | inl x ↦ elim b.spelled [
        | inl y ↦
            let lists = sym x ∙ y in
            let same = same_split n m v w a_lacks b_lacks (behind_dashes (n ++ 61 ∷ v) (m ++ 61 ∷ w) (heads _ _ _ _ lists)) in
            record { names = same.0; values = same.1; rests = tails _ _ _ _ lists }
        | inr y ↦
            let lists = sym y.0 ∙ x in
            absurd (no_split m n v b_lacks (behind_dashes m (n ++ 61 ∷ v) (heads _ _ _ _ lists)))
      ]
      | inr x ↦ elim b.spelled [
        | inl y ↦
            let lists = sym x.0 ∙ y in
            absurd (no_split n m w a_lacks (behind_dashes n (m ++ 61 ∷ w) (heads _ _ _ _ lists)))
        | inr y ↦
            let lists = sym x.0 ∙ y.0 in
            let later = tails _ _ _ _ lists in
            record { names = behind_dashes n m (heads _ _ _ _ lists); values = heads _ _ _ _ later; rests = tails _ _ _ _ later }
      ]
    ]

-- words that begin by a setting aren't none
pub some_words : (n v : Text) (o : List Text) → BeginsBySetting [] n v o → ⊥
some_words n v o begins = elim begins.spelled [ inl x ↦ cc | inr x ↦ let both = x.0 in cc ]

-- ---- settings that are made once

-- a name that isn't set isn't set by another option either
none_push : (q : Text) (xs : List Setting) (name value : Text) → value_of q xs ≡ None → bytes_eq name q ≡ false → value_of q (xs ++ (name, value) ∷ []) ≡ None
none_push q [] name value none apart = rw apart refl
none_push q (x ∷ xs) name value none apart =
    elim (cases_Bool (bytes_eq x.0 q)) [
      | inl e ↦ let some = rw e at none in cc
      | inr e ↦ rw e (none_push q xs name value (rw e at none) apart)
    ]

pub bytes_apart : (a b : Text) → bytes_eq a b ≡ false → bytes_eq b a ≡ false
bytes_apart a b e = false_from_ne_true _ (λ t. both_ways _ e ((bytes_eq-Decides a b).1 (sym ((bytes_eq-Decides b a).0 t))))

-- one more option
pub once_push : (xs : List Setting) (name value : Text) → AreSetOnce xs → value_of name xs ≡ None → AreSetOnce (xs ++ (name, value) ∷ [])
once_push [] name value once none = (refl, tt)
once_push (x ∷ xs) name value once none =
    elim (cases_Bool (bytes_eq x.0 name)) [
      | inl e ↦ let some = rw e at none in absurd cc
      | inr e ↦ (none_push x.0 xs name value once.0 (bytes_apart x.0 name e), once_push xs name value once.1 (rw e at none))
    ]

-- an option among others is set
found : (xs : List Setting) (name value : Text) (more : List Setting) → value_of name (xs ++ (name, value) ∷ more) ≢ None
found [] name value more none =
    let e = (bytes_eq-Decides name name).1 refl in
    let some = rw e at none in cc
found (x ∷ xs) name value more none =
    elim (cases_Bool (bytes_eq x.0 name)) [
      | inl e ↦ let some = rw e at none in cc
      | inr e ↦ found xs name value more (rw e at none)
    ]

-- an option that is set again
pub once_refuted : (xs : List Setting) (name value : Text) (more : List Setting) → value_of name xs ≢ None → AreSetOnce (xs ++ (name, value) ∷ more) → ⊥
once_refuted [] name value more some once = some refl
once_refuted (x ∷ xs) name value more some once =
    elim (cases_Bool (bytes_eq x.0 name)) [
      | inl e ↦
          let same : x.0 ≡ name = (bytes_eq-Decides x.0 name).0 e in
          found xs name value more (subst (λ (t : Text). value_of t (xs ++ (name, value) ∷ more) ≡ None) same once.0)
      | inr e ↦ once_refuted xs name value more (rw e at some) once.1
    ]

-- ---- all settings

-- the setting by which the words begin is the first of all of them
next_is : (name value : Text) (rest others : List Text) (more : List Setting) → BeginsBySetting rest name value others → MakeSettings rest more → (later : List Setting) × (more ≡ (name, value) ∷ later) × MakeSettings others later
next_is name value rest others [] begins made = absurd (some_words name value others (subst (λ (ws : List Text). BeginsBySetting ws name value others) made begins))
next_is name value rest others (s ∷ later) begins made =
    let same = same_begin rest name value others s.0 s.1 made.0 begins made.1 in
    (later, ap (λ p. p ∷ later) (ap₂ (λ a b. (a, b)) (sym same.names) (sym same.values)), subst (λ (ws : List Text). MakeSettings ws later) (sym same.rests) made.2)

-- words make one list of settings at most
pub one_way : (words : List Text) (these those : List Setting) → MakeSettings words these → MakeSettings words those → these ≡ those
one_way words [] [] a b = refl
one_way words [] (t ∷ those) a b = absurd (some_words t.0 t.1 b.0 (subst (λ (ws : List Text). BeginsBySetting ws t.0 t.1 b.0) a b.1))
one_way words (s ∷ these) those a b =
    let next = next_is s.0 s.1 words a.0 those a.1 b in
    ap (λ rest. s ∷ rest) (one_way a.0 these next.0 a.2 next.2) ∙ sym next.1

some_same : (a b : Job) → Some a ≡ Some b → a ≡ b
some_same a b e = cc

pub one_job : (words : List Text) (one other : Job) → IsCommand words one → IsCommand words other → one ≡ other
one_job words one other a b =
    some_same one other (sym a.asks ∙ ap job_of (one_way words a.settings b.settings a.made b.made) ∙ b.asks)

pub no_job : (words : List Text) (settings : List Setting) → MakeSettings words settings → job_of settings ≡ None → (job : Job) → IsCommand words job → ⊥
no_job words settings made none job command =
    let same = one_way words settings command.settings made command.made in
    let both : None ≡ Some job = sym none ∙ ap job_of same ∙ command.asks in cc
