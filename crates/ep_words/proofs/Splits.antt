-- Texts that are cut at their first `=`.
use Rattle.std.proofs.Common.{◌≡◌, ◌≢◌, ℕ, ◌==◌, Bool, true, not, List, [], ◌∷◌, ◌++◌, refl}
use Rattle.std.specs.List.{list_all}
use Rattle.std.proofs.lemmas.Bool.{and_parts, not-true, eqb-false}
use Rattle.ep_base.specs.TokenTexts.{is_one_of}
use Rattle.ep_words.specs.Settings.{options}
use Rattle.ep_words.proofs.Lists.{one_of_passes}

-- no byte of the text is a `=`
abbrev pub HasNoEquals : List ℕ → Type 0
HasNoEquals [] = Unit {0}
HasNoEquals (byte ∷ bytes) = (byte ≢ 61) × HasNoEquals bytes

-- two such texts before a `=` are the same, and so is what stands behind it
pub same_split : (name other : List ℕ) (value later : List ℕ) → HasNoEquals name → HasNoEquals other → name ++ 61 ∷ value ≡ other ++ 61 ∷ later → (name ≡ other) × (value ≡ later)
same_split [] [] value later lacks other_lacks e = (refl, cc)
same_split [] (b ∷ other) value later lacks other_lacks e = let h : b ≡ 61 = cc in absurd (other_lacks.0 h)
same_split (b ∷ name) [] value later lacks other_lacks e = let h : b ≡ 61 = cc in absurd (lacks.0 h)
same_split (b ∷ name) (d ∷ other) value later lacks other_lacks e =
    let heads : b ≡ d = cc in
    let tails : name ++ 61 ∷ value ≡ other ++ 61 ∷ later = cc in
    let rest = same_split name other value later lacks.1 other_lacks.1 tails in
    (cc, rest.1)

-- a text without a `=` isn't one with it
pub no_split : (name other later : List ℕ) → HasNoEquals name → name ≡ other ++ 61 ∷ later → ⊥
no_split [] [] later lacks e = cc
no_split [] (d ∷ other) later lacks e = cc
no_split (b ∷ name) [] later lacks e = let h : b ≡ 61 = cc in lacks.0 h
no_split (b ∷ name) (d ∷ other) later lacks e = let tails : name ≡ other ++ 61 ∷ later = cc in no_split name other later lacks.1 tails

-- whether no byte is a `=`
abbrev has_no_equals : List ℕ → Bool
has_no_equals text = list_all (λ byte. not (byte == 61)) text

no_equals_tested : (text : List ℕ) → has_no_equals text ≡ true → HasNoEquals text
no_equals_tested [] all = tt
no_equals_tested (byte ∷ bytes) all =
    let parts = and_parts _ _ all in
    (eqb-false byte 61 (not-true _ parts.0), no_equals_tested bytes parts.1)

-- no option's name has a `=`
pub options_have_no_equals : (name : List ℕ) → is_one_of options name ≡ true → HasNoEquals name
options_have_no_equals name one = no_equals_tested name (one_of_passes has_no_equals options name one refl)
