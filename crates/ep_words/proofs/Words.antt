-- What the first words of a setting tell.
use Rattle.std.proofs.Common.{◌≡◌, ◌≢◌, inl, inr, List, ◌∷◌, ◌++◌}
use Rattle.ep_words.specs.Settings.{BeginsBySetting, Text, option_word}

pub heads : (one other : Text) (rest others : List Text) → one ∷ rest ≡ other ∷ others → one ≡ other
heads one other rest others e = cc

pub tails : (one other : Text) (rest others : List Text) → one ∷ rest ≡ other ∷ others → rest ≡ others
tails one other rest others e = cc

pub behind_dashes : (one other : Text) → option_word one ≡ option_word other → one ≡ other
behind_dashes one other e = cc

-- words whose first one doesn't begin with `--` begin by no setting
pub unnamed : (first : Text) (rest : List Text) (name value : Text) (others : List Text) → ((word : Text) → first ≢ option_word word) → BeginsBySetting (first ∷ rest) name value others → ⊥
unnamed first rest name value others free begins =
    elim begins.spelled [
      | inl one ↦ free (name ++ 61 ∷ value) (heads _ _ _ _ one)
      | inr two ↦ free name (heads _ _ _ _ two.0)
    ]
