-- How the level and the reason of a variable are kept: the greatest word stands for none.
use Rattle.std.specs.Prelude.{◌≡◌, ℕ, ◌==◌, Bool, true, false, Option, Some, None, if◌then◌else◌}
use Rattle.std.proofs.Common.{eqb, refl, sym, ap, ◌∙◌}
use Rattle.std.proofs.lemmas.Bool.{eqb-true}
use Rattle.std.specs.Option.{option_map_or}
use Rattle.sat_state.specs.Assigned.{Origin}
use Rattle.sat_state.specs.declared.slot.TheConstants.{NONE}
use Rattle.sat_state.specs.declared.slot.Slot.TheInside.{Inside}

-- what a word says where the greatest one stands for none
abbrev pub word_seen : ℕ → Option ℕ
word_seen word = if word == NONE then None else Some word

abbrev pub seen_slot : Inside → Option Origin
seen_slot a = if a.level == NONE then None else Some (record { level = a.level; reason = word_seen a.reason })

-- without a level there is no reason
abbrev pub IsSlot : Inside → Type 0
IsSlot a = a.level ≡ NONE → a.reason ≡ NONE

abbrev slot_of_words : ℕ → ℕ → Inside
slot_of_words level reason = record { level = level; reason = reason }

-- the words that say this
abbrev pub slot_seen : Option Origin → Inside
slot_seen None = record { level = NONE; reason = NONE }
slot_seen (Some h) = record { level = h.level; reason = option_map_or (λ n. n) h.reason NONE }

by_word : (reason : ℕ) (b : Bool) → eqb reason NONE ≡ b → option_map_or (λ (n : ℕ). n) (if b then None else Some reason) NONE ≡ reason
by_word reason true e = sym (eqb-true reason NONE e)
by_word reason false e = refl

by_level : (level reason : ℕ) (b : Bool) → eqb level NONE ≡ b → (level ≡ NONE → reason ≡ NONE)
    → slot_seen (if b then None else Some (record { level = level; reason = word_seen reason })) ≡ slot_of_words level reason
by_level level reason true e h = ap (λ (n : ℕ). slot_of_words n NONE) (sym (eqb-true level NONE e)) ∙ ap (slot_of_words level) (sym (h (eqb-true level NONE e)))
by_level level reason false e h = ap (slot_of_words level) (by_word reason (eqb reason NONE) refl)

pub slot_again : (a : Inside) → IsSlot a → slot_seen (seen_slot a) ≡ a
slot_again a h = by_level a.level a.reason (eqb a.level NONE) refl h
