-- Worked values of the words on devices, computed by the checker.
use Rattle.std.proofs.Common.{◌≡◌, ◌-◌, ◌^◌, [], ◌∷◌, Some, None, true, false, refl}
use Rattle.ep_base.specs.Outside.{Held, with_bytes, ReadGives, with_more}
use Rattle.ep_base.specs.Calls.{CallsSoFar, one_more, next_fails, after_call, no_call}

abbrev nothing_held : Held
nothing_held asked = None

-- "a" holds the bytes 1, 2, 3, and "b" the byte 9
abbrev two_held : Held
two_held = with_bytes (98 ∷ []) (9 ∷ []) (with_bytes (97 ∷ []) (1 ∷ 2 ∷ 3 ∷ []) nothing_held)

under_a : two_held (97 ∷ []) ≡ Some (1 ∷ 2 ∷ 3 ∷ [])
under_a = refl

under_b : two_held (98 ∷ []) ≡ Some (9 ∷ [])
under_b = refl

under_ab : two_held (97 ∷ 98 ∷ []) ≡ None
under_ab = refl

-- a later write stands
written_again : with_bytes (97 ∷ []) [] two_held (97 ∷ []) ≡ Some []
written_again = refl

first_two : ReadGives (Some two_held) (97 ∷ []) 2 (Some (1 ∷ 2 ∷ []))
first_two = refl

more_than_there_are : ReadGives (Some two_held) (97 ∷ []) 100 (Some (1 ∷ 2 ∷ 3 ∷ []))
more_than_there_are = refl

not_held : ReadGives (Some two_held) (99 ∷ []) 100 None
not_held = refl

never_none_untold : ReadGives None (99 ∷ []) 100 None → ⊥
never_none_untold h = h

told_more : with_more (3 ∷ []) (Some (1 ∷ 2 ∷ [])) ≡ Some (1 ∷ 2 ∷ 3 ∷ [])
told_more = refl

untold_more : with_more (3 ∷ []) None ≡ None
untold_more = refl

-- the count stands at its end
at_the_end : one_more (2 ^ 64 - 1) ≡ 2 ^ 64 - 1
at_the_end = refl

-- of three calls the second fails
abbrev plan : CallsSoFar
plan = no_call (2 ∷ [])

first_passes : next_fails plan ≡ false
first_passes = refl

second_fails : next_fails (after_call plan) ≡ true
second_fails = refl

third_passes : next_fails (after_call (after_call plan)) ≡ false
third_passes = refl

after_three : after_call (after_call (after_call plan)) ≡ record { fails = 2 ∷ []; made = 3; faults = 1 }
after_three = refl
