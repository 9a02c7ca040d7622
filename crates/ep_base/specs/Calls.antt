-- The calls of a device in memory, of which chosen ones fail.
use Rattle.std.specs.Prelude.{ℕ, ◌+◌, ◌-◌, ◌^◌, min, Bool, List, ◌==◌, if◌then◌else◌, refl}
use Rattle.std.specs.List.{list_any}
use Rattle.std.specs.Coded.{Coded, code_by, coded×, coded_list, coded_ℕ}

-- the numbers of the calls that fail, how many calls were made, and how many of them failed
pub record CallsSoFar : Type 0 where
  pub fails : List ℕ
  pub made : ℕ
  pub faults : ℕ

-- one more, up to the greatest number of 64 bits
abbrev pub one_more : ℕ → ℕ
one_more count = min (count + 1) (2 ^ 64 - 1)

-- the next call fails: its number, counted from 1, is among the chosen ones
abbrev pub next_fails : CallsSoFar → Bool
next_fails calls = list_any (λ number. number == one_more calls.made) calls.fails

-- after one more call
abbrev pub after_call : CallsSoFar → CallsSoFar
after_call calls = record {
  fails = calls.fails;
  made = one_more calls.made;
  faults = if next_fails calls then one_more calls.faults else calls.faults;
}

-- before the first call
abbrev pub no_call : List ℕ → CallsSoFar
no_call fails = record { fails = fails; made = 0; faults = 0 }

-- as the tuple of its fields
abbrev pub calls_code : Coded CallsSoFar
calls_code =
    code_by (List ℕ × (ℕ × ℕ)) (coded× (coded_list coded_ℕ) (coded× coded_ℕ coded_ℕ))
    (λ c. (c.fails, (c.made, c.faults))) (λ p. record { fails = p.0; made = p.1.0; faults = p.1.1 }) (λ _. refl)
