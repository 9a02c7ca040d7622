-- What is seen of the devices in memory.
use Rattle.std.specs.Prelude.{ℕ, List, refl, map, String, Vec}
use Rattle.std.specs.String.{string_bytes}
use Rattle.std.specs.FinMap.{FinMap, from_entries, code}
use Rattle.std.specs.Ordering.{nat_cmp}
use Rattle.std.specs.Cmp.Lexicographic.{slice_cmp}
use Rattle.std.specs.Coded.{Coded, code_by, coded×, coded_list, coded_ℕ}
use Rattle.ep_base.specs.Calls.{CallsSoFar, calls_code}

-- a finite map from names to bytes
abbrev pub Contents : Type 0
Contents = FinMap (slice_cmp nat_cmp) (List ℕ)

-- the contents of a table of texts and buffers
abbrev pub contents : {Y Z : Type 0} → List (String Y × Vec ℕ Z) → Contents
contents entries = from_entries (map (λ entry. (string_bytes entry.0, entry.1.items)) entries)

-- files in memory: what is held under which names, and the calls so far
pub record FilesInMemory : Type 0 where
  pub files : Contents
  pub calls : CallsSoFar

-- a sink in memory: what it took, the most that it takes in one call, and the calls so far
pub record SinkInMemory : Type 0 where
  pub taken : List ℕ
  pub most : ℕ
  pub calls : CallsSoFar

abbrev pub files_code : Coded FilesInMemory
files_code =
    code_by (Contents × CallsSoFar) (coded× (code (coded_list coded_ℕ) (coded_list coded_ℕ)) calls_code)
    (λ f. (f.files, f.calls)) (λ p. record { files = p.0; calls = p.1 }) (λ _. refl)

abbrev pub sink_code : Coded SinkInMemory
sink_code =
    code_by (List ℕ × (ℕ × CallsSoFar)) (coded× (coded_list coded_ℕ) (coded× coded_ℕ calls_code))
    (λ s. (s.taken, (s.most, s.calls))) (λ p. record { taken = p.0; most = p.1.0; calls = p.1.1 }) (λ _. refl)
