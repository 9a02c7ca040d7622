-- Files that are written one after another.
use Rattle.std.proofs.Common.{◌≡◌, ℕ, List, [], ◌∷◌, ◌++◌, Option, Some, None, Ok, Err, Result, option_map, refl, sym, ap, subst, ◌∙◌, append_assoc}
use Rattle.cnf_core.specs.Events.{LogState}
use Rattle.ep_base.specs.Outside.{Held, with_bytes}
use Rattle.ep_outputs.specs.Outputs.{ArePartlyWritten, AreWritten, Content, FailsAt, IsTextOf, Output, named}
use Rattle.ep_outputs.specs.Writes.{TellsWrite, TellsWritten}
use Rattle.ep_files.specs.declared.stops.Stop.{Stop}

-- ---- some files, and others behind them

written-behind : (log : LogState) (answer : List ℕ) (front rest : List Output) (a b c : Option Held) → AreWritten log answer front a b → AreWritten log answer rest b c → AreWritten log answer (front ++ rest) a c
written-behind log answer [] rest a b c g h = subst (λ (x : Option Held). AreWritten log answer rest x c) g h
written-behind log answer (o ∷ os) rest a b c g h =
    (g.0, g.1, written-behind log answer os rest (option_map (with_bytes o.name g.0) a) b c g.2 h)

fails-behind : (log : LogState) (answer : List ℕ) (front rest : List Output) (a b c : Option Held) (name : List ℕ) → AreWritten log answer front a b → FailsAt log answer rest b c name → FailsAt log answer (front ++ rest) a c name
fails-behind log answer front rest a b c name g h = record {
  made = front ++ h.made;
  failed = h.failed;
  rest = h.rest;
  cut = ap (λ (os : List Output). front ++ os) h.cut ∙ sym (append_assoc front h.made (h.failed ∷ h.rest));
  is_named = h.is_named;
  between = h.between;
  written = written-behind log answer front h.made a b h.between g h.written;
  elsewhere = h.elsewhere;
}

partly-behind : (log : LogState) (answer : List ℕ) (front rest : List Output) (a b c : Option Held) → AreWritten log answer front a b → ArePartlyWritten log answer rest b c → ArePartlyWritten log answer (front ++ rest) a c
partly-behind log answer front rest a b c g h = record {
  made = front ++ h.made;
  rest = h.rest;
  cut = ap (λ (os : List Output). front ++ os) h.cut ∙ sym (append_assoc front h.made h.rest);
  written = written-behind log answer front h.made a b c g h.written;
}

-- some files were written, and what is told of others is told of all
pub told-behind : {V : Type 0} (log : LogState) (answer : List ℕ) (front rest : List Output) (a b c : Option Held) (rose rose-now : Type 0) (result : Result V Stop) → (rose-now → rose) → AreWritten log answer front a b
    → TellsWritten log answer rest b c rose-now result → TellsWritten log answer (front ++ rest) a c rose result
told-behind log answer front rest a b c rose rose-now (Ok x) rises g h = written-behind log answer front rest a b c g h
told-behind log answer front rest a b c rose rose-now (Err (Stop.Refused r)) rises g h =
    (rises h.0, h.1, h.2, fails-behind log answer front rest a b c h.1 g h.3)
told-behind log answer front rest a b c rose rose-now (Err Stop.Memory) rises g h = partly-behind log answer front rest a b c g h

-- where the first of some files weren't written, the others weren't either
pub told-before : (V W : Type 0) (log : LogState) (answer : List ℕ) (front rest : List Output) (a c : Option Held) (rose rose-now : Type 0) (stop : Stop) → (rose-now → rose) → TellsWritten {V = V} log answer front a c rose-now (Err stop)
    → TellsWritten {V = W} log answer (front ++ rest) a c rose (Err stop)
told-before V W log answer front rest a c rose rose-now (Stop.Refused r) rises h = (
  rises h.0,
  h.1,
  h.2,
  record {
    made = h.3.made;
    failed = h.3.failed;
    rest = h.3.rest ++ rest;
    cut = ap (λ (os : List Output). os ++ rest) h.3.cut ∙ append_assoc h.3.made (h.3.failed ∷ h.3.rest) rest;
    is_named = h.3.is_named;
    between = h.3.between;
    written = h.3.written;
    elsewhere = h.3.elsewhere;
  },
)
told-before V W log answer front rest a c rose rose-now Stop.Memory rises h = record {
  made = h.made;
  rest = h.rest ++ rest;
  cut = ap (λ (os : List Output). os ++ rest) h.cut ∙ append_assoc h.made h.rest rest;
  written = h.written;
}

-- ---- one file

pub one-told : {V : Type 0} (log : LogState) (answer : List ℕ) (content : Content) (output : Option (List ℕ)) (name text : List ℕ) (told after : Option Held) (rose : Type 0) (result : Result V Stop) → output ≡ Some name → IsTextOf content log answer text
    → TellsWrite name text told after rose result → TellsWritten log answer (named content output) told after rose result
unfolding named
one-told {V} log answer content output name text told after rose result e is h =
    subst (λ (o : Option (List ℕ)). TellsWritten log answer (named content o) told after rose result) (sym e) (by result h)
  where
    by : (r : Result V Stop) → TellsWrite name text told after rose r → TellsWritten log answer (record { content = content; name = name } ∷ []) told after rose r
    by (Ok x) h = (text, is, h)
    by (Err (Stop.Refused r)) h = (
      h.0,
      name,
      h.1,
      record {
        made = [];
        failed = record { content = content; name = name };
        rest = [];
        cut = refl;
        is_named = refl;
        between = told;
        written = refl;
        elsewhere = h.2;
      },
    )
    by (Err Stop.Memory) h = record { made = []; rest = record { content = content; name = name } ∷ []; cut = refl; written = h }

-- no file is named
pub none-told : (log : LogState) (answer : List ℕ) (content : Content) (output : Option (List ℕ)) (told : Option Held) → output ≡ None → AreWritten log answer (named content output) told told
unfolding named
none-told log answer content output told e =
    subst (λ (o : Option (List ℕ)). AreWritten log answer (named content o) told told) (sym e) refl

-- memory is wanting before anything is written
pub none-made : (V : Type 0) (log : LogState) (answer : List ℕ) (outputs : List Output) (told : Option Held) (rose : Type 0) → TellsWritten {V = V} log answer outputs told told rose (Err Stop.Memory)
none-made V log answer outputs told rose = record { made = []; rest = outputs; cut = refl; written = refl }
