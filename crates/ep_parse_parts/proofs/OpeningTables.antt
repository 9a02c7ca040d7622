-- The table of words in three parts.
use Rattle.std.specs.Prelude.{◌≡◌, ℕ, Bool, true, false, List, [], ◌∷◌, ◌++◌, Option, Some, None, bytes_eq, refl}
use Rattle.std.proofs.Common.{ap, sym, ◌∙◌}
use Rattle.ep_parse_parts.specs.OperandReaders.{Opening, openings}
use Rattle.ep_parse_parts.specs.Openings.{call_openings, function_openings, symbol_openings}
use Rattle.ep_parse_parts.specs.Readers.{found_or, looked_up}

abbrev or_other : {A : Type 0} → Option A → Option A → Option A
or_other None other = other
or_other (Some x) other = Some x

found_first : {A : Type 0} (b : Bool) (x : A) (o p : Option A) → found_or b x (or_other o p) ≡ or_other (found_or b x o) p
found_first true x o p = refl
found_first false x o p = refl

looked_on : {A : Type 0} (xs ys : List (List ℕ × A)) (w : List ℕ) → looked_up (xs ++ ys) w ≡ or_other (looked_up xs w) (looked_up ys w)
unfolding looked_up
looked_on [] ys w = refl
looked_on (x ∷ xs) ys w = ap (λ o. found_or (bytes_eq x.0 w) x.1 o) (looked_on xs ys w) ∙ found_first (bytes_eq x.0 w) x.1 (looked_up xs w) (looked_up ys w)

in_parts : (w : List ℕ) → looked_up openings w ≡ or_other (looked_up symbol_openings w) (or_other (looked_up function_openings w) (looked_up call_openings w))
in_parts w = looked_on symbol_openings (function_openings ++ call_openings) w ∙ ap (or_other (looked_up symbol_openings w)) (looked_on function_openings call_openings w)

pub found_symbol : (w : List ℕ) (x : Opening) → Some x ≡ looked_up symbol_openings w → Some x ≡ looked_up openings w
found_symbol w x e = sym (in_parts w ∙ ap (λ o. or_other o (or_other (looked_up function_openings w) (looked_up call_openings w))) (sym e))

pub found_function : (w : List ℕ) (x : Opening) → None ≡ looked_up symbol_openings w → Some x ≡ looked_up function_openings w → Some x ≡ looked_up openings w
found_function w x n e =
    sym (in_parts w ∙ ap (λ o. or_other o (or_other (looked_up function_openings w) (looked_up call_openings w))) (sym n)
    ∙ ap (λ o. or_other o (looked_up call_openings w)) (sym e))

pub found_call : (w : List ℕ) (o : Option Opening) → None ≡ looked_up symbol_openings w → None ≡ looked_up function_openings w → o ≡ looked_up call_openings w → o ≡ looked_up openings w
found_call w o n m e =
    e ∙ sym (in_parts w ∙ ap (λ o. or_other o (or_other (looked_up function_openings w) (looked_up call_openings w))) (sym n)
    ∙ ap (λ o. or_other o (looked_up call_openings w)) (sym m))
