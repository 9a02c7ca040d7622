-- What holds of the first elements of a list, and of all of them; sets whose runs end at small numbers.
use Rattle.std.proofs.Common.{◌≡◌, ℕ, zero, suc, ◌+◌, ◌<◌, ◌≤◌, List, [], ◌∷◌, ◌++◌, length, get_or, take, sym, ap, subst, ◌∙◌, arith}
use Rattle.std.specs.Prelude.{map}
use Rattle.std.specs.List.{All}
use Rattle.std.proofs.lemmas.Int.{ints}
use Rattle.std.proofs.lemmas.List.{length-map, map_more, take_all, take_more}
use Rattle.std.proofs.lemmas.List.Elements.{All-append, All-cons, All-contains, All-nil, All-push, Contains-get_or}
use Rattle.ep_base.specs.Reads.{IsWithinNumbers}
use Rattle.ep_base.specs.Runs.{numbers}
use Rattle.ep_base.specs.declared.run_lists.Run.{Run}
use Rattle.ep_base.proofs.RunSteps.{in_numbers}
use Rattle.cnf_core.specs.Formula.{Cnf}
use Rattle.enc_var.specs.Decoding.{VariableLiterals}
use Rattle.enc_var.specs.Layouts.{IsEncoding}
use Rattle.ep_flat.specs.Flats.{FlatState}

pub all_next : {A : Type 0} (P : A → Type 0) (xs : List A) (k : ℕ) (x d : A) → k < length xs → x ≡ get_or xs k d → All P (take k xs) → P x → All P (take (k + 1) xs)
all_next P xs k x d h same done p = subst (All P) (sym (take_more xs k d h ∙ ap (λ y. take k xs ++ y ∷ []) (sym same))) (All-push P (take k xs) x done p)

pub all_whole : {A : Type 0} (P : A → Type 0) (xs : List A) (k : ℕ) → length xs ≤ k → All P (take k xs) → All P xs
all_whole P xs k h done = subst (All P) (take_all k xs h) done

pub all_mapped : {A B : Type 0} (P : B → Type 0) (f : A → B) (xs : List A) (k : ℕ) (x d : A) → k < length xs → x ≡ get_or xs k d → All P (map f (take k xs)) → P (f x) → All P (map f (take (k + 1) xs))
all_mapped P f xs k x d h same done p =
    subst (All P) (sym (map_more f xs k d h ∙ ap (λ y. map f (take k xs) ++ f y ∷ []) (sym same))) (All-push P (map f (take k xs)) (f x) done p)

pub all_mapped_whole : {A B : Type 0} (P : B → Type 0) (f : A → B) (xs : List A) (k : ℕ) → length xs ≤ k → All P (map f (take k xs)) → All P (map f xs)
all_mapped_whole P f xs k h done = subst (λ ys. All P (map f ys)) (take_all k xs h) done

pub all_none : {A : Type 0} (P : A → Type 0) → All P []
all_none P = All-nil P

pub all_more : {A : Type 0} (P : A → Type 0) (x : A) (xs : List A) → P x → All P xs → All P (x ∷ xs)
all_more P x xs p all = All-cons P x xs p all

pub all_both : {A : Type 0} (P : A → Type 0) (xs ys : List A) → All P xs → All P ys → All P (xs ++ ys)
all_both P xs ys one other = All-append P xs ys one other

-- the ends of a run lie within the numbers that the stages compute with
abbrev pub HasSmallEnds : Run → Type 0
HasSmallEnds run = IsWithinNumbers run.lo × IsWithinNumbers run.hi

pub small_numbers : (runs : List Run) → All HasSmallEnds runs → All IsWithinNumbers (numbers runs)
small_numbers runs small k d low =
    let v = get_or (numbers runs) k d in
    let any = (in_numbers runs v).0 (Contains-get_or (numbers runs) k d low) in
    let ends = All-contains HasSmallEnds runs any.1 small (any.0, any.2, any.3) in
    (omega (arith, ints, ends.0.0, any.4.0), omega (arith, ints, ends.1.1, any.4.1))

-- a list that begins with another is at least as long
pub reaches : {A B : Type 0} (f : A → B) (xs : List A) (ys : List B) → take (length ys) (map f xs) ≡ ys → length ys ≤ length xs
reaches f xs ys begins = let n = length-map xs f in let h = subst (λ m. m ≤ length (map f xs)) (ap length begins) (shorter (length ys) (map f xs)) in omega (arith, n, h)
  where
    shorter : {A : Type 0} (n : ℕ) (xs : List A) → length (take n xs) ≤ length xs
    shorter zero xs = omega arith
    shorter (suc n) [] = omega arith
    shorter (suc n) (x ∷ xs) = let h = shorter n xs in omega (arith, h)

pub enough : (flat : FlatState) (L : List VariableLiterals) (f : Cnf) → IsEncoding flat L f → length flat.vars ≤ length L
enough flat L f made = reaches (λ (e : VariableLiterals). e.domain) L flat.vars made.domains
