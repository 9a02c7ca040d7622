-- The table of true literals, as literals become true and are taken back.
use Rattle.std.proofs.Common.{◌≡◌, ◌≢◌, ℕ, zero, suc, ◌+◌, ◌*◌, ◌<◌, ◌≤◌, Bool, true, false, ◌||◌, List, [], ◌∷◌, ◌++◌, length, get_or, set, replicate, refl, sym, ap, ◌∙◌, ⊎_elim, arith}
use Rattle.std.proofs.Math.Bool.{or-true as or_true, or-false}
use Rattle.std.proofs.lemmas.Bool.{cases_eq, cases_Bool}
use Rattle.std.proofs.lemmas.List.{get_or-set_same, get_or-set_other}
use Rattle.cnf_core.specs.Literal.{Literal, code_of, is_among, same_literal}
use Rattle.sat_state.specs.WatchesInside.{literal_at}
use Rattle.sat_state.specs.ValuesInside.{AreTruths}
use Rattle.sat_state.proofs.Codes.{literal_again}
use Rattle.sat_state.proofs.Literals.{is_among_push, same_literal_is, same_literal_itself}

same_code : (a b : Literal) → code_of a ≡ code_of b → a ≡ b
same_code a b same = sym (literal_again a) ∙ ap literal_at same ∙ literal_again b

other_literal : (a b : Literal) → code_of a ≢ code_of b → same_literal a b ≡ false
other_literal a b ne = ⊎_elim
    (λ (e : same_literal a b ≡ true). absurd (ne (ap code_of (same_literal_is a b e))))
    (λ (e : same_literal a b ≡ false). e)
    (cases_Bool (same_literal a b))

pushed_itself : (trues : List Literal) (u : Literal) → is_among (trues ++ u ∷ []) u ≡ true
pushed_itself trues u = is_among_push trues u u ∙ ap (λ (b : Bool). is_among trues u || b) (same_literal_itself u) ∙ or_true (is_among trues u)

pushed_other : (trues : List Literal) (u l : Literal) → code_of l ≢ code_of u → is_among (trues ++ u ∷ []) l ≡ is_among trues l
pushed_other trues u l ne = is_among_push trues u l ∙ ap (λ (b : Bool). is_among trues l || b) (other_literal l u ne) ∙ or-false (is_among trues l)

pub truths_push : (truths : List Bool) (trues : List Literal) (u : Literal) → AreTruths truths trues → code_of u < length truths → AreTruths (set truths (code_of u) true) (trues ++ u ∷ [])
truths_push truths trues u h there l = ⊎_elim
    (λ (same : code_of l ≡ code_of u).
    ap (λ (k : ℕ). get_or (set truths (code_of u) true) k false) same ∙ get_or-set_same truths (code_of u) true false there
    ∙ sym (ap (is_among (trues ++ u ∷ [])) (same_code l u same) ∙ pushed_itself trues u))
    (λ (ne : code_of l ≢ code_of u). get_or-set_other truths (code_of u) (code_of l) true false ne ∙ h l ∙ sym (pushed_other trues u l ne))
    (cases_eq (code_of l) (code_of u))

pub truths_pop : (truths : List Bool) (trues : List Literal) (u : Literal) → AreTruths truths (trues ++ u ∷ []) → is_among trues u ≡ false → code_of u < length truths → AreTruths (set truths (code_of u) false) trues
truths_pop truths trues u h free there l = ⊎_elim
    (λ (same : code_of l ≡ code_of u).
    ap (λ (k : ℕ). get_or (set truths (code_of u) false) k false) same ∙ get_or-set_same truths (code_of u) false false there
    ∙ sym (ap (is_among trues) (same_code l u same) ∙ free))
    (λ (ne : code_of l ≢ code_of u). get_or-set_other truths (code_of u) (code_of l) false false ne ∙ h l ∙ pushed_other trues u l ne)
    (cases_eq (code_of l) (code_of u))

none_more : (n k : ℕ) → get_or (replicate n false) k false ≡ false
none_more zero k = refl
none_more (suc n) zero = refl
none_more (suc n) (suc k) = none_more n k

same_more : (truths : List Bool) (n k : ℕ) → get_or (truths ++ replicate n false) k false ≡ get_or truths k false
same_more [] n k = none_more n k
same_more (b ∷ truths) n zero = refl
same_more (b ∷ truths) n (suc k) = same_more truths n k

pub truths_grown : (truths : List Bool) (trues : List Literal) (n : ℕ) → AreTruths truths trues → AreTruths (truths ++ replicate n false) trues
truths_grown truths trues n h l = same_more truths n (code_of l) ∙ h l

code_below : (v n : ℕ) (b : Bool) → v ≤ n → code_of (record { var = v; positive = b }) < 2 * n + 2
code_below v n true le = omega (arith, le)
code_below v n false le = omega (arith, le)

pub code_in : (l : Literal) (vars size : ℕ) → 2 ≤ code_of l → l.var ≤ vars → (0 < vars → 2 * vars + 2 ≤ size) → code_of l < size
code_in l vars size some le room = omega (arith, code_below l.var vars l.positive le, room (some_var l.var l.positive vars some le))
  where
    some_var : (v : ℕ) (b : Bool) (n : ℕ) → 2 ≤ code_of (record { var = v; positive = b }) → v ≤ n → 0 < n
    some_var v true n h le = omega (arith, h, le)
    some_var v false n h le = omega (arith, h, le)
