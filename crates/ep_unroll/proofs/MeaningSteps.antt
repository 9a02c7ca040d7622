-- Terms and what they mean, one step after another.
use Rattle.ep_unroll.proofs.Words.{◌≡◌, ℕ, suc, ◌<◌, true, ℤ, List, [], ◌∷◌, ◌++◌, length, Some, None, refl, sym, ap, subst, ◌∙◌, arith, append_assoc, Option, map, option_map, All, append-nil, map-append, All-push, GroundNode, term_value, Env, domain_values, evaluate, decisions_in, DomainTree, ExprTree, ValueTree, Mode, is_free, is_free_domain, Grows, AreTerms, IsTermOf, Means, worth, Numbering, Reading, Number, Unrolled}
use Rattle.ep_unroll.proofs.FormValues.{grows_long, grows_on, grown_value}
use Rattle.ep_unroll.proofs.FreeValues.{agreed_like, free_numbers, free_value}

pub grows_none : (a b : List GroundNode) → b ≡ a → Grows a b
grows_none a b same = record { more = []; whole = same ∙ sym (append-nil a) }

-- ---- parts without decision variables

pub fixed_is : (n : Numbering) (env : Env) (r : Reading n env) (mode : Mode) (e : ExprTree) (v : Option ValueTree)
    → is_free (decisions_in env) e ≡ true → evaluate mode env e ≡ v → evaluate mode r.values e ≡ v
fixed_is n env r mode e v free given = sym (free_value mode (decisions_in env) env r.values (agreed_like env r.values r.reads.agree) e free) ∙ given

pub numbers_are : (n : Numbering) (env : Env) (r : Reading n env) (mode : Mode) (d : DomainTree) (ns : Option (List ℤ))
    → is_free_domain (decisions_in env) d ≡ true → domain_values mode env d ≡ ns → domain_values mode r.values d ≡ ns
numbers_are n env r mode d ns free given = sym (free_numbers mode (decisions_in env) env r.values (agreed_like env r.values r.reads.agree) d free) ∙ given

-- ---- a term as what was unrolled

pub term_means : (n : Numbering) (cells : Env) (old new : List GroundNode) (e : ExprTree) (t : ℕ) → IsTermOf n cells old new e t → Means n cells old new e (Number t)
unfolding worth AreTerms
term_means n cells old new e t h = record { grows = h.grows; known = h.known; value = λ r. sym (h.value r) }

-- what is unrolled of an expression is that of another tree of it
pub means_as : (n : Numbering) (cells : Env) (old new : List GroundNode) (x y : ExprTree) (k : Unrolled) → x ≡ y → Means n cells old new x k → Means n cells old new y k
means_as n cells old new x y k same h = subst (λ e. Means n cells old new e k) same h

pub term_as : (n : Numbering) (cells : Env) (old new : List GroundNode) (x y : ExprTree) (t : ℕ) → x ≡ y → IsTermOf n cells old new x t → IsTermOf n cells old new y t
term_as n cells old new x y t same h = subst (λ e. IsTermOf n cells old new e t) same h

-- ---- lists of terms, one after another

-- some have terms, which have these values, and others are left
pub record Listing {R X : Type 0} (numbers : R → List ℤ) (term : X → ℕ) (read : X → Option ℤ → Option ℤ) (old new : List GroundNode) (all left : R → List (Option ℤ)) (xs : List X) : Type 0 where
  pub grows : Grows old new
  pub known : All (λ x. term x < length new) xs
  pub values : (r : R) → map (λ x. read x (term_value new (numbers r) (term x))) xs ++ left r ≡ all r

pub listing_begins : {R X : Type 0} (numbers : R → List ℤ) (term : X → ℕ) (read : X → Option ℤ → Option ℤ) (old new : List GroundNode) (all left : R → List (Option ℤ)) (xs : List X)
    → new ≡ old → xs ≡ [] → ((r : R) → left r ≡ all r) → Listing numbers term read old new all left xs
listing_begins numbers term read old new all left xs same none h = record {
  grows = grows_none old new same;
  known = subst (λ ys. All (λ x. term x < length new) ys) (sym none) (λ k d less. absurd (no_less k less));
  values = λ r. ap (λ ys. map (λ x. read x (term_value new (numbers r) (term x))) ys ++ left r) none ∙ h r;
}
  where
    no_less : (k : ℕ) → k < 0 → ⊥
    no_less k less = omega (arith, less)

map_kept : {X : Type 0} (term : X → ℕ) (read : X → Option ℤ → Option ℤ) (mid new : List GroundNode) (numbers : List ℤ) (xs : List X)
    → Grows mid new → All (λ x. term x < length mid) xs
    → map (λ x. read x (term_value new numbers (term x))) xs ≡ map (λ x. read x (term_value mid numbers (term x))) xs
map_kept term read mid new numbers [] g known = refl
map_kept term read mid new numbers (x ∷ xs) g known =
    ap (λ o. read x o ∷ map (λ y. read y (term_value new numbers (term y))) xs) (grown_value mid new numbers (term x) g (known 0 x (omega arith)))
    ∙ ap (λ ys. read x (term_value mid numbers (term x)) ∷ ys) (map_kept term read mid new numbers xs g (λ k d less. known (suc k) d (omega (arith, less))))

pub listing_more : {R X : Type 0} (numbers : R → List ℤ) (term : X → ℕ) (read : X → Option ℤ → Option ℤ) (old mid new : List GroundNode) (all left rest : R → List (Option ℤ)) (own : R → Option ℤ) (xs ys : List X) (x : X)
    → Listing numbers term read old mid all left xs → ((r : R) → left r ≡ own r ∷ rest r) → Grows mid new → term x < length new
    → ((r : R) → read x (term_value new (numbers r) (term x)) ≡ own r) → ys ≡ xs ++ x ∷ []
    → Listing numbers term read old new all rest ys
listing_more numbers term read old mid new all left rest own xs ys x h cut grows known is pushed = record {
  grows = grows_on old mid new h.grows grows;
  known = subst (λ zs. All (λ y. term y < length new) zs) (sym pushed)
      (All-push (λ y. term y < length new) xs x (λ k d less. grows_long mid new _ grows (h.known k d less)) known);
  values = λ r.
      ap (λ zs. map (λ y. read y (term_value new (numbers r) (term y))) zs ++ rest r) pushed
      ∙ ap (λ zs. zs ++ rest r) (map-append (λ y. read y (term_value new (numbers r) (term y))) xs (x ∷ []))
      ∙ ap (λ zs. (zs ++ read x (term_value new (numbers r) (term x)) ∷ []) ++ rest r) (map_kept term read mid new (numbers r) xs grows h.known)
      ∙ append_assoc (map (λ y. read y (term_value mid (numbers r) (term y))) xs) (read x (term_value new (numbers r) (term x)) ∷ []) (rest r)
      ∙ ap (λ o. map (λ y. read y (term_value mid (numbers r) (term y))) xs ++ o ∷ rest r) (is r)
      ∙ ap (λ zs. map (λ y. read y (term_value mid (numbers r) (term y))) xs ++ zs) (sym (cut r))
      ∙ h.values r;
}

pub listing_ends : {R X : Type 0} (numbers : R → List ℤ) (term : X → ℕ) (read : X → Option ℤ → Option ℤ) (old new : List GroundNode) (all left : R → List (Option ℤ)) (xs : List X)
    → Listing numbers term read old new all left xs → ((r : R) → left r ≡ []) → (r : R) → map (λ x. read x (term_value new (numbers r) (term x))) xs ≡ all r
listing_ends numbers term read old new all left xs h none r =
    sym (append-nil (map (λ x. read x (term_value new (numbers r) (term x))) xs))
    ∙ ap (λ zs. map (λ x. read x (term_value new (numbers r) (term x))) xs ++ zs) (sym (none r)) ∙ h.values r
