-- The terms of scalars, one for each.
use Rattle.ep_unroll.proofs.Words.{◌≡◌, ℕ, ◌+◌, ◌<◌, ◌≤◌, ℤ, List, [], ◌∷◌, ◌++◌, length, drop, get_or, refl, ap, ◌∙◌, sym, map, at_drop_all, at_drop_more, all_there, GroundNode, Env, scalars_in, ExprTree, AddsParts, Grows, Means, worth, HasNumber, HaveScalars, Numbering, AreScalarsOf, Unrolled}
use Rattle.ep_unroll.proofs.FlatSteps.{flat_numbers, number_at}
use Rattle.ep_unroll.proofs.FormValues.{grows_long, grows_on}
use Rattle.ep_unroll.proofs.MatrixSteps.{values_kept}
use Rattle.ep_unroll.proofs.MeaningSteps.{Listing, listing_begins, listing_ends, listing_more}

-- the terms of some scalars so far, of which those behind a place are left
abbrev pub EachSoFar : List GroundNode → List GroundNode → List Unrolled → ℕ → List ℕ → Type 0
EachSoFar old mid all k ts =
    Listing {R = List ℤ} {X = ℕ} (λ numbers. numbers) (λ t. t) (λ t o. o) old mid (λ numbers. map (number_at old numbers) all) (λ numbers. map (number_at old numbers) (drop k all)) ts

pub each_begin : (old : List GroundNode) (all : List Unrolled) (ts : List ℕ) → ts ≡ [] → EachSoFar old old all 0 ts
each_begin old all ts none =
    listing_begins {R = List ℤ} {X = ℕ} (λ numbers. numbers) (λ t. t) (λ t o. o) old old (λ numbers. map (number_at old numbers) all) (λ numbers. map (number_at old numbers) all) ts refl none (λ numbers. refl)

pub each_more : (old mid new : List GroundNode) (all : List Unrolled) (k : ℕ) (x d : Unrolled) (t : ℕ) (ts us : List ℕ) → k < length all → x ≡ get_or all k d
    → HasNumber mid new (λ numbers. number_at old numbers x) t → us ≡ ts ++ t ∷ [] → EachSoFar old mid all k ts → EachSoFar old new all (k + 1) us
each_more old mid new all k x d t ts us less is own pushed so =
    listing_more {R = List ℤ} {X = ℕ} (λ numbers. numbers) (λ t. t) (λ t o. o) old mid new (λ numbers. map (number_at old numbers) all) (λ numbers. map (number_at old numbers) (drop k all))
    (λ numbers. map (number_at old numbers) (drop (k + 1) all)) (λ numbers. number_at old numbers x) ts us t so
    (λ numbers. at_drop_more (map (number_at old numbers)) all k d less ∙ ap (λ y. number_at old numbers y ∷ map (number_at old numbers) (drop (k + 1) all)) (sym is))
    own.grows own.known own.value pushed

pub each_all : (old new : List GroundNode) (all : List Unrolled) (k : ℕ) (ts : List ℕ) → length all ≤ k → EachSoFar old new all k ts
    → HaveScalars old new (λ numbers. all_there (map (number_at old numbers) all)) ts
each_all old new all k ts h so = record {
  grows = so.grows;
  known = so.known;
  values = λ numbers.
      ap all_there (listing_ends {R = List ℤ} {X = ℕ} (λ ns. ns) (λ t. t) (λ t o. o) old new (λ ns. map (number_at old ns) all) (λ ns. map (number_at old ns) (drop k all)) ts so
      (λ ns. at_drop_all (map (number_at old ns)) all k h) numbers);
}

pub scalars_have : (old new : List GroundNode) (x : Unrolled) (xs : List Unrolled) (ts : List ℕ) → AddsParts [] xs (x ∷ []) (λ ns numbers. scalars_in (worth ns numbers x))
    → HaveScalars old new (λ numbers. all_there (map (number_at old numbers) xs)) ts → HaveScalars old new (λ numbers. scalars_in (worth old numbers x)) ts
scalars_have old new x xs ts flat own = record {
  grows = own.grows;
  known = own.known;
  values = λ numbers. own.values numbers ∙ ap all_there (flat_numbers old numbers xs x _ flat) ∙ flat.values old numbers;
}

pub scalars_are : (n : Numbering) (cells : Env) (nodes mid new : List GroundNode) (e : ExprTree) (x : Unrolled) (ts : List ℕ)
    → Means n cells nodes mid e x → HaveScalars mid new (λ numbers. scalars_in (worth mid numbers x)) ts → AreScalarsOf n cells nodes new e ts
scalars_are n cells nodes mid new e x ts h own = record {
  grows = grows_on nodes mid new h.grows own.grows;
  known = own.known;
  scalars = λ r. own.values r.numbers ∙ ap scalars_in (h.value r);
}

-- with more nodes
pub scalars_grown : (n : Numbering) (cells : Env) (nodes mid new : List GroundNode) (e : ExprTree) (ts : List ℕ) → Grows mid new → AreScalarsOf n cells nodes mid e ts → AreScalarsOf n cells nodes new e ts
scalars_grown n cells nodes mid new e ts g h = record {
  grows = grows_on nodes mid new h.grows g;
  known = λ k d less. grows_long mid new _ g (h.known k d less);
  scalars = λ r. ap all_there (values_kept mid new r.numbers ts g h.known) ∙ h.scalars r;
}

-- and behind fewer
pub scalars_from : (n : Numbering) (cells : Env) (nodes mid new : List GroundNode) (e : ExprTree) (ts : List ℕ) → Grows nodes mid → AreScalarsOf n cells mid new e ts → AreScalarsOf n cells nodes new e ts
scalars_from n cells nodes mid new e ts g h = record { grows = grows_on nodes mid new g h.grows; known = h.known; scalars = h.scalars }
