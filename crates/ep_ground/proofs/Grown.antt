-- Lists that are made of nodes in order, each element from those before it.
use Rattle.std.proofs.Common.{◌≡◌, ℕ, zero, suc, ◌+◌, ◌<◌, ◌≤◌, List, [], ◌∷◌, ◌++◌, length, Some, refl, sym, ap, ◌∙◌, arith, get_or, take, drop, slice_get}
use Rattle.std.specs.Prelude.{fold}
use Rattle.std.proofs.lemmas.List.{get_or_append_left, get_or_at, length-append, length-take-le, take-append-drop}
use Rattle.std.proofs.lemmas.Option.{same_Some, none-some}

-- the list made of nodes behind an earlier one
abbrev pub grown : {N X : Type 0} → (List X → N → X) → List X → List N → List X
grown step before nodes = fold (λ done node. done ++ step done node ∷ []) before nodes

pub grown-length : {N X : Type 0} (step : List X → N → X) (before : List X) (nodes : List N) → length (grown step before nodes) ≡ length before + length nodes
grown-length step before [] = omega arith
grown-length step before (n ∷ nodes) =
    let h = grown-length step (before ++ step before n ∷ []) nodes in omega (arith, h, length-append before (step before n ∷ []))

-- what is there stays
pub grown-stays : {N X : Type 0} (step : List X → N → X) (before : List X) (nodes : List N) (k : ℕ) (d : X) → k < length before → get_or (grown step before nodes) k d ≡ get_or before k d
grown-stays step before [] k d h = refl
grown-stays step before (n ∷ nodes) k d h =
    grown-stays step (before ++ step before n ∷ []) nodes k d (omega (arith, length-append before (step before n ∷ [])))
    ∙ get_or_append_left before (step before n ∷ []) d k h

pub grown-append : {N X : Type 0} (step : List X → N → X) (before : List X) (xs ys : List N) → grown step before (xs ++ ys) ≡ grown step (grown step before xs) ys
grown-append step before [] ys = refl
grown-append step before (x ∷ xs) ys = grown-append step (before ++ step before x ∷ []) xs ys

-- each element is what is made of its node
pub grown-at : {N X : Type 0} (step : List X → N → X) (before : List X) (nodes : List N) (k : ℕ) (node : N) (d : X) → slice_get nodes k ≡ Some node → get_or (grown step before nodes) (length before + k) d ≡ step (grown step before (take k nodes)) node
grown-at step before [] k node d e = absurd (none-some node e)
grown-at step before (n ∷ nodes) zero node d e =
    grown-stays step (before ++ step before n ∷ []) nodes (length before + 0) d (omega (arith, length-append before (step before n ∷ [])))
    ∙ get_or_at before (step before n) [] d (length before + 0) (omega arith) ∙ ap (step before) (same_Some n node e)
grown-at step before (n ∷ nodes) (suc k) node d e =
    ap (λ i. get_or (grown step (before ++ step before n ∷ []) nodes) i d) (omega (arith, length-append before (step before n ∷ [])))
    ∙ grown-at step (before ++ step before n ∷ []) nodes k node d e

-- what is made of the nodes before one is the same in the whole
pub grown-before : {N X : Type 0} (step : List X → N → X) (nodes : List N) (t k : ℕ) (d : X) → t ≤ length nodes → k < t → get_or (grown step [] (take t nodes)) k d ≡ get_or (grown step [] nodes) k d
grown-before step nodes t k d h l =
    sym (ap (λ ns. get_or (grown step [] ns) k d) (sym (take-append-drop t nodes))
    ∙ ap (λ xs. get_or xs k d) (grown-append step [] (take t nodes) (drop t nodes))
    ∙ grown-stays step (grown step [] (take t nodes)) (drop t nodes) k d (omega (arith, grown-length step [] (take t nodes), length-take-le t nodes h)))

pub grown-more : {N X : Type 0} (step : List X → N → X) (nodes more : List N) (t : ℕ) (d : X) → t < length nodes → get_or (grown step [] (nodes ++ more)) t d ≡ get_or (grown step [] nodes) t d
grown-more step nodes more t d l =
    ap (λ xs. get_or xs t d) (grown-append step [] nodes more)
    ∙ grown-stays step (grown step [] nodes) more t d (omega (arith, grown-length step [] nodes))

pub made-at : {N X : Type 0} (step : List X → N → X) (nodes : List N) (k : ℕ) (node : N) (d : X) → slice_get nodes k ≡ Some node → get_or (grown step [] nodes) k d ≡ step (grown step [] (take k nodes)) node
made-at step nodes k node d e =
    let same : k ≡ 0 + k = omega arith in
    ap (λ i. get_or (grown step [] nodes) i d) same ∙ grown-at step [] nodes k node d e
