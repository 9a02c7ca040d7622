-- Parts that were unrolled keep their values while nodes are added.
use Rattle.ep_unroll.proofs.Words.{◌≡◌, ℕ, zero, suc, ◌<◌, ℤ, List, [], ◌∷◌, ◌++◌, length, get_or, Some, None, refl, sym, ap, subst, ◌∙◌, arith, Option, option_map, GroundNode, all_defined, as_parts, matrix, single, Grows, AreTerms, RowHasTerms, row_worths, worth, HaveTerms, worths, Unrolled, Number, Cells, Fixed, Matrix, Matrix', Row_of-Unrolled, end_of-Unrolled, more_of-Unrolled, items-the_row-Unrolled, items_hidden-the_row-Unrolled-0, hidden-the_row-Unrolled-0}
use Rattle.std.specs.declared.alloc.Global.{Global}
use Rattle.std.specs.declared.vec.Vec.{Vec}
use Rattle.ep_unroll.proofs.FormValues.{grown_value, grows_long}

mutual
  unfolding worth AreTerms RowHasTerms row_worths

  -- what was unrolled keeps its value
  pub worth_kept : (old new : List GroundNode) (numbers : List ℤ) (x : Unrolled) → Grows old new → AreTerms (length old) x → worth new numbers x ≡ worth old numbers x
  worth_kept old new numbers (Number t) g h = ap (option_map single) (grown_value old new numbers t g h)
  worth_kept old new numbers (Cells k domains) g h = refl
  worth_kept old new numbers (Fixed seen) g h = refl
  worth_kept old new numbers (Matrix' indices size parts) g h =
      ap (λ vs. option_map (λ ws. matrix indices.items (as_parts ws)) (all_defined vs)) (row_kept old new numbers parts g h)

  row_kept : {m : _} (old new : List GroundNode) (numbers : List ℤ) (parts : Row_of-Unrolled m) → Grows old new → RowHasTerms (length old) parts → row_worths new numbers parts ≡ row_worths old numbers parts
  row_kept old new numbers end_of-Unrolled g h = refl
  row_kept old new numbers (more_of-Unrolled x rest) g h =
      ap (λ v. v ∷ row_worths new numbers rest) (worth_kept old new numbers x g h.0)
      ∙ ap (λ vs. worth old numbers x ∷ vs) (row_kept old new numbers rest g h.1)

mutual
  unfolding AreTerms RowHasTerms

  -- and its terms have nodes
  pub terms_kept : (old new : List GroundNode) (x : Unrolled) → Grows old new → AreTerms (length old) x → AreTerms (length new) x
  terms_kept old new (Number t) g h = grows_long old new t g h
  terms_kept old new (Cells k domains) g h = tt
  terms_kept old new (Fixed seen) g h = tt
  terms_kept old new (Matrix' indices size parts) g h = row_terms_kept old new parts g h

  row_terms_kept : {m : _} (old new : List GroundNode) (parts : Row_of-Unrolled m) → Grows old new → RowHasTerms (length old) parts → RowHasTerms (length new) parts
  row_terms_kept old new end_of-Unrolled g h = tt
  row_terms_kept old new (more_of-Unrolled x rest) g h = (terms_kept old new x g h.0, row_terms_kept old new rest g h.1)

-- ---- lists of parts

pub worths_kept : (old new : List GroundNode) (numbers : List ℤ) (xs : List Unrolled) → Grows old new → HaveTerms (length old) xs → worths new numbers xs ≡ worths old numbers xs
unfolding HaveTerms
worths_kept old new numbers [] g h = refl
worths_kept old new numbers (x ∷ xs) g h =
    ap (λ v. v ∷ worths new numbers xs) (worth_kept old new numbers x g h.0) ∙ ap (λ vs. worth old numbers x ∷ vs) (worths_kept old new numbers xs g h.1)

pub have_kept : (old new : List GroundNode) (xs : List Unrolled) → Grows old new → HaveTerms (length old) xs → HaveTerms (length new) xs
unfolding HaveTerms
have_kept old new [] g h = tt
have_kept old new (x ∷ xs) g h = (terms_kept old new x g h.0, have_kept old new xs g h.1)

pub have_both : (count : ℕ) (xs ys : List Unrolled) → HaveTerms count xs → HaveTerms count ys → HaveTerms count (xs ++ ys)
unfolding HaveTerms
have_both count [] ys h k = k
have_both count (x ∷ xs) ys h k = (h.0, have_both count xs ys h.1 k)

pub have_one : (count : ℕ) (x : Unrolled) → AreTerms count x → HaveTerms count (x ∷ [])
unfolding HaveTerms
have_one count x h = (h, tt)

pub have_at : (count : ℕ) (xs : List Unrolled) (k : ℕ) (d : Unrolled) → HaveTerms count xs → k < length xs → AreTerms count (get_or xs k d)
unfolding HaveTerms
have_at count [] k d h less = absurd (omega (arith, less))
have_at count (x ∷ xs) zero d h less = h.0
have_at count (x ∷ xs) (suc k) d h less = have_at count xs k d h.1 (omega (arith, less))

-- ---- the parts of a matrix as a list

row_worths-items : {m : _} (nodes : List GroundNode) (numbers : List ℤ) (row : Row_of-Unrolled m) → row_worths nodes numbers row ≡ worths nodes numbers (items-the_row-Unrolled _ row)
unfolding row_worths worth
row_worths-items nodes numbers end_of-Unrolled = refl
row_worths-items nodes numbers (more_of-Unrolled x rest) = ap (λ vs. worth nodes numbers x ∷ vs) (row_worths-items nodes numbers rest)

row_terms-items : {m : _} (count : ℕ) (row : Row_of-Unrolled m) → RowHasTerms count row → HaveTerms count (items-the_row-Unrolled _ row)
unfolding RowHasTerms HaveTerms AreTerms
row_terms-items count end_of-Unrolled h = tt
row_terms-items count (more_of-Unrolled x rest) h = (h.0, row_terms-items count rest h.1)

items-row_terms : {m : _} (count : ℕ) (row : Row_of-Unrolled m) → HaveTerms count (items-the_row-Unrolled _ row) → RowHasTerms count row
unfolding RowHasTerms HaveTerms AreTerms
items-row_terms count end_of-Unrolled h = tt
items-row_terms count (more_of-Unrolled x rest) h = (h.0, items-row_terms count rest h.1)

-- the value of a matrix by its parts
pub matrix_worth : (nodes : List GroundNode) (numbers : List ℤ) (indices : Vec ℤ Global) (v : Vec Unrolled Global)
    → worth nodes numbers (Matrix indices v) ≡ option_map (λ vs. matrix indices.items (as_parts vs)) (all_defined (worths nodes numbers v.items))
unfolding worth
matrix_worth nodes numbers indices v =
    ap (λ vs. option_map (λ ws. matrix indices.items (as_parts ws)) (all_defined vs))
    (row_worths-items nodes numbers (hidden-the_row-Unrolled-0 v) ∙ ap (worths nodes numbers) (items_hidden-the_row-Unrolled-0 v))

pub matrix_terms : (count : ℕ) (indices : Vec ℤ Global) (v : Vec Unrolled Global) → AreTerms count (Matrix indices v) → HaveTerms count v.items
unfolding AreTerms
matrix_terms count indices v h = subst (HaveTerms count) (items_hidden-the_row-Unrolled-0 v) (row_terms-items count (hidden-the_row-Unrolled-0 v) h)

pub terms_matrix : (count : ℕ) (indices : Vec ℤ Global) (v : Vec Unrolled Global) → HaveTerms count v.items → AreTerms count (Matrix indices v)
unfolding AreTerms
terms_matrix count indices v h = items-row_terms count (hidden-the_row-Unrolled-0 v) (subst (HaveTerms count) (sym (items_hidden-the_row-Unrolled-0 v)) h)

-- ---- parts that there may be
