-- Where the cells of decision variables begin, and how many there are, one variable after another.
use Rattle.ep_unroll.proofs.Words.{◌≡◌, ℕ, zero, suc, subst, ◌+◌, ◌*◌, ◌<◌, ◌≤◌, ℤ, List, [], ◌∷◌, ◌++◌, length, drop, get_or, Some, refl, sym, ap, ◌∙◌, arith, Option, bytes_eq, if◌then◌else◌, map, sum_by, at_drop_all, at_drop_more, sum_by-cons, mul_assoc, fun_ext, Name, find_of, cell_count, Mode, first_in, numbering, numbering_of, CellTable, FirstCell}
use Rattle.ep_instance_parts.specs.declared.instances.Find.{Find as CodeFind}
use Rattle.ep_tree.specs.Binding.{Find}
use Rattle.ep_unroll.specs.Firsts.{first_of}

-- the number of a name's first cell, in a list of first cells and then among decision variables that come behind
unfoldable pub firsts_then : List FirstCell → List Find → ℕ → Name → Option ℕ
firsts_then [] fs k name = first_of fs k name
firsts_then (f ∷ firsts) fs k name = if bytes_eq name f.name then Some f.cell else firsts_then firsts fs k name

firsts_end : (firsts : List FirstCell) (k : ℕ) (name : Name) → firsts_then firsts [] k name ≡ first_in firsts name
unfolding first_in first_of firsts_then
firsts_end [] k name = refl
firsts_end (f ∷ firsts) k name = ap (λ (rest : Option ℕ). if bytes_eq name f.name then Some f.cell else rest) (firsts_end firsts k name)

firsts_push : (firsts : List FirstCell) (f : FirstCell) (g : Find) (fs : List Find) (k n : ℕ) (name : Name) → f.name ≡ g.name → f.cell ≡ k → n ≡ k + cell_count g.indices
    → firsts_then (firsts ++ f ∷ []) fs n name ≡ firsts_then firsts (g ∷ fs) k name
unfolding first_of firsts_then
firsts_push [] f g fs k n name same at long =
    ap (λ (x : Name). if bytes_eq name x then Some f.cell else first_of fs n name) same
    ∙ ap (λ c. if bytes_eq name g.name then Some c else first_of fs n name) at
    ∙ ap (λ c. if bytes_eq name g.name then Some k else first_of fs c name) long
firsts_push (e ∷ firsts) f g fs k n name same at long =
    ap (λ (rest : Option ℕ). if bytes_eq name e.name then Some e.cell else rest) (firsts_push firsts f g fs k n name same at long)

-- the first cells so far, and how many cells there are so far
pub record Tabled (finds : List CodeFind) (i : ℕ) (firsts : List FirstCell) (count : ℕ) : Type 0 where
  pub first : (name : Name) → firsts_then firsts (map find_of (drop i finds)) count name ≡ first_of (map find_of finds) 0 name
  pub counted : count + sum_by (λ f. cell_count f.indices) (map find_of (drop i finds)) ≡ sum_by (λ f. cell_count f.indices) (map find_of finds)

zero_plus : (n : ℕ) → 0 + n ≡ n
zero_plus n = omega arith

pub tabled_none : (finds : List CodeFind) (firsts : List FirstCell) → firsts ≡ [] → Tabled finds 0 firsts 0
unfolding firsts_then
tabled_none finds firsts e = record {
  first = λ name. ap (λ fs. firsts_then fs (map find_of finds) 0 name) e;
  counted = zero_plus (sum_by (λ f. cell_count f.indices) (map find_of finds));
}

pub tabled_more : (finds : List CodeFind) (i : ℕ) (find d : CodeFind) (firsts after : List FirstCell) (f : FirstCell) (count cells next : ℕ) → i < length finds → find ≡ get_or finds i d
    → f.name ≡ find.name → f.cell ≡ count → cells ≡ cell_count find.indices.items → next ≡ count + cells → after ≡ firsts ++ f ∷ []
    → Tabled finds i firsts count → Tabled finds (i + 1) after next
tabled_more finds i find d firsts after f count cells next h same named at over sum pushed was =
    let rest = map find_of (drop (i + 1) finds) in
    record {
      first = λ name.
          ap (λ fs. firsts_then fs rest next name) pushed
          ∙ firsts_push firsts f (find_of find) rest count next name named at (sum ∙ ap (λ n. count + n) over)
          ∙ ap (λ g. firsts_then firsts (find_of g ∷ rest) count name) same
          ∙ sym (at_drop_more (λ gs. firsts_then firsts (map find_of gs) count name) finds i d h)
          ∙ was.first name;
      counted =
          let cut : sum_by (λ g. cell_count g.indices) (map find_of (drop i finds)) ≡ cell_count (get_or finds i d).indices.items + sum_by (λ g. cell_count g.indices) (map find_of (drop (i + 1) finds)) =
          at_drop_more (λ gs. sum_by (λ g. cell_count g.indices) (map find_of gs)) finds i d h
          ∙ sum_by-cons (λ g. cell_count g.indices) (find_of (get_or finds i d)) (map find_of (drop (i + 1) finds)) in
          let here : cell_count find.indices.items ≡ cell_count (get_or finds i d).indices.items = ap (λ g. cell_count g.indices.items) same in
          omega (arith, cut, here, over, sum, was.counted);
    }

pub tabled_all : (mode : Mode) (finds : List CodeFind) (i : ℕ) (t : CellTable) → length finds ≤ i → Tabled finds i t.firsts.items t.count → numbering_of mode t ≡ numbering mode (map find_of finds)
tabled_all mode finds i t h was =
    let firsts = t.firsts.items in
    let all : (name : Name) → first_in firsts name ≡ first_of (map find_of finds) 0 name =
    λ name. sym (firsts_end firsts t.count name) ∙ sym (at_drop_all (λ gs. firsts_then firsts (map find_of gs) t.count name) finds i h) ∙ was.first name in
    let ended : sum_by (λ g. cell_count g.indices) (map find_of (drop i finds)) ≡ 0 = at_drop_all (λ gs. sum_by (λ g. cell_count g.indices) (map find_of gs)) finds i h in
    let long : t.count ≡ sum_by (λ f. cell_count f.indices) (map find_of finds) = omega (arith, ended, was.counted) in
    ap (λ first. record { mode = mode; first = first; count = t.count }) (fun_ext all) ∙ ap (λ n. record { mode = mode; first = first_of (map find_of finds) 0; count = n }) long

-- ---- one variable's cells

one_times : (n : ℕ) → 1 * n ≡ n
one_times n = omega arith

pub cells_none : (ds : List (List ℤ)) → 1 * cell_count ds ≡ cell_count ds
cells_none ds = one_times (cell_count ds)

pub cells_more : (ds : List (List ℤ)) (i : ℕ) (x d : List ℤ) (count n next whole : ℕ) → i < length ds → x ≡ get_or ds i d → n ≡ length x → next ≡ count * n
    → count * cell_count (drop i ds) ≡ whole → next * cell_count (drop (i + 1) ds) ≡ whole
unfolding cell_count
cells_more ds i x d count n next whole h same long sum was =
    let rest = cell_count (drop (i + 1) ds) in
    ap (λ m. m * rest) (sum ∙ ap (λ m. count * m) (long ∙ ap length same)) ∙ mul_assoc count (length (get_or ds i d)) rest
    ∙ ap (λ m. count * m) (sym (at_drop_more cell_count ds i d h)) ∙ was

times_one : (n : ℕ) → n ≡ n * 1
times_one n = omega arith

pub cells_all : (ds : List (List ℤ)) (i count : ℕ) → length ds ≤ i → count * cell_count (drop i ds) ≡ cell_count ds → count ≡ cell_count ds
unfolding cell_count
cells_all ds i count h was = times_one count ∙ ap (λ m. count * m) (sym (at_drop_all cell_count ds i h)) ∙ was

-- ---- whether there is one at all

nought : (n : ℕ) → 0 * n ≡ 0
nought n = omega arith

pub one_empty : (ds : List (List ℤ)) (i : ℕ) (x d : List ℤ) (n : ℕ) → i < length ds → x ≡ get_or ds i d → n ≡ length x → n ≡ 0
    → (cell_count (drop i ds) ≡ 0 → cell_count ds ≡ 0) → cell_count ds ≡ 0
unfolding cell_count
one_empty ds i x d n h same long none was =
    was (at_drop_more cell_count ds i d h ∙ ap (λ m. m * cell_count (drop (i + 1) ds)) (ap length (sym same) ∙ sym long ∙ none) ∙ nought (cell_count (drop (i + 1) ds)))

product_empty : (n rest : ℕ) → rest ≡ 0 → n * rest ≡ 0
product_empty n rest none = grind (arith, none)

pub rest_empty : (ds : List (List ℤ)) (i : ℕ) (d : List ℤ) → i < length ds → (cell_count (drop i ds) ≡ 0 → cell_count ds ≡ 0) → cell_count (drop (i + 1) ds) ≡ 0 → cell_count ds ≡ 0
unfolding cell_count
rest_empty ds i d h was none =
    was (at_drop_more cell_count ds i d h ∙ product_empty (length (get_or ds i d)) (cell_count (drop (i + 1) ds)) none)

product_filled : (n rest : ℕ) → (n ≡ 0 → ⊥) → 1 ≤ rest → 1 ≤ n * rest
product_filled zero rest some more = absurd (some refl)
product_filled (suc n) rest some more = grind (arith, more)

pub rest_filled : (ds : List (List ℤ)) (i : ℕ) (x d : List ℤ) (n : ℕ) → i < length ds → x ≡ get_or ds i d → n ≡ length x → (n ≡ 0 → ⊥)
    → (1 ≤ cell_count (drop i ds) → 1 ≤ cell_count ds) → 1 ≤ cell_count (drop (i + 1) ds) → 1 ≤ cell_count ds
unfolding cell_count
rest_filled ds i x d n h same long some was more =
    was (subst (λ m. 1 ≤ m) (sym (at_drop_more cell_count ds i d h))
    (product_filled (length (get_or ds i d)) (cell_count (drop (i + 1) ds)) (λ none. some (long ∙ ap length same ∙ none)) more))

pub end_filled : (ds : List (List ℤ)) (i : ℕ) → length ds ≤ i → (1 ≤ cell_count (drop i ds) → 1 ≤ cell_count ds) → 1 ≤ cell_count ds
unfolding cell_count
end_filled ds i h was = was (subst (λ m. 1 ≤ m) (sym (at_drop_all cell_count ds i h)) (omega arith))
