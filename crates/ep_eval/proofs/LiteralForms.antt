-- Lists in brackets by their parts.
use Rattle.ep_eval.proofs.Words.{rules, vec_len, ◌≡◌, ℕ, ◌+◌, ◌<◌, ◌≤◌, Bool, true, false, List, [], ◌∷◌, ◌++◌, length, ℤ, pos, refl, sym, ap, ◌+ℤ◌, ◌-ℤ◌, ◌↔◌, subst, ◌∙◌, append_assoc, append-nil, arith, zero, suc, ◌==◌, Option, Some, None, if◌then◌else◌, map, option_map, ◌≤ℤ◌, Box, Any, ne_eqb, ints, length-append, All-cons, ascending_lists_are_equal, in_numbers, numbers_ascend, map_both, on_both, AreApart, IsAscending, IsIn, counting, numbers, numbers_in, or_zero, Place, Run, evaluate-literal, Env, domain_values, evaluate, index_values, matrix_value, values_of, met, met_all, met_domain, met_index, IndexDomain, literal, ValueTree, all_defined, as_parts, matrix, with_indices, domain_tree, expr_tree, expr_trees, Domain, Expr, Mode, index_at, Going, Told, Meter, Value}
use Rattle.std.specs.declared.alloc.Global.{Global}
use Rattle.std.specs.declared.vec.Vec.{Vec}
use Rattle.std.specs.List.{Contains}
use Rattle.ep_eval.proofs.MeterSteps.{going_begins, going_ends, going_more, joins}
use Rattle.ep_eval.proofs.PartSteps.{met_part, no_parts, values_part}

-- ---- parts one after another

-- the values of some parts before those of others
abbrev pub joined_parts : Option (List ValueTree) → Option (List ValueTree) → Option (List ValueTree)
joined_parts values left = map_both ◌++◌ values left

-- some parts are evaluated, and others are left
abbrev pub PartsSoFar : Mode → Env → Meter → Meter → List Expr → List Expr → Option (List ValueTree) → Type 0
PartsSoFar mode env start now parts left values =
    Going mode start now (met_all mode env (expr_trees parts)) (met_all mode env (expr_trees left))
    (all_defined (values_of mode env (expr_trees parts)) ≡ joined_parts values (all_defined (values_of mode env (expr_trees left))))

none_before : (o : Option (List ValueTree)) → o ≡ joined_parts (Some []) o
unfolding map_both
none_before None = refl
none_before (Some vs) = refl

pub parts_begin : (mode : Mode) (env : Env) (start : Meter) (parts : List Expr) → PartsSoFar mode env start start parts parts (Some [])
parts_begin mode env start parts = going_begins (joins mode) start _ _ refl (none_before (all_defined (values_of mode env (expr_trees parts))))

put_behind : (vs : List ValueTree) (v : ValueTree) (o : Option (List ValueTree)) → map_both ◌++◌ (Some vs) (option_map (λ ws. v ∷ ws) o) ≡ map_both ◌++◌ (Some (vs ++ v ∷ [])) o
unfolding map_both
put_behind vs v None = refl
put_behind vs v (Some ws) = ap Some (sym (append_assoc vs (v ∷ []) ws))

one_behind : (values : Option (List ValueTree)) (seen : Option ValueTree) (others : List (Option ValueTree))
    → joined_parts values (all_defined (seen ∷ others)) ≡ joined_parts (map_both (λ all one. all ++ one ∷ []) values seen) (all_defined others)
unfolding map_both all_defined
one_behind None seen others = refl
one_behind (Some vs) None others = refl
one_behind (Some vs) (Some v) others = put_behind vs v (all_defined others)

pub parts_more : (mode : Mode) (env : Env) (start now after : Meter) (parts left : List Expr) (values more : Option (List ValueTree)) (part : Expr) (rest : List Expr) (seen : Option ValueTree)
    → PartsSoFar mode env start now parts left values → left ≡ part ∷ rest
    → Told mode now after (met mode env (expr_tree part)) (evaluate mode env (expr_tree part) ≡ seen)
    → more ≡ map_both (λ all one. all ++ one ∷ []) values seen → PartsSoFar mode env start after parts rest more
parts_more mode env start now after parts left values more part rest seen g cut told is =
    going_more (joins mode) start now after _ _ (met mode env (expr_tree part)) _ g (ap (λ l. met_all mode env (expr_trees l)) cut ∙ met_part mode env part rest) told
    (λ known value.
    known
    ∙ ap (λ l. joined_parts values (all_defined l))
    (ap (λ l. values_of mode env (expr_trees l)) cut ∙ values_part mode env part rest ∙ ap (λ v. v ∷ values_of mode env (expr_trees rest)) value)
    ∙ one_behind values seen (values_of mode env (expr_trees rest))
    ∙ ap (λ o. joined_parts o (all_defined (values_of mode env (expr_trees rest)))) (sym is))

none_behind : (values : Option (List ValueTree)) → joined_parts values (Some []) ≡ values
unfolding map_both
none_behind None = refl
none_behind (Some vs) = ap Some (append-nil vs)

pub parts_end : (mode : Mode) (env : Env) (start now : Meter) (parts left : List Expr) (values : Option (List ValueTree))
    → PartsSoFar mode env start now parts left values → left ≡ []
    → Told mode start now (met_all mode env (expr_trees parts)) (values ≡ all_defined (values_of mode env (expr_trees parts)))
unfolding values_of expr_trees all_defined
parts_end mode env start now parts left values g none =
    going_ends start now _ _ g (no_parts mode env left none)
    (λ known. sym (known ∙ ap (λ l. joined_parts values (all_defined (values_of mode env (expr_trees l)))) none ∙ none_behind values))

-- ---- the indices

pub met_index-some : (mode : Mode) (env : Env) (o : Option (Box Domain Global)) (d : Box Domain Global) → o ≡ Some d → met_domain mode env (domain_tree d.value) ≡ met_index mode env (index_at o)
unfolding met_index index_at
met_index-some mode env o d h = sym (ap (λ x. met_index mode env (index_at x)) h)

pub met_index-none : (mode : Mode) (env : Env) (o : Option (Box Domain Global)) → o ≡ None → [] ≡ met_index mode env (index_at o)
unfolding met_index index_at
met_index-none mode env o h = sym (ap (λ x. met_index mode env (index_at x)) h)

pub index_values-some : (mode : Mode) (env : Env) (o : Option (Box Domain Global)) (d : Box Domain Global) (count : ℕ) → o ≡ Some d
    → domain_values mode env (domain_tree d.value) ≡ index_values mode env (index_at o) count
unfolding index_values index_at
index_values-some mode env o d count h = sym (ap (λ x. index_values mode env (index_at x) count) h)

pub index_values-none : (mode : Mode) (env : Env) (o : Option (Box Domain Global)) (count : ℕ) → o ≡ None
    → Some (counting (pos 1) count) ≡ index_values mode env (index_at o) count
unfolding index_values index_at
index_values-none mode env o count h = sym (ap (λ x. index_values mode env (index_at x) count) h)

-- ---- the matrix

as_many : (mode : Mode) (env : Env) (parts : List Expr) → length (values_of mode env (expr_trees parts)) ≡ length parts
unfolding values_of expr_trees
as_many mode env [] = refl
as_many mode env (part ∷ parts) = ap suc (as_many mode env parts)

pub literal_is : (mode : Mode) (env : Env) (p : Place) (parts : List Expr) (d : IndexDomain) (set : Option (List ℤ)) (values : Option (List ValueTree)) (count : ℕ)
    → count ≡ length parts → set ≡ index_values mode env d count → values ≡ all_defined (values_of mode env (expr_trees parts))
    → evaluate mode env (literal p (expr_trees parts) d) ≡ on_both set values with_indices
unfolding matrix_value
literal_is mode env p parts d set values count many own told =
    evaluate-literal mode env p (expr_trees parts) d
    ∙ ap (λ n. on_both (index_values mode env d n) (all_defined (values_of mode env (expr_trees parts))) with_indices) (as_many mode env parts ∙ sym many)
    ∙ ap (λ o. on_both o (all_defined (values_of mode env (expr_trees parts))) with_indices) (sym own)
    ∙ ap (λ o. on_both set o with_indices) (sym told)

-- ---- numbers of a set, of which so many are wanted

pub too_many : (set before left : List ℤ) (x : ℤ) (rest : List ℤ) (count : ℕ) → set ≡ before ++ left → left ≡ x ∷ rest → count ≤ length before
    → None ≡ (if length set == count then Some set else None)
too_many set before left x rest count is cut most =
    let longer : length set ≡ length before + length left = ap length is ∙ length-append before left in
    let one : length left ≡ length (x ∷ rest) = ap length cut in
    sym (ap (λ b. if b then Some set else None) (ne_eqb (length set) count (λ e. omega (arith, longer, one, most, e))))

pub too_few : (set before left : List ℤ) (count : ℕ) → set ≡ before ++ left → left ≡ [] → length before ≤ count → (length before ≡ count → ⊥)
    → None ≡ (if length set == count then Some set else None)
too_few set before left count is none most other =
    let same : length set ≡ length before + length left = ap length is ∙ length-append before left in
    let nothing : length left ≡ 0 = ap length none in
    sym (ap (λ b. if b then Some set else None) (ne_eqb (length set) count (λ e. other (omega (arith, same, nothing, e)))))

eqb_same : (n m : ℕ) → n ≡ m → (n == m) ≡ true
eqb_same n m h = grind (arith, h)

pub just_enough : (set before left : List ℤ) (count : ℕ) → set ≡ before ++ left → left ≡ [] → length before ≡ count
    → Some before ≡ (if length set == count then Some set else None)
just_enough set before left count is none many =
    let same : set ≡ before = is ∙ ap (λ l. before ++ l) none ∙ append-nil before in
    ap Some (sym same) ∙ sym (ap (λ b. if b then Some set else None) (eqb_same (length set) count (ap length same ∙ many)))

pub indices_match : (set : List ℤ) (parts : List ValueTree) (own : List ℤ) (count : ℕ) → count ≡ length parts
    → Some own ≡ (if length set == count then Some set else None) → Some (matrix own (as_parts parts)) ≡ with_indices set parts
unfolding with_indices
indices_match set parts own count many told = by (length set == count) told ∙ ap (λ n. if length set == n then Some (matrix set (as_parts parts)) else None) many
  where
    by : (b : Bool) → Some own ≡ (if b then Some set else None) → Some (matrix own (as_parts parts)) ≡ (if b then Some (matrix set (as_parts parts)) else None)
    by true e = ap (option_map (λ l. matrix l (as_parts parts))) e
    by false e = absurd cc

pub indices_differ : (set : List ℤ) (parts : List ValueTree) (count : ℕ) → count ≡ length parts
    → None ≡ (if length set == count then Some set else None) → None ≡ with_indices set parts
unfolding with_indices
indices_differ set parts count many told = by (length set == count) told ∙ ap (λ n. if length set == n then Some (matrix set (as_parts parts)) else None) many
  where
    by : (b : Bool) → ◌≡◌ {A = Option (List ℤ)} None (if b then Some set else None) → ◌≡◌ {A = Option ValueTree} None (if b then Some (matrix set (as_parts parts)) else None)
    by true e = absurd cc
    by false e = refl

-- ---- the numbers from 1 on

one_run : (n : ℕ) → numbers (record { lo = pos 1; hi = pos n } ∷ []) ≡ counting (pos 1) n
unfolding numbers numbers_in
one_run n = append-nil (counting (pos 1) (or_zero ((pos n +ℤ pos 1) -ℤ pos 1))) ∙ ap (counting (pos 1)) (back n)
  where
    or_zero_is : (z : ℤ) (m : ℕ) → z ≡ pos m → or_zero z ≡ m
    or_zero_is z m e = ap or_zero e

    back : (n : ℕ) → or_zero ((pos n +ℤ pos 1) -ℤ pos 1) ≡ n
    back n = or_zero_is ((pos n +ℤ pos 1) -ℤ pos 1) n (omega (arith, ints))

nothing_ascends : IsAscending []
nothing_ascends = λ i j d lt inside. absurd (omega (arith, inside))

none_up : IsAscending (counting (pos 1) 0)
unfolding counting
none_up = nothing_ascends

counting_up : (n : ℕ) → IsAscending (counting (pos 1) n)
counting_up zero = none_up
counting_up (suc n) =
    let run : Run = record { lo = pos 1; hi = pos (suc n) } in
    subst IsAscending (one_run (suc n)) (numbers_ascend (run ∷ []) (alone run (omega (arith, ints))))
  where
    alone : (run : Run) → run.lo ≤ℤ run.hi → AreApart (run ∷ [])
    alone run h = record {
      filled = All-cons (λ r. r.lo ≤ℤ r.hi) run [] h (λ i d lt. absurd (omega (arith, lt)));
      gaps = λ i j d lt inside. absurd (omega (arith, lt, inside));
    }

pub counted_set : (set : List ℤ) (parts : List Run) (n : ℕ) → parts ≡ record { lo = pos 1; hi = pos n } ∷ [] → IsAscending set
    → ((v : ℤ) → Contains set v ↔ Any (IsIn v) parts) → set ≡ counting (pos 1) n
counted_set set parts n is ascends same =
    ascending_lists_are_equal set (counting (pos 1) n) ascends (counting_up n)
    (λ v.
    let told = in_numbers (record { lo = pos 1; hi = pos n } ∷ []) v in (
      λ h. subst (λ l. Contains l v) (one_run n) (told.1 (subst (λ ps. Any (IsIn v) ps) is ((same v).0 h))),
      λ h. (same v).1 (subst (λ ps. Any (IsIn v) ps) (sym is) (told.0 (subst (λ l. Contains l v) (sym (one_run n)) h))),
    ))

-- ---- lengths

pub counted_values : (v : Vec Value Global) → vec_len v ≡ length v.items
counted_values v = search rules
