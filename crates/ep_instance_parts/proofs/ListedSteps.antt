-- Domains that are read, form by form.
use Rattle.std.proofs.Common.{◌≡◌, ◌↔◌, ◌∙◌, ◌≤◌, ◌^◌, ℕ, ℤ, pos, neg_ℤ, ◌≤ℤ◌, ◌<ℤ◌, Bool, true, ◌&&◌, List, [], ◌∷◌, ◌++◌, Option, Some, None, option_map, refl, sym, ap, arith}
use Rattle.std.specs.Prelude.{int_le, length, Result, Ok, Err}
use Rattle.std.specs.declared.boxed.Box.{Box}
use Rattle.std.specs.declared.alloc.Global.{Global}
use Rattle.std.specs.List.{Any, Contains}
use Rattle.std.proofs.Math.Bool.{or-false}
use Rattle.ep_base.specs.Runs.{IsIn}
use Rattle.std.proofs.lemmas.Int.{ints}
use Rattle.ep_base.specs.Numbers.{has_number}
use Rattle.ep_base.specs.Options.{map_both, on_both}
use Rattle.ep_tree.specs.Binding.{element_values, elements_pass, index_domains, indices_bound, listed_domains, numbers_bound, ranges_pass}
use Rattle.ep_tree.specs.Domains.{set_has, truth_values}
use Rattle.ep_tree.specs.Environments.{Bound, Env, has_cells, has_domain, has_value, shape_type}
use Rattle.ep_tree.specs.Types.{of_scalar}
use Rattle.ep_tree.specs.declared.values.ValueType.{ValueType}
use Rattle.ep_tree.specs.Measures.{met, met_domain, met_domains, met_ranges}
use Rattle.ep_tree.specs.Trees.{DomainTree, Domains, Ranges, bool, group_domain, int, matrix_domain, named_domain, ranges, set_domain}
use Rattle.ep_tree.specs.declared.syntax.SetOp.{SetOp}
use Rattle.ep_tree.specs.declared.values.Mode.{Mode}
use Rattle.ep_tree.specs.declared.values.Scalar.{Scalar}
use Rattle.ep_base.specs.declared.run_lists.Run.{Run}
use Rattle.ep_eval.specs.Bounds.{only_domain}
use Rattle.ep_eval.specs.Outcomes.{IsCause}
use Rattle.ep_eval.specs.declared.errors.EvalError.{EvalError}
use Rattle.ep_tree.specs.Limits.{limits_of_values}
use Rattle.ep_instance_parts.specs.Counted.{IsCounted}
use Rattle.ep_instance_parts.specs.Elements.{element_passes}
use Rattle.ep_instance_parts.specs.Reading.{IsReadListed, IsOpened, IsScalars, Joins, NamesListed, NamesOpened, ReadsListed, ReadsScalars}
use Rattle.ep_instance_parts.specs.Tests.{Answers64, element_test, run_test}
use Rattle.ep_instance_parts.specs.declared.elements.Elements.{Elements, Joined, Within}
use Rattle.ep_instance_parts.specs.declared.listed.Listed.{Listed}
use Rattle.ep_instance_parts.specs.declared.opened.Opened.{Opened}
use Rattle.ep_instance_parts.proofs.LimitSteps.{cause_first, cause_next, counted_none, counted_on}
use Rattle.ep_instance_parts.proofs.RangeSteps.{runs_as_elements, runs_test}

-- ---- names

pub only_domain-indices : (b : Option Bound) → indices_bound (only_domain b) ≡ indices_bound b
unfolding indices_bound only_domain
only_domain-indices None = refl
only_domain-indices (Some (has_value t v)) = refl
only_domain-indices (Some (has_cells s is vs)) = refl
only_domain-indices (Some (has_domain s is vs)) = refl

pub only_domain-values : (b : Option Bound) → numbers_bound (only_domain b) ≡ numbers_bound b
unfolding numbers_bound only_domain
only_domain-values None = refl
only_domain-values (Some (has_value t v)) = refl
only_domain-values (Some (has_cells s is vs)) = refl
only_domain-values (Some (has_domain s is vs)) = refl

domain_indices : (s : Scalar) (is : List (List ℤ)) (vs : List ℤ) → Some is ≡ indices_bound (Some (has_domain s is vs))
unfolding indices_bound
domain_indices s is vs = refl

domain_numbers : (s : Scalar) (is : List (List ℤ)) (vs : List ℤ) → Some vs ≡ numbers_bound (Some (has_domain s is vs))
unfolding numbers_bound
domain_numbers s is vs = refl

no_indices : None ≡ indices_bound None
unfolding indices_bound
no_indices = refl

no_numbers : None ≡ numbers_bound None
unfolding numbers_bound
no_numbers = refl

-- what is kept of a name for a domain
pub named_listed : (b : Option Bound) (s : Scalar) (is : List (List ℤ)) (vs : List ℤ) (kept : Listed) → Some (has_domain s is vs) ≡ only_domain b
    → option_map (λ v. v.items) kept.indices ≡ Some is → kept.values ≡ Some vs → NamesListed b kept
named_listed b s is vs kept h i v = record {
  indices = i ∙ domain_indices s is vs ∙ ap indices_bound h ∙ only_domain-indices b;
  values = v ∙ domain_numbers s is vs ∙ ap numbers_bound h ∙ only_domain-values b;
}

pub named_unlisted : (b : Option Bound) (kept : Listed) → None ≡ only_domain b → option_map (λ v. v.items) kept.indices ≡ None → kept.values ≡ None → NamesListed b kept
named_unlisted b kept h i v = record {
  indices = i ∙ no_indices ∙ ap indices_bound h ∙ only_domain-indices b;
  values = v ∙ no_numbers ∙ ap numbers_bound h ∙ only_domain-values b;
}

passes_of : (n : ℤ) (o p : Option (List ℤ)) → o ≡ p → option_map (λ vs. has_number vs n) o ≡ option_map (λ (f : ℤ → Bool). f n) (option_map has_number p)
passes_of n o None e = ap (option_map (λ vs. has_number vs n)) e
passes_of n o (Some vs) e = ap (option_map (λ vs. has_number vs n)) e

pub named_opened : (b : Option Bound) (s : Scalar) (is : List (List ℤ)) (vs : List ℤ) (kept : Opened) → Some (has_domain s is vs) ≡ only_domain b
    → option_map (λ v. v.items) kept.indices ≡ Some is → ((n : ℤ) → option_map (λ e. element_passes e n) kept.elements ≡ Some (has_number vs n)) → NamesOpened b kept
named_opened b s is vs kept h i v = record {
  indices = i ∙ domain_indices s is vs ∙ ap indices_bound h ∙ only_domain-indices b;
  elements = λ n. v n ∙ passes_of n (Some vs) (numbers_bound b) (domain_numbers s is vs ∙ ap numbers_bound h ∙ only_domain-values b);
}

pub named_unopened : (b : Option Bound) (kept : Opened) → None ≡ only_domain b → option_map (λ v. v.items) kept.indices ≡ None → kept.elements ≡ None → NamesOpened b kept
named_unopened b kept h i v = record {
  indices = i ∙ no_indices ∙ ap indices_bound h ∙ only_domain-indices b;
  elements = λ n. ap (option_map (λ e. element_passes e n)) v ∙ passes_of n None (numbers_bound b) (no_numbers ∙ ap numbers_bound h ∙ only_domain-values b);
}

-- ---- lists, form by form

pub listed_bool : (mode : Mode) (env : Env) (before : ℕ) (p : _) (kept : Listed) (after : ℕ) → IsScalars mode env before (bool p) kept after → IsReadListed mode env before (bool p) kept after
unfolding index_domains element_values
listed_bool mode env before p kept after h = record { indices = h.indices; values = h.values; counted = h.counted }

pub listed_int : (mode : Mode) (env : Env) (before : ℕ) (p : _) (kept : Listed) (after : ℕ) → IsScalars mode env before (int p) kept after → IsReadListed mode env before (int p) kept after
unfolding index_domains element_values
listed_int mode env before p kept after h = record { indices = h.indices; values = h.values; counted = h.counted }

pub listed_ranges : (mode : Mode) (env : Env) (before : ℕ) (p : _) (rs : Ranges) (kept : Listed) (after : ℕ) → IsScalars mode env before (ranges p rs) kept after → IsReadListed mode env before (ranges p rs) kept after
unfolding index_domains element_values
listed_ranges mode env before p rs kept after h = record { indices = h.indices; values = h.values; counted = h.counted }

pub listed_set : (mode : Mode) (env : Env) (before : ℕ) (p : _) (op : SetOp) (c d : DomainTree) (kept : Listed) (after : ℕ) → IsScalars mode env before (set_domain p op c d) kept after
    → IsReadListed mode env before (set_domain p op c d) kept after
unfolding index_domains element_values
listed_set mode env before p op c d kept after h = record { indices = h.indices; values = h.values; counted = h.counted }

pub listed_named : (mode : Mode) (env : Env) (before : ℕ) (p : _) (name : _) (kept : Listed) → before ≤ 5000000 → NamesListed (env name) kept → IsReadListed mode env before (named_domain p name) kept before
unfolding index_domains element_values met
listed_named mode env before p name kept small h = record { indices = h.indices; values = h.values; counted = counted_none mode before small }

pub listed_group : (mode : Mode) (env : Env) (before : ℕ) (p : _) (d : DomainTree) (kept : Listed) (after : ℕ) → IsReadListed mode env before d kept after → IsReadListed mode env before (group_domain p d) kept after
unfolding index_domains element_values met
listed_group mode env before p d kept after h = record { indices = h.indices; values = h.values; counted = h.counted }

own_and_inner : (a b : Option (List (List ℤ))) → on_both a b (λ own inner. Some (own ++ inner)) ≡ map_both (λ xs ys. xs ++ ys) a b
unfolding on_both map_both
own_and_inner None b = refl
own_and_inner (Some x) None = refl
own_and_inner (Some x) (Some y) = refl

matrix_indices : (mode : Mode) (env : Env) (p : _) (ds : Domains) (d : DomainTree)
    → index_domains mode env (matrix_domain p ds d) ≡ map_both (λ xs ys. xs ++ ys) (listed_domains mode env ds) (index_domains mode env d)
unfolding index_domains
matrix_indices mode env p ds d = own_and_inner (listed_domains mode env ds) (index_domains mode env d)

matrix_met : (mode : Mode) (env : Env) (p : _) (ds : Domains) (d : DomainTree) → met_domain mode env (matrix_domain p ds d) ≡ met_domains mode env ds ++ met_domain mode env d
unfolding met
matrix_met mode env p ds d = refl

all_indices : (mode : Mode) (env : Env) (p : _) (ds : Domains) (d : DomainTree) (sets inner all : Option (List (List ℤ)))
    → sets ≡ listed_domains mode env ds → inner ≡ index_domains mode env d → all ≡ map_both (λ xs ys. xs ++ ys) sets inner → all ≡ index_domains mode env (matrix_domain p ds d)
all_indices mode env p ds d sets inner all s i a =
    a ∙ ap (λ o. map_both (λ xs ys. xs ++ ys) o inner) s ∙ ap (map_both (λ xs ys. xs ++ ys) (listed_domains mode env ds)) i ∙ sym (matrix_indices mode env p ds d)

pub listed_matrix : (mode : Mode) (env : Env) (before count after : ℕ) (p : _) (ds : Domains) (d : DomainTree) (sets : Option (List (List ℤ))) (inner kept : Listed)
    → sets ≡ listed_domains mode env ds → IsCounted mode before (met_domains mode env ds) count → IsReadListed mode env count d inner after
    → option_map (λ v. v.items) kept.indices ≡ map_both (λ xs ys. xs ++ ys) sets (option_map (λ v. v.items) inner.indices) → kept.values ≡ inner.values
    → IsReadListed mode env before (matrix_domain p ds d) kept after
unfolding element_values met
listed_matrix mode env before count after p ds d sets inner kept s c h i v = record {
  indices = all_indices mode env p ds d sets _ _ s h.indices i;
  values = v ∙ h.values;
  counted = counted_on mode before count after (met_domains mode env ds) (met_domain mode env d) c h.counted;
}

-- ---- open domains, form by form

zero_or_one : (n : ℤ) → (int_le (pos 0) n && int_le n (pos 1)) ≡ has_number truth_values n
unfolding has_number
zero_or_one n = grind (arith, ints)

pub opened_bool : (mode : Mode) (env : Env) (before : ℕ) (p : _) (kept : Opened) → before ≤ 5000000 → option_map (λ v. v.items) kept.indices ≡ Some []
    → ((n : ℤ) → option_map (λ e. element_passes e n) kept.elements ≡ Some (int_le (pos 0) n && int_le n (pos 1))) → IsOpened mode env before (bool p) kept before
unfolding index_domains elements_pass met
opened_bool mode env before p kept small i e = record {
  indices = i;
  elements = record { same = λ n low high. e n ∙ ap Some (zero_or_one n) };
  counted = counted_none mode before small;
}

all_numbers : (n : ℤ) → neg_ℤ (pos (2 ^ 63)) ≤ℤ n → n <ℤ pos (2 ^ 63) → (int_le (neg_ℤ (pos (2 ^ 63))) n && int_le n (pos 9223372036854775807)) ≡ true
all_numbers n low high = grind (arith, ints, low, high)

pub opened_int : (mode : Mode) (env : Env) (before : ℕ) (p : _) (kept : Opened) → before ≤ 5000000 → option_map (λ v. v.items) kept.indices ≡ Some []
    → ((n : ℤ) → option_map (λ e. element_passes e n) kept.elements ≡ Some (int_le (neg_ℤ (pos (2 ^ 63))) n && int_le n (pos 9223372036854775807)))
    → IsOpened mode env before (int p) kept before
unfolding index_domains elements_pass met
opened_int mode env before p kept small i e = record {
  indices = i;
  elements = record { same = λ n low high. e n ∙ ap Some (all_numbers n low high) };
  counted = counted_none mode before small;
}

pub opened_ranges : (mode : Mode) (env : Env) (before : ℕ) (p : _) (rs : Ranges) (kept : Opened) (after : ℕ) → option_map (λ v. v.items) kept.indices ≡ Some []
    → Answers64 element_test kept.elements (ranges_pass mode env rs) → IsCounted mode before (met_ranges mode env rs) after → IsOpened mode env before (ranges p rs) kept after
unfolding index_domains elements_pass met
opened_ranges mode env before p rs kept after i e c = record { indices = i; elements = e; counted = c }

pub opened_named : (mode : Mode) (env : Env) (before : ℕ) (p : _) (name : _) (kept : Opened) → before ≤ 5000000 → NamesOpened (env name) kept → IsOpened mode env before (named_domain p name) kept before
unfolding index_domains elements_pass met
opened_named mode env before p name kept small h = record {
  indices = h.indices;
  elements = record { same = λ n low high. h.elements n };
  counted = counted_none mode before small;
}

pub opened_group : (mode : Mode) (env : Env) (before : ℕ) (p : _) (d : DomainTree) (kept : Opened) (after : ℕ) → IsOpened mode env before d kept after → IsOpened mode env before (group_domain p d) kept after
unfolding index_domains elements_pass met
opened_group mode env before p d kept after h = record { indices = h.indices; elements = h.elements; counted = h.counted }

both_passed : (op : SetOp) (n : ℤ) (f g : Option (ℤ → Bool))
    → map_both (set_has op) (option_map (λ (t : ℤ → Bool). t n) f) (option_map (λ (t : ℤ → Bool). t n) g)
    ≡ option_map (λ (t : ℤ → Bool). t n) (on_both f g (λ one other. Some (λ x. set_has op (one x) (other x))))
unfolding map_both on_both
both_passed op n None g = refl
both_passed op n (Some f) None = refl
both_passed op n (Some f) (Some g) = refl

pub opened_set : (mode : Mode) (env : Env) (before count after : ℕ) (p : _) (op : SetOp) (c d : DomainTree) (one other kept : Opened) → option_map (λ v. v.items) kept.indices ≡ Some []
    → IsOpened mode env before c one count → IsOpened mode env count d other after → Joins op one.elements other.elements kept.elements
    → IsOpened mode env before (set_domain p op c d) kept after
unfolding index_domains elements_pass met
opened_set mode env before count after p op c d one other kept i h k j = record {
  indices = i;
  elements = record {
    same = λ n low high.
        j.same n
        ∙ ap (λ o. map_both (set_has op) o (option_map (λ e. element_test e n) other.elements)) (h.elements.same n low high)
        ∙ ap (map_both (set_has op) (option_map (λ (t : ℤ → Bool). t n) (elements_pass mode env c))) (k.elements.same n low high)
        ∙ both_passed op n (elements_pass mode env c) (elements_pass mode env d);
  };
  counted = counted_on mode before count after (met_domain mode env c) (met_domain mode env d) h.counted k.counted;
}

pub opened_matrix : (mode : Mode) (env : Env) (before count after : ℕ) (p : _) (ds : Domains) (d : DomainTree) (sets : Option (List (List ℤ))) (inner kept : Opened)
    → sets ≡ listed_domains mode env ds → IsCounted mode before (met_domains mode env ds) count → IsOpened mode env count d inner after
    → option_map (λ v. v.items) kept.indices ≡ map_both (λ xs ys. xs ++ ys) sets (option_map (λ v. v.items) inner.indices) → kept.elements ≡ inner.elements
    → IsOpened mode env before (matrix_domain p ds d) kept after
unfolding elements_pass met
opened_matrix mode env before count after p ds d sets inner kept s c h i v = record {
  indices = all_indices mode env p ds d sets _ _ s h.indices i;
  elements = record { same = λ n low high. ap (option_map (λ e. element_passes e n)) v ∙ h.elements.same n low high };
  counted = counted_on mode before count after (met_domains mode env ds) (met_domain mode env d) c h.counted;
}

-- ---- elements

pub within_run : (set : List ℤ) (parts : List Run) (run : Run) → parts ≡ run ∷ [] → ((n : ℤ) → Contains set n ↔ Any (IsIn n) parts) → (n : ℤ)
    → element_passes (Within set) n ≡ run_test run n
within_run set parts run is same n = runs_as_elements parts set same n ∙ ap (λ ps. runs_test ps n) is ∙ or-false (run_test run n)

pub within_passes : (set : List ℤ) (n : ℤ) → element_passes (Within set) n ≡ has_number set n
unfolding element_passes
within_passes set n = refl

joined_passes : (op : SetOp) (l r : Box Elements Global) (n : ℤ) → element_passes (Joined op l r) n ≡ set_has op (element_passes l.value n) (element_passes r.value n)
unfolding element_passes
joined_passes op l r n = refl

pub joins_left : (op : SetOp) (one other : Option Elements) → one ≡ None → Joins op one other None
unfolding map_both
joins_left op one other e = record {
  same = λ n. sym (ap (λ o. map_both (set_has op) (option_map (λ e. element_passes e n) o) (option_map (λ e. element_passes e n) other)) e);
}

pub joins_right : (op : SetOp) (one other : Option Elements) (x : Elements) → one ≡ Some x → other ≡ None → Joins op one other None
unfolding map_both
joins_right op one other x h e = record {
  same = λ n.
      sym
      (ap (λ o. map_both (set_has op) (option_map (λ e. element_passes e n) o) (option_map (λ e. element_passes e n) other)) h
      ∙ ap (λ o. map_both (set_has op) (Some (element_passes x n)) (option_map (λ e. element_passes e n) o)) e);
}

pub joins_both : (op : SetOp) (one other : Option Elements) (x y : Elements) (l r : Box Elements Global) → one ≡ Some x → other ≡ Some y → l.value ≡ x → r.value ≡ y
    → Joins op one other (Some (Joined op l r))
unfolding map_both
joins_both op one other x y l r h k p q = record {
  same = λ n.
      ap Some (joined_passes op l r n ∙ ap (λ e. set_has op (element_passes e n) (element_passes r.value n)) p ∙ ap (λ e. set_has op (element_passes x n) (element_passes e n)) q)
      ∙ sym
      (ap (λ o. map_both (set_has op) (option_map (λ e. element_passes e n) o) (option_map (λ e. element_passes e n) other)) h
      ∙ ap (λ o. map_both (set_has op) (Some (element_passes x n)) (option_map (λ e. element_passes e n) o)) k);
}

-- ---- types

pub matrix_type : (s : Scalar) (is : List (List ℤ)) → (length is ≡ 0 → ⊥) → ValueType.Matrix (length is) s ≡ shape_type s is
unfolding shape_type
matrix_type s [] h = absurd (h refl)
matrix_type s (i ∷ is) h = refl

pub scalar_type : (s : Scalar) (is : List (List ℤ)) → length is ≡ 0 → of_scalar s ≡ shape_type s is
unfolding shape_type
scalar_type s [] h = refl
scalar_type s (i ∷ is) h = absurd (omega (arith, h))

-- ---- whole readings

pub reads_bool : (mode : Mode) (env : Env) (before : ℕ) (p : _) (r : Result (Listed × ℕ) EvalError) → ReadsScalars mode env before (bool p) r → ReadsListed mode env before (bool p) r
reads_bool mode env before p (Ok x) h = listed_bool mode env before p x.0 x.1 h
reads_bool mode env before p (Err e) h = h

pub reads_int : (mode : Mode) (env : Env) (before : ℕ) (p : _) (r : Result (Listed × ℕ) EvalError) → ReadsScalars mode env before (int p) r → ReadsListed mode env before (int p) r
reads_int mode env before p (Ok x) h = listed_int mode env before p x.0 x.1 h
reads_int mode env before p (Err e) h = h

pub reads_ranges : (mode : Mode) (env : Env) (before : ℕ) (p : _) (rs : Ranges) (r : Result (Listed × ℕ) EvalError) → ReadsScalars mode env before (ranges p rs) r → ReadsListed mode env before (ranges p rs) r
reads_ranges mode env before p rs (Ok x) h = listed_ranges mode env before p rs x.0 x.1 h
reads_ranges mode env before p rs (Err e) h = h

pub reads_set : (mode : Mode) (env : Env) (before : ℕ) (p : _) (op : SetOp) (c d : DomainTree) (r : Result (Listed × ℕ) EvalError) → ReadsScalars mode env before (set_domain p op c d) r
    → ReadsListed mode env before (set_domain p op c d) r
reads_set mode env before p op c d (Ok x) h = listed_set mode env before p op c d x.0 x.1 h
reads_set mode env before p op c d (Err e) h = h

-- what a domain's parts pass, it passes
pub group_cause : (mode : Mode) (env : Env) (before : ℕ) (p : _) (d : DomainTree) (e : EvalError) → IsCause (limits_of_values mode before (met_domain mode env d)) e
    → IsCause (limits_of_values mode before (met_domain mode env (group_domain p d))) e
unfolding met
group_cause mode env before p d e h = h

pub ranges_domain_cause : (mode : Mode) (env : Env) (before : ℕ) (p : _) (rs : Ranges) (e : EvalError) → IsCause (limits_of_values mode before (met_ranges mode env rs)) e
    → IsCause (limits_of_values mode before (met_domain mode env (ranges p rs))) e
unfolding met
ranges_domain_cause mode env before p rs e h = h

pub matrix_cause_first : (mode : Mode) (env : Env) (before : ℕ) (p : _) (ds : Domains) (d : DomainTree) (e : EvalError) → IsCause (limits_of_values mode before (met_domains mode env ds)) e
    → IsCause (limits_of_values mode before (met_domain mode env (matrix_domain p ds d))) e
unfolding met
matrix_cause_first mode env before p ds d e h = cause_first mode before (met_domains mode env ds) (met_domain mode env d) e h

pub matrix_cause_next : (mode : Mode) (env : Env) (before count : ℕ) (p : _) (ds : Domains) (d : DomainTree) (e : EvalError) → IsCounted mode before (met_domains mode env ds) count
    → IsCause (limits_of_values mode count (met_domain mode env d)) e → IsCause (limits_of_values mode before (met_domain mode env (matrix_domain p ds d))) e
unfolding met
matrix_cause_next mode env before count p ds d e c h = cause_next mode before count (met_domains mode env ds) (met_domain mode env d) e c h

pub set_cause_first : (mode : Mode) (env : Env) (before : ℕ) (p : _) (op : SetOp) (c d : DomainTree) (e : EvalError) → IsCause (limits_of_values mode before (met_domain mode env c)) e
    → IsCause (limits_of_values mode before (met_domain mode env (set_domain p op c d))) e
unfolding met
set_cause_first mode env before p op c d e h = cause_first mode before (met_domain mode env c) (met_domain mode env d) e h

pub set_cause_next : (mode : Mode) (env : Env) (before count : ℕ) (p : _) (op : SetOp) (c d : DomainTree) (e : EvalError) → IsCounted mode before (met_domain mode env c) count
    → IsCause (limits_of_values mode count (met_domain mode env d)) e → IsCause (limits_of_values mode before (met_domain mode env (set_domain p op c d))) e
unfolding met
set_cause_next mode env before count p op c d e k h = cause_next mode before count (met_domain mode env c) (met_domain mode env d) e k h
