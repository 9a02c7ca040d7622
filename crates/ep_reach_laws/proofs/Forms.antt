-- What is known of each form by what is known of its parts: arithmetic, folds, quantifiers.
use Rattle.std.specs.Prelude.{◌≡◌, List, [], ◌∷◌, map, ℤ, neg_ℤ, Bool, true, false, if◌then◌else◌, Some, None, Option, option_and_then, option_map, refl}
use Rattle.std.proofs.Common.{subst, sym, ◌∙◌}
use Rattle.std.specs.Int.{int_max, int_min}
use Rattle.ep_base.specs.Intervals.{Interval, LiesIn, absolute_interval, power_interval, product_interval}
use Rattle.ep_base.specs.Numbers.{absolute_of, all_one, any_one, greatest_of, is_one, least_of, product_of, sum_of}
use Rattle.ep_base.specs.Options.{on_both}
use Rattle.ep_tree_laws.proofs.Intervals.{absolute_lies, greatest_lies, least_lies, negated_lies, power_lies, product_lies, products_lie, quotient_lies, remainder_lies}
use Rattle.ep_tree.proofs.TypedParts.{both_is, map_is, no_some, some_is, then_is}
use Rattle.ep_tree.specs.Evaluation.{all_numbers, all_true, any_true, binary_number, binary_value, folded_value, joins_truths, number_in, number_value, quantified_value}
use Rattle.ep_tree.specs.Faults.{is_power}
use Rattle.ep_tree.specs.Reach.{Extent, Span, binary_span, folded_span, negated_span, product_span, quantified_span, reaches, span_of, sum_span, wide_span, with_spread}
use Rattle.ep_tree.specs.Values.{ValueTree, single}
use Rattle.ep_tree.specs.declared.syntax.BinaryOp.{BinaryOp}
use Rattle.ep_tree.specs.declared.syntax.FoldOp.{FoldOp}
use Rattle.ep_tree.specs.declared.syntax.QuantOp.{QuantOp}
use Rattle.ep_tree.specs.declared.values.Mode.{Mode}
use Rattle.ep_reach_laws.proofs.AlikeEnvironments.{Matched}
use Rattle.ep_reach_laws.proofs.Extents.{EachLies, NumberWithin, Within, defined_lie, lie_in_each, number_within, single_within, sum_within, truth_within}

-- ---- one part

pub minus_within : (o : Option ValueTree) (x : Extent) → Within x o → Within (single (negated_span (span_of x))) (number_value (option_map neg_ℤ (number_in o)))
unfolding negated_span
minus_within o x w =
    single_within (negated_span (span_of x)) (option_map neg_ℤ (number_in o))
    (λ n e. let p : _ = map_is neg_ℤ (number_in o) n e in
    subst (λ k. LiesIn k (negated_span (span_of x)).reach) p.2 (negated_lies p.0 (span_of x).reach (number_within o x w p.0 p.1)))

pub absolute_within : (o : Option ValueTree) (x : Extent) → Within x o
    → Within (single (wide_span (absolute_interval (span_of x).reach))) (number_value (option_map absolute_of (number_in o)))
unfolding wide_span
absolute_within o x w =
    single_within (wide_span (absolute_interval (span_of x).reach)) (option_map absolute_of (number_in o))
    (λ n e. let p : _ = map_is absolute_of (number_in o) n e in
    subst (λ k. LiesIn k (absolute_interval (span_of x).reach)) p.2 (absolute_lies p.0 (span_of x).reach (number_within o x w p.0 p.1)))

-- ---- two parts

-- the number of two parts with an operator, in an interval
two_numbers : (i : Interval) (f : ℤ → ℤ → Option ℤ) (s t : Span) (a b : Option ℤ) → NumberWithin s a → NumberWithin t b
    → ((x y n : ℤ) → a ≡ Some x → b ≡ Some y → LiesIn x s.reach → LiesIn y t.reach → f x y ≡ Some n → LiesIn n i)
    → (n : ℤ) → on_both a b f ≡ Some n → LiesIn n i
two_numbers i f s t a b h k each n e =
    let p : _ = both_is a b f n e in each p.0 p.1 n p.2 p.3 (h p.0 p.2) (k p.1 p.3) p.4

product_reach : (s t : Span) → (product_span s t).reach ≡ product_interval s.reach t.reach
unfolding product_span wide_span with_spread
product_reach s t = go s.decided t.decided
  where
    whole : Span
    whole = wide_span (product_interval s.reach t.reach)

    go : (a b : Bool) → (if a then (if b then whole else with_spread s.spread whole) else with_spread t.spread whole).reach ≡ product_interval s.reach t.reach
    go true true = refl
    go true false = refl
    go false b = refl

two_least : (x y : ℤ) → least_of (x ∷ y ∷ []) ≡ Some (int_min x y)
unfolding least_of
two_least x y = refl

two_greatest : (x y : ℤ) → greatest_of (x ∷ y ∷ []) ≡ Some (int_max x y)
unfolding greatest_of
two_greatest x y = refl

pub binary_within : (mode : Mode) (op : BinaryOp) (s t : Span) (a b n : Option ℤ) → NumberWithin s a → NumberWithin t b → (is_power op ≡ true → n ≡ b)
    → Within (single (binary_span op s t n)) (binary_value mode op a b)
unfolding binary_value binary_span binary_number joins_truths is_power wide_span
binary_within mode BinaryOp.Mul s t a b n h k same =
    single_within (product_span s t) (on_both a b (binary_number BinaryOp.Mul))
    (two_numbers (product_span s t).reach (binary_number BinaryOp.Mul) s t a b h k
    (λ x y m p q hx hy e. subst (λ i. LiesIn m i) (sym (product_reach s t)) (subst (λ z. LiesIn z (product_interval s.reach t.reach)) (some_is e) (product_lies x y s.reach t.reach hx hy))))
binary_within mode BinaryOp.Div s t a b n h k same =
    single_within (binary_span BinaryOp.Div s t n) (on_both a b (binary_number BinaryOp.Div))
    (two_numbers (binary_span BinaryOp.Div s t n).reach (binary_number BinaryOp.Div) s t a b h k (λ x y m p q hx hy e. quotient_lies x y m s.reach hx e))
binary_within mode BinaryOp.Mod s t a b n h k same =
    single_within (binary_span BinaryOp.Mod s t n) (on_both a b (binary_number BinaryOp.Mod))
    (two_numbers (binary_span BinaryOp.Mod s t n).reach (binary_number BinaryOp.Mod) s t a b h k (λ x y m p q hx hy e. remainder_lies x y m t.reach hy e))
binary_within mode BinaryOp.Pow s t a b n h k same =
    single_within (binary_span BinaryOp.Pow s t n) (on_both a b (binary_number BinaryOp.Pow))
    (two_numbers (binary_span BinaryOp.Pow s t n).reach (binary_number BinaryOp.Pow) s t a b h k
    (λ x y m p q hx hy e. subst (λ o. LiesIn m (power_interval s.reach o)) (sym (same refl ∙ q)) (power_lies x y m s.reach hx e)))
binary_within mode BinaryOp.Min s t a b n h k same =
    single_within (binary_span BinaryOp.Min s t n) (on_both a b (binary_number BinaryOp.Min))
    (two_numbers (binary_span BinaryOp.Min s t n).reach (binary_number BinaryOp.Min) s t a b h k
    (λ x y m p q hx hy e. least_lies (x ∷ y ∷ []) (s.reach ∷ t.reach ∷ []) (hx, (hy, tt)) m (two_least x y ∙ e)))
binary_within mode BinaryOp.Max s t a b n h k same =
    single_within (binary_span BinaryOp.Max s t n) (on_both a b (binary_number BinaryOp.Max))
    (two_numbers (binary_span BinaryOp.Max s t n).reach (binary_number BinaryOp.Max) s t a b h k
    (λ x y m p q hx hy e. greatest_lies (x ∷ y ∷ []) (s.reach ∷ t.reach ∷ []) (hx, (hy, tt)) m (two_greatest x y ∙ e)))
binary_within mode BinaryOp.Implies s t a b n h k same = truth_within mode (option_map is_one (on_both a b (binary_number BinaryOp.Implies)))
binary_within mode BinaryOp.Iff s t a b n h k same = truth_within mode (option_map is_one (on_both a b (binary_number BinaryOp.Iff)))

-- ---- folds

pub folded_within : (mode : Mode) (op : FoldOp) (spans : List Span) (o : Option (List ℤ)) → ((ns : List ℤ) → o ≡ Some ns → EachLies ns spans)
    → Within (single (folded_span op spans)) (folded_value mode op o)
unfolding folded_span folded_value wide_span
folded_within mode FoldOp.Sum spans o each = single_within (sum_span spans) (option_map sum_of o) (sum_within spans o each)
folded_within mode FoldOp.Product spans o each =
    single_within (folded_span FoldOp.Product spans) (option_map product_of o)
    (λ n e. let p : _ = map_is product_of o n e in
    subst (λ k. LiesIn k (folded_span FoldOp.Product spans).reach) p.2 (products_lie p.0 (reaches spans) (lie_in_each p.0 spans (each p.0 p.1))))
folded_within mode FoldOp.And spans o each = truth_within mode (option_map all_one o)
folded_within mode FoldOp.Or spans o each = truth_within mode (option_map any_one o)
folded_within mode FoldOp.Min spans o each =
    single_within (folded_span FoldOp.Min spans) (option_and_then least_of o)
    (λ n e. let p : _ = then_is least_of o n e in least_lies p.0 (reaches spans) (lie_in_each p.0 spans (each p.0 p.1)) n p.2)
folded_within mode FoldOp.Max spans o each =
    single_within (folded_span FoldOp.Max spans) (option_and_then greatest_of o)
    (λ n e. let p : _ = then_is greatest_of o n e in greatest_lies p.0 (reaches spans) (lie_in_each p.0 spans (each p.0 p.1)) n p.2)

-- ---- quantifiers

-- an instance of a quantifier
abbrev pub InstanceWithin : Span → Option ValueTree → Type 0
InstanceWithin s o = Within (single s) o

pub no_instances : (mode : Mode) (op : QuantOp) → InstanceWithin (quantified_span op None) (quantified_value mode op None)
unfolding quantified_span quantified_value
no_instances mode QuantOp.ForAll = truth_within mode None
no_instances mode QuantOp.Exists = truth_within mode None
no_instances mode QuantOp.Sum = λ v e. no_some e

instance_numbers : (ss : List Span) (os : List (Option ValueTree)) → Matched InstanceWithin ss os → Matched NumberWithin ss (map number_in os)
unfolding span_of
instance_numbers [] [] h = tt
instance_numbers [] (o ∷ os) h = absurd h
instance_numbers (s ∷ ss) [] h = absurd h
instance_numbers (s ∷ ss) (o ∷ os) h = (number_within o (single s) h.0, instance_numbers ss os h.1)

pub some_instances : (mode : Mode) (op : QuantOp) (ss : List Span) (os : List (Option ValueTree)) → Matched InstanceWithin ss os
    → InstanceWithin (quantified_span op (Some ss)) (quantified_value mode op (Some os))
unfolding quantified_span quantified_value
some_instances mode QuantOp.ForAll ss os h = truth_within mode (all_true os)
some_instances mode QuantOp.Exists ss os h = truth_within mode (any_true os)
some_instances mode QuantOp.Sum ss os h =
    single_within (sum_span ss) (option_map sum_of (all_numbers os)) (sum_within ss (all_numbers os) (defined_lie ss (map number_in os) (instance_numbers ss os h)))
