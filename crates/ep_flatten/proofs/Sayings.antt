-- For each kind of node, the constraint that holds exactly where a variable has the node's value.
use Rattle.std.specs.Prelude.{◌≡◌, ℕ, ◌<◌, Bool, true, false, not, ◌&&◌, ◌||◌, List, [], ◌∷◌, ◌++◌, length, map, ℤ, pos, negsuc, ◌+ℤ◌, ◌*ℤ◌, neg_ℤ, Option, Some, None, option_map, option_and_then, unwrap_or, refl}
use Rattle.std.proofs.Common.{ap, arith, subst, sym, ◌∙◌}
use Rattle.std.proofs.lemmas.Int.{ints}
use Rattle.std.proofs.lemmas.List.{map-append}
use Rattle.std.specs.List.{All, list_all, list_any}
use Rattle.std.specs.Ordering.{int_eq}
use Rattle.std.proofs.lemmas.List.Elements.{All-head, All-tail, All-append, All-nil, All-cons, All-map}
use Rattle.ep_base.specs.Intervals.{greatest_or_zero, least_or_zero}
use Rattle.ep_base.specs.Numbers.{absolute_of, all_one, any_one, are_different, compare_holds, counts_hold, greatest_of, has_number, is_one, is_row_of, least_of, lex_holds, nth_power, of_bool, sum_of}
use Rattle.ep_base.specs.Options.{on_both}
use Rattle.ep_base.specs.Reads as reads
use Rattle.ep_base.specs.Reads.{IsWithinNumbers, all_there, safe_picked, same_bool, weighted_sum}
use Rattle.ep_base.specs.declared.operators.CompareOp.{CompareOp}
use Rattle.ep_base.specs.declared.operators.CompareOp.TheVariants as comparisons
use Rattle.ep_base.specs.declared.operators.LexOp.{LexOp}
use Rattle.ep_flat.specs.Cons as flat
use Rattle.ep_flat.specs.Cons.{FlatCon, FlatKind, con_holds, con_variables, is_as_said, is_value, kind_coefficients, kind_holds, kind_variables, number_at, numbers_of_vars}
use Rattle.ep_ground.specs.Nodes.{GroundNode, sum, product, power, absolute, least, greatest, safe_quotient, safe_remainder, safe_pick, compare, lex, member, negation, all_of, any_of, same_truth, all_different, counts, at_least, at_most, table, coefficients_of, parts_of}
use Rattle.ep_ground.specs.Terms.{node_value, truth, term_values_of, weighed}
use Rattle.ep_flatten.proofs.SumLaws.{other_negated}
use Rattle.ep_flatten.specs.Forms.{TermForm, own, summed, compared, form_coefficients, form_parts, form_value}
use Rattle.ep_flatten.specs.Saying.{SaysOfNode, SaysForm, variable_at, value_under}
use Rattle.ep_flatten.specs.Tops.{Tells, TellsForm}

-- a constraint with the result's variable, or with its truth value
abbrev pub plain : FlatKind → FlatCon
plain kind = record { truth = None; kind = kind }

abbrev pub told : ℕ → FlatKind → FlatCon
told r kind = record { truth = Some r; kind = kind }

-- the values of some terms under numbers of variables
pub values_there : (values : List ℤ) (places ts : List ℕ) → term_values_of (value_under values places) ts ≡ Some (numbers_of_vars values (map (variable_at places) ts))
unfolding term_values_of all_there value_under numbers_of_vars
values_there values places [] = refl
values_there values places (t ∷ ts) = ap (option_map (λ ns. number_at values (variable_at places t) ∷ ns)) (values_there values places ts)

-- the variables of a result and of some terms are those of so many
all_named : (places : List ℕ) (bound r : ℕ) (ts : List ℕ) → r < bound → All (λ t. variable_at places t < bound) ts → All (λ x. x < bound) (r ∷ map (variable_at places) ts)
all_named places bound r ts h k = All-cons (λ x. x < bound) r (map (variable_at places) ts) h (All-map (λ x. x < bound) (variable_at places) ts k)

-- a constraint without coefficients that names the result and the parts
made : (places : List ℕ) (node : GroundNode) (r : ℕ) (con : FlatCon) (value : List ℤ → ℤ)
    → ((cells values : List ℤ) → node_value cells (value_under values places) node ≡ Some (value values))
    → ((values : List ℤ) → con_holds values con ≡ int_eq (number_at values r) (value values))
    → con_variables con ≡ r ∷ map (variable_at places) (parts_of node) → kind_coefficients con.kind ≡ [] → SaysOfNode places node r con
made places node r con value gives says names none = record {
  value = value;
  gives = gives;
  says = says;
  names = λ bound h k. subst (λ xs. All (λ x. x < bound) xs) (sym names) (all_named places bound r (parts_of node) h k);
  coefficients = λ _. subst (λ ns. All IsWithinNumbers ns) (sym none) (All-nil IsWithinNumbers);
}

-- a kind of constraint without coefficients that names the parts
said : (places : List ℕ) (node : GroundNode) (kind : FlatKind)
    → ((cells values : List ℤ) → node_value cells (value_under values places) node ≡ Some (of_bool (kind_holds values kind)))
    → kind_variables kind ≡ map (variable_at places) (parts_of node) → kind_coefficients kind ≡ [] → Tells places node kind
said places node kind gives names none = record {
  gives = gives;
  names = λ bound h. subst (λ xs. All (λ x. x < bound) xs) (sym names) (All-map (λ x. x < bound) (variable_at places) (parts_of node) h);
  coefficients = subst (λ ns. All IsWithinNumbers ns) (sym none) (All-nil IsWithinNumbers);
}

-- a variable that is 1 exactly where such a constraint holds has the node's value
pub says_truth : (places : List ℕ) (node : GroundNode) (r : ℕ) (kind : FlatKind) → Tells places node kind → SaysOfNode places node r (told r kind)
unfolding con_holds is_as_said con_variables
says_truth places node r kind h = record {
  value = λ values. of_bool (kind_holds values kind);
  gives = h.gives;
  says = λ values. refl;
  names = λ bound below parts. All-cons (λ x. x < bound) r (kind_variables kind) below (h.names bound parts);
  coefficients = λ _. h.coefficients;
}

truth_or : (o : Option Bool) → truth o ≡ Some (of_bool (unwrap_or o false))
unfolding truth of_bool
truth_or None = refl
truth_or (Some b) = refl

-- ---- functions

pub says_product : (places : List ℕ) (a b r : ℕ) → SaysOfNode places (product a b) r (plain (flat.product r (variable_at places a) (variable_at places b)))
unfolding node_value on_both value_under con_holds is_as_said kind_holds con_variables kind_variables kind_coefficients parts_of
says_product places a b r =
    made places (product a b) r (plain (flat.product r (variable_at places a) (variable_at places b))) (λ values. number_at values (variable_at places a) *ℤ number_at values (variable_at places b))
    (λ cells values. refl) (λ values. refl) refl refl

pub says_quotient : (places : List ℕ) (a b r : ℕ) → SaysOfNode places (safe_quotient a b) r (plain (flat.quotient r (variable_at places a) (variable_at places b)))
unfolding node_value on_both value_under con_holds is_as_said kind_holds con_variables kind_variables kind_coefficients parts_of
says_quotient places a b r =
    made places (safe_quotient a b) r (plain (flat.quotient r (variable_at places a) (variable_at places b))) (λ values. reads.safe_quotient (number_at values (variable_at places a)) (number_at values (variable_at places b)))
    (λ cells values. refl) (λ values. refl) refl refl

pub says_remainder : (places : List ℕ) (a b r : ℕ) → SaysOfNode places (safe_remainder a b) r (plain (flat.remainder r (variable_at places a) (variable_at places b)))
unfolding node_value on_both value_under con_holds is_as_said kind_holds con_variables kind_variables kind_coefficients parts_of
says_remainder places a b r =
    made places (safe_remainder a b) r (plain (flat.remainder r (variable_at places a) (variable_at places b))) (λ values. reads.safe_remainder (number_at values (variable_at places a)) (number_at values (variable_at places b)))
    (λ cells values. refl) (λ values. refl) refl refl

pub says_power : (places : List ℕ) (a n r : ℕ) → SaysOfNode places (power a n) r (plain (flat.power r (variable_at places a) n))
unfolding node_value value_under con_holds is_as_said kind_holds con_variables kind_variables kind_coefficients parts_of
says_power places a n r =
    made places (power a n) r (plain (flat.power r (variable_at places a) n)) (λ values. nth_power (number_at values (variable_at places a)) n)
    (λ cells values. refl) (λ values. refl) refl refl

pub says_absolute : (places : List ℕ) (a r : ℕ) → SaysOfNode places (absolute a) r (plain (flat.absolute r (variable_at places a)))
unfolding node_value value_under con_holds is_as_said kind_holds con_variables kind_variables kind_coefficients parts_of
says_absolute places a r =
    made places (absolute a) r (plain (flat.absolute r (variable_at places a))) (λ values. absolute_of (number_at values (variable_at places a)))
    (λ cells values. refl) (λ values. refl) refl refl

least_there : (xs : List ℤ) → 0 < length xs → least_of xs ≡ Some (least_or_zero xs)
unfolding least_of least_or_zero
least_there [] h = absurd (omega (arith, h))
least_there (x ∷ xs) h = refl

greatest_there : (xs : List ℤ) → 0 < length xs → greatest_of xs ≡ Some (greatest_or_zero xs)
unfolding greatest_of greatest_or_zero
greatest_there [] h = absurd (omega (arith, h))
greatest_there (x ∷ xs) h = refl

some_numbers : (values : List ℤ) (places ts : List ℕ) → 0 < length ts → 0 < length (numbers_of_vars values (map (variable_at places) ts))
unfolding numbers_of_vars
some_numbers values places [] h = absurd (omega (arith, h))
some_numbers values places (t ∷ ts) h = omega arith

pub says_least : (places ts : List ℕ) (r : ℕ) → 0 < length ts → SaysOfNode places (least ts) r (plain (flat.least r (map (variable_at places) ts)))
unfolding node_value con_holds is_as_said is_value kind_holds con_variables kind_variables kind_coefficients parts_of
says_least places ts r h =
    made places (least ts) r (plain (flat.least r (map (variable_at places) ts))) (λ values. least_or_zero (numbers_of_vars values (map (variable_at places) ts)))
    (λ cells values. ap (option_and_then least_of) (values_there values places ts) ∙ least_there (numbers_of_vars values (map (variable_at places) ts)) (some_numbers values places ts h))
    (λ values. ap (λ o. is_value o (number_at values r)) (least_there (numbers_of_vars values (map (variable_at places) ts)) (some_numbers values places ts h)))
    refl refl

pub says_greatest : (places ts : List ℕ) (r : ℕ) → 0 < length ts → SaysOfNode places (greatest ts) r (plain (flat.greatest r (map (variable_at places) ts)))
unfolding node_value con_holds is_as_said is_value kind_holds con_variables kind_variables kind_coefficients parts_of
says_greatest places ts r h =
    made places (greatest ts) r (plain (flat.greatest r (map (variable_at places) ts))) (λ values. greatest_or_zero (numbers_of_vars values (map (variable_at places) ts)))
    (λ cells values. ap (option_and_then greatest_of) (values_there values places ts) ∙ greatest_there (numbers_of_vars values (map (variable_at places) ts)) (some_numbers values places ts h))
    (λ values. ap (λ o. is_value o (number_at values r)) (greatest_there (numbers_of_vars values (map (variable_at places) ts)) (some_numbers values places ts h)))
    refl refl

pub says_pick : (places ts : List ℕ) (keys : List (List ℤ)) (indices : List ℕ) (r : ℕ) → SaysOfNode places (safe_pick ts keys indices) r (plain (flat.element r (map (variable_at places) ts) keys (map (variable_at places) indices)))
unfolding node_value on_both con_holds is_as_said kind_holds con_variables kind_variables kind_coefficients parts_of
says_pick places ts keys indices r =
    made places (safe_pick ts keys indices) r (plain (flat.element r (map (variable_at places) ts) keys (map (variable_at places) indices)))
    (λ values. safe_picked (numbers_of_vars values (map (variable_at places) ts)) keys (numbers_of_vars values (map (variable_at places) indices)))
    (λ cells values.
    ap (λ o. on_both {C = ℤ} o (term_values_of (value_under values places) indices) (λ xs is. Some (safe_picked xs keys is))) (values_there values places ts)
    ∙ ap (λ o. on_both {C = ℤ} (Some (numbers_of_vars values (map (variable_at places) ts))) o (λ xs is. Some (safe_picked xs keys is))) (values_there values places indices))
    (λ values. refl)
    (ap (λ xs. r ∷ xs) (sym (map-append (variable_at places) ts indices))) refl

-- ---- truth values

moved : (op : CompareOp) (x y : ℤ) → compare_holds op ((pos 1 *ℤ x) +ℤ ((negsuc 0 *ℤ y) +ℤ pos 0)) (pos 0) ≡ compare_holds op x y
unfolding compare_holds
moved comparisons.Equal x y = grind (arith, ints)
moved comparisons.NotEqual x y = grind (arith, ints)
moved comparisons.Less x y = grind (arith, ints)
moved comparisons.AtMost x y = grind (arith, ints)
moved comparisons.Greater x y = grind (arith, ints)
moved comparisons.AtLeast x y = grind (arith, ints)

one_within : IsWithinNumbers (pos 1)
one_within = (omega (arith, ints), omega (arith, ints))

minus_one_within : IsWithinNumbers (negsuc 0)
minus_one_within = (omega (arith, ints), omega (arith, ints))

pub says_compare : (places : List ℕ) (op : CompareOp) (a b : ℕ)
    → Tells places (compare op a b) (flat.linear ((pos 1, variable_at places a) ∷ (negsuc 0, variable_at places b) ∷ []) op (pos 0))
unfolding node_value on_both value_under kind_holds kind_variables kind_coefficients parts_of weighted_sum sum_of
says_compare places op a b = record {
  gives = λ cells values.
      truth_or (Some (compare_holds op (number_at values (variable_at places a)) (number_at values (variable_at places b))))
      ∙ ap (λ b. Some (of_bool b)) (sym (moved op (number_at values (variable_at places a)) (number_at values (variable_at places b))));
  names = λ bound h. All-map (λ x. x < bound) (variable_at places) (a ∷ b ∷ []) h;
  coefficients = All-cons IsWithinNumbers (pos 1) (negsuc 0 ∷ []) one_within (All-cons IsWithinNumbers (negsuc 0) [] minus_one_within (All-nil IsWithinNumbers));
}

pub says_lex : (places : List ℕ) (op : LexOp) (ts us : List ℕ) → Tells places (lex op ts us) (flat.lex op (map (variable_at places) ts) (map (variable_at places) us))
unfolding node_value on_both kind_holds kind_variables kind_coefficients parts_of
says_lex places op ts us =
    said places (lex op ts us) (flat.lex op (map (variable_at places) ts) (map (variable_at places) us))
    (λ cells values.
    ap (λ o. truth (on_both o (term_values_of (value_under values places) us) (λ xs ys. Some (lex_holds op xs ys)))) (values_there values places ts)
    ∙ ap (λ o. truth (on_both (Some (numbers_of_vars values (map (variable_at places) ts))) o (λ xs ys. Some (lex_holds op xs ys)))) (values_there values places us)
    ∙ truth_or (Some (lex_holds op (numbers_of_vars values (map (variable_at places) ts)) (numbers_of_vars values (map (variable_at places) us)))))
    (sym (map-append (variable_at places) ts us)) refl

pub says_member : (places : List ℕ) (a : ℕ) (ns : List ℤ) → Tells places (member a ns) (flat.member (variable_at places a) ns)
unfolding node_value value_under kind_holds kind_variables kind_coefficients parts_of
says_member places a ns =
    said places (member a ns) (flat.member (variable_at places a) ns)
    (λ cells values. truth_or (Some (has_number ns (number_at values (variable_at places a))))) refl refl

same_false : (b : Bool) → not b ≡ (same_bool b false || false)
unfolding same_bool
same_false true = refl
same_false false = refl

same_true : (b : Bool) → b ≡ same_bool b true
unfolding same_bool
same_true true = refl
same_true false = refl

pub says_negation : (places : List ℕ) (a : ℕ) → Tells places (negation a) (flat.clause ((false, variable_at places a) ∷ []))
unfolding node_value value_under kind_holds kind_variables kind_coefficients parts_of
says_negation places a =
    said places (negation a) (flat.clause ((false, variable_at places a) ∷ []))
    (λ cells values. truth_or (Some (not (is_one (number_at values (variable_at places a))))) ∙ ap (λ b. Some (of_bool b)) (same_false (is_one (number_at values (variable_at places a)))))
    refl refl

all_ones : (values : List ℤ) (xs : List ℕ) → all_one (numbers_of_vars values xs) ≡ list_all (λ x. is_one (number_at values x)) xs
unfolding all_one numbers_of_vars
all_ones values [] = refl
all_ones values (x ∷ xs) = ap (λ b. is_one (number_at values x) && b) (all_ones values xs)

pub says_all : (places ts : List ℕ) → Tells places (all_of ts) (flat.all_of (map (variable_at places) ts))
unfolding node_value kind_holds kind_variables kind_coefficients parts_of
says_all places ts =
    said places (all_of ts) (flat.all_of (map (variable_at places) ts))
    (λ cells values. ap (λ o. truth (option_map all_one o)) (values_there values places ts) ∙ truth_or (Some (all_one (numbers_of_vars values (map (variable_at places) ts))))
    ∙ ap (λ b. Some (of_bool b)) (all_ones values (map (variable_at places) ts)))
    refl refl

-- the literals that say that variables are true
abbrev pub literals : List ℕ → List (Bool × ℕ)
literals xs = map (λ x. (true, x)) xs

any_ones : (values : List ℤ) (xs : List ℕ) → any_one (numbers_of_vars values xs) ≡ list_any (λ p. same_bool (is_one (number_at values p.1)) p.0) (literals xs)
unfolding any_one numbers_of_vars
any_ones values [] = refl
any_ones values (x ∷ xs) =
    ap (λ b. b || any_one (numbers_of_vars values xs)) (same_true (is_one (number_at values x)))
    ∙ ap (λ b. same_bool (is_one (number_at values x)) true || b) (any_ones values xs)

literal_variables : (xs : List ℕ) → map (λ p. p.1) (literals xs) ≡ xs
literal_variables [] = refl
literal_variables (x ∷ xs) = ap (λ ys. x ∷ ys) (literal_variables xs)

pub says_any : (places ts : List ℕ) → Tells places (any_of ts) (flat.clause (literals (map (variable_at places) ts)))
unfolding node_value kind_holds kind_variables kind_coefficients parts_of
says_any places ts =
    said places (any_of ts) (flat.clause (literals (map (variable_at places) ts)))
    (λ cells values. ap (λ o. truth (option_map any_one o)) (values_there values places ts) ∙ truth_or (Some (any_one (numbers_of_vars values (map (variable_at places) ts))))
    ∙ ap (λ b. Some (of_bool b)) (any_ones values (map (variable_at places) ts)))
    (literal_variables (map (variable_at places) ts)) refl

pub says_same : (places : List ℕ) (a b : ℕ) → Tells places (same_truth a b) (flat.same_truth (variable_at places a) (variable_at places b))
unfolding node_value on_both value_under kind_holds kind_variables kind_coefficients parts_of
says_same places a b =
    said places (same_truth a b) (flat.same_truth (variable_at places a) (variable_at places b))
    (λ cells values. truth_or (Some (same_bool (is_one (number_at values (variable_at places a))) (is_one (number_at values (variable_at places b)))))) refl refl

pub says_different : (places ts : List ℕ) → Tells places (all_different ts) (flat.all_different (map (variable_at places) ts))
unfolding node_value kind_holds kind_variables kind_coefficients parts_of
says_different places ts =
    said places (all_different ts) (flat.all_different (map (variable_at places) ts))
    (λ cells values. ap (λ o. truth (option_map are_different o)) (values_there values places ts) ∙ truth_or (Some (are_different (numbers_of_vars values (map (variable_at places) ts)))))
    refl refl

pub says_counts : (places ts : List ℕ) (ns : List ℤ) (us : List ℕ) → Tells places (counts ts ns us) (flat.counts (map (variable_at places) ts) ns (map (variable_at places) us))
unfolding node_value on_both kind_holds kind_variables kind_coefficients parts_of
says_counts places ts ns us =
    said places (counts ts ns us) (flat.counts (map (variable_at places) ts) ns (map (variable_at places) us))
    (λ cells values.
    ap (λ o. truth (on_both o (term_values_of (value_under values places) us) (λ xs cs. counts_hold CompareOp.Equal xs ns cs))) (values_there values places ts)
    ∙ ap (λ o. truth (on_both (Some (numbers_of_vars values (map (variable_at places) ts))) o (λ xs cs. counts_hold CompareOp.Equal xs ns cs))) (values_there values places us)
    ∙ truth_or (counts_hold CompareOp.Equal (numbers_of_vars values (map (variable_at places) ts)) ns (numbers_of_vars values (map (variable_at places) us))))
    (sym (map-append (variable_at places) ts us)) refl

pub says_at_least : (places ts : List ℕ) (cs ns : List ℤ) → Tells places (at_least ts cs ns) (flat.at_least (map (variable_at places) ts) cs ns)
unfolding node_value kind_holds kind_variables kind_coefficients parts_of
says_at_least places ts cs ns =
    said places (at_least ts cs ns) (flat.at_least (map (variable_at places) ts) cs ns)
    (λ cells values. ap (λ o. truth (option_and_then (λ xs. counts_hold CompareOp.AtLeast xs ns cs) o)) (values_there values places ts)
    ∙ truth_or (counts_hold CompareOp.AtLeast (numbers_of_vars values (map (variable_at places) ts)) ns cs))
    refl refl

pub says_at_most : (places ts : List ℕ) (cs ns : List ℤ) → Tells places (at_most ts cs ns) (flat.at_most (map (variable_at places) ts) cs ns)
unfolding node_value kind_holds kind_variables kind_coefficients parts_of
says_at_most places ts cs ns =
    said places (at_most ts cs ns) (flat.at_most (map (variable_at places) ts) cs ns)
    (λ cells values. ap (λ o. truth (option_and_then (λ xs. counts_hold CompareOp.AtMost xs ns cs) o)) (values_there values places ts)
    ∙ truth_or (counts_hold CompareOp.AtMost (numbers_of_vars values (map (variable_at places) ts)) ns cs))
    refl refl

pub says_table : (places ts : List ℕ) (rows : List (List ℤ)) → Tells places (table ts rows) (flat.table (map (variable_at places) ts) rows)
unfolding node_value kind_holds kind_variables kind_coefficients parts_of
says_table places ts rows =
    said places (table ts rows) (flat.table (map (variable_at places) ts) rows)
    (λ cells values. ap (λ o. truth (option_and_then (is_row_of rows) o)) (values_there values places ts) ∙ truth_or (is_row_of rows (numbers_of_vars values (map (variable_at places) ts))))
    refl refl

-- ---- sums

-- a sum's parts with the variables of its terms
abbrev pub placed_parts : List ℕ → List (ℤ × ℕ) → List (ℤ × ℕ)
placed_parts places parts = map (λ p. (p.0, variable_at places p.1)) parts

abbrev numbered : List ℤ → List (ℤ × ℕ) → List (ℤ × ℤ)
numbered values parts = map (λ p. (p.0, number_at values p.1)) parts

weighed_there : (values : List ℤ) (places : List ℕ) (parts : List (ℤ × ℕ)) → weighed (value_under values places) parts ≡ Some (numbered values (placed_parts places parts))
unfolding weighed on_both value_under
weighed_there values places [] = refl
weighed_there values places (q ∷ parts) =
    ap (λ o. on_both {A = ℤ} {B = List (ℤ × ℤ)} (Some (number_at values (variable_at places q.1))) o (λ x rest. Some ((q.0, x) ∷ rest))) (weighed_there values places parts)

with_zero : (x : ℤ) → (x +ℤ pos 0) ≡ (pos 0 +ℤ x)
with_zero x = omega (arith, ints)

added : (a b c : ℤ) → (a +ℤ (b +ℤ c)) ≡ ((a +ℤ b) +ℤ c)
added a b c = omega (arith, ints)

last_added : (values : List ℤ) (parts : List (ℤ × ℕ)) (k : ℤ) (r : ℕ)
    → weighted_sum (numbered values (parts ++ (k, r) ∷ [])) ≡ (weighted_sum (numbered values parts) +ℤ (k *ℤ number_at values r))
unfolding weighted_sum sum_of
last_added values [] k r = with_zero (k *ℤ number_at values r)
last_added values (p ∷ parts) k r =
    ap (λ x. (p.0 *ℤ number_at values p.1) +ℤ x) (last_added values parts k r) ∙ added (p.0 *ℤ number_at values p.1) (weighted_sum (numbered values parts)) (k *ℤ number_at values r)

-- the same with the coefficients negated
abbrev pub negated_parts : List ℕ → List (ℤ × ℕ) → List (ℤ × ℕ)
negated_parts places parts = map (λ p. (neg_ℤ p.0, variable_at places p.1)) parts

negated_sum : (x y : ℤ) → (neg_ℤ x +ℤ neg_ℤ y) ≡ neg_ℤ (x +ℤ y)
negated_sum x y = omega (arith, ints)

negated_total : (values : List ℤ) (places : List ℕ) (parts : List (ℤ × ℕ)) → weighted_sum (numbered values (negated_parts places parts)) ≡ neg_ℤ (weighted_sum (numbered values (placed_parts places parts)))
unfolding weighted_sum sum_of
negated_total values places [] = refl
negated_total values places (p ∷ parts) =
    ap (λ x. x +ℤ weighted_sum (numbered values (negated_parts places parts))) (other_negated p.0 (number_at values (variable_at places p.1)))
    ∙ ap (λ x. neg_ℤ (p.0 *ℤ number_at values (variable_at places p.1)) +ℤ x) (negated_total values places parts)
    ∙ negated_sum (p.0 *ℤ number_at values (variable_at places p.1)) (weighted_sum (numbered values (placed_parts places parts)))

balanced : (s r c n : ℤ) → n ≡ neg_ℤ s → int_eq (n +ℤ (pos 1 *ℤ r)) c ≡ int_eq r (c +ℤ s)
balanced s r c n e = grind (arith, ints)

sum_variables : (places : List ℕ) (parts : List (ℤ × ℕ)) (k : ℤ) (r : ℕ) → map (λ p. p.1) (negated_parts places parts ++ (k, r) ∷ []) ≡ map (variable_at places) (map (λ p. p.1) parts) ++ r ∷ []
sum_variables places [] k r = refl
sum_variables places (p ∷ parts) k r = ap (λ xs. variable_at places p.1 ∷ xs) (sum_variables places parts k r)

within_negated : (n : ℤ) → IsWithinNumbers n → IsWithinNumbers (neg_ℤ n)
within_negated n h = let low = h.0 in let high = h.1 in (omega (arith, ints, high), omega (arith, ints, low))

sum_small : (places : List ℕ) (parts : List (ℤ × ℕ)) (r : ℕ) → All IsWithinNumbers (map (λ p. p.0) parts) → All IsWithinNumbers (map (λ p. p.0) (negated_parts places parts ++ (pos 1, r) ∷ []))
sum_small places [] r h = All-cons IsWithinNumbers (pos 1) [] one_within (All-nil IsWithinNumbers)
sum_small places (p ∷ parts) r h =
    All-cons IsWithinNumbers (neg_ℤ p.0) (map (λ p. p.0) (negated_parts places parts ++ (pos 1, r) ∷ [])) (within_negated p.0 (All-head IsWithinNumbers p.0 (map (λ p. p.0) parts) h))
    (sum_small places parts r (All-tail IsWithinNumbers p.0 (map (λ p. p.0) parts) h))

-- small coefficients, part by part
pub small_parts : (parts : List (ℤ × ℕ)) → All IsWithinNumbers (map (λ p. p.0) parts) → All (λ p. IsWithinNumbers p.0) parts
small_parts [] h = All-nil (λ p. IsWithinNumbers p.0)
small_parts (p ∷ parts) h =
    All-cons (λ p. IsWithinNumbers p.0) p parts (All-head IsWithinNumbers p.0 (map (λ p. p.0) parts) h) (small_parts parts (All-tail IsWithinNumbers p.0 (map (λ p. p.0) parts) h))

pub says_sum : (places : List ℕ) (c : ℤ) (parts : List (ℤ × ℕ)) (r : ℕ) → SaysOfNode places (sum c parts) r (plain (flat.linear (negated_parts places parts ++ (pos 1, r) ∷ []) CompareOp.Equal c))
unfolding node_value con_holds is_as_said kind_holds compare_holds con_variables kind_variables kind_coefficients parts_of coefficients_of
says_sum places c parts r = record {
  value = λ values. c +ℤ weighted_sum (numbered values (placed_parts places parts));
  gives = λ cells values. ap (option_map (λ ps. c +ℤ weighted_sum ps)) (weighed_there values places parts);
  says = λ values.
      ap (λ s. int_eq s c) (last_added values (negated_parts places parts) (pos 1) r)
      ∙ balanced (weighted_sum (numbered values (placed_parts places parts))) (number_at values r) c (weighted_sum (numbered values (negated_parts places parts))) (negated_total values places parts);
  names = λ bound h k.
      subst (λ xs. All (λ x. x < bound) xs) (sym (sum_variables places parts (pos 1) r))
      (All-append (λ x. x < bound) (map (variable_at places) (map (λ p. p.1) parts)) (r ∷ [])
      (All-map (λ x. x < bound) (variable_at places) (map (λ p. p.1) parts) k) (All-cons (λ x. x < bound) r [] h (All-nil (λ x. x < bound))));
  coefficients = λ h. sum_small places parts r h;
}

-- ---- forms

pub says_own : (places : List ℕ) (node : GroundNode) (r : ℕ) (con : FlatCon) → SaysOfNode places node r con → SaysForm places node own r con
unfolding form_value form_parts form_coefficients
says_own places node r con h = record { value = h.value; gives = h.gives; says = h.says; names = h.names; coefficients = h.coefficients }

pub says_summed : (places : List ℕ) (node : GroundNode) (c : ℤ) (parts : List (ℤ × ℕ)) (r : ℕ) (con : FlatCon) → SaysOfNode places (sum c parts) r con → SaysForm places node (summed c parts) r con
unfolding form_value form_parts form_coefficients parts_of coefficients_of
says_summed places node c parts r con h = record { value = h.value; gives = h.gives; says = h.says; names = h.names; coefficients = h.coefficients }

-- a variable that is 1 exactly where such a constraint holds has the form's value
pub says_form : (places : List ℕ) (node : GroundNode) (form : TermForm) (r : ℕ) (kind : FlatKind) → TellsForm places node form kind → SaysForm places node form r (told r kind)
unfolding con_holds is_as_said con_variables
says_form places node form r kind h = record {
  value = λ values. of_bool (kind_holds values kind);
  gives = h.gives;
  says = λ values. refl;
  names = λ bound below parts. All-cons (λ x. x < bound) r (kind_variables kind) below (h.names bound parts);
  coefficients = h.coefficients;
}

placed_variables : (places : List ℕ) (parts : List (ℤ × ℕ)) → map (λ p. p.1) (placed_parts places parts) ≡ map (variable_at places) (map (λ p. p.1) parts)
placed_variables places [] = refl
placed_variables places (p ∷ parts) = ap (λ xs. variable_at places p.1 ∷ xs) (placed_variables places parts)

placed_coefficients : (places : List ℕ) (parts : List (ℤ × ℕ)) → map (λ p. p.0) (placed_parts places parts) ≡ map (λ p. p.0) parts
placed_coefficients places [] = refl
placed_coefficients places (p ∷ parts) = ap (λ xs. p.0 ∷ xs) (placed_coefficients places parts)

pub tells_compared : (places : List ℕ) (node : GroundNode) (op : CompareOp) (parts : List (ℤ × ℕ)) (c : ℤ) → TellsForm places node (compared op parts c) (flat.linear (placed_parts places parts) op c)
unfolding form_value form_parts form_coefficients kind_holds kind_variables kind_coefficients
tells_compared places node op parts c = record {
  gives = λ cells values.
      ap (λ o. truth (option_map (λ ps. compare_holds op (weighted_sum ps) c) o)) (weighed_there values places parts)
      ∙ truth_or (Some (compare_holds op (weighted_sum (numbered values (placed_parts places parts))) c));
  names = λ bound h. subst (λ xs. All (λ x. x < bound) xs) (sym (placed_variables places parts)) (All-map (λ x. x < bound) (variable_at places) (map (λ p. p.1) parts) h);
  coefficients = λ h. subst (λ ns. All IsWithinNumbers ns) (sym (placed_coefficients places parts)) h;
}
