-- Whether all bounds of ranges are integer, range by range.
use Rattle.std.proofs.Common.{◌≡◌, ℕ, ◌+◌, ◌<◌, ◌≤◌, Bool, true, false, ◌&&◌, List, [], ◌∷◌, length, drop, get_or, Ok, Err, Option, refl, sym, ap, ◌∙◌}
use Rattle.std.specs.List.{list_all}
use Rattle.ep_base.specs.declared.places.Place.{Place}
use Rattle.ep_tree.specs.Trees.{Ranges, no_ranges}
use Rattle.ep_tree.specs.Types.{Context, gives, is_integer}
use Rattle.ep_tree.specs.Views.{end_of, expr_tree, held_end, kind_tree, ranges_of, with_range}
use Rattle.ep_tree.specs.declared.syntax.Expr.{Expr}
use Rattle.ep_tree.specs.declared.syntax.Range.{One, One', Range, Span, Span'}
use Rattle.ep_tree.specs.declared.values.ValueType.{ValueType}
use Rattle.ep_tree.proofs.ViewLemmas.{with_range-one, with_range-span}
use Rattle.ep_types_rules.proofs.RuleSteps.{next_is}
use Rattle.ep_types_rules.specs.Concluding.{Checked, conclude, ◌>>=◌}
use Rattle.ep_types_rules.specs.declared.errors.StaticError.{StaticError}
use Rattle.ep_types.proofs.Arms.{no_range}
use Rattle.ep_types.proofs.Walks.{Blames, and_assoc, and_true}
use Rattle.ep_types.specs.Checking.{check, check_end, check_ranges}
use Rattle.ep_types.specs.Reading.{check_bounds, range_bounds}

-- whether one and others hold
abbrev pub and_others : Bool → Bool → Checked Bool
and_others b others = Ok (b && others)

-- whether all types are integer
abbrev pub all_of : List ValueType → Checked Bool
all_of ts = Ok (list_all is_integer ts)

-- the whole is whether those so far hold, and then the rest
pub record Holds (whole : Checked Bool) (so_far : Bool) (rest : Checked Bool) : Type 0 where
  pub is : whole ≡ (rest >>= and_others so_far)

pub nothing_held : (whole : Checked Bool) → Holds whole true whole
nothing_held (Ok b) = record { is = refl }
nothing_held (Err f) = record { is = refl }

both_after : (a b new : Bool) → new ≡ (a && b) → (r : Checked Bool) → ((r >>= and_others b) >>= and_others a) ≡ (r >>= and_others new)
both_after a b new n (Ok o) = ap Ok (and_assoc a b o ∙ ap (λ x. x && o) (sym n))
both_after a b new n (Err f) = refl

pub one_held : (whole : Checked Bool) (so_far new : Bool) (rest one others : Checked Bool) (b : Bool)
    → Holds whole so_far rest → rest ≡ (one >>= λ x. others >>= and_others x) → one ≡ Ok b → new ≡ (so_far && b) → Holds whole new others
one_held whole so_far new rest one others b holds is e n =
    record { is = holds.is ∙ ap (λ r. r >>= and_others so_far) (is ∙ ap (λ o. o >>= λ x. others >>= and_others x) e) ∙ both_after so_far b new n others }

pub held_fails : (e : StaticError) (whole : Checked Bool) (so_far : Bool) (rest one : Checked Bool) (next : Bool → Checked Bool)
    → Holds whole so_far rest → rest ≡ (one >>= next) → Blames e one → Blames e whole
held_fails e whole so_far rest one next holds is h fault s =
    holds.is ∙ ap (λ r. r >>= and_others so_far) (is ∙ ap (λ o. o >>= next) (h fault s))

pub all_held : (whole : Checked Bool) (so_far : Bool) (rest : Checked Bool) → Holds whole so_far rest → rest ≡ Ok true → whole ≡ Ok so_far
all_held whole so_far rest holds is = holds.is ∙ ap (λ r. r >>= and_others so_far) is ∙ ap Ok (and_true so_far)

-- ---- ranges

one_first : (o : Checked ValueType) (r : Checked (List ValueType))
    → ((o >>= λ t. r >>= λ ts. Ok (t ∷ ts)) >>= all_of) ≡ (((o >>= λ t. Ok (t ∷ [])) >>= all_of) >>= λ b. (r >>= all_of) >>= and_others b)
one_first (Err f) r = refl
one_first (Ok t) (Err f) = refl
one_first (Ok t) (Ok ts) = ap (λ x. Ok (x && list_all is_integer ts)) (sym (and_true (is_integer t)))

two_first : (x y : Checked ValueType) (r : Checked (List ValueType))
    → ((x >>= λ s. y >>= λ t. r >>= λ ts. Ok (s ∷ t ∷ ts)) >>= all_of) ≡ (((x >>= λ s. y >>= λ t. Ok (s ∷ t ∷ [])) >>= all_of) >>= λ b. (r >>= all_of) >>= and_others b)
two_first (Err f) y r = refl
two_first (Ok s) (Err f) r = refl
two_first (Ok s) (Ok t) (Err f) = refl
two_first (Ok s) (Ok t) (Ok ts) =
    ap Ok (and_assoc (is_integer s) (is_integer t) (list_all is_integer ts))
    ∙ ap (λ x. Ok ((is_integer s && x) && list_all is_integer ts)) (sym (and_true (is_integer t)))

range_first : (c : Context) (r : Range) (rs : Ranges) → check_bounds c (with_range r rs) ≡ (range_bounds c r >>= λ b. check_bounds c rs >>= and_others b)
unfolding check kind_tree
range_first c (One' q e) rs = one_first (check c false (kind_tree q e)) (check_ranges c rs)
range_first c (Span' a b) rs = two_first (check_end c (held_end a)) (check_end c (held_end b)) (check_ranges c rs)

pub next_bounds : (c : Context) (xs : List Range) (i : ℕ) (x : Range) → i < length xs → x ≡ get_or xs i x
    → check_bounds c (ranges_of (drop i xs)) ≡ (range_bounds c x >>= λ b. check_bounds c (ranges_of (drop (i + 1) xs)) >>= and_others b)
unfolding ranges_of
next_bounds c xs i x lt at = ap (λ l. check_bounds c (ranges_of l)) (next_is xs i x lt at) ∙ range_first c x (ranges_of (drop (i + 1) xs))

pub no_bounds : (c : Context) (xs : List Range) (i : ℕ) → length xs ≤ i → check_bounds c (ranges_of (drop i xs)) ≡ Ok true
no_bounds c xs i le = ap (λ r. r >>= all_of) (no_range c xs i le)

one_alone : (o : Checked ValueType) → ((o >>= λ t. Ok (t ∷ [])) >>= all_of) ≡ (o >>= λ t. Ok (is_integer t))
one_alone (Err f) = refl
one_alone (Ok t) = ap Ok (and_true (is_integer t))

two_alone : (x y : Checked ValueType) → ((x >>= λ s. y >>= λ t. Ok (s ∷ t ∷ [])) >>= all_of) ≡ (x >>= λ s. y >>= λ t. Ok (is_integer s && is_integer t))
two_alone (Err f) y = refl
two_alone (Ok s) (Err f) = refl
two_alone (Ok s) (Ok t) = ap (λ x. Ok (is_integer s && x)) (and_true (is_integer t))

pub one_bounds : (c : Context) (r : Range) (e : Expr) → r ≡ One e → range_bounds c r ≡ (check c false (expr_tree e) >>= λ t. Ok (is_integer t))
unfolding check
one_bounds c r e is =
    ap (range_bounds c) is ∙ ap (check_bounds c) (with_range-one e no_ranges) ∙ one_alone (check c false (expr_tree e))

pub span_bounds : (c : Context) (r : Range) (a b : Option Expr) → r ≡ Span a b → range_bounds c r ≡ (check_end c (end_of a) >>= λ s. check_end c (end_of b) >>= λ t. Ok (is_integer s && is_integer t))
unfolding check
span_bounds c r a b is =
    ap (range_bounds c) is ∙ ap (check_bounds c) (with_range-span a b no_ranges) ∙ two_alone (check_end c (end_of a)) (check_end c (end_of b))

-- what ranges are is told by whether their bounds are integer
pub by_bounds : (p : Place) (r : Checked (List ValueType)) → (r >>= λ ts. conclude p (gives ValueType.Int (list_all is_integer ts))) ≡ ((r >>= all_of) >>= λ b. conclude p (gives ValueType.Int b))
by_bounds p (Ok ts) = refl
by_bounds p (Err f) = refl
