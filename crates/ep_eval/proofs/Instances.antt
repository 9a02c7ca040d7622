-- Instances of a quantifier one after another.
use Rattle.ep_eval.proofs.Words.{◌≡◌, ℕ, ◌+◌, ◌*◌, ◌≤◌, Bool, true, false, List, [], ◌∷◌, ◌++◌, length, ℤ, pos, ◌+ℤ◌, refl, sym, ap, subst, arith, inl, inr, ◌∙◌, IfErr, IfOk, OnOk, Option, Result, Ok, Err, Some, None, flat_map, map, option_map, unwrap_or, ints, sum_of, Name, Place, Env, scalar_in, with_number, all_numbers, domain_values, evaluate, number_in, over_names, quantified_value, signed, standing_for, truth_of, Met, a_node, met, met_domain, met_names, DomainTree, ExprTree, quantified, ValueTree, all_defined, QuantOp, Mode, map_both, numbers_at, IsWithin, of_all, together, IsSmall, gathered_of, gathered_with_more, none_at_all, nothing_yet, worth, seen_held, own_number, Worth, Going, IsWorth, SettlesWorth, Told, Meter, Held, Gathered, Truths, Total}
use Rattle.std.specs.Prelude.{Contains}
use Rattle.ep_eval.proofs.PartSteps.{last_unit, of_all_more, of_none, regrouped}
use Rattle.ep_eval.proofs.TermSteps.{nothing_behind, total_more, total_regrouped, wider}
use Rattle.ep_eval.proofs.MeterSteps.{going_begins, going_ends, going_more_at, joins, node_told, told_then}

-- ---- what is gathered

truth_alone : (every : Bool) (v : Option ValueTree) → of_all every (v ∷ []) ≡ truth_of v
truth_alone every v = of_all_more every v [] ∙ ap (map_both (together every) (truth_of v)) (of_none every) ∙ last_unit every (truth_of v)

number_alone : (v : Option ValueTree) → option_map sum_of (all_numbers (v ∷ [])) ≡ number_in v
unfolding all_defined sum_of
number_alone v = total_more (number_in v) [] ∙ nothing_behind (number_in v)

pub more_none : (g : Gathered) → gathered_with_more g [] ≡ g
unfolding gathered_with_more all_defined sum_of
more_none (Truths every truth) = ap (Truths every) (ap (map_both (together every) truth) (of_none every) ∙ last_unit every truth)
more_none (Total total) = ap Total (nothing_behind total)

pub more_one : (g : Gathered) (v : Option ValueTree) (vs : List (Option ValueTree)) → gathered_with_more g (v ∷ vs) ≡ gathered_with_more (gathered_with_more g (v ∷ [])) vs
unfolding gathered_with_more
more_one (Truths every truth) v vs =
    ap (Truths every)
    (ap (map_both (together every) truth) (of_all_more every v vs)
    ∙ regrouped every truth (truth_of v) (of_all every vs)
    ∙ ap (λ o. map_both (together every) (map_both (together every) truth o) (of_all every vs)) (sym (truth_alone every v)))
more_one (Total total) v vs =
    ap Total
    (ap (map_both ◌+ℤ◌ total) (total_more (number_in v) (map number_in vs))
    ∙ total_regrouped total (number_in v) (option_map sum_of (all_numbers vs))
    ∙ ap (λ o. map_both ◌+ℤ◌ (map_both ◌+ℤ◌ total o) (option_map sum_of (all_numbers vs))) (sym (number_alone v)))

-- one instance more, by its truth
pub more_truth : (every : Bool) (truth r : Option Bool) (v : Option ValueTree) (g : Gathered) → g ≡ Truths every truth → r ≡ map_both (together every) truth (truth_of v)
    → Truths every r ≡ gathered_with_more g (v ∷ [])
unfolding gathered_with_more
more_truth every truth r v g is given =
    ap (Truths every) (given ∙ ap (map_both (together every) truth) (sym (truth_alone every v))) ∙ sym (ap (λ x. gathered_with_more x (v ∷ [])) is)

kept_sign : (o : Option ℤ) → option_map (signed true) o ≡ o
unfolding signed
kept_sign None = refl
kept_sign (Some x) = refl

-- and by its number
pub more_number : (total r : Option ℤ) (v : Option ValueTree) (g : Gathered) → g ≡ Total total → r ≡ map_both ◌+ℤ◌ total (option_map (signed true) (number_in v))
    → Total r ≡ gathered_with_more g (v ∷ [])
unfolding gathered_with_more
more_number total r v g is given =
    ap Total (given ∙ ap (map_both ◌+ℤ◌ total) (kept_sign (number_in v) ∙ sym (number_alone v))) ∙ sym (ap (λ x. gathered_with_more x (v ∷ [])) is)

pub small_total_is : (most : ℕ) (total : Option ℤ) (g : Gathered) → g ≡ Total total → IsSmall most g → IsWithin most total
unfolding IsSmall
small_total_is most total g is h = subst (IsSmall most) is h

pub small_is_total : (most : ℕ) (total : Option ℤ) → IsWithin most total → IsSmall most (Total total)
unfolding IsSmall
small_is_total most total h = h

pub truths_are_small : (most : ℕ) (every : Bool) (truth : Option Bool) → IsSmall most (Truths every truth)
unfolding IsSmall
truths_are_small most every truth = tt

first_truth : (every : Bool) (o : Option Bool) → map_both (together every) (Some every) o ≡ o
unfolding map_both together
first_truth true None = refl
first_truth true (Some b) = refl
first_truth false None = refl
first_truth false (Some b) = refl

-- the value of a quantifier is what its instances gave
pub worth_all : (mode : Mode) (op : QuantOp) (vs : List (Option ValueTree)) → worth mode (gathered_with_more (nothing_yet op) vs) ≡ quantified_value mode op (Some vs)
unfolding worth gathered_with_more nothing_yet quantified_value of_all map_both
worth_all mode QuantOp.ForAll vs = ap (λ o. worth mode (Truths true o)) (first_truth true (of_all true vs))
worth_all mode QuantOp.Exists vs = ap (λ o. worth mode (Truths false o)) (first_truth false (of_all false vs))
worth_all mode QuantOp.Sum vs = ap (λ o. worth mode (Total o)) (first_total (option_map sum_of (all_numbers vs)))
  where
    first_total : (o : Option ℤ) → map_both ◌+ℤ◌ (Some (pos 0)) o ≡ o
    first_total None = refl
    first_total (Some x) = ap Some (omega (arith, ints))

pub worth_none : (mode : Mode) (op : QuantOp) → worth mode (none_at_all op) ≡ quantified_value mode op None
unfolding worth none_at_all quantified_value
worth_none mode QuantOp.ForAll = refl
worth_none mode QuantOp.Exists = refl
worth_none mode QuantOp.Sum = refl

small_wider : (a b : ℕ) (g : Gathered) → a ≤ b → IsSmall a g → IsSmall b g
unfolding IsSmall
small_wider a b (Truths every truth) h k = tt
small_wider a b (Total total) h k = wider a b total h k

small_before : (n : ℕ) (op : QuantOp) → IsSmall n (nothing_yet op)
unfolding IsSmall nothing_yet IsWithin
small_before n QuantOp.ForAll = tt
small_before n QuantOp.Exists = tt
small_before n QuantOp.Sum = omega arith

-- ---- one instance after another

-- what is gathered stays exact, and as small as one number more allows
abbrev pub GathersUp : Gathered → Option ValueTree → Gathered → Type 0
GathersUp g seen more =
    (most : ℕ) → most ≤ 46116860184273879040000000 → IsSmall most g → (more ≡ gathered_with_more g (seen ∷ [])) × IsSmall (most + 9223372036854775808) more

-- some instances are evaluated, and others are left
abbrev pub Gathering : Mode → QuantOp → (ℤ → Option ValueTree) → (ℤ → List Met) → Meter → Meter → List ℤ → List ℤ → Gathered → Type 0
Gathering mode op value_at nodes_at start now numbers left g =
    Going mode start now (flat_map nodes_at numbers) (flat_map nodes_at left)
    ((gathered_with_more (nothing_yet op) (map value_at numbers) ≡ gathered_with_more g (map value_at left)) × IsSmall (now.size * 9223372036854775808) g)

pub gathering_begins : (mode : Mode) (op : QuantOp) (value_at : ℤ → Option ValueTree) (nodes_at : ℤ → List Met) (start : Meter) (numbers left : List ℤ) (g : Gathered)
    → left ≡ numbers → g ≡ nothing_yet op → Gathering mode op value_at nodes_at start start numbers left g
gathering_begins mode op value_at nodes_at start numbers left g same is =
    going_begins (joins mode) start _ _ (ap (flat_map nodes_at) same) (
      ap (λ l. gathered_with_more (nothing_yet op) (map value_at l)) (sym same) ∙ ap (λ x. gathered_with_more x (map value_at left)) (sym is),
      subst (IsSmall (start.size * 9223372036854775808)) (sym is) (small_before (start.size * 9223372036854775808) op),
    )

pub gathering_goes_on :
    (mode : Mode) (op : QuantOp) (value_at : ℤ → Option ValueTree) (nodes_at : ℤ → List Met) (start now after : Meter) (numbers left rest : List ℤ) (g more : Gathered) (n : ℤ) (seen : Option ValueTree)
    → Gathering mode op value_at nodes_at start now numbers left g → left ≡ n ∷ rest
    → Told mode now after (nodes_at n) (value_at n ≡ seen) → 1 ≤ length (nodes_at n)
    → GathersUp g seen more → Gathering mode op value_at nodes_at start after numbers rest more
gathering_goes_on mode op value_at nodes_at start now after numbers left rest g more n seen going cut told some gathers =
    going_more_at (joins mode) start now after _ _ (nodes_at n) _ going (ap (flat_map nodes_at) cut) told
    (λ went known value.
    let count = went.count in
    let small = went.small some in
    let next = gathers (now.size * 9223372036854775808) (omega (arith, some, count, small)) known.1 in (
      known.0 ∙ ap (λ l. gathered_with_more g (map value_at l)) cut ∙ more_one g (value_at n) (map value_at rest)
          ∙ ap (λ v. gathered_with_more (gathered_with_more g (v ∷ [])) (map value_at rest)) value
          ∙ ap (λ x. gathered_with_more x (map value_at rest)) (sym next.0),
      small_wider (now.size * 9223372036854775808 + 9223372036854775808) (after.size * 9223372036854775808) more (omega (arith, some, count)) next.1,
    ))

pub gathering_ends : (mode : Mode) (op : QuantOp) (value_at : ℤ → Option ValueTree) (nodes_at : ℤ → List Met) (start now : Meter) (numbers left : List ℤ) (g : Gathered)
    → Gathering mode op value_at nodes_at start now numbers left g → left ≡ []
    → Told mode start now (flat_map nodes_at numbers) (g ≡ gathered_with_more (nothing_yet op) (map value_at numbers))
gathering_ends mode op value_at nodes_at start now numbers left g going none =
    going_ends start now _ _ going (ap (flat_map nodes_at) none)
    (λ known. sym (known.0 ∙ ap (λ l. gathered_with_more g (map value_at l)) none ∙ more_none g))

-- ---- a quantifier by its instances

inner_maps : {A B C : Type 0} (f : B → C) (g : A → B) (xs : List A) → map f (map g xs) ≡ map (λ x. f (g x)) xs
inner_maps f g [] = refl
inner_maps f g (x ∷ xs) = ap (λ ys. f (g x) ∷ ys) (inner_maps f g xs)

inner_flat : {A B C : Type 0} (f : B → List C) (g : A → B) (xs : List A) → flat_map f (map g xs) ≡ flat_map (λ x. f (g x)) xs
inner_flat f g [] = refl
inner_flat f g (x ∷ xs) = ap (λ ys. f (g x) ++ ys) (inner_flat f g xs)

-- the environment in which a name stands for a number
abbrev pub standing : Env → DomainTree → Name → ℤ → Env
standing env d name n = with_number name (scalar_in env d) n env

-- the value of a quantifier with a name in front, by the values of its instances
pub quantified_by : (mode : Mode) (env : Env) (p : Place) (op : QuantOp) (name : Name) (names : List Name) (d : DomainTree) (e : ExprTree)
    → evaluate mode env (quantified p op (name ∷ names) d e)
    ≡ quantified_value mode op (option_map (map (λ n. evaluate mode (standing env d name n) (quantified p op names d e))) (domain_values mode env d))
unfolding evaluate over_names standing_for
quantified_by mode env p op name names d e = by (domain_values mode env d)
  where
    by : (o : Option (List ℤ))
        → quantified_value mode op (option_map (map (λ inner. evaluate mode inner (quantified p op names d e))) (option_map (map (λ n. standing env d name n)) o))
        ≡ quantified_value mode op (option_map (map (λ n. evaluate mode (standing env d name n) (quantified p op names d e))) o)
    by None = refl
    by (Some ns) = ap (λ l. quantified_value mode op (Some l)) (inner_maps (λ inner. evaluate mode inner (quantified p op names d e)) (standing env d name) ns)

-- and by what they give one after another
quantified_is : (mode : Mode) (env : Env) (p : Place) (op : QuantOp) (name : Name) (names : List Name) (d : DomainTree) (e : ExprTree)
    → evaluate mode env (quantified p op (name ∷ names) d e)
    ≡ worth mode (gathered_of op (option_map (map (λ n. evaluate mode (standing env d name n) (quantified p op names d e))) (domain_values mode env d)))
unfolding gathered_of
quantified_is mode env p op name names d e =
    quantified_by mode env p op name names d e ∙ by (option_map (map (λ n. evaluate mode (standing env d name n) (quantified p op names d e))) (domain_values mode env d))
  where
    by : (o : Option (List (Option ValueTree))) → quantified_value mode op o ≡ worth mode (gathered_of op o)
    by None = sym (worth_none mode op)
    by (Some vs) = sym (worth_all mode op vs)

-- it meets itself, its domain, and its instances
pub met_quantified : (mode : Mode) (env : Env) (p : Place) (op : QuantOp) (name : Name) (names : List Name) (d : DomainTree) (e : ExprTree)
    → met mode env (quantified p op (name ∷ names) d e)
    ≡ a_node env (quantified p op (name ∷ names) d e)
    ∷ (met_domain mode env d ++ flat_map (λ n. met mode (standing env d name n) (quantified p op names d e)) (unwrap_or (domain_values mode env d) []))
unfolding met met_names standing_for
met_quantified mode env p op name names d e = ap (λ ms. a_node env (quantified p op (name ∷ names) d e) ∷ (met_domain mode env d ++ ms)) (by (domain_values mode env d))
  where
    by : (o : Option (List ℤ))
        → flat_map (λ inner. met mode inner (quantified p op names d e)) (unwrap_or (option_map (map (λ n. standing env d name n)) o) [])
        ≡ flat_map (λ n. met mode (standing env d name n) (quantified p op names d e)) (unwrap_or o [])
    by None = refl
    by (Some l) = inner_flat (λ inner. met mode inner (quantified p op names d e)) (standing env d name) l

numbers_quantified : (mode : Mode) (env : Env) (p : Place) (op : QuantOp) (names : List Name) (d : DomainTree) (e : ExprTree)
    → numbers_at mode (a_node env (quantified p op names d e)) ≡ own_number (evaluate mode env (quantified p op names d e))
unfolding numbers_at
numbers_quantified mode env p op names d e = refl

pub quantified_told : (mode own : Mode) (env : Env) (p : Place) (op : QuantOp) (name : Name) (names : List Name) (d : DomainTree) (e : ExprTree) (a b c f : Meter) (numbers : Option (List ℤ)) (g : Gathered) (w : Worth) (seen : Option Held)
    → Told mode a b (met_domain mode env d) (numbers ≡ domain_values mode env d) → b.passed ≡ None
    → Told mode b c (flat_map (λ n. met mode (standing env d name n) (quantified p op names d e)) (unwrap_or numbers []))
    (g ≡ gathered_of op (option_map (map (λ n. evaluate mode (standing env d name n) (quantified p op names d e))) numbers))
    → own ≡ mode → IsWorth (own_number (worth own g)) (worth own g) w → SettlesWorth c f w seen
    → Told mode a f (met mode env (quantified p op (name ∷ names) d e)) (evaluate mode env (quantified p op (name ∷ names) d e) ≡ seen_held seen)
quantified_told mode own env p op name names d e a b c f numbers g w seen domain free all same given settles =
    let set : numbers ≡ domain_values mode env d = domain.told free in
    let all_of_it = subst (λ o. Told mode b c (flat_map (λ n. met mode (standing env d name n) (quantified p op names d e)) (unwrap_or o []))
    (g ≡ gathered_of op (option_map (map (λ n. evaluate mode (standing env d name n) (quantified p op names d e))) o))) set all in
    let mine : IsWorth (own_number (worth mode g)) (worth mode g) w = subst (λ m. IsWorth (own_number (worth m g)) (worth m g) w) same given in
    node_told mode a c f _ (a_node env (quantified p op (name ∷ names) d e)) _ _ (evaluate mode env (quantified p op (name ∷ names) d e)) w seen
    (met_quantified mode env p op name names d e) (numbers_quantified mode env p op (name ∷ names) d e)
    (told_then (joins mode) a b c _ _ domain all_of_it (λ k is. is))
    (λ is. subst (λ v. IsWorth (own_number v) v w) (sym (quantified_is mode env p op name names d e ∙ ap (worth mode) (sym is))) mine)
    settles

-- a quantifier without names is its body
pub quantified_bare : (mode : Mode) (env : Env) (p : Place) (op : QuantOp) (d : DomainTree) (e : ExprTree) → evaluate mode env (quantified p op [] d e) ≡ evaluate mode env e
unfolding evaluate over_names
quantified_bare mode env p op d e = refl

pub met_bare : (mode : Mode) (env : Env) (p : Place) (op : QuantOp) (d : DomainTree) (e : ExprTree) → met mode env (quantified p op [] d e) ≡ met mode env e
unfolding met met_names
met_bare mode env p op d e = refl
