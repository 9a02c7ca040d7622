-- Parts without decision variables: what evaluating them shows of their measures.
use Rattle.ep_size.proofs.Words.{◌≡◌, ℕ, ◌+◌, Bool, true, false, List, [], ◌∷◌, ◌++◌, length, refl, sym, ap, subst, ◌∙◌, arith, map, not, ◌&&◌, if◌then◌else◌, nat_lt, list_all, sum_by-cons, told_as, told_far, has_far, Meter, LimitsOfFixed, is_fixed, over_limit, MOST_SIZE, limits_of_values, Met, a_generator, a_node, decided_weight, weight_at, weight_of, decisions_in, holds_decision, limits_passed, Mode, Told, is_far, capped, Totals}
use Rattle.ep_base.specs.declared.operators.Limit.{Limit as LimitName}
use Rattle.ep_eval.specs.Meters as evaluated
use Rattle.ep_size.proofs.FreeParts.{AreFixed, and_one, and_other}

-- the totals with another meter
abbrev pub metering : Totals → Meter → Totals
metering a m = record { meter = m; weight = a.weight }

light_node : (mode : Mode) (m : Met) → is_fixed m ≡ true → weight_at mode m ≡ 0
unfolding weight_at is_fixed
light_node mode a_generator h = refl
light_node mode (a_node env e) h = go (holds_decision (decisions_in env) e) h
  where
    go : (b : Bool) → not b ≡ true → (if b then decided_weight mode env e else 0) ≡ 0
    go true k = absurd cc
    go false k = refl

-- what holds no decision variable weighs nothing
pub weightless : (mode : Mode) (ms : List Met) → AreFixed ms → weight_of mode ms ≡ 0
unfolding weight_of
weightless mode [] h = refl
weightless mode (m ∷ ms) h =
    let front : weight_at mode m ≡ 0 = light_node mode m (and_one (is_fixed m) (list_all is_fixed ms) h) in
    let rest : weight_of mode ms ≡ 0 = weightless mode ms (and_other (is_fixed m) (list_all is_fixed ms) h) in
    let whole = sum_by-cons (weight_at mode) m ms in
    omega (arith, front, rest, whole)

-- nodes without decision variables reach too far where their values do
pub fixed_far : (mode : Mode) (ms : List Met) → LimitsOfFixed → AreFixed ms → has_far mode ms ≡ is_far mode ms
unfolding limits_of_values limits_passed
fixed_far mode ms law h = by (nat_lt MOST_SIZE (0 + length ms)) (has_far mode ms) (is_far mode ms) (law mode 0 ms h)
  where
    by : (b c d : Bool)
        → map over_limit ((if b then LimitName.Size ∷ [] else []) ++ (if c then LimitName.Reach ∷ [] else []))
        ≡ ((if b then over_limit LimitName.Size ∷ [] else []) ++ (if d then over_limit LimitName.Reach ∷ [] else []))
        → c ≡ d
    by b true true k = refl
    by b false false k = refl
    by true true false k = absurd cc
    by false true false k = absurd cc
    by true false true k = absurd cc
    by false false true k = absurd cc

-- what is evaluated without a decision variable is measured: it weighs nothing
pub fixed_told : {P : Type 0} (mode : Mode) (a : Totals) (m : Meter) (ms : List Met) → LimitsOfFixed → AreFixed ms → evaluated.Told mode a.meter m ms P
    → Told mode a (metering a m) ms P
fixed_told {P} mode a m ms law h told =
    let light : capped a.weight ≡ capped (a.weight + weight_of mode ms) = let none = weightless mode ms h in omega (arith, none) in
    told_as {Q = (capped a.weight ≡ capped (a.weight + weight_of mode ms)) × P} a.meter m ms (told_far a.meter m ms (fixed_far mode ms law h) told) (λ known. (light, known))
