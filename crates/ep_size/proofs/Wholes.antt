-- The measures of an instance, by those of its cells, its clauses and its objective.
use Rattle.ep_size.proofs.Words.{◌≡◌, ℕ, ◌+◌, ◌<◌, ◌≤◌, Bool, length, true, false, List, [], ◌∷◌, ◌++◌, refl, sym, ap, subst, ◌∙◌, arith, nat_le, nat_lt, if◌then◌else◌, Option, Some, None, option_map, option_to_list, flat_map-append, Instance, Refusal, met_in, over_limit, Env, MOST_SIZE, MOST_WEIGHT, met, weight_of, put_all, cells_bound, instance_limits, instance_size, instance_weight, limits_passed, met_instance, or_weight, ExprTree, Mode, told_as, Walked, IsCause, IsTooMany, MeasuresInstance, Told, WeighsNodes, is_far, Celled, all_cells, all_values, capped, CellTotals, SizeError, Limit, Memory, Totals}
use Rattle.std.specs.Prelude.{Contains}
use Rattle.ep_base.specs.declared.operators.Limit.{Limit as LimitName}
use Rattle.ep_size.proofs.RemainingSteps.{mapped_twice}
use Rattle.ep_size.proofs.Measurings.{nothing_passed, passed_limits, size_refuses}
use Rattle.ep_size.proofs.MeterSteps.{told_then}

-- the names of an instance's clauses, and the expression of its objective
abbrev pub env_within : Instance → Env
env_within i = put_all (cells_bound i.finds) i.env

abbrev pub goal_within : Instance → List ExprTree
goal_within i = option_to_list (option_map (λ goal. goal.1) i.goal)

met_cut : (mode : Mode) (i : Instance) → met_instance mode i ≡ met_in mode (env_within i) i.clauses ++ met_in mode (env_within i) (goal_within i)
unfolding met_instance met_in
met_cut mode i = flat_map-append (met mode (env_within i)) i.clauses (goal_within i)

-- the totals behind the cells of an instance
abbrev pub behind_cells : CellTotals → Totals
behind_cells cells = record { meter = record { size = cells.size; passed = None }; weight = cells.weight }

-- the nodes of an instance, behind its cells
pub whole : (mode : Mode) (i : Instance) (cells : CellTotals) (b c : Totals) → Celled cells i.finds
    → Told mode (behind_cells cells) b (met_in mode (env_within i) i.clauses) (Unit {0}) → Told mode b c (met_in mode (env_within i) (goal_within i)) (Unit {0}) → MeasuresInstance mode i c
whole mode i cells b c celled h k =
    let all : Told mode (behind_cells cells) c (met_instance mode i) (Unit {0}) =
    subst (λ ms. Told mode (behind_cells cells) c ms (Unit {0})) (sym (met_cut mode i)) (told_then mode (behind_cells cells) b c _ _ h k (λ p q. tt)) in
    let from = subst (λ n. Walked (is_far mode) (record { size = n; passed = None }) c.meter (met_instance mode i) (WeighsNodes mode (behind_cells cells) c (met_instance mode i) × Unit {0})) celled.size all in
    let own = celled.weight in
    record {
      small = subst (λ n. n ≤ MOST_SIZE) celled.size celled.small;
      walked = told_as _ c.meter (met_instance mode i) from (λ p. weighed cells.weight c.weight (all_values i.finds) (weight_of mode (met_instance mode i)) own p.0);
    }
  where
    weighed : (n t v m : ℕ) → n ≡ capped v → capped t ≡ capped (n + m) → capped t ≡ capped (v + m)
    weighed n t v m h k = omega (arith, h, k)

pub whole_size : (mode : Mode) (i : Instance) (t : Totals) → MeasuresInstance mode i t → t.meter.passed ≡ None → t.meter.size ≡ instance_size mode i
unfolding instance_size
whole_size mode i t m free = (m.walked.passes.goes free).count

pub whole_weight : (mode : Mode) (i : Instance) (t : Totals) → MeasuresInstance mode i t → t.meter.passed ≡ None → t.weight ≤ MOST_WEIGHT → t.weight ≡ instance_weight mode i
unfolding instance_weight
whole_weight mode i t m free h = let weight = m.walked.told free in omega (arith, weight, h)

few : (n k t : ℕ) → n ≤ MOST_SIZE → t ≡ n + k → (1 ≤ k → t ≤ MOST_SIZE) → n + k ≤ MOST_SIZE
few n k t small count some = by (nat_le 1 k) refl
  where
    by : (b : Bool) → nat_le 1 k ≡ b → n + k ≤ MOST_SIZE
    by true e = let most = some (grind (arith, e)) in omega (arith, count, most)
    by false e = grind (arith, small, e)

none_passed : (mode : Mode) (i : Instance) (t : Totals) → MeasuresInstance mode i t → t.meter.passed ≡ None → limits_passed mode (all_cells i.finds) (met_instance mode i) ≡ []
none_passed mode i t m free =
    let went = m.walked.passes.goes free in
    nothing_passed mode (all_cells i.finds) (met_instance mode i) (few (all_cells i.finds) (length (met_instance mode i)) t.meter.size m.small went.count went.small) went.near

light : (m n : ℕ) → n ≤ m → nat_lt m n ≡ false
light m n h = grind arith

heavy : (m n : ℕ) → m < n → nat_lt m n ≡ true
heavy m n h = grind arith

pub whole_within : (mode : Mode) (i : Instance) (t : Totals) → MeasuresInstance mode i t → t.meter.passed ≡ None → t.weight ≤ MOST_WEIGHT → instance_limits mode i ≡ []
unfolding instance_limits or_weight
whole_within mode i t m free h =
    ap (λ rs. or_weight rs (instance_weight mode i)) (none_passed mode i t m free)
    ∙ ap (λ b. if b then over_limit LimitName.Weight ∷ [] else [])
    (light MOST_WEIGHT (instance_weight mode i) (subst (λ n. n ≤ MOST_WEIGHT) (whole_weight mode i t m free h) h))

heavier : (mode : Mode) (i : Instance) (t : Totals) → MeasuresInstance mode i t → t.meter.passed ≡ None → MOST_WEIGHT < t.weight → MOST_WEIGHT < instance_weight mode i
unfolding instance_weight
heavier mode i t m free h = let weight = m.walked.told free in omega (arith, weight, h)

pub too_heavy : (mode : Mode) (i : Instance) (t : Totals) → MeasuresInstance mode i t → t.meter.passed ≡ None → MOST_WEIGHT < t.weight
    → Contains (instance_limits mode i) (over_limit LimitName.Weight)
unfolding instance_limits or_weight
too_heavy mode i t m free h =
    subst (λ rs. Contains (or_weight rs (instance_weight mode i)) (over_limit LimitName.Weight)) (sym (none_passed mode i t m free))
    (subst (λ b. Contains (if b then over_limit LimitName.Weight ∷ [] else []) (over_limit LimitName.Weight))
    (sym (heavy MOST_WEIGHT (instance_weight mode i) (heavier mode i t m free h))) (0, omega arith, refl))

-- a limit of size or of reach is one of the instance's
before_weight : (rs : List Refusal) (w : ℕ) (r : Refusal) → Contains rs r → Contains (or_weight rs w) r
unfolding or_weight
before_weight [] w r h = absurd (omega (arith, h.1))
before_weight (s ∷ rs) w r h = h

of_instance : (mode : Mode) (i : Instance) (error : SizeError) → IsCause (limits_passed mode (all_cells i.finds) (met_instance mode i)) error
    → IsCause (instance_limits mode i) error
unfolding instance_limits
of_instance mode i Memory c = tt
of_instance mode i (Limit l) c = before_weight (limits_passed mode (all_cells i.finds) (met_instance mode i)) (instance_weight mode i) (over_limit l) c

-- a limit that is passed
pub instance_passed : (mode : Mode) (i : Instance) (t : Totals) (l : LimitName) → MeasuresInstance mode i t → t.meter.passed ≡ Some l → Contains (instance_limits mode i) (over_limit l)
instance_passed mode i t l m passed =
    of_instance mode i (Limit l) (passed_limits mode (all_cells i.finds) (met_instance mode i) l (m.walked.passes.stops refl l passed))

-- too many cells
pub cells_refuse : (mode : Mode) (i : Instance) (error : SizeError) → IsTooMany (all_cells i.finds) error → IsCause (instance_limits mode i) error
cells_refuse mode i Memory h = tt
cells_refuse mode i (Limit l) h =
    of_instance mode i (Limit l)
    (subst (λ k. Contains (limits_passed mode (all_cells i.finds) (met_instance mode i)) (over_limit k)) (sym h.0)
    (size_refuses mode (all_cells i.finds) (met_instance mode i) (omega (arith, h.1))))

-- what holds of a mode, an environment and some expressions holds of the same ones
pub moved : (P : Mode → Env → List ExprTree → Type 0) (mode mode' : Mode) (env env' : Env) (es es' : List ExprTree)
    → mode ≡ mode' → env ≡ env' → es ≡ es' → P mode env es → P mode' env' es'
moved P mode mode' env env' es es' same_mode same_env same_es h =
    subst (λ m. P m env' es') same_mode (subst (λ e. P mode e es') same_env (subst (λ xs. P mode env xs) same_es h))
