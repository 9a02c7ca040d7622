-- How measuring goes on: what is told composes, with weights beside.
use Rattle.ep_size.proofs.Words.{◌≡◌, ◌⊎◌, ℕ, ◌+◌, ◌≤◌, ◌<◌, Bool, true, false, List, [], ◌∷◌, ◌++◌, length, refl, sym, ap, subst, ◌∙◌, inl, inr, arith, Ok, Err, Option, Some, None, Result, int_lt, is_some, Joins, SameNodes, node_walked, Counts, IsPassed, Passes, Went, Meter, Env, MOST_SIZE, Met, a_generator, a_node, farthest_of, farthest_reach, met, reaches_at, weight_at, weight_of, ExprTree, Mode, IsKnownExtent, Finished, Finishes, Going, SettlesMade, Told, WeighsNodes, is_far, capped, SizeError, Limit, Totals}
use Rattle.std.specs.Prelude.{Contains}
use Rattle.ep_base.specs.declared.operators.Limit.{Limit as LimitName}
use Rattle.ep_eval.proofs.MeterSteps as walks
use Rattle.ep_size.proofs.Measurings.{far_either, near_nothing, weight-append, weight-cons}
use Rattle.ep_size.specs.declared.extents.Extent.{Extent}

pub joins : (mode : Mode) → Joins (is_far mode)
unfolding farthest_reach farthest_of
joins mode = record { none = refl; join = far_either mode }

-- ---- weights

weighs_none : (mode : Mode) (n : ℕ) → capped n ≡ capped (n + weight_of mode [])
unfolding weight_of
weighs_none mode n = let none : weight_of mode [] ≡ 0 = refl in omega (arith, none)

-- some of all that is weighed is left
moved : (s w n l a m r : ℕ) → capped (s + w) ≡ capped (n + l) → l ≡ m + r → capped a ≡ capped (n + m) → capped (s + w) ≡ capped (a + r)
moved s w n l a m r h k e = omega (arith, h, k, e)

joined : (a b c m n w : ℕ) → capped b ≡ capped (a + m) → capped c ≡ capped (b + n) → w ≡ m + n → capped c ≡ capped (a + w)
joined a b c m n w h k e = omega (arith, h, k, e)

-- ---- what is told

pub told_none : {P : Type 0} (mode : Mode) (t : Totals) → P → Told mode t t [] P
told_none mode t h = walks.told_none (joins mode) t.meter (weighs_none mode t.weight, h)

pub told_then : {P Q R : Type 0} (mode : Mode) (a b c : Totals) (ms ns : List Met) → Told mode a b ms P → Told mode b c ns Q → (P → Q → R) → Told mode a c (ms ++ ns) R
told_then {P} {Q} {R} mode a b c ms ns h k f =
    walks.told_then {R = WeighsNodes mode a c (ms ++ ns) × R} (joins mode) a.meter b.meter c.meter ms ns h k
    (λ p q. (joined a.weight b.weight c.weight (weight_of mode ms) (weight_of mode ns) (weight_of mode (ms ++ ns)) p.0 q.0 (weight-append mode ms ns), f p.1 q.1))

pub told_as : {P Q : Type 0} (mode : Mode) (a b : Totals) (ms : List Met) → Told mode a b ms P → (P → Q) → Told mode a b ms Q
told_as {P} {Q} mode a b ms h f = walks.told_as {Q = WeighsNodes mode a b ms × Q} a.meter b.meter ms h (λ p. (p.0, f p.1))

pub told_stops : {P Q : Type 0} (mode : Mode) (a b : Totals) (ms ns : List Met) → Told mode a b ms P → is_some b.meter.passed ≡ true → Told mode a b (ms ++ ns) Q
told_stops mode a b ms ns h some = walks.told_stops (joins mode) a.meter b.meter ms ns h some

-- ---- loops

pub going_begins : {P : Type 0} (mode : Mode) (start : Totals) (whole left : List Met) → left ≡ whole → P → Going mode start start whole left P
going_begins {P} mode start whole left same h =
    walks.going_begins {P = (capped (start.weight + weight_of mode whole) ≡ capped (start.weight + weight_of mode left)) × P} (joins mode) start.meter whole left same
    (ap (λ l. capped (start.weight + weight_of mode l)) (sym same), h)

pub going_more_at : {P Q R : Type 0} (mode : Mode) (start now after : Totals) (whole left ms rest : List Met)
    → Going mode start now whole left P → left ≡ ms ++ rest → Told mode now after ms Q → (Went (is_far mode) now.meter after.meter ms → P → Q → R) → Going mode start after whole rest R
going_more_at {P} {Q} {R} mode start now after whole left ms rest g cut h f =
    walks.going_more_at {R = (capped (start.weight + weight_of mode whole) ≡ capped (after.weight + weight_of mode rest)) × R} (joins mode) start.meter now.meter after.meter whole left ms rest g cut h
    (λ went p q. (
      moved start.weight (weight_of mode whole) now.weight (weight_of mode left) after.weight (weight_of mode ms) (weight_of mode rest) p.0
          (ap (weight_of mode) cut ∙ weight-append mode ms rest) q.0,
      f went p.1 q.1,
    ))

pub going_more : {P Q R : Type 0} (mode : Mode) (start now after : Totals) (whole left ms rest : List Met)
    → Going mode start now whole left P → left ≡ ms ++ rest → Told mode now after ms Q → (P → Q → R) → Going mode start after whole rest R
going_more mode start now after whole left ms rest g cut h f = going_more_at mode start now after whole left ms rest g cut h (λ went. f)

pub going_ends : {P Q : Type 0} (mode : Mode) (start now : Totals) (whole left : List Met) → Going mode start now whole left P → left ≡ [] → (P → Q) → Told mode start now whole Q
going_ends {P} {Q} mode start now whole left g none f =
    walks.going_ends {Q = WeighsNodes mode start now whole × Q} start.meter now.meter whole left g none
    (λ p. (weighs_none mode now.weight ∙ ap (λ l. capped (now.weight + weight_of mode l)) (sym none) ∙ sym p.0, f p.1))

pub going_stops : {P Q : Type 0} (mode : Mode) (start now : Totals) (whole left : List Met) → Going mode start now whole left P → is_some now.meter.passed ≡ true → Told mode start now whole Q
going_stops mode start now whole left g some = walks.going_stops (joins mode) start.meter now.meter whole left g some

-- ---- a node

-- the totals with another weight
abbrev pub weighing : Totals → ℕ → Totals
weighing t w = record { meter = t.meter; weight = w }

-- an expression by another tree of it
pub at_tree : (mode : Mode) (env : Env) (a b : Totals) (x y : ExprTree) (k : Extent) → x ≡ y → Told mode a b (met mode env x) (IsKnownExtent mode env x k)
    → Told mode a b (met mode env y) (IsKnownExtent mode env y k)
at_tree mode env a b x y k same h = subst (λ e. Told mode a b (met mode env e) (IsKnownExtent mode env e k)) same h

settled_passes : (mode : Mode) (env : Env) (e : ExprTree) (c d : Totals) (n : ℕ) (made : Result Extent SizeError) (x : Extent)
    → Finishes mode env e n c.weight made → SettlesMade c d made x → Passes (is_far mode) c.meter d.meter (a_node env e ∷ [])
settled_passes mode env e c d n made x done s = record {
  goes = λ free.
      let count = s.count free in
      let own : Finished mode env e n c.weight x = subst (Finishes mode env e n c.weight) (s.kept free) done in
      record { from = s.from free; count = omega (arith, count); small = λ some. s.small free; near = own.near };
  stops = λ free l passed. limit l (s.stops free l passed);
  stays = s.stays;
}
  where
    limit : (l : LimitName) → ((l ≡ LimitName.Size) × (MOST_SIZE < c.meter.size + 1)) ⊎ (made ≡ Err (Limit l)) → IsPassed (is_far mode) c.meter.size (a_node env e ∷ []) l
    limit l (inl size) = let over = size.1 in inl (size.0, omega (arith, over))
    limit l (inr refused) = inr (subst (Finishes mode env e n c.weight) refused done)

-- the parts of a node are measured, and the node is made of them, weighed and settled
pub node_told : {P : Type 0} (mode : Mode) (env : Env) (e : ExprTree) (a b c d : Totals) (below : List Met) (made : Result Extent SizeError) (x : Extent)
    → met mode env e ≡ a_node env e ∷ below → Told mode a b below P → c.meter ≡ b.meter → (P → Finishes mode env e b.weight c.weight made) → SettlesMade c d made x
    → Told mode a d (met mode env e) (IsKnownExtent mode env e x)
node_told {P} mode env e a b c d below made x cut h same done s =
    let passed : c.meter.passed ≡ b.meter.passed = ap (λ m. m.passed) same in
    let whole = node_walked (joins mode) a.meter b.meter d.meter (met mode env e) (a_node env e) below cut h
    (λ none known. subst (λ m. Passes (is_far mode) m d.meter (a_node env e ∷ [])) same (settled_passes mode env e c d b.weight made x (done known.1) s))
    (λ l some. s.stays l (passed ∙ some)) in
    record {
      passes = whole.passes;
      told = λ free.
          let known = h.told (sym passed ∙ s.from free) in
          let own : Finished mode env e b.weight c.weight x = subst (Finishes mode env e b.weight c.weight) (s.kept free) (done known.1) in
          (weighed (weight_of mode below) (weight_at mode (a_node env e)) (weight_of mode (met mode env e)) (ap (weight_of mode) cut ∙ weight-cons mode (a_node env e) below) known.0 own.added s.weight, own.known);
    }
  where
    weighed : (m n all : ℕ) → all ≡ n + m → capped b.weight ≡ capped (a.weight + m) → capped c.weight ≡ capped (b.weight + n) → d.weight ≡ c.weight → capped d.weight ≡ capped (a.weight + all)
    weighed m n all e1 e2 e3 e4 = omega (arith, e1, e2, e3, e4)

-- what is told of some nodes is told of them in another order
pub told_same : {P : Type 0} (mode : Mode) (a b : Totals) (ms ns : List Met) → SameNodes ms ns → Told mode a b ms P → Told mode a b ns P
unfolding weight_of
told_same {P} mode a b ms ns h t =
    walks.told_as {Q = WeighsNodes mode a b ns × P} a.meter b.meter ns (walks.told_same (joins mode) a.meter b.meter ms ns h t)
    (λ p. (p.0 ∙ ap (λ n. capped (a.weight + n)) (h.same (weight_at mode)), p.1))

-- no limit is passed, as a test says
pub none_passed : (o : Option LimitName) (b : Bool) → b ≡ is_some o → b ≡ false → o ≡ None
none_passed = walks.none_passed

-- a limit is passed before anything is met
pub stopped : {Q : Type 0} (mode : Mode) (a : Totals) (ms : List Met) → is_some a.meter.passed ≡ true → Told mode a a ms Q
stopped mode a ms some = walks.told_stops {P = Unit {0}} (joins mode) a.meter a.meter [] ms (walks.told_none (joins mode) a.meter tt) some

-- a limit is passed by the first parts of a node
pub node_stops : {P Q : Type 0} (mode : Mode) (a b : Totals) (whole : List Met) (m : Met) (ms ns : List Met) → whole ≡ m ∷ (ms ++ ns)
    → Told mode a b ms P → is_some b.meter.passed ≡ true → Told mode a b whole Q
node_stops mode a b whole m ms ns cut h some = walks.node_stops (joins mode) a.meter b.meter whole m ms ns cut h some

no_reach : (mode : Mode) → reaches_at mode a_generator ≡ []
unfolding reaches_at
no_reach mode = refl

no_weight : (mode : Mode) → weight_at mode a_generator ≡ 0
unfolding weight_at
no_weight mode = refl

-- a name of a generator is counted behind its domain and what follows
pub name_counted : {P : Type 0} (mode : Mode) (a b : Totals) (after : Meter) (whole below : List Met) → whole ≡ a_generator ∷ below → Told mode a b below P
    → Counts b.meter after → Told mode a (record { meter = after; weight = b.weight }) whole P
name_counted {P} mode a b after whole below cut h s =
    let near : is_far mode (a_generator ∷ []) ≡ false = near_nothing mode a_generator (no_reach mode) in
    let met_so_far = node_walked (joins mode) a.meter b.meter after whole a_generator below cut h (λ none known. walks.counted_passes b.meter after a_generator near s) s.stays in
    record {
      passes = met_so_far.passes;
      told = λ free.
          let known = h.told (s.from free) in
          (beside (weight_of mode below) (weight_at mode a_generator) (weight_of mode whole) (ap (weight_of mode) cut ∙ weight-cons mode a_generator below) (no_weight mode) known.0, known.1);
    }
  where
    beside : (m n all : ℕ) → all ≡ n + m → n ≡ 0 → capped b.weight ≡ capped (a.weight + m) → capped b.weight ≡ capped (a.weight + all)
    beside m n all e1 e2 e3 = omega (arith, e1, e2, e3)
