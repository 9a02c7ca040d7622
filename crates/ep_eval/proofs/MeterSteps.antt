-- How walks over nodes compose.
use Rattle.ep_eval.proofs.Words.{◌≡◌, ◌⊎◌, ℕ, ◌+◌, ◌≤◌, ◌<◌, Bool, true, false, List, [], ◌∷◌, ◌++◌, length, refl, sym, ap, subst, ◌∙◌, inl, inr, arith, ◌||◌, Option, Some, None, ℤ, flat_map, if◌then◌else◌, is_some, nat_lt, sum_by, list_any, or_from, or_left, or_right, append-nil, append_assoc, length-append, sum_by-append, sum_by-cons, is_too_far, Env, MOST_SIZE, limits_of_values, numbers_at, Met, met, met_names, ExprTree, quantified, ValueTree, Mode, Counted, is_far_value, seen_held, Counts, IsPassed, IsWorth, Passes, SettlesWorth, Told, Walked, Walking, Went, has_far, is_far_worth, Held, Meter, Worth, Seen, Far}
use Rattle.std.specs.Prelude.{Contains}
use Rattle.ep_base.specs.declared.operators.Limit.{Limit as LimitName}
use Rattle.ep_eval.proofs.Countings.{any_append, flat_append, passed_limits}

-- nodes reach too far where some of them do
pub record Joins (far : List Met → Bool) : Type 0 where
  pub none : far [] ≡ false
  pub join : (ms ns : List Met) → far (ms ++ ns) ≡ (far ms || far ns)

-- of numbers that are values
pub joins : (mode : Mode) → Joins (has_far mode)
joins mode = record {
  none = refl;
  join = λ ms ns.
      ap (list_any is_too_far) (flat_append (numbers_at mode) ms ns) ∙ any_append is_too_far (flat_map (numbers_at mode) ms) (flat_map (numbers_at mode) ns);
}

-- ---- limits that are passed, or none is

-- a limit that is passed is one, or none is
pub by_passed : (A : Type 0) (o : Option LimitName) → (o ≡ None → A) → ((l : LimitName) → o ≡ Some l → A) → A
by_passed A None none some = none refl
by_passed A (Some l) none some = some l refl

one_limit : (o : Option LimitName) (k l : LimitName) → o ≡ Some k → o ≡ Some l → k ≡ l
one_limit o k l p q = ap (λ x. first x) (sym p ∙ q)
  where
    first : Option LimitName → LimitName
    first (Some x) = x
    first None = k

pub not_both : (A : Type 0) (o : Option LimitName) (l : LimitName) → o ≡ None → o ≡ Some l → A
not_both A o l p q = absurd (differ (sym p ∙ q))
  where
    differ : None ≡ Some l → ⊥
    differ e = cc

-- no limit is passed, as a test says
pub none_passed : (o : Option LimitName) (b : Bool) → b ≡ is_some o → b ≡ false → o ≡ None
none_passed None b h k = refl
none_passed (Some l) b h k = absurd (let e = sym h ∙ k in cc)

-- what some nodes pass they pass with others behind them
passed_first : {far : List Met → Bool} (j : Joins far) (n : ℕ) (ms ns : List Met) (l : LimitName) → IsPassed far n ms l → IsPassed far n (ms ++ ns) l
passed_first j n ms ns l (inl size) = let over = size.1 in inl (size.0, omega (arith, over, length-append ms ns))
passed_first j n ms ns l (inr reach) = inr (reach.0, j.join ms ns ∙ or_left _ _ reach.1)

-- and with others in front
passed_later : {far : List Met → Bool} (j : Joins far) (n m : ℕ) (ms ns : List Met) (l : LimitName) → m ≡ n + length ms → IsPassed far m ns l → IsPassed far n (ms ++ ns) l
passed_later j n m ms ns l at (inl size) = let over = size.1 in inl (size.0, omega (arith, at, over, length-append ms ns))
passed_later j n m ms ns l at (inr reach) = inr (reach.0, j.join ms ns ∙ or_right _ _ reach.1)

-- ---- what was met

went_append : {far : List Met → Bool} (j : Joins far) (a b c : Meter) (ms ns : List Met) → Went far a b ms → Went far b c ns → Went far a c (ms ++ ns)
went_append j a b c ms ns h k = record {
  from = h.from;
  count = omega (arith, h.count, k.count, length-append ms ns);
  small = small_of ns k.count k.small;
  near = j.join ms ns ∙ or_from _ _ h.near k.near;
}
  where
    small_of : (ls : List Met) → c.size ≡ b.size + length ls → (1 ≤ length ls → c.size ≤ MOST_SIZE) → 1 ≤ length (ms ++ ls) → c.size ≤ MOST_SIZE
    small_of [] count small some =
        let same : length (ms ++ []) ≡ length ms = ap length (append-nil ms) in
        let first : b.size ≤ MOST_SIZE = h.small (omega (arith, some, same)) in
        omega (arith, count, first)
    small_of (n ∷ ls) count small some = small (omega arith)

passes_append : {far : List Met → Bool} (j : Joins far) (a b c : Meter) (ms ns : List Met) → Passes far a b ms → Passes far b c ns → Passes far a c (ms ++ ns)
passes_append {far} j a b c ms ns h k = record {
  goes = λ free. let late = k.goes free in went_append j a b c ms ns (h.goes late.from) late;
  stops = λ free l passed.
      by_passed (IsPassed far a.size (ms ++ ns) l) b.passed
      (λ none. passed_later j a.size b.size ms ns l (h.goes none).count (k.stops none l passed))
      (λ m some. passed_first j a.size ms ns l (subst (λ x. IsPassed far a.size ms x) (one_limit c.passed m l (k.stays m some) passed) (h.stops free m some)));
  stays = λ l passed. k.stays l (h.stays l passed);
}

passes_none : {far : List Met → Bool} (j : Joins far) (a : Meter) → Passes far a a []
passes_none {far} j a = record {
  goes = λ free. record { from = free; count = omega arith; small = λ some. absurd (omega (arith, some)); near = j.none };
  stops = λ free l passed. not_both (IsPassed far a.size [] l) a.passed l free passed;
  stays = λ l passed. passed;
}

-- behind a limit there may be more
passes_more : {far : List Met → Bool} (j : Joins far) (a b : Meter) (ms ns : List Met) (l : LimitName) → Passes far a b ms → b.passed ≡ Some l → Passes far a b (ms ++ ns)
passes_more {far} j a b ms ns l h some = record {
  goes = λ free. not_both (Went far a b (ms ++ ns)) b.passed l free some;
  stops = λ free k passed. passed_first j a.size ms ns k (h.stops free k passed);
  stays = h.stays;
}

-- ---- nodes in another order

-- the same nodes in another order: whatever is counted of them is as much
pub record SameNodes (ms ns : List Met) : Type 0 where
  pub same : (f : Met → ℕ) → sum_by f ms ≡ sum_by f ns

pub same_count : (ms ns : List Met) → SameNodes ms ns → length ms ≡ length ns
same_count ms ns h = sym (ones ms) ∙ h.same (λ _. 1) ∙ ones ns
  where
    ones : (ls : List Met) → sum_by (λ _. 1) ls ≡ length ls
    ones [] = refl
    ones (l ∷ ls) =
        let more : sum_by (λ _. 1) ls ≡ length ls = ones ls in
        let cut : sum_by (λ _. 1) (l ∷ ls) ≡ 1 + sum_by (λ _. 1) ls = sum_by-cons (λ _. 1) l ls in
        omega (arith, more, cut)

pub same_far : {far : List Met → Bool} (j : Joins far) (ms ns : List Met) → SameNodes ms ns → far ms ≡ far ns
same_far {far} j ms ns h = counted ms ∙ ap (nat_lt 0) (h.same (λ m. if far (m ∷ []) then 1 else 0)) ∙ sym (counted ns)
  where
    one_more : (b : Bool) (n : ℕ) → (b || nat_lt 0 n) ≡ nat_lt 0 ((if b then 1 else 0) + n)
    one_more true n = grind arith
    one_more false n = grind arith

    counted : (ls : List Met) → far ls ≡ nat_lt 0 (sum_by (λ m. if far (m ∷ []) then 1 else 0) ls)
    counted [] = j.none
    counted (l ∷ ls) =
        j.join (l ∷ []) ls ∙ ap (λ b. far (l ∷ []) || b) (counted ls) ∙ one_more (far (l ∷ [])) (sum_by (λ m. if far (m ∷ []) then 1 else 0) ls)
        ∙ ap (nat_lt 0) (sym (sum_by-cons (λ m. if far (m ∷ []) then 1 else 0) l ls))

pub same_nodes : (ms ns : List Met) → ms ≡ ns → SameNodes ms ns
same_nodes ms ns h = record { same = λ f. ap (sum_by f) h }

pub same_then : (ms ns os : List Met) → SameNodes ms ns → SameNodes ns os → SameNodes ms os
same_then ms ns os h k = record { same = λ f. h.same f ∙ k.same f }

pub same_both : (a b c d : List Met) → SameNodes a c → SameNodes b d → SameNodes (a ++ b) (c ++ d)
same_both a b c d h k = record {
  same = λ f.
      sum_by-append f a b ∙ ap (λ n. n + sum_by f b) (h.same f) ∙ ap (λ n. sum_by f c + n) (k.same f) ∙ sym (sum_by-append f c d);
}

-- four groups of nodes, of which the two in the middle change places
pub crossed : (a b c d : List Met) → SameNodes ((a ++ b) ++ (c ++ d)) ((a ++ c) ++ (b ++ d))
crossed a b c d = record {
  same = λ f. four f a b c d ∙ swapped (sum_by f a) (sum_by f b) (sum_by f c) (sum_by f d) ∙ sym (four f a c b d);
}
  where
    four : (f : Met → ℕ) (x y z w : List Met) → sum_by f ((x ++ y) ++ (z ++ w)) ≡ (sum_by f x + sum_by f y) + (sum_by f z + sum_by f w)
    four f x y z w =
        sum_by-append f (x ++ y) (z ++ w) ∙ ap (λ n. n + sum_by f (z ++ w)) (sum_by-append f x y) ∙ ap (λ n. (sum_by f x + sum_by f y) + n) (sum_by-append f z w)

    swapped : (x y z w : ℕ) → (x + y) + (z + w) ≡ (x + z) + (y + w)
    swapped x y z w = omega arith

passes_same : {far : List Met → Bool} (j : Joins far) (a b : Meter) (ms ns : List Met) → SameNodes ms ns → Passes far a b ms → Passes far a b ns
passes_same {far} j a b ms ns h t = record {
  goes = λ free.
      let went = t.goes free in
      let count = went.count in
      let many = same_count ms ns h in
      record { from = went.from; count = omega (arith, count, many); small = λ some. went.small (omega (arith, some, many)); near = sym (same_far j ms ns h) ∙ went.near };
  stops = λ free l passed. moved l (t.stops free l passed);
  stays = t.stays;
}
  where
    moved : (l : LimitName) → IsPassed far a.size ms l → IsPassed far a.size ns l
    moved l (inl size) = let over = size.1 in let many = same_count ms ns h in inl (size.0, omega (arith, over, many))
    moved l (inr reach) = inr (reach.0, sym (same_far j ms ns h) ∙ reach.1)

-- ---- what is told

-- nothing is met
pub told_none : {far : List Met → Bool} {P : Type 0} (j : Joins far) (a : Meter) → P → Walked far a a [] P
told_none j a h = record { passes = passes_none j a; told = λ free. h }

-- one thing is met behind another
pub told_then_at : {far : List Met → Bool} {P Q R : Type 0} (j : Joins far) (a b c : Meter) (ms ns : List Met)
    → Walked far a b ms P → Walked far b c ns Q → (Went far b c ns → P → Q → R) → Walked far a c (ms ++ ns) R
told_then_at j a b c ms ns h k f = record {
  passes = passes_append j a b c ms ns h.passes k.passes;
  told = λ free. let went = k.passes.goes free in f went (h.told went.from) (k.told free);
}

pub told_then : {far : List Met → Bool} {P Q R : Type 0} (j : Joins far) (a b c : Meter) (ms ns : List Met)
    → Walked far a b ms P → Walked far b c ns Q → (P → Q → R) → Walked far a c (ms ++ ns) R
told_then j a b c ms ns h k f = told_then_at j a b c ms ns h k (λ went. f)

-- something follows from what is known
pub told_as : {far : List Met → Bool} {P Q : Type 0} (a b : Meter) (ms : List Met) → Walked far a b ms P → (P → Q) → Walked far a b ms Q
told_as a b ms h f = record { passes = h.passes; told = λ free. f (h.told free) }

-- another test of nodes says the same of these
pub told_far : {far other : List Met → Bool} {P : Type 0} (a b : Meter) (ms : List Met) → far ms ≡ other ms → Walked far a b ms P → Walked other a b ms P
told_far {far} {other} a b ms same h = record {
  passes = record {
    goes = λ free. let went = h.passes.goes free in record { from = went.from; count = went.count; small = went.small; near = sym same ∙ went.near };
    stops = λ free l passed. limit l (h.passes.stops free l passed);
    stays = h.passes.stays;
  };
  told = h.told;
}
  where
    limit : (l : LimitName) → IsPassed far a.size ms l → IsPassed other a.size ms l
    limit l (inl size) = inl size
    limit l (inr reach) = inr (reach.0, sym same ∙ reach.1)

-- a limit is passed: whatever is met behind it, and whatever would be known
pub told_stops : {far : List Met → Bool} {P Q : Type 0} (j : Joins far) (a b : Meter) (ms ns : List Met) → Walked far a b ms P → is_some b.passed ≡ true → Walked far a b (ms ++ ns) Q
told_stops {far} {P} {Q} j a b ms ns h some =
    by_passed (Walked far a b (ms ++ ns) Q) b.passed
    (λ none. absurd (let e = sym (ap is_some none) ∙ some in cc))
    (λ l is. record { passes = passes_more j a b ms ns l h.passes is; told = λ free. not_both Q b.passed l free is })

-- what is told of some nodes is told of them in another order
pub told_same : {far : List Met → Bool} {P : Type 0} (j : Joins far) (a b : Meter) (ms ns : List Met) → SameNodes ms ns → Walked far a b ms P → Walked far a b ns P
told_same j a b ms ns h t = record { passes = passes_same j a b ms ns h t.passes; told = t.told }

-- ---- a node

-- one more node is met behind its parts, which stand behind it in the order of the text
pub node_walked : {far : List Met → Bool} {P : Type 0} (j : Joins far) (a b c : Meter) (whole : List Met) (m : Met) (ms : List Met) → whole ≡ m ∷ ms
    → Walked far a b ms P → (b.passed ≡ None → P → Passes far b c (m ∷ [])) → ((l : LimitName) → b.passed ≡ Some l → c.passed ≡ Some l) → Walked far a c whole P
node_walked {far} {P} j a b c whole m ms cut h own stays = subst (λ l. Walked far a c l P) (sym cut) (told_same j a c (ms ++ m ∷ []) (m ∷ ms) (turned ms) (record {
  passes = passes_append j a b c ms (m ∷ []) h.passes alone;
  told = λ free. h.told (alone.goes free).from;
}))
  where
    alone : Passes far b c (m ∷ [])
    alone =
        by_passed (Passes far b c (m ∷ [])) b.passed (λ none. own none (h.told none))
        (λ k some. record {
          goes = λ free. not_both (Went far b c (m ∷ [])) c.passed k free (stays k some);
          stops = λ free l passed. not_both (IsPassed far b.size (m ∷ []) l) b.passed k free some;
          stays = stays;
        })

    turned : (ls : List Met) → SameNodes (ls ++ m ∷ []) (m ∷ ls)
    turned ls = record { same = λ f. sum_by-append f ls (m ∷ []) ∙ swapped (sum_by f ls) (sum_by f (m ∷ [])) ∙ sym (sum_by-append f (m ∷ []) ls) }
      where
        swapped : (x y : ℕ) → x + y ≡ y + x
        swapped x y = omega arith

-- a name of a generator is met
pub counted_passes : {far : List Met → Bool} (b c : Meter) (m : Met) → far (m ∷ []) ≡ false → Counts b c → Passes far b c (m ∷ [])
counted_passes b c m near s = record {
  goes = λ free. let count = s.count free in record { from = s.from free; count = omega (arith, count); small = λ some. s.small free; near = near };
  stops = λ free l passed. let size = s.stops free l passed in let over = size.1 in inl (size.0, omega (arith, over));
  stays = s.stays;
}

-- a limit is passed by its first parts
pub node_stops : {far : List Met → Bool} {P Q : Type 0} (j : Joins far) (a b : Meter) (whole : List Met) (m : Met) (ms ns : List Met) → whole ≡ m ∷ (ms ++ ns)
    → Walked far a b ms P → is_some b.passed ≡ true → Walked far a b whole Q
node_stops {far} {P} {Q} j a b whole m ms ns cut h some =
    subst (λ l. Walked far a b l Q) (sym cut) (told_same j a b ((ms ++ ns) ++ m ∷ []) (m ∷ (ms ++ ns)) turned
    (subst (λ l. Walked far a b l Q) (sym (append_assoc ms ns (m ∷ []))) (told_stops j a b ms (ns ++ m ∷ []) h some)))
  where
    turned : SameNodes ((ms ++ ns) ++ m ∷ []) (m ∷ (ms ++ ns))
    turned = record {
      same = λ f. sum_by-append f (ms ++ ns) (m ∷ []) ∙ swapped (sum_by f (ms ++ ns)) (sum_by f (m ∷ [])) ∙ sym (sum_by-append f (m ∷ []) (ms ++ ns));
    }
      where
        swapped : (x y : ℕ) → x + y ≡ y + x
        swapped x y = omega arith

-- ---- loops

pub going_begins : {far : List Met → Bool} {P : Type 0} (j : Joins far) (start : Meter) (whole left : List Met) → left ≡ whole → P → Walking far start start whole left P
going_begins j start whole left same h = record { done = []; is = sym same; walked = told_none j start h }

pub going_more_at : {far : List Met → Bool} {P Q R : Type 0} (j : Joins far) (start now after : Meter) (whole left ms rest : List Met)
    → Walking far start now whole left P → left ≡ ms ++ rest → Walked far now after ms Q → (Went far now after ms → P → Q → R) → Walking far start after whole rest R
going_more_at j start now after whole left ms rest g cut h f = record {
  done = g.done ++ ms;
  is = g.is ∙ ap (λ l. g.done ++ l) cut ∙ sym (append_assoc g.done ms rest);
  walked = told_then_at j start now after g.done ms g.walked h f;
}

pub going_more : {far : List Met → Bool} {P Q R : Type 0} (j : Joins far) (start now after : Meter) (whole left ms rest : List Met)
    → Walking far start now whole left P → left ≡ ms ++ rest → Walked far now after ms Q → (P → Q → R) → Walking far start after whole rest R
going_more j start now after whole left ms rest g cut h f = going_more_at j start now after whole left ms rest g cut h (λ went. f)

pub going_ends : {far : List Met → Bool} {P Q : Type 0} (start now : Meter) (whole left : List Met) → Walking far start now whole left P → left ≡ [] → (P → Q) → Walked far start now whole Q
going_ends {far} {P} {Q} start now whole left g none f =
    subst (λ l. Walked far start now l Q) (sym (g.is ∙ ap (λ l. g.done ++ l) none ∙ append-nil g.done)) (told_as start now g.done g.walked f)

pub going_stops : {far : List Met → Bool} {P Q : Type 0} (j : Joins far) (start now : Meter) (whole left : List Met) → Walking far start now whole left P → is_some now.passed ≡ true
    → Walked far start now whole Q
going_stops {far} {P} {Q} j start now whole left g some = subst (λ l. Walked far start now l Q) (sym g.is) (told_stops j start now g.done left g.walked some)

-- ---- a node that is evaluated

worth_far : (numbers : List ℤ) (v : Option ValueTree) (w : Worth) → IsWorth numbers v w → (is_far_worth w ≡ true) → list_any is_too_far numbers ≡ true
unfolding IsWorth is_far_worth
worth_far numbers v Far h far = h
worth_far numbers v (Seen seen) h far = h.1 ∙ ap is_far_value h.0 ∙ far

worth_near : (numbers : List ℤ) (v : Option ValueTree) (w : Worth) (seen : Option Held) → IsWorth numbers v w → w ≡ Seen seen → is_far_value (seen_held seen) ≡ false → list_any is_too_far numbers ≡ false
unfolding IsWorth
worth_near numbers v w seen h is near = let k : IsWorth numbers v (Seen seen) = subst (IsWorth numbers v) is h in k.1 ∙ ap is_far_value k.0 ∙ near

worth_is : (numbers : List ℤ) (v : Option ValueTree) (w : Worth) (seen : Option Held) → IsWorth numbers v w → w ≡ Seen seen → v ≡ seen_held seen
unfolding IsWorth
worth_is numbers v w seen h is = let k : IsWorth numbers v (Seen seen) = subst (IsWorth numbers v) is h in k.0

-- a node alone has far numbers where it has
pub far_alone : (mode : Mode) (m : Met) (numbers : List ℤ) → numbers_at mode m ≡ numbers → has_far mode (m ∷ []) ≡ list_any is_too_far numbers
far_alone mode m numbers own = ap (list_any is_too_far) (append-nil (numbers_at mode m) ∙ own)

settled_passes : (mode : Mode) (b c : Meter) (m : Met) (numbers : List ℤ) (v : Option ValueTree) (w : Worth) (seen : Option Held)
    → numbers_at mode m ≡ numbers → IsWorth numbers v w → SettlesWorth b c w seen → Passes (has_far mode) b c (m ∷ [])
settled_passes mode b c m numbers v w seen own worth s = record {
  goes = λ free.
      let count = s.count free in
      record { from = s.from free; count = omega (arith, count); small = λ some. s.small free; near = far_alone mode m numbers own ∙ worth_near numbers v w seen worth (s.kept free) (s.near free) };
  stops = λ free l passed. limit l (s.stops free l passed);
  stays = s.stays;
}
  where
    limit : (l : LimitName) → ((l ≡ LimitName.Size) × (MOST_SIZE < b.size + 1)) ⊎ ((l ≡ LimitName.Reach) × (is_far_worth w ≡ true)) → IsPassed (has_far mode) b.size (m ∷ []) l
    limit l (inl size) = let over = size.1 in inl (size.0, omega (arith, over))
    limit l (inr reach) = inr (reach.0, far_alone mode m numbers own ∙ worth_far numbers v w worth reach.1)

-- a node is settled behind its parts, and what is known of these stays
pub settled_told : {P : Type 0} (mode : Mode) (a b c : Meter) (whole : List Met) (m : Met) (ms : List Met) (numbers : List ℤ) (v : Option ValueTree) (w : Worth) (seen : Option Held)
    → whole ≡ m ∷ ms → numbers_at mode m ≡ numbers → Told mode a b ms P → (P → IsWorth numbers v w) → SettlesWorth b c w seen → Told mode a c whole (P × (v ≡ seen_held seen))
settled_told {P} mode a b c whole m ms numbers v w seen cut own h f s =
    let met_so_far : Told mode a c whole P =
    node_walked (joins mode) a b c whole m ms cut h (λ none known. settled_passes mode b c m numbers v w seen own (f known) s) s.stays in
    record { passes = met_so_far.passes; told = λ free. let known = h.told (s.from free) in (known, worth_is numbers v w seen (f known) (s.kept free)) }

pub node_told : {P : Type 0} (mode : Mode) (a b c : Meter) (whole : List Met) (m : Met) (ms : List Met) (numbers : List ℤ) (v : Option ValueTree) (w : Worth) (seen : Option Held)
    → whole ≡ m ∷ ms → numbers_at mode m ≡ numbers → Told mode a b ms P → (P → IsWorth numbers v w) → SettlesWorth b c w seen → Told mode a c whole (v ≡ seen_held seen)
node_told mode a b c whole m ms numbers v w seen cut own h f s =
    told_as a c whole (settled_told mode a b c whole m ms numbers v w seen cut own h f s) (λ known. known.1)

-- ---- at the edge

-- no limit is passed
pub told_counted : {P : Type 0} (mode : Mode) (a b : Meter) (ms : List Met) → a.size ≤ MOST_SIZE → Told mode a b ms P → b.passed ≡ None → Counted mode a.size b.size ms
told_counted mode a b ms small h free =
    let went = h.passes.goes free in record { count = went.count; small = small_of ms went.count went.small; near = went.near }
  where
    small_of : (ls : List Met) → b.size ≡ a.size + length ls → (1 ≤ length ls → b.size ≤ MOST_SIZE) → b.size ≤ MOST_SIZE
    small_of [] count some = omega (arith, count, small)
    small_of (l ∷ ls) count some = some (omega arith)

-- a limit is passed that may be named
pub told_limit : {P : Type 0} (mode : Mode) (a b : Meter) (ms : List Met) (l : LimitName) → Told mode a b ms P → a.passed ≡ None → b.passed ≡ Some l → Contains (limits_of_values mode a.size ms) l
told_limit mode a b ms l h free passed = passed_limits mode a.size ms l (h.passes.stops free l passed)

-- an expression meets a node
pub meets_some : (mode : Mode) (env : Env) (e : ExprTree) → 1 ≤ length (met mode env e)
unfolding met met_names
meets_some mode env (quantified p op [] d e) = meets_some mode env e
meets_some mode env (quantified p op (name ∷ names) d e) = omega arith
meets_some mode env _ = omega arith
