-- The table of values as a literal becomes true, and as the last one is taken back.
use Rattle.std.proofs.Common.{◌≡◌, ◌≢◌, ℕ, ◌+◌, ◌-◌, ◌^◌, ◌<◌, ◌≤◌, Bool, true, false, cond, Option, Some, None, IsSome, is_some, is_none, List, [], ◌∷◌, ◌++◌, length, take, get_or, eqb, set, replicate, count_by, All, refl, sym, ap, ◌∙◌, subst, inl, inr, ◌⊎◌, ⊎_elim, arith, vec_capacity}
use Rattle.std.specs.Option.{option_map, option_map_or, option_to_list}
use Rattle.std.proofs.lemmas.Bool.{cases_eq, cases_lt, eqb-true, eqb-false, ne_eqb, true≢false}
use Rattle.std.proofs.lemmas.List.{get_or_past, get_or-set_same, get_or-set_other, get_or_append_left, get_or-append_right, length-set, length-append, length_push, length-replicate, get_or-replicate, take-append-le, take_at, get_or_push, map-append, length-map}
use Rattle.std.proofs.lemmas.List.Elements.{All-nil, All-cons, All-head, All-tail, All-push}
use Rattle.std.proofs.lemmas.List.Sums.{sum_by-set, sum_by_push, sum_by-append, count_by-le-length}
use Rattle.std.proofs.lemmas.List.Folds.{sum_by-replicate}
use Rattle.cnf_core.specs.Literal.{Literal}
use Rattle.sat_state.specs.Trail.{Entry, literals, level_of, trail_value, entry_of}
use Rattle.sat_state.specs.declared.assignment.Assignment.TheInside.{Inside}
use Rattle.sat_state.specs.Assigned.{TrailState, Origin}
use Rattle.sat_state.specs.AssignmentInside.{slot_of, entry_at, entries, IsTable, seen, IsAssignment}
use Rattle.sat_state.proofs.Literals.{no_literal, no_value, value_push, value_push_other}

-- an entry as a slot tells it
entry_by : Literal → Option Origin → Entry
entry_by l o = record { literal = l; level = option_map_or (λ s. s.level) o 0; reason = option_map_or (λ s. s.reason) o None }

abbrev weight : Bool → ℕ
weight b = cond b 1 0

-- a slot of another variable changes no entry
pub entries-set : (slots : List (Option Origin)) (v : ℕ) (o : Option Origin) (trues : List Literal) → All (λ l. l.var ≢ v) trues → entries (set slots v o) trues ≡ entries slots trues
unfolding entry_by
entries-set slots v o [] h = refl
entries-set slots v o (l ∷ ls) h =
    ap (λ (e : Entry). e ∷ entries (set slots v o) ls) (ap (entry_by l) (get_or-set_other slots v l.var o None (All-head (λ x. x.var ≢ v) l ls h)))
    ∙ ap (λ (es : List Entry). entry_at slots l ∷ es) (entries-set slots v o ls (All-tail (λ x. x.var ≢ v) l ls h))

-- nor do slots of further variables
pub entries-append : (slots more : List (Option Origin)) (trues : List Literal) → All (λ l. l.var < length slots) trues → entries (slots ++ more) trues ≡ entries slots trues
unfolding entry_by
entries-append slots more [] h = refl
entries-append slots more (l ∷ ls) h =
    ap (λ (e : Entry). e ∷ entries (slots ++ more) ls) (ap (entry_by l) (get_or_append_left slots more None l.var (All-head (λ x. x.var < length slots) l ls h)))
    ∙ ap (λ (es : List Entry). entry_at slots l ∷ es) (entries-append slots more ls (All-tail (λ x. x.var < length slots) l ls h))

pub literals-entries : (slots : List (Option Origin)) (trues : List Literal) → literals (entries slots trues) ≡ trues
literals-entries slots [] = refl
literals-entries slots (l ∷ ls) = ap (λ (xs : List Literal). l ∷ xs) (literals-entries slots ls)

-- the trail that the literals make where one more is true
pub entries_push : (slots : List (Option Origin)) (trues : List Literal) (u : Literal) (s : Origin) → u.var < length slots → trail_value trues u.var ≡ None
    → entries (set slots u.var (Some s)) (trues ++ u ∷ []) ≡ entries slots trues ++ record { literal = u; level = s.level; reason = s.reason } ∷ []
unfolding entry_by
entries_push slots trues u s known free =
    map-append (entry_at (set slots u.var (Some s))) trues (u ∷ [])
    ∙ ap (λ (es : List Entry). es ++ entry_at (set slots u.var (Some s)) u ∷ []) (entries-set slots u.var (Some s) trues (no_literal trues u.var free))
    ∙ ap (λ (o : Option Origin). entries slots trues ++ entry_by u o ∷ []) (get_or-set_same slots u.var (Some s) None known)

abbrev pub Apart : List Literal → Type 0
Apart trues = (k : ℕ) (d : Literal) → k < length trues → trail_value (take k trues) (get_or trues k d).var ≡ None

apart_push : (trues : List Literal) (u : Literal) → Apart trues → trail_value trues u.var ≡ None → Apart (trues ++ u ∷ [])
apart_push trues u apart free k d h = ⊎_elim
    (λ (lt : k < length trues). rw (take-append-le k trues (u ∷ []) (omega arith), get_or_append_left trues (u ∷ []) d k lt) (apart k d lt))
    (λ (ge : length trues ≤ k).
    let at_end : k ≡ length trues = omega (arith, length_push trues u, h) in
    rw (take_at trues (u ∷ []) k (sym at_end), get_or_push trues u d k (sym at_end)) free)
    (cases_lt k (length trues))

-- a literal whose variable had no value becomes true
pub pushed : (slots : List (Option Origin)) (trues : List Literal) (level capacity : ℕ) (u : Literal) (s : Origin) → IsTable slots trues level capacity
    → 1 ≤ u.var → u.var < length slots → trail_value trues u.var ≡ None
    → IsTable (set slots u.var (Some s)) (trues ++ u ∷ []) (level + cond (is_none s.reason) 1 0) capacity
pushed slots trues level capacity u s t positive known free =
    let len = length-set slots u.var (Some s) in
    let old : is_some (get_or slots u.var None) ≡ false = t.values u.var known ∙ ap is_some free in
    record {
      some = omega (arith, len, t.some);
      zero = get_or-set_other slots u.var 0 (Some s) None (λ e. absurd (omega (arith, e, positive))) ∙ t.zero;
      room = omega (arith, len, t.room);
      few = omega (arith, len, t.few);
      values = λ v h. ⊎_elim (λ (e : v ≡ u.var).
          subst (λ (x : ℕ). is_some (slot_of (set slots u.var (Some s)) x) ≡ is_some (trail_value (trues ++ u ∷ []) x)) (sym e)
          (ap is_some (get_or-set_same slots u.var (Some s) None known) ∙ ap is_some (sym (value_push trues u free))))
          (λ (n : v ≢ u.var). ap is_some (get_or-set_other slots u.var v (Some s) None n) ∙ t.values v (omega (arith, len, h)) ∙ ap is_some (sym (value_push_other trues u v n)))
          (cases_eq v u.var);
      apart = apart_push trues u t.apart free;
      in_range = All-push (λ l. l.var < length (set slots u.var (Some s))) trues u (λ k d h. omega (arith, len, t.in_range k d h)) (omega (arith, len, known));
      count =
          let moved = sum_by-set (λ (o : Option Origin). cond (is_some o) 1 0) slots u.var (Some s) None known in
          let none = ap (λ (b : Bool). weight b) old in
          omega (arith, moved, none, t.count, length_push trues u);
      levels = ap (λ (n : ℕ). n + cond (is_none s.reason) 1 0) t.levels ∙ sym (sum_by_push (λ (e : Entry). cond (is_none e.reason) 1 0) (entries slots trues) (record { literal = u; level = s.level; reason = s.reason })) ∙ ap level_of (sym (entries_push slots trues u s known free));
    }

-- the entries with one literal more
pub entries-more : (slots : List (Option Origin)) (trues : List Literal) (u : Literal) → entries slots (trues ++ u ∷ []) ≡ entries slots trues ++ entry_at slots u ∷ []
entries-more slots trues u = map-append (entry_at slots) trues (u ∷ [])

-- the last literal is taken back
pub popped : (slots : List (Option Origin)) (trues : List Literal) (level lower capacity : ℕ) (u : Literal) → IsTable slots (trues ++ u ∷ []) level capacity
    → lower ≡ level_of (entries slots trues) → IsTable (set slots u.var None) trues lower capacity
popped slots trues level lower capacity u t same =
    let all = trues ++ u ∷ [] in
    let more : length all ≡ length trues + 1 = length_push trues u in
    let last : get_or all (length trues) u ≡ u = get_or_push trues u u (length trues) refl in
    let known : u.var < length slots = rw last at (t.in_range (length trues) u (omega (arith, more))) in
    let free : trail_value trues u.var ≡ None = rw (take_at trues (u ∷ []) (length trues) refl, last) at (t.apart (length trues) u (omega (arith, more))) in
    let len = length-set slots u.var None in
    let was : is_some (get_or slots u.var None) ≡ true = t.values u.var known ∙ ap is_some (value_push trues u free) in
    record {
      some = omega (arith, len, t.some);
      zero = ⊎_elim
          (λ (e : 0 ≡ u.var). subst (λ (x : ℕ). slot_of (set slots u.var None) x ≡ None) (sym e) (get_or-set_same slots u.var None None known))
          (λ (ne : 0 ≢ u.var). get_or-set_other slots u.var 0 None None ne ∙ t.zero)
          (cases_eq 0 u.var);
      room = omega (arith, len, t.room);
      few = omega (arith, len, t.few);
      values = λ v h. ⊎_elim (λ (e : v ≡ u.var).
          subst (λ (x : ℕ). is_some (slot_of (set slots u.var None) x) ≡ is_some (trail_value trues x)) (sym e)
          (ap is_some (get_or-set_same slots u.var None None known) ∙ ap is_some (sym free)))
          (λ (n : v ≢ u.var). ap is_some (get_or-set_other slots u.var v None None n) ∙ t.values v (omega (arith, len, h)) ∙ ap is_some (value_push_other trues u v n))
          (cases_eq v u.var);
      apart = λ k d h. rw (take-append-le k trues (u ∷ []) (omega arith), get_or_append_left trues (u ∷ []) d k h) at (t.apart k d (omega (arith, more)));
      in_range = λ k d h. rw (len, ← get_or_append_left trues (u ∷ []) d k h) (t.in_range k d (omega (arith, more)));
      count =
          let moved = sum_by-set (λ (o : Option Origin). cond (is_some o) 1 0) slots u.var None None known in
          let one = ap (λ (b : Bool). weight b) was in
          omega (arith, moved, one, t.count, more);
      levels = same ∙ ap level_of (sym (entries-set slots u.var None trues (no_literal trues u.var free)));
    }

-- more variables are known
pub grown : (slots : List (Option Origin)) (trues : List Literal) (level capacity n room : ℕ) → IsTable slots trues level capacity
    → length slots + n ≤ room → length slots + n < 2 ^ 32 - 1 → IsTable (slots ++ replicate n None) trues level room
grown slots trues level capacity n room t fits few =
    let len : length (slots ++ replicate n None) ≡ length slots + n = length-append slots (replicate n None) ∙ ap (λ (m : ℕ). length slots + m) (length-replicate {A = Option Origin} n None) in
    let count_none = sum_by-replicate {X = Option Origin} (λ (o : Option Origin). weight (is_some o)) n None in
    let none_more : count_by {X = Option Origin} (λ (o : Option Origin). is_some o) slots + count_by {X = Option Origin} (λ (o : Option Origin). is_some o) (replicate {A = Option Origin} n None) ≡ length trues = omega (arith, count_none, t.count) in
    record {
      some = omega (arith, len, t.some);
      zero = get_or_append_left slots (replicate n None) None 0 t.some ∙ t.zero;
      room = omega (arith, len, fits);
      few = omega (arith, len, few);
      values = λ v h. ⊎_elim
          (λ (lt : v < length slots). ap is_some (get_or_append_left slots (replicate n None) None v lt) ∙ t.values v lt)
          (λ (ge : length slots ≤ v).
          ap is_some (get_or-append_right slots (replicate n None) (length slots) v None refl ge ∙ get_or-replicate n (v - length slots) None None (omega (arith, len, h)))
          ∙ ap is_some (sym (no_value trues v (λ k d in_list e. absurd (omega (arith, t.in_range k d in_list, e))))))
          (cases_lt v (length slots));
      apart = t.apart;
      in_range = λ k d h. omega (arith, len, t.in_range k d h);
      count = sum_by-append (λ (o : Option Origin). cond (is_some o) 1 0) slots (replicate n None) ∙ none_more;
      levels = t.levels ∙ ap level_of (sym (entries-append slots (replicate n None) trues t.in_range));
    }

known_by_cases : (slots : List (Option Origin)) (trues : List Literal) (v : ℕ) → All (λ l. l.var < length slots) trues → IsSome (trail_value trues v) → (v < length slots) ⊎ (length slots ≤ v) → v < length slots
known_by_cases slots trues v in_range has (inl lt) = lt
known_by_cases slots trues v in_range has (inr ge) =
    let none : trail_value trues v ≡ None = no_value trues v (λ k d in_list e. absurd (omega (arith, in_range k d in_list, e))) in
    absurd (true≢false (sym has ∙ ap is_some none))

-- a variable with a value is in the table
pub known_var : (slots : List (Option Origin)) (trues : List Literal) (level capacity v : ℕ) → IsTable slots trues level capacity → IsSome (trail_value trues v) → v < length slots
known_var slots trues level capacity v t has = known_by_cases slots trues v t.in_range has (cases_lt v (length slots))

-- and has a slot there
pub known_slot : (slots : List (Option Origin)) (trues : List Literal) (level capacity v : ℕ) → IsTable slots trues level capacity → IsSome (trail_value trues v) → IsSome (slot_of slots v)
known_slot slots trues level capacity v t has = t.values v (known_var slots trues level capacity v t has) ∙ has

entry_by_cases : (X : Type 0) (get : Entry → X) (slots : List (Option Origin)) (l : Literal) (ls : List Literal) (v : ℕ) (x : X) (b : Bool)
    → eqb l.var v ≡ b → (eqb l.var v ≡ true → get (entry_at slots l) ≡ x) → (eqb l.var v ≡ false → option_map get (entry_of (entries slots ls) v) ≡ Some x)
    → option_map get (entry_of (entries slots (l ∷ ls)) v) ≡ Some x
entry_by_cases X get slots l ls v x true e here later = ap (λ (b : Bool). option_map get (cond b (Some (entry_at slots l)) (entry_of (entries slots ls) v))) e ∙ ap Some (here e)
entry_by_cases X get slots l ls v x false e here later = ap (λ (b : Bool). option_map get (cond b (Some (entry_at slots l)) (entry_of (entries slots ls) v))) e ∙ later e

-- what the entry of a variable says is what its slot says
pub entry_found : (X : Type 0) (get : Entry → X) (slots : List (Option Origin)) (trues : List Literal) (v : ℕ) (x : X)
    → ((l : Literal) → l.var ≡ v → get (entry_at slots l) ≡ x) → (All (λ l. l.var ≢ v) trues → ⊥) → option_map get (entry_of (entries slots trues) v) ≡ Some x
entry_found X get slots [] v x here some = absurd (some (All-nil (λ (l : Literal). l.var ≢ v)))
entry_found X get slots (l ∷ ls) v x here some =
    entry_by_cases X get slots l ls v x (eqb l.var v) refl (λ e. here l (eqb-true l.var v e))
    (λ e. entry_found X get slots ls v x here (λ all. some (All-cons (λ (y : Literal). y.var ≢ v) l ls (eqb-false l.var v e) all)))

-- a variable with a value is that of a literal
pub has_literal : (trues : List Literal) (v : ℕ) → IsSome (trail_value trues v) → All (λ l. l.var ≢ v) trues → ⊥
has_literal trues v has none = true≢false (sym has ∙ ap is_some (no_value trues v none))

entry_none : (slots : List (Option Origin)) (trues : List Literal) (v : ℕ) → All (λ l. l.var ≢ v) trues → entry_of (entries slots trues) v ≡ None
entry_none slots [] v none = refl
entry_none slots (l ∷ ls) v none =
    ap (λ (b : Bool). cond b (Some (entry_at slots l)) (entry_of (entries slots ls) v)) (ne_eqb l.var v (All-head (λ x. x.var ≢ v) l ls none))
    ∙ entry_none slots ls v (All-tail (λ x. x.var ≢ v) l ls none)

-- what is origin of an entry
abbrev pub origin : Entry → Origin
origin e = record { level = e.level; reason = e.reason }

origin_in : Option Origin → Origin
origin_in o = record { level = option_map_or (λ s. s.level) o 0; reason = option_map_or (λ s. s.reason) o None }

no_value_known : (o : Option Bool) → is_some o ≡ false → o ≡ None
no_value_known None h = refl
no_value_known (Some b) h = absurd (true≢false h)

entry_origin_by_cases : (slots : List (Option Origin)) (trues : List Literal) (level capacity v : ℕ) (o : Option Origin) → IsTable slots trues level capacity → v < length slots → slot_of slots v ≡ o
    → option_map origin (entry_of (entries slots trues) v) ≡ o
unfolding origin_in
entry_origin_by_cases slots trues level capacity v None t known e =
    let free : trail_value trues v ≡ None = no_value_known (trail_value trues v) (sym (t.values v known) ∙ ap is_some e) in
    ap (option_map origin) (entry_none slots trues v (no_literal trues v free))
entry_origin_by_cases slots trues level capacity v (Some h) t known e =
    let has : IsSome (trail_value trues v) = sym (t.values v known) ∙ ap is_some e in
    entry_found Origin origin slots trues v h (λ l same. ap origin_in (ap (slot_of slots) same ∙ e)) (has_literal trues v has)

-- what the table has for a variable is what is origin of its entry
pub entry_origin : (slots : List (Option Origin)) (trues : List Literal) (level capacity v : ℕ) → IsTable slots trues level capacity → option_map origin (entry_of (entries slots trues) v) ≡ slot_of slots v
entry_origin slots trues level capacity v t = ⊎_elim
    (λ (lt : v < length slots). entry_origin_by_cases slots trues level capacity v (slot_of slots v) t lt refl)
    (λ (ge : length slots ≤ v). ap (option_map origin) (entry_none slots trues v (λ k d in_list e. absurd (omega (arith, t.in_range k d in_list, e, ge)))) ∙ sym (get_or_past slots v None ge))
    (cases_lt v (length slots))

origin_level : (o : Option Entry) → option_map (λ s. s.level) (option_map origin o) ≡ option_map (λ e. e.level) o
origin_level None = refl
origin_level (Some e) = refl

origin_reason : (o : Option Entry) → option_map_or (λ s. s.reason) (option_map origin o) None ≡ option_map_or (λ e. e.reason) o None
origin_reason None = refl
origin_reason (Some e) = refl

pub mapped_some : {X Y : Type 0} (f : X → Y) (o : Option X) → is_some (option_map f o) ≡ is_some o
mapped_some f None = refl
mapped_some f (Some x) = refl

reason_by : (found : Option Entry) (o : Option Origin) → option_map origin found ≡ o → IsSome o → option_map (λ e. e.reason) found ≡ Some (option_map_or (λ s. s.reason) o None)
reason_by None o same some = absurd (true≢false (sym some ∙ sym (ap is_some same)))
reason_by (Some e) o same some = ap (λ (x : Option Origin). Some (option_map_or (λ (s : Origin). s.reason) x None)) same

pub reason_some : (a : Inside) (now : TrailState) (v : ℕ) → seen a ≡ now → IsAssignment a → IsSome (slot_of a.slots.items v)
    → option_map (λ e. e.reason) (entry_of now.trail v) ≡ Some (option_map_or (λ s. s.reason) (slot_of a.slots.items v) None)
reason_some a now v e t some =
    ap (λ (x : TrailState). option_map (λ (e : Entry). e.reason) (entry_of x.trail v)) (sym e)
    ∙ reason_by (entry_of (entries a.slots.items a.trail.items) v) (slot_of a.slots.items v) (entry_origin a.slots.items a.trail.items a.level (vec_capacity a.trail) v t) some

pub slot_level : (a : Inside) (now : TrailState) (v : ℕ) → seen a ≡ now → IsAssignment a → option_map (λ s. s.level) (slot_of a.slots.items v) ≡ option_map (λ e. e.level) (entry_of now.trail v)
slot_level a now v e t =
    ap (option_map (λ (s : Origin). s.level)) (sym (entry_origin a.slots.items a.trail.items a.level (vec_capacity a.trail) v t))
    ∙ origin_level (entry_of (entries a.slots.items a.trail.items) v) ∙ ap (λ (x : TrailState). option_map (λ (e : Entry). e.level) (entry_of x.trail v)) e

pub slot_reason : (a : Inside) (now : TrailState) (v : ℕ) → seen a ≡ now → IsAssignment a → option_map_or (λ s. s.reason) (slot_of a.slots.items v) None ≡ option_map_or (λ e. e.reason) (entry_of now.trail v) None
slot_reason a now v e t =
    ap (λ (o : Option Origin). option_map_or (λ (s : Origin). s.reason) o None) (sym (entry_origin a.slots.items a.trail.items a.level (vec_capacity a.trail) v t))
    ∙ origin_reason (entry_of (entries a.slots.items a.trail.items) v) ∙ ap (λ (x : TrailState). option_map_or (λ (e : Entry). e.reason) (entry_of x.trail v) None) e

-- while a variable has no value there is room for its literal
pub room_left : (slots : List (Option Origin)) (trues : List Literal) (level capacity v : ℕ) → IsTable slots trues level capacity
    → v < length slots → trail_value trues v ≡ None → length trues < capacity
room_left slots trues level capacity v t known free =
    let slot : Origin = record { level = 0; reason = None } in
    let old : is_some (get_or slots v None) ≡ false = t.values v known ∙ ap is_some free in
    let moved = sum_by-set (λ (o : Option Origin). weight (is_some o)) slots v (Some slot) None known in
    let none = ap (λ (b : Bool). weight b) old in
    omega (arith, moved, none, t.count, t.room, length-set slots v (Some slot), count_by-le-length is_some (set slots v (Some slot)))

weight_le : (b : Bool) → weight b ≤ 1
weight_le true = omega arith
weight_le false = omega arith

-- and the level of one more fits its word
pub level_fits : (slots : List (Option Origin)) (trues : List Literal) (level capacity v : ℕ) (r : Option ℕ) → IsTable slots trues level capacity
    → v < length slots → trail_value trues v ≡ None → level + cond (is_none r) 1 0 < 2 ^ 32 - 1
level_fits slots trues level capacity v r t known free =
    let h : Origin = record { level = 0; reason = None } in
    let old : is_some (get_or slots v None) ≡ false = t.values v known ∙ ap is_some free in
    let moved = sum_by-set (λ (o : Option Origin). weight (is_some o)) slots v (Some h) None known in
    let none = ap (λ (b : Bool). weight b) old in
    let most = count_by-le-length (λ (e : Entry). is_none e.reason) (entries slots trues) in
    let len : length (entries slots trues) ≡ length trues = length-map trues (entry_at slots) in
    omega (arith, moved, none, t.count, t.few, t.levels, most, len, weight_le (is_none r), length-set slots v (Some h), count_by-le-length is_some (set slots v (Some h)))

-- what is seen of the table
pub seen_literals : (a : Inside) (now : TrailState) → seen a ≡ now → literals now.trail ≡ a.trail.items
seen_literals a now e = sym (ap (λ (x : TrailState). literals x.trail) e) ∙ literals-entries a.slots.items a.trail.items

pub seen_value : (a : Inside) (now : TrailState) (v : ℕ) → seen a ≡ now → trail_value (literals now.trail) v ≡ trail_value a.trail.items v
seen_value a now v e = ap (λ (ls : List Literal). trail_value ls v) (seen_literals a now e)

pub seen_var : (a : Inside) (now : TrailState) (v : ℕ) → seen a ≡ now → IsAssignment a → v ≤ now.vars → v < length a.slots.items
seen_var a now v e t h = let vars : length a.slots.items - 1 ≡ now.vars = ap (λ (x : TrailState). x.vars) e in omega (arith, vars, h, t.some)

-- the variable of the last literal is in the table, and is no other literal's
pub last_known : (slots : List (Option Origin)) (trues : List Literal) (u : Literal) (level capacity : ℕ) → IsTable slots (trues ++ u ∷ []) level capacity → u.var < length slots
last_known slots trues u level capacity t =
    rw (get_or_push trues u u (length trues) refl) at (t.in_range (length trues) u (omega (arith, length_push trues u)))

pub last_free : (slots : List (Option Origin)) (trues : List Literal) (u : Literal) (level capacity : ℕ) → IsTable slots (trues ++ u ∷ []) level capacity → trail_value trues u.var ≡ None
last_free slots trues u level capacity t =
    rw (take_at trues (u ∷ []) (length trues) refl, get_or_push trues u u (length trues) refl) at (t.apart (length trues) u (omega (arith, length_push trues u)))

-- the entries of the others are what they were without the last one's slot
pub entries-unset : (slots : List (Option Origin)) (trues : List Literal) (u : Literal) (level capacity : ℕ) → IsTable slots (trues ++ u ∷ []) level capacity → entries (set slots u.var None) trues ≡ entries slots trues
entries-unset slots trues u level capacity t = entries-set slots u.var None trues (no_literal trues u.var (last_free slots trues u level capacity t))

pub seen_has : (a : Inside) (now : TrailState) (v : ℕ) → seen a ≡ now → IsSome (trail_value (literals now.trail) v) → IsSome (trail_value a.trail.items v)
seen_has a now v e has = ap is_some (sym (seen_value a now v e)) ∙ has

-- what a pop of the literals says: the table was that of those that are left, and the last one
pub before_pop : (slots : List (Option Origin)) (items left : List Literal) (popped : Option Literal) (u : Literal) (level capacity : ℕ) → items ≡ left ++ option_to_list popped → popped ≡ Some u
    → IsTable slots items level capacity → IsTable slots (left ++ u ∷ []) level capacity
before_pop slots items left popped u level capacity split some t =
    subst (λ (ls : List Literal). IsTable slots ls level capacity) (split ∙ ap (λ (o : Option Literal). left ++ option_to_list o) some) t

pub trail_before_pop : (a : Inside) (now : TrailState) (left : List Literal) (popped : Option Literal) (u : Literal) → seen a ≡ now → a.trail.items ≡ left ++ option_to_list popped → popped ≡ Some u
    → now.trail ≡ entries a.slots.items left ++ entry_at a.slots.items u ∷ []
trail_before_pop a now left popped u e split some =
    sym (ap (λ (x : TrailState). x.trail) e) ∙ ap (entries a.slots.items) (split ∙ ap (λ (o : Option Literal). left ++ option_to_list o) some)
    ∙ entries-more a.slots.items left u
