-- Clauses that are looked at no more, as a later one has no other literals.
use Rattle.std.proofs.Common.{◌≡◌, ◌≢◌, ℕ, zero, suc, ◌+◌, ◌*◌, ◌/◌, ◌<◌, ◌≤◌, Bool, true, false, List, [], length, get_or, set, All, Contains, sym, ap, ◌∙◌, subst, inl, inr, ⊎_elim, arith}
use Rattle.std.proofs.lemmas.Bool.{cases_eq, cases_lt}
use Rattle.std.proofs.lemmas.List.{get_or_default, get_or-set_same, get_or-set_other, length-set}
use Rattle.std.proofs.lemmas.List.Elements.{All-contains}
use Rattle.cnf_core.specs.Literal.{Literal, negation, code_of, IsOrdered}
use Rattle.cnf_core.specs.Steps.{HasTwoNotFalse}
use Rattle.sat_state.specs.Trail.{Entry, literals}
use Rattle.sat_state.specs.Stored.{clause_at}
use Rattle.sat_state.specs.Assigned.{TrailState}
use Rattle.sat_state.specs.Watching.{no_lit, lit_at, far_at}
use Rattle.sat_state.specs.Guards.{is_false, IsTrueBy, Guards, HasLater}
use Rattle.sat_state.specs.View.{AreTwoOf}
use Rattle.sat_state.specs.Joined.{AreJoined, IsAllSeen, place_in_queue, heads_of}
use Rattle.sat_state.specs.declared.parts.Parts.{Parts}
use Rattle.sat_state.proofs.Literals.{Contains-from_among}
use Rattle.sat_state.proofs.Ends.{same_or_not}
use Rattle.sat_state.proofs.Added.{codes_apart}
use Rattle.sat_state.proofs.Guarded.{watched_out}
use Rattle.sat_state.proofs.Going.{StandsAs, HasRoomOf, blockers_again, rooms_again, code_listed, none_open, first_pair, second_pair, first_guard, second_guard}

-- ---- a clause leaves the lists

-- of the two entries of a clause both watch nothing, and no other one changes
both_gone : (lits : List Literal) (c x : ℕ) → 2 * c + 1 < length lits → x / 2 ≡ c → lit_at (set (set lits (2 * c) no_lit) (2 * c + 1) no_lit) x ≡ no_lit
both_gone lits c x there is = ⊎_elim
    (λ (second : x ≡ 2 * c + 1).
    ap (lit_at (set (set lits (2 * c) no_lit) (2 * c + 1) no_lit)) second ∙ get_or-set_same (set lits (2 * c) no_lit) (2 * c + 1) no_lit no_lit (omega (arith, there, length-set lits (2 * c) no_lit)))
    (λ (ne : x ≢ 2 * c + 1).
    let first : x ≡ 2 * c = omega (arith, is, ne) in
    get_or-set_other (set lits (2 * c) no_lit) (2 * c + 1) x no_lit no_lit ne ∙ ap (lit_at (set lits (2 * c) no_lit)) first ∙ get_or-set_same lits (2 * c) no_lit no_lit (omega (arith, there)))
    (cases_eq x (2 * c + 1))

other_lit : (lits : List Literal) (c x : ℕ) → x / 2 ≢ c → lit_at (set (set lits (2 * c) no_lit) (2 * c + 1) no_lit) x ≡ lit_at lits x
other_lit lits c x ne =
    get_or-set_other (set lits (2 * c) no_lit) (2 * c + 1) x no_lit no_lit (λ same. ne (omega (arith, same)))
    ∙ get_or-set_other lits (2 * c) x no_lit no_lit (λ same. ne (omega (arith, same)))

other_far : (fars : List Bool) (c x : ℕ) → x / 2 ≢ c → far_at (set (set fars (2 * c) false) (2 * c + 1) false) x ≡ far_at fars x
other_far fars c x ne =
    get_or-set_other (set fars (2 * c) false) (2 * c + 1) x false false (λ same. ne (omega (arith, same)))
    ∙ get_or-set_other fars (2 * c) x false false (λ same. ne (omega (arith, same)))

pub joined_out : (old new : Parts) (c : ℕ) → AreJoined old → HasLater old.clauses.lists c → new.clauses.lists ≡ old.clauses.lists → new.watches.lits ≡ set (set old.watches.lits (2 * c) no_lit) (2 * c + 1) no_lit
    → new.watches.fars ≡ set (set old.watches.fars (2 * c) false) (2 * c + 1) false → old.watches.lists ≤ new.watches.lists → StandsAs old.clauses.lists old.watches.lits old.watches.stands new.watches.stands → HasRoomOf old.watches.stands new.watches.stands
    → new.assigned ≡ old.assigned → new.queue ≡ old.queue → AreJoined new
joined_out old new c j later clauses lits fars lists stays_in room assigned queue =
    let there : 2 * c + 1 < length old.watches.lits = omega (arith, later.behind, later.there, j.watched.entries) in
    let size : length new.watches.lits ≡ length old.watches.lits = ap length lits ∙ length-set (set old.watches.lits (2 * c) no_lit) (2 * c + 1) no_lit ∙ length-set old.watches.lits (2 * c) no_lit in
    let more : length new.watches.fars ≡ length old.watches.fars = ap length fars ∙ length-set (set old.watches.fars (2 * c) false) (2 * c + 1) false ∙ length-set old.watches.fars (2 * c) false in
    record {
      grounded = rw (clauses, assigned) j.grounded;
      watched = rw (clauses, assigned, queue)
          (watched_out old.clauses.lists old.watches.lits old.assigned.trail old.queue.checked (heads_of old.queue old.watches.fars) j.watched new.watches.lits c size
          (λ x is. ap (λ (ls : List Literal). (lit_at ls x).var) lits ∙ ap (λ (l : Literal). l.var) (both_gone old.watches.lits c x there is))
          (λ x ne. ap (λ (ls : List Literal). lit_at ls x) lits ∙ other_lit old.watches.lits c x ne) later (heads_of old.queue new.watches.fars)
          (λ x ne. ap (place_in_queue old.queue) (ap (λ (fs : List Bool). far_at fs x) fars ∙ other_far old.watches.fars c x ne)));
      checked_in = rw (clauses, queue) j.checked_in;
      head_in = rw (assigned, queue) j.head_in;
      present = rw (assigned, queue) j.present;
      fars = more ∙ j.fars ∙ sym size;
      lists = omega (arith, lists, j.lists, ap (λ (a : TrailState). a.vars) assigned);
      blockers = blockers_again old new j clauses size stays_in;
      rooms = rooms_again old new j clauses room;
      in_range = rw (clauses, assigned) j.in_range;
      clauses = rw clauses j.clauses;
    }

-- the second entry of a clause still watches where the first one left
pub second_there : (p : Parts) → AreJoined p → (c : ℕ) → c < length p.clauses.lists → 1 ≤ (lit_at p.watches.lits (2 * c)).var → (now : List Literal) → now ≡ set p.watches.lits (2 * c) no_lit → lit_at now (2 * c + 1) ≡ lit_at p.watches.lits (2 * c + 1)
second_there p j c there some now is = ap (λ (ls : List Literal). lit_at ls (2 * c + 1)) is ∙ get_or-set_other p.watches.lits (2 * c) (2 * c + 1) no_lit no_lit (λ same. absurd (omega (arith, same)))

pub second_listed : (p : Parts) → AreJoined p → (c : ℕ) → c < length p.clauses.lists → 1 ≤ (lit_at p.watches.lits (2 * c)).var → code_of (lit_at p.watches.lits (2 * c + 1)) < p.watches.lists
second_listed p j c there some =
    code_listed p j c (lit_at p.watches.lits (2 * c + 1)) there (second_pair p j c there some).in_clause

pub first_listed : (p : Parts) → AreJoined p → (c : ℕ) → c < length p.clauses.lists → 1 ≤ (lit_at p.watches.lits (2 * c)).var → code_of (lit_at p.watches.lits (2 * c)) < p.watches.lists
first_listed p j c there some = code_listed p j c (lit_at p.watches.lits (2 * c)) there (first_pair p j c there some).in_clause

-- ---- what such a clause has where all was looked at

-- the literal isn't false, or no literal of the clause guards it
abbrev pub IsNotGuarded : Parts → ℕ → Literal → Type 0
IsNotGuarded p c l = Guards p.assigned.trail (length p.assigned.trail) l (clause_at p.clauses.lists c) → Contains (literals p.assigned.trail) (negation l) → ⊥

first_two_apart : (clause : List Literal) → IsOrdered clause → 2 ≤ length clause → get_or clause 0 no_lit ≢ get_or clause 1 no_lit
first_two_apart clause ordered long same = Rattle.sat_state.proofs.Added.precedes_apart (get_or clause 0 no_lit) (get_or clause 1 no_lit) (ordered 0 1 no_lit (omega arith) (omega (arith, long))) same

at_place : (clause : List Literal) (k : ℕ) → k < length clause → Contains clause (get_or clause k no_lit)
at_place clause k h = (k, h, get_or_default clause k (get_or clause k no_lit) no_lit h)

-- the first two literals of a clause, in a list of the same literals
pub first_two : (clause lits : List Literal) (one other : Literal) → lits ≡ clause → IsOrdered clause → 2 ≤ length clause → one ≡ get_or lits 0 one → other ≡ get_or lits 1 other → AreTwoOf clause one other
first_two clause lits one other same ordered long first second =
    let one_is : one ≡ get_or clause 0 no_lit = first ∙ ap (λ (ls : List Literal). get_or ls 0 one) same ∙ get_or_default clause 0 one no_lit (omega (arith, long)) in
    let other_is : other ≡ get_or clause 1 no_lit = second ∙ ap (λ (ls : List Literal). get_or ls 1 other) same ∙ get_or_default clause 1 other no_lit (omega (arith, long)) in
    record {
      one_in = subst (Contains clause) (sym one_is) (at_place clause 0 (omega (arith, long)));
      other_in = subst (Contains clause) (sym other_is) (at_place clause 1 (omega (arith, long)));
      two = λ equal. first_two_apart clause ordered long (sym one_is ∙ equal ∙ other_is);
    }

-- a literal that guards within a clause guards within one that has its literals
guards_more : (trail : List Entry) (head : ℕ) (l : Literal) (few many : List Literal) → ((x : Literal) → Contains few x → Contains many x) → Guards trail head l few → Guards trail head l many
guards_more trail head l few many more guards k d h is = let t = guards k d h is in record { literal = t.literal; in_clause = more t.literal t.in_clause; is_true = t.is_true }

-- where no literal of a clause is false and guarded, two aren't false
module _ (p : Parts) (j : AreJoined p) (seen : IsAllSeen p) where
  abbrev trues : List Literal
  trues = literals p.assigned.trail

  -- no literal of the clause is false and guarded
  abbrev IsOpen : List Literal → Type 0
  IsOpen clause = (l : Literal) → Contains clause l → Guards p.assigned.trail (length p.assigned.trail) l clause → Contains trues (negation l) → ⊥

  two_more : (few many : List Literal) → ((x : Literal) → Contains few x → Contains many x) → HasTwoNotFalse trues few → HasTwoNotFalse trues many
  two_more few many more two = record {
    one = two.one;
    other = two.other;
    two = two.two;
    one_in = more two.one two.one_in;
    other_in = more two.other two.other_in;
    one_not_false = two.one_not_false;
    other_not_false = two.other_not_false;
  }

  two_watched : (c : ℕ) → c < length p.clauses.lists → 1 ≤ (lit_at p.watches.lits (2 * c)).var → IsOpen (clause_at p.clauses.lists c) → HasTwoNotFalse trues (clause_at p.clauses.lists c)
  two_watched c there some unguarded =
      let a = first_pair p j c there some in
      let b = second_pair p j c there some in
      record {
        one = lit_at p.watches.lits (2 * c);
        other = lit_at p.watches.lits (2 * c + 1);
        two = a.two;
        one_in = a.in_clause;
        other_in = b.in_clause;
        one_not_false = unguarded (lit_at p.watches.lits (2 * c)) a.in_clause (first_guard p j c there some seen);
        other_not_false = unguarded (lit_at p.watches.lits (2 * c + 1)) b.in_clause (second_guard p j c there some seen);
      }

  -- a clause within which one of no more than one literal lies
  two_short : (c d : ℕ) → c < length p.clauses.lists → d < length p.clauses.lists → 2 ≤ length (clause_at p.clauses.lists c) → length (clause_at p.clauses.lists d) < 2 → ((x : Literal) → Contains (clause_at p.clauses.lists d) x → Contains (clause_at p.clauses.lists c) x)
      → IsOpen (clause_at p.clauses.lists c) → HasTwoNotFalse trues (clause_at p.clauses.lists c)
  two_short c d c_in d_in long small within unguarded =
      let clause = clause_at p.clauses.lists c in
      let one = j.watched.short d (omega (arith, d_in, seen.checked)) small in
      let t = get_or (clause_at p.clauses.lists d) 0 no_lit in
      let t_in = within t (at_place (clause_at p.clauses.lists d) 0 one.0) in
      let low : IsTrueBy p.assigned.trail t 0 = one.1 0 no_lit one.0 in
      let guards : (l : Literal) → Guards p.assigned.trail (length p.assigned.trail) l clause
      = λ l k e h is. record { literal = t; in_clause = t_in; is_true = record { entry = low.entry; there = low.there; names = low.names; low = omega (arith, low.low) } } in
      record {
        one = get_or clause 0 no_lit;
        other = get_or clause 1 no_lit;
        two = first_two_apart clause (j.clauses c [] c_in).ordered long;
        one_in = at_place clause 0 (omega (arith, long));
        other_in = at_place clause 1 (omega (arith, long));
        one_not_false = unguarded (get_or clause 0 no_lit) (at_place clause 0 (omega (arith, long))) (guards (get_or clause 0 no_lit));
        other_not_false = unguarded (get_or clause 1 no_lit) (at_place clause 1 (omega (arith, long))) (guards (get_or clause 1 no_lit));
      }

  two_within : (left c : ℕ) → length p.clauses.lists ≤ left + c → c < length p.clauses.lists → 2 ≤ length (clause_at p.clauses.lists c) → IsOpen (clause_at p.clauses.lists c) → HasTwoNotFalse trues (clause_at p.clauses.lists c)
  two_within zero c most there long unguarded = absurd (omega (arith, most, there))
  two_within (suc left) c most there long unguarded = ⊎_elim
      (λ (none : (lit_at p.watches.lits (2 * c)).var ≡ 0).
      let h = j.watched.out c there long none in
      let few = clause_at p.clauses.lists h.later in
      let many = clause_at p.clauses.lists c in
      ⊎_elim
      (λ (small : length few < 2). two_short c h.later there h.there long small h.within unguarded)
      (λ (lg : 2 ≤ length few).
      two_more few many h.within
      (two_within left h.later (omega (arith, most, h.behind)) h.there lg
      (λ l in_few guards. unguarded l (h.within l in_few) (guards_more p.assigned.trail (length p.assigned.trail) l few many h.within guards))))
      (cases_lt (length few) 2))
      (λ (some : (lit_at p.watches.lits (2 * c)).var ≢ 0). two_watched c there (omega (arith, some)) unguarded)
      (cases_eq (lit_at p.watches.lits (2 * c)).var 0)

  pub two_open_at : (c : ℕ) → c < length p.clauses.lists → 2 ≤ length (clause_at p.clauses.lists c) → IsOpen (clause_at p.clauses.lists c) → HasTwoNotFalse trues (clause_at p.clauses.lists c)
  two_open_at c there long unguarded = two_within (length p.clauses.lists) c (omega arith) there long unguarded

-- where no literal isn't false, or one alone, there are no two
pub none_two : (trues clause lits : List Literal) → lits ≡ clause → All (λ l. Rattle.cnf_core.specs.Literal.IsVariable l.var) lits → All (λ l. code_of l ≢ 0 → is_false trues l ≡ true) lits → HasTwoNotFalse trues clause → ⊥
none_two trues clause lits same variables none two =
    two.one_not_false (All-contains (λ (l : Literal). Contains trues (negation l)) clause two.one (none_open trues clause lits same variables none) two.one_in)

pub one_two : (trues clause lits : List Literal) (one : Literal) → lits ≡ clause → All (λ l. code_of l ≢ code_of one → is_false trues l ≡ true) lits → HasTwoNotFalse trues clause → ⊥
one_two trues clause lits one same others two =
    let false_at : (l : Literal) → Contains clause l → l ≢ one → Contains trues (negation l)
    = λ l h ne. Contains-from_among trues (negation l) (All-contains (λ (x : Literal). code_of x ≢ code_of one → is_false trues x ≡ true) lits l others (subst (λ (ls : List Literal). Contains ls l) (sym same) h) (codes_apart l one ne)) in
    elim (same_or_not two.one one) [
      | inl is ↦ two.other_not_false (false_at two.other two.other_in (λ also. two.two (is ∙ sym also)))
      | inr ne ↦ two.one_not_false (false_at two.one two.one_in ne)
    ]
