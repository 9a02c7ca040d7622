use Rattle.std.proofs.Common.{◌≡◌, ◌≢◌, ◌+◌, ◌*◌, ◌≤◌, ◌<◌, ◌⊎◌, ◌∷◌, [], ◌++◌, ℕ, Bool, List, true, false, eqb, length, length-append, set, All, Contains, refl, sym, ap, ◌∙◌, subst, inl, inr, ⊎_elim, arith}
use Rattle.std.proofs.lemmas.List.{length-set}
use Rattle.std.proofs.lemmas.Bool.{eqb-true}
use Rattle.cnf_core.specs.Literal.{Literal, code_of, IsClause}
use Rattle.sat_state.specs.Trail.{literals, level_of, IsOpenBelow}
use Rattle.sat_state.specs.Watching.{no_lit, lit_at, far_at, listed_at, IsInSomeList, links}
use Rattle.sat_state.specs.Guards.{is_false}
use Rattle.sat_state.specs.Listed.{Listed}
use Rattle.sat_state.specs.Joined.{heads_of}
use Rattle.sat_state.proofs.Going.{joined_low, code_some, code_two}
use Rattle.sat_state.proofs.Added.{picked_var, some_high, short_bottom, ArePicked, picked, IsNew, new_short, new_long, same_before, same_before_two, tier_before, tier_before_two, joined_added, added_first, added_second, both_of}
use Rattle.sat_state.proofs.parts.Parts.append.Goals as goal

pub choose-one-requires-clause-some : goal.choose-one-requires-clause-some
choose-one-requires-clause-some c =
    let trail = c.args.self.now.assigned.trail in
    let may = subst (λ (ls : List Literal). (level_of trail ≡ 0) ⊎ IsOpenBelow trail ls) (sym c.lits-lits.ensures.value) c.requires.level in
    some_high trail c.lits-lits.result.now 0 may c.lits-lits.ensures.ordered (omega (arith, c.if-lits-lt2.false))

pub choose-other-requires-clause-some : goal.choose-other-requires-clause-some
choose-other-requires-clause-some c =
    let trail = c.args.self.now.assigned.trail in
    let may = subst (λ (ls : List Literal). (level_of trail ≡ 0) ⊎ IsOpenBelow trail ls) (sym c.lits-lits.ensures.value) c.requires.level in
    some_high trail c.lits-lits.result.now c.code.result may c.lits-lits.ensures.ordered (omega (arith, c.if-lits-lt2.false))

pub returns-then-lits-lt2-clause-joined : goal.returns-then-lits-lt2-clause-joined
returns-then-lits-lt2-clause-joined c =
    let old = c.args.self.now in
    let clause = c.args.clause in
    let lits = old.watches.lits in
    let value = c.lits-lits.ensures.value in
    let is_clause : IsClause clause = subst IsClause value (record { ordered = c.lits-lits.ensures.ordered; variables = c.lits-lits.ensures.variables }) in
    let small : length clause < 2 = omega (arith, c.if-lits-lt2.true, ap length value) in
    let fars = old.watches.fars in
    let heads = heads_of old.queue c.push.new.self.fars in
    let fresh : IsNew old.assigned.trail heads (length old.clauses.lists) clause (lits ++ no_lit ∷ no_lit ∷ [])
    = new_short old.assigned.trail heads (length old.clauses.lists) clause lits c.requires.joined.watched.entries small (short_bottom old.assigned.trail clause c.requires.level small) in
    joined_added old _ clause c.requires.joined c.requires.level c.requires.known is_clause
    (omega (arith, ap length c.push.ensures.lits, length-append lits (no_lit ∷ no_lit ∷ [])))
    (λ x lt. ap (λ (ls : List Literal). lit_at ls x) c.push.ensures.lits ∙ same_before lits x lt)
    (omega (arith, ap length c.push.ensures.fars, length-append fars (false ∷ false ∷ [])))
    (λ x lt. ap (λ (fs : List Bool). far_at fs x) c.push.ensures.fars ∙ tier_before fars x lt)
    (subst (λ (ls : List Literal). IsNew old.assigned.trail heads (length old.clauses.lists) clause ls) (sym c.push.ensures.lits) fresh)
    c.push-then-lits-lt2.ensures (omega (arith, c.push.ensures.lists))
    (λ x s. inl (subst (λ (ls : List Listed). IsInSomeList ls x) c.push.ensures.stands s))
    (λ k. omega (arith, c.requires.list_room k, ap (λ (ls : List Listed). (listed_at ls k).room) c.push.ensures.stands)) refl refl

pub returns-clause-joined : goal.returns-clause-joined
returns-clause-joined c =
    let old = c.args.self.now in
    let trail = old.assigned.trail in
    let trues = literals trail in
    let heads = heads_of old.queue c.link-2.new.self.fars in
    let fars = old.watches.fars in
    let clause = c.args.clause in
    let lits = old.watches.lits in
    let n = length old.clauses.lists in
    let a = c.choose-one.result in
    let b = c.choose-other.result in
    let found = c.lits-lits.result.now in
    let value = c.lits-lits.ensures.value in
    let is_clause : IsClause clause = subst IsClause value (record { ordered = c.lits-lits.ensures.ordered; variables = c.lits-lits.ensures.variables }) in
    let long : 2 ≤ length clause = omega (arith, c.if-lits-lt2.false, ap length value) in
    let entries = c.requires.joined.watched.entries in
    let others_b : is_false trues b ≡ true → All (λ l. code_of l ≢ code_of a → is_false trues l ≡ true) found
    = λ f. subst (λ (k : ℕ). All (λ l. code_of l ≢ k → is_false trues l ≡ true) found) c.code.ensures.value (c.choose-other.ensures.others f) in
    let pick : ArePicked trail found a b
    = picked trail found a b (joined_low old c.requires.joined) c.choose-one.ensures.in_clause c.choose-other.ensures.in_clause (λ same. c.choose-other.ensures.other (same ∙ sym c.code.ensures.value))
    (λ k d h. code_some (Rattle.std.proofs.Common.get_or found k d) (c.lits-lits.ensures.variables k d h).0)
    c.choose-one.ensures.high c.choose-one.ensures.others c.choose-other.ensures.high others_b in
    let fresh : IsNew trail heads n clause (set (set (lits ++ no_lit ∷ no_lit ∷ []) (2 * n) a) (2 * n + 1) b)
    = new_long trail heads n clause lits a b entries long (picked_var clause a is_clause.variables (subst (λ (ls : List Literal). Contains ls a) value c.choose-one.ensures.in_clause))
    (picked_var clause b is_clause.variables (subst (λ (ls : List Literal). Contains ls b) value c.choose-other.ensures.in_clause)) (subst (λ (ls : List Literal). ArePicked trail ls a b) value pick) in
    let is_lits : c.link-2.new.self.lits ≡ set (set (lits ++ no_lit ∷ no_lit ∷ []) (2 * n) a) (2 * n + 1) b
    = c.link-2.ensures.lits ∙ ap (λ (ls : List Literal). set ls (2 * c.len-entry.result + 1) b) (c.link.ensures.lits ∙ ap (λ (ls : List Literal). set ls (2 * c.len-entry.result) a) c.push-2.ensures.lits)
    ∙ ap (λ (k : ℕ). set (set (lits ++ no_lit ∷ no_lit ∷ []) (2 * k) a) (2 * k + 1) b) c.len-entry.ensures in
    let long_lits : length (set (set (lits ++ no_lit ∷ no_lit ∷ []) (2 * n) a) (2 * n + 1) b) ≡ length lits + 2
    = omega (arith, length-set (set (lits ++ no_lit ∷ no_lit ∷ []) (2 * n) a) (2 * n + 1) b, length-set (lits ++ no_lit ∷ no_lit ∷ []) (2 * n) a, length-append lits (no_lit ∷ no_lit ∷ [])) in
    let said = eqb (length found) 2 in
    let two : said ≡ true → length clause ≡ 2 = λ e. omega (arith, ap length value, eqb-true (length found) 2 e) in
    let tiers : c.link-2.new.self.fars ≡ set (set (fars ++ false ∷ false ∷ []) (2 * n) false) (2 * n + 1) false
    = c.link-2.ensures.fars ∙ ap (λ (fs : List Bool). set fs (2 * c.len-entry.result + 1) false) (c.link.ensures.fars ∙ ap (λ (fs : List Bool). set fs (2 * c.len-entry.result) false) c.push-2.ensures.fars)
    ∙ ap (λ (k : ℕ). set (set (fars ++ false ∷ false ∷ []) (2 * k) false) (2 * k + 1) false) c.len-entry.ensures in
    joined_added old _ clause c.requires.joined c.requires.level c.requires.known is_clause
    (omega (arith, ap length is_lits, length-set (set (lits ++ no_lit ∷ no_lit ∷ []) (2 * n) a) (2 * n + 1) b, length-set (lits ++ no_lit ∷ no_lit ∷ []) (2 * n) a, length-append lits (no_lit ∷ no_lit ∷ [])))
    (λ x lt. ap (λ (ls : List Literal). lit_at ls x) is_lits ∙ same_before_two lits n a b entries x lt)
    (omega (arith, ap length tiers, length-set (set (fars ++ false ∷ false ∷ []) (2 * n) false) (2 * n + 1) false, length-set (fars ++ false ∷ false ∷ []) (2 * n) false, length-append fars (false ∷ false ∷ [])))
    (λ x lt. ap (λ (fs : List Bool). far_at fs x) tiers ∙ tier_before_two fars n false false (c.requires.joined.fars ∙ entries) x lt)
    (subst (λ (ls : List Literal). IsNew trail heads n clause ls) (sym is_lits) fresh)
    c.push-3.ensures (omega (arith, c.link-2.ensures.lists, c.link.ensures.lists, c.push-2.ensures.lists))
    (λ x s. ⊎_elim
    (λ (was : IsInSomeList c.link.new.self.stands x). ⊎_elim
    (λ (stood : IsInSomeList c.push-2.new.self.stands x). inl (subst (λ (ls : List Listed). IsInSomeList ls x) c.push-2.ensures.stands stood))
    (λ (is : x ≡ record { entry = 2 * c.len-entry.result; pair = said; blocker = c.of.result }).
    inr (both_of old.clauses.lists clause c.link-2.new.self.lits x (2 * c.len-entry.result) said c.of.result is (omega (arith, c.len-entry.ensures)) (omega (arith, c.len-entry.ensures, ap length is_lits, long_lits, entries)) two
    (subst (λ (l : Literal). Contains clause l) (sym c.of.ensures) (subst (λ (ls : List Literal). Contains ls b) value c.choose-other.ensures.in_clause))))
    (c.link.ensures.stands x was))
    (λ (is : x ≡ record { entry = 2 * c.len-entry.result + 1; pair = said; blocker = c.of-2.result }).
    inr (both_of old.clauses.lists clause c.link-2.new.self.lits x (2 * c.len-entry.result + 1) said c.of-2.result is (omega (arith, c.len-entry.ensures)) (omega (arith, c.len-entry.ensures, ap length is_lits, long_lits, entries)) two
    (subst (λ (l : Literal). Contains clause l) (sym c.of-2.ensures) (subst (λ (ls : List Literal). Contains ls a) value c.choose-one.ensures.in_clause))))
    (c.link-2.ensures.stands x s))
    (λ k. omega (arith, c.requires.list_room k, c.link-2.ensures.kept k, c.link.ensures.kept k, ap (λ (ls : List Listed). (listed_at ls k).room) c.push-2.ensures.stands)) refl refl

pub link-requires-clause-room : goal.link-requires-clause-room
link-requires-clause-room c =
    let old = c.args.self.now in
    let trues = literals old.assigned.trail in
    let a = c.choose-one.result in
    let b = c.choose-other.result in
    let found = c.lits-lits.result.now in
    let value = c.lits-lits.ensures.value in
    let long : 2 ≤ length c.args.clause = omega (arith, c.if-lits-lt2.false, ap length value) in
    let others_b : is_false trues b ≡ true → All (λ l. code_of l ≢ code_of a → is_false trues l ≡ true) found
    = λ f. subst (λ (k : ℕ). All (λ l. code_of l ≢ k → is_false trues l ≡ true) found) c.code.ensures.value (c.choose-other.ensures.others f) in
    let pick : ArePicked old.assigned.trail found a b
    = picked old.assigned.trail found a b (joined_low old c.requires.joined) c.choose-one.ensures.in_clause c.choose-other.ensures.in_clause (λ same. c.choose-other.ensures.other (same ∙ sym c.code.ensures.value))
    (λ k d h. code_some (Rattle.std.proofs.Common.get_or found k d) (c.lits-lits.ensures.variables k d h).0)
    c.choose-one.ensures.high c.choose-one.ensures.others c.choose-other.ensures.high others_b in
    let variables = subst (λ (ls : List Literal). All (λ l. Rattle.cnf_core.specs.Literal.IsVariable l.var) ls) value c.lits-lits.ensures.variables in
    let some_a = picked_var c.args.clause a variables (subst (λ (ls : List Literal). Contains ls a) value c.choose-one.ensures.in_clause) in
    let some_b = picked_var c.args.clause b variables (subst (λ (ls : List Literal). Contains ls b) value c.choose-other.ensures.in_clause) in
    let first = added_first old c.args.clause a b c.requires.joined long some_a some_b (subst (λ (ls : List Literal). ArePicked old.assigned.trail ls a b) value pick) (subst (λ (k : ℕ). 2 ≤ k) c.code.ensures.value c.code.ensures.some) in
    omega (arith, first, ap (λ (ls : List Literal). links ls (code_of a)) c.push-2.ensures.lits, c.requires.list_room (code_of a), ap (λ (ls : List Listed). (listed_at ls (code_of a)).room) c.push-2.ensures.stands)

pub link-requires-2-clause-room : goal.link-requires-2-clause-room
link-requires-2-clause-room c =
    let old = c.args.self.now in
    let trues = literals old.assigned.trail in
    let n = length old.clauses.lists in
    let a = c.choose-one.result in
    let b = c.choose-other.result in
    let found = c.lits-lits.result.now in
    let value = c.lits-lits.ensures.value in
    let long : 2 ≤ length c.args.clause = omega (arith, c.if-lits-lt2.false, ap length value) in
    let others_b : is_false trues b ≡ true → All (λ l. code_of l ≢ code_of a → is_false trues l ≡ true) found
    = λ f. subst (λ (k : ℕ). All (λ l. code_of l ≢ k → is_false trues l ≡ true) found) c.code.ensures.value (c.choose-other.ensures.others f) in
    let pick : ArePicked old.assigned.trail found a b
    = picked old.assigned.trail found a b (joined_low old c.requires.joined) c.choose-one.ensures.in_clause c.choose-other.ensures.in_clause (λ same. c.choose-other.ensures.other (same ∙ sym c.code.ensures.value))
    (λ k d h. code_some (Rattle.std.proofs.Common.get_or found k d) (c.lits-lits.ensures.variables k d h).0)
    c.choose-one.ensures.high c.choose-one.ensures.others c.choose-other.ensures.high others_b in
    let variables = subst (λ (ls : List Literal). All (λ l. Rattle.cnf_core.specs.Literal.IsVariable l.var) ls) value c.lits-lits.ensures.variables in
    let some : 2 ≤ code_of b
    = code_two b (Rattle.std.proofs.lemmas.List.Elements.All-contains (λ (l : Literal). Rattle.cnf_core.specs.Literal.IsVariable l.var) c.args.clause b variables (subst (λ (ls : List Literal). Contains ls b) value c.choose-other.ensures.in_clause)).0 in
    let some_a = picked_var c.args.clause a variables (subst (λ (ls : List Literal). Contains ls a) value c.choose-one.ensures.in_clause) in
    let some_b = picked_var c.args.clause b variables (subst (λ (ls : List Literal). Contains ls b) value c.choose-other.ensures.in_clause) in
    let second = added_second old c.args.clause a b c.requires.joined long some_a some_b (subst (λ (ls : List Literal). ArePicked old.assigned.trail ls a b) value pick) some in
    let lits : c.link.new.self.lits ≡ set (old.watches.lits ++ no_lit ∷ no_lit ∷ []) (2 * n) a
    = c.link.ensures.lits ∙ ap (λ (ls : List Literal). set ls (2 * c.len-entry.result) a) c.push-2.ensures.lits ∙ ap (λ (k : ℕ). set (old.watches.lits ++ no_lit ∷ no_lit ∷ []) (2 * k) a) c.len-entry.ensures in
    omega (arith, second, ap (λ (ls : List Literal). links ls (code_of b)) lits, c.requires.list_room (code_of b), c.link.ensures.kept (code_of b), ap (λ (ls : List Listed). (listed_at ls (code_of b)).room) c.push-2.ensures.stands)
