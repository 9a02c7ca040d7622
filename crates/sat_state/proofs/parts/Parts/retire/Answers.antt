use Rattle.std.proofs.Common.{◌+◌, ◌*◌, Bool, List, Contains, set, false, refl, sym, ap, ◌∙◌, subst, inl, arith}
use Rattle.std.proofs.lemmas.List.Elements.{All-contains}
use Rattle.cnf_core.specs.Literal.{Literal}
use Rattle.sat_state.specs.Watching.{no_lit}
use Rattle.sat_state.specs.Guards.{HasLater}
use Rattle.sat_state.proofs.Retired.{first_listed, joined_out}
use Rattle.sat_state.proofs.parts.Parts.retire.Goals as goal

pub unlink-requires-clause-known : goal.unlink-requires-clause-known
unlink-requires-clause-known c =
    first_listed c.args.self.now c.requires.joined c.args.number (omega (arith, c.if-number-later.false, c.if-later-len.false, c.len.ensures)) (c.is_linked.ensures.some c.if-is_linked.true)

pub returns-then-is_linked-clause-joined : goal.returns-then-is_linked-clause-joined
returns-then-is_linked-clause-joined c =
    let old = c.args.self.now in
    let n = c.args.number in
    let later : HasLater old.clauses.lists n = record {
      later = c.args.later;
      behind = omega (arith, c.if-number-later.false);
      there = omega (arith, c.if-later-len.false, c.len.ensures);
      within = λ l h.
          subst (λ (ls : List Literal). Contains ls l) c.lits-2.ensures
          (All-contains (Contains c.lits-2.result.now) c.lits.result.now l (c.are_within.ensures c.if-not-are_within.false) (subst (λ (ls : List Literal). Contains ls l) (sym c.lits.ensures) h));
    } in
    joined_out old _ n c.requires.joined later refl
    (c.unlink-then-is_linked.ensures.lits ∙ ap (λ (ls : List Literal). set ls (2 * n + 1) no_lit) c.unlink.ensures.lits)
    (c.unlink-then-is_linked.ensures.fars ∙ ap (λ (fs : List Bool). set fs (2 * n + 1) false) c.unlink.ensures.fars)
    (omega (arith, c.unlink-then-is_linked.ensures.lists, c.unlink.ensures.lists))
    (record { each = λ x s. inl (c.unlink.ensures.stands x (c.unlink-then-is_linked.ensures.stands x s)) })
    (record { each = λ k. omega (arith, c.unlink.ensures.kept k, c.unlink-then-is_linked.ensures.kept k) }) refl refl
