use Rattle.std.proofs.Common.{◌≡◌, ℤ, length, pos, get_or, rules, ap, subst, sym, ◌∙◌, to_z, of_z, w64, arith}
use Rattle.std.proofs.lemmas.Int.{to_z-of_z}
use Rattle.enc_atoms.proofs.Decoded.{number_among}
use Rattle.enc_linear.proofs.Saying.{Passes, are_other, are_same, member_clause, member_none, names_more, passes_all}
use Rattle.enc_linear.proofs.Turns.{all_turns, begun}
use Rattle.enc_linear.specs.Guards.{IsMember, Unless}
use Rattle.std.specs.List.{Contains}
use Rattle.ep_flat.specs.Cons.{number_at}
use Rattle.enc_linear.proofs.member.add_membership.Goals as goal

pub loop-value-init : goal.loop-value-init
loop-value-init c =
    begun c.args.layout.now c.args.f.now (Passes c.args.guards.now c.args.var c.args.numbers.now c.args.inside) c.deref-value-items.result.now c.requires.is_layout c.requires.from_new

pub loop-value-preserved : goal.loop-value-preserved
loop-value-preserved c =
    let v : ℤ = get_or c.deref-value-items.result.now c.loop-value.value-index (pos 0) in
    let e : to_z w64 (of_z w64 v) ≡ v = to_z-of_z w64 v (search rules) in
    member_clause c.args.layout.now c.args.f.now c.loop-value.f c.add_clause.new.f c.args.guards.now c.deref.result.now c.is_not.result c.args.var c.args.numbers.now c.deref-value-items.result.now
    c.args.inside c.has.result (to_z w64 (of_z w64 v)) c.loop-value.value-index c.requires.is_layout c.loop-value-test.true e c.has.ensures (are_other c.has.result c.args.inside c.if-has-inside.false) (c.deref.ensures.value ∙ c.in_ok-atoms.ensures) c.is_not.ensures
    c.loop-value.invariant c.in_ok-add_clause.ensures

pub loop-value-preserved-then-has-inside : goal.loop-value-preserved-then-has-inside
loop-value-preserved-then-has-inside c =
    let v : ℤ = get_or c.deref-value-items.result.now c.loop-value.value-index (pos 0) in
    let e : to_z w64 (of_z w64 v) ≡ v = to_z-of_z w64 v (search rules) in
    member_none c.args.layout.now c.args.f.now c.loop-value.f c.args.guards.now c.args.var c.args.numbers.now c.deref-value-items.result.now
    c.args.inside c.has.result (to_z w64 (of_z w64 v)) c.loop-value.value-index c.requires.is_layout c.loop-value-test.true e c.has.ensures (are_same c.has.result c.args.inside c.if-has-inside.true)
    c.loop-value.invariant

pub add_clause-requires-clause-from_new : goal.add_clause-requires-clause-from_new
add_clause-requires-clause-from_new c = c.loop-value.invariant.goes_on.from_new

pub add_clause-requires-clause-is_layout : goal.add_clause-requires-clause-is_layout
add_clause-requires-clause-is_layout c = c.loop-value.invariant.goes_on.is_layout

pub add_clause-requires-clause-names : goal.add_clause-requires-clause-names
add_clause-requires-clause-names c =
    names_more (length c.args.layout.now) c.args.guards.now c.deref.result.now c.is_not.result c.requires.guards (omega (arith, ap (λ a. a.var) c.is_not.ensures, c.requires.var)) (c.deref.ensures.value ∙ c.in_ok-atoms.ensures)

pub returns : goal.returns
returns c =
    let items : c.deref-value-items.result.now ≡ c.domain.result.now = c.deref-value-items.ensures.value ∙ c.in_ok-values.ensures in
    all_turns c.args.layout.now c.args.f.now c.loop-value.f (Passes c.args.guards.now c.args.var c.args.numbers.now c.args.inside) (Unless c.args.guards.now (IsMember c.args.var c.args.numbers.now c.args.inside))
    c.deref-value-items.result.now c.loop-value.value-index c.requires.is_layout c.loop-value-test.false c.loop-value.invariant
    (λ values among. passes_all c.args.guards.now c.args.var c.args.numbers.now c.args.inside values c.deref-value-items.result.now
    (subst (λ xs. Contains xs (number_at values c.args.var)) (sym (items ∙ c.domain.ensures)) (number_among c.args.layout.now values c.args.var among.among c.requires.var)))
