use Rattle.std.proofs.Common.{◌≡◌, length, w64, ap, subst, sym, arith}
use Rattle.std.proofs.lemmas.Int.{to_z-of_z}
use Rattle.enc_var.specs.Decoding.{VariableLiterals, literal_of_note}
use Rattle.enc_var.specs.VariableInside.{literals_of}
use Rattle.std.specs.List.{Contains}
use Rattle.ep_base.specs.Runs.{IsAscending}
use Rattle.enc_var.proofs.Places.{below_found}
use Rattle.enc_var.proofs.Choices.{counted_below, noted_at}
use Rattle.enc_var.proofs.variables.Variable.note.Goals as goal

pub place_literal-requires-clause-place : goal.place_literal-requires-clause-place
place_literal-requires-clause-place c =
    let v = c.args.v in
    let inside = c.self.inside in
    let is = counted_below c.count_below-place.result _ _ inside.domain _ v c.deref.ensures.value c.self.invariant.values (to_z-of_z w64 v c.ranges.v) c.count_below-place.ensures.count in
    let long : length inside.values.items ≡ length inside.domain = ap length c.self.invariant.values in
    let found = subst (λ (e : VariableLiterals). Contains e.domain v) (sym c.self.view_is) c.requires in
    omega (arith, is, long, c.len.ensures, below_found inside.domain v (subst IsAscending c.self.invariant.values c.self.invariant.ascending) found)

pub returns : goal.returns
returns c =
    let v = c.args.v in
    let inside = c.self.inside in
    let is = counted_below c.count_below-place.result _ _ inside.domain _ v c.deref.ensures.value c.self.invariant.values (to_z-of_z w64 v c.ranges.v) c.count_below-place.ensures.count in
    let long : length inside.values.items ≡ length inside.domain = ap length c.self.invariant.values in
    subst (λ (e : VariableLiterals). c.place_literal.result ≡ literal_of_note e v) c.self.view_is
    (noted_at (literals_of inside) v c.len.result c.count_below-place.result c.place_literal.result (omega (arith, long, c.len.ensures)) is c.place_literal.ensures)
