use Rattle.std.proofs.Common.{◌≡◌, ◌+◌, ◌-◌, length, w64, ap, subst, ◌∙◌, arith}
use Rattle.std.proofs.lemmas.Int.{to_z-of_z}
use Rattle.enc_var.specs.Decoding.{VariableLiterals, le_of, no}
use Rattle.enc_var.specs.VariableInside.{literals_of}
use Rattle.enc_var.specs.declared.known.Known.TheVariants as known
use Rattle.enc_var.proofs.Choices.{counted_up_to, le_all, le_is, le_none}
use Rattle.enc_var.proofs.variables.Variable.le.Goals as goal

pub returns-then-count-eq0 : goal.returns-then-count-eq0
returns-then-count-eq0 c =
    let v = c.args.v in
    let inside = c.self.inside in
    let is = counted_up_to c.count_up_to-count.result _ _ inside.domain _ v c.deref.ensures.value c.self.invariant.values (to_z-of_z w64 v c.ranges.v) c.count_up_to-count.ensures.count in
    subst (λ (e : VariableLiterals). known.False ≡ le_of e v) c.self.view_is (le_none (literals_of inside) v c.count_up_to-count.result is (omega (arith, c.if-count-eq0.true)))

pub returns-then-len-count : goal.returns-then-len-count
returns-then-len-count c =
    let v = c.args.v in
    let inside = c.self.inside in
    let is = counted_up_to c.count_up_to-count.result _ _ inside.domain _ v c.deref.ensures.value c.self.invariant.values (to_z-of_z w64 v c.ranges.v) c.count_up_to-count.ensures.count in
    let long : length inside.values.items ≡ length inside.domain = ap length c.self.invariant.values in
    subst (λ (e : VariableLiterals). known.True ≡ le_of e v) c.self.view_is (le_all (literals_of inside) v c.count_up_to-count.result is (omega (arith, c.if-count-eq0.false)) (omega (arith, long, c.len.ensures, c.if-len-count.true)))

pub returns-else-len-count : goal.returns-else-len-count
returns-else-len-count c =
    let v = c.args.v in
    let inside = c.self.inside in
    let is = counted_up_to c.count_up_to-count.result _ _ inside.domain _ v c.deref.ensures.value c.self.invariant.values (to_z-of_z w64 v c.ranges.v) c.count_up_to-count.ensures.count in
    let long : length inside.values.items ≡ length inside.domain = ap length c.self.invariant.values in
    ap (λ l. known.Is l) c.new.ensures
    ∙ subst (λ (e : VariableLiterals). known.Is (no (inside.first + (c.count_up_to-count.result - 1))) ≡ le_of e v) c.self.view_is (le_is (literals_of inside) v c.count_up_to-count.result is (omega (arith, c.if-count-eq0.false)) (omega (arith, long, c.len.ensures, c.if-len-count.false)))
