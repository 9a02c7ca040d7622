use Rattle.std.proofs.Common.{◌≡◌, length, w64, ap, subst, sym, ◌∙◌, arith}
use Rattle.std.proofs.lemmas.Int.{to_z-of_z}
use Rattle.ep_base.specs.Numbers.{has_number}
use Rattle.enc_var.specs.Decoding.{VariableLiterals, eq_of, literal_of_note}
use Rattle.enc_var.specs.VariableInside.{literals_of}
use Rattle.enc_var.specs.declared.known.Known.TheVariants as known
use Rattle.enc_var.proofs.Choices.{eq_is, eq_none, eq_single}
use Rattle.enc_var.proofs.Counts.{tested}
use Rattle.enc_var.proofs.variables.Variable.eq.Goals as goal

pub returns-then-not-has : goal.returns-then-not-has
returns-then-not-has c =
    let v = c.args.v in
    let inside = c.self.inside in
    let has : c.has.result ≡ has_number inside.domain v = tested c.has.result inside.domain _ c.has.ensures ∙ ap (λ w. has_number inside.domain w) (to_z-of_z w64 v c.ranges.v) in
    subst (λ (e : VariableLiterals). known.False ≡ eq_of e v) c.self.view_is (eq_none (literals_of inside) v (sym has ∙ c.if-not-has.true))

pub returns-then-len-le1 : goal.returns-then-len-le1
returns-then-len-le1 c =
    let v = c.args.v in
    let inside = c.self.inside in
    let has : c.has.result ≡ has_number inside.domain v = tested c.has.result inside.domain _ c.has.ensures ∙ ap (λ w. has_number inside.domain w) (to_z-of_z w64 v c.ranges.v) in
    let long : length inside.values.items ≡ length inside.domain = ap length c.self.invariant.values in
    subst (λ (e : VariableLiterals). known.True ≡ eq_of e v) c.self.view_is (eq_single (literals_of inside) v (sym has ∙ c.if-not-has.false) (omega (arith, long, c.len.ensures, c.if-len-le1.true)))

pub returns-else-len-le1 : goal.returns-else-len-le1
returns-else-len-le1 c =
    let v = c.args.v in
    let inside = c.self.inside in
    let has : c.has.result ≡ has_number inside.domain v = tested c.has.result inside.domain _ c.has.ensures ∙ ap (λ w. has_number inside.domain w) (to_z-of_z w64 v c.ranges.v) in
    let long : length inside.values.items ≡ length inside.domain = ap length c.self.invariant.values in
    ap (λ l. known.Is l) (c.note.ensures ∙ ap (λ w. literal_of_note c.args.self.now w) (to_z-of_z w64 v c.ranges.v))
    ∙ subst (λ (e : VariableLiterals). known.Is (literal_of_note e v) ≡ eq_of e v) c.self.view_is (eq_is (literals_of inside) v (sym has ∙ c.if-not-has.false) (omega (arith, long, c.len.ensures, c.if-len-le1.false)))
