use Rattle.std.proofs.Common.{◌≡◌, ℕ, ◌<◌, sym, ◌∙◌, subst, arith}
use Rattle.opb_text.specs.Words.{HasWord, sign_length}
use Rattle.opb_text.proofs.Cutting.{begins_some, first_goes, more_goes, ends_here, ends_at_end, sign_has_word, other_has_word}
use Rattle.opb_text.proofs.words.word_length.Goals as goal

pub loop-length-init : goal.loop-length-init
loop-length-init c =
    let none : sign_length c.args.rest.now ≡ 0 = sym c.sign_length-sign.ensures ∙ (let e : c.sign_length-sign.result ≡ 0 = omega (arith, c.if-sign-gt0.false) in e) in
    (omega arith, omega (arith, begins_some c.args.rest.now c.requires), first_goes c.args.rest.now c.requires none)

pub loop-length-preserved : goal.loop-length-preserved
loop-length-preserved c = (
  omega arith,
  omega (arith, c.loop-length-test.true),
  more_goes c.loop-length.length c.args.rest.now c.ends_word.result c.loop-length.invariant.2 c.ends_word.ensures c.if-not-ends_word.true,
)

pub returns-then-sign-gt0 : goal.returns-then-sign-gt0
returns-then-sign-gt0 c =
    let some : 0 < sign_length c.args.rest.now = subst (λ (n : ℕ). 0 < n) c.sign_length-sign.ensures c.if-sign-gt0.true in
    subst (HasWord c.args.rest.now) (sym c.sign_length-sign.ensures) (sign_has_word c.args.rest.now some)

pub returns-after-loop-length : goal.returns-after-loop-length
returns-after-loop-length c =
    other_has_word c.loop-length.length c.args.rest.now c.loop-length.invariant.0 c.loop-length.invariant.1 c.loop-length.invariant.2
    (ends_at_end c.loop-length.length c.args.rest.now c.loop-length-test.false)

pub returns-else-not-ends_word : goal.returns-else-not-ends_word
returns-else-not-ends_word c =
    other_has_word c.loop-length.length c.args.rest.now c.loop-length.invariant.0 c.loop-length.invariant.1 c.loop-length.invariant.2
    (ends_here c.loop-length.length c.args.rest.now c.ends_word.result c.ends_word.ensures c.if-not-ends_word.false)
