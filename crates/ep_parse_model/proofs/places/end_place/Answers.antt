use Rattle.std.proofs.Common.{◌<◌, ◌≤◌, length, get_or, sym, ap, ◌∙◌, arith}
use Rattle.ep_base.specs.Tokens.{place_after}
use Rattle.ep_lexer.proofs.PlaceSteps.{place_small, place_start, place_step}
use Rattle.ep_parse_model.proofs.places.end_place.Goals as goal

pub loop-byte-init : goal.loop-byte-init
loop-byte-init c = sym (place_start c.args.text.now)

pub after-place-requires-clause-line : goal.after-place-requires-clause-line
after-place-requires-clause-line c =
    let within : c.loop-byte.byte-index ≤ length c.args.text.now = omega arith in
    let small = place_small c.args.text.now c.loop-byte.byte-index within in
    let same = ap (λ p. p.line) c.loop-byte.invariant in
    omega (arith, small.0, same)

pub after-place-requires-clause-column : goal.after-place-requires-clause-column
after-place-requires-clause-column c =
    let within : c.loop-byte.byte-index ≤ length c.args.text.now = omega arith in
    let small = place_small c.args.text.now c.loop-byte.byte-index within in
    let same = ap (λ p. p.column) c.loop-byte.invariant in
    omega (arith, small.1, same)

pub loop-byte-preserved : goal.loop-byte-preserved
loop-byte-preserved c =
    let text = c.args.text.now in
    let i = c.loop-byte.byte-index in
    let within : i < length text = omega arith in
    c.after-place.ensures ∙ ap (λ p. place_after p (get_or text i 0)) c.loop-byte.invariant ∙ sym (place_step text i within)
