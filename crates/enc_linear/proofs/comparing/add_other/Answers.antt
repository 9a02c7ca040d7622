use Rattle.std.proofs.Common.{pos, ◌+ℤ◌, arith}
use Rattle.std.proofs.lemmas.Int.{ints}
use Rattle.enc_linear.specs.Terms.{total, worth_of}
use Rattle.enc_linear.proofs.Totals.{apart_said, total_none, total_one, total_three, total_two}
use Rattle.enc_linear.proofs.comparing.add_other.Goals as goal

pub returns-in-empty : goal.returns-in-empty
returns-in-empty c =
    apart_said c.add_none_apart.result c.args.layout.now c.args.f.now c.args.layout.now c.add_none_apart.new.f c.args.guards.now (λ values. pos 0) (λ values. total values c.args.terms.now) _ c.args.number c.requires.is_layout c.add_none_apart.ensures (omega (arith, ints))
    (λ values. total_none values c.args.terms.now (omega (arith, c.in-empty.len_below)))

pub returns-in-len1 : goal.returns-in-len1
returns-in-len1 c =
    apart_said c.add_one_apart.result c.args.layout.now c.args.f.now c.args.layout.now c.add_one_apart.new.f c.args.guards.now (λ values. worth_of values c.one-item.result) (λ values. total values c.args.terms.now) _ c.args.number c.requires.is_layout c.add_one_apart.ensures (omega (arith, ints))
    (λ values. total_one values c.args.terms.now c.one-item.result (omega (arith, c.in-len1.len_at_least, c.in-len1.len_below)) c.one-item.is)

pub returns-in-len2 : goal.returns-in-len2
returns-in-len2 c =
    apart_said c.add_two_apart.result c.args.layout.now c.args.f.now c.args.layout.now c.add_two_apart.new.f c.args.guards.now (λ values. worth_of values c.one-item-then-terms-lt3.result +ℤ worth_of values c.two-item.result) (λ values. total values c.args.terms.now) _ c.args.number c.requires.is_layout c.add_two_apart.ensures (omega (arith, ints))
    (λ values. total_two values c.args.terms.now c.one-item-then-terms-lt3.result c.two-item.result (omega (arith, c.in-len2.len_at_least, c.in-len2.len_below)) c.one-item-then-terms-lt3.is c.two-item.is)

pub returns-in-len3 : goal.returns-in-len3
returns-in-len3 c =
    apart_said c.add_three_apart.result c.args.layout.now c.args.f.now c.args.layout.now c.add_three_apart.new.f c.args.guards.now (λ values. worth_of values c.one-item-then-terms-lt4.result +ℤ (worth_of values c.two-item-then-terms-lt4.result +ℤ worth_of values c.three-item.result)) (λ values. total values c.args.terms.now) _ c.args.number c.requires.is_layout c.add_three_apart.ensures (omega (arith, ints))
    (λ values. total_three values c.args.terms.now c.one-item-then-terms-lt4.result c.two-item-then-terms-lt4.result c.three-item.result (omega (arith, c.in-len3.len_at_least, c.in-len3.len_below)) c.one-item-then-terms-lt4.is c.two-item-then-terms-lt4.is c.three-item.is)
