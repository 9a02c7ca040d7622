use Rattle.ep_eval.proofs.Words.{◌≡◌, ◌+ℤ◌, ℕ, ℤ, List, pos, get_or, sym, ap, ◌∙◌, w64, to_z, of_z, arith, rules, int_eq, ints, to_z-of_z}
use Rattle.ep_eval.proofs.ListLaws.{times_more, times_none, times_same}
use Rattle.ep_eval.proofs.counts.times.Goals as goal

pub loop-part-init : goal.loop-part-init
loop-part-init c = record { value = times_none _; low = omega (arith, ints); high = omega (arith, ints) }

pub loop-part-preserved : goal.loop-part-preserved
loop-part-preserved c =
    let all : List ℤ = c.args.parts.now in
    let k : ℕ = c.loop-part.part-index in
    let n : ℤ = to_z w64 (of_z w64 c.args.number) in
    let x : ℤ = get_or all k (pos 0) in
    let t : ℤ = to_z w64 c.loop-part.times-bits in
    let word : to_z w64 (of_z w64 x) ≡ x = to_z-of_z w64 x (search rules) in
    let exact : to_z w64 (of_z w64 (t +ℤ pos 1)) ≡ t +ℤ pos 1 = to_z-of_z w64 (t +ℤ pos 1) (omega (arith, ints, c.loop-part.invariant.low, c.loop-part.invariant.high, c.loop-part-test.true)) in
    let low = c.loop-part.invariant.low in
    let high = c.loop-part.invariant.high in
    record {
      value =
          exact ∙ ap (λ y. y +ℤ pos 1) c.loop-part.invariant.value
          ∙ sym (times_more all n k c.loop-part-test.true (ap (int_eq n) (sym word) ∙ sym c.are_equal.ensures ∙ c.if-not-are_equal.false));
      low = omega (arith, ints, exact, low);
      high = omega (arith, ints, exact, high);
    }

pub loop-part-preserved-then-not-are_equal : goal.loop-part-preserved-then-not-are_equal
loop-part-preserved-then-not-are_equal c =
    let all : List ℤ = c.args.parts.now in
    let k : ℕ = c.loop-part.part-index in
    let n : ℤ = to_z w64 (of_z w64 c.args.number) in
    let x : ℤ = get_or all k (pos 0) in
    let word : to_z w64 (of_z w64 x) ≡ x = to_z-of_z w64 x (search rules) in
    let high = c.loop-part.invariant.high in
    record {
      value =
          c.loop-part.invariant.value
          ∙ sym (times_same all n k c.loop-part-test.true (ap (int_eq n) (sym word) ∙ sym c.are_equal.ensures ∙ c.if-not-are_equal.true));
      low = c.loop-part.invariant.low;
      high = omega (arith, ints, high);
    }
