use Rattle.std.proofs.Common.{ℤ, Bool, pos, [], List, get_or, sym, subst, ◌∙◌, w64, to_z, of_z, rules}
use Rattle.std.proofs.lemmas.Int.{to_z-of_z}
use Rattle.std.specs.Prelude.{Some}
use Rattle.std.specs.List.{All}
use Rattle.std.proofs.lemmas.List.Elements.{All-get_or}
use Rattle.ep_base.specs.Reads.{IsWithinNumbers}
use Rattle.ep_flat.specs.Cons.{is_value, number_at, numbers_of_vars}
use Rattle.enc_arith.specs.Extremes.{extreme_of, is_extreme}
use Rattle.enc_arith.proofs.Cases.{cases_begin, cases_end, cases_more}
use Rattle.enc_arith.proofs.Orders.{extreme_test}
use Rattle.enc_arith.proofs.Whether.{adds_told}
use Rattle.enc_arith.proofs.extremes.add_whether_extreme.Goals as goal

pub loop-number-init : goal.loop-number-init
loop-number-init c =
    let P : List ℤ → ℤ → Bool = λ vs n. is_extreme c.args.side (numbers_of_vars vs c.args.xs.now) n in
    cases_begin c.args.layout.now c.args.f.now [] c.args.r (Some c.args.truth) P c.as_slice-number-items.result.now c.requires.ready

pub loop-number-preserved : goal.loop-number-preserved
loop-number-preserved c =
    let P : List ℤ → ℤ → Bool = λ vs n. is_extreme c.args.side (numbers_of_vars vs c.args.xs.now) n in
    let ns : List ℤ = c.as_slice-number-items.result.now in
    let n : ℤ = get_or ns c.loop-number.number-index (pos 0) in
    cases_more c.args.layout.now c.args.f.now c.loop-number.f c.add_whether.new.f [] c.args.r (Some c.args.truth) P ns c.loop-number.number-index (pos 0) (to_z w64 (of_z w64 n)) c.requires.ready
    c.loop-number-test.true (to_z-of_z w64 n (search rules)) c.loop-number.invariant c.in_ok-add_whether.ensures

pub add_whether-requires : goal.add_whether-requires
add_whether-requires c =
    let ns : List ℤ = c.as_slice-number-items.result.now in
    let n : ℤ = get_or ns c.loop-number.number-index (pos 0) in
    let all : All IsWithinNumbers ns = subst (All IsWithinNumbers) (sym (c.as_slice-number-items.ensures.value ∙ c.in_ok-numbers.ensures ∙ c.domain.ensures)) c.requires.numbers in record {
      ready = record { from_new = c.loop-number.invariant.goes_on.from_new; is_layout = c.loop-number.invariant.goes_on.is_layout };
      near = subst IsWithinNumbers (sym (to_z-of_z w64 n (search rules))) (All-get_or IsWithinNumbers ns c.loop-number.number-index (pos 0) c.loop-number-test.true all);
      there = c.requires.there;
      result = c.requires.target;
      truth = c.requires.truth;
    }

pub returns : goal.returns
returns c =
    let P : List ℤ → ℤ → Bool = λ vs n. is_extreme c.args.side (numbers_of_vars vs c.args.xs.now) n in
    adds_told c.args.layout.now c.args.f.now c.loop-number.f (Some c.args.truth) (λ values. P values (number_at values c.args.r)) (λ values. is_value (extreme_of c.args.side (numbers_of_vars values c.args.xs.now)) (number_at values c.args.r))
    c.requires.ready (λ values. extreme_test c.args.side (numbers_of_vars values c.args.xs.now) (number_at values c.args.r))
    (cases_end c.args.layout.now c.args.f.now c.loop-number.f [] c.args.r (Some c.args.truth) P c.as_slice-number-items.result.now c.loop-number.number-index c.requires.ready c.requires.target
    (c.as_slice-number-items.ensures.value ∙ c.in_ok-numbers.ensures ∙ c.domain.ensures) c.loop-number-test.false c.loop-number.invariant)
