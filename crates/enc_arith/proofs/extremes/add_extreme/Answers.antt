use Rattle.std.proofs.Common.{ℤ, pos, List, get_or, sym, subst, ◌∙◌, w64, to_z, of_z, rules}
use Rattle.std.proofs.lemmas.Int.{to_z-of_z}
use Rattle.std.specs.List.{All}
use Rattle.std.proofs.lemmas.List.Elements.{All-get_or}
use Rattle.ep_base.specs.Reads.{IsWithinNumbers}
use Rattle.enc_arith.proofs.Levels.{levels_begin, levels_end, levels_more}
use Rattle.enc_arith.proofs.extremes.add_extreme.Goals as goal

pub loop-number-init : goal.loop-number-init
loop-number-init c = levels_begin c.args.layout.now c.args.f.now c.args.side c.args.xs.now c.args.r c.as_slice-number-items.result.now c.requires.ready

pub loop-number-preserved : goal.loop-number-preserved
loop-number-preserved c =
    let ns : List ℤ = c.as_slice-number-items.result.now in
    let n : ℤ = get_or ns c.loop-number.number-index (pos 0) in
    levels_more c.args.layout.now c.args.f.now c.loop-number.f c.add_level.new.f c.args.side c.args.xs.now c.args.r ns c.loop-number.number-index (pos 0) (to_z w64 (of_z w64 n)) c.requires.ready
    c.loop-number-test.true (to_z-of_z w64 n (search rules)) c.loop-number.invariant c.in_ok-add_level.ensures

pub returns : goal.returns
returns c =
    levels_end c.args.layout.now c.args.f.now c.loop-number.f c.args.side c.args.xs.now c.args.r c.as_slice-number-items.result.now c.loop-number.number-index c.requires.ready c.requires.target
    (c.as_slice-number-items.ensures.value ∙ c.in_ok-numbers.ensures ∙ c.domain.ensures) c.loop-number-test.false c.loop-number.invariant

pub add_level-requires : goal.add_level-requires
add_level-requires c =
    let ns : List ℤ = c.as_slice-number-items.result.now in
    let n : ℤ = get_or ns c.loop-number.number-index (pos 0) in
    let all : All IsWithinNumbers ns = subst (All IsWithinNumbers) (sym (c.as_slice-number-items.ensures.value ∙ c.in_ok-numbers.ensures ∙ c.domain.ensures)) c.requires.numbers in record {
      ready = record { from_new = c.loop-number.invariant.goes_on.from_new; is_layout = c.loop-number.invariant.goes_on.is_layout };
      near = subst IsWithinNumbers (sym (to_z-of_z w64 n (search rules))) (All-get_or IsWithinNumbers ns c.loop-number.number-index (pos 0) c.loop-number-test.true all);
      there = c.requires.there;
      result = c.requires.target;
    }
