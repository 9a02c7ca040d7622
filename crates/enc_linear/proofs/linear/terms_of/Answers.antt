use Rattle.std.proofs.Common.{◌≡◌, ℤ, ℕ, pos, refl, get_or, rules, to_z, of_z, w64, subst, sym}
use Rattle.std.specs.List.{All}
use Rattle.std.proofs.lemmas.Int.{to_z-of_z}
use Rattle.std.proofs.lemmas.List.Elements.{All-nil}
use Rattle.enc_linear.specs.Terms.{IsTermOf}
use Rattle.enc_linear.proofs.Totals.{sums_all, sums_more, sums_none}
use Rattle.enc_linear.proofs.linear.terms_of.Goals as goal

pub loop-part-init : goal.loop-part-init
loop-part-init c = record {
  of_layout = λ f. subst (All (IsTermOf c.args.layout.now f)) (sym c.new-terms.ensures.items) (All-nil (IsTermOf c.args.layout.now f));
  sum = sums_none c.args.layout.now c.new-terms.result.items c.args.parts.now c.new-terms.ensures.items;
}

pub add_part-requires-clause-terms : goal.add_part-requires-clause-terms
add_part-requires-clause-terms c = c.loop-part.invariant.of_layout

pub loop-part-preserved : goal.loop-part-preserved
loop-part-preserved c =
    let d : ℤ × ℕ = (pos 0, 0) in
    let i = c.loop-part.part-index in
    let fits : to_z w64 (of_z w64 (get_or c.args.parts.now i d).0) ≡ (get_or c.args.parts.now i d).0 = to_z-of_z w64 (get_or c.args.parts.now i d).0 (search rules) in
    record {
      of_layout = c.in_ok-add_part.ensures.of_layout;
      sum = sums_more c.args.layout.now c.loop-part.terms.items c.add_part.new.terms.items c.args.parts.now i d _ _ c.loop-part-test.true c.loop-part.invariant.sum c.in_ok-add_part.ensures.sum fits refl;
    }

pub returns-clause-of_layout : goal.returns-clause-of_layout
returns-clause-of_layout c = c.loop-part.invariant.of_layout

pub returns-clause-sum : goal.returns-clause-sum
returns-clause-sum c = sums_all c.args.layout.now c.loop-part.terms.items c.args.parts.now c.loop-part.part-index c.loop-part-test.false c.loop-part.invariant.sum
