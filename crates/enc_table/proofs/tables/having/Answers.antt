use Rattle.std.proofs.Common.{◌≡◌, ◌∙◌, ℤ, pos, [], length, ap, get_or, sym, w64, to_z, of_z, arith}
use Rattle.std.specs.Ordering.{int_eq}
use Rattle.std.proofs.lemmas.Int.{ints, to_z-of_z}
use Rattle.std.proofs.lemmas.List.{get_or_read}
use Rattle.enc_table.proofs.RowLemmas.{fits_at}
use Rattle.enc_table.proofs.Supports.{having_end, having_more, having_same}
use Rattle.enc_table.specs.Rows.{truths_having}
use Rattle.enc_table.proofs.tables.having.Goals as goal

pub stands_at-requires : goal.stands_at-requires
stands_at-requires c =
    let long : length c.numbers-row.result.now ≡ c.args.count =
    ap length (c.numbers-row.ensures ∙ get_or_read c.args.rows.now c.loop-k.k c.index-rows-k.result c.loop-k-test.true c.index-rows-k.is [])
    ∙ fits_at c.args.rows.now c.args.count c.loop-k.k [] c.loop-k-test.true c.requires.fit in
    omega (arith, long, c.requires.place)

pub loop-k-preserved : goal.loop-k-preserved
loop-k-preserved c =
    let k = c.loop-k.k in
    let v : ℤ = to_z w64 (of_z w64 c.args.number) in
    let on : int_eq (get_or (get_or c.args.rows.now k []) c.args.place (pos 0)) v ≡ c.stands_at.result =
    ap (λ row. int_eq (get_or row c.args.place (pos 0)) v) (sym (c.numbers-row.ensures ∙ get_or_read c.args.rows.now k c.index-rows-k.result c.loop-k-test.true c.index-rows-k.is [])) ∙ sym c.stands_at.ensures in
    having_more c.loop-k.chosen.items c.push.new.self.items _ c.args.truths.now c.args.rows.now k c.args.place v c.loop-k-test.true c.requires.many c.loop-k.invariant (on ∙ c.if-not-stands_at.false) c.in_ok-push.ensures.items

pub loop-k-preserved-then-not-stands_at : goal.loop-k-preserved-then-not-stands_at
loop-k-preserved-then-not-stands_at c =
    let k = c.loop-k.k in
    let v : ℤ = to_z w64 (of_z w64 c.args.number) in
    let off : int_eq (get_or (get_or c.args.rows.now k []) c.args.place (pos 0)) v ≡ c.stands_at.result =
    ap (λ row. int_eq (get_or row c.args.place (pos 0)) v) (sym (c.numbers-row.ensures ∙ get_or_read c.args.rows.now k c.index-rows-k.result c.loop-k-test.true c.index-rows-k.is [])) ∙ sym c.stands_at.ensures in
    having_same c.loop-k.chosen.items _ c.args.truths.now c.args.rows.now k c.args.place v c.loop-k-test.true c.requires.many c.loop-k.invariant (off ∙ c.if-not-stands_at.true)

pub returns : goal.returns
returns c =
    let v : ℤ = c.args.number in
    let whole : to_z w64 (of_z w64 v) ≡ v = to_z-of_z w64 v (omega (arith, ints)) in
    having_end c.loop-k.chosen.items _ c.args.truths.now c.args.rows.now c.loop-k.k c.args.place (to_z w64 (of_z w64 v)) c.loop-k-test.false c.requires.many c.loop-k.invariant
    ∙ ap (truths_having c.args.truths.now c.args.rows.now c.args.place) whole
