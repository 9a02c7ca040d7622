use Rattle.std.proofs.Common.{◌≡◌, ◌∙◌, ℤ, pos, List, ap, get_or, w64, to_z, of_z, rules}
use Rattle.std.proofs.lemmas.Int.{to_z-of_z}
use Rattle.enc_atoms.specs.Steps.{is_not}
use Rattle.enc_table.proofs.RowLemmas.{others_end, others_step}
use Rattle.enc_table.proofs.tables.others_than.Goals as goal

pub loop-k-preserved : goal.loop-k-preserved
loop-k-preserved c =
    let k = c.loop-k.k in
    let row : List ℤ = c.args.row.now in
    let n : ℤ = get_or row k (pos 0) in
    let whole : to_z w64 (of_z w64 n) ≡ n = to_z-of_z w64 n (search rules) in
    others_step c.loop-k.atoms.items c.push.new.self.items _ c.args.vars.now row k c.is_not.result c.loop-k-test.true c.requires c.loop-k.invariant
    (c.is_not.ensures ∙ ap (λ (w : ℤ). is_not (get_or c.args.vars.now k 0) w) whole) c.in_ok-push.ensures.items

pub returns : goal.returns
returns c = others_end c.loop-k.atoms.items _ c.args.vars.now c.args.row.now c.loop-k.k c.loop-k-test.false c.requires c.loop-k.invariant
