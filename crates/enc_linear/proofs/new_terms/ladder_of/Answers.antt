use Rattle.std.proofs.Common.{◌≡◌, ◌∙◌, ◌-◌, length, ap, rules, vec_len, arith}
use Rattle.enc_atoms.proofs.Naming.{truths_within}
use Rattle.enc_atoms.proofs.NewTruths.{length-numbers_from}
use Rattle.enc_linear.proofs.NewTerms.{ladder_made}
use Rattle.enc_linear.proofs.new_terms.ladder_of.Goals as goal

pub add_falls-requires-clause-ready : goal.add_falls-requires-clause-ready
add_falls-requires-clause-ready c = record { from_new = c.in_ok-rungs.ensures.new.goes_on.from_new; is_layout = c.in_ok-rungs.ensures.new.goes_on.is_layout }

pub add_falls-requires-clause-within : goal.add_falls-requires-clause-within
add_falls-requires-clause-within c =
    truths_within c.args.layout.now c.args.f.now c.new_truths.new.layout c.new_truths.new.f _ c.deref.result.now c.in_ok-rungs.ensures.new (c.deref.ensures.value ∙ c.in_ok-rungs.ensures.numbers)

pub index-requires : goal.index-requires
index-requires c =
    let counted : vec_len c.in_ok-rungs.rungs ≡ length c.in_ok-rungs.rungs.items = search rules in
    let long : length c.in_ok-rungs.rungs.items ≡ length c.args.numbers.now - 1 = ap length c.in_ok-rungs.ensures.numbers ∙ length-numbers_from (length c.args.layout.now) _ in
    omega (arith, counted, long, c.requires.several)

pub returns : goal.returns
returns c =
    let counted : vec_len c.in_ok-rungs.rungs ≡ length c.in_ok-rungs.rungs.items = search rules in
    ladder_made c.args.layout.now c.args.f.now c.new_truths.new.layout c.new_truths.new.f c.add_falls.new.f c.args.numbers.now c.in_ok-rungs.rungs.items c.deref.result.now (length c.args.numbers.now - 1) _ c.in_ok-term.term
    c.in_ok-rungs.ensures.new c.in_ok-rungs.ensures.numbers c.deref.ensures.value c.in_ok-add_falls.ensures c.index.ensures (c.len.ensures ∙ counted)
    (omega (arith, c.requires.several)) (omega (arith, c.requires.several)) c.requires.ascending c.in_ok-term.ensures
