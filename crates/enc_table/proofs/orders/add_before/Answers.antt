use Rattle.std.proofs.Common.{◌∙◌, ◌+◌, length, ap}
use Rattle.std.proofs.lemmas.Result.{on_ok_weaker}
use Rattle.enc_atoms.proofs.Naming.{later_guard, later_vars, truths_within}
use Rattle.enc_atoms.proofs.NewTruths.{length-numbers_from}
use Rattle.enc_table.proofs.Links.{before_whole}
use Rattle.enc_table.proofs.orders.add_before.Goals as goal

pub add_chain-requires-clause-guard : goal.add_chain-requires-clause-guard
add_chain-requires-clause-guard c = later_guard c.args.layout.now c.args.f.now c.new_truths.new.layout c.new_truths.new.f (c.common-count.result + 1) c.args.guard.now c.in_ok-links.ensures.new c.requires.guard

pub add_chain-requires-clause-many : goal.add_chain-requires-clause-many
add_chain-requires-clause-many c = ap length (c.deref.ensures.value ∙ c.in_ok-links.ensures.numbers) ∙ length-numbers_from (length c.args.layout.now) (c.common-count.result + 1)

pub add_chain-requires-clause-links : goal.add_chain-requires-clause-links
add_chain-requires-clause-links c =
    truths_within c.args.layout.now c.args.f.now c.new_truths.new.layout c.new_truths.new.f (c.common-count.result + 1) c.deref.result.now c.in_ok-links.ensures.new (c.deref.ensures.value ∙ c.in_ok-links.ensures.numbers)

pub add_chain-requires-clause-xs : goal.add_chain-requires-clause-xs
add_chain-requires-clause-xs c = later_vars c.args.layout.now c.args.f.now c.new_truths.new.layout c.new_truths.new.f (c.common-count.result + 1) c.args.xs.now c.in_ok-links.ensures.new c.requires.xs

pub add_chain-requires-clause-ys : goal.add_chain-requires-clause-ys
add_chain-requires-clause-ys c = later_vars c.args.layout.now c.args.f.now c.new_truths.new.layout c.new_truths.new.f (c.common-count.result + 1) c.args.ys.now c.in_ok-links.ensures.new c.requires.ys

pub returns : goal.returns
returns c =
    on_ok_weaker c.add_chain.result
    (before_whole c.args.layout.now c.args.f.now c.new_truths.new.layout c.new_truths.new.f c.add_chain.new.f c.args.guard.now c.args.strict c.args.xs.now c.args.ys.now c.deref.result.now c.common-count.result c.requires.ready.is_layout c.requires.xs c.requires.ys c.requires.guard
    c.in_ok-links.ensures.new (c.deref.ensures.value ∙ c.in_ok-links.ensures.numbers) c.common-count.ensures.first c.common-count.ensures.second c.common-count.ensures.ends)
    c.add_chain.ensures
