use Rattle.std.proofs.Common.{◌∙◌, ℕ, List, length, refl, subst, sym}
use Rattle.std.proofs.lemmas.Result.{on_ok_weaker}
use Rattle.enc_atoms.specs.Atoms.{Adds}
use Rattle.enc_atoms.proofs.Naming.{truths_within}
use Rattle.enc_count.proofs.Counting.{of_later, told_whole, truths_fit, wanted_later}
use Rattle.enc_count.specs.Counts.{IsAllOf}
use Rattle.enc_count.proofs.counts.encode_truth.Goals as goal

pub add_all_told-requires-clause-told : goal.add_all_told-requires-clause-told
add_all_told-requires-clause-told c =
    truths_within c.args.layout.now c.args.f.now c.new_truths.new.layout c.new_truths.new.f (length c.args.wanted.now) c.deref.result.now c.in_ok-told.ensures.new (c.deref.ensures.value ∙ c.in_ok-told.ensures.numbers)

pub add_counts-requires-clause-truths : goal.add_counts-requires-clause-truths
add_counts-requires-clause-truths c =
    truths_fit c.args.layout.now c.args.f.now c.new_truths.new.layout c.new_truths.new.f (length c.args.wanted.now) c.deref-2.result.now c.in_ok-told.ensures.new (c.deref-2.ensures.value ∙ c.in_ok-told.ensures.numbers)

pub add_counts-requires-clause-vars : goal.add_counts-requires-clause-vars
add_counts-requires-clause-vars c = of_later c.args.layout.now c.args.f.now c.new_truths.new.layout c.new_truths.new.f c.args.vars.now c.in_ok-told.ensures.new.goes_on c.requires.vars

pub add_counts-requires-clause-wanted : goal.add_counts-requires-clause-wanted
add_counts-requires-clause-wanted c = wanted_later c.args.layout.now c.args.f.now c.new_truths.new.layout c.new_truths.new.f c.args.wanted.now c.in_ok-told.ensures.new.goes_on c.requires.wanted

pub returns : goal.returns
returns c =
    on_ok_weaker c.add_counts.result
    (told_whole c.args.layout.now c.args.f.now c.new_truths.new.layout c.new_truths.new.f c.add_all_told.new.f c.add_counts.new.layout c.add_counts.new.f c.args.truth c.deref-2.result.now c.args.op c.args.vars.now c.args.wanted.now (length c.args.wanted.now) c.requires.ready.is_layout c.requires.truth c.requires.vars c.requires.wanted
    c.in_ok-told.ensures.new refl (c.deref-2.ensures.value ∙ c.in_ok-told.ensures.numbers)
    (subst (λ (ts : List ℕ). Adds c.new_truths.new.layout c.new_truths.new.f c.new_truths.new.layout c.add_all_told.new.f (IsAllOf c.args.truth ts)) (c.deref.ensures.value ∙ sym c.deref-2.ensures.value) c.in_ok-add_all_told.ensures))
    c.add_counts.ensures
