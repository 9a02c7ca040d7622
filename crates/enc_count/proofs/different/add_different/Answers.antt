use Rattle.std.proofs.Common.{ℕ, ◌∙◌, List, subst, sym}
use Rattle.std.proofs.lemmas.Result.{on_ok_weaker}
use Rattle.enc_count.proofs.Differing.{different_whole, pairs_within}
use Rattle.enc_count.specs.Different.{AreWithin}
use Rattle.enc_count.proofs.different.add_different.Goals as goal

pub add_pairs-requires-clause-within : goal.add_pairs-requires-clause-within
add_pairs-requires-clause-within c = subst (λ (ps : List (ℕ × ℕ)). AreWithin c.args.layout.now ps) (sym (c.deref.ensures.value ∙ c.in_ok-pairs.ensures)) (pairs_within c.args.layout.now c.args.vars.now c.requires.within)

pub returns : goal.returns
returns c =
    on_ok_weaker c.add_covering.result
    (different_whole c.args.layout.now c.args.f.now c.add_pairs.new.f c.add_covering.new.f c.args.guard.now c.args.vars.now c.deref.result.now c.in_ok-numbers.numbers c.deref-2.result.now c.requires.ready.is_layout c.requires.within
    (c.deref.ensures.value ∙ c.in_ok-pairs.ensures) c.in_ok-numbers.ensures (c.deref-2.ensures.value ∙ c.in_ok-numbers-2.ensures) c.in_ok-add_pairs.ensures)
    c.add_covering.ensures
