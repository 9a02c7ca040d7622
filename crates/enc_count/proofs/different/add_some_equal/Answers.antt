use Rattle.std.proofs.Common.{◌≡◌, ℕ, ◌∙◌, pos, List, length, subst, sym, ap, rules, vec_len}
use Rattle.std.proofs.lemmas.Result.{on_ok_weaker}
use Rattle.enc_atoms.proofs.Naming.{atoms_of, truths_within}
use Rattle.enc_atoms.proofs.NewTruths.{length-numbers_from}
use Rattle.enc_atoms.specs.Steps.{are_all}
use Rattle.enc_count.proofs.Differing.{pairs_within, some_equal_whole, within_later}
use Rattle.enc_count.specs.Different.{AreWithin}
use Rattle.enc_count.proofs.different.add_some_equal.Goals as goal

pub add_equals-requires-clause-many : goal.add_equals-requires-clause-many
add_equals-requires-clause-many c =
    let counted : vec_len c.in_ok-pairs.pairs ≡ length c.in_ok-pairs.pairs.items = search rules in
    ap length (c.deref.ensures.value ∙ c.in_ok-truths.ensures.numbers) ∙ length-numbers_from (length c.args.layout.now) c.len.result ∙ c.len.ensures ∙ counted ∙ ap length (sym c.deref-2.ensures.value)

pub add_equals-requires-clause-truths : goal.add_equals-requires-clause-truths
add_equals-requires-clause-truths c =
    truths_within c.args.layout.now c.args.f.now c.new_truths.new.layout c.new_truths.new.f c.len.result c.deref.result.now c.in_ok-truths.ensures.new (c.deref.ensures.value ∙ c.in_ok-truths.ensures.numbers)

pub add_equals-requires-clause-within : goal.add_equals-requires-clause-within
add_equals-requires-clause-within c =
    within_later c.args.layout.now c.args.f.now c.new_truths.new.layout c.new_truths.new.f c.len.result c.deref-2.result.now c.in_ok-truths.ensures.new
    (subst (λ (ps : List (ℕ × ℕ)). AreWithin c.args.layout.now ps) (sym (c.deref-2.ensures.value ∙ c.in_ok-pairs.ensures)) (pairs_within c.args.layout.now c.args.vars.now c.requires.within))

pub add_guarded-requires-clause-names : goal.add_guarded-requires-clause-names
add_guarded-requires-clause-names c =
    atoms_of c.new_truths.new.layout c.deref-3.result.now (pos 1) c.deref-4.result.now (c.deref-4.ensures.value ∙ c.in_ok-atoms.ensures)
    (truths_within c.args.layout.now c.args.f.now c.new_truths.new.layout c.new_truths.new.f c.len.result c.deref-3.result.now c.in_ok-truths.ensures.new (c.deref-3.ensures.value ∙ c.in_ok-truths.ensures.numbers))

pub returns : goal.returns
returns c =
    let counted : vec_len c.in_ok-pairs.pairs ≡ length c.in_ok-pairs.pairs.items = search rules in
    on_ok_weaker c.add_guarded.result
    (some_equal_whole c.args.layout.now c.args.f.now c.new_truths.new.layout c.new_truths.new.f c.add_equals.new.f c.add_guarded.new.f c.args.guard.now c.deref-4.result.now c.args.vars.now c.deref.result.now c.deref-2.result.now c.len.result c.requires.ready.is_layout c.requires.within c.requires.guard
    (c.deref-2.ensures.value ∙ c.in_ok-pairs.ensures) c.in_ok-truths.ensures.new (c.len.ensures ∙ counted ∙ ap length (sym c.deref-2.ensures.value)) (c.deref.ensures.value ∙ c.in_ok-truths.ensures.numbers)
    (c.deref-4.ensures.value ∙ c.in_ok-atoms.ensures ∙ ap (λ ts. are_all ts (pos 1)) (c.deref-3.ensures.value ∙ sym c.deref.ensures.value)) c.in_ok-add_equals.ensures)
    c.add_guarded.ensures
