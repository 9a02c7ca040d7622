use Rattle.std.proofs.Common.{◌≡◌, ◌∙◌, ℕ, ◌<◌, ℤ, List, length, option_to_list, get_or, sym, ap, subst, rules, vec_len, w64, to_z, of_z}
use Rattle.std.proofs.lemmas.Int.{to_z-of_z}
use Rattle.std.proofs.lemmas.Result.{on_ok_weaker}
use Rattle.ep_base.specs.Numbers.{times_in}
use Rattle.ep_flat.specs.Cons.{numbers_of_vars}
use Rattle.enc_atoms.specs.Atoms.{Adds}
use Rattle.enc_atoms.proofs.Naming.{truths_within}
use Rattle.enc_atoms.proofs.NewTruths.{length-numbers_from}
use Rattle.enc_atoms.specs.Steps.{AreOf}
use Rattle.enc_count.proofs.Counting.{count_whole, fit_later, of_later, truths_fit}
use Rattle.enc_count.specs.Counts.{IsMark}
use Rattle.enc_count.proofs.counts.add_count.Goals as goal

pub add_marks-requires-clause-many : goal.add_marks-requires-clause-many
add_marks-requires-clause-many c =
    let counted : vec_len c.in_ok-able.able ≡ length c.in_ok-able.able.items = search rules in
    ap length (c.deref.ensures.value ∙ c.in_ok-marks.ensures.numbers) ∙ length-numbers_from (length c.args.layout.now) c.len.result ∙ c.len.ensures ∙ counted ∙ ap length (sym c.deref-2.ensures.value)

pub add_marks-requires-clause-marks : goal.add_marks-requires-clause-marks
add_marks-requires-clause-marks c =
    truths_within c.args.layout.now c.args.f.now c.new_truths.new.layout c.new_truths.new.f c.len.result c.deref.result.now c.in_ok-marks.ensures.new (c.deref.ensures.value ∙ c.in_ok-marks.ensures.numbers)

pub add_marks-requires-clause-vars : goal.add_marks-requires-clause-vars
add_marks-requires-clause-vars c =
    of_later c.args.layout.now c.args.f.now c.new_truths.new.layout c.new_truths.new.f c.deref-2.result.now c.in_ok-marks.ensures.new.goes_on
    (subst (λ (xs : List ℕ). AreOf c.args.layout.now xs) (sym c.deref-2.ensures.value) c.in_ok-able.ensures.within)

pub add_sum-requires-clause-truth : goal.add_sum-requires-clause-truth
add_sum-requires-clause-truth c = fit_later c.args.layout.now c.args.f.now c.new_truths.new.layout c.new_truths.new.f (option_to_list c.args.truth) c.in_ok-marks.ensures.new.goes_on c.requires.truth

pub add_sum-requires-clause-marks : goal.add_sum-requires-clause-marks
add_sum-requires-clause-marks c =
    truths_fit c.args.layout.now c.args.f.now c.new_truths.new.layout c.new_truths.new.f c.len.result c.deref-3.result.now c.in_ok-marks.ensures.new (c.deref-3.ensures.value ∙ c.in_ok-marks.ensures.numbers)

pub add_sum-requires-clause-wanted : goal.add_sum-requires-clause-wanted
add_sum-requires-clause-wanted c = fit_later c.args.layout.now c.args.f.now c.new_truths.new.layout c.new_truths.new.f (option_to_list c.args.wanted.var) c.in_ok-marks.ensures.new.goes_on c.requires.wanted

pub returns : goal.returns
returns c =
    let counted : vec_len c.in_ok-able.able ≡ length c.in_ok-able.able.items = search rules in
    let v : ℤ = c.args.wanted.value in
    let whole : to_z w64 (of_z w64 v) ≡ v = to_z-of_z w64 v (search rules) in
    let able_is : c.deref-2.result.now ≡ c.in_ok-able.able.items = c.deref-2.ensures.value in
    on_ok_weaker c.add_sum.result
    (count_whole c.args.layout.now c.args.f.now c.new_truths.new.layout c.new_truths.new.f c.add_marks.new.f c.add_sum.new.layout c.add_sum.new.f c.args.truth c.args.op c.deref-3.result.now c.deref-2.result.now c.args.vars.now c.args.wanted c.len.result (to_z w64 (of_z w64 v)) c.requires.ready.is_layout
    c.requires.truth.there c.requires.wanted.there (subst (λ (xs : List ℕ). AreOf c.args.layout.now xs) (sym able_is) c.in_ok-able.ensures.within) c.in_ok-marks.ensures.new
    (c.len.ensures ∙ counted ∙ ap length (sym able_is)) (c.deref-3.ensures.value ∙ c.in_ok-marks.ensures.numbers) whole
    (λ values among. ap (λ (xs : List ℕ). times_in (numbers_of_vars values xs) (to_z w64 (of_z w64 v))) able_is ∙ c.in_ok-able.ensures.times values among)
    (subst (λ (ms : List ℕ). Adds c.new_truths.new.layout c.new_truths.new.f c.new_truths.new.layout c.add_marks.new.f (λ values. (k : ℕ) → k < length c.deref-2.result.now → IsMark (get_or ms k 0) (get_or c.deref-2.result.now k 0) (to_z w64 (of_z w64 v)) values)) (c.deref.ensures.value ∙ sym c.deref-3.ensures.value) c.in_ok-add_marks.ensures))
    c.add_sum.ensures
