use Rattle.std.proofs.Common.{◌≡◌, ◌∙◌, ◌+◌, ◌++◌, ◌∷◌, ℕ, ℤ, List, drop, map, sym, ap}
use Rattle.std.proofs.lemmas.List.{drop_all, drop_more}
use Rattle.ep_instance_parts.specs.Instances.{find_of}
use Rattle.ep_instance_parts.specs.declared.instances.Find.{Find}
use Rattle.ep_tree.specs.Views.{named_value}
use Rattle.ep_tree.specs.declared.values.Entry.{Entry}
use Rattle.ep_solve.specs.Reading.{assignment_from, value_from}
use Rattle.ep_solve.proofs.MakingSteps.{all-entries, entry-more}
use Rattle.ep_solve.proofs.reading_back.assignment_from.Goals as goal

pub loop-find-init : goal.loop-find-init
loop-find-init c =
    ap (λ (es : List Entry). map named_value es ++ assignment_from (map find_of c.args.finds.now) c.args.numbers.now) (sym c.new-entries.ensures.items)

pub loop-find-preserved : goal.loop-find-preserved
loop-find-preserved c =
    let finds : List Find = c.args.finds.now in
    let k : ℕ = c.loop-find.find-index in
    let f : Find = c.find-item.result in
    let left : List ℤ = drop c.value_from.new.place c.args.numbers.now in
    let rest : List ℤ = drop c.loop-find.place c.args.numbers.now in
    let e : Entry = record { name = c.in_ok-name.name; ty = f.ty; value = c.in_ok-value.value } in
    let cut : drop k finds ≡ f ∷ drop (k + 1) finds =
    drop_more finds k f c.loop-find-test.true ∙ ap (λ g. g ∷ drop (k + 1) finds) (sym c.find-item.is) in
    entry-more finds k c.args.numbers.now rest left f c.loop-find.entries.items e cut
    (c.in_ok-name.ensures.copied ∙ c.text.ensures.text)
    f.shaped
    (c.in_ok-value.ensures.value ∙ ap (λ is. (value_from is rest).0) c.deref.ensures.value)
    (c.in_ok-value.ensures.left ∙ ap (λ is. (value_from is rest).1) c.deref.ensures.value)
    c.loop-find.invariant
    ∙ ap (λ (es : List Entry). map named_value es ++ assignment_from (map find_of (drop (k + 1) finds)) left) (sym c.in_ok-push.ensures.items)

pub returns : goal.returns
returns c =
    all-entries c.args.finds.now c.loop-find.find-index c.args.numbers.now (drop c.loop-find.place c.args.numbers.now) c.loop-find.entries.items
    (drop_all c.loop-find.find-index c.args.finds.now c.loop-find-test.false) c.loop-find.invariant
