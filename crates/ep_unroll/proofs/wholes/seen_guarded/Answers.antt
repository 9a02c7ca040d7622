use Rattle.ep_unroll.proofs.Words.{◌≡◌, ◌∙◌, Some, ap, arith, of_z, sym, to_z, w64, ints, to_z-of_z, held_value, seen_held, single}
use Rattle.ep_unroll.proofs.FormValues.{if_ok}
use Rattle.ep_unroll.proofs.WholeSteps.{nothing_whole, whole_same}
use Rattle.ep_unroll.proofs.wholes.seen_guarded.Goals as goal

pub returns-in-Number : goal.returns-in-Number
unfolding held_value
returns-in-Number c =
    let n = c.in-Number.number in
    let word : to_z w64 (of_z w64 n) ≡ n = to_z-of_z w64 n (omega (arith, ints)) in
    if_ok c.number_guarded.result _ _
    (λ x h. whole_same c.args.arena.now c.number_guarded.new.arena c.args.others.items _ (λ numbers. seen_held c.args.seen.now) x
    (λ numbers. ap (λ m. Some (single m)) word ∙ ap (λ y. Some (held_value y)) (sym c.in-Number.is) ∙ ap seen_held (sym c.in-Some.is)) h) c.number_guarded.ensures

pub returns-in-Lent : goal.returns-in-Lent
unfolding held_value
returns-in-Lent c =
    if_ok c.value_guarded.result _ _
    (λ x h. whole_same c.args.arena.now c.value_guarded.new.arena c.args.others.items _ (λ numbers. seen_held c.args.seen.now) x
    (λ numbers. ap (λ y. Some (held_value y)) (sym c.in-Lent.is) ∙ ap seen_held (sym c.in-Some.is)) h) c.value_guarded.ensures

pub returns-in-Made : goal.returns-in-Made
unfolding held_value
returns-in-Made c =
    if_ok c.value_guarded-in-Made.result _ _
    (λ x h. whole_same c.args.arena.now c.value_guarded-in-Made.new.arena c.args.others.items _ (λ numbers. seen_held c.args.seen.now) x
    (λ numbers. ap (λ y. Some (held_value y)) (sym c.in-Made.is) ∙ ap seen_held (sym c.in-Some.is)) h) c.value_guarded-in-Made.ensures

pub returns-in-None : goal.returns-in-None
returns-in-None c =
    whole_same c.args.arena.now c.args.arena.now c.args.others.items _ (λ numbers. seen_held c.args.seen.now) _ (λ numbers. ap seen_held (sym c.in-None.is)) (nothing_whole c.args.arena.now c.args.others.items)
