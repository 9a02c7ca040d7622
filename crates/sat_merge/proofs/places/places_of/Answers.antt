use Rattle.std.proofs.Common.{◌+◌, List, ℕ, ℤ, pos, get_or, arith, rules, subst, sym, w64}
use Rattle.std.proofs.lemmas.Int.{to_z-of_z}
use Rattle.sat_merge.specs.Proofs.{IsNoId, IsPlaceOf}
use Rattle.sat_merge.proofs.Hinted.{GoesOn, goes_all, goes_more, goes_none}
use Rattle.sat_merge.proofs.places.places_of.Goals as goal

pub loop-hint-init : goal.loop-hint-init
loop-hint-init c = λ rest are. subst (λ (ps : List ℕ). GoesOn c.args.ids.now c.args.hints.now 0 ps) (sym c.new-places.ensures.items) (λ others ends. ends) rest are

pub loop-hint-preserved : goal.loop-hint-preserved
loop-hint-preserved c =
    let ids = c.args.ids.now in
    let hints = c.args.hints.now in
    let k = c.loop-hint.hint-index in
    let hint = get_or hints k (pos 0) in
    let same = to_z-of_z w64 hint (search rules) in
    subst (λ (ps : List ℕ). GoesOn ids hints (k + 1) ps) (sym c.in_ok-push.ensures.items)
    (goes_more ids hints k (pos 0) c.loop-hint.places.items c.in-Some.place c.loop-hint-test.true (subst (λ (x : ℤ). IsPlaceOf ids x c.in-Some.place) same c.in-Some.ensures.some) c.loop-hint.invariant)

pub returns-in_default : goal.returns-in_default
returns-in_default c =
    let ids = c.args.ids.now in
    let hints = c.args.hints.now in
    let k = c.loop-hint.hint-index in
    let hint = get_or hints k (pos 0) in
    let same = to_z-of_z w64 hint (search rules) in
    goes_none ids hints k (pos 0) c.loop-hint.places.items c.loop-hint-test.true (subst (IsNoId ids) same c.in_default.ensures.none) c.loop-hint.invariant

pub returns : goal.returns
returns c = goes_all c.args.ids.now c.args.hints.now c.loop-hint.hint-index c.loop-hint.places.items (omega (arith, c.loop-hint-test.false)) c.loop-hint.invariant
