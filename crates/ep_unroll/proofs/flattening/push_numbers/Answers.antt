use Rattle.ep_unroll.proofs.Words.{◌+◌, [], ◌∷◌, Some, drop, get_or, pos, refl, w64, ap, rules, to_z-of_z, drop_all}
use Rattle.ep_unroll.proofs.FlatSteps.{flat_begins, flat_ends, flat_more, flat_number, numbers_cut}
use Rattle.ep_unroll.proofs.flattening.push_numbers.Goals as goal

pub loop-number-init : goal.loop-number-init
loop-number-init c = flat_begins c.args.parts.now.items [] (λ nodes numbers. Some c.args.list.now) (λ nodes numbers. Some c.args.list.now) (λ nodes numbers. refl)

pub loop-number-preserved : goal.loop-number-preserved
loop-number-preserved c =
    let all = c.args.list.now in
    let k = c.loop-number.number-index in
    let x = get_or all k (pos 0) in
    flat_more c.args.parts.now.items c.loop-number.parts.items c.push.new.self.items [] (λ nodes numbers. Some all) (λ nodes numbers. Some (drop k all)) (λ nodes numbers. Some (x ∷ []))
    (λ nodes numbers. Some (drop (k + 1) all)) c.loop-number.invariant (λ nodes numbers. numbers_cut all k c.loop-number-test.true)
    (flat_number c.loop-number.parts.items c.push.new.self.items _ x (to_z-of_z w64 x (search rules)) c.in_ok-push.ensures.items)

pub returns : goal.returns
returns c =
    flat_ends c.args.parts.now.items c.loop-number.parts.items [] (λ nodes numbers. Some c.args.list.now) (λ nodes numbers. Some (drop c.loop-number.number-index c.args.list.now))
    c.loop-number.invariant (λ nodes numbers. ap Some (drop_all c.loop-number.number-index c.args.list.now c.loop-number-test.false))
