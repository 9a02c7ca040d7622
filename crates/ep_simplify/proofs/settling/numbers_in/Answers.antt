use Rattle.std.proofs.Common.{[], ◌∷◌, ◌++◌, ◌∙◌, ℤ, List, Some, ap, map, rules, sym, w64}
use Rattle.std.proofs.lemmas.Int.{to_z-of_z}
use Rattle.ep_simplify.proofs.Picking.{number_missing, numbers_all, numbers_more}
use Rattle.ep_simplify.proofs.settling.numbers_in.Goals as goal

pub loop-term-preserved : goal.loop-term-preserved
loop-term-preserved c =
    numbers_more c.args.news.now.arena c.args.terms.now c.loop-term.term-index c.term-item.result c.in-Some.number c.loop-term.numbers.items c.push.new.self.items c.loop-term.invariant c.loop-term-test.true c.term-item.is
    (sym c.in-Some.ensures) (c.in_ok-push.ensures.items ∙ ap (λ (n : ℤ). c.loop-term.numbers.items ++ n ∷ []) (to_z-of_z w64 c.in-Some.number (search rules)))

pub loop-term-init : goal.loop-term-init
loop-term-init c = sym (ap (λ (ns : List ℤ). map (λ n. Some n) ns) c.new-numbers.ensures.items)

pub returns-in_default-clause-none : goal.returns-in_default-clause-none
returns-in_default-clause-none c none all = number_missing c.args.news.now.arena c.args.terms.now c.loop-term.term-index c.term-item.result c.loop-term-test.true c.term-item.is (sym c.in_default.ensures) all

pub returns-clause-found : goal.returns-clause-found
returns-clause-found c = numbers_all c.args.news.now.arena c.args.terms.now c.loop-term.term-index c.loop-term.numbers.items c.loop-term.invariant c.loop-term-test.false
