use Rattle.std.proofs.Common.{◌≡◌, ℤ, rules, subst, sym, w64}
use Rattle.std.proofs.lemmas.Int.{to_z-of_z}
use Rattle.ep_base.specs.Numbers.{has_number}
use Rattle.ep_simplify.proofs.Deciding.{has_is}
use Rattle.ep_simplify.proofs.Forms.{number_member}
use Rattle.ep_simplify.proofs.settling.membered.Goals as goal

pub returns-in-Some-clause-says : goal.returns-in-Some-clause-says
returns-in-Some-clause-says c = λ cells h. number_member cells c.args.news.now c.args.a c.args.numbers.now c.in-Some.number c.has.result c.requires (sym c.in-Some.ensures)
    (subst (λ (n : ℤ). has_number c.args.numbers.now n ≡ c.has.result) (to_z-of_z w64 c.in-Some.number (search rules)) (has_is c.args.numbers.now _ c.has.result c.has.ensures)) h
