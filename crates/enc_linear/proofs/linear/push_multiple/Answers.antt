use Rattle.std.proofs.Common.{◌≡◌, ◌∙◌, ◌+ℤ◌, ◌*ℤ◌, ap, subst, sym, to_z, of_z, w64}
use Rattle.std.proofs.lemmas.Int.{to_z-of_z}
use Rattle.ep_flat.specs.Cons.{number_at}
use Rattle.std.specs.List.{All}
use Rattle.std.proofs.lemmas.List.Elements.{All-push}
use Rattle.enc_linear.specs.Terms.{IsTermOf, total}
use Rattle.enc_linear.proofs.Totals.{total_push}
use Rattle.enc_linear.proofs.linear.push_multiple.Goals as goal

pub returns-clause-of_layout : goal.returns-clause-of_layout
returns-clause-of_layout c f =
    subst (All (IsTermOf c.args.layout.now f)) (sym c.in_ok-push.ensures.items) (All-push (IsTermOf c.args.layout.now f) c.args.terms.now.items c.in_ok-term.term (c.requires.terms f) (c.in_ok-term.ensures.of_layout f))

pub returns-clause-sum : goal.returns-clause-sum
returns-clause-sum c values among =
    let a = c.args.coefficient in
    let e : to_z w64 (of_z w64 a) ≡ a = to_z-of_z w64 a c.ranges.coefficient in
    ap (total values) c.in_ok-push.ensures.items ∙ total_push values c.args.terms.now.items c.in_ok-term.term
    ∙ ap (λ n. total values c.args.terms.now.items +ℤ n) (c.in_ok-term.ensures.worth values among ∙ ap (λ n. n *ℤ number_at values c.args.var) e)
