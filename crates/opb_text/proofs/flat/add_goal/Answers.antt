use Rattle.std.proofs.Common.{rules, [], ◌∷◌, ◌∙◌, ℤ, of_z, to_z, w64, map, refl, ap, subst}
use Rattle.std.proofs.lemmas.Int.{to_z-of_z}
use Rattle.std.proofs.lemmas.List.{map-append}
use Rattle.ep_flat.specs.FlatViews.{plain_con}
use Rattle.opb_text.specs.Solutions.{terms_total}
use Rattle.opb_text.specs.Sums.{IsSpan}
use Rattle.opb_text.proofs.FlatLaws.{span_near}
use Rattle.opb_text.proofs.flat.add_goal.Goals as goal

pub returns : goal.returns
returns c =
    let domain = c.in_ok-domain.domain in
    let low = to_z-of_z w64 c.least.result (search rules) in
    let high = to_z-of_z w64 c.greatest.result (search rules) in
    let span : IsSpan c.least.result c.greatest.result domain =
    subst (λ (z : ℤ). IsSpan z c.greatest.result domain) low (subst (λ (z : ℤ). IsSpan (to_z w64 (of_z w64 c.least.result)) z domain) high c.in_ok-domain.ensures.has) in (
      refl,
      record {
        domain = domain;
        con = plain_con c.in_ok-con.con;
        vars_are = c.in_ok-push.ensures.items;
        cons_are = ap (map plain_con) c.in_ok-push-2.ensures.items ∙ map-append plain_con c.args.flat.now.cons.items (c.in_ok-con.con ∷ []);
        is_goal = c.in_ok-con.ensures;
        has_value = λ truths. (span.has (terms_total truths c.args.terms.now)).1 (c.least.ensures.bound truths, c.greatest.ensures.bound truths);
        near = span_near c.least.result c.greatest.result domain span c.least.ensures.near c.greatest.ensures.near;
      },
    )
