use Rattle.std.proofs.Common.{◌≡◌, List, ℕ, [], length, map, ap, subst, sym, ◌∙◌}
use Rattle.std.specs.Prelude.{option_map, unwrap_or}
use Rattle.ep_flat.specs.FlatViews.{plain_con, plain_flat}
use Rattle.opb_text.specs.declared.content.OpbRow.{OpbRow}
use Rattle.opb_text.specs.declared.content.OpbTerm.{OpbTerm}
use Rattle.opb_text.specs.Contents.{objective_terms}
use Rattle.opb_text.specs.Flats.{truth_domains}
use Rattle.opb_text.specs.Sums.{AreConsOf, AreNamed, AreNamedRows, GoesOnWith}
use Rattle.opb_text.specs.Views.{plain_opb, plain_row}
use Rattle.opb_text.proofs.FlatLaws.{stands_for_rows, stands_with_goal}
use Rattle.opb_text.proofs.NamedTerms.{named_goal, named_rows}
use Rattle.opb_text.proofs.flat.flat_of.Goals as goal

pub row_cons-requires-clause-named : goal.row_cons-requires-clause-named
row_cons-requires-clause-named c =
    subst (λ (vs : List ℕ). AreNamedRows vs (map plain_row c.deref-3.result.now)) (sym c.deref-2.ensures.value)
    (subst (λ (rs : List OpbRow). AreNamedRows c.in_ok-vars.vars.items (map plain_row rs)) (sym c.deref-3.ensures.value) (named_rows (plain_opb c.args.opb.now) c.in_ok-vars.vars.items c.in_ok-vars.ensures))

pub add_goal-requires-clause-named : goal.add_goal-requires-clause-named
add_goal-requires-clause-named c =
    let terms : objective_terms (plain_opb c.args.opb.now) ≡ c.in-Some.terms.items = ap (λ o. unwrap_or (option_map (λ ts. ts.items) o) []) c.in-Some.is in
    subst (λ (vs : List ℕ). AreNamed vs c.deref-in-Some-2.result.now) (sym c.deref-in-Some.ensures.value)
    (subst (λ (ts : List OpbTerm). AreNamed c.in_ok-vars.vars.items ts) (terms ∙ sym c.deref-in-Some-2.ensures.value) (named_goal (plain_opb c.args.opb.now) c.in_ok-vars.vars.items c.in_ok-vars.ensures))

pub returns-in-Some : goal.returns-in-Some
returns-in-Some c =
    let cons = subst (λ (vs : List ℕ). AreConsOf vs (map plain_row c.deref-3.result.now) (map plain_con c.in_ok-cons.cons.items)) c.deref-2.ensures.value c.in_ok-cons.ensures in
    let goes = subst (λ (vs : List ℕ). GoesOnWith vs c.deref-in-Some-2.result.now (plain_flat (record { vars = c.in_ok-domains.domains; cons = c.in_ok-cons.cons })) (plain_flat c.add_goal.new.flat)) c.deref-in-Some.ensures.value c.in_ok-goal-in-Some.ensures.1 in
    stands_with_goal (plain_opb c.args.opb.now) c.in-Some.terms.items c.in_ok-vars.vars.items (plain_flat (record { vars = c.in_ok-domains.domains; cons = c.in_ok-cons.cons })) (plain_flat c.add_goal.new.flat) c.in_ok-goal-in-Some.goal
    (ap (option_map (λ ts. ts.items)) c.in-Some.is)
    (record {
      variables = c.in_ok-vars.ensures;
      domains = c.in_ok-domains.ensures ∙ ap truth_domains c.deref.ensures.value;
      cons = subst (λ (rs : List OpbRow). AreConsOf c.in_ok-vars.vars.items (map plain_row rs) (map plain_con c.in_ok-cons.cons.items)) c.deref-3.ensures.value cons;
    })
    (c.in_ok-goal-in-Some.ensures.0 ∙ ap (λ xs. length xs) c.deref-in-Some.ensures.value)
    (subst (λ (ts : List OpbTerm). GoesOnWith c.in_ok-vars.vars.items ts (plain_flat (record { vars = c.in_ok-domains.domains; cons = c.in_ok-cons.cons })) (plain_flat c.add_goal.new.flat)) c.deref-in-Some-2.ensures.value goes)

pub returns : goal.returns
returns c =
    let cons = subst (λ (vs : List ℕ). AreConsOf vs (map plain_row c.deref-3.result.now) (map plain_con c.in_ok-cons.cons.items)) c.deref-2.ensures.value c.in_ok-cons.ensures in
    stands_for_rows (plain_opb c.args.opb.now) c.in_ok-vars.vars.items (plain_flat (record { vars = c.in_ok-domains.domains; cons = c.in_ok-cons.cons })) (ap (option_map (λ ts. ts.items)) c.in-None.is)
    (record {
      variables = c.in_ok-vars.ensures;
      domains = c.in_ok-domains.ensures ∙ ap truth_domains c.deref.ensures.value;
      cons = subst (λ (rs : List OpbRow). AreConsOf c.in_ok-vars.vars.items (map plain_row rs) (map plain_con c.in_ok-cons.cons.items)) c.deref-3.ensures.value cons;
    })
