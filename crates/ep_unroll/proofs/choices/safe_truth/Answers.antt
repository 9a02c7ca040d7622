use Rattle.ep_unroll.proofs.Words.{◌≡◌, ap, length, subst, sym, ◌∙◌, ◌∷◌, ◌++◌, [], ◌<◌, All, All-append}
use Rattle.ep_ground.specs.Nodes.{parts_of}
use Rattle.ep_unroll.proofs.FormSteps.{none_known, one_known}
use Rattle.ep_unroll.proofs.FormValues.{grows_long, if_ok}
use Rattle.ep_unroll.proofs.PartReadSteps.{safe_true}
use Rattle.ep_unroll.proofs.choices.safe_truth.Goals as goal

pub put-requires : goal.put-requires
unfolding parts_of
put-requires c = none_known (length c.args.arena.now)

pub put-requires-2 : goal.put-requires-2
unfolding parts_of
put-requires-2 c =
    let old = c.args.arena.now in
    let new = c.put.new.arena in
    let g = c.in_ok-none.ensures.grows in
    let whole : c.push_terms.new.terms.items ≡ c.in_ok-none.none ∷ c.args.entries.now.terms.items =
    c.in_ok-push_terms.ensures ∙ ap (λ l. c.in_ok-all.all.terms.items ++ l) c.deref-2.ensures.value ∙ ap (λ l. l ++ c.args.entries.now.terms.items) c.in_ok-all.ensures.1 in
    All-append (λ t. t < length new) c.push_terms.new.terms.items c.args.indices.items
    (subst (All (λ t. t < length new)) (sym whole)
    (All-append (λ t. t < length new) (c.in_ok-none.none ∷ []) c.args.entries.now.terms.items (one_known c.in_ok-none.none (length new) c.in_ok-none.ensures.known) (λ k d less. grows_long old new _ g (c.requires.terms k d less))))
    (λ k d less. grows_long old new _ g (c.requires.indices k d less))

pub returns : goal.returns
returns c count safe =
    if_ok c.truth_of.result _ _
    (λ t told. safe_true c.args.arena.now c.put.new.arena c.put-2.new.arena c.truth_of.new.arena count c.args.entries.now.keys.items c.push_keys.new.keys.items c.args.entries.now.terms.items c.args.indices.items
    c.push_terms.new.terms.items c.in_ok-none.none c.in_ok-term.term t safe c.requires.terms c.requires.indices c.in_ok-none.ensures
    (c.in_ok-push_keys.ensures ∙ ap (λ l. c.in_ok-all.all.keys.items ++ l) c.deref.ensures.value ∙ ap (λ l. l ++ c.args.entries.now.keys.items) c.in_ok-all.ensures.0)
    (c.in_ok-push_terms.ensures ∙ ap (λ l. c.in_ok-all.all.terms.items ++ l) c.deref-2.ensures.value ∙ ap (λ l. l ++ c.args.entries.now.terms.items) c.in_ok-all.ensures.1)
    c.in_ok-term.ensures told) c.truth_of.ensures
