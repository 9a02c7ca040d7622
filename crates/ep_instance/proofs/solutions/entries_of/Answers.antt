use Rattle.std.proofs.Common.{◌∙◌, ◌+◌, [], ◌∷◌, ap, sym, subst, map, drop, option_map}
use Rattle.std.proofs.Math.ListN.{drop_of_length-le}
use Rattle.std.proofs.lemmas.List.{map-append}
use Rattle.ep_eval.specs.Known.{env_of}
use Rattle.ep_tree.specs.Views.{named_value}
use Rattle.ep_types_rules.proofs.RuleSteps.{next_is}
use Rattle.ep_instance_parts.specs.Instances.{find_of}
use Rattle.ep_instance.proofs.ShapingSteps.{EntriesSoFar, entries_begin, entries_end, entries_missing, entries_more}
use Rattle.ep_instance.proofs.solutions.entries_of.Goals as goal

pub loop-find-init : goal.loop-find-init
loop-find-init c = entries_begin (env_of c.args.known.now) (map find_of c.args.finds.now) _ (ap (map named_value) c.new-entries.ensures.items)

pub loop-find-preserved : goal.loop-find-preserved
loop-find-preserved c =
    let known = env_of c.args.known.now in
    let finds = c.args.finds.now in
    let all = map find_of finds in
    let k = c.loop-find.find-index in
    let done = c.loop-find.entries.items in
    let cut = ap (map find_of) (next_is finds k c.find-item.result c.loop-find-test.true c.find-item.is) in
    subst (EntriesSoFar known all (map find_of (drop (k + 1) finds)))
    (sym (ap (map named_value) c.in_ok-push.ensures.items ∙ map-append named_value done (c.in-Some.entry ∷ [])))
    (entries_more known all (find_of c.find-item.result) (map find_of (drop (k + 1) finds)) (map named_value done) (named_value c.in-Some.entry)
    (subst (λ left. EntriesSoFar known all left (map named_value done)) cut c.loop-find.invariant)
    (sym c.in_ok-fitting.ensures ∙ ap (option_map named_value) c.in-Some.is))

pub returns-in_default : goal.returns-in_default
returns-in_default c =
    let known = env_of c.args.known.now in
    let finds = c.args.finds.now in
    let all = map find_of finds in
    let k = c.loop-find.find-index in
    let done = c.loop-find.entries.items in
    let cut = ap (map find_of) (next_is finds k c.find-item.result c.loop-find-test.true c.find-item.is) in
    entries_missing known all (find_of c.find-item.result) (map find_of (drop (k + 1) finds)) (map named_value done) _
    (subst (λ left. EntriesSoFar known all left (map named_value done)) cut c.loop-find.invariant)
    (sym c.in_ok-fitting.ensures ∙ ap (option_map named_value) c.in_default.is) (c.in_ok-name.ensures.copied ∙ c.text.ensures.text)

pub returns : goal.returns
returns c =
    let known = env_of c.args.known.now in
    let all = map find_of c.args.finds.now in
    entries_end known all (map named_value c.loop-find.entries.items)
    (subst (λ xs. EntriesSoFar known all (map find_of xs) (map named_value c.loop-find.entries.items)) (drop_of_length-le c.args.finds.now c.loop-find-test.false) c.loop-find.invariant)
