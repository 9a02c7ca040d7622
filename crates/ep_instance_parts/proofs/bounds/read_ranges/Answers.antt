use Rattle.std.proofs.Common.{◌≡◌, ◌∙◌, ◌+◌, ◌∷◌, ℕ, List, Some, None, drop, ap, subst, sym, option_map}
use Rattle.std.proofs.lemmas.List.{drop_all, drop_more}
use Rattle.std.proofs.lemmas.Result.{err_from_is_err_and}
use Rattle.ep_base.specs.declared.run_lists.Run.{Run}
use Rattle.ep_eval.specs.Known.{env_of}
use Rattle.ep_tree.specs.declared.syntax.Range.{Range}
use Rattle.ep_instance_parts.proofs.LimitSteps.{counted_small}
use Rattle.ep_instance_parts.proofs.RangeSteps.{RangesSoFar, ranges_answer, ranges_begin, ranges_cause, ranges_counted, ranges_more, runs_as_elements, runs_test}
use Rattle.ep_instance_parts.proofs.bounds.read_ranges.Goals as goal

pub loop-range-init : goal.loop-range-init
loop-range-init c =
    subst
    (λ (runs : List Run). RangesSoFar c.args.env.now.mode (env_of c.args.env.now) c.args.before c.args.ranges.now c.args.ranges.now (Some runs) c.args.before)
    (sym c.new.ensures.items)
    (ranges_begin c.args.env.now.mode (env_of c.args.env.now) c.args.before c.args.ranges.now c.requires)

pub read_range-requires : goal.read_range-requires
read_range-requires c = counted_small c.args.env.now.mode c.args.before _ _ c.loop-range.invariant.counted

pub loop-range-preserved : goal.loop-range-preserved
loop-range-preserved c =
    let all : List Range = c.args.ranges.now in
    let k : ℕ = c.loop-range.range-index in
    let range : Range = c.range-item.result in
    let cut : drop k all ≡ range ∷ drop (k + 1) all =
    drop_more all k range c.loop-range-test.true ∙ ap (λ r. r ∷ drop (k + 1) all) (sym c.range-item.is) in
    ranges_more c.args.env.now.mode (env_of c.args.env.now) c.args.before c.loop-range.count c.in_ok-run.after all range (drop (k + 1) all) _ _ c.in_ok-run.run'
    (subst
    (λ (left : List Range).
    RangesSoFar c.args.env.now.mode (env_of c.args.env.now) c.args.before all left (option_map (λ v. v.items) c.loop-range.runs) c.loop-range.count)
    cut c.loop-range.invariant)
    c.in_ok-run.ensures.run c.in_ok-run.ensures.counted c.in_ok-runs.ensures

pub returns-in_err-run-clause-cause : goal.returns-in_err-run-clause-cause
returns-in_err-run-clause-cause c =
    let all : List Range = c.args.ranges.now in
    let k : ℕ = c.loop-range.range-index in
    let range : Range = c.range-item.result in
    let cut : drop k all ≡ range ∷ drop (k + 1) all =
    drop_more all k range c.loop-range-test.true ∙ ap (λ r. r ∷ drop (k + 1) all) (sym c.range-item.is) in
    let p = err_from_is_err_and c.from_residual.result c.from_residual.ensures.1 in
    rw (p.1, p.2)
    (ranges_cause c.args.env.now.mode (env_of c.args.env.now) c.args.before c.loop-range.count all range (drop (k + 1) all) _ _
    (subst
    (λ (left : List Range).
    RangesSoFar c.args.env.now.mode (env_of c.args.env.now) c.args.before all left (option_map (λ v. v.items) c.loop-range.runs) c.loop-range.count)
    cut c.loop-range.invariant)
    c.in_err-run.ensures.cause)

pub returns-in_default-clause-elements : goal.returns-in_default-clause-elements
returns-in_default-clause-elements c =
    let all : List Range = c.args.ranges.now in
    ranges_answer c.args.env.now.mode (env_of c.args.env.now) c.args.before c.loop-range.count all (option_map (λ v. v.items) c.loop-range.runs) None
    (subst
    (λ (left : List Range).
    RangesSoFar c.args.env.now.mode (env_of c.args.env.now) c.args.before all left (option_map (λ v. v.items) c.loop-range.runs) c.loop-range.count)
    (drop_all c.loop-range.range-index all c.loop-range-test.false) c.loop-range.invariant)
    (λ n. sym (ap (λ runs. option_map (λ rs. runs_test rs n) (option_map (λ v. v.items) runs)) c.in_default.is))

pub returns-in_default-clause-counted : goal.returns-in_default-clause-counted
returns-in_default-clause-counted c =
    let all : List Range = c.args.ranges.now in
    ranges_counted c.args.env.now.mode (env_of c.args.env.now) c.args.before c.loop-range.count all (option_map (λ v. v.items) c.loop-range.runs)
    (subst
    (λ (left : List Range).
    RangesSoFar c.args.env.now.mode (env_of c.args.env.now) c.args.before all left (option_map (λ v. v.items) c.loop-range.runs) c.loop-range.count)
    (drop_all c.loop-range.range-index all c.loop-range-test.false) c.loop-range.invariant)

pub returns-clause-elements : goal.returns-clause-elements
returns-clause-elements c =
    let all : List Range = c.args.ranges.now in
    ranges_answer c.args.env.now.mode (env_of c.args.env.now) c.args.before c.loop-range.count all (option_map (λ v. v.items) c.loop-range.runs) _
    (subst
    (λ (left : List Range).
    RangesSoFar c.args.env.now.mode (env_of c.args.env.now) c.args.before all left (option_map (λ v. v.items) c.loop-range.runs) c.loop-range.count)
    (drop_all c.loop-range.range-index all c.loop-range-test.false) c.loop-range.invariant)
    (λ n.
    ap Some (runs_as_elements c.in-Some.runs.items c.in_ok-new.field-0 c.in_ok-new.ensures.numbers n)
    ∙ sym (ap (λ runs. option_map (λ rs. runs_test rs n) (option_map (λ v. v.items) runs)) c.in-Some.is))

pub returns-clause-counted : goal.returns-clause-counted
returns-clause-counted c =
    let all : List Range = c.args.ranges.now in
    ranges_counted c.args.env.now.mode (env_of c.args.env.now) c.args.before c.loop-range.count all (option_map (λ v. v.items) c.loop-range.runs)
    (subst
    (λ (left : List Range).
    RangesSoFar c.args.env.now.mode (env_of c.args.env.now) c.args.before all left (option_map (λ v. v.items) c.loop-range.runs) c.loop-range.count)
    (drop_all c.loop-range.range-index all c.loop-range-test.false) c.loop-range.invariant)
