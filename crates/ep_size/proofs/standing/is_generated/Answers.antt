use Rattle.ep_size.proofs.Words.{ap, sym, refl, ◌∙◌, ◌+◌, ◌||◌, drop, bytes_eq, list_any, generator_names, generators_of}
use Rattle.ep_size.proofs.LookSteps.{generated_all, generated_more}
use Rattle.ep_size.proofs.standing.is_generated.Goals as goal

pub loop-generator-init : goal.loop-generator-init
loop-generator-init c = refl

pub loop-generator-preserved : goal.loop-generator-preserved
loop-generator-preserved c =
    let f = bytes_eq c.args.name.now in
    let all = c.args.generators.now in
    let k = c.loop-generator.generator-index in
    sym (generated_more f all k c.generator-item.result _ c.loop-generator-test.true c.generator-item.is
    ∙ ap (λ b. b || list_any f (generator_names (generators_of (drop (k + 1) all))))
    (sym (c.is_one_of.ensures ∙ ap (list_any f) c.deref.ensures.value) ∙ c.if-is_one_of.false)) ∙ c.loop-generator.invariant

pub returns-then-is_one_of : goal.returns-then-is_one_of
returns-then-is_one_of c =
    let f = bytes_eq c.args.name.now in
    let all = c.args.generators.now in
    let k = c.loop-generator.generator-index in
    sym (sym c.loop-generator.invariant ∙ generated_more f all k c.generator-item.result _ c.loop-generator-test.true c.generator-item.is
    ∙ ap (λ b. b || list_any f (generator_names (generators_of (drop (k + 1) all))))
    (sym (c.is_one_of.ensures ∙ ap (list_any f) c.deref.ensures.value) ∙ c.if-is_one_of.true))

pub returns : goal.returns
returns c =
    sym (sym c.loop-generator.invariant ∙ generated_all (bytes_eq c.args.name.now) c.args.generators.now c.loop-generator.generator-index c.loop-generator-test.false)
