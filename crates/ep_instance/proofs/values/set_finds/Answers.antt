use Rattle.std.proofs.Common.{◌<◌, ◌∙◌, ◌-◌, IsTrue, ap, refl, sym, subst, map, arith, length}
use Rattle.std.specs.List.{list_all}
use Rattle.std.proofs.Math.ListN.{drop_of_length-le}
use Rattle.ep_eval.specs.Known.{env_of}
use Rattle.ep_tree.specs.TypedValues.{is_number_of}
use Rattle.ep_tree.specs.Views.{named_value}
use Rattle.ep_instance_parts.specs.Instances.{find_of}
use Rattle.ep_instance.specs.Assigning.{HasFit, IsUnder}
use Rattle.ep_instance.proofs.AssigningSteps.{holds_at, under_end, under_none, under_step}
use Rattle.ep_instance.proofs.JudgingSteps.{some_elsewhere}
use Rattle.ep_instance.proofs.values.set_finds.Goals as goal

pub loop-left-init : goal.loop-left-init
loop-left-init c =
    let finds = c.args.finds.now in
    let env = env_of c.args.env.now in
    let a = map named_value c.args.entries.now in (
      omega arith,
      refl,
      subst (λ fs. IsUnder (map find_of fs) a env env) (sym (drop_of_length-le finds (omega arith))) (under_none a env env refl),
    )

pub set_find-requires : goal.set_find-requires
set_find-requires c =
    let low : c.loop-left.left - 1 < length c.args.finds.now = omega (arith, c.loop-left.invariant.0, c.loop-left-test.true) in record {
      values = holds_at (λ f. IsTrue (list_all (is_number_of f.scalar) f.values)) c.args.finds.now (c.loop-left.left - 1) c.index-finds-left.result c.index-finds-left.is low c.requires.values;
      fits = holds_at (HasFit (map named_value c.args.entries.now)) c.args.finds.now (c.loop-left.left - 1) c.index-finds-left.result c.index-finds-left.is low c.requires.fits;
    }

pub loop-left-preserved : goal.loop-left-preserved
loop-left-preserved c =
    let finds = c.args.finds.now in
    let a = map named_value c.args.entries.now in (
      omega (arith, c.loop-left.invariant.0),
      c.set_find.ensures.mode ∙ c.loop-left.invariant.1,
      under_step finds c.loop-left.left c.index-finds-left.result _ a _ _ _ c.index-finds-left.is c.loop-left-test.true c.loop-left.invariant.0 refl c.loop-left.invariant.2 c.in_ok-set_find.ensures.known,
    )

pub returns-in_err-set_find-clause-mode : goal.returns-in_err-set_find-clause-mode
returns-in_err-set_find-clause-mode c = c.set_find.ensures.mode ∙ c.loop-left.invariant.1

pub returns-in_err-set_find-clause-elsewhere : goal.returns-in_err-set_find-clause-elsewhere
returns-in_err-set_find-clause-elsewhere c =
    some_elsewhere c.args.finds.now c.loop-left.left (map named_value c.args.entries.now) (env_of c.args.env.now) (env_of c.loop-left.env) _ c.loop-left.invariant.2 (ap env_of c.in_err-set_find.ensures.unchanged)

pub returns-clause-mode : goal.returns-clause-mode
returns-clause-mode c = c.loop-left.invariant.1

pub returns-clause-known : goal.returns-clause-known
returns-clause-known c =
    under_end c.args.finds.now c.loop-left.left (map named_value c.args.entries.now) _ _ (omega (arith, c.loop-left-test.false)) c.loop-left.invariant.2

pub returns-clause-elsewhere : goal.returns-clause-elsewhere
returns-clause-elsewhere c =
    some_elsewhere c.args.finds.now c.loop-left.left (map named_value c.args.entries.now) (env_of c.args.env.now) (env_of c.loop-left.env) _ c.loop-left.invariant.2 refl
