use Rattle.std.proofs.Common.{get_or, length, ◌∙◌, refl, sym, subst, arith}
use Rattle.std.specs.List.{Contains}
use Rattle.std.proofs.lemmas.Option.{slice_get_read}
use Rattle.ep_explain.specs.declared.left.Left.{Left}
use Rattle.ep_explain.proofs.Only.{IsOnly, none_yet, only_begun, only_found, only_passed, only_result, only_within}
use Rattle.ep_explain.proofs.Single.{none_among}
use Rattle.ep_explain.proofs.left.only_violated.Goals as goal

pub loop-place-init : goal.loop-place-init
loop-place-init c = only_begun c.args.violated.now c.args.left.now

pub loop-place-preserved-then-not-contains : goal.loop-place-preserved-then-not-contains
loop-place-preserved-then-not-contains c =
    only_passed c.args.violated.now c.args.left.now c.loop-place.place c.index-left-place.result c.loop-place.only c.loop-place-test.true c.index-left-place.is
    (subst (λ (z : Left). Contains c.args.violated.now z.clause → ⊥) (sym c.index-left-place.is)
    (none_among c.args.violated.now (get_or c.args.left.now c.loop-place.place c.index-left-place.result).clause _ c.contains.ensures.value c.if-not-contains.true))
    c.loop-place.invariant

pub loop-place-preserved : goal.loop-place-preserved
loop-place-preserved c =
    only_found c.args.violated.now c.args.left.now c.loop-place.place c.index-left-place.result c.loop-place-test.true c.index-left-place.is
    (slice_get_read c.args.left.now (length c.args.left.now) c.loop-place.place c.index-left-place.result refl c.loop-place-test.true c.index-left-place.is)
    (subst (IsOnly c.args.violated.now c.args.left.now c.loop-place.place) (none_yet c.loop-place.only (sym c.is_some.ensures ∙ c.if-is_some.false)) c.loop-place.invariant)

pub returns-clause-within : goal.returns-clause-within
returns-clause-within c = only_within c.args.violated.now c.args.left.now c.loop-place.place c.loop-place.only (omega arith) c.loop-place.invariant

pub returns-clause-only : goal.returns-clause-only
returns-clause-only c = only_result c.args.violated.now c.args.left.now c.loop-place.place c.loop-place.only (omega arith) c.loop-place.invariant
