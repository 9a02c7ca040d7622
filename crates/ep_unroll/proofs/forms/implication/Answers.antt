use Rattle.ep_unroll.proofs.Words.{sym, subst, ◌∙◌, ◌∷◌, [], length, ◌<◌, ◌≤◌, All, mode_in, IsJudged}
use Rattle.ep_ground.specs.Nodes.{any_of, parts_of}
use Rattle.ep_unroll.proofs.FormSteps.{one_known, two_known}
use Rattle.ep_unroll.proofs.FormValues.{asked, grows_long, if_ok, implies_term}
use Rattle.ep_unroll.proofs.forms.implication.Goals as goal

pub put-requires : goal.put-requires
unfolding parts_of
put-requires c = one_known c.args.one (length c.args.arena.now) c.requires.one

pub judged-requires : goal.judged-requires
unfolding parts_of
judged-requires c = record {
  node = subst (All (λ part. part < length c.put.new.arena)) (sym c.in_ok-parts.ensures)
      (two_known c.in_ok-no.no c.args.other (length c.put.new.arena) c.in_ok-no.ensures.known
      (grows_long c.args.arena.now c.put.new.arena c.args.other c.in_ok-no.ensures.grows c.requires.other));
  others = λ k d less. grows_long c.args.arena.now c.put.new.arena _ c.in_ok-no.ensures.grows (c.in_ok-needed.ensures.known k d less);
}

pub returns : goal.returns
returns c n cells nodes p e f mode count h k =
    let old = c.args.arena.now in
    let us = c.in_ok-needed.needed.items in
    if_ok c.judged.result _ _
    (λ t j. implies_term n cells nodes old c.put.new.arena c.judged.new.arena p e f c.args.one c.args.other c.in_ok-no.no t us
    (λ is numbers few. c.can_imply.ensures c.if-not-can_imply.false (sym mode ∙ is) numbers (subst (λ m. m ≤ length numbers) count few))
    h k (asked n old c.args.count (mode_in c.args.scope) (c.args.one ∷ c.args.other ∷ []) us mode count c.in_ok-needed.ensures)
    c.in_ok-no.ensures (subst (λ ts. IsJudged c.put.new.arena c.judged.new.arena (any_of ts) us t) c.in_ok-parts.ensures j)) c.judged.ensures
