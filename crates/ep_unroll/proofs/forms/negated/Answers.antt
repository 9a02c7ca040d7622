use Rattle.ep_unroll.proofs.Words.{sym, subst, length, ◌<◌, pos, map, ℤ, ℕ, All, sum, Puts}
use Rattle.ep_ground.specs.Nodes.{parts_of}
use Rattle.ep_unroll.proofs.FormSteps.{one_known}
use Rattle.ep_unroll.proofs.FormValues.{if_ok}
use Rattle.ep_unroll.proofs.forms.negated.Goals as goal

pub put-requires : goal.put-requires
unfolding parts_of
put-requires c =
    subst (λ ps. All (λ part. part < length c.args.arena.now) (map {A = ℤ × ℕ} (λ p. p.1) ps)) (sym c.in_ok-parts.ensures)
    (one_known c.args.part (length c.args.arena.now) c.requires)

pub returns : goal.returns
returns c =
    if_ok c.put.result _ _ (λ t put. subst (λ ps. Puts c.args.arena.now c.put.new.arena (sum (pos 0) ps) t) c.in_ok-parts.ensures put) c.put.ensures
