use Rattle.std.proofs.Common.{subst}
use Rattle.ep_instance_parts.specs.Instances.{instance_mode, plain_instance}
use Rattle.ep_tree.specs.declared.values.Mode.{Mode}
use Rattle.ep_explain.proofs.Asking.{asked_closed, asked_plain, asked_values, asked_within, told}
use Rattle.ep_explain.proofs.explaining.attempt_at.Goals as goal

pub attempt-requires : goal.attempt-requires
attempt-requires g c =
    let i = plain_instance c.args.instance.now in
    let fewer = plain_instance c.in_ok-fewer.fewer in
    record {
      closed = asked_closed i fewer c.args.keep.now c.in_ok-fewer.ensures.same c.requires.closed;
      within = asked_within (instance_mode c.args.instance.now) (instance_mode c.in_ok-fewer.fewer) i fewer c.args.keep.now c.in_ok-fewer.ensures.same c.in_ok-fewer.ensures.mode
          c.requires.numbers c.requires.within;
      values = asked_values i fewer c.args.keep.now c.in_ok-fewer.ensures.same c.requires.values;
      plain = asked_plain i fewer c.args.keep.now c.in_ok-fewer.ensures.same;
    }

pub returns-clause-right : goal.returns-clause-right
returns-clause-right g c =
    told (instance_mode c.args.instance.now) (instance_mode c.in_ok-fewer.fewer) (plain_instance c.args.instance.now) (plain_instance c.in_ok-fewer.fewer) c.args.keep.now _ _ _
    c.in_ok-fewer.ensures.same c.in_ok-fewer.ensures.mode c.in_ok-tried.ensures.right

pub returns-clause-shown : goal.returns-clause-shown
returns-clause-shown g c =
    subst (g.T.Tries.shown c.attempt.new.self (instance_mode c.args.instance.now)) c.in_ok-fewer.ensures.same
    (subst (λ (mode : Mode). g.T.Tries.shown c.attempt.new.self mode (plain_instance c.in_ok-fewer.fewer)) c.in_ok-fewer.ensures.mode c.in_ok-tried.ensures.shown)
