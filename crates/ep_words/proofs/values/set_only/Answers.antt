use Rattle.std.proofs.Common.{◌≡◌, map, rules, sym, ◌∙◌}
use Rattle.clap.specs.Matches.{found_of, ids_left}
use Rattle.ep_words.proofs.OptionLists.{among_later, only_all, only_end, set_here, unset_later}
use Rattle.ep_words.proofs.values.set_only.Goals as goal
use Rattle.ep_words.proofs.values.set_only.Goals.{else-is_some-via-then-is_some+else-not-is_among, else-is_some-via-else-is_some}

pub loop-name-init : goal.loop-name-init
loop-name-init c =
    let all : ids_left c.into_iter-name-iterator.result ≡ map (λ entry. entry.0.now) (found_of c.args.settings.now).entries.items = search rules in
    only_all c.args.names.now c.args.settings.now _ all

pub loop-name-preserved : goal.loop-name-preserved
loop-name-preserved c =
    let step = c.in-Some.ensures.steps in
    elim c.else-is_some.branch [
      | else-is_some-via-then-is_some+else-not-is_among w ↦
          among_later c.args.names.now c.args.settings.now c.in-Some.name.now _ _ step.0 step.1 w.if-not-is_among.ensures ∙ c.loop-name.invariant
      | else-is_some-via-else-is_some w ↦
          unset_later c.args.names.now c.args.settings.now c.in-Some.name.now _ _ step.0 step.1 c.get_str.result c.get_str.ensures w.if-is_some.ensures ∙ c.loop-name.invariant
    ]

pub returns-then-not-is_among : goal.returns-then-not-is_among
returns-then-not-is_among c =
    let step = c.in-Some.ensures.steps in
    sym (set_here c.args.names.now c.args.settings.now c.in-Some.name.now _ _ step.0 step.1 c.get_str.result c.get_str.ensures c.if-is_some.ensures c.if-not-is_among.ensures) ∙ c.loop-name.invariant

pub returns : goal.returns
returns c = sym (only_end c.args.names.now c.args.settings.now _ c.in-None.ensures.steps.0) ∙ c.loop-name.invariant
