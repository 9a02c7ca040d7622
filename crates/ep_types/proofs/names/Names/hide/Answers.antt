use Rattle.std.proofs.Common.{ap, ◌∙◌}
use Rattle.ep_tree.specs.Names.{put}
use Rattle.ep_tree.specs.Types.{Context}
use Rattle.ep_types.proofs.NameSteps.{behind_more}
use Rattle.ep_types.specs.Meanings.{behind_names, names_context, known_by, meaning_of}
use Rattle.ep_types.proofs.names.Names.hide.Goals as goal

pub returns-clause-known : goal.returns-clause-known
unfolding names_context
returns-clause-known c =
    let k : Context = known_by c.args.self.now.declared.now.entries in
    ap (λ es. behind_names es k) c.in_ok-push.ensures.items
    ∙ behind_more c.args.self.now.inner.items (c.text.result, c.args.meaning) k
    ∙ ap (λ n. put n (meaning_of c.args.meaning) (behind_names c.args.self.now.inner.items k)) c.text.ensures.text
