use Rattle.std.proofs.Common.{sym, ap, ◌∙◌, option_map, Some}
use Rattle.ep_base.proofs.Contents.{get-contents}
use Rattle.ep_base.proofs.mem_files.held_under.Goals as goal

pub returns-in-Some : goal.returns-in-Some
returns-in-Some c =
    ap Some c.as_slice.ensures.value ∙ ap (option_map (λ v. v.items)) c.in-Some.ensures.value ∙ sym (get-contents c.args.name.now c.args.files.now)

pub returns-in-None : goal.returns-in-None
returns-in-None c =
    ap (option_map (λ v. v.items)) c.in-None.ensures.value ∙ sym (get-contents c.args.name.now c.args.files.now)
