use Rattle.std.proofs.Common.{sym, ap, ◌∙◌, List, Bool}
use Rattle.ep_flatten.specs.Marking.{marked}
use Rattle.ep_flatten.proofs.MarkedTerms.{marked_both}
use Rattle.ep_flatten.proofs.marks.mark_both.Goals as goal

pub returns : goal.returns
returns c =
    c.mark_all-2.ensures ∙ ap (λ (ms : List Bool). marked ms c.args.others.now) c.mark_all.ensures
    ∙ sym (marked_both c.args.marks.now.items c.args.terms.now c.args.others.now)
