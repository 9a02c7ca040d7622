use Rattle.ep_eval.proofs.Words.{sym, ap, ◌∙◌, Ok, option_map, scalars_in, seen_held}
use Rattle.ep_eval.proofs.FoldGiven.{gives_none}
use Rattle.ep_eval.proofs.folds.folded.Goals as goal

pub returns-in-None : goal.returns-in-None
returns-in-None c =
    gives_none c.args.mode c.args.op (scalars_in (seen_held c.args.seen.now)) (Ok c.of_none.result)
    (sym c.in_ok-parts.ensures ∙ ap (option_map (λ v. v.items)) c.in-None.is) c.of_none.ensures
