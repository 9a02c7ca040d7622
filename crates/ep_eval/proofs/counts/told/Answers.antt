use Rattle.ep_eval.proofs.Words.{sym, ap, ◌∙◌, option_map, counts_hold}
use Rattle.ep_eval.proofs.Defined.{on_first_none, on_second_none, on_some}
use Rattle.ep_eval.proofs.counts.told.Goals as goal

pub returns-in-Some-counts : goal.returns-in-Some-counts
returns-in-Some-counts c =
    let op = c.args.op in
    let parts = c.args.parts.now in
    let values = c.in-Some.values in
    let counts = c.in-Some-counts.counts in
    c.counts_hold.ensures ∙ ap (λ l. counts_hold op parts l c.deref-in-Some-counts.result.now) c.deref.ensures.value ∙ ap (counts_hold op parts values.items) c.deref-in-Some-counts.ensures.value
    ∙ sym (on_some (option_map (λ v. v.items) c.args.values) (option_map (λ v. v.items) c.args.counts) (counts_hold op parts) values.items counts.items
    (ap (option_map (λ v. v.items)) c.in-Some.is) (ap (option_map (λ v. v.items)) c.in-Some-counts.is))

pub returns-in-Some : goal.returns-in-Some
returns-in-Some c =
    sym (on_second_none (option_map (λ v. v.items) c.args.values) (option_map (λ v. v.items) c.args.counts) (counts_hold c.args.op c.args.parts.now) c.in-Some.values.items
    (ap (option_map (λ v. v.items)) c.in-Some.is) (ap (option_map (λ v. v.items)) c.in-None-counts.is))

pub returns : goal.returns
returns c =
    sym (on_first_none (option_map (λ v. v.items) c.args.values) (option_map (λ v. v.items) c.args.counts) (counts_hold c.args.op c.args.parts.now)
    (ap (option_map (λ v. v.items)) c.in-None.is))
