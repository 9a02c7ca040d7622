use Rattle.std.proofs.Common.{◌≡◌, ◌-◌, pos, ◌∷◌, map, codes, length, take, drop, get_or, rules, sym, ap, w64, FitsSigned, to_z, of_z}
use Rattle.std.proofs.lemmas.Int.{to_z-of_z}
use Rattle.ep_print.specs.Values.{run_text, runs_of}
use Rattle.ep_print.proofs.RunLaws.{first_text, no_runs}
use Rattle.ep_print.proofs.Turns.{text_end, text_more}
use Rattle.ep_print.proofs.indices.push_runs.Goals as goal

pub loop-rest-preserved : goal.loop-rest-preserved
loop-rest-preserved c =
    let rest = c.loop-rest.rest.now in
    let first = get_or rest 0 (pos 0) in
    let last = c.first_run-last.result.0 in
    let after = c.first_run-last.result.1.now in
    let fits_first : FitsSigned w64 first = search rules in
    let fits_last : FitsSigned w64 last = search rules in
    let x = to_z w64 (of_z w64 first) in
    let run : runs_of (x ∷ take (length rest - 1) (drop 1 rest)) ≡ record { first = x; last = last } ∷ runs_of after = c.first_run-last.ensures.run in
    let texts = first_text rest x last (to_z w64 (of_z w64 last)) after c.in-len1-up.len_at_least (sym (to_z-of_z w64 first fits_first)) run (sym (to_z-of_z w64 last fits_last)) in
    text_more (codes ", ") c.loop-rest.started _ (map run_text (runs_of after)) (map run_text (runs_of rest)) _ _ _ _ texts c.in_ok-push_text_between.ensures c.in_ok-push_run.ensures c.loop-rest.invariant

pub returns : goal.returns
returns c =
    text_end (codes ", ") c.loop-rest.started (map run_text (runs_of c.loop-rest.rest.now)) _ _ (ap (map run_text) (no_runs c.loop-rest.rest.now c.in_default.len_below)) c.loop-rest.invariant
