-- A line more at the end, or ids more where memory was wanting.
use Rattle.std.proofs.Common.{◌≡◌, length, rules, [], ◌∷◌, ◌++◌, refl, sym, ap, ◌∙◌}
use Rattle.std.proofs.lemmas.List.{append-nil}
use Rattle.cnf_core.specs.Lines.{delete}
use Rattle.sat_proof.specs.Lines.{flat_proof, proof_lines}
use Rattle.sat_proof.proofs.Rows.{at_error, line_deleted, lines_same}
use Rattle.sat_proof.proofs.proof.Proof.delete.Goals as goal

pub returns-in_err-push-clause-err : goal.returns-in_err-push-clause-err
returns-in_err-push-clause-err c =
    let old = c.self.inside in
    at_error c.from_residual-in_err-push.result
    (lines_same (flat_proof old) _ [] [] c.args.ids.now c.in_err-push.ensures.items (sym (append-nil _)) (sym (append-nil _)) c.in_ok-extend_from_slice.ensures.items c.self.invariant
    ∙ ap proof_lines c.self.view_is)

pub returns-clause-ok : goal.returns-clause-ok
returns-clause-ok c =
    let old = c.self.inside in
    let from : c.len-from.result ≡ length old.ids.items = search rules in
    let until : c.len-until.result ≡ length c.extend_from_slice.new.self.items = search rules in
    line_deleted (flat_proof old) _ _ _ c.args.ids.now c.in_ok-push.ensures.items refl refl c.in_ok-extend_from_slice.ensures.items from until c.self.invariant
    ∙ ap (λ p. proof_lines p ++ delete c.args.ids.now ∷ []) c.self.view_is
