-- A line more at the end, or lists that have grown where memory was wanting.
use Rattle.std.proofs.Common.{◌≡◌, length, rules, [], ◌∷◌, ◌++◌, refl, sym, ap, ◌∙◌}
use Rattle.std.proofs.lemmas.List.{append-nil}
use Rattle.cnf_core.specs.Lines.{add}
use Rattle.sat_proof.specs.Lines.{flat_proof, proof_lines}
use Rattle.sat_proof.proofs.Rows.{at_error, line_added, lines_same}
use Rattle.sat_proof.proofs.proof.Proof.add.Goals as goal

pub returns-in_err-extend_from_slice-2-clause-err : goal.returns-in_err-extend_from_slice-2-clause-err
returns-in_err-extend_from_slice-2-clause-err c =
    let old = c.self.inside in
    at_error c.from_residual-in_err-extend_from_slice-2.result
    (lines_same (flat_proof old) _ c.args.clause.now [] [] refl c.in_ok-extend_from_slice.ensures.items (c.in_err-extend_from_slice-2.ensures.items ∙ sym (append-nil _)) (sym (append-nil _)) c.self.invariant
    ∙ ap proof_lines c.self.view_is)

pub returns-in_err-push-clause-err : goal.returns-in_err-push-clause-err
returns-in_err-push-clause-err c =
    let old = c.self.inside in
    at_error c.from_residual-in_err-push.result
    (lines_same (flat_proof old) _ c.args.clause.now c.args.hints.now [] c.in_err-push.ensures.items c.in_ok-extend_from_slice.ensures.items c.in_ok-extend_from_slice-2.ensures.items (sym (append-nil _)) c.self.invariant
    ∙ ap proof_lines c.self.view_is)

pub returns-clause-ok : goal.returns-clause-ok
returns-clause-ok c =
    let old = c.self.inside in
    let from : c.len-from.result ≡ length old.literals.items = search rules in
    let until : c.len-until.result ≡ length c.extend_from_slice.new.self.items = search rules in
    let first : c.len-first.result ≡ length old.hints.items = search rules in
    let last : c.len-last.result ≡ length c.extend_from_slice-2.new.self.items = search rules in
    line_added (flat_proof old) _ c.args.id _ _ _ _ c.args.clause.now c.args.hints.now c.in_ok-push.ensures.items c.in_ok-extend_from_slice.ensures.items c.in_ok-extend_from_slice-2.ensures.items refl
    from until first last c.self.invariant
    ∙ ap (λ p. proof_lines p ++ add c.args.id c.args.clause.now c.args.hints.now ∷ []) c.self.view_is
