use Rattle.std.proofs.lemmas.Result.{err_from_is_err_and}
use Rattle.std.proofs.Common.{◌≡◌, [], ◌∷◌, Ok, inl, refl}
use Rattle.ep_base.specs.Outside.{Rose}
use Rattle.ep_solve.specs.Right.{empty_log}
use Rattle.ep_driver.specs.Outcomes.{to_check}
use Rattle.ep_files.specs.Readings.{IsProofReadAs, IsReadBy}
use Rattle.sat_proof.specs.Lines.{proof_lines}
use Rattle.ep_files.specs.Reads.{formula_clauses}
use Rattle.ep_driver.proofs.Chains.{after, over-trees, stable-file, unread}
use Rattle.ep_driver.proofs.Running.{check-told}
use Rattle.ep_driver.proofs.runs.check_proof.Goals as goal

pub returns-in_err-proof-clause-tells : goal.returns-in_err-proof-clause-tells
returns-in_err-proof-clause-tells g c =
    let p = err_from_is_err_and c.from_residual.result c.from_residual.ensures.1 in
    let told = g.F.Files.held c.args.files.now in
    let rose = Rose (g.F.Files.faults c.args.files.now) (g.F.Files.faults c.read_proof.new.files) in
    rw (p.1, p.2)
    (unread proof_lines IsProofReadAs c.args.proof.now [] (λ lines held outcome. outcome ≡ Ok (to_check (formula_clauses c.args.formula) lines)) told rose empty_log c.in_err-proof.field-0.0 refl c.in_err-proof.ensures.tells)

pub returns-clause-tells : goal.returns-clause-tells
returns-clause-tells g c =
    let told = g.F.Files.held c.args.files.now in
    let between = g.F.Files.held c.read_proof.new.files in
    let rose = Rose (g.F.Files.faults c.args.files.now) (g.F.Files.faults c.read_proof.new.files) in
    let clauses = formula_clauses c.args.formula in
    let lines = proof_lines c.in_ok-proof.proof in
    let reply = c.in_ok-reply.reply in
    after (c.args.proof.now ∷ []) [] (λ held. IsReadBy IsProofReadAs held c.args.proof.now) (λ read held outcome. outcome ≡ Ok (to_check clauses read))
    (stable-file IsProofReadAs c.args.proof.now) lines told between rose rose empty_log (Ok reply) c.in_ok-proof.ensures.held (λ up. up) c.in_ok-proof.ensures.tells
    (over-trees (Ok (to_check clauses lines)) between rose empty_log (Ok reply) (check-told clauses lines reply c.in_ok-reply.ensures.answers))

pub returns-in_err-reply-clause-tells : goal.returns-in_err-reply-clause-tells
returns-in_err-reply-clause-tells g c =
    let p = err_from_is_err_and c.from_residual-in_err-reply.result c.from_residual-in_err-reply.ensures.1 in
    rw (p.1, p.2) (inl refl)
