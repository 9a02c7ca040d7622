use Rattle.std.proofs.lemmas.Result.{err_from_is_err_and}
use Rattle.std.proofs.Common.{ℕ, List, [], subst}
use Rattle.std.specs.declared.alloc.Global.{Global}
use Rattle.std.specs.declared.vec.Vec.{Vec}
use Rattle.ep_base.specs.Outside.{Rose}
use Rattle.opb_text.specs.Contents.{OpbContent}
use Rattle.ep_driver.specs.Shown.{IsOpbTextReadAs, ThenShows, is_opb_task}
use Rattle.ep_driver.specs.Steps.{IsSearched, TellsShown}
use Rattle.ep_driver.proofs.Chains.{unread}
use Rattle.ep_driver.proofs.OpbReplies.{cut-opb, over-file, unread-stop}
use Rattle.ep_driver.proofs.Running.{stopped-ends}
use Rattle.ep_driver.proofs.opb.opb_file_reply.Goals as goal
use Rattle.opb_text.specs.Words.{most_opb_bytes}

pub returns-in_err-text-clause-tells : goal.returns-in_err-text-clause-tells
returns-in_err-text-clause-tells g c =
    let p = err_from_is_err_and c.from_residual.result c.from_residual.ensures.1 in
    let told = g.F.Files.held c.args.files.now in
    let rose = Rose (g.F.Files.faults c.args.files.now) (g.F.Files.faults c.read_bytes.new.files) in
    let stop = c.in_err-text.field-0.0 in
    rw (p.1, p.2)
    (unread {V = OpbContent} (λ content. content) IsOpbTextReadAs c.args.opb.now [] (λ content held. is_opb_task c.args.conflicts content) told rose c.args.log.now stop c.requires.empty
    (unread-stop (λ (bytes : Vec ℕ Global). bytes.items) IsOpbTextReadAs most_opb_bytes told c.args.opb.now rose stop c.in_err-text.ensures.tells))

pub returns-in_err-text-clause-ends : goal.returns-in_err-text-clause-ends
returns-in_err-text-clause-ends g c =
    let p = err_from_is_err_and c.from_residual.result c.from_residual.ensures.1 in
    rw (p.1, p.2) (stopped-ends (λ status. IsSearched c.args.conflicts status c.args.log.now) c.args.log.now c.in_err-text.field-0.0 c.requires.empty)

pub returns-clause-tells : goal.returns-clause-tells
returns-clause-tells g c =
    let told = g.F.Files.held c.args.files.now in
    let rose = Rose (g.F.Files.faults c.args.files.now) (g.F.Files.faults c.read_bytes.new.files) in
    let P : List ℕ → Type 0 = λ t. TellsShown (ThenShows (IsOpbTextReadAs t) (is_opb_task c.args.conflicts)) c.opb_reply.new.log c.opb_reply.result in
    over-file most_opb_bytes IsOpbTextReadAs cut-opb c.args.opb.now c.in_ok-text.text.items (is_opb_task c.args.conflicts) told rose c.opb_reply.new.log c.opb_reply.result c.in_ok-text.ensures.tells
    (subst P c.deref.ensures.value c.opb_reply.ensures.tells)
