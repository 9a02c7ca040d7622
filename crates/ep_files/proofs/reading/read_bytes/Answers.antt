use Rattle.std.proofs.Common.{◌∙◌, ◌+◌, ℕ, List, None, Option, Err, inl, inr, option_map, ap, subst}
use Rattle.std.specs.declared.alloc.Global.{Global}
use Rattle.std.specs.declared.vec.Vec.{Vec}
use Rattle.ep_base.specs.Outside.{ReadGives, Rose}
use Rattle.ep_files.proofs.FileReading.{not-there, unread-bytes}
use Rattle.ep_files.proofs.reading.read_bytes.Goals as goal

pub returns-in-Ok-None-clause-tells : goal.returns-in-Ok-None-clause-tells
returns-in-Ok-None-clause-tells g c =
    let told = g.F.Files.held c.args.files.now in
    let rose = Rose (g.F.Files.faults c.args.files.now) (g.F.Files.faults c.read.new.self) in
    let N : List ℕ → Type 0 = λ n. ReadGives told n (c.args.most + 1) None in
    let G : Option (Vec ℕ Global) → Type 0 = λ o. ReadGives told c.text.result.now (c.args.most + 1) (option_map (λ b. b.items) o) in
    let gives : N c.text.result.now = subst G c.in-Ok-None.field-0-is c.in-Ok-None.ensures.gives in
    unread-bytes c.args.most told c.args.name.now rose c.unread.result c.unread.ensures
    (inr (not-there told c.args.name.now (c.args.most + 1) (subst N c.text.ensures.text gives)))

pub returns-in-Err-Failed-clause-tells : goal.returns-in-Err-Failed-clause-tells
returns-in-Err-Failed-clause-tells g c =
    let told = g.F.Files.held c.args.files.now in
    let rose = Rose (g.F.Files.faults c.args.files.now) (g.F.Files.faults c.read.new.self) in
    unread-bytes c.args.most told c.args.name.now rose c.unread-in-Err-Failed.result c.unread-in-Err-Failed.ensures
    (inl (c.read.ensures.failed (c.in-Err-Failed.is ∙ ap Err c.in-Err-Failed.field-0-is)))
