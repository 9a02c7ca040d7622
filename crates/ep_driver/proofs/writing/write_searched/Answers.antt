use Rattle.std.proofs.Common.{◌≡◌, refl, sym, subst}
use Rattle.ep_outputs.specs.Outputs.{AreWritten, named}
use Rattle.ep_driver.specs.Commands.{no_outputs}
use Rattle.ep_driver.specs.Outputs.{outputs_in_order}
use Rattle.ep_driver.specs.Searches.{CanBeRequested, LogsInstance}
use Rattle.ep_driver.specs.declared.wanted.Outputs.{Outputs}
use Rattle.ep_driver.specs.declared.wanted.Request.{Request}
use Rattle.ep_driver.proofs.writing.write_searched.Goals as goal

pub write_outputs-requires : goal.write_outputs-requires
write_outputs-requires g c = record { readable = c.requires.readable (subst LogsInstance (sym c.in-One.is) tt) }

pub write_outputs-requires-in-Divided : goal.write_outputs-requires-in-Divided
write_outputs-requires-in-Divided g c = record { readable = c.requires.readable (subst LogsInstance (sym c.in-Divided.is) tt) }

pub write_outputs-requires-in-Many : goal.write_outputs-requires-in-Many
write_outputs-requires-in-Many g c = record { readable = c.requires.readable (subst LogsInstance (sym c.in-Many.is) tt) }

pub write_outputs-requires-in-Generated : goal.write_outputs-requires-in-Generated
write_outputs-requires-in-Generated g c = record { readable = c.requires.readable (subst LogsInstance (sym c.in-Generated.is) tt) }

pub returns-in-Explained-clause-tells : goal.returns-in-Explained-clause-tells
unfolding outputs_in_order named
returns-in-Explained-clause-tells g c =
    let told = g.F.Files.held c.args.files.now in
    let none : c.args.outputs ≡ no_outputs = subst (λ (q : Request). CanBeRequested q c.args.outputs) c.in-Explained.is c.requires.possible in
    let W : Outputs → Type 0 = λ o. AreWritten c.args.log.now c.args.answer.now (outputs_in_order o) told told in
    subst W (sym none) refl
