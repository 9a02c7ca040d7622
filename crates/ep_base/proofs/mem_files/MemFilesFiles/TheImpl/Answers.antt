use Rattle.std.proofs.Common.{rules, Some, ap, ◌∙◌}
use Rattle.std.specs.FinMap.{get}
use Rattle.std.proofs.lemmas.Result.{on_ok_weaker}
use Rattle.ep_base.proofs.Contents.{get-after_insert}
use Rattle.ep_base.proofs.mem_files.MemFilesFiles.TheImpl.Goals as goal

pub write-tells : goal.write-tells
write-tells c = record {
  written = on_ok_weaker c.result (λ e. ap Some (ap get e ∙ get-after_insert _ _ _)) c.ensures.written;
  elsewhere = search rules;
  unchanged = search rules;
  failed = search rules;
  never_falls = c.ensures.never_falls;
  fits = c.ensures.fits;
}
