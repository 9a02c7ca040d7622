use Rattle.std.proofs.Common.{refl}
use Rattle.std.specs.List.{list_all}
use Rattle.std.proofs.lemmas.Result.{on_ok_weaker}
use Rattle.enc_atoms.proofs.Naming.{adds_some}
use Rattle.enc_count.proofs.Counting.{counts_plain}
use Rattle.enc_count.specs.Counts.{wanted_holds}
use Rattle.enc_count.proofs.counts.encode_wanted.Goals as goal

pub returns-in-None : goal.returns-in-None
returns-in-None c =
    on_ok_weaker c.add_counts.result
    (counts_plain c.args.layout.now c.args.f.now c.add_counts.new.layout c.add_counts.new.f c.args.truth _ c.args.op c.args.vars.now c.args.wanted.now c.requires.ready.is_layout c.in-None.is refl)
    c.add_counts.ensures

pub returns-in-Some : goal.returns-in-Some
returns-in-Some c =
    on_ok_weaker c.encode_truth.result
    (adds_some c.args.layout.now c.args.f.now c.encode_truth.new.layout c.encode_truth.new.f c.args.truth c.in-Some.truth (λ values. list_all (wanted_holds values c.args.op c.args.vars.now) c.args.wanted.now) c.in-Some.is)
    c.encode_truth.ensures
