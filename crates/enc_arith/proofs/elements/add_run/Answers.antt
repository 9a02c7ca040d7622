use Rattle.std.proofs.Common.{length, IsTrue, w64, rules, ◌∙◌}
use Rattle.std.specs.Ordering.{int_eq}
use Rattle.std.specs.Prelude.{None}
use Rattle.std.proofs.lemmas.Int.{to_z-of_z}
use Rattle.ep_flat.specs.Cons.{number_at}
use Rattle.enc_arith.specs.Elements.{number_of_first}
use Rattle.enc_arith.specs.Saying.{says}
use Rattle.enc_arith.proofs.Reading.{adds_no_run, adds_run, outside_there}
use Rattle.enc_arith.proofs.elements.add_run.Goals as goal

pub add_other-requires-clause-names : goal.add_other-requires-clause-names
add_other-requires-clause-names c =
    outside_there (length c.args.layout.now) c.args.when.now c.as_slice.result.now c.args.index c.args.above _ (c.as_slice.ensures.value ∙ c.in_ok-atoms.ensures) c.requires.names c.requires.index

pub returns-in_default : goal.returns-in_default
returns-in_default c = adds_no_run c.args.layout.now c.args.f.now c.args.above c.args.last c.args.index (λ values. IsTrue (says values c.args.when.now c.args.target.truth (int_eq (number_at values c.args.target.result) (number_of_first values None c.args.other)))) c.requires.ready c.in_default.is

pub returns : goal.returns
returns c =
    adds_run c.args.layout.now c.args.f.now c.add_other.new.f c.args.when.now c.as_slice.result.now c.args.index c.args.above c.args.last c.in-Some.last _ c.args.target.truth
    (λ values. int_eq (number_at values c.args.target.result) (number_of_first values None c.args.other)) c.requires.ready c.in-Some.is (to_z-of_z w64 c.in-Some.last (search rules)) (c.as_slice.ensures.value ∙ c.in_ok-atoms.ensures) c.in_ok-add_other.ensures
