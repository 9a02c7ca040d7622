use Rattle.std.proofs.Common.{◌∙◌, ap, false, refl, w64}
use Rattle.std.proofs.lemmas.Int.{to_z-of_z}
use Rattle.ep_base.specs.Numbers.{is_one}
use Rattle.ep_base.specs.Reads.{same_bool}
use Rattle.ep_ground.specs.Grounds.{StandsOver}
use Rattle.ep_ground.specs.Nodes.{is_partial, parts_of, same_truth}
use Rattle.ep_simplify.proofs.Joining.{beside_not, beside_same, beside_untold, only_below, other_below, said_false, said_true}
use Rattle.ep_simplify.proofs.Taking.{own_settles}
use Rattle.ep_simplify.specs.Decided.{IsOpen}
use Rattle.ep_simplify.proofs.settling.beside.Goals as goal

pub negation_of-requires : goal.negation_of-requires
negation_of-requires c = record {
  news = c.requires.news;
  room = c.requires.room;
  parts = only_below c.args.news.now.arena c.args.other (other_below c.args.news.now.arena c.args.a c.args.b c.args.other c.args.known c.requires.beside c.requires.parts);
}

pub take-requires : goal.take-requires
unfolding parts_of is_partial StandsOver IsOpen
take-requires c = record {
  news = c.requires.news;
  room = c.requires.room;
  parts = c.requires.parts;
  safe = record { whole = refl; stands = tt };
  undecided = c.requires.undecided;
  untold = λ were own. beside_untold c.args.cells.now c.args.news.now c.args.a c.args.b c.args.other c.args.known c.requires.undecided.1 c.requires.beside (λ near. c.is_truth.ensures.complete c.if-is_truth.false (other_below c.args.news.now.arena c.args.a c.args.b c.args.other c.args.known c.requires.beside c.requires.parts) near c.args.cells.now c.requires.news) were;
}

pub returns-then-is_said : goal.returns-then-is_said
returns-then-is_said c =
    beside_not c.args.cells.now c.args.news.now c.negation_of.new.news c.args.a c.args.b c.args.other c.args.known c.in_ok-opposite.opposite c.requires.news c.requires.parts c.requires.beside
    (said_false c.args.known c.is_said.result (c.is_said.ensures ∙ ap (λ n. same_bool false (is_one n)) (to_z-of_z w64 c.args.known c.ranges.known)) c.if-is_said.true) c.in_ok-opposite.ensures

pub returns-then-is_truth : goal.returns-then-is_truth
returns-then-is_truth c =
    beside_same c.args.cells.now c.args.news.now c.args.a c.args.b c.args.other c.args.known c.requires.news c.requires.parts c.requires.beside
    (said_true c.args.known c.is_said.result (c.is_said.ensures ∙ ap (λ n. same_bool false (is_one n)) (to_z-of_z w64 c.args.known c.ranges.known)) c.if-is_said.false) (c.is_truth.ensures.sound c.if-is_truth.true c.args.cells.now c.requires.news)

pub returns : goal.returns
unfolding parts_of
returns c = own_settles c.args.cells.now c.args.news.now c.take.new.news (same_truth c.args.a c.args.b) c.in_ok-own.own c.requires.news c.requires.parts c.in_ok-own.ensures
