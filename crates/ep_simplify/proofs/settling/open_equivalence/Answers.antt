use Rattle.std.proofs.Common.{◌∙◌, Some, ap, inl, inr, refl, rules, sym, w64}
use Rattle.std.proofs.lemmas.Int.{to_z-of_z}
use Rattle.ep_simplify.proofs.Joining.{both_first_below, neither_untold}
use Rattle.ep_ground.specs.Grounds.{StandsOver}
use Rattle.ep_ground.specs.Nodes.{is_partial, parts_of, same_truth}
use Rattle.ep_simplify.proofs.Forms.{is_none}
use Rattle.ep_simplify.proofs.Taking.{own_settles}
use Rattle.ep_simplify.specs.Decided.{IsOpen, lone_number}
use Rattle.ep_simplify.proofs.settling.open_equivalence.Goals as goal

pub take-requires : goal.take-requires
unfolding parts_of is_partial StandsOver IsOpen
take-requires c = record {
  news = c.requires.news;
  room = c.requires.room;
  parts = c.requires.parts;
  safe = record { whole = refl; stands = tt };
  undecided = c.requires.undecided;
  untold = λ were own. neither_untold c.args.cells.now c.args.news.now c.args.a c.args.b (is_none (lone_number c.args.news.now.arena c.args.a) (sym c.in_default.ensures)) (is_none (lone_number c.args.news.now.arena c.args.b) (sym c.in_default-number_in.ensures));
}

pub beside-requires : goal.beside-requires
beside-requires c = record {
  news = c.requires.news;
  room = c.requires.room;
  parts = c.requires.parts;
  undecided = c.requires.undecided;
  beside = inl (sym c.in-Some.ensures ∙ ap (λ n. Some n) (sym (to_z-of_z w64 c.in-Some.known (search rules))), refl);
}

pub beside-requires-in-Some-number_in : goal.beside-requires-in-Some-number_in
beside-requires-in-Some-number_in c = record {
  news = c.requires.news;
  room = c.requires.room;
  parts = c.requires.parts;
  undecided = c.requires.undecided;
  beside = inr (sym c.in-Some-number_in.ensures ∙ ap (λ n. Some n) (sym (to_z-of_z w64 c.in-Some-number_in.known (search rules))), refl);
}

pub number_in-requires : goal.number_in-requires
number_in-requires c = (both_first_below c.args.news.now.arena c.args.a c.args.b c.requires.parts).0

pub number_in-requires-2 : goal.number_in-requires-2
number_in-requires-2 c = (both_first_below c.args.news.now.arena c.args.a c.args.b c.requires.parts).1

pub returns : goal.returns
unfolding parts_of
returns c = own_settles c.args.cells.now c.args.news.now c.take.new.news (same_truth c.args.a c.args.b) c.in_ok-own.own c.requires.news c.requires.parts c.in_ok-own.ensures
