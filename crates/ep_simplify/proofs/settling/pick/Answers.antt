use Rattle.std.proofs.Common.{◌<◌, ℕ, ℤ, List, length, refl, subst, sym}
use Rattle.std.specs.List.{All}
use Rattle.std.proofs.lemmas.List.Elements.{All-append}
use Rattle.ep_ground.specs.Grounds.{StandsOver}
use Rattle.ep_ground.specs.Nodes.{is_partial, parts_of, safe_pick}
use Rattle.ep_simplify.proofs.Picking.{numbers_found, pick_untold}
use Rattle.ep_simplify.proofs.Taking.{own_settles}
use Rattle.ep_simplify.specs.Decided.{IsNumber, IsOpen}
use Rattle.ep_simplify.specs.Settling.{AreNumbers, IsSettled}
use Rattle.ep_simplify.proofs.settling.pick.Goals as goal

pub numbers_in-requires : goal.numbers_in-requires
numbers_in-requires c = subst (All (λ (t : ℕ). t < length c.args.news.now.arena)) (sym c.deref.ensures.value) c.requires.indices

pub read_part-requires : goal.read_part-requires
read_part-requires c =
    let nodes = c.args.news.now.arena in
    record {
      news = c.requires.news;
      room = c.requires.room;
      parts = c.requires.parts;
      indices = subst (All (λ (t : ℕ). t < length nodes)) (sym c.deref-in-Some.ensures.value) c.requires.indices;
      numbers = subst (λ (ns : List ℤ). AreNumbers nodes c.deref-in-Some.result.now ns) (sym c.deref-in-Some-2.ensures.value)
          (subst (λ (ts : List ℕ). AreNumbers nodes ts c.in-Some.numbers.items) (sym c.deref-in-Some.ensures.value)
          (numbers_found nodes c.args.indices.items c.deref.result.now c.in_ok-found.found c.in-Some.numbers c.in_ok-found.ensures.found c.in-Some.is c.deref.ensures.value));
    }

pub take-requires : goal.take-requires
unfolding parts_of is_partial StandsOver IsOpen
take-requires c = record {
  news = c.requires.news;
  room = c.requires.room;
  parts = All-append (λ (t : ℕ). t < length c.args.news.now.arena) c.args.parts.items c.args.indices.items c.requires.parts c.requires.indices;
  safe = record { whole = refl; stands = tt };
  undecided = λ all. c.in_ok-found.ensures.none c.in-None.is (subst (All (IsNumber c.args.news.now.arena)) (sym c.deref.ensures.value) all);
  untold = λ were own. pick_untold c.args.cells.now c.args.news.now c.args.parts.items c.args.keys.items c.args.indices.items (c.requires.untold were own);
}

pub returns-in_ok-part-in-Some : goal.returns-in_ok-part-in-Some
returns-in_ok-part-in-Some c =
    subst (λ (us : List ℕ). IsSettled c.args.cells.now c.args.news.now (safe_pick c.args.parts.items c.args.keys.items us) c.read_part.new.news c.in_ok-part-in-Some.part) c.deref-in-Some.ensures.value c.in_ok-part-in-Some.ensures

pub returns-in_ok-own-in-None : goal.returns-in_ok-own-in-None
unfolding parts_of
returns-in_ok-own-in-None c =
    own_settles c.args.cells.now c.args.news.now c.take.new.news (safe_pick c.args.parts.items c.args.keys.items c.args.indices.items) c.in_ok-own-in-None.own c.requires.news
    (All-append (λ (t : ℕ). t < length c.args.news.now.arena) c.args.parts.items c.args.indices.items c.requires.parts c.requires.indices) c.in_ok-own-in-None.ensures
