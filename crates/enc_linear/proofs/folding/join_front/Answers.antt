use Rattle.std.proofs.lemmas.List.Elements.{All-rest}
use Rattle.enc_linear.specs.Terms.{IsTermOf}
use Rattle.enc_linear.proofs.folding.join_front.Goals as goal

pub join-requires-clause-terms : goal.join-requires-clause-terms
join-requires-clause-terms c =
    All-rest (IsTermOf c.args.layout.now c.args.f.now) c.in-Some-pop_front.second c.pop_front-2.new.self.items c.pop_front.new.self.items c.in-Some-pop_front.ensures.items
    (All-rest (IsTermOf c.args.layout.now c.args.f.now) c.in-Some.first c.pop_front.new.self.items c.args.sum.now.terms.items c.in-Some.ensures.items c.requires.terms)
