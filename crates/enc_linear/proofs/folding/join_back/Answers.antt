use Rattle.std.proofs.Common.{◌∙◌, [], ◌∷◌, ◌++◌, ap}
use Rattle.enc_linear.proofs.Clipping.{bounds_permuted}
use Rattle.enc_linear.proofs.Folds.{gives_moved, last_two, one_behind}
use Rattle.enc_linear.proofs.folding.join_back.Goals as goal

pub join-requires-clause-bounds : goal.join-requires-clause-bounds
join-requires-clause-bounds c =
    let first = c.in-Some.first in
    let second = c.in-Some-pop_back.second in
    bounds_permuted c.args.sum.now.bounds c.args.sum.now.terms.items (first ∷ second ∷ c.pop_back-2.new.self.items)
    (last_two c.args.sum.now.terms.items c.pop_back.new.self.items c.pop_back-2.new.self.items first second c.in-Some.ensures.items c.in-Some-pop_back.ensures.items) c.requires.bounds

pub returns-clause-bounds : goal.returns-clause-bounds
returns-clause-bounds c =
    let rest = c.pop_back-2.new.self.items in
    let whole = c.in_ok-whole.whole in
    bounds_permuted c.join.new.sum.bounds (whole ∷ rest) c.push_back.new.self.items
    (one_behind c.push_back.new.self.items rest whole (c.in_ok-push_back.ensures.items ∙ ap (λ ts. ts ++ whole ∷ []) c.in_ok-whole.ensures.terms)) c.in_ok-whole.ensures.bounds

pub returns-clause-gives_way : goal.returns-clause-gives_way
returns-clause-gives_way c =
    let rest = c.pop_back-2.new.self.items in
    let first = c.in-Some.first in
    let second = c.in-Some-pop_back.second in
    let whole = c.in_ok-whole.whole in
    gives_moved c.args.c c.args.layout.now c.args.f.now (first ∷ second ∷ rest) c.args.sum.now.terms.items c.join.new.layout c.join.new.f (whole ∷ rest) c.push_back.new.self.items c.requires.is_layout
    (last_two c.args.sum.now.terms.items c.pop_back.new.self.items rest first second c.in-Some.ensures.items c.in-Some-pop_back.ensures.items)
    (one_behind c.push_back.new.self.items rest whole (c.in_ok-push_back.ensures.items ∙ ap (λ ts. ts ++ whole ∷ []) c.in_ok-whole.ensures.terms)) c.in_ok-whole.ensures.gives_way
