-- A clause more, or the same ones where memory was wanting.
use Rattle.std.proofs.Common.{◌≡◌, List, [], ◌∷◌, ◌++◌, length, rules, refl, ap, ◌∙◌}
use Rattle.cnf_core.specs.Literal.{Literal}
use Rattle.cnf_core.proofs.Pieces.{none_more, one_more}
use Rattle.cnf_core.proofs.lists.ClauseList.push.Goals as goal

pub invariant_of-self : goal.invariant_of-self
invariant_of-self c =
    let ends : c.reserve.new.self.items ≡ c.self.inside.ends.items = search rules in
    (none_more c.self.inside (record { literals = c.self.inside.literals; ends = c.reserve.new.self }) refl ends c.self.invariant).0

pub invariant_of-self-in_err-extend_from_slice : goal.invariant_of-self-in_err-extend_from_slice
invariant_of-self-in_err-extend_from_slice c =
    let ends : c.reserve.new.self.items ≡ c.self.inside.ends.items = search rules in
    let literals : c.extend_from_slice.new.self.items ≡ c.self.inside.literals.items = search rules in
    (none_more c.self.inside (record { literals = c.extend_from_slice.new.self; ends = c.reserve.new.self }) literals ends c.self.invariant).0

pub invariant_of-self-2 : goal.invariant_of-self-2
invariant_of-self-2 c =
    let literals : c.extend_from_slice.new.self.items ≡ c.self.inside.literals.items ++ c.args.clause.now = search rules in
    let ends : c.push_reserved.new.self.items ≡ c.self.inside.ends.items ++ c.len-end.result ∷ [] = search rules in
    let end : c.len-end.result ≡ length c.extend_from_slice.new.self.items = search rules in
    (one_more c.self.inside (record { literals = c.extend_from_slice.new.self; ends = c.push_reserved.new.self }) c.args.clause.now c.len-end.result literals ends end c.self.invariant c.requires).0

pub returns-clause-ok : goal.returns-clause-ok
returns-clause-ok c =
    let literals : c.extend_from_slice.new.self.items ≡ c.self.inside.literals.items ++ c.args.clause.now = search rules in
    let ends : c.push_reserved.new.self.items ≡ c.self.inside.ends.items ++ c.len-end.result ∷ [] = search rules in
    let end : c.len-end.result ≡ length c.extend_from_slice.new.self.items = search rules in
    (one_more c.self.inside (record { literals = c.extend_from_slice.new.self; ends = c.push_reserved.new.self }) c.args.clause.now c.len-end.result literals ends end c.self.invariant c.requires).1
    ∙ ap (λ (cs : List (List Literal)). cs ++ c.args.clause.now ∷ []) c.self.view_is
