use Rattle.std.proofs.Common.{◌≡◌, false, length, replicate, vec_len}
use Rattle.cnf_core.proofs.EventLists.{filled, givens_there}
use Rattle.cnf_core.proofs.entries.EventList.of_givens.Goals as goal

pub invariant_of-result : goal.invariant_of-result
invariant_of-result c =
    let clauses = c.args.clauses in
    let ends : c.resize.new.self.items ≡ replicate (length clauses) 0 = filled c.len.result (length clauses) (vec_len c.new-ends.result) c.new-ends.result.items c.resize.new.self.items 0 c.in_ok-resize.ensures.items c.new-ends.ensures.items c.new-ends.ensures.len c.len.ensures in
    let steps : c.resize-2.new.self.items ≡ replicate (length clauses) false = filled c.len-2.result (length clauses) (vec_len c.new-steps.result) c.new-steps.result.items c.resize-2.new.self.items false c.in_ok-resize-2.ensures.items c.new-steps.ensures.items c.new-steps.ensures.len c.len-2.ensures in
    (givens_there (record { clauses = clauses; hints = c.new.result; ends = c.resize.new.self; steps = c.resize-2.new.self }) c.new.ensures.items ends steps).0

pub returns : goal.returns
returns c =
    let clauses = c.args.clauses in
    let ends : c.resize.new.self.items ≡ replicate (length clauses) 0 = filled c.len.result (length clauses) (vec_len c.new-ends.result) c.new-ends.result.items c.resize.new.self.items 0 c.in_ok-resize.ensures.items c.new-ends.ensures.items c.new-ends.ensures.len c.len.ensures in
    let steps : c.resize-2.new.self.items ≡ replicate (length clauses) false = filled c.len-2.result (length clauses) (vec_len c.new-steps.result) c.new-steps.result.items c.resize-2.new.self.items false c.in_ok-resize-2.ensures.items c.new-steps.ensures.items c.new-steps.ensures.len c.len-2.ensures in
    (givens_there (record { clauses = clauses; hints = c.new.result; ends = c.resize.new.self; steps = c.resize-2.new.self }) c.new.ensures.items ends steps).1
