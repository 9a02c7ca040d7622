use Rattle.sat_search.proofs.Counting.{none_marked}
use Rattle.sat_search.proofs.marks.Marks.clear.Goals as goal

pub returns-clause-none : goal.returns-clause-none
returns-clause-none c = λ v. none_marked c.latest.new.stamps.items c.latest.result v c.latest.ensures.none_later
