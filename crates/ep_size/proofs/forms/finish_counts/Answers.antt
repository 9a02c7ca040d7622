use Rattle.ep_size.proofs.Words.{ap, counts_node, at_least, at_most, gcc, grid_of}
use Rattle.ep_size.proofs.NodeSteps.{finished_at}
use Rattle.ep_size.proofs.MatrixSteps.{at_least_number, at_most_number, gcc_number}
use Rattle.ep_size.proofs.forms.finish_counts.Goals as goal

pub returns-in-Gcc : goal.returns-in-Gcc
unfolding counts_node
returns-in-Gcc c mode env p e f g holds known told last =
    finished_at mode env _ _ _ _ _ (ap (λ o. counts_node p o e f g) c.in-Gcc.is) holds (λ held.
    c.finish_counting.ensures mode env (gcc p e f g)
    (gcc_number mode env p e f g (grid_of c.args.list.now) (grid_of c.args.second.now) (grid_of c.args.third.now) held known.extent told.extent last.extent))

pub returns-in-AtLeast : goal.returns-in-AtLeast
unfolding counts_node
returns-in-AtLeast c mode env p e f g holds known told last =
    finished_at mode env _ _ _ _ _ (ap (λ o. counts_node p o e f g) c.in-AtLeast.is) holds (λ held.
    c.finish_counting-in-AtLeast.ensures mode env (at_least p e f g)
    (at_least_number mode env p e f g (grid_of c.args.list.now) (grid_of c.args.second.now) (grid_of c.args.third.now) held known.extent told.extent last.extent))

pub returns-in-AtMost : goal.returns-in-AtMost
unfolding counts_node
returns-in-AtMost c mode env p e f g holds known told last =
    finished_at mode env _ _ _ _ _ (ap (λ o. counts_node p o e f g) c.in-AtMost.is) holds (λ held.
    c.finish_counting-in-AtMost.ensures mode env (at_most p e f g)
    (at_most_number mode env p e f g (grid_of c.args.list.now) (grid_of c.args.second.now) (grid_of c.args.third.now) held known.extent told.extent last.extent))
