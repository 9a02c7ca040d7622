use Rattle.std.proofs.Common.{IsTrue, length, map}
use Rattle.std.specs.Ordering.{int_eq}
use Rattle.ep_flat.specs.Cons.{number_at}
use Rattle.enc_atoms.specs.Atoms.{Adds}
use Rattle.enc_arith.specs.Elements.{IsUpTo, element_value, rests_after}
use Rattle.enc_arith.specs.Entries.{plain_entry}
use Rattle.enc_arith.specs.Saying.{says}
use Rattle.enc_arith.proofs.Reading.{HasRead}
use Rattle.enc_arith.proofs.elements.+add_element.Given as goal

abbrev pub invariant-loop-number : goal.invariant-loop-number
invariant-loop-number l =
    Adds l.layout l.fn.f l.layout l.f
    (λ values. IsUpTo l.above (number_at values l.index) → IsTrue (says values l.when l.target.truth (int_eq (number_at values l.target.result) (element_value values (rests_after (number_at values l.index) (map plain_entry l.entries)) l.other l.later))))
    × HasRead (map plain_entry l.entries) l.number-items l.number-index l.above l.last

abbrev pub decreases-add_element : goal.decreases-add_element
decreases-add_element l = length l.indices.now
