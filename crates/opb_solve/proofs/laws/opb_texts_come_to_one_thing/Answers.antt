use Rattle.opb_solve.proofs.Comings.{comes_once, comes_some}
use Rattle.opb_solve.proofs.laws.opb_texts_come_to_one_thing.Goals as goal

pub returns-clause-once : goal.returns-clause-once
returns-clause-once c = λ text one other g h. comes_once text one other (c.opb_texts_have_one_meaning.ensures.one text) g h

pub returns-clause-some : goal.returns-clause-some
returns-clause-some c = λ text. comes_some text (c.opb_texts_have_one_meaning.ensures.some text)
