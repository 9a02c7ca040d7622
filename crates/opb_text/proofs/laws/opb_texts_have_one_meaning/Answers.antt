use Rattle.opb_text.proofs.Meanings.{meant, one_meaning}
use Rattle.opb_text.proofs.laws.opb_texts_have_one_meaning.Goals as goal

pub returns-clause-one : goal.returns-clause-one
returns-clause-one c = one_meaning

pub returns-clause-some : goal.returns-clause-some
returns-clause-some c = meant
