use Rattle.ep_words.proofs.OptionSettings.{taken_make, taken_none, texts_of, unfit_make_none}
use Rattle.ep_words.proofs.settings.settings_of.Goals as goal

pub returns-then-not-all_fit-clause-usage : goal.returns-then-not-all_fit-clause-usage
returns-then-not-all_fit-clause-usage c = unfit_make_none c.args.words.now c.if-not-all_fit.ensures

pub returns-clause-made : goal.returns-clause-made
returns-clause-made c = taken_make c.args.words.now c.matches_of.result _ c.if-not-all_fit.ensures c.matches_of.ensures

pub returns-clause-usage : goal.returns-clause-usage
returns-clause-usage c = taken_none (texts_of c.args.words.now) c.matches_of.result _ c.matches_of.ensures
