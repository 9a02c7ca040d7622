use Rattle.ep_print.proofs.Turns.{words_end, words_turn}
use Rattle.ep_print.proofs.spaced.push_words.Goals as goal

pub loop-word-preserved : goal.loop-word-preserved
loop-word-preserved c = words_turn c.args.words.now c.loop-word.word-index _ _ _ _ c.loop-word-test.true c.in_ok-push_word.ensures c.loop-word.invariant

pub returns : goal.returns
returns c = words_end c.args.words.now c.loop-word.word-index _ _ c.loop-word-test.false c.loop-word.invariant
