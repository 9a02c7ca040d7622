use Rattle.std.proofs.Common.{◌∙◌, sym}
use Rattle.ep_lexer.proofs.Longest.{name_len, language_len}
use Rattle.ep_lexer.proofs.scan.word_length.Goals as goal

pub returns-then-starts_with : goal.returns-then-starts_with
returns-then-starts_with c = language_len c.args.bytes.now (c.starts_with.ensures.bound c.if-starts_with.true) (sym c.starts_with.ensures.value ∙ c.if-starts_with.true)

pub returns-else-starts_with : goal.returns-else-starts_with
returns-else-starts_with c = c.name_length.ensures ∙ name_len c.args.bytes.now c.requires.some c.requires.begins (sym c.starts_with.ensures.value ∙ c.if-starts_with.false)
