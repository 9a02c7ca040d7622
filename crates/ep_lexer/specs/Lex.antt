-- What an error says of a text.
use Rattle.std.specs.Prelude.{◌≡◌, Result, Err, ⊤}
use Rattle.ep_base.specs.Tokens.{TokenFault}
use Rattle.ep_base.specs.Tokens as fault
use Rattle.ep_lexer.specs.declared.errors.LexError.{LexError}
use Rattle.ep_lexer.specs.declared.errors.LexError.TheVariants.{BadByte, LongNumber, Memory}

-- What is found in a text is this fault. Want of memory says nothing of the text.
abbrev pub IsFaultOf : {X : Type 0} → LexError → Result X TokenFault → Type 0
IsFaultOf (BadByte place) found = found ≡ Err (fault.BadByte place)
IsFaultOf (LongNumber place) found = found ≡ Err (fault.LongNumber place)
IsFaultOf Memory found = ⊤
