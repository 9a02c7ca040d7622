use Rattle.std.proofs.Common.{◌∙◌, sym, ap, arith, Ok, Some}
use Rattle.ep_lexer.proofs.Found.{symbol_found, bad_found, symbol_size}
use Rattle.ep_base.proofs.TokenLaws.{token_len-le}
use Rattle.std.proofs.lemmas.List.{length-drop}
use Rattle.ep_lexer.proofs.scan.symbol_at.Goals as goal

pub returns-then-length-eq0-clause-fault : goal.returns-then-length-eq0-clause-fault
returns-then-length-eq0-clause-fault c =
    let size = symbol_size c.args.text.now c.args.cursor.offset _ c.requires.inside c.requires.no_name c.requires.no_number c.symbol_length-length.ensures in
    bad_found c.args.text.now c.args.cursor.offset _ c.args.cursor.place c.requires.inside size c.if-length-eq0.true c.requires.at.place

pub token-requires : goal.token-requires
token-requires c =
    let size = symbol_size c.args.text.now c.args.cursor.offset _ c.requires.inside c.requires.no_name c.requires.no_number c.symbol_length-length.ensures in
    omega (arith, token_len-le, length-drop c.args.cursor.offset c.args.text.now)

pub returns-clause-found : goal.returns-clause-found
returns-clause-found c =
    let size = symbol_size c.args.text.now c.args.cursor.offset _ c.requires.inside c.requires.no_name c.requires.no_number c.symbol_length-length.ensures in
    symbol_found c.args.text.now c.args.cursor.offset _ _ c.requires.inside c.requires.no_name c.requires.no_number size (omega arith) c.requires.at.place ∙ ap (λ t. Ok (Some t)) (sym c.token.ensures)
