use Rattle.std.proofs.Common.{◌∙◌, sym, ap, arith, Ok, Some, w64}
use Rattle.ep_base.specs.declared.tokens.TokenKind.TheVariants.{Number}
use Rattle.std.proofs.lemmas.Int.{ints, to_z-of_z}
use Rattle.ep_lexer.proofs.Found.{token_of, number_found, long_found, digits_only}
use Rattle.ep_lexer.proofs.scan.number_at.Goals as goal

pub returns-then-length-gt-MOST_DIGITS-clause-fault : goal.returns-then-length-gt-MOST_DIGITS-clause-fault
returns-then-length-gt-MOST_DIGITS-clause-fault c =
    long_found c.args.text.now c.args.cursor.offset c.number_length-length.result c.args.cursor.place c.requires.inside c.requires.begins c.number_length-length.ensures c.if-length-gt-MOST_DIGITS.true c.requires.at.place

pub number_value-requires-clause-digits : goal.number_value-requires-clause-digits
number_value-requires-clause-digits c = digits_only c.args.text.now c.args.cursor.offset _ c.number_length-length.ensures

pub returns-clause-found : goal.returns-clause-found
returns-clause-found c =
    let same = to_z-of_z w64 c.number_value.result (omega (arith, ints)) in
    number_found c.args.text.now c.args.cursor.offset c.number_length-length.result (Number c.number_value.result) _ c.requires.inside c.requires.begins c.number_length-length.ensures c.if-length-gt-MOST_DIGITS.false (ap Number c.number_value.ensures) c.requires.at.place
    ∙ ap (λ v. Ok (Some (token_of c.args.text.now c.args.cursor.offset c.number_length-length.result (Number v) c.args.cursor.place))) (sym same)
    ∙ ap (λ t. Ok (Some t)) (sym c.token.ensures)
