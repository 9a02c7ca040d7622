use Rattle.std.proofs.Common.{◌∙◌, sym, ap, arith, Ok, Some, true, false}
use Rattle.ep_lexer.proofs.Found.{name_or_word_found, front_size, size_fits}
use Rattle.ep_lexer.proofs.scan.word_at.Goals as goal
use Rattle.ep_lexer.proofs.scan.word_at.Goals.{then-is_word, else-is_word}

pub slice_bounds-is_word-end : goal.slice_bounds-is_word-end
slice_bounds-is_word-end c = front_size c.args.text.now c.args.cursor.offset _ c.requires.inside c.word_length-length.ensures

pub token-requires : goal.token-requires
token-requires c =
    let fits = size_fits c.args.text.now c.args.cursor.offset _ c.requires.inside c.word_length-length.ensures in
    omega arith

pub returns : goal.returns
returns c =
    elim c.if-is_word.branch [
      | then-is_word w ↦ name_or_word_found c.args.text.now c.args.cursor.offset c.word_length-length.result true _ _ c.requires.inside c.requires.begins c.word_length-length.ensures (sym c.is_word.ensures ∙ w.if-is_word.true) w.kind-is c.requires.at.place ∙ ap (λ t. Ok (Some t)) (sym c.token.ensures)
      | else-is_word w ↦ name_or_word_found c.args.text.now c.args.cursor.offset c.word_length-length.result false _ _ c.requires.inside c.requires.begins c.word_length-length.ensures (sym c.is_word.ensures ∙ w.if-is_word.false) w.kind-is c.requires.at.place ∙ ap (λ t. Ok (Some t)) (sym c.token.ensures)
    ]
