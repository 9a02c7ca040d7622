use Rattle.std.proofs.Common.{◌≡◌, ℕ, true, false, inl, inr, refl}
use Rattle.ep_lexer.specs.Symbols.{begins_with_symbol_of}
use Rattle.ep_lexer.proofs.Fronts.{longest_symbol, none_from, none_above_five}
use Rattle.ep_lexer.proofs.symbols.symbol_length.Goals as goal

pub returns-then-begins_with_symbol_of_five : goal.returns-then-begins_with_symbol_of_five
returns-then-begins_with_symbol_of_five c =
    let bytes = c.args.bytes.now in
    let is = λ (n : ℕ). begins_with_symbol_of n bytes in
    let t : begins_with_symbol_of 5 bytes ≡ true = cc in
    longest_symbol bytes 5 (inr t) (none_above_five is)

pub returns-then-begins_with_symbol_of_four : goal.returns-then-begins_with_symbol_of_four
returns-then-begins_with_symbol_of_four c =
    let bytes = c.args.bytes.now in
    let is = λ (n : ℕ). begins_with_symbol_of n bytes in
    let f5 : begins_with_symbol_of 5 bytes ≡ false = cc in
    let t : begins_with_symbol_of 4 bytes ≡ true = cc in
    longest_symbol bytes 4 (inr t) (none_from is 4 f5 (none_above_five is))

pub returns-then-begins_with_symbol_of_three : goal.returns-then-begins_with_symbol_of_three
returns-then-begins_with_symbol_of_three c =
    let bytes = c.args.bytes.now in
    let is = λ (n : ℕ). begins_with_symbol_of n bytes in
    let f5 : begins_with_symbol_of 5 bytes ≡ false = cc in
    let f4 : begins_with_symbol_of 4 bytes ≡ false = cc in
    let t : begins_with_symbol_of 3 bytes ≡ true = cc in
    longest_symbol bytes 3 (inr t) (none_from is 3 f4 (none_from is 4 f5 (none_above_five is)))

pub returns-then-begins_with_symbol_of_two : goal.returns-then-begins_with_symbol_of_two
returns-then-begins_with_symbol_of_two c =
    let bytes = c.args.bytes.now in
    let is = λ (n : ℕ). begins_with_symbol_of n bytes in
    let f5 : begins_with_symbol_of 5 bytes ≡ false = cc in
    let f4 : begins_with_symbol_of 4 bytes ≡ false = cc in
    let f3 : begins_with_symbol_of 3 bytes ≡ false = cc in
    let t : begins_with_symbol_of 2 bytes ≡ true = cc in
    longest_symbol bytes 2 (inr t) (none_from is 2 f3 (none_from is 3 f4 (none_from is 4 f5 (none_above_five is))))

pub returns-then-begins_with_symbol_of_one : goal.returns-then-begins_with_symbol_of_one
returns-then-begins_with_symbol_of_one c =
    let bytes = c.args.bytes.now in
    let is = λ (n : ℕ). begins_with_symbol_of n bytes in
    let f5 : begins_with_symbol_of 5 bytes ≡ false = cc in
    let f4 : begins_with_symbol_of 4 bytes ≡ false = cc in
    let f3 : begins_with_symbol_of 3 bytes ≡ false = cc in
    let f2 : begins_with_symbol_of 2 bytes ≡ false = cc in
    let t : begins_with_symbol_of 1 bytes ≡ true = cc in
    longest_symbol bytes 1 (inr t) (none_from is 1 f2 (none_from is 2 f3 (none_from is 3 f4 (none_from is 4 f5 (none_above_five is)))))

pub returns-else-begins_with_symbol_of_one : goal.returns-else-begins_with_symbol_of_one
returns-else-begins_with_symbol_of_one c =
    let bytes = c.args.bytes.now in
    let is = λ (n : ℕ). begins_with_symbol_of n bytes in
    let f5 : begins_with_symbol_of 5 bytes ≡ false = cc in
    let f4 : begins_with_symbol_of 4 bytes ≡ false = cc in
    let f3 : begins_with_symbol_of 3 bytes ≡ false = cc in
    let f2 : begins_with_symbol_of 2 bytes ≡ false = cc in
    let f1 : begins_with_symbol_of 1 bytes ≡ false = cc in
    longest_symbol bytes 0 (inl refl) (none_from is 0 f1 (none_from is 1 f2 (none_from is 2 f3 (none_from is 3 f4 (none_from is 4 f5 (none_above_five is))))))
