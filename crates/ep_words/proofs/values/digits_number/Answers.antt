use Rattle.std.proofs.Common.{◌≡◌, ◌<◌, ◌^◌, true, Ok, arith, refl}
use Rattle.std.specs.Str.{all_ascii_digits}
use Rattle.std.specs.Str.Parse.{digits_value}
use Rattle.std.proofs.lemmas.Str.Parse.{IsNumeralModel, numerals_by_value, tells_all_ascii_digits, parse_gives, digits_value_short}
use Rattle.ep_words.proofs.Lists.{number_has_digits, number_is_ascii}
use Rattle.ep_words.proofs.values.digits_number.Goals as goal

own : IsNumeralModel (λ ds. all_ascii_digits ds ≡ true) (digits_value 10)
own = numerals_by_value _ tells_all_ascii_digits

parsed : (c : goal.After-parse) → c.parse.result ≡ Ok (digits_value 10 c.args.text.now)
parsed c =
    let text = c.args.text.now in
    let digits = number_is_ascii text c.requires.digits in
    let small : digits_value 10 text < 10 ^ 10 = digits_value_short own text 10 digits c.requires.few in
    parse_gives own 64 text c.parse.result c.parse.ensures.value.0 digits (number_has_digits text c.requires.digits) (omega arith)

pub unwrap-requires : goal.unwrap-requires
unwrap-requires c = rw (parsed c) refl
