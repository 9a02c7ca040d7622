use Rattle.std.proofs.Common.{◌≡◌, false, arith}
use Rattle.std.proofs.lemmas.Bool.Decides.{nat_tests}
use Rattle.ep_base.proofs.WordLengths.{is_word-of_length, no_word-of_length, has_word_length}
use Rattle.ep_base.proofs.reserved.is_word.Goals as goal

pub returns-in-2 : goal.returns-in-2
returns-in-2 c = is_word-of_length 2 c.args.text.now _ c.in-2.is c.is_one_of.ensures

pub returns-in-3 : goal.returns-in-3
returns-in-3 c = is_word-of_length 3 c.args.text.now _ c.in-3.is c.is_one_of-in-3.ensures

pub returns-in-4 : goal.returns-in-4
returns-in-4 c = is_word-of_length 4 c.args.text.now _ c.in-4.is c.is_one_of-in-4.ensures

pub returns-in-5 : goal.returns-in-5
returns-in-5 c = is_word-of_length 5 c.args.text.now _ c.in-5.is c.is_one_of-in-5.ensures

pub returns-in-6 : goal.returns-in-6
returns-in-6 c = is_word-of_length 6 c.args.text.now _ c.in-6.is c.is_one_of-in-6.ensures

pub returns-in-7 : goal.returns-in-7
returns-in-7 c = is_word-of_length 7 c.args.text.now _ c.in-7.is c.is_one_of-in-7.ensures

pub returns-in-8 : goal.returns-in-8
returns-in-8 c = is_word-of_length 8 c.args.text.now _ c.in-8.is c.is_one_of-in-8.ensures

pub returns-in-9 : goal.returns-in-9
returns-in-9 c = is_word-of_length 9 c.args.text.now _ c.in-9.is c.is_one_of-in-9.ensures

pub returns-in-10 : goal.returns-in-10
returns-in-10 c = is_word-of_length 10 c.args.text.now _ c.in-10.is c.is_one_of-in-10.ensures

pub returns-in_default : goal.returns-in_default
returns-in_default c =
    let other : has_word_length c.args.text.now ≡ false = grind (arith, nat_tests) in
    let e = no_word-of_length c.args.text.now other in
    grind arith
