use Rattle.ep_unroll.proofs.Words.{Some, ap, arith, sym, ◌∙◌, ints, option_map, is_one, is_one_word, truth_of}
use Rattle.ep_unroll.proofs.comprehensions.condition_holds.Goals as goal

pub fixed_value-requires : goal.fixed_value-requires
fixed_value-requires c = c.is_fixed.ensures c.if-not-is_fixed.false

pub returns-in-Some : goal.returns-in-Some
returns-in-Some c n r =
    ap truth_of (c.in_ok-seen.ensures n r)
    ∙ sym (ap Some (is_one_word c.in-Some.number (omega (arith, ints))) ∙ ap (option_map is_one) (sym c.in-Some.is ∙ c.number_of.ensures))

pub returns : goal.returns
returns c n r = ap truth_of (c.in_ok-seen.ensures n r) ∙ ap (option_map is_one) (sym c.number_of.ensures ∙ c.in-None.is)
