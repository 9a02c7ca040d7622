-- What a sink took of a line.
use Rattle.std.proofs.Common.{◌≡◌, ℕ, List, length, take, Option, sym, subst, arith}
use Rattle.std.proofs.lemmas.List.{take_all}
use Rattle.ep_base.specs.Outside.{TookPart, with_more}
use Rattle.ep_driver.specs.Puts.{TookFirst}

pub took-whole : (line : List ℕ) (before after : Option (List ℕ)) → after ≡ with_more line before → TookFirst line before after
took-whole line before after h =
    let e : take (length line) line ≡ line = take_all (length line) line (omega arith) in
    let P : List ℕ → Type 0 = λ x. after ≡ with_more x before in
    (length line, omega arith, subst P (sym e) h)

pub took-part : (line : List ℕ) (before after : Option (List ℕ)) → TookPart line before after → TookFirst line before after
took-part line before after h = (h.0, omega (arith, h.1), h.2)
