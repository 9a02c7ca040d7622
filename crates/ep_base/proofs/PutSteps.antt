-- How far `put_all` has come, and how a sink's refusal ends it.
use Rattle.std.proofs.Common.{◌≡◌, inl, inr, ℕ, ◌+◌, ◌-◌, ◌≤◌, List, ◌++◌, length, take, drop, Option, Some, None, arith, sym, ap, refl, ◌∙◌, append_assoc, length-drop}
use Rattle.std.proofs.lemmas.List.{take_all, drop-drop}
use Rattle.std.proofs.Math.Seq.{take-add}
use Rattle.ep_base.specs.Outside.{with_more, Rose}

-- of these bytes the last ones are left, and those before them were taken
pub record HasTaken (bytes rest : List ℕ) (before after : Option (List ℕ)) : Type 0 where
  pub count : ℕ
  pub whole : count + length rest ≡ length bytes
  pub left : rest ≡ drop count bytes
  pub taken : after ≡ with_more (take count bytes) before

-- first some bytes and then more
pub with_more_twice : (first more : List ℕ) (taken : Option (List ℕ)) → with_more more (with_more first taken) ≡ with_more (first ++ more) taken
with_more_twice first more None = refl
with_more_twice first more (Some before) = ap Some (append_assoc before first more)

-- a put that takes the first bytes of what is left goes one step on
pub has_taken_more : (bytes rest : List ℕ) (before now after : Option (List ℕ)) (n : ℕ) → HasTaken bytes rest before now → n ≤ length rest → after ≡ with_more (take n rest) now → HasTaken bytes (take (length rest - n) (drop n rest)) before after
has_taken_more bytes rest before now after n h fits is =
    let short : length (drop n rest) ≤ length rest - n = omega (arith, length-drop n rest) in
    let all = take_all (length rest - n) (drop n rest) short in
    record {
      count = h.count + n;
      whole = rw all (omega (arith, length-drop n rest, h.whole));
      left = all ∙ ap (drop n) h.left ∙ drop-drop n h.count bytes;
      taken = is ∙ ap (with_more (take n rest)) h.taken ∙ with_more_twice (take h.count bytes) (take n rest) before ∙ ap (λ (xs : List ℕ). with_more xs before) (ap (λ (xs : List ℕ). take h.count bytes ++ take n xs) h.left ∙ sym (take-add h.count n bytes));
    }

-- a count that rose after it was no less than before rose since before
pub rose_later : (before now after : ℕ) → before ≤ now → Rose now after → Rose before after
rose_later before now after fits (inl less) = inl (omega (arith, fits, less))
rose_later before now after fits (inr ends) = inr ends
