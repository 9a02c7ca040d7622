-- New bits that few others determine, by the clauses of their rows.
use Rattle.std.proofs.Common.{◌≡◌, ℕ, ◌+◌, ℤ, pos, ◌+ℤ◌, List, [], ◌∷◌, length, ap, ◌∙◌, arith}
use Rattle.std.specs.List.{All}
use Rattle.std.proofs.lemmas.Int.{ints}
use Rattle.std.proofs.lemmas.List.Elements.{All-cons, All-nil}
use Rattle.cnf_core.specs.Formula.{Cnf}
use Rattle.enc_atoms.proofs.Adding.{adds_like}
use Rattle.enc_atoms.proofs.Decoded.{length_among}
use Rattle.enc_atoms.specs.Atoms.{Adds}
use Rattle.enc_atoms.specs.Steps.{HasTruths, IsReady}
use Rattle.enc_var.specs.Decoding.{VariableLiterals}
use Rattle.enc_var.specs.Layouts.{IsLayoutOf}
use Rattle.ep_flat.specs.Cons.{number_at}
use Rattle.enc_adder.proofs.GateRows.{above_exists, above_follows, above_rows, above_rows_follow, alike_exists, alike_follows, alike_rows, alike_rows_follow, sum_exists, sum_follows, sum_rows, sum_rows_follow}
use Rattle.enc_adder.proofs.Widening.{bit_is, constant_is, new_bit_is, widens_nothing, widens_truths, zero_bit}
use Rattle.enc_adder.specs.Adding.{HasSum}
use Rattle.enc_adder.specs.Bits.{Follows, HasBit, IsAbove, IsAlike, IsBit, IsConstant, IsRowOf, IsSum}

pub sum_rows_named : (L : List VariableLiterals) (a b c low high : ℕ) → IsBit L a → IsBit L b → IsBit L c → IsBit L low → IsBit L high → All (IsRowOf L) (sum_rows a b c low high)
sum_rows_named L a b c low high ba bb bc bl bh =
    (All-cons (IsRowOf L) ((a, pos 0), (b, pos 0), (c, pos 0), (low, pos 0)) (((a, pos 1), (b, pos 0), (c, pos 0), (low, pos 1)) ∷ ((a, pos 0), (b, pos 1), (c, pos 0), (low, pos 1)) ∷ ((a, pos 1), (b, pos 1), (c, pos 0), (low, pos 0)) ∷ ((a, pos 0), (b, pos 0), (c, pos 1), (low, pos 1)) ∷ ((a, pos 1), (b, pos 0), (c, pos 1), (low, pos 0)) ∷ ((a, pos 0), (b, pos 1), (c, pos 1), (low, pos 0)) ∷ ((a, pos 1), (b, pos 1), (c, pos 1), (low, pos 1)) ∷ ((a, pos 0), (a, pos 0), (b, pos 0), (high, pos 0)) ∷ ((a, pos 1), (a, pos 1), (b, pos 1), (high, pos 1)) ∷ ((a, pos 0), (a, pos 0), (c, pos 0), (high, pos 0)) ∷ ((a, pos 1), (a, pos 1), (c, pos 1), (high, pos 1)) ∷ ((b, pos 0), (b, pos 0), (c, pos 0), (high, pos 0)) ∷ ((b, pos 1), (b, pos 1), (c, pos 1), (high, pos 1)) ∷ [])
    (ba.there, bb.there, bc.there, bl.there)
    (All-cons (IsRowOf L) ((a, pos 1), (b, pos 0), (c, pos 0), (low, pos 1)) (((a, pos 0), (b, pos 1), (c, pos 0), (low, pos 1)) ∷ ((a, pos 1), (b, pos 1), (c, pos 0), (low, pos 0)) ∷ ((a, pos 0), (b, pos 0), (c, pos 1), (low, pos 1)) ∷ ((a, pos 1), (b, pos 0), (c, pos 1), (low, pos 0)) ∷ ((a, pos 0), (b, pos 1), (c, pos 1), (low, pos 0)) ∷ ((a, pos 1), (b, pos 1), (c, pos 1), (low, pos 1)) ∷ ((a, pos 0), (a, pos 0), (b, pos 0), (high, pos 0)) ∷ ((a, pos 1), (a, pos 1), (b, pos 1), (high, pos 1)) ∷ ((a, pos 0), (a, pos 0), (c, pos 0), (high, pos 0)) ∷ ((a, pos 1), (a, pos 1), (c, pos 1), (high, pos 1)) ∷ ((b, pos 0), (b, pos 0), (c, pos 0), (high, pos 0)) ∷ ((b, pos 1), (b, pos 1), (c, pos 1), (high, pos 1)) ∷ [])
    (ba.there, bb.there, bc.there, bl.there)
    (All-cons (IsRowOf L) ((a, pos 0), (b, pos 1), (c, pos 0), (low, pos 1)) (((a, pos 1), (b, pos 1), (c, pos 0), (low, pos 0)) ∷ ((a, pos 0), (b, pos 0), (c, pos 1), (low, pos 1)) ∷ ((a, pos 1), (b, pos 0), (c, pos 1), (low, pos 0)) ∷ ((a, pos 0), (b, pos 1), (c, pos 1), (low, pos 0)) ∷ ((a, pos 1), (b, pos 1), (c, pos 1), (low, pos 1)) ∷ ((a, pos 0), (a, pos 0), (b, pos 0), (high, pos 0)) ∷ ((a, pos 1), (a, pos 1), (b, pos 1), (high, pos 1)) ∷ ((a, pos 0), (a, pos 0), (c, pos 0), (high, pos 0)) ∷ ((a, pos 1), (a, pos 1), (c, pos 1), (high, pos 1)) ∷ ((b, pos 0), (b, pos 0), (c, pos 0), (high, pos 0)) ∷ ((b, pos 1), (b, pos 1), (c, pos 1), (high, pos 1)) ∷ [])
    (ba.there, bb.there, bc.there, bl.there)
    (All-cons (IsRowOf L) ((a, pos 1), (b, pos 1), (c, pos 0), (low, pos 0)) (((a, pos 0), (b, pos 0), (c, pos 1), (low, pos 1)) ∷ ((a, pos 1), (b, pos 0), (c, pos 1), (low, pos 0)) ∷ ((a, pos 0), (b, pos 1), (c, pos 1), (low, pos 0)) ∷ ((a, pos 1), (b, pos 1), (c, pos 1), (low, pos 1)) ∷ ((a, pos 0), (a, pos 0), (b, pos 0), (high, pos 0)) ∷ ((a, pos 1), (a, pos 1), (b, pos 1), (high, pos 1)) ∷ ((a, pos 0), (a, pos 0), (c, pos 0), (high, pos 0)) ∷ ((a, pos 1), (a, pos 1), (c, pos 1), (high, pos 1)) ∷ ((b, pos 0), (b, pos 0), (c, pos 0), (high, pos 0)) ∷ ((b, pos 1), (b, pos 1), (c, pos 1), (high, pos 1)) ∷ [])
    (ba.there, bb.there, bc.there, bl.there)
    (All-cons (IsRowOf L) ((a, pos 0), (b, pos 0), (c, pos 1), (low, pos 1)) (((a, pos 1), (b, pos 0), (c, pos 1), (low, pos 0)) ∷ ((a, pos 0), (b, pos 1), (c, pos 1), (low, pos 0)) ∷ ((a, pos 1), (b, pos 1), (c, pos 1), (low, pos 1)) ∷ ((a, pos 0), (a, pos 0), (b, pos 0), (high, pos 0)) ∷ ((a, pos 1), (a, pos 1), (b, pos 1), (high, pos 1)) ∷ ((a, pos 0), (a, pos 0), (c, pos 0), (high, pos 0)) ∷ ((a, pos 1), (a, pos 1), (c, pos 1), (high, pos 1)) ∷ ((b, pos 0), (b, pos 0), (c, pos 0), (high, pos 0)) ∷ ((b, pos 1), (b, pos 1), (c, pos 1), (high, pos 1)) ∷ [])
    (ba.there, bb.there, bc.there, bl.there)
    (All-cons (IsRowOf L) ((a, pos 1), (b, pos 0), (c, pos 1), (low, pos 0)) (((a, pos 0), (b, pos 1), (c, pos 1), (low, pos 0)) ∷ ((a, pos 1), (b, pos 1), (c, pos 1), (low, pos 1)) ∷ ((a, pos 0), (a, pos 0), (b, pos 0), (high, pos 0)) ∷ ((a, pos 1), (a, pos 1), (b, pos 1), (high, pos 1)) ∷ ((a, pos 0), (a, pos 0), (c, pos 0), (high, pos 0)) ∷ ((a, pos 1), (a, pos 1), (c, pos 1), (high, pos 1)) ∷ ((b, pos 0), (b, pos 0), (c, pos 0), (high, pos 0)) ∷ ((b, pos 1), (b, pos 1), (c, pos 1), (high, pos 1)) ∷ [])
    (ba.there, bb.there, bc.there, bl.there)
    (All-cons (IsRowOf L) ((a, pos 0), (b, pos 1), (c, pos 1), (low, pos 0)) (((a, pos 1), (b, pos 1), (c, pos 1), (low, pos 1)) ∷ ((a, pos 0), (a, pos 0), (b, pos 0), (high, pos 0)) ∷ ((a, pos 1), (a, pos 1), (b, pos 1), (high, pos 1)) ∷ ((a, pos 0), (a, pos 0), (c, pos 0), (high, pos 0)) ∷ ((a, pos 1), (a, pos 1), (c, pos 1), (high, pos 1)) ∷ ((b, pos 0), (b, pos 0), (c, pos 0), (high, pos 0)) ∷ ((b, pos 1), (b, pos 1), (c, pos 1), (high, pos 1)) ∷ [])
    (ba.there, bb.there, bc.there, bl.there)
    (All-cons (IsRowOf L) ((a, pos 1), (b, pos 1), (c, pos 1), (low, pos 1)) (((a, pos 0), (a, pos 0), (b, pos 0), (high, pos 0)) ∷ ((a, pos 1), (a, pos 1), (b, pos 1), (high, pos 1)) ∷ ((a, pos 0), (a, pos 0), (c, pos 0), (high, pos 0)) ∷ ((a, pos 1), (a, pos 1), (c, pos 1), (high, pos 1)) ∷ ((b, pos 0), (b, pos 0), (c, pos 0), (high, pos 0)) ∷ ((b, pos 1), (b, pos 1), (c, pos 1), (high, pos 1)) ∷ [])
    (ba.there, bb.there, bc.there, bl.there)
    (All-cons (IsRowOf L) ((a, pos 0), (a, pos 0), (b, pos 0), (high, pos 0)) (((a, pos 1), (a, pos 1), (b, pos 1), (high, pos 1)) ∷ ((a, pos 0), (a, pos 0), (c, pos 0), (high, pos 0)) ∷ ((a, pos 1), (a, pos 1), (c, pos 1), (high, pos 1)) ∷ ((b, pos 0), (b, pos 0), (c, pos 0), (high, pos 0)) ∷ ((b, pos 1), (b, pos 1), (c, pos 1), (high, pos 1)) ∷ [])
    (ba.there, ba.there, bb.there, bh.there)
    (All-cons (IsRowOf L) ((a, pos 1), (a, pos 1), (b, pos 1), (high, pos 1)) (((a, pos 0), (a, pos 0), (c, pos 0), (high, pos 0)) ∷ ((a, pos 1), (a, pos 1), (c, pos 1), (high, pos 1)) ∷ ((b, pos 0), (b, pos 0), (c, pos 0), (high, pos 0)) ∷ ((b, pos 1), (b, pos 1), (c, pos 1), (high, pos 1)) ∷ [])
    (ba.there, ba.there, bb.there, bh.there)
    (All-cons (IsRowOf L) ((a, pos 0), (a, pos 0), (c, pos 0), (high, pos 0)) (((a, pos 1), (a, pos 1), (c, pos 1), (high, pos 1)) ∷ ((b, pos 0), (b, pos 0), (c, pos 0), (high, pos 0)) ∷ ((b, pos 1), (b, pos 1), (c, pos 1), (high, pos 1)) ∷ [])
    (ba.there, ba.there, bc.there, bh.there)
    (All-cons (IsRowOf L) ((a, pos 1), (a, pos 1), (c, pos 1), (high, pos 1)) (((b, pos 0), (b, pos 0), (c, pos 0), (high, pos 0)) ∷ ((b, pos 1), (b, pos 1), (c, pos 1), (high, pos 1)) ∷ [])
    (ba.there, ba.there, bc.there, bh.there)
    (All-cons (IsRowOf L) ((b, pos 0), (b, pos 0), (c, pos 0), (high, pos 0)) (((b, pos 1), (b, pos 1), (c, pos 1), (high, pos 1)) ∷ [])
    (bb.there, bb.there, bc.there, bh.there)
    (All-cons (IsRowOf L) ((b, pos 1), (b, pos 1), (c, pos 1), (high, pos 1)) ([])
    (bb.there, bb.there, bc.there, bh.there)
    (All-nil (IsRowOf L))))))))))))))))

pub above_rows_named : (L : List VariableLiterals) (a b before x : ℕ) → IsBit L a → IsBit L b → IsBit L before → IsBit L x → All (IsRowOf L) (above_rows a b before x)
above_rows_named L a b before x ba bb bg bx =
    (All-cons (IsRowOf L) ((a, pos 1), (a, pos 1), (b, pos 0), (x, pos 1)) (((a, pos 0), (a, pos 0), (b, pos 1), (x, pos 0)) ∷ ((a, pos 1), (a, pos 1), (before, pos 1), (x, pos 1)) ∷ ((a, pos 0), (a, pos 0), (before, pos 0), (x, pos 0)) ∷ ((b, pos 0), (b, pos 0), (before, pos 1), (x, pos 1)) ∷ ((b, pos 1), (b, pos 1), (before, pos 0), (x, pos 0)) ∷ [])
    (ba.there, ba.there, bb.there, bx.there)
    (All-cons (IsRowOf L) ((a, pos 0), (a, pos 0), (b, pos 1), (x, pos 0)) (((a, pos 1), (a, pos 1), (before, pos 1), (x, pos 1)) ∷ ((a, pos 0), (a, pos 0), (before, pos 0), (x, pos 0)) ∷ ((b, pos 0), (b, pos 0), (before, pos 1), (x, pos 1)) ∷ ((b, pos 1), (b, pos 1), (before, pos 0), (x, pos 0)) ∷ [])
    (ba.there, ba.there, bb.there, bx.there)
    (All-cons (IsRowOf L) ((a, pos 1), (a, pos 1), (before, pos 1), (x, pos 1)) (((a, pos 0), (a, pos 0), (before, pos 0), (x, pos 0)) ∷ ((b, pos 0), (b, pos 0), (before, pos 1), (x, pos 1)) ∷ ((b, pos 1), (b, pos 1), (before, pos 0), (x, pos 0)) ∷ [])
    (ba.there, ba.there, bg.there, bx.there)
    (All-cons (IsRowOf L) ((a, pos 0), (a, pos 0), (before, pos 0), (x, pos 0)) (((b, pos 0), (b, pos 0), (before, pos 1), (x, pos 1)) ∷ ((b, pos 1), (b, pos 1), (before, pos 0), (x, pos 0)) ∷ [])
    (ba.there, ba.there, bg.there, bx.there)
    (All-cons (IsRowOf L) ((b, pos 0), (b, pos 0), (before, pos 1), (x, pos 1)) (((b, pos 1), (b, pos 1), (before, pos 0), (x, pos 0)) ∷ [])
    (bb.there, bb.there, bg.there, bx.there)
    (All-cons (IsRowOf L) ((b, pos 1), (b, pos 1), (before, pos 0), (x, pos 0)) ([])
    (bb.there, bb.there, bg.there, bx.there)
    (All-nil (IsRowOf L))))))))

pub alike_rows_named : (L : List VariableLiterals) (a b before x : ℕ) → IsBit L a → IsBit L b → IsBit L before → IsBit L x → All (IsRowOf L) (alike_rows a b before x)
alike_rows_named L a b before x ba bb bg bx =
    (All-cons (IsRowOf L) ((x, pos 1), (x, pos 1), (x, pos 1), (before, pos 1)) (((x, pos 1), (x, pos 1), (a, pos 0), (b, pos 0)) ∷ ((x, pos 1), (x, pos 1), (a, pos 1), (b, pos 1)) ∷ ((before, pos 1), (a, pos 0), (b, pos 0), (x, pos 1)) ∷ ((before, pos 1), (a, pos 1), (b, pos 1), (x, pos 1)) ∷ [])
    (bx.there, bx.there, bx.there, bg.there)
    (All-cons (IsRowOf L) ((x, pos 1), (x, pos 1), (a, pos 0), (b, pos 0)) (((x, pos 1), (x, pos 1), (a, pos 1), (b, pos 1)) ∷ ((before, pos 1), (a, pos 0), (b, pos 0), (x, pos 1)) ∷ ((before, pos 1), (a, pos 1), (b, pos 1), (x, pos 1)) ∷ [])
    (bx.there, bx.there, ba.there, bb.there)
    (All-cons (IsRowOf L) ((x, pos 1), (x, pos 1), (a, pos 1), (b, pos 1)) (((before, pos 1), (a, pos 0), (b, pos 0), (x, pos 1)) ∷ ((before, pos 1), (a, pos 1), (b, pos 1), (x, pos 1)) ∷ [])
    (bx.there, bx.there, ba.there, bb.there)
    (All-cons (IsRowOf L) ((before, pos 1), (a, pos 0), (b, pos 0), (x, pos 1)) (((before, pos 1), (a, pos 1), (b, pos 1), (x, pos 1)) ∷ [])
    (bg.there, ba.there, bb.there, bx.there)
    (All-cons (IsRowOf L) ((before, pos 1), (a, pos 1), (b, pos 1), (x, pos 1)) ([])
    (bg.there, ba.there, bb.there, bx.there)
    (All-nil (IsRowOf L)))))))

pub sum_adds : (L : List VariableLiterals) (f g : Cnf) (a b c low high : ℕ) → IsLayoutOf L f → IsBit L a → IsBit L b → IsBit L c → IsBit L low → IsBit L high
    → Adds L f L g (λ values. All (Follows values) (sum_rows a b c low high)) → Adds L f L g (IsSum a b c low high)
sum_adds L f g a b c low high is_layout ba bb bc bl bh adds =
    adds_like L f L g (λ values. All (Follows values) (sum_rows a b c low high)) (IsSum a b c low high) is_layout adds
    (λ values among. (
      λ h. sum_follows values a b c low high (bit_is L values a among ba) (bit_is L values b among bb) (bit_is L values c among bc) h,
      λ h. sum_rows_follow values a b c low high (bit_is L values a among ba) (bit_is L values b among bb) (bit_is L values c among bc) (bit_is L values low among bl) (bit_is L values high among bh) h,
    ))

pub above_adds : (L : List VariableLiterals) (f g : Cnf) (a b before x : ℕ) → IsLayoutOf L f → IsBit L a → IsBit L b → IsBit L before → IsBit L x
    → Adds L f L g (λ values. All (Follows values) (above_rows a b before x)) → Adds L f L g (λ values. IsAbove a b before values x)
above_adds L f g a b before x is_layout ba bb bg bx adds =
    adds_like L f L g (λ values. All (Follows values) (above_rows a b before x)) (λ values. IsAbove a b before values x) is_layout adds
    (λ values among. (
      λ h. above_follows values a b before x (bit_is L values a among ba) (bit_is L values b among bb) (bit_is L values before among bg) (bit_is L values x among bx) h,
      λ h. above_rows_follow values a b before x (bit_is L values a among ba) (bit_is L values b among bb) (bit_is L values before among bg) (bit_is L values x among bx) h,
    ))

pub alike_adds : (L : List VariableLiterals) (f g : Cnf) (a b before x : ℕ) → IsLayoutOf L f → IsBit L a → IsBit L b → IsBit L before → IsBit L x
    → Adds L f L g (λ values. All (Follows values) (alike_rows a b before x)) → Adds L f L g (λ values. IsAlike a b before values x)
alike_adds L f g a b before x is_layout ba bb bg bx adds =
    adds_like L f L g (λ values. All (Follows values) (alike_rows a b before x)) (λ values. IsAlike a b before values x) is_layout adds
    (λ values among. (λ h. alike_follows values a b before x (bit_is L values a among ba) h, λ h. alike_rows_follow values a b before x h))

pub made_sum : (L : List VariableLiterals) (f : Cnf) (L1 : List VariableLiterals) (f1 g : Cnf) (a b c low high : ℕ) → IsReady L f → IsBit L a → IsBit L b → IsBit L c → HasTruths L f L1 f1 2 → low ≡ length L + 0 → high ≡ length L + 1
    → Adds L1 f1 L1 g (IsSum a b c low high) → HasSum L f L1 g a b c (low, high)
made_sum L f L1 f1 g a b c low high ready ba bb bc new is_low is_high adds = record {
  low = new_bit_is L f L1 f1 2 0 low new (omega arith) is_low;
  high = new_bit_is L f L1 f1 2 1 high new (omega arith) is_high;
  widens = widens_truths L f L1 f1 g 2 (IsSum a b c low high) ready.is_layout new adds
      (λ values among. sum_exists values a b c (length L) low high (length_among L values among) is_low is_high ba.there bb.there bc.there (bit_is L values a among ba) (bit_is L values b among bb) (bit_is L values c among bc));
}

pub made_above : (L : List VariableLiterals) (f : Cnf) (L1 : List VariableLiterals) (f1 g : Cnf) (a b before x : ℕ) → IsReady L f → IsBit L a → IsBit L b → IsBit L before → HasTruths L f L1 f1 1 → x ≡ length L
    → Adds L1 f1 L1 g (λ values. IsAbove a b before values x) → HasBit L f L1 g (IsAbove a b before) x
made_above L f L1 f1 g a b before x ready ba bb bg new is_new adds = record {
  bit = new_bit_is L f L1 f1 1 0 x new (omega arith) (is_new ∙ omega arith);
  widens = widens_truths L f L1 f1 g 1 (λ values. IsAbove a b before values x) ready.is_layout new adds
      (λ values among. above_exists values a b before (length L) x (length_among L values among) is_new ba.there bb.there bg.there (bit_is L values a among ba) (bit_is L values b among bb) (bit_is L values before among bg));
}

pub made_alike : (L : List VariableLiterals) (f : Cnf) (L1 : List VariableLiterals) (f1 g : Cnf) (a b before x : ℕ) → IsReady L f → IsBit L a → IsBit L b → IsBit L before → HasTruths L f L1 f1 1 → x ≡ length L
    → Adds L1 f1 L1 g (λ values. IsAlike a b before values x) → HasBit L f L1 g (IsAlike a b before) x
made_alike L f L1 f1 g a b before x ready ba bb bg new is_new adds = record {
  bit = new_bit_is L f L1 f1 1 0 x new (omega arith) (is_new ∙ omega arith);
  widens = widens_truths L f L1 f1 g 1 (λ values. IsAlike a b before values x) ready.is_layout new adds
      (λ values among. alike_exists values a b before (length L) x (length_among L values among) is_new ba.there bb.there bg.there (bit_is L values a among ba) (bit_is L values b among bb) (bit_is L values before among bg));
}

-- where two of three bits are always 0 the third one is the sum
sum_folded : (L : List VariableLiterals) (f : Cnf) (a b c p none : ℕ) → IsReady L f → IsConstant L none (pos 0) → IsBit L p → ((values : List ℤ) → number_at values none ≡ pos 0 → number_at values a +ℤ (number_at values b +ℤ number_at values c) ≡ number_at values p)
    → HasSum L f L f a b c (p, none)
sum_folded L f a b c p none ready is bit same = record {
  low = bit;
  high = zero_bit L none is;
  widens = widens_nothing L f (IsSum a b c p none) ready
      (λ values among.
      let nothing = constant_is L values none (pos 0) among is in
      let there = same values nothing in
      omega (arith, ints, nothing, there));
}

pub first_alone : (L : List VariableLiterals) (f : Cnf) (a b c none : ℕ) → IsReady L f → IsConstant L none (pos 0) → IsBit L a → b ≡ none → c ≡ none → HasSum L f L f a b c (a, none)
first_alone L f a b c none ready is bit one two =
    sum_folded L f a b c a none ready is bit
    (λ values nothing. let p = ap (number_at values) one in let q = ap (number_at values) two in omega (arith, ints, nothing, p, q))

pub second_alone : (L : List VariableLiterals) (f : Cnf) (a b c none : ℕ) → IsReady L f → IsConstant L none (pos 0) → IsBit L b → a ≡ none → c ≡ none → HasSum L f L f a b c (b, none)
second_alone L f a b c none ready is bit one two =
    sum_folded L f a b c b none ready is bit
    (λ values nothing. let p = ap (number_at values) one in let q = ap (number_at values) two in omega (arith, ints, nothing, p, q))

pub third_alone : (L : List VariableLiterals) (f : Cnf) (a b c none : ℕ) → IsReady L f → IsConstant L none (pos 0) → IsBit L c → a ≡ none → b ≡ none → HasSum L f L f a b c (c, none)
third_alone L f a b c none ready is bit one two =
    sum_folded L f a b c c none ready is bit
    (λ values nothing. let p = ap (number_at values) one in let q = ap (number_at values) two in omega (arith, ints, nothing, p, q))
