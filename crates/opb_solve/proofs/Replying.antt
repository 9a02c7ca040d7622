-- What reading and measuring tell of a text.
use Rattle.std.proofs.Common.{◌≡◌, ◌↔◌, ◌⊎◌, inl, inr, ℕ, ◌+◌, ◌*◌, ◌<◌, ◌≤◌, Bool, true, false, nat_lt, List, length, Result, Ok, Err, IfOk, refl, sym, ap, subst, ◌∙◌, arith}
use Rattle.std.specs.Prelude.{IsErrOf, MatchResult}
use Rattle.std.proofs.lemmas.Bool.Decides.{nat_tests}
use Rattle.cnf_core.specs.Events.{LogState}
use Rattle.ep_base.specs.declared.operators.Limit.{Limit}
use Rattle.opb_solve.proofs.FaultLines.{one_fault_line}
use Rattle.opb_solve.proofs.SameVariables.{same_variables}
use Rattle.opb_solve.specs.Replies.{GivesOpb, IsOpbReadAs, IsOpbUnread, IsOverOpbLimit, IsWithinWeight, OpbComesTo, ReadsOpb, RepliesToOpb, read_stop, size_stop}
use Rattle.opb_solve.specs.declared.replies.OpbRefusal.{OpbRefusal}
use Rattle.opb_solve.specs.declared.replies.OpbReply.{OpbReply}
use Rattle.opb_solve.specs.declared.replies.OpbStop.{OpbStop}
use Rattle.opb_text.specs.Contents.{OpbContent}
use Rattle.opb_text.specs.Grammar.{IsOpbFaultLine, SpellsOpb}
use Rattle.opb_text.specs.Views.{plain_opb}
use Rattle.opb_text.specs.Weights.{IsProblemWithinReach, Weighs, sums_cost, most_weight}
use Rattle.opb_text.specs.declared.content.Opb.{Opb}
use Rattle.opb_text.specs.declared.errors.OpbError.{OpbError}
use Rattle.opb_text.specs.declared.errors.OpbSizeError.{OpbSizeError}
use Rattle.opb_text.specs.Words.{most_opb_bytes}

within_of : (most n : ℕ) → (most < n → ⊥) → n ≤ most
within_of most n none = by (nat_lt most n) refl
  where
    by : (test : Bool) → nat_lt most n ≡ test → n ≤ most
    by true e = absurd (none (grind (arith, nat_tests)))
    by false e = grind (arith, nat_tests)

-- ---- reading

-- what is known of reading a text
pub record ReadFacts (text : List ℕ) (r : Result Opb OpbError) : Type 0 where
  pub too_long : IsErrOf r OpbError.TooLong ↔ (most_opb_bytes < length text)
  pub spelled : IfOk r (λ opb. SpellsOpb text (plain_opb opb))
  pub complete : (content : OpbContent) → SpellsOpb text content → MatchResult r (λ opb. plain_opb opb ≡ content) (λ error. (line : ℕ) → error ≡ OpbError.Bad line → ⊥)
  pub fault : (line : ℕ) → r ≡ Err (OpbError.Bad line) → IsOpbFaultLine text line

pub read_is : (text : List ℕ) (opb : Opb) → ReadFacts text (Ok opb) → IsOpbReadAs text (plain_opb opb)
read_is text opb h = record { short = within_of most_opb_bytes (length text) (λ long. let e = h.too_long.1 long in absurd cc); spells = h.spelled }

pub read_stops : (text : List ℕ) (error : OpbError) → ReadFacts text (Err error) → ReadsOpb text (Err (read_stop error))
read_stops text OpbError.TooLong h = h.too_long.0 refl
read_stops text (OpbError.Bad line) h = record {
  short = within_of most_opb_bytes (length text) (λ long. let e = h.too_long.1 long in absurd cc);
  spells_none = λ content spells. h.complete content spells line refl;
  fault = h.fault line refl;
}
read_stops text OpbError.Memory h = tt

-- ---- refusals of one text

pub both_lengths : {P : Type 0} (n : ℕ) → most_opb_bytes < n → n ≤ most_opb_bytes → P
both_lengths n long short = absurd (omega (arith, long, short))

pub unread_same : (text : List ℕ) (r refusal : OpbRefusal) → IsOpbUnread text r → OpbComesTo text (Err refusal) → r ≡ refusal
unread_same text OpbRefusal.TooLong OpbRefusal.TooLong h g = refl
unread_same text OpbRefusal.TooLong (OpbRefusal.Bad line) h g = both_lengths (length text) h g.short
unread_same text OpbRefusal.TooLong (OpbRefusal.Over limit) h g = both_lengths (length text) h g.1.short
unread_same text (OpbRefusal.Bad line) OpbRefusal.TooLong h g = both_lengths (length text) g h.short
unread_same text (OpbRefusal.Bad line) (OpbRefusal.Bad other) h g = ap (λ (l : ℕ). OpbRefusal.Bad l) (one_fault_line text line other h.fault g.fault)
unread_same text (OpbRefusal.Bad line) (OpbRefusal.Over limit) h g = absurd (h.spells_none g.0 g.1.spells)
unread_same text (OpbRefusal.Over limit) refusal h g = absurd h

-- what a text that can't be read stops for
pub unread_gives : (text : List ℕ) (stop : OpbStop) → ReadsOpb text (Err stop) → GivesOpb text (Err stop)
unread_gives text (OpbStop.Refused OpbRefusal.TooLong) h = h
unread_gives text (OpbStop.Refused (OpbRefusal.Bad line)) h = h
unread_gives text (OpbStop.Refused (OpbRefusal.Over limit)) h = absurd h
unread_gives text OpbStop.Memory h = tt

pub unread_refused : (text : List ℕ) (stop : OpbStop) (refusal : OpbRefusal) → ReadsOpb text (Err stop) → OpbComesTo text (Err refusal)
    → (◌≡◌ {A = Result Opb OpbStop} (Err stop) (Err (OpbStop.Refused refusal))) ⊎ (◌≡◌ {A = Result Opb OpbStop} (Err stop) (Err OpbStop.Memory))
unread_refused text (OpbStop.Refused r) refusal h g = inl (ap (λ (x : OpbRefusal). Err (OpbStop.Refused x)) (unread_same text r refusal h g))
unread_refused text OpbStop.Memory refusal h g = inr refl

-- ---- measuring

weights_same : (content : OpbContent) (a b : ℕ) → Weighs content a → Weighs content b → a ≡ b
weights_same content a b h g = h.is ∙ ap (λ (vs : List ℕ). 2 * length vs + sums_cost content) (same_variables content h.vars g.vars h.variables g.variables) ∙ sym g.is

-- a problem within the limits is over none
pub not_over : (content : OpbContent) (limit : Limit) → IsProblemWithinReach content → IsWithinWeight content → IsOverOpbLimit content limit → ⊥
not_over content Limit.Size reach low over = over
not_over content Limit.Reach reach low over = over reach
not_over content Limit.Weight reach low over =
    let same = weights_same content low.weight over.1.weight low.weighs over.1.weighs in let a = low.low in let b = over.1.high in omega (arith, same, a, b)

pub one_limit : (content : OpbContent) (limit other : Limit) → IsOverOpbLimit content limit → IsOverOpbLimit content other → limit ≡ other
one_limit content Limit.Size other h g = absurd h
one_limit content Limit.Reach Limit.Size h g = absurd g
one_limit content Limit.Reach Limit.Reach h g = refl
one_limit content Limit.Reach Limit.Weight h g = absurd (h g.0)
one_limit content Limit.Weight Limit.Size h g = absurd g
one_limit content Limit.Weight Limit.Reach h g = absurd (g h.0)
one_limit content Limit.Weight Limit.Weight h g = refl

-- a text that spells this problem alone is refused for a limit alone
pub refused_over : (text : List ℕ) (own : OpbContent) (refusal : OpbRefusal) → IsOpbReadAs text own → ((content : OpbContent) → SpellsOpb text content → own ≡ content) → OpbComesTo text (Err refusal)
    → (limit : Limit) × (refusal ≡ OpbRefusal.Over limit) × IsOverOpbLimit own limit
refused_over text own OpbRefusal.TooLong h only g = both_lengths (length text) g h.short
refused_over text own (OpbRefusal.Bad line) h only g = absurd (g.spells_none own h.spells)
refused_over text own (OpbRefusal.Over limit) h only g = (limit, refl, subst (λ (content : OpbContent). IsOverOpbLimit content limit) (sym (only g.0 g.1.spells)) g.2)

pub measured_not : (text : List ℕ) (own : OpbContent) (refusal : OpbRefusal) → IsOpbReadAs text own → ((content : OpbContent) → SpellsOpb text content → own ≡ content)
    → IsProblemWithinReach own → IsWithinWeight own → OpbComesTo text (Err refusal) → ⊥
measured_not text own refusal h only reach low g = let r = refused_over text own refusal h only g in not_over own r.0 reach low r.2

-- what is known of a measure that is an error
pub record SizeFacts (own : OpbContent) (error : OpbSizeError) : Type 0 where
  pub reach : error ≡ OpbSizeError.Limit Limit.Reach → IsProblemWithinReach own → ⊥
  pub over : error ≡ OpbSizeError.Limit Limit.Weight → IsProblemWithinReach own × (weight : ℕ) × Weighs own weight × (most_weight < weight)
  pub size : error ≡ OpbSizeError.Limit Limit.Size → ⊥

pub is_over : (own : OpbContent) (limit : Limit) → SizeFacts own (OpbSizeError.Limit limit) → IsOverOpbLimit own limit
is_over own Limit.Size h = h.size refl
is_over own Limit.Reach h = h.reach refl
is_over own Limit.Weight h = let f = h.over refl in (f.0, record { weight = f.1; weighs = f.2; high = f.3 })

pub size_gives : (text : List ℕ) (own : OpbContent) (error : OpbSizeError) → IsOpbReadAs text own → SizeFacts own error → GivesOpb text (Err (size_stop error))
size_gives text own (OpbSizeError.Limit limit) h facts = (own, h, is_over own limit facts)
size_gives text own OpbSizeError.Memory h facts = tt

pub size_refused : (text : List ℕ) (own : OpbContent) (error : OpbSizeError) (refusal : OpbRefusal) → IsOpbReadAs text own → ((content : OpbContent) → SpellsOpb text content → own ≡ content) → SizeFacts own error
    → OpbComesTo text (Err refusal) → (◌≡◌ {A = Result Opb OpbStop} (Err (size_stop error)) (Err (OpbStop.Refused refusal))) ⊎ (◌≡◌ {A = Result Opb OpbStop} (Err (size_stop error)) (Err OpbStop.Memory))
size_refused text own (OpbSizeError.Limit limit) refusal h only facts g =
    let r = refused_over text own refusal h only g in
    let same : limit ≡ r.0 = one_limit own limit r.0 (is_over own limit facts) r.2 in
    inl (ap (λ (l : Limit). Err (OpbStop.Refused (OpbRefusal.Over l))) same ∙ ap (λ (x : OpbRefusal). Err (OpbStop.Refused x)) (sym r.1))
size_refused text own OpbSizeError.Memory refusal h only facts g = inr refl

-- ---- what stops is handed on

pub err_of : (error other : OpbSizeError) → error ≡ other → ◌≡◌ {A = Result ℕ OpbSizeError} (Err error) (Err other)
err_of error other e = ap (λ (x : OpbSizeError). Err x) e

pub stop_replies : (text : List ℕ) (budget : ℕ) (log : LogState) (stop : OpbStop) → GivesOpb text (Err stop) → RepliesToOpb text budget log (Err stop)
stop_replies text budget log (OpbStop.Refused refusal) h = h
stop_replies text budget log OpbStop.Memory h = tt

pub no_refusal : {P : Type 0} (opb : Opb) (refusal : OpbRefusal) → (◌≡◌ {A = Result Opb OpbStop} (Ok opb) (Err (OpbStop.Refused refusal))) ⊎ (◌≡◌ {A = Result Opb OpbStop} (Ok opb) (Err OpbStop.Memory)) → P
no_refusal opb refusal (inl e) = absurd cc
no_refusal opb refusal (inr e) = absurd cc

err_is : (a b : OpbStop) → ◌≡◌ {A = Result Opb OpbStop} (Err a) (Err b) → a ≡ b
err_is a b e = cc

pub stop_refused : (stop : OpbStop) (refusal : OpbRefusal) → (◌≡◌ {A = Result Opb OpbStop} (Err stop) (Err (OpbStop.Refused refusal))) ⊎ (◌≡◌ {A = Result Opb OpbStop} (Err stop) (Err OpbStop.Memory))
    → (◌≡◌ {A = Result OpbReply OpbStop} (Err stop) (Err (OpbStop.Refused refusal))) ⊎ (◌≡◌ {A = Result OpbReply OpbStop} (Err stop) (Err OpbStop.Memory))
stop_refused stop refusal (inl e) = inl (ap (λ (x : OpbStop). Err x) (err_is stop (OpbStop.Refused refusal) e))
stop_refused stop refusal (inr e) = inr (ap (λ (x : OpbStop). Err x) (err_is stop OpbStop.Memory e))
