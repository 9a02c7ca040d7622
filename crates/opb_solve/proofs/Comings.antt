-- A text comes to one thing, and to something.
use Rattle.std.proofs.Common.{◌≡◌, ◌⊎◌, inl, inr, ℕ, ◌≤◌, List, [], ◌∷◌, length, Result, Ok, Err, refl, sym, ap, ◌∙◌, arith}
use Rattle.std.specs.List.{All}
use Rattle.std.proofs.lemmas.Bool.{cases_lt}
use Rattle.std.proofs.lemmas.List.Elements.{All-cons, All-head, All-nil, All-tail}
use Rattle.ep_base.specs.declared.operators.Limit.{Limit}
use Rattle.opb_solve.proofs.FaultLines.{one_fault_line}
use Rattle.opb_solve.proofs.Replying.{both_lengths, not_over, one_limit, refused_over}
use Rattle.opb_solve.proofs.Variables.{weighs_some}
use Rattle.opb_solve.specs.Replies.{IsOpbReadAs, OpbComesTo}
use Rattle.opb_solve.specs.declared.replies.OpbRefusal.{OpbRefusal}
use Rattle.opb_text.specs.Contents.{OpbContent, OpbConstraint, objective_terms}
use Rattle.opb_text.specs.Grammar.{IsOpbFaultLine, SpellsOpb}
use Rattle.opb_text.specs.Weights.{IsProblemWithinReach, Weighs, factors_reach, row_reach, most_reach, most_weight}
use Rattle.opb_text.specs.Words.{most_opb_bytes}

-- ---- one thing

-- a text spells one problem alone
abbrev pub OneContent : List ℕ → Type 0
OneContent text = (content other : OpbContent) → SpellsOpb text content → SpellsOpb text other → content ≡ other

not_both : (text : List ℕ) (content : OpbContent) (refusal : OpbRefusal) → OneContent text → OpbComesTo text (Ok content) → OpbComesTo text (Err refusal) → ⊥
not_both text content refusal one h g =
    let over = refused_over text content refusal h.0 (λ other spells. one content other h.0.spells spells) g in not_over content over.0 h.1 h.2 over.2

refusals_same : (text : List ℕ) (r other : OpbRefusal) → OneContent text → OpbComesTo text (Err r) → OpbComesTo text (Err other) → r ≡ other
refusals_same text OpbRefusal.TooLong OpbRefusal.TooLong one h g = refl
refusals_same text OpbRefusal.TooLong (OpbRefusal.Bad line) one h g = both_lengths (length text) h g.short
refusals_same text OpbRefusal.TooLong (OpbRefusal.Over limit) one h g = both_lengths (length text) h g.1.short
refusals_same text (OpbRefusal.Bad line) OpbRefusal.TooLong one h g = both_lengths (length text) g h.short
refusals_same text (OpbRefusal.Bad line) (OpbRefusal.Bad other) one h g = ap (λ (l : ℕ). OpbRefusal.Bad l) (one_fault_line text line other h.fault g.fault)
refusals_same text (OpbRefusal.Bad line) (OpbRefusal.Over limit) one h g = absurd (h.spells_none g.0 g.1.spells)
refusals_same text (OpbRefusal.Over limit) other one h g =
    let over = refused_over text h.0 other h.1 (λ content spells. one h.0 content h.1.spells spells) g in
    ap (λ (l : Limit). OpbRefusal.Over l) (one_limit h.0 limit over.0 h.2 over.2) ∙ sym over.1

pub comes_once : (text : List ℕ) (r other : Result OpbContent OpbRefusal) → OneContent text → OpbComesTo text r → OpbComesTo text other → r ≡ other
comes_once text (Ok content) (Ok other) one h g = ap (λ (c : OpbContent). Ok c) (one content other h.0.spells g.0.spells)
comes_once text (Ok content) (Err refusal) one h g = absurd (not_both text content refusal one h g)
comes_once text (Err refusal) (Ok content) one h g = absurd (not_both text content refusal one g h)
comes_once text (Err refusal) (Err other) one h g = ap (λ (r : OpbRefusal). Err r) (refusals_same text refusal other one h g)

-- ---- something

-- a text spells a problem, or has a fault
abbrev pub IsMeant : List ℕ → Type 0
IsMeant text = ((content : OpbContent) × SpellsOpb text content) ⊎ (((content : OpbContent) → ¬ SpellsOpb text content) × (line : ℕ) × IsOpbFaultLine text line)

-- a text comes to something
abbrev pub Comes : List ℕ → Type 0
Comes text = (outcome : Result OpbContent OpbRefusal) × OpbComesTo text outcome

rows_decided : (rows : List OpbConstraint) → All (λ row. row_reach row ≤ most_reach) rows ⊎ ¬ All (λ row. row_reach row ≤ most_reach) rows
rows_decided [] = inl (All-nil (λ (row : OpbConstraint). row_reach row ≤ most_reach))
rows_decided (row ∷ rows) =
    let P : OpbConstraint → Type 0 = λ r. row_reach r ≤ most_reach in
    elim (cases_lt most_reach (row_reach row)) as (λ _. All P (row ∷ rows) ⊎ ¬ All P (row ∷ rows)) [
      | inl far ↦ inr (λ all. let near = All-head P row rows all in omega (arith, far, near))
      | inr near ↦ elim (rows_decided rows) as (λ _. All P (row ∷ rows) ⊎ ¬ All P (row ∷ rows)) [
        | inl all ↦ inl (All-cons P row rows near all)
        | inr none ↦ inr (λ all. none (All-tail P row rows all))
      ]
    ]

reach_decided : (content : OpbContent) → IsProblemWithinReach content ⊎ ¬ IsProblemWithinReach content
reach_decided content =
    elim (cases_lt most_reach (factors_reach (objective_terms content))) as (λ _. IsProblemWithinReach content ⊎ ¬ IsProblemWithinReach content) [
      | inl far ↦ inr (λ within. let near = within.objective in omega (arith, far, near))
      | inr near ↦ elim (rows_decided content.rows) as (λ _. IsProblemWithinReach content ⊎ ¬ IsProblemWithinReach content) [
        | inl rows ↦ inl (record { objective = near; rows = rows })
        | inr none ↦ inr (λ within. none within.rows)
      ]
    ]

weighed : (text : List ℕ) (content : OpbContent) → IsOpbReadAs text content → IsProblemWithinReach content → (weight : ℕ) → Weighs content weight → Comes text
weighed text content read within weight weighs =
    elim (cases_lt most_weight weight) as (λ _. Comes text) [
      | inl heavy ↦ (Err (OpbRefusal.Over Limit.Weight), (content, read, (within, record { weight = weight; weighs = weighs; high = heavy })))
      | inr light ↦ (Ok content, (read, within, record { weight = weight; weighs = weighs; low = light }))
    ]

spelled_comes : (text : List ℕ) (content : OpbContent) → IsOpbReadAs text content → Comes text
spelled_comes text content read =
    elim (reach_decided content) as (λ _. Comes text) [
      | inl within ↦ let weight = weighs_some content in weighed text content read within weight.0 weight.1
      | inr far ↦ (Err (OpbRefusal.Over Limit.Reach), (content, read, far))
    ]

pub comes_some : (text : List ℕ) → IsMeant text → Comes text
comes_some text meant =
    elim (cases_lt most_opb_bytes (length text)) as (λ _. Comes text) [
      | inl long ↦ (Err OpbRefusal.TooLong, long)
      | inr short ↦ elim meant as (λ _. Comes text) [
        | inl spelled ↦ spelled_comes text spelled.0 (record { short = short; spells = spelled.1 })
        | inr faulty ↦ (Err (OpbRefusal.Bad faulty.1), record { short = short; spells_none = faulty.0; fault = faulty.2 })
      ]
    ]
