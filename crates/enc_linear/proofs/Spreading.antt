-- Sums, step by step of a first term.
use Rattle.std.proofs.Common.{◌≡◌, ◌⊎◌, inl, inr, ◌↔◌, ℕ, ◌+◌, ◌<◌, ℤ, ◌+ℤ◌, ◌-ℤ◌, ◌<ℤ◌, ◌≤ℤ◌, IsTrue, List, [], ◌∷◌, ◌++◌, length, take, get_or, sym, subst, arith}
use Rattle.std.specs.List.{All}
use Rattle.std.proofs.lemmas.Int.{by_lt_z, ints}
use Rattle.std.proofs.lemmas.List.Elements.{All-contains}
use Rattle.cnf_core.proofs.Members.{All-from_contains}
use Rattle.cnf_core.specs.Formula.{Cnf}
use Rattle.enc_atoms.specs.Atoms.{Adds, atom_holds, clause_holds}
use Rattle.enc_atoms.specs.declared.atoms.Atom.{Atom}
use Rattle.enc_linear.specs.declared.terms.Step.{Step}
use Rattle.enc_linear.specs.declared.terms.Term.{Term}
use Rattle.enc_linear.specs.Guards.{Unless}
use Rattle.enc_linear.specs.Terms.{Arise, IsTermOf, SaysOfTerm, worth_of}
use Rattle.enc_linear.proofs.Arising.{adds_like, arise_before}
use Rattle.enc_linear.proofs.Ladders.{so_said, stands_of}
use Rattle.enc_linear.proofs.Saying.{with_one_more}
use Rattle.enc_linear.proofs.Turns.{one_more_beside, passed_beside}
use Rattle.enc_var.specs.Decoding.{VariableLiterals}
use Rattle.enc_var.specs.Layouts.{IsLayoutOf}

-- a clause where the term never is so
pub only_guards : (L : List VariableLiterals) (f : Cnf) (term : Term) (guards : List Atom) (most : ℤ) (values : List ℤ) → IsTermOf L f term → All (λ (step : Step). most <ℤ step.worth) term.steps.items → Arise L f values
    → IsTrue (clause_holds values guards) ↔ Unless guards (λ values. worth_of values term ≤ℤ most) values
unfolding worth_of
only_guards L f term guards most values of_layout above among =
    let s = stands_of L f term values of_layout among in
    let high = All-contains (λ (step : Step). most <ℤ step.worth) term.steps.items s.step above s.there in
    let worth = s.worth in
    (λ h. inl h, λ h. elim h as (λ _. IsTrue (clause_holds values guards)) [ inl g ↦ g | inr low ↦ absurd (omega (arith, ints, low, high, worth)) ])

-- a guarded atom that says so of the term
pub guarded_term : (L : List VariableLiterals) (f : Cnf) (term : Term) (guards : List Atom) (atom : Atom) (most : ℤ) (values : List ℤ) → IsTermOf L f term → SaysOfTerm term atom (λ worth. worth ≤ℤ most) → Arise L f values
    → Unless guards (λ values. IsTrue (atom_holds values atom)) values ↔ Unless guards (λ values. worth_of values term ≤ℤ most) values
guarded_term L f term guards atom most values of_layout says among =
    let said = so_said L f term atom (λ worth. worth ≤ℤ most) values of_layout says among in (
      λ h. elim h as (λ _. Unless guards (λ values. worth_of values term ≤ℤ most) values) [ inl g ↦ inl g | inr a ↦ inr (said.0 a) ],
      λ h. elim h as (λ _. Unless guards (λ values. IsTrue (atom_holds values atom)) values) [ inl g ↦ inl g | inr low ↦ inr (said.1 low) ],
    )

-- what a turn over a step of the first term says, where the others are worth `rest`
abbrev pub Spread : List Atom → Term → (List ℤ → ℤ) → ℤ → List ℤ → Step → Type 0
Spread guards first rest most values step = (IsTrue (clause_holds values guards) ⊎ (worth_of values first <ℤ step.worth)) ⊎ (rest values ≤ℤ (most -ℤ step.worth))

-- what the first term may be worth at most, whatever the others are
abbrev pub HasRoom : List Atom → Term → ℤ → List ℤ → Type 0
HasRoom guards first room = Unless guards (λ values. worth_of values first ≤ℤ room)

-- a turn
pub spread_turn : (L : List VariableLiterals) (f f1 f2 : Cnf) (guards atoms : List Atom) (less : Atom) (first : Term) (rest : List ℤ → ℤ) (room most left : ℤ) (step d : Step) (i : ℕ) → IsLayoutOf L f → IsTermOf L f first
    → i < length first.steps.items → step ≡ get_or first.steps.items i d → SaysOfTerm first less (λ worth. worth <ℤ step.worth) → atoms ≡ guards ++ less ∷ []
    → Adds L f L f1 (λ values. HasRoom guards first room values × All (Spread guards first rest most values) (take i first.steps.items)) → Adds L f1 L f2 (Unless atoms (λ values. rest values ≤ℤ left)) → left ≡ most -ℤ step.worth
    → Adds L f L f2 (λ values. HasRoom guards first room values × All (Spread guards first rest most values) (take (i + 1) first.steps.items))
spread_turn L f f1 f2 guards atoms less first rest room most left step d i is_layout of_layout low at says is before added left_is =
    one_more_beside L f f1 f2 (HasRoom guards first room) (Spread guards first rest most) first.steps.items i d is_layout low before
    (adds_like L f1 L f2 (Unless atoms (λ values. rest values ≤ℤ left)) (λ values. Spread guards first rest most values (get_or first.steps.items i d)) before.goes_on.is_layout added
    (λ values among. subst (λ (s : Step). Unless atoms (λ values. rest values ≤ℤ left) values ↔ Spread guards first rest most values s) at (same values (arise_before L f f1 values before.goes_on among))))
  where
    same : (values : List ℤ) → Arise L f values → Unless atoms (λ values. rest values ≤ℤ left) values ↔ Spread guards first rest most values step
    same values among =
        let said = so_said L f first less (λ worth. worth <ℤ step.worth) values of_layout says among in
        let cases = with_one_more values guards less in
        subst (λ (ys : List Atom). Unless ys (λ values. rest values ≤ℤ left) values ↔ Spread guards first rest most values step) (sym is) (
          λ h. elim h as (λ _. Spread guards first rest most values step) [
            | inl c ↦ elim (cases.0 c) as (λ _. Spread guards first rest most values step) [ inl g ↦ inl (inl g) | inr a ↦ inl (inr (said.0 a)) ]
            | inr r ↦ inr (omega (arith, ints, r, left_is))
          ],
          λ h. elim h as (λ _. Unless (guards ++ less ∷ []) (λ values. rest values ≤ℤ left) values) [
            | inl e ↦ inl (cases.1 (elim e as (λ _. IsTrue (clause_holds values guards) ⊎ IsTrue (atom_holds values less)) [ inl g ↦ inl g | inr w ↦ inr (said.1 w) ]))
            | inr r ↦ inr (omega (arith, ints, r, left_is))
          ],
        )

-- a step that is worth more than the room
pub spread_beyond : (L : List VariableLiterals) (f f1 : Cnf) (guards : List Atom) (first : Term) (rest : List ℤ → ℤ) (room most : ℤ) (step d : Step) (i : ℕ) → IsLayoutOf L f
    → i < length first.steps.items → step ≡ get_or first.steps.items i d
    → Adds L f L f1 (λ values. HasRoom guards first room values × All (Spread guards first rest most values) (take i first.steps.items)) → room <ℤ step.worth
    → Adds L f L f1 (λ values. HasRoom guards first room values × All (Spread guards first rest most values) (take (i + 1) first.steps.items))
spread_beyond L f f1 guards first rest room most step d i is_layout low at before far =
    passed_beside L f f1 (HasRoom guards first room) (Spread guards first rest most) first.steps.items i d is_layout low before
    (λ values among h. subst (Spread guards first rest most values) at
    (elim h as (λ _. Spread guards first rest most values step) [ inl g ↦ inl (inl g) | inr within ↦ inl (inr (omega (arith, ints, within, far))) ]))

-- a step which leaves enough for whatever the others are
pub spread_enough : (L : List VariableLiterals) (f f1 : Cnf) (guards : List Atom) (first : Term) (rest : List ℤ → ℤ) (room most greatest : ℤ) (step d : Step) (i : ℕ) → IsLayoutOf L f
    → i < length first.steps.items → step ≡ get_or first.steps.items i d
    → Adds L f L f1 (λ values. HasRoom guards first room values × All (Spread guards first rest most values) (take i first.steps.items))
    → ((values : List ℤ) → Arise L f values → rest values ≤ℤ greatest) → greatest ≤ℤ (most -ℤ step.worth)
    → Adds L f L f1 (λ values. HasRoom guards first room values × All (Spread guards first rest most values) (take (i + 1) first.steps.items))
spread_enough L f f1 guards first rest room most greatest step d i is_layout low at before within enough =
    passed_beside L f f1 (HasRoom guards first room) (Spread guards first rest most) first.steps.items i d is_layout low before
    (λ values among h. subst (Spread guards first rest most values) at (let high = within values among in inr (omega (arith, ints, high, enough))))

-- all turns
pub spread_all : (L : List VariableLiterals) (f : Cnf) (guards : List Atom) (first : Term) (rest : List ℤ → ℤ) (most : ℤ) (values : List ℤ) → IsTermOf L f first → Arise L f values
    → All (Spread guards first rest most values) first.steps.items ↔ Unless guards (λ values. (worth_of values first +ℤ rest values) ≤ℤ most) values
unfolding worth_of
spread_all L f guards first rest most values of_layout among =
    let s = stands_of L f first values of_layout among in
    let worth = s.worth in (
      λ h. elim (All-contains (Spread guards first rest most values) first.steps.items s.step h s.there) as (λ _. Unless guards (λ values. (worth_of values first +ℤ rest values) ≤ℤ most) values) [
        | inl e ↦ elim e as (λ _. Unless guards (λ values. (worth_of values first +ℤ rest values) ≤ℤ most) values) [ inl g ↦ inl g | inr low ↦ absurd (omega (arith, ints, low, worth)) ]
        | inr r ↦ inr (omega (arith, ints, r, worth))
      ],
      λ h. All-from_contains (Spread guards first rest most values) first.steps.items (λ step there. each step h),
    )
  where
    each : (step : Step) → Unless guards (λ values. (worth_of values first +ℤ rest values) ≤ℤ most) values → Spread guards first rest most values step
    each step (inl g) = inl (inl g)
    each step (inr low) = by_lt_z (worth_of values first) step.worth (λ lt. inl (inr lt)) (λ ge. inr (omega (arith, ints, low, ge)))

-- all turns beside the room, with the numbers in other words
pub spread_said : (L : List VariableLiterals) (f : Cnf) (guards : List Atom) (first : Term) (rest : List ℤ → ℤ) (room least m most : ℤ) (values : List ℤ) → IsTermOf L f first → Arise L f values → m ≡ most
    → least ≤ℤ rest values → room ≡ most -ℤ least
    → (HasRoom guards first room values × All (Spread guards first rest m values) first.steps.items) ↔ Unless guards (λ values. (worth_of values first +ℤ rest values) ≤ℤ most) values
spread_said L f guards first rest room least m most values of_layout among same low is =
    subst (λ (n : ℤ). (HasRoom guards first room values × All (Spread guards first rest n values) first.steps.items) ↔ Unless guards (λ values. (worth_of values first +ℤ rest values) ≤ℤ most) values) (sym same) (
      λ h. (spread_all L f guards first rest most values of_layout among).0 h.1,
      λ h. (elim h as (λ _. HasRoom guards first room values) [ inl g ↦ inl g | inr within ↦ inr (omega (arith, ints, within, low, is)) ], (spread_all L f guards first rest most values of_layout among).1 h),
    )
