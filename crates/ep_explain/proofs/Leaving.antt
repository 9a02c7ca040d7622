-- What stays true of the clauses that are left.
use Rattle.std.proofs.Common.{◌≡◌, ℕ, ◌<◌, ◌≤◌, ◌==◌, Bool, true, false, not, List, [], ◌∷◌, ◌++◌, length, get_or, set, refl, sym, ap, ◌∙◌, subst, arith}
use Rattle.std.specs.Prelude.{IfSome, IsSome, None, Option, Some, filter, map, option_map, slice_get, unwrap_or}
use Rattle.std.specs.List.{All, Contains}
use Rattle.std.specs.declared.vec.Vec.{Vec}
use Rattle.std.specs.declared.alloc.Global.{Global}
use Rattle.std.proofs.Math.Seq.{map-set_same}
use Rattle.std.proofs.lemmas.List.Elements.{All-cons, All-filter, All-get_or, All-head, All-nil, All-push, All-set, All-tail, All-weaker}
use Rattle.std.proofs.lemmas.List.Kept.{IsStrictlyIncreasing-filter}
use Rattle.std.proofs.lemmas.Option.{slice_get-get_or}
use Rattle.ep_restrict.specs.Restricted.{AreClauseNumbers, restricted}
use Rattle.ep_tree.specs.Binding.{Instance}
use Rattle.ep_tree.specs.Solutions.{Assigned, Fits, Found}
use Rattle.ep_tree.specs.Views.{assigned}
use Rattle.ep_tree.specs.declared.values.Assignment.{Assignment}
use Rattle.ep_tree.specs.declared.values.Mode.{Mode}
use Rattle.ep_explain.proofs.Making.{Among, among_all, among_others, filtered, from_parts, from_solution, map_filtered, shown_fewer, to_solution}
use Rattle.ep_explain.specs.Explained.{Explains, HasNoSolution, IsWrittenSolution, all_but, core_numbers}
use Rattle.ep_explain.specs.Narrowing.{IsAllSettled, AreLeft, IsNarrowed, IsSeen, IsWitnessed, IsTrueAt, left_numbers, settled_clause}
use Rattle.ep_explain.specs.declared.left.Left.{Left}
use Rattle.ep_explain.specs.declared.left.Narrowed.{Narrowed}
use Rattle.ep_explain.specs.declared.left.Seen.{Seen}

-- ---- numbers

pub numbers_filtered : (i : Instance) (p : ℕ → Bool) (ns : List ℕ) → AreClauseNumbers i ns → AreClauseNumbers i (filter p ns)
numbers_filtered i p ns are = record {
  ascending = IsStrictlyIncreasing-filter p ns are.ascending;
  there = All-filter p (λ n. (1 ≤ n) × (n ≤ length i.clauses)) ns are.there;
}

-- ---- what is settled

settled_fewer : (mode : Mode) (i : Instance) (ns : List ℕ) (p : ℕ → Bool) (one : Left) (w : Option Assignment)
    → IfSome w (λ a. IsWrittenSolution mode (restricted i (all_but one.clause ns)) (assigned a))
    → IfSome w (λ a. IsWrittenSolution mode (restricted i (all_but one.clause (filter p ns))) (assigned a))
settled_fewer mode i ns p one None h = tt
settled_fewer mode i ns p one (Some a) h =
    shown_fewer mode i (all_but one.clause (filter p ns)) (all_but one.clause ns) (assigned a) (among_others one.clause p ns) h

-- what is left after some were left out, where that has no solution
pub left_filtered : (mode : Mode) (i : Instance) (p : ℕ → Bool) (left : List Left) → AreLeft mode i left
    → HasNoSolution mode (restricted i (filter p (left_numbers left))) → AreLeft mode i (filter (λ one. p one.clause) left)
left_filtered mode i p left l none =
    let same : left_numbers (filter (λ one. p one.clause) left) ≡ filter p (left_numbers left) = map_filtered (λ (one : Left). one.clause) p left in
    record {
      numbers = subst (AreClauseNumbers i) (sym same) (numbers_filtered i p (left_numbers left) l.numbers);
      none = subst (λ ns. HasNoSolution mode (restricted i ns)) (sym same) none;
      settled = subst (λ ns. All (IsWitnessed mode i ns) (filter (λ one. p one.clause) left)) (sym same)
          (All-filter (λ one. p one.clause) (IsWitnessed mode i (filter p (left_numbers left))) left
          (All-weaker (IsWitnessed mode i (left_numbers left)) (IsWitnessed mode i (filter p (left_numbers left)))
          (λ one h. settled_fewer mode i (left_numbers left) p one one.without h) left l.settled));
    }

-- what was seen is seen of fewer
pub seen_fewer : (mode : Mode) (i : Instance) (few many : List ℕ) (one : Seen) → Among few many → IsSeen mode i many one → IsSeen mode i few one
seen_fewer mode i few many one among s = record {
  found = s.found;
  fits = s.fits;
  written = s.written;
  typed = s.typed;
  holds = among (λ n. (Contains one.violated.items n → ⊥) → IsTrueAt mode i s.found n) s.holds;
}

pub all_seen_fewer : (mode : Mode) (i : Instance) (few many : List ℕ) (seen : List Seen) → Among few many → All (IsSeen mode i many) seen → All (IsSeen mode i few) seen
all_seen_fewer mode i few many seen among h =
    All-weaker (IsSeen mode i many) (IsSeen mode i few) (λ one s. seen_fewer mode i few many one among s) seen h

-- ---- settling

-- another number is none that is violated
apart : (n k : ℕ) → not (k == n) ≡ true → k ≡ n → ⊥
apart n k failing same = grind (arith, failing, same)

-- an assignment that violates one clause alone makes the others true
pub seen_shows : (mode : Mode) (i : Instance) (numbers : List ℕ) (n : ℕ) (one : Seen) → IsSeen mode i numbers one
    → All (λ k. Contains one.violated.items k → k ≡ n) numbers → IsWrittenSolution mode (restricted i (all_but n numbers)) (assigned one.assignment)
seen_shows mode i numbers n one s only = record {
  solves = to_solution mode i (all_but n numbers) (assigned one.assignment) (record {
    found = s.found;
    fits = s.fits;
    holds = filtered (λ k. not (k == n)) (IsTrueAt mode i s.found) numbers
        (both_all numbers s.holds only);
  });
  written = s.written;
  typed = s.typed;
}
  where
    both_all : (ks : List ℕ) → All (λ k. (Contains one.violated.items k → ⊥) → IsTrueAt mode i s.found k) ks
        → All (λ k. Contains one.violated.items k → k ≡ n) ks → All (λ k. not (k == n) ≡ true → IsTrueAt mode i s.found k) ks
    both_all [] h o = All-nil (λ k. not (k == n) ≡ true → IsTrueAt mode i s.found k)
    both_all (k ∷ ks) h o =
        All-cons (λ j. not (j == n) ≡ true → IsTrueAt mode i s.found j) k ks
        (λ other. All-head (λ j. (Contains one.violated.items j → ⊥) → IsTrueAt mode i s.found j) k ks h
        (λ bad. apart n k other (All-head (λ j. Contains one.violated.items j → j ≡ n) k ks o bad)))
        (both_all ks (All-tail (λ j. (Contains one.violated.items j → ⊥) → IsTrueAt mode i s.found j) k ks h)
        (All-tail (λ j. Contains one.violated.items j → j ≡ n) k ks o))

-- a clause at a place is settled
pub left_settled : (mode : Mode) (i : Instance) (left : List Left) (place : ℕ) (d x : Left) → AreLeft mode i left → x.clause ≡ (get_or left place d).clause
    → IsWitnessed mode i (left_numbers left) x → AreLeft mode i (set left place x)
left_settled mode i left place d x l same shown =
    let numbers : left_numbers (set left place x) ≡ left_numbers left = map-set_same (λ (one : Left). one.clause) left place x d same in
    record {
      numbers = subst (AreClauseNumbers i) (sym numbers) l.numbers;
      none = subst (λ ns. HasNoSolution mode (restricted i ns)) (sym numbers) l.none;
      settled = subst (λ ns. All (IsWitnessed mode i ns) (set left place x)) (sym numbers)
          (All-set (IsWitnessed mode i (left_numbers left)) left place x shown l.settled);
    }

-- an assignment settles the only clause that it violates
pub settled_at : (left ls : List Left) (vs : List ℕ) (place : ℕ) (old : Left) (one : Seen) → ls ≡ left → vs ≡ one.violated.items → place < length ls
    → old ≡ get_or left place old → ((o : Left) → slice_get ls place ≡ Some o → All (λ n. Contains vs n → n ≡ o.clause) (left_numbers ls))
    → (mode : Mode) (i : Instance) → AreLeft mode i left → IsSeen mode i (left_numbers left) one
    → AreLeft mode i (set left place (record { clause = old.clause; without = Some one.assignment }))
settled_at left ls vs place old one same violated within is only mode i l seen =
    let here : slice_get ls place ≡ Some old =
    slice_get-get_or ls place old within ∙ ap (λ (xs : List Left). Some (get_or xs place old)) same ∙ ap (λ (z : Left). Some z) (sym is) in
    let alone : All (λ n. Contains one.violated.items n → n ≡ old.clause) (left_numbers left) =
    subst (λ (ns : List ℕ). All (λ n. Contains ns n → n ≡ old.clause) (left_numbers left)) violated
    (subst (λ (xs : List Left). All (λ n. Contains vs n → n ≡ old.clause) (left_numbers xs)) same (only old here)) in
    left_settled mode i left place old (record { clause = old.clause; without = Some one.assignment }) l (ap (λ (z : Left). z.clause) is)
    (seen_shows mode i (left_numbers left) old.clause one seen alone)

-- what was seen stands at a place
pub seen_at : (mode : Mode) (i : Instance) (narrowed : Narrowed) (k : ℕ) (one : Seen) → k < length narrowed.seen.items → one ≡ get_or narrowed.seen.items k one
    → IsNarrowed mode i narrowed → IsSeen mode i (left_numbers narrowed.left.items) one
seen_at mode i narrowed k one within is n =
    subst (IsSeen mode i (left_numbers narrowed.left.items)) (sym is) (All-get_or (IsSeen mode i (left_numbers narrowed.left.items)) narrowed.seen.items k one within n.seen)

-- what is given back is what was taken
pub kept_is : (o : Option Seen) (kept one : Seen) → o ≡ Some kept → IfSome o (λ k. k ≡ one) → kept ≡ one
kept_is o kept one is same = subst (λ (x : Option Seen). IfSome x (λ k. k ≡ one)) is same

-- what an attempt without a block found was seen
pub seen_found : (mode : Mode) (i : Instance) (p : ℕ → Bool) (inside outside numbers : List ℕ) (one : Seen)
    → inside ≡ filter p numbers → outside ≡ filter (λ n. not (p n)) numbers → IsWrittenSolution mode (restricted i outside) (assigned one.assignment)
    → ((found : Found) → Fits i (assigned one.assignment) found → All (λ n. (Contains one.violated.items n → ⊥) → IsTrueAt mode i found n) inside)
    → IsSeen mode i numbers one
seen_found mode i p inside outside numbers one own others shown each =
    let m = from_solution mode i outside (assigned one.assignment) shown.solves in
    record {
      found = m.found;
      fits = m.fits;
      written = shown.written;
      typed = shown.typed;
      holds = from_parts p (λ n. (Contains one.violated.items n → ⊥) → IsTrueAt mode i m.found n) numbers
          (subst (All (λ n. (Contains one.violated.items n → ⊥) → IsTrueAt mode i m.found n)) others
          (All-weaker (IsTrueAt mode i m.found) (λ n. (Contains one.violated.items n → ⊥) → IsTrueAt mode i m.found n) (λ n true_there free. true_there) outside m.holds))
          (subst (All (λ n. (Contains one.violated.items n → ⊥) → IsTrueAt mode i m.found n)) own (each m.found m.fits));
    }

-- what was found fits
pub fits_found : (mode : Mode) (i : Instance) (outside : List ℕ) (a : Assigned) → IsWrittenSolution mode (restricted i outside) a → (found : Found) × Fits i a found
fits_found mode i outside a shown = (let m = from_solution mode i outside a shown.solves in (m.found, m.fits))

-- what is kept after some were left out
pub narrowed_filtered : (mode : Mode) (i : Instance) (p : ℕ → Bool) (before after : Narrowed) → IsNarrowed mode i before
    → HasNoSolution mode (restricted i (filter p (left_numbers before.left.items)))
    → after.left.items ≡ filter (λ one. p one.clause) before.left.items → after.seen ≡ before.seen → IsNarrowed mode i after
narrowed_filtered mode i p before after n none left seen =
    let same : left_numbers (filter (λ one. p one.clause) before.left.items) ≡ filter p (left_numbers before.left.items) =
    map_filtered (λ (one : Left). one.clause) p before.left.items in
    let numbers : left_numbers after.left.items ≡ filter p (left_numbers before.left.items) = ap left_numbers left ∙ same in
    record {
      left = subst (AreLeft mode i) (sym left) (left_filtered mode i p before.left.items n.left none);
      seen = subst (λ ns. All (IsSeen mode i ns) after.seen.items) (sym numbers)
          (subst (λ (v : Vec Seen Global). All (IsSeen mode i (filter p (left_numbers before.left.items))) v.items) (sym seen)
          (all_seen_fewer mode i (filter p (left_numbers before.left.items)) (left_numbers before.left.items) before.seen.items
          (among_all p (left_numbers before.left.items)) n.seen));
    }

-- one more that was seen
pub narrowed_more : (mode : Mode) (i : Instance) (before after : Narrowed) (one : Seen) → IsNarrowed mode i before
    → IsSeen mode i (left_numbers before.left.items) one → after.left ≡ before.left → after.seen.items ≡ before.seen.items ++ one ∷ []
    → IsNarrowed mode i after
narrowed_more mode i before after one n seen left more = record {
  left = subst (λ (v : Vec Left Global). AreLeft mode i v.items) (sym left) n.left;
  seen = subst (λ (v : Vec Left Global). All (IsSeen mode i (left_numbers v.items)) after.seen.items) (sym left)
      (subst (All (IsSeen mode i (left_numbers before.left.items))) (sym more)
      (All-push (IsSeen mode i (left_numbers before.left.items)) before.seen.items one n.seen seen));
}

-- ---- the end

both_settled : (mode : Mode) (i : Instance) (ns : List ℕ) (one : Left) (w : Option Assignment) → IsSome w
    → IfSome w (λ a. IsWrittenSolution mode (restricted i (all_but one.clause ns)) (assigned a))
    → IsWrittenSolution mode (restricted i (all_but one.clause ns)) (unwrap_or (option_map assigned w) [])
both_settled mode i ns one None is h = let bad : false ≡ true = is in absurd cc
both_settled mode i ns one (Some a) is h = h

each_settled : (mode : Mode) (i : Instance) (ns : List ℕ) (left : List Left) → IsAllSettled left → All (IsWitnessed mode i ns) left
    → All (λ one. IsWrittenSolution mode (restricted i (all_but one.0 ns)) one.1) (map settled_clause left)
each_settled mode i ns [] all h = All-nil (λ one. IsWrittenSolution mode (restricted i (all_but one.0 ns)) one.1)
each_settled mode i ns (one ∷ left) all h =
    All-cons (λ one. IsWrittenSolution mode (restricted i (all_but one.0 ns)) one.1) (settled_clause one) (map settled_clause left)
    (both_settled mode i ns one one.without (All-head (λ one. IsSome one.without) one left all) (All-head (IsWitnessed mode i ns) one left h))
    (each_settled mode i ns left (All-tail (λ one. IsSome one.without) one left all) (All-tail (IsWitnessed mode i ns) one left h))

named_numbers : (left : List Left) → core_numbers (map settled_clause left) ≡ left_numbers left
named_numbers [] = refl
named_numbers (one ∷ left) = ap (λ ns. one.clause ∷ ns) (named_numbers left)

pub explains : (mode : Mode) (i : Instance) (left : List Left) → AreLeft mode i left → IsAllSettled left → Explains mode i (map settled_clause left)
explains mode i left l all =
    let same = named_numbers left in
    record {
      numbers = subst (AreClauseNumbers i) (sym same) l.numbers;
      none = subst (λ ns. HasNoSolution mode (restricted i ns)) (sym same) l.none;
      without = subst (λ ns. All (λ one. IsWrittenSolution mode (restricted i (all_but one.0 ns)) one.1) (map settled_clause left)) (sym same)
          (each_settled mode i (left_numbers left) left all l.settled);
    }
