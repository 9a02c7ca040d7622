-- What clauses of comparisons say.
use Rattle.std.proofs.Common.{◌≡◌, ◌↔◌, ℕ, ◌+◌, ◌<◌, ◌≤◌, ℤ, Bool, true, false, IsTrue, ◌||◌, ◌&&◌, List, [], ◌∷◌, ◌++◌, length, map, take, get_or, refl, sym, ap, subst, ◌∙◌}
use Rattle.std.specs.List.{All, Contains, list_all, list_any}
use Rattle.std.proofs.lemmas.List.{map-append, take_more, take_all}
use Rattle.std.proofs.lemmas.List.Elements.{All-cons, All-head, All-nil, All-tail}
use Rattle.std.proofs.lemmas.List.Folds.{list_any-append}
use Rattle.std.proofs.Math.Bool.{or-false, or_assoc}
use Rattle.cnf_core.specs.Formula.{Cnf}
use Rattle.ep_base.specs.Numbers.{compare_holds, contrary_comparison}
use Rattle.ep_base.specs.declared.operators.CompareOp.{CompareOp}
use Rattle.ep_flat.specs.Cons.{is_value, number_at, numbers_of_vars}
use Rattle.enc_atoms.proofs.Adding.{adds_all, adds_both, adds_like, adds_none, adds_one_more}
use Rattle.enc_atoms.proofs.Decoded.{number_among}
use Rattle.enc_atoms.specs.Atoms.{Adds, atom_holds, clause_holds}
use Rattle.enc_atoms.specs.declared.atoms.Atom.{Atom}
use Rattle.enc_var.specs.Decoding.{VariableLiterals}
use Rattle.enc_var.specs.Layouts.{literals_at}
use Rattle.enc_arith.proofs.Cases.{one_pushed, same_test}
use Rattle.enc_arith.proofs.Orders.{levels_tell}
use Rattle.enc_arith.specs.Extremes.{all_compare, any_compares, extreme_of, level_holds, reached_of, within_of}
use Rattle.enc_arith.specs.Saying.{IsReady}
use Rattle.enc_arith.specs.declared.sides.Side.{Side}

-- ---- atoms that are gathered

pub any_more : (op : CompareOp) (values : List ℤ) (xs : List ℕ) (n : ℤ) (k d : ℕ) → k < length xs
    → any_compares op (numbers_of_vars values (take (k + 1) xs)) n ≡ (any_compares op (numbers_of_vars values (take k xs)) n || compare_holds op (number_at values (get_or xs k d)) n)
unfolding any_compares numbers_of_vars
any_more op values xs n k d low =
    ap (λ ys. list_any (λ m. compare_holds op m n) (map (number_at values) ys)) (take_more xs k d low)
    ∙ ap (list_any (λ m. compare_holds op m n)) (map-append (number_at values) (take k xs) (get_or xs k d ∷ []))
    ∙ list_any-append (λ m. compare_holds op m n) (map (number_at values) (take k xs)) (number_at values (get_or xs k d) ∷ [])
    ∙ ap (λ b. list_any (λ m. compare_holds op m n) (map (number_at values) (take k xs)) || b) (or-false (compare_holds op (number_at values (get_or xs k d)) n))

-- no atom yet
pub gathers_none : (op : CompareOp) (values : List ℤ) (when atoms : List Atom) (xs : List ℕ) (n : ℤ) → atoms ≡ when
    → clause_holds values atoms ≡ (clause_holds values when || any_compares op (numbers_of_vars values (take 0 xs)) n)
unfolding any_compares numbers_of_vars
gathers_none op values when atoms xs n is = ap (clause_holds values) is ∙ sym (or-false (clause_holds values when))

-- one atom more
pub gathers_more : (op : CompareOp) (values : List ℤ) (when atoms more : List Atom) (a : Atom) (xs : List ℕ) (n : ℤ) (k d : ℕ) → k < length xs
    → clause_holds values atoms ≡ (clause_holds values when || any_compares op (numbers_of_vars values (take k xs)) n)
    → more ≡ atoms ++ a ∷ []
    → atom_holds values a ≡ compare_holds op (number_at values (get_or xs k d)) n
    → clause_holds values more ≡ (clause_holds values when || any_compares op (numbers_of_vars values (take (k + 1) xs)) n)
gathers_more op values when atoms more a xs n k d low so_far pushed means =
    ap (clause_holds values) pushed ∙ one_pushed values atoms a
    ∙ ap (λ b. b || atom_holds values a) so_far
    ∙ ap (λ b. (clause_holds values when || any_compares op (numbers_of_vars values (take k xs)) n) || b) means
    ∙ or_assoc (clause_holds values when) (any_compares op (numbers_of_vars values (take k xs)) n) (compare_holds op (number_at values (get_or xs k d)) n)
    ∙ ap (λ b. clause_holds values when || b) (sym (any_more op values xs n k d low))

pub gathers_all : (op : CompareOp) (values : List ℤ) (when atoms : List Atom) (xs : List ℕ) (n m : ℤ) (k : ℕ) → m ≡ n → length xs ≤ k
    → clause_holds values atoms ≡ (clause_holds values when || any_compares op (numbers_of_vars values (take k xs)) m)
    → clause_holds values atoms ≡ (clause_holds values when || any_compares op (numbers_of_vars values xs) n)
gathers_all op values when atoms xs n m k same long so_far =
    so_far ∙ ap (λ ys. clause_holds values when || any_compares op (numbers_of_vars values ys) m) (take_all k xs long)
    ∙ ap (λ w. clause_holds values when || any_compares op (numbers_of_vars values xs) w) same

-- the clause of gathered atoms
pub adds_gathered : (L : List VariableLiterals) (f g : Cnf) (when atoms items : List Atom) (op : CompareOp) (xs : List ℕ) (n m : ℤ) → IsReady L f → atoms ≡ items → m ≡ n
    → ((values : List ℤ) → clause_holds values items ≡ (clause_holds values when || any_compares op (numbers_of_vars values xs) m))
    → Adds L f L g (λ values. IsTrue (clause_holds values atoms))
    → Adds L f L g (λ values. IsTrue (clause_holds values when || any_compares op (numbers_of_vars values xs) n))
adds_gathered L f g when atoms items op xs n m ready is same means adds =
    adds_like L f L g (λ values. IsTrue (clause_holds values atoms)) (λ values. IsTrue (clause_holds values when || any_compares op (numbers_of_vars values xs) n)) ready.is_layout adds
    (λ values among. same_test _ _ (ap (clause_holds values) is ∙ means values ∙ ap (λ w. clause_holds values when || any_compares op (numbers_of_vars values xs) w) same))

-- ---- one clause for each variable

-- one more comparison behind some atoms
pub compared_too : (op : CompareOp) (values : List ℤ) (when : List Atom) (a : Atom) (x : ℕ) (n : ℤ) → atom_holds values a ≡ compare_holds op (number_at values x) n
    → clause_holds values (when ++ a ∷ []) ≡ (clause_holds values when || compare_holds op (number_at values x) n)
compared_too op values when a x n means = one_pushed values when a ∙ ap (λ b. clause_holds values when || b) means

pub adds_compared : (L : List VariableLiterals) (f g : Cnf) (when : List Atom) (a : Atom) (op : CompareOp) (x : ℕ) (n m : ℤ) → IsReady L f → m ≡ n
    → ((values : List ℤ) → atom_holds values a ≡ compare_holds op (number_at values x) m)
    → Adds L f L g (λ values. IsTrue (clause_holds values (when ++ a ∷ [])))
    → Adds L f L g (λ values. IsTrue (clause_holds values when || compare_holds op (number_at values x) n))
adds_compared L f g when a op x n m ready same means adds =
    adds_like L f L g (λ values. IsTrue (clause_holds values (when ++ a ∷ []))) (λ values. IsTrue (clause_holds values when || compare_holds op (number_at values x) n)) ready.is_layout adds
    (λ values among. same_test _ _ (compared_too op values when a x n (means values ∙ ap (compare_holds op (number_at values x)) same)))

each_told : (c : Bool) (p : ℕ → Bool) (xs : List ℕ) → All (λ x. IsTrue (c || p x)) xs ↔ IsTrue (c || list_all p xs)
each_told true p [] = (λ all. refl, λ h. All-nil (λ x. IsTrue true))
each_told true p (x ∷ xs) = (λ all. refl, λ h. All-cons (λ y. IsTrue true) x xs refl ((each_told true p xs).1 refl))
each_told false p [] = (λ all. refl, λ h. All-nil (λ x. IsTrue (p x)))
each_told false p (x ∷ xs) = (
  λ all. both (p x) (list_all p xs) (All-head (λ y. IsTrue (p y)) x xs all) ((each_told false p xs).0 (All-tail (λ y. IsTrue (p y)) x xs all)),
  λ h. All-cons (λ y. IsTrue (p y)) x xs (first (p x) (list_all p xs) h) ((each_told false p xs).1 (second (p x) (list_all p xs) h)),
)
  where
    both : (a b : Bool) → IsTrue a → IsTrue b → IsTrue (a && b)
    both true b p q = q
    both false b p q = p

    first : (a b : Bool) → IsTrue (a && b) → IsTrue a
    first true b h = refl
    first false b h = h

    second : (a b : Bool) → IsTrue (a && b) → IsTrue b
    second true b h = h
    second false b h = absurd (let k : false ≡ true = h in cc)

all_at : (op : CompareOp) (values : List ℤ) (n : ℤ) (xs : List ℕ) → list_all (λ x. compare_holds op (number_at values x) n) xs ≡ all_compare op (numbers_of_vars values xs) n
unfolding all_compare numbers_of_vars
all_at op values n [] = refl
all_at op values n (x ∷ xs) = ap (λ b. compare_holds op (number_at values x) n && b) (all_at op values n xs)

abbrev pub EachCompares : List Atom → CompareOp → ℤ → List ℤ → ℕ → Type 0
EachCompares when op n values x = IsTrue (clause_holds values when || compare_holds op (number_at values x) n)

pub adds_each : (L : List VariableLiterals) (f g : Cnf) (when : List Atom) (op : CompareOp) (n m : ℤ) (xs : List ℕ) (k : ℕ) → IsReady L f → m ≡ n → length xs ≤ k
    → Adds L f L g (λ values. All (EachCompares when op m values) (take k xs))
    → Adds L f L g (λ values. IsTrue (clause_holds values when || all_compare op (numbers_of_vars values xs) n))
adds_each L f g when op n m xs k ready same long adds =
    adds_like L f L g (λ values. All (EachCompares when op n values) xs) (λ values. IsTrue (clause_holds values when || all_compare op (numbers_of_vars values xs) n)) ready.is_layout
    (adds_all L f L g (EachCompares when op n) xs k long (subst (λ w. Adds L f L g (λ values. All (EachCompares when op w values) (take k xs))) same adds))
    (λ values among.
    let h = each_told (clause_holds values when) (λ x. compare_holds op (number_at values x) n) xs in
    let e : (clause_holds values when || list_all (λ x. compare_holds op (number_at values x) n) xs) ≡ (clause_holds values when || all_compare op (numbers_of_vars values xs) n) =
    ap (λ b. clause_holds values when || b) (all_at op values n xs) in
    (λ all. subst IsTrue e (h.0 all), λ k. h.1 (subst IsTrue (sym e) k)))

pub each_begin : (L : List VariableLiterals) (f : Cnf) (when : List Atom) (op : CompareOp) (n : ℤ) (xs : List ℕ) → IsReady L f → Adds L f L f (λ values. All (EachCompares when op n values) (take 0 xs))
each_begin L f when op n xs ready = adds_none L f (EachCompares when op n) xs ready.is_layout ready.from_new

pub each_more : (L : List VariableLiterals) (f f1 g : Cnf) (when : List Atom) (op : CompareOp) (n m : ℤ) (xs : List ℕ) (k d : ℕ) → IsReady L f → m ≡ n → k < length xs
    → Adds L f L f1 (λ values. All (EachCompares when op n values) (take k xs)) → Adds L f1 L g (λ values. EachCompares when op m values (get_or xs k d))
    → Adds L f L g (λ values. All (EachCompares when op n values) (take (k + 1) xs))
each_more L f f1 g when op n m xs k d ready same low one two =
    adds_one_more L f f1 L g (EachCompares when op n) xs k d ready.is_layout low one (subst (λ w. Adds L f1 L g (λ values. EachCompares when op w values (get_or xs k d))) same two)

-- ---- levels

one_atom : (values : List ℤ) (a : Atom) → clause_holds values (a ∷ []) ≡ atom_holds values a
unfolding clause_holds
one_atom values a = or-false (atom_holds values a)

both_told : (a b : Bool) → (IsTrue a × IsTrue b) ↔ IsTrue (a && b)
both_told true b = (λ h. h.1, λ h. (refl, h))
both_told false b = (λ h. h.0, λ h. absurd (let k : false ≡ true = h in cc))

level_is : (side : Side) (values : List ℤ) (xs : List ℕ) (r : ℕ) (w : ℤ) (a b : Atom)
    → atom_holds values a ≡ compare_holds (contrary_comparison (within_of side)) (number_at values r) w
    → atom_holds values b ≡ compare_holds (contrary_comparison (reached_of side)) (number_at values r) w
    → (IsTrue (clause_holds values (a ∷ []) || all_compare (within_of side) (numbers_of_vars values xs) w) × IsTrue (clause_holds values (b ∷ []) || any_compares (reached_of side) (numbers_of_vars values xs) w))
    ↔ IsTrue (level_holds side (numbers_of_vars values xs) (number_at values r) w)
unfolding level_holds
level_is side values xs r w a b means_a means_b =
    let A : Bool = compare_holds (contrary_comparison (within_of side)) (number_at values r) w || all_compare (within_of side) (numbers_of_vars values xs) w in
    let B : Bool = compare_holds (contrary_comparison (reached_of side)) (number_at values r) w || any_compares (reached_of side) (numbers_of_vars values xs) w in
    let e : (clause_holds values (a ∷ []) || all_compare (within_of side) (numbers_of_vars values xs) w) ≡ A = ap (λ c. c || all_compare (within_of side) (numbers_of_vars values xs) w) (one_atom values a ∙ means_a) in
    let g : (clause_holds values (b ∷ []) || any_compares (reached_of side) (numbers_of_vars values xs) w) ≡ B = ap (λ c. c || any_compares (reached_of side) (numbers_of_vars values xs) w) (one_atom values b ∙ means_b) in
    let h = both_told A B in
    (λ p. h.0 (subst IsTrue e p.0, subst IsTrue g p.1), λ k. let q = h.1 k in (subst IsTrue (sym e) q.0, subst IsTrue (sym g) q.1))

pub adds_level : (L : List VariableLiterals) (f f1 g : Cnf) (side : Side) (xs : List ℕ) (r : ℕ) (w n m : ℤ) (a b : Atom) (within reached : CompareOp) → IsReady L f
    → within ≡ within_of side → reached ≡ reached_of side → n ≡ w → m ≡ w
    → ((values : List ℤ) → atom_holds values a ≡ compare_holds (contrary_comparison (within_of side)) (number_at values r) w)
    → ((values : List ℤ) → atom_holds values b ≡ compare_holds (contrary_comparison (reached_of side)) (number_at values r) w)
    → Adds L f L f1 (λ values. IsTrue (clause_holds values (a ∷ []) || all_compare within (numbers_of_vars values xs) n))
    → Adds L f1 L g (λ values. IsTrue (clause_holds values (b ∷ []) || any_compares reached (numbers_of_vars values xs) m))
    → Adds L f L g (λ values. IsTrue (level_holds side (numbers_of_vars values xs) (number_at values r) w))
adds_level L f f1 g side xs r w n m a b within reached ready is_within is_reached is_n is_m means_a means_b one two =
    let P : List ℤ → Type 0 = λ values. IsTrue (clause_holds values (a ∷ []) || all_compare (within_of side) (numbers_of_vars values xs) w) in
    let Q : List ℤ → Type 0 = λ values. IsTrue (clause_holds values (b ∷ []) || any_compares (reached_of side) (numbers_of_vars values xs) w) in
    let first : Adds L f L f1 P =
    subst (λ v. Adds L f L f1 (λ values. IsTrue (clause_holds values (a ∷ []) || all_compare (within_of side) (numbers_of_vars values xs) v))) is_n
    (subst (λ o. Adds L f L f1 (λ values. IsTrue (clause_holds values (a ∷ []) || all_compare o (numbers_of_vars values xs) n))) is_within one) in
    let second : Adds L f1 L g Q =
    subst (λ v. Adds L f1 L g (λ values. IsTrue (clause_holds values (b ∷ []) || any_compares (reached_of side) (numbers_of_vars values xs) v))) is_m
    (subst (λ o. Adds L f1 L g (λ values. IsTrue (clause_holds values (b ∷ []) || any_compares o (numbers_of_vars values xs) m))) is_reached two) in
    adds_like L f L g (λ values. P values × Q values) (λ values. IsTrue (level_holds side (numbers_of_vars values xs) (number_at values r) w)) ready.is_layout
    (adds_both L f f1 L g P Q ready.is_layout first second)
    (λ values among. level_is side values xs r w a b (means_a values) (means_b values))

abbrev pub LevelHolds : Side → List ℕ → ℕ → List ℤ → ℤ → Type 0
LevelHolds side xs r values w = IsTrue (level_holds side (numbers_of_vars values xs) (number_at values r) w)

pub levels_begin : (L : List VariableLiterals) (f : Cnf) (side : Side) (xs : List ℕ) (r : ℕ) (ws : List ℤ) → IsReady L f → Adds L f L f (λ values. All (LevelHolds side xs r values) (take 0 ws))
levels_begin L f side xs r ws ready = adds_none L f (LevelHolds side xs r) ws ready.is_layout ready.from_new

pub levels_more : (L : List VariableLiterals) (f f1 g : Cnf) (side : Side) (xs : List ℕ) (r : ℕ) (ws : List ℤ) (k : ℕ) (d w : ℤ) → IsReady L f → k < length ws → w ≡ get_or ws k d
    → Adds L f L f1 (λ values. All (LevelHolds side xs r values) (take k ws)) → Adds L f1 L g (λ values. LevelHolds side xs r values w)
    → Adds L f L g (λ values. All (LevelHolds side xs r values) (take (k + 1) ws))
levels_more L f f1 g side xs r ws k d w ready low is one two =
    adds_one_more L f f1 L g (LevelHolds side xs r) ws k d ready.is_layout low one (subst (λ n. Adds L f1 L g (λ values. LevelHolds side xs r values n)) is two)

pub levels_end : (L : List VariableLiterals) (f g : Cnf) (side : Side) (xs : List ℕ) (r : ℕ) (ws : List ℤ) (k : ℕ) → IsReady L f → r < length L → ws ≡ (literals_at L r).domain → length ws ≤ k
    → Adds L f L g (λ values. All (LevelHolds side xs r values) (take k ws))
    → Adds L f L g (λ values. IsTrue (is_value (extreme_of side (numbers_of_vars values xs)) (number_at values r)))
levels_end L f g side xs r ws k ready there is long adds =
    adds_like L f L g (λ values. All (LevelHolds side xs r values) ws) (λ values. IsTrue (is_value (extreme_of side (numbers_of_vars values xs)) (number_at values r))) ready.is_layout
    (adds_all L f L g (LevelHolds side xs r) ws k long adds)
    (λ values among. levels_tell side (numbers_of_vars values xs) ws (number_at values r) (subst (λ ns. Contains ns (number_at values r)) (sym is) (number_among L values r among there)))
