-- Steps of the proofs on statements and the names that they declare.
use Rattle.std.proofs.Common.{◌≡◌, ℕ, ◌+◌, ◌<◌, ◌≤◌, Bool, true, false, List, [], ◌∷◌, length, drop, get_or, map, filter, subst, bytes_eq, if◌then◌else◌, Some, None, Ok, Err, Option, refl, sym, ap, ◌∙◌}
use Rattle.std.specs.Prelude.{is_none, is_some, option_map}
use Rattle.std.proofs.Math.ListN.{drop_of_length-le}
use Rattle.std.proofs.Math.Path.{fun_ext}
use Rattle.std.specs.Borrow.{Bor}
use Rattle.indexmap.specs.IndexMap.{insert_entry}
use Rattle.std.proofs.lemmas.Slice.Eq.{bytes_eq-Decides}
use Rattle.ep_base.specs.declared.names.Name.{Name}
use Rattle.ep_base.specs.declared.places.Place.{Place}
use Rattle.ep_tree.specs.Faults.{faults_after, redeclared, text_faults, unknown_name}
use Rattle.ep_tree.specs.Names.{nothing_known, put}
use Rattle.ep_tree.specs.Types as types
use Rattle.ep_tree.specs.Types.{Context, a_value, gives, is_boolean, is_integer}
use Rattle.ep_tree.specs.StatementSpelling.{is_letting}
use Rattle.ep_tree.specs.Statements.{TextTree}
use Rattle.ep_tree.specs.Views.{domain_tree, expr_tree, group_of, statement_tree}
use Rattle.ep_tree.specs.declared.syntax.Domain.{Domain}
use Rattle.ep_tree.specs.declared.syntax.Expr.{Expr}
use Rattle.ep_types_rules.proofs.RuleSteps.{next_is}
use Rattle.ep_types_rules.specs.Concluding.{Checked, conclude, unless_fault, ◌>>=◌}
use Rattle.ep_types_rules.specs.Named.{IsAmongFaults}
use Rattle.ep_types_rules.specs.declared.errors.StaticError.{StaticError}
use Rattle.ep_types.proofs.PlaceLaws.{place_of_tree}
use Rattle.ep_tree.specs.declared.statements.Declared.{Declared}
use Rattle.ep_tree.specs.declared.statements.Statement.{Statement}
use Rattle.ep_types.proofs.Walks.{Blames}
use Rattle.ep_types.proofs.Sound.{AreTyped, Sound, text_sound}
use Rattle.ep_types.specs.Checking.{check, check_goal, check_stated, check_branching, check_clause, check_clauses, check_declared, check_domain, check_groups, check_statement, check_text}
use Rattle.ep_types.specs.Declaring.{declares}
use Rattle.ep_types.specs.Meanings.{known_by, meaning_of}
use Rattle.ep_types.specs.declared.names.Meaning.{Meaning}

abbrev Entry : Type 0
Entry = Bor (List ℕ) × Meaning

bind_after : {A B C : Type 0} (u : Checked A) (f : A → B) (g : B → Checked C) → ((u >>= λ x. Ok (f x)) >>= g) ≡ (u >>= λ x. g (f x))
bind_after (Ok x) f g = refl
bind_after (Err e) f g = refl

pub declares_new : (m : types.Meaning) (c new : Context) (name : Name) (p : Place) → c name ≡ None → new ≡ put name m c → declares m c name p ≡ Ok new
declares_new m c new name p none is = rw none (ap Ok (sym is))

pub declares_again : (m old : types.Meaning) (c : Context) (name : Name) (p : Place) → c name ≡ Some old → declares m c name p ≡ Err (redeclared p name)
declares_again m old c name p some = rw some refl

-- one name alone
pub declared_alone : (m : types.Meaning) (c : Context) (name : Name) (p : Place) → check_declared m c ((name, p) ∷ []) ≡ declares m c name p
unfolding check_declared
declared_alone m c name p = refl

-- ---- lists of statements' parts

pub next_declared : (m : types.Meaning) (c : Context) (xs : List (Name × Place)) (i : ℕ) (x : Name × Place) → i < length xs → x ≡ get_or xs i x
    → check_declared m c (drop i xs) ≡ (declares m c x.0 x.1 >>= λ inner. check_declared m inner (drop (i + 1) xs))
unfolding check_declared
next_declared m c xs i x lt at =
    ap (check_declared m c) (next_is xs i x lt at)
    ∙ sym (bind_after (unless_fault (is_none (c x.0)) (redeclared x.1 x.0)) (λ _. put x.0 m c) (λ inner. check_declared m inner (drop (i + 1) xs)))

pub no_declared : (m : types.Meaning) (c : Context) (xs : List (Name × Place)) (i : ℕ) → length xs ≤ i → check_declared m c (drop i xs) ≡ Ok c
unfolding check_declared
no_declared m c xs i le = ap (check_declared m c) (drop_of_length-le xs le)

pub next_group : (d o : Bool) (c : Context) (xs : List Declared) (i : ℕ) (x : Declared) → i < length xs → x ≡ get_or xs i x
    → check_groups d o c (map group_of (drop i xs)) ≡ (check_domain c o (domain_tree x.domain) >>= λ t. check_declared (a_value (Some t) d) c x.names.items >>= λ inner. check_groups d o inner (map group_of (drop (i + 1) xs)))
unfolding check_groups group_of
next_group d o c xs i x lt at = ap (λ l. check_groups d o c (map group_of l)) (next_is xs i x lt at)

pub no_group : (d o : Bool) (c : Context) (xs : List Declared) (i : ℕ) → length xs ≤ i → check_groups d o c (map group_of (drop i xs)) ≡ Ok c
unfolding check_groups
no_group d o c xs i le = ap (λ l. check_groups d o c (map group_of l)) (drop_of_length-le xs le)

pub next_clause : (d : Bool) (c : Context) (xs : List Expr) (i : ℕ) (x : Expr) → i < length xs → x ≡ get_or xs i x
    → check_clauses c d (map expr_tree (drop i xs)) ≡ (check_clause c d (expr_tree x) >>= λ _. check_clauses c d (map expr_tree (drop (i + 1) xs)))
unfolding check_clauses
next_clause d c xs i x lt at = ap (λ l. check_clauses c d (map expr_tree l)) (next_is xs i x lt at)

pub no_clause : (d : Bool) (c : Context) (xs : List Expr) (i : ℕ) → length xs ≤ i → check_clauses c d (map expr_tree (drop i xs)) ≡ Ok tt
unfolding check_clauses
no_clause d c xs i le = ap (λ l. check_clauses c d (map expr_tree l)) (drop_of_length-le xs le)

pub next_branching : (c : Context) (xs : List (Name × Place)) (i : ℕ) (x : Name × Place) → i < length xs → x ≡ get_or xs i x
    → check_branching c (drop i xs) ≡ (unless_fault (is_some (c x.0)) (unknown_name x.1 x.0) >>= λ _. check_branching c (drop (i + 1) xs))
unfolding check_branching
next_branching c xs i x lt at = ap (check_branching c) (next_is xs i x lt at)

pub no_branching : (c : Context) (xs : List (Name × Place)) (i : ℕ) → length xs ≤ i → check_branching c (drop i xs) ≡ Ok tt
unfolding check_branching
no_branching c xs i le = ap (check_branching c) (drop_of_length-le xs le)

pub next_statement : (c : Context) (xs : List Statement) (i : ℕ) (x : Statement) → i < length xs → x ≡ get_or xs i x
    → check_text c (map statement_tree (drop i xs)) ≡ (check_statement c (statement_tree x) >>= λ next. check_text next (map statement_tree (drop (i + 1) xs)))
unfolding check_text
next_statement c xs i x lt at = ap (λ l. check_text c (map statement_tree l)) (next_is xs i x lt at)

pub no_statement : (c : Context) (xs : List Statement) (i : ℕ) → length xs ≤ i → check_text c (map statement_tree (drop i xs)) ≡ Ok tt
unfolding check_text
no_statement c xs i le = ap (λ l. check_text c (map statement_tree l)) (drop_of_length-le xs le)

-- ---- clauses, objectives and stated domains

pub clause_is : (c : Context) (d : Bool) (e : Expr) → check_clause c d (expr_tree e) ≡ (check c d (expr_tree e) >>= λ t. conclude e.place (gives t (is_boolean t)))
unfolding check_clause
clause_is c d e = ap (λ p. check c d (expr_tree e) >>= λ t. conclude p (gives t (is_boolean t))) (place_of_tree e.place e.kind)

pub goal_is : (c : Context) (e : Expr) → check_goal c (expr_tree e) ≡ (check c true (expr_tree e) >>= λ t. conclude e.place (gives t (is_integer t)))
unfolding check_goal
goal_is c e = ap (λ p. check c true (expr_tree e) >>= λ t. conclude p (gives t (is_integer t))) (place_of_tree e.place e.kind)

pub stated_none : (c : Context) (o : Option Domain) → o ≡ None → check_stated c (option_map domain_tree o) ≡ Ok None
unfolding check_stated
stated_none c o is = ap (λ x. check_stated c (option_map domain_tree x)) is

pub stated_some : (c : Context) (o : Option Domain) (d : Domain) → o ≡ Some d → check_stated c (option_map domain_tree o) ≡ (check_domain c false (domain_tree d) >>= λ t. Ok (Some t))
unfolding check_stated
stated_some c o d is = ap (λ x. check_stated c (option_map domain_tree x)) is

pub nothing_in : (es : List Entry) → es ≡ [] → known_by es ≡ nothing_known
unfolding known_by
nothing_in es is = ap known_by is

-- ---- lettings alone

pub next_letting : (c : Context) (xs : List Statement) (i : ℕ) (x : Statement) → i < length xs → x ≡ get_or xs i x → is_letting (statement_tree x) ≡ true
    → check_text c (filter is_letting (map statement_tree (drop i xs))) ≡ (check_statement c (statement_tree x) >>= λ next. check_text next (filter is_letting (map statement_tree (drop (i + 1) xs))))
unfolding check_text
next_letting c xs i x lt at h =
    ap (λ l. check_text c (filter is_letting (map statement_tree l))) (next_is xs i x lt at)
    ∙ ap (λ b. check_text c (if b then statement_tree x ∷ filter is_letting (map statement_tree (drop (i + 1) xs)) else filter is_letting (map statement_tree (drop (i + 1) xs)))) h

pub other_statement : (c : Context) (xs : List Statement) (i : ℕ) (x : Statement) → i < length xs → x ≡ get_or xs i x → is_letting (statement_tree x) ≡ false
    → check_text c (filter is_letting (map statement_tree (drop i xs))) ≡ check_text c (filter is_letting (map statement_tree (drop (i + 1) xs)))
unfolding check_text
other_statement c xs i x lt at h =
    ap (λ l. check_text c (filter is_letting (map statement_tree l))) (next_is xs i x lt at)
    ∙ ap (λ b. check_text c (if b then statement_tree x ∷ filter is_letting (map statement_tree (drop (i + 1) xs)) else filter is_letting (map statement_tree (drop (i + 1) xs)))) h

pub no_letting : (c : Context) (xs : List Statement) (i : ℕ) → length xs ≤ i → check_text c (filter is_letting (map statement_tree (drop i xs))) ≡ Ok tt
unfolding check_text
no_letting c xs i le = ap (λ l. check_text c (filter is_letting (map statement_tree l))) (drop_of_length-le xs le)

-- ---- texts

nothing_typed : AreTyped nothing_known
nothing_typed name = tt

pub faultless : (statements : TextTree) → check_text nothing_known statements ≡ Ok tt → text_faults statements ≡ []
unfolding text_faults
faultless statements e =
    let P : Checked (Unit {0}) → Type 0 = λ r. Sound (faults_after nothing_known statements) (λ _. Unit {0}) r in
    (subst P e (text_sound nothing_known nothing_typed statements)).0

pub faulty : (statements : TextTree) (e : StaticError) → Blames e (check_text nothing_known statements) → IsAmongFaults (text_faults statements) e
unfolding text_faults
faulty statements e h fault s =
    let P : Checked (Unit {0}) → Type 0 = λ r. Sound (faults_after nothing_known statements) (λ _. Unit {0}) r in
    subst P (h fault s) (text_sound nothing_known nothing_typed statements)

-- ---- the table of names

known_insert : (es : List Entry) (k : Bor (List ℕ)) (m : Meaning) (n : Name) → known_by (insert_entry (λ a b. bytes_eq a.now b.now) es k m) n ≡ put k.now (meaning_of m) (known_by es) n
unfolding known_by
known_insert [] k m n = refl
known_insert (e ∷ es) k m n = go (bytes_eq k.now e.0.now) (known_insert es k m n) refl
  where
    same : (a b : Name) → bytes_eq a b ≡ true → a ≡ b
    same a b h = (bytes_eq-Decides a b).0 h

    both : (x y : Bool) → bytes_eq n e.0.now ≡ x → bytes_eq n k.now ≡ y → bytes_eq k.now e.0.now ≡ false
        → (if x then Some (meaning_of e.1) else (if y then Some (meaning_of m) else known_by es n)) ≡ (if y then Some (meaning_of m) else (if x then Some (meaning_of e.1) else known_by es n))
    both true true h g f = let w : bytes_eq k.now e.0.now ≡ true = ap (λ a. bytes_eq a e.0.now) (sym (same n k.now g)) ∙ h in let z : true ≡ false = sym w ∙ f in absurd cc
    both true false h g f = refl
    both false true h g f = refl
    both false false h g f = refl

    again : (x : Bool) (b : Option types.Meaning) → (if x then Some (meaning_of m) else b) ≡ (if x then Some (meaning_of m) else (if x then Some (meaning_of e.1) else b))
    again true b = refl
    again false b = refl

    go : (b : Bool) → known_by (insert_entry (λ a b. bytes_eq a.now b.now) es k m) n ≡ put k.now (meaning_of m) (known_by es) n → bytes_eq k.now e.0.now ≡ b
        → known_by (if b then (e.0, m) ∷ es else e ∷ insert_entry (λ a b. bytes_eq a.now b.now) es k m) n ≡ put k.now (meaning_of m) (known_by (e ∷ es)) n
    go true ih h =
        again (bytes_eq n e.0.now) (known_by es n)
        ∙ ap (λ w. if bytes_eq n w then Some (meaning_of m) else (if bytes_eq n e.0.now then Some (meaning_of e.1) else known_by es n)) (sym (same k.now e.0.now h))
    go false ih h =
        ap (λ o. if bytes_eq n e.0.now then Some (meaning_of e.1) else o) ih
        ∙ both (bytes_eq n e.0.now) (bytes_eq n k.now) refl refl h

-- a name that is put into the table
pub inserted : (es new : List Entry) (k : Bor (List ℕ)) (name : Name) (m : Meaning) → new ≡ insert_entry (λ a b. bytes_eq a.now b.now) es k m → k.now ≡ name → known_by new ≡ put name (meaning_of m) (known_by es)
inserted es new k name m is key =
    ap known_by is ∙ fun_ext (known_insert es k m) ∙ ap (λ n. put n (meaning_of m) (known_by es)) key
