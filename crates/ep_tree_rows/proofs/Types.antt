-- Types, computed by the checker: texts of expressions and domains, and what the rules say of them; for each form accepted and refused
-- cases.
use Rattle.std.specs.Prelude.{◌≡◌, ℕ, Bool, true, false, ◌&&◌, List, [], ◌∷◌, map, Some, None, ◌==◌, codes, option_map, refl}
use Prim.Native.String.{String}
use Rattle.ep_base.specs.declared.places.Place.{Place}
use Rattle.ep_tree.proofs.Opened.{the_language}
use Rattle.ep_tree.specs.Names.{nothing_known, put_all}
use Rattle.ep_tree.specs.Trees.{bool, matrix_domain, named_domain, no_domains}
use Rattle.ep_tree.specs.Types.{Context, Judged, a_domain, a_value, judge, judge_domain, mistyped, typed, untyped}
use Rattle.ep_tree.specs.declared.values.Scalar.{Scalar}
use Rattle.ep_tree.specs.declared.values.ValueType.{ValueType}
use Rattle.ep_tree_rows.proofs.Texts.{domain_in, expr_in, the_readers, wrong_rows}

-- n : int, b : bool, m and w lists of integers and of Booleans, q a matrix of two dimensions, D, F and E a domain of integers, one of
-- Booleans and one of lists of integers, x a decision variable, u a name whose declaration has no type
abbrev known : Context
known = put_all (
    (codes "n", a_value (Some ValueType.Int) false)
    ∷ (codes "b", a_value (Some ValueType.Bool) false)
    ∷ (codes "m", a_value (Some (ValueType.Matrix 1 Scalar.Int)) false)
    ∷ (codes "w", a_value (Some (ValueType.Matrix 1 Scalar.Bool)) false)
    ∷ (codes "q", a_value (Some (ValueType.Matrix 2 Scalar.Int)) false)
    ∷ (codes "D", a_domain (Some ValueType.Int))
    ∷ (codes "F", a_domain (Some ValueType.Bool))
    ∷ (codes "E", a_domain (Some (ValueType.Matrix 1 Scalar.Int)))
    ∷ (codes "x", a_value (Some ValueType.Int) true)
    ∷ (codes "u", a_value None false) ∷ []) nothing_known

-- what is judged
abbrev integer : Judged
integer = typed ValueType.Int

abbrev boolean : Judged
boolean = typed ValueType.Bool

abbrev matrix : ℕ → Scalar → Judged
matrix dimensions scalar = typed (ValueType.Matrix dimensions scalar)

-- whether two judgements are the same
abbrev same_scalar : Scalar → Scalar → Bool
same_scalar Scalar.Int Scalar.Int = true
same_scalar Scalar.Bool Scalar.Bool = true
same_scalar _ _ = false

abbrev same_type : ValueType → ValueType → Bool
same_type ValueType.Int ValueType.Int = true
same_type ValueType.Bool ValueType.Bool = true
same_type ValueType.Empty ValueType.Empty = true
same_type (ValueType.Matrix m s) (ValueType.Matrix n t) = m == n && same_scalar s t
same_type _ _ = false

abbrev same : Judged → Judged → Bool
same (typed s) (typed t) = same_type s t
same mistyped mistyped = true
same untyped untyped = true
same _ _ = false

-- texts of expressions, each with what the rules say
abbrev AreRight : List (String × Judged) → Type 0
AreRight rows = wrong_rows same (λ text. option_map (judge known) (expr_in text)) 0 rows ≡ []

-- texts of domains, each with what the rules say
abbrev AreDomainsRight : List (String × Judged) → Type 0
AreDomainsRight rows = wrong_rows same (λ text. option_map (judge_domain known) (domain_in text)) 0 rows ≡ []

-- numbers, truth values and names
plain : AreRight (
    ("5", integer)
    ∷ ("true", boolean)
    ∷ ("n", integer)
    ∷ ("q", matrix 2 Scalar.Int)
    ∷ ("(b)", boolean)
    ∷ ("D", mistyped)
    ∷ ("z", untyped)
    ∷ ("u", untyped)
    ∷ ("u + 1", untyped)
    ∷ [])
unfolding the_language the_readers
plain = refl

-- Boolean forms of Booleans
connectives : AreRight (
    ("!b", boolean)
    ∷ ("!n", mistyped)
    ∷ ("b /\\ true", boolean)
    ∷ ("b /\\ n", mistyped)
    ∷ ("b \\/ b \\/ true", boolean)
    ∷ ("n \\/ b", mistyped)
    ∷ ("b -> b", boolean)
    ∷ ("n -> b", mistyped)
    ∷ ("b <-> true", boolean)
    ∷ ("forAll i : D . b", boolean)
    ∷ ("forAll i : D . n", mistyped)
    ∷ ("exists i : bool . i", boolean)
    ∷ ("exists i : D . i", mistyped)
    ∷ ("forAll i : bool union bool . i", boolean)
    ∷ ("forAll i : E . b", mistyped)
    ∷ [])
unfolding the_language the_readers
connectives = refl

-- integer forms of integers
sums : AreRight (
    ("-b", integer)
    ∷ ("-m", mistyped)
    ∷ ("|n|", integer)
    ∷ ("n + b - 1", integer)
    ∷ ("n + m", mistyped)
    ∷ ("n * b", integer)
    ∷ ("n / 2", integer)
    ∷ ("n % 2", integer)
    ∷ ("n ** b", integer)
    ∷ ("m * n", mistyped)
    ∷ ("min(n, b)", integer)
    ∷ ("max(n, m)", mistyped)
    ∷ ("factorial(n)", integer)
    ∷ ("factorial(m)", mistyped)
    ∷ ("sum i : D . i", integer)
    ∷ ("sum i : D . m", mistyped)
    ∷ [])
unfolding the_language the_readers
sums = refl

-- toInt
conversions : AreRight (
    ("toInt(b)", integer)
    ∷ ("toInt(n)", mistyped)
    ∷ [])
unfolding the_language the_readers
conversions = refl

-- comparisons and membership
comparisons : AreRight (
    ("n = b", boolean)
    ∷ ("m = m", mistyped)
    ∷ ("m <lex m", boolean)
    ∷ ("m <lex []", boolean)
    ∷ ("m <lex q", mistyped)
    ∷ ("n <=lex n", mistyped)
    ∷ ("n in D", boolean)
    ∷ ("b in bool", boolean)
    ∷ ("n in E", mistyped)
    ∷ ("m in D", mistyped)
    ∷ ("n in toSet(q)", boolean)
    ∷ ("n in toSet(n)", mistyped)
    ∷ [])
unfolding the_language the_readers
comparisons = refl

-- lists
lists : AreRight (
    ("[]", typed ValueType.Empty)
    ∷ ("[n, b]", matrix 1 Scalar.Int)
    ∷ ("[b, true]", matrix 1 Scalar.Bool)
    ∷ ("[m, w]", matrix 2 Scalar.Int)
    ∷ ("[w]", matrix 2 Scalar.Bool)
    ∷ ("[[true], []]", matrix 2 Scalar.Bool)
    ∷ ("[[], []]", matrix 2 Scalar.Bool)
    ∷ ("[q, []]", matrix 3 Scalar.Int)
    ∷ ("[m, q]", mistyped)
    ∷ ("[n, m]", mistyped)
    ∷ ("[n; D]", matrix 1 Scalar.Int)
    ∷ ("[n; E]", mistyped)
    ∷ ("[; int(1..0)]", typed ValueType.Empty)
    ∷ [])
unfolding the_language the_readers
lists = refl

-- comprehensions
comprehensions : AreRight (
    ("[i | i : D]", matrix 1 Scalar.Int)
    ∷ ("[b | i : D, b]", matrix 1 Scalar.Bool)
    ∷ ("[m | i : D]", matrix 2 Scalar.Int)
    ∷ ("[[] | i : D]", matrix 2 Scalar.Bool)
    ∷ ("[i | i : D, n]", mistyped)
    ∷ ("[i | i : E]", mistyped)
    ∷ ("[j | i : D, j : int(i..n)]", matrix 1 Scalar.Int)
    ∷ ("[1 | i : D; int(1..i)]", untyped)
    ∷ [])
unfolding the_language the_readers
comprehensions = refl

-- reads
reads : AreRight (
    ("m[1]", integer)
    ∷ ("w[b]", boolean)
    ∷ ("q[1]", matrix 1 Scalar.Int)
    ∷ ("q[1, ..]", matrix 1 Scalar.Int)
    ∷ ("q[.., ..]", matrix 2 Scalar.Int)
    ∷ ("q[1, 2]", integer)
    ∷ ("m[1, 2]", mistyped)
    ∷ ("m[.., 1]", mistyped)
    ∷ ("m[m]", mistyped)
    ∷ ("n[1]", mistyped)
    ∷ ("[][1]", mistyped)
    ∷ ("q[..][1]", matrix 1 Scalar.Int)
    ∷ [])
unfolding the_language the_readers
reads = refl

-- matrices folded and flattened
folds : AreRight (
    ("sum(q)", integer)
    ∷ ("product(w)", integer)
    ∷ ("min([])", integer)
    ∷ ("max(n)", mistyped)
    ∷ ("and(w)", boolean)
    ∷ ("and([])", boolean)
    ∷ ("and(m)", mistyped)
    ∷ ("or([w])", boolean)
    ∷ ("flatten(q)", matrix 1 Scalar.Int)
    ∷ ("flatten([])", matrix 1 Scalar.Bool)
    ∷ ("flatten(n)", mistyped)
    ∷ [])
unfolding the_language the_readers
folds = refl

-- global constraints
constraints : AreRight (
    ("allDiff(q)", boolean)
    ∷ ("allDiff(n)", mistyped)
    ∷ ("gcc(q, m, w)", boolean)
    ∷ ("gcc(m, q, m)", mistyped)
    ∷ ("atleast(m, m, m)", boolean)
    ∷ ("atleast(n, m, m)", mistyped)
    ∷ ("atmost(q, w, [])", boolean)
    ∷ ("atmost(m, m, n)", mistyped)
    ∷ ("table(m, q)", boolean)
    ∷ ("table(m, [])", boolean)
    ∷ ("table(q, q)", mistyped)
    ∷ ("table(m, m)", mistyped)
    ∷ [])
unfolding the_language the_readers
constraints = refl

-- domains
domains : AreDomainsRight (
    ("bool", boolean)
    ∷ ("int", integer)
    ∷ ("int(1..n)", integer)
    ∷ ("int(b)", integer)
    ∷ ("int(1..m)", mistyped)
    ∷ ("D", integer)
    ∷ ("(E)", matrix 1 Scalar.Int)
    ∷ ("n", mistyped)
    ∷ ("z", untyped)
    ∷ ("bool union bool", boolean)
    ∷ ("bool union D", integer)
    ∷ ("D - E", mistyped)
    ∷ ("matrix indexed by [D] of bool", matrix 1 Scalar.Bool)
    ∷ ("matrix indexed by [D, bool] of E", matrix 3 Scalar.Int)
    ∷ ("matrix indexed by [E] of D", mistyped)
    ∷ ("matrix indexed by [D] of matrix indexed by [D] of int(1)", matrix 2 Scalar.Int)
    ∷ [])
unfolding the_language the_readers
domains = refl

-- the type of a quantified name is that of its domain: Bool only where the domain is Boolean
quantified_names : AreRight (
    ("forAll i : (bool) . i", boolean)
    ∷ ("forAll i : F . i", boolean)
    ∷ ("forAll i : bool union F . i", boolean)
    ∷ ("forAll i : bool union int(1..2) . i = 1", boolean)
    ∷ ("forAll i : bool union int(1..2) . i", mistyped)
    ∷ ("forAll i : D . i", mistyped)
    ∷ ("sum i : F . i", integer)
    ∷ ("forAll i : E . i = 1", mistyped)
    ∷ ("forAll i : E . !i", untyped)
    ∷ ("[i | i : (bool)]", matrix 1 Scalar.Bool)
    ∷ ("[i | i : bool - D]", matrix 1 Scalar.Int)
    ∷ ("[i | i : E]", mistyped)
    ∷ [])
unfolding the_language the_readers
quantified_names = refl

-- parts of which one has a type that the form doesn't take
refused_1 : AreRight (
    ("n -> b", mistyped)
    ∷ ("b <-> n", mistyped)
    ∷ ("n <-> b", mistyped)
    ∷ ("|m|", mistyped)
    ∷ ("m / n", mistyped)
    ∷ ("n / m", mistyped)
    ∷ ("m % n", mistyped)
    ∷ ("n % m", mistyped)
    ∷ ("n ** m", mistyped)
    ∷ ("m ** n", mistyped)
    ∷ ("m * n", mistyped)
    ∷ ("min(m, n)", mistyped)
    ∷ ("max(n, m)", mistyped)
    ∷ ("sum(n)", mistyped)
    ∷ ("product(n)", mistyped)
    ∷ ("min(n)", mistyped)
    ∷ ("max(n)", mistyped)
    ∷ ("and(b)", mistyped)
    ∷ ("or(b)", mistyped)
    ∷ ("or(m)", mistyped)
    ∷ ("and(m)", mistyped)
    ∷ ("gcc(n, m, m)", mistyped)
    ∷ ("gcc(m, n, m)", mistyped)
    ∷ ("gcc(m, q, m)", mistyped)
    ∷ ("gcc(m, m, n)", mistyped)
    ∷ ("gcc(m, m, q)", mistyped)
    ∷ ("atleast(n, m, m)", mistyped)
    ∷ ("atleast(m, n, m)", mistyped)
    ∷ ("atleast(m, q, m)", mistyped)
    ∷ ("atleast(m, m, n)", mistyped)
    ∷ ("atleast(m, m, q)", mistyped)
    ∷ ("atmost(n, m, m)", mistyped)
    ∷ ("atmost(m, n, m)", mistyped)
    ∷ ("atmost(m, q, m)", mistyped)
    ∷ ("atmost(m, m, n)", mistyped)
    ∷ ("atmost(m, m, q)", mistyped)
    ∷ ("table(q, q)", mistyped)
    ∷ ("table(m, m)", mistyped)
    ∷ ("[n, []]", mistyped)
    ∷ ("[[], n]", mistyped)
    ∷ [])
unfolding the_language the_readers
refused_1 = refl

-- parts of which one has a type that the form doesn't take
refused_2 : AreRight (
    ("[b, m]", mistyped)
    ∷ ("m in toSet(q)", mistyped)
    ∷ ("n in toSet(n)", mistyped)
    ∷ ("m in D", mistyped)
    ∷ ("n in E", mistyped)
    ∷ ("[i | i : D; E]", mistyped)
    ∷ ("[n; E]", mistyped)
    ∷ ("[n | i : D, n]", mistyped)
    ∷ ("m <lex q", mistyped)
    ∷ ("q <lex q", mistyped)
    ∷ ("m[b, ..]", mistyped)
    ∷ ("m[m]", mistyped)
    ∷ ("q[1, .., 2]", mistyped)
    ∷ [])
unfolding the_language the_readers
refused_2 = refl

-- accepted
accepted : AreRight (
    ("max(n, b)", integer)
    ∷ ("min(b, b)", integer)
    ∷ ("|b|", integer)
    ∷ ("b ** b", integer)
    ∷ ("b <-> (n = 1)", boolean)
    ∷ ("gcc(q, m, w)", boolean)
    ∷ ("atleast(q, w, m)", boolean)
    ∷ ("atmost([], [], [])", boolean)
    ∷ ("table([], q)", boolean)
    ∷ ("n in toSet(q)", boolean)
    ∷ ("[i | i : D; bool]", matrix 1 Scalar.Int)
    ∷ ("[[] | i : D]", matrix 2 Scalar.Bool)
    ∷ ("q[1, ..]", matrix 1 Scalar.Int)
    ∷ ("q[..]", matrix 2 Scalar.Int)
    ∷ ("q[b, b]", integer)
    ∷ [])
unfolding the_language the_readers
accepted = refl

-- more domains
more_domains : AreDomainsRight (
    ("D intersect bool", integer)
    ∷ ("bool intersect F", boolean)
    ∷ ("F - bool", boolean)
    ∷ ("E - D", mistyped)
    ∷ ("E union E", mistyped)
    ∷ ("D intersect E", mistyped)
    ∷ ("(E)", matrix 1 Scalar.Int)
    ∷ ("matrix indexed by [F] of E", matrix 2 Scalar.Int)
    ∷ [])
unfolding the_language the_readers
more_domains = refl

-- a place, which types don't depend on
abbrev p : Place
p = record { line = 1; column = 1 }

-- matrix domains without index domains, which no text spells
unspelled : map (judge_domain known) (matrix_domain p no_domains (bool p) ∷ matrix_domain p no_domains (named_domain p (codes "E")) ∷ []) ≡ mistyped ∷ mistyped ∷ []
unfolding the_language
unspelled = refl
