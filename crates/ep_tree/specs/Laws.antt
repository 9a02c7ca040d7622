-- Laws of the definitions, as statements. The functions of `src/laws.rt` have them as their contracts.
use Rattle.std.specs.Prelude.{◌≡◌, ℕ, zero, suc, Bool, ◌&&◌, List, length, ℤ, pos, negsuc, ◌+ℤ◌, ◌*ℤ◌, ◌≤ℤ◌, ◌<ℤ◌, IsTrue, int_le, Some, None, option_map}
use Rattle.std.specs.List.{list_all}
use Rattle.ep_base.specs.Numbers.{has_number, quotient}
use Rattle.ep_base.specs.Runs.{IsAscending}
use Rattle.ep_base.specs.declared.names.Name.{Name}
use Rattle.ep_tree.specs.Binding.{elements_pass}
use Rattle.ep_tree.specs.Domains.{between, set_has, set_values}
use Rattle.ep_tree.specs.Environments.{Bound, Env, HasAscendingDomain, context_of}
use Rattle.ep_tree.specs.Evaluation.{domain_values, evaluate}
use Rattle.ep_tree.specs.Names.{put}
use Rattle.ep_tree.specs.Phrases.{Lexeme, Phrase}
use Rattle.ep_tree.specs.Reading.{IsTooHigh, Reads, Stops}
use Rattle.ep_tree.specs.Trees.{DomainTree, ExprTree}
use Rattle.ep_tree.specs.TypedValues.{IsOf, IsOfDims, IsTypedEnv, is_number_of}
use Rattle.ep_tree.specs.Types.{Context, Meaning, judge, judge_domain, scalar_of, typed}
use Rattle.ep_tree.specs.Values.{ValueTree, fitted}
use Rattle.ep_tree.specs.declared.syntax.SetOp.{SetOp}
use Rattle.ep_tree.specs.declared.values.Mode.{Mode}
use Rattle.ep_tree.specs.declared.values.Scalar.{Scalar}
use Rattle.ep_tree.specs.declared.values.ValueType.{ValueType}

-- what an expression is worth doesn't depend on what a hidden name stood for
abbrev pub ValueHidesLexically : Type 0
ValueHidesLexically =
    (mode : Mode) (env : Env) (name : Name) (inner outer : Bound) (e : ExprTree)
    → evaluate mode (put name inner (put name outer env)) e ≡ evaluate mode (put name inner env) e

-- the numbers of a domain don't depend on what a hidden name stood for
abbrev pub DomainHidesLexically : Type 0
DomainHidesLexically =
    (mode : Mode) (env : Env) (name : Name) (inner outer : Bound) (d : DomainTree)
    → domain_values mode (put name inner (put name outer env)) d ≡ domain_values mode (put name inner env) d

-- the type of an expression doesn't depend on what a hidden name stood for
abbrev pub TypeHidesLexically : Type 0
TypeHidesLexically =
    (context : Context) (name : Name) (inner outer : Meaning) (e : ExprTree)
    → judge (put name inner (put name outer context)) e ≡ judge (put name inner context) e

-- a positive divisor times the quotient is at most the dividend
abbrev pub PositiveQuotientIsLow : Type 0
PositiveQuotientIsLow =
    (x q : ℤ) (y : ℕ) → quotient x (pos (suc y)) ≡ Some q → (pos (suc y) *ℤ q) ≤ℤ x

-- and once more the divisor is more than the dividend
abbrev pub PositiveQuotientIsHigh : Type 0
PositiveQuotientIsHigh =
    (x q : ℤ) (y : ℕ) → quotient x (pos (suc y)) ≡ Some q → x <ℤ ((pos (suc y) *ℤ q) +ℤ pos (suc y))

-- a negative divisor times the quotient is at least the dividend
abbrev pub NegativeQuotientIsLow : Type 0
NegativeQuotientIsLow =
    (x q : ℤ) (y : ℕ) → quotient x (negsuc y) ≡ Some q → x ≤ℤ (negsuc y *ℤ q)

-- and once more the divisor is less than the dividend
abbrev pub NegativeQuotientIsHigh : Type 0
NegativeQuotientIsHigh =
    (x q : ℤ) (y : ℕ) → quotient x (negsuc y) ≡ Some q → ((negsuc y *ℤ q) +ℤ negsuc y) <ℤ x

-- nothing is divided by 0
abbrev pub NoQuotientByZero : Type 0
NoQuotientByZero = (x : ℤ) → quotient x (pos zero) ≡ None

-- a range has the numbers from its first to its last
abbrev pub RangeIsInterval : Type 0
RangeIsInterval =
    (x first last : ℤ) → has_number (between first last) x ≡ (int_le first x && int_le x last)

-- an operation on domains is that of sets
abbrev pub OperationIsOfSets : Type 0
OperationIsOfSets =
    (op : SetOp) (xs ys : List ℤ) (x : ℤ)
    → has_number (set_values op xs ys) x ≡ set_has op (has_number xs x) (has_number ys x)

-- a domain that isn't open passes exactly the numbers that it lists
abbrev pub ClosedDomainPassesItsNumbers : Type 0
ClosedDomainPassesItsNumbers =
    (mode : Mode) (env : Env) (x : ℤ) (d : DomainTree) (values : List ℤ) → domain_values mode env d ≡ Some values
    → option_map (λ passes. passes x) (elements_pass mode env d) ≡ Some (has_number values x)

-- the numbers of a domain ascend, where those of each domain's name do
abbrev pub DomainAscends : Type 0
DomainAscends =
    (mode : Mode) (env : Env) → ((name : Name) → HasAscendingDomain (env name))
    → (d : DomainTree) (values : List ℤ) → domain_values mode env d ≡ Some values → IsAscending values

-- where an expression has a value, it is of the expression's type
abbrev pub ValueIsOfType : Type 0
ValueIsOfType =
    (mode : Mode) (env : Env) → IsTypedEnv env
    → (e : ExprTree) (t : ValueType) → judge (context_of env) e ≡ typed t
    → (v : ValueTree) → evaluate mode env e ≡ Some v → IsOf t v

-- the numbers of a domain are of its scalar
abbrev pub DomainIsOfScalar : Type 0
DomainIsOfScalar =
    (mode : Mode) (env : Env) → IsTypedEnv env
    → (d : DomainTree) (t : ValueType) → judge_domain (context_of env) d ≡ typed t
    → (ns : List ℤ) → domain_values mode env d ≡ Some ns → IsTrue (list_all (is_number_of (scalar_of t)) ns)

-- a value that fits index domains and a scalar has, fitted, these dimensions and this scalar
abbrev pub FitIsOfDimensions : Type 0
FitIsOfDimensions =
    (own wanted : Scalar) (passes : ℤ → Bool) → ((n : ℤ) → IsTrue (passes n) → IsTrue (is_number_of wanted n))
    → (indices : List (List ℤ)) (v fit : ValueTree) → fitted own wanted passes indices v ≡ Some fit
    → IsOfDims wanted (length indices) fit

-- of each list of tokens at most one is the first with which nothing goes on
abbrev pub StopsOnce : (List Lexeme → Type 0) → Type 0
StopsOnce begins = (tokens : List Lexeme) (m n : ℕ) → Stops begins tokens m → Stops begins tokens n → m ≡ n

-- what is read isn't also too high
abbrev pub ReadIsNotTooHigh : {A : Type 0} → (A → Phrase) → (A → ℕ) → Type 0
ReadIsNotTooHigh {A} spells height_of =
    (most : ℕ) (tokens : List Lexeme) (m n : ℕ) (tree : A)
    → Reads spells height_of most tokens m tree → IsTooHigh spells height_of most tokens n → ⊥
