-- The names that may stand in an expression decide what the rules say of it: laws, as statements.
use Rattle.std.specs.Prelude.{◌≡◌, Bool, true, false, not, ◌||◌, [], IsTrue, Some, None, Option}
use Rattle.ep_base.specs.declared.names.Name.{Name}
use Rattle.ep_tree.specs.Faults.{domain_faults, faults}
use Rattle.ep_tree.specs.Trees.{DomainTree, ExprTree}
use Rattle.ep_tree.specs.Types.{Context, Meaning, a_domain, a_value, judge, judge_domain}

-- What one context says of a name is said by another too, where the name may stand: a domain, or a value of the same
-- type. Each context has a flag that tells whether decision variables may stand; a decision variable of the first may
-- be a mere value in the second.
unfoldable pub IsKept : Bool → Bool → Option Meaning → Option Meaning → Type 0
IsKept decisions others None other = Unit {0}
IsKept decisions others (Some (a_domain t)) other = other ≡ Some (a_domain t)
IsKept decisions others (Some (a_value t false)) other = other ≡ Some (a_value t false)
IsKept false others (Some (a_value t true)) other = Unit {0}
IsKept true others (Some (a_value t true)) other =
    (flag : Bool) × (other ≡ Some (a_value t flag)) × IsTrue (others || not flag)

-- each name that may stand is kept
abbrev pub NamesAreKept : Bool → Bool → Context → Context → Type 0
NamesAreKept decisions others context other = (name : Name) → IsKept decisions others (context name) (other name)

-- what a context without decision variables says where another one says this
unfoldable pub without_decision : Option Meaning → Option Meaning
without_decision None = None
without_decision (Some (a_domain t)) = Some (a_domain t)
without_decision (Some (a_value t false)) = Some (a_value t false)
without_decision (Some (a_value t true)) = None

-- a context lacks the decision variables of another one, and agrees with it else
abbrev pub LacksDecisions : Context → Context → Type 0
LacksDecisions context other = (name : Name) → other name ≡ without_decision (context name)

-- an expression without a fault has the same type where the names that may stand in it are kept
abbrev pub NamesDecideType : Type 0
NamesDecideType =
    (decisions others : Bool) (context other : Context) → NamesAreKept decisions others context other
    → (e : ExprTree) → faults context decisions e ≡ [] → judge other e ≡ judge context e

-- and has no fault there
abbrev pub NamesDecideFaults : Type 0
NamesDecideFaults =
    (decisions others : Bool) (context other : Context) → NamesAreKept decisions others context other
    → (e : ExprTree) → faults context decisions e ≡ [] → faults other others e ≡ []

-- a domain without a fault has the same type where the names that may stand in it are kept
abbrev pub NamesDecideDomainType : Type 0
NamesDecideDomainType =
    (context other : Context) → NamesAreKept false false context other
    → (may_open : Bool) (d : DomainTree) → domain_faults context may_open d ≡ []
    → judge_domain other d ≡ judge_domain context d

-- and has no fault there
abbrev pub NamesDecideDomainFaults : Type 0
NamesDecideDomainFaults =
    (context other : Context) → NamesAreKept false false context other
    → (may_open : Bool) (d : DomainTree) → domain_faults context may_open d ≡ [] → domain_faults other may_open d ≡ []

-- where no decision variable may stand, none has to be known
abbrev pub DecisionsAreNotNeeded : Type 0
DecisionsAreNotNeeded =
    (context other : Context) → LacksDecisions context other → NamesAreKept false false context other
