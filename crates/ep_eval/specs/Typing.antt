-- Where an expression is typed: the context of a scope, and the names of quantifiers and generators behind it.
use Rattle.std.specs.Prelude.{◌≡◌, ◌≢◌, Bool, true, false, List, [], ◌∷◌, map, Some, None, Option}
use Rattle.ep_base.specs.declared.names.Name.{Name}
use Rattle.ep_tree.specs.Environments.{context_of}
use Rattle.ep_tree.specs.Names.{put}
use Rattle.ep_tree.specs.Trees.{DomainTree}
use Rattle.ep_tree.specs.Types.{Context, Judged, Meaning, a_value, inside, judge_domain, of_scalar, reading_contexts}
use Rattle.ep_tree.specs.declared.values.Scalar.{Scalar}
use Rattle.ep_eval.specs.Scopes.{env_in}
use Rattle.ep_eval.specs.declared.within.TypedName.{TypedName}
use Rattle.ep_eval.specs.declared.within.Within.{Within}

-- what a typed name stands for
abbrev pub typed_meaning : TypedName → Meaning
typed_meaning own = a_value (Some (of_scalar own.scalar)) false

-- a context with typed names behind it, the first of the list first
unfoldable pub with_typed : List TypedName → Context → Context
with_typed [] c = c
with_typed (own ∷ typed) c = with_typed typed (put own.name (typed_meaning own) c)

-- the context in which an expression is typed
abbrev pub context_in : Within → Context
context_in within = with_typed within.typed.now (context_of (env_in within.scope))

-- what a number's name stands for, and else something else
unfoldable pub meaning_or : Option Scalar → Option Meaning → Option Meaning
meaning_or None m = m
meaning_or (Some s) m = Some (a_value (Some (of_scalar s)) false)

-- what the rules say of each reading of the domain of some names
abbrev pub readings : Context → List Name → DomainTree → List Judged
readings c names d = map (λ k. judge_domain k d) (reading_contexts names (λ k. judge_domain k d) c)

-- the context behind some names of a domain
abbrev pub inside_names : Context → List Name → DomainTree → Context
inside_names c names d = inside names (λ k. judge_domain k d) c

-- The names of quantifiers or generators are typed so that the inner context is the outer one with them, where all
-- readings of their domains are scalar; and else there are none.
unfoldable pub AreNamesTyped : Option (List TypedName) → Context → Option Bool → Context → Type 0
AreNamesTyped None outer scalar inner = scalar ≢ Some true
AreNamesTyped (Some typed) outer scalar inner = (scalar ≡ Some true) × (inner ≡ with_typed typed outer)
