-- What was made is what was found.
use Rattle.std.specs.Prelude.{◌≡◌, List, Result, Ok, Err, refl}
use Rattle.std.proofs.Common.{ap, sym, subst, ◌∙◌}
use Rattle.ep_parse_parts.specs.Cursors.{Gives, StopsReading}
use Rattle.ep_parse_parts.specs.Founds.{Finds, FindsDomain, Makes, MakesDomain, Shows, ShowsDomain}
use Rattle.ep_parse_parts.specs.Readers.{Read, Reader, took, wrong, high, ◌and_then◌}
use Rattle.ep_parse_parts.specs.declared.cursor.Stop.{Stop}
use Rattle.ep_parse_parts.specs.declared.cursor.Stop.TheVariants.{Memory, TooHigh, Wrong}
use Rattle.ep_parse_parts.specs.declared.found.Found.{Found}
use Rattle.ep_parse_parts.specs.declared.found.FoundDomain.{FoundDomain}
use Rattle.ep_tree.specs.Phrases.{Lexeme}
use Rattle.ep_tree.specs.Trees.{DomainTree, ExprTree}
use Rattle.ep_tree.specs.Views.{domain_tree, expr_tree}

-- what a tree shows, its own tree shows
pub shows_own : (found : Found) (tree : ExprTree) → Shows found tree → Shows found (expr_tree found.expr)
shows_own found tree s = subst (λ t. Shows found t) (sym s.is) s

pub shows_own_domain : (found : FoundDomain) (tree : DomainTree) → ShowsDomain found tree → ShowsDomain found (domain_tree found.domain)
shows_own_domain found tree s = subst (λ t. ShowsDomain found t) (sym s.is) s

pub memory_stops : {A : Type 0} (e : Stop) (left : List Lexeme) (read : Read A) → e ≡ Memory → StopsReading e left read
memory_stops Wrong left read e = absurd cc
memory_stops TooHigh left read e = absurd cc
memory_stops Memory left read e = tt

pub finds_made : (result : Result Found Stop) (tree : ExprTree) (left : List Lexeme) (read : Read ExprTree) → Makes result tree → read ≡ took tree left → Finds result left read
finds_made (Ok found) tree left read m e = (e ∙ ap (λ t. took t left) (sym m.is), shows_own found tree m)
finds_made (Err e) tree left read m k = memory_stops e left read m

pub finds_made_domain : (result : Result FoundDomain Stop) (tree : DomainTree) (left : List Lexeme) (read : Read DomainTree) → MakesDomain result tree → read ≡ took tree left → FindsDomain result left read
finds_made_domain (Ok found) tree left read m e = (e ∙ ap (λ t. took t left) (sym m.is), shows_own_domain found tree m)
finds_made_domain (Err e) tree left read m k = memory_stops e left read m

-- a function that makes no allocation
pub finds_shown : (found : Found) (tree : ExprTree) (left : List Lexeme) (read : Read ExprTree) → Shows found tree → read ≡ took tree left → Finds (Ok found) left read
finds_shown found tree left read m e = (e ∙ ap (λ t. took t left) (sym m.is), shows_own found tree m)

pub finds_shown_domain : (found : FoundDomain) (tree : DomainTree) (left : List Lexeme) (read : Read DomainTree) → ShowsDomain found tree → read ≡ took tree left → FindsDomain (Ok found) left read
finds_shown_domain found tree left read m e = (e ∙ ap (λ t. took t left) (sym m.is), shows_own_domain found tree m)

-- what is found, without what decides what may follow it
pub finds_gives : (result : Result Found Stop) (left : List Lexeme) (read : Read ExprTree) → Finds result left read → Gives (λ (found : Found). expr_tree found.expr) result left read
finds_gives (Ok found) left read f = f.0
finds_gives (Err e) left read f = f

pub finds_gives_domain : (result : Result FoundDomain Stop) (left : List Lexeme) (read : Read DomainTree) → FindsDomain result left read → Gives (λ (found : FoundDomain). domain_tree found.domain) result left read
finds_gives_domain (Ok found) left read f = f.0
finds_gives_domain (Err e) left read f = f

-- a reader that gives the same
pub finds_at : (result : Result Found Stop) (left : List Lexeme) (read other : Read ExprTree) → other ≡ read → Finds result left read → Finds result left other
finds_at result left read other e f = subst (λ r. Finds result left r) (sym e) f

pub finds_at_domain : (result : Result FoundDomain Stop) (left : List Lexeme) (read other : Read DomainTree) → other ≡ read → FindsDomain result left read → FindsDomain result left other
finds_at_domain result left read other e f = subst (λ r. FindsDomain result left r) (sym e) f
