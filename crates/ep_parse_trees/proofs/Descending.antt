-- Reading at a height, by readers of what is lower.
use Rattle.std.specs.Prelude.{◌≡◌, ◌-◌, ◌≤◌, ℕ, zero, suc, Bool, true, false, List, Result, Ok, Err, if◌then◌else◌, refl}
use Rattle.std.proofs.Common.{ap, arith, sym, subst, ◌∙◌}
use Rattle.ep_parse_below.proofs.ListLoops.{finds_as, stops_as}
use Rattle.ep_parse_parts.specs.Cursors.{StopsReading}
use Rattle.ep_parse_parts.specs.DomainReaders.{domain_at_level}
use Rattle.ep_parse_parts.specs.Founds.{Finds, FindsDomain, lower}
use Rattle.ep_parse_parts.specs.OperandReaders.{domain_next, expression_next, none_low}
use Rattle.ep_parse_parts.specs.OperatorReaders.{at_level}
use Rattle.ep_parse_parts.specs.Readers.{Read, high, took, wrong}
use Rattle.ep_parse_parts.specs.TreeReaders.{expr_from, some_domain_from}
use Rattle.ep_parse_parts.specs.declared.cursor.Stop.{Stop}
use Rattle.ep_parse_parts.specs.declared.cursor.Stop.TheVariants.{Memory, TooHigh, Wrong}
use Rattle.ep_parse_parts.specs.declared.found.Found.{Found}
use Rattle.ep_parse_parts.specs.declared.found.FoundDomain.{FoundDomain}
use Rattle.ep_tree.specs.Phrases.{Lexeme}
use Rattle.ep_tree.specs.Spelling.{DomainLevel, Level}
use Rattle.ep_tree.specs.Trees.{DomainTree, ExprTree}

one_less : (less : ℕ) → suc less - 1 ≡ less
one_less less = omega arith

expr_some : (most : ℕ) (level : Level) (ls : List Lexeme) → 1 ≤ most → expr_from most level ls ≡ at_level most (lower most) level ls
unfolding expr_from lower
expr_some zero level ls h = absurd (omega (arith, h))
expr_some (suc less) level ls h = ap (λ n. at_level (suc less) (record { expr = expr_from n; domain = some_domain_from n }) level ls) (sym (one_less less))

domain_some : (most : ℕ) (level : DomainLevel) (ls : List Lexeme) → 1 ≤ most → some_domain_from most level ls ≡ domain_at_level most (lower most) level ls
unfolding expr_from lower
domain_some zero level ls h = absurd (omega (arith, h))
domain_some (suc less) level ls h = ap (λ n. domain_at_level (suc less) (record { expr = expr_from n; domain = some_domain_from n }) level ls) (sym (one_less less))

pub expr_at : (most : ℕ) (level : Level) (ls new : List Lexeme) (result : Result Found Stop) → 1 ≤ most → Finds result new (at_level most (lower most) level ls) → Finds result new (expr_from most level ls)
expr_at most level ls new result h f = finds_as result new _ _ (expr_some most level ls h) f

pub domain_at : (most : ℕ) (level : DomainLevel) (ls new : List Lexeme) (result : Result FoundDomain Stop) → 1 ≤ most → FindsDomain result new (domain_at_level most (lower most) level ls)
    → FindsDomain result new (some_domain_from most level ls)
domain_at most level ls new (Ok found) h f = (domain_some most level ls h ∙ f.0, f.1)
domain_at most level ls new (Err e) h f = stops_as e new _ _ (domain_some most level ls h) f

none : (A : Type 0) (begins : Bool) (ls : List Lexeme) (e : Stop) → e ≡ (if begins then TooHigh else Wrong) → StopsReading {Y = A} e ls (none_low {A = A} begins ls)
none A true ls Wrong e = absurd cc
none A true ls TooHigh e = refl
none A true ls Memory e = absurd cc
none A false ls Wrong e = refl
none A false ls TooHigh e = absurd cc
none A false ls Memory e = absurd cc

-- nothing is low enough
pub expr_none : (most : ℕ) (level : Level) (ls : List Lexeme) (e : Stop) → most ≡ 0 → e ≡ (if expression_next ls then TooHigh else Wrong) → Finds (Err e) ls (expr_from most level ls)
unfolding expr_from
expr_none most level ls e z w = stops_as e ls (none_low (expression_next ls) ls) _ (ap (λ m. expr_from m level ls) z) (none ExprTree (expression_next ls) ls e w)

pub domain_none : (most : ℕ) (level : DomainLevel) (ls : List Lexeme) (e : Stop) → most ≡ 0 → e ≡ (if domain_next level ls then TooHigh else Wrong) → FindsDomain (Err e) ls (some_domain_from most level ls)
unfolding expr_from
domain_none most level ls e z w = stops_as e ls (none_low (domain_next level ls) ls) _ (ap (λ m. some_domain_from m level ls) z) (none DomainTree (domain_next level ls) ls e w)
