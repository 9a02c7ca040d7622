-- What the calls give that read what is lower.
use Rattle.std.specs.Prelude.{◌≡◌, ◌≤◌, ◌-◌, ℕ, List, Result}
use Rattle.std.specs.Fn.{Shared, always_fn}
use Rattle.std.proofs.Common.{MutBor}
use Rattle.ep_parse_parts.specs.Founds.{Finds, FindsDomain}
use Rattle.ep_parse_parts.specs.Openings.{domain_level_of, level_of}
use Rattle.ep_parse_parts.specs.TreeReaders.{expr_from, some_domain_from}
use Rattle.ep_parse_below.specs.declared.below.Below.{Below}
use Rattle.ep_parse_parts.specs.declared.cursor.Stop.{Stop}
use Rattle.ep_parse_parts.specs.declared.found.Found.{Found}
use Rattle.ep_parse_parts.specs.declared.found.FoundDomain.{FoundDomain}
use Rattle.ep_parse_parts.specs.declared.words.DomainLevel.{DomainLevel}
use Rattle.ep_parse_parts.specs.declared.words.Level.{Level}
use Rattle.ep_tree.specs.Phrases.{Lexeme}

-- a call that reads what stands where a level is asked for
abbrev pub Call : Type 0 → Type 0 → Type 0 → Type 1
Call F Place R = Shared F (MutBor (List Lexeme) × (Place × Unit {0})) (Result R Stop × (MutBor (List Lexeme) × Unit {0}))

-- The calls may be made at any time, and give what the readers give of what is lower by one than what is read.
pub record Ready {E D : Type 0} (e : Call E Level Found) (d : Call D DomainLevel FoundDomain) (below : Below E D) : Type 0 where
  pub some : 1 ≤ below.most
  pub expr_called : always_fn e below.read_expr
  pub domain_called : always_fn d below.read_domain
  pub exprs : (cursor : MutBor (List Lexeme)) (level : Level) (r : Result Found Stop) (left : MutBor (List Lexeme))
      → e.post below.read_expr (cursor, (level, tt)) (r, (left, tt)) → Finds r left.now (expr_from (below.most - 1) (level_of level) cursor.now)
  pub domains : (cursor : MutBor (List Lexeme)) (level : DomainLevel) (r : Result FoundDomain Stop) (left : MutBor (List Lexeme))
      → d.post below.read_domain (cursor, (level, tt)) (r, (left, tt))
      → FindsDomain r left.now (some_domain_from (below.most - 1) (domain_level_of level) cursor.now)
