-- The words that begin a domain.
use Rattle.std.specs.Prelude.{ℕ, List, [], ◌∷◌, codes}
use Rattle.ep_parse_parts.specs.declared.words.DomainLevel.{DomainLevel}
use Rattle.ep_parse_parts.specs.declared.words.DomainLevel.TheVariants as domain_level

-- the words that begin a domain at a level
abbrev pub beginners : DomainLevel → List (List ℕ)
beginners domain_level.Domains = codes "bool" ∷ codes "int" ∷ codes "(" ∷ codes "matrix" ∷ []
beginners domain_level.SetOperations = codes "bool" ∷ codes "int" ∷ codes "(" ∷ []
beginners domain_level.SetParts = codes "bool" ∷ codes "int" ∷ codes "(" ∷ []
