-- The readers of a height refuse a token where those before it can be completed.
use Rattle.std.specs.List.{list_any}
use Rattle.std.specs.Prelude.{◌≡◌, ℕ, zero, suc, Bool, true, false, ◌||◌, List, [], ◌∷◌, ◌++◌, nat_le, bytes_eq, codes, refl}
use Rattle.std.proofs.Common.{ap, arith, ◌∙◌}
use Rattle.std.proofs.lemmas.Bool.Decides.{nat_tests}
use Rattle.std.proofs.lemmas.Slice.Eq.{bytes_eq-Decides}
use Rattle.ep_tree.specs.Heights.{height}
use Rattle.ep_tree.specs.Phrases.{Lexeme, Saying, a_name, a_number, a_word}
use Rattle.ep_tree.specs.Spelling.{DomainLevel, Level, SpellsDomainNode, domain_rank, domains, own_domain_level, own_level, rank, set_operations, set_parts, unaries}
use Rattle.ep_tree.specs.Trees.{DomainTree, ExprTree, bool, int, named_domain, place_of_domain}
use Rattle.ep_parse_parts.specs.OperandReaders.{domain_next, expression_next, none_low, opens, opens_domain}
use Rattle.ep_parse_parts.specs.TreeReaders.{expr_from}
use Rattle.ep_parse_parts.proofs.AgainAll.{readers}
use Rattle.ep_parse_expr.proofs.Completing.{ADomain, AnExpr, Opens, Refuses, Word, refuses_high, refuses_wrong}
use Rattle.ep_parse_expr.proofs.CompletingDomains.{InGroup, InMatrix, domain_level_refuses, group_node, in_matrix_has, matrix_node}
use Rattle.ep_parse_expr.proofs.CompletingOpened.{begins_higher}
use Rattle.ep_parse_expr.proofs.CompletingOperands.{domain_has, then_has, word_has}
use Rattle.ep_parse_expr.proofs.CompletingOperators.{at_level_refuses}
use Rattle.ep_parse_expr.proofs.CompletingParts.{AreOpen, token_opens}
use Rattle.ep_parse_expr.proofs.SteadyAll.{all_sound}

le_on : (a b c : ℕ) → nat_le a b ≡ true → nat_le b c ≡ true → nat_le a c ≡ true
le_on a b c h k = grind (arith, nat_tests)

-- ---- no height at all

none_refuses : (level : Level) → nat_le (rank level) (rank unaries) ≡ true → (ls : List Lexeme) → Refuses {A = ExprTree} (AnExpr level zero) ls (none_low (expression_next ls) ls)
unfolding expression_next
none_refuses level ranked [] = refuses_wrong (AnExpr level zero) []
none_refuses level ranked (l ∷ rest) = go (opens l.saying) refl
  where
    go : (b : Bool) → opens l.saying ≡ b → Refuses {A = ExprTree} (AnExpr level zero) (l ∷ rest) (none_low b (l ∷ rest))
    go true o =
        let h = begins_higher 0 l o in
        refuses_high (AnExpr level zero) l rest (h.0, (h.1.0, (λ e. absurd cc), (le_on (rank level) (rank unaries) (rank (own_level h.1.0)) ranked h.1.2.0, h.1.2.1)))
    go false o = refuses_wrong (AnExpr level zero) (l ∷ rest)

-- a domain part at any level, however high
part_anywhere : (level : DomainLevel) (most : ℕ) (front : List Lexeme) → ADomain set_parts most false front → ADomain level zero false front
unfolding domain_rank
part_anywhere domains most front h = (h.0, (λ e. absurd cc), (le_on 0 2 (domain_rank (own_domain_level h.0)) refl h.2.0, h.2.1))
part_anywhere set_operations most front h = (h.0, (λ e. absurd cc), (le_on 1 2 (domain_rank (own_domain_level h.0)) refl h.2.0, h.2.1))
part_anywhere set_parts most front h = (h.0, (λ e. absurd cc), h.2)

module _ (l : Lexeme) where
  name_begins : (x : List ℕ) → l.saying ≡ a_name x → Opens (ADomain set_parts 1 false) (l ∷ [])
  unfolding SpellsDomainNode own_domain_level domain_rank place_of_domain height
  name_begins x said = ([], (named_domain l.place x, (λ e. absurd cc), (refl, (refl, (l.place, ap (λ (s : Saying). record { place = l.place; saying = s } ∷ []) said)))))

  bool_begins : l.saying ≡ a_word (codes "bool") → Opens (ADomain set_parts 1 false) (l ∷ [])
  unfolding SpellsDomainNode own_domain_level domain_rank place_of_domain height
  bool_begins said = ([], (bool l.place, (λ e. absurd cc), (refl, (refl, (l.place, ap (λ (s : Saying). record { place = l.place; saying = s } ∷ []) said)))))

  int_begins : l.saying ≡ a_word (codes "int") → Opens (ADomain set_parts 1 false) (l ∷ [])
  unfolding SpellsDomainNode own_domain_level domain_rank place_of_domain height
  int_begins said = ([], (int l.place, (λ e. absurd cc), (refl, (refl, (l.place, ap (λ (s : Saying). record { place = l.place; saying = s } ∷ []) said)))))

  group_begins : l.saying ≡ a_word (codes "(") → Opens (ADomain set_parts 1 false) (l ∷ [])
  unfolding domain_rank
  group_begins said = token_opens (codes "(") (InGroup 0) (ADomain set_parts 1) l said (group_node 0 set_parts refl) (then_has (ADomain set_operations 0) (Word (codes ")")) false (domain_has set_operations 0 false refl (λ e. absurd cc)) (word_has (codes ")") false))

  matrix_begins : l.saying ≡ a_word (codes "matrix") → Opens (ADomain domains 1 false) (l ∷ [])
  matrix_begins said = token_opens (codes "matrix") (InMatrix 0) (ADomain domains 1) l said (matrix_node 0) (in_matrix_has 0 false (λ e. absurd cc))

  anywhere : (level : DomainLevel) → Opens (ADomain set_parts 1 false) (l ∷ []) → Opens (ADomain level zero false) (l ∷ [])
  anywhere level o = (o.0, part_anywhere level 1 ((l ∷ []) ++ o.0) o.1)

  -- a word of a list
  same_word : (w v : List ℕ) → l.saying ≡ a_word w → bytes_eq w v ≡ true → l.saying ≡ a_word v
  same_word w v said e = said ∙ ap a_word ((bytes_eq-Decides w v).0 e)

  word_begins : (level : DomainLevel) (w : List ℕ) → l.saying ≡ a_word w → list_any (bytes_eq w) (codes "bool" ∷ codes "int" ∷ codes "(" ∷ []) ≡ true → Opens (ADomain level zero false) (l ∷ [])
  word_begins level w said e = go (bytes_eq w (codes "bool")) (bytes_eq w (codes "int")) (bytes_eq w (codes "(")) refl refl refl e
    where
      go : (a b d : Bool) → bytes_eq w (codes "bool") ≡ a → bytes_eq w (codes "int") ≡ b → bytes_eq w (codes "(") ≡ d → (a || (b || (d || false))) ≡ true → Opens (ADomain level zero false) (l ∷ [])
      go true b d x y z e = anywhere level (bool_begins (same_word w (codes "bool") said x))
      go false true d x y z e = anywhere level (int_begins (same_word w (codes "int") said y))
      go false false true x y z e = anywhere level (group_begins (same_word w (codes "(") said z))
      go false false false x y z e = let no : false ≡ true = e in absurd cc

  any_word_begins : (w : List ℕ) → l.saying ≡ a_word w → list_any (bytes_eq w) (codes "bool" ∷ codes "int" ∷ codes "(" ∷ codes "matrix" ∷ []) ≡ true → Opens (ADomain domains zero false) (l ∷ [])
  any_word_begins w said e = go (bytes_eq w (codes "bool")) (bytes_eq w (codes "int")) (bytes_eq w (codes "(")) (bytes_eq w (codes "matrix")) refl refl refl refl e
    where
      go : (a b d f : Bool) → bytes_eq w (codes "bool") ≡ a → bytes_eq w (codes "int") ≡ b → bytes_eq w (codes "(") ≡ d → bytes_eq w (codes "matrix") ≡ f → (a || (b || (d || (f || false)))) ≡ true → Opens (ADomain domains zero false) (l ∷ [])
      go true b d f x y z u e = anywhere domains (bool_begins (same_word w (codes "bool") said x))
      go false true d f x y z u e = anywhere domains (int_begins (same_word w (codes "int") said y))
      go false false true f x y z u e = anywhere domains (group_begins (same_word w (codes "(") said z))
      go false false false true x y z u e = let o = matrix_begins (same_word w (codes "matrix") said u) in (o.0, (o.1.0, (λ k. absurd cc), o.1.2))
      go false false false false x y z u e = let no : false ≡ true = e in absurd cc

  domain_begins : (level : DomainLevel) (s : Saying) → l.saying ≡ s → opens_domain level s ≡ true → Opens (ADomain level zero false) (l ∷ [])
  domain_begins level (a_name x) said o = anywhere level (name_begins x said)
  domain_begins level (a_number n) said o = let no : false ≡ true = o in absurd cc
  domain_begins domains (a_word w) said o = any_word_begins w said o
  domain_begins set_operations (a_word w) said o = word_begins set_operations w said o
  domain_begins set_parts (a_word w) said o = word_begins set_parts w said o

no_domain_refuses : (level : DomainLevel) (ls : List Lexeme) → Refuses {A = DomainTree} (ADomain level zero) ls (none_low (domain_next level ls) ls)
unfolding domain_next
no_domain_refuses level [] = refuses_wrong (ADomain level zero) []
no_domain_refuses level (l ∷ rest) = go (opens_domain level l.saying) refl
  where
    go : (b : Bool) → opens_domain level l.saying ≡ b → Refuses {A = DomainTree} (ADomain level zero) (l ∷ rest) (none_low b (l ∷ rest))
    go true o = refuses_high (ADomain level zero) l rest (domain_begins l level l.saying refl o)
    go false o = refuses_wrong (ADomain level zero) (l ∷ rest)

pub all_open : (most : ℕ) → AreOpen most (readers most)
unfolding expr_from
all_open zero = record { expr = λ level ranked ls. none_refuses level ranked ls; domain = λ level ls. no_domain_refuses level ls }
all_open (suc less) = record {
  expr = λ level ranked ls. at_level_refuses less (readers less) (all_sound less) (all_open less) level ranked ls;
  domain = λ level ls. domain_level_refuses less (readers less) (all_sound less) (all_open less) level ls;
}
