-- Whatever is spelled is read again: of the tokens that spell a tree, with others behind them that can't go on from it,
-- the reader takes that tree.
use Rattle.std.specs.Prelude.{◌≡◌, ℕ, zero, suc, ◌≤◌, true, false, max, nat_le, List, [], ◌++◌, refl}
use Rattle.std.proofs.Common.{ap, arith, sym, ◌∙◌, append-nil}
use Rattle.std.proofs.lemmas.Bool.Decides.{nat_tests}
use Rattle.std.proofs.Math.Nat.{le-max_left, le-max_right}
use Rattle.ep_tree.specs.Heights.{domain_height, height}
use Rattle.ep_tree.specs.Phrases.{Lexeme}
use Rattle.ep_tree.specs.Spelling.{DomainLevel, Level, Spells, SpellsDomain, comparisons, conjunctions, disjunctions, domain_rank, domains, implications, own_domain_level, own_level, powers, primaries, products, rank, reads, set_operations, set_parts, sums, unaries}
use Rattle.ep_tree.specs.Trees.{DomainTree, ExprTree}
use Rattle.ep_parse_parts.specs.DomainReaders.{domain_at_level}
use Rattle.ep_parse_parts.specs.OperandReaders.{Lower}
use Rattle.ep_parse_parts.specs.OperatorReaders.{at_level}
use Rattle.ep_parse_parts.specs.Readers.{Read, high, next_in, says, took, wrong}
use Rattle.ep_parse_parts.specs.TreeReaders.{expr_from, some_domain_from}
use Rattle.ep_parse_parts.proofs.Again.{AreComplete, DomainEnds, DomainEndsAt, EndsBefore, NoImplications}
use Rattle.ep_parse_parts.proofs.AgainComparisons.{comparison_again}
use Rattle.ep_parse_parts.proofs.AgainDomains.{any_domain_again, operations_again, part_again}
use Rattle.ep_parse_parts.proofs.AgainJunctions.{conjunction_again, disjunction_again}
use Rattle.ep_parse_parts.proofs.AgainLevels.{implication_again, power_again, product_again}
use Rattle.ep_parse_parts.proofs.AgainOperands.{some_expr}
use Rattle.ep_parse_parts.proofs.AgainPhrases.{some_domain}
use Rattle.ep_parse_parts.proofs.AgainReads.{unary_again}
use Rattle.ep_parse_parts.proofs.AgainSums.{sum_again}

module _ (less : ℕ) (low : Lower) (good : AreComplete less low) where
  products_too : (e : ExprTree) (front rest : List Lexeme) → Spells products e front → height e ≤ suc less → EndsBefore products e rest → at_level (suc less) low products (front ++ rest) ≡ took e rest
  unfolding at_level
  products_too = product_again less low good (unary_again less low good)

  sums_too : (e : ExprTree) (front rest : List Lexeme) → Spells sums e front → height e ≤ suc less → EndsBefore sums e rest → at_level (suc less) low sums (front ++ rest) ≡ took e rest
  unfolding at_level
  sums_too = sum_again less low good products_too

  comparisons_too : (e : ExprTree) (front rest : List Lexeme) → Spells comparisons e front → height e ≤ suc less → EndsBefore comparisons e rest → at_level (suc less) low comparisons (front ++ rest) ≡ took e rest
  unfolding at_level
  comparisons_too = comparison_again less low good sums_too

  disjunctions_too : (e : ExprTree) (front rest : List Lexeme) → Spells disjunctions e front → height e ≤ suc less → EndsBefore disjunctions e rest → at_level (suc less) low disjunctions (front ++ rest) ≡ took e rest
  unfolding at_level
  disjunctions_too = disjunction_again less low good comparisons_too

  at_level_again : (level : Level) → nat_le (rank level) (rank unaries) ≡ true → (e : ExprTree) (front rest : List Lexeme) → Spells level e front → height e ≤ suc less → EndsBefore level e rest
      → at_level (suc less) low level (front ++ rest) ≡ took e rest
  unfolding at_level rank
  at_level_again implications ranked = implication_again less low good disjunctions_too
  at_level_again disjunctions ranked = disjunctions_too
  at_level_again conjunctions ranked = conjunction_again less low good comparisons_too
  at_level_again comparisons ranked = comparisons_too
  at_level_again sums ranked = sums_too
  at_level_again products ranked = products_too
  at_level_again powers ranked = power_again less low good (unary_again less low good)
  at_level_again unaries ranked = unary_again less low good
  at_level_again reads ranked = let wrong : false ≡ true = ranked in absurd cc
  at_level_again primaries ranked = let wrong : false ≡ true = ranked in absurd cc

  domain_at_level_again : (level : DomainLevel) (d : DomainTree) (front rest : List Lexeme) → SpellsDomain level d front → domain_height d ≤ suc less → DomainEndsAt level rest
      → domain_at_level (suc less) low level (front ++ rest) ≡ took d rest
  unfolding domain_at_level
  domain_at_level_again domains d front rest h small ends = any_domain_again less low good d front rest h small ends
  domain_at_level_again set_operations d front rest h small ends = operations_again less low good d front rest h small ends
  domain_at_level_again set_parts d front rest h small ends = part_again less low good d front rest h.0 h.1.0 h.1.1 small ends

-- the readers of a height
abbrev pub readers : ℕ → Lower
readers most = record { expr = expr_from most; domain = some_domain_from most }

-- What is spelled and low enough is read again by the readers of a height.
pub all_complete : (most : ℕ) → AreComplete most (readers most)
unfolding expr_from
all_complete zero = record {
  expr = λ level ranked e front rest h small ends. absurd (omega (arith, some_expr e, small));
  domain = λ level d front rest h small ends. absurd (omega (arith, some_domain d, small));
}
all_complete (suc less) = record {
  expr = λ level ranked e front rest h small ends. at_level_again less (readers less) (all_complete less) level ranked e front rest h small ends;
  domain = λ level d front rest h small ends. domain_at_level_again less (readers less) (all_complete less) level d front rest h small ends;
}

-- ---- one tree

nothing_follows : NoImplications []
unfolding next_in says
nothing_follows =
    record { tighter = record { tighter = record { tighter = record { tighter = record { tighter = record { tighter = record { tighter = record { bracket = refl }; none = refl }; none = refl }; none = refl }; none = refl; no_set = refl; no_group = refl }; none = refl }; none = refl }; none = refl }

nothing_follows_domain : DomainEnds []
unfolding next_in says
nothing_follows_domain = record { none = refl; no_group = refl }

-- what was taken, or else this
abbrev taken : {A : Type 0} → A → Read A → A
taken other (took x ls) = x
taken other (wrong ls) = other
taken other (high ls) = other

pub whole_again : (most : ℕ) (e : ExprTree) (ls : List Lexeme) → Spells implications e ls → height e ≤ most → expr_from most implications ls ≡ took e []
unfolding rank
whole_again most e ls h low =
    ap (expr_from most implications) (sym (append-nil ls))
    ∙ (all_complete most).expr implications refl e ls [] h low (record { ends = nothing_follows; open_ends = λ _. nothing_follows })

pub domain_again : (most : ℕ) (d : DomainTree) (ls : List Lexeme) → SpellsDomain domains d ls → domain_height d ≤ most → some_domain_from most domains ls ≡ took d []
domain_again most d ls h low =
    ap (some_domain_from most domains) (sym (append-nil ls)) ∙ (all_complete most).domain domains d ls [] h low nothing_follows_domain

pub zero_least : (n : ℕ) → nat_le 0 n ≡ true
zero_least n = grind (arith, nat_tests)

-- Some tokens spell one expression at most.
pub one_expr : (level : Level) (a b : ExprTree) (ls : List Lexeme) → Spells level a ls → Spells level b ls → a ≡ b
unfolding rank
one_expr level a b ls h k =
    let most = max (height a) (height b) in
    ap (taken a) (sym (whole_again most a ls (zero_least (rank (own_level a)), h.1) (le-max_left (height a) (height b))) ∙ whole_again most b ls (zero_least (rank (own_level b)), k.1) (le-max_right (height a) (height b)))

-- Some tokens spell one domain at most.
pub one_domain : (level : DomainLevel) (a b : DomainTree) (ls : List Lexeme) → SpellsDomain level a ls → SpellsDomain level b ls → a ≡ b
unfolding domain_rank
one_domain level a b ls h k =
    let most = max (domain_height a) (domain_height b) in
    ap (taken a) (sym (domain_again most a ls (zero_least (domain_rank (own_domain_level a)), h.1) (le-max_left (domain_height a) (domain_height b))) ∙ domain_again most b ls (zero_least (domain_rank (own_domain_level b)), k.1) (le-max_right (domain_height a) (domain_height b)))
