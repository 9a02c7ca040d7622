-- A turn of a chain of operations of sets.
use Rattle.std.specs.Prelude.{◌≡◌, ◌<◌, ℕ, Bool, true, false, nat_lt, List, [], length, Option, Some, None, refl}
use Rattle.std.proofs.Common.{ap, arith, sym, ◌∙◌, Bor}
use Rattle.std.specs.Option.{option_copied}
use Rattle.ep_parse_below.proofs.ChainTurns.{behind_shorter, some_is}
use Rattle.ep_parse_parts.proofs.FirstTurns.{grown_ends, grown_fails, grown_goes, grown_smaller}
use Rattle.ep_parse_parts.proofs.Shorter.{domain_shorter, then_came}
use Rattle.ep_parse_below.proofs.WordFacts.{next_nothing, next_word}
use Rattle.ep_parse_below.specs.Chains.{another_set}
use Rattle.ep_parse_parts.specs.Cursors.{StopsReading}
use Rattle.ep_parse_parts.specs.DomainReaders.{another_operation, set_words}
use Rattle.ep_parse_parts.specs.Founds.{lower}
use Rattle.ep_parse_parts.specs.OperandReaders.{Lower, if_low}
use Rattle.ep_parse_parts.specs.OperatorReaders.{operated}
use Rattle.ep_parse_parts.specs.Readers.{Read, behind, grown, looked_up, next_in, took, ◌and_then◌}
use Rattle.ep_parse_parts.specs.Sayings.{word_next}
use Rattle.ep_parse_parts.specs.declared.cursor.Stop.{Stop}
use Rattle.ep_tree.specs.Heights.{domain_height}
use Rattle.ep_tree.specs.Phrases.{Lexeme}
use Rattle.ep_tree.specs.Spelling.{set_parts}
use Rattle.ep_tree.specs.Trees.{DomainTree, place_of_domain, set_domain}
use Rattle.ep_tree.specs.declared.syntax.SetOp.{SetOp}

-- ---- the operation that is next

pub no_operation : {A : Type 0} (words : List (List ℕ × A)) (o : Option (Bor (List ℕ))) (ls : List Lexeme) → option_copied o ≡ word_next ls → o ≡ None → next_in words ls ≡ None
no_operation words o ls n s = next_nothing words ls (sym n ∙ ap option_copied s)

pub operation_is : {A : Type 0} (words : List (List ℕ × A)) (o : Option (Bor (List ℕ))) (w : Bor (List ℕ)) (ls : List Lexeme) (found : Option A) → option_copied o ≡ word_next ls → o ≡ Some w
    → found ≡ looked_up words w.now → found ≡ next_in words ls
operation_is words o w ls found n s m = m ∙ sym (next_word words ls w.now (sym n ∙ ap option_copied s))

-- ---- one more operation

set_at_end : (most : ℕ) (low : Lower) (left : DomainTree) → another_operation most low left [] ≡ None
unfolding another_operation next_in
set_at_end most low left = refl

set_none : (most : ℕ) (low : Lower) (left : DomainTree) (ls : List Lexeme) → next_in set_words ls ≡ None → another_operation most low left ls ≡ None
unfolding another_operation another_set
set_none most low left ls e = ap (λ o. operated true o (λ op. another_set most low left op ls)) e

set_some : (most : ℕ) (low : Lower) (left : DomainTree) (ls : List Lexeme) (op : SetOp) → next_in set_words ls ≡ Some op → another_operation most low left ls ≡ Some (another_set most low left op ls)
unfolding another_operation another_set
set_some most low left ls op e = ap (λ o. operated true o (λ op. another_set most low left op ls)) e

set_shorter : (most : ℕ) (left y : DomainTree) (op : SetOp) (ls rest : List Lexeme) → length (behind ls) < length ls → another_set most (lower most) left op ls ≡ took y rest → length rest < length ls
unfolding another_set
set_shorter most left y op ls rest h e = by_low (nat_lt (domain_height left) most) e
  where
    by_low : (b : Bool) → if_low b (λ all. (lower most).domain set_parts (behind all) and_then λ d rest. took (set_domain (place_of_domain left) op left d) rest) ls ≡ took y rest → length rest < length ls
    by_low true e =
        let c = then_came ((lower most).domain set_parts (behind ls)) (λ d. set_domain (place_of_domain left) op left d) y rest e in
        let s = domain_shorter most set_parts (behind ls) rest c.one c.is in omega (arith, s, h)
    by_low false e = absurd cc

set_shrinks : (most : ℕ) (x y : DomainTree) (ls rest : List Lexeme) → another_operation most (lower most) x ls ≡ Some (took y rest) → length rest < length ls
set_shrinks most x y ls rest e = by_next (next_in set_words ls) refl
  where
    by_next : (o : Option SetOp) → next_in set_words ls ≡ o → length rest < length ls
    by_next None o = let no : None ≡ Some (took y rest) = sym (set_none most (lower most) x ls o) ∙ e in absurd cc
    by_next (Some op) o =
        set_shorter most x y op ls rest (behind_shorter set_words ls op o)
        (some_is (another_set most (lower most) x op ls) (took y rest) (sym (set_some most (lower most) x ls op o) ∙ e))

-- ---- the loop over the operations

pub sets_end : (most : ℕ) (left : DomainTree) (ls : List Lexeme) (whole : Read DomainTree) → grown (another_operation most (lower most)) left ls ≡ whole → next_in set_words ls ≡ None → whole ≡ took left ls
sets_end most left ls whole inv o =
    grown_ends (another_operation most (lower most)) (set_at_end most (lower most)) (set_shrinks most) left ls whole inv (set_none most (lower most) left ls o)

pub sets_fail : (most : ℕ) (left : DomainTree) (ls new : List Lexeme) (whole : Read DomainTree) (op : SetOp) (e : Stop) → grown (another_operation most (lower most)) left ls ≡ whole → next_in set_words ls ≡ Some op
    → StopsReading e new (another_set most (lower most) left op ls) → StopsReading e new whole
sets_fail most left ls new whole op e inv o s =
    grown_fails (another_operation most (lower most)) (set_at_end most (lower most)) (set_shrinks most) left ls new whole (another_set most (lower most) left op ls) e inv
    (set_some most (lower most) left ls op o) s

pub sets_go : (most : ℕ) (left y : DomainTree) (ls new : List Lexeme) (whole : Read DomainTree) (op : SetOp) → grown (another_operation most (lower most)) left ls ≡ whole → next_in set_words ls ≡ Some op
    → another_set most (lower most) left op ls ≡ took y new → grown (another_operation most (lower most)) y new ≡ whole
sets_go most left y ls new whole op inv o s =
    grown_goes (another_operation most (lower most)) (set_at_end most (lower most)) (set_shrinks most) left y ls new whole (another_set most (lower most) left op ls) inv
    (set_some most (lower most) left ls op o) s

pub sets_smaller : (most : ℕ) (left y : DomainTree) (ls new : List Lexeme) (op : SetOp) → next_in set_words ls ≡ Some op → another_set most (lower most) left op ls ≡ took y new → length new < length ls
sets_smaller most left y ls new op o s = set_shorter most left y op ls new (behind_shorter set_words ls op o) s
