-- Chains of operators of two parts and of operations of sets, in two steps.
use Rattle.std.specs.Prelude.{ℕ, Bool, true, false, not, nat_lt, List, Option, Some, None}
use Rattle.ep_parse_parts.specs.OperandReaders.{Lower, if_low}
use Rattle.ep_parse_parts.specs.Readers.{Reader, behind, next_in, took, ◌and_then◌}
use Rattle.ep_tree.specs.Heights.{domain_height, height}
use Rattle.ep_tree.specs.Phrases.{Lexeme}
use Rattle.ep_tree.specs.Spelling.{Level, ends_open}
use Rattle.ep_tree.specs.Spelling as spelling
use Rattle.ep_tree.specs.Trees.{DomainTree, ExprTree, binary, place_of, place_of_domain, set_domain}
use Rattle.ep_tree.specs.declared.syntax.BinaryOp.{BinaryOp}
use Rattle.ep_tree.specs.declared.syntax.SetOp.{SetOp}

-- what a table says, where a test holds
abbrev pub where_so : {A : Type 0} → Bool → Option A → Option A
where_so false found = None
where_so true found = found

-- the operator of a table that may stand behind an expression, if it is next
unfoldable pub operator_behind : {A : Type 0} → List (List ℕ × A) → ExprTree → List Lexeme → Option A
operator_behind words left ls = where_so (not (ends_open left)) (next_in words ls)

-- one more part of a chain, with its operator before it
unfoldable pub another_part : ℕ → Lower → Level → ExprTree → BinaryOp → Reader ExprTree
another_part most low right left op ls =
    if_low (nat_lt (height left) most)
    (λ all. low.expr right (behind all) and_then λ b end. took (binary (place_of left) op left b) end) ls

-- one more part of a chain of operations of sets, with its operator before it
unfoldable pub another_set : ℕ → Lower → DomainTree → SetOp → Reader DomainTree
another_set most low left op ls =
    if_low (nat_lt (domain_height left) most)
    (λ all. low.domain spelling.set_parts (behind all) and_then λ d rest. took (set_domain (place_of_domain left) op left d) rest) ls
