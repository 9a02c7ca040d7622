-- A turn of a chain of operators of two parts.
use Rattle.std.specs.Prelude.{◌≡◌, ◌≤◌, ◌<◌, ℕ, Bool, true, false, not, nat_le, nat_lt, List, [], ◌∷◌, length, Option, Some, None, refl}
use Rattle.std.proofs.Common.{ap, arith, sym, ◌∙◌}
use Rattle.ep_parse_parts.proofs.Shorter.{Came, expr_shorter, then_came}
use Rattle.ep_parse_parts.proofs.Turns.{grown_turn}
use Rattle.ep_parse_below.specs.Chains.{another_part, operator_behind, where_so}
use Rattle.ep_parse_parts.specs.Cursors.{StopsReading}
use Rattle.ep_parse_parts.specs.declared.cursor.Stop.{Stop}
use Rattle.ep_parse_parts.specs.declared.cursor.Stop.TheVariants.{Memory, TooHigh, Wrong}
use Rattle.ep_parse_parts.specs.Founds.{lower}
use Rattle.ep_parse_parts.specs.OperandReaders.{Lower, if_low}
use Rattle.ep_parse_parts.specs.OperatorReaders.{another_binary, operated}
use Rattle.ep_parse_parts.specs.Readers.{Read, Reader, behind, grown, growing, high, next_in, took, wrong, ◌and_then◌}
use Rattle.ep_tree.specs.Heights.{height}
use Rattle.ep_tree.specs.Phrases.{Lexeme}
use Rattle.ep_tree.specs.Spelling.{Level, ends_open, rank, unaries}
use Rattle.ep_tree.specs.Trees.{ExprTree, binary, place_of}
use Rattle.ep_tree.specs.declared.syntax.BinaryOp.{BinaryOp}

-- a step, if there is an operator
stepped : {A : Type 0} → Option A → (A → Read ExprTree) → Option (Read ExprTree)
stepped None go = None
stepped (Some op) go = Some (go op)

by_test : {A : Type 0} (b : Bool) (o : Option A) (go : A → Read ExprTree) → operated b o go ≡ stepped (where_so b o) go
unfolding stepped
by_test true None go = refl
by_test false None go = refl
by_test true (Some op) go = refl
by_test false (Some op) go = refl

in_two : (most : ℕ) (low : Lower) (words : List (List ℕ × BinaryOp)) (right : Level) (left : ExprTree) (ls : List Lexeme)
    → another_binary most low words right left ls ≡ stepped (operator_behind words left ls) (λ op. another_part most low right left op ls)
unfolding another_binary operator_behind another_part
in_two most low words right left ls = by_test (not (ends_open left)) (next_in words ls) (λ op. another_part most low right left op ls)

pub behind_shorter : {A : Type 0} (words : List (List ℕ × A)) (ls : List Lexeme) (op : A) → next_in words ls ≡ Some op → length (behind ls) < length ls
unfolding next_in
behind_shorter words [] op e = absurd cc
behind_shorter words (l ∷ ls) op e = omega arith

where_is : {A : Type 0} (b : Bool) (o : Option A) (x : A) → where_so b o ≡ Some x → o ≡ Some x
where_is true o x e = e
where_is false o x e = absurd cc

pub some_is : {A : Type 0} (x y : A) → Some x ≡ Some y → x ≡ y
some_is {A} x y e = ap or_this e
  where
    or_this : Option A → A
    or_this None = x
    or_this (Some z) = z

part_shorter : (most : ℕ) (right : Level) → nat_le (rank right) (rank unaries) ≡ true → (left y : ExprTree) (op : BinaryOp) (ls rest : List Lexeme) → length (behind ls) < length ls → another_part most (lower most) right left op ls ≡ took y rest → length rest < length ls
unfolding another_part
part_shorter most right ok left y op ls rest h e = by_low (nat_lt (height left) most) e
  where
    by_low : (b : Bool) → if_low b (λ all. (lower most).expr right (behind all) and_then λ b end. took (binary (place_of left) op left b) end) ls ≡ took y rest → length rest < length ls
    by_low true e =
        let c = then_came ((lower most).expr right (behind ls)) (λ b. binary (place_of left) op left b) y rest e in
        let s = expr_shorter most right ok (behind ls) rest c.one c.is in omega (arith, s, h)
    by_low false e = absurd cc

step_shorter : (most : ℕ) (words : List (List ℕ × BinaryOp)) (right : Level) → nat_le (rank right) (rank unaries) ≡ true → (left y : ExprTree) (ls rest : List Lexeme)
    → another_binary most (lower most) words right left ls ≡ Some (took y rest) → length rest < length ls
unfolding stepped operator_behind
step_shorter most words right ok left y ls rest e = by_operator (operator_behind words left ls) refl (sym (in_two most (lower most) words right left ls) ∙ e)
  where
    by_operator : (o : Option BinaryOp) → operator_behind words left ls ≡ o → stepped o (λ op. another_part most (lower most) right left op ls) ≡ Some (took y rest) → length rest < length ls
    by_operator None o e = absurd cc
    by_operator (Some op) o e =
        part_shorter most right ok left y op ls rest (behind_shorter words ls op (where_is (not (ends_open left)) (next_in words ls) op o))
        (some_is (another_part most (lower most) right left op ls) (took y rest) e)

operated_none : {A B : Type 0} (b : Bool) (go : A → Read B) → operated b None go ≡ None
operated_none true go = refl
operated_none false go = refl

none_at_end : (most : ℕ) (low : Lower) (words : List (List ℕ × BinaryOp)) (right : Level) (left : ExprTree) → another_binary most low words right left [] ≡ None
unfolding another_binary next_in
none_at_end most low words right left =
    operated_none (not (ends_open left)) (λ op. if_low (nat_lt (height left) most) (λ all. low.expr right (behind all) and_then λ b end. took (binary (place_of left) op left b) end) [])

-- a chain is a step and then a chain
turned : (most : ℕ) (words : List (List ℕ × BinaryOp)) (right : Level) → nat_le (rank right) (rank unaries) ≡ true → (left : ExprTree) (ls : List Lexeme)
    → grown (another_binary most (lower most) words right) left ls
    ≡ growing (stepped (operator_behind words left ls) (λ op. another_part most (lower most) right left op ls)) left ls (grown (another_binary most (lower most) words right))
turned most words right ok left ls =
    grown_turn (another_binary most (lower most) words right) (none_at_end most (lower most) words right) (step_shorter most words right ok) left ls
    ∙ ap (λ o. growing o left ls (grown (another_binary most (lower most) words right))) (in_two most (lower most) words right left ls)

-- ---- the loop over a chain

-- no operator comes: this is the chain
pub chain_ends : (most : ℕ) (words : List (List ℕ × BinaryOp)) (right : Level) → nat_le (rank right) (rank unaries) ≡ true → (left first : ExprTree) (ls start : List Lexeme)
    → grown (another_binary most (lower most) words right) left ls ≡ grown (another_binary most (lower most) words right) first start
    → operator_behind words left ls ≡ None → grown (another_binary most (lower most) words right) first start ≡ took left ls
unfolding stepped
chain_ends most words right ok left first ls start inv o =
    sym inv ∙ turned most words right ok left ls
    ∙ ap (λ p. growing (stepped p (λ op. another_part most (lower most) right left op ls)) left ls (grown (another_binary most (lower most) words right))) o

with_part : (most : ℕ) (words : List (List ℕ × BinaryOp)) (right : Level) → nat_le (rank right) (rank unaries) ≡ true → (left first : ExprTree) (ls start : List Lexeme) (op : BinaryOp)
    → grown (another_binary most (lower most) words right) left ls ≡ grown (another_binary most (lower most) words right) first start
    → operator_behind words left ls ≡ Some op
    → grown (another_binary most (lower most) words right) first start ≡ (another_part most (lower most) right left op ls and_then grown (another_binary most (lower most) words right))
unfolding stepped
with_part most words right ok left first ls start op inv o =
    sym inv ∙ turned most words right ok left ls
    ∙ ap (λ p. growing (stepped p (λ op. another_part most (lower most) right left op ls)) left ls (grown (another_binary most (lower most) words right))) o

-- a part is refused: so is the chain
pub chain_fails : (most : ℕ) (words : List (List ℕ × BinaryOp)) (right : Level) → nat_le (rank right) (rank unaries) ≡ true → (left first : ExprTree) (ls new start : List Lexeme) (op : BinaryOp) (e : Stop)
    → grown (another_binary most (lower most) words right) left ls ≡ grown (another_binary most (lower most) words right) first start
    → operator_behind words left ls ≡ Some op → StopsReading e new (another_part most (lower most) right left op ls)
    → StopsReading e new (grown (another_binary most (lower most) words right) first start)
chain_fails most words right ok left first ls new start op Wrong inv o s =
    with_part most words right ok left first ls start op inv o ∙ ap (λ r. r and_then grown (another_binary most (lower most) words right)) s
chain_fails most words right ok left first ls new start op TooHigh inv o s =
    with_part most words right ok left first ls start op inv o ∙ ap (λ r. r and_then grown (another_binary most (lower most) words right)) s
chain_fails most words right ok left first ls new start op Memory inv o s = tt

-- a part is read: the chain goes on
pub chain_goes : (most : ℕ) (words : List (List ℕ × BinaryOp)) (right : Level) → nat_le (rank right) (rank unaries) ≡ true → (left first more : ExprTree) (ls new start : List Lexeme) (op : BinaryOp)
    → grown (another_binary most (lower most) words right) left ls ≡ grown (another_binary most (lower most) words right) first start
    → operator_behind words left ls ≡ Some op → another_part most (lower most) right left op ls ≡ took more new
    → grown (another_binary most (lower most) words right) more new ≡ grown (another_binary most (lower most) words right) first start
chain_goes most words right ok left first more ls new start op inv o e =
    sym (with_part most words right ok left first ls start op inv o ∙ ap (λ r. r and_then grown (another_binary most (lower most) words right)) e)

pub chain_smaller : (most : ℕ) (words : List (List ℕ × BinaryOp)) (right : Level) → nat_le (rank right) (rank unaries) ≡ true → (left more : ExprTree) (ls new : List Lexeme) (op : BinaryOp)
    → operator_behind words left ls ≡ Some op → another_part most (lower most) right left op ls ≡ took more new → length new < length ls
unfolding operator_behind
chain_smaller most words right ok left more ls new op o e =
    part_shorter most right ok left more op ls new (behind_shorter words ls op (where_is (not (ends_open left)) (next_in words ls) op o)) e
