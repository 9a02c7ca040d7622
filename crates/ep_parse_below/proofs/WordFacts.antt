-- What a table says of the next token, from the word that it is.
use Rattle.std.specs.Prelude.{◌≡◌, ℕ, Bool, true, false, not, nat_le, List, [], ◌∷◌, Option, Some, None, bytes_eq, codes, refl}
use Rattle.std.proofs.Common.{ap, subst, sym, ◌∙◌, Bor}
use Rattle.std.specs.Option.{option_copied}
use Rattle.ep_parse_below.specs.Chains.{operator_behind, where_so}
use Rattle.ep_parse_parts.specs.Openings.{right_of, words_of}
use Rattle.ep_parse_parts.specs.Readers.{found_or, looked_up, meant_by, next_in}
use Rattle.ep_parse_parts.specs.Sayings.{word_next, word_of}
use Rattle.ep_parse_parts.specs.declared.words.Chain.{Chain}
use Rattle.ep_parse_parts.specs.declared.words.Chain.TheVariants as code_chain
use Rattle.ep_tree.specs.Phrases.{Lexeme, Saying, a_name, a_number, a_word}
use Rattle.ep_tree.specs.Spelling.{ends_open, is_called, rank, unaries}
use Rattle.ep_tree.specs.Trees.{ExprTree}
use Rattle.ep_tree.specs.declared.syntax.BinaryOp.{BinaryOp}

meant_word : {A : Type 0} (words : List (List ℕ × A)) (s : Saying) (w : List ℕ) → word_of s ≡ Some w → meant_by words s ≡ looked_up words w
meant_word words (a_name x) w e = absurd cc
meant_word words (a_number n) w e = absurd cc
meant_word words (a_word v) w e = ap (λ o. looked_up words (or_this o)) e
  where
    or_this : Option (List ℕ) → List ℕ
    or_this (Some z) = z
    or_this None = v

meant_nothing : {A : Type 0} (words : List (List ℕ × A)) (s : Saying) → word_of s ≡ None → meant_by words s ≡ None
meant_nothing words (a_name x) e = refl
meant_nothing words (a_number n) e = refl
meant_nothing words (a_word v) e = absurd cc

pub next_word : {A : Type 0} (words : List (List ℕ × A)) (ls : List Lexeme) (w : List ℕ) → word_next ls ≡ Some w → next_in words ls ≡ looked_up words w
unfolding next_in word_next
next_word words [] w e = absurd cc
next_word words (l ∷ ls) w e = meant_word words l.saying w e

pub next_nothing : {A : Type 0} (words : List (List ℕ × A)) (ls : List Lexeme) → word_next ls ≡ None → next_in words ls ≡ None
unfolding next_in word_next
next_nothing words [] e = refl
next_nothing words (l ∷ ls) e = meant_nothing words l.saying e

-- an operator behind an expression
pub behind_open : {A : Type 0} (words : List (List ℕ × A)) (left : ExprTree) (ls : List Lexeme) → ends_open left ≡ true → operator_behind words left ls ≡ None
unfolding operator_behind
behind_open words left ls e = ap (λ b. where_so (not b) (next_in words ls)) e

pub behind_nothing : {A : Type 0} (words : List (List ℕ × A)) (left : ExprTree) (o : Option (Bor (List ℕ))) (ls : List Lexeme)
    → ends_open left ≡ false → option_copied o ≡ word_next ls → o ≡ None → operator_behind words left ls ≡ None
unfolding operator_behind
behind_nothing words left o ls e n s =
    ap (λ b. where_so (not b) (next_in words ls)) e ∙ next_nothing words ls (sym n ∙ ap option_copied s)

pub behind_word : {A : Type 0} (words : List (List ℕ × A)) (left : ExprTree) (o : Option (Bor (List ℕ))) (w : Bor (List ℕ)) (ls : List Lexeme) (found : Option A)
    → ends_open left ≡ false → option_copied o ≡ word_next ls → o ≡ Some w → found ≡ looked_up words w.now → found ≡ operator_behind words left ls
unfolding operator_behind
behind_word words left o w ls found e n s m =
    sym (ap (λ b. where_so (not b) (next_in words ls)) e ∙ next_word words ls w.now (sym n ∙ ap option_copied s) ∙ sym m)

-- no operator of a chain is called
found_is : {A : Type 0} (P : A → Type 0) (b : Bool) (x y : A) (o : Option A) → P x → ((y : A) → o ≡ Some y → P y) → found_or b x o ≡ Some y → P y
found_is {A} P true x y o p h e = subst P (ap (λ q. or_this q) e) p
  where
    or_this : Option A → A
    or_this (Some z) = z
    or_this None = x
found_is P false x y o p h e = h y e

not_there : {A : Type 0} (P : A → Type 0) (y : A) → None ≡ Some y → P y
not_there P y e = absurd cc

pub infix_found : (chain : Chain) (w : List ℕ) (op : BinaryOp) → looked_up (words_of chain) w ≡ Some op → is_called op ≡ false
unfolding looked_up is_called
infix_found code_chain.Powers w op e =
    found_is (λ op. is_called op ≡ false) (bytes_eq (codes "**") w) BinaryOp.Pow op None refl (not_there (λ op. is_called op ≡ false)) e
infix_found code_chain.Products w op e =
    found_is (λ op. is_called op ≡ false) (bytes_eq (codes "*") w) BinaryOp.Mul op
    (found_or (bytes_eq (codes "/") w) BinaryOp.Div (found_or (bytes_eq (codes "%") w) BinaryOp.Mod None)) refl
    (λ y k. found_is (λ op. is_called op ≡ false) (bytes_eq (codes "/") w) BinaryOp.Div y (found_or (bytes_eq (codes "%") w) BinaryOp.Mod None) refl
    (λ z m. found_is (λ op. is_called op ≡ false) (bytes_eq (codes "%") w) BinaryOp.Mod z None refl (not_there (λ op. is_called op ≡ false)) m) k) e
infix_found code_chain.Arrows w op e =
    found_is (λ op. is_called op ≡ false) (bytes_eq (codes "->") w) BinaryOp.Implies op (found_or (bytes_eq (codes "<->") w) BinaryOp.Iff None) refl
    (λ y k. found_is (λ op. is_called op ≡ false) (bytes_eq (codes "<->") w) BinaryOp.Iff y None refl (not_there (λ op. is_called op ≡ false)) k) e

-- the operator that stands behind an expression isn't called
where_found : {A : Type 0} (b : Bool) (o : Option A) (x : A) → where_so b o ≡ Some x → o ≡ Some x
where_found true o x e = e
where_found false o x e = absurd cc

in_table : (chain : Chain) (ls : List Lexeme) (op : BinaryOp) → next_in (words_of chain) ls ≡ Some op → is_called op ≡ false
unfolding next_in
in_table chain [] op e = absurd cc
in_table chain (l ∷ ls) op e = by_saying l.saying e
  where
    by_saying : (s : Saying) → meant_by (words_of chain) s ≡ Some op → is_called op ≡ false
    by_saying (a_name x) e = absurd cc
    by_saying (a_number n) e = absurd cc
    by_saying (a_word w) e = infix_found chain w op e

pub infix_behind : (chain : Chain) (left : ExprTree) (ls : List Lexeme) (op : BinaryOp) → operator_behind (words_of chain) left ls ≡ Some op → is_called op ≡ false
unfolding operator_behind
infix_behind chain left ls op e = in_table chain ls op (where_found (not (ends_open left)) (next_in (words_of chain) ls) op e)

-- the right part of a chain stands where an expression may
pub right_is : (chain : Chain) → nat_le (rank (right_of chain)) (rank unaries) ≡ true
unfolding rank
right_is code_chain.Powers = refl
right_is code_chain.Products = refl
right_is code_chain.Arrows = refl
