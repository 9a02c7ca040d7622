-- That an index, a read, a generator and a range leave fewer tokens.
use Rattle.std.specs.Prelude.{◌≡◌, ◌≤◌, ◌<◌, ◌+◌, ℕ, Bool, true, false, not, nat_le, nat_lt, ◌&&◌, List, [], ◌∷◌, ◌++◌, length, Option, Some, None, codes, refl}
use Rattle.std.proofs.Common.{ap, arith, sym, subst, ◌∙◌}
use Rattle.ep_base.specs.declared.names.Name.{Name}
use Rattle.ep_parse_parts.proofs.FirstTurns.{comma_shorter}
use Rattle.ep_parse_parts.proofs.Holding.{Holds, holds_chosen, holds_low, holds_then, holds_took, holds_wrong, more_sound}
use Rattle.ep_parse_parts.proofs.NameTurns.{behind_short, kept_is, name_shrinks}
use Rattle.ep_parse_parts.proofs.Shorter.{domain_shorter, expr_shorter}
use Rattle.ep_parse_parts.specs.Founds.{lower}
use Rattle.ep_parse_parts.specs.OperandReaders.{Generator, Lower, another_generator, closed_by, generator_from, if_low}
use Rattle.ep_parse_parts.specs.OperatorReaders.{ReadIndex, another_index, another_read, index_from, only_if, read_from, takes_group}
use Rattle.ep_parse_parts.specs.Readers.{Read, Reader, behind, behind_comma, either_reader, high, says_word, kept, kept_or, name_from, names_from, others_from, says, took, word_from, wrong, ◌and_then◌}
use Rattle.ep_tree.specs.Heights.{height}
use Rattle.ep_tree.specs.Phrases.{Lexeme}
use Rattle.ep_tree.specs.Spelling.{Level, implications, rank, set_operations, unaries}
use Rattle.ep_tree.specs.Trees.{ExprTree, place_of, read}

-- what a reader leaves is shorter, or no longer
abbrev pub Shortens : {A : Type 0} → List Lexeme → Read A → Type 0
Shortens ls r = Holds (λ _ rest. length rest < length ls) r

abbrev pub Keeps : {A : Type 0} → List Lexeme → Read A → Type 0
Keeps ls r = Holds (λ _ rest. length rest ≤ length ls) r

pub any_expr : nat_le (rank implications) (rank unaries) ≡ true
unfolding rank
any_expr = refl

pub expr_shortens : (most : ℕ) (ls : List Lexeme) → Shortens ls ((lower most).expr implications ls)
expr_shortens most ls = record { holds = λ e rest is. expr_shorter most implications any_expr ls rest e is }

pub domain_shortens : (most : ℕ) (ls : List Lexeme) → Shortens ls ((lower most).domain set_operations ls)
domain_shortens most ls = record { holds = λ d rest is. domain_shorter most set_operations ls rest d is }

pub said_shorter : (bytes : List ℕ) (ls : List Lexeme) → says bytes ls ≡ true → length (behind ls) < length ls
unfolding says
said_shorter bytes [] e = absurd cc
said_shorter bytes (l ∷ ls) e = omega arith

pub word_shortens : (bytes : List ℕ) (ls : List Lexeme) → Shortens ls (word_from bytes ls)
unfolding word_from
word_shortens bytes [] = holds_wrong (λ _ rest. length rest < 0) []
word_shortens bytes (l ∷ ls) =
    holds_chosen (λ _ rest. length rest < length (l ∷ ls)) (says_word bytes l.saying) (λ all. took l.place ls) (λ all. wrong all) (l ∷ ls)
    (λ _. holds_took (λ _ rest. length rest < length (l ∷ ls)) l.place ls (omega arith))
    (λ _. holds_wrong (λ _ rest. length rest < length (l ∷ ls)) (l ∷ ls))

others_keep : {A : Type 0} (goes_on : A → List Lexeme → Option (List Lexeme)) (item : A → Reader A)
    → ((last : A) (ls next : List Lexeme) → goes_on last ls ≡ Some next → length next ≤ length ls) → ((last : A) (ls : List Lexeme) → Shortens ls (item last ls))
    → (last : A) (ls : List Lexeme) → Keeps ls (others_from goes_on item last ls)
others_keep goes_on item nexts items last ls =
    more_sound goes_on item (λ last from xs end. length end ≤ length from) (λ last from. omega arith)
    (λ last from next o. record { holds = λ x rest is xs end m. let s = (items last next).holds x rest is in let n = nexts last from next o in omega (arith, s, n, m) })
    (length ls) last ls

-- ---- indices

pub index_shortens : (most : ℕ) (every : Bool) (ls : List Lexeme) → Shortens ls (index_from (lower most) every ls)
unfolding index_from
index_shortens most every ls =
    holds_chosen (λ _ rest. length rest < length ls) (says (codes "..") ls) _ _ ls
    (λ e. holds_took (λ _ rest. length rest < length ls) (true, None) (behind ls) (said_shorter (codes "..") ls e))
    (λ _. holds_then (λ _ rest. length rest < length ls) (λ _ rest. length rest < length ls) ((lower most).expr implications ls) _ (expr_shortens most ls)
    (λ e rest h. holds_took (λ _ end. length end < length ls) (every, Some e) rest h))

before_keeps : (comma group : Bool) (ls next : List Lexeme) → kept_or comma (behind ls) (kept group (behind (behind ls))) ≡ Some next → length next ≤ length ls
before_keeps true group ls next e = let is : length next ≡ length (behind ls) = ap length (kept_is true (behind ls) next e) in omega (arith, is, behind_short ls)
before_keeps false group ls next e =
    let is : length next ≡ length (behind (behind ls)) = ap length (kept_is group (behind (behind ls)) next e) in
    omega (arith, is, behind_short ls, behind_short (behind ls))

pub another_keeps : (last : ReadIndex) (ls next : List Lexeme) → another_index last ls ≡ Some next → length next ≤ length ls
unfolding another_index
another_keeps last ls next e = before_keeps (says (codes ",") ls) (not last.0 && (says (codes "]") ls && says (codes "[") (behind ls))) ls next e

pub index_ends : (last : ReadIndex) → another_index last [] ≡ None
unfolding another_index says
index_ends (true, i) = refl
index_ends (false, i) = refl

pub index_shrinks : (most : ℕ) (last : ReadIndex) (ls next : List Lexeme) (x : ReadIndex) (rest : List Lexeme) → another_index last ls ≡ Some next → index_from (lower most) last.0 next ≡ took x rest → length rest < length ls
index_shrinks most last ls next x rest o e =
    let s = (index_shortens most last.0 next).holds x rest e in let n = another_keeps last ls next o in omega (arith, s, n)

-- ---- reads

pub read_shortens : (most : ℕ) (m : ExprTree) (ls : List Lexeme) → Shortens ls (read_from (lower most) m ls)
unfolding read_from
read_shortens most m ls =
    holds_then (λ _ rest. length rest < length ls) (λ _ rest. length rest < length ls) (index_from (lower most) false ls) _ (index_shortens most false ls)
    (λ first rest h. holds_then (λ _ end. length end ≤ length rest) (λ _ after. length after < length ls) (others_from another_index (λ last. index_from (lower most) last.0) first rest) _
    (others_keep another_index (λ last. index_from (lower most) last.0) another_keeps (λ last from. index_shortens most last.0 from) first rest)
    (λ others end k. holds_then (λ _ after. length after < length end) (λ _ after. length after < length ls) (word_from (codes "]") end) _ (word_shortens (codes "]") end)
    (λ _ after w. holds_took (λ _ z. length z < length ls) _ after (omega (arith, h, k, w)))))

pub read_ends : (most : ℕ) (low : Lower) (m : ExprTree) → another_read most low m [] ≡ None
unfolding another_read says
read_ends most low m = refl

read_step : (most : ℕ) (m y : ExprTree) (ls rest : List Lexeme) (b : Bool) → b ≡ (says (codes "[") ls && takes_group m)
    → only_if b (if_low (nat_lt (height m) most) (λ all. read_from (lower most) m (behind all))) ls ≡ Some (took y rest) → length rest < length ls
read_step most m y ls rest false q e = absurd cc
read_step most m y ls rest true q e = by_low (nat_lt (height m) most) (ap or_this e)
  where
    or_this : Option (Read ExprTree) → Read ExprTree
    or_this None = wrong []
    or_this (Some r) = r

    by_low : (b : Bool) → if_low b (λ all. read_from (lower most) m (behind all)) ls ≡ took y rest → length rest < length ls
    by_low true e = let s = (read_shortens most m (behind ls)).holds y rest e in omega (arith, s, behind_short ls)
    by_low false e = absurd cc

pub read_shrinks : (most : ℕ) (m y : ExprTree) (ls rest : List Lexeme) → another_read most (lower most) m ls ≡ Some (took y rest) → length rest < length ls
unfolding another_read
read_shrinks most m y ls rest e = read_step most m y ls rest (says (codes "[") ls && takes_group m) refl e

-- ---- generators

names_keep : (ls : List Lexeme) → Keeps ls (names_from ls)
unfolding names_from
names_keep ls =
    holds_then (λ _ rest. length rest < length ls) (λ _ rest. length rest ≤ length ls) (name_from ls) _ (name_shortens ls)
    (λ x rest h. holds_then (λ _ end. length end ≤ length rest) (λ _ end. length end ≤ length ls) (others_from behind_comma (λ last. name_from) x rest) _
    (others_keep behind_comma (λ last. name_from) comma_shorter (λ last from. name_shortens from) x rest)
    (λ xs end k. holds_took (λ _ z. length z ≤ length ls) (x ∷ xs) end (omega (arith, h, k))))
  where
    name_shortens : (from : List Lexeme) → Shortens from (name_from from)
    name_shortens from = record { holds = λ x rest e. name_shrinks from rest x e }

pub generator_shortens : (most : ℕ) (ls : List Lexeme) → Shortens ls (generator_from (lower most) ls)
unfolding generator_from
generator_shortens most ls =
    holds_then (λ _ rest. length rest ≤ length ls) (λ _ rest. length rest < length ls) (names_from ls) _ (names_keep ls)
    (λ names rest n. holds_then (λ _ next. length next < length rest) (λ _ z. length z < length ls) (word_from (codes ":") rest) _ (word_shortens (codes ":") rest)
    (λ _ next w. holds_then (λ _ end. length end < length next) (λ _ z. length z < length ls) ((lower most).domain set_operations next) _ (domain_shortens most next)
    (λ d end k. holds_took (λ _ z. length z < length ls) (names, d) end (omega (arith, n, w, k)))))

pub generator_ends : (last : Generator) → another_generator last [] ≡ None
unfolding another_generator says
generator_ends last = refl

pub generator_shrinks : (most : ℕ) (last : Generator) (ls next : List Lexeme) (x : Generator) (rest : List Lexeme) → another_generator last ls ≡ Some next → generator_from (lower most) next ≡ took x rest → length rest < length ls
unfolding another_generator
generator_shrinks most last ls next x rest o e =
    let is : length next ≡ length (behind ls) = ap length (kept_is _ (behind ls) next o) in
    let s = (generator_shortens most next).holds x rest e in
    omega (arith, is, s, behind_short ls)
