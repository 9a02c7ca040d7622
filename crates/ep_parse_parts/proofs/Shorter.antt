-- What is read leaves fewer tokens.
use Rattle.std.specs.Prelude.{◌≡◌, ◌≤◌, ◌<◌, ◌-◌, ◌+◌, ℕ, Bool, true, false, List, [], ◌∷◌, ◌++◌, length, nat_le, refl}
use Rattle.std.proofs.Common.{ap, arith, sym, subst, ◌∙◌}
use Rattle.std.proofs.lemmas.List.{length-append}
use Rattle.ep_base.specs.declared.places.Place.{Place}
use Rattle.ep_parse_parts.proofs.Holding.{Holds}
use Rattle.ep_parse_parts.proofs.Sound.{domain_sound, expr_sound}
use Rattle.ep_parse_parts.proofs.SoundParts.{IsDomain, IsExpr}
use Rattle.ep_parse_parts.specs.Founds.{lower}
use Rattle.ep_parse_parts.specs.Readers.{Read, Reader, took, wrong, high, ◌and_then◌}
use Rattle.ep_parse_parts.specs.TreeReaders.{expr_from, some_domain_from}
use Rattle.ep_tree.specs.Phrases.{Lexeme, StartsAt}
use Rattle.ep_tree.specs.Spelling.{DomainLevel, Level, rank, unaries}
use Rattle.ep_tree.specs.Trees.{DomainTree, ExprTree}

started : (p : Place) (front rest ls : List Lexeme) → StartsAt p front → ls ≡ front ++ rest → length rest < length ls
started p [] rest ls s e = absurd s
started p (l ∷ front) rest ls s e =
    let all : length ls ≡ length (l ∷ front ++ rest) = ap length e in
    let cut : length (front ++ rest) ≡ length front + length rest = length-append front rest in
    omega (arith, all, cut)

pub expr_shorter : (most : ℕ) (level : Level) → nat_le (rank level) (rank unaries) ≡ true → (ls rest : List Lexeme) (e : ExprTree) → (lower most).expr level ls ≡ took e rest → length rest < length ls
unfolding lower
expr_shorter most level ok ls rest e is =
    let h = (expr_sound (most - 1) level ok ls).holds e rest is in started _ h.front rest ls h.spelled.1.0 h.parts

pub domain_shorter : (most : ℕ) (level : DomainLevel) (ls rest : List Lexeme) (d : DomainTree) → (lower most).domain level ls ≡ took d rest → length rest < length ls
unfolding lower
domain_shorter most level ls rest d is =
    let h = (domain_sound (most - 1) level ls).holds d rest is in started _ h.front rest ls h.spelled.1.0 h.parts

-- ---- what is read, where something is made of it

pub left_of : {A : Type 0} → Read A → List Lexeme
left_of (took x ls) = ls
left_of (wrong ls) = ls
left_of (high ls) = ls

-- what was read, and what is made of it
pub record Came {A : Type 0} (r : Read A) (rest : List Lexeme) : Type 0 where
  pub one : A
  pub is : r ≡ took one rest

pub then_came : {A B : Type 0} (r : Read A) (f : A → B) (y : B) (rest : List Lexeme) → (r and_then λ x end. took (f x) end) ≡ took y rest → Came r rest
unfolding left_of
then_came (took x ls) f y rest e = record { one = x; is = ap (λ k. took x k) (ap left_of e) }
then_came (wrong ls) f y rest e = absurd cc
then_came (high ls) f y rest e = absurd cc
