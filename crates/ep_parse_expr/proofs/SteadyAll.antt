-- The readers of a height stop at a token for what stands before it and for that token alone, and those of a greater
-- height stop there too, but where it was too high.
use Rattle.std.specs.List.{list_any}
use Rattle.std.specs.Prelude.{◌≡◌, ℕ, zero, suc, ◌<◌, Bool, true, false, ◌||◌, List, [], ◌∷◌, length, nat_lt, Option, Some, None, bytes_eq, codes, refl}
use Rattle.std.proofs.Common.{ap, arith, inl, sym, subst, ◌∙◌}
use Rattle.std.proofs.lemmas.Slice.Eq.{bytes_eq-Decides}
use Rattle.ep_tree.specs.Phrases.{Lexeme, Saying, a_name, a_number, a_word}
use Rattle.ep_tree.specs.Spelling.{DomainLevel, Level, comparisons, conjunctions, disjunctions, domains, implications, powers, primaries, products, reads, set_operations, set_parts, sums, unaries}
use Rattle.ep_tree.specs.Trees.{all_of, any_of}
use Rattle.ep_parse_parts.specs.DomainReaders.{a_bool, a_domain_group, an_int, another_operation, any_domain_from, domain_at_level, domain_begun_from, domain_open_from, domain_openings, domain_part_from, matrix_from, operations_from, place_next}
use Rattle.ep_parse_parts.specs.OperandReaders.{Lower, Opening, begun_from, domain_next, expression_next, if_low, is_there, none_low, open_from, openings, operand_from, opens, opens_domain}
use Rattle.ep_parse_parts.specs.OperatorReaders.{another_binary, another_read, at_level, chain_from, comparison_behind, comparison_from, conjunction_from, disjunction_from, implication_from, implication_words, parts_behind, power_from, power_words, product_from, product_words, terms_behind, unary_from}
use Rattle.ep_parse_parts.specs.Readers.{Reader, behind, either_reader, found_or, grown, high, says_word, looked_up, says, wrong, ◌and_then◌}
use Rattle.ep_parse_parts.specs.TreeReaders.{expr_from, some_domain_from}
use Rattle.ep_parse_parts.proofs.Again.{lexeme}
use Rattle.ep_parse_parts.proofs.AgainAll.{all_complete, readers}
use Rattle.ep_parse_parts.proofs.Sound.{domain_sound, expr_sound}
use Rattle.ep_parse_parts.proofs.SoundParts.{AreSound}
use Rattle.ep_parse_expr.proofs.Steady.{Cut, Cuts, Look, Steady, at_end, behind_too, ended, gone, head, high_alone, high_steady, look, wrong_steady}
use Rattle.ep_parse_expr.proofs.SteadyDomains.{domain_level_steady}
use Rattle.ep_parse_expr.proofs.SteadyOperators.{Higher, at_level_steady, level_begun, level_named}
use Rattle.ep_parse_expr.proofs.SteadyParts.{AreSteady}

-- ---- what begins nothing is wrong

pub operand_unopened : (t : Bool) (low : Lower) (ls : List Lexeme) → expression_next ls ≡ false → operand_from t low ls ≡ wrong ls
unfolding operand_from begun_from open_from expression_next
operand_unopened t low [] e = refl
operand_unopened t low (l ∷ rest) e = go l.saying e
  where
    by : (o : Option Opening) → is_there o ≡ false → open_from t low l.place o rest (l ∷ rest) ≡ wrong (l ∷ rest)
    by None e = refl
    by (Some what) e = let no : true ≡ false = e in absurd cc

    go : (s : Saying) → opens s ≡ false → begun_from t low l.place s rest (l ∷ rest) ≡ wrong (l ∷ rest)
    go (a_name x) e = let no : true ≡ false = e in absurd cc
    go (a_number n) e = let no : true ≡ false = e in absurd cc
    go (a_word w) e = by (looked_up openings w) e

module _ (most : ℕ) (low : Lower) (ls : List Lexeme) (none : expression_next ls ≡ false) where
  unary_unopened : unary_from most low ls ≡ wrong ls
  unfolding unary_from
  unary_unopened = ap (λ r. r and_then grown (another_read most low)) (operand_unopened (nat_lt 1 most) low ls none)

  power_unopened : power_from most low ls ≡ wrong ls
  unfolding power_from
  power_unopened = ap (λ r. r and_then grown (another_binary most low power_words unaries)) unary_unopened

  product_unopened : product_from most low ls ≡ wrong ls
  unfolding product_from
  product_unopened = ap (λ r. r and_then grown (another_binary most low product_words powers)) power_unopened

  sums_unopened : chain_from most low ls ≡ wrong ls
  unfolding chain_from
  sums_unopened = ap (λ r. r and_then terms_behind most low) product_unopened

  comparison_unopened : comparison_from most low ls ≡ wrong ls
  unfolding comparison_from
  comparison_unopened = ap (λ r. r and_then comparison_behind most low) sums_unopened

  conjunction_unopened : conjunction_from most low ls ≡ wrong ls
  unfolding conjunction_from
  conjunction_unopened = ap (λ r. r and_then parts_behind most low (codes "/\\") comparisons all_of) comparison_unopened

  disjunction_unopened : disjunction_from most low ls ≡ wrong ls
  unfolding disjunction_from
  disjunction_unopened = ap (λ r. r and_then parts_behind most low (codes "\\/") conjunctions any_of) conjunction_unopened

  implication_unopened : implication_from most low ls ≡ wrong ls
  unfolding implication_from
  implication_unopened = ap (λ r. r and_then grown (another_binary most low implication_words disjunctions)) disjunction_unopened

  level_unopened : (level : Level) → at_level most low level ls ≡ wrong ls
  unfolding at_level
  level_unopened implications = implication_unopened
  level_unopened disjunctions = disjunction_unopened
  level_unopened conjunctions = conjunction_unopened
  level_unopened comparisons = comparison_unopened
  level_unopened sums = sums_unopened
  level_unopened products = product_unopened
  level_unopened powers = power_unopened
  level_unopened unaries = unary_unopened
  level_unopened reads = unary_unopened
  level_unopened primaries = operand_unopened (nat_lt 1 most) low ls none

pub unopened : (most : ℕ) (level : Level) (ls : List Lexeme) → expression_next ls ≡ false → expr_from most level ls ≡ wrong ls
unfolding expr_from
unopened zero level ls none = ap (λ b. none_low b ls) none
unopened (suc less) level ls none = level_unopened (suc less) (readers less) ls none level

-- ---- the same of domains

other_way : (w v : List ℕ) → bytes_eq w v ≡ false → bytes_eq v w ≡ false
other_way w v e = go (bytes_eq v w) refl
  where
    go : (b : Bool) → bytes_eq v w ≡ b → b ≡ false
    go false k = refl
    go true k = let no : true ≡ false = sym ((bytes_eq-Decides w v).1 (sym ((bytes_eq-Decides v w).0 k))) ∙ e in absurd cc

neither_of : (a b : Bool) → (a || b) ≡ false → (a ≡ false) × (b ≡ false)
neither_of true b e = let no : true ≡ false = e in absurd cc
neither_of false b e = (refl, e)

no_domain_word : (w : List ℕ) → list_any (bytes_eq w) (codes "bool" ∷ codes "int" ∷ codes "(" ∷ []) ≡ false → looked_up domain_openings w ≡ None
unfolding looked_up
no_domain_word w e =
    let a = neither_of (bytes_eq w (codes "bool")) (list_any (bytes_eq w) (codes "int" ∷ codes "(" ∷ [])) e in
    let b = neither_of (bytes_eq w (codes "int")) (list_any (bytes_eq w) (codes "(" ∷ [])) a.1 in
    let d = neither_of (bytes_eq w (codes "(")) false b.1 in
    ap (λ z. found_or z a_bool (looked_up ((codes "int", an_int) ∷ (codes "(", a_domain_group) ∷ []) w)) (other_way w (codes "bool") a.0)
    ∙ ap (λ z. found_or z an_int (looked_up ((codes "(", a_domain_group) ∷ []) w)) (other_way w (codes "int") b.0)
    ∙ ap (λ z. found_or z a_domain_group None) (other_way w (codes "(") d.0)

-- what begins no domain part
abbrev no_part : List Lexeme → Type 0
no_part ls = domain_next set_parts ls ≡ false

part_unopened : (t : Bool) (low : Lower) (ls : List Lexeme) → no_part ls → domain_part_from t low ls ≡ wrong ls
unfolding domain_part_from domain_begun_from domain_open_from domain_next
part_unopened t low [] e = refl
part_unopened t low (l ∷ rest) e = go l.saying e
  where
    go : (s : Saying) → opens_domain set_parts s ≡ false → domain_begun_from t low l.place s rest (l ∷ rest) ≡ wrong (l ∷ rest)
    go (a_name x) e = let no : true ≡ false = e in absurd cc
    go (a_number n) e = refl
    go (a_word w) e = ap (λ o. domain_open_from t low l.place o rest (l ∷ rest)) (no_domain_word w e)

operations_unopened : (most : ℕ) (low : Lower) (ls : List Lexeme) → no_part ls → operations_from most low ls ≡ wrong ls
unfolding operations_from
operations_unopened most low ls none = ap (λ r. r and_then grown (another_operation most low)) (part_unopened (nat_lt 1 most) low ls none)

-- where a matrix domain may begin too
no_domain : (ls : List Lexeme) → domain_next domains ls ≡ false → no_part ls × (says (codes "matrix") ls ≡ false)
unfolding domain_next says
no_domain [] e = (refl, refl)
no_domain (l ∷ rest) e = go l.saying e
  where
    go : (s : Saying) → opens_domain domains s ≡ false → (opens_domain set_parts s ≡ false) × (says_word (codes "matrix") s ≡ false)
    go (a_name x) e = let no : true ≡ false = e in absurd cc
    go (a_number n) e = (refl, refl)
    go (a_word w) e =
        let a = neither_of (bytes_eq w (codes "bool")) (list_any (bytes_eq w) (codes "int" ∷ codes "(" ∷ codes "matrix" ∷ [])) e in
        let b = neither_of (bytes_eq w (codes "int")) (list_any (bytes_eq w) (codes "(" ∷ codes "matrix" ∷ [])) a.1 in
        let d = neither_of (bytes_eq w (codes "(")) (list_any (bytes_eq w) (codes "matrix" ∷ [])) b.1 in
        let f = neither_of (bytes_eq w (codes "matrix")) false d.1 in
        (ap (λ z. z || list_any (bytes_eq w) (codes "int" ∷ codes "(" ∷ [])) a.0 ∙ ap (λ z. z || list_any (bytes_eq w) (codes "(" ∷ [])) b.0 ∙ ap (λ z. z || false) d.0, f.0)

domain_level_unopened : (most : ℕ) (low : Lower) (level : DomainLevel) (ls : List Lexeme) → domain_next level ls ≡ false → domain_at_level most low level ls ≡ wrong ls
unfolding domain_at_level any_domain_from domain_next
domain_level_unopened most low domains ls none = let k = no_domain ls none in ap (λ b. either_reader b (if_low (nat_lt 1 most) (λ all. matrix_from low (place_next all) (behind all))) (operations_from most low) ls) k.1 ∙ operations_unopened most low ls k.0
domain_level_unopened most low set_operations ls none = operations_unopened most low ls (same_part ls none)
  where
    same_part : (z : List Lexeme) → domain_next set_operations z ≡ false → domain_next set_parts z ≡ false
    same_part [] e = refl
    same_part (l ∷ rest) e = by l.saying e
      where
        by : (s : Saying) → opens_domain set_operations s ≡ false → opens_domain set_parts s ≡ false
        by (a_name x) e = e
        by (a_number n) e = e
        by (a_word w) e = e
domain_level_unopened most low set_parts ls none = part_unopened (nat_lt 1 most) low ls none

pub domain_unopened : (most : ℕ) (level : DomainLevel) (ls : List Lexeme) → domain_next level ls ≡ false → some_domain_from most level ls ≡ wrong ls
unfolding expr_from
domain_unopened zero level ls none = ap (λ b. none_low b ls) none
domain_unopened (suc less) level ls none = domain_level_unopened (suc less) (readers less) level ls none

-- ---- no height at all

-- a test of the first token
pub record ByFirst (begins : List Lexeme → Bool) : Type 0 where
  pub nothing : begins [] ≡ false
  pub first : (l : Lexeme) (rest rest2 : List Lexeme) → begins (l ∷ rest) ≡ begins (l ∷ rest2)

expression_first : ByFirst expression_next
unfolding expression_next
expression_first = record { nothing = refl; first = λ l rest rest2. refl }

domain_first : (level : DomainLevel) → ByFirst (domain_next level)
unfolding domain_next
domain_first level = record { nothing = refl; first = λ l rest rest2. refl }

none_steady : {A : Type 0} (c : Cut) (begins : List Lexeme → Bool) → ByFirst begins → (f2 : Reader A)
    → ((ls : List Lexeme) → begins ls ≡ false → f2 ls ≡ wrong ls) → (c.exact ≡ true → (ls : List Lexeme) → begins ls ≡ true → f2 ls ≡ high ls)
    → (ls ls2 : List Lexeme) → Cuts c ls ls2 → Steady c (length ls) (none_low (begins ls) ls) (f2 ls2)
none_steady {A} c begins by_first f2 is_wrong is_high ls ls2 s = go (look c ls ls2 s)
  where
    alike : begins ls2 ≡ begins ls → (b : Bool) → begins ls ≡ b → Steady c (length ls) (none_low b ls) (f2 ls2)
    alike same true e = high_steady c ls ls2 (f2 ls2) s (λ x. is_high x ls2 (same ∙ e))
    alike same false e = subst (λ z. Steady c (length ls) (wrong ls) z) (sym (is_wrong ls2 (same ∙ e))) (wrong_steady c ls ls2 s)

    past : (b : Bool) → length ls < length c.one → Steady c (length ls) (none_low b ls) (f2 ls2)
    past true p = record { short = omega arith; stops = behind_too p }
    past false p = record { short = omega arith; stops = behind_too p }

    last : c.exact ≡ false → ls2 ≡ [] → (b : Bool) → begins ls ≡ b → Steady c (length ls) (none_low b ls) (f2 ls2)
    last inexact e2 true e = record { short = omega arith; stops = high_alone ls refl inexact }
    last inexact e2 false e = subst (λ z. Steady c (length ls) (wrong ls) z) (sym (is_wrong ls2 (ap begins e2 ∙ by_first.nothing))) (wrong_steady c ls ls2 s)

    go : Look c ls ls2 → Steady c (length ls) (none_low (begins ls) ls) (f2 ls2)
    go (gone p) = past (begins ls) p
    go (head l rest rest2 e e2 t) = alike (ap begins e2 ∙ by_first.first l rest2 rest ∙ sym (ap begins e)) (begins ls) refl
    go (at_end inexact e e2) = last inexact e2 (begins ls) refl

-- ---- all of it

abbrev pub all_sound : (most : ℕ) → AreSound most (readers most)
all_sound most = record { expr = expr_sound most; domain = domain_sound most }

-- a cut through no more than a list, behind which nothing is
cut_at : Lexeme → List Lexeme → Cut
cut_at l ls = record { exact = false; one = l ∷ ls; two = []; same = ended refl refl }

no_higher : (c : Cut) (most : ℕ) → Higher c most most
no_higher c most = record { le = omega arith; alike = λ x. refl }

lower_too : (c : Cut) (less less2 : ℕ) → Higher c (suc less) (suc less2) → Higher c less less2
lower_too c less less2 h = record { le = let le = h.le in omega (arith, le); alike = λ x. let e : suc less2 ≡ suc less = h.alike x in omega (arith, e) }

opens_so : (l : Lexeme) (ls : List Lexeme) → opens l.saying ≡ true → expression_next (l ∷ ls) ≡ true
unfolding expression_next
opens_so l ls o = o

pub all_steady : (c : Cut) (most most2 : ℕ) → Higher c most most2 → AreSteady c most (readers most) (readers most2)
unfolding expr_from cut_at
all_steady c zero most2 higher = record {
  expr = λ level. none_steady c expression_next expression_first (expr_from most2 level) (unopened most2 level) (λ x z e. subst (λ m. expr_from m level z ≡ high z) (sym (higher.alike x)) (ap (λ b. none_low b z) e));
  domain = λ level. none_steady c (domain_next level) (domain_first level) (some_domain_from most2 level) (domain_unopened most2 level) (λ x z e. subst (λ m. some_domain_from m level z ≡ high z) (sym (higher.alike x)) (ap (λ b. none_low b z) e));
  begun = λ l ls o. inl (ap (λ b. none_low b (l ∷ ls)) (opens_so l ls o));
  named = λ p x ls some. absurd (omega (arith, some));
}
all_steady c (suc less) zero higher = absurd (let le = higher.le in omega (arith, le))
all_steady c (suc less) (suc less2) higher = record {
  expr = λ level ls ls2 s. at_level_steady c less (readers less) (readers less2) (all_complete less) (all_sound less) (all_steady c less less2 (lower_too c less less2 higher)) (suc less) (suc less2) higher level ls ls2 s;
  domain = λ level ls ls2 s. domain_level_steady c less (readers less) (readers less2) (all_steady c less less2 (lower_too c less less2 higher)) (suc less) (suc less2) higher level ls ls2 s;
  begun = λ l ls o.
      let k = cut_at l ls in
      level_begun k less (readers less) (readers less) (all_complete less) (all_sound less) (all_steady k less less (no_higher k less)) (suc less) (suc less) (no_higher k (suc less)) l ls (omega arith) o;
  named = λ p x ls some.
      let k = cut_at (lexeme p (a_name x)) ls in
      level_named k less (readers less) (readers less) (all_complete less) (all_sound less) (all_steady k less less (no_higher k less)) (suc less) (suc less) (no_higher k (suc less)) p x ls (omega arith);
}
