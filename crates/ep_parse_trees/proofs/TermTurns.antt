-- A turn of the loop over a chain of sums.
use Rattle.std.specs.Prelude.{◌≡◌, ◌<◌, ℕ, Bool, true, false, not, ◌&&◌, nat_le, nat_lt, List, [], ◌∷◌, ◌++◌, length, map, Option, Some, None, OnOk, Result, Ok, Err, refl}
use Rattle.std.proofs.Common.{ap, arith, subst, sym, is_some, ◌∙◌}
use Rattle.ep_base.specs.declared.places.Place.{Place}
use Rattle.ep_parse_below.proofs.ChainTurns.{behind_shorter}
use Rattle.ep_parse_parts.proofs.FirstTurns.{gathered, regrouped, stops_inside}
use Rattle.ep_parse_parts.proofs.ListTurns.{list_ends, list_fails, list_goes}
use Rattle.ep_parse_parts.proofs.NameTurns.{continued, kept_is}
use Rattle.ep_parse_parts.proofs.PartFacts.{as_terms_of, map_more, terms_end_more}
use Rattle.ep_parse_parts.proofs.Shorter.{expr_shorter, then_came}
use Rattle.ep_parse_parts.proofs.Turns.{list_turn}
use Rattle.ep_parse_parts.specs.Cursors.{StopsReading}
use Rattle.ep_parse_parts.specs.Founds.{lower}
use Rattle.ep_parse_parts.specs.Gathered.{OrMemory, TermsCount}
use Rattle.ep_parse_trees.specs.Junctions.{AddsTerm, TermAdded, TermsGiven, more_terms, sign_comes, term_read}
use Rattle.ep_parse_parts.specs.OperandReaders.{Lower, if_low, is_there}
use Rattle.ep_parse_parts.specs.OperatorReaders.{Term, as_terms, sign_words, term_behind, term_from, terms_behind, terms_from, with_operator}
use Rattle.ep_parse_parts.specs.Readers.{Read, Reader, behind, going_on, high, if_some, kept, next_in, others_from, took, wrong, ◌and_then◌}
use Rattle.ep_parse_parts.specs.declared.cursor.Stop.{Stop}
use Rattle.ep_parse_parts.specs.declared.cursor.Stop.TheVariants.{Memory, TooHigh, Wrong}
use Rattle.ep_parse_parts.specs.declared.found.Found.{Found}
use Rattle.ep_parse_parts.specs.declared.parts.Terms.{Terms}
use Rattle.ep_tree.specs.Heights.{height}
use Rattle.ep_tree.specs.Phrases.{Lexeme}
use Rattle.ep_tree.specs.Spelling.{ends_open, products, rank, terms_end_open, unaries}
use Rattle.ep_tree.specs.Trees.{ExprTree, chain, place_of, term_and}
use Rattle.ep_tree.specs.Views.{expr_tree, terms_of}
use Rattle.ep_tree.specs.declared.syntax.Expr.{Expr}

abbrev on : Term → List Lexeme → Option (List Lexeme)
on last = with_operator sign_words last.1

-- ---- whether a chain goes on

pub open_stops : (open_last : Bool) (ls : List Lexeme) → open_last ≡ true → false ≡ sign_comes open_last ls
open_stops open_last ls e = sym (ap (λ t. not t && is_there (next_in sign_words ls)) e)

there : {A : Type 0} (o : Option A) → is_some o ≡ is_there o
there None = refl
there (Some x) = refl

pub closed_goes : (open_last : Bool) (ls : List Lexeme) (o : Option Bool) (b : Bool) → open_last ≡ false → o ≡ next_in sign_words ls → b ≡ is_some o → b ≡ sign_comes open_last ls
closed_goes open_last ls o b e k t = t ∙ there o ∙ ap is_there k ∙ sym (ap (λ t. not t && is_there (next_in sign_words ls)) e)

comes_is : (last : Term) (ls : List Lexeme) (open_last b : Bool) → open_last ≡ ends_open last.1 → b ≡ sign_comes open_last ls → on last ls ≡ kept b ls
comes_is last ls open_last b o e = ap (λ t. kept (not t && is_there (next_in sign_words ls)) ls) (sym o) ∙ ap (λ t. kept t ls) (sym e)

-- ---- a turn takes tokens

behind_short : (most : ℕ) (plus : Bool) (ls rest : List Lexeme) (x : Term) → term_behind (lower most) plus ls ≡ took x rest → length rest < length ls
unfolding term_behind rank
behind_short most plus ls rest x e =
    let c = then_came ((lower most).expr products ls) (λ e. (plus, e)) x rest e in expr_shorter most products refl ls rest c.one c.is

term_shorter : (most : ℕ) (ls rest : List Lexeme) (x : Term) → term_from (lower most) ls ≡ took x rest → length rest < length ls
unfolding term_from
term_shorter most ls rest x e = by_sign (next_in sign_words ls) refl e
  where
    by_sign : (o : Option Bool) → next_in sign_words ls ≡ o → if_some o (λ plus. term_behind (lower most) plus (behind ls)) (wrong ls) ≡ took x rest → length rest < length ls
    by_sign None o e = absurd cc
    by_sign (Some plus) o e = omega (arith, behind_shorter sign_words ls plus o, behind_short most plus (behind ls) rest x e)

and_false : (b : Bool) → (b && false) ≡ false
and_false true = refl
and_false false = refl

on_ends : (last : Term) → on last [] ≡ None
unfolding next_in
on_ends last = ap (λ b. kept b []) (and_false (not (ends_open last.1)))

on_shrinks : (most : ℕ) (last : Term) (ls next : List Lexeme) (x : Term) (rest : List Lexeme) → on last ls ≡ Some next → term_from (lower most) next ≡ took x rest → length rest < length ls
on_shrinks most last ls next x rest o e =
    let same : length next ≡ length ls = ap length (kept_is (not (ends_open last.1) && is_there (next_in sign_words ls)) ls next o) in
    omega (arith, same, term_shorter most next rest x e)

-- ---- the loop

-- The terms so far, and those that are still read, are all.
pub record SoFar (most : ℕ) (whole : Read (List Term)) (terms : Terms) (ls : List Lexeme) : Type 0 where
  pub last : Term
  pub ends : terms.ends_open ≡ ends_open last.1
  pub is : continued (map term_read terms.items.items) (others_from on (λ last. term_from (lower most)) last ls) ≡ whole
  pub counted : TermsCount terms

pub terms_end : (most : ℕ) (whole : Read (List Term)) (terms : Terms) (ls : List Lexeme) → SoFar most whole terms ls → false ≡ sign_comes terms.ends_open ls → whole ≡ took (map term_read terms.items.items) ls
terms_end most whole terms ls s e =
    list_ends on (λ last. term_from (lower most)) on_ends (on_shrinks most) whole (map term_read terms.items.items) s.last ls s.is (comes_is s.last ls terms.ends_open false s.ends e)

pub terms_fail : (most : ℕ) (whole : Read (List Term)) (terms : Terms) (ls new : List Lexeme) (e : Stop) → SoFar most whole terms ls → true ≡ sign_comes terms.ends_open ls → StopsReading e new (term_from (lower most) ls)
    → StopsReading e new whole
terms_fail most whole terms ls new e s t stops =
    list_fails on (λ last. term_from (lower most)) on_ends (on_shrinks most) whole (map term_read terms.items.items) s.last ls ls new e s.is (comes_is s.last ls terms.ends_open true s.ends t) stops

pub terms_go : (most : ℕ) (whole : Read (List Term)) (terms more : Terms) (ls new : List Lexeme) → SoFar most whole terms ls → true ≡ sign_comes terms.ends_open ls → TermAdded terms more new (term_from (lower most) ls)
    → SoFar most whole more new
terms_go most whole terms more ls new s t added =
    record {
      last = added.one;
      ends = added.ends;
      is = ap (λ done. continued done (others_from on (λ last. term_from (lower most)) added.one new)) added.together
          ∙ list_goes on (λ last. term_from (lower most)) on_ends (on_shrinks most) whole (map term_read terms.items.items) s.last added.one ls ls new s.is (comes_is s.last ls terms.ends_open true s.ends t) added.is;
      counted = added.counted;
    }

pub terms_smaller : (most : ℕ) (terms more : Terms) (ls new : List Lexeme) → TermAdded terms more new (term_from (lower most) ls) → length new < length ls
terms_smaller most terms more ls new added = term_shorter most ls new added.one added.is

-- the first term was pushed
pub so_far_first : (most : ℕ) (found : Found) (before : List (Bool × Expr)) (new : Terms) (ls : List Lexeme) → before ≡ [] → new.items.items ≡ before ++ (true, found.expr) ∷ [] → TermsCount new
    → SoFar most (continued ((true, expr_tree found.expr) ∷ []) (more_terms (lower most) (true, expr_tree found.expr) ls)) new ls
unfolding more_terms
so_far_first most found before new ls none more counted =
    let all : new.items.items ≡ (true, found.expr) ∷ [] = more ∙ ap (λ ts. ts ++ (true, found.expr) ∷ []) none in
    record {
      last = (true, expr_tree found.expr);
      ends = counted.ends ∙ ap (λ ts. terms_end_open (terms_of ts)) all ∙ terms_end_more [] true found.expr;
      is = ap (λ ts. continued (map term_read ts) (others_from on (λ last. term_from (lower most)) (true, expr_tree found.expr) ls)) all;
      counted = counted;
    }

-- one more term was pushed
pub term_is : (low : Lower) (plus : Bool) (e : ExprTree) (ls mid left : List Lexeme) → Some plus ≡ next_in sign_words ls → mid ≡ behind ls → low.expr products mid ≡ took e left → term_from low ls ≡ took (plus, e) left
unfolding term_from term_behind
term_is low plus e ls mid left s m x =
    ap (λ o. if_some o (λ plus. term_behind low plus (behind ls)) (wrong ls)) (sym s) ∙ ap (λ rest. low.expr products rest and_then λ e rest. took (plus, e) rest) (sym m)
    ∙ ap (λ r. r and_then λ e rest. took (plus, e) rest) x

pub no_term : (low : Lower) (ls : List Lexeme) → None ≡ next_in sign_words ls → term_from low ls ≡ wrong ls
unfolding term_from
no_term low ls s = ap (λ o. if_some o (λ plus. term_behind low plus (behind ls)) (wrong ls)) (sym s)

pub term_stopped : (low : Lower) (plus : Bool) (ls mid left : List Lexeme) (e : Stop) → Some plus ≡ next_in sign_words ls → mid ≡ behind ls → StopsReading e left (low.expr products mid) → StopsReading e left (term_from low ls)
unfolding term_from term_behind
term_stopped low plus ls mid left Wrong s m x =
    ap (λ o. if_some o (λ plus. term_behind low plus (behind ls)) (wrong ls)) (sym s) ∙ ap (λ rest. low.expr products rest and_then λ e rest. took (plus, e) rest) (sym m)
    ∙ ap (λ r. r and_then λ e rest. took (plus, e) rest) x
term_stopped low plus ls mid left TooHigh s m x =
    ap (λ o. if_some o (λ plus. term_behind low plus (behind ls)) (wrong ls)) (sym s) ∙ ap (λ rest. low.expr products rest and_then λ e rest. took (plus, e) rest) (sym m)
    ∙ ap (λ r. r and_then λ e rest. took (plus, e) rest) x
term_stopped low plus ls mid left Memory s m x = tt

pub term_added : {X : Type 0} (result : Result X Stop) (old new : Terms) (plus : Bool) (found : Found) (left : List Lexeme) (read : Read Term) → OrMemory result (new.items.items ≡ old.items.items ++ (plus, found.expr) ∷ [])
    → OnOk result (TermsCount new) → read ≡ took (plus, expr_tree found.expr) left → AddsTerm result old new left read
term_added (Ok x) old new plus found left read more counted e =
    record {
      one = (plus, expr_tree found.expr);
      is = e;
      together = ap (map term_read) more ∙ map_more term_read old.items.items (plus, found.expr);
      ends = counted.ends ∙ ap (λ ts. terms_end_open (terms_of ts)) more ∙ terms_end_more old.items.items plus found.expr;
      counted = counted;
    }
term_added (Err e) old new plus found left read m counted k = subst (λ s. StopsReading s left read) (sym m) tt

pub first_too_high : (b : Bool) (reader : Reader (List Term)) (start : List Lexeme) → b ≡ false → if_low b reader start ≡ high start
first_too_high b reader start e = ap (λ t. if_low t reader start) e

pub terms_given : (b : Bool) (reader : Reader (List Term)) (first : Term) (terms : Terms) (start ls : List Lexeme) → b ≡ true → continued (first ∷ []) (reader start) ≡ took (map term_read terms.items.items) ls → TermsCount terms
    → TermsGiven first terms ls (if_low b reader start)
terms_given b reader first terms start ls low e counted =
    let g = gathered (first ∷ []) (map term_read terms.items.items) ls (reader start) e in
    record { more = g.more; is = ap (λ t. if_low t reader start) low ∙ g.is; together = g.together; counted = counted }

pub terms_stopped : (b : Bool) (reader : Reader (List Term)) (first : Term) (start new : List Lexeme) (e : Stop) → b ≡ true → StopsReading e new (continued (first ∷ []) (reader start)) → StopsReading e new (if_low b reader start)
terms_stopped b reader first start new e low s = subst (λ t. StopsReading e new (if_low t reader start)) (sym low) (stops_inside (first ∷ []) e new (reader start) s)

-- ---- the chain's node

abbrev made : ExprTree → List Term → Reader ExprTree
made first ts end = took (chain (place_of first) (as_terms ts)) end

sum_is : (most : ℕ) (first : ExprTree) (ls : List Lexeme) (open_last : Bool) → open_last ≡ ends_open first → true ≡ sign_comes open_last ls
    → terms_behind most (lower most) first ls ≡ (if_low (nat_lt (height first) most) (more_terms (lower most) (true, first)) ls and_then λ ts end. made first ((true, first) ∷ ts) end)
unfolding terms_behind terms_from more_terms as_terms
sum_is most first ls open_last o e =
    ap (λ t. if_some t (if_low (nat_lt (height first) most) (terms_from (lower most) first)) (took first ls)) (comes_is (true, first) ls open_last true o e) ∙ by_low (nat_lt (height first) most)
  where
    by_low : (b : Bool) → if_low b (terms_from (lower most) first) ls ≡ (if_low b (more_terms (lower most) (true, first)) ls and_then λ ts end. made first ((true, first) ∷ ts) end)
    by_low false = refl
    by_low true =
        regrouped (term_from (lower most) ls) (others_from on (λ last. term_from (lower most))) (λ ts end. made first ((true, first) ∷ ts) end)
        ∙ ap (λ r. r and_then λ ts end. made first ((true, first) ∷ ts) end)
        (sym (list_turn on (λ last. term_from (lower most)) on_ends (on_shrinks most) (true, first) ls
        ∙ ap (λ p. going_on p ls (λ next. term_from (lower most) next and_then λ x rest. others_from on (λ last. term_from (lower most)) x rest and_then λ xs end. took (x ∷ xs) end))
        (comes_is (true, first) ls open_last true o e)))

pub no_sum : (most : ℕ) (low : Lower) (first : ExprTree) (ls : List Lexeme) (open_last : Bool) → open_last ≡ ends_open first → false ≡ sign_comes open_last ls → terms_behind most low first ls ≡ took first ls
unfolding terms_behind
no_sum most low first ls open_last o e =
    ap (λ t. if_some t (if_low (nat_lt (height first) most) (terms_from low first)) (took first ls)) (comes_is (true, first) ls open_last false o e)

pub sum_made : (most : ℕ) (first : ExprTree) (terms : Terms) (ls left : List Lexeme) (open_last : Bool) (p : Place) → open_last ≡ ends_open first → true ≡ sign_comes open_last ls → place_of first ≡ p
    → TermsGiven (true, first) terms left (if_low (nat_lt (height first) most) (more_terms (lower most) (true, first)) ls) → terms_behind most (lower most) first ls ≡ took (chain p (terms_of terms.items.items)) left
sum_made most first terms ls left open_last p o e at given =
    sum_is most first ls open_last o e ∙ ap (λ r. r and_then λ ts end. made first ((true, first) ∷ ts) end) given.is
    ∙ ap (λ ts. took (chain (place_of first) (as_terms ts)) left) (sym given.together)
    ∙ ap (λ ts. took (chain (place_of first) ts) left) (as_terms_of terms.items.items) ∙ ap (λ q. took (chain q (terms_of terms.items.items)) left) at

pub sum_stopped : (most : ℕ) (first : ExprTree) (ls left : List Lexeme) (open_last : Bool) (stop : Stop) → open_last ≡ ends_open first → true ≡ sign_comes open_last ls
    → StopsReading stop left (if_low (nat_lt (height first) most) (more_terms (lower most) (true, first)) ls) → StopsReading stop left (terms_behind most (lower most) first ls)
sum_stopped most first ls left open_last Wrong o e s = sum_is most first ls open_last o e ∙ ap (λ r. r and_then λ ts end. made first ((true, first) ∷ ts) end) s
sum_stopped most first ls left open_last TooHigh o e s = sum_is most first ls open_last o e ∙ ap (λ r. r and_then λ ts end. made first ((true, first) ∷ ts) end) s
sum_stopped most first ls left open_last Memory o e s = tt
