-- A turn of the loop over a chain with one word between any two parts.
use Rattle.std.specs.Prelude.{◌≡◌, ◌<◌, ℕ, Bool, true, false, not, ◌&&◌, nat_le, nat_lt, List, [], ◌∷◌, ◌++◌, length, Option, Some, None, OnOk, Result, Ok, Err, bytes_eq, refl}
use Rattle.std.proofs.Common.{ap, arith, subst, sym, ◌∙◌}
use Rattle.std.proofs.lemmas.Slice.Eq.{bytes_eq-Decides}
use Rattle.ep_base.specs.declared.places.Place.{Place}
use Rattle.ep_parse_parts.proofs.FirstTurns.{gathered, regrouped, stops_inside}
use Rattle.ep_parse_parts.proofs.ListTurns.{list_ends, list_fails, list_goes}
use Rattle.ep_parse_parts.proofs.NameTurns.{continued, kept_is}
use Rattle.ep_parse_parts.proofs.PartFacts.{ends_more, map_more}
use Rattle.ep_parse_parts.proofs.Shorter.{expr_shorter}
use Rattle.ep_parse_parts.proofs.Turns.{list_turn}
use Rattle.ep_parse_parts.specs.Cursors.{StopsReading}
use Rattle.ep_parse_parts.specs.Founds.{lower}
use Rattle.ep_parse_parts.specs.Gathered.{OrMemory, PartsCount}
use Rattle.ep_parse_trees.specs.Junctions.{AddsPart, PartAdded, PartsGiven, goes_on, more_parts, trees_of}
use Rattle.ep_parse_parts.specs.Openings.{level_of}
use Rattle.ep_parse_parts.specs.OperandReaders.{Lower, as_trees, if_low, is_there}
use Rattle.ep_parse_parts.specs.OperatorReaders.{only_word, part_from, parts_behind, parts_from, with_operator}
use Rattle.ep_parse_parts.specs.Readers.{Read, Reader, either_reader, found_or, going_on, high, if_some, says_word, kept, looked_up, meant_by, next_in, others_from, says, took, word_from, wrong, ◌and_then◌}
use Rattle.ep_parse_parts.specs.declared.cursor.Stop.{Stop}
use Rattle.ep_parse_parts.specs.declared.cursor.Stop.TheVariants.{Memory, TooHigh, Wrong}
use Rattle.ep_parse_parts.specs.declared.found.Found.{Found}
use Rattle.ep_parse_parts.specs.declared.parts.Parts.{Parts}
use Rattle.ep_parse_parts.specs.declared.words.Level.{Level as CodeLevel}
use Rattle.ep_parse_parts.specs.declared.words.Level.TheVariants as code_level
use Rattle.ep_tree.specs.Heights.{height}
use Rattle.ep_tree.specs.Phrases.{Lexeme, Saying, a_name, a_number, a_word}
use Rattle.ep_tree.specs.Spelling.{Level, ends_open, rank, trees_end_open, unaries}
use Rattle.ep_tree.specs.Trees.{ExprTree, ExprTrees, place_of, tree_and}
use Rattle.ep_tree.specs.Views.{expr_tree, expr_trees}
use Rattle.ep_tree.specs.declared.syntax.Expr.{Expr}

-- ---- whether a chain goes on

and_false : (b : Bool) → (b && false) ≡ false
and_false true = refl
and_false false = refl

found_there : (b : Bool) → is_there (found_or b true None) ≡ b
found_there true = refl
found_there false = refl

bytes_eq_turned : (a b : List ℕ) → bytes_eq a b ≡ bytes_eq b a
bytes_eq_turned a b = go (bytes_eq a b) (bytes_eq b a) refl refl
  where
    go : (p q : Bool) → bytes_eq a b ≡ p → bytes_eq b a ≡ q → p ≡ q
    go true true e f = refl
    go false false e f = refl
    go true false e f = sym ((bytes_eq-Decides b a).1 (sym ((bytes_eq-Decides a b).0 e))) ∙ f
    go false true e f = sym e ∙ (bytes_eq-Decides a b).1 (sym ((bytes_eq-Decides b a).0 f))

said_is_there : (bytes : List ℕ) (ls : List Lexeme) → is_there (next_in (only_word bytes) ls) ≡ says bytes ls
unfolding next_in looked_up says
said_is_there bytes [] = refl
said_is_there bytes (l ∷ ls) = by_saying l.saying
  where
    by_saying : (s : Saying) → is_there (meant_by (only_word bytes) s) ≡ says_word bytes s
    by_saying (a_name x) = refl
    by_saying (a_number n) = refl
    by_saying (a_word w) = found_there (bytes_eq bytes w) ∙ bytes_eq_turned bytes w

pub open_stops : (open_last : Bool) (bytes : List ℕ) (ls : List Lexeme) → open_last ≡ true → false ≡ goes_on open_last bytes ls
open_stops open_last bytes ls e = sym (ap (λ t. not t && says bytes ls) e)

pub closed_goes : (open_last : Bool) (bytes : List ℕ) (ls : List Lexeme) (b : Bool) → open_last ≡ false → b ≡ says bytes ls → b ≡ goes_on open_last bytes ls
closed_goes open_last bytes ls b e k = k ∙ sym (ap (λ t. not t && says bytes ls) e)

pub goes_on_is : (bytes : List ℕ) (last : ExprTree) (ls : List Lexeme) (open_last b : Bool) → open_last ≡ ends_open last → b ≡ goes_on open_last bytes ls → with_operator (only_word bytes) last ls ≡ kept b ls
goes_on_is bytes last ls open_last b o e =
    ap (λ t. kept (not (ends_open last) && t) ls) (said_is_there bytes ls) ∙ ap (λ t. kept (not t && says bytes ls) ls) (sym o) ∙ ap (λ t. kept t ls) (sym e)

-- ---- a turn takes tokens

part_shorter : (most : ℕ) (bytes : List ℕ) (level : Level) → nat_le (rank level) (rank unaries) ≡ true → (ls rest : List Lexeme) (x : ExprTree) → part_from (lower most) bytes level ls ≡ took x rest
    → length rest < length ls
unfolding part_from word_from
part_shorter most bytes level ok [] rest x e = absurd cc
part_shorter most bytes level ok (l ∷ ls) rest x e = by_word (says_word bytes l.saying) e
  where
    by_word : (b : Bool) → (either_reader b (λ all. took l.place ls) (λ all. wrong all) (l ∷ ls) and_then λ _ next. (lower most).expr level next) ≡ took x rest → length rest < length (l ∷ ls)
    by_word true e = let s = expr_shorter most level ok ls rest x e in omega (arith, s)
    by_word false e = absurd cc

junction_ends : (bytes : List ℕ) (last : ExprTree) → with_operator (only_word bytes) last [] ≡ None
unfolding next_in
junction_ends bytes last = ap (λ b. kept b []) (and_false (not (ends_open last)))

junction_shrinks : (most : ℕ) (bytes : List ℕ) (level : Level) → nat_le (rank level) (rank unaries) ≡ true → (last : ExprTree) (ls next : List Lexeme) (x : ExprTree) (rest : List Lexeme)
    → with_operator (only_word bytes) last ls ≡ Some next → part_from (lower most) bytes level next ≡ took x rest → length rest < length ls
junction_shrinks most bytes level ok last ls next x rest o e =
    let same : length next ≡ length ls = ap length (kept_is (not (ends_open last) && is_there (next_in (only_word bytes) ls)) ls next o) in
    omega (arith, same, part_shorter most bytes level ok next rest x e)

-- ---- the loop

-- The parts so far, and those that are still read, are all.
pub record SoFar (most : ℕ) (bytes : List ℕ) (level : Level) (whole : Read (List ExprTree)) (parts : Parts) (ls : List Lexeme) : Type 0 where
  pub last : ExprTree
  pub ends : parts.ends_open ≡ ends_open last
  pub is : continued (trees_of parts.items.items) (others_from (with_operator (only_word bytes)) (λ last. part_from (lower most) bytes level) last ls) ≡ whole
  pub counted : PartsCount parts

pub parts_end : (most : ℕ) (bytes : List ℕ) (level : Level) → nat_le (rank level) (rank unaries) ≡ true → (whole : Read (List ExprTree)) (parts : Parts) (ls : List Lexeme)
    → SoFar most bytes level whole parts ls → false ≡ goes_on parts.ends_open bytes ls → whole ≡ took (trees_of parts.items.items) ls
parts_end most bytes level ok whole parts ls s e =
    list_ends (with_operator (only_word bytes)) (λ last. part_from (lower most) bytes level) (junction_ends bytes) (junction_shrinks most bytes level ok) whole (trees_of parts.items.items) s.last ls s.is
    (goes_on_is bytes s.last ls parts.ends_open false s.ends e)

pub parts_fail : (most : ℕ) (bytes : List ℕ) (level : Level) → nat_le (rank level) (rank unaries) ≡ true → (whole : Read (List ExprTree)) (parts : Parts) (ls new : List Lexeme) (e : Stop)
    → SoFar most bytes level whole parts ls → true ≡ goes_on parts.ends_open bytes ls → StopsReading e new (part_from (lower most) bytes level ls) → StopsReading e new whole
parts_fail most bytes level ok whole parts ls new e s t stops =
    list_fails (with_operator (only_word bytes)) (λ last. part_from (lower most) bytes level) (junction_ends bytes) (junction_shrinks most bytes level ok) whole (trees_of parts.items.items) s.last ls ls new e s.is
    (goes_on_is bytes s.last ls parts.ends_open true s.ends t) stops

pub parts_go : (most : ℕ) (bytes : List ℕ) (level : Level) → nat_le (rank level) (rank unaries) ≡ true → (whole : Read (List ExprTree)) (parts more : Parts) (ls new : List Lexeme)
    → SoFar most bytes level whole parts ls → true ≡ goes_on parts.ends_open bytes ls → PartAdded parts more new (part_from (lower most) bytes level ls) → SoFar most bytes level whole more new
parts_go most bytes level ok whole parts more ls new s t added =
    record {
      last = added.one;
      ends = added.ends;
      is = ap (λ done. continued done (others_from (with_operator (only_word bytes)) (λ last. part_from (lower most) bytes level) added.one new)) added.together
          ∙ list_goes (with_operator (only_word bytes)) (λ last. part_from (lower most) bytes level) (junction_ends bytes) (junction_shrinks most bytes level ok) whole (trees_of parts.items.items) s.last added.one ls ls new s.is
          (goes_on_is bytes s.last ls parts.ends_open true s.ends t) added.is;
      counted = added.counted;
    }

pub parts_smaller : (most : ℕ) (bytes : List ℕ) (level : Level) → nat_le (rank level) (rank unaries) ≡ true → (parts more : Parts) (ls new : List Lexeme)
    → PartAdded parts more new (part_from (lower most) bytes level ls) → length new < length ls
parts_smaller most bytes level ok parts more ls new added = part_shorter most bytes level ok ls new added.one added.is

-- ---- the first part, and the whole

-- a part of a chain may be of any level of the code
pub code_level_is : (level : CodeLevel) → nat_le (rank (level_of level)) (rank unaries) ≡ true
unfolding rank
code_level_is code_level.Implications = refl
code_level_is code_level.Disjunctions = refl
code_level_is code_level.Conjunctions = refl
code_level_is code_level.Comparisons = refl
code_level_is code_level.Sums = refl
code_level_is code_level.Products = refl
code_level_is code_level.Powers = refl
code_level_is code_level.Unaries = refl

-- the first part alone
pub so_far_begun : (most : ℕ) (bytes : List ℕ) (level : Level) (first : ExprTree) (parts : Parts) (ls : List Lexeme) → trees_of parts.items.items ≡ first ∷ [] → parts.ends_open ≡ ends_open first → PartsCount parts
    → SoFar most bytes level (continued (first ∷ []) (more_parts (lower most) bytes level first ls)) parts ls
unfolding more_parts
so_far_begun most bytes level first parts ls all ends counted =
    record {
      last = first;
      ends = ends;
      is = ap (λ done. continued done (others_from (with_operator (only_word bytes)) (λ last. part_from (lower most) bytes level) first ls)) all;
      counted = counted;
    }

-- where a chain goes on, it is its first part and those behind it
pub junction_is : (most : ℕ) (bytes : List ℕ) (level : Level) → nat_le (rank level) (rank unaries) ≡ true → (make : Place → ExprTrees → ExprTree) (first : ExprTree) (ls : List Lexeme) (open_last : Bool)
    → open_last ≡ ends_open first → true ≡ goes_on open_last bytes ls
    → parts_behind most (lower most) bytes level make first ls
    ≡ if_low (nat_lt (height first) most) (λ all. more_parts (lower most) bytes level first all and_then λ es end. took (make (place_of first) (as_trees (first ∷ es))) end) ls
unfolding parts_behind parts_from more_parts
junction_is most bytes level ok make first ls open_last o e =
    ap (λ t. if_some t (if_low (nat_lt (height first) most) (parts_from (lower most) bytes level make first)) (took first ls)) (goes_on_is bytes first ls open_last true o e)
    ∙ by_low (nat_lt (height first) most)
  where
    by_low : (b : Bool) → if_low b (parts_from (lower most) bytes level make first) ls
        ≡ if_low b (λ all. more_parts (lower most) bytes level first all and_then λ es end. took (make (place_of first) (as_trees (first ∷ es))) end) ls
    by_low false = refl
    by_low true =
        regrouped (part_from (lower most) bytes level ls) (others_from (with_operator (only_word bytes)) (λ last. part_from (lower most) bytes level))
        (λ es end. took (make (place_of first) (as_trees (first ∷ es))) end)
        ∙ ap (λ r. r and_then λ es end. took (make (place_of first) (as_trees (first ∷ es))) end)
        (sym (list_turn (with_operator (only_word bytes)) (λ last. part_from (lower most) bytes level) (junction_ends bytes) (junction_shrinks most bytes level ok) first ls
        ∙ ap (λ p. going_on p ls (λ next. part_from (lower most) bytes level next and_then λ x rest. others_from (with_operator (only_word bytes)) (λ last. part_from (lower most) bytes level) x rest and_then λ xs end. took (x ∷ xs) end))
        (goes_on_is bytes first ls open_last true o e)))

-- where it doesn't, it is the first part alone
pub no_junction : (most : ℕ) (low : Lower) (bytes : List ℕ) (level : Level) (make : Place → ExprTrees → ExprTree) (first : ExprTree) (ls : List Lexeme) (open_last : Bool) → open_last ≡ ends_open first
    → false ≡ goes_on open_last bytes ls → parts_behind most low bytes level make first ls ≡ took first ls
unfolding parts_behind
no_junction most low bytes level make first ls open_last o e =
    ap (λ t. if_some t (if_low (nat_lt (height first) most) (parts_from low bytes level make first)) (took first ls)) (goes_on_is bytes first ls open_last false o e)

-- the first part was pushed
pub so_far_first : (most : ℕ) (bytes : List ℕ) (level : Level) (found : Found) (before : List Expr) (new : Parts) (ls : List Lexeme) → before ≡ [] → new.items.items ≡ before ++ found.expr ∷ [] → PartsCount new
    → SoFar most bytes level (continued (expr_tree found.expr ∷ []) (more_parts (lower most) bytes level (expr_tree found.expr) ls)) new ls
so_far_first most bytes level found before new ls none more counted =
    let all : new.items.items ≡ found.expr ∷ [] = more ∙ ap (λ es. es ++ found.expr ∷ []) none in
    so_far_begun most bytes level (expr_tree found.expr) new ls (ap trees_of all)
    (counted.ends ∙ ap (λ es. trees_end_open (expr_trees es)) all ∙ ends_more [] found.expr) counted

-- one more part was pushed
pub part_added : {X : Type 0} (result : Result X Stop) (old new : Parts) (found : Found) (left : List Lexeme) (read : Read ExprTree) → OrMemory result (new.items.items ≡ old.items.items ++ found.expr ∷ [])
    → OnOk result (PartsCount new) → read ≡ took (expr_tree found.expr) left → AddsPart result old new left read
part_added (Ok x) old new found left read more counted e =
    record {
      one = expr_tree found.expr;
      is = e;
      together = ap trees_of more ∙ map_more (λ (e : Expr). expr_tree e) old.items.items found.expr;
      ends = counted.ends ∙ ap (λ es. trees_end_open (expr_trees es)) more ∙ ends_more old.items.items found.expr;
      counted = counted;
    }
part_added (Err e) old new found left read m counted k = subst (λ s. StopsReading s left read) (sym m) tt

-- the first part is too high
pub first_too_high : (b : Bool) (reader : Reader (List ExprTree)) (start : List Lexeme) → b ≡ false → if_low b reader start ≡ high start
first_too_high b reader start e = ap (λ t. if_low t reader start) e

-- all parts were read
pub parts_given : (b : Bool) (reader : Reader (List ExprTree)) (first : ExprTree) (parts : Parts) (start ls : List Lexeme) → b ≡ true → continued (first ∷ []) (reader start) ≡ took (trees_of parts.items.items) ls → PartsCount parts
    → PartsGiven first parts ls (if_low b reader start)
parts_given b reader first parts start ls low e counted =
    let g = gathered (first ∷ []) (trees_of parts.items.items) ls (reader start) e in
    record { more = g.more; is = ap (λ t. if_low t reader start) low ∙ g.is; together = g.together; counted = counted }

-- a part was refused
pub parts_stopped : (b : Bool) (reader : Reader (List ExprTree)) (first : ExprTree) (start new : List Lexeme) (e : Stop) → b ≡ true → StopsReading e new (continued (first ∷ []) (reader start)) → StopsReading e new (if_low b reader start)
parts_stopped b reader first start new e low s = subst (λ t. StopsReading e new (if_low t reader start)) (sym low) (stops_inside (first ∷ []) e new (reader start) s)

-- ---- the chain's node

as_trees_of : (es : List Expr) → as_trees (trees_of es) ≡ expr_trees es
unfolding as_trees expr_trees
as_trees_of [] = refl
as_trees_of (e ∷ es) = ap (λ ts. tree_and (expr_tree e) ts) (as_trees_of es)

pub part_is : (low : Lower) (bytes : List ℕ) (level : Level) (p : Place) (e : ExprTree) (ls mid left : List Lexeme) → word_from bytes ls ≡ took p mid → low.expr level mid ≡ took e left → part_from low bytes level ls ≡ took e left
unfolding part_from
part_is low bytes level p e ls mid left w x = ap (λ r. r and_then λ _ rest. low.expr level rest) w ∙ x

then_low : {A B : Type 0} (b : Bool) (R : Reader A) (F : A → Reader B) (ls : List Lexeme) → if_low b (λ all. R all and_then F) ls ≡ (if_low b R ls and_then F)
then_low true R F ls = refl
then_low false R F ls = refl

pub junction_made : (most : ℕ) (bytes : List ℕ) (level : Level) → nat_le (rank level) (rank unaries) ≡ true → (make : Place → ExprTrees → ExprTree) (first : ExprTree) (parts : Parts) (ls left : List Lexeme) (open_last : Bool) (p : Place)
    → open_last ≡ ends_open first → true ≡ goes_on open_last bytes ls → place_of first ≡ p → PartsGiven first parts left (if_low (nat_lt (height first) most) (more_parts (lower most) bytes level first) ls)
    → parts_behind most (lower most) bytes level make first ls ≡ took (make p (expr_trees parts.items.items)) left
junction_made most bytes level ok make first parts ls left open_last p o e at given =
    junction_is most bytes level ok make first ls open_last o e
    ∙ then_low (nat_lt (height first) most) (more_parts (lower most) bytes level first) (λ es end. took (make (place_of first) (as_trees (first ∷ es))) end) ls
    ∙ ap (λ r. r and_then λ es end. took (make (place_of first) (as_trees (first ∷ es))) end) given.is
    ∙ ap (λ es. took (make (place_of first) (as_trees es)) left) (sym given.together)
    ∙ ap (λ es. took (make (place_of first) es) left) (as_trees_of parts.items.items) ∙ ap (λ q. took (make q (expr_trees parts.items.items)) left) at

pub junction_stopped : (most : ℕ) (bytes : List ℕ) (level : Level) → nat_le (rank level) (rank unaries) ≡ true → (make : Place → ExprTrees → ExprTree) (first : ExprTree) (ls left : List Lexeme) (open_last : Bool) (stop : Stop)
    → open_last ≡ ends_open first → true ≡ goes_on open_last bytes ls → StopsReading stop left (if_low (nat_lt (height first) most) (more_parts (lower most) bytes level first) ls)
    → StopsReading stop left (parts_behind most (lower most) bytes level make first ls)
junction_stopped most bytes level ok make first ls left open_last Wrong o e s =
    junction_is most bytes level ok make first ls open_last o e
    ∙ then_low (nat_lt (height first) most) (more_parts (lower most) bytes level first) (λ es end. took (make (place_of first) (as_trees (first ∷ es))) end) ls
    ∙ ap (λ r. r and_then λ es end. took (make (place_of first) (as_trees (first ∷ es))) end) s
junction_stopped most bytes level ok make first ls left open_last TooHigh o e s =
    junction_is most bytes level ok make first ls open_last o e
    ∙ then_low (nat_lt (height first) most) (more_parts (lower most) bytes level first) (λ es end. took (make (place_of first) (as_trees (first ∷ es))) end) ls
    ∙ ap (λ r. r and_then λ es end. took (make (place_of first) (as_trees (first ∷ es))) end) s
junction_stopped most bytes level ok make first ls left open_last Memory o e s = tt
