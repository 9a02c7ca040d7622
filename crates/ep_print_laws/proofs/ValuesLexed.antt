-- The tokens of a value's text are the words of its expression.
use Rattle.std.proofs.Common.{◌≡◌, ℕ, suc, ◌^◌, ◌<◌, Bool, true, false, cond, not, ◌&&◌, ◌||◌, List, [], ◌∷◌, ◌++◌, codes, map, ℤ, pos, negsuc, refl, sym, ap, subst, ◌∙◌, append_assoc, arith}
use Rattle.std.specs.Prelude.{◌==◌}
use Rattle.std.specs.Char.{is_ascii_digit}
use Rattle.std.specs.Fmt.{decimal, digits, signed_decimal}
use Rattle.std.specs.List.{list_all, list_any}
use Rattle.std.specs.Ordering.{int_eq}
use Rattle.std.proofs.lemmas.Bool.{and_parts, eqb-true, false_from_ne_true, false≢true, ltb-true}
use Rattle.std.proofs.lemmas.Bool.Decides.{nat_tests}
use Rattle.ep_base.specs.TokenTexts.{continues_name, is_name, is_number, is_symbol, is_token, is_word}
use Rattle.ep_tree.specs.Trees.{ExprTree, Ranges, end_at, one_and, span_and}
use Rattle.ep_print.specs.Joining.{with_between}
use Rattle.ep_print.specs.Values.{Stretch, index_domain_text, run_text, runs_of}
use Rattle.ep_print.specs.Words.{Words, domain_words, expr_words, parted, range_words, word}
use Rattle.ep_print_laws.specs.Answered.{has_few_digits, indices_domain, number_expr, run_and, run_ranges}
use Rattle.ep_print_laws.proofs.Glue.{ends_before, joins, last_byte, symbol_pairs}
use Rattle.ep_print_laws.proofs.Literals.{the_tokens}
use Rattle.ep_print_laws.proofs.Pieces.{behind, joined_behind}
use Rattle.ep_print_laws.proofs.Said.{numbered, two_of_four}
use Rattle.ep_print_laws.proofs.Scanned.{Lexed, begins_no_gap, is_short, lexed_space, lexed_word}
use Rattle.ep_print_laws.proofs.ValuesSpelled.{has_few, runs_few}

-- no token goes on into these bytes
abbrev pub Breaks : List ℕ → Type 0
Breaks rest = (word : List ℕ) → ends_before word rest ≡ true

-- no number goes on into these bytes
abbrev pub EndsNumber : List ℕ → Type 0
EndsNumber rest = (word : List ℕ) → is_number word ≡ true → ends_before word rest ≡ true

-- ---- which bytes stand side by side in no token

and_right : (a b : Bool) → b ≡ false → (a && b) ≡ false
and_right true b e = e
and_right false b e = refl

and_wrong : (a b : Bool) → a ≡ false → (a && b) ≡ false
and_wrong a b e = rw e refl

all_wrong : (a b c : Bool) → a ≡ false → b ≡ false → c ≡ false → (a || (b || c)) ≡ false
all_wrong a b c e f g = rw (e, f, g) refl

not_wrong : (b : Bool) → b ≡ false → not b ≡ true
not_wrong b e = rw e refl

of_not : (b : Bool) → not b ≡ true → b ≡ false
of_not true e = absurd (false≢true e)
of_not false e = refl

or_both : (a b : Bool) → a ≡ false → b ≡ false → (a || b) ≡ false
or_both a b e f = rw (e, f) refl

no_pair_before : (a c : ℕ) (pairs : List (ℕ × ℕ)) → list_all (λ p. not (p.0 == a)) pairs ≡ true → list_any (λ p. p.1 == c && p.0 == a) pairs ≡ false
no_pair_before a c [] e = refl
no_pair_before a c (p ∷ pairs) e =
    let parts = and_parts (not (p.0 == a)) _ e in
    or_both _ _ (and_right (p.1 == c) (p.0 == a) (of_not _ parts.0)) (no_pair_before a c pairs parts.1)

other_byte : (b d : ℕ) → is_ascii_digit b ≡ false → is_ascii_digit d ≡ true → (b == d) ≡ false
other_byte b d e f = false_from_ne_true _ (λ t. false≢true (sym e ∙ ap is_ascii_digit (eqb-true b d t) ∙ f))

no_pair_behind : (a d : ℕ) (pairs : List (ℕ × ℕ)) → is_ascii_digit d ≡ true → list_all (λ p. not (is_ascii_digit p.1)) pairs ≡ true → list_any (λ p. p.1 == d && p.0 == a) pairs ≡ false
no_pair_behind a d [] digit e = refl
no_pair_behind a d (p ∷ pairs) digit e =
    let parts = and_parts (not (is_ascii_digit p.1)) _ e in
    or_both _ _ (and_wrong (p.1 == d) (p.0 == a) (other_byte p.1 d (of_not _ parts.0) digit)) (no_pair_behind a d pairs digit parts.1)

-- a bracket or a comma is a token by itself, whatever follows
pub alone : (a : ℕ) → continues_name a ≡ false → list_all (λ p. not (p.0 == a)) symbol_pairs ≡ true → (rest : List ℕ) → ends_before (a ∷ []) rest ≡ true
alone a e f [] = refl
alone a e f (c ∷ cs) =
    not_wrong _ (all_wrong _ _ _ (and_right (continues_name c) (continues_name a) e) (and_right (c == 39) (continues_name a) e) (no_pair_before a c symbol_pairs f))

-- no digit goes on from a symbol
digit_joins : (a d : ℕ) → continues_name a ≡ false → is_ascii_digit d ≡ true → joins a d ≡ false
digit_joins a d e digit =
    all_wrong _ _ _ (and_right (continues_name d) (continues_name a) e) (and_right (d == 39) (continues_name a) e) (no_pair_behind a d symbol_pairs digit refl)

-- the first byte of some, or 0 where there is none
abbrev first_byte : List ℕ → ℕ
first_byte [] = 0
first_byte (b ∷ bs) = b

digit_after : (w rest : List ℕ) (a : ℕ) → is_number w ≡ true → continues_name a ≡ false → not (joins a (first_byte (w ++ rest))) ≡ true
digit_after [] rest a e f = absurd (false≢true e)
digit_after (d ∷ ds) rest a e f = not_wrong _ (digit_joins a d f (and_parts (is_ascii_digit d) _ e).0)

dash_ends : (w rest : List ℕ) → is_number w ≡ true → ends_before (codes "-") (w ++ rest) ≡ true
dash_ends [] rest e = absurd (false≢true e)
dash_ends (d ∷ ds) rest e = digit_after (d ∷ ds) rest 45 e refl

dots_end : (w rest : List ℕ) → is_number w ≡ true → ends_before (codes "..") (w ++ rest) ≡ true
dots_end [] rest e = absurd (false≢true e)
dots_end (d ∷ ds) rest e = digit_after (d ∷ ds) rest 46 e refl

digit_last : (b d : ℕ) (ds : List ℕ) → is_ascii_digit d ≡ true → list_all is_ascii_digit ds ≡ true → is_ascii_digit (last_byte b (d ∷ ds)) ≡ true
digit_last b d [] e f = e
digit_last b d (c ∷ ds) e f = let parts = and_parts (is_ascii_digit c) _ f in digit_last d c ds parts.0 parts.1

no_dot : (d : ℕ) → is_ascii_digit d ≡ true → joins d 46 ≡ false
no_dot d e = grind (arith, nat_tests)

-- a number ends before dots
dots_follow : (rest : List ℕ) → EndsNumber (46 ∷ rest)
dots_follow rest [] e = absurd (false≢true e)
dots_follow rest (d ∷ ds) e = let parts = and_parts (is_ascii_digit d) _ e in not_wrong _ (no_dot _ (digit_last 0 d ds parts.0 parts.1))

-- ---- numbers

number_lexed : (n : ℕ) (rest : List ℕ) (words : Words) → n < 10 ^ 18 → EndsNumber rest → Lexed rest words → Lexed (decimal n ++ rest) (decimal n ∷ words)
unfolding is_token
number_lexed n rest words small ends later =
    let d = numbered n small in
    let others = and_parts (is_short (decimal n)) (begins_no_gap (decimal n)) (and_parts (is_token (decimal n) (32 ∷ [])) _ d.written).1 in
    lexed_word (decimal n) rest words others.1 others.0 (two_of_four (is_name (decimal n)) (is_number (decimal n)) (is_word (decimal n)) (is_symbol (decimal n) rest) d.number) (ends (decimal n) d.number) later

pub whole_lexed : (z : ℤ) (rest : List ℕ) (words : Words) → has_few_digits z ≡ true → EndsNumber rest → Lexed rest words → Lexed (signed_decimal z ++ rest) (expr_words (number_expr z) ++ words)
unfolding number_expr expr_words has_few_digits the_tokens
whole_lexed (pos n) rest words few ends later = number_lexed n rest words (ltb-true n (10 ^ 18) few) ends later
whole_lexed (negsuc n) rest words few ends later =
    let small = ltb-true (suc n) (10 ^ 18) few in
    lexed_word (codes "-") (decimal (suc n) ++ rest) (decimal (suc n) ∷ words) refl refl refl (dash_ends (decimal (suc n)) rest (numbered (suc n) small).number)
    (number_lexed (suc n) rest words small ends later)

-- dots before a number
dots_lexed : (z : ℤ) (rest : List ℕ) (words : Words) → has_few_digits z ≡ true → Lexed (signed_decimal z ++ rest) words → Lexed (codes ".." ++ (signed_decimal z ++ rest)) (codes ".." ∷ words)
unfolding has_few_digits the_tokens
dots_lexed (pos n) rest words few later =
    lexed_word (codes "..") (decimal n ++ rest) words refl refl refl (dots_end (decimal n) rest (numbered n (ltb-true n (10 ^ 18) few)).number) later
dots_lexed (negsuc n) rest words few later = lexed_word (codes "..") (45 ∷ (decimal (suc n) ++ rest)) words refl refl refl refl later

-- ---- index domains

-- a run before other ranges
run_lexed : (b : Bool) (first last : ℤ) (rest : List ℕ) (words : Words) → has_few_digits first ≡ true → has_few_digits last ≡ true → EndsNumber rest → Lexed rest words
    → Lexed (cond b (signed_decimal first) (signed_decimal first ++ (codes ".." ++ signed_decimal last)) ++ rest) (cond b (expr_words (number_expr first)) (expr_words (number_expr first) ++ (codes ".." ∷ expr_words (number_expr last))) ++ words)
run_lexed true first last rest words few others ends later = whole_lexed first rest words few ends later
run_lexed false first last rest words few others ends later =
    let f = signed_decimal first in
    let l = signed_decimal last in
    let v = expr_words (number_expr first) in
    let w = expr_words (number_expr last) in
    let spread : (f ++ (codes ".." ++ l)) ++ rest ≡ f ++ (codes ".." ++ (l ++ rest)) = append_assoc f (codes ".." ++ l) rest in
    let spoken : (v ++ (codes ".." ∷ w)) ++ words ≡ v ++ (codes ".." ∷ (w ++ words)) = append_assoc v (codes ".." ∷ w) words in
    subst (λ (t : List ℕ). Lexed t ((v ++ (codes ".." ∷ w)) ++ words)) (sym spread)
    (subst (λ (ws : Words). Lexed (f ++ (codes ".." ++ (l ++ rest))) ws) (sym spoken)
    (whole_lexed first (codes ".." ++ (l ++ rest)) (codes ".." ∷ (w ++ words)) few (dots_follow (46 ∷ (l ++ rest)))
    (dots_lexed last rest (w ++ words) others (whole_lexed last rest words others ends later))))

-- the words of one run
abbrev run_words : Stretch → Words
run_words s = cond (int_eq s.first s.last) (expr_words (number_expr s.first)) (expr_words (number_expr s.first) ++ (codes ".." ∷ expr_words (number_expr s.last)))

range_split : (b : Bool) (first last : ExprTree) (rs : Ranges) → range_words (cond b (one_and first rs) (span_and (end_at first) (end_at last) rs)) ≡ cond b (expr_words first) (expr_words first ++ (codes ".." ∷ expr_words last)) ∷ range_words rs
unfolding expr_words
range_split true first last rs = refl
range_split false first last rs = refl

runs_words : (ss : List Stretch) → range_words (run_ranges ss) ≡ map run_words ss
unfolding run_ranges run_and expr_words
runs_words [] = refl
runs_words (s ∷ ss) =
    range_split (int_eq s.first s.last) (number_expr s.first) (number_expr s.last) (run_ranges ss) ∙ ap (λ ws. run_words s ∷ ws) (runs_words ss)

-- a comma and a space
pub comma_lexed : (rest : List ℕ) (words : Words) → Lexed rest words → Lexed (44 ∷ 32 ∷ rest) (codes "," ∷ words)
unfolding the_tokens
comma_lexed rest words later = lexed_word (codes ",") (32 ∷ rest) words refl refl refl refl (lexed_space rest words later)

-- a bracket
pub square_lexed : (rest : List ℕ) (words : Words) → Lexed rest words → Lexed (93 ∷ rest) (codes "]" ∷ words)
unfolding the_tokens
square_lexed rest words later = lexed_word (codes "]") rest words refl refl refl (alone 93 refl refl rest) later

round_lexed : (rest : List ℕ) (words : Words) → Lexed rest words → Lexed (41 ∷ rest) (codes ")" ∷ words)
unfolding the_tokens
round_lexed rest words later = lexed_word (codes ")") rest words refl refl refl (alone 41 refl refl rest) later

more_runs_lexed : (ss : List Stretch) (rest : List ℕ) (words : Words) → list_all has_few ss ≡ true → Lexed rest words → Lexed (behind (codes ", ") (map run_text ss) ++ (41 ∷ rest)) (behind (word ",") (map run_words ss) ++ (codes ")" ∷ words))
unfolding run_text
more_runs_lexed [] rest words few later = round_lexed rest words later
more_runs_lexed (s ∷ ss) rest words few later =
    let parts = and_parts (has_few s) _ few in
    let ends = and_parts (has_few_digits s.first) (has_few_digits s.last) parts.0 in
    let t = behind (codes ", ") (map run_text ss) in
    let v = behind (word ",") (map run_words ss) in
    subst (λ (x : List ℕ). Lexed (44 ∷ 32 ∷ x) (codes "," ∷ ((run_words s ++ v) ++ (codes ")" ∷ words)))) (sym (append_assoc (run_text s) t (41 ∷ rest)))
    (subst (λ (ws : Words). Lexed (44 ∷ 32 ∷ (run_text s ++ (t ++ (41 ∷ rest)))) (codes "," ∷ ws)) (sym (append_assoc (run_words s) v (codes ")" ∷ words)))
    (comma_lexed (run_text s ++ (t ++ (41 ∷ rest))) (run_words s ++ (v ++ (codes ")" ∷ words)))
    (run_lexed (int_eq s.first s.last) s.first s.last (t ++ (41 ∷ rest)) (v ++ (codes ")" ∷ words)) ends.0 ends.1 (run_ends ss) (more_runs_lexed ss rest words parts.1 later))))
  where
    run_ends : (ss : List Stretch) → EndsNumber (behind (codes ", ") (map run_text ss) ++ (41 ∷ rest))
    run_ends [] w e = refl
    run_ends (s ∷ ss) w e = refl

runs_lexed : (s : Stretch) (ss : List Stretch) (rest : List ℕ) (words : Words) → list_all has_few (s ∷ ss) ≡ true → Lexed rest words
    → Lexed (with_between (codes ", ") (map run_text (s ∷ ss)) ++ (41 ∷ rest)) (with_between (word ",") (map run_words (s ∷ ss)) ++ (codes ")" ∷ words))
unfolding run_text
runs_lexed s ss rest words few later =
    let parts = and_parts (has_few s) _ few in
    let ends = and_parts (has_few_digits s.first) (has_few_digits s.last) parts.0 in
    let t = behind (codes ", ") (map run_text ss) in
    let v = behind (word ",") (map run_words ss) in
    let texts : with_between (codes ", ") (map run_text (s ∷ ss)) ++ (41 ∷ rest) ≡ run_text s ++ (t ++ (41 ∷ rest)) =
    ap (λ x. x ++ (41 ∷ rest)) (sym (joined_behind (codes ", ") (run_text s) (map run_text ss))) ∙ append_assoc (run_text s) t (41 ∷ rest) in
    let spoken : with_between (word ",") (map run_words (s ∷ ss)) ++ (codes ")" ∷ words) ≡ run_words s ++ (v ++ (codes ")" ∷ words)) =
    ap (λ x. x ++ (codes ")" ∷ words)) (sym (joined_behind (word ",") (run_words s) (map run_words ss))) ∙ append_assoc (run_words s) v (codes ")" ∷ words) in
    subst (λ (x : List ℕ). Lexed x (with_between (word ",") (map run_words (s ∷ ss)) ++ (codes ")" ∷ words))) (sym texts)
    (subst (λ (ws : Words). Lexed (run_text s ++ (t ++ (41 ∷ rest))) ws) (sym spoken)
    (run_lexed (int_eq s.first s.last) s.first s.last (t ++ (41 ∷ rest)) (v ++ (codes ")" ∷ words)) ends.0 ends.1 (run_ends ss) (more_runs_lexed ss rest words parts.1 later)))
  where
    run_ends : (ss : List Stretch) → EndsNumber (behind (codes ", ") (map run_text ss) ++ (41 ∷ rest))
    run_ends [] w e = refl
    run_ends (s ∷ ss) w e = refl

all_runs_lexed : (ss : List Stretch) (rest : List ℕ) (words : Words) → list_all has_few ss ≡ true → Lexed rest words
    → Lexed (with_between (codes ", ") (map run_text ss) ++ (41 ∷ rest)) (with_between (word ",") (map run_words ss) ++ (codes ")" ∷ words))
unfolding with_between
all_runs_lexed [] rest words few later = round_lexed rest words later
all_runs_lexed (s ∷ ss) rest words few later = runs_lexed s ss rest words few later

-- what stands around the runs
int_lexed : (rest : List ℕ) (words : Words) → Lexed rest words → Lexed (codes "int(" ++ rest) (codes "int" ∷ codes "(" ∷ words)
unfolding the_tokens
int_lexed rest words later = lexed_word (codes "int") (40 ∷ rest) _ refl refl refl refl (lexed_word (codes "(") rest words refl refl refl (alone 40 refl refl rest) later)

empty_lexed : (rest : List ℕ) (words : Words) → Lexed rest words → Lexed (codes "int(1..0)" ++ rest) (domain_words (indices_domain []) ++ words)
unfolding the_tokens indices_domain expr_words with_between digits
empty_lexed rest words later =
    int_lexed (codes "1..0)" ++ rest) _
    (lexed_word (codes "1") (codes "..0)" ++ rest) _ refl refl refl refl
    (lexed_word (codes "..") (codes "0)" ++ rest) _ refl refl refl refl
    (lexed_word (codes "0") (41 ∷ rest) _ refl refl refl refl (round_lexed rest words later))))

pub indices_lexed : (indices : List ℤ) (rest : List ℕ) (words : Words) → list_all has_few_digits indices ≡ true → Lexed rest words → Lexed (index_domain_text indices ++ rest) (domain_words (indices_domain indices) ++ words)
unfolding index_domain_text indices_domain expr_words
indices_lexed [] rest words few later = empty_lexed rest words later
indices_lexed (n ∷ ns) rest words few later =
    let ss = runs_of (n ∷ ns) in
    let t = with_between (codes ", ") (map run_text ss) in
    let v = with_between (word ",") (map run_words ss) in
    let texts : (codes "int(" ++ (t ++ codes ")")) ++ rest ≡ codes "int(" ++ (t ++ (41 ∷ rest)) = ap (λ x. codes "int(" ++ x) (append_assoc t (codes ")") rest) in
    let spoken : (codes "int" ∷ codes "(" ∷ (parted "," (range_words (run_ranges ss)) ++ word ")")) ++ words ≡ codes "int" ∷ codes "(" ∷ (v ++ (codes ")" ∷ words)) =
    ap (λ x. (codes "int" ∷ codes "(" ∷ (with_between (word ",") x ++ word ")")) ++ words) (runs_words ss) ∙ ap (λ x. codes "int" ∷ codes "(" ∷ x) (append_assoc v (word ")") words) in
    subst (λ (x : List ℕ). Lexed x ((codes "int" ∷ codes "(" ∷ (parted "," (range_words (run_ranges ss)) ++ word ")")) ++ words)) (sym texts)
    (subst (λ (ws : Words). Lexed (codes "int(" ++ (t ++ (41 ∷ rest))) ws) (sym spoken)
    (int_lexed (t ++ (41 ∷ rest)) (v ++ (codes ")" ∷ words)) (all_runs_lexed ss rest words (runs_few (n ∷ ns) few) later)))
