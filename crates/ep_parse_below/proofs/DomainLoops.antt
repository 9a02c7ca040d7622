-- The loops over ranges and over index domains, and what is made of them.
use Rattle.std.specs.Prelude.{◌≡◌, ◌≤◌, ◌<◌, ℕ, Bool, true, false, ◌||◌, List, [], ◌∷◌, ◌++◌, length, map, Option, Some, None, Result, Ok, Err, codes, if◌then◌else◌, refl}
use Rattle.std.proofs.Common.{ap, arith, sym, subst, ◌∙◌}
use Rattle.ep_base.specs.declared.places.Place.{Place}
use Rattle.ep_parse_parts.proofs.FirstTurns.{comma_came, comma_ends, comma_shorter, continued_none, first_ends, first_fails, first_goes, no_comma, regrouped, same_without_comma}
use Rattle.ep_parse_parts.proofs.Holding.{Holds, holds_chosen, holds_then, holds_took}
use Rattle.ep_parse_parts.proofs.Lengths.{Shortens, domain_shortens, expr_shortens, said_shorter, word_shortens}
use Rattle.ep_parse_below.proofs.ListLoops.{stops_as, stops_then}
use Rattle.ep_parse_parts.proofs.NameTurns.{behind_short, continued, kept_is}
use Rattle.ep_parse_parts.proofs.PartFacts.{as_domains_of, as_ranges_of, map_more}
use Rattle.ep_parse_parts.specs.Cursors.{StopsReading, passing}
use Rattle.ep_parse_parts.specs.DomainReaders.{RangeRead, another_index_domain, as_domains, as_ranges, end_from, index_domain_behind, matrix_follows, matrix_from, matrix_head_from, of_number, of_span, range_from, ranges_from}
use Rattle.ep_parse_parts.specs.Founds.{FindsDomain, lower}
use Rattle.ep_parse_parts.specs.Gathered.{Added, DomainsGiven, PassesTo, RangesGiven, all_ranges_from, domains_go_on, elements_from, end_tree, index_domains_from, range_read, to_index_domain, upper_from}
use Rattle.ep_parse_parts.specs.OperandReaders.{Lower, expression_next}
use Rattle.ep_parse_parts.specs.Readers.{Read, Reader, behind, behind_comma, either_reader, high, says_word, kept, others_from, says, took, word_from, wrong, ◌and_then◌}
use Rattle.ep_parse_parts.specs.declared.cursor.Stop.{Stop}
use Rattle.ep_parse_parts.specs.declared.found.FoundDomain.{FoundDomain}
use Rattle.ep_parse_parts.specs.declared.parts.Domains.{Domains}
use Rattle.ep_parse_parts.specs.declared.parts.Ranges.{Ranges}
use Rattle.ep_tree.specs.Phrases.{Lexeme}
use Rattle.ep_tree.specs.Spelling.{implications, set_operations}
use Rattle.ep_tree.specs.Trees.{DomainTree, End, ExprTree, end_at, matrix_domain, no_end, ranges}
use Rattle.ep_tree.specs.Views.{domain_tree, domains_of, ranges_of}
use Rattle.ep_tree.specs.declared.syntax.Domain.{Domain}
use Rattle.ep_tree.specs.declared.syntax.Expr.{Expr}

pub domain_finds_as : (result : Result FoundDomain Stop) (new : List Lexeme) (r q : Read DomainTree) → q ≡ r → FindsDomain result new r → FindsDomain result new q
domain_finds_as (Ok found) new r q k f = (k ∙ f.0, f.1)
domain_finds_as (Err e) new r q k f = stops_as e new r q k f

-- ---- ranges

end_is : (b : Bool) (low : Lower) (first : End) (ls : List Lexeme)
    → either_reader b (λ all. low.expr implications all and_then λ e rest. took (of_span first (end_at e)) rest) (λ all. took (of_span first no_end) all) ls
    ≡ (either_reader b (λ all. low.expr implications all and_then λ e rest. took (end_at e) rest) (λ all. took no_end all) ls and_then λ last rest. took (of_span first last) rest)
end_is true low first ls = inner (low.expr implications ls)
  where
    inner : (r : Read ExprTree) → (r and_then λ e rest. took (of_span first (end_at e)) rest) ≡ ((r and_then λ e rest. took (end_at e) rest) and_then λ last rest. took (of_span first last) rest)
    inner (took e rest) = refl
    inner (wrong ks) = refl
    inner (high ks) = refl
end_is false low first ls = refl

-- a range behind its `..` is its upper end
pub end_given : (low : Lower) (first : End) (ls : List Lexeme) → end_from low first ls ≡ (upper_from low ls and_then λ last rest. took (of_span first last) rest)
unfolding end_from upper_from
end_given low first ls = end_is (expression_next ls) low first ls

seen : (b : Bool) (new mid : List Lexeme) (word : List ℕ) → (b, new) ≡ passing word mid → (says word mid ≡ b) × (new ≡ (if b then behind mid else mid))
unfolding passing
seen b new mid word e =
    let one : says word mid ≡ b = sym (ap (λ (p : Bool × List Lexeme). p.0) e) in
    (one, ap (λ (p : Bool × List Lexeme). p.1) e ∙ ap (λ c. if c then behind mid else mid) one)

-- a range that begins with `..`
pub range_dots : (low : Lower) (ls new : List Lexeme) → (true, new) ≡ passing (codes "..") ls → range_from low ls ≡ end_from low no_end new
unfolding range_from
range_dots low ls new e =
    let s = seen true new ls (codes "..") e in
    ap (λ b. either_reader b (λ all. end_from low no_end (behind all)) (λ all. low.expr implications all and_then λ e rest. either_reader (says (codes "..") rest) (λ next. end_from low (end_at e) (behind next)) (λ next. took (of_number e) next) rest) ls) s.0
    ∙ ap (λ k. end_from low no_end k) (sym s.1)

-- a range that begins with an expression
pub range_first : (low : Lower) (ls mid : List Lexeme) → (false, mid) ≡ passing (codes "..") ls
    → range_from low ls ≡ (low.expr implications mid and_then λ e rest. either_reader (says (codes "..") rest) (λ next. end_from low (end_at e) (behind next)) (λ next. took (of_number e) next) rest)
unfolding range_from
range_first low ls mid e =
    let s = seen false mid ls (codes "..") e in
    ap (λ b. either_reader b (λ all. end_from low no_end (behind all)) (λ all. low.expr implications all and_then λ e rest. either_reader (says (codes "..") rest) (λ next. end_from low (end_at e) (behind next)) (λ next. took (of_number e) next) rest) ls) s.0
    ∙ ap (λ k. low.expr implications k and_then λ e rest. either_reader (says (codes "..") rest) (λ next. end_from low (end_at e) (behind next)) (λ next. took (of_number e) next) rest) (sym s.1)

pub range_number : (low : Lower) (ls mid rest new : List Lexeme) (e : ExprTree) → (false, mid) ≡ passing (codes "..") ls → low.expr implications mid ≡ took e rest → (false, new) ≡ passing (codes "..") rest → range_from low ls ≡ took (of_number e) new
range_number low ls mid rest new e p is q =
    let s = seen false new rest (codes "..") q in
    range_first low ls mid p
    ∙ ap (λ r. r and_then λ e rest. either_reader (says (codes "..") rest) (λ next. end_from low (end_at e) (behind next)) (λ next. took (of_number e) next) rest) is
    ∙ ap (λ b. either_reader b (λ next. end_from low (end_at e) (behind next)) (λ next. took (of_number e) next) rest) s.0
    ∙ ap (λ k. took (of_number e) k) (sym s.1)

pub range_span : (low : Lower) (ls mid rest new : List Lexeme) (e : ExprTree) → (false, mid) ≡ passing (codes "..") ls → low.expr implications mid ≡ took e rest → (true, new) ≡ passing (codes "..") rest → range_from low ls ≡ end_from low (end_at e) new
range_span low ls mid rest new e p is q =
    let s = seen true new rest (codes "..") q in
    range_first low ls mid p
    ∙ ap (λ r. r and_then λ e rest. either_reader (says (codes "..") rest) (λ next. end_from low (end_at e) (behind next)) (λ next. took (of_number e) next) rest) is
    ∙ ap (λ b. either_reader b (λ next. end_from low (end_at e) (behind next)) (λ next. took (of_number e) next) rest) s.0
    ∙ ap (λ k. end_from low (end_at e) k) (sym s.1)

-- a range that begins with `..`, and whose lower end is left out in the code
pub range_dots_none : (low : Lower) (ls new : List Lexeme) (first : Option Expr) → (true, new) ≡ passing (codes "..") ls → first ≡ None → range_from low ls ≡ end_from low (end_tree first) new
unfolding end_tree
range_dots_none low ls new first e n = range_dots low ls new e ∙ ap (λ o. end_from low (end_tree o) new) (sym n)

pub range_span_end : (low : Lower) (ls mid rest new : List Lexeme) (e : ExprTree) (first : Option Expr) → (false, mid) ≡ passing (codes "..") ls → low.expr implications mid ≡ took e rest → (true, new) ≡ passing (codes "..") rest
    → end_tree first ≡ end_at e → range_from low ls ≡ end_from low (end_tree first) new
range_span_end low ls mid rest new e first p is q f = range_span low ls mid rest new e p is q ∙ ap (λ x. end_from low x new) (sym f)

-- no upper end is next
pub upper_none : (low : Lower) (ls : List Lexeme) (last : Option Expr) → false ≡ expression_next ls → last ≡ None → upper_from low ls ≡ took (end_tree last) ls
unfolding upper_from end_tree
upper_none low ls last e n =
    ap (λ b. either_reader b (λ all. low.expr implications all and_then λ e rest. took (end_at e) rest) (λ all. took no_end all) ls) (sym e) ∙ ap (λ o. took (end_tree o) ls) (sym n)

end_keeps : (most : ℕ) (first : End) (ls : List Lexeme) → Holds (λ _ rest. length rest ≤ length ls) (end_from (lower most) first ls)
unfolding end_from
end_keeps most first ls =
    holds_chosen (λ _ rest. length rest ≤ length ls) (expression_next ls) _ _ ls
    (λ _. holds_then (λ _ rest. length rest < length ls) (λ _ rest. length rest ≤ length ls) ((lower most).expr implications ls) _ (expr_shortens most ls)
    (λ e rest h. holds_took (λ _ k. length k ≤ length ls) (of_span first (end_at e)) rest (omega (arith, h))))
    (λ _. holds_took (λ _ k. length k ≤ length ls) (of_span first no_end) ls (omega arith))

pub range_shortens : (most : ℕ) (ls : List Lexeme) → Shortens ls (range_from (lower most) ls)
unfolding range_from
range_shortens most ls =
    holds_chosen (λ _ rest. length rest < length ls) (says (codes "..") ls) _ _ ls
    (λ e. record { holds = λ x rest is. let s = (end_keeps most no_end (behind ls)).holds x rest is in let d = said_shorter (codes "..") ls e in omega (arith, s, d) })
    (λ _. holds_then (λ _ rest. length rest < length ls) (λ _ rest. length rest < length ls) ((lower most).expr implications ls) _ (expr_shortens most ls)
    (λ e rest h. holds_chosen (λ _ k. length k < length ls) (says (codes "..") rest) _ _ rest
    (λ _. record { holds = λ x end is. let s = (end_keeps most (end_at e) (behind rest)).holds x end is in omega (arith, s, h, behind_short rest) })
    (λ _. holds_took (λ _ k. length k < length ls) (of_number e) rest h)))

range_shrinks : (most : ℕ) (last : RangeRead) (ls next : List Lexeme) (x : RangeRead) (rest : List Lexeme) → behind_comma last ls ≡ Some next → range_from (lower most) next ≡ took x rest → length rest < length ls
range_shrinks most last ls next x rest o e = let s = (range_shortens most next).holds x rest e in let n = comma_shorter last ls next o in omega (arith, s, n)

pub ranges_begin : (most : ℕ) (rs : Ranges) (ls : List Lexeme) → rs.items.items ≡ [] → continued (map range_read rs.items.items) (all_ranges_from (lower most) ls) ≡ all_ranges_from (lower most) ls
ranges_begin most rs ls none = ap (λ xs. continued (map range_read xs) (all_ranges_from (lower most) ls)) none ∙ continued_none (all_ranges_from (lower most) ls)

pub ranges_fail : (most : ℕ) (done : List RangeRead) (ls new begin : List Lexeme) (e : Stop) → continued done (all_ranges_from (lower most) ls) ≡ all_ranges_from (lower most) begin → StopsReading e new (range_from (lower most) ls)
    → StopsReading e new (all_ranges_from (lower most) begin)
unfolding all_ranges_from
ranges_fail most done ls new begin e inv s =
    first_fails behind_comma (λ last. range_from (lower most)) comma_ends (range_shrinks most) done (range_from (lower most) ls) (all_ranges_from (lower most) begin) new e inv s

pub ranges_end : (most : ℕ) (done all : List RangeRead) (ls mid new begin : List Lexeme) → continued done (all_ranges_from (lower most) ls) ≡ all_ranges_from (lower most) begin → Added done all mid (range_from (lower most) ls)
    → (false, new) ≡ passing (codes ",") mid → all_ranges_from (lower most) begin ≡ took all new
unfolding all_ranges_from
ranges_end most done all ls mid new begin inv r p =
    first_ends behind_comma (λ last. range_from (lower most)) comma_ends (range_shrinks most) done (range_from (lower most) ls) (all_ranges_from (lower most) begin) r.one mid inv r.is (no_comma r.one new mid p)
    ∙ ap (λ xs. took xs mid) (sym r.together) ∙ ap (λ k. took all k) (sym (same_without_comma new mid p))

pub ranges_go : (most : ℕ) (done all : List RangeRead) (ls mid new begin : List Lexeme) → continued done (all_ranges_from (lower most) ls) ≡ all_ranges_from (lower most) begin → Added done all mid (range_from (lower most) ls)
    → (true, new) ≡ passing (codes ",") mid → continued all (all_ranges_from (lower most) new) ≡ all_ranges_from (lower most) begin
unfolding all_ranges_from
ranges_go most done all ls mid new begin inv r p =
    ap (λ xs. continued xs (all_ranges_from (lower most) new)) r.together
    ∙ first_goes behind_comma (λ last. range_from (lower most)) comma_ends (range_shrinks most) done (range_from (lower most) ls) (all_ranges_from (lower most) begin) r.one mid new inv r.is (comma_came r.one new mid p)

pub ranges_smaller : (most : ℕ) (done all : List RangeRead) (ls mid new : List Lexeme) → Added done all mid (range_from (lower most) ls) → (true, new) ≡ passing (codes ",") mid → length new < length ls
ranges_smaller most done all ls mid new r p =
    let s = (range_shortens most ls).holds r.one mid r.is in
    let n = comma_shorter r.one mid new (comma_came r.one new mid p) in
    omega (arith, s, n)

ranges_are : (low : Lower) (p : Place) (ls : List Lexeme) → ranges_from low p ls ≡ (all_ranges_from low ls and_then λ rs next. word_from (codes ")") next and_then λ _ end. took (ranges p (as_ranges rs)) end)
unfolding ranges_from all_ranges_from
ranges_are low p ls =
    regrouped (range_from low ls) (λ r rest. others_from behind_comma (λ last. range_from low) r rest) (λ rs next. word_from (codes ")") next and_then λ _ end. took (ranges p (as_ranges rs)) end)

pub all_ranges_fail : (low : Lower) (p : Place) (ls new : List Lexeme) (e : Stop) → StopsReading e new (all_ranges_from low ls) → StopsReading e new (ranges_from low p ls)
all_ranges_fail low p ls new e s = stops_as e new _ _ (ranges_are low p ls) (stops_then e new _ _ s)

pub ranges_read : (low : Lower) (p : Place) (rs : Ranges) (ls mid new : List Lexeme) (result : Result FoundDomain Stop) → RangesGiven rs mid (all_ranges_from low ls)
    → FindsDomain result new (word_from (codes ")") mid and_then λ _ end. took (ranges p (ranges_of rs.items.items)) end) → FindsDomain result new (ranges_from low p ls)
ranges_read low p rs ls mid new result g f =
    domain_finds_as result new _ _
    (ranges_are low p ls ∙ ap (λ r. r and_then λ xs next. word_from (codes ")") next and_then λ _ end. took (ranges p (as_ranges xs)) end) g.is
    ∙ ap (λ xs. word_from (codes ")") mid and_then λ _ end. took (ranges p xs) end) (as_ranges_of rs.items.items)) f

-- ---- index domains

by_comma : (low : Lower) (ls : List Lexeme) (b : Bool) → says (codes ",") ls ≡ b
    → either_reader b (λ all. low.domain set_operations (behind all)) (λ all. matrix_head_from (behind (behind (behind all))) and_then λ _ rest. low.domain set_operations rest) ls
    ≡ (either_reader b (word_from (codes ",")) (λ all. matrix_head_from (behind (behind (behind all)))) ls and_then λ _ rest. low.domain set_operations rest)
unfolding word_from says
by_comma low [] true e = absurd cc
by_comma low (l ∷ ls) true e = ap (λ b. either_reader b (λ all. took l.place ls) (λ all. wrong all) (l ∷ ls) and_then λ _ rest. low.domain set_operations rest) (sym e)
by_comma low ls false e = refl

behind_is : (low : Lower) (ls : List Lexeme) → index_domain_behind low ls ≡ (to_index_domain ls and_then λ _ rest. low.domain set_operations rest)
unfolding index_domain_behind to_index_domain
behind_is low ls = by_comma low ls (says (codes ",") ls) refl

goes_by : (last : DomainTree) (ls : List Lexeme) (b : Bool) → domains_go_on ls ≡ b → another_index_domain last ls ≡ kept b ls
unfolding another_index_domain domains_go_on
goes_by last ls b e = ap (λ c. kept c ls) e

domains_end : (last : DomainTree) → another_index_domain last [] ≡ None
unfolding another_index_domain matrix_follows says
domains_end last = refl

head_keeps : (ls : List Lexeme) → Holds (λ _ rest. length rest ≤ length ls) (matrix_head_from ls)
unfolding matrix_head_from
head_keeps ls =
    holds_then (λ _ rest. length rest < length ls) (λ _ rest. length rest ≤ length ls) (word_from (codes "indexed") ls) _ (word_shortens (codes "indexed") ls)
    (λ _ by h. holds_then (λ _ rest. length rest < length by) (λ _ rest. length rest ≤ length ls) (word_from (codes "by") by) _ (word_shortens (codes "by") by)
    (λ _ bracket k. record { holds = λ x rest is. let s = (word_shortens (codes "[") bracket).holds x rest is in omega (arith, h, k, s) }))

to_keeps : (ls : List Lexeme) → Holds (λ _ rest. length rest ≤ length ls) (to_index_domain ls)
unfolding to_index_domain
to_keeps ls =
    holds_chosen (λ _ rest. length rest ≤ length ls) (says (codes ",") ls) _ _ ls
    (λ _. record { holds = λ x rest is. let s = (word_shortens (codes ",") ls).holds x rest is in omega (arith, s) })
    (λ _. record { holds = λ x rest is. let s = (head_keeps (behind (behind (behind ls)))).holds x rest is in omega (arith, s, behind_short ls, behind_short (behind ls), behind_short (behind (behind ls))) })

behind_shortens : (most : ℕ) (ls : List Lexeme) → Shortens ls (index_domain_behind (lower most) ls)
behind_shortens most ls =
    subst (λ r. Shortens ls r) (sym (behind_is (lower most) ls))
    (holds_then (λ _ rest. length rest ≤ length ls) (λ _ rest. length rest < length ls) (to_index_domain ls) _ (to_keeps ls)
    (λ _ rest h. record { holds = λ x end is. let s = (domain_shortens most rest).holds x end is in omega (arith, s, h) }))

domains_shrink : (most : ℕ) (last : DomainTree) (ls next : List Lexeme) (x : DomainTree) (rest : List Lexeme) → another_index_domain last ls ≡ Some next → index_domain_behind (lower most) next ≡ took x rest → length rest < length ls
unfolding another_index_domain
domains_shrink most last ls next x rest o e =
    let is : length next ≡ length ls = ap length (kept_is _ ls next o) in
    let s = (behind_shortens most next).holds x rest e in omega (arith, is, s)

pub domains_begin : (most : ℕ) (ds : Domains) (ls : List Lexeme) → ds.items.items ≡ [] → continued (map domain_tree ds.items.items) (index_domains_from (lower most) ls) ≡ index_domains_from (lower most) ls
domains_begin most ds ls none = ap (λ xs. continued (map domain_tree xs) (index_domains_from (lower most) ls)) none ∙ continued_none (index_domains_from (lower most) ls)

-- a domain is refused
pub domains_fail : (most : ℕ) (done : List DomainTree) (ls new begin : List Lexeme) (e : Stop) → continued done (index_domains_from (lower most) ls) ≡ index_domains_from (lower most) begin
    → StopsReading e new ((lower most).domain set_operations ls) → StopsReading e new (index_domains_from (lower most) begin)
unfolding index_domains_from
domains_fail most done ls new begin e inv s =
    first_fails another_index_domain (λ last. index_domain_behind (lower most)) domains_end (domains_shrink most) done ((lower most).domain set_operations ls) (index_domains_from (lower most) begin) new e inv s

pub pushed_domains : (old new : List Domain) (d : Domain) → new ≡ old ++ d ∷ [] → map domain_tree new ≡ map domain_tree old ++ domain_tree d ∷ []
pushed_domains old new d h = ap (λ ds. map domain_tree ds) h ∙ map_more domain_tree old d

-- the turn behind a domain, where domains go on
turn_on : (most : ℕ) (done all : List DomainTree) (d : DomainTree) (ls mid begin : List Lexeme) → continued done (index_domains_from (lower most) ls) ≡ index_domains_from (lower most) begin
    → (lower most).domain set_operations ls ≡ took d mid → all ≡ done ++ d ∷ [] → domains_go_on mid ≡ true
    → continued all ((to_index_domain mid and_then λ _ rest. (lower most).domain set_operations rest) and_then λ x rest. others_from another_index_domain (λ last. index_domain_behind (lower most)) x rest and_then λ xs end. took (x ∷ xs) end)
    ≡ index_domains_from (lower most) begin
unfolding index_domains_from
turn_on most done all d ls mid begin inv e t o =
    ap (λ xs. continued xs ((to_index_domain mid and_then λ _ rest. (lower most).domain set_operations rest) and_then λ x rest. others_from another_index_domain (λ last. index_domain_behind (lower most)) x rest and_then λ xs end. took (x ∷ xs) end)) t
    ∙ ap (λ r. continued (done ++ d ∷ []) (r and_then λ x rest. others_from another_index_domain (λ last. index_domain_behind (lower most)) x rest and_then λ xs end. took (x ∷ xs) end)) (sym (behind_is (lower most) mid))
    ∙ first_goes another_index_domain (λ last. index_domain_behind (lower most)) domains_end (domains_shrink most) done ((lower most).domain set_operations ls) (index_domains_from (lower most) begin) d mid mid inv e (goes_by d mid true o)

-- whether domains go on, once it is known
pub passes_at : (b c : Bool) (old new : List Lexeme) → b ≡ c → PassesTo (Ok b) old new → PassesTo (Ok c) old new
passes_at b c old new e p = subst (λ x. PassesTo (Ok x) old new) e p

-- what stands before a further domain is refused
pub passing_fails : (most : ℕ) (done all : List DomainTree) (d : DomainTree) (ls mid new begin : List Lexeme) (e : Stop) → continued done (index_domains_from (lower most) ls) ≡ index_domains_from (lower most) begin
    → (lower most).domain set_operations ls ≡ took d mid → all ≡ done ++ d ∷ [] → PassesTo (Err e) mid new → StopsReading e new (index_domains_from (lower most) begin)
passing_fails most done all d ls mid new begin e inv is t p =
    stops_as e new _ _ (sym (turn_on most done all d ls mid begin inv is t p.0))
    (stops_then e new _ (λ ys end. took (all ++ ys) end) (stops_then e new _ (λ x rest. others_from another_index_domain (λ last. index_domain_behind (lower most)) x rest and_then λ xs end. took (x ∷ xs) end)
    (stops_then e new _ (λ _ rest. (lower most).domain set_operations rest) p.1)))

pub domains_last : (most : ℕ) (done all : List DomainTree) (d : DomainTree) (ls mid new begin : List Lexeme) → continued done (index_domains_from (lower most) ls) ≡ index_domains_from (lower most) begin
    → (lower most).domain set_operations ls ≡ took d mid → all ≡ done ++ d ∷ [] → PassesTo (Ok false) mid new → index_domains_from (lower most) begin ≡ took all new
unfolding index_domains_from
domains_last most done all d ls mid new begin inv is t p =
    first_ends another_index_domain (λ last. index_domain_behind (lower most)) domains_end (domains_shrink most) done ((lower most).domain set_operations ls) (index_domains_from (lower most) begin) d mid inv is (goes_by d mid false p.0)
    ∙ ap (λ xs. took xs mid) (sym t) ∙ ap (λ k. took all k) (sym p.1)

pub domains_go : (most : ℕ) (done all : List DomainTree) (d : DomainTree) (ls mid new begin : List Lexeme) → continued done (index_domains_from (lower most) ls) ≡ index_domains_from (lower most) begin
    → (lower most).domain set_operations ls ≡ took d mid → all ≡ done ++ d ∷ [] → PassesTo (Ok true) mid new → continued all (index_domains_from (lower most) new) ≡ index_domains_from (lower most) begin
unfolding index_domains_from
domains_go most done all d ls mid new begin inv is t p =
    ap (λ r. continued all ((r and_then λ _ rest. (lower most).domain set_operations rest) and_then λ x rest. others_from another_index_domain (λ last. index_domain_behind (lower most)) x rest and_then λ xs end. took (x ∷ xs) end)) (sym p.2)
    ∙ turn_on most done all d ls mid begin inv is t p.0

pub domains_smaller : (most : ℕ) (d : DomainTree) (ls mid new : List Lexeme) → (lower most).domain set_operations ls ≡ took d mid → PassesTo (Ok true) mid new → length new < length ls
domains_smaller most d ls mid new is p =
    let s = (domain_shortens most ls).holds d mid is in let k = (to_keeps mid).holds p.1 new p.2 in omega (arith, s, k)

same_behind : {A B : Type 0} (r : Read A) (f g : A → Reader B) → ((x : A) (ls : List Lexeme) → f x ls ≡ g x ls) → (r and_then f) ≡ (r and_then g)
same_behind (took x ls) f g h = h x ls
same_behind (wrong ls) f g h = refl
same_behind (high ls) f g h = refl

matrix_is : (low : Lower) (p : Place) (ls : List Lexeme) → matrix_from low p ls ≡ (matrix_head_from ls and_then λ _ first. index_domains_from low first and_then λ ds end. elements_from low p (as_domains ds) end)
unfolding matrix_from index_domains_from elements_from
matrix_is low p ls =
    same_behind (matrix_head_from ls) _ _
    (λ _ first. regrouped (low.domain set_operations first) (λ d rest. others_from another_index_domain (λ last. index_domain_behind low) d rest)
    (λ ds end. word_from (codes "]") end and_then λ _ of_word. word_from (codes "of") of_word and_then λ _ elements. low.domain set_operations elements and_then λ element after. took (matrix_domain p (as_domains ds) element) after))

pub head_fails : (low : Lower) (p : Place) (ls new : List Lexeme) (e : Stop) → StopsReading e new (matrix_head_from ls) → StopsReading e new (matrix_from low p ls)
head_fails low p ls new e s = stops_as e new _ _ (matrix_is low p ls) (stops_then e new _ _ s)

pub index_domains_fail : (low : Lower) (p q : Place) (ls first new : List Lexeme) (e : Stop) → matrix_head_from ls ≡ took q first → StopsReading e new (index_domains_from low first) → StopsReading e new (matrix_from low p ls)
index_domains_fail low p q ls first new e h s =
    stops_as e new _ _ (matrix_is low p ls ∙ ap (λ r. r and_then λ _ first. index_domains_from low first and_then λ ds end. elements_from low p (as_domains ds) end) h) (stops_then e new _ _ s)

pub matrix_read : (low : Lower) (p q : Place) (ds : Domains) (ls first mid new : List Lexeme) (result : Result FoundDomain Stop) → matrix_head_from ls ≡ took q first → DomainsGiven ds mid (index_domains_from low first)
    → FindsDomain result new (elements_from low p (domains_of ds.items.items) mid) → FindsDomain result new (matrix_from low p ls)
matrix_read low p q ds ls first mid new result h g f =
    domain_finds_as result new _ _
    (matrix_is low p ls ∙ ap (λ r. r and_then λ _ first. index_domains_from low first and_then λ ds end. elements_from low p (as_domains ds) end) h
    ∙ ap (λ r. r and_then λ ds end. elements_from low p (as_domains ds) end) g.is
    ∙ ap (λ xs. elements_from low p xs mid) (as_domains_of ds.items.items)) f

-- ---- what stands before a further index domain

go_on : (ls : List Lexeme) (b c : Bool) → says (codes ",") ls ≡ b → matrix_follows ls ≡ c → domains_go_on ls ≡ (b || c)
unfolding domains_go_on
go_on ls b c e m = ap (λ x. x || matrix_follows ls) e ∙ ap (λ x. b || x) m

to_by : (ls : List Lexeme) (b : Bool) → says (codes ",") ls ≡ b → to_index_domain ls ≡ either_reader b (word_from (codes ",")) (λ all. matrix_head_from (behind (behind (behind all)))) ls
unfolding to_index_domain
to_by ls b e = ap (λ x. either_reader x (word_from (codes ",")) (λ all. matrix_head_from (behind (behind (behind all)))) ls) e

pub comma_passed : (ls new : List Lexeme) (p : Place) → true ≡ says (codes ",") ls → word_from (codes ",") ls ≡ took p new → PassesTo (Ok true) ls new
comma_passed ls new p e w = (go_on ls true (matrix_follows ls) (sym e) refl, p, to_by ls true (sym e) ∙ w)

pub comma_refused : (ls new : List Lexeme) (k : Stop) → true ≡ says (codes ",") ls → StopsReading k new (word_from (codes ",") ls) → PassesTo (Err k) ls new
comma_refused ls new k e w = (go_on ls true (matrix_follows ls) (sym e) refl, stops_as k new _ _ (to_by ls true (sym e)) w)

pub nothing_passed : (ls : List Lexeme) → false ≡ says (codes ",") ls → false ≡ matrix_follows ls → PassesTo (Ok false) ls ls
nothing_passed ls e m = (go_on ls false false (sym e) (sym m), refl)

pub head_passed : (ls one two three new : List Lexeme) (p : Place) → false ≡ says (codes ",") ls → true ≡ matrix_follows ls → one ≡ behind ls → two ≡ behind one → three ≡ behind two → matrix_head_from three ≡ took p new → PassesTo (Ok true) ls new
head_passed ls one two three new p e m a b c h =
    (go_on ls false true (sym e) (sym m), p, to_by ls false (sym e) ∙ ap matrix_head_from (sym (c ∙ ap (λ x. behind x) (b ∙ ap (λ x. behind x) a))) ∙ h)

pub head_refused : (ls one two three new : List Lexeme) (k : Stop) → false ≡ says (codes ",") ls → true ≡ matrix_follows ls → one ≡ behind ls → two ≡ behind one → three ≡ behind two → StopsReading k new (matrix_head_from three) → PassesTo (Err k) ls new
head_refused ls one two three new k e m a b c h =
    (go_on ls false true (sym e) (sym m), stops_as k new _ _ (to_by ls false (sym e) ∙ ap matrix_head_from (sym (c ∙ ap (λ x. behind x) (b ∙ ap (λ x. behind x) a)))) h)
