-- Reading domains, with readers of what is lower by one.
use Rattle.std.specs.Prelude.{ℕ, Bool, true, ◌&&◌, ◌||◌, List, [], ◌∷◌, Option, Some, None, nat_lt, codes}
use Rattle.ep_base.specs.declared.places.Place.{Place}
use Rattle.ep_parse_parts.specs.OperandReaders.{Lower, expression_next, if_low}
use Rattle.ep_parse_parts.specs.OperatorReaders.{operated}
use Rattle.ep_parse_parts.specs.Readers.{Read, Reader, behind, behind_comma, either_reader, grown, kept, looked_up, next_in, others_from, says, took, word_from, wrong, ◌and_then◌}
use Rattle.ep_tree.specs.Heights.{domain_height}
use Rattle.ep_tree.specs.Phrases.{Lexeme, Saying, a_name, a_number, a_word}
use Rattle.ep_tree.specs.Spelling.{DomainLevel, domains, implications, set_operations, set_parts}
use Rattle.ep_tree.specs.Trees.{DomainTree, Domains, End, ExprTree, Ranges, bool, domain_and, end_at, group_domain, int, matrix_domain, named_domain, no_domains, no_end, no_ranges, one_and, place_of_domain, ranges, set_domain, span_and}
use Rattle.ep_tree.specs.declared.syntax.SetOp.{SetOp}

-- a range: its numbers
pub data RangeRead : Type 0 where
  of_number : ExprTree → RangeRead
  of_span : End → End → RangeRead

-- ranges as those of a domain
unfoldable pub as_ranges : List RangeRead → Ranges
as_ranges [] = no_ranges
as_ranges (of_number e ∷ rs) = one_and e (as_ranges rs)
as_ranges (of_span a b ∷ rs) = span_and a b (as_ranges rs)

-- the upper end of a range behind its `..`, where there is one
unfoldable pub end_from : Lower → End → Reader RangeRead
end_from low first ls =
    either_reader (expression_next ls) (λ all. low.expr implications all and_then λ e rest. took (of_span first (end_at e)) rest)
    (λ all. took (of_span first no_end) all) ls

-- a range
unfoldable pub range_from : Lower → Reader RangeRead
range_from low ls =
    either_reader (says (codes "..") ls) (λ all. end_from low no_end (behind all))
    (λ all. low.expr implications all and_then λ e rest.
    either_reader (says (codes "..") rest) (λ next. end_from low (end_at e) (behind next)) (λ next. took (of_number e) next) rest) ls

-- the ranges of a domain behind their bracket
unfoldable pub ranges_from : Lower → Place → Reader DomainTree
ranges_from low p ls =
    range_from low ls and_then λ r rest. others_from behind_comma (λ last. range_from low) r rest and_then λ rs next.
    word_from (codes ")") next and_then λ _ end. took (ranges p (as_ranges (r ∷ rs))) end

-- a word that begins a domain without operations
pub data DomainOpening : Type 0 where
  a_bool : DomainOpening
  an_int : DomainOpening
  a_domain_group : DomainOpening

abbrev pub domain_openings : List (List ℕ × DomainOpening)
domain_openings = (codes "bool", a_bool) ∷ (codes "int", an_int) ∷ (codes "(", a_domain_group) ∷ []

-- a domain that a word begins, with the word and what is behind it
unfoldable pub domain_open_from : Bool → Lower → Place → Option DomainOpening → List Lexeme → Reader DomainTree
domain_open_from low_enough low p None rest all = wrong all
domain_open_from low_enough low p (Some a_bool) rest all = took (bool p) rest
domain_open_from low_enough low p (Some an_int) rest all =
    either_reader (says (codes "(") rest) (λ next. ranges_from low p (behind next)) (λ next. took (int p) next) rest
domain_open_from low_enough low p (Some a_domain_group) rest all =
    if_low low_enough
    (λ _. low.domain set_operations rest and_then λ d next. word_from (codes ")") next and_then λ _ end.
    took (group_domain p d) end) all

-- a domain that a token begins
unfoldable pub domain_begun_from : Bool → Lower → Place → Saying → List Lexeme → Reader DomainTree
domain_begun_from low_enough low p (a_name x) rest all = took (named_domain p x) rest
domain_begun_from low_enough low p (a_number n) rest all = wrong all
domain_begun_from low_enough low p (a_word w) rest all =
    domain_open_from low_enough low p (looked_up domain_openings w) rest all

-- a domain without operations
unfoldable pub domain_part_from : Bool → Lower → Reader DomainTree
domain_part_from low_enough low [] = wrong []
domain_part_from low_enough low (l ∷ ls) = domain_begun_from low_enough low l.place l.saying ls (l ∷ ls)

abbrev pub set_words : List (List ℕ × SetOp)
set_words = (codes "union", SetOp.Union) ∷ (codes "intersect", SetOp.Intersect) ∷ (codes "-", SetOp.Minus) ∷ []

-- one more operation of sets, and its right part
unfoldable pub another_operation : ℕ → Lower → DomainTree → List Lexeme → Option (Read DomainTree)
another_operation most low left ls =
    operated true (next_in set_words ls)
    (λ op. if_low (nat_lt (domain_height left) most)
    (λ all. low.domain set_parts (behind all) and_then λ d rest. took (set_domain (place_of_domain left) op left d) rest) ls)

-- a domain with operations
unfoldable pub operations_from : ℕ → Lower → Reader DomainTree
operations_from most low ls =
    domain_part_from (nat_lt 1 most) low ls and_then grown (another_operation most low)

-- what stands before the index domains of a matrix domain, behind its first word
unfoldable pub matrix_head_from : Reader Place
matrix_head_from ls =
    word_from (codes "indexed") ls and_then λ _ by. word_from (codes "by") by and_then λ _ bracket.
    word_from (codes "[") bracket

-- whether the index domains of another matrix domain follow
unfoldable pub matrix_follows : List Lexeme → Bool
matrix_follows ls = says (codes "]") ls && (says (codes "of") (behind ls) && says (codes "matrix") (behind (behind ls)))

-- index domains go on behind a comma, and in the matrix domain of the elements
unfoldable pub another_index_domain : DomainTree → List Lexeme → Option (List Lexeme)
another_index_domain last ls = kept (says (codes ",") ls || matrix_follows ls) ls

-- a further index domain, with what stands before it
unfoldable pub index_domain_behind : Lower → Reader DomainTree
index_domain_behind low ls =
    either_reader (says (codes ",") ls) (λ all. low.domain set_operations (behind all))
    (λ all. matrix_head_from (behind (behind (behind all))) and_then λ _ rest. low.domain set_operations rest) ls

-- domains as index domains
unfoldable pub as_domains : List DomainTree → Domains
as_domains [] = no_domains
as_domains (d ∷ ds) = domain_and d (as_domains ds)

-- a matrix domain behind its first word
unfoldable pub matrix_from : Lower → Place → Reader DomainTree
matrix_from low p ls =
    matrix_head_from ls and_then λ _ first. low.domain set_operations first and_then λ d rest.
    others_from another_index_domain (λ last. index_domain_behind low) d rest and_then λ ds end.
    word_from (codes "]") end and_then λ _ of_word. word_from (codes "of") of_word and_then λ _ elements.
    low.domain set_operations elements and_then λ element after. took (matrix_domain p (as_domains (d ∷ ds)) element) after

-- the place of the next token
abbrev pub place_next : List Lexeme → Place
place_next [] = record { line = 0; column = 0 }
place_next (l ∷ ls) = l.place

-- any domain
unfoldable pub any_domain_from : ℕ → Lower → Reader DomainTree
any_domain_from most low ls =
    either_reader (says (codes "matrix") ls) (if_low (nat_lt 1 most) (λ all. matrix_from low (place_next all) (behind all)))
    (operations_from most low) ls

-- a domain where a level is asked for
unfoldable pub domain_at_level : ℕ → Lower → DomainLevel → Reader DomainTree
domain_at_level most low domains = any_domain_from most low
domain_at_level most low set_operations = operations_from most low
domain_at_level most low set_parts = domain_part_from (nat_lt 1 most) low
