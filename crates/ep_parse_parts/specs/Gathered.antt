-- Parts that were read one after another: what was read, and what is counted of it.
use Rattle.std.specs.Prelude.{◌≡◌, ◌||◌, Bool, true, false, codes, List, [], ◌∷◌, ◌++◌, Option, Some, None, Result, Ok, Err, map}
use Rattle.std.specs.declared.boxed.Box.{Box}
use Rattle.std.specs.declared.alloc.Global.{Global}
use Rattle.ep_base.specs.declared.places.Place.{Place}
use Rattle.ep_parse_parts.specs.Cursors.{StopsReading}
use Rattle.ep_parse_parts.specs.DomainReaders.{RangeRead, another_index_domain, index_domain_behind, matrix_follows, matrix_head_from, of_number, of_span, range_from}
use Rattle.ep_parse_parts.specs.Founds.{told}
use Rattle.ep_parse_parts.specs.OperandReaders as readers
use Rattle.ep_parse_parts.specs.OperandReaders.{Lower, another_generator, expression_next, generator_from}
use Rattle.ep_parse_parts.specs.OperatorReaders as operators
use Rattle.ep_parse_parts.specs.OperatorReaders.{another_index, as_indices, index_from}
use Rattle.ep_parse_parts.specs.Readers.{Read, Reader, behind, behind_comma, either_reader, others_from, says, took, word_from, ◌and_then◌}
use Rattle.ep_parse_parts.specs.declared.cursor.Stop.{Stop}
use Rattle.ep_parse_parts.specs.declared.cursor.Stop.TheVariants.{Memory}
use Rattle.ep_parse_parts.specs.declared.parts.Domains.{Domains}
use Rattle.ep_parse_parts.specs.declared.parts.End.{End}
use Rattle.ep_parse_parts.specs.declared.parts.Generators.{Generators}
use Rattle.ep_parse_parts.specs.declared.parts.Index.{Index}
use Rattle.ep_parse_parts.specs.declared.parts.Indices.{Indices}
use Rattle.ep_parse_parts.specs.declared.parts.Parts.{Parts}
use Rattle.ep_parse_parts.specs.declared.parts.Ranges.{Ranges}
use Rattle.ep_parse_parts.specs.declared.parts.Terms.{Terms}
use Rattle.ep_tree.specs.Heights.{end_height, highest, highest_domain, highest_generator, highest_index, highest_range, highest_term, index_height}
use Rattle.ep_tree.specs.Phrases.{Lexeme}
use Rattle.ep_tree.specs.Spelling.{has_every, implications, set_operations, terms_end_open, trees_end_open}
use Rattle.ep_tree.specs.Trees.{DomainTree, IndexDomain, end_at, matrix_domain, no_end, over, unstated}
use Rattle.ep_tree.specs.Trees as trees
use Rattle.ep_tree.specs.Views.{domain_tree, domains_of, expr_tree, expr_trees, generators_of, held_end, indices_of, kind_tree, ranges_of, terms_of}
use Rattle.ep_tree.specs.declared.syntax.Domain.{Domain}
use Rattle.ep_tree.specs.declared.syntax.Expr.{Expr}
use Rattle.ep_tree.specs.declared.syntax.Generator.{Generator}
use Rattle.ep_tree.specs.declared.syntax.Range.{Range, One', Span'}

-- a fact that holds if memory was there
abbrev pub OrMemory : {A : Type 0} → Result A Stop → Type 0 → Type 0
OrMemory (Ok x) fact = fact
OrMemory (Err e) fact = e ≡ Memory

-- ---- what is counted

-- The height of the highest expression is counted, and how the last ends.
pub record PartsCount (parts : Parts) : Type 0 where
  pub high : parts.highest ≡ told (highest (expr_trees parts.items.items))
  pub ends : parts.ends_open ≡ trees_end_open (expr_trees parts.items.items)

-- the same of terms
pub record TermsCount (terms : Terms) : Type 0 where
  pub high : terms.highest ≡ told (highest_term (terms_of terms.items.items))
  pub ends : terms.ends_open ≡ terms_end_open (terms_of terms.items.items)

-- The height of the highest index is counted, and whether a `..` is among them.
pub record IndicesCount (indices : Indices) : Type 0 where
  pub high : indices.highest ≡ told (highest_index (indices_of indices.items.items))
  pub every : indices.has_every ≡ has_every (indices_of indices.items.items)

-- The height of the highest domain is counted.
pub record DomainsCount (domains : Domains) : Type 0 where
  pub high : domains.highest ≡ told (highest_domain (domains_of domains.items.items))

-- The height of the highest end is counted.
pub record RangesCount (ranges : Ranges) : Type 0 where
  pub high : ranges.highest ≡ told (highest_range (ranges_of ranges.items.items))

-- The height of the highest domain of a generator is counted.
pub record GeneratorsCount (generators : Generators) : Type 0 where
  pub high : generators.highest ≡ told (highest_generator (generators_of generators.items.items))

-- the domain of a list's indices, where one is written
unfoldable pub index_tree : Option (Box Domain Global) → IndexDomain
index_tree None = unstated
index_tree (Some d) = over (domain_tree d.value)

-- The height of the domain of a list's indices is counted.
pub record IndexCount (index : Index) : Type 0 where
  pub high : index.height ≡ told (index_height (index_tree index.domain))

-- This domain of indices was made, if memory was there.
pub record ShowsIndex (index : Index) (tree : IndexDomain) : Type 0 where
  pub is : index_tree index.domain ≡ tree
  pub counted : IndexCount index

abbrev pub MakesIndex : Result Index Stop → IndexDomain → Type 0
MakesIndex (Ok index) tree = ShowsIndex index tree
MakesIndex (Err e) tree = e ≡ Memory

-- an end of a range
unfoldable pub end_tree : Option Expr → trees.End
end_tree None = no_end
end_tree (Some e) = end_at (expr_tree e)

-- The height of an end is counted.
pub record EndCount (last : End) : Type 0 where
  pub high : last.height ≡ told (end_height (end_tree last.end))

-- ---- what was read

-- Behind what was there, these are all that a reader gives.
pub record Gathered {A : Type 0} (done all : List A) (left : List Lexeme) (read : Read (List A)) : Type 0 where
  pub more : List A
  pub is : read ≡ took more left
  pub together : all ≡ done ++ more

-- A function added to a list what a reader gives, and the tokens that are left are those that the reader leaves or names.
abbrev pub Gathers : {X A : Type 0} → Result X Stop → List A → List A → List Lexeme → Read (List A) → Type 0
Gathers (Ok x) done all left read = Gathered done all left read
Gathers (Err e) done all left read = StopsReading e left read

-- Behind what was there, this is what a reader gives.
pub record Added {A : Type 0} (done all : List A) (left : List Lexeme) (read : Read A) : Type 0 where
  pub one : A
  pub is : read ≡ took one left
  pub together : all ≡ done ++ one ∷ []

-- the same, where a function added one item
abbrev pub Adds : {X A : Type 0} → Result X Stop → List A → List A → List Lexeme → Read A → Type 0
Adds (Ok x) done all left read = Added done all left read
Adds (Err e) done all left read = StopsReading e left read

-- the domain of a list's indices is what a reader gives
abbrev pub FindsIndex : Result Index Stop → List Lexeme → Read IndexDomain → Type 0
FindsIndex (Ok index) left read = (read ≡ took (index_tree index.domain) left) × IndexCount index
FindsIndex (Err e) left read = StopsReading e left read

-- an end of a range is what a reader gives
abbrev pub FindsEnd : Result End Stop → List Lexeme → Read trees.End → Type 0
FindsEnd (Ok last) left read = (read ≡ took (end_tree last.end) left) × EndCount last
FindsEnd (Err e) left read = StopsReading e left read

-- a range as it is read
unfoldable pub range_read : Range → RangeRead
range_read (One' q e) = of_number (kind_tree q e)
range_read (Span' a b) = of_span (held_end a) (held_end b)

-- a generator as it is read
abbrev pub as_read : Generator → readers.Generator
as_read g = (g.names.items, domain_tree g.domain)

-- Behind the indices that were there, this is what a reader gives.
pub record IndexAdded (old new : Indices) (left : List Lexeme) (read : Read operators.ReadIndex) : Type 0 where
  pub one : operators.ReadIndex
  pub is : read ≡ took one left
  pub came : one.0 ≡ new.has_every
  pub together : (front : List operators.ReadIndex) → as_indices front ≡ indices_of old.items.items → as_indices (front ++ one ∷ []) ≡ indices_of new.items.items
  pub counted : IndicesCount new

abbrev pub AddsIndex : {X : Type 0} → Result X Stop → Indices → Indices → List Lexeme → Read operators.ReadIndex → Type 0
AddsIndex (Ok x) old new left read = IndexAdded old new left read
AddsIndex (Err e) old new left read = StopsReading e left read

-- These indices are all that a reader gives.
pub record IndicesGiven (indices : Indices) (left : List Lexeme) (read : Read (List operators.ReadIndex)) : Type 0 where
  pub all : List operators.ReadIndex
  pub is : read ≡ took all left
  pub same : as_indices all ≡ indices_of indices.items.items
  pub counted : IndicesCount indices

abbrev pub GivesIndices : Result Indices Stop → List Lexeme → Read (List operators.ReadIndex) → Type 0
GivesIndices (Ok indices) left read = IndicesGiven indices left read
GivesIndices (Err e) left read = StopsReading e left read

-- These generators are all that a reader gives.
pub record GeneratorsGiven (generators : Generators) (left : List Lexeme) (read : Read (List readers.Generator)) : Type 0 where
  pub is : read ≡ took (map as_read generators.items.items) left
  pub counted : GeneratorsCount generators

abbrev pub GivesGenerators : Result Generators Stop → List Lexeme → Read (List readers.Generator) → Type 0
GivesGenerators (Ok generators) left read = GeneratorsGiven generators left read
GivesGenerators (Err e) left read = StopsReading e left read

-- These ranges are all that a reader gives.
pub record RangesGiven (ranges : Ranges) (left : List Lexeme) (read : Read (List RangeRead)) : Type 0 where
  pub is : read ≡ took (map range_read ranges.items.items) left
  pub counted : RangesCount ranges

abbrev pub GivesRanges : Result Ranges Stop → List Lexeme → Read (List RangeRead) → Type 0
GivesRanges (Ok ranges) left read = RangesGiven ranges left read
GivesRanges (Err e) left read = StopsReading e left read

-- These domains are all that a reader gives.
pub record DomainsGiven (domains : Domains) (left : List Lexeme) (read : Read (List DomainTree)) : Type 0 where
  pub is : read ≡ took (map domain_tree domains.items.items) left
  pub counted : DomainsCount domains

abbrev pub GivesDomains : Result Domains Stop → List Lexeme → Read (List DomainTree) → Type 0
GivesDomains (Ok domains) left read = DomainsGiven domains left read
GivesDomains (Err e) left read = StopsReading e left read

-- ---- whole lists

-- the upper end of a range, where there is one
unfoldable pub upper_from : Lower → Reader trees.End
upper_from low ls =
    either_reader (expression_next ls) (λ all. low.expr implications all and_then λ e rest. took (end_at e) rest) (λ all. took no_end all) ls

-- the ranges of a domain
unfoldable pub all_ranges_from : Lower → Reader (List RangeRead)
all_ranges_from low ls =
    range_from low ls and_then λ r rest. others_from behind_comma (λ last. range_from low) r rest and_then λ rs end. took (r ∷ rs) end

-- whether index domains go on
unfoldable pub domains_go_on : List Lexeme → Bool
domains_go_on ls = says (codes ",") ls || matrix_follows ls

-- what stands before a further index domain
unfoldable pub to_index_domain : Reader Place
to_index_domain ls = either_reader (says (codes ",") ls) (word_from (codes ",")) (λ all. matrix_head_from (behind (behind (behind all)))) ls

-- What was passed before a further index domain, if there is one.
abbrev pub PassesTo : Result Bool Stop → List Lexeme → List Lexeme → Type 0
PassesTo (Ok true) old new = (domains_go_on old ≡ true) × (p : Place) × (to_index_domain old ≡ took p new)
PassesTo (Ok false) old new = (domains_go_on old ≡ false) × (new ≡ old)
PassesTo (Err e) old new = (domains_go_on old ≡ true) × StopsReading e new (to_index_domain old)

-- the index domains of a matrix domain
unfoldable pub index_domains_from : Lower → Reader (List DomainTree)
index_domains_from low ls =
    low.domain set_operations ls and_then λ d rest.
    others_from another_index_domain (λ last. index_domain_behind low) d rest and_then λ ds end. took (d ∷ ds) end

-- what closes the index domains of a matrix domain, and the domain of its elements
unfoldable pub elements_from : Lower → Place → trees.Domains → Reader DomainTree
elements_from low p ds ls =
    word_from (codes "]") ls and_then λ _ of_word. word_from (codes "of") of_word and_then λ _ elements.
    low.domain set_operations elements and_then λ element after. took (matrix_domain p ds element) after

-- the generators of a comprehension
unfoldable pub generators_from : Lower → Reader (List readers.Generator)
generators_from low ls =
    generator_from low ls and_then λ g rest.
    others_from another_generator (λ last. generator_from low) g rest and_then λ gens end. took (g ∷ gens) end

-- the indices of a read; whether a `..` has come is said
unfoldable pub indices_from : Lower → Bool → Reader (List operators.ReadIndex)
indices_from low every ls =
    index_from low every ls and_then λ first rest.
    others_from another_index (λ last. index_from low last.0) first rest and_then λ others end. took (first ∷ others) end
