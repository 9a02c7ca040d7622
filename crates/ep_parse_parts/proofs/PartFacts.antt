-- What is counted of parts, where there is one more behind them.
use Rattle.std.specs.Prelude.{◌≡◌, ◌+◌, ℕ, max, Bool, true, false, List, [], ◌∷◌, ◌++◌, Option, Some, None, map, if◌then◌else◌, refl}
use Rattle.std.proofs.Common.{ap, arith, sym, subst, ◌∙◌}
use Rattle.std.specs.declared.boxed.Box.{Box}
use Rattle.std.specs.declared.alloc.Global.{Global}
use Rattle.ep_parse_parts.specs.DomainReaders.{RangeRead, as_domains, as_ranges, of_number, of_span}
use Rattle.ep_parse_parts.specs.Founds.{Measured, MeasuredDomain, told}
use Rattle.ep_parse_parts.specs.Gathered.{DomainsCount, EndCount, GeneratorsCount, IndicesCount, PartsCount, RangesCount, TermsCount, as_read, end_tree, index_tree, range_read}
use Rattle.ep_parse_parts.specs.OperandReaders as readers
use Rattle.ep_parse_parts.specs.OperandReaders.{as_generators, as_trees}
use Rattle.ep_parse_parts.specs.OperatorReaders.{as_indices, as_terms}
use Rattle.ep_parse_parts.specs.OperatorReaders as operators
use Rattle.ep_parse_parts.specs.declared.found.Found.{Found}
use Rattle.ep_parse_parts.specs.declared.found.FoundDomain.{FoundDomain}
use Rattle.ep_parse_parts.specs.declared.parts.Domains.{Domains}
use Rattle.ep_parse_parts.specs.declared.parts.Generators.{Generators}
use Rattle.ep_parse_parts.specs.declared.parts.Indices.{Indices}
use Rattle.ep_parse_parts.specs.declared.parts.Parts.{Parts}
use Rattle.ep_parse_parts.specs.declared.parts.Ranges.{Ranges}
use Rattle.ep_parse_parts.specs.declared.parts.Terms.{Terms}
use Rattle.ep_tree.proofs.ViewLemmas.{index_of, with_range-one, with_range-span}
use Rattle.ep_tree.specs.Heights.{domain_height, end_height, height, highest, highest_domain, highest_generator, highest_index, highest_range, highest_term, index_height}
use Rattle.ep_tree.specs.Spelling.{ends_open, has_every, has_terms, has_trees, terms_end_open, trees_end_open}
use Rattle.ep_tree.specs.Trees as trees
use Rattle.ep_tree.specs.Trees.{domain_and, every_and, generator_and, index_and, no_domains, no_generators, no_indices, no_ranges, no_terms, no_trees, one_and, span_and, term_and, tree_and}
use Rattle.ep_tree.specs.Views.{domain_tree, domains_of, end_of, expr_tree, expr_trees, generators_of, indices_of, ranges_of, terms_of, with_range}
use Rattle.ep_tree.specs.declared.syntax.Domain.{Domain}
use Rattle.ep_tree.specs.declared.syntax.Expr.{Expr}
use Rattle.ep_tree.specs.declared.syntax.Generator.{Generator}
use Rattle.ep_tree.specs.declared.syntax.Range.{Range, One, One', Span, Span'}

pub map_more : {A B : Type 0} (f : A → B) (xs : List A) (x : A) → map f (xs ++ x ∷ []) ≡ map f xs ++ f x ∷ []
map_more f [] x = refl
map_more f (y ∷ ys) x = ap (λ zs. f y ∷ zs) (map_more f ys x)

-- ---- expressions

highest_more : (es : List Expr) (e : Expr) → highest (expr_trees (es ++ e ∷ [])) ≡ max (highest (expr_trees es)) (height (expr_tree e))
unfolding highest expr_trees
highest_more [] e = omega arith
highest_more (x ∷ es) e = let h = highest_more es e in omega (arith, h)

has_more : (es : List Expr) (e : Expr) → has_trees (expr_trees (es ++ e ∷ [])) ≡ true
unfolding has_trees expr_trees
has_more [] e = refl
has_more (x ∷ es) e = refl

pub ends_more : (es : List Expr) (e : Expr) → trees_end_open (expr_trees (es ++ e ∷ [])) ≡ ends_open (expr_tree e)
unfolding trees_end_open expr_trees has_trees
ends_more [] e = refl
ends_more (x ∷ es) e = ap (λ b. if b then trees_end_open (expr_trees (es ++ e ∷ [])) else ends_open (expr_tree x)) (has_more es e) ∙ ends_more es e

pub parts_pushed : (old new : Parts) (found : Found) → PartsCount old → Measured found → new.items.items ≡ old.items.items ++ found.expr ∷ []
    → new.highest ≡ told (max (highest (expr_trees old.items.items)) (height (expr_tree found.expr))) → new.ends_open ≡ found.ends_open → PartsCount new
parts_pushed old new found counted measured more high ends =
    record {
      high = high ∙ ap told (sym (highest_more old.items.items found.expr)) ∙ ap (λ es. told (highest (expr_trees es))) (sym more);
      ends = ends ∙ measured.ends ∙ sym (ends_more old.items.items found.expr) ∙ ap (λ es. trees_end_open (expr_trees es)) (sym more);
    }

-- no expression
pub no_parts_counted : (es : List Expr) → es ≡ [] → (0 ≡ told (highest (expr_trees es))) × (false ≡ trees_end_open (expr_trees es))
unfolding told highest expr_trees trees_end_open
no_parts_counted es e = (sym (ap (λ xs. told (highest (expr_trees xs))) e), sym (ap (λ xs. trees_end_open (expr_trees xs)) e))

pub as_expr_trees : (es : List Expr) → as_trees (map expr_tree es) ≡ expr_trees es
unfolding as_trees expr_trees
as_expr_trees [] = refl
as_expr_trees (e ∷ es) = ap (λ ts. tree_and (expr_tree e) ts) (as_expr_trees es)

-- ---- terms

highest_term_more : (ts : List (Bool × Expr)) (plus : Bool) (e : Expr) → highest_term (terms_of (ts ++ (plus, e) ∷ [])) ≡ max (highest_term (terms_of ts)) (height (expr_tree e))
unfolding highest_term terms_of
highest_term_more [] plus e = omega arith
highest_term_more (t ∷ ts) plus e = let h = highest_term_more ts plus e in omega (arith, h)

has_term_more : (ts : List (Bool × Expr)) (t : Bool × Expr) → has_terms (terms_of (ts ++ t ∷ [])) ≡ true
unfolding has_terms terms_of
has_term_more [] t = refl
has_term_more (x ∷ ts) t = refl

pub terms_end_more : (ts : List (Bool × Expr)) (plus : Bool) (e : Expr) → terms_end_open (terms_of (ts ++ (plus, e) ∷ [])) ≡ ends_open (expr_tree e)
unfolding terms_end_open terms_of has_terms
terms_end_more [] plus e = refl
terms_end_more (t ∷ ts) plus e =
    ap (λ b. if b then terms_end_open (terms_of (ts ++ (plus, e) ∷ [])) else ends_open (expr_tree t.1)) (has_term_more ts (plus, e)) ∙ terms_end_more ts plus e

pub terms_pushed : (old new : Terms) (found : Found) (plus : Bool) → TermsCount old → Measured found → new.items.items ≡ old.items.items ++ (plus, found.expr) ∷ []
    → new.highest ≡ told (max (highest_term (terms_of old.items.items)) (height (expr_tree found.expr))) → new.ends_open ≡ found.ends_open → TermsCount new
terms_pushed old new found plus counted measured more high ends =
    record {
      high = high ∙ ap told (sym (highest_term_more old.items.items plus found.expr)) ∙ ap (λ ts. told (highest_term (terms_of ts))) (sym more);
      ends = ends ∙ measured.ends ∙ sym (terms_end_more old.items.items plus found.expr) ∙ ap (λ ts. terms_end_open (terms_of ts)) (sym more);
    }

-- no term
pub no_terms_counted : (ts : List (Bool × Expr)) → ts ≡ [] → (0 ≡ told (highest_term (terms_of ts))) × (false ≡ terms_end_open (terms_of ts))
unfolding told highest_term terms_of terms_end_open
no_terms_counted ts e = (sym (ap (λ xs. told (highest_term (terms_of xs))) e), sym (ap (λ xs. terms_end_open (terms_of xs)) e))

-- a term as it is read
abbrev pub term_read : Bool × Expr → operators.Term
term_read t = (t.0, expr_tree t.1)

pub as_terms_of : (ts : List (Bool × Expr)) → as_terms (map term_read ts) ≡ terms_of ts
unfolding as_terms terms_of
as_terms_of [] = refl
as_terms_of (t ∷ ts) = ap (λ us. term_and t.0 (expr_tree t.1) us) (as_terms_of ts)

-- ---- indices

-- indices, with one more behind them
unfoldable pub index_last : trees.Indices → Option trees.ExprTree → trees.Indices
index_last no_indices None = every_and no_indices
index_last no_indices (Some e) = index_and e no_indices
index_last (every_and is) i = every_and (index_last is i)
index_last (index_and x is) i = index_and x (index_last is i)

pub indices_more : (is : List (Option Expr)) → ((e : Expr) → indices_of (is ++ Some e ∷ []) ≡ index_last (indices_of is) (Some (expr_tree e)))
unfolding indices_of index_last
indices_more [] e = refl
indices_more (None ∷ is) e = ap (λ xs. every_and xs) (indices_more is e)
indices_more (Some x ∷ is) e = ap (λ xs. index_and (expr_tree x) xs) (indices_more is e)

pub indices_every : (is : List (Option Expr)) → indices_of (is ++ None ∷ []) ≡ index_last (indices_of is) None
unfolding indices_of index_last
indices_every [] = refl
indices_every (None ∷ is) = ap (λ xs. every_and xs) (indices_every is)
indices_every (Some x ∷ is) = ap (λ xs. index_and (expr_tree x) xs) (indices_every is)

pub as_indices_more : (is : List operators.ReadIndex) (every : Bool) (i : Option trees.ExprTree) → as_indices (is ++ (every, i) ∷ []) ≡ index_last (as_indices is) i
unfolding as_indices index_last
as_indices_more [] every None = refl
as_indices_more [] every (Some e) = refl
as_indices_more ((b, None) ∷ is) every i = ap (λ xs. every_and xs) (as_indices_more is every i)
as_indices_more ((b, Some x) ∷ is) every i = ap (λ xs. index_and x xs) (as_indices_more is every i)

-- no index
pub no_indices_counted : (is : List (Option Expr)) → is ≡ [] → (0 ≡ told (highest_index (indices_of is))) × (false ≡ has_every (indices_of is))
unfolding told highest_index indices_of has_every
no_indices_counted is e = (sym (ap (λ xs. told (highest_index (indices_of xs))) e), sym (ap (λ xs. has_every (indices_of xs)) e))

highest_last : (is : trees.Indices) (e : trees.ExprTree) → highest_index (index_last is (Some e)) ≡ max (highest_index is) (height e)
unfolding highest_index index_last
highest_last no_indices e = omega arith
highest_last (every_and is) e = highest_last is e
highest_last (index_and x is) e = let h = highest_last is e in omega (arith, h)

highest_last_every : (is : trees.Indices) → highest_index (index_last is None) ≡ highest_index is
unfolding highest_index index_last
highest_last_every no_indices = refl
highest_last_every (every_and is) = highest_last_every is
highest_last_every (index_and x is) = ap (λ h. max (height x) h) (highest_last_every is)

every_last : (is : trees.Indices) (e : trees.ExprTree) → has_every (index_last is (Some e)) ≡ has_every is
unfolding has_every index_last
every_last no_indices e = refl
every_last (every_and is) e = refl
every_last (index_and x is) e = every_last is e

every_last_every : (is : trees.Indices) → has_every (index_last is None) ≡ true
unfolding has_every index_last
every_last_every no_indices = refl
every_last_every (every_and is) = refl
every_last_every (index_and x is) = every_last_every is

pub index_pushed : (old new : Indices) (found : Found) → IndicesCount old → new.items.items ≡ old.items.items ++ Some found.expr ∷ []
    → new.highest ≡ told (max (highest_index (indices_of old.items.items)) (height (expr_tree found.expr))) → new.has_every ≡ old.has_every → IndicesCount new
index_pushed old new found counted more high every =
    let is = ap (λ xs. indices_of xs) more ∙ indices_more old.items.items found.expr in
    record {
      high = high ∙ ap told (sym (highest_last (indices_of old.items.items) (expr_tree found.expr))) ∙ ap (λ xs. told (highest_index xs)) (sym is);
      every = every ∙ counted.every ∙ sym (every_last (indices_of old.items.items) (expr_tree found.expr)) ∙ ap (λ xs. has_every xs) (sym is);
    }

pub every_pushed : (old new : Indices) → IndicesCount old → new.items.items ≡ old.items.items ++ None ∷ [] → new.highest ≡ old.highest → new.has_every ≡ true → IndicesCount new
every_pushed old new counted more high every =
    let is = ap (λ xs. indices_of xs) more ∙ indices_every old.items.items in
    record {
      high = high ∙ counted.high ∙ ap told (sym (highest_last_every (indices_of old.items.items))) ∙ ap (λ xs. told (highest_index xs)) (sym is);
      every = every ∙ sym (every_last_every (indices_of old.items.items)) ∙ ap (λ xs. has_every xs) (sym is);
    }

-- ---- domains

highest_domain_more : (ds : List Domain) (d : Domain) → highest_domain (domains_of (ds ++ d ∷ [])) ≡ max (highest_domain (domains_of ds)) (domain_height (domain_tree d))
unfolding highest_domain domains_of
highest_domain_more [] d = omega arith
highest_domain_more (x ∷ ds) d = let h = highest_domain_more ds d in omega (arith, h)

-- no domain
pub no_domains_counted : (ds : List Domain) → ds ≡ [] → 0 ≡ told (highest_domain (domains_of ds))
unfolding told highest_domain domains_of
no_domains_counted ds e = sym (ap (λ xs. told (highest_domain (domains_of xs))) e)

pub domains_pushed : (old new : Domains) (found : FoundDomain) → DomainsCount old → new.items.items ≡ old.items.items ++ found.domain ∷ []
    → new.highest ≡ told (max (highest_domain (domains_of old.items.items)) (domain_height (domain_tree found.domain))) → DomainsCount new
domains_pushed old new found counted more high =
    record { high = high ∙ ap told (sym (highest_domain_more old.items.items found.domain)) ∙ ap (λ ds. told (highest_domain (domains_of ds))) (sym more) }

pub as_domains_of : (ds : List Domain) → as_domains (map domain_tree ds) ≡ domains_of ds
unfolding as_domains domains_of
as_domains_of [] = refl
as_domains_of (d ∷ ds) = ap (λ ts. domain_and (domain_tree d) ts) (as_domains_of ds)

-- ---- ranges

-- no range
pub no_ranges_counted : (rs : List Range) → rs ≡ [] → 0 ≡ told (highest_range (ranges_of rs))
unfolding told highest_range ranges_of
no_ranges_counted rs e = sym (ap (λ xs. told (highest_range (ranges_of xs))) e)

-- the height of a range's highest end
abbrev pub range_high : RangeRead → ℕ
range_high (of_number e) = height e
range_high (of_span a b) = max (end_height a) (end_height b)

pub as_ranges_of : (rs : List Range) → as_ranges (map range_read rs) ≡ ranges_of rs
unfolding as_ranges ranges_of range_read with_range
as_ranges_of [] = refl
as_ranges_of (One' q e ∷ rs) = ap (λ ts. one_and (expr_tree (record { place = q; kind = e })) ts) (as_ranges_of rs)
as_ranges_of (Span' a b ∷ rs) = ap (λ ts. with_range (Span' a b) ts) (as_ranges_of rs)

pub read_one : (e : Expr) → range_read (One e) ≡ of_number (expr_tree e)
unfolding range_read
read_one e = refl

pub read_span : (a b : Option Expr) → range_read (Span a b) ≡ of_span (end_tree a) (end_tree b)
unfolding range_read end_tree with_range
read_span None None = refl
read_span None (Some b) = refl
read_span (Some a) None = refl
read_span (Some a) (Some b) = refl

highest_range_more : (rs : List RangeRead) (r : RangeRead) → highest_range (as_ranges (rs ++ r ∷ [])) ≡ max (highest_range (as_ranges rs)) (range_high r)
unfolding highest_range as_ranges
highest_range_more [] (of_number e) = omega arith
highest_range_more [] (of_span a b) = omega arith
highest_range_more (of_number e ∷ rs) r = let h = highest_range_more rs r in omega (arith, h)
highest_range_more (of_span a b ∷ rs) r = let h = highest_range_more rs r in omega (arith, h)

pub ranges_pushed : (old new : Ranges) (r : RangeRead) → RangesCount old → map range_read new.items.items ≡ map range_read old.items.items ++ r ∷ []
    → new.highest ≡ told (max (highest_range (ranges_of old.items.items)) (range_high r)) → RangesCount new
ranges_pushed old new r counted more high =
    record {
      high =
          high ∙ ap (λ rs. told (max (highest_range rs) (range_high r))) (sym (as_ranges_of old.items.items))
          ∙ ap told (sym (highest_range_more (map range_read old.items.items) r)) ∙ ap (λ rs. told (highest_range (as_ranges rs))) (sym more)
          ∙ ap (λ rs. told (highest_range rs)) (as_ranges_of new.items.items);
    }

-- ---- generators

pub as_generators_of : (gens : List Generator) → as_generators (map as_read gens) ≡ generators_of gens
unfolding as_generators generators_of
as_generators_of [] = refl
as_generators_of (g ∷ gens) = ap (λ ts. generator_and g.names.items (domain_tree g.domain) ts) (as_generators_of gens)

highest_generator_more : (gens : List readers.Generator) (g : readers.Generator) → highest_generator (as_generators (gens ++ g ∷ [])) ≡ max (highest_generator (as_generators gens)) (domain_height g.1)
unfolding highest_generator as_generators
highest_generator_more [] g = omega arith
highest_generator_more (x ∷ gens) g = let h = highest_generator_more gens g in omega (arith, h)

-- no generator
pub no_generators_counted : (gens : List Generator) → gens ≡ [] → 0 ≡ told (highest_generator (generators_of gens))
unfolding told highest_generator generators_of
no_generators_counted gens e = sym (ap (λ xs. told (highest_generator (generators_of xs))) e)

pub generators_pushed : (old new : Generators) (g : readers.Generator) → GeneratorsCount old → map as_read new.items.items ≡ map as_read old.items.items ++ g ∷ []
    → new.highest ≡ told (max (highest_generator (generators_of old.items.items)) (domain_height g.1)) → GeneratorsCount new
generators_pushed old new g counted more high =
    record {
      high =
          high ∙ ap (λ gs. told (max (highest_generator gs) (domain_height g.1))) (sym (as_generators_of old.items.items))
          ∙ ap told (sym (highest_generator_more (map as_read old.items.items) g)) ∙ ap (λ gs. told (highest_generator (as_generators gs))) (sym more)
          ∙ ap (λ gs. told (highest_generator gs)) (as_generators_of new.items.items);
    }

-- the domain of indices, as the lemmas on views have it
pub index_is : (d : Option (Box Domain Global)) → index_of d ≡ index_tree d
unfolding index_of index_tree
index_is None = refl
index_is (Some d) = refl
