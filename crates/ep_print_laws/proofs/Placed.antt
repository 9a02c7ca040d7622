-- What a tree is that is a known one but for its places.
use Rattle.std.proofs.Common.{◌≡◌, Bool, true, [], ℤ, pos, Option, Some, None, refl, ap, ◌∙◌}
use Rattle.std.specs.Option.{option_map}
use Rattle.ep_base.specs.declared.names.Name.{Name}
use Rattle.ep_base.specs.declared.places.Place.{Place}
use Rattle.ep_tree.specs.Placeless.{placeless, placeless_domain, placeless_end, placeless_ranges, placeless_statement, placeless_trees, somewhere}
use Rattle.ep_tree.specs.Statements.{StatementTree, letting}
use Rattle.ep_tree.specs.Trees.{DomainTree, End, ExprTree, ExprTrees, IndexDomain, Ranges, bool, end_at, literal, minus, no_end, no_ranges, no_trees, number, one_and, over, ranges, span_and, tree_and, truth, unstated}

-- ---- what stands in a tree

number_in_tree : ExprTree → ℤ
number_in_tree (number p n) = n
number_in_tree _ = pos 0

truth_in_tree : ExprTree → Bool
truth_in_tree (truth p b) = b
truth_in_tree _ = true

part_in_tree : ExprTree → ExprTree
part_in_tree (minus p e) = e
part_in_tree e = e

parts_in_tree : ExprTree → ExprTrees
parts_in_tree (literal p es d) = es
parts_in_tree _ = no_trees

domain_in : IndexDomain → DomainTree
domain_in (over d) = d
domain_in unstated = bool somewhere

index_in_tree : ExprTree → DomainTree
index_in_tree (literal p es d) = domain_in d
index_in_tree _ = bool somewhere

ranges_in : DomainTree → Ranges
ranges_in (ranges p rs) = rs
ranges_in _ = no_ranges

first_tree : ExprTrees → ExprTree
first_tree (tree_and e es) = e
first_tree no_trees = number somewhere (pos 0)

later_trees : ExprTrees → ExprTrees
later_trees (tree_and e es) = es
later_trees no_trees = no_trees

end_in : End → ExprTree
end_in (end_at e) = e
end_in no_end = number somewhere (pos 0)

first_range : Ranges → ExprTree
first_range (one_and e rs) = e
first_range _ = number somewhere (pos 0)

low_range : Ranges → End
low_range (span_and a b rs) = a
low_range _ = no_end

high_range : Ranges → End
high_range (span_and a b rs) = b
high_range _ = no_end

later_ranges : Ranges → Ranges
later_ranges (one_and e rs) = rs
later_ranges (span_and a b rs) = rs
later_ranges no_ranges = no_ranges

name_in_statement : StatementTree → Name
name_in_statement (letting p name at d e) = name
name_in_statement _ = []

stated_in_statement : StatementTree → Option DomainTree
stated_in_statement (letting p name at d e) = d
stated_in_statement _ = None

value_in_statement : StatementTree → ExprTree
value_in_statement (letting p name at d e) = e
value_in_statement _ = number somewhere (pos 0)

-- ---- expressions

-- a number somewhere
pub record AsNumber (n : ℤ) (e : ExprTree) : Type 0 where
  pub place : Place
  pub is : e ≡ number place n

pub as_number : (e : ExprTree) (n : ℤ) → placeless e ≡ number somewhere n → AsNumber n e
unfolding placeless number_in_tree
as_number (number p m) n h = record { place = p; is = ap (number p) (ap number_in_tree h) }
as_number _ n h = absurd cc

-- a truth value somewhere
pub record AsTruth (b : Bool) (e : ExprTree) : Type 0 where
  pub place : Place
  pub is : e ≡ truth place b

pub as_truth : (e : ExprTree) (b : Bool) → placeless e ≡ truth somewhere b → AsTruth b e
unfolding placeless truth_in_tree
as_truth (truth p c) b h = record { place = p; is = ap (truth p) (ap truth_in_tree h) }
as_truth _ b h = absurd cc

-- a minus sign somewhere, before a part
pub record AsMinus (part e : ExprTree) : Type 0 where
  pub place : Place
  pub inner : ExprTree
  pub is : e ≡ minus place inner
  pub same : placeless inner ≡ part

pub as_minus : (e part : ExprTree) → placeless e ≡ minus somewhere part → AsMinus part e
unfolding placeless part_in_tree
as_minus (minus p f) part h = record { place = p; inner = f; is = refl; same = ap part_in_tree h }
as_minus _ part h = absurd cc

-- a list somewhere, of parts and over an index domain
pub record AsLiteral (parts : ExprTrees) (d : DomainTree) (e : ExprTree) : Type 0 where
  pub place : Place
  pub inner : ExprTrees
  pub index : DomainTree
  pub is : e ≡ literal place inner (over index)
  pub same_parts : placeless_trees inner ≡ parts
  pub same_index : placeless_domain index ≡ d

pub as_literal : (e : ExprTree) (parts : ExprTrees) (d : DomainTree) → placeless e ≡ literal somewhere parts (over d) → AsLiteral parts d e
unfolding placeless parts_in_tree index_in_tree domain_in
as_literal (literal p es (over c)) parts d h =
    record { place = p; inner = es; index = c; is = refl; same_parts = ap parts_in_tree h; same_index = ap index_in_tree h }
as_literal (literal p es unstated) parts d h = absurd cc
as_literal _ parts d h = absurd cc

-- ---- lists of expressions

pub as_no_trees : (es : ExprTrees) → placeless_trees es ≡ no_trees → es ≡ no_trees
unfolding placeless
as_no_trees no_trees h = refl
as_no_trees (tree_and e es) h = absurd cc

-- a first expression, and later ones
pub record AsMore (first : ExprTree) (later es : ExprTrees) : Type 0 where
  pub one : ExprTree
  pub others : ExprTrees
  pub is : es ≡ tree_and one others
  pub same_one : placeless one ≡ first
  pub same_others : placeless_trees others ≡ later

pub as_more : (es : ExprTrees) (first : ExprTree) (later : ExprTrees) → placeless_trees es ≡ tree_and first later → AsMore first later es
unfolding placeless first_tree later_trees
as_more no_trees first later h = absurd cc
as_more (tree_and e es) first later h = record { one = e; others = es; is = refl; same_one = ap first_tree h; same_others = ap later_trees h }

-- ---- domains of ranges

-- ranges somewhere
pub record AsRanges (rs : Ranges) (d : DomainTree) : Type 0 where
  pub place : Place
  pub inner : Ranges
  pub is : d ≡ ranges place inner
  pub same : placeless_ranges inner ≡ rs

pub as_ranges : (d : DomainTree) (rs : Ranges) → placeless_domain d ≡ ranges somewhere rs → AsRanges rs d
unfolding placeless ranges_in
as_ranges (ranges p inner) rs h = record { place = p; inner = inner; is = refl; same = ap ranges_in h }
as_ranges _ rs h = absurd cc

pub as_no_ranges : (rs : Ranges) → placeless_ranges rs ≡ no_ranges → rs ≡ no_ranges
unfolding placeless
as_no_ranges no_ranges h = refl
as_no_ranges (one_and e rs) h = absurd cc
as_no_ranges (span_and a b rs) h = absurd cc

-- a number before other ranges
pub record AsOne (first : ExprTree) (later rs : Ranges) : Type 0 where
  pub one : ExprTree
  pub others : Ranges
  pub is : rs ≡ one_and one others
  pub same_one : placeless one ≡ first
  pub same_others : placeless_ranges others ≡ later

pub as_one : (rs : Ranges) (first : ExprTree) (later : Ranges) → placeless_ranges rs ≡ one_and first later → AsOne first later rs
unfolding placeless first_range later_ranges
as_one (one_and e rs) first later h = record { one = e; others = rs; is = refl; same_one = ap first_range h; same_others = ap later_ranges h }
as_one no_ranges first later h = absurd cc
as_one (span_and a b rs) first later h = absurd cc

-- an end that is stated
pub record AsEnd (e : ExprTree) (end : End) : Type 0 where
  pub inner : ExprTree
  pub is : end ≡ end_at inner
  pub same : placeless inner ≡ e

as_end : (end : End) (e : ExprTree) → placeless_end end ≡ end_at e → AsEnd e end
unfolding placeless end_in
as_end (end_at f) e h = record { inner = f; is = refl; same = ap end_in h }
as_end no_end e h = absurd cc

-- two ends before other ranges
pub record AsSpan (low high : ExprTree) (later rs : Ranges) : Type 0 where
  pub below : End
  pub above : End
  pub others : Ranges
  pub is : rs ≡ span_and below above others
  pub same_low : AsEnd low below
  pub same_high : AsEnd high above
  pub same_others : placeless_ranges others ≡ later

pub as_span : (rs : Ranges) (low high : ExprTree) (later : Ranges) → placeless_ranges rs ≡ span_and (end_at low) (end_at high) later → AsSpan low high later rs
unfolding placeless low_range high_range later_ranges
as_span (span_and a b rs) low high later h =
    record {
      below = a;
      above = b;
      others = rs;
      is = refl;
      same_low = as_end a low (ap low_range h);
      same_high = as_end b high (ap high_range h);
      same_others = ap later_ranges h;
    }
as_span no_ranges low high later h = absurd cc
as_span (one_and e rs) low high later h = absurd cc

-- ---- statements

-- a letting somewhere, of a value without a domain
pub record AsLetting (name : Name) (e : ExprTree) (s : StatementTree) : Type 0 where
  pub place : Place
  pub at : Place
  pub inner : ExprTree
  pub is : s ≡ letting place name at None inner
  pub same : placeless inner ≡ e

no_stated : (d : Option DomainTree) → option_map placeless_domain d ≡ None → d ≡ None
no_stated None h = refl
no_stated (Some d) h = absurd cc

pub as_letting : (s : StatementTree) (name : Name) (e : ExprTree) → placeless_statement s ≡ letting somewhere name somewhere None e → AsLetting name e s
unfolding placeless_statement name_in_statement stated_in_statement value_in_statement
as_letting (letting p other at d f) name e h =
    let names : other ≡ name = ap name_in_statement h in
    let stated : d ≡ None = no_stated d (ap stated_in_statement h) in
    record { place = p; at = at; inner = f; is = ap (λ n. letting p n at d f) names ∙ ap (λ c. letting p name at c f) stated; same = ap value_in_statement h }
as_letting _ name e h = absurd cc
