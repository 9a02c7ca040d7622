-- The loops over expressions behind commas, over generators and over indices, and what is made of them.
use Rattle.std.specs.Prelude.{◌≡◌, ◌≤◌, ◌<◌, ℕ, Bool, true, false, not, nat_lt, ◌&&◌, List, [], ◌∷◌, ◌++◌, length, map, Option, Some, None, Result, Ok, Err, OnOk, codes, if◌then◌else◌, refl}
use Rattle.std.proofs.Common.{ap, arith, sym, subst, ◌∙◌}
use Rattle.ep_base.specs.declared.places.Place.{Place}
use Rattle.ep_parse_parts.proofs.Finding.{memory_stops}
use Rattle.ep_parse_parts.proofs.FirstTurns.{commas_end, commas_fail, commas_go, commas_smaller, continued_none, first_ends, first_fails, first_goes, gathered, grown_ends, grown_fails, grown_goes, grown_smaller, regrouped, same_last, stops_inside}
use Rattle.ep_parse_parts.proofs.Lengths.{any_expr, generator_ends, generator_shortens, generator_shrinks, index_ends, index_shortens, index_shrinks, another_keeps, read_ends, read_shrinks}
use Rattle.ep_parse_parts.proofs.NameTurns.{behind_short, continued}
use Rattle.ep_parse_parts.proofs.PartFacts.{as_expr_trees, as_generators_of, as_indices_more, indices_every, indices_more, index_last, map_more}
use Rattle.ep_parse_parts.proofs.Shorter.{expr_shorter}
use Rattle.ep_parse_parts.specs.Cursors.{StopsReading, passing}
use Rattle.ep_parse_parts.specs.Founds.{Finds, Measured, lower}
use Rattle.ep_parse_parts.specs.Gathered.{Added, Adds, AddsIndex, Gathered, GeneratorsGiven, IndexAdded, IndicesCount, IndicesGiven, OrMemory, as_read, generators_from, indices_from}
use Rattle.ep_parse_parts.specs.OperandReaders as readers
use Rattle.ep_parse_parts.specs.OperandReaders.{Lower, another_generator, as_generators, as_trees, bracket_from, closed_by, colon_comes, comprehension_from, conditions_from, expression_next, generator_from, if_low, list_end, literal_from}
use Rattle.ep_parse_parts.specs.OperatorReaders as operators
use Rattle.ep_parse_parts.specs.OperatorReaders.{another_index, another_read, as_indices, index_from, only_if, read_from, takes_group}
use Rattle.ep_parse_parts.specs.Readers.{Read, Reader, behind, behind_comma, either_reader, grown, high, kept, kept_or, others_from, says, took, wrong, ◌and_then◌}
use Rattle.ep_parse_parts.specs.declared.cursor.Stop.{Stop}
use Rattle.ep_parse_parts.specs.declared.cursor.Stop.TheVariants.{Memory, TooHigh, Wrong}
use Rattle.ep_parse_parts.specs.declared.found.Found.{Found}
use Rattle.ep_parse_parts.specs.declared.parts.Indices.{Indices}
use Rattle.ep_parse_parts.specs.declared.parts.Generators.{Generators}
use Rattle.ep_tree.specs.Heights.{height}
use Rattle.ep_tree.specs.Phrases.{Lexeme}
use Rattle.ep_tree.specs.Spelling.{has_every, implications}
use Rattle.ep_tree.specs.Trees.{ExprTree, comprehension, every_and, index_and, literal, place_of, read}
use Rattle.ep_tree.specs.Trees as trees
use Rattle.ep_tree.specs.Views.{expr_tree, expr_trees, generators_of, indices_of}
use Rattle.ep_tree.specs.declared.syntax.Expr.{Expr}

-- what is refused first is refused
pub stops_then : {A B : Type 0} (e : Stop) (new : List Lexeme) (r : Read A) (f : A → Reader B) → StopsReading e new r → StopsReading e new (r and_then f)
stops_then Wrong new r f s = ap (λ q. q and_then f) s
stops_then TooHigh new r f s = ap (λ q. q and_then f) s
stops_then Memory new r f s = tt

pub stops_as : {A : Type 0} (e : Stop) (new : List Lexeme) (r q : Read A) → q ≡ r → StopsReading e new r → StopsReading e new q
stops_as Wrong new r q k s = k ∙ s
stops_as TooHigh new r q k s = k ∙ s
stops_as Memory new r q k s = tt

pub finds_as : (result : Result Found Stop) (new : List Lexeme) (r q : Read ExprTree) → q ≡ r → Finds result new r → Finds result new q
finds_as (Ok found) new r q k f = (k ∙ f.0, f.1)
finds_as (Err e) new r q k f = stops_as e new r q k f

pub adds_as : {X A : Type 0} (result : Result X Stop) (done all : List A) (new : List Lexeme) (r q : Read A) → q ≡ r → Adds result done all new r → Adds result done all new q
adds_as (Ok x) done all new r q k a = record { one = a.one; is = k ∙ a.is; together = a.together }
adds_as (Err e) done all new r q k s = stops_as e new r q k s

-- an item was pushed
pub added_pushed : {X A : Type 0} (result : Result X Stop) (done all : List A) (x : A) (left : List Lexeme) (r : Read A) → OrMemory result (all ≡ done ++ x ∷ []) → r ≡ took x left → Adds result done all left r
added_pushed (Ok y) done all x left r m e = record { one = x; is = e; together = m }
added_pushed (Err e) done all x left r m k = memory_stops e left r m

-- ---- expressions behind commas

shorter : (most : ℕ) (ls rest : List Lexeme) (x : ExprTree) → (lower most).expr implications ls ≡ took x rest → length rest < length ls
shorter most ls rest x e = expr_shorter most implications any_expr ls rest x e

pub parts_end : (most : ℕ) (done start : List ExprTree) (ls new begin : List Lexeme) → continued done (conditions_from (lower most) ls) ≡ continued start (conditions_from (lower most) begin)
    → (false, new) ≡ passing (codes ",") ls → Gathered start done new (conditions_from (lower most) begin)
unfolding conditions_from
parts_end most done start ls new begin inv p =
    gathered start done new _ (commas_end ((lower most).expr implications) (shorter most) done _ (continued start (conditions_from (lower most) begin)) ls new inv p)

pub parts_fail : (most : ℕ) (done start : List ExprTree) (ls next new begin : List Lexeme) (e : Stop) → continued done (conditions_from (lower most) ls) ≡ continued start (conditions_from (lower most) begin)
    → (true, next) ≡ passing (codes ",") ls → StopsReading e new ((lower most).expr implications next) → StopsReading e new (conditions_from (lower most) begin)
unfolding conditions_from
parts_fail most done start ls next new begin e inv p s =
    stops_inside start e new _ (commas_fail ((lower most).expr implications) (shorter most) done _ (continued start (conditions_from (lower most) begin)) ls next new e inv p s)

pub parts_go : (most : ℕ) (done start all : List ExprTree) (x : ExprTree) (ls next new begin : List Lexeme) → continued done (conditions_from (lower most) ls) ≡ continued start (conditions_from (lower most) begin)
    → (true, next) ≡ passing (codes ",") ls → (lower most).expr implications next ≡ took x new → all ≡ done ++ x ∷ [] → continued all (conditions_from (lower most) new) ≡ continued start (conditions_from (lower most) begin)
unfolding conditions_from
parts_go most done start all x ls next new begin inv p e t =
    ap (λ xs. continued xs (conditions_from (lower most) new)) t
    ∙ commas_go ((lower most).expr implications) (shorter most) done _ x (continued start (conditions_from (lower most) begin)) ls next new inv p e

pub parts_smaller : (most : ℕ) (x : ExprTree) (ls next new : List Lexeme) → (true, next) ≡ passing (codes ",") ls → (lower most).expr implications next ≡ took x new → length new < length ls
parts_smaller most x ls next new p e = commas_smaller ((lower most).expr implications) (shorter most) x ls next new p e

-- parts, with one that was pushed
pub pushed_trees : (old new : List Expr) (e : Expr) → new ≡ old ++ e ∷ [] → map expr_tree new ≡ map expr_tree old ++ expr_tree e ∷ []
pushed_trees old new e h = ap (λ es. map expr_tree es) h ∙ map_more expr_tree old e

-- a list behind its first expression, where it was read as far as its end
literal_is : (b : Bool) (most : ℕ) (p : Place) (first : ExprTree) (all : List Expr) (more : List ExprTree) (ls mid : List Lexeme) → conditions_from (lower most) ls ≡ took more mid → map expr_tree all ≡ first ∷ more
    → literal_from b (lower most) p first ls ≡ list_end b (lower most) (literal p (expr_trees all)) mid
unfolding literal_from conditions_from
literal_is b most p first all more ls mid e t =
    ap (λ r. r and_then λ es rest. list_end b (lower most) (literal p (as_trees (first ∷ es))) rest) (same_last ((lower most).expr implications) (shorter most) first _ ls ∙ e)
    ∙ ap (λ es. list_end b (lower most) (literal p (as_trees es)) mid) (sym t)
    ∙ ap (λ ts. list_end b (lower most) (literal p ts) mid) (as_expr_trees all)

pub literal_read : (b : Bool) (most : ℕ) (p : Place) (first : Expr) (start old all : List Expr) (ls mid new : List Lexeme) (result : Result Found Stop)
    → start ≡ [] → old ≡ start ++ first ∷ [] → Gathered (map expr_tree old) (map expr_tree all) mid (conditions_from (lower most) ls)
    → Finds result new (list_end b (lower most) (literal p (expr_trees all)) mid) → Finds result new (literal_from b (lower most) p (expr_tree first) ls)
literal_read b most p first start old all ls mid new result none pushed g f =
    let one : map expr_tree old ≡ expr_tree first ∷ [] = ap (λ es. map expr_tree es) (pushed ∙ ap (λ xs. xs ++ first ∷ []) none) in
    finds_as result new _ _ (literal_is b most p (expr_tree first) all g.more ls mid g.is (g.together ∙ ap (λ xs. xs ++ g.more) one)) f

pub literal_fails : (b : Bool) (most : ℕ) (p : Place) (first : ExprTree) (ls new : List Lexeme) (e : Stop) → StopsReading e new (conditions_from (lower most) ls) → StopsReading e new (literal_from b (lower most) p first ls)
unfolding literal_from conditions_from
literal_fails b most p first ls new e s =
    stops_then e new _ (λ es rest. list_end b (lower most) (literal p (as_trees (first ∷ es))) rest)
    (stops_as e new _ _ (same_last ((lower most).expr implications) (shorter most) first _ ls) s)

-- ---- generators

comprehension_is : (b : Bool) (low : Lower) (p : Place) (part : ExprTree) (ls : List Lexeme) → comprehension_from b low p part ls
    ≡ (generators_from low ls and_then λ gens next. conditions_from low next and_then λ conditions end. list_end b low (comprehension p part (as_generators gens) (as_trees conditions)) end)
unfolding comprehension_from generators_from
comprehension_is b low p part ls =
    regrouped (generator_from low ls) (λ g rest. others_from another_generator (λ last. generator_from low) g rest)
    (λ gens next. conditions_from low next and_then λ conditions end. list_end b low (comprehension p part (as_generators gens) (as_trees conditions)) end)

pub comprehension_fails : (b : Bool) (low : Lower) (p : Place) (part : ExprTree) (ls new : List Lexeme) (e : Stop) → StopsReading e new (generators_from low ls) → StopsReading e new (comprehension_from b low p part ls)
comprehension_fails b low p part ls new e s = stops_as e new _ _ (comprehension_is b low p part ls) (stops_then e new _ _ s)

behind_generators : (b : Bool) (low : Lower) (p : Place) (part : ExprTree) (gens : Generators) (ls mid : List Lexeme) → GeneratorsGiven gens mid (generators_from low ls) → comprehension_from b low p part ls
    ≡ (conditions_from low mid and_then λ conditions end. list_end b low (comprehension p part (generators_of gens.items.items) (as_trees conditions)) end)
behind_generators b low p part gens ls mid g =
    comprehension_is b low p part ls
    ∙ ap (λ r. r and_then λ gens next. conditions_from low next and_then λ conditions end. list_end b low (comprehension p part (as_generators gens) (as_trees conditions)) end) g.is
    ∙ ap (λ gs. conditions_from low mid and_then λ conditions end. list_end b low (comprehension p part gs (as_trees conditions)) end) (as_generators_of gens.items.items)

pub conditions_fail : (b : Bool) (low : Lower) (p : Place) (part : ExprTree) (gens : Generators) (ls mid new : List Lexeme) (e : Stop) → GeneratorsGiven gens mid (generators_from low ls) → StopsReading e new (conditions_from low mid)
    → StopsReading e new (comprehension_from b low p part ls)
conditions_fail b low p part gens ls mid new e g s = stops_as e new _ _ (behind_generators b low p part gens ls mid g) (stops_then e new _ _ s)

pub comprehension_read : (b : Bool) (low : Lower) (p : Place) (part : ExprTree) (gens : Generators) (start all : List Expr) (ls mid end new : List Lexeme) (result : Result Found Stop)
    → GeneratorsGiven gens mid (generators_from low ls) → start ≡ [] → Gathered (map expr_tree start) (map expr_tree all) end (conditions_from low mid)
    → Finds result new (list_end b low (comprehension p part (generators_of gens.items.items) (expr_trees all)) end) → Finds result new (comprehension_from b low p part ls)
comprehension_read b low p part gens start all ls mid end new result g none c f =
    let all_is : map expr_tree all ≡ c.more = c.together ∙ ap (λ es. map expr_tree es ++ c.more) none in
    finds_as result new _ _
    (behind_generators b low p part gens ls mid g
    ∙ ap (λ r. r and_then λ conditions end. list_end b low (comprehension p part (generators_of gens.items.items) (as_trees conditions)) end) c.is
    ∙ ap (λ es. list_end b low (comprehension p part (generators_of gens.items.items) (as_trees es)) end) (sym all_is)
    ∙ ap (λ ts. list_end b low (comprehension p part (generators_of gens.items.items) ts) end) (as_expr_trees all)) f

pub generators_begin : (most : ℕ) (gens : Generators) (ls : List Lexeme) → gens.items.items ≡ [] → continued (map as_read gens.items.items) (generators_from (lower most) ls) ≡ generators_from (lower most) ls
generators_begin most gens ls none = ap (λ gs. continued (map as_read gs) (generators_from (lower most) ls)) none ∙ continued_none (generators_from (lower most) ls)

pub generators_fail : (most : ℕ) (done : List readers.Generator) (ls new begin : List Lexeme) (e : Stop) → continued done (generators_from (lower most) ls) ≡ generators_from (lower most) begin
    → StopsReading e new (generator_from (lower most) ls) → StopsReading e new (generators_from (lower most) begin)
unfolding generators_from
generators_fail most done ls new begin e inv s =
    first_fails another_generator (λ last. generator_from (lower most)) generator_ends (generator_shrinks most) done (generator_from (lower most) ls) (generators_from (lower most) begin) new e inv s

pub generators_end : (most : ℕ) (done all : List readers.Generator) (ls new begin : List Lexeme) → continued done (generators_from (lower most) ls) ≡ generators_from (lower most) begin
    → Added done all new (generator_from (lower most) ls) → false ≡ (says (codes ",") new && colon_comes true (behind new)) → generators_from (lower most) begin ≡ took all new
unfolding generators_from another_generator
generators_end most done all ls new begin inv g stop =
    first_ends another_generator (λ last. generator_from (lower most)) generator_ends (generator_shrinks most) done (generator_from (lower most) ls) (generators_from (lower most) begin) g.one new inv g.is
    (ap (λ b. kept b (behind new)) (sym stop))
    ∙ ap (λ xs. took xs new) (sym g.together)

pub generators_go : (most : ℕ) (done all : List readers.Generator) (ls mid next begin : List Lexeme) → continued done (generators_from (lower most) ls) ≡ generators_from (lower most) begin
    → Added done all mid (generator_from (lower most) ls) → true ≡ (says (codes ",") mid && colon_comes true (behind mid)) → next ≡ behind mid
    → continued all (generators_from (lower most) next) ≡ generators_from (lower most) begin
unfolding generators_from another_generator
generators_go most done all ls mid next begin inv g more n =
    ap (λ xs. continued xs (generators_from (lower most) next)) g.together
    ∙ first_goes another_generator (λ last. generator_from (lower most)) generator_ends (generator_shrinks most) done (generator_from (lower most) ls) (generators_from (lower most) begin) g.one mid next inv g.is
    (ap (λ b. kept b (behind mid)) (sym more) ∙ ap (λ k. Some k) (sym n))

pub generators_smaller : (most : ℕ) (done all : List readers.Generator) (ls mid next : List Lexeme) → Added done all mid (generator_from (lower most) ls) → next ≡ behind mid → length next < length ls
generators_smaller most done all ls mid next g n =
    let s = (generator_shortens most ls).holds g.one mid g.is in
    let is : length next ≡ length (behind mid) = ap length n in
    omega (arith, s, is, behind_short mid)

-- ---- indices

-- what was read of indices, and what is left
pub record IndicesLeft (most : ℕ) (indices : Indices) (ls begin : List Lexeme) : Type 0 where
  pub done : List operators.ReadIndex
  pub same : as_indices done ≡ indices_of indices.items.items
  pub left : continued done (indices_from (lower most) indices.has_every ls) ≡ indices_from (lower most) false begin
  pub counted : IndicesCount indices

pub indices_begin : (most : ℕ) (indices : Indices) (ls : List Lexeme) → indices.items.items ≡ [] → IndicesCount indices → IndicesLeft most indices ls ls
unfolding as_indices indices_of has_every
indices_begin most indices ls none counted =
    record {
      done = [];
      same = ap (λ is. indices_of is) (sym none);
      left = continued_none _ ∙ ap (λ b. indices_from (lower most) b ls) (counted.every ∙ ap (λ is. has_every (indices_of is)) none);
      counted = counted;
    }

pub indices_fail : (most : ℕ) (indices : Indices) (ls new begin : List Lexeme) (e : Stop) → IndicesLeft most indices ls begin → StopsReading e new (index_from (lower most) indices.has_every ls) → StopsReading e new (indices_from (lower most) false begin)
unfolding indices_from
indices_fail most indices ls new begin e inv s =
    first_fails another_index (λ last. index_from (lower most) last.0) index_ends (index_shrinks most) inv.done (index_from (lower most) indices.has_every ls) (indices_from (lower most) false begin) new e inv.left s

-- what goes on behind an index is said by whether a `..` has come
goes_by : (every : Bool) (i j : Option ExprTree) (ls : List Lexeme) → another_index (every, i) ls ≡ another_index (every, j) ls
unfolding another_index
goes_by every i j ls = refl

goes_as : (index : operators.ReadIndex) (every : Bool) (ls : List Lexeme) → index.0 ≡ every → another_index index ls ≡ another_index (every, None) ls
goes_as (b, i) every ls e = ap (λ c. another_index (c, i) ls) e ∙ goes_by every i None ls

pub indices_end : (most : ℕ) (old indices : Indices) (ls mid new begin : List Lexeme) → IndicesLeft most old ls begin → IndexAdded old indices mid (index_from (lower most) old.has_every ls)
    → kept false new ≡ another_index (indices.has_every, None) mid → new ≡ mid → IndicesGiven indices new (indices_from (lower most) false begin)
unfolding indices_from
indices_end most old indices ls mid new begin inv i k n =
    record {
      all = inv.done ++ i.one ∷ [];
      is =
          first_ends another_index (λ last. index_from (lower most) last.0) index_ends (index_shrinks most) inv.done (index_from (lower most) old.has_every ls) (indices_from (lower most) false begin) i.one mid inv.left i.is
          (goes_as i.one indices.has_every mid i.came ∙ sym k)
          ∙ ap (λ z. took (inv.done ++ i.one ∷ []) z) (sym n);
      same = i.together inv.done inv.same;
      counted = i.counted;
    }

pub indices_go : (most : ℕ) (old indices : Indices) (ls mid new begin : List Lexeme) → IndicesLeft most old ls begin → IndexAdded old indices mid (index_from (lower most) old.has_every ls)
    → kept true new ≡ another_index (indices.has_every, None) mid → IndicesLeft most indices new begin
unfolding indices_from
indices_go most old indices ls mid new begin inv i k =
    record {
      done = inv.done ++ i.one ∷ [];
      same = i.together inv.done inv.same;
      left =
          ap (λ b. continued (inv.done ++ i.one ∷ []) (indices_from (lower most) b new)) (sym i.came)
          ∙ first_goes another_index (λ last. index_from (lower most) last.0) index_ends (index_shrinks most) inv.done (index_from (lower most) old.has_every ls) (indices_from (lower most) false begin) i.one mid new inv.left i.is
          (goes_as i.one indices.has_every mid i.came ∙ sym k);
      counted = i.counted;
    }

pub indices_smaller : (most : ℕ) (old indices : Indices) (ls mid new : List Lexeme) → IndexAdded old indices mid (index_from (lower most) old.has_every ls) → kept true new ≡ another_index (indices.has_every, None) mid → length new < length ls
indices_smaller most old indices ls mid new i k =
    let s = (index_shortens most old.has_every ls).holds i.one mid i.is in
    let n = another_keeps (indices.has_every, None) mid new (sym k) in
    omega (arith, s, n)

-- a `..` was pushed
pub every_added : {X : Type 0} (result : Result X Stop) (old new : Indices) (r : Read operators.ReadIndex) (left : List Lexeme) → OrMemory result (new.items.items ≡ old.items.items ++ None ∷ []) → OnOk result (IndicesCount new)
    → r ≡ took (true, None) left → AddsIndex result old new left r
unfolding has_every index_last
every_added (Ok x) old new r left m c e =
    let is = ap (λ xs. indices_of xs) m ∙ indices_every old.items.items in
    record {
      one = (true, None);
      is = e;
      came = sym (c.every ∙ ap (λ xs. has_every xs) is ∙ last_every (indices_of old.items.items));
      together = λ front same. as_indices_more front true None ∙ ap (λ xs. index_last xs None) same ∙ sym is;
      counted = c;
    }
  where
    last_every : (is : trees.Indices) → has_every (index_last is None) ≡ true
    last_every trees.no_indices = refl
    last_every (every_and is) = refl
    last_every (index_and x is) = last_every is
every_added (Err e) old new r left m c k = memory_stops e left r m

-- an index was pushed
pub index_added : {X : Type 0} (result : Result X Stop) (old new : Indices) (e : Expr) (r : Read operators.ReadIndex) (left : List Lexeme) → IndicesCount old → OrMemory result (new.items.items ≡ old.items.items ++ Some e ∷ [])
    → OnOk result (IndicesCount new) → r ≡ took (old.has_every, Some (expr_tree e)) left → AddsIndex result old new left r
unfolding has_every index_last
index_added (Ok x) old new e r left before m c k =
    let is = ap (λ xs. indices_of xs) m ∙ indices_more old.items.items e in
    record {
      one = (old.has_every, Some (expr_tree e));
      is = k;
      came = before.every ∙ sym (c.every ∙ ap (λ xs. has_every xs) is ∙ last_same (indices_of old.items.items) (expr_tree e));
      together = λ front same. as_indices_more front old.has_every (Some (expr_tree e)) ∙ ap (λ xs. index_last xs (Some (expr_tree e))) same ∙ sym is;
      counted = c;
    }
  where
    last_same : (is : trees.Indices) (t : ExprTree) → has_every (index_last is (Some t)) ≡ has_every is
    last_same trees.no_indices t = refl
    last_same (every_and is) t = refl
    last_same (index_and y is) t = last_same is t
index_added (Err k) old new e r left before m c q = memory_stops k left r m

pub index_dots : (low : Lower) (every : Bool) (ls left : List Lexeme) → (true, left) ≡ passing (codes "..") ls → index_from low every ls ≡ took (true, None) left
unfolding index_from passing
index_dots low every ls left e =
    let seen : says (codes "..") ls ≡ true = sym (ap (λ (p : Bool × List Lexeme). p.0) e) in
    let rest : left ≡ behind ls = ap (λ (p : Bool × List Lexeme). p.1) e ∙ ap (λ b. if b then behind ls else ls) seen in
    ap (λ b. either_reader b (λ all. took (true, None) (behind all)) (λ all. low.expr implications all and_then λ e rest. took (every, Some e) rest) ls) seen ∙ ap (λ z. took (true, None) z) (sym rest)

pub index_part : (low : Lower) (every : Bool) (ls mid : List Lexeme) → (false, mid) ≡ passing (codes "..") ls → index_from low every ls ≡ (low.expr implications mid and_then λ e rest. took (every, Some e) rest)
unfolding index_from passing
index_part low every ls mid e =
    let seen : says (codes "..") ls ≡ false = sym (ap (λ (p : Bool × List Lexeme). p.0) e) in
    let rest : mid ≡ ls = ap (λ (p : Bool × List Lexeme). p.1) e ∙ ap (λ b. if b then behind ls else ls) seen in
    ap (λ b. either_reader b (λ all. took (true, None) (behind all)) (λ all. low.expr implications all and_then λ e rest. took (every, Some e) rest) ls) seen
    ∙ ap (λ z. low.expr implications z and_then λ e rest. took (every, Some e) rest) (sym rest)

-- ---- reads

read_is : (low : Lower) (m : ExprTree) (ls : List Lexeme) → read_from low m ls ≡ (indices_from low false ls and_then λ all end. closed_by (codes "]") (read (place_of m) m (as_indices all)) end)
unfolding read_from indices_from
read_is low m ls =
    regrouped (index_from low false ls) (λ first rest. others_from another_index (λ last. index_from low last.0) first rest)
    (λ all end. closed_by (codes "]") (read (place_of m) m (as_indices all)) end)

pub read_fails : (low : Lower) (m : ExprTree) (ls new : List Lexeme) (e : Stop) → StopsReading e new (indices_from low false ls) → StopsReading e new (read_from low m ls)
read_fails low m ls new e s = stops_as e new _ _ (read_is low m ls) (stops_then e new _ _ s)

pub read_given : (low : Lower) (m : ExprTree) (indices : Indices) (ls mid new : List Lexeme) (result : Result Found Stop) → IndicesGiven indices mid (indices_from low false ls)
    → Finds result new (closed_by (codes "]") (read (place_of m) m (indices_of indices.items.items)) mid) → Finds result new (read_from low m ls)
read_given low m indices ls mid new result g f =
    finds_as result new _ _
    (read_is low m ls ∙ ap (λ r. r and_then λ all end. closed_by (codes "]") (read (place_of m) m (as_indices all)) end) g.is
    ∙ ap (λ is. closed_by (codes "]") (read (place_of m) m is) mid) g.same) f

-- one more read, by what is next
step_is : (most : ℕ) (m : ExprTree) (ls : List Lexeme) (b : Bool) → b ≡ (says (codes "[") ls && takes_group m)
    → another_read most (lower most) m ls ≡ only_if b (if_low (nat_lt (height m) most) (λ all. read_from (lower most) m (behind all))) ls
unfolding another_read
step_is most m ls b e = ap (λ c. only_if c (if_low (nat_lt (height m) most) (λ all. read_from (lower most) m (behind all))) ls) (sym e)

pub reads_end : (most : ℕ) (m : ExprTree) (ls : List Lexeme) (whole : Read ExprTree) → grown (another_read most (lower most)) m ls ≡ whole → false ≡ (says (codes "[") ls && takes_group m) → whole ≡ took m ls
reads_end most m ls whole inv e =
    grown_ends (another_read most (lower most)) (read_ends most (lower most)) (read_shrinks most) m ls whole inv (step_is most m ls false e)

pub reads_fail : (most : ℕ) (m : ExprTree) (ls new : List Lexeme) (whole : Read ExprTree) (e : Stop) → grown (another_read most (lower most)) m ls ≡ whole → true ≡ (says (codes "[") ls && takes_group m)
    → StopsReading e new (if_low (nat_lt (height m) most) (λ all. read_from (lower most) m (behind all)) ls) → StopsReading e new whole
reads_fail most m ls new whole e inv t s =
    grown_fails (another_read most (lower most)) (read_ends most (lower most)) (read_shrinks most) m ls new whole _ e inv (step_is most m ls true t) s

pub reads_go : (most : ℕ) (m y : ExprTree) (ls new : List Lexeme) (whole : Read ExprTree) → grown (another_read most (lower most)) m ls ≡ whole → true ≡ (says (codes "[") ls && takes_group m)
    → if_low (nat_lt (height m) most) (λ all. read_from (lower most) m (behind all)) ls ≡ took y new → grown (another_read most (lower most)) y new ≡ whole
reads_go most m y ls new whole inv t e =
    grown_goes (another_read most (lower most)) (read_ends most (lower most)) (read_shrinks most) m y ls new whole _ inv (step_is most m ls true t) e

pub reads_smaller : (most : ℕ) (m y : ExprTree) (ls new : List Lexeme) → true ≡ (says (codes "[") ls && takes_group m)
    → if_low (nat_lt (height m) most) (λ all. read_from (lower most) m (behind all)) ls ≡ took y new → length new < length ls
reads_smaller most m y ls new t e =
    grown_smaller (another_read most (lower most)) (read_ends most (lower most)) (read_shrinks most) m y ls new _ (step_is most m ls true t) e

-- ---- what stands before another index

index_by : (every comma group : Bool) (ls : List Lexeme) → says (codes ",") ls ≡ comma → (says (codes "]") ls && says (codes "[") (behind ls)) ≡ group
    → another_index (every, None) ls ≡ kept_or comma (behind ls) (kept (not every && group) (behind (behind ls)))
unfolding another_index
index_by every comma group ls c g =
    ap (λ b. kept_or b (behind ls) (kept (not every && (says (codes "]") ls && says (codes "[") (behind ls))) (behind (behind ls)))) c
    ∙ ap (λ b. kept_or comma (behind ls) (kept (not every && b) (behind (behind ls)))) g

commas : (b : Bool) (new ls : List Lexeme) → (b, new) ≡ passing (codes ",") ls → (says (codes ",") ls ≡ b) × (new ≡ (if b then behind ls else ls))
unfolding passing
commas b new ls e =
    let one : says (codes ",") ls ≡ b = sym (ap (λ (p : Bool × List Lexeme). p.0) e) in
    (one, ap (λ (p : Bool × List Lexeme). p.1) e ∙ ap (λ c. if c then behind ls else ls) one)

pub by_comma : (every : Bool) (new ls : List Lexeme) → (true, new) ≡ passing (codes ",") ls → kept true new ≡ another_index (every, None) ls
by_comma every new ls e = let p = commas true new ls e in ap (λ k. Some k) p.1 ∙ sym (index_by every true _ ls p.0 refl)

pub by_every : (every : Bool) (new ls : List Lexeme) → every ≡ true → (false, new) ≡ passing (codes ",") ls → kept false new ≡ another_index (every, None) ls
by_every every new ls t e = let p = commas false new ls e in sym (ap (λ b. another_index (b, None) ls) t ∙ index_by true false _ ls p.0 refl)

pub by_none : (every : Bool) (new ls : List Lexeme) → every ≡ false → (false, new) ≡ passing (codes ",") ls → false ≡ (says (codes "]") new && says (codes "[") (behind new)) → kept false new ≡ another_index (every, None) ls
by_none every new ls z e g =
    let p = commas false new ls e in
    sym (ap (λ b. another_index (b, None) ls) z ∙ index_by false false false ls p.0 (ap (λ k. says (codes "]") k && says (codes "[") (behind k)) (sym p.1) ∙ sym g))

pub by_group : (every : Bool) (mid one new ls : List Lexeme) → every ≡ false → (false, mid) ≡ passing (codes ",") ls → true ≡ (says (codes "]") mid && says (codes "[") (behind mid)) → one ≡ behind mid → new ≡ behind one
    → kept true new ≡ another_index (every, None) ls
by_group every mid one new ls z e g a b =
    let p = commas false mid ls e in
    ap (λ k. Some k) (b ∙ ap (λ k. behind k) (a ∙ ap (λ k. behind k) p.1))
    ∙ sym (ap (λ b. another_index (b, None) ls) z ∙ index_by false false true ls p.0 (ap (λ k. says (codes "]") k && says (codes "[") (behind k)) (sym p.1) ∙ sym g))

pub stays_so : (new ls : List Lexeme) → (false, new) ≡ passing (codes ",") ls → new ≡ ls
stays_so new ls e = (commas false new ls e).1

-- ---- an empty list

chosen_no : {A : Type 0} (b : Bool) (one other : Reader A) (ls : List Lexeme) → false ≡ b → either_reader b one other ls ≡ other ls
chosen_no true one other ls e = absurd cc
chosen_no false one other ls e = refl

-- no expression is next: this is the end of a list of none
pub bracket_empty : (b : Bool) (low : Lower) (p : Place) (start : List Expr) (ls new : List Lexeme) (result : Result Found Stop) → false ≡ expression_next ls → start ≡ []
    → Finds result new (list_end b low (literal p (expr_trees start)) ls) → Finds result new (bracket_from b low p ls)
unfolding bracket_from expr_trees
bracket_empty b low p start ls new result e none f =
    finds_as result new _ _
    (chosen_no (expression_next ls)
    (λ all. low.expr implications all and_then λ e rest. either_reader (says (codes "|") rest) (λ next. comprehension_from b low p e (behind next)) (literal_from b low p e) rest)
    (list_end b low (literal p trees.no_trees)) ls e
    ∙ ap (λ es. list_end b low (literal p (expr_trees es)) ls) (sym none)) f
