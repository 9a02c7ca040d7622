-- Depths of the parts of kinds, and of what is greater.
use Rattle.ep_forms.proofs.Words.{◌≡◌, ℕ, ◌≤◌, ◌<◌, Bool, true, false, List, ◌∷◌, refl, sym, ap, subst, ◌∙◌, arith, Some, None, Option, if◌then◌else◌, nat_le, Box, Name, index_of, sized-Comprehension, sized-Literal, sized-Quant, sized-Read, Domain, size-Domain, Expr, size-Expr, size_is-Expr, Generator, size-Generator, size_is-Generator, Comprehension, Literal, Quant, Read, size-Kind, QuantOp, index_at, end_depth, generators_depth, greater, index_depth, listing_depth, Listing, most}
use Rattle.std.specs.declared.alloc.Global.{Global}
use Rattle.std.specs.declared.vec.Vec.{Vec}

pub index_is : (d : Option (Box Domain Global)) → index_of d ≡ index_at d
unfolding index_of index_at
index_is None = refl
index_is (Some d) = refl

-- ---- the greater of two

pub first_within : (a b : ℕ) → a ≤ greater a b
unfolding greater
first_within a b = by (nat_le a b) refl
  where
    by : (t : Bool) → nat_le a b ≡ t → a ≤ (if t then b else a)
    by true e = grind (arith, e)
    by false e = omega arith

pub second_within : (a b : ℕ) → b ≤ greater a b
unfolding greater
second_within a b = by (nat_le a b) refl
  where
    by : (t : Bool) → nat_le a b ≡ t → b ≤ (if t then b else a)
    by true e = omega arith
    by false e = grind (arith, e)

pub both_within : (a b n : ℕ) → a ≤ n → b ≤ n → greater a b ≤ n
unfolding greater
both_within a b n h k = by (nat_le a b)
  where
    by : (t : Bool) → (if t then b else a) ≤ n
    by true = k
    by false = h

pub both_below : (a b n : ℕ) → a < n → b < n → greater a b < n
unfolding greater
both_below a b n h k = by (nat_le a b)
  where
    by : (t : Bool) → (if t then b else a) < n
    by true = k
    by false = h

-- ---- kinds of expressions

-- an expression is as deep as its kind
pub of_kind : (e : Expr) → size-Kind e.kind ≤ size-Expr e
of_kind e = let s = size_is-Expr e in grind (arith, s)

-- so what is less deep than its kind is less deep than it
pub deeper : (e : Expr) (n : ℕ) → n < size-Kind e.kind → n < size-Expr e
deeper e n h = let deep = of_kind e in omega (arith, deep, h)

pub of_parts : (v : Vec Expr Global) (d : Option (Box Domain Global)) (parts : List Expr) → parts ≡ v.items → most size-Expr parts < size-Kind (Literal v d)
of_parts v d parts same = let s = sized-Literal v d in subst (λ es. most size-Expr es < size-Kind (Literal v d)) (sym same) (grind (arith, s))

pub of_index : (v : Vec Expr Global) (d : Option (Box Domain Global)) → index_depth d < size-Kind (Literal v d)
unfolding index_depth
of_index v None = let s = sized-Literal v None in grind (arith, s)
of_index v (Some d) = let s = sized-Literal v (Some d) in grind (arith, s)

pub of_matrix : (e : Box Expr Global) (v : Vec (Option Expr) Global) (matrix : Expr) → matrix ≡ e.value → size-Expr matrix < size-Kind (Read e v)
of_matrix e v matrix same = let s = sized-Read e v in subst (λ m. size-Expr m < size-Kind (Read e v)) (sym same) (grind (arith, s))

pub of_indices : (e : Box Expr Global) (v : Vec (Option Expr) Global) (indices : List (Option Expr)) → indices ≡ v.items → most end_depth indices < size-Kind (Read e v)
unfolding end_depth
of_indices e v indices same = let s = sized-Read e v in subst (λ is. most end_depth is < size-Kind (Read e v)) (sym same) (grind (arith, s))

pub of_quantifier : (op : QuantOp) (names : Vec Name Global) (d : Box Domain Global) (b : Box Expr Global) (domain : Domain) (body : Expr) → domain ≡ d.value → body ≡ b.value
    → greater (size-Domain domain) (size-Expr body) < size-Kind (Quant op names d b)
of_quantifier op names d b domain body one other =
    let s = sized-Quant op names d b in
    both_below (size-Domain domain) (size-Expr body) (size-Kind (Quant op names d b))
    (subst (λ x. size-Domain x < size-Kind (Quant op names d b)) (sym one) (grind (arith, s)))
    (subst (λ x. size-Expr x < size-Kind (Quant op names d b)) (sym other) (grind (arith, s)))

of_body : (e : Box Expr Global) (gens : Vec Generator Global) (v : Vec Expr Global) (d : Option (Box Domain Global)) → size-Expr e.value < size-Kind (Comprehension e gens v d)
of_body e gens v d = let s = sized-Comprehension e gens v d in grind (arith, s)

of_conditions : (e : Box Expr Global) (gens : Vec Generator Global) (v : Vec Expr Global) (d : Option (Box Domain Global)) → most size-Expr v.items < size-Kind (Comprehension e gens v d)
of_conditions e gens v d = let s = sized-Comprehension e gens v d in grind (arith, s)

of_generators : (e : Box Expr Global) (gens : Vec Generator Global) (v : Vec Expr Global) (d : Option (Box Domain Global)) → most size-Generator gens.items < size-Kind (Comprehension e gens v d)
of_generators e gens v d = let s = sized-Comprehension e gens v d in grind (arith, s)

pub of_own_index : (e : Box Expr Global) (gens : Vec Generator Global) (v : Vec Expr Global) (d : Option (Box Domain Global)) → index_depth d < size-Kind (Comprehension e gens v d)
unfolding index_depth
of_own_index e gens v None = let s = sized-Comprehension e gens v None in grind (arith, s)
of_own_index e gens v (Some d) = let s = sized-Comprehension e gens v (Some d) in grind (arith, s)

pub of_comprehension :
    (e : Box Expr Global) (gens : Vec Generator Global) (v : Vec Expr Global) (d : Option (Box Domain Global)) (l : Listing) (lent : List Generator)
    → l.body.now ≡ e.value → l.conditions.now ≡ v.items → lent ≡ gens.items → generators_depth l lent < size-Kind (Comprehension e gens v d)
of_comprehension e gens v d l lent body conditions generators =
    let one = of_body e gens v d in
    let two = of_conditions e gens v d in
    let three = of_generators e gens v d in
    let whole = size-Kind (Comprehension e gens v d) in
    both_below (listing_depth l) (most size-Generator lent) whole
    (both_below (size-Expr l.body.now) (most size-Expr l.conditions.now) whole
    (subst (λ x. size-Expr x < whole) (sym body) one) (subst (λ es. most size-Expr es < whole) (sym conditions) two))
    (subst (λ gs. most size-Generator gs < whole) (sym generators) three)

-- ---- generators

of_generator : (g : Generator) → size-Domain g.domain ≤ size-Generator g
of_generator g = let s = size_is-Generator g in grind (arith, s)

first_most : (g : Generator) (later : List Generator) → size-Generator g ≤ most size-Generator (g ∷ later)
first_most g later = grind arith

later_most : (g : Generator) (later : List Generator) → most size-Generator later ≤ most size-Generator (g ∷ later)
later_most g later = grind arith

-- the first generator and those behind it are no deeper than all
pub first_generator : (l : Listing) (gens : List Generator) (g : Generator) (later : List Generator) (d : Domain) → gens ≡ g ∷ later → d ≡ g.domain
    → greater (size-Domain d) (generators_depth l later) ≤ generators_depth l gens
first_generator l gens g later d cut same =
    let whole : ℕ = generators_depth l gens in
    let all : most size-Generator gens ≤ whole = second_within (listing_depth l) (most size-Generator gens) in
    let apart : most size-Generator gens ≡ most size-Generator (g ∷ later) = ap (most size-Generator) cut in
    let one = of_generator g in
    let front = first_most g later in
    let behind = later_most g later in
    let own : size-Domain d ≡ size-Domain g.domain = ap size-Domain same in
    both_within (size-Domain d) (generators_depth l later) whole
    (omega (arith, all, apart, one, front, own))
    (both_within (listing_depth l) (most size-Generator later) whole
    (first_within (listing_depth l) (most size-Generator gens))
    (omega (arith, all, apart, behind)))
