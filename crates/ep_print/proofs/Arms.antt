-- What is put out for each kind of expression and domain, from what is put out for its parts.
use Rattle.std.proofs.Common.{◌≡◌, ℕ, Bool, true, false, List, [], ◌∷◌, ◌++◌, codes, refl, sym, ap, ◌∙◌, subst, append_assoc, Result, Ok, Err, OnOk, Option, Some, None, not, ◌==◌, length, drop, get_or, ◌+◌, ◌<◌, ◌≤◌, arith}
use Rattle.std.proofs.lemmas.Bool.{ne_eqb}
use Rattle.std.proofs.lemmas.List.{append-nil, drop_all}
use Rattle.std.specs.declared.boxed.Box.{Box}
use Rattle.std.specs.declared.alloc.Global.{Global}
use Rattle.std.specs.declared.vec.Vec.{Vec}
use Rattle.ep_base.specs.declared.names.Name.{Name}
use Rattle.ep_base.specs.declared.places.Place.{Place}
use Rattle.ep_base.specs.declared.operators.CompareOp.{CompareOp}
use Rattle.ep_base.specs.declared.operators.LexOp.{LexOp}
use Rattle.ep_tree.specs.declared.syntax.BinaryOp.{BinaryOp}
use Rattle.ep_tree.specs.declared.syntax.QuantOp.{QuantOp}
use Rattle.ep_tree.specs.declared.syntax.SetOp.{SetOp}
use Rattle.ep_tree.specs.declared.syntax.Expr.{Expr}
use Rattle.ep_tree.specs.declared.syntax.Domain.{Domain}
use Rattle.ep_tree.specs.declared.syntax.Kind.{Kind, Add, And, AtLeast, AtMost, Binary, Compare, Comprehension, Gcc, InDomain, InSet, Lex, Literal, Or, Quant, Read, Table}
use Rattle.ep_tree.specs.declared.syntax.DomainKind.{DomainKind, Matrix, Ranges, Set}
use Rattle.ep_tree.specs.declared.syntax.Generator.{Generator}
use Rattle.ep_tree.specs.declared.syntax.Range.{Range, One', Span, Span'}
use Rattle.ep_tree.specs.Spelling.{binary_word, compare_word, is_called, lex_word, quantifier_word, set_word, sign_word}
use Rattle.ep_tree.specs.Trees.{ExprTree, Terms, no_terms, term_and}
use Rattle.ep_tree.specs.Views.{domain_kind_tree, domain_tree, domains_of, end_of, held_end, expr_tree, expr_trees, generators_of, indices_of, kind_tree, ranges_of, terms_of, with_range}
use Rattle.ep_tree.proofs.ViewLemmas.{domain_kind_tree-matrix, domain_kind_tree-ranges, index_of, kind_tree-all_of, kind_tree-any_of, kind_tree-chain, kind_tree-comprehension, kind_tree-literal, kind_tree-read}
use Rattle.ep_print.specs.Joining.{with_between}
use Rattle.ep_print.specs.Putting.{between_if, chain_from, continued, held_index_words, held_range_words, index_tree, words_spaced}
use Rattle.ep_print.specs.Words.{Words, all_domain_words, all_words, binary_words, domain_words, end_words, expr_words, generator_words, index_domain_words, index_words, name_words, range_words, term_words}
use Rattle.ep_print.proofs.Puts.{continued-append, joined-continued, puts_both, spaced-nil, started_after}
use Rattle.ep_print.proofs.Turns.{Listed, next_is, turn}

-- ---- pieces, of which the last may fail

on_ok_map : {X E : Type 0} (r : Result X E) (P Q : Type 0) → (P → Q) → OnOk r P → OnOk r Q
on_ok_map (Ok x) P Q f p = f p
on_ok_map (Err e) P Q f p = tt

-- the words of some pieces are these
pub last1 : {X E : Type 0} (r : Result X E) (old t1 : List ℕ) (a words : Words) → OnOk r (t1 ≡ old ++ words_spaced a) → a ≡ words → OnOk r (t1 ≡ old ++ words_spaced words)
last1 r old t1 a words p e = subst (λ (w : Words). OnOk r (t1 ≡ old ++ words_spaced w)) e p

pub last2 : {X E : Type 0} (r : Result X E) (old t1 t2 : List ℕ) (a b words : Words) → t1 ≡ old ++ words_spaced a → OnOk r (t2 ≡ t1 ++ words_spaced b) → a ++ b ≡ words → OnOk r (t2 ≡ old ++ words_spaced words)
last2 r old t1 t2 a b words p q e = last1 r old t2 (a ++ b) words (on_ok_map r _ _ (λ s. puts_both old t1 t2 a b p s) q) e

pub last3 : {X E : Type 0} (r : Result X E) (old t1 t2 t3 : List ℕ) (a b c words : Words) → t1 ≡ old ++ words_spaced a → t2 ≡ t1 ++ words_spaced b → OnOk r (t3 ≡ t2 ++ words_spaced c) → (a ++ b) ++ c ≡ words → OnOk r (t3 ≡ old ++ words_spaced words)
last3 r old t1 t2 t3 a b c words p q s e = last2 r old t2 t3 (a ++ b) c words (puts_both old t1 t2 a b p q) s e

pub last4 : {X E : Type 0} (r : Result X E) (old t1 t2 t3 t4 : List ℕ) (a b c d words : Words) → t1 ≡ old ++ words_spaced a → t2 ≡ t1 ++ words_spaced b → t3 ≡ t2 ++ words_spaced c → OnOk r (t4 ≡ t3 ++ words_spaced d) → ((a ++ b) ++ c) ++ d ≡ words → OnOk r (t4 ≡ old ++ words_spaced words)
last4 r old t1 t2 t3 t4 a b c d words p q s u e = last2 r old t3 t4 ((a ++ b) ++ c) d words (puts_both old t2 t3 (a ++ b) c (puts_both old t1 t2 a b p q) s) u e

-- ---- regrouping

called_words : (w : List ℕ) (a b : Words) → (w ∷ codes "(" ∷ (a ++ codes "," ∷ [])) ++ (b ++ codes ")" ∷ []) ≡ w ∷ codes "(" ∷ ((a ++ (codes "," ∷ b)) ++ codes ")" ∷ [])
called_words w a b = ap (λ t. w ∷ codes "(" ∷ t) (simp append_assoc)

three_words : (w : List ℕ) (a b c : Words) → ((w ∷ codes "(" ∷ (a ++ codes "," ∷ [])) ++ (b ++ codes "," ∷ [])) ++ (c ++ codes ")" ∷ []) ≡ w ∷ codes "(" ∷ ((a ++ (codes "," ∷ (b ++ (codes "," ∷ c)))) ++ codes ")" ∷ [])
three_words w a b c = ap (λ t. w ∷ codes "(" ∷ t) (simp append_assoc)

quantified_words : (w : List ℕ) (names d e : Words) → (((w ∷ []) ++ names) ++ (codes ":" ∷ (d ++ codes "." ∷ []))) ++ e ≡ w ∷ (names ++ (codes ":" ∷ (d ++ (codes "." ∷ e))))
quantified_words w names d e = ap (λ t. w ∷ t) (append_assoc names (codes ":" ∷ (d ++ codes "." ∷ [])) e ∙ ap (λ t. names ++ (codes ":" ∷ t)) (append_assoc d (codes "." ∷ []) e))

comprehension_words : (e gens conditions index : Words) → (((codes "[" ∷ (e ++ codes "|" ∷ [])) ++ gens) ++ conditions) ++ index ≡ codes "[" ∷ (e ++ (codes "|" ∷ ((gens ++ conditions) ++ index)))
comprehension_words e gens conditions index =
    ap (λ t. codes "[" ∷ t)
    (ap (λ t. (t ++ conditions) ++ index) (append_assoc e (codes "|" ∷ []) gens)
    ∙ ap (λ t. t ++ index) (append_assoc e (codes "|" ∷ gens) conditions)
    ∙ append_assoc e (codes "|" ∷ (gens ++ conditions)) index)

after_generators : (gens : List Generator) → started_after false (generator_words (generators_of gens)) ≡ not (length gens == 0)
unfolding expr_words generators_of
after_generators [] = refl
after_generators (g ∷ gens) = ap not (sym (ne_eqb (length (g ∷ gens)) 0 (λ e. omega (arith, e))))

index_same : (d : Option (Box Domain Global)) → index_tree d ≡ index_of d
unfolding index_tree index_of
index_same None = refl
index_same (Some d) = refl

-- ---- the words of each kind, in pieces

module _ (p : Place) (k : Kind) where
  pub compare_pieces : (op : CompareOp) (a b : Box Expr Global) (w : List ℕ) → k ≡ Compare op a b → w ≡ codes (compare_word op)
      → (expr_words (expr_tree a.value) ++ (w ∷ [])) ++ expr_words (expr_tree b.value) ≡ expr_words (kind_tree p k)
  unfolding expr_words kind_tree
  compare_pieces op a b w is word =
      append_assoc (expr_words (expr_tree a.value)) (w ∷ []) (expr_words (expr_tree b.value))
      ∙ ap (λ v. expr_words (expr_tree a.value) ++ (v ∷ expr_words (expr_tree b.value))) word
      ∙ ap (λ kind. expr_words (kind_tree p kind)) (sym is)

  pub lex_pieces : (op : LexOp) (a b : Box Expr Global) (w : List ℕ) → k ≡ Lex op a b → w ≡ codes (lex_word op)
      → (expr_words (expr_tree a.value) ++ (w ∷ [])) ++ expr_words (expr_tree b.value) ≡ expr_words (kind_tree p k)
  unfolding expr_words kind_tree
  lex_pieces op a b w is word =
      append_assoc (expr_words (expr_tree a.value)) (w ∷ []) (expr_words (expr_tree b.value))
      ∙ ap (λ v. expr_words (expr_tree a.value) ++ (v ∷ expr_words (expr_tree b.value))) word
      ∙ ap (λ kind. expr_words (kind_tree p kind)) (sym is)

  pub in_domain_pieces : (e : Box Expr Global) (d : Box Domain Global) → k ≡ InDomain e d
      → (expr_words (expr_tree e.value) ++ (codes "in" ∷ [])) ++ domain_words (domain_tree d.value) ≡ expr_words (kind_tree p k)
  unfolding expr_words kind_tree
  in_domain_pieces e d is =
      append_assoc (expr_words (expr_tree e.value)) (codes "in" ∷ []) (domain_words (domain_tree d.value))
      ∙ ap (λ kind. expr_words (kind_tree p kind)) (sym is)

  pub in_set_pieces : (e m : Box Expr Global) → k ≡ InSet e m
      → (expr_words (expr_tree e.value) ++ (codes "in" ∷ codes "toSet" ∷ codes "(" ∷ [])) ++ (expr_words (expr_tree m.value) ++ codes ")" ∷ []) ≡ expr_words (kind_tree p k)
  unfolding expr_words kind_tree with_between
  in_set_pieces e m is =
      append_assoc (expr_words (expr_tree e.value)) (codes "in" ∷ codes "toSet" ∷ codes "(" ∷ []) (expr_words (expr_tree m.value) ++ codes ")" ∷ [])
      ∙ ap (λ kind. expr_words (kind_tree p kind)) (sym is)

  pub all_of_pieces : (parts : Vec Expr Global) → k ≡ And parts → continued (codes "/\\" ∷ []) false (all_words (expr_trees parts.items)) ≡ expr_words (kind_tree p k)
  unfolding expr_words
  all_of_pieces parts is =
      sym (joined-continued (codes "/\\" ∷ []) (all_words (expr_trees parts.items))) ∙ ap expr_words (sym (ap (kind_tree p) is ∙ kind_tree-all_of p parts))

  pub any_of_pieces : (parts : Vec Expr Global) → k ≡ Or parts → continued (codes "\\/" ∷ []) false (all_words (expr_trees parts.items)) ≡ expr_words (kind_tree p k)
  unfolding expr_words
  any_of_pieces parts is =
      sym (joined-continued (codes "\\/" ∷ []) (all_words (expr_trees parts.items))) ∙ ap expr_words (sym (ap (kind_tree p) is ∙ kind_tree-any_of p parts))

  pub chain_pieces : (terms : Vec (Bool × Expr) Global) → k ≡ Add terms → chain_from false (terms_of terms.items) ≡ expr_words (kind_tree p k)
  unfolding expr_words chain_from
  chain_pieces terms is = ap expr_words (sym (ap (kind_tree p) is ∙ kind_tree-chain p terms))

  pub infix_pieces : (op : BinaryOp) (a b : Box Expr Global) (w : List ℕ) → k ≡ Binary op a b → is_called op ≡ false → w ≡ codes (binary_word op)
      → (expr_words (expr_tree a.value) ++ (w ∷ [])) ++ expr_words (expr_tree b.value) ≡ expr_words (kind_tree p k)
  unfolding expr_words kind_tree binary_words
  infix_pieces op a b w is called word =
      append_assoc (expr_words (expr_tree a.value)) (w ∷ []) (expr_words (expr_tree b.value))
      ∙ ap (λ v. expr_words (expr_tree a.value) ++ (v ∷ expr_words (expr_tree b.value))) word
      ∙ ap (λ c. binary_words c (binary_word op) (expr_words (expr_tree a.value)) (expr_words (expr_tree b.value))) (sym called)
      ∙ ap (λ kind. expr_words (kind_tree p kind)) (sym is)

  pub called_pieces : (op : BinaryOp) (a b : Box Expr Global) (w : List ℕ) → k ≡ Binary op a b → is_called op ≡ true → w ≡ codes (binary_word op)
      → (w ∷ codes "(" ∷ (expr_words (expr_tree a.value) ++ codes "," ∷ [])) ++ (expr_words (expr_tree b.value) ++ codes ")" ∷ []) ≡ expr_words (kind_tree p k)
  unfolding expr_words kind_tree binary_words with_between
  called_pieces op a b w is called word =
      called_words w (expr_words (expr_tree a.value)) (expr_words (expr_tree b.value))
      ∙ ap (λ v. v ∷ codes "(" ∷ ((expr_words (expr_tree a.value) ++ (codes "," ∷ expr_words (expr_tree b.value))) ++ codes ")" ∷ [])) word
      ∙ ap (λ c. binary_words c (binary_word op) (expr_words (expr_tree a.value)) (expr_words (expr_tree b.value))) (sym called)
      ∙ ap (λ kind. expr_words (kind_tree p kind)) (sym is)

  pub table_pieces : (a b : Box Expr Global) → k ≡ Table a b
      → (codes "table" ∷ codes "(" ∷ (expr_words (expr_tree a.value) ++ codes "," ∷ [])) ++ (expr_words (expr_tree b.value) ++ codes ")" ∷ []) ≡ expr_words (kind_tree p k)
  unfolding expr_words kind_tree with_between
  table_pieces a b is =
      called_words (codes "table") (expr_words (expr_tree a.value)) (expr_words (expr_tree b.value))
      ∙ ap (λ kind. expr_words (kind_tree p kind)) (sym is)

  pub gcc_pieces : (a b c : Box Expr Global) → k ≡ Gcc a b c
      → ((codes "gcc" ∷ codes "(" ∷ (expr_words (expr_tree a.value) ++ codes "," ∷ [])) ++ (expr_words (expr_tree b.value) ++ codes "," ∷ [])) ++ (expr_words (expr_tree c.value) ++ codes ")" ∷ []) ≡ expr_words (kind_tree p k)
  unfolding expr_words kind_tree with_between
  gcc_pieces a b c is =
      three_words (codes "gcc") (expr_words (expr_tree a.value)) (expr_words (expr_tree b.value)) (expr_words (expr_tree c.value))
      ∙ ap (λ kind. expr_words (kind_tree p kind)) (sym is)

  pub at_least_pieces : (a b c : Box Expr Global) → k ≡ AtLeast a b c
      → ((codes "atleast" ∷ codes "(" ∷ (expr_words (expr_tree a.value) ++ codes "," ∷ [])) ++ (expr_words (expr_tree b.value) ++ codes "," ∷ [])) ++ (expr_words (expr_tree c.value) ++ codes ")" ∷ []) ≡ expr_words (kind_tree p k)
  unfolding expr_words kind_tree with_between
  at_least_pieces a b c is =
      three_words (codes "atleast") (expr_words (expr_tree a.value)) (expr_words (expr_tree b.value)) (expr_words (expr_tree c.value))
      ∙ ap (λ kind. expr_words (kind_tree p kind)) (sym is)

  pub at_most_pieces : (a b c : Box Expr Global) → k ≡ AtMost a b c
      → ((codes "atmost" ∷ codes "(" ∷ (expr_words (expr_tree a.value) ++ codes "," ∷ [])) ++ (expr_words (expr_tree b.value) ++ codes "," ∷ [])) ++ (expr_words (expr_tree c.value) ++ codes ")" ∷ []) ≡ expr_words (kind_tree p k)
  unfolding expr_words kind_tree with_between
  at_most_pieces a b c is =
      three_words (codes "atmost") (expr_words (expr_tree a.value)) (expr_words (expr_tree b.value)) (expr_words (expr_tree c.value))
      ∙ ap (λ kind. expr_words (kind_tree p kind)) (sym is)

  pub quantified_pieces : (op : QuantOp) (names : Vec Name Global) (d : Box Domain Global) (e : Box Expr Global) (w : List ℕ) → k ≡ Quant op names d e → w ≡ codes (quantifier_word op)
      → (((w ∷ []) ++ name_words names.items) ++ (codes ":" ∷ (domain_words (domain_tree d.value) ++ codes "." ∷ []))) ++ expr_words (expr_tree e.value) ≡ expr_words (kind_tree p k)
  unfolding expr_words kind_tree
  quantified_pieces op names d e w is word =
      quantified_words w (name_words names.items) (domain_words (domain_tree d.value)) (expr_words (expr_tree e.value))
      ∙ ap (λ v. v ∷ (name_words names.items ++ (codes ":" ∷ (domain_words (domain_tree d.value) ++ (codes "." ∷ expr_words (expr_tree e.value)))))) word
      ∙ ap (λ kind. expr_words (kind_tree p kind)) (sym is)

  pub read_pieces : (m : Box Expr Global) (indices : Vec (Option Expr) Global) → k ≡ Read m indices
      → (expr_words (expr_tree m.value) ++ codes "[" ∷ []) ++ (continued (codes "," ∷ []) false (index_words (indices_of indices.items)) ++ codes "]" ∷ []) ≡ expr_words (kind_tree p k)
  unfolding expr_words
  read_pieces m indices is =
      append_assoc (expr_words (expr_tree m.value)) (codes "[" ∷ []) (continued (codes "," ∷ []) false (index_words (indices_of indices.items)) ++ codes "]" ∷ [])
      ∙ ap (λ t. expr_words (expr_tree m.value) ++ (codes "[" ∷ (t ++ codes "]" ∷ []))) (sym (joined-continued (codes "," ∷ []) (index_words (indices_of indices.items))))
      ∙ ap expr_words (sym (ap (kind_tree p) is ∙ kind_tree-read p m indices))

  pub literal_pieces : (parts : Vec Expr Global) (d : Option (Box Domain Global)) → k ≡ Literal parts d
      → ((codes "[" ∷ []) ++ continued (codes "," ∷ []) false (all_words (expr_trees parts.items))) ++ (index_domain_words (index_tree d) ++ codes "]" ∷ []) ≡ expr_words (kind_tree p k)
  unfolding expr_words
  literal_pieces parts d is =
      ap (λ i. codes "[" ∷ (continued (codes "," ∷ []) false (all_words (expr_trees parts.items)) ++ (index_domain_words i ++ codes "]" ∷ []))) (index_same d)
      ∙ ap (λ t. codes "[" ∷ (t ++ (index_domain_words (index_of d) ++ codes "]" ∷ []))) (sym (joined-continued (codes "," ∷ []) (all_words (expr_trees parts.items))))
      ∙ ap expr_words (sym (ap (kind_tree p) is ∙ kind_tree-literal p parts d))

  pub comprehension_pieces : (e : Box Expr Global) (gens : Vec Generator Global) (conditions : Vec Expr Global) (d : Option (Box Domain Global)) (started : Bool) → k ≡ Comprehension e gens conditions d → started ≡ not (length gens.items == 0)
      → (((codes "[" ∷ (expr_words (expr_tree e.value) ++ codes "|" ∷ [])) ++ continued (codes "," ∷ []) false (generator_words (generators_of gens.items))) ++ continued (codes "," ∷ []) started (all_words (expr_trees conditions.items)))
      ++ (index_domain_words (index_tree d) ++ codes "]" ∷ []) ≡ expr_words (kind_tree p k)
  unfolding expr_words
  comprehension_pieces e gens conditions d started is after =
      let g = generator_words (generators_of gens.items) in
      let c = all_words (expr_trees conditions.items) in
      let end = index_domain_words (index_tree d) ++ codes "]" ∷ [] in
      let parts : continued (codes "," ∷ []) false g ++ continued (codes "," ∷ []) started c ≡ with_between (codes "," ∷ []) (g ++ c) =
      ap (λ b. continued (codes "," ∷ []) false g ++ continued (codes "," ∷ []) b c) (after ∙ sym (after_generators gens.items))
      ∙ sym (continued-append (codes "," ∷ []) false g c) ∙ sym (joined-continued (codes "," ∷ []) (g ++ c)) in
      comprehension_words (expr_words (expr_tree e.value)) (continued (codes "," ∷ []) false g) (continued (codes "," ∷ []) started c) end
      ∙ ap (λ t. codes "[" ∷ (expr_words (expr_tree e.value) ++ (codes "|" ∷ (t ++ end)))) parts
      ∙ ap (λ i. codes "[" ∷ (expr_words (expr_tree e.value) ++ (codes "|" ∷ (with_between (codes "," ∷ []) (g ++ c) ++ (index_domain_words i ++ codes "]" ∷ []))))) (index_same d)
      ∙ ap expr_words (sym (ap (kind_tree p) is ∙ kind_tree-comprehension p e gens conditions d))

-- ---- the words of each kind of domain, in pieces

module _ (p : Place) (k : DomainKind) where
  pub ranges_pieces : (rs : Vec Range Global) → k ≡ Ranges rs
      → codes "int" ∷ codes "(" ∷ (continued (codes "," ∷ []) false (range_words (ranges_of rs.items)) ++ codes ")" ∷ []) ≡ domain_words (domain_kind_tree p k)
  unfolding expr_words
  ranges_pieces rs is =
      ap (λ t. codes "int" ∷ codes "(" ∷ (t ++ codes ")" ∷ [])) (sym (joined-continued (codes "," ∷ []) (range_words (ranges_of rs.items))))
      ∙ ap domain_words (sym (ap (domain_kind_tree p) is ∙ domain_kind_tree-ranges p rs))

  pub set_pieces : (op : SetOp) (c d : Box Domain Global) (w : List ℕ) → k ≡ Set op c d → w ≡ codes (set_word op)
      → (domain_words (domain_tree c.value) ++ (w ∷ [])) ++ domain_words (domain_tree d.value) ≡ domain_words (domain_kind_tree p k)
  unfolding expr_words kind_tree
  set_pieces op c d w is word =
      append_assoc (domain_words (domain_tree c.value)) (w ∷ []) (domain_words (domain_tree d.value))
      ∙ ap (λ v. domain_words (domain_tree c.value) ++ (v ∷ domain_words (domain_tree d.value))) word
      ∙ ap (λ kind. domain_words (domain_kind_tree p kind)) (sym is)

  pub matrix_pieces : (ds : Vec Domain Global) (d : Box Domain Global) → k ≡ Matrix ds d
      → ((codes "matrix" ∷ codes "indexed" ∷ codes "by" ∷ codes "[" ∷ []) ++ continued (codes "," ∷ []) false (all_domain_words (domains_of ds.items)))
      ++ (codes "]" ∷ codes "of" ∷ (domain_words (domain_tree d.value) ++ [])) ≡ domain_words (domain_kind_tree p k)
  unfolding expr_words
  matrix_pieces ds d is =
      ap (λ t. codes "matrix" ∷ codes "indexed" ∷ codes "by" ∷ codes "[" ∷ (t ++ (codes "]" ∷ codes "of" ∷ (domain_words (domain_tree d.value) ++ [])))) (sym (joined-continued (codes "," ∷ []) (all_domain_words (domains_of ds.items))))
      ∙ ap (λ t. codes "matrix" ∷ codes "indexed" ∷ codes "by" ∷ codes "[" ∷ (with_between (codes "," ∷ []) (all_domain_words (domains_of ds.items)) ++ (codes "]" ∷ codes "of" ∷ t))) (append-nil (domain_words (domain_tree d.value)))
      ∙ ap domain_words (sym (ap (domain_kind_tree p) is ∙ domain_kind_tree-matrix p ds d))

-- ---- lists of parts

pub puts_three : (old t1 t2 t3 : List ℕ) (a b c : Words) → t1 ≡ old ++ words_spaced a → t2 ≡ t1 ++ words_spaced b → t3 ≡ t2 ++ words_spaced c → t3 ≡ old ++ words_spaced (a ++ (b ++ c))
puts_three old t1 t2 t3 a b c p q s = puts_both old t1 t3 a (b ++ c) p (puts_both t1 t2 t3 b c q s)

pub parts_listed : Listed (λ (es : List Expr). all_words (expr_trees es)) (λ (e : Expr). expr_words (expr_tree e))
unfolding expr_words expr_trees
parts_listed = record { none = refl; more = λ x xs. refl }

pub domains_listed : Listed (λ (ds : List Domain). all_domain_words (domains_of ds)) (λ (d : Domain). domain_words (domain_tree d))
unfolding expr_words domains_of
domains_listed = record { none = refl; more = λ x xs. refl }

pub generators_listed : Listed (λ (gs : List Generator). generator_words (generators_of gs)) (λ (g : Generator). name_words g.names.items ++ (codes ":" ∷ domain_words (domain_tree g.domain)))
unfolding expr_words generators_of
generators_listed = record { none = refl; more = λ x xs. refl }

pub indices_listed : Listed (λ (is : List (Option Expr)). index_words (indices_of is)) held_index_words
unfolding expr_words indices_of held_index_words
indices_listed = record { none = refl; more = one_more }
  where
    one_more : (x : Option Expr) (xs : List (Option Expr)) → index_words (indices_of (x ∷ xs)) ≡ held_index_words x ∷ index_words (indices_of xs)
    one_more None xs = refl
    one_more (Some e) xs = refl

-- an index that is put out
pub some_index : (x : Option Expr) (e : Expr) (t1 t2 : List ℕ) → x ≡ Some e → t2 ≡ t1 ++ words_spaced (expr_words (expr_tree e)) → t2 ≡ t1 ++ words_spaced (held_index_words x)
unfolding held_index_words
some_index x e t1 t2 is put = put ∙ ap (λ (y : Option Expr). t1 ++ words_spaced (held_index_words y)) (sym is)

-- an index that is `..`
pub no_index : (x : Option Expr) (t1 t2 : List ℕ) → x ≡ None → t2 ≡ t1 ++ words_spaced (codes ".." ∷ []) → t2 ≡ t1 ++ words_spaced (held_index_words x)
unfolding held_index_words
no_index x t1 t2 is put = put ∙ ap (λ (y : Option Expr). t1 ++ words_spaced (held_index_words y)) (sym is)

-- a turn of a loop over indices whose arms have joined
pub index_turn : (started now : Bool) (xs : List (Option Expr)) (i : ℕ) (x : Option Expr) (t0 t1 t2 t3 goal : List ℕ) → i < length xs → x ≡ get_or xs i x
    → t1 ≡ t0 ++ words_spaced (between_if started (codes "," ∷ [])) → t2 ≡ t1 ++ words_spaced (held_index_words x) → t3 ≡ t2 → now ≡ true
    → t0 ++ words_spaced (continued (codes "," ∷ []) started (index_words (indices_of (drop i xs)))) ≡ goal → t3 ++ words_spaced (continued (codes "," ∷ []) now (index_words (indices_of (drop (i + 1) xs)))) ≡ goal
index_turn started now xs i x t0 t1 t2 t3 goal lt is first second same joined so_far =
    let left = index_words (indices_of (drop (i + 1) xs)) in
    ap (λ t. t ++ words_spaced (continued (codes "," ∷ []) now left)) same ∙ ap (λ b. t2 ++ words_spaced (continued (codes "," ∷ []) b left)) joined
    ∙ turn _ _ indices_listed (codes "," ∷ []) started xs i x t0 t1 t2 goal lt is first second so_far

-- a range of two ends
pub span_pieces : (r : Range) (a b : Option Expr) → r ≡ Span a b → (end_words (end_of a) ++ codes ".." ∷ []) ++ end_words (end_of b) ≡ held_range_words r
unfolding held_range_words expr_words end_of held_end
span_pieces r a b is = append_assoc (end_words (end_of a)) (codes ".." ∷ []) (end_words (end_of b)) ∙ ends a b ∙ ap held_range_words (sym is)
  where
    ends : (a b : Option Expr) → end_words (end_of a) ++ (codes ".." ∷ end_words (end_of b)) ≡ held_range_words (Span a b)
    ends None None = refl
    ends None (Some b) = refl
    ends (Some a) None = refl
    ends (Some a) (Some b) = refl

pub ranges_listed : Listed (λ (rs : List Range). range_words (ranges_of rs)) held_range_words
unfolding expr_words ranges_of with_range held_range_words
ranges_listed = record { none = refl; more = one_more }
  where
    one_more : (r : Range) (rs : List Range) → range_words (ranges_of (r ∷ rs)) ≡ held_range_words r ∷ range_words (ranges_of rs)
    one_more (One' p e) rs = refl
    one_more (Span' a b) rs = refl

chain_one : (started plus : Bool) (e : ExprTree) (ts : Terms) → chain_from started (term_and plus e ts) ≡ between_if started (codes (sign_word plus) ∷ []) ++ (expr_words e ++ term_words ts)
unfolding chain_from expr_words between_if
chain_one true plus e ts = refl
chain_one false plus e ts = refl

pub chain_turn : (started : Bool) (xs : List (Bool × Expr)) (i : ℕ) (x : Bool × Expr) (w t0 t1 t2 goal : List ℕ) → i < length xs → x ≡ get_or xs i x → w ≡ codes (sign_word x.0)
    → t1 ≡ t0 ++ words_spaced (between_if started (w ∷ [])) → t2 ≡ t1 ++ words_spaced (expr_words (expr_tree x.1))
    → t0 ++ words_spaced (chain_from started (terms_of (drop i xs))) ≡ goal → t2 ++ words_spaced (chain_from true (terms_of (drop (i + 1) xs))) ≡ goal
unfolding chain_from terms_of
chain_turn started xs i x w t0 t1 t2 goal lt is word first second so_far =
    let rest = terms_of (drop (i + 1) xs) in
    let sign = between_if started (codes (sign_word x.0) ∷ []) in
    puts_three t0 t1 t2 (t2 ++ words_spaced (term_words rest)) sign (expr_words (expr_tree x.1)) (term_words rest) (first ∙ ap (λ v. t0 ++ words_spaced (between_if started (v ∷ []))) word) second refl
    ∙ ap (λ ws. t0 ++ words_spaced ws) (sym (chain_one started x.0 (expr_tree x.1) rest))
    ∙ ap (λ ys. t0 ++ words_spaced (chain_from started (terms_of ys))) (sym (next_is xs i x lt is)) ∙ so_far

no_chain : (started : Bool) → chain_from started no_terms ≡ []
unfolding chain_from expr_words
no_chain true = refl
no_chain false = refl

pub chain_end : (started : Bool) (xs : List (Bool × Expr)) (i : ℕ) (t goal : List ℕ) → length xs ≤ i → t ++ words_spaced (chain_from started (terms_of (drop i xs))) ≡ goal → t ≡ goal
unfolding terms_of
chain_end started xs i t goal le so_far =
    sym (ap (λ ys. t ++ words_spaced (chain_from started (terms_of ys))) (drop_all i xs le) ∙ ap (λ ws. t ++ words_spaced ws) (no_chain started) ∙ ap (λ s. t ++ s) spaced-nil ∙ append-nil t) ∙ so_far
