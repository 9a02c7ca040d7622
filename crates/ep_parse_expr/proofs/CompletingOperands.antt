-- Operands whose reading ends before their end can be completed.
use Rattle.std.specs.Prelude.{◌≡◌, ℕ, suc, ◌+◌, ◌≤◌, ◌⊎◌, max, Bool, true, List, [], ◌∷◌, ◌++◌, nat_le, codes, refl}
use Rattle.std.proofs.Common.{ap, arith, inl, inr, ◌∙◌, append_assoc}
use Rattle.std.proofs.Math.Nat.{max-le}
use Rattle.ep_tree.specs.Heights.{domain_height, height, highest, highest_generator, index_height}
use Rattle.ep_tree.specs.Phrases.{Lexeme, Says, a_name, a_word, ◌followed_by◌}
use Rattle.ep_tree.specs.Spelling.{DomainLevel, Level, Spells, SpellsGenerators, SpellsIndexDomain, SpellsMore, SpellsNode, binary_level, binary_word, domain_rank, fold_word, implications, is_called, own_domain_level, own_level, primaries, quantifier_word, rank, set_operations, set_parts, unaries}
use Rattle.ep_tree.specs.Trees.{Generators, absolute, binary, bool, comprehension, folded, generator_and, group, literal, minus, named, negation, no_trees, place_of, place_of_domain, quantified, table, tree_and}
use Rattle.ep_tree.specs.declared.syntax.BinaryOp.{BinaryOp}
use Rattle.ep_tree.specs.declared.syntax.FoldOp.{FoldOp}
use Rattle.ep_tree.specs.declared.syntax.QuantOp.{QuantOp}
use Rattle.ep_parse_parts.specs.OperandReaders.{OnePart, ThreeParts, one_part, three_parts}
use Rattle.ep_parse_expr.proofs.Completing.{ADomain, AnExpr, Filled, Shape, Word, somewhere, ◌then◌}
use Rattle.ep_parse_expr.proofs.CompletingParts.{AGenerator, AnIndexDomain, MoreExprs, MoreGenerators, SomeNames, no_exprs, no_index_domain, opened_node}
use Rattle.ep_parse_parts.proofs.Holding.{ungrouped}
use Rattle.ep_parse_parts.proofs.SoundOpened.{one_height, one_node, one_own, one_place, one_word, three_height, three_node, three_own, three_place, three_word}

-- a phrase that there is, with its limit or without
abbrev pub Has : Shape → Bool → Type 0
Has P b = (tail : List Lexeme) × P b tail

pub then_has : (P Q : Shape) (b : Bool) → Has P b → Has Q b → Has (P then Q) b
then_has P Q b x y = (x.0 ++ y.0, (x.0, y.0, refl, x.1, y.1))

pub word_has : (w : List ℕ) (b : Bool) → Has (Word w) b
word_has w b = (somewhere (a_word w) ∷ [], (record { line = 0; column = 0 }, refl))

pub expr_has : (level : Level) (most : ℕ) (b : Bool) → nat_le (rank level) (rank primaries) ≡ true → (b ≡ true → 1 ≤ most) → Has (AnExpr level most) b
unfolding SpellsNode own_level rank place_of height
expr_has level most b ranked some = (somewhere (a_name (codes "x")) ∷ [], (named (record { line = 0; column = 0 }) (codes "x"), some, (ranked, (refl, (record { line = 0; column = 0 }, refl)))))

pub domain_has : (level : DomainLevel) (most : ℕ) (b : Bool) → nat_le (domain_rank level) (domain_rank set_parts) ≡ true → (b ≡ true → 1 ≤ most) → Has (ADomain level most) b
unfolding SpellsNode domain_rank height own_domain_level place_of_domain
domain_has level most b ranked some = (somewhere (a_word (codes "bool")) ∷ [], (bool (record { line = 0; column = 0 }), some, (ranked, (refl, (record { line = 0; column = 0 }, refl)))))

-- ---- the shapes of operands behind their first word

abbrev pub Enclosed : ℕ → List ℕ → Shape
Enclosed less w = AnExpr implications less then Word w

abbrev pub OneCall : ℕ → Shape
OneCall less = Word (codes "(") then Enclosed less (codes ")")

abbrev pub TwoMore : ℕ → Shape
TwoMore less = Word (codes ",") then Enclosed less (codes ")")

abbrev pub OneOrTwo : ℕ → Shape
OneOrTwo less b front = Word (codes ")") b front ⊎ TwoMore less b front

abbrev pub OneOrTwoCall : ℕ → Shape
OneOrTwoCall less = Word (codes "(") then AnExpr implications less then OneOrTwo less

abbrev pub TwoCall : ℕ → Shape
TwoCall less = Word (codes "(") then AnExpr implications less then TwoMore less

abbrev pub ThreeCall : ℕ → Shape
ThreeCall less = Word (codes "(") then AnExpr implications less then Word (codes ",") then AnExpr implications less then TwoMore less

abbrev pub Quantified : ℕ → Shape
Quantified less = SomeNames then Word (codes ":") then ADomain set_operations less then Word (codes ".") then AnExpr implications less

abbrev pub SumOf : ℕ → Shape
SumOf less b front = OneCall less b front ⊎ Quantified less b front

abbrev pub ListEnd : ℕ → Shape
ListEnd less = AnIndexDomain less then Word (codes "]")

abbrev pub OfList : ℕ → Shape
OfList less = MoreExprs less then ListEnd less

abbrev pub OfComprehension : ℕ → Shape
OfComprehension less = AGenerator less then MoreGenerators less then MoreExprs less then ListEnd less

abbrev pub BehindFirst : ℕ → Shape
BehindFirst less b front = OfList less b front ⊎ (Word (codes "|") then OfComprehension less) b front

abbrev pub Bracketed : ℕ → Shape
Bracketed less b front = ListEnd less b front ⊎ (AnExpr implications less then BehindFirst less) b front

-- an operand
abbrev pub Operand : ℕ → Shape
Operand less = AnExpr unaries (suc less)

up : (less n : ℕ) → n ≤ less → 1 + n ≤ suc less
up less n h = omega (arith, h)

module _ (less : ℕ) where
  -- ---- they are nodes

  pub group_node : (b : Bool) (front : List Lexeme) → (Word (codes "(") then Enclosed less (codes ")")) b front → Operand less b front
  unfolding SpellsNode own_level rank place_of height
  group_node b front h =
      let k = h.4 in
      opened_node (suc less) (codes "(") b front (Enclosed less (codes ")") b) h (λ p. group p k.3.0) (λ p. refl) (λ p. refl) (λ e p. up less (height k.3.0) (k.3.1 e)) (λ p. (h.0, h.1, h.2, h.3, (k.0, k.1, k.2, k.3.2, k.4)))

  pub bar_node : (b : Bool) (front : List Lexeme) → (Word (codes "|") then Enclosed less (codes "|")) b front → Operand less b front
  unfolding SpellsNode own_level rank place_of height
  bar_node b front h =
      let k = h.4 in
      opened_node (suc less) (codes "|") b front (Enclosed less (codes "|") b) h (λ p. absolute p k.3.0) (λ p. refl) (λ p. refl) (λ e p. up less (height k.3.0) (k.3.1 e)) (λ p. (h.0, h.1, h.2, h.3, (k.0, k.1, k.2, k.3.2, k.4)))

  pub negation_node : (b : Bool) (front : List Lexeme) → (Word (codes "!") then AnExpr unaries less) b front → Operand less b front
  unfolding SpellsNode own_level rank place_of height
  negation_node b front h =
      let k = h.4 in
      opened_node (suc less) (codes "!") b front (AnExpr unaries less b) h (λ p. negation p k.0) (λ p. refl) (λ p. refl) (λ e p. up less (height k.0) (k.1 e)) (λ p. (h.0, h.1, h.2, h.3, k.2))

  pub minus_node : (b : Bool) (front : List Lexeme) → (Word (codes "-") then AnExpr unaries less) b front → Operand less b front
  unfolding SpellsNode own_level rank place_of height
  minus_node b front h =
      let k = h.4 in
      opened_node (suc less) (codes "-") b front (AnExpr unaries less b) h (λ p. minus p k.0) (λ p. refl) (λ p. refl) (λ e p. up less (height k.0) (k.1 e)) (λ p. (h.0, h.1, h.2, h.3, k.2))

  pub quantifier_node : (op : QuantOp) (b : Bool) (front : List Lexeme) → (Word (codes (quantifier_word op)) then Quantified less) b front → Operand less b front
  unfolding SpellsNode own_level rank place_of height
  quantifier_node op b front h =
      let q = h.4 in
      let r = q.4 in
      let d = r.4 in
      let s = d.4 in
      let e = s.4 in
      opened_node (suc less) (codes (quantifier_word op)) b front (Quantified less b) h (λ p. quantified p op q.3.0 d.3.0 e.0) (λ p. refl) (λ p. refl) (λ k p. up less (max (domain_height d.3.0) (height e.0)) (max-le (d.3.1 k) (e.1 k)))
      (λ p. (h.0, h.1, h.2, h.3, (q.0, q.1, q.2, q.3.1, (r.0, r.1, r.2, r.3, (d.0, d.1, d.2, d.3.2, (s.0, s.1, s.2, s.3, e.2))))))

  pub one_call_node : (what : OnePart) (b : Bool) (front : List Lexeme) → (Word (codes (one_word what)) then OneCall less) b front → Operand less b front
  one_call_node what b front h =
      let k = h.4 in
      let m = k.4 in
      opened_node (suc less) (codes (one_word what)) b front (OneCall less b) h (λ p. one_part what p m.3.0) (λ p. one_place what p m.3.0) (λ p. one_own what p m.3.0) (λ e p. one_height less what p m.3.0 (m.3.1 e))
      (λ p. one_node what p m.3.0 front (h.0, h.1, h.2, h.3, (k.0, k.1, k.2, k.3, (m.0, m.1, m.2, m.3.2, m.4))))

  pub one_or_two_node : (one : FoldOp) (two : BinaryOp) (w : List ℕ) → codes (fold_word one) ≡ w → codes (binary_word two) ≡ w → is_called two ≡ true → binary_level two ≡ primaries
      → (b : Bool) (front : List Lexeme) → (Word w then OneOrTwoCall less) b front → Operand less b front
  unfolding SpellsNode own_level rank place_of height
  one_or_two_node one two w fold_is binary_is called level b front h =
      let k = h.4 in
      let m = k.4 in
      go k m m.4
    where
      go : (k : (OneOrTwoCall less) b h.1) (m : (AnExpr implications less then OneOrTwo less) b k.1) → OneOrTwo less b m.1 → Operand less b front
      go k m (inl closing) =
          opened_node (suc less) w b front (OneOrTwoCall less b) h (λ p. folded p one m.3.0) (λ p. refl) (λ p. refl) (λ e p. up less (height m.3.0) (m.3.1 e))
          (λ p. rw fold_is (h.0, h.1, h.2, h.3, (k.0, k.1, k.2, k.3, (m.0, m.1, m.2, m.3.2, closing))))
      go k m (inr n) =
          let o = n.4 in
          opened_node (suc less) w b front (OneOrTwoCall less b) h (λ p. binary p two m.3.0 o.3.0) (λ p. refl) (λ p. rw level refl) (λ e p. up less (max (height m.3.0) (height o.3.0)) (max-le (m.3.1 e) (o.3.1 e)))
          (λ p. rw (called, binary_is) (h.0, h.1, h.2, h.3, (k.0, k.1, k.2, k.3, (m.0, m.1, m.2, m.3.2, (n.0, n.1, n.2, n.3, (o.0, o.1, o.2, o.3.2, o.4))))))

  pub table_node : (b : Bool) (front : List Lexeme) → (Word (codes "table") then TwoCall less) b front → Operand less b front
  unfolding SpellsNode own_level rank place_of height
  table_node b front h =
      let k = h.4 in
      let m = k.4 in
      let n = m.4 in
      let o = n.4 in
      opened_node (suc less) (codes "table") b front (TwoCall less b) h (λ p. table p m.3.0 o.3.0) (λ p. refl) (λ p. refl) (λ e p. up less (max (height m.3.0) (height o.3.0)) (max-le (m.3.1 e) (o.3.1 e)))
      (λ p. (h.0, h.1, h.2, h.3, (k.0, k.1, k.2, k.3, (m.0, m.1, m.2, m.3.2, (n.0, n.1, n.2, n.3, (o.0, o.1, o.2, o.3.2, o.4))))))

  pub three_call_node : (what : ThreeParts) (b : Bool) (front : List Lexeme) → (Word (codes (three_word what)) then ThreeCall less) b front → Operand less b front
  three_call_node what b front h =
      let k = h.4 in
      let m = k.4 in
      let n = m.4 in
      let o = n.4 in
      let q = o.4 in
      let r = q.4 in
      opened_node (suc less) (codes (three_word what)) b front (ThreeCall less b) h (λ p. three_parts what p m.3.0 o.3.0 r.3.0) (λ p. three_place what p m.3.0 o.3.0 r.3.0) (λ p. three_own what p m.3.0 o.3.0 r.3.0)
      (λ e p. three_height less what p m.3.0 o.3.0 r.3.0 (m.3.1 e) (o.3.1 e) (r.3.1 e))
      (λ p. three_node what p m.3.0 o.3.0 r.3.0 front (h.0, h.1, h.2, h.3, (k.0, k.1, k.2, k.3, (m.0, m.1, m.2, m.3.2, (n.0, n.1, n.2, n.3, (o.0, o.1, o.2, o.3.2, (q.0, q.1, q.2, q.3, (r.0, r.1, r.2, r.3.2, r.4))))))))

  -- ---- square brackets

  pub generators_are : (b : Bool) (front : List Lexeme) → (AGenerator less then MoreGenerators less) b front → (gens : Generators) × (b ≡ true → highest_generator gens ≤ less) × SpellsGenerators gens front
  unfolding SpellsNode height
  generators_are b front k =
      let g = k.3 in
      let m = g.4 in (
        generator_and g.3.0 m.4.0 k.4.0,
        (λ e. max-le (m.4.1 e) (k.4.1 e)),
        (
          g.0,
          g.1 ++ k.1,
          k.2 ∙ ap (λ z. z ++ k.1) g.2 ∙ append_assoc g.0 g.1 k.1,
          g.3.1,
          (m.0, m.1 ++ k.1, ap (λ z. z ++ k.1) m.2 ∙ append_assoc m.0 m.1 k.1, m.3, (m.1, k.1, refl, m.4.2, k.4.2)),
        ),
      )

  pub empty_node : (b : Bool) (front : List Lexeme) → (Word (codes "[") then ListEnd less) b front → Operand less b front
  unfolding SpellsNode own_level rank place_of height
  empty_node b front h =
      let k = h.4 in
      opened_node (suc less) (codes "[") b front (ListEnd less b) h (λ p. literal p no_trees k.3.0) (λ p. refl) (λ p. refl) (λ e p. up less (max 0 (index_height k.3.0)) (max-le (omega arith) (k.3.1 e)))
      (λ p. (h.0, h.1, h.2, h.3, ([], h.1, refl, refl, (k.0, k.1, k.2, k.3.2, k.4))))

  pub list_node : (b : Bool) (front : List Lexeme) → (Word (codes "[") then AnExpr implications less then OfList less) b front → Operand less b front
  unfolding SpellsNode own_level rank place_of height
  list_node b front h =
      let k = h.4 in
      let m = k.4 in
      let n = m.4 in
      opened_node (suc less) (codes "[") b front ((AnExpr implications less then OfList less) b) h (λ p. literal p (tree_and k.3.0 m.3.0) n.3.0) (λ p. refl) (λ p. refl)
      (λ e p. up less (max (max (height k.3.0) (highest m.3.0)) (index_height n.3.0)) (max-le (max-le (k.3.1 e) (m.3.1 e)) (n.3.1 e)))
      (λ p. (h.0, h.1, h.2, h.3, ungrouped (Spells implications k.3.0) (SpellsMore m.3.0) (SpellsIndexDomain n.3.0 followed_by Says "]") h.1 (k.0, k.1, k.2, k.3.2, (m.0, m.1, m.2, m.3.2, (n.0, n.1, n.2, n.3.2, n.4)))))

  pub comprehension_node : (b : Bool) (front : List Lexeme) → (Word (codes "[") then AnExpr implications less then Word (codes "|") then OfComprehension less) b front → Operand less b front
  unfolding SpellsNode own_level rank place_of height
  comprehension_node b front h =
      let k = h.4 in
      let bar = k.4 in
      let grouped = ungrouped (AGenerator less b) (MoreGenerators less b) ((MoreExprs less then ListEnd less) b) bar.1 bar.4 in
      let gens = generators_are b grouped.0 grouped.3 in
      let m = grouped.4 in
      let n = m.4 in
      opened_node (suc less) (codes "[") b front ((AnExpr implications less then Word (codes "|") then OfComprehension less) b) h (λ p. comprehension p k.3.0 gens.0 m.3.0 n.3.0) (λ p. refl) (λ p. refl)
      (λ e p. up less (max (max (height k.3.0) (highest_generator gens.0)) (max (highest m.3.0) (index_height n.3.0))) (max-le (max-le (k.3.1 e) (gens.1 e)) (max-le (m.3.1 e) (n.3.1 e))))
      (λ p. (h.0, h.1, h.2, h.3, (k.0, k.1, k.2, k.3.2, (bar.0, bar.1, bar.2, bar.3, (grouped.0, grouped.1, grouped.2, gens.2, (m.0, m.1, m.2, m.3.2, (n.0, n.1, n.2, n.3.2, n.4)))))))

  pub bracket_node : (b : Bool) (front : List Lexeme) → (Word (codes "[") then Bracketed less) b front → Operand less b front
  bracket_node b front h = go h.4
    where
      go : Bracketed less b h.1 → Operand less b front
      go (inl k) = empty_node b front (h.0, h.1, h.2, h.3, k)
      go (inr k) = further k.4
        where
          further : BehindFirst less b k.1 → Operand less b front
          further (inl m) = list_node b front (h.0, h.1, h.2, h.3, (k.0, k.1, k.2, k.3, m))
          further (inr m) = comprehension_node b front (h.0, h.1, h.2, h.3, (k.0, k.1, k.2, k.3, m))

  pub list_end_has : (b : Bool) → Has (ListEnd less) b
  list_end_has b = then_has (AnIndexDomain less) (Word (codes "]")) b ([], no_index_domain less b) (word_has (codes "]") b)

  pub behind_first_filled : Filled (BehindFirst less)
  behind_first_filled = record { some = λ b. let x = then_has (MoreExprs less) (ListEnd less) b ([], no_exprs less b) (list_end_has b) in (x.0, inl x.1) }

  pub bracketed_filled : Filled (Bracketed less)
  bracketed_filled = record { some = λ b. let x = list_end_has b in (x.0, inl x.1) }
