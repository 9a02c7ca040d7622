-- Where a reader refuses a token, the tokens before it can be completed, and where it is too high, something higher goes
-- on with it.
use Rattle.std.specs.Prelude.{◌≡◌, ℕ, zero, suc, ◌≤◌, ◌⊎◌, Bool, true, false, List, [], ◌∷◌, ◌++◌, length, nat_le, Option, Some, None, codes, refl}
use Rattle.std.proofs.Common.{ap, inl, inr, sym, subst, ◌∙◌, append-nil, append_assoc}
use Rattle.ep_base.specs.declared.places.Place.{Place}
use Rattle.ep_tree.specs.Heights.{domain_height, height}
use Rattle.ep_tree.specs.Phrases.{Is, Lexeme, Phrase, Saying, a_name, a_word, ◌followed_by◌}
use Rattle.ep_tree.specs.Spelling.{DomainLevel, Level, Spells, SpellsDomain, SpellsDomainNode, SpellsNode, domain_rank, own_domain_level, own_level, primaries, rank, set_parts}
use Rattle.ep_tree.specs.Trees.{DomainTree, ExprTree, bool, named, place_of, place_of_domain}
use Rattle.ep_parse_parts.specs.OperandReaders.{if_low}
use Rattle.ep_parse_parts.specs.Readers.{Read, Reader, behind, either_reader, going_on, grown_from, growing, high, says_word, more_from, others_from, took, word_from, wrong, ◌and_then◌}
use Rattle.ep_parse_parts.proofs.Again.{lexeme}
use Rattle.ep_parse_parts.proofs.Holding.{Holds, HoldsIf, Takes, more_sound, word_sound}
use Rattle.ep_parse_parts.proofs.SoundParts.{IsDomain, IsExpr}

-- a phrase, which may be limited in height
abbrev pub Shape : Type 1
Shape = Bool → Phrase

-- some tokens begin a phrase
abbrev pub Opens : Phrase → List Lexeme → Type 0
Opens phrase front = (tail : List Lexeme) × phrase (front ++ tail)

-- there is none, or they begin it with its limit
abbrev pub Half : Shape → List Lexeme → Type 0
Half P front = (front ≡ []) ⊎ Opens (P true) front

-- a phrase that there is
pub record Filled (P : Shape) : Type 0 where
  pub some : (b : Bool) → (tail : List Lexeme) × P b tail

-- a phrase that is still there without its limit
abbrev pub Lifts : Shape → Type 0
Lifts P = (front : List Lexeme) → P true front → P false front

infixr 25 ◌then◌
-- one phrase and then another
abbrev pub ◌then◌ : Shape → Shape → Shape
◌then◌ P Q b = P b followed_by Q b

-- the tokens before one that is wrong begin a phrase
pub record WrongAt (P : Shape) (ls rest : List Lexeme) : Type 0 where
  pub front : List Lexeme
  pub parts : ls ≡ front ++ rest
  pub half : Half P front

-- and those before one that is too high; and with it they begin it without the limit
pub record HighAt (P : Shape) (ls rest : List Lexeme) : Type 0 where
  pub front : List Lexeme
  pub token : Lexeme
  pub after : List Lexeme
  pub parts : ls ≡ front ++ token ∷ after
  pub left : rest ≡ token ∷ after
  pub half : Half P front
  pub higher : Opens (P false) (front ++ token ∷ [])

-- what a reader refuses
pub record Refuses {A : Type 0} (P : Shape) (ls : List Lexeme) (r : Read A) : Type 0 where
  pub wrong_at : (rest : List Lexeme) → r ≡ wrong rest → WrongAt P ls rest
  pub high_at : (rest : List Lexeme) → r ≡ high rest → HighAt P ls rest

-- ---- one token

left_of : {A : Type 0} → Read A → List Lexeme
left_of (took x ls) = ls
left_of (wrong ls) = ls
left_of (high ls) = ls

pub refuses_took : {A : Type 0} (P : Shape) (ls rest : List Lexeme) (x : A) → Refuses P ls (took x rest)
refuses_took P ls rest x = record { wrong_at = λ z e. absurd cc; high_at = λ z e. absurd cc }

pub refuses_wrong : {A : Type 0} (P : Shape) (ls : List Lexeme) → Refuses {A = A} P ls (wrong ls)
unfolding left_of
refuses_wrong P ls = record {
  wrong_at = λ z e. record { front = []; parts = ap left_of e; half = inl refl };
  high_at = λ z e. absurd cc;
}

pub refuses_high : {A : Type 0} (P : Shape) (l : Lexeme) (ls : List Lexeme) → Opens (P false) (l ∷ []) → Refuses {A = A} P (l ∷ ls) (high (l ∷ ls))
unfolding left_of
refuses_high P l ls h = record {
  wrong_at = λ z e. absurd cc;
  high_at = λ z e. record { front = []; token = l; after = ls; parts = refl; left = sym (ap left_of e); half = inl refl; higher = h };
}

-- ---- readers made of others

pub refuses_as : {A : Type 0} (P Q : Shape) (ls : List Lexeme) (r : Read A) → ((b : Bool) (front : List Lexeme) → P b front → Q b front) → Refuses P ls r → Refuses Q ls r
refuses_as P Q ls r f h = record {
  wrong_at = λ rest e. let w = h.wrong_at rest e in record { front = w.front; parts = w.parts; half = half w.front w.half };
  high_at = λ rest e. let w = h.high_at rest e in
      record { front = w.front; token = w.token; after = w.after; parts = w.parts; left = w.left; half = half w.front w.half; higher = (w.higher.0, f false ((w.front ++ w.token ∷ []) ++ w.higher.0) w.higher.1) };
}
  where
    half : (front : List Lexeme) → Half P front → Half Q front
    half front (inl e) = inl e
    half front (inr o) = inr (o.0, f true (front ++ o.0) o.1)

-- behind a phrase
pub refuses_behind : {A : Type 0} (T : Phrase) (Q W : Shape) (ls mid : List Lexeme) (r : Read A) → Takes T ls mid → ((b : Bool) (front back : List Lexeme) → T front → Q b back → W b (front ++ back))
    → Filled Q → Refuses Q mid r → Refuses W ls r
refuses_behind T Q W ls mid r t f filled h = record {
  wrong_at = λ rest e. let w = h.wrong_at rest e in record { front = t.front ++ w.front; parts = joined w.front rest w.parts; half = inr (half w.front w.half) };
  high_at = λ rest e. let w = h.high_at rest e in
      record {
        front = t.front ++ w.front;
        token = w.token;
        after = w.after;
        parts = joined w.front (w.token ∷ w.after) w.parts;
        left = w.left;
        half = inr (half w.front w.half);
        higher = (
          w.higher.0,
          subst (W false) (ap (λ z. t.front ++ z) (append_assoc w.front (w.token ∷ []) w.higher.0) ∙ sym (append_assoc t.front w.front (w.token ∷ w.higher.0)) ∙ sym (append_assoc (t.front ++ w.front) (w.token ∷ []) w.higher.0))
              (f false t.front ((w.front ++ w.token ∷ []) ++ w.higher.0) t.spelled w.higher.1),
        );
      };
}
  where
    joined : (front rest : List Lexeme) → mid ≡ front ++ rest → ls ≡ (t.front ++ front) ++ rest
    joined front rest e = t.parts ∙ ap (λ z. t.front ++ z) e ∙ sym (append_assoc t.front front rest)

    half : (front : List Lexeme) → Half Q front → Opens (W true) (t.front ++ front)
    half front (inl e) =
        let small = filled.some true in
        (small.0, subst (λ z. W true ((t.front ++ z) ++ small.0)) (sym e) (subst (λ z. W true (z ++ small.0)) (sym (append-nil t.front)) (f true t.front small.0 t.spelled small.1)))
    half front (inr o) = (o.0, subst (W true) (sym (append_assoc t.front front o.0)) (f true t.front (front ++ o.0) t.spelled o.1))

pub refuses_then : {A B : Type 0} (P Q : Shape) (ls : List Lexeme) (r : Read A) (k : A → Reader B) → Refuses P ls r → Holds (λ x rest. Takes (P true) ls rest) r → Lifts P → Filled Q
    → ((x : A) (rest : List Lexeme) → r ≡ took x rest → Refuses Q rest (k x rest)) → Refuses (P then Q) ls (r and_then k)
refuses_then {A} {B} P Q ls r k h takes lifts filled more = go r refl
  where
    both : (b : Bool) (front back : List Lexeme) → P true front → Q b back → (P then Q) b (front ++ back)
    both true front back p q = (front, back, refl, p, q)
    both false front back p q = (front, back, refl, lifts front p, q)

    opened : (b : Bool) (front tail : List Lexeme) → P b (front ++ tail) → (z : List Lexeme) × Q b z → Opens ((P then Q) b) front
    opened b front tail p small = (tail ++ small.0, (front ++ tail, small.0, sym (append_assoc front tail small.0), p, small.1))

    half : (front : List Lexeme) → Half P front → Half (P then Q) front
    half front (inl e) = inl e
    half front (inr o) = inr (opened true front o.0 o.1 (filled.some true))

    go : (q : Read A) → r ≡ q → Refuses (P then Q) ls (r and_then k)
    go (took x rest) e = subst (λ z. Refuses (P then Q) ls (z and_then k)) (sym e) (refuses_behind (P true) Q (P then Q) ls rest (k x rest) (takes.holds x rest e) both filled (more x rest e))
    go (wrong rest) e =
        let w = h.wrong_at rest e in
        subst (λ z. Refuses (P then Q) ls (z and_then k)) (sym e)
        (record { wrong_at = λ z k. record { front = w.front; parts = w.parts ∙ ap (λ y. w.front ++ y) (ap left k); half = half w.front w.half }; high_at = λ z k. absurd cc })
      where
        left : Read B → List Lexeme
        left (took x ls) = ls
        left (wrong ls) = ls
        left (high ls) = ls
    go (high rest) e =
        let w = h.high_at rest e in
        subst (λ z. Refuses (P then Q) ls (z and_then k)) (sym e)
        (record {
          wrong_at = λ z k. absurd cc;
          high_at = λ z k. record { front = w.front; token = w.token; after = w.after; parts = w.parts; left = sym (ap left k) ∙ w.left; half = half w.front w.half; higher = opened false (w.front ++ w.token ∷ []) w.higher.0 w.higher.1 (filled.some false) };
        })
      where
        left : Read B → List Lexeme
        left (took x ls) = ls
        left (wrong ls) = ls
        left (high ls) = ls

-- what is made of what is taken
pub refuses_made : {A B : Type 0} (P : Shape) (ls : List Lexeme) (r : Read A) (make : A → B) → Refuses P ls r → Refuses P ls (r and_then λ x rest. took (make x) rest)
refuses_made {A} {B} P ls r make h = go r h
  where
    left : Read B → List Lexeme
    left (took x ls) = ls
    left (wrong ls) = ls
    left (high ls) = ls

    go : (q : Read A) → Refuses P ls q → Refuses P ls (q and_then λ x rest. took (make x) rest)
    go (took x rest) h = refuses_took P ls rest (make x)
    go (wrong rest) h = record { wrong_at = λ z e. h.wrong_at z (ap wrong (ap left e)); high_at = λ z e. absurd cc }
    go (high rest) h = record { wrong_at = λ z e. absurd cc; high_at = λ z e. h.high_at z (ap high (ap left e)) }

pub refuses_chosen : {A : Type 0} (P : Shape) (b : Bool) (one other : Reader A) (ls : List Lexeme) → (b ≡ true → Refuses P ls (one ls)) → (b ≡ false → Refuses P ls (other ls)) → Refuses P ls (either_reader b one other ls)
refuses_chosen P true one other ls h k = h refl
refuses_chosen P false one other ls h k = k refl

pub refuses_low : {A : Type 0} (P : Shape) (b : Bool) (reader : Reader A) (l : Lexeme) (ls : List Lexeme) → Opens (P false) (l ∷ []) → (b ≡ true → Refuses P (l ∷ ls) (reader (l ∷ ls))) → Refuses P (l ∷ ls) (if_low b reader (l ∷ ls))
refuses_low P true reader l ls o h = h refl
refuses_low P false reader l ls o h = refuses_high P l ls o

-- ---- shapes

-- one word or symbol
abbrev pub Word : List ℕ → Shape
Word w b = Is (a_word w)

pub word_lifts : (w : List ℕ) → Lifts (Word w)
word_lifts w front h = h

-- a token somewhere
abbrev pub somewhere : Saying → Lexeme
somewhere s = lexeme (record { line = 0; column = 0 }) s

pub word_filled : (w : List ℕ) → Filled (Word w)
word_filled w = record { some = λ b. (somewhere (a_word w) ∷ [], (record { line = 0; column = 0 }, refl)) }

pub then_filled : (P Q : Shape) → Filled P → Filled Q → Filled (P then Q)
then_filled P Q h k = record { some = λ b. let x = h.some b in let y = k.some b in (x.0 ++ y.0, (x.0, y.0, refl, x.1, y.1)) }

pub then_lifts : (P Q : Shape) → Lifts P → Lifts Q → Lifts (P then Q)
then_lifts P Q h k front s = (s.0, s.1, s.2, h s.0 s.3, k s.1 s.4)

-- an expression at a level
abbrev pub AnExpr : Level → ℕ → Shape
AnExpr level most b front = (e : ExprTree) × (b ≡ true → height e ≤ most) × Spells level e front

-- a domain
abbrev pub ADomain : DomainLevel → ℕ → Shape
ADomain level most b front = (d : DomainTree) × (b ≡ true → domain_height d ≤ most) × SpellsDomain level d front

pub expr_lifts : (level : Level) (most : ℕ) → Lifts (AnExpr level most)
expr_lifts level most front h = (h.0, λ e. (let no : false ≡ true = e in absurd cc), h.2)

pub domain_lifts : (level : DomainLevel) (most : ℕ) → Lifts (ADomain level most)
domain_lifts level most front h = (h.0, λ e. (let no : false ≡ true = e in absurd cc), h.2)

pub an_expr : (level : Level) (most : ℕ) (ls : List Lexeme) (e : ExprTree) (rest : List Lexeme) → IsExpr level most ls e rest → Takes (AnExpr level most true) ls rest
an_expr level most ls e rest h = record { front = h.front; parts = h.parts; spelled = (e, λ _. h.low, h.spelled) }

pub a_domain : (level : DomainLevel) (most : ℕ) (ls : List Lexeme) (d : DomainTree) (rest : List Lexeme) → IsDomain level most ls d rest → Takes (ADomain level most true) ls rest
a_domain level most ls d rest h = record { front = h.front; parts = h.parts; spelled = (d, λ _. h.low, h.spelled) }

-- the smallest expression
pub expr_filled : (level : Level) (most : ℕ) → nat_le (rank level) (rank primaries) ≡ true → 1 ≤ most → Filled (AnExpr level most)
unfolding SpellsNode own_level rank place_of height
expr_filled level most ranked some = record {
  some = λ b. (somewhere (a_name (codes "x")) ∷ [], (named (record { line = 0; column = 0 }) (codes "x"), (λ _. some), (ranked, (refl, (record { line = 0; column = 0 }, refl)))));
}

pub domain_filled : (level : DomainLevel) (most : ℕ) → nat_le (domain_rank level) (domain_rank set_parts) ≡ true → 1 ≤ most → Filled (ADomain level most)
unfolding SpellsDomainNode own_domain_level domain_rank place_of_domain domain_height
domain_filled level most ranked some = record {
  some = λ b. (somewhere (a_word (codes "bool")) ∷ [], (bool (record { line = 0; column = 0 }), (λ _. some), (ranked, (refl, (record { line = 0; column = 0 }, refl)))));
}

-- ---- words

pub word_refuses : (w : List ℕ) (ls : List Lexeme) → Refuses (Word w) ls (word_from w ls)
unfolding word_from
word_refuses w [] = refuses_wrong (Word w) []
word_refuses w (l ∷ ls) = refuses_chosen (Word w) (says_word w l.saying) (λ all. took l.place ls) (λ all. wrong all) (l ∷ ls) (λ e. refuses_took (Word w) (l ∷ ls) ls l.place) (λ e. refuses_wrong (Word w) (l ∷ ls))

-- a word, and what is read behind it
pub word_then : {B : Type 0} (w : List ℕ) (Q : Shape) (ls : List Lexeme) (k : Place → Reader B) → Filled Q → ((p : Place) (rest : List Lexeme) → Refuses Q rest (k p rest)) → Refuses (Word w then Q) ls (word_from w ls and_then k)
word_then w Q ls k filled more = refuses_then (Word w) Q ls (word_from w ls) k (word_refuses w ls) (word_sound w ls) (word_lifts w) filled (λ p rest e. more p rest)

-- a word that is next, and what is read behind it
pub next_then : {B : Type 0} (w : List ℕ) (Q W : Shape) (ls : List Lexeme) (r : Read B) → Takes (Is (a_word w)) ls (behind ls) → Filled Q → ((b : Bool) (front : List Lexeme) → (Word w then Q) b front → W b front)
    → Refuses Q (behind ls) r → Refuses W ls r
next_then w Q W ls r t filled f h = refuses_behind (Is (a_word w)) Q W ls (behind ls) r t (λ b front back p q. f b (front ++ back) (front, back, refl, p, q)) filled h

-- ---- lists

module _ {A : Type 0} (goes_on : A → List Lexeme → Option (List Lexeme)) (item : A → Reader A) (L : A → Shape) (nil : (last : A) (b : Bool) → L last b []) where
  -- a further item that is taken leads from one list to another
  pub record Leads (last : A) (ls : List Lexeme) (x : A) (rest : List Lexeme) : Type 0 where
    pub front : List Lexeme
    pub parts : ls ≡ front ++ rest
    pub leads : (b : Bool) (back : List Lexeme) → L x b back → L last b (front ++ back)

  -- what a further item does
  pub record ItemSo (last : A) (ls : List Lexeme) (r : Read A) : Type 0 where
    pub takes : (x : A) (rest : List Lexeme) → r ≡ took x rest → Leads last ls x rest
    pub refuses : Refuses (L last) ls r

  module _ (items : (last : A) (ls next : List Lexeme) → goes_on last ls ≡ Some next → ItemSo last ls (item last next)) where
    rest_filled : (x : A) → Filled (L x)
    rest_filled x = record { some = λ b. ([], nil x b) }

    behind_item : (last : A) (ls : List Lexeme) (r : Read A) (n : ℕ) → ((x : A) (rest : List Lexeme) → Refuses (L x) rest (more_from goes_on item n x rest)) → ItemSo last ls r
        → Refuses (L last) ls (r and_then λ x rest. more_from goes_on item n x rest and_then λ xs end. took (x ∷ xs) end)
    behind_item last ls r n ih it = go r it
      where
        left : Read (List A) → List Lexeme
        left (took x ls) = ls
        left (wrong ls) = ls
        left (high ls) = ls

        go : (q : Read A) → ItemSo last ls q → Refuses (L last) ls (q and_then λ x rest. more_from goes_on item n x rest and_then λ xs end. took (x ∷ xs) end)
        go (took x rest) it =
            let l = it.takes x rest refl in
            refuses_behind (λ front. front ≡ l.front) (L x) (L last) ls rest _ (record { front = l.front; parts = l.parts; spelled = refl }) (λ b front back e q. subst (λ z. L last b (z ++ back)) (sym e) (l.leads b back q)) (rest_filled x)
            (refuses_made (L x) rest (more_from goes_on item n x rest) (λ xs. x ∷ xs) (ih x rest))
        go (wrong rest) it = record { wrong_at = λ z e. let h = it.refuses in h.wrong_at z (ap wrong (ap left e)); high_at = λ z e. absurd cc }
        go (high rest) it = record { wrong_at = λ z e. absurd cc; high_at = λ z e. let h = it.refuses in h.high_at z (ap high (ap left e)) }

    turn : (last : A) (ls : List Lexeme) (n : ℕ) → ((x : A) (rest : List Lexeme) → Refuses (L x) rest (more_from goes_on item n x rest)) → (o : Option (List Lexeme)) → goes_on last ls ≡ o
        → Refuses (L last) ls (going_on o ls (λ next. item last next and_then λ x rest. more_from goes_on item n x rest and_then λ xs end. took (x ∷ xs) end))
    turn last ls n ih None e = refuses_took (L last) ls ls []
    turn last ls n ih (Some next) e = behind_item last ls (item last next) n ih (items last ls next e)

    pub more_refuses : (n : ℕ) (last : A) (ls : List Lexeme) → Refuses (L last) ls (more_from goes_on item n last ls)
    unfolding more_from
    more_refuses zero last ls = refuses_took (L last) ls ls []
    more_refuses (suc n) last ls = turn last ls n (more_refuses n) (goes_on last ls) refl

    pub more_takes : (n : ℕ) (last : A) (ls : List Lexeme) → Holds (λ xs rest. Takes (L last true) ls rest) (more_from goes_on item n last ls)
    more_takes n last ls =
        more_sound goes_on item (λ last from xs end. Takes (L last true) from end) (λ last from. record { front = []; parts = refl; spelled = nil last true })
        (λ last from next e. record {
          holds = λ x rest k xs end t. let it = items last from next e in let l = it.takes x rest k in
              record { front = l.front ++ t.front; parts = l.parts ∙ ap (λ z. l.front ++ z) t.parts ∙ sym (append_assoc l.front t.front end); spelled = l.leads true t.front t.spelled };
        }) n last ls

    -- a list, and what is read behind it
    pub others_then : {B : Type 0} (Q : Shape) (k : List A → Reader B) → ((last : A) → Lifts (L last)) → Filled Q → ((xs : List A) (rest : List Lexeme) → Refuses Q rest (k xs rest))
        → (last : A) (ls : List Lexeme) → Refuses (L last then Q) ls (others_from goes_on item last ls and_then k)
    others_then Q k lifts filled more last ls =
        refuses_then (L last) Q ls (others_from goes_on item last ls) k (more_refuses (length ls) last ls) (more_takes (length ls) last ls) (lifts last) filled (λ xs rest e. more xs rest)

-- ---- what grows

module _ {A : Type 0} (step : A → List Lexeme → Option (Read A)) (Q : A → List Lexeme → Type 0) (P : Shape) (ls0 : List Lexeme)
    (kept : (x : A) (ls : List Lexeme) → Q x ls → HoldsIf Q (step x ls)) (refused : (x : A) (ls : List Lexeme) (r : Read A) → Q x ls → step x ls ≡ Some r → Refuses P ls0 r) where
  grows : (n : ℕ) → ((x : A) (ls : List Lexeme) → Q x ls → Refuses P ls0 (grown_from step n x ls))
      → (x : A) (ls : List Lexeme) (o : Option (Read A)) → HoldsIf Q o → ((r : Read A) → o ≡ Some r → Refuses P ls0 r) → Refuses P ls0 (growing o x ls (grown_from step n))
  grows n ih x ls None h f = refuses_took P ls0 ls x
  grows n ih x ls (Some r) h f = go r h (f r refl)
    where
      go : (q : Read A) → Holds Q q → Refuses P ls0 q → Refuses P ls0 (q and_then grown_from step n)
      go (took y rest) h f = ih y rest (h.holds y rest refl)
      go (wrong rest) h f = f
      go (high rest) h f = f

  pub grown_refuses : (n : ℕ) (x : A) (ls : List Lexeme) → Q x ls → Refuses P ls0 (grown_from step n x ls)
  unfolding grown_from
  grown_refuses zero x ls q = refuses_took P ls0 ls x
  grown_refuses (suc n) x ls q = grows n (grown_refuses n) x ls (step x ls) (kept x ls q) (λ r e. refused x ls r q e)
