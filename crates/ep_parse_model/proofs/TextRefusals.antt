-- Where reading a text stops, the text is refused at that place.
use Rattle.std.specs.Prelude.{◌≡◌, ℕ, ◌≤◌, ◌<◌, true, false, List, [], ◌∷◌, ◌++◌, length, take, Ok, refl}
use Rattle.std.proofs.Common.{ap, arith, inl, inr, sym, subst, ◌∙◌, length-append}
use Rattle.std.proofs.Math.Seq.{take-append_seam}
use Rattle.ep_base.specs.Tokens.{tokens_of}
use Rattle.ep_base.specs.declared.tokens.Token.{Token}
use Rattle.ep_parse_parts.proofs.AgainAll.{readers}
use Rattle.ep_parse_expr.proofs.Completing.{Half, Opens, Refuses as RefusesAt, Shape}
use Rattle.ep_parse_expr.proofs.CompletingAll.{all_open}
use Rattle.ep_parse_expr.proofs.Steady.{Cut, Cuts, Steady}
use Rattle.ep_parse_expr.proofs.SteadyAll.{all_sound}
use Rattle.ep_parse_expr.proofs.SteadyOperators.{Higher}
use Rattle.ep_parse_parts.specs.Cursors.{StopsReading}
use Rattle.ep_parse_parts.specs.declared.cursor.Stop.{Stop}
use Rattle.ep_parse_parts.specs.declared.cursor.Stop.TheVariants.{Memory, TooHigh, Wrong}
use Rattle.ep_parse_parts.specs.Readers.{Reader, behind, high, took, wrong}
use Rattle.ep_parse_model.proofs.TextFaults.{AreBegun, high_is_fault, wrong_is_fault}
use Rattle.ep_parse_model.proofs.TextStops.{model_complete, model_so, params_complete, params_so}
use Rattle.ep_parse_model.proofs.TextsBegun.{model_refuses, params_refuses}
use Rattle.ep_parse_model.proofs.TextsSteady.{Going}
use Rattle.ep_parse_model.specs.Answers.{RefusesText, place_left, refusal_of}
use Rattle.ep_parse_model.specs.TextReaders.{full, model_from, params_from}
use Rattle.ep_tree.specs.Phrases.{Lexeme, Phrase, lexemes_of}
use Rattle.ep_tree.specs.Reading.{Begins, IsTextFault, IsTooHigh, Low, MOST_HEIGHT}
use Rattle.ep_tree.specs.StatementSpelling.{SpellsModel, SpellsParams}
use Rattle.ep_tree.specs.Statements.{TextTree, text_height}
use Rattle.ep_tree.specs.Texts.{HasHeightFault, HasSyntaxFault, MOST_BYTES, place_of_token}

-- ---- places

-- the place of a token by its number is that of the first of those that are left
place_found : (text : List ℕ) (ts : List Token) (front left : List Lexeme) → lexemes_of text ts ≡ front ++ left → place_of_token text ts (length front) ≡ place_left text left
unfolding lexemes_of place_of_token
place_found text [] [] left e = ap (place_left text) e
place_found text [] (l ∷ front) left e = let none : 0 ≡ length (l ∷ (front ++ left)) = ap length e in absurd (omega (arith, none))
place_found text (t ∷ ts) [] left e = ap (place_left text) e
place_found text (t ∷ ts) (l ∷ front) left e = place_found text ts front left (ap behind e)

-- ---- what stands before a refusal begins a text

same_front : (f g a : List Lexeme) → f ++ a ≡ g ++ a → f ≡ g
same_front f g a e =
    let long : length f ≡ length g = omega (arith, ap length e, length-append f a, length-append g a) in
    sym (take-append_seam f a) ∙ ap (λ z. take (length f) z) e ∙ ap (λ n. take n (g ++ a)) long ∙ take-append_seam g a

first_or : Lexeme → List Lexeme → Lexeme
first_or d [] = d
first_or d (l ∷ ls) = l

-- a text, whose height may be limited
abbrev AText : (TextTree → Phrase) → ℕ → Shape
AText spells most b front = (ss : TextTree) × (b ≡ true → text_height ss ≤ most) × spells ss front

module _ (spells : TextTree → Phrase) (most : ℕ) where
  begins_low : (front : List Lexeme) → Opens (AText spells most true) front → Begins (Low text_height most spells) front
  begins_low front o = (o.1.0, o.0, (o.1.1 refl, o.1.2))

  begins_any : (front : List Lexeme) → Opens (AText spells most false) front → Begins spells front
  begins_any front o = (o.1.0, o.0, o.1.2)

  before : (front found a : List Lexeme) → front ++ a ≡ found ++ a → Half (AText spells most) found → 0 < length front → Begins (Low text_height most spells) front
  before front found a parts half some = go half
    where
      same : front ≡ found
      same = same_front front found a parts

      go : Half (AText spells most) found → Begins (Low text_height most spells) front
      go (inl nil) = let none : length front ≡ 0 = ap length (same ∙ nil) in absurd (omega (arith, some, none))
      go (inr o) = subst (Begins (Low text_height most spells)) (sym same) (begins_low found o)

  with_token : (front found a after : List Lexeme) (t u : Lexeme) → front ++ t ∷ a ≡ found ++ u ∷ after → t ∷ a ≡ u ∷ after → Opens (AText spells most false) (found ++ u ∷ []) → Begins spells (front ++ t ∷ [])
  unfolding first_or
  with_token front found a after t u parts left o =
      let token : t ≡ u = ap (first_or t) left in
      let same : front ≡ found = same_front front found (t ∷ a) (parts ∙ ap (λ z. found ++ z) (sym left)) in
      subst (Begins spells) (sym (ap (λ z. z ++ t ∷ []) same ∙ ap (λ z. found ++ z ∷ []) token)) (begins_any (found ++ u ∷ []) o)

module _ (spells : TextTree → Phrase) (reader : ℕ → Reader TextTree)
    (complete : (most : ℕ) (tree : TextTree) (ls : List Lexeme) → spells tree ls → text_height tree ≤ most → reader most ls ≡ took tree [])
    (steady : (c : Cut) → Going c → (most most2 : ℕ) → Higher c most most2 → (ls ls2 : List Lexeme) → Cuts c ls ls2 → Steady c (length ls) (reader most ls) (reader most2 ls2))
    (refuses : (ls : List Lexeme) → RefusesAt (AText spells MOST_HEIGHT) ls (reader MOST_HEIGHT ls)) where
  begun : AreBegun spells reader complete steady MOST_HEIGHT
  begun = record {
    before_wrong = λ front a e some. let r = refuses (front ++ a) in let w = r.wrong_at a e in before spells MOST_HEIGHT front w.front a w.parts w.half some;
    before_high = λ front a e some. let r = refuses (front ++ a) in let w = r.high_at a e in
        before spells MOST_HEIGHT front w.front a (w.parts ∙ ap (λ z. w.front ++ z) (sym w.left)) w.half some;
    with_high = λ front a t e. let r = refuses (front ++ t ∷ a) in let w = r.high_at (t ∷ a) e in with_token spells MOST_HEIGHT front w.front a w.after t w.token w.parts w.left w.higher;
  }

  module _ (text : List ℕ) (ts : List Token) (short : length text ≤ MOST_BYTES) (found : tokens_of text ≡ Ok ts) where
    wrong_text : (left : List Lexeme) → reader MOST_HEIGHT (lexemes_of text ts) ≡ wrong left → HasSyntaxFault spells text (place_left text left)
    wrong_text left e =
        let r = refuses (lexemes_of text ts) in
        let w = r.wrong_at left e in
        record {
          within = short;
          tokens = ts;
          found = found;
          number = length w.front;
          fault = subst (λ z. IsTextFault spells MOST_HEIGHT z (length w.front)) (sym w.parts)
              (wrong_is_fault spells reader complete steady MOST_HEIGHT begun w.front left (subst (λ z. reader MOST_HEIGHT z ≡ wrong left) w.parts e));
          stands = sym (place_found text ts w.front left w.parts);
        }

    high_text : (left : List Lexeme) → reader MOST_HEIGHT (lexemes_of text ts) ≡ high left → HasHeightFault spells text (place_left text left)
    high_text left e =
        let r = refuses (lexemes_of text ts) in
        let w = r.high_at left e in
        let here : reader MOST_HEIGHT (w.front ++ w.token ∷ w.after) ≡ high (w.token ∷ w.after) = subst (λ z. reader MOST_HEIGHT z ≡ high (w.token ∷ w.after)) w.parts (e ∙ ap (λ z. high z) w.left) in
        record {
          within = short;
          tokens = ts;
          found = found;
          number = length w.front;
          fault = subst (λ z. IsTooHigh spells text_height MOST_HEIGHT z (length w.front)) (sym w.parts) (high_is_fault spells reader complete steady MOST_HEIGHT begun w.front w.after w.token here);
          stands = ap (place_left text) w.left ∙ sym (place_found text ts w.front (w.token ∷ w.after) w.parts);
        }

    stopped : (left : List Lexeme) (stop : Stop) → StopsReading stop left (reader MOST_HEIGHT (lexemes_of text ts)) → RefusesText spells text (refusal_of text left stop)
    stopped left Wrong e = wrong_text left e
    stopped left TooHigh e = high_text left e
    stopped left Memory e = tt

-- ---- models and parameter texts

abbrev models : ℕ → Reader TextTree
models most = model_from (readers most)

abbrev texts : ℕ → Reader TextTree
texts most = params_from (readers most)

some_height : 1 ≤ MOST_HEIGHT
some_height = omega arith

pub model_stopped : (text : List ℕ) (ts : List Token) (ls left : List Lexeme) (stop : Stop) → length text ≤ MOST_BYTES → tokens_of text ≡ Ok ts → ls ≡ lexemes_of text ts → StopsReading stop left (model_from full ls)
    → RefusesText SpellsModel text (refusal_of text left stop)
model_stopped text ts ls left stop short found all h =
    stopped SpellsModel models model_complete model_so (λ z. model_refuses MOST_HEIGHT some_height (readers MOST_HEIGHT) (all_sound MOST_HEIGHT) (all_open MOST_HEIGHT) z) text ts short found left stop
    (subst (λ z. StopsReading stop left (model_from full z)) all h)

pub params_stopped : (text : List ℕ) (ts : List Token) (ls left : List Lexeme) (stop : Stop) → length text ≤ MOST_BYTES → tokens_of text ≡ Ok ts → ls ≡ lexemes_of text ts → StopsReading stop left (params_from full ls)
    → RefusesText SpellsParams text (refusal_of text left stop)
params_stopped text ts ls left stop short found all h =
    stopped SpellsParams texts params_complete params_so (λ z. params_refuses MOST_HEIGHT some_height (readers MOST_HEIGHT) (all_sound MOST_HEIGHT) (all_open MOST_HEIGHT) z) text ts short found left stop
    (subst (λ z. StopsReading stop left (params_from full z)) all h)
