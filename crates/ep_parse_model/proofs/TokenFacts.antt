-- What is known of the tokens of a text.
use Rattle.std.proofs.Common.{◌≡◌, ℕ, suc, ◌<◌, List, [], ◌∷◌, length, get_or, Ok, sym, ◌∙◌, arith}
use Rattle.std.specs.List.{AllByRecursion}
use Rattle.ep_base.specs.declared.tokens.Token.{Token}
use Rattle.ep_base.specs.Tokens.{tokens_of, token_text}
use Rattle.ep_base.proofs.TokenLaws.{token_of}
use Rattle.ep_base.proofs.TokenKinds.{text_of_name, name_is_ascii}
use Rattle.ep_parse_model.specs.Tokens.{LiesIn, LieIn}

-- what holds at each index holds of each token
all_from_index : (P : Token → Type 0) (tokens : List Token) → ((i : ℕ) (d : Token) → i < length tokens → P (get_or tokens i d)) → AllByRecursion P tokens
all_from_index P [] h = tt
all_from_index P (t ∷ ts) h = (h 0 t (omega arith), all_from_index P ts (λ i d lt. h (suc i) d (omega arith)))

-- the spans lie in the text, and names are ASCII
pub tokens_lie_in : (text : List ℕ) (tokens : List Token) → tokens_of text ≡ Ok tokens → LieIn text tokens
tokens_lie_in text tokens e =
    all_from_index (LiesIn text) tokens
    (λ i d lt.
    let is = token_of text tokens i d e lt in
    record {
      ordered = omega (arith, is.some);
      within = is.within;
      ascii = λ named. name_is_ascii (token_text text (get_or tokens i d)) (text_of_name (token_text text (get_or tokens i d)) (sym is.kind ∙ named)).1;
    })
