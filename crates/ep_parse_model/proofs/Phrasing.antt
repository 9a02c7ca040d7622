-- Phrases that stand one after another: how they are cut.
use Rattle.std.proofs.Common.{◌≡◌, List, ◌∷◌, ◌++◌, ap, ◌∙◌}
use Rattle.ep_base.specs.declared.places.Place.{Place}
use Rattle.ep_tree.specs.Phrases.{Is, Lexeme, Phrase, Saying, ◌followed_by◌}

-- two phrases
pub record Cut (a b : Phrase) (ls : List Lexeme) : Type 0 where
  pub front : List Lexeme
  pub back : List Lexeme
  pub parts : ls ≡ front ++ back
  pub first : a front
  pub second : b back

pub cut : (a b : Phrase) (ls : List Lexeme) → (a followed_by b) ls → Cut a b ls
cut a b ls h = record { front = h.0; back = h.1; parts = h.2; first = h.3; second = h.4 }

-- a token and a phrase behind it
pub record Behind (said : Saying) (phrase : Phrase) (ls : List Lexeme) : Type 0 where
  pub place : Place
  pub rest : List Lexeme
  pub parts : ls ≡ record { place = place; saying = said } ∷ rest
  pub spelled : phrase rest

pub behind : (said : Saying) (phrase : Phrase) (ls : List Lexeme) → (Is said followed_by phrase) ls → Behind said phrase ls
behind said phrase ls h =
    let c = cut (Is said) phrase ls h in
    record { place = c.first.0; rest = c.back; parts = c.parts ∙ ap (λ front. front ++ c.back) c.first.1; spelled = c.second }
