-- What is taken takes tokens.
use Rattle.std.specs.Prelude.{◌≡◌, ℕ, ◌+◌, ◌≤◌, ◌<◌, List, [], ◌∷◌, ◌++◌, length}
use Rattle.std.proofs.Common.{ap, arith, ◌∙◌, length-append}
use Rattle.ep_base.specs.declared.names.Name.{Name}
use Rattle.ep_base.specs.declared.places.Place.{Place}
use Rattle.ep_parse_parts.proofs.Sound.{domain_sound, expr_sound}
use Rattle.ep_parse_parts.proofs.SoundParts.{AreSound}
use Rattle.ep_parse_parts.specs.OperandReaders.{Lower}
use Rattle.ep_parse_parts.specs.Readers.{behind, took}
use Rattle.ep_parse_model.proofs.GroupsSound.{group_sound, placed_sound, whole}
use Rattle.ep_parse_model.proofs.TextsAgain.{at, statement_headed}
use Rattle.ep_parse_model.proofs.TextsSound.{allowed_sound}
use Rattle.ep_parse_model.specs.TextReaders.{allowed_statement_from, full, group_from, placed_name_from}
use Rattle.ep_parse_model.specs.declared.openings.Allowed.{Allowed}
use Rattle.ep_tree.specs.Phrases.{Lexeme, PlacedNames, StartsAt}
use Rattle.ep_tree.specs.Reading.{MOST_HEIGHT}
use Rattle.ep_tree.specs.Spelling.{implications}
use Rattle.ep_tree.specs.StatementSpelling.{SpellsGroup}
use Rattle.ep_tree.specs.Statements.{Group, StatementTree}
use Rattle.ep_tree.specs.Trees.{ExprTree, place_of}

-- what the readers of the greatest height take is spelled
pub full_sound : AreSound MOST_HEIGHT full
full_sound = record { expr = expr_sound MOST_HEIGHT; domain = domain_sound MOST_HEIGHT }

pub behind_short : (ls : List Lexeme) → length (behind ls) ≤ length ls
behind_short [] = omega arith
behind_short (l ∷ ls) = omega arith

some_tokens : (p : Place) (front : List Lexeme) → StartsAt p front → 1 ≤ length front
some_tokens p [] h = absurd h
some_tokens p (l ∷ ls) h = omega arith

-- fewer tokens are left where a front of some tokens is taken
fewer : (front ls rest : List Lexeme) → ls ≡ front ++ rest → 1 ≤ length front → length rest < length ls
fewer front ls rest parts some =
    let long : length ls ≡ length front + length rest = ap length parts ∙ length-append front rest in
    omega (arith, long, some)

pub expr_shrinks : (ls rest : List Lexeme) (e : ExprTree) → full.expr implications ls ≡ took e rest → length rest < length ls
expr_shrinks ls rest e h =
    let k = (whole MOST_HEIGHT full full_sound ls).holds e rest h in
    fewer k.front ls rest k.parts (some_tokens (place_of e) k.front k.spelled.1.0)

pub placed_shrinks : (ls rest : List Lexeme) (x : Name × Place) → placed_name_from ls ≡ took x rest → length rest < length ls
placed_shrinks ls rest x h =
    let k = (placed_sound ls).holds x rest h in
    fewer k.front ls rest k.parts (some_tokens x.1 k.front k.spelled.0)

some_names : (xs : List (Name × Place)) (front : List Lexeme) → PlacedNames xs front → 1 ≤ length front
unfolding PlacedNames
some_names [] front h = absurd h
some_names (x ∷ []) front h = some_tokens x.1 front h.0
some_names (x ∷ y ∷ ys) front h =
    let long : length front ≡ length h.0 + length h.1 = ap length h.2 ∙ length-append h.0 h.1 in
    omega (arith, long, some_tokens x.1 h.0 h.3.0)

some_group : (g : Group) (front : List Lexeme) → SpellsGroup g front → 1 ≤ length front
some_group g front h =
    let long : length front ≡ length h.0 + length h.1 = ap length h.2 ∙ length-append h.0 h.1 in
    omega (arith, long, some_names g.names h.0 h.3)

pub group_shrinks : (ls rest : List Lexeme) (g : Group) → group_from full ls ≡ took g rest → length rest < length ls
group_shrinks ls rest g h =
    let k = ((group_sound MOST_HEIGHT full full_sound ls).holds g rest h).0 in
    fewer k.front ls rest k.parts (some_group g k.front k.spelled)

pub statement_shrinks_by : (less : ℕ) (low : Lower) → AreSound less low → (allowed : Allowed) (l : Lexeme) (ls rest : List Lexeme) (s : StatementTree) → allowed_statement_from low allowed (l ∷ ls) ≡ took s rest
    → length rest ≤ length ls
statement_shrinks_by less low good allowed l ls rest s h =
    let k = ((allowed_sound less low good allowed l ls).holds s rest h).0 in
    let short : length rest < length (l ∷ ls) = fewer k.front (l ∷ ls) rest k.parts (some_tokens (at s) k.front (statement_headed s k.front k.spelled).0) in
    omega (arith, short)

pub statement_shrinks : (allowed : Allowed) (l : Lexeme) (ls rest : List Lexeme) (s : StatementTree) → allowed_statement_from full allowed (l ∷ ls) ≡ took s rest → length rest ≤ length ls
statement_shrinks allowed l ls rest s h = statement_shrinks_by MOST_HEIGHT full full_sound allowed l ls rest s h
