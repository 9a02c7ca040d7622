-- The start and the end of the new ground.
use Rattle.std.proofs.Common.{◌≡◌, ℕ, ◌<◌, ◌≤◌, ◌+◌, ◌*◌, pos, List, [], ◌∷◌, ◌++◌, length, Some, refl, sym, ap, subst, ◌∙◌, arith, get_or, take}
use Rattle.std.specs.Prelude.{option_map, option_to_list}
use Rattle.std.specs.List.{All, flat_map}
use Rattle.std.proofs.lemmas.List.{flat_map_more, take_more}
use Rattle.ep_base.specs.declared.operators.Sense.{Sense}
use Rattle.ep_defined.specs.Growing.{Grows, IsNodeAt, IsSafeOver}
use Rattle.ep_defined.specs.Images.{image_at}
use Rattle.ep_defined.specs.Translations.{IsRemoved, Translates, clause_terms}
use Rattle.ep_defined.specs.declared.images.Image.{Image}
use Rattle.ep_defined.proofs.Listing.{All-left, All-right}
use Rattle.ep_defined.proofs.Removed.{IsAllTranslated}
use Rattle.ep_ground.specs.Grounds.{GroundState, IsWellFormed, StandsOver, named_terms}
use Rattle.ep_ground.specs.Nodes.{GroundNode, constant, is_partial}
use Rattle.ep_ground.specs.Terms.{PartsStandBefore}
use Rattle.ep_ground.specs.declared.cells.Cell.{Cell}

-- the terms for one clause more
pub clauses_turn : (images : List Image) (ts : List ℕ) (i t : ℕ) (bs cs ds : List ℕ) → ds ≡ cs ++ clause_terms (image_at images t) → cs ≡ bs ++ flat_map (λ u. clause_terms (image_at images u)) (take i ts) → i < length ts → t ≡ get_or ts i t → ds ≡ bs ++ flat_map (λ u. clause_terms (image_at images u)) (take (i + 1) ts)
clauses_turn images ts i t bs cs ds push before below at =
    push ∙ ap (λ ws. ws ++ clause_terms (image_at images t)) before
    ∙ flat_map_more (λ (u : ℕ). clause_terms (image_at images u)) bs (take i ts) t
    ∙ ap (λ us. bs ++ flat_map (λ u. clause_terms (image_at images u)) us) (ap (λ u. take i ts ++ u ∷ []) at ∙ sym (take_more ts i t below))

-- the term of an objective
pub goal_below : (n : ℕ) (goal : Sense × ℕ) → All (λ t. t < n) (option_to_list (option_map (λ (goal : Sense × ℕ). goal.1) (Some goal))) → goal.1 < n
goal_below n goal h = h 0 0 (omega arith)

pub clauses_below : (n : ℕ) (g : GroundState) → All (λ t. t < n) (named_terms g) → All (λ t. t < n) g.clauses
unfolding named_terms
clauses_below n g h = All-left (λ t. t < n) g.clauses (option_to_list (option_map (λ goal. goal.1) g.objective)) h

pub objective_below : (n : ℕ) (g : GroundState) → All (λ t. t < n) (named_terms g) → All (λ t. t < n) (option_to_list (option_map (λ goal. goal.1) g.objective))
unfolding named_terms
objective_below n g h = All-right (λ t. t < n) g.clauses (option_to_list (option_map (λ goal. goal.1) g.objective)) h

-- no part stands anywhere
none_before : PartsStandBefore []
none_before t node e = absurd (cc)

-- 0 alone, and nothing stands for any term
pub started : (cells : List Cell) (olds old news : List GroundNode) (nought : ℕ) → old ≡ [] → IsNodeAt news nought (constant (pos 0)) → ((asker : GroundNode) → ((n : ℕ) → StandsOver n asker → IsSafeOver n (constant (pos 0))) → Grows asker 1 old news) → Translates cells olds news nought []
unfolding StandsOver is_partial
started cells olds old news nought empty is grows =
    let g : Grows (constant (pos 0)) 1 [] news = subst (λ ns. Grows (constant (pos 0)) 1 ns news) empty (grows (constant (pos 0)) (λ n h. record { whole = refl; stands = tt })) in
    record {
      before = g.before none_before;
      is_nought = is;
      each = λ t below. absurd (omega (arith, below));
      safe = subst (All (IsSafeOver (length cells))) (sym g.is) (g.safe (length cells) tt);
      few = omega (arith, g.few, ap length g.is);
    }

pub named_below : (g : GroundState) (images : List Image) → length images ≡ length g.nodes → IsWellFormed g → All (λ t. t < length images) (named_terms g)
named_below g images many h = subst (λ n. All (λ t. t < n) (named_terms g)) (sym many) h.terms

-- a ground whose nodes are those that were made, with what stands for the rest
pub all_translated : (g new : GroundState) (images : List Image) (nodes : List GroundNode) (nought : ℕ) → new.nodes ≡ nodes → Translates g.cells g.nodes nodes nought images → length images ≡ length g.nodes → IsRemoved g new images → IsWellFormed g → IsAllTranslated g new images
all_translated g new images nodes nought same stand many removed well_formed = record {
  nought = nought;
  stand = subst (λ ns. Translates g.cells g.nodes ns nought images) (sym same) stand;
  many = many;
  removed = removed;
  well_formed = well_formed;
}

pub few_nodes : (g new : GroundState) (images : List Image) → IsAllTranslated g new images → length new.nodes ≤ 4 * length g.nodes + 8
few_nodes g new images h = omega (arith, h.stand.few, h.many)
