use Rattle.std.proofs.Common.{◌∙◌, ℕ, List, ℤ, ap, arith, length, subst, sym}
use Rattle.std.proofs.lemmas.List.{length-append}
use Rattle.ep_numbers.specs.declared.spans.Span.{Span}
use Rattle.ep_share.proofs.Cuts.{left_more, none_left}
use Rattle.ep_share.proofs.Parts.{parts_stand}
use Rattle.ep_share.specs.Cutting.{AreFarBefore, ArePartsOf, ArePlacesOfNear, AreTwoPlaces, IsTaken, addend_at, pair_of, told_reach}
use Rattle.ep_share.proofs.cutting.cut.Goals as goal

pub loop-turn-init : goal.loop-turn-init
loop-turn-init c = record {
  is_made = c.requires.made;
  stands = parts_stand c.args.cells.now c.args.made.now.arena c.args.parts.items c.requires.parts;
  short = omega (arith, c.requires.small);
}

pub best_places-requires : goal.best_places-requires
best_places-requires c = record {
  parts =
      subst (λ (ps : List (ℤ × ℕ)). ArePartsOf (length c.deref.result.now) ps) (sym c.deref-in-loop-turn.ensures.value)
      (subst (λ (n : ℕ). ArePartsOf n c.loop-turn.left.items) (sym c.loop-turn.invariant.is_made.long ∙ sym (ap length c.deref.ensures.value)) c.loop-turn.invariant.stands.there);
}

pub take_pair-requires : goal.take_pair-requires
take_pair-requires c = record {
  made = c.loop-turn.invariant.is_made;
  room = omega (arith, c.requires.room, c.requires.small, c.loop-turn.invariant.stands.few, ap length c.loop-turn.invariant.stands.is, length-append c.args.made.now.arena c.loop-turn.invariant.stands.more);
  places = subst (λ (ps : List (ℤ × ℕ)). AreTwoPlaces ps c.in-Some.at) (c.deref-in-loop-turn.ensures.value ∙ sym c.deref-in-loop-turn-2.ensures.value) c.in-Some.ensures.places;
  parts = subst (ArePartsOf (length c.loop-turn.made.arena)) (sym c.deref-in-loop-turn-2.ensures.value) c.loop-turn.invariant.stands.there;
}

pub with_pair-left-requires : goal.with_pair-left-requires
with_pair-left-requires c = subst (λ (ps : List (ℤ × ℕ)). AreTwoPlaces ps c.in-Some.at) c.deref-in-loop-turn.ensures.value c.in-Some.ensures.places

pub loop-turn-preserved : goal.loop-turn-preserved
loop-turn-preserved c =
    let left = c.loop-turn.left.items in
    let at = c.in-Some.at in
    left_more c.args.cells.now c.args.made.now c.loop-turn.made c.take_pair.new.made c.args.parts.items left c.with_pair-left.result.items c.loop-turn._turn c.in_ok-term.term at c.loop-turn.invariant
    (subst (λ (ps : List (ℤ × ℕ)). AreTwoPlaces ps at) c.deref-in-loop-turn.ensures.value c.in-Some.ensures.places)
    (subst (λ (ps : List (ℤ × ℕ)). ArePlacesOfNear (told_reach c.loop-turn.made.spans.items) ps at) c.deref-in-loop-turn.ensures.value
    (subst (λ (ss : List Span). ArePlacesOfNear (told_reach ss) c.deref-in-loop-turn.result.now at) c.deref.ensures.value c.in-Some.ensures.near))
    (subst (λ (ps : List (ℤ × ℕ)). IsTaken c.args.cells.now c.loop-turn.made (pair_of (addend_at ps at.first) (addend_at ps at.second)) c.take_pair.new.made c.in_ok-term.term) c.deref-in-loop-turn-2.ensures.value c.in_ok-term.ensures)
    c.with_pair-left.ensures

pub returns-in_default : goal.returns-in_default
returns-in_default c = record {
  stands = c.loop-turn.invariant.stands;
  made = c.loop-turn.invariant.is_made;
  far =
      subst (λ (ss : List Span). AreFarBefore (told_reach ss) c.loop-turn.left.items (length c.loop-turn.left.items)) c.deref.ensures.value
      (subst (λ (ps : List (ℤ × ℕ)). AreFarBefore (told_reach c.deref.result.now) ps (length ps)) c.deref-in-loop-turn.ensures.value (c.best_places.ensures.far c.in_default.is));
}

pub returns : goal.returns
returns c = record {
  stands = c.loop-turn.invariant.stands;
  made = c.loop-turn.invariant.is_made;
  far = none_left (told_reach c.loop-turn.made.spans.items) c.loop-turn.left.items (omega (arith, c.loop-turn.invariant.short, c.loop-turn-test.false));
}
