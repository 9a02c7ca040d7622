use Rattle.std.proofs.Common.{ℕ, ◌<◌, ℤ, [], List, length, map, refl, sym, ap, subst, ◌∙◌, arith}
use Rattle.std.specs.Prelude.{MatchOption, Option}
use Rattle.ep_base.specs.Reads.{safe_picked}
use Rattle.ep_flat.specs.Cons.{numbers_of_vars}
use Rattle.enc_arith.specs.Elements.{element_value, with_parts}
use Rattle.enc_arith.specs.Entries.{HaveParts, plain_entry}
use Rattle.enc_arith.proofs.Cases.{adds_same}
use Rattle.enc_arith.proofs.Entries.{element_is, first_there, parts_there}
use Rattle.enc_arith.proofs.constraints.add_picked.Goals as goal

pub add_element-requires : goal.add_element-requires
add_element-requires c = record {
  ready = c.requires.ready;
  names = λ k d low. absurd (omega (arith, low));
  there = c.requires.there;
  parts = subst (HaveParts (length c.args.layout.now)) (sym (ap (map plain_entry) c.as_slice.ensures.value ∙ c.in_ok-entries.ensures)) (parts_there (length c.args.layout.now) c.args.keys.now c.args.parts.now c.requires.parts);
  other = subst (λ (o : Option ℕ). MatchOption o (Unit {0}) (λ x. x < length c.args.layout.now)) (sym c.first_of-other.ensures) (first_there (length c.args.layout.now) c.args.parts.now c.requires.parts);
  indices = c.requires.indices;
}

pub returns : goal.returns
returns c =
    let keys : List (List ℤ) = c.args.keys.now in
    let parts : List ℕ = c.args.parts.now in
    let indices : List ℕ = c.args.indices.now in
    let v : List ℤ → ℤ = λ values. safe_picked (numbers_of_vars values parts) keys (numbers_of_vars values indices) in
    let w : List ℤ → ℤ = λ values. element_value values (map plain_entry c.as_slice.result.now) c.first_of-other.result indices in
    adds_same _ _ _ [] [] _ _ v w c.requires.ready refl
    (λ values. ap (λ es. element_value values es c.first_of-other.result indices) (ap (map plain_entry) c.as_slice.ensures.value ∙ c.in_ok-entries.ensures)
    ∙ ap (λ o. element_value values (with_parts keys parts) o indices) c.first_of-other.ensures ∙ element_is values parts keys indices)
    c.in_ok-add_element.ensures
