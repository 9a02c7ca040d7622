use Rattle.std.proofs.Common.{◌++◌, [], ◌∷◌, List, codes, map, refl, sym, ap, ◌∙◌}
use Rattle.ep_base.specs.declared.names.Name.{Name}
use Rattle.ep_base.specs.declared.places.Place.{Place}
use Rattle.ep_print.specs.Putting.{words_spaced}
use Rattle.ep_print.proofs.Puts.{joined-continued}
use Rattle.ep_print.proofs.Turns.{Listed, turn, turns_end}
use Rattle.ep_print.proofs.spaced.push_placed.Goals as goal

listed : Listed (λ (names : List (Name × Place)). map (λ name. name ∷ []) (map (λ entry. entry.0) names)) (λ (entry : Name × Place). entry.0 ∷ [])
listed = record { none = refl; more = λ x xs. refl }

pub loop-name-preserved : goal.loop-name-preserved
loop-name-preserved c = turn _ _ listed (codes "," ∷ []) c.loop-name.started c.args.names.now c.loop-name.name-index c.loop-name-item.result _ c.push_between.new.text.items _ _ c.loop-name-test.true c.loop-name-item.is c.in_ok-push_between.ensures (c.in_ok-push_word.ensures ∙ ap (λ w. c.push_between.new.text.items ++ words_spaced (w ∷ [])) c.text.ensures.text) c.loop-name.invariant

pub returns : goal.returns
returns c = turns_end _ _ listed (codes "," ∷ []) c.loop-name.started c.args.names.now c.loop-name.name-index _ _ c.loop-name-test.false c.loop-name.invariant
    ∙ ap (λ ws. c.args.text.now.items ++ words_spaced ws) (sym (joined-continued (codes "," ∷ []) (map (λ name. name ∷ []) (map (λ entry. entry.0) c.args.names.now))))
