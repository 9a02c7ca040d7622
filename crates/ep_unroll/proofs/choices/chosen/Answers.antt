use Rattle.ep_unroll.proofs.Words.{length, refl, subst, sym, ◌<◌, ◌∙◌, All, env_in, mode_in, expr_tree, numbering_of}
use Rattle.ep_unroll.proofs.FormValues.{grows_long, grows_on, if_ok}
use Rattle.ep_unroll.proofs.GrownParts.{terms_kept}
use Rattle.ep_unroll.proofs.ReadValues.{Choice, chosen_means, left_read, truth_means}
use Rattle.ep_unroll.proofs.SlotSteps.{opens_known}
use Rattle.ep_unroll.proofs.choices.chosen.Goals as goal

pub needed_terms-requires : goal.needed_terms-requires
needed_terms-requires c = c.requires.known

pub left_matrix-requires : goal.left_matrix-requires
left_matrix-requires c = c.requires.known

pub returns-then-is_matrix : goal.returns-then-is_matrix
returns-then-is_matrix c nodes p m indices tree known slots =
    let n = numbering_of (mode_in c.args.scope) c.args.table.now in
    let env = env_in c.args.scope in
    let new = c.left_matrix.new.arena in
    let e = expr_tree c.args.e.now in
    if_ok c.left_matrix.result _ _ (λ x h. left_read n env nodes new p m e indices c.in_ok-ty.ty x h tree c.in_ok-ty.ensures (c.is_matrix.ensures c.if-is_matrix.true (mode_in c.args.scope)))
    (c.left_matrix.ensures n env nodes m indices refl known slots)

pub chosen_truth-requires : goal.chosen_truth-requires
chosen_truth-requires c =
    let mid = c.args.arena.now in
    let need = c.needed_terms.new.arena in
    let have = c.known_entries.new.arena in
    let entries = c.in_ok-entries.ensures (terms_kept mid need c.args.known.now c.in_ok-others.ensures.grows c.requires.known) in
    record {
      terms = entries.known;
      indices = subst (All (λ t. t < length have)) (sym c.in_ok-indices.ensures)
          (λ k d less. grows_long mid have _ (grows_on mid need have c.in_ok-others.ensures.grows entries.grows) (opens_known (length mid) c.args.slots.now c.requires.slots k d less));
      others = λ k d less. grows_long need have _ entries.grows (c.in_ok-others.ensures.known k d less);
    }

pub chosen_number-requires : goal.chosen_number-requires
chosen_number-requires c =
    let mid = c.args.arena.now in
    let need = c.needed_terms.new.arena in
    let have = c.known_entries.new.arena in
    let entries = c.in_ok-entries.ensures (terms_kept mid need c.args.known.now c.in_ok-others.ensures.grows c.requires.known) in
    record {
      terms = entries.known;
      indices = subst (All (λ t. t < length have)) (sym c.in_ok-indices.ensures)
          (λ k d less. grows_long mid have _ (grows_on mid need have c.in_ok-others.ensures.grows entries.grows) (opens_known (length mid) c.args.slots.now c.requires.slots k d less));
      others = λ k d less. grows_long need have _ entries.grows (c.in_ok-others.ensures.known k d less);
    }

pub returns-then-is_judged : goal.returns-then-is_judged
returns-then-is_judged c nodes p m indices tree known slots =
    let n = numbering_of (mode_in c.args.scope) c.args.table.now in
    let env = env_in c.args.scope in
    let mid = c.args.arena.now in
    let need = c.needed_terms.new.arena in
    let have = c.known_entries.new.arena in
    let es = c.in_ok-entries.entries in
    let entries = c.in_ok-entries.ensures (terms_kept mid need c.args.known.now c.in_ok-others.ensures.grows c.requires.known) in
    let choice : Choice n env nodes mid need have m c.args.known.now c.args.slots.now c.args.table.now.count es.keys.items es.terms.items c.in_ok-others.others.items =
    record { counted = refl; meant = known; needed = c.in_ok-others.ensures; entries = entries } in
    truth_means n env nodes mid need have c.chosen_truth.new.arena p m (expr_tree c.args.e.now) indices c.args.known.now c.args.slots.now c.args.table.now.count es.keys.items es.terms.items
    c.in_ok-indices.indices.items c.in_ok-others.others.items c.in_ok-term.term choice slots c.in_ok-indices.ensures c.in_ok-term.ensures tree
    (sym (c.is_judged.ensures.truth c.if-is_judged.true) ∙ c.in_ok-ty.ensures) (c.is_judged.ensures.mode c.if-is_judged.true)

pub returns : goal.returns
returns c nodes p m indices tree known slots =
    let n = numbering_of (mode_in c.args.scope) c.args.table.now in
    let env = env_in c.args.scope in
    let mid = c.args.arena.now in
    let need = c.needed_terms.new.arena in
    let have = c.known_entries.new.arena in
    let es = c.in_ok-entries.entries in
    let entries = c.in_ok-entries.ensures (terms_kept mid need c.args.known.now c.in_ok-others.ensures.grows c.requires.known) in
    let choice : Choice n env nodes mid need have m c.args.known.now c.args.slots.now c.args.table.now.count es.keys.items es.terms.items c.in_ok-others.others.items =
    record { counted = refl; meant = known; needed = c.in_ok-others.ensures; entries = entries } in
    chosen_means n env nodes mid need have c.chosen_number.new.arena p m (expr_tree c.args.e.now) indices c.args.known.now c.args.slots.now c.args.table.now.count es.keys.items es.terms.items
    c.in_ok-indices.indices.items c.in_ok-others.others.items c.in_ok-ty.ty c.in_ok-term-2.term choice slots c.in_ok-indices.ensures c.in_ok-term-2.ensures tree c.in_ok-ty.ensures
    (c.is_judged.ensures.other c.if-is_judged.false)
