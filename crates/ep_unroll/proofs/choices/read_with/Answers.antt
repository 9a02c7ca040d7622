use Rattle.ep_unroll.proofs.Words.{length, refl, subst, sym, option_map, All, env_in, mode_in, numbering_of, AreKnown, AreSlotsOf, IsSlot, SlotsMean}
use Rattle.ep_unroll.proofs.choices.read_with.Goals as goal

pub chosen-requires : goal.chosen-requires
unfolding AreKnown
chosen-requires c = record {
  known = c.requires.known;
  slots = subst (All (IsSlot (length c.args.arena.now))) (sym c.deref.ensures.value)
      (subst (λ found. AreKnown (length c.args.arena.now) (option_map (λ v. v.items) found)) c.in-Some.is c.requires.slots);
}

pub returns-in-Some : goal.returns-in-Some
unfolding SlotsMean
returns-in-Some c nodes p m indices tree known slots =
    let n = numbering_of (mode_in c.args.scope) c.args.table.now in
    let env = env_in c.args.scope in
    c.chosen.ensures nodes p m indices tree known
    (subst (AreSlotsOf n env nodes c.args.arena.now indices) (sym c.deref.ensures.value) (subst (λ found. SlotsMean n env nodes c.args.arena.now indices (option_map (λ v. v.items) found)) c.in-Some.is slots))

pub returns : goal.returns
unfolding SlotsMean
returns c nodes p m indices tree known slots =
    let n = numbering_of (mode_in c.args.scope) c.args.table.now in
    let none = subst (λ found. SlotsMean n (env_in c.args.scope) nodes c.args.arena.now indices (option_map (λ v. v.items) found)) c.in-None.is slots in
    c.read_without.ensures n nodes c.args.arena.now p m indices refl tree none.0 none.1
