use Rattle.std.proofs.Common.{◌∙◌, ℕ, List, Contains, refl, sym, ap, subst, arith}
use Rattle.cnf_core.specs.Literal.{code_of}
use Rattle.cnf_core.proofs.Members.{none_in_nil}
use Rattle.sat_state.proofs.watches.Watches.unlink.Goals as goal

pub start-requires : goal.start-requires
start-requires c = omega (arith, c.requires.known, ap code_of (c.lit-lit.ensures ∙ c.lit.ensures))

pub look-init : goal.look-init
look-init c =
    let s = c.start.ensures in
    record {
      lits = s.lits;
      fars = s.fars;
      stands = s.stands;
      lists = s.lists;
      waits = s.all c.args.entry c.requires.there (sym (c.lit-lit.ensures ∙ c.lit.ensures)) (sym c.is_far-far.ensures);
    }

pub unreachable-requires : goal.unreachable-requires
unreachable-requires c =
    none_in_nil c.args.entry (subst (λ (ws : List ℕ). Contains ws c.args.entry) (c.in_default.ensures.none refl) c.look.invariant.waits)
