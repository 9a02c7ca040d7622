use Rattle.std.proofs.Common.{◌≡◌, ◌∙◌, sym, List, [], ◌++◌, ◌∷◌, ◌+◌, take, subst}
use Rattle.std.proofs.lemmas.Result.{on_ok_weaker}
use Rattle.enc_atoms.proofs.Gathering.{adds_always, adds_gathered, gathered_false, gathered_literal, gathered_none}
use Rattle.enc_atoms.proofs.clauses.add_clause.Goals as goal
use Rattle.enc_atoms.proofs.clauses.add_clause.Goals.{in-False, in-Is+in_ok-push-in-Is}
use Rattle.enc_atoms.specs.Literals.{AreGathered}
use Rattle.enc_atoms.specs.declared.atoms.Atom.{Atom}

pub loop-atom-init : goal.loop-atom-init
loop-atom-init c = gathered_none c.args.layout.now c.args.f.now.vars c.args.atoms.now c.new-literals.result.items c.new-literals.ensures.items

pub returns-in-True : goal.returns-in-True
returns-in-True c =
    adds_always c.args.layout.now c.args.f.now c.args.atoms.now c.loop-atom.atom-index _ c.loop-atom-test.true
    (c.requires.names c.loop-atom.atom-index _ c.loop-atom-test.true) c.requires.is_layout c.requires.from_new (sym c.in-True.is ∙ c.known.ensures)

pub loop-atom-preserved : goal.loop-atom-preserved
loop-atom-preserved c =
    let names = c.requires.names c.loop-atom.atom-index _ c.loop-atom-test.true in
    let so_far : List Atom = take (c.loop-atom.atom-index + 1) c.args.atoms.now in
    elim c.match-known.branch [
      | in-False w ↦
          subst (λ xs. AreGathered c.args.layout.now c.args.f.now.vars so_far xs.items) (sym w.literals-is)
          (gathered_false c.args.layout.now c.args.f.now.vars c.args.atoms.now c.loop-atom.literals.items c.loop-atom.atom-index _ c.loop-atom-test.true names c.loop-atom.invariant (sym w.in-False.is ∙ c.known.ensures))
      | in-Is+in_ok-push-in-Is w ↦
          let pushed : w.push.new.self.items ≡ c.loop-atom.literals.items ++ w.in-Is.literal ∷ [] = w.in_ok-push-in-Is.ensures.items in
          subst (λ xs. AreGathered c.args.layout.now c.args.f.now.vars so_far xs.items) (sym w.literals-is)
          (subst (AreGathered c.args.layout.now c.args.f.now.vars so_far) (sym pushed)
          (gathered_literal c.args.layout.now c.args.f.now.vars c.args.atoms.now c.loop-atom.literals.items c.loop-atom.atom-index _ w.in-Is.literal c.loop-atom-test.true names c.requires.is_layout.literals c.loop-atom.invariant
          (sym w.in-Is.is ∙ c.known.ensures)))
    ]

pub add_literals-requires : goal.add_literals-requires
add_literals-requires c = c.loop-atom.invariant.names

pub returns : goal.returns
returns c =
    on_ok_weaker c.add_literals.result
    (λ h. adds_gathered c.args.layout.now c.args.f.now c.add_literals.new.f c.args.atoms.now c.loop-atom.atom-index c.loop-atom.literals.items c.requires.is_layout c.requires.from_new c.loop-atom-test.false
    c.loop-atom.invariant h) c.add_literals.ensures
