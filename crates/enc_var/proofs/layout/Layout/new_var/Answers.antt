use Rattle.std.proofs.Common.{◌+◌, ◌-◌, ◌*◌, ◌++◌, [], ◌∷◌, length, refl, sym, ap, subst, ◌∙◌, arith}
use Rattle.enc_var.proofs.GoingOn.{goes_on}
use Rattle.enc_var.proofs.Growing.{free_choice}
use Rattle.enc_var.proofs.layout.Layout.new_var.Goals as goal
use Rattle.enc_var.specs.Decoding.{VariableLiterals}
use Rattle.enc_var.specs.Layouts.{GoesOn}

pub returns-clause-goes_on : goal.returns-clause-goes_on
returns-clause-goes_on c =
    let e : VariableLiterals = record { domain = c.args.domain.now; first = c.args.f.now.vars + 1 } in
    let pushed = c.in_ok-push.ensures.items ∙ ap (λ xs. xs ++ c.in_ok-variable.variable ∷ []) c.self.view_is ∙ ap (λ v. c.args.self.now ++ v ∷ []) c.in_ok-variable.ensures.variable in
    subst (λ xs. GoesOn c.args.self.now c.args.f.now xs c.new.new.f) (sym pushed)
    (goes_on c.args.self.now c.args.f.now c.new.new.f e c.requires.is_layout c.requires.from_new (omega (arith, c.vars-most.ensures.value, c.vars-most.ensures.in_range)) refl
    c.in_ok-variable.ensures.ascending c.in_ok-variable.ensures.grows)

pub returns-clause-choice : goal.returns-clause-choice
returns-clause-choice c =
    let e : VariableLiterals = record { domain = c.args.domain.now; first = c.args.f.now.vars + 1 } in
    free_choice c.args.f.now c.new.new.f e (1 + (2 * length c.args.domain.now - 4)) refl c.in_ok-variable.ensures.ascending c.clauses-clauses.ensures.clauses c.clauses-clauses.ensures.names
    c.in_ok-variable.ensures.grows c.in_ok-variable.ensures.fixed
