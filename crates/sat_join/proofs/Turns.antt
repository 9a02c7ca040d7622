-- The steps of a cube, of which the last is the empty step.
use Rattle.std.proofs.Common.{◌≡◌, true, ◌⊎◌, inl, inr, List, [], ◌∷◌, ◌++◌, map, ◌∙◌, sym, subst}
use Rattle.std.specs.Prelude.{All}
use Rattle.std.proofs.lemmas.Bool.{false≢true}
use Rattle.std.proofs.lemmas.List.Elements.{All-append, All-weaker, All-contains, Contains-push}
use Rattle.cnf_core.specs.Literal.{Literal}
use Rattle.cnf_core.specs.Events.{LogEvent, given, step, is_given, is_nonempty_step}
use Rattle.cnf_core.proofs.Events.{all_are_given}
use Rattle.sat_search.specs.Logs.{EndsWithEmptyStep}

-- a given, or a step with a literal
abbrev Some' : LogEvent → Type 0
Some' e = (is_given e ≡ true) ⊎ (is_nonempty_step e ≡ true)

-- where each event is one of these, the last isn't the empty step
pub not_ended : (cube steps refuted : List LogEvent) → refuted ≡ cube ++ steps → All (λ e. is_given e ≡ true) cube → All (λ e. is_nonempty_step e ≡ true) steps → EndsWithEmptyStep refuted → ⊥
not_ended cube steps refuted is givens some ends =
    elim (All-contains Some' (ends.before ++ step [] ends.hints ∷ []) (step [] ends.hints)
    (subst (All Some') (sym is ∙ ends.events_are)
    (All-append Some' cube steps
    (All-weaker (λ e. is_given e ≡ true) Some' (λ e g. inl g) cube givens)
    (All-weaker (λ e. is_nonempty_step e ≡ true) Some' (λ e s. inr s) steps some)))
    (Contains-push ends.before (step [] ends.hints))) [
      | inl it ↦ false≢true it
      | inr it ↦ false≢true it
    ]

pub both_given : (clauses others : List (List Literal)) → All (λ e. is_given e ≡ true) (map given clauses ++ map given others)
both_given clauses others = All-append (λ e. is_given e ≡ true) (map given clauses) (map given others) (all_are_given clauses) (all_are_given others)
