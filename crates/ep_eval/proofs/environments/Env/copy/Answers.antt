use Rattle.ep_eval.proofs.Words.{◌≡◌, ◌∙◌, ◌≤◌, Some, length, sym, ap, subst, rules, false≢true, option_map, slice_get, bound_of, known_of, KnownNames, env_of, Name}
use Rattle.ep_eval.specs.declared.environments.Meaning.{Meaning}
use Rattle.ep_eval.proofs.EnvCopies.{all_copied, none_copied, one_copied}
use Rattle.ep_eval.proofs.environments.Env.copy.Goals.{in-Some+in_ok-put_copy, in_default}
use Rattle.ep_eval.proofs.environments.Env.copy.Goals as goal

pub loop-place-init : goal.loop-place-init
loop-place-init c =
    (c.new-copy.ensures.mode ∙ c.mode.ensures.mode, none_copied (env_of c.args.self.now) (env_of c.new-copy.result) c.args.self.now.names c.new-copy.ensures.empty)

pub loop-place-preserved : goal.loop-place-preserved
loop-place-preserved c =
    elim c.match-get_index.branch [
      | in-Some+in_ok-put_copy w ↦
          let seen : known_of c.self.inside ≡ c.args.self.now = c.self.view_is in
          let name : Name = w.in-Some.name.now in
          let meaning : Meaning = w.in-Some.meaning.now in
          let at : slice_get c.args.self.now.names c.loop-place.place ≡ Some (name, meaning) =
          subst (λ (k : KnownNames). slice_get k.names c.loop-place.place ≡ Some (name, meaning)) seen (sym w.in-Some.ensures.entry) in
          let here : env_of c.args.self.now name ≡ Some (bound_of meaning) =
          subst (λ (k : KnownNames). env_of k name ≡ Some (bound_of meaning)) seen (ap (option_map bound_of) w.in-Some.ensures.value) in (
            ap (λ (k : KnownNames). k.mode) w.copy-is ∙ w.in_ok-put_copy.ensures.mode ∙ c.loop-place.invariant.0,
            one_copied (env_of c.args.self.now) (env_of c.loop-place.copy) (env_of c.match-get_index.copy) name meaning c.args.self.now.names c.loop-place.place
                c.loop-place.invariant.1 at here (ap env_of w.copy-is ∙ w.in_ok-put_copy.ensures.known),
          )
      | in_default w ↦ absurd (false≢true (w.in_default.ensures.found.1 (search rules)))
    ]

pub returns-clause-known : goal.returns-clause-known
returns-clause-known c =
    let past : length c.self.inside.known.entries ≤ c.loop-place.place = search rules in
    all_copied (env_of c.loop-place.copy) c.args.self.now.names c.loop-place.place
    (subst (λ (k : KnownNames). length k.names ≤ c.loop-place.place) c.self.view_is past)
    c.loop-place.invariant.1
