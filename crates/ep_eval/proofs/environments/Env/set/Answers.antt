use Rattle.ep_eval.proofs.Words.{◌≡◌, sym, subst, ◌∙◌, OnOk, HasAscendingDomain, put, IsTypedBound, bound_of, entry_bound, StandsUnderName, env_of}
use Rattle.ep_eval.proofs.environments.Env.set.Goals as goal

pub put-requires-clause-typed : goal.put-requires-clause-typed
unfolding IsTypedBound bound_of
put-requires-clause-typed c = c.requires.typed

pub put-requires-clause-ascending : goal.put-requires-clause-ascending
unfolding HasAscendingDomain bound_of
put-requires-clause-ascending c = tt

pub put-requires-clause-named : goal.put-requires-clause-named
unfolding StandsUnderName
put-requires-clause-named c = sym (c.in_ok-name.ensures.copied ∙ c.text.ensures.text)

pub returns-clause-known : goal.returns-clause-known
unfolding bound_of
returns-clause-known c =
    let same : c.in_ok-name.name ≡ c.args.entry.name = c.in_ok-name.ensures.copied ∙ c.text.ensures.text in
    subst (λ k. OnOk c.put.result (env_of c.put.new.self ≡ put k (entry_bound c.args.entry) (env_of c.args.self.now))) same c.put.ensures.known
