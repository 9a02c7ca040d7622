use Rattle.ep_eval.proofs.Words.{◌≡◌, take, env_of}
use Rattle.ep_eval.proofs.EnvCopies.{IsCopied}
use Rattle.ep_eval.proofs.environments.Env.copy.Given as goal

abbrev pub invariant-loop-place : goal.invariant-loop-place
invariant-loop-place l = (l.copy.mode ≡ l.self.mode) × IsCopied (env_of l.self) (env_of l.copy) (take l.place l.self.names)
