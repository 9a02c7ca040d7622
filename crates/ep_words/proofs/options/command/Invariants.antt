use Rattle.std.proofs.Common.{◌≡◌, map, take}
use Rattle.clap.specs.Words.{app_of}
use Rattle.ep_words.specs.Options.{command_with}
use Rattle.ep_words.proofs.options.command.Given as goal

abbrev pub invariant-loop-name : goal.invariant-loop-name
invariant-loop-name l = app_of l.command ≡ command_with (map (λ name. name.now) (take l.name-index l.name-items))
