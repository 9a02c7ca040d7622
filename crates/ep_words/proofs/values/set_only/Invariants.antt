use Rattle.std.proofs.Common.{◌≡◌, map}
use Rattle.clap.specs.Matches.{ids_left}
use Rattle.ep_words.specs.Jobs.{sets_only}
use Rattle.ep_words.specs.Views.{settings_of}
use Rattle.ep_words.proofs.OptionLists.{only_listed}
use Rattle.ep_words.proofs.values.set_only.Given as goal

abbrev pub invariant-loop-name : goal.invariant-loop-name
invariant-loop-name l = only_listed l.names l.fn.settings (ids_left l.name-iterator) ≡ sets_only (map (λ name. name.now) l.names) (settings_of l.fn.settings)
