-- Worked examples of what is wanted of the texts of a number, computed by the checker.
use Rattle.std.proofs.Common.{◌≡◌, ℕ, List, [], ◌∷◌, codes, Some, None, refl}
use Rattle.ep_gen.specs.Texts.{generated_model, generated_params}
use Rattle.ep_words.specs.declared.job.Job.{Job}
use Rattle.ep_driver.specs.Commands.{wanted_of}
use Rattle.ep_outputs.specs.Outputs.{a_text, for_texts, named}
use Rattle.ep_driver.specs.Outputs.{written_for}
use Rattle.ep_driver.specs.declared.wanted.Wanted.{Wanted}

abbrev file : List ℕ
file = codes "file"

generate-runs : wanted_of (Job.Generate 5 7 None (Some file)) ≡ Wanted.Generate 5 7 None (Some file)
unfolding wanted_of
generate-runs = refl

model-first : written_for (Wanted.Generate 5 7 (Some file) (Some file)) ≡ record { content = a_text generated_model; name = file } ∷ record { content = a_text (generated_params 5); name = file } ∷ []
unfolding for_texts named written_for
model-first = refl

nothing-is-named : written_for (Wanted.Generate 5 7 None None) ≡ []
unfolding for_texts named written_for
nothing-is-named = refl
