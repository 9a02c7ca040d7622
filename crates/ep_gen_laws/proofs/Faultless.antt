-- The generated model has no fault.
use Rattle.std.specs.Prelude.{◌≡◌, [], refl}
use Rattle.ep_tree.proofs.Opened.{the_language}
use Rattle.ep_tree.specs.Faults.{text_faults}
use Rattle.ep_gen_laws.proofs.ModelTree.{Places, model_tree}

pub model_faultless : (at : Places) → text_faults (model_tree at) ≡ []
unfolding the_language model_tree
model_faultless at = refl
