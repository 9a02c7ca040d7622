-- What was made of a ground, without where its lists lie in memory.
use Rattle.enc_var.specs.Formulas.{IsFormulaOf}
use Rattle.ep_flat.specs.FlatViews.{plain_map}
use Rattle.ep_formula.specs.declared.stages.Encoded.{Encoded}
use Rattle.ep_ground.specs.Grounds.{GroundState}

-- what was made stands for the ground
abbrev pub IsEncodedFrom : GroundState → Encoded → Type 0
IsEncodedFrom g e = IsFormulaOf g e.layout (plain_map e.map) e.formula
