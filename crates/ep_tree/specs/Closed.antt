-- Instances that are closed and well typed, as binding gives them.
use Rattle.std.specs.Prelude.{◌≡◌, true, false, List, [], ◌++◌, All, bytes_eq, map, IsTrue, None, flat_map, option_to_list}
use Rattle.std.specs.List.{IsDistinct, list_all}
use Rattle.ep_base.specs.declared.names.Name.{Name}
use Rattle.ep_tree.specs.Binding.{Instance}
use Rattle.ep_tree.specs.Environments.{Env, context_of}
use Rattle.ep_tree.specs.Faults.{Fault, clause_faults, goal_faults}
use Rattle.ep_tree.specs.Names.{put_all}
use Rattle.ep_tree.specs.Reach.{decisions_in}
use Rattle.ep_tree.specs.Solutions.{cells_bound}
use Rattle.ep_tree.specs.TypedValues.{IsTypedEnv, is_number_of}
use Rattle.ep_tree.specs.Types.{Context}

-- the names of an instance as its clauses see them: its own, and the cells of its decision variables
abbrev pub clause_env : Instance → Env
clause_env i = put_all (cells_bound i.finds) i.env

-- the faults of an instance's clauses and of its objective
unfoldable pub instance_faults : Instance → List Fault
instance_faults i =
    let context : Context = context_of (clause_env i) in
    clause_faults context true i.clauses ++ flat_map (λ goal. goal_faults context goal.1) (option_to_list i.goal)

-- An instance is closed and well typed: the names of its decision variables are distinct, and stand for nothing else;
-- their values are of their scalars; each other name stands for something of its type; and no fault stands in a clause
-- or in the objective.
pub record IsClosed (i : Instance) : Type 0 where
  pub distinct : IsDistinct bytes_eq (map (λ f. f.name) i.finds)
  pub apart : All (λ f. i.env f.name ≡ None) i.finds
  pub values : All (λ f. IsTrue (list_all (is_number_of f.scalar) f.values)) i.finds
  pub decided : (name : Name) → decisions_in i.env name ≡ false
  pub of_types : IsTypedEnv i.env
  pub faultless : instance_faults i ≡ []
