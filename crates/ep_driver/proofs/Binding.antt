-- What errors of checking and binding say.
use Rattle.std.proofs.Common.{List, Ok, Err, Result, Contains, inl, inr, refl}
use Rattle.ep_base.specs.declared.operators.Limit.{Limit}
use Rattle.ep_instance_parts.specs.Refusals.{RefusesBinding}
use Rattle.ep_instance_parts.specs.declared.errors.BindError.{BindError}
use Rattle.ep_instance_parts.specs.declared.errors.Source.{Source}
use Rattle.ep_print.specs.declared.refusals.Refusal.{Refusal}
use Rattle.ep_print.specs.declared.refusals.TextFile.{TextFile}
use Rattle.ep_tree.specs.Binding.{Refusal as BindRefusal, missing_parameter, model_text, outside_domain, over_limit, parameter_text, solution_text, undefined_at, where_false}
use Rattle.ep_tree.specs.Faults.{Fault, ill_typed, open_domain, redeclared, unknown_name, wrong_category}
use Rattle.ep_types_rules.specs.Named.{IsAmongFaults, fault_of}
use Rattle.ep_types_rules.specs.declared.errors.StaticError.{StaticError}
use Rattle.ep_driver.specs.Outcomes.{as_outcome, bind_refusal, bind_refusals, fault_refusal, fault_refusals, file_of}
use Rattle.ep_files.specs.Status.{status_of}
use Rattle.ep_driver.specs.Steps.{Passes, Tells}
use Rattle.ep_driver.specs.Stops.{bind_stop, static_stop}
use Rattle.ep_driver.proofs.Refusing.{contains-map}

-- an error of types or categories names one of the faults
pub static-stopped : (V : Type 0) (file : TextFile) (faults : List Fault) (error : StaticError) → IsAmongFaults faults error → Passes {V = V} (fault_refusals file faults) (Err (static_stop file error))
unfolding fault_refusal fault_of status_of
static-stopped V file faults (StaticError.UnknownName p n) h = (inl refl, contains-map (fault_refusal file) faults (unknown_name p n) (h (unknown_name p n) refl))
static-stopped V file faults (StaticError.Redeclared p n) h = (inl refl, contains-map (fault_refusal file) faults (redeclared p n) (h (redeclared p n) refl))
static-stopped V file faults (StaticError.IllTyped p) h = (inl refl, contains-map (fault_refusal file) faults (ill_typed p) (h (ill_typed p) refl))
static-stopped V file faults (StaticError.WrongCategory p) h = (inl refl, contains-map (fault_refusal file) faults (wrong_category p) (h (wrong_category p) refl))
static-stopped V file faults (StaticError.OpenDomain p) h = (inl refl, contains-map (fault_refusal file) faults (open_domain p) (h (open_domain p) refl))
static-stopped V file faults StaticError.Memory h = tt

-- an error of binding names one of the refusals
pub bind-stopped : {V A : Type 0} (view : V → A) (said : Result A (List BindRefusal)) (error : BindError) → RefusesBinding error said → Tells view (as_outcome said) (Err (bind_stop error))
unfolding as_outcome bind_refusal file_of status_of
bind-stopped view said BindError.Memory h = tt
bind-stopped view (Ok x) (BindError.Missing name) h = absurd h
bind-stopped view (Ok x) (BindError.Outside name) h = absurd h
bind-stopped view (Ok x) (BindError.Undefined source place) h = absurd h
bind-stopped view (Ok x) (BindError.WhereFalse number) h = absurd h
bind-stopped view (Ok x) (BindError.Limit limit) h = absurd h
bind-stopped view (Err rs) (BindError.Missing name) h = (inl refl, (bind_refusals rs, refl, contains-map bind_refusal rs (missing_parameter name) h))
bind-stopped view (Err rs) (BindError.Outside name) h = (inl refl, (bind_refusals rs, refl, contains-map bind_refusal rs (outside_domain name) h))
bind-stopped view (Err rs) (BindError.Undefined Source.Model place) h = (inl refl, (bind_refusals rs, refl, contains-map bind_refusal rs (undefined_at model_text place) h))
bind-stopped view (Err rs) (BindError.Undefined Source.Params place) h = (inl refl, (bind_refusals rs, refl, contains-map bind_refusal rs (undefined_at parameter_text place) h))
bind-stopped view (Err rs) (BindError.Undefined Source.Solution place) h = (inl refl, (bind_refusals rs, refl, contains-map bind_refusal rs (undefined_at solution_text place) h))
bind-stopped view (Err rs) (BindError.WhereFalse number) h = (inl refl, (bind_refusals rs, refl, contains-map bind_refusal rs (where_false number) h))
bind-stopped view (Err rs) (BindError.Limit limit) h = (inr refl, (bind_refusals rs, refl, contains-map bind_refusal rs (over_limit limit) h))

-- a limit that is passed is one of the refusals
pub limit-passed : (passed : List BindRefusal) (limit : Limit) → Contains passed (over_limit limit) → Contains (bind_refusals passed) (Refusal.Over limit)
unfolding bind_refusal
limit-passed passed limit h = contains-map bind_refusal passed (over_limit limit) h
