use Rattle.std.proofs.Common.{◌≡◌, ◌∙◌}
use Rattle.pgw_registry.specs.Passes.{Known, OnlyFull}
use Rattle.pgw_registry.specs.declared.error.RegistryError.{RegistryError}
use Rattle.pgw_registry.specs.declared.error.RegistryError.TheVariants.{Gone, Exhausted, OutOfMemory}
use Rattle.pgw_login.proofs.cancel.DefaultCancelHandlerCancelHandler.on_cancel_request.Goals as goal

full_of : (e : RegistryError) (v w : Known) → OnlyFull e v w → w.of ≡ v.of
full_of Gone v w h = absurd h
full_of Exhausted v w h = h.0.0.0
full_of OutOfMemory v w h = absurd h

pub returns-clause-fits : goal.returns-clause-fits
returns-clause-fits g c = full_of _ _ _ c.in-Err.ensures.err ∙ c.requires
