-- The history that a world of configured buses is seen as, and what such a world keeps.
use Rattle.std.specs.Prelude.{◌≡◌, ℕ, Bool, false, nat_lt, Option, Some, None, length, slice_get}
use Rattle.grid_structure.specs.declared.Site.{Site}
use Rattle.grid_core.specs.History.{History}
use Rattle.grid_configured.specs.declared.network.ConfiguredNetwork.{ConfiguredNetwork}
use Rattle.grid_configured.specs.Checks.{IsTranslatable}
use Rattle.grid_configured.specs.Translation.{translated}
use Rattle.grid_configured.specs.Histories.{ConfiguredHistory, ArePlain}

-- of a network, and the history of its node/breaker form
abbrev pub history_of : ConfiguredNetwork → History → ConfiguredHistory
history_of network world = record { network = network; workers = world.workers; steps = world.steps }

-- the world runs the node/breaker form, and each step was one of the eight commands, with plain ids
pub record IsConfiguredWorld (network : ConfiguredNetwork) (world : History) : Type 0 where
  pub translatable : IsTranslatable network
  pub origin : world.origin ≡ translated network
  pub plain : ArePlain world.steps

-- how many buses the level at a place has
unfoldable pub bus_count : ConfiguredNetwork → ℕ → ℕ
bus_count network place = elim (slice_get network.levels place) [ None ↦ 0 | Some l ↦ length l.buses ]

-- a bus stands there
unfoldable pub is_bus_site : ConfiguredNetwork → Option Site → Bool
is_bus_site network None = false
is_bus_site network (Some s) = nat_lt s.node (bus_count network s.level)
