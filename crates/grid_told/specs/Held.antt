-- What the types of parts hold: ids are UTF-8, numbers have 64 bits, and sums 128.
use Rattle.std.specs.Prelude.{ℕ, ℤ, pos, negsuc, ◌^◌, ◌<◌, IsUtf8, All}
use Rattle.grid_kinds.specs.declared.CheckFault.{CheckFault}
use Rattle.grid_kinds.specs.declared.CheckFault.TheVariants as checks
use Rattle.grid_level.specs.declared.Terminal.{Terminal}
use Rattle.grid_busview.specs.declared.ViewBus.{ViewBus}
use Rattle.grid_busview.specs.declared.BusView.{BusView}
use Rattle.grid_busbreaker.specs.declared.Bus.{Bus}
use Rattle.grid_busbreaker.specs.declared.ViewSwitch.{ViewSwitch}
use Rattle.grid_busbreaker.specs.declared.BusBreakerView.{BusBreakerView}
use Rattle.grid_events.specs.declared.event.Event.{Event}
use Rattle.grid_events.specs.declared.event.Event.TheVariants as events

-- a number of 64 bits without a sign
abbrev pub IsUnsigned : ℕ → Type 0
IsUnsigned n = n < 2 ^ 64

-- one with a sign
abbrev pub IsSigned : ℤ → Type 0
IsSigned (pos n) = n < 2 ^ 63
IsSigned (negsuc n) = n < 2 ^ 63

-- a sum of 128 bits with a sign
abbrev pub IsSum : ℤ → Type 0
IsSum (pos n) = n < 2 ^ 127
IsSum (negsuc n) = n < 2 ^ 127

-- ---- views

pub record IsTerminal (t : Terminal) : Type 0 where
  pub equipment : IsUtf8 t.equipment
  pub side : IsUnsigned t.side

pub record IsViewBus (b : ViewBus) : Type 0 where
  pub least : IsUnsigned b.least
  pub nodes : All IsUnsigned b.nodes
  pub terminals : All IsTerminal b.terminals
  pub load : IsSum b.load
  pub generation : IsSum b.generation

pub record IsBusView (v : BusView) : Type 0 where
  pub level : IsUtf8 v.level
  pub buses : All IsViewBus v.buses

pub record IsBus (b : Bus) : Type 0 where
  pub least : IsUnsigned b.least
  pub nodes : All IsUnsigned b.nodes
  pub terminals : All IsTerminal b.terminals

pub record IsViewSwitch (s : ViewSwitch) : Type 0 where
  pub id : IsUtf8 s.id
  pub bus1 : IsUnsigned s.bus1
  pub bus2 : IsUnsigned s.bus2

pub record IsBreakerView (v : BusBreakerView) : Type 0 where
  pub level : IsUtf8 v.level
  pub buses : All IsBus v.buses
  pub switches : All IsViewSwitch v.switches

-- ---- events

abbrev pub IsEvent : Event → Type 0
IsEvent (events.Created id) = IsUtf8 id
IsEvent (events.Removed id) = IsUtf8 id
IsEvent (events.Updated variant switch opened) = IsUtf8 variant × IsUtf8 switch
IsEvent (events.VariantCreated from to) = IsUtf8 from × IsUtf8 to
IsEvent (events.VariantOverwritten from to) = IsUtf8 from × IsUtf8 to
IsEvent (events.VariantRemoved name) = IsUtf8 name

-- ---- values of edits

-- a value that may not stand, and the bound that it breaks
abbrev pub IsCheckFault : CheckFault → Type 0
IsCheckFault (checks.NominalNotPositive found bound) = IsSigned found × IsSigned bound
IsCheckFault (checks.VoltageLimits found bound) = IsSigned found × IsSigned bound
IsCheckFault (checks.PowerLimits found bound) = IsSigned found × IsSigned bound
IsCheckFault (checks.Sections found bound) = IsSigned found × IsSigned bound
IsCheckFault (checks.RatedNotPositive found bound) = IsSigned found × IsSigned bound
