-- Plain ids: those that a job with configured buses may have. Ids of other forms are kept for what its translation adds.
use Rattle.std.specs.Prelude.{ℕ, Bool, true, false, ◌&&◌, ◌==◌, not, nat_le, List, length, IsTrue}
use Rattle.std.specs.List.{list_any, list_all}
use Rattle.grid_requests.specs.declared.request.Request.{Request}
use Rattle.grid_requests.specs.declared.request.Request.TheVariants as requests
use Rattle.grid_requests.specs.RequestParts.{request_ids}
use Rattle.grid_json.specs.declared.buses.BusSwitch.{BusSwitch}
use Rattle.grid_json.specs.declared.buses.BusInjection.{BusInjection}
use Rattle.grid_json.specs.declared.buses.BusEnd.{BusEnd}
use Rattle.grid_configured.specs.declared.network.ConfiguredLine.{ConfiguredLine}
use Rattle.grid_configured.specs.declared.network.ConfiguredLevel.{ConfiguredLevel}
use Rattle.grid_configured.specs.declared.network.ConfiguredNetwork.{ConfiguredNetwork}

-- the byte `!`
abbrev pub is_mark : ℕ → Bool
is_mark byte = byte == 33

-- without the byte `!`, and of at most 100 bytes
unfoldable pub is_plain : List ℕ → Bool
is_plain id = not (list_any is_mark id) && nat_le (length id) 100

-- ---- the ids of a network

unfoldable pub switch_plain : BusSwitch → Bool
switch_plain s = is_plain s.id && is_plain s.bus1 && is_plain s.bus2

unfoldable pub item_plain : BusInjection → Bool
item_plain t = is_plain t.id && is_plain t.bus

unfoldable pub end_plain : BusEnd → Bool
end_plain e = is_plain e.level && is_plain e.bus

unfoldable pub line_plain : ConfiguredLine → Bool
line_plain l = is_plain l.id && end_plain l.end1 && end_plain l.end2

unfoldable pub level_plain : ConfiguredLevel → Bool
level_plain l = is_plain l.id && list_all is_plain l.buses && list_all switch_plain l.switches && list_all item_plain l.items

-- all ids that a network has or names, its own among them
unfoldable pub network_plain : ConfiguredNetwork → Bool
network_plain n = is_plain n.id && list_all level_plain n.levels && list_all line_plain n.lines

-- ---- the ids of commands

-- one of the eight commands of a network with configured buses
abbrev pub is_configured : Request → Bool
is_configured (requests.UseVariant name) = true
is_configured (requests.OpenSwitch id) = true
is_configured (requests.CloseSwitch id) = true
is_configured (requests.Connect id side) = true
is_configured (requests.Disconnect id side) = true
is_configured (requests.BusView level) = true
is_configured (requests.CloneVariant from to overwrite) = true
is_configured (requests.RemoveVariant name) = true
is_configured other = false

-- and its ids are plain
unfoldable pub request_plain : Request → Bool
request_plain request = is_configured request && list_all is_plain (request_ids request)

abbrev pub IsConfiguredRequest : Request → Type 0
IsConfiguredRequest request = IsTrue (request_plain request)
