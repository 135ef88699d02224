-- What a request leaves of a structure.
use Rattle.std.specs.Prelude.{Result, Ok, Err}
use Rattle.grid_structure.specs.declared.EditFault.{EditFault}
use Rattle.grid_structure.specs.Network.{Network}
use Rattle.grid_structure.specs.Editing.{apply}
use Rattle.grid_requests.specs.declared.request.Request.{Request}
use Rattle.grid_requests.specs.declared.request.Request.TheVariants as requests

-- the structure that an edit makes, or the one before it where it is refused
unfoldable pub changed_or : Network → Result Network EditFault → Network
changed_or net (Ok after) = after
changed_or net (Err fault) = net

unfoldable pub structure_after : Network → Request → Network
structure_after net (requests.Change edit) = changed_or net (apply net edit)
structure_after net other = net
