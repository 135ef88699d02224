-- Commands that are read back as they were written: their ids are ids, and their numbers fit.
use Rattle.std.specs.Prelude.{◌≡◌, suc, nat_le, false, All}
use Rattle.grid_requests.specs.declared.request.Request.{Request}
use Rattle.grid_requests.specs.RequestParts.{request_ids, request_numbers}
use Rattle.grid_json.specs.declared.format.Format.{Format}
use Rattle.grid_json.specs.Formats.{number_of}
use Rattle.grid_print.specs.Readable.{IsId, IsWhole}
use Rattle.grid_print.specs.Formats.{first_format}

abbrev pub IsReadableRequest : Request → Type 0
IsReadableRequest request = All IsId (request_ids request) × All IsWhole (request_numbers request)

-- no word of the command came with a later format than this one
abbrev pub IsKnownIn : Format → Request → Type 0
IsKnownIn format request = nat_le (suc (number_of format)) (first_format request) ≡ false
