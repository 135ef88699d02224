-- The values of commands are readable.
use Rattle.std.proofs.Common.{refl}
use Rattle.std.specs.Prelude.{IsUtf8}
use Rattle.std.specs.List.{AllByRecursion}
use Rattle.grid_requests.specs.declared.request.Request.{Request}
use Rattle.grid_requests.specs.declared.request.Request.TheVariants as requests
use Rattle.grid_requests.specs.RequestParts.{request_ids, request_numbers}
use Rattle.grid_print.specs.Command.{request_value}
use Rattle.grid_print.proofs.Each.{each_of}
use Rattle.grid_told.specs.Held.{IsSigned}
use Rattle.grid_told.specs.Requested.{IsRequest}
use Rattle.grid_told.specs.Shapes.{IsReadable}
use Rattle.grid_told.proofs.Readable.{word_readable, text_readable, flag_readable, whole_readable, object_readable}
use Rattle.grid_told.proofs.Edits.{edit_readable}

parts_readable : (r : Request) → AllByRecursion IsUtf8 (request_ids r) → AllByRecursion IsSigned (request_numbers r) → IsReadable 3 (request_value r)
unfolding request_value
parts_readable (requests.UseVariant name) ids numbers = object_readable 2 _ refl (word_readable 2 _ refl, (text_readable 2 name ids.0, tt))
parts_readable (requests.OpenSwitch id) ids numbers = object_readable 2 _ refl (word_readable 2 _ refl, (text_readable 2 id ids.0, tt))
parts_readable (requests.CloseSwitch id) ids numbers = object_readable 2 _ refl (word_readable 2 _ refl, (text_readable 2 id ids.0, tt))
parts_readable (requests.RetainSwitch id retained) ids numbers = object_readable 2 _ refl (word_readable 2 _ refl, (text_readable 2 id ids.0, (flag_readable 2 retained, tt)))
parts_readable (requests.SetPower id watts) ids numbers = object_readable 2 _ refl (word_readable 2 _ refl, (text_readable 2 id ids.0, (whole_readable 2 watts numbers.0, tt)))
parts_readable requests.Totals ids numbers = object_readable 2 _ refl (word_readable 2 _ refl, tt)
parts_readable (requests.Connect id side) ids numbers = object_readable 2 _ refl (word_readable 2 _ refl, (text_readable 2 id ids.0, (whole_readable 2 side numbers.0, tt)))
parts_readable (requests.Disconnect id side) ids numbers = object_readable 2 _ refl (word_readable 2 _ refl, (text_readable 2 id ids.0, (whole_readable 2 side numbers.0, tt)))
parts_readable (requests.BusBreakerView level) ids numbers = object_readable 2 _ refl (word_readable 2 _ refl, (text_readable 2 level ids.0, tt))
parts_readable (requests.BusView level) ids numbers = object_readable 2 _ refl (word_readable 2 _ refl, (text_readable 2 level ids.0, tt))
parts_readable (requests.Components level) ids numbers = object_readable 2 _ refl (word_readable 2 _ refl, (text_readable 2 level ids.0, tt))
parts_readable (requests.CloneVariant from to overwrite) ids numbers = object_readable 2 _ refl (word_readable 2 _ refl, (text_readable 2 from ids.0, (text_readable 2 to ids.1.0, (flag_readable 2 overwrite, tt))))
parts_readable (requests.RemoveVariant name) ids numbers = object_readable 2 _ refl (word_readable 2 _ refl, (text_readable 2 name ids.0, tt))
parts_readable (requests.Change edit) ids numbers = edit_readable edit ids numbers

pub request_readable : (r : Request) → IsRequest r → IsReadable 3 (request_value r)
request_readable r h = parts_readable r (each_of IsUtf8 (request_ids r) h.0) (each_of IsSigned (request_numbers r) h.1)
