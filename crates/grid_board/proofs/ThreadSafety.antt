-- A board may go to another thread.
use denote.Struct.Struct.{Struct}
use denote.Struct.Declared.{fields, shape}
use denote.Param.Send.{IsSend, AllSend, recorded_send, struct_send, sendable}
use Rattle.grid_core.proofs.ThreadSafety.{send as world}
use Rattle.grid_board.specs.contracts.board.Board.{the_row}
use Rattle.grid_board.specs.contracts.board.Board.TheInside as inside

all_send : AllSend (fields inside.the_type)
all_send = (world, (search sendable, tt))

inside_send : IsSend inside.the_row
inside_send = recorded_send (Struct (shape inside.the_type)) inside.the_type.D inside.the_type.to inside.the_type.to_one (struct_send (shape inside.the_type) all_send)

pub send : IsSend the_row
send = record { owned = λ d vs x. (inside_send.owned x.0 vs, tt); leaving = λ k d w. tt }
