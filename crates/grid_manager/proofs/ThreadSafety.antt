-- What stands behind the lock may go to another thread, and a manager may be shared.
use denote.RattleType.{RattleType}
use denote.Struct.Struct.{Struct}
use denote.Struct.Declared.{fields, shape}
use denote.Param.Send.{IsSend, IsSync, AllSend, AllSync, recorded_send, struct_send, recorded_sync, struct_sync, sendable}
use Rattle.std.proofs.Crossing.{crosses}
use Rattle.std.proofs.Crossing as heap
use Rattle.std.specs.contracts.sync.Mutex as mutex
use Rattle.atomic_table.proofs.shared.Seat.TheSendSync as token
use Rattle.atomic_table.proofs.owned.Table.TheSendSync as table
use Rattle.std.specs.contracts.alloc.Global as global
use Rattle.std.specs.contracts.impls.GlobalAllocator.TheImpl as allocator
use Rattle.grid_board.specs.contracts.board.Board as board_type
use Rattle.grid_board.proofs.ThreadSafety.{send as board}
use Rattle.grid_bench.specs.contracts.bench.Bench as bench_type
use Rattle.grid_bench.proofs.bench.Bench.TheSendSync.{the_send as bench}
use Rattle.grid_manager.specs.contracts.view.View as view
use Rattle.grid_manager.specs.contracts.rule.Law as law
use Rattle.grid_manager.specs.contracts.rule.LawTableRuleUnitViewBoard.TheImpl as rule
use Rattle.grid_manager.specs.declared.naming.Named.{Ghosts}
use Rattle.grid_manager.specs.contracts.locked.Locked as locked
use Rattle.grid_manager.specs.contracts.locked.Locked.TheInside as inside
use Rattle.grid_manager.specs.contracts.manager.Manager as manager

all_send : (N : RattleType) (g : Ghosts N.Denot) → AllSend (fields (inside.the_type N g))
all_send N g = (board, (token.the_send denote.Builtin.unit _ (search sendable), (search sendable, tt)))

inside_send : (N : RattleType) (g : Ghosts N.Denot) → IsSend (inside.the_row N g)
inside_send N g = recorded_send (Struct (shape (inside.the_type N g))) (inside.the_type N g).D (inside.the_type N g).to (inside.the_type N g).to_one (struct_send (shape (inside.the_type N g)) (all_send N g))

pub locked_send : (N : RattleType) (g : Ghosts N.Denot) → IsSend (locked.the_row N g)
locked_send N g = record { owned = λ d vs x. ((inside_send N g).owned x.0 vs, tt); leaving = λ k d w. tt }

mutex_sync : (T : RattleType) → IsSend T → IsSync (mutex.the_row T)
mutex_sync T s = search (crosses, sendable)

all_sync : (N : RattleType) (g : Ghosts N.Denot) → AllSync (fields (manager.the_type N g))
all_sync N g = (mutex_sync (locked.the_row N g) (locked_send N g), (heap.Vec-sync (mutex.the_row bench_type.the_row) (mutex_sync bench_type.the_row bench), (table.the_field_sync denote.Builtin.unit view.the_row board_type.the_row law.the_row global.the_row rule.ghosts allocator.ghosts (search sendable) heap.send heap.sync heap.frees, tt)))

pub manager_sync : (N : RattleType) (g : Ghosts N.Denot) → IsSync (manager.the_row N g)
manager_sync N g = recorded_sync (Struct (shape (manager.the_type N g))) (manager.the_type N g).D (manager.the_type N g).to (manager.the_type N g).to_one (struct_sync (shape (manager.the_type N g)) (all_sync N g))
