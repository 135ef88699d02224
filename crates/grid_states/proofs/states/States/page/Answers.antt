use Rattle.std.proofs.Common.{arith}
use Rattle.grid_states.proofs.PageOrder.{levels_are, key_in, within, page_is}
use Rattle.grid_states.proofs.states.States.page.Goals as goal

pub key-requires : goal.key-requires
key-requires c = omega (arith, c.requires, levels_are _ _ _ _ _ c.self.view_is)

pub get-requires : goal.get-requires
get-requires c = within (key_in _ _ _ _ _ _ _ c.self.invariant c.self.view_is c.requires c.key.ensures)

pub returns : goal.returns
returns c = page_is (key_in _ _ _ _ _ _ _ c.self.invariant c.self.view_is c.requires c.key.ensures) c.get.result.now c.get.ensures
