use Rattle.std.proofs.Common.{arith, set}
use Rattle.std.proofs.lemmas.Result.{IfOk-weaker}
use Rattle.grid_states.specs.Rows.{with_page}
use Rattle.grid_states.specs.Order.{rows_of}
use Rattle.grid_states.proofs.PageOrder.{levels_are, key_in, within, page_is, page_set, order_set}
use Rattle.grid_states.proofs.Lent.{same_functions}
use Rattle.grid_states.proofs.states.States.page_mut.Goals as goal

pub key-requires : goal.key-requires
key-requires c = omega (arith, c.requires, levels_are _ _ _ _ _ c.self.view_is)

pub item_mut-requires : goal.item_mut-requires
item_mut-requires c = within (key_in _ _ _ _ _ _ _ c.self.invariant c.self.view_is c.requires c.key.ensures)

pub invariant_of-self-lent : goal.invariant_of-self-lent
invariant_of-self-lent c =
    let key = key_in _ _ _ _ _ _ _ c.self.invariant c.self.view_is c.requires c.key.ensures in
    λ r. (λ w. order_set key w, c.self.invariant)

pub returns : goal.returns
returns c =
    let pages = c.self.inside.pages in
    let order = c.self.inside.order in
    let k = c.key.result in
    let key = key_in _ _ _ _ _ _ _ c.self.invariant c.self.view_is c.requires c.key.ensures in
    let lent = same_functions (λ w. rows_of order (set pages k w) c.self.inside.load c.self.inside.generation) (with_page c.args.self.now c.args.level) (λ w. page_set key w) in (
      (cc),
      record {
        writes_back = tt;
        page = IfOk-weaker c.item_mut.result _ _ (λ page read. page_is key page.now read) c.item_mut.ensures.value;
      },
    )
