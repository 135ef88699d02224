-- A command that was read keeps the rule that ids and numbers keep where they are read.
use Rattle.std.proofs.Common.{◌≡◌, ℕ, ℤ, pos, false, List, ◌∷◌, ◌++◌, Option, Some, None, Result, Ok, Err, refl, subst}
use Rattle.std.specs.Prelude.{codes, IfSome}
use Rattle.std.specs.List.{AllByRecursion}
use Rattle.grid_structure.specs.declared.Branch.{Branch}
use Rattle.grid_structure.specs.declared.Edit.{Edit}
use Rattle.grid_structure.specs.declared.Edit.TheVariants as edits
use Rattle.grid_requests.specs.declared.request.Request.{Request}
use Rattle.grid_requests.specs.declared.request.Request.TheVariants as requests
use Rattle.grid_requests.specs.RequestParts.{given_number, shape_ids, shape_numbers}
use Rattle.grid_json.specs.declared.fault.Fault.{Fault}
use Rattle.grid_json.specs.declared.format.Format.{Format}
use Rattle.grid_json.specs.declared.kinds.BranchKind.{BranchKind}
use Rattle.grid_json.specs.declared.kinds.BranchKind.TheVariants as branches
use Rattle.grid_json.specs.declared.command.EditVerb.{EditVerb}
use Rattle.grid_json.specs.declared.command.EditVerb.TheVariants as edit_verbs
use Rattle.grid_json.specs.declared.command.Verb.{Verb}
use Rattle.grid_json.specs.declared.command.Verb.TheVariants as verbs
use Rattle.grid_json.specs.Reading.{whole_at, flag_at, id_at, member_at, member_or, optional_at, only_at, object_at}
use Rattle.grid_json.specs.Kinds.{switch_kind_at, injection_kind_at, branch_kind_at}
use Rattle.grid_json.specs.Network.{two_at, three_at, end_at, item_names, item_at}
use Rattle.grid_json.specs.Command.{verb_at, add_level_at, add_busbar_at, add_switch_at, add_internal_at, remove_internal_at, add_injection_at, line_of, two_windings_of, three_windings_of, branch_names, shape_at, add_branch_at, changed, clone_at, retain_at, set_power_at, sided_at, named_at, edit_at, request_at, plain_names, command_at}
use Rattle.grid_json.proofs.Results.{bound}
use Rattle.grid_reading_back.proofs.Networks.{EndKeeps, EditKeeps, RequestKeeps}
use Rattle.grid_reading_back.proofs.Legible.{Reads, member_reads, either_reads, optional_reads}
use Rattle.grid_reading_back.proofs.Options.{same_read}
use Rattle.grid_reading_back.proofs.Drafts.{id_of, number_of, BothKeep, AllKeep, two_read, three_read, end_read, item_read}

module _ (T : List ℕ → Type 0) (P : List ℕ → Type 0) (Q : ℤ → Type 0) (ids_read : Reads T P id_at) (numbers_read : Reads T Q whole_at) where
  id_at_name : (name : List ℕ) → Reads T P (member_at id_at name)
  id_at_name = id_of T P Q ids_read numbers_read

  number_at_name : (name : List ℕ) → Reads T Q (member_at whole_at name)
  number_at_name = number_of T P Q ids_read numbers_read

  -- a value made of one id
  named_read : {A : Type 0} (R : A → Type 0) (name : List ℕ) (made : List ℕ → A) → ((id : List ℕ) → P id → R (made id)) → Reads T R (named_at name made)
  unfolding named_at
  named_read R name made keeps d x fine is =
      let a = bound (member_at id_at name d) _ x is in
      let same : made a.0 ≡ x = same_read (made a.0) x a.2 in
      subst R same (keeps a.0 (id_at_name name d a.0 fine a.1))

  -- ---- edits

  given_numbers : (low high : Option ℤ) → IfSome low Q → IfSome high Q → AllByRecursion Q (given_number low ++ given_number high)
  given_numbers None None low high = tt
  given_numbers None (Some z) low high = (high, tt)
  given_numbers (Some y) None low high = (low, tt)
  given_numbers (Some y) (Some z) low high = (low, (high, tt))

  add_level_read : Reads T (EditKeeps P Q) add_level_at
  unfolding add_level_at
  add_level_read d x fine is =
      let a = bound (member_at id_at (codes "id") d) _ x is in
      let b = bound (member_at id_at (codes "substation") d) _ x a.2 in
      let c = bound (member_at whole_at (codes "nominal_v") d) _ x b.2 in
      let e = bound (optional_at whole_at (codes "low_v") d) _ x c.2 in
      let f = bound (optional_at whole_at (codes "high_v") d) _ x e.2 in
      let made : Edit = edits.AddLevel a.0 b.0 c.0 e.0 f.0 in
      let same : made ≡ x = same_read made x f.2 in
      let limits = given_numbers e.0 f.0 (optional_reads T Q whole_at numbers_read (codes "low_v") d e.0 fine e.1) (optional_reads T Q whole_at numbers_read (codes "high_v") d f.0 fine f.1) in
      let kept : EditKeeps P Q made =
      ((id_at_name (codes "id") d a.0 fine a.1, (id_at_name (codes "substation") d b.0 fine b.1, tt)), (number_at_name (codes "nominal_v") d c.0 fine c.1, limits)) in
      subst (EditKeeps P Q) {x = made} same kept

  add_busbar_read : Reads T (EditKeeps P Q) add_busbar_at
  unfolding add_busbar_at
  add_busbar_read d x fine is =
      let a = bound (member_at id_at (codes "id") d) _ x is in
      let b = bound (member_at id_at (codes "level") d) _ x a.2 in
      let c = bound (member_at whole_at (codes "node") d) _ x b.2 in
      let made : Edit = edits.AddBusbar a.0 b.0 c.0 in
      let same : made ≡ x = same_read made x c.2 in
      let kept : EditKeeps P Q made = ((id_at_name (codes "id") d a.0 fine a.1, (id_at_name (codes "level") d b.0 fine b.1, tt)), (number_at_name (codes "node") d c.0 fine c.1, tt)) in
      subst (EditKeeps P Q) {x = made} same kept

  add_switch_read : (format : Format) → Reads T (EditKeeps P Q) (add_switch_at format)
  unfolding add_switch_at
  add_switch_read format d x fine is =
      let a = bound (member_at id_at (codes "id") d) _ x is in
      let b = bound (member_at id_at (codes "level") d) _ x a.2 in
      let c = bound (member_at (switch_kind_at format) (codes "kind") d) _ x b.2 in
      let e = bound (member_at whole_at (codes "node1") d) _ x c.2 in
      let f = bound (member_at whole_at (codes "node2") d) _ x e.2 in
      let g = bound (member_or false flag_at (codes "open") d) _ x f.2 in
      let h = bound (member_or false flag_at (codes "retained") d) _ x g.2 in
      let i = bound (member_or false flag_at (codes "fictitious") d) _ x h.2 in
      let made : Edit = edits.AddSwitch a.0 b.0 c.0 e.0 f.0 g.0 h.0 i.0 in
      let same : made ≡ x = same_read made x i.2 in
      let kept : EditKeeps P Q made =
      ((id_at_name (codes "id") d a.0 fine a.1, (id_at_name (codes "level") d b.0 fine b.1, tt)), (number_at_name (codes "node1") d e.0 fine e.1, (number_at_name (codes "node2") d f.0 fine f.1, tt))) in
      subst (EditKeeps P Q) {x = made} same kept

  add_internal_read : Reads T (EditKeeps P Q) add_internal_at
  unfolding add_internal_at
  add_internal_read d x fine is =
      let a = bound (member_at id_at (codes "level") d) _ x is in
      let b = bound (member_at whole_at (codes "node1") d) _ x a.2 in
      let c = bound (member_at whole_at (codes "node2") d) _ x b.2 in
      let made : Edit = edits.AddInternal a.0 b.0 c.0 in
      let same : made ≡ x = same_read made x c.2 in
      let kept : EditKeeps P Q made = ((id_at_name (codes "level") d a.0 fine a.1, tt), (number_at_name (codes "node1") d b.0 fine b.1, (number_at_name (codes "node2") d c.0 fine c.1, tt))) in
      subst (EditKeeps P Q) {x = made} same kept

  remove_internal_read : Reads T (EditKeeps P Q) remove_internal_at
  unfolding remove_internal_at
  remove_internal_read d x fine is =
      let a = bound (member_at id_at (codes "level") d) _ x is in
      let b = bound (member_at whole_at (codes "node1") d) _ x a.2 in
      let c = bound (member_at whole_at (codes "node2") d) _ x b.2 in
      let made : Edit = edits.RemoveInternal a.0 b.0 c.0 in
      let same : made ≡ x = same_read made x c.2 in
      let kept : EditKeeps P Q made = ((id_at_name (codes "level") d a.0 fine a.1, tt), (number_at_name (codes "node1") d b.0 fine b.1, (number_at_name (codes "node2") d c.0 fine c.1, tt))) in
      subst (EditKeeps P Q) {x = made} same kept

  add_injection_read : (format : Format) → Reads T (EditKeeps P Q) (add_injection_at format)
  unfolding add_injection_at
  add_injection_read format d x fine is =
      let k = bound (member_at (injection_kind_at format) (codes "kind") d) _ x is in
      let o = bound (only_at (codes "do" ∷ codes "kind" ∷ codes "id" ∷ codes "level" ∷ codes "node" ∷ item_names k.0) d) _ x k.2 in
      let a = bound (member_at id_at (codes "id") d) _ x o.2 in
      let b = bound (member_at id_at (codes "level") d) _ x a.2 in
      let c = bound (member_at whole_at (codes "node") d) _ x b.2 in
      let e = bound (item_at k.0 d) _ x c.2 in
      let made : Edit = edits.AddInjection a.0 b.0 c.0 e.0 in
      let same : made ≡ x = same_read made x e.2 in
      let kept : EditKeeps P Q made =
      ((id_at_name (codes "id") d a.0 fine a.1, (id_at_name (codes "level") d b.0 fine b.1, tt)), (number_at_name (codes "node") d c.0 fine c.1, item_read T P Q ids_read numbers_read k.0 d e.0 fine e.1)) in
      subst (EditKeeps P Q) {x = made} same kept

  abbrev ShapeKeeps : Branch → Type 0
  ShapeKeeps shape = AllByRecursion P (shape_ids shape) × AllByRecursion Q (shape_numbers shape)

  line_shape : Reads T ShapeKeeps (shape_at branches.Line)
  unfolding shape_at
  line_shape d x fine is =
      let a = bound (member_at (two_at end_at) (codes "ends") d) _ x is in
      let made : Branch = line_of a.0 in
      let same : made ≡ x = same_read made x a.2 in
      let ends = member_reads T (BothKeep (EndKeeps P Q)) (two_at end_at) (two_read T (EndKeeps P Q) end_at (end_read T P Q ids_read numbers_read)) (codes "ends") d a.0 fine a.1 in
      let kept : ShapeKeeps made = ((ends.0.0, (ends.1.0, tt)), (ends.0.1, (ends.1.1, tt))) in
      subst ShapeKeeps {x = made} same kept

  two_windings_shape : Reads T ShapeKeeps (shape_at branches.TwoWindings)
  unfolding shape_at
  two_windings_shape d x fine is =
      let a = bound (member_at (two_at end_at) (codes "ends") d) _ x is in
      let b = bound (member_at id_at (codes "substation") d) _ x a.2 in
      let c = bound (member_at (two_at whole_at) (codes "rated_u") d) _ x b.2 in
      let made : Branch = two_windings_of b.0 a.0 c.0 in
      let same : made ≡ x = same_read made x c.2 in
      let ends = member_reads T (BothKeep (EndKeeps P Q)) (two_at end_at) (two_read T (EndKeeps P Q) end_at (end_read T P Q ids_read numbers_read)) (codes "ends") d a.0 fine a.1 in
      let rated = member_reads T (BothKeep Q) (two_at whole_at) (two_read T Q whole_at numbers_read) (codes "rated_u") d c.0 fine c.1 in
      let kept : ShapeKeeps made = ((id_at_name (codes "substation") d b.0 fine b.1, (ends.0.0, (ends.1.0, tt))), (ends.0.1, (ends.1.1, (rated.0, (rated.1, tt))))) in
      subst ShapeKeeps {x = made} same kept

  three_windings_shape : Reads T ShapeKeeps (shape_at branches.ThreeWindings)
  unfolding shape_at
  three_windings_shape d x fine is =
      let a = bound (member_at (three_at end_at) (codes "ends") d) _ x is in
      let b = bound (member_at id_at (codes "substation") d) _ x a.2 in
      let c = bound (member_at (three_at whole_at) (codes "rated_u") d) _ x b.2 in
      let made : Branch = three_windings_of b.0 a.0 c.0 in
      let same : made ≡ x = same_read made x c.2 in
      let ends = member_reads T (AllKeep (EndKeeps P Q)) (three_at end_at) (three_read T (EndKeeps P Q) end_at (end_read T P Q ids_read numbers_read)) (codes "ends") d a.0 fine a.1 in
      let rated = member_reads T (AllKeep Q) (three_at whole_at) (three_read T Q whole_at numbers_read) (codes "rated_u") d c.0 fine c.1 in
      let kept : ShapeKeeps made =
      ((id_at_name (codes "substation") d b.0 fine b.1, (ends.0.0, (ends.1.0, (ends.2.0, tt)))), (ends.0.1, (ends.1.1, (ends.2.1, (rated.0, (rated.1, (rated.2, tt))))))) in
      subst ShapeKeeps {x = made} same kept

  shape_read : (kind : BranchKind) → Reads T ShapeKeeps (shape_at kind)
  shape_read branches.Line d x fine is = line_shape d x fine is
  shape_read branches.TwoWindings d x fine is = two_windings_shape d x fine is
  shape_read branches.ThreeWindings d x fine is = three_windings_shape d x fine is

  add_branch_read : (format : Format) → Reads T (EditKeeps P Q) (add_branch_at format)
  unfolding add_branch_at
  add_branch_read format d x fine is =
      let k = bound (member_at (branch_kind_at format) (codes "kind") d) _ x is in
      let o = bound (only_at (branch_names k.0) d) _ x k.2 in
      let a = bound (member_at id_at (codes "id") d) _ x o.2 in
      let b = bound (shape_at k.0 d) _ x a.2 in
      let made : Edit = edits.AddBranch a.0 b.0 in
      let same : made ≡ x = same_read made x b.2 in
      let shape = shape_read k.0 d b.0 fine b.1 in
      let kept : EditKeeps P Q made = ((id_at_name (codes "id") d a.0 fine a.1, shape.0), shape.1) in
      subst (EditKeeps P Q) {x = made} same kept

  edit_read : (format : Format) (verb : EditVerb) → Reads T (EditKeeps P Q) (edit_at format verb)
  unfolding edit_at
  edit_read format edit_verbs.AddSubstation = named_read (EditKeeps P Q) (codes "id") edits.AddSubstation (λ id valid. ((valid, tt), tt))
  edit_read format edit_verbs.AddLevel = add_level_read
  edit_read format edit_verbs.AddBusbar = add_busbar_read
  edit_read format edit_verbs.AddSwitch = add_switch_read format
  edit_read format edit_verbs.RemoveSwitch = named_read (EditKeeps P Q) (codes "id") edits.RemoveSwitch (λ id valid. ((valid, tt), tt))
  edit_read format edit_verbs.RemoveEquipment = named_read (EditKeeps P Q) (codes "id") edits.RemoveEquipment (λ id valid. ((valid, tt), tt))
  edit_read format edit_verbs.AddInternal = add_internal_read
  edit_read format edit_verbs.RemoveInternal = remove_internal_read
  edit_read format edit_verbs.AddInjection = add_injection_read format
  edit_read format edit_verbs.AddBranch = add_branch_read format

  -- ---- commands

  retain_read : Reads T (RequestKeeps P Q) retain_at
  unfolding retain_at
  retain_read d x fine is =
      let a = bound (member_at id_at (codes "switch") d) _ x is in
      let b = bound (member_at flag_at (codes "retained") d) _ x a.2 in
      let made : Request = requests.RetainSwitch a.0 b.0 in
      let same : made ≡ x = same_read made x b.2 in
      let kept : RequestKeeps P Q made = ((id_at_name (codes "switch") d a.0 fine a.1, tt), tt) in
      subst (RequestKeeps P Q) {x = made} same kept

  set_power_read : Reads T (RequestKeeps P Q) set_power_at
  unfolding set_power_at
  set_power_read d x fine is =
      let a = bound (member_at id_at (codes "equipment") d) _ x is in
      let b = bound (member_at whole_at (codes "watts") d) _ x a.2 in
      let made : Request = requests.SetPower a.0 b.0 in
      let same : made ≡ x = same_read made x b.2 in
      let kept : RequestKeeps P Q made = ((id_at_name (codes "equipment") d a.0 fine a.1, tt), (number_at_name (codes "watts") d b.0 fine b.1, tt)) in
      subst (RequestKeeps P Q) {x = made} same kept

  clone_read : Reads T (RequestKeeps P Q) clone_at
  unfolding clone_at
  clone_read d x fine is =
      let a = bound (member_at id_at (codes "from") d) _ x is in
      let b = bound (member_at id_at (codes "to") d) _ x a.2 in
      let c = bound (member_or false flag_at (codes "overwrite") d) _ x b.2 in
      let made : Request = requests.CloneVariant a.0 b.0 c.0 in
      let same : made ≡ x = same_read made x c.2 in
      let kept : RequestKeeps P Q made = ((id_at_name (codes "from") d a.0 fine a.1, (id_at_name (codes "to") d b.0 fine b.1, tt)), tt) in
      subst (RequestKeeps P Q) {x = made} same kept

  -- where a side is absent, it is 1
  sided_read : (made : List ℕ → ℤ → Request) → ((id : List ℕ) (side : ℤ) → P id → Q side → RequestKeeps P Q (made id side)) → Q (pos 1) → Reads T (RequestKeeps P Q) (sided_at made)
  unfolding sided_at
  sided_read made keeps first d x fine is =
      let a = bound (member_at id_at (codes "equipment") d) _ x is in
      let b = bound (member_or (pos 1) whole_at (codes "side") d) _ x a.2 in
      let same : made a.0 b.0 ≡ x = same_read (made a.0 b.0) x b.2 in
      subst (RequestKeeps P Q) same (keeps a.0 b.0 (id_at_name (codes "equipment") d a.0 fine a.1) (either_reads T Q whole_at numbers_read (pos 1) (codes "side") first d b.0 fine b.1))

  change_read : (read : Result Edit Fault) (x : Request) → changed read ≡ Ok x → ((edit : Edit) → read ≡ Ok edit → EditKeeps P Q edit) → RequestKeeps P Q x
  change_read (Ok edit) x is keeps = let same : requests.Change edit ≡ x = same_read (requests.Change edit) x is in subst (RequestKeeps P Q) same (keeps edit refl)
  change_read (Err fault) x is keeps = cc

  request_read : Q (pos 1) → (format : Format) (verb : Verb) → Reads T (RequestKeeps P Q) (request_at format verb)
  unfolding request_at
  request_read first format verbs.Use d x fine is = named_read (RequestKeeps P Q) (codes "variant") requests.UseVariant (λ id valid. ((valid, tt), tt)) d x fine is
  request_read first format verbs.Remove d x fine is = named_read (RequestKeeps P Q) (codes "variant") requests.RemoveVariant (λ id valid. ((valid, tt), tt)) d x fine is
  request_read first format verbs.Open d x fine is = named_read (RequestKeeps P Q) (codes "switch") requests.OpenSwitch (λ id valid. ((valid, tt), tt)) d x fine is
  request_read first format verbs.Close d x fine is = named_read (RequestKeeps P Q) (codes "switch") requests.CloseSwitch (λ id valid. ((valid, tt), tt)) d x fine is
  request_read first format verbs.Retain d x fine is = retain_read d x fine is
  request_read first format verbs.SetPower d x fine is = set_power_read d x fine is
  request_read first format verbs.Totals d x fine is = let same : requests.Totals ≡ x = same_read requests.Totals x is in subst (RequestKeeps P Q) same (tt, tt)
  request_read first format verbs.Connect d x fine is = sided_read requests.Connect (λ id side valid fits. ((valid, tt), (fits, tt))) first d x fine is
  request_read first format verbs.Disconnect d x fine is = sided_read requests.Disconnect (λ id side valid fits. ((valid, tt), (fits, tt))) first d x fine is
  request_read first format verbs.BusBreakerView d x fine is = named_read (RequestKeeps P Q) (codes "level") requests.BusBreakerView (λ id valid. ((valid, tt), tt)) d x fine is
  request_read first format verbs.BusView d x fine is = named_read (RequestKeeps P Q) (codes "level") requests.BusView (λ id valid. ((valid, tt), tt)) d x fine is
  request_read first format verbs.Components d x fine is = named_read (RequestKeeps P Q) (codes "level") requests.Components (λ id valid. ((valid, tt), tt)) d x fine is
  request_read first format verbs.Clone d x fine is = clone_read d x fine is
  request_read first format (verbs.Change edit) d x fine is = change_read (edit_at format edit d) x is (λ e h. edit_read format edit d e fine h)

  pub command_read : Q (pos 1) → (format : Format) → Reads T (RequestKeeps P Q) (command_at format)
  unfolding command_at
  command_read first format d x fine is =
      let o = bound (object_at d) _ x is in
      let v = bound (member_at (verb_at format) (codes "do") d) _ x o.2 in
      let n = bound (plain_names v.0 d) _ x v.2 in
      request_read first format v.0 d x fine n.2
