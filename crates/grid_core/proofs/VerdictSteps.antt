-- A verdict that is carried out is the machine's own step.
use Rattle.std.proofs.Common.{◌≡◌, refl, sym, ap, ◌∙◌, subst, ℕ, Bool, true, false, List, [], Option, Some}
use Rattle.std.specs.Prelude.{slice_get, ◌==◌}
use Rattle.grid_level.specs.VoltageLevel.{VoltageLevel}
use Rattle.grid_structure.specs.Network.{Network}
use Rattle.grid_structure.specs.Sites.{levels}
use Rattle.grid_states.specs.Rows.{Rows, with_opened_all}
use Rattle.grid_events.specs.declared.event.Event.{Event}
use Rattle.grid_slots.specs.Variant.{Variant}
use Rattle.grid_slots.specs.Variants.{rows_at, changed, IsTable}
use Rattle.grid_requests.specs.declared.request.Request.{Request}
use Rattle.grid_requests.specs.declared.request.Request.TheVariants as requests
use Rattle.grid_core.specs.declared.reply.Reply.{Reply}
use Rattle.grid_core.specs.declared.machine.Machine.{Machine}
use Rattle.grid_core.specs.declared.machine.Made.{Made}
use Rattle.grid_core.specs.declared.verdict.Verdict.{Verdict}
use Rattle.grid_core.specs.declared.verdict.Verdict.TheVariants as verdicts
use Rattle.grid_powers.specs.Listed.{Listed}
use Rattle.grid_watts.specs.Nodes.{listed_rows}
use Rattle.grid_core.specs.Solo.{State, solo, state_seen, level_at, switch_names, with_all_opened}
use Rattle.grid_core.specs.History.{is_switching}
use Rattle.grid_core.specs.Replies.{state_of, events_of, updates}
use Rattle.grid_core.specs.Fitting.{RowsFit, AreListed}
use Rattle.grid_core.specs.Made.{made_of}
use Rattle.grid_core.specs.Machines.{IsMachine, StandsAt, WorksOn}
use Rattle.grid_core.specs.Verdicts.{puts, put_reply, names_of, step_of, IsVerdict, IsFound, Decides, DecidesSome, CarriesOut}
use Rattle.grid_core.proofs.RequestKinds.{asks_variant}
use Rattle.grid_core.proofs.VariantSteps.{stays_after, moves_after}

-- what is told of switches that are put into a position
told : (v : List ℕ) (r : Request) (opened : Bool) (names : List (List ℕ)) → puts r opened ≡ true → (events_of v r (put_reply opened names) ≡ updates v opened names) × (is_switching r ≡ true)
unfolding puts put_reply events_of is_switching
told v (requests.Connect id side) false names h = (refl, refl)
told v (requests.Disconnect id side) true names h = (refl, refl)
told v other opened names h = cc

pub decided_machine : (m : Machine) (v : List ℕ) (r : Request) (verdict : Verdict) → DecidesSome m v r verdict → IsMachine m
decided_machine m v r verdict d = (d.0, (d.1.0, d.1.1.held))

-- what is found at a variant's slot is so of the state that its lineage left
module _ (m : Machine) (slot : ℕ) (v : List ℕ) (at : StandsAt m v slot) (rows : Rows) (is : rows ≡ rows_at m.slots slot) where
  pub found_decides : (r : Request) (verdict : Verdict) → ((powers : Listed) → rows.watts ≡ listed_rows powers m.structure → IsFound (state_seen m.structure rows.opened rows.retained powers) r verdict) → Decides m v r verdict
  found_decides r verdict found origin steps h =
      let s = at.1 origin steps h in
      let now = state_of origin steps v in
      let same : state_seen m.structure rows.opened rows.retained now.powers ≡ now =
      ap (λ (n : Network). state_seen n rows.opened rows.retained now.powers) s.structure_is ∙ ap (λ (r : Rows). state_seen now.structure r.opened r.retained now.powers) (is ∙ s.rows) in
      record {
        held = h;
        alive = s.alive;
        is = subst (λ (z : State). IsVerdict z v r verdict) same
            (found now.powers (ap (λ (r : Rows). r.watts) (is ∙ s.rows) ∙ ap (listed_rows now.powers) (sym s.structure_is)) v);
      }

  pub rows_fit : IsMachine m → (RowsFit m.structure rows.opened) × (RowsFit m.structure rows.retained)
  rows_fit h =
      let s = at.1 h.0 h.1.0 h.1.1 in
      subst (λ (r : Rows). (RowsFit m.structure r.opened) × (RowsFit m.structure r.retained)) (sym (is ∙ s.rows))
      (subst (λ (n : Network). (RowsFit n (state_of h.0 h.1.0 v).opened) × (RowsFit n (state_of h.0 h.1.0 v).retained)) (sym s.structure_is) (s.fits.opened, s.fits.retained))

  pub rows_listed : IsMachine m → AreListed m.structure rows.watts
  rows_listed h =
      let s = at.1 h.0 h.1.0 h.1.1 in
      let powers = (state_of h.0 h.1.0 v).powers in
      (powers, ap (λ (r : Rows). r.watts) (is ∙ s.rows) ∙ ap (listed_rows powers) (sym s.structure_is))

module _ (m : Machine) (worker slot : ℕ) (v : List ℕ) (r : Request) (works : WorksOn m worker v) (at : StandsAt m v slot) where
  pub stays_so : (rep : Reply) (made : Made) → made ≡ made_of rep [] → CarriesOut m m worker v r (verdicts.Stays rep) made
  unfolding step_of
  stays_so rep made is origin before d = stays_after origin before m worker slot v r rep made (asks_variant r d.is.asking) works at d.held d.is.made d.is.fits is

  module _ (level : ℕ) (places : List ℕ) (opened : Bool) where
    pub moves_so : (found : VoltageLevel) (names : List (List ℕ)) (es : List Event) (rep : Reply) (made : Made) (variants : List Variant) → IsTable m.slots
        → slice_get (levels m.structure) level ≡ Some found → names ≡ switch_names found places → es ≡ updates v opened names → rep ≡ put_reply opened names → made ≡ made_of rep es
        → variants ≡ changed (λ x. x.slot == slot) (λ r. with_opened_all r level places opened) m.slots → CarriesOut m (record m { slots = variants }) worker v r (verdicts.Switches level places opened) made
    unfolding step_of names_of level_at with_all_opened with_opened_all
    moves_so found names es rep made variants table there named tells replied done gone origin before d =
        let s = at.1 origin before d.held in
        let now = state_of origin before v in
        let it = told v r opened names d.is.fits.0 in
        let stands : level_at now.structure level ≡ Some found = ap (λ (n : Network). slice_get (levels n) level) (sym s.structure_is) ∙ there in
        let solo_is : solo now r ≡ (with_all_opened now level places opened, rep) =
        d.is.made ∙ ap (λ (o : Option VoltageLevel). (with_all_opened now level places opened, put_reply opened (names_of o places))) stands
        ∙ ap (λ (ns : List (List ℕ)). (with_all_opened now level places opened, put_reply opened ns)) (sym named)
        ∙ ap (λ (z : Reply). (with_all_opened now level places opened, z)) (sym replied) in
        moves_after origin before m worker slot v r rep made (asks_variant r d.is.asking) works at d.held es (λ r. with_opened_all r level places opened) (with_all_opened now level places opened) variants it.1 table solo_is refl s.listing
        (ap (events_of v r) replied ∙ it.0 ∙ sym tells) done gone
