-- A member of another name leaves slots as they are.
use Rattle.std.proofs.Common.{◌≡◌, ℕ, List, [], ◌∷◌, ◌++◌, Bool, true, false, ◌&&◌, ◌||◌, Option, None, Result, refl, sym, ap, ap₂, ◌∙◌}
use Rattle.std.specs.Prelude.{not}
use Rattle.std.specs.Str.{bytes_eq}
use Rattle.std.proofs.lemmas.List.Folds.{list_any-append}
use Rattle.std.proofs.lemmas.Slice.Eq.{bytes_eq-Decides}
use Rattle.serde_json.specs.Data.{Data, Members, put}
use Rattle.grid_value.proofs.MemberLists.{found_at}
use Rattle.grid_json.specs.declared.fault.Fault.{Fault}
use Rattle.grid_json.specs.declared.format.Format.{Format}
use Rattle.grid_json.specs.Reading.{present_or, some_of, knows}
use Rattle.grid_json.specs.Streams.{Holds, disjoint}
use Rattle.grid_json.specs.Slots.{NodeHolds, FlagHolds, KindHolds, PlaceHolds, VoltageHolds, PartHolds, EndHolds, LineHolds, SubstationHolds, NetworkHolds, InjectionKindHolds, PowerHolds, TargetHolds, LimitHolds, SectionHolds, JobHolds}
use Rattle.grid_json.specs.Slots.{node_names, flag_names, kind_names, place_names, voltage_names, part_names, end_names, line_names, substation_names, network_names, injection_kind_names, power_names, target_names, limit_names, section_names, job_names}

-- a member of another name leaves a slot as it is
pub kept : {A : Type 0} {read : Data → Result A Fault} {name : List ℕ} (k : List ℕ) (d : Data) {found : Members}
    {slot : Option A} → Holds read name found slot → bytes_eq k name ≡ false → Holds read name (put k d found) slot
kept {A} {read} {name} k d {found} {slot} held other = record {
  holds = ap (present_or None (λ v. some_of (read v)) name) (found_at name k d found false other) ∙ held.holds;
}

-- a name that is not among these is none of them
pub unlike : (names : List (List ℕ)) (name known : List ℕ) → knows names name ≡ false → knows names known ≡ true
    → bytes_eq name known ≡ false
unlike names name known other is = differs (bytes_eq name known) refl
  where
    differs : (b : Bool) → bytes_eq name known ≡ b → bytes_eq name known ≡ false
    differs false so = so
    differs true so =
        let same : name ≡ known = (bytes_eq-Decides name known).0 so in
        so ∙ sym is ∙ ap (knows names) (sym same) ∙ other

-- a member whose name is not among these leaves a slot of one of these names as it is
pub stays : {A : Type 0} {read : Data → Result A Fault} {slot : Option A} (names : List (List ℕ)) {own : List ℕ}
    (name : List ℕ) (d : Data) {found : Members}
    → knows names name ≡ false → Holds read own found slot → knows names own ≡ true
    → Holds read own (put name d found) slot
stays {A} {read} {slot} names {own} name d {found} other held is = kept name d held (unlike names name own other is)

-- a slot that is alone stays where a member of another name is put
pub lone_kept : {A : Type 0} {read : Data → Result A Fault} {slot : Option A} (own name : List ℕ) (d : Data)
    {found : Members} → knows (own ∷ []) name ≡ false → Holds read own found slot → Holds read own (put name d found) slot
lone_kept {A} {read} {slot} own name d {found} other held =
    stays (own ∷ []) name d other held (ap (λ b. b || false) ((bytes_eq-Decides own own).1 refl))

-- ---- two groups of slots

pub first_unknown : (names others : List (List ℕ)) (name : List ℕ) → knows (names ++ others) name ≡ false
    → knows names name ≡ false
first_unknown names others name none = neither (knows names name) (knows others name)
    (sym (list_any-append (λ known. bytes_eq known name) names others) ∙ none)
  where
    neither : (a b : Bool) → (a || b) ≡ false → a ≡ false
    neither false b is = refl
    neither true b is = is

pub second_unknown : (names others : List (List ℕ)) (name : List ℕ) → knows (names ++ others) name ≡ false
    → knows others name ≡ false
second_unknown names others name none = neither (knows names name) (knows others name)
    (sym (list_any-append (λ known. bytes_eq known name) names others) ∙ none)
  where
    neither : (a b : Bool) → (a || b) ≡ false → b ≡ false
    neither false b is = is
    neither true b is = ap (λ x. x && b) is

pub either_known : (names others : List (List ℕ)) (name : List ℕ) (a b : Bool) → knows names name ≡ a
    → knows others name ≡ b → knows (names ++ others) name ≡ (a || b)
either_known names others name a b is so =
    list_any-append (λ known. bytes_eq known name) names others ∙ ap₂ (λ x y. x || y) is so

-- a name among these is not among the others
pub only_first : (names others : List (List ℕ)) (name : List ℕ) → disjoint names others ≡ true
    → knows names name ≡ true → knows others name ≡ false
only_first [] others name apart is = ap (λ x. not x && knows others name) is
only_first (n ∷ names) others name apart is =
    in_front (bytes_eq n name) refl (knows others n) refl apart is (only_first names others name)
  where
    in_front : (b : Bool) → bytes_eq n name ≡ b → (c : Bool) → knows others n ≡ c
        → (not c && disjoint names others) ≡ true → (b || knows names name) ≡ true
        → (disjoint names others ≡ true → knows names name ≡ true → knows others name ≡ false)
        → knows others name ≡ false
    in_front true same false none apart is rest = ap (knows others) (sym ((bytes_eq-Decides n name).0 same)) ∙ none
    in_front false differs false none apart is rest = rest apart is
    in_front b same true none apart is rest = ap (λ x. not x && knows others name) apart

-- ---- each group of slots

-- slots hold what they held where a member with none of these names is put
abbrev pub Kept : {S : Type 0} → List (List ℕ) → (Format → S → Members → Type 0) → Type 0
Kept {S} names holds =
    (format : Format) (slots : S) (name : List ℕ) (d : Data) (found : Members) → knows names name ≡ false
    → holds format slots found → holds format slots (put name d found)

pub node_kept : Kept node_names NodeHolds
node_kept format slots name d found other held = record {
  node1 = stays node_names name d other held.node1 refl;
  node2 = stays node_names name d other held.node2 refl;
}

pub flag_kept : Kept flag_names FlagHolds
flag_kept format slots name d found other held = record {
  opened = stays flag_names name d other held.opened refl;
  retained = stays flag_names name d other held.retained refl;
  fictitious = stays flag_names name d other held.fictitious refl;
}

pub kind_kept : Kept kind_names KindHolds
kind_kept format slots name d found other held = record {
  id = stays kind_names name d other held.id refl;
  kind = stays kind_names name d other held.kind refl;
}

pub place_kept : Kept place_names PlaceHolds
place_kept format slots name d found other held = record {
  id = stays place_names name d other held.id refl;
  node = stays place_names name d other held.node refl;
}

pub voltage_kept : Kept voltage_names VoltageHolds
voltage_kept format slots name d found other held = record {
  id = stays voltage_names name d other held.id refl;
  nominal_v = stays voltage_names name d other held.nominal_v refl;
  low_v = stays voltage_names name d other held.low_v refl;
  high_v = stays voltage_names name d other held.high_v refl;
}

pub part_kept : Kept part_names PartHolds
part_kept format slots name d found other held = record {
  busbars = stays part_names name d other held.busbars refl;
  switches = stays part_names name d other held.switches refl;
  internals = stays part_names name d other held.internals refl;
  injections = stays part_names name d other held.injections refl;
}

pub end_kept : Kept end_names EndHolds
end_kept format slots name d found other held = record {
  level = stays end_names name d other held.level refl;
  node = stays end_names name d other held.node refl;
}

pub line_kept : Kept line_names LineHolds
line_kept format slots name d found other held = record {
  id = stays line_names name d other held.id refl;
  ends = stays line_names name d other held.ends refl;
}

pub substation_kept : Kept substation_names SubstationHolds
substation_kept format slots name d found other held = record {
  id = stays substation_names name d other held.id refl;
  levels = stays substation_names name d other held.levels refl;
  transformers = stays substation_names name d other held.transformers refl;
}

pub network_kept : Kept network_names NetworkHolds
network_kept format slots name d found other held = record {
  id = stays network_names name d other held.id refl;
  substations = stays network_names name d other held.substations refl;
  lines = stays network_names name d other held.lines refl;
}

pub injection_kind_kept : Kept injection_kind_names InjectionKindHolds
injection_kind_kept format slots name d found other held = record {
  kind = stays injection_kind_names name d other held.kind refl;
}

pub power_kept : Kept power_names PowerHolds
power_kept format slots name d found other held = record {
  p0 = stays power_names name d other held.p0 refl;
  q0 = stays power_names name d other held.q0 refl;
}

pub target_kept : Kept target_names TargetHolds
target_kept format slots name d found other held = record {
  target_p = stays target_names name d other held.target_p refl;
  target_v = stays target_names name d other held.target_v refl;
  target_q = stays target_names name d other held.target_q refl;
}

pub limit_kept : Kept limit_names LimitHolds
limit_kept format slots name d found other held = record {
  min_p = stays limit_names name d other held.min_p refl;
  max_p = stays limit_names name d other held.max_p refl;
}

pub section_kept : Kept section_names SectionHolds
section_kept format slots name d found other held = record {
  section_count = stays section_names name d other held.section_count refl;
  max_sections = stays section_names name d other held.max_sections refl;
}

pub job_kept : Kept job_names JobHolds
job_kept format slots name d found other held = record {
  format = stays job_names name d other held.format refl;
  network = stays job_names name d other held.network refl;
  listeners = stays job_names name d other held.listeners refl;
  workers = stays job_names name d other held.workers refl;
  order = stays job_names name d other held.order refl;
}
