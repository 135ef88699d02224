-- What was read: plain ids, known commands, and a network that is right.
use Rattle.std.proofs.Common.{◌≡◌, refl, sym, ap, ◌∙◌, ℕ, ℤ, pos, suc, Bool, true, false, cond, ◌&&◌, List, [], ◌∷◌, length, map, subst, inl, inr, Option, Some, None, Result, Ok, Err}
use Rattle.std.specs.Prelude.{All, codes, decimal, nat_lt, if◌then◌else◌, slice_index_or}
use Rattle.std.specs.List.{list_all}
use Rattle.std.proofs.lemmas.List.Sums.{AllPass-from_list_all}
use Rattle.serde_json.specs.Data.{Data, Items, no_items, item}
use Rattle.serde_json.specs.Find.{get, as_array}
use Rattle.grid_requests.specs.declared.request.Request.{Request}
use Rattle.grid_requests.specs.declared.request.Request.TheVariants as requests
use Rattle.grid_json.specs.declared.ends.Two.{Two}
use Rattle.grid_json.specs.declared.fault.Fault.{Fault}
use Rattle.grid_json.specs.declared.fault.Reason.{Reason}
use Rattle.grid_json.specs.declared.fault.Reason.TheVariants.{Reserved, Schedule, TooManyWorkers, WrongKind}
use Rattle.grid_json.specs.declared.format.Format.TheVariants.{Four}
use Rattle.grid_json.specs.Job.{command_total, counted_scripts, few_at, is_order, max_commands, max_workers, natural_of, order_at, ordered}
use Rattle.grid_json.specs.Kinds.{injection_kind_at}
use Rattle.grid_json.specs.Network.{both, bus_injection_names, item_at, two_at, two_of}
use Rattle.grid_value.specs.View.{items_len}
use Rattle.grid_json.specs.Reading.{◌>>=◌, array_at, flag_at, here, id_at, items_at, member_at, member_or, object_at, only_at, optional_at, or_fault, present, some_of, under, whole_at, word_at}
use Rattle.grid_json.proofs.Results.{all_counted, bound, either_read, inside, member_read, some_read}
use Rattle.grid_configured.specs.declared.commands.Verb.{Verb}
use Rattle.grid_configured.specs.declared.commands.Verb.TheVariants as verbs
use Rattle.grid_configured.specs.declared.parts.PlainEnd.{PlainEnd}
use Rattle.grid_json.specs.declared.buses.BusSwitch.{BusSwitch}
use Rattle.grid_configured.specs.declared.network.ConfiguredLevel.{ConfiguredLevel}
use Rattle.grid_configured.specs.declared.network.ConfiguredLine.{ConfiguredLine}
use Rattle.grid_configured.specs.declared.network.ConfiguredNetwork.{ConfiguredNetwork}
use Rattle.grid_json.specs.declared.buses.BusInjection.{BusInjection}
use Rattle.grid_configured.specs.Checks.{IsTranslatable, network_check}
use Rattle.grid_configured.specs.Jobs.{IsOrdered, bus_switch_at, clone_at, command_at, command_names, end_at, injection_at, level_at, level_names, line_at, named_at, network_at, plain_at, plain_or_reserved, request_at, sided_at, verb_words, workers_at}
use Rattle.grid_configured.specs.Names.{IsConfiguredRequest, end_plain, is_plain, item_plain, level_plain, line_plain, network_plain, request_plain, switch_plain}

-- a value of a member keeps what each value that is read keeps
member_keeps : {A : Type 0} (read : Data → Result A Fault) (keeps : A → Bool) → ((d : Data) (x : A) → read d ≡ Ok x → keeps x ≡ true) → (name : List ℕ) (d : Data) (x : A) → member_at read name d ≡ Ok x → keeps x ≡ true
member_keeps read keeps all name d x is = let found = member_read read name (get name d) x is in all found.0 x found.1

pub items_keep : {A : Type 0} (read : Data → Result A Fault) (keeps : A → Bool) → ((d : Data) (x : A) → read d ≡ Ok x → keeps x ≡ true) → (ds : Items) (i : ℕ) (xs : List A) → items_at read i ds ≡ Ok xs → list_all keeps xs ≡ true
unfolding items_at
items_keep read keeps all no_items i xs is = let none : [] ≡ xs = cc in subst (λ z. list_all keeps z ≡ true) none refl
items_keep read keeps all (item d ds) i xs is =
    let a = bound (under (decimal i) (read d)) (λ x. items_at read (suc i) ds >>= λ ys. Ok (x ∷ ys)) xs is in
    let b = bound (items_at read (suc i) ds) (λ ys. Ok (a.0 ∷ ys)) xs a.2 in
    let same : a.0 ∷ b.0 ≡ xs = cc in
    let first : keeps a.0 ≡ true = all d a.0 (inside (decimal i) (read d) a.0 a.1) in
    subst (λ z. list_all keeps z ≡ true) same (rw (first, items_keep read keeps all ds (suc i) b.0 b.1) refl)

pub array_keeps : {A : Type 0} (read : Data → Result A Fault) (keeps : A → Bool) → ((d : Data) (x : A) → read d ≡ Ok x → keeps x ≡ true) → (d : Data) (xs : List A) → array_at read d ≡ Ok xs → list_all keeps xs ≡ true
array_keeps read keeps all d xs is =
    let a = bound (or_fault WrongKind (as_array d)) (λ ds. items_at read 0 ds) xs is in
    items_keep read keeps all a.0 0 xs a.2

-- ---- ids

plain_kept : (text id : List ℕ) (plain : Bool) → is_plain text ≡ plain → cond plain (Ok text) (Err (here Reserved)) ≡ Ok id → is_plain id ≡ true
plain_kept text id true is h = let same : text ≡ id = cc in ap is_plain (sym same) ∙ is
plain_kept text id false is h = cc

plain_read : (d : Data) (id : List ℕ) → plain_at d ≡ Ok id → is_plain id ≡ true
unfolding plain_at
plain_read d id is =
    let a = bound (id_at d) plain_or_reserved id is in
    plain_kept a.0 id (is_plain a.0) refl a.2

plain_member : (name : List ℕ) (d : Data) (id : List ℕ) → member_at plain_at name d ≡ Ok id → is_plain id ≡ true
plain_member name d id is = member_keeps plain_at is_plain plain_read name d id is

-- ---- the parts of a network

switch_read : (d : Data) (s : BusSwitch) → bus_switch_at d ≡ Ok s → switch_plain s ≡ true
unfolding bus_switch_at switch_plain
switch_read d s is =
    let a = bound (only_at (codes "id" ∷ codes "bus1" ∷ codes "bus2" ∷ codes "open" ∷ []) d) _ s is in
    let id = bound (member_at plain_at (codes "id") d) _ s a.2 in
    let bus1 = bound (member_at plain_at (codes "bus1") d) _ s id.2 in
    let bus2 = bound (member_at plain_at (codes "bus2") d) _ s bus1.2 in
    let opened = bound (member_at flag_at (codes "open") d) _ s bus2.2 in
    let made : BusSwitch = record { id = id.0; bus1 = bus1.0; bus2 = bus2.0; opened = opened.0 } in
    let same : made ≡ s = cc in
    let kept : switch_plain made ≡ true = rw (plain_member (codes "id") d id.0 id.1, plain_member (codes "bus1") d bus1.0 bus1.1, plain_member (codes "bus2") d bus2.0 bus2.1) refl in
    subst (λ (z : BusSwitch). switch_plain z ≡ true) same kept

item_read : (d : Data) (t : BusInjection) → injection_at d ≡ Ok t → item_plain t ≡ true
unfolding injection_at item_plain
item_read d t is =
    let object = bound (object_at d) _ t is in
    let kind = bound (member_at (injection_kind_at Four) (codes "kind") d) _ t object.2 in
    let known = bound (only_at (bus_injection_names kind.0) d) _ t kind.2 in
    let id = bound (member_at plain_at (codes "id") d) _ t known.2 in
    let bus = bound (member_at plain_at (codes "bus") d) _ t id.2 in
    let connected = bound (member_at flag_at (codes "connected") d) _ t bus.2 in
    let injected = bound (item_at kind.0 d) _ t connected.2 in
    let made : BusInjection = record { id = id.0; bus = bus.0; connected = connected.0; item = injected.0 } in
    let same : made ≡ t = cc in
    let kept : item_plain made ≡ true = rw (plain_member (codes "id") d id.0 id.1, plain_member (codes "bus") d bus.0 bus.1) refl in
    subst (λ (z : BusInjection). item_plain z ≡ true) same kept

list_member : {A : Type 0} (read : Data → Result A Fault) (keeps : A → Bool) → ((d : Data) (x : A) → read d ≡ Ok x → keeps x ≡ true) → (name : List ℕ) (d : Data) (xs : List A) → member_at (array_at read) name d ≡ Ok xs → list_all keeps xs ≡ true
list_member read keeps all name d xs is = member_keeps (array_at read) (list_all keeps) (array_keeps read keeps all) name d xs is

level_read : (d : Data) (l : ConfiguredLevel) → level_at d ≡ Ok l → level_plain l ≡ true
unfolding level_at level_plain
level_read d l is =
    let known = bound (only_at level_names d) _ l is in
    let id = bound (member_at plain_at (codes "id") d) _ l known.2 in
    let nominal = bound (member_at whole_at (codes "nominal_v") d) _ l id.2 in
    let buses = bound (member_at (array_at plain_at) (codes "buses") d) _ l nominal.2 in
    let switches = bound (member_at (array_at bus_switch_at) (codes "switches") d) _ l buses.2 in
    let injections = bound (member_at (array_at injection_at) (codes "injections") d) _ l switches.2 in
    let made : ConfiguredLevel = record { id = id.0; nominal_v = nominal.0; buses = buses.0; switches = switches.0; items = injections.0 } in
    let same : made ≡ l = cc in
    let kept : level_plain made ≡ true =
    rw (
      plain_member (codes "id") d id.0 id.1,
      list_member plain_at is_plain plain_read (codes "buses") d buses.0 buses.1,
      list_member bus_switch_at switch_plain switch_read (codes "switches") d switches.0 switches.1,
      list_member injection_at item_plain item_read (codes "injections") d injections.0 injections.1,
    ) refl in
    subst (λ (z : ConfiguredLevel). level_plain z ≡ true) same kept

end_read : (d : Data) (e : PlainEnd) → end_at d ≡ Ok e → end_plain e.end ≡ true
unfolding end_at end_plain
end_read d e is =
    let known = bound (only_at (codes "level" ∷ codes "bus" ∷ codes "connected" ∷ []) d) _ e is in
    let level = bound (member_at plain_at (codes "level") d) _ e known.2 in
    let bus = bound (member_at plain_at (codes "bus") d) _ e level.2 in
    let connected = bound (member_at flag_at (codes "connected") d) _ e bus.2 in
    let made : PlainEnd = record { end = record { level = level.0; bus = bus.0; connected = connected.0 } } in
    let same : made ≡ e = cc in
    let kept : end_plain made.end ≡ true = rw (plain_member (codes "level") d level.0 level.1, plain_member (codes "bus") d bus.0 bus.1) refl in
    subst (λ (z : PlainEnd). end_plain z.end ≡ true) same kept

both_read : (first second : Data) (ends : Two PlainEnd) → both end_at first second ≡ Ok ends → (end_plain ends.first.end ≡ true) × (end_plain ends.second.end ≡ true)
unfolding both
both_read first second ends is =
    let one = bound (under (decimal 0) (end_at first)) _ ends is in
    let other = bound (under (decimal 1) (end_at second)) _ ends one.2 in
    let made : Two PlainEnd = record { first = one.0; second = other.0 } in
    let same : made ≡ ends = cc in
    let kept : (end_plain one.0.end ≡ true) × (end_plain other.0.end ≡ true) = (end_read first one.0 (inside (decimal 0) (end_at first) one.0 one.1), end_read second other.0 (inside (decimal 1) (end_at second) other.0 other.1)) in
    subst (λ (z : Two PlainEnd). (end_plain z.first.end ≡ true) × (end_plain z.second.end ≡ true)) same kept

two_read : (ds : Items) (ends : Two PlainEnd) → two_of end_at ds ≡ Ok ends → (end_plain ends.first.end ≡ true) × (end_plain ends.second.end ≡ true)
unfolding two_of
two_read no_items ends is = cc
two_read (item a no_items) ends is = cc
two_read (item a (item b no_items)) ends is = both_read a b ends is
two_read (item a (item b (item c rest))) ends is = cc

ends_read : (found : Option Data) (ends : Two PlainEnd) → present (two_at end_at) (codes "ends") found ≡ Ok ends → (end_plain ends.first.end ≡ true) × (end_plain ends.second.end ≡ true)
ends_read found ends is =
    let there = member_read (two_at end_at) (codes "ends") found ends is in
    let listed = bound (or_fault WrongKind (as_array there.0)) (two_of end_at) ends there.1 in
    two_read listed.0 ends listed.2

line_read : (d : Data) (l : ConfiguredLine) → line_at d ≡ Ok l → line_plain l ≡ true
unfolding line_at line_plain
line_read d l is =
    let known = bound (only_at (codes "id" ∷ codes "ends" ∷ []) d) _ l is in
    let id = bound (member_at plain_at (codes "id") d) _ l known.2 in
    let ends = bound (member_at (two_at end_at) (codes "ends") d) _ l id.2 in
    let both_ends = ends_read (get (codes "ends") d) ends.0 ends.1 in
    let made : ConfiguredLine = record { id = id.0; end1 = ends.0.first.end; end2 = ends.0.second.end } in
    let same : made ≡ l = cc in
    let kept : line_plain made ≡ true = rw (plain_member (codes "id") d id.0 id.1, both_ends.0, both_ends.1) refl in
    subst (λ (z : ConfiguredLine). line_plain z ≡ true) same kept

network_read : (d : Data) (n : ConfiguredNetwork) → network_at d ≡ Ok n → network_plain n ≡ true
unfolding network_at network_plain
network_read d n is =
    let known = bound (only_at (codes "id" ∷ codes "levels" ∷ codes "lines" ∷ []) d) _ n is in
    let id = bound (member_at plain_at (codes "id") d) _ n known.2 in
    let levels = bound (member_at (array_at level_at) (codes "levels") d) _ n id.2 in
    let lines = bound (member_at (array_at line_at) (codes "lines") d) _ n levels.2 in
    let made : ConfiguredNetwork = record { id = id.0; levels = levels.0; lines = lines.0 } in
    let same : made ≡ n = cc in
    let kept : network_plain made ≡ true =
    rw (plain_member (codes "id") d id.0 id.1, list_member level_at level_plain level_read (codes "levels") d levels.0 levels.1, list_member line_at line_plain line_read (codes "lines") d lines.0 lines.1) refl in
    subst (λ (z : ConfiguredNetwork). network_plain z ≡ true) same kept

-- a network that was read and checked
pub translatable : (d : Data) (n : ConfiguredNetwork) → member_at network_at (codes "configured") d ≡ Ok n → under (codes "configured") (network_check n) ≡ Ok tt → IsTranslatable n
translatable d n is right = (member_keeps network_at network_plain network_read (codes "configured") d n is, inside (codes "configured") (network_check n) tt right)

-- ---- commands

named_read : (name : List ℕ) (made : List ℕ → Request) → ((id : List ℕ) → request_plain (made id) ≡ list_all is_plain (id ∷ [])) → (d : Data) (r : Request) → named_at name made d ≡ Ok r → request_plain r ≡ true
unfolding named_at
named_read name made plain d r is =
    let id = bound (member_at plain_at name d) _ r is in
    let same : made id.0 ≡ r = cc in
    ap request_plain (sym same) ∙ plain id.0 ∙ ap (λ t. t && true) (plain_member name d id.0 id.1)

sided_read : (made : List ℕ → ℤ → Request) → ((id : List ℕ) (side : ℤ) → request_plain (made id side) ≡ list_all is_plain (id ∷ [])) → (d : Data) (r : Request) → sided_at made d ≡ Ok r → request_plain r ≡ true
unfolding sided_at
sided_read made plain d r is =
    let id = bound (member_at plain_at (codes "equipment") d) _ r is in
    let side = bound (member_or (pos 1) whole_at (codes "side") d) _ r id.2 in
    let same : made id.0 side.0 ≡ r = cc in
    ap request_plain (sym same) ∙ plain id.0 side.0 ∙ ap (λ t. t && true) (plain_member (codes "equipment") d id.0 id.1)

clone_read : (d : Data) (r : Request) → clone_at d ≡ Ok r → request_plain r ≡ true
unfolding clone_at request_plain
clone_read d r is =
    let from = bound (member_at plain_at (codes "from") d) _ r is in
    let to = bound (member_at plain_at (codes "to") d) _ r from.2 in
    let overwrite = bound (member_or false flag_at (codes "overwrite") d) _ r to.2 in
    let same : requests.CloneVariant from.0 to.0 overwrite.0 ≡ r = cc in
    let kept : request_plain (requests.CloneVariant from.0 to.0 overwrite.0) ≡ true = rw (plain_member (codes "from") d from.0 from.1, plain_member (codes "to") d to.0 to.1) refl in
    subst (λ (z : Request). request_plain z ≡ true) same kept

request_read : (verb : Verb) (d : Data) (r : Request) → request_at verb d ≡ Ok r → request_plain r ≡ true
unfolding request_at request_plain
request_read verbs.Use d r is = named_read (codes "variant") requests.UseVariant (λ id. refl) d r is
request_read verbs.Remove d r is = named_read (codes "variant") requests.RemoveVariant (λ id. refl) d r is
request_read verbs.Open d r is = named_read (codes "switch") requests.OpenSwitch (λ id. refl) d r is
request_read verbs.Close d r is = named_read (codes "switch") requests.CloseSwitch (λ id. refl) d r is
request_read verbs.Connect d r is = sided_read requests.Connect (λ id side. refl) d r is
request_read verbs.Disconnect d r is = sided_read requests.Disconnect (λ id side. refl) d r is
request_read verbs.BusView d r is = named_read (codes "level") requests.BusView (λ id. refl) d r is
request_read verbs.Clone d r is = clone_read d r is

command_read : (d : Data) (r : Request) → command_at d ≡ Ok r → request_plain r ≡ true
unfolding command_at
command_read d r is =
    let object = bound (object_at d) _ r is in
    let verb = bound (member_at (word_at verb_words) (codes "do") d) _ r object.2 in
    let known = bound (only_at (command_names verb.0) d) _ r verb.2 in
    request_read verb.0 d r known.2

-- ---- scripts

few_keep : {A : Type 0} (most : ℕ) (reason : Reason) (read : Data → Result A Fault) (keeps : A → Bool) → ((d : Data) (x : A) → read d ≡ Ok x → keeps x ≡ true) → (ds : Items) (xs : List A) (over : Bool) → cond over (Err (here reason)) (items_at read 0 ds) ≡ Ok xs → list_all keeps xs ≡ true
few_keep most reason read keeps all ds xs true is = cc
few_keep most reason read keeps all ds xs false is = items_keep read keeps all ds 0 xs is

workers_read : (d : Data) (scripts : List (List Request)) → workers_at d ≡ Ok scripts → list_all (list_all request_plain) scripts ≡ true
unfolding workers_at
workers_read d scripts is =
    let few = bound (few_at max_workers TooManyWorkers (array_at command_at) d) counted_scripts scripts is in
    let listed = bound (or_fault WrongKind (as_array d)) (λ ds. if nat_lt max_workers (items_len ds) then Err (here TooManyWorkers) else items_at (array_at command_at) 0 ds) few.0 few.1 in
    let same = all_counted few.0 scripts (nat_lt max_commands (command_total few.0)) few.2 in
    subst (λ z. list_all (list_all request_plain) z ≡ true) same
    (few_keep max_workers TooManyWorkers (array_at command_at) (list_all request_plain) (array_keeps command_at request_plain command_read) listed.0 few.0 (nat_lt max_workers (items_len listed.0)) listed.2)

pub all_configured : (d : Data) (scripts : List (List Request)) → member_or [] workers_at (codes "workers") d ≡ Ok scripts → All (All IsConfiguredRequest) scripts
all_configured d scripts is =
    let kept : list_all (list_all request_plain) scripts ≡ true = elim (either_read [] workers_at (codes "workers") (get (codes "workers") d) scripts is) [
      | inl none ↦ rw none refl
      | inr read ↦ workers_read read.0 scripts read.1
    ] in
    λ k script lt. AllPass-from_list_all request_plain (slice_index_or scripts k script) (AllPass-from_list_all (list_all request_plain) scripts kept k script lt)

-- ---- the order

order_kept : (scripts : List (List Request)) (numbers : List ℤ) (order : List ℕ) (is_one : Bool) → is_order (map length scripts) numbers ≡ is_one → cond is_one (Ok (map natural_of numbers)) (Err (here Schedule)) ≡ Ok order → IsOrdered scripts (Some order)
order_kept scripts numbers order true is h = (numbers, is, cc)
order_kept scripts numbers order false is h = cc

pub well_ordered : (scripts : List (List Request)) (d : Data) (order : Option (List ℕ)) → optional_at (order_at scripts) (codes "order") d ≡ Ok order → IsOrdered scripts order
well_ordered scripts d order is = elim (either_read None (λ v. some_of (order_at scripts v)) (codes "order") (get (codes "order") d) order is) [
  | inl none ↦ subst (IsOrdered scripts) (sym none) tt
  | inr read ↦
      let a = some_read (order_at scripts read.0) order read.1 in
      let b = bound (array_at whole_at read.0) (ordered (map length scripts)) a.0 a.1 in
      subst (IsOrdered scripts) (sym a.2) (order_kept scripts b.0 a.0 (is_order (map length scripts) b.0) refl b.2)
]
