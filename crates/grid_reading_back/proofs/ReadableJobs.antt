-- A job that was read is one that is read back.
use Rattle.std.proofs.Common.{◌≡◌, ◌≤◌, ℕ, ℤ, pos, negsuc, suc, Bool, true, false, cond, List, [], ◌∷◌, length, map, Option, Some, None, Result, Ok, Err, refl, sym, ap, ◌∙◌, subst, arith, IsUtf8}
use Rattle.std.specs.Prelude.{IfSome, codes, decimal, nat_lt, if◌then◌else◌}
use Rattle.std.specs.List.{AllByRecursion, list_all}
use Rattle.std.proofs.lemmas.Str.{IsUtf8-from_is_utf8}
use Rattle.std.proofs.lemmas.Bool.{and_parts, ltb-false}
use Rattle.serde_json.specs.Data.{Data, null, boolean, number, string, array, object, Items, no_items, item}
use Rattle.serde_json.specs.Find.{as_array}
use Rattle.grid_ids.specs.declared.id.IdFault.{IdFault}
use Rattle.grid_ids.specs.Fault.{id_fault}
use Rattle.grid_events.specs.declared.filter.Filter.{Filter}
use Rattle.grid_level.specs.LevelEdits.{max_node}
use Rattle.grid_requests.specs.declared.request.Request.{Request}
use Rattle.grid_requests.specs.RequestParts.{request_ids, request_numbers}
use Rattle.grid_structure.specs.Soundness.{IsSound}
use Rattle.grid_value.specs.Bytes.{reading}
use Rattle.grid_value.specs.View.{items_len}
use Rattle.grid_json.specs.declared.fault.Fault.{Fault}
use Rattle.grid_json.specs.declared.fault.Reason.{Reason}
use Rattle.grid_json.specs.declared.fault.Reason.TheVariants.{WrongKind, Schedule, TooManyCommands, TooManyWorkers, TooManyListeners}
use Rattle.grid_json.specs.declared.format.Format.{Format}
use Rattle.grid_json.specs.declared.format.Format.TheVariants.{One}
use Rattle.grid_json.specs.declared.job.JobDraft.{JobDraft}
use Rattle.grid_json.specs.declared.whole.Job.{Job}
use Rattle.grid_json.specs.declared.whole.JobFault.{JobFault}
use Rattle.grid_json.specs.Reading.{◌>>=◌, or_fault, here, under, named, items_at, array_at, member_at, member_or, optional_at, only_at, whole_at, id_at}
use Rattle.grid_json.specs.Kinds.{event_kind_at}
use Rattle.grid_json.specs.Network.{network_at}
use Rattle.grid_json.specs.Command.{command_at}
use Rattle.grid_json.specs.Loading.{network_load}
use Rattle.grid_json.specs.Job.{max_listeners, max_workers, max_commands, command_total, few_at, filter_of, listener_at, listeners_at, counted_scripts, workers_at, is_worker, counts_from, is_order, natural_of, ordered, order_at, format_at, draft_at}
use Rattle.grid_json.specs.Whole.{loaded, or_bad_job, draft_in, draft_of, job_in, job_of}
use Rattle.grid_json.proofs.Results.{bound, all_counted}
use Rattle.grid_print.specs.Readable.{IsId, IsWhole}
use Rattle.grid_print.proofs.Each.{of_each}
use Rattle.grid_reading_back.specs.Requests.{IsReadableRequest}
use Rattle.grid_reading_back.specs.Jobs.{IsReadableFilter, IsReadableScript, IsScheduleOf, IsReadableJob}
use Rattle.grid_reading_back.proofs.Networks.{NetworkKeeps, RequestKeeps}
use Rattle.grid_reading_back.proofs.Legible.{IsSigned, IsLegible, Reads, member_reads, either_reads, array_reads, optional_reads, number_reads}
use Rattle.grid_reading_back.proofs.Breakers.{breaker_is_id, breaker_is_text}
use Rattle.grid_reading_back.proofs.Loads.{NetworkDraftKeeps, BreakersKeep, network_loaded}
use Rattle.grid_reading_back.proofs.Options.{same_read}
use Rattle.grid_reading_back.proofs.Drafts.{network_read}
use Rattle.grid_reading_back.proofs.CommandRules.{command_read}
use Rattle.grid_reading_back.proofs.ParseTrees.{reading_legible}
use Rattle.grid_reading_back.proofs.TextEncodings.{spelled_texts}
use Rattle.grid_reading_back.proofs.Readables.{is_whole, each_weaker, kept_is_readable}

-- ---- the order

same_orders : (workers : ℕ) (numbers : List ℤ) → list_all (is_worker workers) numbers ≡ true → map (λ n. pos n) (map natural_of numbers) ≡ numbers
same_orders workers [] all = refl
same_orders workers (pos n ∷ numbers) all =
    let parts = and_parts (is_worker workers (pos n)) (list_all (is_worker workers) numbers) all in
    ap (λ ns. pos n ∷ ns) (same_orders workers numbers parts.1)
same_orders workers (negsuc n ∷ numbers) all = cc

scheduled_by : (scripts : List (List Request)) (numbers : List ℤ) → is_order (map length scripts) numbers ≡ true → IsScheduleOf scripts (map natural_of numbers)
unfolding is_order
scheduled_by scripts numbers is =
    let parts = and_parts (list_all (is_worker (length (map length scripts))) numbers) (counts_from 0 (map length scripts) numbers) is in
    rw (same_orders (length (map length scripts)) numbers parts.0) is

order_scheduled : (scripts : List (List Request)) (d : Data) (order : List ℕ) → order_at scripts d ≡ Ok order → IsScheduleOf scripts order
order_scheduled scripts d order is =
    let a = bound (array_at whole_at d) (ordered (map length scripts)) order is in
    by a.0 (is_order (map length scripts) a.0) refl a.2
  where
    by : (numbers : List ℤ) (b : Bool) → is_order (map length scripts) numbers ≡ b → cond b (Ok (map natural_of numbers)) (Err (here Schedule)) ≡ Ok order → IsScheduleOf scripts order
    by numbers true e h = let same : map natural_of numbers ≡ order = cc in subst (IsScheduleOf scripts) same (scheduled_by scripts numbers e)
    by numbers false e h = cc

-- ---- counts

as_many : {A : Type 0} (read : Data → Result A Fault) (ds : Items) (i : ℕ) (xs : List A) → items_at read i ds ≡ Ok xs → length xs ≡ items_len ds
unfolding items_at
as_many read no_items i xs is = let none : [] ≡ xs = cc in sym (ap length none)
as_many read (item d ds) i xs is =
    let a = bound (under (decimal i) (read d)) (λ x. items_at read (suc i) ds >>= λ ys. Ok (x ∷ ys)) xs is in
    let b = bound (items_at read (suc i) ds) (λ ys. Ok (a.0 ∷ ys)) xs a.2 in
    let same : a.0 ∷ b.0 ≡ xs = cc in
    sym (ap length same) ∙ ap suc (as_many read ds (suc i) b.0 b.1)

-- what a limit lets pass was read with none, and is within it
within_limit : {A : Type 0} (most : ℕ) (reason : Reason) (read : Data → Result A Fault) (ds : Items) (xs : List A) (over : Bool) → nat_lt most (items_len ds) ≡ over
    → cond over (Err (here reason)) (items_at read 0 ds) ≡ Ok xs → (items_at read 0 ds ≡ Ok xs) × (length xs ≤ most)
within_limit most reason read ds xs true is h = cc
within_limit most reason read ds xs false is h = (h, omega (arith, as_many read ds 0 xs h, ltb-false most (items_len ds) is))

few_were_read : {A : Type 0} (most : ℕ) (reason : Reason) (read : Data → Result A Fault) (d : Data) (xs : List A) → few_at most reason read d ≡ Ok xs → (array_at read d ≡ Ok xs) × (length xs ≤ most)
few_were_read most reason read d xs is = by (as_array d) refl is
  where
    by : (found : Option Items) → as_array d ≡ found → (or_fault WrongKind found >>= λ ds. if nat_lt most (items_len ds) then Err (here reason) else items_at read 0 ds) ≡ Ok xs
        → (array_at read d ≡ Ok xs) × (length xs ≤ most)
    by None e h = cc
    by (Some ds) e h = let w = within_limit most reason read ds xs (nat_lt most (items_len ds)) refl h in (rw e w.0, w.1)

few_commands : (scripts counted : List (List Request)) (over : Bool) → nat_lt max_commands (command_total scripts) ≡ over → cond over (Err (here TooManyCommands)) (Ok scripts) ≡ Ok counted
    → command_total counted ≤ max_commands
few_commands scripts counted true e is = cc
few_commands scripts counted false e is = let same : scripts ≡ counted = cc in rw (← same) (ltb-false max_commands (command_total scripts) e)

-- ---- ids

nodes_fit : (n : ℕ) → n ≤ max_node → IsSigned (pos n)
nodes_fit n few = omega (arith, few)

module _ (T : List ℕ → Type 0) where
  -- an id whose text keeps the rule
  abbrev pub IsKeptId : List ℕ → Type 0
  IsKeptId id = IsId id × T id

  ids_read : Reads T IsKeptId id_at
  ids_read null id fine is = cc
  ids_read (boolean b) id fine is = cc
  ids_read (number n) id fine is = cc
  ids_read (string s) id fine is = by (id_fault s) refl is
    where
      by : (fault : Option IdFault) → id_fault s ≡ fault → named s fault ≡ Ok id → IsKeptId id
      by None e h = let same : s ≡ id = cc in let kept : IsKeptId s = (e, fine) in subst IsKeptId same kept
      by (Some fault) e h = cc
  ids_read (array ds) id fine is = cc
  ids_read (object ms) id fine is = cc

  -- ---- listeners

  abbrev FilterKeeps : Filter → Type 0
  FilterKeeps f = IfSome f.variant IsKeptId

  listener_read : (format : Format) → Reads T FilterKeeps (listener_at format)
  unfolding listener_at filter_of
  listener_read format d x fine is =
      let a = bound (only_at (codes "kinds" ∷ codes "variant" ∷ []) d) _ x is in
      let b = bound (member_at (array_at (event_kind_at format)) (codes "kinds") d) _ x a.2 in
      let c = bound (optional_at id_at (codes "variant") d) _ x b.2 in
      let made : Filter = filter_of b.0 c.0 in
      let same : made ≡ x = same_read made x c.2 in
      let kept : FilterKeeps made = optional_reads T IsKeptId id_at ids_read (codes "variant") d c.0 fine c.1 in
      subst FilterKeeps same kept

  pub record FiltersKeep (filters : List Filter) : Type 0 where
    pub few : length filters ≤ max_listeners
    pub each : AllByRecursion FilterKeeps filters

  listeners_read : (format : Format) → Reads T FiltersKeep (listeners_at format)
  listeners_read format d x fine is =
      let a = few_were_read max_listeners TooManyListeners (listener_at format) d x is in
      record { few = a.1; each = array_reads T FilterKeeps (listener_at format) (listener_read format) d x fine a.0 }

  -- ---- scripts

  abbrev ScriptKeeps : List Request → Type 0
  ScriptKeeps script = AllByRecursion (RequestKeeps IsKeptId IsSigned) script

  pub record ScriptsKeep (scripts : List (List Request)) : Type 0 where
    pub few : length scripts ≤ max_workers
    pub total : command_total scripts ≤ max_commands
    pub each : AllByRecursion ScriptKeeps scripts

  script_read : (format : Format) → Reads T ScriptKeeps (array_at (command_at format))
  script_read format = array_reads T (RequestKeeps IsKeptId IsSigned) (command_at format) (command_read T IsKeptId IsSigned ids_read (number_reads T) one format)
    where
      one : IsSigned (pos 1)
      one = omega arith

  scripts_read : (format : Format) → Reads T ScriptsKeep (workers_at format)
  scripts_read format d x fine is =
      let a = bound (few_at max_workers TooManyWorkers (array_at (command_at format)) d) counted_scripts x is in
      let same : a.0 ≡ x = all_counted a.0 x (nat_lt max_commands (command_total a.0)) a.2 in
      let b = few_were_read max_workers TooManyWorkers (array_at (command_at format)) d a.0 a.1 in
      let few : length x ≤ max_workers = rw (← same) b.1 in
      let each : AllByRecursion ScriptKeeps x = subst (AllByRecursion ScriptKeeps) same (array_reads T ScriptKeeps (array_at (command_at format)) (script_read format) d a.0 fine b.0) in
      record { few = few; total = few_commands a.0 x (nat_lt max_commands (command_total a.0)) refl a.2; each = each }

  -- ---- the draft

  pub record DraftKeeps (draft : JobDraft) : Type 0 where
    pub network : NetworkDraftKeeps IsKeptId IsSigned draft.network
    pub filters : FiltersKeep draft.filters
    pub scripts : ScriptsKeep draft.scripts
    pub order : IfSome draft.order (IsScheduleOf draft.scripts)

  no_filters : FiltersKeep []
  no_filters = record { few = omega arith; each = tt }

  no_scripts : ScriptsKeep []
  unfolding command_total
  no_scripts = record { few = omega arith; total = omega arith; each = tt }

  drafted : Reads T DraftKeeps draft_at
  unfolding draft_at
  drafted d draft fine is =
      let a = bound (only_at (codes "format" ∷ codes "network" ∷ codes "listeners" ∷ codes "workers" ∷ codes "order" ∷ []) d) _ draft is in
      let b = bound (member_at (format_at One) (codes "format") d) _ draft a.2 in
      let c = bound (member_at (network_at b.0) (codes "network") d) _ draft b.2 in
      let e = bound (member_or [] (listeners_at b.0) (codes "listeners") d) _ draft c.2 in
      let f = bound (member_or [] (workers_at b.0) (codes "workers") d) _ draft e.2 in
      let g = bound (optional_at (order_at f.0) (codes "order") d) _ draft f.2 in
      let made : JobDraft = record { network = c.0; filters = e.0; scripts = f.0; order = g.0 } in
      let same : made ≡ draft = same_read made draft g.2 in
      let kept : DraftKeeps made = record {
        network = member_reads T (NetworkDraftKeeps IsKeptId IsSigned) (network_at b.0) (network_read T IsKeptId IsSigned ids_read (number_reads T) b.0) (codes "network") d c.0 fine c.1;
        filters = either_reads T FiltersKeep (listeners_at b.0) (listeners_read b.0) [] (codes "listeners") no_filters d e.0 fine e.1;
        scripts = either_reads T ScriptsKeep (workers_at b.0) (scripts_read b.0) [] (codes "workers") no_scripts d f.0 fine f.1;
        order = optional_reads T (IsScheduleOf f.0) (order_at f.0) (λ v order legible h. order_scheduled f.0 v order h) (codes "order") d g.0 fine g.1;
      } in
      subst DraftKeeps {x = made} same kept

  -- ---- the job

  -- what a job keeps: its network, and the rest as its draft has it
  pub record JobKeeps (job : Job) : Type 0 where
    pub network : NetworkKeeps IsKeptId IsSigned job.network
    pub sound : IsSound job.network
    pub filters : FiltersKeep job.filters
    pub scripts : ScriptsKeep job.scripts
    pub order : IfSome job.order (IsScheduleOf job.scripts)

  of_loaded : BreakersKeep IsKeptId → (draft : JobDraft) (job : Job) → loaded draft ≡ Ok job → DraftKeeps draft → JobKeeps job
  unfolding loaded
  of_loaded breakers draft job is keeps =
      let a = bound (network_load draft.network) _ job is in
      let made : Job = record { network = a.0; filters = draft.filters; scripts = draft.scripts; order = draft.order } in
      let same : made ≡ job = same_read made job a.2 in
      let fine = network_loaded IsKeptId IsSigned nodes_fit breakers draft.network a.0 a.1 keeps.network in
      let kept : JobKeeps made = record { network = fine.0; sound = fine.1; filters = keeps.filters; scripts = keeps.scripts; order = keeps.order } in
      subst JobKeeps {x = made} same kept

  no_fault : {A : Type 0} (read : Result A Fault) (x : A) → or_bad_job read ≡ Ok x → read ≡ Ok x
  no_fault (Ok y) x is = cc
  no_fault (Err fault) x is = cc

  of_draft : BreakersKeep IsKeptId → (read : Result JobDraft JobFault) (job : Job) → job_in read ≡ Ok job → ((draft : JobDraft) → read ≡ Ok draft → DraftKeeps draft) → JobKeeps job
  of_draft breakers (Ok draft) job is keeps = of_loaded breakers draft job (no_fault (loaded draft) job is) (keeps draft refl)
  of_draft breakers (Err fault) job is keeps = cc

  of_data : (found : Option Data) (draft : JobDraft) → draft_in found ≡ Ok draft → ((d : Data) → found ≡ Some d → IsLegible T d) → DraftKeeps draft
  of_data None draft is fine = cc
  of_data (Some d) draft is fine = drafted d draft (fine d refl) (no_fault (draft_at d) draft is)

  -- what a job of legible data keeps
  pub job_received : BreakersKeep IsKeptId → (bytes : List ℕ) (job : Job) → ((d : Data) → reading bytes ≡ Some d → IsLegible T d) → job_of bytes ≡ Ok job → JobKeeps job
  unfolding job_of draft_of
  job_received breakers bytes job legible is = of_draft breakers (draft_in (reading bytes)) job is (λ draft h. of_data (reading bytes) draft h legible)

  -- ---- is one that is read back

  request_readable : (r : Request) → RequestKeeps IsKeptId IsSigned r → IsReadableRequest r
  request_readable r keeps = (
    of_each IsId (request_ids r) (each_weaker IsKeptId IsId (λ id kept. kept.0) (request_ids r) keeps.0),
    of_each IsWhole (request_numbers r) (each_weaker IsSigned IsWhole is_whole (request_numbers r) keeps.1),
  )

  script_readable : (script : List Request) → ScriptKeeps script → IsReadableScript script
  script_readable script keeps = of_each IsReadableRequest script (each_weaker (RequestKeeps IsKeptId IsSigned) IsReadableRequest request_readable script keeps)

  filter_readable : (variant : Option (List ℕ)) → IfSome variant IsKeptId → IfSome variant IsId
  filter_readable None keeps = tt
  filter_readable (Some name) keeps = keeps.0

  pub kept_job_is_readable : (job : Job) → JobKeeps job → IsReadableJob job
  kept_job_is_readable job keeps = record {
    network = kept_is_readable IsKeptId (λ id kept. kept.0) job.network keeps.network keeps.sound;
    sound = keeps.sound;
    parts = record {
      few_filters = keeps.filters.few;
      each_filter = of_each IsReadableFilter job.filters (each_weaker FilterKeeps IsReadableFilter (λ f kept. filter_readable f.variant kept) job.filters keeps.filters.each);
      few_scripts = keeps.scripts.few;
      few_commands = keeps.scripts.total;
      each_script = of_each IsReadableScript job.scripts (each_weaker ScriptKeeps IsReadableScript script_readable job.scripts keeps.scripts.each);
      scheduled = keeps.order;
    };
  }

-- a job that was read keeps texts
pub texts_received : (bytes : List ℕ) (job : Job) → job_of bytes ≡ Ok job → JobKeeps IsUtf8 job
texts_received bytes job is = job_received IsUtf8 (λ id side few short kept. (breaker_is_id id side few short kept.0, breaker_is_text id side few kept.1)) bytes job (λ d h. reading_legible IsUtf8 bytes d (λ j text spelled. spelled_texts bytes j (IsUtf8-from_is_utf8 bytes text) spelled) h) is

-- a job that was read is one that is read back
pub read_jobs_are_readable : (bytes : List ℕ) (job : Job) → job_of bytes ≡ Ok job → IsReadableJob job
read_jobs_are_readable bytes job is = kept_job_is_readable IsUtf8 job (texts_received bytes job is)
