-- The order of a job that was read: each worker as often as its script has commands, and nobody else.
use Rattle.std.proofs.Common.{◌≡◌, refl, sym, ap, ◌∙◌, ℕ, ℤ, pos, negsuc, zero, suc, ◌+◌, ◌<◌, ◌≤◌, Bool, true, false, cond, not, List, [], ◌∷◌, length, map, get_or, subst, inl, inr, arith, Option, Some, None, Result, Ok, Err}
use Rattle.std.specs.Prelude.{◌==◌, count_by, int_lt, nat_lt, codes, decimal, if◌then◌else◌, ⊤, All, IfOk}
use Rattle.std.specs.List.{list_all}
use Rattle.std.proofs.lemmas.Bool.{false≢true, and_parts, cases_lt, cases_eq, eqb-true, eq-eqb, ne_eqb, ltb-true, ltb-false}
use Rattle.std.proofs.lemmas.Bool.Decides.{Decides-int_eq}
use Rattle.std.proofs.lemmas.List.{get_or-map, get_or_past, length-map}
use Rattle.serde_json.specs.Data.{Data, Items, no_items, item}
use Rattle.serde_json.specs.Find.{get, as_array}
use Rattle.grid_lemmas.proofs.Counts.{count_cons}
use Rattle.grid_structure.specs.Network.{Network}
use Rattle.grid_events.specs.declared.filter.Filter.{Filter}
use Rattle.grid_requests.specs.declared.request.Request.{Request}
use Rattle.grid_json.specs.declared.fault.Fault.{Fault}
use Rattle.grid_json.specs.declared.fault.Reason.{Reason}
use Rattle.grid_json.specs.declared.fault.Reason.TheVariants.{WrongKind, Schedule, TooManyWorkers}
use Rattle.grid_json.specs.declared.format.Format.{Format}
use Rattle.grid_json.specs.declared.format.Format.TheVariants.{One, Two, Three, Four, Five}
use Rattle.grid_json.specs.declared.job.JobDraft.{JobDraft}
use Rattle.grid_json.specs.declared.network.NetworkDraft.{NetworkDraft}
use Rattle.grid_json.specs.declared.whole.Job.{Job}
use Rattle.grid_json.specs.declared.whole.JobFault.{JobFault}
use Rattle.grid_json.specs.Reading.{◌>>=◌, or_fault, here, under, items_at, array_at, present, member_at, member_or, present_or, optional_at, only_at, object_at, id_at, some_of, whole_at}
use Rattle.grid_value.specs.Bytes.{reading}
use Rattle.grid_value.specs.View.{items_len}
use Rattle.grid_json.specs.Network.{network_at}
use Rattle.grid_json.specs.Command.{command_at}
use Rattle.grid_json.specs.Loading.{network_load}
use Rattle.grid_json.specs.Job.{max_workers, max_commands, command_total, few_at, counted_scripts, workers_at, listeners_at, format_at, stands_for, is_worker, counts_from, is_order, natural_of, ordered, order_at, draft_at}
use Rattle.grid_json.specs.Whole.{JobGives, loaded, whole_job_at, or_bad_job, draft_in, draft_of, job_in, job_of}
use Rattle.grid_json.proofs.Results.{all_counted, bound, either_read, inside, some_read}
use Rattle.grid_report.specs.Histories.{IsOrder, chosen_order}
use Rattle.grid_report.proofs.Turns.{turns_are_order}
use Rattle.grid_hvdc.specs.declared.HvdcJob.{HvdcJob}
use Rattle.grid_hvdc.specs.declared.HvdcLine.{HvdcLine}
use Rattle.grid_hvdc.specs.Checks.{lines_check}
use Rattle.grid_hvdc.specs.Jobs.{line_at, hvdc_at, hvdc_job_in, hvdc_job_of}
use Rattle.grid_contingencies.specs.declared.Contingency.{Contingency}
use Rattle.grid_contingencies.specs.declared.Each.{Each}
use Rattle.grid_contingencies.specs.declared.Told.{Told}
use Rattle.grid_contingencies.specs.declared.Told.TheVariants as told
use Rattle.grid_contingencies.specs.declared.ScreenJob.{ScreenJob}
use Rattle.grid_contingencies.specs.Jobs as screening
use Rattle.grid_contingencies.specs.Jobs.{contingencies_at, each_at, told_at, first_root_at, second_root_at, root_at, screen_at, screen_job_in, screen_job_of}
use Rattle.grid_configured.specs.declared.network.ConfiguredJob.{ConfiguredJob}
use Rattle.grid_configured.specs.Checks.{IsTranslatable}
use Rattle.grid_configured.specs.Names.{IsConfiguredRequest}
use Rattle.grid_configured.specs.Jobs.{IsOrdered}
use Rattle.grid_cli.specs.Configured.{IsRunnable}
use Rattle.grid_cli.specs.Orders.{order_of, IsScheduled, IsCounted}
use Rattle.grid_report.proofs.ScriptCursors.{script_at}

-- how often a worker stands
abbrev pub times : ℕ → List ℕ → ℕ
times worker order = count_by (λ w. w == worker) order

none_if : (b : Bool) → b ≡ false → ◌≡◌ {A = ℕ} (cond b 1 0) 0
none_if b is = rw is refl

-- ---- an order that is given

-- a worker's number that was read
pub record Named (workers : ℕ) (number : ℤ) : Type 0 where
  pub name : ℕ
  pub below : name < workers
  pub is : number ≡ pos name

named : (workers : ℕ) (number : ℤ) → is_worker workers number ≡ true → Named workers number
named workers (pos n) is = record { name = n; below = ltb-true n workers (and_parts (not (int_lt (pos n) (pos 0))) (int_lt (pos n) (pos workers)) is).1; is = refl }
named workers (negsuc n) is = absurd (false≢true is)

same_pos : {n m : ℕ} → ◌≡◌ {A = ℤ} (pos n) (pos m) → n ≡ m
same_pos is = cc

same_number : (n worker : ℕ) → stands_for (pos worker) (pos n) ≡ (n == worker)
same_number n worker = elim (cases_eq n worker) [
  | inl e ↦ (Decides-int_eq (pos n) (pos worker)).1 (ap pos e) ∙ sym (eq-eqb n worker e)
  | inr apart ↦ by (stands_for (pos worker) (pos n)) refl apart
]
  where
    by : (b : Bool) → stands_for (pos worker) (pos n) ≡ b → (n ≡ worker → ⊥) → stands_for (pos worker) (pos n) ≡ (n == worker)
    by true is apart = absurd (apart (same_pos ((Decides-int_eq (pos n) (pos worker)).0 is)))
    by false is apart = is ∙ sym (ne_eqb n worker apart)

-- the numbers are read as naturals
as_often : (workers worker : ℕ) (numbers : List ℤ) → list_all (is_worker workers) numbers ≡ true → times worker (map natural_of numbers) ≡ count_by (stands_for (pos worker)) numbers
as_often workers worker [] all = refl
as_often workers worker (x ∷ xs) all =
    let parts = and_parts (is_worker workers x) (list_all (is_worker workers) xs) all in
    let n = named workers x parts.0 in
    let same : (natural_of x == worker) ≡ stands_for (pos worker) x = ap (λ y. natural_of y == worker) n.is ∙ sym (same_number n.name worker) ∙ ap (stands_for (pos worker)) (sym n.is) in
    count_cons (λ w. w == worker) (natural_of x) (map natural_of xs)
    ∙ ap (λ b. cond b 1 0 + times worker (map natural_of xs)) same
    ∙ ap (λ k. cond (stands_for (pos worker) x) 1 0 + k) (as_often workers worker xs parts.1)
    ∙ sym (count_cons (stands_for (pos worker)) x xs)

-- a number beyond the workers stands nowhere
beyond : (workers worker : ℕ) (numbers : List ℤ) → list_all (is_worker workers) numbers ≡ true → workers ≤ worker → times worker (map natural_of numbers) ≡ 0
beyond workers worker [] all le = refl
beyond workers worker (x ∷ xs) all le =
    let parts = and_parts (is_worker workers x) (list_all (is_worker workers) xs) all in
    let n = named workers x parts.0 in
    let differ : (natural_of x == worker) ≡ false = ap (λ y. natural_of y == worker) n.is ∙ ne_eqb n.name worker (λ e. omega (arith, n.below, le, e)) in
    let sum : cond (natural_of x == worker) 1 0 + times worker (map natural_of xs) ≡ 0 = omega (arith, none_if (natural_of x == worker) differ, beyond workers worker xs parts.1 le) in
    count_cons (λ w. w == worker) (natural_of x) (map natural_of xs) ∙ sum

counted : (ns : List ℕ) (numbers : List ℤ) (first k worker : ℕ) → counts_from first ns numbers ≡ true → k < length ns → first + k ≡ worker → count_by (stands_for (pos worker)) numbers ≡ get_or ns k 0
unfolding counts_from
counted [] numbers first k worker all lt is = absurd (omega arith)
counted (n ∷ ns) numbers first zero worker all lt is =
    let parts = and_parts (count_by (stands_for (pos first)) numbers == n) (counts_from (suc first) ns numbers) all in
    let same : first ≡ worker = omega (arith, is) in
    rw (← same) (eqb-true _ _ parts.0)
counted (n ∷ ns) numbers first (suc k) worker all lt is =
    let parts = and_parts (count_by (stands_for (pos first)) numbers == n) (counts_from (suc first) ns numbers) all in
    counted ns numbers (suc first) k worker parts.1 (omega (arith, lt)) (omega (arith, is))

given_orders : (scripts : List (List Request)) (numbers : List ℤ) → is_order (map length scripts) numbers ≡ true → IsOrder scripts (map natural_of numbers)
unfolding is_order
given_orders scripts numbers is worker =
    let many : length (map length scripts) ≡ length scripts = length-map scripts length in
    let parts = and_parts (list_all (is_worker (length (map length scripts))) numbers) (counts_from 0 (map length scripts) numbers) is in
    elim (cases_lt worker (length scripts)) [
      | inl h ↦ as_often (length (map length scripts)) worker numbers parts.0 ∙ counted (map length scripts) numbers 0 worker worker parts.1 (rw many h) (omega arith) ∙ get_or-map length scripts worker [] 0 h ∙ sym (ap length (script_at scripts worker))
      | inr h ↦ beyond (length (map length scripts)) worker numbers parts.0 (rw many h) ∙ sym (ap length (script_at scripts worker ∙ get_or_past scripts worker [] h))
    ]

-- ---- the scripts

as_many : {A : Type 0} (read : Data → Result A Fault) (ds : Items) (i : ℕ) (xs : List A) → items_at read i ds ≡ Ok xs → length xs ≡ items_len ds
unfolding items_at
as_many read no_items i xs is = let none : [] ≡ xs = cc in sym (ap length none)
as_many read (item d ds) i xs is =
    let a = bound (under (decimal i) (read d)) (λ x. items_at read (suc i) ds >>= λ ys. Ok (x ∷ ys)) xs is in
    let b = bound (items_at read (suc i) ds) (λ ys. Ok (a.0 ∷ ys)) xs a.2 in
    let same : a.0 ∷ b.0 ≡ xs = cc in
    sym (ap length same) ∙ ap suc (as_many read ds (suc i) b.0 b.1)

few_by : {A : Type 0} (most : ℕ) (reason : Reason) (read : Data → Result A Fault) (ds : Items) (xs : List A) (over : Bool) → nat_lt most (items_len ds) ≡ over
    → cond over (Err (here reason)) (items_at read 0 ds) ≡ Ok xs → length xs ≤ most
few_by most reason read ds xs true is h = cc
few_by most reason read ds xs false is h = omega (arith, as_many read ds 0 xs h, ltb-false most (items_len ds) is)

few_of : {A : Type 0} (most : ℕ) (reason : Reason) (read : Data → Result A Fault) (d : Data) (xs : List A) → few_at most reason read d ≡ Ok xs → length xs ≤ most
few_of most reason read d xs is =
    let a = bound (or_fault WrongKind (as_array d)) (λ ds. if nat_lt most (items_len ds) then Err (here reason) else items_at read 0 ds) xs is in
    few_by most reason read a.0 xs (nat_lt most (items_len a.0)) refl a.2

few_scripts : (format : Format) (member : Option Data) (scripts : List (List Request)) → present_or [] (workers_at format) (codes "workers") member ≡ Ok scripts → length scripts ≤ max_workers
few_scripts format member scripts is = elim (either_read [] (workers_at format) (codes "workers") member scripts is) [
  | inl none ↦ omega (arith, ap length none)
  | inr read ↦
      let a = bound (few_at max_workers TooManyWorkers (array_at (command_at format)) read.0) counted_scripts scripts read.1 in
      let same = all_counted a.0 scripts (nat_lt max_commands (command_total a.0)) a.2 in
      omega (arith, few_of max_workers TooManyWorkers (array_at (command_at format)) read.0 a.0 a.1, ap length same)
]

-- ---- the order

in_order : (scripts : List (List Request)) (numbers : List ℤ) (order : List ℕ) (is_one : Bool) → is_order (map length scripts) numbers ≡ is_one
    → cond is_one (Ok (map natural_of numbers)) (Err (here Schedule)) ≡ Ok order → IsOrder scripts order
in_order scripts numbers order true is h =
    let same : map natural_of numbers ≡ order = cc in
    subst (IsOrder scripts) same (given_orders scripts numbers is)
in_order scripts numbers order false is h = cc

orders : (scripts : List (List Request)) (member : Option Data) (order : Option (List ℕ)) → present_or None (λ v. some_of (order_at scripts v)) (codes "order") member ≡ Ok order → IsOrder scripts (chosen_order scripts order)
unfolding chosen_order
orders scripts member order is = elim (either_read None (λ v. some_of (order_at scripts v)) (codes "order") member order is) [
  | inl none ↦ rw none (turns_are_order scripts)
  | inr read ↦
      let a = some_read (order_at scripts read.0) order read.1 in
      let b = bound (array_at whole_at read.0) (ordered (map length scripts)) a.0 a.1 in
      rw a.2 (in_order scripts b.0 a.0 (is_order (map length scripts) b.0) refl b.2)
]

-- ---- the draft

with_order : NetworkDraft → List Filter → List (List Request) → Option (List ℕ) → Result JobDraft Fault
with_order network filters scripts order = Ok (record { network = network; filters = filters; scripts = scripts; order = order })

with_scripts : Data → NetworkDraft → List Filter → List (List Request) → Result JobDraft Fault
with_scripts d network filters scripts = optional_at (order_at scripts) (codes "order") d >>= with_order network filters scripts

with_filters : Data → Format → NetworkDraft → List Filter → Result JobDraft Fault
with_filters d format network filters = member_or [] (workers_at format) (codes "workers") d >>= with_scripts d network filters

with_network : Data → Format → NetworkDraft → Result JobDraft Fault
with_network d format network = member_or [] (listeners_at format) (codes "listeners") d >>= with_filters d format network

with_format : Data → Format → Result JobDraft Fault
with_format d format = member_at (network_at format) (codes "network") d >>= with_network d format

known : Data → ⊤ → Result JobDraft Fault
known d done = member_at (format_at One) (codes "format") d >>= with_format d

-- what a draft keeps
pub record IsDrafted (draft : JobDraft) : Type 0 where
  pub few : length draft.scripts ≤ max_workers
  pub ordered : IsOrder draft.scripts (chosen_order draft.scripts draft.order)

drafted : (d : Data) (draft : JobDraft) → draft_at d ≡ Ok draft → IsDrafted draft
unfolding draft_at known with_format with_network with_filters with_scripts with_order
drafted d draft is =
    let a = bound (only_at (codes "format" ∷ codes "network" ∷ codes "listeners" ∷ codes "workers" ∷ codes "order" ∷ []) d) (known d) draft is in
    let b = bound (member_at (format_at One) (codes "format") d) (with_format d) draft a.2 in
    let c = bound (member_at (network_at b.0) (codes "network") d) (with_network d b.0) draft b.2 in
    let e = bound (member_or [] (listeners_at b.0) (codes "listeners") d) (with_filters d b.0 c.0) draft c.2 in
    let f = bound (member_or [] (workers_at b.0) (codes "workers") d) (with_scripts d c.0 e.0) draft e.2 in
    let g = bound (optional_at (order_at f.0) (codes "order") d) (with_order c.0 e.0 f.0) draft f.2 in
    let made : JobDraft = record { network = c.0; filters = e.0; scripts = f.0; order = g.0 } in
    let same : made ≡ draft = cc in
    let kept : IsDrafted made = record {
      few = few_scripts b.0 (get (codes "workers") d) f.0 f.1;
      ordered = orders f.0 (get (codes "order") d) g.0 g.1;
    } in
    subst IsDrafted {x = made} same kept

-- ---- the job

no_fault : {A : Type 0} (read : Result A Fault) (x : A) → or_bad_job read ≡ Ok x → read ≡ Ok x
no_fault (Ok y) x is = cc
no_fault (Err fault) x is = cc

of_draft : (read : Result JobDraft JobFault) (job : Job) → job_in read ≡ Ok job → (draft : JobDraft) × (read ≡ Ok draft) × (or_bad_job (loaded draft) ≡ Ok job)
of_draft (Ok draft) job is = (draft, refl, is)
of_draft (Err fault) job is = cc

of_data : (data_read : Option Data) (draft : JobDraft) → draft_in data_read ≡ Ok draft → IsDrafted draft
of_data None draft is = cc
of_data (Some d) draft is = drafted d draft (no_fault (draft_at d) draft is)

with_loaded : JobDraft → Network → Result Job Fault
with_loaded draft network = Ok (record { network = network; filters = draft.filters; scripts = draft.scripts; order = draft.order })

of_loaded : (draft : JobDraft) (job : Job) → loaded draft ≡ Ok job → IsDrafted draft → IsScheduled job
unfolding loaded order_of with_loaded
of_loaded draft job is kept =
    let a = bound (network_load draft.network) (with_loaded draft) job is in
    let made : Job = record { network = a.0; filters = draft.filters; scripts = draft.scripts; order = draft.order } in
    let same : made ≡ job = cc in
    let scheduled_made : IsScheduled made = record { few = kept.few; ordered = kept.ordered } in
    subst IsScheduled same scheduled_made

scheduled : (bytes : List ℕ) (job : Job) → job_of bytes ≡ Ok job → IsScheduled job
unfolding job_of draft_of
scheduled bytes job is =
    let a = of_draft (draft_in (reading bytes)) job is in
    of_loaded a.0 job (no_fault (loaded a.0) job a.2) (of_data (reading bytes) a.0 a.1)

-- ---- the job that is a member

whole_scheduled : (d : Data) (job : Job) → whole_job_at d ≡ Ok job → IsScheduled job
unfolding whole_job_at
whole_scheduled d job is = let a = bound (draft_at d) loaded job is in of_loaded a.0 job a.2 (drafted d a.0 a.1)

member_scheduled : (found : Option Data) (job : Job) → present whole_job_at (codes "job") found ≡ Ok job → IsScheduled job
member_scheduled None job is = cc
member_scheduled (Some d) job is = whole_scheduled d job (inside (codes "job") (whole_job_at d) job is)

-- ---- with HVDC lines

hvdc_made : Job → List HvdcLine → ⊤ → Result HvdcJob Fault
hvdc_made job lines done = Ok (record { job = job; lines = lines })

hvdc_checked : Job → List HvdcLine → Result HvdcJob Fault
hvdc_checked job lines = under (codes "hvdc") (lines_check job.network [] 0 lines) >>= hvdc_made job lines

hvdc_lined : Data → Job → Result HvdcJob Fault
hvdc_lined d job = member_at (array_at line_at) (codes "hvdc") d >>= hvdc_checked job

hvdc_known : Data → ⊤ → Result HvdcJob Fault
hvdc_known d done = member_at whole_job_at (codes "job") d >>= hvdc_lined d

hvdc_read : (d : Data) (hvdc : HvdcJob) → hvdc_at d ≡ Ok hvdc → IsScheduled hvdc.job
unfolding hvdc_at hvdc_known hvdc_lined hvdc_checked hvdc_made
hvdc_read d hvdc is =
    let a = bound (only_at (codes "job" ∷ codes "hvdc" ∷ []) d) (hvdc_known d) hvdc is in
    let b = bound (member_at whole_job_at (codes "job") d) (hvdc_lined d) hvdc a.2 in
    let c = bound (member_at (array_at line_at) (codes "hvdc") d) (hvdc_checked b.0) hvdc b.2 in
    let e = bound (under (codes "hvdc") (lines_check b.0.network [] 0 c.0)) (hvdc_made b.0 c.0) hvdc c.2 in
    let made : HvdcJob = record { job = b.0; lines = c.0 } in
    let same : made ≡ hvdc = cc in
    subst (λ (h : HvdcJob). IsScheduled h.job) same (member_scheduled (get (codes "job") d) b.0 b.1)

hvdc_of_data : (data_read : Option Data) (hvdc : HvdcJob) → hvdc_job_in data_read ≡ Ok hvdc → IsScheduled hvdc.job
hvdc_of_data None hvdc is = cc
hvdc_of_data (Some d) hvdc is = hvdc_read d hvdc (no_fault (hvdc_at d) hvdc is)

hvdc_scheduled : (bytes : List ℕ) (hvdc : HvdcJob) → hvdc_job_of bytes ≡ Ok hvdc → IsScheduled hvdc.job
unfolding hvdc_job_of
hvdc_scheduled bytes hvdc is = hvdc_of_data (reading bytes) hvdc is

-- ---- with contingencies, in the first format

first_made : Job → List Contingency → Result ScreenJob Fault
first_made job contingencies = Ok (record { format = One; job = job; variant = None; contingencies = contingencies; each = []; only = told.All })

first_listed : Data → Job → Result ScreenJob Fault
first_listed d job = member_at (contingencies_at One) (codes "contingencies") d >>= first_made job

first_known : Data → ⊤ → Result ScreenJob Fault
first_known d done = member_at whole_job_at (codes "job") d >>= first_listed d

first_read : (d : Data) (screened : ScreenJob) → first_root_at d ≡ Ok screened → IsScheduled screened.job
unfolding first_root_at first_known first_listed first_made
first_read d screened is =
    let a = bound (only_at (codes "format" ∷ codes "job" ∷ codes "contingencies" ∷ []) d) (first_known d) screened is in
    let b = bound (member_at whole_job_at (codes "job") d) (first_listed d) screened a.2 in
    let c = bound (member_at (contingencies_at One) (codes "contingencies") d) (first_made b.0) screened b.2 in
    let made : ScreenJob = record { format = One; job = b.0; variant = None; contingencies = c.0; each = []; only = told.All } in
    let same : made ≡ screened = cc in
    subst (λ (s : ScreenJob). IsScheduled s.job) same (member_scheduled (get (codes "job") d) b.0 b.1)

-- ---- in the second

second_made : Job → Option (List ℕ) → List Contingency → List Each → Told → Result ScreenJob Fault
second_made job variant contingencies each only = Ok (record { format = Two; job = job; variant = variant; contingencies = contingencies; each = each; only = only })

second_each : Data → Job → Option (List ℕ) → List Contingency → List Each → Result ScreenJob Fault
second_each d job variant contingencies each = member_or told.All told_at (codes "only") d >>= second_made job variant contingencies each

second_listed : Data → Job → Option (List ℕ) → List Contingency → Result ScreenJob Fault
second_listed d job variant contingencies = member_or [] (each_at job.network (length contingencies)) (codes "each") d >>= second_each d job variant contingencies

second_named : Data → Job → Option (List ℕ) → Result ScreenJob Fault
second_named d job variant = member_at (contingencies_at Two) (codes "contingencies") d >>= second_listed d job variant

second_job : Data → Job → Result ScreenJob Fault
second_job d job = optional_at id_at (codes "variant") d >>= second_named d job

second_known : Data → ⊤ → Result ScreenJob Fault
second_known d done = member_at whole_job_at (codes "job") d >>= second_job d

second_read : (d : Data) (screened : ScreenJob) → second_root_at d ≡ Ok screened → IsScheduled screened.job
unfolding second_root_at second_known second_job second_named second_listed second_each second_made
second_read d screened is =
    let a = bound (only_at (codes "format" ∷ codes "job" ∷ codes "variant" ∷ codes "contingencies" ∷ codes "each" ∷ codes "only" ∷ []) d) (second_known d) screened is in
    let b = bound (member_at whole_job_at (codes "job") d) (second_job d) screened a.2 in
    let c = bound (optional_at id_at (codes "variant") d) (second_named d b.0) screened b.2 in
    let e = bound (member_at (contingencies_at Two) (codes "contingencies") d) (second_listed d b.0 c.0) screened c.2 in
    let f = bound (member_or [] (each_at b.0.network (length e.0)) (codes "each") d) (second_each d b.0 c.0 e.0) screened e.2 in
    let g = bound (member_or told.All told_at (codes "only") d) (second_made b.0 c.0 e.0 f.0) screened f.2 in
    let made : ScreenJob = record { format = Two; job = b.0; variant = c.0; contingencies = e.0; each = f.0; only = g.0 } in
    let same : made ≡ screened = cc in
    subst (λ (s : ScreenJob). IsScheduled s.job) same (member_scheduled (get (codes "job") d) b.0 b.1)

-- ---- in either

root_read : (format : Format) (d : Data) (screened : ScreenJob) → root_at format d ≡ Ok screened → IsScheduled screened.job
root_read One d screened is = first_read d screened is
root_read Two d screened is = second_read d screened is
root_read Three d screened is = second_read d screened is
root_read Four d screened is = second_read d screened is
root_read Five d screened is = second_read d screened is

in_format : Data → Format → Result ScreenJob Fault
in_format d format = root_at format d

screen_known : Data → ⊤ → Result ScreenJob Fault
screen_known d done = member_or One screening.format_at (codes "format") d >>= in_format d

screen_read : (d : Data) (screened : ScreenJob) → screen_at d ≡ Ok screened → IsScheduled screened.job
unfolding screen_at screen_known in_format
screen_read d screened is =
    let a = bound (object_at d) (screen_known d) screened is in
    let b = bound (member_or One screening.format_at (codes "format") d) (in_format d) screened a.2 in
    root_read b.0 d screened b.2

screen_of_data : (data_read : Option Data) (screened : ScreenJob) → screen_job_in data_read ≡ Ok screened → IsScheduled screened.job
screen_of_data None screened is = cc
screen_of_data (Some d) screened is = screen_read d screened (no_fault (screen_at d) screened is)

screen_scheduled : (bytes : List ℕ) (screened : ScreenJob) → screen_job_of bytes ≡ Ok screened → IsScheduled screened.job
unfolding screen_job_of
screen_scheduled bytes screened is = screen_of_data (reading bytes) screened is

-- ---- of a network with configured buses

given_or_turns : (scripts : List (List Request)) (order : Option (List ℕ)) → IsOrdered scripts order → IsOrder scripts (chosen_order scripts order)
unfolding chosen_order
given_or_turns scripts None is = turns_are_order scripts
given_or_turns scripts (Some order) is = subst (IsOrder scripts) (sym is.2) (given_orders scripts is.0 is.1)

runnable : (job : ConfiguredJob) → IsTranslatable job.network → All (All IsConfiguredRequest) job.scripts → length job.scripts ≤ max_workers → IsOrdered job.scripts job.order → IsRunnable job
runnable job network plain few order = record { network = network; plain = plain; few = few; ordered = given_or_turns job.scripts job.order order }

-- ---- what is known of a job that was read

known_of : {J : Type 0} (of : List ℕ → Result J JobFault) (P : J → Type 0) (bytes : List ℕ) (read : Result J JobFault) → ((job : J) → of bytes ≡ Ok job → P job) → JobGives read (of bytes) → IfOk read P
known_of of P bytes (Ok job) all gives = all job gives
known_of of P bytes (Err fault) all gives = tt

pub job_counted : (bytes : List ℕ) (read : Result Job JobFault) → JobGives read (job_of bytes) → IfOk read (λ job. command_total job.scripts ≤ max_commands) → IfOk read IsCounted
job_counted bytes (Ok job) gives few = record { scheduled = scheduled bytes job gives; few = few }
job_counted bytes (Err fault) gives few = tt

pub hvdc_known_scheduled : (bytes : List ℕ) (read : Result HvdcJob JobFault) → JobGives read (hvdc_job_of bytes) → IfOk read (λ hvdc. IsScheduled hvdc.job)
hvdc_known_scheduled bytes read gives = known_of hvdc_job_of (λ hvdc. IsScheduled hvdc.job) bytes read (hvdc_scheduled bytes) gives

pub screen_known_scheduled : (bytes : List ℕ) (read : Result ScreenJob JobFault) → JobGives read (screen_job_of bytes) → IfOk read (λ screened. IsScheduled screened.job)
screen_known_scheduled bytes read gives = known_of screen_job_of (λ screened. IsScheduled screened.job) bytes read (screen_scheduled bytes) gives

pub configured_runnable : (read : Result ConfiguredJob JobFault) → IfOk read (λ job. IsTranslatable job.network) → IfOk read (λ job. All (All IsConfiguredRequest) job.scripts) → IfOk read (λ job. length job.scripts ≤ max_workers)
    → IfOk read (λ job. IsOrdered job.scripts job.order) → IfOk read IsRunnable
configured_runnable (Ok job) network plain few order = runnable job network plain few order
configured_runnable (Err fault) network plain few order = tt
