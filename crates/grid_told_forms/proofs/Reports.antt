-- The lines of configured outcomes.
use Rattle.std.proofs.Common.{◌≡◌, ℕ, zero, suc, ◌+◌, ◌<◌, ◌≤◌, ◌==◌, Bool, true, false, ◌||◌, List, [], ◌∷◌, ◌++◌, map, filter, cond, length, take, refl, sym, ap, ap₂, ◌∙◌, subst, arith, append-nil}
use Rattle.std.specs.Prelude.{⊤, IsUtf8, codes}
use Rattle.std.specs.Str.{bytes_eq}
use Rattle.std.specs.List.{AllByRecursion, flat_map, range_with_len, count_by}
use Rattle.std.proofs.lemmas.List.{length-take, map-append}
use Rattle.std.proofs.lemmas.List.Sums.{count_by-le-length}
use Rattle.serde_json.specs.Data.{Data}
use Rattle.grid_requests.specs.declared.request.Request.{Request}
use Rattle.grid_print.specs.Objects.{array_of, natural}
use Rattle.grid_print.specs.Command.{request_value}
use Rattle.grid_print.proofs.Each.{each_of, of_each}
use Rattle.grid_jsonl.specs.Trees.{ordered}
use Rattle.grid_jsonl.specs.Outcomes.{order_of, variant_object, end_of}
use Rattle.grid_configured.specs.declared.view.ConfiguredView.{ConfiguredView}
use Rattle.grid_configured.specs.declared.reply.ConfiguredReply.{ConfiguredReply}
use Rattle.grid_configured.specs.declared.outcome.ConfiguredVariant.{ConfiguredVariant}
use Rattle.grid_configured.specs.Texts.{Told, Report}
use Rattle.grid_configured.specs.Lines.{Placed, placed_at, placed_from, reply_value, buses_value, is_refused, command_object, worker_objects, level_object, variant_objects, counts_of, objects}
use Rattle.grid_told.specs.Held.{IsUnsigned}
use Rattle.grid_told.specs.Shapes.{IsReadable, IsReadBack}
use Rattle.grid_told.proofs.Each.{each_append, each_map, each_flat, each_filter, all_of}
use Rattle.grid_told.proofs.Fields.{text_of, natural_of, list_of, at}
use Rattle.grid_told.proofs.Readable.{word_readable, text_readable, natural_readable, array_readable, ordered_readable, deeper}
use Rattle.grid_told.proofs.Commands.{request_readable}
use Rattle.grid_told.proofs.CommandsTold.{request_in, request_back}
use Rattle.grid_told.proofs.ObjectFilters.{Passing, front, back}
use Rattle.grid_told.proofs.WorkerMerges.{own, grouped, told_by_groups}
use Rattle.grid_told.proofs.Lines.{wholes_of}
use Rattle.grid_told.proofs.ReadBack.{all_read}
use Rattle.grid_told_forms.specs.Reports.{IsView, IsTold, IsLive, IsHeld, Fits, IsFitting}
use Rattle.grid_told_forms.specs.Laws.{ReportsAreReadBack, ReportsAreTold}
use Rattle.grid_told_forms.proofs.Between.{same_between}
use Rattle.grid_told_forms.proofs.Views.{buses_readable, reply_readable, bus_in, buses_back, reply_in, reply_back}

abbrev Readable : Data → Type 0
Readable d = IsReadable 6 d

-- ---- readable

record IsPlaced (s : Placed) : Type 0 where
  place : IsUnsigned s.place
  number : IsUnsigned s.number
  told : IsTold s.told

placed_held : (all : List Told) → IsUnsigned (length all) → (place : ℕ) (rest : List Told) → place + length rest ≤ length all → AllByRecursion IsTold rest → AllByRecursion IsPlaced (placed_from all place rest)
unfolding placed_from placed_at
placed_held all few place [] within h = tt
placed_held all few place (t ∷ rest) within h =
    let less = count_by-le-length (λ (u : Told). u.worker == t.worker) (take (suc place) all) in
    let long = length-take (suc place) all in
    (record { place = omega (arith, few, within); number = omega (arith, few, less, long); told = h.0 }, placed_held all few (suc place) rest (omega (arith, within)) h.1)

order_readable : (told : List Told) → AllByRecursion IsTold told → Readable (order_of (λ t. t.worker) told)
order_readable told h =
    deeper 2 6 _ (omega arith) (ordered_readable 1 _ refl (word_readable 1 _ refl, (array_readable IsTold 0 (λ t. natural t.worker) (λ t k. natural_readable 0 t.worker k.worker) told h, tt)))

command_readable : (s : Placed) → IsPlaced s → Readable (command_object s)
unfolding command_object
command_readable s h = ordered_readable 5 _ refl (
  word_readable 5 _ refl,
  (
    natural_readable 5 s.place h.place,
    (
      natural_readable 5 s.told.worker h.told.worker,
      (
        natural_readable 5 s.number h.number,
        (
          text_readable 5 s.told.variant h.told.variant,
          (deeper 3 5 (request_value s.told.request) (omega arith) (request_readable s.told.request h.told.request), (reply_readable s.told.reply h.told.reply, tt)),
        ),
      ),
    ),
  ),
)

worker_readable : (told : List Told) → IsUnsigned (length told) → AllByRecursion IsTold told → (worker : ℕ) → AllByRecursion Readable (worker_objects told worker)
unfolding worker_objects
worker_readable told few h worker =
    each_map IsPlaced Readable command_object command_readable (filter (λ s. s.told.worker == worker) (placed_from told 0 told))
    (each_filter IsPlaced (λ s. s.told.worker == worker) (placed_from told 0 told) (placed_held told few 0 told (omega arith) h))

name_readable : (name : List ℕ) → IsUtf8 name → Readable (variant_object name)
unfolding variant_object
name_readable name h = ordered_readable 5 _ refl (word_readable 5 _ refl, (text_readable 5 name h, tt))

level_readable : (name : List ℕ) → IsUtf8 name → (v : ConfiguredView) → IsView v → Readable (level_object name v)
unfolding level_object
level_readable name known v h = ordered_readable 5 _ refl (
  word_readable 5 _ refl,
  (text_readable 5 name known, (text_readable 5 v.level h.level, (deeper 4 5 (buses_value v) (omega arith) (buses_readable v h), tt))),
)

variant_readable : (v : ConfiguredVariant) → IsLive v → AllByRecursion Readable (variant_objects v)
unfolding variant_objects
variant_readable v h = (name_readable v.name h.name, each_map IsView Readable (level_object v.name) (level_readable v.name h.name) v.views (each_of IsView v.views h.views))

end_readable : (r : Report) → IsHeld r → Readable (end_of (counts_of r))
unfolding end_of counts_of
end_readable r h =
    let few = count_by-le-length (λ (t : Told). is_refused t.reply) r.told in
    ordered_readable 5 _ refl (
      word_readable 5 _ refl,
      (
        natural_readable 5 r.workers h.workers,
        (
          natural_readable 5 (length r.told) h.commands,
          (natural_readable 5 (count_by (λ t. is_refused t.reply) r.told) (omega (arith, h.commands, few)), (natural_readable 5 (length r.views) h.variants, (natural_readable 5 0 (omega arith), tt))),
        ),
      ),
    )

abbrev commands_of : Report → List Data
commands_of r = flat_map (worker_objects r.told) (range_with_len 0 r.workers)

abbrev variants_of : Report → List Data
variants_of r = flat_map variant_objects r.views

middle_readable : (r : Report) → IsHeld r → AllByRecursion Readable (commands_of r ++ variants_of r)
middle_readable r h =
    each_append Readable (commands_of r) (variants_of r)
    (each_flat (λ worker. ⊤) Readable (worker_objects r.told) (λ worker k. worker_readable r.told h.commands (each_of IsTold r.told h.told) worker) (range_with_len 0 r.workers) (all_of (λ worker. ⊤) (λ worker. tt) (range_with_len 0 r.workers)))
    (each_flat IsLive Readable variant_objects variant_readable r.views (each_of IsLive r.views h.views))

pub reports_are_read_back : ReportsAreReadBack
unfolding objects
reports_are_read_back r h =
    let all : AllByRecursion Readable (objects r) = (order_readable r.told (each_of IsTold r.told h.told), each_append Readable (commands_of r ++ variants_of r) (end_of (counts_of r) ∷ []) (middle_readable r h) (end_readable r h, tt)) in
    of_each IsReadBack (objects r) (all_read (objects r) all)

-- ---- kinds

abbrev kind_of : Data → List ℕ
kind_of d = text_of (at (codes "kind") d)

command_kind : (s : Placed) → kind_of (command_object s) ≡ codes "command"
unfolding command_object ordered
command_kind s = refl

variant_kind : (name : List ℕ) → kind_of (variant_object name) ≡ codes "variant"
unfolding variant_object ordered
variant_kind name = refl

level_kind : (name : List ℕ) (v : ConfiguredView) → kind_of (level_object name v) ≡ codes "level"
unfolding level_object ordered
level_kind name v = refl

module _ (test : List ℕ → Bool) (b : Bool) where
  commands_pass : (r : Report) → test (codes "command") ≡ b → Passing (λ d. test (kind_of d)) b (commands_of r)
  unfolding worker_objects
  commands_pass r h =
      each_flat (λ worker. ⊤) (λ d. test (kind_of d) ≡ b) (worker_objects r.told)
      (λ worker k. each_map (λ s. ⊤) (λ d. test (kind_of d) ≡ b) command_object (λ s k. ap test (command_kind s) ∙ h) (filter (λ s. s.told.worker == worker) (placed_from r.told 0 r.told))
      (all_of (λ s. ⊤) (λ s. tt) (filter (λ s. s.told.worker == worker) (placed_from r.told 0 r.told))))
      (range_with_len 0 r.workers) (all_of (λ worker. ⊤) (λ worker. tt) (range_with_len 0 r.workers))

  variants_pass : (r : Report) → test (codes "variant") ≡ b → test (codes "level") ≡ b → Passing (λ d. test (kind_of d)) b (variants_of r)
  unfolding variant_objects
  variants_pass r h k =
      each_flat (λ v. ⊤) (λ d. test (kind_of d) ≡ b) variant_objects
      (λ v l. (ap test (variant_kind v.name) ∙ h, each_map (λ x. ⊤) (λ d. test (kind_of d) ≡ b) (level_object v.name) (λ x l. ap test (level_kind v.name x) ∙ k) v.views (all_of (λ x. ⊤) (λ x. tt) v.views)))
      r.views (all_of (λ v. ⊤) (λ v. tt) r.views)

abbrev is_command : List ℕ → Bool
is_command kind = bytes_eq kind (codes "command")

abbrev is_view : List ℕ → Bool
is_view kind = bytes_eq kind (codes "variant") || bytes_eq kind (codes "level")

commands_picked : (r : Report) → filter (λ d. is_command (kind_of d)) (commands_of r ++ variants_of r) ≡ commands_of r
commands_picked r = front (λ d. is_command (kind_of d)) (commands_of r) (variants_of r) (commands_pass is_command true r refl) (variants_pass is_command false r refl refl)

variants_picked : (r : Report) → filter (λ d. is_view (kind_of d)) (commands_of r ++ variants_of r) ≡ variants_of r
variants_picked r = back (λ d. is_view (kind_of d)) (commands_of r) (variants_of r) (commands_pass is_view false r refl) (variants_pass is_view true r refl refl)

-- ---- steps

unfoldable pub told_in : Data → Told
told_in d = record {
  worker = natural_of (at (codes "worker") d);
  variant = text_of (at (codes "variant") d);
  request = request_in (at (codes "command") d);
  reply = reply_in (request_in (at (codes "command") d)) (at (codes "reply") d);
}

abbrev IsSaid : Told → Type 0
IsSaid t = IsTold t × Fits t.request t.reply

told_back : (s : Placed) → IsSaid s.told → told_in (command_object s) ≡ s.told
unfolding command_object ordered told_in
told_back s h =
    ap (λ (q : Request). record { worker = s.told.worker; variant = s.told.variant; request = q; reply = reply_in q (reply_value s.told.reply) }) (request_back s.told.request)
    ∙ ap (λ (y : ConfiguredReply). record { worker = s.told.worker; variant = s.told.variant; request = s.told.request; reply = y }) (reply_back s.told.request s.told.reply h.0.reply h.1)

abbrev worker_of : Told → ℕ
worker_of t = t.worker

abbrev said : Placed → Told
said s = s.told

own_told : (worker : ℕ) (all : List Placed) → AllByRecursion (λ s. IsSaid s.told) all
    → map told_in (map command_object (filter (λ s. s.told.worker == worker) all)) ≡ own worker_of worker (map said all)
own_told worker [] h = refl
own_told worker (s ∷ all) h = by (s.told.worker == worker) (own_told worker all h.1)
  where
    by : (b : Bool) → map told_in (map command_object (filter (λ s. s.told.worker == worker) all)) ≡ own worker_of worker (map said all)
        → map told_in (map command_object (cond b (s ∷ filter (λ s. s.told.worker == worker) all) (filter (λ s. s.told.worker == worker) all))) ≡ cond b (s.told ∷ own worker_of worker (map said all)) (own worker_of worker (map said all))
    by true e = ap₂ (λ x xs. x ∷ xs) (told_back s h.0) e
    by false e = e

placed_said : (all : List Told) (place : ℕ) (rest : List Told) → map said (placed_from all place rest) ≡ rest
unfolding placed_from placed_at
placed_said all place [] = refl
placed_said all place (t ∷ rest) = ap (λ l. t ∷ l) (placed_said all (suc place) rest)

placed_are : (all : List Told) (place : ℕ) (rest : List Told) → AllByRecursion IsSaid rest → AllByRecursion (λ s. IsSaid s.told) (placed_from all place rest)
unfolding placed_from placed_at
placed_are all place [] h = tt
placed_are all place (t ∷ rest) h = (h.0, placed_are all (suc place) rest h.1)

grouped_told : (first count : ℕ) (told : List Told) → AllByRecursion IsSaid told → map told_in (flat_map (worker_objects told) (range_with_len first count)) ≡ grouped worker_of first count told
unfolding worker_objects
grouped_told first zero told h = refl
grouped_told first (suc count) told h =
    map-append told_in (worker_objects told first) (flat_map (worker_objects told) (range_with_len (first + 1) count))
    ∙ ap₂ (λ a b. a ++ b) (own_told first (placed_from told 0 told) (placed_are told 0 told h) ∙ ap (own worker_of first) (placed_said told 0 told)) (grouped_told (first + 1) count told h)

both : (told : List Told) → AllByRecursion IsTold told → AllByRecursion (λ t. Fits t.request t.reply) told → AllByRecursion IsSaid told
both [] h k = tt
both (t ∷ told) h k = ((h.0, k.0), both told h.1 k.1)

commands_told : (r : Report) → IsHeld r → IsFitting r → map told_in (commands_of r) ≡ grouped worker_of 0 r.workers r.told
commands_told r held fitting = grouped_told 0 r.workers r.told (both r.told (each_of IsTold r.told held.told) (each_of (λ t. Fits t.request t.reply) r.told fitting.replies))

abbrev workers_in : Data → List ℕ
workers_in d = map natural_of (list_of (at (codes "order") d))

listed_workers : (told : List Told) → map natural_of (list_of (array_of (λ (t : Told). natural t.worker) told)) ≡ map worker_of told
listed_workers [] = refl
listed_workers (t ∷ told) = ap (λ l. t.worker ∷ l) (listed_workers told)

order_told : (told : List Told) → workers_in (order_of (λ t. t.worker) told) ≡ map worker_of told
unfolding ordered
order_told told = listed_workers told

workers_counted : (r : Report) → natural_of (at (codes "workers") (end_of (counts_of r))) ≡ r.workers
unfolding end_of counts_of ordered
workers_counted r = refl

-- ---- variants

unfoldable pub level_in : Data → ConfiguredView
level_in d = record { level = text_of (at (codes "level") d); buses = map (bus_in (text_of (at (codes "level") d))) (list_of (at (codes "buses") d)) }

level_back : (name : List ℕ) (v : ConfiguredView) → IsView v → level_in (level_object name v) ≡ v
unfolding level_in level_object ordered
level_back name v h = ap (λ b. record { level = v.level; buses = b }) (buses_back v h)

unfoldable pub name_in : Data → List ℕ
name_in d = text_of (at (codes "variant") d)

name_back : (name : List ℕ) → name_in (variant_object name) ≡ name
unfolding name_in variant_object ordered
name_back name = refl

abbrev begins : Data → Bool
begins d = bytes_eq (kind_of d) (codes "variant")

abbrev Cut : Type 0
Cut = List ConfiguredView × List ConfiguredVariant

abbrev cut_by : Bool → Data → Cut → Cut
cut_by true d rest = ([], record { name = name_in d; views = rest.0 } ∷ rest.1)
cut_by false d rest = (level_in d ∷ rest.0, rest.1)

-- the levels before the first variant, and the variants
abbrev cut : List Data → Cut
cut [] = ([], [])
cut (d ∷ ds) = cut_by (begins d) d (cut ds)

levels_cut : (name : List ℕ) (vs : List ConfiguredView) (rest : List Data) → AllByRecursion IsView vs → cut (map (level_object name) vs ++ rest) ≡ (vs ++ (cut rest).0, (cut rest).1)
levels_cut name [] rest h = refl
levels_cut name (v ∷ vs) rest h =
    ap (λ kind. cut_by (bytes_eq kind (codes "variant")) (level_object name v) (cut (map (level_object name) vs ++ rest))) (level_kind name v)
    ∙ ap₂ (λ x (c : Cut). (x ∷ c.0, c.1)) (level_back name v h.0) (levels_cut name vs rest h.1)

variants_cut : (views : List ConfiguredVariant) → AllByRecursion IsLive views → cut (flat_map variant_objects views) ≡ ([], views)
unfolding variant_objects
variants_cut [] h = refl
variants_cut (v ∷ views) h =
    let rest = flat_map variant_objects views in
    let levels = map (level_object v.name) v.views ++ rest in
    ap (λ kind. cut_by (bytes_eq kind (codes "variant")) (variant_object v.name) (cut levels)) (variant_kind v.name)
    ∙ ap (λ (c : Cut). cut_by true (variant_object v.name) c) (levels_cut v.name v.views rest (each_of IsView v.views h.0.views) ∙ ap (λ (c : Cut). (v.views ++ c.0, c.1)) (variants_cut views h.1))
    ∙ ap₂ (λ (n : List ℕ) (l : List ConfiguredView). ([], record { name = n; views = l } ∷ views)) (name_back v.name) (append-nil v.views)

views_cut : (r : Report) → IsHeld r → (cut (variants_of r)).1 ≡ r.views
views_cut r h = ap (λ (c : Cut). c.1) (variants_cut r.views (each_of IsLive r.views h.views))

-- ---- reports

pub reports_are_told : ReportsAreTold
unfolding objects
reports_are_told r s h k fits also e =
    let order = order_of (λ (t : Told). t.worker) r.told in
    let other = order_of (λ (t : Told). t.worker) s.told in
    let same = same_between order other (end_of (counts_of r)) (end_of (counts_of s)) (commands_of r ++ variants_of r) (commands_of s ++ variants_of s)
    (order_readable r.told (each_of IsTold r.told h.told)).wholes (order_readable s.told (each_of IsTold s.told k.told)).wholes (end_readable r h).wholes (end_readable s k).wholes
    (wholes_of (commands_of r ++ variants_of r) (middle_readable r h)) (wholes_of (commands_of s ++ variants_of s) (middle_readable s k)) e in
    let commands : commands_of r ≡ commands_of s = sym (commands_picked r) ∙ ap (filter (λ d. is_command (kind_of d))) same.between ∙ commands_picked s in
    let variants : variants_of r ≡ variants_of s = sym (variants_picked r) ∙ ap (filter (λ d. is_view (kind_of d))) same.between ∙ variants_picked s in
    let workers : r.workers ≡ s.workers = sym (workers_counted r) ∙ ap (λ d. natural_of (at (codes "workers") d)) same.last_is ∙ workers_counted s in
    let views : r.views ≡ s.views = sym (views_cut r h) ∙ ap (λ ds. (cut ds).1) variants ∙ views_cut s k in
    let told : r.told ≡ s.told = told_by_groups worker_of r.workers r.told s.told (each_of (λ t. t.worker < r.workers) r.told fits.workers)
    (subst (λ n. AllByRecursion (λ t. worker_of t < n) s.told) (sym workers) (each_of (λ t. t.worker < s.workers) s.told also.workers))
    (sym (order_told r.told) ∙ ap workers_in same.first_is ∙ order_told s.told)
    (sym (commands_told r h fits) ∙ ap (map told_in) commands ∙ commands_told s k also ∙ ap (λ n. grouped worker_of 0 n s.told) (sym workers)) in
    ap₂ (λ (t : List Told) (n : ℕ). record { told = t; workers = n; views = r.views }) told workers ∙ ap (λ (v : List ConfiguredVariant). record { told = s.told; workers = s.workers; views = v }) views
