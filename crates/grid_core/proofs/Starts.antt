-- A world at its start.
use Rattle.std.proofs.Common.{◌≡◌, refl, sym, ap, ◌∙◌, ℕ, ℤ, zero, suc, ◌+◌, ◌<◌, ◌≤◌, Bool, true, false, cond, List, [], ◌∷◌, ◌++◌, length, map, take, Some, None, replicate, arith}
use Rattle.std.specs.Prelude.{slice_get, filter_map}
use Rattle.std.specs.Option.{option_map}
use Rattle.std.specs.List.{cons_option}
use Rattle.std.proofs.lemmas.Int.{ints}
use Rattle.std.proofs.lemmas.List.{map_more}
use Rattle.std.proofs.lemmas.List.Elements.{All-nil}
use Rattle.std.proofs.lemmas.Option.{slice_get_within}
use Rattle.grid_level.specs.declared.Placed.{Placed}
use Rattle.grid_level.specs.VoltageLevel.{VoltageLevel}
use Rattle.grid_structure.specs.Network.{Network}
use Rattle.grid_structure.specs.Sites.{levels}
use Rattle.grid_structure.specs.Soundness.{IsSound}
use Rattle.grid_states.specs.declared.page.Content.{Content}
use Rattle.grid_states.specs.declared.row.NodeWatts.{NodeWatts}
use Rattle.grid_states.specs.declared.sums.Shift.{Shift}
use Rattle.grid_states.specs.Pairs.{pair}
use Rattle.grid_states.specs.Sums.{shift_by}
use Rattle.grid_states.specs.Rows.{Rows, HasRoom, rows_in, shifted}
use Rattle.grid_slots.specs.Variant.{Variant}
use Rattle.grid_slots.specs.Names.{initial_state}
use Rattle.grid_slots.specs.Variants.{names}
use Rattle.grid_slots.specs.Places.{variant}
use Rattle.grid_powers.specs.Listed.{value_in}
use Rattle.grid_watts.specs.Watts.{is_powered, load_total, generation_total}
use Rattle.grid_watts.specs.Nodes.{listed_pair, listed_row, listed_rows, IsListing}
use Rattle.grid_core.specs.declared.journal.Entry.{Entry}
use Rattle.grid_core.specs.declared.machine.Machine.{Machine}
use Rattle.grid_core.specs.Solo.{page_of, record_rows, opening, state_rows, after}
use Rattle.grid_core.specs.History.{Command, lineage}
use Rattle.grid_core.specs.Replies.{state_of}
use Rattle.grid_core.specs.Journals.{journal_of, steps_told}
use Rattle.grid_core.specs.Worlds.{IsWorld, history_of, begun}
use Rattle.grid_core.proofs.Together.{parts_start}
use Rattle.grid_core.proofs.JournalEntries.{none_told}
use Rattle.grid_core.proofs.VariantSteps.{got_is}
use Rattle.grid_core.proofs.WorldSteps.{history}

-- ---- rows

pub rows_more : {X Y : Type 0} (f : X → Y) (xs : List X) (k : ℕ) (x : X) (rows next : List Y) → slice_get xs k ≡ Some x → rows ≡ map f (take k xs) → next ≡ rows ++ f x ∷ [] → next ≡ map f (take (k + 1) xs)
rows_more f xs k x rows next at before more =
    more ∙ ap (λ z. z ++ f x ∷ []) before ∙ ap (λ z. map f (take k xs) ++ f z ∷ []) (sym (got_is xs k x x at)) ∙ sym (map_more f xs k x (slice_get_within xs k x at))

map_twice : {X Y Z : Type 0} (f : Y → Z) (g : X → Y) (xs : List X) → map f (map g xs) ≡ map (λ x. f (g x)) xs
map_twice f g [] = refl
map_twice f g (x ∷ xs) = ap (λ z. f (g x) ∷ z) (map_twice f g xs)

-- nothing is listed of a level
none_listed : (ps : List Placed) → filter_map (listed_pair []) ps ≡ []
unfolding listed_pair
none_listed [] = refl
none_listed (p ∷ ps) = by (is_powered p.stand) (none_listed ps)
  where
    by : (t : Bool) → filter_map (listed_pair []) ps ≡ [] → cons_option (cond t (option_map (pair p.node) (value_in [] p.terminal.equipment)) None) (filter_map (listed_pair []) ps) ≡ []
    by true h = h
    by false h = h

no_pairs : (ls : List VoltageLevel) → map (λ (l : VoltageLevel). (page_of l).watts) ls ≡ map (listed_row []) ls
unfolding listed_row
no_pairs [] = refl
no_pairs (l ∷ ls) = ap (λ z. [] ∷ z) (no_pairs ls) ∙ ap (λ z. z ∷ map (listed_row []) ls) (sym (none_listed l.placed))

-- the pages of the records, with their sums, are the first rows
pub pages_seen : (net : Network) (pages : List Content) (by : Shift) → pages ≡ map page_of (levels net) → by ≡ shift_by (load_total net []) (generation_total net []) → shifted by (rows_in pages) ≡ state_rows (opening net)
unfolding rows_in opening record_rows shifted listed_rows
pages_seen net pages by are sums =
    ap (λ (z : List Content). shifted by (rows_in z)) are ∙ ap (λ (z : Shift). shifted z (rows_in (map page_of (levels net)))) sums
    ∙ rows_alike (map_twice (λ (p : Content). p.opened) page_of (levels net)) (map_twice (λ (p : Content). p.retained) page_of (levels net)) (map_twice (λ (p : Content). p.watts) page_of (levels net) ∙ no_pairs (levels net))
    (omega (arith, ints)) (omega (arith, ints))
  where
    rows_alike : {o p r s : List (List Bool)} {w u : List (List NodeWatts)} {l k g j : ℤ} → o ≡ p → r ≡ s → w ≡ u → l ≡ k → g ≡ j
        → ◌≡◌ {A = Rows} (record { opened = o; retained = r; watts = w; load = l; generation = g }) (record { opened = p; retained = s; watts = u; load = k; generation = j })
    rows_alike a b c d e = rw (a, b, c, d, e) refl

-- sums of 0 have room
pub pages_room : (pages : List Content) → HasRoom (rows_in pages)
unfolding rows_in
pages_room pages = record { load_low = omega (arith, ints); load_high = omega (arith, ints); generation_low = omega (arith, ints); generation_high = omega (arith, ints) }

pub take_whole : {X : Type 0} (xs : List X) (k : ℕ) → length xs ≤ k → take k xs ≡ xs
take_whole [] zero h = refl
take_whole [] (suc k) h = refl
take_whole (x ∷ xs) zero h = absurd (omega arith)
take_whole (x ∷ xs) (suc k) h = ap (λ z. x ∷ z) (take_whole xs k (omega arith))

-- ---- names

length-replicate : {X : Type 0} (n : ℕ) (x : X) → length (replicate n x) ≡ n
length-replicate zero x = refl
length-replicate (suc n) x = ap suc (length-replicate n x)

-- the initial variant's name is the first
pub first_name : (slots : List Variant) (rows : Rows) (name : List ℕ) → slots ≡ variant initial_state 0 rows ∷ [] → slice_get (names slots) 0 ≡ Some name → name ≡ initial_state
unfolding names
first_name slots rows name are at =
    let here : slice_get (names (variant initial_state 0 rows ∷ [])) 0 ≡ Some name = ap (λ z. slice_get (names z) 0) (sym are) ∙ at in
    let first : Some initial_state ≡ Some name = here in cc

-- ---- a world

pub world_begun : (origin value : Network) (m : Machine) (journal : List Entry) (workers : ℕ) → value ≡ origin → IsSound origin → m.structure ≡ origin → m.slots ≡ variant initial_state 0 (state_rows (opening origin)) ∷ []
    → m.working.items ≡ replicate workers initial_state → IsListing origin [] → journal ≡ [] → IsWorld value m journal
unfolding journal_of opening state_of lineage after
world_begun origin value m journal workers same sound st sl wo listing none =
    let parts = parts_start origin workers sound in
    let told : steps_told journal ≡ [] = ap steps_told none ∙ none_told in
    record {
      held = rw (same, told) (record { parts = rw (st, sl, wo) parts; listing = λ name alive. rw st listing });
      told = rw (told) none;
      by_workers = rw (told) (All-nil (λ (s : Command). s.worker < length m.working.items));
    }

pub seen_begun : (origin value : Network) (m : Machine) (journal : List Entry) (workers : ℕ) (name : List ℕ) → value ≡ origin → m.working.items ≡ replicate workers name → journal ≡ [] → history_of value m journal ≡ begun origin workers
seen_begun origin value m journal workers name same wo none =
    ap (λ v. history v (length m.working.items) (steps_told journal)) same
    ∙ ap (λ n. history origin n (steps_told journal)) (ap length wo ∙ length-replicate workers name)
    ∙ ap (λ s. history origin workers s) (ap steps_told none ∙ none_told)
