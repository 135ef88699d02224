-- The graph of an outage over the numbers of all parts.
use Rattle.std.proofs.Common.{◌≡◌, refl, sym, ap, ◌∙◌, subst, ℕ, zero, suc, ◌+◌, ◌-◌, ◌<◌, ◌≤◌, false, not, List, [], ◌∷◌, ◌++◌, length, length-append, get_or, map, take, inl, inr, arith}
use Rattle.std.specs.Prelude.{All, filter, flat_map}
use Rattle.std.specs.List.{enumerate_from, AllZip}
use Rattle.std.proofs.lemmas.List.{length-map, get_or-map, map-append, get_or_append_left, get_or-append_right, take_more, append-nil}
use Rattle.std.proofs.lemmas.Grind.{flat_map-append}
use Rattle.std.proofs.lemmas.List.Elements.{All-map, All-filter, All-append}
use Rattle.std.proofs.lemmas.List.FromFn.{length-range_with_len, get_or-range_with_len, length-enumerate_from, get_or-enumerate_from}
use Rattle.grid_lemmas.proofs.Lists.{map_twice}
use Rattle.grid_graph.specs.Components.{places}
use Rattle.grid_graph.specs.Graph.{graph, EndsBelow}
use Rattle.grid_graph.proofs.RenamedNodes.{renamed}
use Rattle.grid_unions.specs.Sweep as sweeps
use Rattle.grid_unions.specs.Sweep.{is_among, pair_at, IsFitting, IsFoundOf}
use Rattle.grid_unions.specs.declared.summed.Sums.{Sums}
use Rattle.grid_unions.specs.declared.sweeps.Change.{Change}
use Rattle.grid_unions.specs.declared.sweeps.Found.{Found}
use Rattle.grid_unions.proofs.Orders.{AreAmong}
use Rattle.grid_unions.proofs.Subgraphs.{placed, IsEmbedded}
use Rattle.grid_unions.specs.Summed.{no_sums}
use Rattle.grid_figures.specs.Layouts.{part, part_at, no_part, parts_of, kept_parts, changed_parts, first_part, part_of, seat_of, seats_of, HasSeat, HaveSeats, IsLaidOut, IsChangeOf}
use Rattle.grid_figures.specs.Outages.{level_sums, sums_before, sums_under, number_of, LinkAt, no_link, link_at, links_left, pair_of, pairs_under, IsThere, LinksThere, is_changed, OutageFits}
use Rattle.grid_figures.specs.Seen.{IsSeen, IsSeenUnder}
use Rattle.grid_figures.specs.declared.outage.BusAt.{BusAt}
use Rattle.grid_figures.specs.declared.outage.ChangedSums.{ChangedSums}
use Rattle.grid_figures.specs.declared.outage.Outage.{Outage}
use Rattle.grid_figures.proofs.Blocks.{blocks_before}
use Rattle.grid_figures.proofs.ChangedLevels.{Rises, sums_kept, part_kept, sums_changed, part_changed, found_or_kept}
use Rattle.grid_figures.proofs.BusNumbers.{AreSeated, all_seats, seats_long, seat_at, seat_below, seat_filled, seats_rise}
use Rattle.grid_figures.proofs.Findings.{seen}
use Rattle.grid_figures.proofs.Zips.{zip_at, zip_from, zip_long}

-- ---- parts

flat_at : {X Y : Type 0} (g : X → List Y) (xs : List X) (i k : ℕ) (d : X) (e : Y) → i < length xs → k < length (g (get_or xs i d))
    → (length (flat_map g (take i xs)) + k < length (flat_map g xs)) × (get_or (flat_map g xs) (length (flat_map g (take i xs)) + k) e ≡ get_or (g (get_or xs i d)) k e)
flat_at g [] i k d e lt less = absurd (omega arith)
flat_at g (x ∷ xs) zero k d e lt less =
    let same : 0 + k ≡ k = omega arith in
    (omega (arith, less, length-append (g x) (flat_map g xs)), ap (λ z. get_or (g x ++ flat_map g xs) z e) same ∙ get_or_append_left (g x) (flat_map g xs) e k less)
flat_at g (x ∷ xs) (suc i) k d e lt less =
    let rest = flat_at g xs i k d e (omega (arith, lt)) less in
    let front = flat_map g (take i xs) in
    let there : (length (g x ++ front) + k) ≡ length (g x) + (length front + k) = omega (arith, length-append (g x) front) in (
      omega (arith, rest.0, there, length-append (g x) (flat_map g xs)),
      get_or-append_right (g x) (flat_map g xs) (length (g x)) (length (g x ++ front) + k) e refl (omega (arith, there))
          ∙ (let back : (length (g x ++ front) + k) - length (g x) ≡ length front + k = omega (arith, there) in ap (λ z. get_or (flat_map g xs) z e) back) ∙ rest.1,
    )

pub kept_long : (kept : List (List Sums)) → length (kept_parts kept) ≡ length kept
unfolding kept_parts
kept_long kept = length-map (enumerate_from 0 kept) (λ (at : ℕ × List Sums). part at.0 at.1) ∙ length-enumerate_from 0 kept

pub kept_parts_at : (kept : List (List Sums)) (l : ℕ) → l < length kept → part_at (kept_parts kept) l ≡ part l (get_or kept l [])
unfolding kept_parts
kept_parts_at kept l lt =
    let same : 0 + l ≡ l = omega arith in
    let made : ℕ × List Sums → ChangedSums = λ at. part at.0 at.1 in
    get_or-map made (enumerate_from 0 kept) l (0, []) no_part (omega (arith, lt, length-enumerate_from 0 kept))
    ∙ ap made (get_or-enumerate_from 0 kept l (0, []) lt ∙ ap (λ z. (z, get_or kept l [])) same)

kept_part_at : (kept : List (List Sums)) (outages : List Outage) (l : ℕ) → l < length kept → part_at (parts_of kept outages) l ≡ part l (get_or kept l [])
kept_part_at kept outages l lt =
    get_or_append_left (kept_parts kept) (changed_parts outages) no_part l (omega (arith, lt, kept_long kept)) ∙ kept_parts_at kept l lt

-- the parts of one outage more
pub changed_more : (outages : List Outage) (i : ℕ) (d : Outage) → i < length outages → changed_parts (take (i + 1) outages) ≡ changed_parts (take i outages) ++ (get_or outages i d).levels
unfolding changed_parts
changed_more outages i d lt =
    ap (flat_map (λ (o : Outage). o.levels)) (take_more outages i d lt)
    ∙ flat_map-append (λ (o : Outage). o.levels) (take i outages) (get_or outages i d ∷ [])
    ∙ ap (λ z. changed_parts (take i outages) ++ z) (append-nil (get_or outages i d).levels)

pub kept_part_below : (kept : List (List Sums)) (outages : List Outage) (l : ℕ) → l < length kept → l < length (parts_of kept outages)
kept_part_below kept outages l lt = omega (arith, lt, kept_long kept, length-append (kept_parts kept) (changed_parts outages))

pub changed_front : (outages : List Outage) (i : ℕ) → length (changed_parts (take i outages)) ≤ length (changed_parts outages)
unfolding changed_parts
changed_front outages zero = omega arith
changed_front [] (suc i) = omega arith
changed_front (o ∷ os) (suc i) =
    omega (arith, length-append o.levels (changed_parts (take i os)), length-append o.levels (changed_parts os), changed_front os i)

pub first_more : (first : ℕ) (outages : List Outage) (i : ℕ) (d : Outage) → i < length outages → first_part first outages (i + 1) ≡ first_part first outages i + length (get_or outages i d).levels
first_more first outages i d lt =
    omega (arith, ap length (changed_more outages i d lt), length-append (changed_parts (take i outages)) (get_or outages i d).levels)

-- the parts of an outage stand from a place on
pub record HasParts (kept : List (List Sums)) (parts : List ChangedSums) (first : ℕ) (changed : List ChangedSums) : Type 0 where
  pub rise : Rises changed
  pub before : (l : ℕ) → l < length kept → (l < length parts) × (part_at parts l ≡ part l (get_or kept l []))
  pub own : (k : ℕ) → k < length changed → (first + k < length parts) × (part_at parts (first + k) ≡ part_at changed k)

pub own_parts : (kept : List (List Sums)) (outages : List Outage) (i : ℕ) (d : Outage) → i < length outages → Rises (get_or outages i d).levels
    → HasParts kept (parts_of kept outages) (first_part (length kept) outages i) (get_or outages i d).levels
unfolding changed_parts
own_parts kept outages i d lt rise = record {
  rise = rise;
  before = λ l less. (kept_part_below kept outages l less, kept_part_at kept outages l less);
  own = λ k less. (let r = flat_at (λ (o : Outage). o.levels) outages i k d no_part lt less in
      let at = length (changed_parts (take i outages)) + k in
      let there : first_part (length kept) outages i + k ≡ length (kept_parts kept) + at = omega (arith, kept_long kept) in
      let back : (length (kept_parts kept) + at) - length (kept_parts kept) ≡ at = omega arith in (
        omega (arith, there, r.0, length-append (kept_parts kept) (changed_parts outages)),
        ap (part_at (parts_of kept outages)) there
            ∙ get_or-append_right (kept_parts kept) (changed_parts outages) (length (kept_parts kept)) (length (kept_parts kept) + at) no_part refl (omega arith)
            ∙ ap (part_at (changed_parts outages)) back ∙ r.1,
      ));
}

-- where nothing is changed
pub no_parts : (kept : List (List Sums)) (outages : List Outage) → HasParts kept (parts_of kept outages) 0 []
no_parts kept outages = record {
  rise = λ k lt. absurd (omega (arith, lt));
  before = λ l less. (kept_part_below kept outages l less, kept_part_at kept outages l less);
  own = λ k lt. absurd (omega (arith, lt));
}

-- ---- seats

abbrev pub start_in : List ℕ → ℕ → List ChangedSums → ℕ → ℕ
start_in starts first changed l = get_or starts (part_of first changed l) 0

module _ (kept : List (List Sums)) (parts : List ChangedSums) (starts : List ℕ) (weights : List Sums) (first : ℕ) (changed : List ChangedSums)
    (laid : IsLaidOut parts starts weights) (has : HasParts kept parts first changed) where
  abbrev sums : ℕ → List Sums
  sums = level_sums kept changed

  abbrev start : ℕ → ℕ
  start = start_in starts first changed

  -- the part that has a level's buses
  part_is : (l : ℕ) → l < length kept → (part_of first changed l < length parts) × ((part_at parts (part_of first changed l)).level ≡ l) × ((part_at parts (part_of first changed l)).sums ≡ sums l)
  part_is l lt = elim (found_or_kept changed l) [
    | inl r ↦ (let f = r.1 in
        let own = has.own r.0 f.below in
        let there = part_changed first changed l r.0 f in (
          omega (arith, own.0, there),
          ap (λ z. (part_at parts z).level) there ∙ ap (λ z. z.level) own.1 ∙ f.here,
          ap (λ z. (part_at parts z).sums) there ∙ ap (λ z. z.sums) own.1 ∙ sym (sums_changed kept changed l r.0 f),
        ))
    | inr none ↦ (let before = has.before l lt in
        let there = part_kept first changed l none in (
          omega (arith, before.0, there),
          ap (λ z. (part_at parts z).level) there ∙ ap (λ z. z.level) before.1,
          ap (λ z. (part_at parts z).sums) there ∙ ap (λ z. z.sums) before.1 ∙ sym (sums_kept kept changed l none),
        ))
  ]

  pub seated : AreSeated sums start (length kept) weights
  unfolding part_is
  seated = record {
    within = λ l lt. (let r = part_is l lt in omega (arith, laid.within (part_of first changed l) r.0, ap length r.2));
    filled = λ l k d lt less. (let r = part_is l lt in
        laid.filled (part_of first changed l) k d r.0 (omega (arith, less, ap length r.2)) ∙ ap (λ z. get_or z k d) r.2);
    apart = λ l m lt less. (let r = part_is l (omega (arith, lt, less)) in let t = part_is m less in
        omega (arith, laid.apart (part_of first changed l) (part_of first changed m) r.0 t.0 (omega (arith, lt, r.1, t.1)), ap length r.2));
  }

  -- each bus that is there has a number
  pub has_seat : (at : BusAt) → IsThere kept changed at → HasSeat starts first changed at × (seat_of starts first changed at < length weights)
  unfolding seat_of part_is
  has_seat at there =
      let r = part_is at.level there.0 in
      let few = laid.few in
      let below : start at.level + at.bus < length weights = omega (arith, laid.within (part_of first changed at.level) r.0, ap length r.2, there.1) in
      (record { part = omega (arith, r.0, laid.long); few = omega (arith, below, few) }, below)

  pub have_seats : (links : List LinkAt) → LinksThere kept changed links → HaveSeats starts first changed links
  have_seats links there k d lt = ((has_seat (get_or links k d).0 (there k d lt).0).0, (has_seat (get_or links k d).1 (there k d lt).1).0)

  pub seats_below : (links : List LinkAt) → LinksThere kept changed links → EndsBelow (map (seats_of starts first changed) links) (length weights)
  seats_below links there =
      All-map (λ pair. (pair.0 < length weights) × (pair.1 < length weights)) (seats_of starts first changed) links
      (λ k d lt. ((has_seat (get_or links k d).0 (there k d lt).0).1, (has_seat (get_or links k d).1 (there k d lt).1).1))

  abbrev pub ids : List ℕ
  ids = all_seats sums start (length kept)

  pub placed_seat : (at : BusAt) → IsThere kept changed at → placed ids (number_of kept changed at) ≡ seat_of starts first changed at
  unfolding number_of sums_before seat_of seated
  placed_seat at there = seat_at sums start (length kept) weights seated at.level at.bus there.0 there.1

  pub number_below : (at : BusAt) → IsThere kept changed at → number_of kept changed at < length ids
  unfolding number_of sums_before seated
  number_below at there =
      omega (arith, seats_long sums start (length kept) weights seated, blocks_before sums at.level (length kept) there.0, there.1)

-- ---- pairs

-- functions that agree on the items of a list
pub maps_agree : {X Y : Type 0} (f g : X → Y) (xs : List X) → ((k : ℕ) (d : X) → k < length xs → f (get_or xs k d) ≡ g (get_or xs k d)) → map f xs ≡ map g xs
maps_agree f g [] h = refl
maps_agree f g (x ∷ xs) h = ap (λ z. z ∷ map f xs) (h 0 x (omega arith)) ∙ ap (λ z. g x ∷ z) (maps_agree f g xs (λ k d lt. h (suc k) d (omega (arith, lt))))

-- the places that are not gone
abbrev left_places : List ℕ → ℕ → List ℕ
left_places gone count = filter (λ place. not (is_among gone place)) (places count)

left_below : (gone : List ℕ) (count : ℕ) → All (λ place. place < count) (left_places gone count)
unfolding places
left_below gone count =
    All-filter (λ place. not (is_among gone place)) (λ place. place < count) (places count)
    (λ k d lt. (let long = length-range_with_len 0 count in omega (arith, lt, long, get_or-range_with_len 0 count k d (omega (arith, lt, long)))))

module _ (kept : List (List Sums)) (parts : List ChangedSums) (starts : List ℕ) (weights : List Sums) (first : ℕ) (links : List LinkAt) (outage : Outage)
    (laid : IsLaidOut parts starts weights) (has : HasParts kept parts first outage.levels) (joins : LinksThere kept [] links) (fits : OutageFits kept links outage) where
  abbrev changed : List ChangedSums
  changed = outage.levels

  abbrev pub common : List (ℕ × ℕ)
  common = map (seats_of starts 0 []) links

  abbrev left : List LinkAt
  left = links_left links outage.gone

  abbrev used : List ℕ
  used = ids kept parts starts weights first changed laid has

  common_long : length common ≡ length links
  common_long = length-map links (seats_of starts 0 [])

  -- an end in a level that is not changed
  end_there : (at : BusAt) → IsThere kept [] at → is_changed changed at.level ≡ false → IsThere kept changed at
  unfolding is_changed
  end_there at there none =
      (there.0, (let same = ap length (sums_kept kept [] at.level refl) in let now = ap length (sums_kept kept changed at.level none) in omega (arith, there.1, same, now)))

  end_seat : (at : BusAt) → is_changed changed at.level ≡ false → seat_of starts first changed at ≡ seat_of starts 0 [] at
  unfolding seat_of is_changed
  end_seat at none = ap (λ z. get_or starts z 0 + at.bus) (part_kept first changed at.level none ∙ sym (part_kept 0 [] at.level refl))

  -- the link at the place of one that is left
  left_at : (k : ℕ) (d : LinkAt) → k < length (left_places outage.gone (length links)) → get_or left k d ≡ link_at links (get_or (left_places outage.gone (length links)) k 0)
  unfolding links_left
  left_at k d lt = get_or-map (link_at links) (left_places outage.gone (length links)) k 0 d lt

  left_long : length left ≡ length (left_places outage.gone (length links))
  unfolding links_left
  left_long = length-map (left_places outage.gone (length links)) (link_at links)

  left_there : LinksThere kept changed left
  left_there k d lt =
      let less : k < length (left_places outage.gone (length links)) = omega (arith, lt, left_long) in
      let x = get_or (left_places outage.gone (length links)) k 0 in
      let there = joins x no_link (left_below outage.gone (length links) k 0 less) in
      let P : LinkAt → Type 0 = λ link. (is_changed changed link.0.level ≡ false) × (is_changed changed link.1.level ≡ false) in
      let none : P (link_at links x) = subst P (left_at k d less) (fits.left k d lt) in
      let Q : LinkAt → Type 0 = λ link. IsThere kept changed link.0 × IsThere kept changed link.1 in
      subst Q (sym (left_at k d less)) (end_there (link_at links x).0 there.0 none.0, end_there (link_at links x).1 there.1 none.1)

  left_seats : map (seats_of starts first changed) left ≡ sweeps.kept common outage.gone
  unfolding sweeps.kept links_left
  left_seats =
      let fs = left_places outage.gone (length links) in
      map_twice (seats_of starts first changed) (link_at links) fs
      ∙ maps_agree (λ x. seats_of starts first changed (link_at links x)) (pair_at common) fs
      (λ k d lt. (let x = get_or fs k d in
      let P : LinkAt → Type 0 = λ link. (is_changed changed link.0.level ≡ false) × (is_changed changed link.1.level ≡ false) in
      let none : P (link_at links x) = subst P (get_or-map (link_at links) fs k d no_link lt) (fits.left k no_link (omega (arith, lt, left_long))) in
      ap (λ z. (z, seat_of starts first changed (link_at links x).1)) (end_seat (link_at links x).0 none.0)
      ∙ ap (λ z. (seat_of starts 0 [] (link_at links x).0, z)) (end_seat (link_at links x).1 none.1)
      ∙ sym (get_or-map (seats_of starts 0 []) links x no_link (0, 0) (left_below outage.gone (length links) k d lt))))
      ∙ ap (λ n. map (pair_at common) (left_places outage.gone n)) (sym common_long)

  all_there : LinksThere kept changed (left ++ outage.own)
  all_there = All-append (λ (link : LinkAt). IsThere kept changed link.0 × IsThere kept changed link.1) left outage.own left_there fits.own

  abbrev pub larger : List (ℕ × ℕ)
  larger = sweeps.kept common outage.gone ++ map (seats_of starts first changed) outage.own

  named_pairs : renamed (placed used) (pairs_under kept links outage) ≡ larger
  unfolding pairs_under
  named_pairs =
      map_twice (λ (p : ℕ × ℕ). (placed used p.0, placed used p.1)) (pair_of kept changed) (left ++ outage.own)
      ∙ maps_agree (λ link. (placed used (number_of kept changed link.0), placed used (number_of kept changed link.1))) (seats_of starts first changed) (left ++ outage.own)
      (λ k d lt. (let there = all_there k d lt in
      let link = get_or (left ++ outage.own) k d in
      ap (λ z. (z, placed used (number_of kept changed link.1))) (placed_seat kept parts starts weights first changed laid has link.0 there.0)
      ∙ ap (λ z. (seat_of starts first changed link.0, z)) (placed_seat kept parts starts weights first changed laid has link.1 there.1)))
      ∙ map-append (seats_of starts first changed) left outage.own
      ∙ ap (λ z. z ++ map (seats_of starts first changed) outage.own) left_seats

  ends_below : EndsBelow (pairs_under kept links outage) (length used)
  unfolding pairs_under
  ends_below =
      All-map (λ pair. (pair.0 < length used) × (pair.1 < length used)) (pair_of kept changed) (left ++ outage.own)
      (λ k d lt. (let there = all_there k d lt in
      let link = get_or (left ++ outage.own) k d in
      (number_below kept parts starts weights first changed laid has link.0 there.0, number_below kept parts starts weights first changed laid has link.1 there.1)))

  embedded : IsEmbedded used (pairs_under kept links outage) (length weights) larger
  embedded = record {
    rise = seats_rise (sums kept parts starts weights first changed laid has) (start kept parts starts weights first changed laid has) (length kept) weights (seated kept parts starts weights first changed laid has);
    below = seat_below (sums kept parts starts weights first changed laid has) (start kept parts starts weights first changed laid has) (length kept) weights (seated kept parts starts weights first changed laid has);
    ends = ends_below;
    forth = (let P : List (ℕ × ℕ) → Type 0 = λ z. AreAmong (renamed (placed used) (pairs_under kept links outage)) z in subst P named_pairs (among_itself (renamed (placed used) (pairs_under kept links outage))));
    back = (let P : List (ℕ × ℕ) → Type 0 = λ z. AreAmong z (renamed (placed used) (pairs_under kept links outage)) in subst P named_pairs (among_itself (renamed (placed used) (pairs_under kept links outage))));
  }
    where
      among_itself : (xs : List (ℕ × ℕ)) → AreAmong xs xs
      among_itself xs = record { found = λ k lt. (k, lt, refl) }

  -- what is found of the outage's graph
  pub seen_under : (change : Change) → IsChangeOf starts first outage change → (found : Found) → IsFoundOf weights common change found → IsSeenUnder kept links (length weights) outage found
  unfolding sums_before embedded
  seen_under change own found f =
      let long = seats_long (sums kept parts starts weights first changed laid has) (start kept parts starts weights first changed laid has) (length kept) weights (seated kept parts starts weights first changed laid has) in
      let net : sweeps.kept common change.gone ++ change.own ≡ larger = ap (λ z. sweeps.kept common z ++ change.own) own.gone ∙ ap (λ z. sweeps.kept common outage.gone ++ z) own.own in
      let F : List (ℕ × ℕ) → Type 0 = λ z. sweeps.IsFound weights (graph (length weights) z) found in
      let P : ℕ → Type 0 = λ n. IsSeen n (sums_under kept outage) (pairs_under kept links outage) (length weights) found in
      subst P long
      (seen used (pairs_under kept links outage) weights larger (sums_under kept outage) found embedded (sym long)
      (λ k lt. seat_filled (sums kept parts starts weights first changed laid has) (start kept parts starts weights first changed laid has) (length kept) weights (seated kept parts starts weights first changed laid has) k no_sums lt)
      (subst F net f))

  -- and the change fits a sweep
  pub change_fits : (change : Change) → IsChangeOf starts first outage change → IsFitting (length weights) common change
  change_fits change own = record {
    gone = (let P : List ℕ → ℕ → Type 0 = λ z n. All (λ place. place < n) z in
        subst (λ n. P change.gone n) (sym common_long) (subst (λ z. P z (length links)) (sym own.gone) fits.gone));
    own = (let P : List (ℕ × ℕ) → Type 0 = λ z. EndsBelow z (length weights) in
        subst P (sym own.own) (seats_below kept parts starts weights first changed laid has outage.own fits.own));
  }

-- ---- all outages

abbrev pub no_outage : Outage
no_outage = record { levels = []; gone = []; own = [] }

abbrev pub no_change : Change
no_change = record { gone = []; own = [] }

module _ (kept : List (List Sums)) (links : List LinkAt) (outages : List Outage) (starts : List ℕ) (weights : List Sums)
    (laid : IsLaidOut (parts_of kept outages) starts weights) (joins : LinksThere kept [] links) (fits : All (OutageFits kept links) outages) where
  parts_at : (i : ℕ) (d : Outage) → i < length outages → HasParts kept (parts_of kept outages) (first_part (length kept) outages i) (get_or outages i d).levels
  parts_at i d lt = own_parts kept outages i d lt (fits i d lt).rising

  pub parts_few : length kept + length (changed_parts outages) ≡ length starts
  parts_few = omega (arith, laid.long, length-append (kept_parts kept) (changed_parts outages), kept_long kept)

  pub links_seated : HaveSeats starts 0 [] links
  links_seated = have_seats kept (parts_of kept outages) starts weights 0 [] laid (no_parts kept outages) links joins

  pub links_below : EndsBelow (map (seats_of starts 0 []) links) (length weights)
  links_below = seats_below kept (parts_of kept outages) starts weights 0 [] laid (no_parts kept outages) links joins

  pub own_seated : (i : ℕ) (d : Outage) → i < length outages → HaveSeats starts (first_part (length kept) outages i) (get_or outages i d).levels (get_or outages i d).own
  own_seated i d lt = have_seats kept (parts_of kept outages) starts weights (first_part (length kept) outages i) (get_or outages i d).levels laid (parts_at i d lt) (get_or outages i d).own (fits i d lt).own

  -- the changes are those of the outages
  pub record AreChanges (changes : List Change) : Type 0 where
    pub long : length changes ≡ length outages
    pub each : (i : ℕ) (d : Outage) (e : Change) → i < length outages → IsChangeOf starts (first_part (length kept) outages i) (get_or outages i d) (get_or changes i e)

  pub changes_fit : (changes : List Change) → AreChanges changes → All (IsFitting (length weights) (map (seats_of starts 0 []) links)) changes
  changes_fit changes s k e lt =
      let long = s.long in
      let less : k < length outages = omega (arith, lt, long) in
      change_fits kept (parts_of kept outages) starts weights (first_part (length kept) outages k) links (get_or outages k no_outage) laid (parts_at k no_outage less) joins (fits k no_outage less) (get_or changes k e) (s.each k no_outage e less)

  pub all_seen : (changes : List Change) → AreChanges changes → (found : List Found) → AllZip (IsFoundOf weights (map (seats_of starts 0 []) links)) changes found
      → AllZip (IsSeenUnder kept links (length weights)) outages found
  all_seen changes s found f =
      let long = s.long in
      let as_long : length changes ≡ length found = zip_long (IsFoundOf weights (map (seats_of starts 0 []) links)) changes found f in
      zip_from (IsSeenUnder kept links (length weights)) outages found (omega (arith, long, as_long))
      (λ k d h lt. seen_under kept (parts_of kept outages) starts weights (first_part (length kept) outages k) links (get_or outages k d) laid (parts_at k d lt) joins (fits k d lt)
      (get_or changes k no_change) (s.each k d no_change lt) (get_or found k h) (zip_at (IsFoundOf weights (map (seats_of starts 0 []) links)) changes found f k no_change h (omega (arith, lt, long))))
