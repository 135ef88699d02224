-- Checking lines one after the other, as a loop does.
use Rattle.std.proofs.Common.{◌≡◌, refl, sym, ap, subst, ◌∙◌, ℕ, suc, ◌+◌, ◌<◌, ◌≤◌, List, [], ◌∷◌, ◌++◌, length, get_or, take, drop, Result, Ok, Err, add-one, drop-cons}
use Rattle.std.specs.Prelude.{decimal, ⊤, OnOk}
use Rattle.std.proofs.lemmas.List.{take_more, drop_all, map-append}
use Rattle.std.proofs.lemmas.Grind.{flat_map-append}
use Rattle.grid_json.specs.declared.fault.Fault.{Fault}
use Rattle.grid_json.specs.declared.fault.ReadError.{ReadError}
use Rattle.grid_json.specs.declared.fault.ReadError.TheVariants as errors
use Rattle.grid_ids.specs.Name.{has_id}
use Rattle.grid_json.specs.Reading.{Fails, Gives, IsUnder, placed}
use Rattle.grid_json.specs.Seen.{Knows}
use Rattle.grid_json.proofs.IdSets.{knows-append}
use Rattle.grid_structure.specs.Network.{Network}
use Rattle.grid_hvdc.specs.declared.HvdcLine.{HvdcLine}
use Rattle.grid_hvdc.specs.Checks.{id_check, station_check, line_check, line_ids, line_stations, lines_check}

-- one line more
next_line : (lines : List HvdcLine) (i : ℕ) (line : HvdcLine) → i < length lines → line ≡ get_or lines i line → take (i + 1) lines ≡ take i lines ++ line ∷ []
next_line lines i line lt is = take_more lines i line lt ∙ ap (λ z. take i lines ++ z ∷ []) (sym is)

pub ids_next : (lines : List HvdcLine) (i : ℕ) (line : HvdcLine) (ids now : List (List ℕ)) → i < length lines → line ≡ get_or lines i line → Knows ids (line_ids (take i lines)) → Knows now (ids ++ line.id ∷ []) → Knows now (line_ids (take (i + 1) lines))
ids_next lines i line ids now lt is so_far h q =
    h q ∙ knows-append ids (line_ids (take i lines)) (line.id ∷ []) so_far q
    ∙ sym (ap (λ z. has_id z q) (ap line_ids (next_line lines i line lt is) ∙ map-append (λ (l : HvdcLine). l.id) (take i lines) (line ∷ [])))

both_names : (used : List (List ℕ)) (first second : List ℕ) → (used ++ first ∷ []) ++ second ∷ [] ≡ used ++ first ∷ second ∷ []
both_names [] first second = refl
both_names (id ∷ used) first second = ap (λ z. id ∷ z) (both_names used first second)

pub stations_next : (lines : List HvdcLine) (i : ℕ) (line : HvdcLine) (used now : List (List ℕ)) → i < length lines → line ≡ get_or lines i line → Knows used (line_stations (take i lines))
    → Knows now ((used ++ line.station1 ∷ []) ++ line.station2 ∷ []) → Knows now (line_stations (take (i + 1) lines))
stations_next lines i line used now lt is so_far h q =
    h q ∙ ap (λ z. has_id z q) (both_names used line.station1 line.station2) ∙ knows-append used (line_stations (take i lines)) (line.station1 ∷ line.station2 ∷ []) so_far q
    ∙ sym (ap (λ z. has_id z q) (ap line_stations (next_line lines i line lt is) ∙ flat_map-append (λ (l : HvdcLine). l.station1 ∷ l.station2 ∷ []) (take i lines) (line ∷ [])))

-- two ids more, one after the other
pub known_twice : (used mid now : List (List ℕ)) (first second : List ℕ) → Knows mid (used ++ first ∷ []) → Knows now (mid ++ second ∷ []) → Knows now ((used ++ first ∷ []) ++ second ∷ [])
known_twice used mid now first second one two q = two q ∙ knows-append mid (used ++ first ∷ []) (second ∷ []) one q

-- ---- what is checked rests on which ids there are, not on their order

id_alike : (net : Network) (ids other : List (List ℕ)) (id : List ℕ) → Knows ids other → id_check net ids id ≡ id_check net other id
unfolding id_check
id_alike net ids other id k = rw (k id) refl

pub station_alike : (net : Network) (side : ℕ) (used other : List (List ℕ)) (id : List ℕ) → Knows used other → station_check net side used id ≡ station_check net side other id
unfolding station_check
station_alike net side used other id k = rw (k id) refl

-- the last of a line's checks tells what all come to
pub line_last : (net : Network) (ids used mid : List (List ℕ)) (line : HvdcLine) (r : Result ⊤ ReadError) {a b : ⊤} → id_check net ids line.id ≡ Ok a → station_check net 1 used line.station1 ≡ Ok b
    → Knows mid (used ++ line.station1 ∷ []) → Gives r (station_check net 2 mid line.station2) → Gives r (line_check net ids used line)
unfolding line_check
line_last net ids used mid line r one two known last =
    rw (one, two) (subst (Gives r) (station_alike net 2 mid (used ++ line.station1 ∷ []) line.station2 known) last)

pub stations_known : (r : Result ⊤ ReadError) (used mid now : List (List ℕ)) (first second : List ℕ) → Knows mid (used ++ first ∷ []) → OnOk r (Knows now (mid ++ second ∷ [])) → OnOk r (Knows now ((used ++ first ∷ []) ++ second ∷ []))
stations_known (Ok done) used mid now first second one two = known_twice used mid now first second one two
stations_known (Err e) used mid now first second one two = tt

line_alike : (net : Network) (ids other used others : List (List ℕ)) (line : HvdcLine) → Knows ids other → Knows used others → line_check net ids used line ≡ line_check net other others line
unfolding line_check
line_alike net ids other used others line same_ids same_used =
    rw (
      id_alike net ids other line.id same_ids,
      station_alike net 1 used others line.station1 same_used,
      station_alike net 2 (used ++ line.station1 ∷ []) (others ++ line.station1 ∷ []) line.station2 (knows-append used others (line.station1 ∷ []) same_used),
    ) refl

module _ (net : Network) (lines : List HvdcLine) (i : ℕ) (line : HvdcLine) (ids used : List (List ℕ)) (total : Result ⊤ Fault) (lt : i < length lines) (is : line ≡ get_or lines i line)
    (same_ids : Knows ids (line_ids (take i lines))) (same_used : Knows used (line_stations (take i lines))) (so_far : lines_check net (take i lines) i (drop i lines) ≡ total) where
  cut : drop i lines ≡ line ∷ drop (suc i) lines
  cut = drop-cons lines i line lt ∙ ap (λ w. w ∷ drop (suc i) lines) (sym is)

  checked : line_check net (line_ids (take i lines)) (line_stations (take i lines)) line ≡ line_check net ids used line
  checked = sym (line_alike net ids (line_ids (take i lines)) used (line_stations (take i lines)) line same_ids same_used)

  -- a line that is right
  pub goes_on : line_check net ids used line ≡ Ok tt → lines_check net (take (i + 1) lines) (i + 1) (drop (i + 1) lines) ≡ total
  unfolding lines_check
  goes_on h =
      let right : line_check net (line_ids (take i lines)) (line_stations (take i lines)) line ≡ Ok tt = checked ∙ h in
      let one : lines_check net (take i lines) i (drop i lines) ≡ lines_check net (take i lines ++ line ∷ []) (suc i) (drop (suc i) lines) = rw (cut, right) refl in
      rw (next_line lines i line lt is) (rw add-one (sym one ∙ so_far))

  -- a line that is wrong
  pub ends : (e r : ReadError) → Fails e (line_check net ids used line) → IsUnder (decimal i) e r → Fails r total
  unfolding lines_check
  ends e errors.Memory h u = tt
  ends errors.Memory (errors.Fault g) h u = absurd u
  ends (errors.Fault f) (errors.Fault g) h u =
      let wrong : line_check net (line_ids (take i lines)) (line_stations (take i lines)) line ≡ Err f = checked ∙ h in
      let one : lines_check net (take i lines) i (drop i lines) ≡ Err (placed (decimal i) f) = rw (cut, wrong) refl in
      sym so_far ∙ one ∙ ap Err (sym u)

pub is_done : (net : Network) (lines : List HvdcLine) (i : ℕ) (total : Result ⊤ Fault) → length lines ≤ i → lines_check net (take i lines) i (drop i lines) ≡ total → total ≡ Ok tt
unfolding lines_check
is_done net lines i total le so_far =
    let none : drop i lines ≡ [] = drop_all i lines le in
    let one : lines_check net (take i lines) i (drop i lines) ≡ Ok tt = rw none refl in
    sym so_far ∙ one
