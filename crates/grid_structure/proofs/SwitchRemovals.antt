-- A switch less.
use Rattle.std.proofs.Common.{◌≡◌, refl, sym, ap, ◌∙◌, subst, ℕ, suc, zero, ◌+◌, ◌-◌, ◌<◌, ◌≤◌, Bool, true, false, cond, not, ◌||◌, List, [], ◌∷◌, ◌++◌, length, arith, Option, Some, None}
use Rattle.std.specs.Prelude.{map, filter, position, slice_get, slice_set, remove, is_some, Ok, Err}
use Rattle.std.specs.Option.{option_map}
use Rattle.std.specs.List.{list_any}
use Rattle.std.specs.Str.{bytes_eq}
use Rattle.std.proofs.lemmas.Bool.{false≢true}
use Rattle.grid_lemmas.proofs.Lists.{position-cons}
use Rattle.grid_ids.specs.Name.{same_id, has_id, ids_differ}
use Rattle.grid_ids.specs.Refusing.{◌>>=◌, refuse_if}
use Rattle.grid_ids.proofs.Alike.{same_is, same_swap}
use Rattle.grid_level.specs.declared.Switch.{Switch}
use Rattle.grid_level.specs.VoltageLevel.{VoltageLevel}
use Rattle.grid_structure.specs.declared.NamedBranch.{NamedBranch}
use Rattle.grid_structure.specs.declared.structure.IdOwner.{IdOwner}
use Rattle.grid_structure.specs.declared.structure.IdOwner.TheVariants as entries
use Rattle.grid_structure.specs.declared.structure.Head.{Head}
use Rattle.grid_structure.specs.declared.Edit.TheVariants.{RemoveSwitch}
use Rattle.grid_structure.specs.declared.EditFault.TheVariants as faults
use Rattle.grid_structure.specs.Network.{Network, Substation}
use Rattle.grid_structure.specs.declared.SwitchAt.{SwitchAt}
use Rattle.grid_structure.specs.Sites.{levels, switch_ids, all_ids, find_switch, switch_spot}
use Rattle.grid_structure.specs.Editing.{apply, with_levels, level_without_switch}
use Rattle.grid_structure.specs.Cutting.{cut, network_of}
use Rattle.grid_structure.specs.Indexed.{substation_at, level_at, switch_at, sides_at, terminal_at, has_switch, has_terminal, level_of_switch}
use Rattle.grid_structure.specs.Kept.{IsKept}
use Rattle.grid_structure.proofs.Soundly.{apply_sound}
use Rattle.grid_structure.proofs.Counts.{times, differ-times, times-differ}
use Rattle.grid_structure.proofs.Frames.{locals, switch_ids_of, ids_counted, switch_total, switches_counted}
use Rattle.grid_structure.proofs.Places.{position_found, none_position, position_set_same}
use Rattle.grid_structure.proofs.FlatNetworks.{kept_levels, cut_map}
use Rattle.grid_structure.proofs.Found.{switch_there, switch_nowhere, switch_somewhere, switch_test, switch_tested, switch_below, switch_has}
use Rattle.grid_structure.proofs.Flat.{Turns, Others, flat_turned, sides_set, has_single}
use Rattle.grid_structure.proofs.LevelChanges.{level_kept, kept_flat}

abbrev names_switch : List ℕ → Switch → Bool
names_switch e s = same_id e s.id

none_left : (e : List ℕ) (ss : List Switch) → times e (map (λ (s : Switch). s.id) ss) ≡ 0 → filter (λ (s : Switch). not (same_id e s.id)) ss ≡ ss
none_left e [] h = refl
none_left e (s ∷ ss) h = by (same_id e s.id) h (none_left e ss)
  where
    by : (t : Bool) → cond t 1 0 + times e (map (λ (s : Switch). s.id) ss) ≡ 0 → (times e (map (λ (s : Switch). s.id) ss) ≡ 0 → filter (λ (s : Switch). not (same_id e s.id)) ss ≡ ss)
        → cond (not t) (s ∷ filter (λ (s : Switch). not (same_id e s.id)) ss) (filter (λ (s : Switch). not (same_id e s.id)) ss) ≡ s ∷ ss
    by true h again = absurd (omega (arith, h))
    by false h again = ap (λ z. s ∷ z) (again (omega (arith, h)))

-- the one switch of the id, taken out by its place
cut_out : (e : List ℕ) (ss : List Switch) (j : ℕ) → times e (map (λ (s : Switch). s.id) ss) ≤ 1 → position (names_switch e) ss ≡ Some j
    → (filter (λ (s : Switch). not (same_id e s.id)) ss ≡ remove ss j) × (1 ≤ times e (map (λ (s : Switch). s.id) ss))
cut_out e [] j once at = cc
cut_out e (s ∷ ss) j once at = by (same_id e s.id) once (rw (position-cons (names_switch e) s ss) at at) (λ i. cut_out e ss i)
  where
    some_suc : (o : Option ℕ) → option_map suc o ≡ Some j → (i : ℕ) × (o ≡ Some i) × (j ≡ suc i)
    some_suc (Some i) q = (i, refl, cc)
    some_suc None q = cc

    by : (t : Bool) → cond t 1 0 + times e (map (λ (s : Switch). s.id) ss) ≤ 1 → ◌≡◌ {A = Option ℕ} (cond t (Some 0) (option_map suc (position (names_switch e) ss))) (Some j)
        → ((i : ℕ) → times e (map (λ (s : Switch). s.id) ss) ≤ 1 → position (names_switch e) ss ≡ Some i → (filter (λ (s : Switch). not (same_id e s.id)) ss ≡ remove ss i) × (1 ≤ times e (map (λ (s : Switch). s.id) ss)))
        → (cond (not t) (s ∷ filter (λ (s : Switch). not (same_id e s.id)) ss) (filter (λ (s : Switch). not (same_id e s.id)) ss) ≡ remove (s ∷ ss) j) × (1 ≤ cond t 1 0 + times e (map (λ (s : Switch). s.id) ss))
    by true once at again = let z : j ≡ 0 = cc in (none_left e ss (omega (arith, once)) ∙ ap (remove (s ∷ ss)) (sym z), omega arith)
    by false once at again =
        let r = some_suc (position (names_switch e) ss) at in
        let k = again r.0 (omega (arith, once)) r.1 in
        (ap (λ z. s ∷ z) k.0 ∙ ap (remove (s ∷ ss)) (sym r.2), omega (arith, k.1))

abbrev pub loses : VoltageLevel → ℕ → VoltageLevel
loses old j = record old { switches = remove old.switches j }

none_lost : (e : List ℕ) (ls : List VoltageLevel) → locals e ls ≡ 0 → map (level_without_switch e) ls ≡ ls
unfolding level_without_switch
none_lost e [] h = refl
none_lost e (l ∷ ls) h = rw (none_left e l.switches (omega (arith, h)), none_lost e ls (omega (arith, h))) refl

-- the one level of the switch changes, and the others stay
pub lost_at : (e : List ℕ) (ls : List VoltageLevel) (k j : ℕ) (old : VoltageLevel) → locals e ls ≤ 1 → slice_get ls k ≡ Some old → position (names_switch e) old.switches ≡ Some j
    → (map (level_without_switch e) ls ≡ slice_set ls k (loses old j)) × (1 ≤ locals e ls)
unfolding level_without_switch
lost_at e [] k j old once at found = cc
lost_at e (l ∷ ls) zero j old once at found =
    let same : l ≡ old = cc in
    let out = cut_out e l.switches j (omega (arith, once)) (ap (λ (z : VoltageLevel). position (names_switch e) z.switches) same ∙ found) in
    let first : record l { switches = filter (λ (s : Switch). not (same_id e s.id)) l.switches } ≡ loses old j = ap (λ z. record l { switches = z }) out.0 ∙ ap (λ (z : VoltageLevel). loses z j) same in
    (rw (none_lost e ls (omega (arith, once, out.1))) (ap (λ z. z ∷ ls) first), omega (arith, out.1))
lost_at e (l ∷ ls) (suc k) j old once at found =
    let again = lost_at e ls k j old (omega (arith, once)) at found in
    let none : filter (λ (s : Switch). not (same_id e s.id)) l.switches ≡ l.switches = none_left e l.switches (omega (arith, once, again.1)) in
    (rw (none) (ap (λ z. l ∷ z) again.0), omega (arith, again.1))

nowhere_left : (e : List ℕ) (ls : List VoltageLevel) → list_any (has_switch e) (map (level_without_switch e) ls) ≡ false
unfolding level_without_switch has_switch has_id
nowhere_left e [] = refl
nowhere_left e (l ∷ ls) = rw (gone l.switches) (nowhere_left e ls)
  where
    gone : (ss : List Switch) → list_any (same_id e) (map (λ (s : Switch). s.id) (filter (λ (s : Switch). not (same_id e s.id)) ss)) ≡ false
    gone [] = refl
    gone (s ∷ ss) = by (same_id e s.id) refl (gone ss)
      where
        by : (t : Bool) → same_id e s.id ≡ t → list_any (same_id e) (map (λ (s : Switch). s.id) (filter (λ (s : Switch). not (same_id e s.id)) ss)) ≡ false
            → list_any (same_id e) (map (λ (s : Switch). s.id) (cond (not t) (s ∷ filter (λ (s : Switch). not (same_id e s.id)) ss) (filter (λ (s : Switch). not (same_id e s.id)) ss))) ≡ false
        by true h again = again
        by false h again = rw h again

-- the other switches stay
others_left : (e : List ℕ) (old : VoltageLevel) (j : ℕ) → filter (λ (s : Switch). not (same_id e s.id)) old.switches ≡ remove old.switches j → Others e old (loses old j)
unfolding has_switch has_id has_single has_terminal
others_left e old j same = record {
  switches = λ q h. ap (λ (z : List Switch). list_any (same_id q) (map (λ (s : Switch). s.id) z)) (sym same) ∙ stays q h old.switches;
  singles = λ q h. refl;
  terminals = λ q side h. refl;
}
  where
    stays : (q : List ℕ) → same_id e q ≡ false → (ss : List Switch) → list_any (same_id q) (map (λ (s : Switch). s.id) (filter (λ (s : Switch). not (same_id e s.id)) ss)) ≡ list_any (same_id q) (map (λ (s : Switch). s.id) ss)
    stays q h [] = refl
    stays q h (s ∷ ss) = by (same_id e s.id) refl (stays q h ss)
      where
        by : (t : Bool) → same_id e s.id ≡ t → list_any (same_id q) (map (λ (s : Switch). s.id) (filter (λ (s : Switch). not (same_id e s.id)) ss)) ≡ list_any (same_id q) (map (λ (s : Switch). s.id) ss)
            → list_any (same_id q) (map (λ (s : Switch). s.id) (cond (not t) (s ∷ filter (λ (s : Switch). not (same_id e s.id)) ss) (filter (λ (s : Switch). not (same_id e s.id)) ss))) ≡ same_id q s.id || list_any (same_id q) (map (λ (s : Switch). s.id) ss)
        by true g again =
            let is : e ≡ s.id = same_is e s.id g in
            let other : same_id q s.id ≡ false = same_swap s.id q (subst (λ (z : List ℕ). same_id z q ≡ false) is h) in
            rw other again
        by false g again = ap (λ z. same_id q s.id || z) again

-- only a switch's entry tells of a switch
switch_entry : (places : List ℕ) (o : Option IdOwner) (k : ℕ) → switch_at places o ≡ Some k → (key : ℕ) × (o ≡ Some (entries.Switch key))
switch_entry places (Some (entries.Switch key)) k h = (key, refl)
switch_entry places other k h = cc

-- a place as the reader gives it
pub from_spot : (o : Option (ℕ × ℕ)) (at : SwitchAt) → Some at ≡ option_map switch_spot o → o ≡ Some (at.level, at.place)
from_spot (Some pair) at e = let same : at ≡ switch_spot pair = cc in ap (λ (z : SwitchAt). Some (z.level, z.place)) (sym same)
from_spot None at e = cc

pub from_nowhere : (o : Option (ℕ × ℕ)) → None ≡ option_map switch_spot o → o ≡ None
from_nowhere (Some pair) e = cc
from_nowhere None e = refl

module _ {id : List ℕ} {heads : List Head} {ls : List VoltageLevel} {ts lines : List NamedBranch} {count : ℕ} {look : List ℕ → Option IdOwner} {places : List ℕ} (kept : IsKept id heads ls ts lines count look places) where
  abbrev net : Network
  net = network_of id heads ls ts lines

  -- where a switch is
  pub record Spot (e : List ℕ) (k j : ℕ) (old : VoltageLevel) : Type 0 where
    pub level : level_of_switch net e ≡ Some k
    pub at : slice_get ls k ≡ Some old
    pub place : position (names_switch e) old.switches ≡ Some j

  pub spot_of : (e : List ℕ) (k j : ℕ) (old : VoltageLevel) → find_switch net e ≡ Some (k, j) → slice_get ls k ≡ Some old → Spot e k j old
  spot_of e k j old found at = by (level_of_switch net e) refl
    where
      got : (xs : List VoltageLevel) (n : ℕ) → n < length xs → (l : VoltageLevel) × (slice_get xs n ≡ Some l)
      got [] n l = absurd (omega arith)
      got (x ∷ xs) zero l = (x, refl)
      got (x ∷ xs) (suc n) l = got xs n (omega arith)

      pair : (i : ℕ) (o : Option ℕ) → ◌≡◌ {A = Option (ℕ × ℕ)} (option_map (λ y. (i, y)) o) (Some (k, j)) → (i ≡ k) × (o ≡ Some j)
      pair i (Some y) e = let both : (i, y) ≡ (k, j) = cc in (ap (λ (z : ℕ × ℕ). z.0) both, ap (λ (z : ℕ × ℕ). Some z.1) both)
      pair i None e = cc

      by : (o : Option ℕ) → level_of_switch net e ≡ o → Spot e k j old
      by None q = let none : ◌≡◌ {A = Option (ℕ × ℕ)} None (Some (k, j)) = sym (switch_nowhere net e q) ∙ found in cc
      by (Some i) q =
          let below = switch_below net e i q in
          let l = got (levels net) i below in
          let p = pair i (switch_test e l.0) (sym (switch_somewhere net e i l.0 q l.1) ∙ found) in
          let here : slice_get ls i ≡ Some l.0 = ap (λ (z : List VoltageLevel). slice_get z i) (sym (kept_levels kept)) ∙ l.1 in
          let there : slice_get ls k ≡ Some l.0 = subst (λ (n : ℕ). slice_get ls n ≡ Some l.0) p.0 here in
          let same : l.0 ≡ old = cc in
          record { level = q ∙ ap (λ z. Some z) p.0; at = at; place = ap (λ (z : VoltageLevel). switch_test e z) (sym same) ∙ p.1 }

  -- the level that a found switch is in is there
  pub spot_below : (e : List ℕ) (k j : ℕ) → find_switch net e ≡ Some (k, j) → k < length ls
  spot_below e k j found = by (level_of_switch net e) refl
    where
      got : (xs : List VoltageLevel) (n : ℕ) → n < length xs → (l : VoltageLevel) × (slice_get xs n ≡ Some l)
      got [] n l = absurd (omega arith)
      got (x ∷ xs) zero l = (x, refl)
      got (x ∷ xs) (suc n) l = got xs n (omega arith)

      first : (i : ℕ) (o : Option ℕ) → ◌≡◌ {A = Option (ℕ × ℕ)} (option_map (λ y. (i, y)) o) (Some (k, j)) → i ≡ k
      first i (Some y) e = let both : (i, y) ≡ (k, j) = cc in ap (λ (z : ℕ × ℕ). z.0) both
      first i None e = cc

      by : (o : Option ℕ) → level_of_switch net e ≡ o → k < length ls
      by None q = let none : ◌≡◌ {A = Option (ℕ × ℕ)} None (Some (k, j)) = sym (switch_nowhere net e q) ∙ found in cc
      by (Some i) q =
          let below = switch_below net e i q in
          let l = got (levels net) i below in
          let is : i ≡ k = first i (switch_test e l.0) (sym (switch_somewhere net e i l.0 q l.1) ∙ found) in
          omega (arith, below, ap length (kept_levels kept), is)

  one_local : (e : List ℕ) → locals e ls ≤ 1
  one_local e = omega (arith, ids_counted e net, differ-times (all_ids net) kept.sound.ids e, ap (locals e) (kept_levels kept))

  pub lose_done : (e : List ℕ) (k j : ℕ) (old : VoltageLevel) → Spot e k j old → apply net (RemoveSwitch e) ≡ Ok (network_of id heads (slice_set ls k (loses old j)) ts lines)
  unfolding apply with_levels
  lose_done e k j old s =
      let there : has_id (switch_ids net) e ≡ true = switch_there net e ∙ ap is_some s.level in
      rw there (ap (λ (z : List Substation). Ok (record net { substations = z })) (cut_map (level_without_switch e) heads ls ts ∙ ap (λ z. cut heads z ts) (lost_at e ls k j old (one_local e) s.at s.place).0))

  pub lose_nowhere : (e : List ℕ) → find_switch net e ≡ None → apply net (RemoveSwitch e) ≡ Err faults.NoSuchId
  unfolding apply
  lose_nowhere e found = by (level_of_switch net e) refl
    where
      got : (xs : List VoltageLevel) (n : ℕ) → n < length xs → (l : VoltageLevel) × (slice_get xs n ≡ Some l)
      got [] n l = absurd (omega arith)
      got (x ∷ xs) zero l = (x, refl)
      got (x ∷ xs) (suc n) l = got xs n (omega arith)

      there : (i : ℕ) (l : VoltageLevel) → level_of_switch net e ≡ Some i → slice_get (levels net) i ≡ Some l → is_some (switch_test e l) ≡ true
      there i l q g = sym (switch_tested e l) ∙ (switch_has net e i q).1 l g

      never : (i : ℕ) (o : Option ℕ) → is_some o ≡ true → ◌≡◌ {A = Option (ℕ × ℕ)} (option_map (λ y. (i, y)) o) None → ⊥
      never i (Some y) h e = cc
      never i None h e = absurd (false≢true h)

      by : (o : Option ℕ) → level_of_switch net e ≡ o → (refuse_if (not (has_id (switch_ids net) e)) faults.NoSuchId >>= (λ (_ : Unit {0}). Ok (with_levels (level_without_switch e) net))) ≡ Err faults.NoSuchId
      by None q = rw (switch_there net e, q) refl
      by (Some i) q = let l = got (levels net) i (switch_below net e i q) in absurd (never i (switch_test e l.0) (there i l.0 q l.1) (sym (switch_somewhere net e i l.0 q l.1) ∙ found))

  lose_turns : (e : List ℕ) (k j : ℕ) (old : VoltageLevel) → Spot e k j old → Turns look places (slice_set ls k (loses old j)) (ts ++ lines) e None
  unfolding level_of_switch has_single has_terminal
  lose_turns e k j old s =
      let f = kept_flat kept in
      let entry = switch_entry places (look e) k (sym (kept.indexed.switches_found e) ∙ s.level) in
      let out = lost_at e ls k j old (one_local e) s.at s.place in
      record {
        no_substation = ap substation_at entry.1;
        no_level = ap (level_at places) entry.1;
        switch_is = none_position (has_switch e) (slice_set ls k (loses old j)) (ap (list_any (has_switch e)) (sym out.0) ∙ nowhere_left e ls);
        sides_are = sides_set ls (ts ++ lines) e k old (loses old j) s.at refl ∙ f.sides_found e ∙ ap sides_at entry.1;
        terminals_are = λ side. position_set_same (has_terminal e side) ls k old (loses old j) s.at refl ∙ f.terminals e side ∙ ap (terminal_at places side) entry.1;
        entry_within = refl;
      }

  pub some_switch : (e : List ℕ) (k j : ℕ) (old : VoltageLevel) → Spot e k j old → 1 ≤ count
  some_switch e k j old s =
      let below : j < length old.switches = (position_found (names_switch e) old.switches j s.place).0 in
      omega (arith, kept.switch_count, switches_counted net, ap switch_total (kept_levels kept), in_total ls k old s.at)
    where
      in_total : (xs : List VoltageLevel) (n : ℕ) (l : VoltageLevel) → slice_get xs n ≡ Some l → length l.switches ≤ switch_total xs
      in_total [] n l e = cc
      in_total (x ∷ xs) zero l e = let same : x ≡ l = cc in omega (arith, ap (λ (z : VoltageLevel). length z.switches) same)
      in_total (x ∷ xs) (suc n) l e = omega (arith, in_total xs n l e)

  one_here : (e : List ℕ) (xs : List VoltageLevel) (n : ℕ) (l : VoltageLevel) → slice_get xs n ≡ Some l → locals e xs ≤ 1 → times e (switch_ids_of l) ≤ 1
  one_here e [] n l g h = cc
  one_here e (x ∷ xs) zero l g h = let same : x ≡ l = cc in omega (arith, ap (λ (z : VoltageLevel). times e (switch_ids_of z)) same, h)
  one_here e (x ∷ xs) (suc n) l g h = one_here e xs n l g (omega (arith, h))

  pub switches_differ : (k : ℕ) (l : VoltageLevel) → slice_get ls k ≡ Some l → ids_differ (switch_ids_of l) ≡ true
  switches_differ k l at = times-differ (switch_ids_of l) (λ q. one_here q ls k l at (one_local q))

  pub lose_kept : (e : List ℕ) (k j : ℕ) (old : VoltageLevel) (other : List ℕ → Option IdOwner) → Spot e k j old → ((q : List ℕ) → other q ≡ cond (bytes_eq e q) None (look q))
      → IsKept id heads (slice_set ls k (loses old j)) ts lines (count - 1) other places
  lose_kept e k j old other s is =
      let out = cut_out e old.switches j (one_here e ls k old s.at (one_local e)) s.place in
      let below : j < length old.switches = (position_found (names_switch e) old.switches j s.place).0 in
      level_kept kept k old (loses old j) (count - 1) other s.at (apply_sound net (network_of id heads (slice_set ls k (loses old j)) ts lines) (RemoveSwitch e) (lose_done e k j old s) kept.sound)
      (omega (arith, some_switch e k j old s, shorter old.switches j below))
      (flat_turned look other places heads ls (ts ++ lines) k old (loses old j) e None s.at refl is (others_left e old j out.0) (lose_turns e k j old s) (kept_flat kept))
    where
      shorter : (xs : List Switch) (n : ℕ) → n < length xs → length (remove xs n) + 1 ≡ length xs
      shorter [] n l = absurd (omega arith)
      shorter (x ∷ xs) zero l = omega arith
      shorter (x ∷ xs) (suc n) l = omega (arith, shorter xs n (omega arith))
