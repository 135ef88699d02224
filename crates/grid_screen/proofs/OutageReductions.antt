-- What ids that are out leave: fewer terminals, and no switch that is closed again.
use Rattle.std.proofs.Common.{◌≡◌, refl, sym, ap, ◌∙◌, subst, ℕ, zero, suc, ◌<◌, Bool, true, false, not, List, [], ◌∷◌, map, length, get_or, arith, Option, Some, None}
use Rattle.std.specs.Prelude.{slice_get, slice_set, filter}
use Rattle.std.proofs.lemmas.Bool.{false≢true}
use Rattle.grid_lemmas.proofs.Lists.{map_got}
use Rattle.grid_ids.specs.Name.{same_id, has_id}
use Rattle.grid_level.specs.declared.Placed.{Placed}
use Rattle.grid_level.specs.VoltageLevel.{VoltageLevel}
use Rattle.grid_level.specs.LevelEdits.{level_without_equipment}
use Rattle.grid_states.specs.Rows.{row_at, with_row, with_flag}
use Rattle.grid_structure.specs.Clearing.{cleared, cleared_at}
use Rattle.grid_structure.specs.Network.{Network}
use Rattle.grid_structure.specs.Sites.{find_switch, site}
use Rattle.grid_structure.proofs.Frames.{is_same}
use Rattle.grid_outages.specs.Steps.{level_of_site, cleared_side, taken_out, levels_by, rows_by, levels_with_out, rows_with_out, levels_after, rows_after}
use Rattle.grid_outages.proofs.Again.{rows_again}
use Rattle.grid_outages.proofs.OutageChanges.{switch_out}
use Rattle.grid_screen.proofs.Leasts.{after_row, after_rows}
use Rattle.grid_outages.proofs.Members.{Among, filter_among}

-- ---- terminals

-- a level of a list, and its terminals among those of the level that was there
pub record Fewer (ls : List VoltageLevel) (k : ℕ) (l : VoltageLevel) : Type 0 where
  pub level : VoltageLevel
  pub at : slice_get ls k ≡ Some level
  pub terminals : (p : Placed) → Among p l.placed → Among p level.placed

all_there : (ls : List VoltageLevel) (k : ℕ) (l : VoltageLevel) → slice_get ls k ≡ Some l → Fewer ls k l
all_there ls k l e = record { level = l; at = e; terminals = λ p i. i }

at_fewer : (id : List ℕ) (j : ℕ) (ls : List VoltageLevel) (k : ℕ) (l : VoltageLevel) → slice_get (cleared_at id j ls) k ≡ Some l → Fewer ls k l
unfolding cleared_at level_without_equipment
at_fewer id j [] k l e = cc
at_fewer id zero (m ∷ ls) zero l e =
    let same : (record m { placed = filter (λ (p : Placed). not (same_id id p.terminal.equipment)) m.placed }) ≡ l = cc in
    record {
      level = m;
      at = refl;
      terminals = λ p i. (filter_among (λ (p : Placed). not (same_id id p.terminal.equipment)) p m.placed (subst (λ (z : VoltageLevel). Among p z.placed) (sym same) i)).0;
    }
at_fewer id zero (m ∷ ls) (suc k) l e = all_there (m ∷ ls) (suc k) l e
at_fewer id (suc j) (m ∷ ls) zero l e = all_there (m ∷ ls) zero l e
at_fewer id (suc j) (m ∷ ls) (suc k) l e = let r = at_fewer id j ls k l e in record { level = r.level; at = r.at; terminals = r.terminals }

one_fewer : (id : List ℕ) (o : Option ℕ) (ls : List VoltageLevel) (k : ℕ) (l : VoltageLevel) → slice_get (cleared id o ls) k ≡ Some l → Fewer ls k l
one_fewer id None ls k l e = all_there ls k l e
one_fewer id (Some j) ls k l e = at_fewer id j ls k l e

chained : (ls : List VoltageLevel) (k : ℕ) (l : VoltageLevel) (ms : List VoltageLevel) → (r : Fewer ms k l) → Fewer ls k r.level → Fewer ls k l
chained ls k l ms r s = record { level = s.level; at = s.at; terminals = λ p i. s.terminals p (r.terminals p i) }

by_fewer : (net : Network) (id : List ℕ) (o : Option (ℕ × ℕ)) (ls : List VoltageLevel) (k : ℕ) (l : VoltageLevel) → slice_get (levels_by net id o ls) k ≡ Some l → Fewer ls k l
unfolding taken_out cleared_side
by_fewer net id (Some at) ls k l e = all_there ls k l e
by_fewer net id None ls k l e =
    let one = cleared id (level_of_site (site net id 1)) ls in
    let two = cleared id (level_of_site (site net id 2)) one in
    let c = one_fewer id (level_of_site (site net id 3)) two k l e in
    let b = one_fewer id (level_of_site (site net id 2)) one k c.level c.at in
    let a = one_fewer id (level_of_site (site net id 1)) ls k b.level b.at in
    chained ls k l two c (chained ls k c.level one b a)

pub fewer : (net : Network) (ids : List (List ℕ)) (ls : List VoltageLevel) (k : ℕ) (l : VoltageLevel) → slice_get (levels_after net ids ls) k ≡ Some l → Fewer ls k l
unfolding levels_after levels_with_out
fewer net [] ls k l e = all_there ls k l e
fewer net (id ∷ ids) ls k l e =
    let r = fewer net ids (levels_by net id (find_switch net id) ls) k l e in
    chained ls k l (levels_by net id (find_switch net id) ls) r (by_fewer net id (find_switch net id) ls k r.level r.at)

-- what takes nothing of an equipment out has none of its terminals
pub none_left : (id : List ℕ) (ls : List VoltageLevel) (k : ℕ) (l : VoltageLevel) (p : Placed) → map (level_without_equipment id) ls ≡ ls → slice_get ls k ≡ Some l → Among p l.placed → p.terminal.equipment ≡ id → ⊥
unfolding level_without_equipment
none_left id ls k l p same at i own =
    let moved = map_got (level_without_equipment id) ls k l at in
    let again : ◌≡◌ {A = Option VoltageLevel} (Some (level_without_equipment id l)) (Some l) = sym moved ∙ ap (λ z. slice_get z k) same ∙ at in
    let is : level_without_equipment id l ≡ l = cc in
    let kept = filter_among (λ (q : Placed). not (same_id id q.terminal.equipment)) p l.placed (subst (λ (z : VoltageLevel). Among p z.placed) (sym is) i) in
    false≢true (ap not (sym (is_same id p.terminal.equipment (sym own))) ∙ kept.1)

-- ---- flags

row_opens : (row : List Bool) (p j : ℕ) → get_or row j false ≡ true → get_or (slice_set row p true) j false ≡ true
row_opens [] p j e = e
row_opens (x ∷ row) zero zero e = refl
row_opens (x ∷ row) zero (suc j) e = e
row_opens (x ∷ row) (suc p) zero e = e
row_opens (x ∷ row) (suc p) (suc j) e = row_opens row p j e

rows_open : (rows : List (List Bool)) (a b k j : ℕ) → get_or (get_or rows k []) j false ≡ true → get_or (get_or (slice_set rows a (slice_set (get_or rows a []) b true)) k []) j false ≡ true
rows_open [] a b k j e = e
rows_open (r ∷ rows) zero b zero j e = row_opens r b j e
rows_open (r ∷ rows) zero b (suc k) j e = e
rows_open (r ∷ rows) (suc a) b zero j e = e
rows_open (r ∷ rows) (suc a) b (suc k) j e = rows_open rows a b k j e

by_opens : (o : Option (ℕ × ℕ)) (rows : List (List Bool)) (k j : ℕ) → get_or (row_at rows k) j false ≡ true → get_or (row_at (rows_by o rows) k) j false ≡ true
unfolding row_at with_flag with_row
by_opens None rows k j e = e
by_opens (Some at) rows k j e = rows_open rows at.0 at.1 k j e

-- what is open stays open
pub stays_open : (net : Network) (ids : List (List ℕ)) (rows : List (List Bool)) (k j : ℕ) → get_or (row_at rows k) j false ≡ true → get_or (row_at (rows_after net ids rows) k) j false ≡ true
unfolding rows_after rows_with_out
stays_open net [] rows k j e = e
stays_open net (id ∷ ids) rows k j e = stays_open net ids (rows_by (find_switch net id) rows) k j (by_opens (find_switch net id) rows k j e)

row_set : (row : List Bool) (j : ℕ) → j < length row → get_or (slice_set row j true) j false ≡ true
row_set [] j lt = absurd (omega arith)
row_set (x ∷ row) zero lt = refl
row_set (x ∷ row) (suc j) lt = row_set row j (omega arith)

rows_set : (rows : List (List Bool)) (k j : ℕ) → k < length rows → j < length (get_or rows k []) → get_or (get_or (slice_set rows k (slice_set (get_or rows k []) j true)) k []) j false ≡ true
rows_set [] k j lt less = absurd (omega arith)
rows_set (r ∷ rows) zero j lt less = row_set r j less
rows_set (r ∷ rows) (suc k) j lt less = rows_set rows k j (omega arith) less

-- a switch that is out is open
pub out_is_open : (net : Network) (ids : List (List ℕ)) (rows : List (List Bool)) (id : List ℕ) (k j : ℕ) → has_id ids id ≡ true → find_switch net id ≡ Some (k, j) → k < length rows → j < length (row_at rows k)
    → get_or (row_at (rows_after net ids rows) k) j false ≡ true
unfolding rows_after row_at with_flag with_row
out_is_open net ids rows id k j there found lt less =
    let now = rows_after net ids rows in
    let again : with_flag now k j true ≡ now = sym (switch_out net id k j [] now found).1 ∙ rows_again net ids rows id there in
    let long : length now ≡ length rows = after_rows net ids rows in
    let row : length (get_or now k []) ≡ length (get_or rows k []) = after_row net ids rows k in
    ap (λ (z : List (List Bool)). get_or (get_or z k []) j false) (sym again) ∙ rows_set now k j (omega (arith, lt, long)) (omega (arith, less, row))
