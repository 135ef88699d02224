-- Flat lists, and the network that they stand for.
use Rattle.std.proofs.Common.{◌≡◌, refl, sym, ap, ◌∙◌, ℕ, zero, suc, ◌+◌, ◌-◌, ◌<◌, ◌≤◌, List, [], ◌∷◌, ◌++◌, length, arith, Option, Some, None, take, drop, get_or}
use Rattle.std.specs.Prelude.{map, flat_map, slice_get, slice_set}
use Rattle.std.specs.Option.{option_map}
use Rattle.std.proofs.lemmas.List.{length-append, length-take-le}
use Rattle.grid_level.specs.VoltageLevel.{VoltageLevel}
use Rattle.grid_structure.specs.declared.NamedBranch.{NamedBranch}
use Rattle.grid_structure.specs.declared.structure.Head.{Head}
use Rattle.grid_structure.specs.declared.structure.IdOwner.{IdOwner}
use Rattle.grid_structure.specs.Kept.{IsKept}
use Rattle.grid_structure.specs.Network.{Substation}
use Rattle.grid_structure.specs.Sites.{levels, branches, find_level, all_ids, new_level_place}
use Rattle.grid_structure.specs.Editing.{with_level, with_levels, substation_with_levels}
use Rattle.grid_structure.specs.Cutting.{cut, level_total, transformer_total, network_of}
use Rattle.grid_structure.specs.Indexed.{find_substation}
use Rattle.grid_structure.proofs.Counts.{times}
use Rattle.grid_structure.proofs.Frames.{put}
use Rattle.grid_structure.proofs.ListOfLevels.{set_at_place}
use Rattle.grid_structure.proofs.Levels.{levels-with_levels}

map_take : (f : VoltageLevel → VoltageLevel) (n : ℕ) (ls : List VoltageLevel) → map f (take n ls) ≡ take n (map f ls)
map_take f zero ls = refl
map_take f (suc n) [] = refl
map_take f (suc n) (l ∷ ls) = ap (λ z. f l ∷ z) (map_take f n ls)

map_drop : (f : VoltageLevel → VoltageLevel) (n : ℕ) (ls : List VoltageLevel) → map f (drop n ls) ≡ drop n (map f ls)
map_drop f zero ls = refl
map_drop f (suc n) [] = refl
map_drop f (suc n) (l ∷ ls) = map_drop f n ls

pub cut_map : (f : VoltageLevel → VoltageLevel) (heads : List Head) (ls : List VoltageLevel) (ts : List NamedBranch) → map (substation_with_levels f) (cut heads ls ts) ≡ cut heads (map f ls) ts
unfolding cut substation_with_levels
cut_map f [] ls ts = refl
cut_map f (h ∷ heads) ls ts = rw (map_take f h.levels ls, cut_map f heads (drop h.levels ls) (drop h.transformers ts), map_drop f h.levels ls) refl

-- the front and the rest make the whole
pub joined : {X : Type 0} (n : ℕ) (xs : List X) → take n xs ++ drop n xs ≡ xs
joined zero xs = refl
joined (suc n) [] = refl
joined (suc n) (x ∷ xs) = ap (λ z. x ∷ z) (joined n xs)

pub length_drop : {X : Type 0} (n : ℕ) (xs : List X) → length (drop n xs) ≡ length xs - n
length_drop zero xs = omega arith
length_drop (suc n) [] = omega arith
length_drop (suc n) (x ∷ xs) = omega (arith, length_drop n xs)

pub cut_levels : (heads : List Head) (ls : List VoltageLevel) (ts : List NamedBranch) → length ls ≡ level_total heads → flat_map (λ (s : Substation). s.levels) (cut heads ls ts) ≡ ls
unfolding cut level_total
cut_levels [] [] ts h = refl
cut_levels [] (l ∷ ls) ts h = absurd (omega arith)
cut_levels (h ∷ heads) ls ts e = ap (λ z. take h.levels ls ++ z) (cut_levels heads (drop h.levels ls) (drop h.transformers ts) (omega (arith, e, length_drop h.levels ls))) ∙ joined h.levels ls

pub cut_transformers : (heads : List Head) (ls : List VoltageLevel) (ts : List NamedBranch) → length ts ≡ transformer_total heads → flat_map (λ (s : Substation). s.transformers) (cut heads ls ts) ≡ ts
unfolding cut transformer_total
cut_transformers [] ls [] h = refl
cut_transformers [] ls (t ∷ ts) h = absurd (omega arith)
cut_transformers (h ∷ heads) ls ts e = ap (λ z. take h.transformers ts ++ z) (cut_transformers heads (drop h.levels ls) (drop h.transformers ts) (omega (arith, e, length_drop h.transformers ts))) ∙ joined h.transformers ts

pub length-cut : (heads : List Head) (ls : List VoltageLevel) (ts : List NamedBranch) → length (cut heads ls ts) ≡ length heads
unfolding cut
length-cut [] ls ts = refl
length-cut (h ∷ heads) ls ts = ap suc (length-cut heads (drop h.levels ls) (drop h.transformers ts))

pub levels-network_of : (id : List ℕ) (heads : List Head) (ls : List VoltageLevel) (ts lines : List NamedBranch) → length ls ≡ level_total heads → levels (network_of id heads ls ts lines) ≡ ls
unfolding levels
levels-network_of id heads ls ts lines e = cut_levels heads ls ts e

pub branches-network_of : (id : List ℕ) (heads : List Head) (ls : List VoltageLevel) (ts lines : List NamedBranch) → length ts ≡ transformer_total heads → branches (network_of id heads ls ts lines) ≡ ts ++ lines
unfolding branches
branches-network_of id heads ls ts lines e = ap (λ z. z ++ lines) (cut_transformers heads ls ts e)

-- setting one level of the flat list is the edit of the network
pub flat_put : (id : List ℕ) (heads : List Head) (ls : List VoltageLevel) (ts lines : List NamedBranch) (new : VoltageLevel) (k : ℕ) → length ls ≡ level_total heads
    → ((q : List ℕ) → times q (all_ids (network_of id heads ls ts lines)) ≤ 1) → find_level (network_of id heads ls ts lines) new.id ≡ Some k
    → with_level new (network_of id heads ls ts lines) ≡ network_of id heads (slice_set ls k new) ts lines
unfolding with_level with_levels
flat_put id heads ls ts lines new k e ids found =
    let net = network_of id heads ls ts lines in
    let flat : levels net ≡ ls = levels-network_of id heads ls ts lines e in
    let set : map (put new) ls ≡ slice_set ls k new = ap (map (put new)) (sym flat) ∙ sym (levels-with_levels (put new) net) ∙ set_at_place net new k ids found ∙ ap (λ z. slice_set z k new) flat in
    ap (λ (z : List Substation). record net { substations = z }) (cut_map (put new) heads ls ts ∙ ap (λ z. cut heads z ts) set)

-- the substation at a place
pub cut_at : (heads : List Head) (ls : List VoltageLevel) (ts : List NamedBranch) (k : ℕ) (h : Head) → k < length heads → h ≡ get_or heads k h
    → option_map (λ (s : Substation). s.id) (slice_get (cut heads ls ts) k) ≡ Some h.id
unfolding cut
cut_at [] ls ts k h l e = absurd (omega arith)
cut_at (x ∷ heads) ls ts zero h l e = ap (λ (z : Head). Some z.id) (sym e)
cut_at (x ∷ heads) ls ts (suc k) h l e = cut_at heads (drop x.levels ls) (drop x.transformers ts) k h (omega arith) e

-- how many levels and transformers it has
pub cut_level_count : (heads : List Head) (ls : List VoltageLevel) (ts : List NamedBranch) (k : ℕ) (h : Head) → k < length heads → h ≡ get_or heads k h → length ls ≡ level_total heads
    → option_map (λ (s : Substation). length s.levels) (slice_get (cut heads ls ts) k) ≡ Some h.levels
unfolding cut level_total
cut_level_count [] ls ts k h l e all = absurd (omega arith)
cut_level_count (x ∷ heads) ls ts zero h l e all = ap (λ n. Some n) (length-take-le x.levels ls (omega (arith, all)) ∙ ap (λ (z : Head). z.levels) (sym e))
cut_level_count (x ∷ heads) ls ts (suc k) h l e all = cut_level_count heads (drop x.levels ls) (drop x.transformers ts) k h (omega arith) e (omega (arith, all, length_drop x.levels ls))

pub cut_transformer_count : (heads : List Head) (ls : List VoltageLevel) (ts : List NamedBranch) (k : ℕ) (h : Head) → k < length heads → h ≡ get_or heads k h → length ts ≡ transformer_total heads
    → option_map (λ (s : Substation). length s.transformers) (slice_get (cut heads ls ts) k) ≡ Some h.transformers
unfolding cut transformer_total
cut_transformer_count [] ls ts k h l e all = absurd (omega arith)
cut_transformer_count (x ∷ heads) ls ts zero h l e all = ap (λ n. Some n) (length-take-le x.transformers ts (omega (arith, all)) ∙ ap (λ (z : Head). z.transformers) (sym e))
cut_transformer_count (x ∷ heads) ls ts (suc k) h l e all = cut_transformer_count heads (drop x.levels ls) (drop x.transformers ts) k h (omega arith) e (omega (arith, all, length_drop x.transformers ts))

-- the levels of the first substations
cut_take : (heads : List Head) (ls : List VoltageLevel) (ts : List NamedBranch) (n : ℕ) → length ls ≡ level_total heads → length (flat_map (λ (s : Substation). s.levels) (take n (cut heads ls ts))) ≡ level_total (take n heads)
unfolding cut level_total
cut_take heads ls ts zero all = refl
cut_take [] ls ts (suc n) all = refl
cut_take (h ∷ heads) ls ts (suc n) all =
    let rest = flat_map (λ (s : Substation). s.levels) (take n (cut heads (drop h.levels ls) (drop h.transformers ts))) in
    omega (arith, length-append (take h.levels ls) rest, length-take-le h.levels ls (omega (arith, all)), cut_take heads (drop h.levels ls) (drop h.transformers ts) n (omega (arith, all, length_drop h.levels ls)))

pub place_in_cut : (id : List ℕ) (heads : List Head) (ls : List VoltageLevel) (ts lines : List NamedBranch) (sub : List ℕ) (k : ℕ) → length ls ≡ level_total heads
    → find_substation (network_of id heads ls ts lines) sub ≡ Some k → new_level_place (cut heads ls ts) sub ≡ Some (level_total (take (k + 1) heads))
unfolding new_level_place find_substation
place_in_cut id heads ls ts lines sub k all found = rw found (ap (λ n. Some n) (cut_take heads ls ts (k + 1) all))

pub no_place_in_cut : (id : List ℕ) (heads : List Head) (ls : List VoltageLevel) (ts lines : List NamedBranch) (sub : List ℕ) → find_substation (network_of id heads ls ts lines) sub ≡ None → new_level_place (cut heads ls ts) sub ≡ None
unfolding new_level_place find_substation
no_place_in_cut id heads ls ts lines sub none = rw none refl

-- ---- the lists of a structure

pub kept_levels : {id : List ℕ} {heads : List Head} {ls : List VoltageLevel} {ts lines : List NamedBranch} {count : ℕ} {look : List ℕ → Option IdOwner} {places : List ℕ}
    → IsKept id heads ls ts lines count look places → levels (network_of id heads ls ts lines) ≡ ls
kept_levels {id} {heads} {ls} {ts} {lines} k = levels-network_of id heads ls ts lines k.level_count

pub kept_branches : {id : List ℕ} {heads : List Head} {ls : List VoltageLevel} {ts lines : List NamedBranch} {count : ℕ} {look : List ℕ → Option IdOwner} {places : List ℕ}
    → IsKept id heads ls ts lines count look places → branches (network_of id heads ls ts lines) ≡ ts ++ lines
kept_branches {id} {heads} {ls} {ts} {lines} k = branches-network_of id heads ls ts lines k.transformer_count
