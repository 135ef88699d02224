-- No member is lost where the members of an object are put in order by their names.
use Rattle.std.proofs.Common.{◌≡◌, ℕ, List, false, Option, Some, None, Ordering, Less, Equal, Greater, refl, sym, ap, ap₂, ◌∙◌}
use Rattle.std.specs.Prelude.{option_map}
use Rattle.std.specs.Ordering.{nat_cmp, match_ordering, is_eq}
use Rattle.std.specs.Cmp.Lexicographic.{slice_cmp}
use Rattle.std.proofs.lemmas.Slice.Eq.{bytes_eq-Decides}
use Rattle.std.proofs.lemmas.Bool.{true≢false}
use Rattle.std.proofs.lemmas.Map.Text.{is_eq-slice_cmp}
use Rattle.serde_json.specs.Data.{Data, null, boolean, number, string, array, object, Items, no_items, item, Members, no_members, member, put}
use Rattle.serde_json.specs.Find.{get_member}
use Rattle.serde_json.proofs.Views.{get_member-put, get_member-put_other}
use Rattle.grid_told.specs.Trees.{HasWholes, ItemsHaveWholes, MembersHaveWholes, MemberNamesDiffer, by_name, items_by_name, put_by_name}

-- what is found behind those before
abbrev found_or : Option Data → Option Data → Option Data
found_or None before = before
found_or (Some d) before = Some (by_name d)

apart : (name k : List ℕ) → is_eq (slice_cmp nat_cmp name k) ≡ false → name ≡ k → ⊥
apart name k e same = true≢false (sym ((bytes_eq-Decides name k).1 same) ∙ sym (is_eq-slice_cmp name k) ∙ e)

put_found : (ms before : Members) (name : List ℕ) → MemberNamesDiffer ms → get_member name (put_by_name ms before) ≡ found_or (get_member name ms) (get_member name before)
put_found no_members before name differ = refl
put_found (member k d ms) before name differ =
    put_found ms (put k (by_name d) before) name differ.1.1 ∙ by (slice_cmp nat_cmp name k) refl
  where
    by : (o : Ordering) → slice_cmp nat_cmp name k ≡ o
        → found_or (get_member name ms) (get_member name (put k (by_name d) before)) ≡ found_or (match_ordering o (get_member name ms) (Some d) (get_member name ms)) (get_member name before)
    by Less e = ap (found_or (get_member name ms)) (get_member-put_other name k (by_name d) before (apart name k (ap is_eq e)))
    by Equal e =
        let same : name ≡ k = (bytes_eq-Decides name k).0 (sym (is_eq-slice_cmp name k) ∙ ap is_eq e) in
        ap₂ found_or (ap (λ n. get_member n ms) same ∙ differ.0) (ap (λ n. get_member n (put k (by_name d) before)) same ∙ get_member-put k (by_name d) before)
    by Greater e = ap (found_or (get_member name ms)) (get_member-put_other name k (by_name d) before (apart name k (ap is_eq e)))

found_first : (found : Option Data) → found_or found None ≡ option_map by_name found
found_first None = refl
found_first (Some d) = refl

pub members_are_kept : (ms : Members) (name : List ℕ) → MemberNamesDiffer ms → get_member name (put_by_name ms no_members) ≡ option_map by_name (get_member name ms)
members_are_kept ms name differ = put_found ms no_members name differ ∙ found_first (get_member name ms)

-- ---- what holds of all members holds of them in order

wholes_put : (k : List ℕ) (d : Data) (ms : Members) → HasWholes d → MembersHaveWholes ms → MembersHaveWholes (put k d ms)
wholes_put k d no_members h old = (h, tt)
wholes_put k d (member l e ms) h old = by (wholes_put k d ms h old.1) (slice_cmp nat_cmp k l)
  where
    by : MembersHaveWholes (put k d ms) → (o : Ordering) → MembersHaveWholes (match_ordering o (member k d (member l e ms)) (member l d ms) (member l e (put k d ms)))
    by later Less = (h, old)
    by later Equal = (h, old.1)
    by later Greater = (old.0, later)

mutual
  pub wholes_kept : (d : Data) → HasWholes d → HasWholes (by_name d)
  wholes_kept null h = tt
  wholes_kept (boolean b) h = tt
  wholes_kept (number n) h = h
  wholes_kept (string s) h = tt
  wholes_kept (array ds) h = items_wholes_kept ds h
  wholes_kept (object ms) h = members_wholes_kept ms no_members h tt

  items_wholes_kept : (ds : Items) → ItemsHaveWholes ds → ItemsHaveWholes (items_by_name ds)
  items_wholes_kept no_items h = tt
  items_wholes_kept (item d ds) h = (wholes_kept d h.0, items_wholes_kept ds h.1)

  members_wholes_kept : (ms before : Members) → MembersHaveWholes ms → MembersHaveWholes before → MembersHaveWholes (put_by_name ms before)
  members_wholes_kept no_members before h old = old
  members_wholes_kept (member k d ms) before h old = members_wholes_kept ms (put k (by_name d) before) h.1 (wholes_put k (by_name d) before (wholes_kept d h.0) old)
