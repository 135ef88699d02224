-- What the ends of a branch, and then their breakers, make of a level with configured buses: one after the other, by side.
use Rattle.std.proofs.Common.{◌≡◌, refl, sym, ap, ◌∙◌, subst, ℕ, ◌+◌, Bool, true, false, not, List, [], ◌∷◌, ◌++◌, length, Option, Some, Ok, arith, append_assoc}
use Rattle.std.specs.Prelude.{if◌then◌else◌, flat_map}
use Rattle.std.specs.List.{enumerate_from}
use Rattle.std.proofs.lemmas.List.{append-nil, length-append}
use Rattle.std.proofs.lemmas.List.Elements.{All-append, All-nil}
use Rattle.grid_ids.specs.Name.{same_id}
use Rattle.grid_level.specs.Passing.{is_busbar}
use Rattle.grid_level.proofs.LevelEdits.{all_join, went}
use Rattle.grid_structure.specs.declared.End.{End}
use Rattle.grid_structure.specs.Network.{Network}
use Rattle.grid_structure.specs.Editing.{place_end, place_ends}
use Rattle.grid_placed.specs.Places.{Joint, Outlet}
use Rattle.grid_placed.proofs.Nodes.{StandsWell}
use Rattle.grid_json.specs.declared.buses.BusLevelDraft.{BusLevelDraft}
use Rattle.grid_json.specs.declared.buses.EndDraft.{EndDraft}
use Rattle.grid_json.specs.declared.buses.EndDraft.TheVariants as ends
use Rattle.grid_json.specs.Loading.{by_bus_in, end_breaker, level_of}
use Rattle.grid_shaped.specs.Drafts.{end_outlet, end_outlets}
use Rattle.grid_shaped.proofs.Parts.{Plain}
use Rattle.grid_shaped.proofs.Ends.{Breaking, EndFits, PartAt, break_more, end_more, end_none}

-- ---- the terminals of an end, and of all from a side on

end_plain : (l : BusLevelDraft) (id : List ℕ) (side : ℕ) (e : EndDraft) → Plain (end_outlets l id side e)
unfolding is_busbar
end_plain l id side (ends.Node e) = refl
end_plain l id side (ends.Bus e) = by (same_id l.id e.level)
  where
    by : (t : Bool) → Plain (if t then end_outlet l.buses id side e ∷ [] else [])
    by true = refl
    by false = refl

counted : (l : BusLevelDraft) (id : List ℕ) (side : ℕ) (e : EndDraft) → length (end_outlets l id side e) ≡ by_bus_in l.id e
counted l id side (ends.Node e) = refl
counted l id side (ends.Bus e) = by (same_id l.id e.level)
  where
    by : (t : Bool) → length (if t then end_outlet l.buses id side e ∷ [] else []) ≡ (if t then 1 else 0)
    by true = refl
    by false = refl

abbrev pub sided : BusLevelDraft → List ℕ → ℕ → List EndDraft → List Outlet
sided l id side es = flat_map (λ (at : ℕ × EndDraft). end_outlets l id at.0 at.1) (enumerate_from side es)

pub join_plain : (xs ys : List Outlet) → Plain xs → Plain ys → Plain (xs ++ ys)
join_plain xs ys h k = all_join (λ (t : Outlet). not (is_busbar t.stand)) xs ys h k

pub sided_plain : (l : BusLevelDraft) (id : List ℕ) (side : ℕ) (es : List EndDraft) → Plain (sided l id side es)
sided_plain l id side [] = refl
sided_plain l id side (e ∷ es) = join_plain (end_outlets l id side e) (sided l id (side + 1) es) (end_plain l id side e) (sided_plain l id (side + 1) es)

-- each end of a branch is that of its draft, and behind the earlier ones of this level
abbrev pub AllFit : BusLevelDraft → ℕ → List EndDraft → List End → Type 0
AllFit l at [] [] = Unit {0}
AllFit l at [] (p ∷ ps) = ⊥
AllFit l at (e ∷ es) [] = ⊥
AllFit l at (e ∷ es) (p ∷ ps) = (p.level ≡ level_of e) × EndFits l e p.node at × AllFit l (at + by_bus_in l.id e) es ps

behind : (l : BusLevelDraft) (id : List ℕ) (side : ℕ) (e : EndDraft) (ts : List Outlet) → length l.buses + length ts + by_bus_in l.id e ≡ length l.buses + length (ts ++ end_outlets l id side e)
behind l id side e ts = let many = counted l id side e in omega (arith, many, length-append ts (end_outlets l id side e))

-- ---- the ends

-- they stand behind the terminals before, and where the branch names another substation there is none
pub record Placed (l : BusLevelDraft) (home : List ℕ) (js : List Joint) (ds ts more : List Outlet) (branch_home : Option (List ℕ)) (new : Network) : Type 0 where
  pub stand : PartAt l home js ds (ts ++ more) new
  pub foreign : (sub : List ℕ) → branch_home ≡ Some sub → same_id sub home ≡ false → more ≡ []

module _ (l : BusLevelDraft) (home : List ℕ) (js : List Joint) (id : List ℕ) where
  pub ends_more : (branch_home : Option (List ℕ)) (ds : List Outlet) (side : ℕ) (es : List EndDraft) (ps : List End) (ts : List Outlet) (net new : Network) → AllFit l (length l.buses + length ts) es ps → PartAt l home js ds ts net
      → place_ends branch_home id side ps net ≡ Ok new → Placed l home js ds ts (sided l id side es) branch_home new
  unfolding place_ends
  ends_more branch_home ds side [] [] ts net new fit before h =
      let same : net ≡ new = cc in
      let now = subst (λ (z : Network). PartAt l home js ds ts z) same before in
      record { stand = subst (λ z. PartAt l home js ds z new) (sym (append-nil ts)) now; foreign = λ sub named other. refl }
  ends_more branch_home ds side [] (p ∷ ps) ts net new fit before h = absurd fit
  ends_more branch_home ds side (e ∷ es) [] ts net new fit before h = absurd fit
  ends_more branch_home ds side (e ∷ es) (p ∷ ps) ts net new fit before h =
      let w = went (place_end branch_home id side p net) (place_ends branch_home id (side + 1) ps) new h in
      let c = end_outlets l id side e in
      let one = end_more l home js ds ts net w.value before branch_home id side e p fit.0 fit.1 w.is in
      let rest = ends_more branch_home ds (side + 1) es ps (ts ++ c) w.value new (subst (λ (z : ℕ). AllFit l z es ps) (behind l id side e ts) fit.2) one w.next in
      record {
        stand = subst (λ z. PartAt l home js ds z new) (append_assoc ts c (sided l id (side + 1) es)) rest.stand;
        foreign = λ sub named other.
            let none = end_none l home net w.value branch_home sub id side e p before.at_home fit.0 named other w.is in
            ap (λ z. z ++ sided l id (side + 1) es) none ∙ rest.foreign sub named other;
      }

-- ---- their breakers

-- the breakers of these ends were added
abbrev pub Broken : List ℕ → ℕ → List EndDraft → List End → Network → Network → Type 0
Broken id side [] [] net new = net ≡ new
Broken id side [] (p ∷ ps) net new = ⊥
Broken id side (e ∷ es) [] net new = ⊥
Broken id side (e ∷ es) (p ∷ ps) net new = (mid : Network) × (end_breaker id side e p.node net ≡ Ok mid) × Broken id (side + 1) es ps mid new

module _ (l : BusLevelDraft) (home : List ℕ) (js : List Joint) (id : List ℕ) (all : List Outlet) (plain : Plain all) where
  pub breakers_more : (side : ℕ) (es : List EndDraft) (ps : List End) (ds : List Outlet) (net new : Network) → AllFit l (length l.buses + length ds) es ps → PartAt l home js ds all net → Broken id side es ps net new
      → Breaking l home js ds all (sided l id side es) new
  breakers_more side [] [] ds net new fit before same =
      let now = subst (λ (z : Network). PartAt l home js ds all z) same before in
      record { at = subst (λ z. PartAt l home js z all new) (sym (append-nil ds)) now; well = All-nil (StandsWell (length l.buses)) }
  breakers_more side [] (p ∷ ps) ds net new fit before broken = absurd fit
  breakers_more side (e ∷ es) [] ds net new fit before broken = absurd fit
  breakers_more side (e ∷ es) (p ∷ ps) ds net new fit before broken =
      let c = end_outlets l id side e in
      let one = break_more l home js ds all net broken.0 before id side e p.node fit.1 plain broken.1 in
      let rest = breakers_more (side + 1) es ps (ds ++ c) broken.0 new (subst (λ (z : ℕ). AllFit l z es ps) (behind l id side e ds) fit.2) one.at broken.2 in
      record {
        at = subst (λ z. PartAt l home js z all new) (append_assoc ds c (sided l id (side + 1) es)) rest.at;
        well = All-append (StandsWell (length l.buses)) c (sided l id (side + 1) es) one.well rest.well;
      }
