-- Members whose names are among fewer than those that may be there, since no member has one of the others.
use Rattle.std.proofs.Common.{◌≡◌, ℕ, List, [], ◌∷◌, Bool, true, false, ◌||◌, Some, Ordering, Less, Equal, Greater, nat_cmp, is_eq, refl, sym, ap, ◌∙◌}
use Rattle.std.specs.Prelude.{not, is_some, codes}
use Rattle.std.specs.List.{list_all}
use Rattle.std.specs.Ordering.{match_ordering}
use Rattle.std.specs.Str.{bytes_eq}
use Rattle.std.specs.Cmp.Lexicographic.{slice_cmp}
use Rattle.std.proofs.lemmas.Bool.{and_parts}
use Rattle.std.proofs.lemmas.Map.Text.{is_eq-slice_cmp}
use Rattle.std.proofs.lemmas.Slice.Eq.{bytes_eq-Decides}
use Rattle.serde_json.specs.Data.{Data, Members, no_members, member}
use Rattle.serde_json.specs.Find.{get_member}
use Rattle.grid_json.specs.Reading.{knows, all_known}
use Rattle.grid_json.specs.declared.kinds.InjectionKind.{InjectionKind}
use Rattle.grid_json.specs.declared.kinds.InjectionKind.TheVariants as injections
use Rattle.grid_json.specs.Network.{injection_names, item_names}
use Rattle.grid_json.specs.Slots.{figure_names, has_none, other_names}

-- each name is among the kept or among the dropped
abbrev pub covers : List (List ℕ) → List (List ℕ) → List (List ℕ) → Bool
covers names kept dropped = list_all (λ name. knows kept name || knows dropped name) names

one_behind : (k l : List ℕ) (e : Data) (ms : Members) (o : Ordering) → slice_cmp nat_cmp k l ≡ o
    → not (is_some (match_ordering o (get_member k ms) (Some e) (get_member k ms))) ≡ true
    → (not (is_some (get_member k ms)) ≡ true) × (bytes_eq k l ≡ false)
one_behind k l e ms Less is none = (none, sym (is_eq-slice_cmp k l) ∙ ap is_eq is)
one_behind k l e ms Equal is none = cc
one_behind k l e ms Greater is none = (none, sym (is_eq-slice_cmp k l) ∙ ap is_eq is)

none_behind : (dropped : List (List ℕ)) (l : List ℕ) (e : Data) (ms : Members) → has_none dropped (member l e ms) ≡ true
    → (has_none dropped ms ≡ true) × (knows dropped l ≡ false)
none_behind [] l e ms none = (refl, refl)
none_behind (k ∷ dropped) l e ms none =
    let here = and_parts (not (is_some (get_member k (member l e ms)))) (has_none dropped (member l e ms)) none in
    let one = one_behind k l e ms _ refl here.0 in
    let rest = none_behind dropped l e ms here.1 in
    (rw (one.0, rest.0) refl, rw (one.1, rest.1) refl)

covered : (names kept dropped : List (List ℕ)) (l : List ℕ) → covers names kept dropped ≡ true → knows names l ≡ true
    → (knows kept l || knows dropped l) ≡ true
covered [] kept dropped l all is = cc
covered (n ∷ names) kept dropped l all is =
    let both = and_parts (knows kept n || knows dropped n) (covers names kept dropped) all in
    in_front (bytes_eq n l) refl both.0 is (covered names kept dropped l both.1)
  where
    in_front : (b : Bool) → bytes_eq n l ≡ b → (knows kept n || knows dropped n) ≡ true → (b || knows names l) ≡ true
        → (knows names l ≡ true → (knows kept l || knows dropped l) ≡ true) → (knows kept l || knows dropped l) ≡ true
    in_front true same one is rest =
        ap (λ name. knows kept name || knows dropped name) (sym ((bytes_eq-Decides n l).0 same)) ∙ one
    in_front false differs one is rest = rest is

or_false : (a b : Bool) → (a || b) ≡ true → b ≡ false → a ≡ true
or_false true b either none = refl
or_false false true either none = cc
or_false false false either none = cc

pub narrower : (names kept dropped : List (List ℕ)) (found : Members) → covers names kept dropped ≡ true
    → all_known names found ≡ true → has_none dropped found ≡ true → all_known kept found ≡ true
narrower names kept dropped no_members all known none = refl
narrower names kept dropped (member l e ms) all known none =
    let both = and_parts (knows names l) (all_known names ms) known in
    let rest = none_behind dropped l e ms none in
    let one = or_false (knows kept l) (knows dropped l) (covered names kept dropped l all both.0) rest.1 in
    rw (one, narrower names kept dropped ms all both.1 rest.0) refl

-- ---- injections

abbrev pub injection_slots : List (List ℕ)
injection_slots = codes "kind" ∷ codes "id" ∷ codes "node" ∷ figure_names

figures_cover : (kind : InjectionKind) → covers injection_slots (injection_names kind) (other_names kind) ≡ true
figures_cover injections.Load = refl
figures_cover other = refl

-- an injection with no figure of another kind has the members of its own
pub injection_known : (kind : InjectionKind) (found : Members) → all_known injection_slots found ≡ true
    → has_none (other_names kind) found ≡ true → all_known (injection_names kind) found ≡ true
injection_known kind found known none =
    narrower injection_slots (injection_names kind) (other_names kind) found (figures_cover kind) known none

-- ---- added injections

abbrev pub added_injection_slots : List (List ℕ)
added_injection_slots = codes "do" ∷ codes "kind" ∷ codes "id" ∷ codes "node" ∷ codes "level" ∷ figure_names

abbrev pub added_injection_names : InjectionKind → List (List ℕ)
added_injection_names kind = codes "do" ∷ codes "kind" ∷ codes "id" ∷ codes "level" ∷ codes "node" ∷ item_names kind

added_figures_cover : (kind : InjectionKind) → covers added_injection_slots (added_injection_names kind) (other_names kind) ≡ true
added_figures_cover injections.Load = refl
added_figures_cover other = refl

-- so it is with an added injection
pub added_injection_known : (kind : InjectionKind) (found : Members) → all_known added_injection_slots found ≡ true
    → has_none (other_names kind) found ≡ true → all_known (added_injection_names kind) found ≡ true
added_injection_known kind found known none =
    narrower added_injection_slots (added_injection_names kind) (other_names kind) found (added_figures_cover kind) known none
