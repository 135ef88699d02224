-- Groups of contingencies that differ in their names alone.
use Rattle.std.proofs.Common.{◌≡◌, refl, sym, ap, ◌∙◌, subst, ℕ, ◌+◌, ◌<◌, Bool, List, [], ◌∷◌, ◌++◌, length, get_or, map, take, Option, Some, None}
use Rattle.std.specs.Prelude.{slice_get}
use Rattle.std.specs.Option.{option_map}
use Rattle.std.proofs.lemmas.List.{map-append, take_more}
use Rattle.std.proofs.lemmas.Option.{slice_get_within, slice_get-map}
use Rattle.grid_lemmas.proofs.Lists.{get_front}
use Rattle.grid_contingencies.specs.declared.FaultCase.{FaultCase}
use Rattle.grid_contingencies.specs.declared.Contingency.{Contingency}
use Rattle.grid_screen.specs.declared.Finding.{Finding}
use Rattle.grid_screen.specs.Alike.{event_of, event_of_group, AreAlike}

abbrev some_event : Contingency → Option (FaultCase × Bool)
some_event c = Some (event_of c)

pub none_alike : (firsts : List Contingency) (groups : List ℕ) → groups ≡ [] → AreAlike [] firsts groups
none_alike firsts groups e = ap (map (event_of_group firsts)) e

-- a group stays where more come
group_stays : (firsts : List Contingency) (more : Contingency) (g : ℕ) (event : FaultCase × Bool) → event_of_group firsts g ≡ Some event → event_of_group (firsts ++ more ∷ []) g ≡ Some event
group_stays firsts more g event h = by (slice_get firsts g) refl h
  where
    by : (o : Option Contingency) → slice_get firsts g ≡ o → option_map event_of o ≡ Some event → option_map event_of (slice_get (firsts ++ more ∷ []) g) ≡ Some event
    by (Some x) e f = ap (option_map event_of) (get_front firsts (more ∷ []) g (slice_get_within firsts g x e) ∙ e) ∙ f
    by None e f = absurd (cc)

all_stay : (part firsts : List Contingency) (more : Contingency) (groups : List ℕ) → AreAlike part firsts groups → AreAlike part (firsts ++ more ∷ []) groups
all_stay [] firsts more [] h = refl
all_stay [] firsts more (g ∷ groups) h = absurd (cc)
all_stay (c ∷ part) firsts more [] h = absurd (cc)
all_stay (c ∷ part) firsts more (g ∷ groups) h =
    let first : event_of_group firsts g ≡ Some (event_of c) = cc in
    let rest : map (event_of_group firsts) groups ≡ map some_event part = cc in
    ap (λ z. z ∷ map (event_of_group (firsts ++ more ∷ [])) groups) (group_stays firsts more g (event_of c) first) ∙ ap (λ z. Some (event_of c) ∷ z) (all_stay part firsts more groups rest)

-- one more
one_more : (list : List Contingency) (i : ℕ) (firsts : List Contingency) (groups : List ℕ) (g : ℕ) (c : Contingency) → i < length list → c ≡ get_or list i c → AreAlike (take i list) firsts groups → event_of_group firsts g ≡ Some (event_of c)
    → AreAlike (take (i + 1) list) firsts (groups ++ g ∷ [])
one_more list i firsts groups g c lt at h is =
    map-append (event_of_group firsts) groups (g ∷ []) ∙ ap (λ z. z ++ event_of_group firsts g ∷ []) h ∙ ap (λ z. map some_event (take i list) ++ z ∷ []) is
    ∙ sym (ap (map some_event) (take_more list i c lt ∙ ap (λ (z : Contingency). take i list ++ z ∷ []) (sym at)) ∙ map-append some_event (take i list) (c ∷ []))

pub group_known : (list : List Contingency) (i : ℕ) (firsts : List Contingency) (groups next : List ℕ) (g : ℕ) (c : Contingency) → i < length list → c ≡ get_or list i c → AreAlike (take i list) firsts groups → event_of_group firsts g ≡ Some (event_of c)
    → next ≡ groups ++ g ∷ [] → AreAlike (take (i + 1) list) firsts next
group_known list i firsts groups next g c lt at h is e = subst (λ z. AreAlike (take (i + 1) list) firsts z) (sym e) (one_more list i firsts groups g c lt at h is)

last_got : (xs : List Contingency) (x : Contingency) → slice_get (xs ++ x ∷ []) (length xs) ≡ Some x
last_got [] x = refl
last_got (y ∷ xs) x = last_got xs x

pub group_new : (list : List Contingency) (i : ℕ) (firsts more : List Contingency) (groups next : List ℕ) (g : ℕ) (c copy : Contingency) → i < length list → c ≡ get_or list i c → AreAlike (take i list) firsts groups → event_of copy ≡ event_of c
    → more ≡ firsts ++ copy ∷ [] → next ≡ groups ++ g ∷ [] → g ≡ length firsts → AreAlike (take (i + 1) list) more next
group_new list i firsts more groups next g c copy lt at h same e f last =
    let own : event_of_group (firsts ++ copy ∷ []) g ≡ Some (event_of c) = ap (option_map event_of) (ap (slice_get (firsts ++ copy ∷ [])) last ∙ last_got firsts copy) ∙ ap (λ z. Some z) same in
    subst (λ z. AreAlike (take (i + 1) list) z next) (sym e) (group_known list i (firsts ++ copy ∷ []) groups next g c lt at (all_stay (take i list) firsts copy groups h) own f)

-- ---- what is found of groups

pub found_alike : (f : Contingency → Finding) (h : FaultCase × Bool → Finding) → ((c : Contingency) → f c ≡ h (event_of c)) → (list firsts : List Contingency) (groups : List ℕ) (found findings : List Finding) → AreAlike list firsts groups → found ≡ map f firsts
    → map (λ (finding : Finding). Some finding) findings ≡ map (slice_get found) groups → findings ≡ map f list
found_alike f h same [] firsts [] found [] alike is told = refl
found_alike f h same [] firsts [] found (x ∷ findings) alike is told = absurd (cc)
found_alike f h same [] firsts (g ∷ groups) found findings alike is told = absurd (cc)
found_alike f h same (c ∷ list) firsts [] found findings alike is told = absurd (cc)
found_alike f h same (c ∷ list) firsts (g ∷ groups) found [] alike is told = absurd (cc)
found_alike f h same (c ∷ list) firsts (g ∷ groups) found (x ∷ findings) alike is told =
    let first : event_of_group firsts g ≡ Some (event_of c) = cc in
    let rest : map (event_of_group firsts) groups ≡ map some_event list = cc in
    let one : Some x ≡ slice_get found g = cc in
    let others : map (λ (finding : Finding). Some finding) findings ≡ map (slice_get found) groups = cc in
    ap (λ z. z ∷ findings) (by (slice_get firsts g) refl first (one ∙ ap (λ z. slice_get z g) is ∙ slice_get-map f firsts g)) ∙ ap (λ z. f c ∷ z) (found_alike f h same list firsts groups found findings rest is others)
  where
    by : (o : Option Contingency) → slice_get firsts g ≡ o → option_map event_of o ≡ Some (event_of c) → ◌≡◌ {A = Option Finding} (Some x) (option_map f (slice_get firsts g)) → x ≡ f c
    by (Some d) e k t =
        let alike : event_of d ≡ event_of c = cc in
        let is : ◌≡◌ {A = Option Finding} (Some x) (Some (f d)) = t ∙ ap (option_map f) e in
        let here : x ≡ f d = cc in
        here ∙ same d ∙ ap h alike ∙ sym (same c)
    by None e k t = absurd (cc)
