-- Groups that nodes and terminals are put into, by the numbers of the groups.
use Rattle.std.proofs.Common.{◌≡◌, ◌≢◌, refl, sym, ap, ◌∙◌, subst, ℕ, zero, suc, ◌+◌, ◌<◌, ◌≤◌, Bool, true, false, cond, List, [], ◌∷◌, ◌++◌, length, get_or, set, inl, inr, arith, Some, get_or-set_same, get_or-set_other, length-set, length-append}
use Rattle.std.specs.Prelude.{eqb, map, filter, slice_get}
use Rattle.std.specs.List.{filter_map}
use Rattle.std.proofs.Math.ListN.{get_or-append}
use Rattle.std.proofs.Math.Seq.{get_or-append_seam}
use Rattle.std.proofs.lemmas.Bool.{cases_eq, cases_lt, eqb-true, eq-eqb, ne_eqb}
use Rattle.std.proofs.lemmas.List.{append-nil, get_or-map, length-map}
use Rattle.std.proofs.lemmas.List.Elements.{filter_map-append}
use Rattle.std.proofs.lemmas.List.Sums.{length-filter}
use Rattle.grid_graph.proofs.Counts.{count_all}
use Rattle.grid_graph.specs.Components.{places}
use Rattle.grid_level.specs.VoltageLevel.{VoltageLevel}
use Rattle.grid_level.specs.Passing.{nodes}
use Rattle.grid_groups.specs.declared.grouping.Group.{Group}
use Rattle.grid_groups.specs.Labels.{items_at, leading, group_of, no_group, places_with, AreNumbers}
use Rattle.grid_groups.proofs.Lists.{passed_all}
use Rattle.grid_groups.proofs.Steps.{places_passed}

-- ---- how many places that pass come before one that passes

passed_suc : (p : ℕ → Bool) (n : ℕ) → filter p (places (suc n)) ≡ filter p (places n) ++ cond (p n) (n ∷ []) []
passed_suc p n = let next : suc n ≡ n + 1 = omega arith in ap (λ m. filter p (places m)) next ∙ places_passed p n

-- the place that passes stands behind as many as come before it
rank_last : (p : ℕ → Bool) (n : ℕ) (xs : List ℕ) (t : Bool) → t ≡ true → (length xs < length (xs ++ cond t (n ∷ []) [])) × (get_or (xs ++ cond t (n ∷ []) []) (length xs) 0 ≡ n)
rank_last p n xs true h = (omega (arith, length-append xs (n ∷ [])), get_or-append_seam xs n [] 0)
rank_last p n xs false h = absurd (cc)

pub place_at : (p : ℕ → Bool) (n l : ℕ) → l < n → p l ≡ true → (length (filter p (places l)) < length (filter p (places n))) × (get_or (filter p (places n)) (length (filter p (places l))) 0 ≡ l)
place_at p zero l lt h = absurd (omega arith)
place_at p (suc n) l lt h =
    let xs : List ℕ = filter p (places n) in
    let rest : List ℕ = cond (p n) (n ∷ []) [] in
    let k : ℕ = length (filter p (places l)) in
    let P : List ℕ → Type 0 = λ zs. (k < length zs) × (get_or zs k 0 ≡ l) in
    let Q : ℕ → Type 0 = λ z. (length (filter p (places z)) < length (xs ++ rest)) × (get_or (xs ++ rest) (length (filter p (places z))) 0 ≡ z) in
    let R : ℕ → Type 0 = λ z. p z ≡ true in
    subst P (sym (passed_suc p n)) (elim (cases_eq l n) [
      | inl e ↦ subst Q (sym e) (rank_last p n xs (p n) (subst R e h))
      | inr ne ↦ (let r = place_at p n l (omega (arith, ne, lt)) h in (omega (arith, r.0, length-append xs rest), get_or-append xs rest 0 k r.0 ∙ r.1))
    ])

rank_over : (p : ℕ → Bool) (n j : ℕ) (xs : List ℕ) (t : Bool) → length (filter p (places n)) ≡ length xs → ((i : ℕ) → i < length xs → length (filter p (places (get_or xs i 0))) ≡ i) → j < length (xs ++ cond t (n ∷ []) [])
    → length (filter p (places (get_or (xs ++ cond t (n ∷ []) []) j 0))) ≡ j
rank_over p n j xs t long rest lt = elim (cases_lt j (length xs)) [
  | inl h ↦ ap (λ z. length (filter p (places z))) (get_or-append xs (cond t (n ∷ []) []) 0 j h) ∙ rest j h
  | inr h ↦ last t lt h
]
  where
    last : (s : Bool) → j < length (xs ++ cond s (n ∷ []) []) → length xs ≤ j → length (filter p (places (get_or (xs ++ cond s (n ∷ []) []) j 0))) ≡ j
    last true less h =
        let e : j ≡ length xs = omega (arith, less, h, length-append xs (n ∷ [])) in
        ap (λ z. length (filter p (places (get_or (xs ++ n ∷ []) z 0)))) e ∙ ap (λ z. length (filter p (places z))) (get_or-append_seam xs n [] 0) ∙ long ∙ sym e
    last false less h = let none : List ℕ = [] in absurd (omega (arith, less, h, length-append xs none))

-- as many places that pass come before one of them as stand before it
pub rank_of : (p : ℕ → Bool) (n j : ℕ) → j < length (filter p (places n)) → length (filter p (places (get_or (filter p (places n)) j 0))) ≡ j
unfolding places
rank_of p zero j lt = absurd (omega arith)
rank_of p (suc n) j lt =
    let P : List ℕ → Type 0 = λ zs. length (filter p (places (get_or zs j 0))) ≡ j in
    let less : j < length (filter p (places n) ++ cond (p n) (n ∷ []) []) = omega (arith, lt, ap length (passed_suc p n)) in
    subst P (sym (passed_suc p n)) (rank_over p n j (filter p (places n)) (p n) refl (rank_of p n) less)

pub few_passed : (p : ℕ → Bool) (n : ℕ) → length (filter p (places n)) ≤ n
few_passed p n = omega (arith, length-filter p (places n), count_all n p)

-- ---- the numbers of the leaders

pub numbers_set : (labels numbers : List ℕ) (i next : ℕ) → i < length labels → AreNumbers labels i numbers → next ≡ length (filter (λ j. eqb (get_or labels j 0) j) (places i)) → AreNumbers labels (i + 1) (set numbers i next)
numbers_set labels numbers i next lt s e = (
  length-set numbers i next ∙ s.0,
  λ k less leads. elim (cases_lt k i) [
    | inl h ↦ get_or-set_other numbers i k next 0 (λ g. omega (arith, g, h)) ∙ s.1 k h leads
    | inr h ↦ (let at : k ≡ i = omega (arith, less, h) in
        ap (λ z. get_or (set numbers i next) z 0) at ∙ get_or-set_same numbers i next 0 (omega (arith, lt, s.0)) ∙ e ∙ ap (λ z. length (filter (λ j. eqb (get_or labels j 0) j) (places z))) (sym at))
  ],
)

pub numbers_past : (labels numbers : List ℕ) (i : ℕ) → AreNumbers labels i numbers → get_or labels i 0 ≢ i → AreNumbers labels (i + 1) numbers
numbers_past labels numbers i s other = (
  s.0,
  λ k less leads. elim (cases_lt k i) [
    | inl h ↦ s.1 k h leads
    | inr h ↦ (let at : k ≡ i = omega (arith, less, h) in absurd (other (ap (λ z. get_or labels z 0) (sym at) ∙ leads ∙ at)))
  ],
)

-- ---- groups by their leaders

pub record AreGroups (f : ℕ → Group) (leaders : List ℕ) (groups : List Group) : Type 0 where
  pub long : length groups ≡ length leaders
  pub each : (j : ℕ) → j < length leaders → get_or groups j no_group ≡ f (get_or leaders j 0)

pub groups_of_map : (f : ℕ → Group) (leaders : List ℕ) (groups : List Group) → groups ≡ map f leaders → AreGroups f leaders groups
groups_of_map f leaders groups e = record {
  long = ap length e ∙ length-map leaders f;
  each = λ j lt. ap (λ z. get_or z j no_group) e ∙ get_or-map f leaders j 0 no_group lt;
}

pub map_of_groups : (f : ℕ → Group) (leaders : List ℕ) (groups : List Group) → AreGroups f leaders groups → groups ≡ map f leaders
map_of_groups f [] [] s = refl
map_of_groups f [] (g ∷ gs) s = absurd (omega (arith, s.long))
map_of_groups f (l ∷ ls) [] s = absurd (omega (arith, s.long))
map_of_groups f (l ∷ ls) (g ∷ gs) s =
    ap (λ (z : Group). z ∷ gs) (s.each 0 (omega arith))
    ∙ ap (λ zs. f l ∷ zs) (map_of_groups f ls gs (record { long = omega (arith, s.long); each = λ j lt. s.each (suc j) (omega (arith, lt)) }))

put_one : (f g : ℕ → Group) (leaders : List ℕ) (groups : List Group) (n : ℕ) (group : Group) → AreGroups f leaders groups → n < length leaders → group ≡ g (get_or leaders n 0)
    → ((j : ℕ) → j < length leaders → j ≢ n → g (get_or leaders j 0) ≡ f (get_or leaders j 0)) → AreGroups g leaders (set groups n group)
put_one f g leaders groups n group s lt new old = record {
  long = length-set groups n group ∙ s.long;
  each = λ j less. elim (cases_eq j n) [
    | inl e ↦ ap (λ z. get_or (set groups n group) z no_group) e ∙ get_or-set_same groups n group no_group (omega (arith, lt, s.long)) ∙ new ∙ ap (λ z. g (get_or leaders z 0)) (sym e)
    | inr ne ↦ get_or-set_other groups n j group no_group ne ∙ s.each j less ∙ sym (old j less ne)
  ];
}

pub same_groups : (f g : ℕ → Group) (leaders : List ℕ) (groups : List Group) → AreGroups f leaders groups → ((j : ℕ) → j < length leaders → g (get_or leaders j 0) ≡ f (get_or leaders j 0)) → AreGroups g leaders groups
same_groups f g leaders groups s old = record { long = s.long; each = λ j less. s.each j less ∙ sym (old j less) }

-- ---- the places with a key so far

unfoldable pub with_key : List ℕ → ℕ → ℕ → List ℕ
with_key keys i key = filter (λ k. eqb (get_or keys k 0) key) (places i)

pub none_with_key : (keys : List ℕ) (key : ℕ) → with_key keys 0 key ≡ []
unfolding places with_key
none_with_key keys key = refl

pub all_with_key : (keys : List ℕ) (i key : ℕ) → i ≡ length keys → with_key keys i key ≡ places_with keys key
unfolding with_key places_with
all_with_key keys i key e = ap (λ n. filter (λ k. eqb (get_or keys k 0) key) (places n)) e

pub few_with_key : (keys : List ℕ) (i key : ℕ) → length (with_key keys i key) ≤ i
unfolding with_key
few_with_key keys i key = few_passed (λ k. eqb (get_or keys k 0) key) i

pub key_next : (keys : List ℕ) (i key : ℕ) → get_or keys i 0 ≡ key → with_key keys (i + 1) key ≡ with_key keys i key ++ i ∷ []
unfolding with_key
key_next keys i key e = places_passed (λ k. eqb (get_or keys k 0) key) i ∙ ap (λ t. filter (λ k. eqb (get_or keys k 0) key) (places i) ++ cond t (i ∷ []) []) (eq-eqb (get_or keys i 0) key e)

pub key_past : (keys : List ℕ) (i key : ℕ) → get_or keys i 0 ≢ key → with_key keys (i + 1) key ≡ with_key keys i key
unfolding with_key
key_past keys i key ne =
    places_passed (λ k. eqb (get_or keys k 0) key) i ∙ ap (λ t. filter (λ k. eqb (get_or keys k 0) key) (places i) ++ cond t (i ∷ []) []) (ne_eqb (get_or keys i 0) key ne)
    ∙ append-nil (filter (λ k. eqb (get_or keys k 0) key) (places i))

-- one more of the key at a place
pub count_more : (keys counts : List ℕ) (i key read count : ℕ) → get_or keys i 0 < length counts → ((k : ℕ) → k < count → get_or counts k 0 ≡ length (with_key keys i k)) → read ≡ get_or counts (get_or keys i 0) 0 → key < count
    → get_or (set counts (get_or keys i 0) (read + 1)) key 0 ≡ length (with_key keys (i + 1) key)
count_more keys counts i key read count inside so_far e lt = elim (cases_eq key (get_or keys i 0)) [
  | inl h ↦ ap (λ z. get_or (set counts (get_or keys i 0) (read + 1)) z 0) h ∙ get_or-set_same counts (get_or keys i 0) (read + 1) 0 inside
      ∙ ap (λ z. z + 1) (e ∙ ap (λ z. get_or counts z 0) (sym h) ∙ so_far key lt) ∙ sym (ap length (key_next keys i key (sym h)) ∙ length-append (with_key keys i key) (i ∷ []))
  | inr ne ↦ get_or-set_other counts (get_or keys i 0) key (read + 1) 0 ne ∙ so_far key lt ∙ sym (ap length (key_past keys i key (λ h. ne (sym h))))
]

pub items_push : {X : Type 0} (xs : List X) (ks : List ℕ) (k : ℕ) (x : X) → slice_get xs k ≡ Some x → items_at xs (ks ++ k ∷ []) ≡ items_at xs ks ++ x ∷ []
unfolding items_at
items_push xs ks k x e = filter_map-append (slice_get xs) ks (k ∷ []) ∙ ap (λ z. filter_map (slice_get xs) ks ++ z) (rw e refl)

-- ---- what the groups hold so far

abbrev pub nodes_to : VoltageLevel → List ℕ → ℕ → ℕ → Group
nodes_to level labels i leader = group_of level leader (with_key labels i leader) []

abbrev pub terminals_to : VoltageLevel → (ℕ → List ℕ) → List ℕ → ℕ → ℕ → Group
terminals_to level indices keys i leader = group_of level leader (indices leader) (with_key keys i leader)

-- the group with a node more, and with a terminal more
abbrev pub with_node : Group → ℕ → Group
with_node group node = record group { nodes = group.nodes ++ node ∷ [] }

abbrev pub with_terminal : Group → ℕ → Group
with_terminal group place = record group { terminals = group.terminals ++ place ∷ [] }

node_next : (level : VoltageLevel) (labels : List ℕ) (i node leader : ℕ) (group : Group) → get_or labels i 0 ≡ leader → slice_get (nodes level) i ≡ Some node → group ≡ nodes_to level labels i leader
    → with_node group node ≡ nodes_to level labels (i + 1) leader
unfolding group_of
node_next level labels i node leader group e at so_far =
    ap (λ (z : Group). with_node z node) so_far
    ∙ ap (λ (z : List ℕ). record (group_of level leader (with_key labels i leader) []) { nodes = z }) (sym (items_push (nodes level) (with_key labels i leader) i node at))
    ∙ ap (λ (z : List ℕ). group_of level leader z []) (sym (key_next labels i leader e))

terminal_next : (level : VoltageLevel) (indices : ℕ → List ℕ) (keys : List ℕ) (i leader : ℕ) (group : Group) → get_or keys i 0 ≡ leader → group ≡ terminals_to level indices keys i leader
    → with_terminal group i ≡ terminals_to level indices keys (i + 1) leader
unfolding group_of
terminal_next level indices keys i leader group e so_far =
    ap (λ (z : Group). with_terminal z i) so_far ∙ ap (λ (z : List ℕ). group_of level leader (indices leader) z) (sym (key_next keys i leader e))

module _ (labels numbers : List ℕ) (numbered : AreNumbers labels (length labels) numbers) where
  leader_leads : (j : ℕ) → j < length (leading labels) → get_or labels (get_or (leading labels) j 0) 0 ≡ get_or (leading labels) j 0
  unfolding leading
  leader_leads j lt = passed_all (λ k. get_or labels k 0 ≡ k) (λ k. eqb (get_or labels k 0) k) (places (length labels)) (λ x h. eqb-true (get_or labels x 0) x h) j 0 lt

  pub number_at : (l : ℕ) → l < length labels → get_or labels l 0 ≡ l → (get_or numbers l 0 < length (leading labels)) × (get_or (leading labels) (get_or numbers l 0) 0 ≡ l)
  unfolding leading
  number_at l lt leads =
      let p : ℕ → Bool = λ k. eqb (get_or labels k 0) k in
      let P : ℕ → Type 0 = λ z. (z < length (filter p (places (length labels)))) × (get_or (filter p (places (length labels))) z 0 ≡ l) in
      subst P (sym (numbered.1 l lt leads)) (place_at p (length labels) l lt (eq-eqb (get_or labels l 0) l leads))

  others : (l j : ℕ) → l < length labels → j < length (leading labels) → j ≢ get_or numbers l 0 → l ≢ get_or (leading labels) j 0
  unfolding leading
  others l j lt less ne e =
      let p : ℕ → Bool = λ k. eqb (get_or labels k 0) k in
      ne (sym (rank_of p (length labels) j less) ∙ ap (λ z. length (filter p (places z))) (sym e) ∙ sym (numbered.1 l lt (ap (λ z. get_or labels z 0) e ∙ leader_leads j less ∙ sym e)))

  apart : (label j : ℕ) → j < length (leading labels) → get_or labels label 0 ≢ label → label ≢ get_or (leading labels) j 0
  apart label j less other h = other (ap (λ z. get_or labels z 0) h ∙ leader_leads j less ∙ sym h)

  pub node_put : (level : VoltageLevel) (groups : List Group) (i label number node : ℕ) → AreGroups (nodes_to level labels i) (leading labels) groups → get_or labels i 0 ≡ label → label < length labels → get_or labels label 0 ≡ label
      → number ≡ get_or numbers label 0 → slice_get (nodes level) i ≡ Some node → AreGroups (nodes_to level labels (i + 1)) (leading labels) (set groups number (with_node (get_or groups number no_group) node))
  node_put level groups i label number node s e lt leads is at =
      let here = number_at label lt leads in
      let lower : number < length (leading labels) = omega (arith, is, here.0) in
      let led : get_or (leading labels) number 0 ≡ label = ap (λ z. get_or (leading labels) z 0) is ∙ here.1 in
      put_one (nodes_to level labels i) (nodes_to level labels (i + 1)) (leading labels) groups number (with_node (get_or groups number no_group) node) s lower
      (node_next level labels i node (get_or (leading labels) number 0) (get_or groups number no_group) (e ∙ sym led) at (s.each number lower))
      (λ j less ne. ap (λ (z : List ℕ). group_of level (get_or (leading labels) j 0) z []) (key_past labels i (get_or (leading labels) j 0) (λ h. others label j lt less (λ g. ne (g ∙ sym is)) (sym e ∙ h))))

  pub node_skipped : (level : VoltageLevel) (groups : List Group) (i label : ℕ) → AreGroups (nodes_to level labels i) (leading labels) groups → get_or labels i 0 ≡ label → get_or labels label 0 ≢ label
      → AreGroups (nodes_to level labels (i + 1)) (leading labels) groups
  node_skipped level groups i label s e other =
      same_groups (nodes_to level labels i) (nodes_to level labels (i + 1)) (leading labels) groups s
      (λ j less. ap (λ (z : List ℕ). group_of level (get_or (leading labels) j 0) z []) (key_past labels i (get_or (leading labels) j 0) (λ h. apart label j less other (sym e ∙ h))))

  pub terminal_put : (level : VoltageLevel) (indices : ℕ → List ℕ) (keys : List ℕ) (groups : List Group) (i key number : ℕ) → AreGroups (terminals_to level indices keys i) (leading labels) groups → get_or keys i 0 ≡ key → key < length labels
      → get_or labels key 0 ≡ key → number ≡ get_or numbers key 0 → AreGroups (terminals_to level indices keys (i + 1)) (leading labels) (set groups number (with_terminal (get_or groups number no_group) i))
  terminal_put level indices keys groups i key number s e lt leads is =
      let here = number_at key lt leads in
      let lower : number < length (leading labels) = omega (arith, is, here.0) in
      let led : get_or (leading labels) number 0 ≡ key = ap (λ z. get_or (leading labels) z 0) is ∙ here.1 in
      put_one (terminals_to level indices keys i) (terminals_to level indices keys (i + 1)) (leading labels) groups number (with_terminal (get_or groups number no_group) i) s lower
      (terminal_next level indices keys i (get_or (leading labels) number 0) (get_or groups number no_group) (e ∙ sym led) (s.each number lower))
      (λ j less ne. (let l : ℕ = get_or (leading labels) j 0 in
      ap (λ (z : List ℕ). group_of level l (indices l) z) (key_past keys i l (λ h. others key j lt less (λ g. ne (g ∙ sym is)) (sym e ∙ h)))))

  pub terminal_skipped : (level : VoltageLevel) (indices : ℕ → List ℕ) (keys : List ℕ) (groups : List Group) (i key : ℕ) → AreGroups (terminals_to level indices keys i) (leading labels) groups → get_or keys i 0 ≡ key → get_or labels key 0 ≢ key
      → AreGroups (terminals_to level indices keys (i + 1)) (leading labels) groups
  terminal_skipped level indices keys groups i key s e other =
      same_groups (terminals_to level indices keys i) (terminals_to level indices keys (i + 1)) (leading labels) groups s
      (λ j less. (let l : ℕ = get_or (leading labels) j 0 in ap (λ (z : List ℕ). group_of level l (indices l) z) (key_past keys i l (λ h. apart key j less other (sym e ∙ h)))))
