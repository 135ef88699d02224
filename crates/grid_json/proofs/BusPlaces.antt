-- Where a configured bus stands in its level, and where the network finds it.
use Rattle.std.proofs.Common.{◌≡◌, refl, sym, ap, ◌∙◌, subst, ℕ, zero, suc, ◌<◌, Bool, true, false, cond, ◌&&◌, List, [], ◌∷◌, Option, Some, None, arith}
use Rattle.std.specs.Prelude.{map, find, slice_get, ◌==◌, nat_lt}
use Rattle.std.specs.List.{list_all, list_any}
use Rattle.std.specs.Option.{option_map}
use Rattle.std.proofs.lemmas.Bool.{and_parts, and_from, or_left, or_right, eq-eqb, eqb-true, false≢true}
use Rattle.grid_lemmas.proofs.Lists.{all_at, some_got}
use Rattle.grid_lemmas.proofs.Options.{some_is}
use Rattle.grid_ids.specs.Name.{same_id}
use Rattle.grid_level.specs.declared.Placed.{Placed}
use Rattle.grid_level.specs.declared.Stand.{Stand}
use Rattle.grid_level.specs.declared.Stand.TheVariants.{Busbar, Feeder, BranchEnd}
use Rattle.grid_level.specs.VoltageLevel.{VoltageLevel}
use Rattle.grid_level.specs.Passing.{is_busbar, is_rising, placed_at, stands_at}
use Rattle.grid_level.specs.Sound.{level_passes, side_passes, stand_passes}
use Rattle.grid_level.proofs.LevelEdits.{passes_of}
use Rattle.grid_structure.specs.Network.{Network}
use Rattle.grid_structure.specs.declared.Site.{Site}
use Rattle.grid_structure.specs.Sites.{find_level, level_named, levels, site, terminal_spot}
use Rattle.grid_structure.specs.Soundness.{IsSound}
use Rattle.grid_structure.specs.Standing.{stands}
use Rattle.grid_structure.specs.Indexed.{has_terminal, level_of_terminal}
use Rattle.grid_structure.proofs.LevelChanges.{find_at}
use Rattle.grid_structure.proofs.TerminalRemovals.{above_found}
use Rattle.grid_structure.proofs.Found.{level_below, terminal_nowhere, terminal_somewhere, terminal_test}
use Rattle.grid_structure.proofs.OneNode.{one_node, walk_finds}
use Rattle.grid_structure.proofs.Places.{position_found, position_none}
use Rattle.grid_structure.proofs.Uniquely.{one_home}
use Rattle.grid_json.specs.Loading.{bus_place, is_bus, is_busbar_at, place_in}

-- ---- lists

found_is : {X : Type 0} (t : X → Bool) (xs : List X) (x : X) → find t xs ≡ Some x → t x ≡ true
found_is t [] x e = cc
found_is {X} t (y ∷ xs) x e = by (t y) refl e (found_is t xs x)
  where
    by : (b : Bool) → t y ≡ b → ◌≡◌ {A = Option X} (cond b (Some y) (find t xs)) (Some x) → (find t xs ≡ Some x → t x ≡ true) → t x ≡ true
    by true is e again = ap t (sym (some_is y x e)) ∙ is
    by false is e again = again e

found_passes : {X : Type 0} (t u : X → Bool) (xs : List X) (x : X) → find t xs ≡ Some x → u x ≡ true → list_any u xs ≡ true
found_passes t u [] x e passes = cc
found_passes {X} t u (y ∷ xs) x e passes = by (t y) e (found_passes t u xs x)
  where
    by : (b : Bool) → ◌≡◌ {A = Option X} (cond b (Some y) (find t xs)) (Some x) → (find t xs ≡ Some x → u x ≡ true → list_any u xs ≡ true) → list_any u (y ∷ xs) ≡ true
    by true e again = or_left (u y) (list_any u xs) (ap u (some_is y x e) ∙ passes)
    by false e again = or_right (u y) (list_any u xs) (again e passes)

found_keeps : {X : Type 0} (t u : X → Bool) (xs : List X) (x : X) → find t xs ≡ Some x → list_all u xs ≡ true → u x ≡ true
found_keeps t u [] x e all = cc
found_keeps {X} t u (y ∷ xs) x e all = let parts = and_parts (u y) (list_all u xs) all in by (t y) e (found_keeps t u xs x) parts.0 parts.1
  where
    by : (b : Bool) → ◌≡◌ {A = Option X} (cond b (Some y) (find t xs)) (Some x) → (find t xs ≡ Some x → list_all u xs ≡ true → u x ≡ true) → u y ≡ true → list_all u xs ≡ true → u x ≡ true
    by true e again here rest = ap u (sym (some_is y x e)) ∙ here
    by false e again here rest = again e rest

none_passes : {X : Type 0} (t : X → Bool) (xs : List X) → find t xs ≡ None → list_any t xs ≡ false
none_passes t [] e = refl
none_passes {X} t (y ∷ xs) e = by (t y) refl e (none_passes t xs)
  where
    by : (b : Bool) → t y ≡ b → ◌≡◌ {A = Option X} (cond b (Some y) (find t xs)) None → (find t xs ≡ None → list_any t xs ≡ false) → list_any t (y ∷ xs) ≡ false
    by true is e again = cc
    by false is e again = rw is (again e)

any_at : {X : Type 0} (t : X → Bool) (xs : List X) (k : ℕ) (x : X) → slice_get xs k ≡ Some x → t x ≡ true → list_any t xs ≡ true
any_at t [] k x at passes = cc
any_at t (y ∷ xs) zero x at passes = let same : y ≡ x = cc in or_left (t y) (list_any t xs) (ap t same ∙ passes)
any_at t (y ∷ xs) (suc k) x at passes = or_right (t y) (list_any t xs) (any_at t xs k x at passes)

-- the one that stands at its node
at_own_node : (t : Placed → Bool) (m : ℕ) (ps : List Placed) (p : Placed) → is_rising (map (λ (p : Placed). p.node) ps) ≡ true → find t ps ≡ Some p → p.node ≡ m → find (stands_at m) ps ≡ Some p
unfolding is_rising stands_at
at_own_node t m [] p rise e at = cc
at_own_node t m (q ∷ ps) p rise e at =
    let parts = and_parts (list_all (nat_lt q.node) (map (λ (p : Placed). p.node) ps)) (is_rising (map (λ (p : Placed). p.node) ps)) rise in
    by (t q) e (at_own_node t m ps p parts.1) (λ f. above_found t q.node ps p parts.0 f)
  where
    later : (b : Bool) → (q.node == m) ≡ b → q.node < p.node → find (stands_at m) ps ≡ Some p → ◌≡◌ {A = Option Placed} (cond b (Some q) (find (stands_at m) ps)) (Some p)
    later true is below rest = absurd (omega (arith, eqb-true q.node m is))
    later false is below rest = rest

    by : (b : Bool) → ◌≡◌ {A = Option Placed} (cond b (Some q) (find t ps)) (Some p) → (find t ps ≡ Some p → p.node ≡ m → find (stands_at m) ps ≡ Some p) → (find t ps ≡ Some p → q.node < p.node)
        → find (stands_at m) (q ∷ ps) ≡ Some p
    by true e again below =
        let same : q ≡ p = some_is q p e in
        let here : (q.node == m) ≡ true = eq-eqb q.node m (ap (λ (z : Placed). z.node) same ∙ at) in
        rw here (ap (λ (z : Placed). Some z) same)
    by false e again below = later (q.node == m) refl (below e) (again e at)

-- ---- what is mapped

one_mapped : (o : Option Placed) (n : ℕ) → option_map (λ (p : Placed). p.node) o ≡ Some n → (p : Placed) × (o ≡ Some p) × (p.node ≡ n)
one_mapped (Some p) n e = (p, refl, cc)
one_mapped None n e = cc

pair_mapped : (o : Option ℕ) (j k n : ℕ) → option_map {U = ℕ × ℕ} (λ (y : ℕ). (j, y)) o ≡ Some (k, n) → (j ≡ k) × (o ≡ Some n)
pair_mapped (Some y) j k n e =
    let same : ◌≡◌ {A = ℕ × ℕ} (j, y) (k, n) = some_is (j, y) (k, n) e in
    (ap (λ (z : ℕ × ℕ). z.0) same, ap (λ (z : ℕ × ℕ). Some z.1) same)
pair_mapped None j k n e = cc

-- ---- a bus in its level

-- a busbar section is of side 1
busbar_side : (p : Placed) → stand_passes p ≡ true → is_busbar p.stand ≡ true → (p.terminal.side == 1) ≡ true
unfolding stand_passes side_passes is_busbar
busbar_side p passes busbar = by p.stand passes busbar
  where
    by : (s : Stand) → side_passes p.terminal.side s ≡ true → is_busbar s ≡ true → (p.terminal.side == 1) ≡ true
    by Busbar h e = h
    by (Feeder item) h e = cc
    by BranchEnd h e = cc

module _ (net : Network) (sound : IsSound net) (k : ℕ) (l : VoltageLevel) (at : slice_get (levels net) k ≡ Some l) (bus : List ℕ) where
  passes : level_passes l ≡ true
  passes = all_at level_passes (levels net) k l sound.each_level at

  rise : is_rising (map (λ (p : Placed). p.node) l.placed) ≡ true
  rise = (passes_of l passes).within.rise

  -- where the network finds a terminal of side 1 that stands in this level
  found_here : (n : ℕ) → list_any (stands bus 1 n) l.placed ≡ true → list_any (λ (p : Placed). same_id bus p.terminal.equipment && (p.terminal.side == 1)) l.placed ≡ true → site net bus 1 ≡ Some (k, n)
  unfolding level_of_terminal has_terminal
  found_here n here has = by (level_of_terminal net bus 1) refl
    where
      test : terminal_test bus 1 l ≡ Some n
      test = walk_finds bus 1 n l.placed (one_node net bus 1 k l sound at) here

      by : (o : Option ℕ) → level_of_terminal net bus 1 ≡ o → site net bus 1 ≡ Some (k, n)
      by (Some j) e =
          let there = position_found (has_terminal bus 1) (levels net) j e in
          let got = some_got (levels net) j there.0 in
          let same : j ≡ k = one_home net bus 1 j k sound (got.0, got.1, there.1 got.0 got.1) (l, at, has) in
          terminal_somewhere net bus 1 k l (subst (λ (z : ℕ). level_of_terminal net bus 1 ≡ Some z) same e) at ∙ ap (option_map {U = ℕ × ℕ} (λ (y : ℕ). (k, y))) test
      by None e = absurd (nowhere (levels net) k (position_none (has_terminal bus 1) (levels net) e) at)
        where
          nowhere : (ls : List VoltageLevel) (k : ℕ) → list_any (has_terminal bus 1) ls ≡ false → slice_get ls k ≡ Some l → ⊥
          nowhere ls k none got = false≢true (sym none ∙ any_at (has_terminal bus 1) ls k l got has)

  -- a bus of the level stands where the network finds it, as a busbar section
  stands_there : (m : ℕ) → bus_place l bus ≡ Some m → (site net bus 1 ≡ Some (k, m)) × (is_busbar_at (placed_at l m) ≡ true)
  unfolding bus_place placed_at
  stands_there m e =
      let p = one_mapped (find (is_bus bus) l.placed) m e in
      let is = and_parts (is_busbar p.0.stand) (same_id bus p.0.terminal.equipment) (found_is (is_bus bus) l.placed p.0 p.1) in
      let side = busbar_side p.0 (found_keeps (is_bus bus) stand_passes l.placed p.0 p.1 (passes_of l passes).stands) is.0 in
      let own : same_id bus p.0.terminal.equipment && (p.0.terminal.side == 1) ≡ true = and_from (same_id bus p.0.terminal.equipment) (p.0.terminal.side == 1) is.1 side in
      let node : (p.0.node == m) ≡ true = eq-eqb p.0.node m p.2 in
      let here = found_passes (is_bus bus) (stands bus 1 m) l.placed p.0 p.1 (and_from (same_id bus p.0.terminal.equipment && (p.0.terminal.side == 1)) (p.0.node == m) own node) in
      let has = found_passes (is_bus bus) (λ (p : Placed). same_id bus p.terminal.equipment && (p.terminal.side == 1)) l.placed p.0 p.1 own in
      (found_here m here has, (rw (at_own_node (is_bus bus) m l.placed p.0 rise p.1 p.2) is.0))

  -- where the network finds it nowhere, or in another level, or not as a busbar section, it is no bus of the level
  pub absent : (found : Option (ℕ × ℕ)) → site net bus 1 ≡ found → ((n : ℕ) → found ≡ Some (k, n) → is_busbar_at (placed_at l n) ≡ false) → bus_place l bus ≡ None
  absent found e unlike = by (bus_place l bus) refl
    where
      by : (o : Option ℕ) → bus_place l bus ≡ o → o ≡ None
      by None h = refl
      by (Some m) h = let t = stands_there m h in absurd (false≢true (sym (unlike m (sym e ∙ t.0)) ∙ t.1))

  -- the terminal that the network finds in the level
  found_in : (n : ℕ) → site net bus 1 ≡ Some (k, n) → terminal_test bus 1 l ≡ Some n
  unfolding level_of_terminal
  found_in n e = by (level_of_terminal net bus 1) refl
    where
      by : (o : Option ℕ) → level_of_terminal net bus 1 ≡ o → terminal_test bus 1 l ≡ Some n
      by (Some j) h =
          let there = position_found (has_terminal bus 1) (levels net) j h in
          let got = some_got (levels net) j there.0 in
          let pair = pair_mapped (terminal_test bus 1 got.0) j k n (sym (terminal_somewhere net bus 1 j got.0 h got.1) ∙ e) in
          let same : got.0 ≡ l = some_is got.0 l (sym (subst (λ (z : ℕ). slice_get (levels net) z ≡ Some got.0) pair.0 got.1) ∙ at) in
          ap (terminal_test bus 1) (sym same) ∙ pair.1
      by None h = let none : ◌≡◌ {A = Option (ℕ × ℕ)} None (Some (k, n)) = sym (terminal_nowhere net bus 1 h) ∙ e in absurd (cc)

  -- where it finds it in the level as a busbar section, that is its place
  pub present : (n : ℕ) → site net bus 1 ≡ Some (k, n) → is_busbar_at (placed_at l n) ≡ true → bus_place l bus ≡ Some n
  unfolding bus_place placed_at
  present n e busbar = by (find (is_bus bus) l.placed) refl
    where
      side : Placed → Bool
      side p = same_id bus p.terminal.equipment && (p.terminal.side == 1)

      p : (p : Placed) × (find side l.placed ≡ Some p) × (p.node ≡ n)
      p = one_mapped (find side l.placed) n (found_in n e)

      own : is_bus bus p.0 ≡ true
      own =
          let is : is_busbar p.0.stand ≡ true = (rw (at_own_node side n l.placed p.0 rise p.1 p.2) at busbar) in
          and_from (is_busbar p.0.stand) (same_id bus p.0.terminal.equipment) is (and_parts (same_id bus p.0.terminal.equipment) (p.0.terminal.side == 1) (found_is side l.placed p.0 p.1)).0

      by : (o : Option Placed) → find (is_bus bus) l.placed ≡ o → option_map (λ (q : Placed). q.node) o ≡ Some n
      by (Some q) h =
          let t = stands_there q.node (ap (option_map (λ (q : Placed). q.node)) h) in
          let same : ◌≡◌ {A = ℕ × ℕ} (k, q.node) (k, n) = some_is (k, q.node) (k, n) (sym t.0 ∙ e) in
          ap (λ (z : ℕ × ℕ). Some z.1) same
      by None h = absurd (false≢true (sym (none_passes (is_bus bus) l.placed h) ∙ found_passes side (is_bus bus) l.placed p.0 p.1 own))

-- ---- what a search for a bus in the level at a place tells

no_spot : (o : Option (ℕ × ℕ)) → None ≡ option_map terminal_spot o → o ≡ None
no_spot None e = refl
no_spot (Some x) e = cc

spot_is : (o : Option (ℕ × ℕ)) (at : Site) → Some at ≡ option_map terminal_spot o → o ≡ Some (at.level, at.node)
spot_is None at e = cc
spot_is (Some x) at e = let same : at ≡ terminal_spot x = some_is at (terminal_spot x) e in rw same refl

module _ (net : Network) (sound : IsSound net) (k : ℕ) (bus : List ℕ) where
  unplaced : (found : Option (ℕ × ℕ)) → site net bus 1 ≡ found → ((l : VoltageLevel) → slice_get (levels net) k ≡ Some l → (n : ℕ) → found ≡ Some (k, n) → is_busbar_at (placed_at l n) ≡ false)
      → None ≡ place_in (slice_get (levels net) k) bus
  unplaced found e unlike = by (slice_get (levels net) k) refl
    where
      by : (o : Option VoltageLevel) → slice_get (levels net) k ≡ o → None ≡ place_in o bus
      by None h = refl
      by (Some l) h = sym (absent net sound k l h bus found e (unlike l h))

  pub found_nowhere : None ≡ option_map terminal_spot (site net bus 1) → None ≡ place_in (slice_get (levels net) k) bus
  found_nowhere e = unplaced None (no_spot (site net bus 1) e) (λ l h n is. cc)

  pub found_elsewhere : (at : Site) → Some at ≡ option_map terminal_spot (site net bus 1) → (at.level ≡ k → ⊥) → None ≡ place_in (slice_get (levels net) k) bus
  found_elsewhere at e other = unplaced (Some (at.level, at.node)) (spot_is (site net bus 1) at e) (λ l h n is. absurd (other (ap (λ (z : ℕ × ℕ). z.0) (some_is (at.level, at.node) (k, n) is))))

  pub found_busbar : (at : Site) (l : VoltageLevel) → Some at ≡ option_map terminal_spot (site net bus 1) → at.level ≡ k → slice_get (levels net) k ≡ Some l → is_busbar_at (placed_at l at.node) ≡ true
      → Some at.node ≡ place_in (slice_get (levels net) k) bus
  found_busbar at l e own got busbar =
      let here : site net bus 1 ≡ Some (k, at.node) = spot_is (site net bus 1) at e ∙ ap (λ z. Some (z, at.node)) own in
      rw got (sym (present net sound k l got bus at.node here busbar))

  pub found_other : (at : Site) (l : VoltageLevel) → Some at ≡ option_map terminal_spot (site net bus 1) → slice_get (levels net) k ≡ Some l → is_busbar_at (placed_at l at.node) ≡ false
      → None ≡ place_in (slice_get (levels net) k) bus
  found_other at l e got other =
      rw got (sym (absent net sound k l got bus (Some (at.level, at.node)) (spot_is (site net bus 1) at e) (λ n is. subst (λ (z : ℕ). is_busbar_at (placed_at l z) ≡ false) (ap (λ (z : ℕ × ℕ). z.1) (some_is (at.level, at.node) (k, n) is)) other)))

-- ---- the level of an id

pub level_got : (net : Network) (id : List ℕ) (k : ℕ) (l : VoltageLevel) → find_level net id ≡ Some k → slice_get (levels net) k ≡ Some l → level_named net id ≡ Some l
unfolding find_level level_named
level_got net id k l e at = find_at (λ (l : VoltageLevel). same_id id l.id) (levels net) k l e at

pub no_level : (net : Network) (id : List ℕ) → find_level net id ≡ None → level_named net id ≡ None
unfolding find_level level_named
no_level net id e = nothing (find (λ (l : VoltageLevel). same_id id l.id) (levels net)) refl
  where
    nothing : (o : Option VoltageLevel) → find (λ (l : VoltageLevel). same_id id l.id) (levels net) ≡ o → o ≡ None
    nothing None h = refl
    nothing (Some l) h =
        absurd (false≢true (sym (position_none (λ (l : VoltageLevel). same_id id l.id) (levels net) e)
        ∙ found_passes (λ (l : VoltageLevel). same_id id l.id) (λ (l : VoltageLevel). same_id id l.id) (levels net) l h (found_is (λ (l : VoltageLevel). same_id id l.id) (levels net) l h)))

pub level_same : (net : Network) (id : List ℕ) (k : ℕ) → find_level net id ≡ Some k → slice_get (levels net) k ≡ level_named net id
level_same net id k e = let got = some_got (levels net) k (level_below net id k e) in got.1 ∙ sym (level_got net id k got.0 e got.1)
