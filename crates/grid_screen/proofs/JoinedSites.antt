-- Which sites are joined to a start: the least set that holds the starts and of each link both ends or neither.
use Rattle.std.proofs.Common.{◌≡◌, refl, sym, ap, ◌∙◌, subst, ℕ, ◌+◌, ◌*◌, ◌/◌, ◌%◌, ◌<◌, Bool, true, List, map, length, inl, inr, arith}
use Rattle.grid_lemmas.proofs.Bools.{same_test}
use Rattle.grid_graph.specs.Joined.{joined, neighbours}
use Rattle.grid_graph.proofs.Reach.{In, Holds, joined_refl}
use Rattle.grid_structure.specs.declared.Site.{Site}
use Rattle.grid_screen.specs.Zones.{site_at, site_number, pair_number, is_hit}
use Rattle.grid_outages.proofs.Members.{Among, among_map, map_among, any_among, any_found}
use Rattle.grid_screen.proofs.PairClosures.{IsClosed, among_in, within_alike, next_first, next_second, next_among, joined_next}

-- ---- numbers of sites

site_of : ℕ → Site
site_of n = site_at (n / 65536) (n % 65536)

level_of_number : (k n : ℕ) → n < 65536 → (k * 65536 + n) / 65536 ≡ k
level_of_number k n lt = omega arith

node_of_number : (k n : ℕ) → n < 65536 → (k * 65536 + n) % 65536 ≡ n
node_of_number k n lt = omega arith

site_back : (s : Site) → s.node < 65536 → site_of (site_number s) ≡ s
unfolding site_of site_number
site_back s lt = rw (level_of_number s.level s.node lt, node_of_number s.level s.node lt) refl

-- ---- joined sites

-- nodes are small, and the links and starts are among the sites
pub record AreAmong (sites : List Site) (ties : List (Site × Site)) (starts : List Site) : Type 0 where
  pub small : (s : Site) → Among s sites → s.node < 65536
  pub ends : (tie : Site × Site) → Among tie ties → Among tie.0 sites × Among tie.1 sites
  pub begun : (s : Site) → Among s starts → Among s sites

module _ (sites : List Site) (ties : List (Site × Site)) (starts : List Site) (fit : AreAmong sites ties starts) where
  numbers : List ℕ
  numbers = map site_number sites

  pairs : List (ℕ × ℕ)
  pairs = map pair_number ties

  numbered : (s : Site) → Among s sites → In (site_number s) numbers
  unfolding numbers
  numbered s i = among_in (site_number s) (map site_number sites) (among_map site_number s sites i)

  holds : Holds numbers pairs
  unfolding pairs pair_number
  holds = record {
    across = λ a c near.
        let pair = next_among (map pair_number ties) a c near in
        let tie = map_among pair_number pair.0 ties pair.1 in
        let ends = fit.ends tie.0 tie.1 in
        elim pair.2 [
          | inl e ↦ subst (λ (z : ℕ). In z numbers) (sym (e.1 ∙ ap (λ (z : ℕ × ℕ). z.1) tie.2)) (numbered tie.0.1 ends.1)
          | inr e ↦ subst (λ (z : ℕ). In z numbers) (sym (e.1 ∙ ap (λ (z : ℕ × ℕ). z.0) tie.2)) (numbered tie.0.0 ends.0)
        ];
  }

  pub hit_start : (s : Site) → Among s starts → is_hit sites ties starts s ≡ true
  unfolding is_hit
  hit_start s i = any_among (λ start. joined (map site_number sites) (map pair_number ties) (site_number start) (site_number s)) s starts i (joined_refl (map site_number sites) (map pair_number ties) (site_number s))

  hit_next : (s t : Site) → Among s sites → In (site_number t) (neighbours pairs (site_number s)) → is_hit sites ties starts s ≡ true → is_hit sites ties starts t ≡ true
  unfolding is_hit numbers pairs
  hit_next s t i near h =
      let found = any_found (λ start. joined (map site_number sites) (map pair_number ties) (site_number start) (site_number s)) starts h in
      any_among (λ start. joined (map site_number sites) (map pair_number ties) (site_number start) (site_number t)) found.0 starts found.1
      (joined_next (map site_number sites) (map pair_number ties) holds (site_number found.0) (site_number s) (site_number t) (numbered found.0 (fit.begun found.0 found.1)) found.2 (numbered s i) near)

  pub hit_tie : (tie : Site × Site) → Among tie ties → is_hit sites ties starts tie.0 ≡ is_hit sites ties starts tie.1
  unfolding pairs pair_number
  hit_tie tie i =
      let ends = fit.ends tie i in
      let pair = among_map pair_number tie ties i in
      same_test (is_hit sites ties starts tie.0) (is_hit sites ties starts tie.1)
      (hit_next tie.0 tie.1 ends.0 (next_first (pair_number tie) (map pair_number ties) pair))
      (hit_next tie.1 tie.0 ends.1 (next_second (pair_number tie) (map pair_number ties) pair))

  pub hit_least : (set : Site → Bool) → ((tie : Site × Site) → Among tie ties → set tie.0 ≡ set tie.1) → ((s : Site) → Among s starts → set s ≡ true) → (s : Site) → Among s sites → is_hit sites ties starts s ≡ true → set s ≡ true
  unfolding is_hit joined pair_number
  hit_least set both begun s i h =
      let found = any_found (λ start. joined (map site_number sites) (map pair_number ties) (site_number start) (site_number s)) starts h in
      let alike = within_alike (λ n. set (site_of n)) (map pair_number ties) (length (map site_number sites)) (site_number found.0) (site_number s) closed found.2 in
      ap set (sym (site_back s (fit.small s i))) ∙ sym alike ∙ ap set (site_back found.0 (fit.small found.0 (fit.begun found.0 found.1))) ∙ begun found.0 found.1
    where
      closed : IsClosed (λ n. set (site_of n)) (map pair_number ties)
      closed pair j =
          let tie = map_among pair_number pair ties j in
          let ends = fit.ends tie.0 tie.1 in
          ap (λ (z : ℕ × ℕ). set (site_of z.0)) tie.2 ∙ ap set (site_back tie.0.0 (fit.small tie.0.0 ends.0)) ∙ both tie.0 tie.1
          ∙ ap set (sym (site_back tie.0.1 (fit.small tie.0.1 ends.1))) ∙ ap (λ (z : ℕ × ℕ). set (site_of z.1)) (sym tie.2)
