-- Ends of lines behind the earlier ones, by what is kept.
use Rattle.std.proofs.Common.{◌≡◌, refl, sym, ap, ◌∙◌, ℕ, ◌+◌, Bool, true, false, cond, List, [], ◌∷◌, ◌++◌, length, length-append, subst, arith, Option, Some, None, Err}
use Rattle.std.specs.Prelude.{option_map}
use Rattle.std.specs.Str.{bytes_eq}
use Rattle.std.proofs.lemmas.List.Sums.{sum_by-append}
use Rattle.std.proofs.lemmas.Slice.Eq.{bytes_eq-Decides}
use Rattle.grid_ids.specs.Name.{has_id, same_id}
use Rattle.grid_ids.specs.Refusing.{found_or}
use Rattle.grid_structure.specs.declared.EditFault.TheVariants as refusals
use Rattle.grid_json.specs.declared.fault.Reason.TheVariants.{Load}
use Rattle.grid_json.specs.Reading.{◌>>=◌, here}
use Rattle.grid_json.specs.declared.buses.BusEnd.{BusEnd}
use Rattle.grid_configured.specs.declared.network.ConfiguredLevel.{ConfiguredLevel}
use Rattle.grid_configured.specs.declared.standing.EndFinding.{EndFinding}
use Rattle.grid_configured.specs.declared.standing.Standing.{Standing}
use Rattle.grid_configured.specs.declared.standing.Tally.{Tally}
use Rattle.grid_configured.specs.Checks.{end_check, end_reasons, ends_in, level_edges, level_nodes, level_of, switch_total}
use Rattle.grid_configured.specs.Standing.{IsTally, Stands, count_at, spot_of, tally_at}
use Rattle.grid_json.proofs.IdSets.{same_flip}

-- ---- the level of an end

none_of : (level : Option ConfiguredLevel) (tally : Option Tally) → IsTally level tally → tally ≡ None → level ≡ None
none_of None tally is e = refl
none_of (Some l) None is e = absurd is
none_of (Some l) (Some t) is e = absurd (cc)

found_at : (level : Option ConfiguredLevel) (tally : Option Tally) → IsTally level tally → (bus : List ℕ) (n m switches total : ℕ) (spot : EndFinding) → n ≡ m → switches ≡ total → option_map (spot_of bus n switches) tally ≡ Some spot
    → (found_or level (here (Load refusals.NoLevel)) >>= λ l. end_reasons (has_id l.buses bus) (level_nodes l + m) (level_edges l + m) total) ≡ end_reasons spot.there spot.counts.nodes spot.counts.edges spot.counts.switches
found_at None None is bus n m switches total spot ends all e = absurd (cc)
found_at None (Some t) is bus n m switches total spot ends all e = absurd is
found_at (Some l) None is bus n m switches total spot ends all e = absurd is
found_at (Some l) (Some t) is bus n m switches total spot ends all e =
    let same : spot_of bus n switches t ≡ spot = cc in
    let told : end_reasons (has_id l.buses bus) (level_nodes l + m) (level_edges l + m) total ≡ end_reasons (has_id t.buses bus) (t.nodes + n) (t.edges + n) switches = rw (is.0 bus, is.1, is.2, ends, all) refl in
    told ∙ ap (λ (z : EndFinding). end_reasons z.there z.counts.nodes z.counts.edges z.counts.switches) same

pub nothing_found : {X Y : Type 0} (f : X → Y) (found : Option X) → None ≡ option_map f found → found ≡ None
nothing_found f None is = refl
nothing_found f (Some x) is = absurd (cc)

module _ (ids : List (List ℕ)) (levels : List ConfiguredLevel) (ends : List BusEnd) (standing : Standing) (stands : Stands ids levels ends standing) (e : BusEnd) where
  pub no_level : tally_at standing.levels e.level ≡ None → end_check levels ends e ≡ Err (here (Load refusals.NoLevel))
  unfolding end_check
  no_level none = rw (none_of (level_of levels e.level) (tally_at standing.levels e.level) (stands.found e.level) none) refl

  pub end_as : (spot : EndFinding) → option_map (spot_of e.bus (count_at standing.ends e.level) standing.switches) (tally_at standing.levels e.level) ≡ Some spot → end_check levels ends e ≡ end_reasons spot.there spot.counts.nodes spot.counts.edges spot.counts.switches
  unfolding end_check
  end_as spot is =
      found_at (level_of levels e.level) (tally_at standing.levels e.level) (stands.found e.level) e.bus (count_at standing.ends e.level) (ends_in e.level ends) standing.switches (switch_total levels + length ends) spot (stands.ended e.level) stands.counted is

-- ---- one end more

pub after_none : (before more : ℕ) → before + (0 + more) ≡ before + more
after_none before more = omega arith

ends_next : (q : List ℕ) (ends : List BusEnd) (e : BusEnd) → ends_in q (ends ++ e ∷ []) ≡ ends_in q ends + cond (same_id q e.level) 1 0
unfolding ends_in
ends_next q ends e = sum_by-append (λ (x : BusEnd). cond (same_id q x.level) 1 0) ends (e ∷ []) ∙ after_none (ends_in q ends) (cond (same_id q e.level) 1 0)

one_more : (ends : List BusEnd) (e : BusEnd) (q : List ℕ) (same : Bool) (n old : ℕ) → bytes_eq e.level q ≡ same → n ≡ ends_in e.level ends → old ≡ ends_in q ends → cond same (n + 1) old ≡ ends_in q ends + cond same 1 0
one_more ends e q true n old is here there =
    let equal : e.level ≡ q = (bytes_eq-Decides e.level q).0 is in
    ap (λ k. k + 1) (here ∙ ap (λ z. ends_in z ends) equal)
one_more ends e q false n old is here there = omega (arith, there)

module _ (ids : List (List ℕ)) (levels : List ConfiguredLevel) (ends : List BusEnd) (old new : Standing) (e : BusEnd) (n : ℕ) (stands : Stands ids levels ends old) where
  pub end_stands : n ≡ count_at old.ends e.level → ((q : List ℕ) → count_at new.ends q ≡ cond (bytes_eq e.level q) (n + 1) (count_at old.ends q)) → new.switches ≡ old.switches + 1 → new.ids ≡ old.ids → new.levels ≡ old.levels
      → Stands ids levels (ends ++ e ∷ []) new
  end_stands count put switches same_ids same_levels = record {
    known = λ q. ap (λ z. has_id z q) same_ids ∙ stands.known q;
    found = λ q. subst (λ z. IsTally (level_of levels q) (tally_at z q)) (sym same_levels) (stands.found q);
    ended = λ q. put q ∙ one_more ends e q (bytes_eq e.level q) n (count_at old.ends q) refl (count ∙ stands.ended e.level) (stands.ended q) ∙ ap (λ t. ends_in q ends + cond t 1 0) (same_flip e.level q) ∙ sym (ends_next q ends e);
    counted = omega (arith, switches, stands.counted, length-append ends (e ∷ []));
  }
