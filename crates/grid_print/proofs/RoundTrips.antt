-- Each part that is written is read back.
use Rattle.std.proofs.Common.{◌≡◌, ◌<◌, ◌^◌, ℕ, suc, ℤ, pos, negsuc, Bool, true, false, List, [], ◌∷◌, ◌++◌, map, Option, Some, None, Ok, refl, sym, ◌∙◌}
use Rattle.std.specs.List.{flat_map, list_any, AllByRecursion}
use Rattle.std.specs.Prelude.{IfSome, nat_le}
use Rattle.grid_lemmas.proofs.Bools.{not_either}
use Rattle.grid_lemmas.proofs.Lists.{any_alike}
use Rattle.grid_level.specs.VoltageLevel.{VoltageLevel}
use Rattle.grid_level.specs.declared.Placed.{Placed}
use Rattle.grid_level.specs.declared.Stand.{Stand}
use Rattle.grid_level.specs.declared.Stand.TheVariants.{Busbar, Feeder, BranchEnd}
use Rattle.std.proofs.lemmas.Bool.{lt-ltb}
use Rattle.serde_json.specs.View.{items_of}
use Rattle.grid_kinds.specs.declared.Injection.{Injection}
use Rattle.grid_kinds.specs.declared.Injection.TheVariants as injections
use Rattle.grid_kinds.specs.declared.SwitchKind.{SwitchKind}
use Rattle.grid_kinds.specs.declared.SwitchKind.TheVariants.{Breaker, Disconnector, LoadBreakSwitch}
use Rattle.grid_level.specs.declared.Switch.{Switch}
use Rattle.grid_level.specs.declared.Internal.{Internal}
use Rattle.grid_structure.specs.declared.End.{End}
use Rattle.grid_json.specs.declared.format.Format.{Format}
use Rattle.grid_json.specs.Reading.{items_at, whole_at}
use Rattle.grid_json.specs.Formats.{number_of}
use Rattle.grid_json.specs.Network.{busbar_at, switch_at, internal_at, injection_at, item_at, has_buses, level_members_at, level_at, level_by, either_level_at, any_level_at, end_at, either_end_at, end_draft_at, two_of, both, three_of, all_three, windings_at, transformer_at, line_at, substation_at, network_at}
use Rattle.grid_print.specs.Objects.{members_from, whole}
use Rattle.grid_print.specs.Network.{switch_value, internal_value, end_value, busbar_of, injection_of, busbars_value, injections_value, level_value, branch_value, named_branch_value, substation_value, network_value}
use Rattle.grid_print.specs.Readable.{IsId, IsWhole, IsReadableSwitch, IsReadableInternal, IsReadableBusbar, IsReadableInjection, IsReadableLevel, IsReadableEnd, IsReadableShape, IsReadableBranch, IsTransformer, IsLine, IsReadableSubstation}
use Rattle.grid_print.specs.Laws.{BusbarsAreRead, switch_draft, internal_draft, InjectionsAreRead, EndsAreRead, EndDraftsAreRead, busbar_draft_of, injection_draft_of, level_draft, LevelsAreRead, transformer_draft_of, line_draft_of, substation_draft, draft_alone, NetworksAreRead, NetworkJobsAreRead}
use Rattle.grid_print.proofs.Each.{each_of}
use Rattle.grid_print.specs.Formats.{item_format, stand_format, level_needs, network_needs, least_format}
use Rattle.grid_print.specs.Job.{job_value}
use Rattle.grid_structure.specs.Sites.{levels}
use Rattle.grid_structure.proofs.Found.{any-flat_map}
use Rattle.grid_json.specs.Job.{draft_at, command_total}
use Rattle.grid_json.specs.declared.format.Format.TheVariants.{One, Two, Three, Four, Five}
use Rattle.grid_json.specs.declared.buses.EndDraft.TheVariants as ends
use Rattle.grid_json.specs.declared.network.AnyLevelDraft.TheVariants as drafts
use Rattle.grid_json.specs.declared.network.Windings.TheVariants as windings
use Rattle.grid_structure.specs.Network.{Network, Substation}
use Rattle.grid_structure.specs.declared.NamedBranch.{NamedBranch}
use Rattle.grid_structure.specs.declared.Branch.{Branch}
use Rattle.grid_structure.specs.declared.Branch.TheVariants.{Line, TwoWindings, ThreeWindings}

-- a number
whole_read : (z : ℤ) → IsWhole z → whole_at (whole z) ≡ Ok z
whole_read (pos n) small = rw small refl
whole_read (negsuc n) small = refl

pub busbars_are_read : BusbarsAreRead
unfolding busbar_at members_from
busbars_are_read id node valid small = rw (valid, lt-ltb node (2 ^ 63) small) refl

switch_read : (format : Format) (kind : SwitchKind) (s : Switch) → s.kind ≡ kind → IsReadableSwitch s → switch_at format (switch_value s) ≡ Ok (switch_draft s)
unfolding switch_at switch_value members_from
switch_read format Breaker s is fits = rw (is, fits.0, lt-ltb s.node1 (2 ^ 63) fits.1, lt-ltb s.node2 (2 ^ 63) fits.2) refl
switch_read format Disconnector s is fits = rw (is, fits.0, lt-ltb s.node1 (2 ^ 63) fits.1, lt-ltb s.node2 (2 ^ 63) fits.2) refl
switch_read format LoadBreakSwitch s is fits = rw (is, fits.0, lt-ltb s.node1 (2 ^ 63) fits.1, lt-ltb s.node2 (2 ^ 63) fits.2) refl

switches_from : (format : Format) (n : ℕ) (switches : List Switch) → AllByRecursion IsReadableSwitch switches → items_at (switch_at format) n (items_of (map switch_value switches)) ≡ Ok (map switch_draft switches)
unfolding items_at
switches_from format n [] fit = refl
switches_from format n (s ∷ switches) fit = rw (switch_read format s.kind s refl fit.0, switches_from format (suc n) switches fit.1) refl

internal_read : (i : Internal) → i.node1 < 2 ^ 63 → i.node2 < 2 ^ 63 → internal_at (internal_value i) ≡ Ok (internal_draft i)
unfolding internal_at internal_value members_from
internal_read i small1 small2 = rw (lt-ltb i.node1 (2 ^ 63) small1, lt-ltb i.node2 (2 ^ 63) small2) refl

internals_from : (n : ℕ) (internals : List Internal) → AllByRecursion IsReadableInternal internals → items_at internal_at n (items_of (map internal_value internals)) ≡ Ok (map internal_draft internals)
unfolding items_at
internals_from n [] fit = refl
internals_from n (i ∷ internals) fit = rw (internal_read i fit.0.0 fit.0.1, internals_from (suc n) internals fit.1) refl

pub injections_are_read : InjectionsAreRead
unfolding injection_at item_at item_format members_from
injections_are_read format id node (injections.Load p0 q0) valid small fits known =
    rw (valid, lt-ltb node (2 ^ 63) small, whole_read p0 fits.0, whole_read q0 fits.1) refl
injections_are_read format id node (injections.Generator target_p target_v min_p max_p) valid small fits known =
    rw (valid, lt-ltb node (2 ^ 63) small, whole_read target_p fits.0, whole_read target_v fits.1, whole_read min_p fits.2, whole_read max_p fits.3) refl
injections_are_read format id node (injections.Battery target_p target_q min_p max_p) valid small fits known =
    rw (valid, lt-ltb node (2 ^ 63) small, whole_read target_p fits.0, whole_read target_q fits.1, whole_read min_p fits.2, whole_read max_p fits.3) refl
injections_are_read format id node (injections.ShuntCompensator section_count max_sections) valid small fits known =
    rw (valid, lt-ltb node (2 ^ 63) small, whole_read section_count fits.0, whole_read max_sections fits.1) refl
injections_are_read format id node (injections.StaticVarCompensator target_q) valid small fits known =
    rw (valid, lt-ltb node (2 ^ 63) small, whole_read target_q fits) refl
injections_are_read One id node (injections.ConverterStation target_q) valid small fits known = cc
injections_are_read Two id node (injections.ConverterStation target_q) valid small fits known = cc
injections_are_read Three id node (injections.ConverterStation target_q) valid small fits known = cc
injections_are_read Four id node (injections.ConverterStation target_q) valid small fits known =
    rw (valid, lt-ltb node (2 ^ 63) small, whole_read target_q fits) refl
injections_are_read Five id node (injections.ConverterStation target_q) valid small fits known =
    rw (valid, lt-ltb node (2 ^ 63) small, whole_read target_q fits) refl

busbars_from : (n : ℕ) (placed : List Placed) → AllByRecursion (λ p. IsReadableBusbar p.terminal.equipment p.node p.stand) placed
    → items_at busbar_at n (items_of (flat_map (λ p. busbar_of p.terminal.equipment p.node p.stand) placed)) ≡ Ok (flat_map (λ p. busbar_draft_of p.terminal.equipment p.node p.stand) placed)
unfolding items_at
busbars_from n [] fit = refl
busbars_from n (p ∷ placed) fit = by p.stand fit.0 (λ m. busbars_from m placed fit.1)
  where
    by : (stand : Stand) → IsReadableBusbar p.terminal.equipment p.node stand
        → ((m : ℕ) → items_at busbar_at m (items_of (flat_map (λ p. busbar_of p.terminal.equipment p.node p.stand) placed)) ≡ Ok (flat_map (λ p. busbar_draft_of p.terminal.equipment p.node p.stand) placed))
        → items_at busbar_at n (items_of (busbar_of p.terminal.equipment p.node stand ++ flat_map (λ p. busbar_of p.terminal.equipment p.node p.stand) placed))
        ≡ Ok (busbar_draft_of p.terminal.equipment p.node stand ++ flat_map (λ p. busbar_draft_of p.terminal.equipment p.node p.stand) placed)
    by Busbar here again = rw (busbars_are_read p.terminal.equipment p.node here.0 here.1, again (suc n)) refl
    by (Feeder read) here again = again n
    by BranchEnd here again = again n

-- of a format that has no later words than this one
abbrev late : Format → Placed → Bool
late format p = nat_le (suc (number_of format)) (stand_format p.stand)

injections_from : (format : Format) (n : ℕ) (placed : List Placed) → AllByRecursion (λ p. IsReadableInjection p.terminal.equipment p.node p.stand) placed → list_any (late format) placed ≡ false
    → items_at (injection_at format) n (items_of (flat_map (λ p. injection_of p.terminal.equipment p.node p.stand) placed)) ≡ Ok (flat_map (λ p. injection_draft_of p.terminal.equipment p.node p.stand) placed)
unfolding items_at stand_format
injections_from format n [] fit known = refl
injections_from format n (p ∷ placed) fit known =
    let parts = not_either (late format p) (list_any (late format) placed) known in
    by p.stand fit.0 parts.0 (λ m. injections_from format m placed fit.1 parts.1)
  where
    by : (stand : Stand) → IsReadableInjection p.terminal.equipment p.node stand → nat_le (suc (number_of format)) (stand_format stand) ≡ false
        → ((m : ℕ) → items_at (injection_at format) m (items_of (flat_map (λ p. injection_of p.terminal.equipment p.node p.stand) placed)) ≡ Ok (flat_map (λ p. injection_draft_of p.terminal.equipment p.node p.stand) placed))
        → items_at (injection_at format) n (items_of (injection_of p.terminal.equipment p.node stand ++ flat_map (λ p. injection_of p.terminal.equipment p.node p.stand) placed))
        ≡ Ok (injection_draft_of p.terminal.equipment p.node stand ++ flat_map (λ p. injection_draft_of p.terminal.equipment p.node p.stand) placed)
    by Busbar here known again = again n
    by (Feeder read) here known again = rw (injections_are_read format p.terminal.equipment p.node read here.0 here.1 here.2 known, again (suc n)) refl
    by BranchEnd here known again = again n

members_read : (format : Format) (l : VoltageLevel) (low high : Option ℤ) → l.low_v ≡ low → l.high_v ≡ high → IfSome low IsWhole → IfSome high IsWhole → IsReadableLevel l
    → AllByRecursion (λ p. IsReadableBusbar p.terminal.equipment p.node p.stand) l.placed → AllByRecursion IsReadableSwitch l.switches → AllByRecursion IsReadableInternal l.internals
    → AllByRecursion (λ p. IsReadableInjection p.terminal.equipment p.node p.stand) l.placed → list_any (late format) l.placed ≡ false → level_members_at format (level_value l) ≡ Ok (level_draft l)
unfolding level_members_at level_value busbars_value injections_value members_from
members_read format l None None is1 is2 low high fits busbars switches internals injections known =
    rw (is1, is2, fits.id, whole_read l.nominal_v fits.nominal, busbars_from 0 l.placed busbars, switches_from format 0 l.switches switches, internals_from 0 l.internals internals, injections_from format 0 l.placed injections known) refl
members_read format l (Some a) None is1 is2 low high fits busbars switches internals injections known =
    rw (is1, is2, fits.id, whole_read l.nominal_v fits.nominal, whole_read a low, busbars_from 0 l.placed busbars, switches_from format 0 l.switches switches, internals_from 0 l.internals internals, injections_from format 0 l.placed injections known) refl
members_read format l None (Some b) is1 is2 low high fits busbars switches internals injections known =
    rw (is1, is2, fits.id, whole_read l.nominal_v fits.nominal, whole_read b high, busbars_from 0 l.placed busbars, switches_from format 0 l.switches switches, internals_from 0 l.internals internals, injections_from format 0 l.placed injections known) refl
members_read format l (Some a) (Some b) is1 is2 low high fits busbars switches internals injections known =
    rw (is1, is2, fits.id, whole_read l.nominal_v fits.nominal, whole_read a low, whole_read b high, busbars_from 0 l.placed busbars, switches_from format 0 l.switches switches, internals_from 0 l.internals internals, injections_from format 0 l.placed injections known) refl

-- a level has no word of how its parts are joined, so it is read as one of nodes
nodes_read : (format : Format) (l : VoltageLevel) (low high : Option ℤ) → l.low_v ≡ low → l.high_v ≡ high → level_members_at format (level_value l) ≡ Ok (level_draft l)
    → any_level_at format (level_value l) ≡ Ok (drafts.Nodes (level_draft l))
unfolding any_level_at either_level_at level_by level_at level_value members_from
nodes_read format l low high is1 is2 read = by (has_buses format) low high refl is1 is2
  where
    by : (t : Bool) (low high : Option ℤ) → has_buses format ≡ t → l.low_v ≡ low → l.high_v ≡ high → any_level_at format (level_value l) ≡ Ok (drafts.Nodes (level_draft l))
    by true None None five is1 is2 = let read = rw (is1, is2) at read in rw (five, is1, is2, read) refl
    by true (Some a) None five is1 is2 = let read = rw (is1, is2) at read in rw (five, is1, is2, read) refl
    by true None (Some b) five is1 is2 = let read = rw (is1, is2) at read in rw (five, is1, is2, read) refl
    by true (Some a) (Some b) five is1 is2 = let read = rw (is1, is2) at read in rw (five, is1, is2, read) refl
    by false None None older is1 is2 = let read = rw (is1, is2) at read in rw (older, is1, is2, read) refl
    by false (Some a) None older is1 is2 = let read = rw (is1, is2) at read in rw (older, is1, is2, read) refl
    by false None (Some b) older is1 is2 = let read = rw (is1, is2) at read in rw (older, is1, is2, read) refl
    by false (Some a) (Some b) older is1 is2 = let read = rw (is1, is2) at read in rw (older, is1, is2, read) refl

pub levels_are_read : LevelsAreRead
unfolding level_needs
levels_are_read format l fits known =
    nodes_read format l l.low_v l.high_v refl refl (
    members_read format l l.low_v l.high_v refl refl fits.low fits.high fits
    (each_of (λ p. IsReadableBusbar p.terminal.equipment p.node p.stand) l.placed fits.busbars)
    (each_of IsReadableSwitch l.switches fits.switches)
    (each_of IsReadableInternal l.internals fits.internals)
    (each_of (λ p. IsReadableInjection p.terminal.equipment p.node p.stand) l.placed fits.injections)
    known)

pub ends_are_read : EndsAreRead
unfolding end_at end_value members_from
ends_are_read e fits = rw (fits.0, whole_read e.node fits.1) refl

-- an end has no bus, so it is read as one by node
pub end_drafts_are_read : EndDraftsAreRead
unfolding end_draft_at either_end_at end_value members_from
end_drafts_are_read format e fits = by (has_buses format) refl
  where
    by : (t : Bool) → has_buses format ≡ t → end_draft_at format (end_value e) ≡ Ok (ends.Node e)
    by true five = rw (five, ends_are_read e fits) refl
    by false older = rw (older, ends_are_read e fits) refl

-- ---- branches

two_read : (format : Format) (id home : List ℕ) (end1 end2 : End) (rated_u1 rated_u2 : ℤ) → IsId id → IsReadableShape (TwoWindings home end1 end2 rated_u1 rated_u2)
    → transformer_at format (branch_value id (TwoWindings home end1 end2 rated_u1 rated_u2))
    ≡ Ok (record { id = id; windings = windings.Two (record { first = ends.Node end1; second = ends.Node end2 }) (record { first = rated_u1; second = rated_u2 }) })
unfolding transformer_at windings_at two_of both branch_value members_from
two_read format id home end1 end2 rated_u1 rated_u2 valid fits =
    rw (valid, end_drafts_are_read format end1 fits.0, end_drafts_are_read format end2 fits.1.0, whole_read rated_u1 fits.1.1.0, whole_read rated_u2 fits.1.1.1) refl

three_read : (format : Format) (id home : List ℕ) (end1 end2 end3 : End) (rated_u1 rated_u2 rated_u3 : ℤ) → IsId id → IsReadableShape (ThreeWindings home end1 end2 end3 rated_u1 rated_u2 rated_u3)
    → transformer_at format (branch_value id (ThreeWindings home end1 end2 end3 rated_u1 rated_u2 rated_u3))
    ≡ Ok (record { id = id; windings = windings.Three (record { first = ends.Node end1; second = ends.Node end2; third = ends.Node end3 }) (record { first = rated_u1; second = rated_u2; third = rated_u3 }) })
unfolding transformer_at windings_at three_of all_three branch_value members_from
three_read format id home end1 end2 end3 rated_u1 rated_u2 rated_u3 valid fits =
    rw (
      valid,
      end_drafts_are_read format end1 fits.0,
      end_drafts_are_read format end2 fits.1.0,
      end_drafts_are_read format end3 fits.1.1.0,
      whole_read rated_u1 fits.1.1.1.0,
      whole_read rated_u2 fits.1.1.1.1.0,
      whole_read rated_u3 fits.1.1.1.1.1,
    ) refl

line_read : (format : Format) (id : List ℕ) (end1 end2 : End) → IsId id → IsReadableEnd end1 → IsReadableEnd end2 → line_at format (branch_value id (Line end1 end2)) ≡ Ok (record { id = id; ends = record { first = ends.Node end1; second = ends.Node end2 } })
unfolding line_at two_of both branch_value members_from
line_read format id end1 end2 valid fit1 fit2 = rw (valid, end_drafts_are_read format end1 fit1, end_drafts_are_read format end2 fit2) refl

transformers_from : (format : Format) (n : ℕ) (bs : List NamedBranch) → AllByRecursion IsReadableBranch bs → AllByRecursion (λ b. IsTransformer b.shape) bs
    → items_at (transformer_at format) n (items_of (map named_branch_value bs)) ≡ Ok (flat_map (λ b. transformer_draft_of b.id b.shape) bs)
unfolding items_at
transformers_from format n [] fit kinds = refl
transformers_from format n (b ∷ bs) fit kinds = by b.shape fit.0.1 kinds.0 (transformers_from format (suc n) bs fit.1 kinds.1)
  where
    by : (shape : Branch) → IsReadableShape shape → IsTransformer shape → items_at (transformer_at format) (suc n) (items_of (map named_branch_value bs)) ≡ Ok (flat_map (λ b. transformer_draft_of b.id b.shape) bs)
        → items_at (transformer_at format) n (items_of (branch_value b.id shape ∷ map named_branch_value bs)) ≡ Ok (transformer_draft_of b.id shape ++ flat_map (λ b. transformer_draft_of b.id b.shape) bs)
    by (Line end1 end2) fits kind again = absurd kind
    by (TwoWindings home end1 end2 rated_u1 rated_u2) fits kind again = rw (two_read format b.id home end1 end2 rated_u1 rated_u2 fit.0.0 fits, again) refl
    by (ThreeWindings home end1 end2 end3 rated_u1 rated_u2 rated_u3) fits kind again = rw (three_read format b.id home end1 end2 end3 rated_u1 rated_u2 rated_u3 fit.0.0 fits, again) refl

lines_from : (format : Format) (n : ℕ) (bs : List NamedBranch) → AllByRecursion IsReadableBranch bs → AllByRecursion (λ b. IsLine b.shape) bs → items_at (line_at format) n (items_of (map named_branch_value bs)) ≡ Ok (flat_map (λ b. line_draft_of b.id b.shape) bs)
unfolding items_at
lines_from format n [] fit kinds = refl
lines_from format n (b ∷ bs) fit kinds = by b.shape fit.0.1 kinds.0 (lines_from format (suc n) bs fit.1 kinds.1)
  where
    by : (shape : Branch) → IsReadableShape shape → IsLine shape → items_at (line_at format) (suc n) (items_of (map named_branch_value bs)) ≡ Ok (flat_map (λ b. line_draft_of b.id b.shape) bs)
        → items_at (line_at format) n (items_of (branch_value b.id shape ∷ map named_branch_value bs)) ≡ Ok (line_draft_of b.id shape ++ flat_map (λ b. line_draft_of b.id b.shape) bs)
    by (Line end1 end2) fits kind again = rw (line_read format b.id end1 end2 fit.0.0 fits.0 fits.1, again) refl
    by (TwoWindings home end1 end2 rated_u1 rated_u2) fits kind again = absurd kind
    by (ThreeWindings home end1 end2 end3 rated_u1 rated_u2 rated_u3) fits kind again = absurd kind

-- ---- networks

levels_from : (format : Format) (n : ℕ) (ls : List VoltageLevel) → AllByRecursion IsReadableLevel ls → list_any (level_needs (suc (number_of format))) ls ≡ false → items_at (any_level_at format) n (items_of (map level_value ls)) ≡ Ok (map (λ l. drafts.Nodes (level_draft l)) ls)
unfolding items_at
levels_from format n [] fit known = refl
levels_from format n (l ∷ ls) fit known =
    let parts = not_either (level_needs (suc (number_of format)) l) (list_any (level_needs (suc (number_of format))) ls) known in
    rw (levels_are_read format l fit.0 parts.0, levels_from format (suc n) ls fit.1 parts.1) refl

substation_read : (format : Format) (s : Substation) → IsReadableSubstation s → list_any (level_needs (suc (number_of format))) s.levels ≡ false → substation_at format (substation_value s) ≡ Ok (substation_draft s)
unfolding substation_at substation_value members_from
substation_read format s fits known =
    rw (
      fits.id,
      levels_from format 0 s.levels (each_of IsReadableLevel s.levels fits.levels) known,
      transformers_from format 0 s.transformers (each_of IsReadableBranch s.transformers fits.transformers) (each_of (λ b. IsTransformer b.shape) s.transformers fits.are_transformers),
    ) refl

substations_from : (format : Format) (n : ℕ) (ss : List Substation) → AllByRecursion IsReadableSubstation ss → list_any (λ s. list_any (level_needs (suc (number_of format))) s.levels) ss ≡ false → items_at (substation_at format) n (items_of (map substation_value ss)) ≡ Ok (map substation_draft ss)
unfolding items_at
substations_from format n [] fit known = refl
substations_from format n (s ∷ ss) fit known =
    let parts = not_either (list_any (level_needs (suc (number_of format))) s.levels) (list_any (λ (t : Substation). list_any (level_needs (suc (number_of format))) t.levels) ss) known in
    rw (substation_read format s fit.0 parts.0, substations_from format (suc n) ss fit.1 parts.1) refl

pub networks_are_read : NetworksAreRead
unfolding network_at network_value members_from network_needs levels
networks_are_read format net fits known =
    rw (
      fits.id,
      substations_from format 0 net.substations (each_of IsReadableSubstation net.substations fits.substations) (sym (any-flat_map (level_needs (suc (number_of format))) (λ (s : Substation). s.levels) net.substations) ∙ known),
      lines_from format 0 net.lines (each_of IsReadableBranch net.lines fits.lines) (each_of (λ b. IsLine b.shape) net.lines fits.are_lines),
    ) refl

-- no injection came with the fifth format
no_fifth : (item : Injection) → nat_le 5 (item_format item) ≡ false
unfolding item_format
no_fifth (injections.Load p0 q0) = refl
no_fifth other = refl

-- nor with the second or the third
no_second : (item : Injection) → nat_le 2 (item_format item) ≡ nat_le 4 (item_format item)
unfolding item_format
no_second (injections.Load p0 q0) = refl
no_second other = refl

stand_fifth : (stand : Stand) → nat_le 5 (stand_format stand) ≡ false
unfolding stand_format
stand_fifth Busbar = refl
stand_fifth (Feeder item) = no_fifth item
stand_fifth BranchEnd = refl

stand_second : (stand : Stand) → nat_le 2 (stand_format stand) ≡ nat_le 4 (stand_format stand)
unfolding stand_format
stand_second Busbar = refl
stand_second (Feeder item) = no_second item
stand_second BranchEnd = refl

none_of : {A : Type 0} (p : A → Bool) → ((x : A) → p x ≡ false) → (xs : List A) → list_any p xs ≡ false
none_of p none [] = refl
none_of p none (x ∷ xs) = rw (none x, none_of p none xs) refl

fourth_knows : (net : Network) → network_needs 5 net ≡ false
unfolding network_needs level_needs
fourth_knows net = none_of (level_needs 5) (λ l. none_of (λ (p : Placed). nat_le 5 (stand_format p.stand)) (λ p. stand_fifth p.stand) l.placed) (levels net)

first_knows : (net : Network) → network_needs 4 net ≡ false → network_needs 2 net ≡ false
unfolding network_needs level_needs
first_knows net none = any_alike (level_needs 2) (level_needs 4) (levels net) (λ l. any_alike (λ (p : Placed). nat_le 2 (stand_format p.stand)) (λ (p : Placed). nat_le 4 (stand_format p.stand)) l.placed (λ p. stand_second p.stand)) ∙ none

pub network_jobs_are_read : NetworkJobsAreRead
unfolding draft_at job_value least_format command_total items_at members_from
network_jobs_are_read net fits = by (network_needs 4 net) refl
  where
    by : (t : Bool) → network_needs 4 net ≡ t → draft_at (job_value net [] [] None) ≡ Ok (draft_alone net)
    by true e = rw (e, networks_are_read Four net fits (fourth_knows net)) refl
    by false e = rw (e, networks_are_read One net fits (first_knows net e)) refl
