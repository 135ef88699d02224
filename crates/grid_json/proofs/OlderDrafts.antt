-- What is read in a format before the fifth is of nodes alone.
use Rattle.std.proofs.Common.{◌≡◌, refl, sym, ◌∙◌, subst, ℕ, suc, Bool, true, false, ◌&&◌, List, [], ◌∷◌, Result, Ok, inl, inr}
use Rattle.std.specs.Prelude.{codes, decimal}
use Rattle.std.specs.List.{list_all}
use Rattle.std.proofs.lemmas.Bool.{and_from}
use Rattle.serde_json.specs.Data.{Data, Items, no_items, item}
use Rattle.serde_json.specs.Find.{get, as_array}
use Rattle.grid_json.specs.declared.fault.Fault.{Fault}
use Rattle.grid_json.specs.declared.fault.Reason.TheVariants.{WrongKind}
use Rattle.grid_json.specs.declared.format.Format.{Format}
use Rattle.grid_json.specs.declared.kinds.WindingsKind.{WindingsKind}
use Rattle.grid_json.specs.declared.kinds.WindingsKind.TheVariants as windings
use Rattle.grid_json.specs.declared.buses.EndDraft.{EndDraft}
use Rattle.grid_json.specs.declared.buses.EndDraft.TheVariants as ends
use Rattle.grid_json.specs.declared.ends.Two.{Two}
use Rattle.grid_json.specs.declared.ends.Three.{Three}
use Rattle.grid_json.specs.declared.network.AnyLevelDraft.{AnyLevelDraft}
use Rattle.grid_json.specs.declared.network.AnyLevelDraft.TheVariants as levels
use Rattle.grid_json.specs.declared.network.TransformerDraft.{TransformerDraft}
use Rattle.grid_json.specs.declared.network.Windings.{Windings}
use Rattle.grid_json.specs.declared.network.Windings.TheVariants as shapes
use Rattle.grid_json.specs.declared.network.LineDraft.{LineDraft}
use Rattle.grid_json.specs.declared.network.SubstationDraft.{SubstationDraft}
use Rattle.grid_json.specs.declared.network.NetworkDraft.{NetworkDraft}
use Rattle.grid_json.specs.Reading.{◌>>=◌, or_fault, under, items_at, array_at, member_at, member_or, id_at, whole_at, object_at, only_at}
use Rattle.grid_json.specs.Kinds.{windings_kind_at}
use Rattle.grid_json.specs.Network.{both, two_of, two_at, all_three, three_of, three_at, has_buses, end_at, end_draft_at, level_at, any_level_at, windings_at, transformer_at, line_at, substation_at, network_at}
use Rattle.grid_json.specs.OlderFormats.{OlderFormatsReadNodes, OlderFormatsHaveNodes, is_of_nodes, at_nodes, windings_at_nodes, transformer_at_nodes, line_at_nodes, substation_of_nodes, network_of_nodes}
use Rattle.grid_json.proofs.Results.{bound, inside, member_read, either_read}

-- ---- one level, one end

level_read : (format : Format) (d : Data) → has_buses format ≡ false → any_level_at format d ≡ (level_at format d >>= λ level. Ok (levels.Nodes level))
unfolding any_level_at
level_read format d old = rw old refl

end_read : (format : Format) (d : Data) → has_buses format ≡ false → end_draft_at format d ≡ (end_at d >>= λ end. Ok (ends.Node end))
unfolding end_draft_at
end_read format d old = rw old refl

pub older_read : OlderFormatsReadNodes
older_read = record { level = level_read; end = end_read }

-- ---- lists

abbrev Reads : {A : Type 0} → (A → Bool) → (Data → Result A Fault) → Type 0
Reads {A} t read = (d : Data) (x : A) → read d ≡ Ok x → t x ≡ true

module _ {A : Type 0} (t : A → Bool) (read : Data → Result A Fault) (reads : Reads t read) where
  items_read : (i : ℕ) (ds : Items) (xs : List A) → items_at read i ds ≡ Ok xs → list_all t xs ≡ true
  unfolding items_at
  items_read i no_items xs is = let none : ◌≡◌ {A = List A} [] xs = cc in subst (λ (z : List A). list_all t z ≡ true) none refl
  items_read i (item d ds) xs is =
      let x = bound (under (decimal i) (read d)) (λ x. items_at read (suc i) ds >>= λ ys. Ok (x ∷ ys)) xs is in
      let ys = bound (items_at read (suc i) ds) (λ ys. Ok (x.0 ∷ ys)) xs x.2 in
      let same : x.0 ∷ ys.0 ≡ xs = cc (ys.2) in
      subst (λ (z : List A). list_all t z ≡ true) same (and_from (t x.0) (list_all t ys.0) (reads d x.0 (inside (decimal i) (read d) x.0 x.1)) (items_read (suc i) ds ys.0 ys.1))

  array_read : Reads (list_all t) (array_at read)
  array_read d xs is = let ds = bound (or_fault WrongKind (as_array d)) _ xs is in items_read 0 ds.0 xs ds.2

  pub all_of : (name : List ℕ) (d : Data) (xs : List A) → member_or [] (array_at read) name d ≡ Ok xs → list_all t xs ≡ true
  all_of name d xs is = elim (either_read [] (array_at read) name (get name d) xs is) [
    | inl none ↦ subst (λ (z : List A). list_all t z ≡ true) (sym none) refl
    | inr found ↦ array_read found.0 xs found.1
  ]

  both_read : (a b : Data) (two : Two A) → both read a b ≡ Ok two → t two.first && t two.second ≡ true
  unfolding both
  both_read a b two is =
      let x = bound (under (decimal 0) (read a)) _ two is in
      let y = bound (under (decimal 1) (read b)) _ two x.2 in
      let made : Two A = record { first = x.0; second = y.0 } in
      let same : made ≡ two = cc (y.2) in
      subst (λ (z : Two A). t z.first && t z.second ≡ true) same (and_from (t x.0) (t y.0) (reads a x.0 (inside (decimal 0) (read a) x.0 x.1)) (reads b y.0 (inside (decimal 1) (read b) y.0 y.1)))

  two_items : (ds : Items) (two : Two A) → two_of read ds ≡ Ok two → t two.first && t two.second ≡ true
  unfolding two_of
  two_items no_items two is = cc
  two_items (item a no_items) two is = cc
  two_items (item a (item b no_items)) two is = both_read a b two is
  two_items (item a (item b (item c rest))) two is = cc

  pub two_read : Reads (λ (two : Two A). t two.first && t two.second) (two_at read)
  two_read d two is = let ds = bound (or_fault WrongKind (as_array d)) _ two is in two_items ds.0 two ds.2

  all_read : (a b c : Data) (three : Three A) → all_three read a b c ≡ Ok three → t three.first && (t three.second && t three.third) ≡ true
  unfolding all_three
  all_read a b c three is =
      let x = bound (under (decimal 0) (read a)) _ three is in
      let y = bound (under (decimal 1) (read b)) _ three x.2 in
      let z = bound (under (decimal 2) (read c)) _ three y.2 in
      let made : Three A = record { first = x.0; second = y.0; third = z.0 } in
      let same : made ≡ three = cc (z.2) in
      subst (λ (w : Three A). t w.first && (t w.second && t w.third) ≡ true) same (
      and_from (t x.0) (t y.0 && t z.0) (reads a x.0 (inside (decimal 0) (read a) x.0 x.1)) (
      and_from (t y.0) (t z.0) (reads b y.0 (inside (decimal 1) (read b) y.0 y.1)) (reads c z.0 (inside (decimal 2) (read c) z.0 z.1))))

  three_items : (ds : Items) (three : Three A) → three_of read ds ≡ Ok three → t three.first && (t three.second && t three.third) ≡ true
  unfolding three_of
  three_items no_items three is = cc
  three_items (item a no_items) three is = cc
  three_items (item a (item b no_items)) three is = cc
  three_items (item a (item b (item c no_items))) three is = all_read a b c three is
  three_items (item a (item b (item c (item d rest)))) three is = cc

  pub three_read : Reads (λ (three : Three A). t three.first && (t three.second && t three.third)) (three_at read)
  three_read d three is = let ds = bound (or_fault WrongKind (as_array d)) _ three is in three_items ds.0 three ds.2

-- ---- the parts of a network

module _ (format : Format) (old : has_buses format ≡ false) where
  ends_read : Reads at_nodes (end_draft_at format)
  ends_read d end is =
      let e = bound (end_at d) (λ e. Ok (ends.Node e)) end (sym (end_read format d old) ∙ is) in
      let same : ends.Node e.0 ≡ end = cc (e.2) in
      subst (λ (z : EndDraft). at_nodes z ≡ true) same refl

  levels_read : Reads is_of_nodes (any_level_at format)
  levels_read d level is =
      let l = bound (level_at format d) (λ l. Ok (levels.Nodes l)) level (sym (level_read format d old) ∙ is) in
      let same : levels.Nodes l.0 ≡ level = cc (l.2) in
      subst (λ (z : AnyLevelDraft). is_of_nodes z ≡ true) same refl

  windings_read : (kind : WindingsKind) (d : Data) (w : Windings) → windings_at format kind d ≡ Ok w → windings_at_nodes w ≡ true
  unfolding windings_at
  windings_read windings.Two d w is =
      let a = bound (member_at (two_at (end_draft_at format)) (codes "ends") d) _ w is in
      let b = bound (member_at (two_at whole_at) (codes "rated_u") d) _ w a.2 in
      let same : shapes.Two a.0 b.0 ≡ w = cc (b.2) in
      let found = member_read (two_at (end_draft_at format)) (codes "ends") (get (codes "ends") d) a.0 a.1 in
      subst (λ (z : Windings). windings_at_nodes z ≡ true) same (two_read at_nodes (end_draft_at format) ends_read found.0 a.0 found.1)
  windings_read windings.Three d w is =
      let a = bound (member_at (three_at (end_draft_at format)) (codes "ends") d) _ w is in
      let b = bound (member_at (three_at whole_at) (codes "rated_u") d) _ w a.2 in
      let same : shapes.Three a.0 b.0 ≡ w = cc (b.2) in
      let found = member_read (three_at (end_draft_at format)) (codes "ends") (get (codes "ends") d) a.0 a.1 in
      subst (λ (z : Windings). windings_at_nodes z ≡ true) same (three_read at_nodes (end_draft_at format) ends_read found.0 a.0 found.1)

  transformers_read : Reads transformer_at_nodes (transformer_at format)
  unfolding transformer_at
  transformers_read d t is =
      let a = bound (object_at d) _ t is in
      let k = bound (member_at (windings_kind_at format) (codes "kind") d) _ t a.2 in
      let o = bound (only_at (codes "kind" ∷ codes "id" ∷ codes "ends" ∷ codes "rated_u" ∷ []) d) _ t k.2 in
      let i = bound (member_at id_at (codes "id") d) _ t o.2 in
      let w = bound (windings_at format k.0 d) _ t i.2 in
      let made : TransformerDraft = record { id = i.0; windings = w.0 } in
      let same : made ≡ t = cc (w.2) in
      subst (λ (z : TransformerDraft). transformer_at_nodes z ≡ true) same (windings_read k.0 d w.0 w.1)

  lines_read : Reads line_at_nodes (line_at format)
  unfolding line_at
  lines_read d l is =
      let o = bound (only_at (codes "id" ∷ codes "ends" ∷ []) d) _ l is in
      let i = bound (member_at id_at (codes "id") d) _ l o.2 in
      let e = bound (member_at (two_at (end_draft_at format)) (codes "ends") d) _ l i.2 in
      let made : LineDraft = record { id = i.0; ends = e.0 } in
      let same : made ≡ l = cc (e.2) in
      let found = member_read (two_at (end_draft_at format)) (codes "ends") (get (codes "ends") d) e.0 e.1 in
      subst (λ (z : LineDraft). line_at_nodes z ≡ true) same (two_read at_nodes (end_draft_at format) ends_read found.0 e.0 found.1)

  substations_read : Reads substation_of_nodes (substation_at format)
  unfolding substation_at
  substations_read d s is =
      let o = bound (only_at (codes "id" ∷ codes "levels" ∷ codes "transformers" ∷ []) d) _ s is in
      let i = bound (member_at id_at (codes "id") d) _ s o.2 in
      let l = bound (member_or [] (array_at (any_level_at format)) (codes "levels") d) _ s i.2 in
      let t = bound (member_or [] (array_at (transformer_at format)) (codes "transformers") d) _ s l.2 in
      let made : SubstationDraft = record { id = i.0; levels = l.0; transformers = t.0 } in
      let same : made ≡ s = cc (t.2) in
      subst (λ (z : SubstationDraft). substation_of_nodes z ≡ true) same (
      and_from (list_all is_of_nodes l.0) (list_all transformer_at_nodes t.0) (all_of is_of_nodes (any_level_at format) levels_read (codes "levels") d l.0 l.1) (
      all_of transformer_at_nodes (transformer_at format) transformers_read (codes "transformers") d t.0 t.1))

  network_read : Reads network_of_nodes (network_at format)
  unfolding network_at
  network_read d n is =
      let o = bound (only_at (codes "id" ∷ codes "substations" ∷ codes "lines" ∷ []) d) _ n is in
      let i = bound (member_at id_at (codes "id") d) _ n o.2 in
      let s = bound (member_or [] (array_at (substation_at format)) (codes "substations") d) _ n i.2 in
      let l = bound (member_or [] (array_at (line_at format)) (codes "lines") d) _ n s.2 in
      let made : NetworkDraft = record { id = i.0; substations = s.0; lines = l.0 } in
      let same : made ≡ n = cc (l.2) in
      subst (λ (z : NetworkDraft). network_of_nodes z ≡ true) same (
      and_from (list_all substation_of_nodes s.0) (list_all line_at_nodes l.0) (all_of substation_of_nodes (substation_at format) substations_read (codes "substations") d s.0 s.1) (
      all_of line_at_nodes (line_at format) lines_read (codes "lines") d l.0 l.1))

pub older_have : OlderFormatsHaveNodes
older_have format d n old is = network_read format old d n is
