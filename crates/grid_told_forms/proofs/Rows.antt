-- The lines of components over HVDC lines.
use Rattle.std.proofs.Common.{◌≡◌, ℕ, Bool, true, false, List, [], ◌∷◌, ◌++◌, map, refl, sym, ap, ap₂, ◌∙◌, append-nil}
use Rattle.std.specs.Prelude.{IsUtf8, codes}
use Rattle.std.specs.Str.{bytes_eq}
use Rattle.std.specs.List.{AllByRecursion, flat_map, enumerate_from}
use Rattle.serde_json.specs.Data.{Data}
use Rattle.grid_structure.specs.Network.{Network}
use Rattle.grid_islands.specs.Islands.{NetworkBus, network_buses}
use Rattle.grid_print.proofs.Each.{each_of, of_each}
use Rattle.grid_report.specs.Lines.{bus_name}
use Rattle.grid_jsonl.specs.Trees.{ordered}
use Rattle.grid_jsonl.specs.Outcomes.{variant_object}
use Rattle.grid_hvdc.specs.Lines.{bus_object, numbered_object, bus_objects, variant_objects}
use Rattle.grid_told.specs.Shapes.{IsReadable, IsReadBack}
use Rattle.grid_told.proofs.Lines.{wholes_of}
use Rattle.grid_told.proofs.ReadBack.{all_read}
use Rattle.grid_told.proofs.Each.{each_append, each_map}
use Rattle.grid_told.proofs.Fields.{text_of, natural_of, at}
use Rattle.grid_told.proofs.Readable.{word_readable, text_readable, natural_readable, ordered_readable}
use Rattle.grid_told.proofs.Sums.{name_utf8, least_in, least_back}
use Rattle.grid_told_forms.specs.Rows.{Row, Variant, IsRow, IsVariant, row_object, row_objects, numbered_row, rows_of}
use Rattle.grid_told_forms.specs.Laws.{BusesAreRows, NumbersAreReadBack, NumbersAreTold}
use Rattle.grid_told_forms.proofs.Between.{same_between}

-- ---- rows

each_row : (name : List ℕ) (net : Network) (count : ℕ) (branches links : List (ℕ × ℕ)) (buses : List (ℕ × NetworkBus))
    → map (numbered_object name net count branches links) buses ≡ map (row_object name) (map (numbered_row net count branches links) buses)
unfolding numbered_object row_object numbered_row
each_row name net count branches links [] = refl
each_row name net count branches links (bus ∷ buses) = ap (λ l. numbered_object name net count branches links bus ∷ l) (each_row name net count branches links buses)

pub buses_are_rows : BusesAreRows
unfolding variant_objects bus_objects row_objects rows_of
buses_are_rows name net opened retained hvdc_lines = ap (λ l. variant_object name ∷ l) (each_row name net _ _ _ (enumerate_from 0 (network_buses net opened retained)))

-- ---- readable

row_readable : (name : List ℕ) → IsUtf8 name → (r : Row) → IsRow r → IsReadable 6 (row_object name r)
unfolding row_object bus_object
row_readable name known r h = ordered_readable 5 _ refl (
  word_readable 5 _ refl,
  (
    text_readable 5 name known,
    (
      text_readable 5 r.level h.level,
      (
        text_readable 5 (bus_name r.level r.least) (name_utf8 r.level r.least h.level h.least),
        (
          natural_readable 5 r.number.connected h.connected,
          (
            natural_readable 5 r.number.connected_size h.connected_size,
            (natural_readable 5 r.number.synchronous h.synchronous, (natural_readable 5 r.number.synchronous_size h.synchronous_size, tt)),
          ),
        ),
      ),
    ),
  ),
)

name_readable : (name : List ℕ) → IsUtf8 name → IsReadable 6 (variant_object name)
unfolding variant_object
name_readable name h = ordered_readable 5 _ refl (word_readable 5 _ refl, (text_readable 5 name h, tt))

all_readable : (variants : List Variant) → AllByRecursion IsVariant variants → AllByRecursion (IsReadable 6) (flat_map row_objects variants)
unfolding row_objects
all_readable [] h = tt
all_readable (v ∷ variants) h =
    each_append (IsReadable 6) (variant_object v.name ∷ map (row_object v.name) v.rows) (flat_map row_objects variants)
    (name_readable v.name h.0.name, each_map IsRow (IsReadable 6) (row_object v.name) (row_readable v.name h.0.name) v.rows (each_of IsRow v.rows h.0.rows)) (all_readable variants h.1)

pub numbers_are_read_back : NumbersAreReadBack
numbers_are_read_back variants h = of_each IsReadBack (flat_map row_objects variants) (all_read (flat_map row_objects variants) (all_readable variants (each_of IsVariant variants h)))

-- ---- told

unfoldable pub row_in : Data → Row
row_in d = record {
  level = text_of (at (codes "level") d);
  least = least_in (text_of (at (codes "level") d)) (text_of (at (codes "bus") d));
  number = record {
    connected = natural_of (at (codes "connected_component") d);
    connected_size = natural_of (at (codes "connected_size") d);
    synchronous = natural_of (at (codes "synchronous_component") d);
    synchronous_size = natural_of (at (codes "synchronous_size") d);
  };
}

row_back : (name : List ℕ) (r : Row) → IsRow r → row_in (row_object name r) ≡ r
unfolding row_in row_object bus_object ordered
row_back name r h = ap (λ n. record { level = r.level; least = n; number = r.number }) (least_back r.level r.least h.least)

unfoldable pub name_in : Data → List ℕ
name_in d = text_of (at (codes "variant") d)

name_back : (name : List ℕ) → name_in (variant_object name) ≡ name
unfolding name_in variant_object ordered
name_back name = refl

unfoldable pub begins : Data → Bool
begins d = bytes_eq (text_of (at (codes "kind") d)) (codes "variant")

variant_begins : (name : List ℕ) → begins (variant_object name) ≡ true
unfolding begins variant_object ordered
variant_begins name = refl

row_goes_on : (name : List ℕ) (r : Row) → begins (row_object name r) ≡ false
unfolding begins row_object bus_object ordered
row_goes_on name r = refl

-- the rows before the first variant, and the variants
abbrev Cut : Type 0
Cut = List Row × List Variant

abbrev cut_by : Bool → Data → Cut → Cut
cut_by true d rest = ([], record { name = name_in d; rows = rest.0 } ∷ rest.1)
cut_by false d rest = (row_in d ∷ rest.0, rest.1)

abbrev cut : List Data → Cut
cut [] = ([], [])
cut (d ∷ ds) = cut_by (begins d) d (cut ds)

rows_cut : (name : List ℕ) (rows : List Row) (rest : List Data) → AllByRecursion IsRow rows → cut (map (row_object name) rows ++ rest) ≡ (rows ++ (cut rest).0, (cut rest).1)
rows_cut name [] rest h = refl
rows_cut name (r ∷ rows) rest h =
    ap (λ b. cut_by b (row_object name r) (cut (map (row_object name) rows ++ rest))) (row_goes_on name r)
    ∙ ap₂ (λ x (c : Cut). (x ∷ c.0, c.1)) (row_back name r h.0) (rows_cut name rows rest h.1)

variants_cut : (variants : List Variant) → AllByRecursion IsVariant variants → cut (flat_map row_objects variants) ≡ ([], variants)
unfolding row_objects
variants_cut [] h = refl
variants_cut (v ∷ variants) h =
    let rest = flat_map row_objects variants in
    let rows = map (row_object v.name) v.rows ++ rest in
    ap (λ b. cut_by b (variant_object v.name) (cut rows)) (variant_begins v.name)
    ∙ ap (λ (c : Cut). cut_by true (variant_object v.name) c) (rows_cut v.name v.rows rest (each_of IsRow v.rows h.0.rows) ∙ ap (λ (c : Cut). (v.rows ++ c.0, c.1)) (variants_cut variants h.1))
    ∙ ap₂ (λ (n : List ℕ) (l : List Row). ([], record { name = n; rows = l } ∷ variants)) (name_back v.name) (append-nil v.rows)

pub numbers_are_told : NumbersAreTold
numbers_are_told first also last end variants others a b c d h k e =
    let held = each_of IsVariant variants h in
    let other = each_of IsVariant others k in
    let same = same_between first also last end (flat_map row_objects variants) (flat_map row_objects others) a b c d
    (wholes_of (flat_map row_objects variants) (all_readable variants held)) (wholes_of (flat_map row_objects others) (all_readable others other)) e in
    (same.first_is, (sym (ap (λ (c : Cut). c.1) (variants_cut variants held)) ∙ ap (λ ds. (cut ds).1) same.between ∙ ap (λ (c : Cut). c.1) (variants_cut others other), same.last_is))
