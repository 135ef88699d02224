-- A printed listener is read back as that listener.
use Rattle.std.proofs.Common.{◌≡◌, ℕ, suc, Bool, true, false, List, [], ◌∷◌, ◌++◌, Option, Some, None, Ok, refl, ◌∙◌}
use Rattle.std.specs.Prelude.{codes, IfSome}
use Rattle.serde_json.specs.Data.{Data, string}
use Rattle.serde_json.specs.View.{items_of}
use Rattle.grid_events.specs.declared.filter.Filter.{Filter}
use Rattle.grid_json.specs.declared.format.Format.{Format}
use Rattle.grid_json.specs.declared.kinds.EventKind.{EventKind}
use Rattle.grid_json.specs.declared.kinds.EventKind.TheVariants.{Created, Removed, Updated, VariantCreated, VariantOverwritten, VariantRemoved}
use Rattle.grid_json.specs.Reading.{items_at, array_at}
use Rattle.grid_json.specs.Kinds.{event_kind_at}
use Rattle.grid_json.specs.Job.{same_kind, has_kind, filter_of, listener_at}
use Rattle.grid_print.specs.Objects.{members_from, word_if}
use Rattle.grid_print.specs.Job.{kinds_value, listener_value}
use Rattle.grid_print.specs.Readable.{IsId}
use Rattle.grid_reading_back.specs.Jobs.{IsReadableFilter}

-- a kind that is listed only where its flag is set
abbrev kind_if : Bool → EventKind → List EventKind
kind_if true kind = kind ∷ []
kind_if false kind = []

-- the kinds that are listed, in the order in which the format names them
abbrev from_overwritten : Filter → List EventKind
from_overwritten f = kind_if f.variant_overwritten VariantOverwritten ++ kind_if f.variant_removed VariantRemoved

abbrev from_variant_created : Filter → List EventKind
from_variant_created f = kind_if f.variant_created VariantCreated ++ from_overwritten f

abbrev from_updated : Filter → List EventKind
from_updated f = kind_if f.updated Updated ++ from_variant_created f

abbrev from_removed : Filter → List EventKind
from_removed f = kind_if f.removed Removed ++ from_updated f

abbrev listed : Filter → List EventKind
listed f = kind_if f.created Created ++ from_removed f

-- ---- the words are read as the kinds

abbrev AreRead : Format → List Data → List EventKind → Type 0
AreRead format words kinds = (n : ℕ) → items_at (event_kind_at format) n (items_of words) ≡ Ok kinds

word_read : (format : Format) (b : Bool) (word : List ℕ) (kind : EventKind) (words : List Data) (kinds : List EventKind) → event_kind_at format (string word) ≡ Ok kind → AreRead format words kinds
    → AreRead format (word_if b word ++ words) (kind_if b kind ++ kinds)
unfolding items_at
word_read format true word kind words kinds is later n = rw (is, later (suc n)) refl
word_read format false word kind words kinds is later n = later n

last_read : (format : Format) (b : Bool) (word : List ℕ) (kind : EventKind) → event_kind_at format (string word) ≡ Ok kind → AreRead format (word_if b word) (kind_if b kind)
unfolding items_at
last_read format true word kind is n = rw is refl
last_read format false word kind is n = refl

kinds_back : (format : Format) (f : Filter) → array_at (event_kind_at format) (kinds_value f) ≡ Ok (listed f)
unfolding kinds_value
kinds_back format f =
    word_read format f.created (codes "created") Created _ (from_removed f) refl
    (word_read format f.removed (codes "removed") Removed _ (from_updated f) refl
    (word_read format f.updated (codes "updated") Updated _ (from_variant_created f) refl
    (word_read format f.variant_created (codes "variant_created") VariantCreated _ (from_overwritten f) refl
    (word_read format f.variant_overwritten (codes "variant_overwritten") VariantOverwritten _ (kind_if f.variant_removed VariantRemoved) refl
    (last_read format f.variant_removed (codes "variant_removed") VariantRemoved refl))))) 0

-- ---- a kind is among them where its flag is set

passed : (b : Bool) (other kind : EventKind) (kinds : List EventKind) → same_kind kind other ≡ false → has_kind (kind_if b other ++ kinds) kind ≡ has_kind kinds kind
unfolding has_kind
passed true other kind kinds differ = rw differ refl
passed false other kind kinds differ = refl

met : (b : Bool) (kind : EventKind) (kinds : List EventKind) → same_kind kind kind ≡ true → has_kind kinds kind ≡ false → has_kind (kind_if b kind ++ kinds) kind ≡ b
unfolding has_kind
met true kind kinds same none = rw same refl
met false kind kinds same none = none

last_passed : (b : Bool) (other kind : EventKind) → same_kind kind other ≡ false → has_kind (kind_if b other) kind ≡ false
unfolding has_kind
last_passed true other kind differ = rw differ refl
last_passed false other kind differ = refl

last_met : (b : Bool) (kind : EventKind) → same_kind kind kind ≡ true → has_kind (kind_if b kind) kind ≡ b
unfolding has_kind
last_met true kind same = rw same refl
last_met false kind same = refl

module _ (f : Filter) where
  created_back : has_kind (listed f) Created ≡ f.created
  created_back =
      met f.created Created (from_removed f) refl
      (passed f.removed Removed Created (from_updated f) refl ∙ passed f.updated Updated Created (from_variant_created f) refl
      ∙ passed f.variant_created VariantCreated Created (from_overwritten f) refl ∙ passed f.variant_overwritten VariantOverwritten Created (kind_if f.variant_removed VariantRemoved) refl
      ∙ last_passed f.variant_removed VariantRemoved Created refl)

  removed_back : has_kind (listed f) Removed ≡ f.removed
  removed_back =
      passed f.created Created Removed (from_removed f) refl
      ∙ met f.removed Removed (from_updated f) refl
      (passed f.updated Updated Removed (from_variant_created f) refl ∙ passed f.variant_created VariantCreated Removed (from_overwritten f) refl
      ∙ passed f.variant_overwritten VariantOverwritten Removed (kind_if f.variant_removed VariantRemoved) refl ∙ last_passed f.variant_removed VariantRemoved Removed refl)

  updated_back : has_kind (listed f) Updated ≡ f.updated
  updated_back =
      passed f.created Created Updated (from_removed f) refl ∙ passed f.removed Removed Updated (from_updated f) refl
      ∙ met f.updated Updated (from_variant_created f) refl
      (passed f.variant_created VariantCreated Updated (from_overwritten f) refl
      ∙ passed f.variant_overwritten VariantOverwritten Updated (kind_if f.variant_removed VariantRemoved) refl ∙ last_passed f.variant_removed VariantRemoved Updated refl)

  variant_created_back : has_kind (listed f) VariantCreated ≡ f.variant_created
  variant_created_back =
      passed f.created Created VariantCreated (from_removed f) refl ∙ passed f.removed Removed VariantCreated (from_updated f) refl ∙ passed f.updated Updated VariantCreated (from_variant_created f) refl
      ∙ met f.variant_created VariantCreated (from_overwritten f) refl
      (passed f.variant_overwritten VariantOverwritten VariantCreated (kind_if f.variant_removed VariantRemoved) refl ∙ last_passed f.variant_removed VariantRemoved VariantCreated refl)

  variant_overwritten_back : has_kind (listed f) VariantOverwritten ≡ f.variant_overwritten
  variant_overwritten_back =
      passed f.created Created VariantOverwritten (from_removed f) refl ∙ passed f.removed Removed VariantOverwritten (from_updated f) refl
      ∙ passed f.updated Updated VariantOverwritten (from_variant_created f) refl ∙ passed f.variant_created VariantCreated VariantOverwritten (from_overwritten f) refl
      ∙ met f.variant_overwritten VariantOverwritten (kind_if f.variant_removed VariantRemoved) refl (last_passed f.variant_removed VariantRemoved VariantOverwritten refl)

  variant_removed_back : has_kind (listed f) VariantRemoved ≡ f.variant_removed
  variant_removed_back =
      passed f.created Created VariantRemoved (from_removed f) refl ∙ passed f.removed Removed VariantRemoved (from_updated f) refl
      ∙ passed f.updated Updated VariantRemoved (from_variant_created f) refl ∙ passed f.variant_created VariantCreated VariantRemoved (from_overwritten f) refl
      ∙ passed f.variant_overwritten VariantOverwritten VariantRemoved (kind_if f.variant_removed VariantRemoved) refl ∙ last_met f.variant_removed VariantRemoved refl

  filter_back : filter_of (listed f) f.variant ≡ f
  unfolding filter_of
  filter_back = rw (created_back, removed_back, updated_back, variant_created_back, variant_overwritten_back, variant_removed_back) refl

pub listener_back : (format : Format) (f : Filter) → IsReadableFilter f → listener_at format (listener_value f) ≡ Ok f
unfolding listener_at listener_value members_from kinds_value
listener_back format f fits = by f.variant refl fits
  where
    by : (v : Option (List ℕ)) → f.variant ≡ v → IfSome v IsId → listener_at format (listener_value f) ≡ Ok f
    by None is fits = rw is (rw (kinds_back format f, ← is) (rw (filter_back f) refl))
    by (Some name) is fits = rw is (rw (kinds_back format f, fits, ← is) (rw (filter_back f) refl))
