-- Levels by place, of which each has a key: the place of its page among all pages.
use Rattle.std.specs.Prelude.{◌≡◌, ◌≢◌, ℕ, ℤ, ◌<◌, List, [], ◌∷◌, length, map, get_or}
use Rattle.grid_states.specs.declared.page.Content.{Content}
use Rattle.grid_states.specs.Rows.{Rows}

-- no key is this one
unfoldable pub Lacks : ℕ → List ℕ → Type 0
Lacks key [] = Unit {0}
Lacks key (other ∷ rest) = (other ≢ key) × Lacks key rest

-- each key is below the count, and none stands twice
unfoldable pub AreKeys : ℕ → List ℕ → Type 0
AreKeys count [] = Unit {0}
AreKeys count (key ∷ rest) = (key < count) × (Lacks key rest × AreKeys count rest)

-- the keys by place: each below the count stands once
pub record IsOrder (order : List ℕ) (count : ℕ) : Type 0 where
  pub long : length order ≡ count
  pub keys : AreKeys count order

abbrev pub no_content : Content
no_content = record { opened = []; retained = []; watts = [] }

-- the page of a key
abbrev pub page_at : List Content → ℕ → Content
page_at pages key = get_or pages key no_content

-- the rows of the levels by place, and these sums
unfoldable pub rows_of : List ℕ → List Content → ℤ → ℤ → Rows
rows_of order pages load generation = record {
  opened = map (λ key. (page_at pages key).opened) order;
  retained = map (λ key. (page_at pages key).retained) order;
  watts = map (λ key. (page_at pages key).watts) order;
  load = load;
  generation = generation;
}
