-- Words of a job with the numbers of the formats that they came with.
use Rattle.std.specs.Prelude.{◌≡◌, ℕ, ℤ, pos, List, [], ◌∷◌, Bool, true, map, int_le, is_ok, is_err, if◌then◌else◌, Result, Err}
use Rattle.std.specs.Borrow.{Bor}
use Rattle.std.specs.List.{list_all}
use Rattle.serde_json.specs.Data.{Data, string}
use Rattle.grid_json.specs.declared.fault.Fault.{Fault}
use Rattle.grid_json.specs.declared.fault.Reason.TheVariants.{Unknown}
use Rattle.grid_json.specs.declared.format.Format.{Format}
use Rattle.grid_json.specs.declared.format.Format.TheVariants.{One, Two, Three, Four, Five}
use Rattle.grid_json.specs.declared.kinds.Topology.{Topology}
use Rattle.grid_json.specs.Reading.{here, knows}
use Rattle.grid_json.specs.Kinds.{topology_at}
use Rattle.grid_json.specs.Network.{has_buses}

abbrev pub formats : List (ℤ × Format)
formats = (pos 1, One) ∷ (pos 2, Two) ∷ (pos 3, Three) ∷ (pos 4, Four) ∷ (pos 5, Five) ∷ []

-- a text is read from the format of this number on, and in none before it
abbrev pub came_with : {A : Type 0} → (Format → Data → Result A Fault) → List ℕ → ℤ → Bool
came_with read word since =
    list_all (λ f. if int_le since f.0 then is_ok (read f.1 (string word)) else is_err (read f.1 (string word))) formats

-- each of the words came with its format, and all that are known are among them
abbrev pub AreWords : {A : Type 0} → (Format → Data → Result A Fault) → List (List ℕ) → List (Bor (List ℕ) × ℤ) → Type 0
AreWords read known words =
    (list_all (λ w. came_with read w.0.now w.1) words ≡ true)
    × (list_all (λ name. knows (map (λ w. w.0.now) words) name) known ≡ true)

-- levels say how their parts are joined in the formats alone that have configured buses
abbrev pub told_topology_at : Format → Data → Result Topology Fault
told_topology_at format d = if has_buses format then topology_at format d else Err (here Unknown)
