-- Which words ask for what.
use Rattle.std.specs.Prelude.{ℕ, ◌+◌, ◌-◌, ◌≤◌, ⊤, List, [], ◌∷◌, Option, Some, None, find, codes, decimal, if◌then◌else◌}
use Rattle.std.specs.List.{range_with_len}
use Rattle.std.specs.Str.{bytes_eq}
use Rattle.grid_forms.specs.declared.words.TheConstants.{MOST_SEED, MOST_SIZE}
use Rattle.grid_forms.specs.declared.words.Layout.{Layout}
use Rattle.grid_forms.specs.declared.words.Layout.TheVariants.{Text, Lines}
use Rattle.grid_forms.specs.declared.words.Form.{Form}
use Rattle.grid_forms.specs.declared.words.Form.TheVariants.{Check, Replay, Run, Print, Hvdc, Screen, Configured, Make, Trial}

-- the number from the least to the most whose decimal digits are the text
unfoldable pub number_among : ℕ → ℕ → List ℕ → Option ℕ
number_among least most text = find (λ n. bytes_eq (decimal n) text) (range_with_len least ((most + 1) - least))

abbrev pub seed_in : List ℕ → Option ℕ
seed_in text = number_among 0 MOST_SEED text

abbrev pub size_in : List ℕ → Option ℕ
size_in text = number_among 1 MOST_SIZE text

-- the forms that write an outcome, which has two layouts
abbrev pub outcome_form : Layout → List ℕ → Option Form
outcome_form layout word =
    if bytes_eq word (codes "replay") then Some (Replay layout)
    else (if bytes_eq word (codes "run") then Some (Run layout)
    else (if bytes_eq word (codes "hvdc") then Some (Hvdc layout)
    else (if bytes_eq word (codes "screen") then Some (Screen layout)
    else (if bytes_eq word (codes "configured") then Some (Configured layout) else None))))

abbrev pub form_by_name : List ℕ → Option Form
form_by_name word =
    if bytes_eq word (codes "check") then Some Check
    else (if bytes_eq word (codes "print") then Some Print else outcome_form Text word)

-- the word behind a form that asks for lines
abbrev pub form_with : List ℕ → List ℕ → Option Form
form_with word layout = if bytes_eq layout (codes "--json") then outcome_form Lines word else None

-- the form of a seed and a size, where both are there
abbrev pub with_numbers : (ℕ → ℕ → Form) → Option ℕ → Option ℕ → Option Form
with_numbers form (Some seed) (Some size) = Some (form seed size)
with_numbers form (Some seed) None = None
with_numbers form None size = None

abbrev pub make_form : ℕ → ℕ → Form
make_form seed size = Make seed size

abbrev pub trial_form : ℕ → ℕ → Form
trial_form seed size = Trial seed size

abbrev pub sized_form : List ℕ → List ℕ → List ℕ → Option Form
sized_form word seed size =
    if bytes_eq word (codes "make") then with_numbers make_form (seed_in seed) (size_in size)
    else (if bytes_eq word (codes "trial") then with_numbers trial_form (seed_in seed) (size_in size) else None)

-- the words of a form, and nothing else
abbrev pub form_of : List (List ℕ) → Option Form
form_of [] = None
form_of (word ∷ []) = form_by_name word
form_of (word ∷ layout ∷ []) = form_with word layout
form_of (word ∷ seed ∷ size ∷ []) = sized_form word seed size
form_of (word ∷ seed ∷ size ∷ other ∷ words) = None

-- the numbers of a form are within their limits
abbrev pub IsWithin : Form → Type 0
IsWithin Check = ⊤
IsWithin Print = ⊤
IsWithin (Replay layout) = ⊤
IsWithin (Run layout) = ⊤
IsWithin (Hvdc layout) = ⊤
IsWithin (Screen layout) = ⊤
IsWithin (Configured layout) = ⊤
IsWithin (Make seed size) = (seed ≤ MOST_SEED) × (1 ≤ size) × (size ≤ MOST_SIZE)
IsWithin (Trial seed size) = (seed ≤ MOST_SEED) × (1 ≤ size) × (size ≤ MOST_SIZE)
