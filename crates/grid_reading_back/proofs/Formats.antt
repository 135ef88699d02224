-- The least format of a job has all its words.
use Rattle.std.proofs.Common.{◌≡◌, ◌||◌, ℕ, suc, Bool, true, false, List, [], ◌∷◌, refl, ◌∙◌}
use Rattle.std.specs.Prelude.{nat_le}
use Rattle.std.specs.List.{list_any}
use Rattle.grid_lemmas.proofs.Bools.{not_either}
use Rattle.grid_lemmas.proofs.Lists.{any_alike}
use Rattle.grid_kinds.specs.declared.Injection.{Injection}
use Rattle.grid_kinds.specs.declared.Injection.TheVariants as injections
use Rattle.grid_level.specs.declared.Placed.{Placed}
use Rattle.grid_level.specs.declared.Stand.{Stand}
use Rattle.grid_level.specs.declared.Stand.TheVariants.{Busbar, Feeder, BranchEnd}
use Rattle.grid_structure.specs.declared.Edit.{Edit}
use Rattle.grid_structure.specs.declared.Edit.TheVariants as edits
use Rattle.grid_structure.specs.Network.{Network}
use Rattle.grid_structure.specs.Sites.{levels}
use Rattle.grid_requests.specs.declared.request.Request.{Request}
use Rattle.grid_requests.specs.declared.request.Request.TheVariants as requests
use Rattle.grid_json.specs.declared.format.Format.{Format}
use Rattle.grid_json.specs.declared.format.Format.TheVariants.{One, Two, Three, Four}
use Rattle.grid_json.specs.Formats.{number_of}
use Rattle.grid_print.specs.Formats.{item_format, stand_format, level_needs, network_needs, edit_format, first_format, needs, least_format, IsWrittenIn}
use Rattle.grid_reading_back.specs.Requests.{IsKnownIn}

-- ---- no command and no injection came with the fifth format

item_fifth : (item : Injection) → nat_le 5 (item_format item) ≡ false
unfolding item_format
item_fifth (injections.Load p0 q0) = refl
item_fifth other = refl

edit_fifth : (edit : Edit) → nat_le 5 (edit_format edit) ≡ false
unfolding edit_format
edit_fifth (edits.AddInjection id level node item) = item_fifth item
edit_fifth other = refl

-- each command is known in the fourth format
pub known_in_fourth : (request : Request) → IsKnownIn Four request
unfolding first_format
known_in_fourth (requests.Change edit) = edit_fifth edit
known_in_fourth other = refl

stand_fifth : (stand : Stand) → nat_le 5 (stand_format stand) ≡ false
unfolding stand_format
stand_fifth Busbar = refl
stand_fifth (Feeder item) = item_fifth item
stand_fifth BranchEnd = refl

none_of : {A : Type 0} (p : A → Bool) → ((x : A) → p x ≡ false) → (xs : List A) → list_any p xs ≡ false
none_of p none [] = refl
none_of p none (x ∷ xs) = rw (none x, none_of p none xs) refl

fourth_has_networks : (net : Network) → IsWrittenIn Four net
unfolding network_needs level_needs
fourth_has_networks net = none_of (level_needs 5) (λ l. none_of (λ (p : Placed). nat_le 5 (stand_format p.stand)) (λ p. stand_fifth p.stand) l.placed) (levels net)

fourth_has_scripts : (scripts : List (List Request)) → list_any (needs 5) scripts ≡ false
unfolding needs
fourth_has_scripts scripts = none_of (needs 5) (λ script. none_of (λ request. nat_le 5 (first_format request)) known_in_fourth script) scripts

-- ---- networks have words of the first and of the fourth format alone

item_second : (item : Injection) → nat_le 2 (item_format item) ≡ nat_le 4 (item_format item)
unfolding item_format
item_second (injections.Load p0 q0) = refl
item_second other = refl

item_third : (item : Injection) → nat_le 3 (item_format item) ≡ nat_le 4 (item_format item)
unfolding item_format
item_third (injections.Load p0 q0) = refl
item_third other = refl

stand_second : (stand : Stand) → nat_le 2 (stand_format stand) ≡ nat_le 4 (stand_format stand)
unfolding stand_format
stand_second Busbar = refl
stand_second (Feeder item) = item_second item
stand_second BranchEnd = refl

stand_third : (stand : Stand) → nat_le 3 (stand_format stand) ≡ nat_le 4 (stand_format stand)
unfolding stand_format
stand_third Busbar = refl
stand_third (Feeder item) = item_third item
stand_third BranchEnd = refl

network_alike : (k : ℕ) → ((stand : Stand) → nat_le k (stand_format stand) ≡ nat_le 4 (stand_format stand)) → (net : Network) → network_needs k net ≡ network_needs 4 net
unfolding network_needs level_needs
network_alike k alike net = any_alike (level_needs k) (level_needs 4) (levels net)
    (λ l. any_alike (λ (p : Placed). nat_le k (stand_format p.stand)) (λ (p : Placed). nat_le 4 (stand_format p.stand)) l.placed (λ p. alike p.stand))

-- ---- the least format

-- the least format is this one, which has all words of the network and of the scripts
pub record HasAllWords (net : Network) (scripts : List (List Request)) (format : Format) : Type 0 where
  pub is : least_format net scripts ≡ number_of format
  pub network : IsWrittenIn format net
  pub known : list_any (needs (suc (number_of format))) scripts ≡ false

pub least_has_all : (net : Network) (scripts : List (List Request)) → (format : Format) × HasAllWords net scripts format
unfolding least_format
least_has_all net scripts = by_fourth (network_needs 4 net || list_any (needs 4) scripts) refl
  where
    by_second : network_needs 4 net ≡ false → list_any (needs 4) scripts ≡ false → list_any (needs 3) scripts ≡ false → (b : Bool) → list_any (needs 2) scripts ≡ b → (format : Format) × HasAllWords net scripts format
    by_second none4 no4 no3 true is = (Two, record { is = rw (none4, no4, no3, is) refl; network = network_alike 3 stand_third net ∙ none4; known = no3 })
    by_second none4 no4 no3 false is = (One, record { is = rw (none4, no4, no3, is) refl; network = network_alike 2 stand_second net ∙ none4; known = is })

    by_third : network_needs 4 net ≡ false → list_any (needs 4) scripts ≡ false → (b : Bool) → list_any (needs 3) scripts ≡ b → (format : Format) × HasAllWords net scripts format
    by_third none4 no4 true is = (Three, record { is = rw (none4, no4, is) refl; network = none4; known = no4 })
    by_third none4 no4 false is = by_second none4 no4 is (list_any (needs 2) scripts) refl

    by_fourth : (b : Bool) → (network_needs 4 net || list_any (needs 4) scripts) ≡ b → (format : Format) × HasAllWords net scripts format
    by_fourth true is = (Four, record { is = rw is refl; network = fourth_has_networks net; known = fourth_has_scripts scripts })
    by_fourth false is =
        let parts = not_either (network_needs 4 net) (list_any (needs 4) scripts) is in
        by_third parts.0 parts.1 (list_any (needs 3) scripts) refl
