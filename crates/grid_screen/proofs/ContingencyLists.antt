-- A list of contingencies is cut anywhere, and one without a fault is an outage.
use Rattle.std.proofs.Common.{◌≡◌, refl, sym, ap, ◌∙◌, Bool, not, List, [], ◌++◌, length, append_assoc, append-nil, Option, Some, None}
use Rattle.std.specs.Prelude.{filter, flat_map}
use Rattle.std.specs.Option.{option_map}
use Rattle.std.proofs.lemmas.List.{length-append}
use Rattle.std.proofs.lemmas.List.Elements.{filter-append}
use Rattle.std.proofs.lemmas.Grind.{flat_map-append}
use Rattle.grid_contingencies.specs.declared.Contingency.{Contingency}
use Rattle.grid_contingencies.specs.Made.{made, distinct}
use Rattle.grid_screen.specs.declared.Finding.{Finding}
use Rattle.grid_screen.specs.declared.Finding.TheVariants.{UnknownId}
use Rattle.grid_screen.specs.Bodies.{is_told, told_line, body_text, left_out}
use Rattle.grid_screen.specs.FindingLaws.{TwoLists, OldFindings}
use Rattle.grid_screen.specs.Faults.{before_fault}
use Rattle.grid_screen.specs.Findings.{figures_of}
use Rattle.grid_screen.specs.Found.{first_of, first_amiss, first_no_breaker, effect_of, effect_in, amiss_or, found_of, finding_of}
use Rattle.grid_screen.specs.Outages.{first_unknown, state_without}

-- ---- two lists

module _ {X : Type 0} (test : X → Bool) (xs ys : List X) where
  filtered_twice : filter test (xs ++ ys) ≡ filter test (xs ++ []) ++ filter test ys
  filtered_twice = filter-append test xs ys ∙ ap (λ z. filter test z ++ filter test ys) (sym (append-nil xs))

pub two_lists : TwoLists
unfolding body_text left_out made distinct
two_lists format only state first second each =
    let rest = second ++ made state.structure each in
    let same = append_assoc first second (made state.structure each) in
    let keep = is_told only state in
    let drop = λ (c : Contingency). not (is_told only state c) in (
      ap (flat_map (told_line format state)) (ap (filter keep) same ∙ filtered_twice keep first rest) ∙ flat_map-append (told_line format state) (filter keep (first ++ [])) (filter keep rest),
      ap length (ap (filter drop) same ∙ filtered_twice drop first rest) ∙ length-append (filter drop (first ++ [])) (filter drop rest),
    )

-- ---- without a fault

none_later : (finding : Option Finding) → first_of finding None ≡ finding
none_later (Some finding) = refl
none_later None = refl

pub old_findings : OldFindings
unfolding finding_of found_of effect_in before_fault first_amiss first_unknown first_no_breaker
old_findings state name out = ap (amiss_or (effect_of (figures_of state) (figures_of (state_without state out)) None)) (none_later (option_map UnknownId (first_unknown state.structure out)))
