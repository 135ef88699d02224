-- Two groups of slots that are filled as one.
use Rattle.std.proofs.Common.{◌≡◌, ℕ, List, ◌++◌, true, false, refl, sym, ap₂, ◌∙◌}
use Rattle.json.specs.Token.{Token}
use Rattle.serde_json.specs.Data.{Data, Members, put}
use Rattle.grid_json.specs.declared.tokens.Both.{Both}
use Rattle.grid_json.specs.declared.tokens.Offer.{Offer}
use Rattle.grid_json.specs.declared.tokens.Offer.TheVariants.{Taken, Unknown, Fault as Refused}
use Rattle.grid_json.specs.Reading.{knows}
use Rattle.grid_json.specs.Kept.{either_known, only_first}
use Rattle.grid_json.specs.Streams.{Offered, disjoint}

module _ {A B : Type 0} (names others : List (List ℕ)) (first : A → Members → Type 0)
    (second : B → Members → Type 0) where
  abbrev pub BothHold : Both A B → Members → Type 0
  BothHold both found = first both.first found × second both.second found

  -- a member of the first group leaves the second as it is
  pub first_taken : (name : List ℕ) (depth : ℕ) (old new : List Token) (before after : Both A B)
      → ((d : Data) (found : Members) → knows others name ≡ false → second before.second found
      → second before.second (put name d found))
      → disjoint names others ≡ true → before.second ≡ after.second
      → Offered names first name depth old new before.first after.first Taken
      → Offered (names ++ others) BothHold name depth old new before after Taken
  first_taken name depth old new before after keeps apart same (is, (d, next, takes), shorter) = (
    either_known names others name true (knows others name) is refl,
    (
      d,
      next,
      λ found held. (
        takes found held.0,
        rw (sym same) (keeps d found (only_first names others name apart is) held.1),
      ),
    ),
    shorter,
  )

  -- what came of a member that the first group does not know is what came of it at the second
  pub second_offered : (name : List ℕ) (depth : ℕ) (old middle new : List Token) (before after : Both A B)
      (went : Offer)
      → ((d : Data) (found : Members) → knows names name ≡ false → first before.first found
      → first before.first (put name d found))
      → Offered names first name depth old middle before.first after.first Unknown
      → Offered others second name depth middle new before.second after.second went
      → Offered (names ++ others) BothHold name depth old new before after went
  second_offered name depth old middle new before after Taken keeps (none, front, same) (is, (d, next, takes), shorter) = (
    either_known names others name false true none is,
    (d, rw (sym front) next, λ found held. (rw same (keeps d found none held.0), takes found held.1)),
    rw (sym front) shorter,
  )
  second_offered name depth old middle new before after Unknown keeps (none, front, same) (is, back, equal) = (
    either_known names others name false false none is,
    back ∙ front,
    ap₂ (λ f s. record { first = f; second = s }) same equal,
  )
  second_offered name depth old middle new before after Refused keeps unknown offer = tt
