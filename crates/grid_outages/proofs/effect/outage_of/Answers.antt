use Rattle.std.proofs.Common.{◌≡◌, sym, ap, ◌∙◌, subst, ℕ, List}
use Rattle.std.specs.Prelude.{flat_map, map}
use Rattle.grid_sparse.specs.Options.{present}
use Rattle.grid_figures.specs.Outages.{LinkAt, OutageFits}
use Rattle.grid_figures.specs.declared.outage.ChangedSums.{ChangedSums}
use Rattle.grid_figures.specs.declared.outage.Outage.{Outage}
use Rattle.grid_outages.specs.Effects.{IsEffect}
use Rattle.grid_outages.specs.Parts.{row_of, own_at, changed_part}
use Rattle.grid_outages.proofs.Effects.{fits, effect}
use Rattle.grid_outages.proofs.effect.outage_of.Goals as goal

abbrev build : List ChangedSums → List ℕ → List LinkAt → Outage
build levels gone own = record { levels = levels; gone = gone; own = own }

same : (a x : List ChangedSums) (b y : List ℕ) (c z : List LinkAt) → a ≡ x → b ≡ y → c ≡ z → build a b c ≡ build x y z
same a x b y c z e f g = ap (λ w. build w b c) e ∙ ap (λ w. build x w c) f ∙ ap (build x y) g

pub returns-clause-fits : goal.returns-clause-fits
returns-clause-fits c =
    let kept = c.args.kept.now in
    let changes = c.args.changes.now in
    subst (OutageFits kept.sums kept.joined) (sym (same _ (map changed_part (present changes)) _ (flat_map (row_of kept.joined_ends) (present changes)) _ (flat_map (own_at kept.links kept.ends changes) (present changes))
    c.in_ok-list_changed.ensures (c.in_ok-list_gone.ensures ∙ ap (λ z. flat_map (row_of z) (present changes)) c.slice.ensures) c.in_ok-list_own.ensures)) (fits kept changes c.requires.kept c.requires.changes)

pub returns-clause-effect : goal.returns-clause-effect
returns-clause-effect c =
    let kept = c.args.kept.now in
    let changes = c.args.changes.now in
    subst (IsEffect kept changes) (sym (same _ (map changed_part (present changes)) _ (flat_map (row_of kept.joined_ends) (present changes)) _ (flat_map (own_at kept.links kept.ends changes) (present changes))
    c.in_ok-list_changed.ensures (c.in_ok-list_gone.ensures ∙ ap (λ z. flat_map (row_of z) (present changes)) c.slice.ensures) c.in_ok-list_own.ensures)) (effect kept changes c.requires.kept c.requires.changes)
