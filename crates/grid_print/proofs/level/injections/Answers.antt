use Rattle.std.proofs.Common.{◌≡◌, ℕ, List, [], ◌∷◌, refl, sym, ap, ◌∙◌, length, map, arith, append-nil}
use Rattle.std.proofs.lemmas.Option.{slice_get_read}
use Rattle.serde_json.specs.View.{view}
use Rattle.grid_kinds.specs.declared.Injection.{Injection}
use Rattle.grid_level.specs.declared.Placed.{Placed}
use Rattle.grid_level.specs.declared.Stand.{Stand}
use Rattle.grid_level.specs.declared.Stand.TheVariants.{Busbar, Feeder, BranchEnd}
use Rattle.grid_print.specs.Network.{injection_of}
use Rattle.grid_print.specs.Readable.{IsReadableInjection}
use Rattle.grid_print.proofs.Each.{within_more}
use Rattle.grid_print.proofs.SubstationPlaces.{flat_mapped}
use Rattle.grid_print.proofs.level.injections.Goals as goal
use Rattle.grid_print.proofs.level.injections.Goals.{in-Feeder+in_ok-injection+in_ok-push, in_default}

-- what is no injection has none
skipped : (id : List ℕ) (node : ℕ) (stand : Stand) → ((item : Injection) → stand ≡ Feeder item → ⊥) → ([] ≡ injection_of id node stand) × IsReadableInjection id node stand
skipped id node Busbar other = (refl, tt)
skipped id node (Feeder item) other = absurd (other item refl)
skipped id node BranchEnd other = (refl, tt)

pub loop-at-preserved : goal.loop-at-preserved
loop-at-preserved c =
    let placed = c.args.placed.now in
    let n = c.loop-at.at-index in
    let at = c.at-item.result in
    let there = slice_get_read placed (length placed) n at refl (omega arith) c.at-item.is in
    let value_of = λ (p : Placed). injection_of p.terminal.equipment p.node p.stand in
    let here = c.loop-at.invariant in
    record {
      values = elim c.match-at.branch [
        | in-Feeder+in_ok-injection+in_ok-push w ↦ rw w.values-is
            (ap (map view) w.in_ok-push.ensures.items ∙ flat_mapped value_of placed n at c.loop-at.values.items (w.in_ok-injection.field-0 ∷ []) there here.values
            (ap (λ d. d ∷ []) w.in_ok-injection.ensures.value ∙ ap (injection_of at.terminal.equipment at.node) (sym w.in-Feeder.is)))
        | in_default w ↦ rw w.values-is
            (ap (map view) (sym (append-nil c.loop-at.values.items)) ∙ flat_mapped value_of placed n at c.loop-at.values.items [] there here.values (skipped at.terminal.equipment at.node at.stand w.in_default.not-Feeder).0)
      ];
      readable = within_more (λ p. IsReadableInjection p.terminal.equipment p.node p.stand) placed 0 n at there here.readable (elim c.match-at.branch [
        | in-Feeder+in_ok-injection+in_ok-push w ↦ rw w.in-Feeder.is w.in_ok-injection.ensures.readable
        | in_default w ↦ (skipped at.terminal.equipment at.node at.stand w.in_default.not-Feeder).1
      ]);
    }
