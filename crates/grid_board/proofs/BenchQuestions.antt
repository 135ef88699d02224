-- A bench may be asked what a request asks.
use Rattle.std.proofs.Common.{◌≡◌, refl, sym, ap, ◌∙◌, subst, ℕ, ℤ, true, List, Option, Some, None}
use Rattle.std.specs.Prelude.{Result, Ok, Err, slice_get, option_map, IsTrue}
use Rattle.grid_lemmas.proofs.Options.{some_is}
use Rattle.grid_level.specs.VoltageLevel.{VoltageLevel}
use Rattle.grid_level.specs.Passing.{nodes}
use Rattle.grid_level.specs.Kept.{among, KeepsLimits}
use Rattle.grid_structure.specs.Network.{Network}
use Rattle.grid_structure.specs.Sites.{levels, find_level}
use Rattle.grid_bench.specs.declared.base.BaseLevel.{BaseLevel}
use Rattle.grid_bench.specs.declared.Task.{Task}
use Rattle.grid_bench.specs.declared.Task.TheVariants as tasks
use Rattle.grid_bench.specs.Answers.{IsTaskOf, names_node}
use Rattle.grid_requests.specs.declared.request.Request.{Request}
use Rattle.grid_requests.specs.declared.request.Request.TheVariants as requests
use Rattle.grid_core.specs.declared.reply.Refusal.{Refusal}
use Rattle.grid_core.specs.Solo.{State, site_of_side}
use Rattle.grid_core.proofs.EquipmentSides.{side_node}
use Rattle.grid_board.specs.declared.tasks.Question.{Question}
use Rattle.grid_board.specs.Questions.{part_with, part_of, base_of, about, asked_of, at_site}
use Rattle.grid_board.proofs.BaseLevels.{level_of_base}

module _ (net : Network) (asked : Question) (level : VoltageLevel) (there : slice_get (levels net) asked.level ≡ Some level) (keeps : KeepsLimits level) where
  at_side : (ask : ℕ → Task) (id : List ℕ) (side : ℤ) → ((node : ℕ) → names_node (ask node) level ≡ among (nodes level) node) → at_site ask (site_of_side net id side) ≡ Some asked → IsTrue (names_node asked.task level)
  unfolding at_site
  at_side ask id side looks h = by (site_of_side net id side) refl h
    where
      by : (o : Result (ℕ × ℕ) Refusal) → site_of_side net id side ≡ o → at_site ask o ≡ Some asked → IsTrue (names_node asked.task level)
      by (Ok at) e h =
          let same : about (ask at.1) at.0 ≡ asked = some_is (about (ask at.1) at.0) asked h in
          let here : slice_get (levels net) at.0 ≡ Some level = subst (λ (q : Question). slice_get (levels net) q.level ≡ Some level) (sym same) there in
          subst (λ (q : Question). names_node q.task level ≡ true) same (looks at.1 ∙ side_node net id side at.0 at.1 level e here keeps)
      by (Err refusal) e h = cc

  of_level : (task : Task) (o : Option ℕ) → names_node task level ≡ true → option_map (about task) o ≡ Some asked → IsTrue (names_node asked.task level)
  of_level task (Some place) looks h = subst (λ (q : Question). names_node q.task level ≡ true) (some_is (about task place) asked h) looks
  of_level task None looks h = cc

  names : (request : Request) → asked_of net request ≡ Some asked → IsTrue (names_node asked.task level)
  unfolding asked_of names_node
  names (requests.BusBreakerView id) h = of_level tasks.BusBreakerView (find_level net id) refl h
  names (requests.BusView id) h = of_level tasks.BusView (find_level net id) refl h
  names (requests.Connect id side) h = at_side tasks.Connect id side (λ node. refl) h
  names (requests.Disconnect id side) h = at_side tasks.Disconnect id side (λ node. refl) h
  names other h = cc

pub stands : (state : State) (request : Request) (asked : Question) (base : BaseLevel) (level : VoltageLevel) → slice_get (levels state.structure) asked.level ≡ Some level → KeepsLimits level
    → asked_of state.structure request ≡ Some asked → base_of state asked.level ≡ Some base → IsTaskOf base asked.task
unfolding part_of part_with
stands state request asked base level there keeps own based =
    let of = level_of_base state asked.level base based in
    let same : level ≡ base.level = some_is level of.0 (sym there ∙ of.1.0) ∙ ap (λ (b : BaseLevel). b.level) of.1.1 in
    subst (λ l. IsTrue (names_node asked.task l)) same (names state.structure asked level there keeps request own)
