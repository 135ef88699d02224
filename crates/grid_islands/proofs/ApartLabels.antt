-- Marked buses that are set apart, one after the other.
use Rattle.std.proofs.Common.{◌≡◌, sym, ap, ◌∙◌, ℕ, ◌+◌, ◌<◌, ◌≤◌, Bool, false, List, length, set, get_or, get_or-set_same, get_or-set_other, inl, inr, arith}
use Rattle.std.proofs.lemmas.Bool.{cases_eq}
use Rattle.std.proofs.lemmas.Option.{slice_get-get_or, slice_get_past}
use Rattle.grid_graph.specs.Graph.{Graph}
use Rattle.grid_graph.proofs.Below.{pairs_below}
use Rattle.grid_graph.proofs.Labels.{labels_long, label_at}
use Rattle.grid_graph.proofs.Least.{least_le, leads_itself}
use Rattle.grid_queue.specs.Parents.{AreLabelsOf}
use Rattle.grid_islands.specs.Rejoining.{mark_of, is_marked}

-- ---- one item written

module _ {A : Type 0} (xs : List A) (at : ℕ) (v d : A) where
  pub upto_written : (f : ℕ → A) → at < length xs → v ≡ f at → ((x : ℕ) → x < at → get_or xs x d ≡ f x) → (x : ℕ) → x < at + 1 → get_or (set xs at v) x d ≡ f x
  upto_written f inside is before x lt = elim (cases_eq x at) [
    | inl e ↦ ap (λ z. get_or (set xs at v) z d) e ∙ get_or-set_same xs at v d inside ∙ is ∙ ap f (sym e)
    | inr ne ↦ get_or-set_other xs at x v d ne ∙ before x (omega (arith, lt, ne))
  ]

  pub behind_written : (f : ℕ → A) → ((x : ℕ) → at ≤ x → get_or xs x d ≡ f x) → (x : ℕ) → at + 1 ≤ x → get_or (set xs at v) x d ≡ f x
  behind_written f behind x le = get_or-set_other xs at x v d (λ e. omega (arith, le, e)) ∙ behind x (omega (arith, le))

pub upto_left : {A : Type 0} (xs : List A) (at : ℕ) (d : A) (f : ℕ → A) → get_or xs at d ≡ f at → ((x : ℕ) → x < at → get_or xs x d ≡ f x) → (x : ℕ) → x < at + 1 → get_or xs x d ≡ f x
upto_left xs at d f is before x lt = elim (cases_eq x at) [
  | inl e ↦ ap (λ z. get_or xs z d) e ∙ is ∙ ap f (sym e)
  | inr ne ↦ before x (omega (arith, lt, ne))
]

-- ---- the mark of a bus's label

module _ (net : Graph) (labels : List ℕ) (marks : List Bool) (is : AreLabelsOf net labels) where
  long : length labels ≡ net.nodes
  long = labels_long net labels is.least

  pub label_le : (x : ℕ) → x < length labels → get_or labels x 0 ≤ x
  label_le x lt =
      let less : x < net.nodes = rw (← long) lt in
      omega (arith, label_at net labels x is.least less, least_le net x (pairs_below net.nodes net.pairs is.ends) less)

  own_label : (x : ℕ) → x < length labels → get_or labels (get_or labels x 0) 0 ≡ get_or labels x 0
  own_label x lt =
      let less : x < net.nodes = rw (← long) lt in
      label_at net labels (get_or labels x 0) is.least (omega (arith, label_le x lt, less)) ∙ leads_itself net x (get_or labels x 0) (pairs_below net.nodes net.pairs is.ends) less (sym (label_at net labels x is.least less))

  mark_there : (x : ℕ) → x < length labels → is_marked labels marks x ≡ get_or marks (get_or labels x 0) false
  unfolding is_marked mark_of
  mark_there x lt = ap (mark_of marks) (slice_get-get_or labels x 0 lt)

  -- it is read where the buses before have theirs, and the others what they had
  pub mark_read : (now : List Bool) (bus : ℕ) → bus < length labels → ((x : ℕ) → x < bus → get_or now x false ≡ is_marked labels marks x) → ((x : ℕ) → bus ≤ x → get_or now x false ≡ get_or marks x false)
      → get_or now (get_or labels bus 0) false ≡ is_marked labels marks bus
  mark_read now bus lt before behind =
      let label : ℕ = get_or labels bus 0 in
      elim (cases_eq label bus) [
        | inl e ↦ behind label (omega (arith, e)) ∙ sym (mark_there bus lt)
        | inr ne ↦ (let less : label < bus = omega (arith, ne, label_le bus lt) in
            before label less ∙ mark_there label (omega (arith, less, lt)) ∙ ap (λ z. get_or marks z false) (own_label bus lt) ∙ sym (mark_there bus lt))
      ]

-- none has a mark where there is no bus
pub no_mark : (labels : List ℕ) (marks : List Bool) (x : ℕ) → length labels ≤ x → is_marked labels marks x ≡ false
unfolding is_marked mark_of
no_mark labels marks x le = ap (mark_of marks) (slice_get_past labels x le)
