use Rattle.std.proofs.Common.{◌≡◌, sym, ap, ◌∙◌, ℕ, ◌<◌, Bool, true, false, cond, length, length-set, get_or, inl, inr, arith}
use Rattle.std.proofs.lemmas.Bool.{cases_lt}
use Rattle.std.proofs.Math.ListN.{get_or-eq_default}
use Rattle.std.proofs.lemmas.List.{get_or_default}
use Rattle.grid_islands.specs.Rejoining.{is_marked}
use Rattle.grid_islands.proofs.ApartLabels.{upto_written, behind_written, upto_left, label_le, mark_read, no_mark}
use Rattle.grid_islands.proofs.rejoining.set_apart.Goals as goal
use Rattle.grid_islands.proofs.rejoining.set_apart.Goals.{then-marked, else-marked, After-index}

inside : (c : After-index) → c.loop-bus.bus < length c.args.labels.now.items
inside c = omega (arith, c.loop-bus-test.true, c.len-count.ensures, c.args.labels.now.ok)

-- the label that is read
label_is : (c : After-index) → c.index.result.now ≡ get_or c.args.labels.now.items c.loop-bus.bus 0
label_is c =
    let bus = c.loop-bus.bus in
    c.index.ensures ∙ get_or_default c.loop-bus.labels.items bus c.index.result.now 0 (omega (arith, inside c, c.loop-bus.invariant.long)) ∙ c.loop-bus.invariant.left bus (omega arith)

label_inside : (c : After-index) → c.index.result.now < length c.loop-bus.marks.items
label_inside c =
    let labels = c.args.labels.now.items in
    omega (arith, label_is c, inside c, label_le c.requires.labels.0 labels c.args.marks.now.items c.requires.labels.1 c.loop-bus.bus (inside c), c.loop-bus.invariant.marks_long)

pub index-marked-requires : goal.index-marked-requires
index-marked-requires c = omega (arith, label_inside (goal.at.index-marked-requires c).After-index, c.loop-bus.marks.ok)

pub loop-bus-preserved : goal.loop-bus-preserved
loop-bus-preserved c =
    let at = (goal.at.loop-bus-preserved c).After-index in
    let net = c.requires.labels.0 in
    let labels = c.args.labels.now.items in
    let marks = c.args.marks.now.items in
    let now = c.loop-bus.labels.items in
    let bus = c.loop-bus.bus in
    let i = c.loop-bus.invariant in
    let m : ℕ → Bool = is_marked labels marks in
    let apart : ℕ → ℕ = λ x. cond (m x) x (get_or labels x 0) in
    let here : bus < length now = omega (arith, inside at, i.long) in
    let mark : c.index-marked.result.now ≡ m bus =
    c.index-marked.ensures ∙ get_or_default c.loop-bus.marks.items c.index.result.now c.index-marked.result.now false (label_inside at) ∙ ap (λ z. get_or c.loop-bus.marks.items z false) (label_is at)
    ∙ mark_read net labels marks c.requires.labels.1 c.loop-bus.marks.items bus (inside at) i.marked i.unmarked in
    let marks_here : bus < length c.loop-bus.marks.items = omega (arith, inside at, i.marks_long) in
    let marks_long = length-set c.loop-bus.marks.items bus c.index-marked.result.now ∙ i.marks_long in
    let marked = upto_written c.loop-bus.marks.items bus c.index-marked.result.now false m marks_here mark i.marked in
    let unmarked = behind_written c.loop-bus.marks.items bus c.index-marked.result.now false (λ x. get_or marks x false) i.unmarked in
    elim c.if-marked.branch [
      | then-marked w ↦
          (let on : m bus ≡ true = sym mark ∙ w.if-marked.true in
          rw w.labels-is (record {
            long = length-set now bus bus ∙ i.long;
            marks_long = marks_long;
            apart = upto_written now bus bus 0 apart here (sym (ap (λ t. cond t bus (get_or labels bus 0)) on)) i.apart;
            marked = marked;
            left = behind_written now bus bus 0 (λ x. get_or labels x 0) i.left;
            unmarked = unmarked;
          }))
      | else-marked w ↦
          (let off : m bus ≡ false = sym mark ∙ w.if-marked.false in
          rw w.labels-is (record {
            long = i.long;
            marks_long = marks_long;
            apart = upto_left now bus 0 apart (i.left bus (omega arith) ∙ sym (ap (λ t. cond t bus (get_or labels bus 0)) off)) i.apart;
            marked = marked;
            left = λ x le. i.left x (omega (arith, le));
            unmarked = unmarked;
          }))
    ]

pub returns-clause-marks : goal.returns-clause-marks
returns-clause-marks c bus =
    let labels = c.args.labels.now.items in
    let marks = c.args.marks.now.items in
    let now = c.loop-bus.marks.items in
    elim (cases_lt bus (length labels)) [
      | inl lt ↦ c.loop-bus.invariant.marked bus (omega (arith, lt, c.loop-bus-test.false, c.len-count.ensures, c.args.labels.now.ok))
      | inr le ↦ get_or-eq_default now false (omega (arith, le, c.loop-bus.invariant.marks_long)) ∙ sym (no_mark labels marks bus le)
    ]
