use Rattle.std.proofs.Common.{sym, ap, ◌∙◌, map, length, get_or, arith}
use Rattle.grid_busview.specs.Labelled.{nothing, led_place}
use Rattle.grid_busview.proofs.leading.led_by.Goals as goal

pub count_labels-requires-clause-below : goal.count_labels-requires-clause-below
count_labels-requires-clause-below c k lt = let r = c.requires.rooted k lt in omega (arith, r.0, lt)

pub returns : goal.returns
returns c =
    let labels = c.args.labels.now in
    let same = c.from_vec.ensures in
    record {
      long = c.requires.long;
      rooted = c.requires.rooted;
      many = ap length same ∙ c.in_ok-counts.ensures.long;
      counts = λ k lt. ap (λ z. get_or z k nothing) same ∙ c.in_ok-counts.ensures.each k lt;
      places = c.in_ok-places.ensures ∙ ap (λ z. map (led_place labels z) labels) (c.deref.ensures.value ∙ sym same);
    }
