use Rattle.std.proofs.Common.{◌≡◌, ◌∷◌, ◌++◌, decimal}
use Rattle.std.specs.List.{flat_map}
use Rattle.std.specs.Slice.Iter.{chunks_rest, chunks_size}
use Rattle.grid_report.proofs.text.put_numbers.Given as goal

-- the numbers that are left make the text whole
abbrev pub invariant-loop-few : goal.invariant-loop-few
invariant-loop-few l = record {
  can_next : goal.iterator-loop-few.can_next l.few-iterator;
  finite : goal.iterator-loop-few.is_finite l.few-iterator;
  size : chunks_size l.few-iterator ≡ 16;
  text : l.out ++ flat_map (λ n. l.fn.separator ∷ decimal n) (chunks_rest l.few-iterator) ≡ l.fn.out ++ flat_map (λ n. l.fn.separator ∷ decimal n) l.fn.numbers;
}
