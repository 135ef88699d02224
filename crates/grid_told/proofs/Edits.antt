-- The values of edits are readable.
use Rattle.std.proofs.Common.{◌≡◌, ℕ, ℤ, List, [], ◌∷◌, ◌++◌, true, Option, Some, None, refl}
use Rattle.std.specs.Prelude.{IsUtf8, IfSome, codes}
use Rattle.std.specs.List.{AllByRecursion}
use Rattle.serde_json.specs.Data.{string}
use Rattle.grid_kinds.specs.declared.SwitchKind.{SwitchKind}
use Rattle.grid_kinds.specs.declared.SwitchKind.TheVariants.{Breaker, Disconnector, LoadBreakSwitch}
use Rattle.grid_kinds.specs.declared.Injection.{Injection}
use Rattle.grid_kinds.specs.declared.Injection.TheVariants.{Load, Generator, Battery, ShuntCompensator, StaticVarCompensator, ConverterStation}
use Rattle.grid_structure.specs.declared.End.{End}
use Rattle.grid_structure.specs.declared.Branch.{Branch}
use Rattle.grid_structure.specs.declared.Branch.TheVariants.{Line, TwoWindings, ThreeWindings}
use Rattle.grid_structure.specs.declared.Edit.{Edit}
use Rattle.grid_structure.specs.declared.Edit.TheVariants as edits
use Rattle.grid_requests.specs.RequestParts.{shape_ids, edit_ids, given_number, item_numbers, shape_numbers, edit_numbers}
use Rattle.grid_print.specs.Objects.{array_of, whole, given}
use Rattle.grid_print.specs.Network.{switch_word, end_value}
use Rattle.grid_print.specs.Command.{add_branch_value, edit_value}
use Rattle.grid_told.specs.Held.{IsSigned}
use Rattle.grid_told.specs.Shapes.{IsReadable}
use Rattle.grid_told.proofs.Readable.{named, fields_readable, word_readable, text_readable, flag_readable, whole_readable, given_readable, array_readable, object_readable}

abbrev IsEnd : End → Type 0
IsEnd e = IsUtf8 e.level × IsSigned e.node

end_readable : (e : End) → IsEnd e → IsReadable 1 (end_value e)
unfolding end_value
end_readable e h = object_readable 0 _ refl (text_readable 0 e.level h.0, (whole_readable 0 e.node h.1, tt))

ends_readable : (ends : List End) → AllByRecursion IsEnd ends → IsReadable 2 (array_of end_value ends)
ends_readable = array_readable IsEnd 1 end_value end_readable

rated_readable : (rated : List ℤ) → AllByRecursion IsSigned rated → IsReadable 2 (array_of whole rated)
rated_readable = array_readable IsSigned 1 whole (whole_readable 1)

branch_readable : (id : List ℕ) → IsUtf8 id → (shape : Branch) → AllByRecursion IsUtf8 (shape_ids shape) → AllByRecursion IsSigned (shape_numbers shape) → IsReadable 3 (add_branch_value id shape)
unfolding add_branch_value
branch_readable id known (Line end1 end2) ids numbers =
    object_readable 2 _ refl (word_readable 2 _ refl, (word_readable 2 _ refl, (text_readable 2 id known, (ends_readable (end1 ∷ end2 ∷ []) ((ids.0, numbers.0), ((ids.1.0, numbers.1.0), tt)), tt))))
branch_readable id known (TwoWindings substation end1 end2 rated_u1 rated_u2) ids numbers = object_readable 2 _ refl (
  word_readable 2 _ refl,
  (
    word_readable 2 _ refl,
    (
      text_readable 2 id known,
      (ends_readable (end1 ∷ end2 ∷ []) ((ids.1.0, numbers.0), ((ids.1.1.0, numbers.1.0), tt)), (text_readable 2 substation ids.0, (rated_readable (rated_u1 ∷ rated_u2 ∷ []) numbers.1.1, tt))),
    ),
  ),
)
branch_readable id known (ThreeWindings substation end1 end2 end3 rated_u1 rated_u2 rated_u3) ids numbers = object_readable 2 _ refl (
  word_readable 2 _ refl,
  (
    word_readable 2 _ refl,
    (
      text_readable 2 id known,
      (
        ends_readable (end1 ∷ end2 ∷ end3 ∷ []) ((ids.1.0, numbers.0), ((ids.1.1.0, numbers.1.0), ((ids.1.1.1.0, numbers.1.1.0), tt))),
        (text_readable 2 substation ids.0, (rated_readable (rated_u1 ∷ rated_u2 ∷ rated_u3 ∷ []) numbers.1.1.1, tt)),
      ),
    ),
  ),
)

injection_readable : (id level : List ℕ) (node : ℤ) (item : Injection) → IsUtf8 id → IsUtf8 level → IsSigned node → AllByRecursion IsSigned (item_numbers item) → IsReadable 3 (edit_value (edits.AddInjection id level node item))
unfolding edit_value
injection_readable id level node (Load p0 q0) h k l m = object_readable 2 _ refl (
  word_readable 2 _ refl,
  (word_readable 2 _ refl, (text_readable 2 id h, (text_readable 2 level k, (whole_readable 2 node l, (whole_readable 2 p0 m.0, (whole_readable 2 q0 m.1.0, tt)))))),
)
injection_readable id level node (Generator target_p target_v min_p max_p) h k l m = object_readable 2 _ refl (
  word_readable 2 _ refl,
  (
    word_readable 2 _ refl,
    (
      text_readable 2 id h,
      (
        text_readable 2 level k,
        (whole_readable 2 node l, (whole_readable 2 target_p m.0, (whole_readable 2 target_v m.1.0, (whole_readable 2 min_p m.1.1.0, (whole_readable 2 max_p m.1.1.1.0, tt))))),
      ),
    ),
  ),
)
injection_readable id level node (Battery target_p target_q min_p max_p) h k l m = object_readable 2 _ refl (
  word_readable 2 _ refl,
  (
    word_readable 2 _ refl,
    (
      text_readable 2 id h,
      (
        text_readable 2 level k,
        (whole_readable 2 node l, (whole_readable 2 target_p m.0, (whole_readable 2 target_q m.1.0, (whole_readable 2 min_p m.1.1.0, (whole_readable 2 max_p m.1.1.1.0, tt))))),
      ),
    ),
  ),
)
injection_readable id level node (ShuntCompensator section_count max_sections) h k l m = object_readable 2 _ refl (
  word_readable 2 _ refl,
  (
    word_readable 2 _ refl,
    (text_readable 2 id h, (text_readable 2 level k, (whole_readable 2 node l, (whole_readable 2 section_count m.0, (whole_readable 2 max_sections m.1.0, tt))))),
  ),
)
injection_readable id level node (StaticVarCompensator target_q) h k l m = object_readable 2 _ refl (
  word_readable 2 _ refl,
  (word_readable 2 _ refl, (text_readable 2 id h, (text_readable 2 level k, (whole_readable 2 node l, (whole_readable 2 target_q m.0, tt))))),
)
injection_readable id level node (ConverterStation target_q) h k l m = object_readable 2 _ refl (
  word_readable 2 _ refl,
  (word_readable 2 _ refl, (text_readable 2 id h, (text_readable 2 level k, (whole_readable 2 node l, (whole_readable 2 target_q m.0, tt))))),
)

kind_readable : (kind : SwitchKind) → IsReadable 2 (string (switch_word kind))
kind_readable Breaker = word_readable 2 _ refl
kind_readable Disconnector = word_readable 2 _ refl
kind_readable LoadBreakSwitch = word_readable 2 _ refl

-- limits that are given fit
limits_signed : (low high : Option ℤ) → AllByRecursion IsSigned (given_number low ++ given_number high) → IfSome low IsSigned × IfSome high IsSigned
limits_signed None None h = (tt, tt)
limits_signed None (Some b) h = (tt, h.0)
limits_signed (Some a) None h = (h.0, tt)
limits_signed (Some a) (Some b) h = (h.0, h.1.0)

level_readable : (id substation : List ℕ) (nominal_v : ℤ) (low_v high_v : Option ℤ) → AllByRecursion IsUtf8 (id ∷ substation ∷ [])
    → AllByRecursion IsSigned (nominal_v ∷ (given_number low_v ++ given_number high_v)) → IsReadable 3 (edit_value (edits.AddLevel id substation nominal_v low_v high_v))
unfolding edit_value
level_readable id substation nominal_v low_v high_v ids numbers = object_readable 2 _ (by low_v high_v) (
  word_readable 2 _ refl,
  (
    text_readable 2 id ids.0,
    (
      text_readable 2 substation ids.1.0,
      (
        whole_readable 2 nominal_v numbers.0,
        fields_readable 2 _ _ (given_readable IsSigned 2 (codes "low_v") whole (whole_readable 2) low_v (limits_signed low_v high_v numbers.1).0) (given_readable IsSigned 2 (codes "high_v") whole (whole_readable 2) high_v (limits_signed low_v high_v numbers.1).1),
      ),
    ),
  ),
)
  where
    by : (low high : Option ℤ)
        → named ((codes "do", string (codes "add_level")) ∷ (codes "id", string id) ∷ (codes "substation", string substation) ∷ (codes "nominal_v", whole nominal_v)
        ∷ (given (codes "low_v") whole low ++ given (codes "high_v") whole high)) ≡ true
    by None None = refl
    by None (Some b) = refl
    by (Some a) None = refl
    by (Some a) (Some b) = refl

pub edit_readable : (e : Edit) → AllByRecursion IsUtf8 (edit_ids e) → AllByRecursion IsSigned (edit_numbers e) → IsReadable 3 (edit_value e)
unfolding edit_value
edit_readable (edits.AddSubstation id) ids numbers = object_readable 2 _ refl (word_readable 2 _ refl, (text_readable 2 id ids.0, tt))
edit_readable (edits.AddLevel id substation nominal_v low_v high_v) ids numbers = level_readable id substation nominal_v low_v high_v ids numbers
edit_readable (edits.AddBusbar id level node) ids numbers = object_readable 2 _ refl (word_readable 2 _ refl, (text_readable 2 id ids.0, (text_readable 2 level ids.1.0, (whole_readable 2 node numbers.0, tt))))
edit_readable (edits.AddSwitch id level kind node1 node2 opened retained fictitious) ids numbers = object_readable 2 _ refl (
  word_readable 2 _ refl,
  (
    text_readable 2 id ids.0,
    (
      text_readable 2 level ids.1.0,
      (
        kind_readable kind,
        (
          whole_readable 2 node1 numbers.0,
          (whole_readable 2 node2 numbers.1.0, (flag_readable 2 opened, (flag_readable 2 retained, (flag_readable 2 fictitious, tt)))),
        ),
      ),
    ),
  ),
)
edit_readable (edits.RemoveSwitch id) ids numbers = object_readable 2 _ refl (word_readable 2 _ refl, (text_readable 2 id ids.0, tt))
edit_readable (edits.AddInternal level node1 node2) ids numbers =
    object_readable 2 _ refl (word_readable 2 _ refl, (text_readable 2 level ids.0, (whole_readable 2 node1 numbers.0, (whole_readable 2 node2 numbers.1.0, tt))))
edit_readable (edits.RemoveInternal level node1 node2) ids numbers =
    object_readable 2 _ refl (word_readable 2 _ refl, (text_readable 2 level ids.0, (whole_readable 2 node1 numbers.0, (whole_readable 2 node2 numbers.1.0, tt))))
edit_readable (edits.AddInjection id level node item) ids numbers = injection_readable id level node item ids.0 ids.1.0 numbers.0 numbers.1
edit_readable (edits.AddBranch id shape) ids numbers = branch_readable id ids.0 shape ids.1 numbers
edit_readable (edits.RemoveEquipment id) ids numbers = object_readable 2 _ refl (word_readable 2 _ refl, (text_readable 2 id ids.0, tt))
