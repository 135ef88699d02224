-- Which of the kinds of branch or edit a value is.
use Rattle.std.specs.Prelude.{Bool, true, false}
use Rattle.grid_structure.specs.declared.Branch.{Branch}
use Rattle.grid_structure.specs.declared.Branch.TheVariants.{ThreeWindings}
use Rattle.grid_structure.specs.declared.Edit.{Edit}
use Rattle.grid_structure.specs.declared.Edit.TheVariants.{AddLevel, AddSwitch, AddInternal, RemoveInternal, AddInjection}

abbrev pub has_three_windings : Branch → Bool
has_three_windings (ThreeWindings substation end1 end2 end3 rated_u1 rated_u2 rated_u3) = true
has_three_windings _ = false

abbrev pub adds_level : Edit → Bool
adds_level (AddLevel id substation nominal_v low_v high_v) = true
adds_level _ = false

abbrev pub adds_switch : Edit → Bool
adds_switch (AddSwitch id level kind node1 node2 opened retained fictitious) = true
adds_switch _ = false

abbrev pub changes_internal : Edit → Bool
changes_internal (AddInternal level node1 node2) = true
changes_internal (RemoveInternal level node1 node2) = true
changes_internal _ = false

abbrev pub adds_injection : Edit → Bool
adds_injection (AddInjection id level node item) = true
adds_injection _ = false
