use Rattle.std.proofs.Common.{refl}
use Rattle.grid_print.specs.Objects.{members_from}
use Rattle.grid_print.proofs.command.put_switch.Goals as goal

pub returns-in_ok-put-5 : goal.returns-in_ok-put-5
unfolding members_from
returns-in_ok-put-5 c =
    rw (
      c.in-AddSwitch.is,
      c.in_ok-put-5.ensures.value,
      c.in_ok-put-4.ensures.value,
      c.in_ok-put-3.ensures.value,
      c.in_ok-put-2.ensures.value,
      c.in_ok-put.ensures.value,
      c.in_ok-put_value.ensures,
      c.in_ok-word.ensures,
      c.word_of.ensures,
    ) refl
