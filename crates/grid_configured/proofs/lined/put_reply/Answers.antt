use Rattle.grid_configured.specs.Lines.{reply_value}
use Rattle.grid_configured.proofs.lined.put_reply.Goals as goal

pub returns-in-AlreadyConnected : goal.returns-in-AlreadyConnected
unfolding reply_value
returns-in-AlreadyConnected c = rw c.in-AlreadyConnected.is c.put_word-in-AlreadyConnected.ensures

pub returns-in-AlreadyDisconnected : goal.returns-in-AlreadyDisconnected
unfolding reply_value
returns-in-AlreadyDisconnected c = rw c.in-AlreadyDisconnected.is c.put_word-in-AlreadyDisconnected.ensures

pub returns-in-Overwritten : goal.returns-in-Overwritten
unfolding reply_value
returns-in-Overwritten c = rw c.in-Overwritten.is c.put_word-in-Overwritten.ensures
