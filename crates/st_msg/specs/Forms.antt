-- What is read of a value, as a message.
use Rattle.serde_json.specs.View.{view}
use Rattle.st_msg.specs.Messages.{SaidView, Join, Leave, Ack, Commit, MessageView}
use Rattle.st_msg.specs.declared.form.Form.{Form}
use Rattle.st_msg.specs.declared.form.Said.{Said}
use Rattle.st_msg.specs.declared.form.Said.TheVariants as said

abbrev pub said_view : Said → SaidView
said_view (said.Join uuid) = Join uuid
said_view said.Leave = Leave
said_view (said.Ack reference) = Ack reference
said_view (said.Commit reference ids change) = Commit reference ids (view change.now)

abbrev pub form_view : Form → MessageView
form_view f = record { n = f.n; min = f.min; session = f.session; said = said_view f.said }
