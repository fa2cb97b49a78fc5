-- What a step is that edits the tree which a client shows.
use Rattle.std.specs.Prelude.{◌≡◌, ℕ, true, Some, None}
use Rattle.st_edits.specs.InEffect.{schema_in_effect}
use Rattle.st_edits.specs.declared.names.NameCounters.{NameCounters}
use Rattle.st_lists.specs.Clients.{client_named}
use Rattle.st_lists.specs.Lines.{main_line}
use Rattle.st_lists.specs.declared.lists.Client.{Client}
use Rattle.st_lists.specs.declared.lists.WorldState.{WorldState}
use Rattle.st_marks.specs.Document.{Document}
use Rattle.st_schema.specs.Schema.{SchemaView}
use Rattle.st_script.specs.Header.{HeaderView}
use Rattle.st_script.specs.Steps.{EditView, StepView}
use Rattle.st_script.specs.Steps as step
use Rattle.st_world.specs.World.{HasShown, next_names, opening_document}

-- a step makes an edit on the main line of a client that is connected and has no transaction open there: the client received so
-- many entries, it shows a document with a schema in effect, and these are the names that the edit may give
pub record IsWriting (h : HeaderView) (w : WorldState) (s : StepView) (received : ℕ) (D : Document) (schema : SchemaView) (given : NameCounters) (e : EditView) : Type 0 where
  pub place : ℕ
  pub client : Client
  pub named : client_named s.client w.clients ≡ Some (place, client)
  pub act : s.act ≡ step.edit e
  pub main : s.branch ≡ 0
  pub connected : client.connected ≡ true
  pub none : client.transaction ≡ None
  pub reference : client.received ≡ received
  pub shown : HasShown (opening_document h) w.log (main_line client) D
  pub in_effect : schema ≡ schema_in_effect D
  pub names : given ≡ next_names client None
