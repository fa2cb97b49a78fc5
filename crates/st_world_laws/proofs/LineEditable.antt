-- What each line of a client shows can be edited.
use Rattle.st_world_laws.proofs.Among.{line_transaction, line_fit, line_new}
use Rattle.std.proofs.Common.{IfSome, List, None, Option, Some, [], ap, refl, subst, sym, ℕ, ◌++◌, ◌∙◌, ◌∷◌, ◌≡◌}
use Rattle.std.specs.Option.{option_and_then}
use Rattle.st_lists.specs.Open.{with_open}
use Rattle.st_ids.specs.Listing.{Has}
use Rattle.st_ids.specs.Root.{opening}
use Rattle.st_lists.specs.Clients.{next_rev}
use Rattle.st_lists.specs.Lines.{Line, commits_of, line_of}
use Rattle.st_lists.specs.declared.lists.Client.{Client}
use Rattle.st_lists.specs.declared.lists.Entry.{Entry}
use Rattle.st_lists.specs.declared.lists.Transaction.{Transaction}
use Rattle.st_log_laws.specs.Names.{revisions}
use Rattle.st_marks.proofs.OneVerdict.{one_run}
use Rattle.st_marks.specs.Document.{Document}
use Rattle.st_script.specs.Header.{HeaderView}
use Rattle.st_world_laws.proofs.Begun.{IsStart}
use Rattle.st_world_laws.proofs.Clients.{head_sound, next_new, unused_cells, unused_nodes}
use Rattle.st_world_laws.proofs.Meant.{IsEditable}
use Rattle.st_world_laws.specs.Worlds.{IsClient, IsTransaction, LineFits}
use Rattle.st_world.specs.World.{HasShown, next_names, opening_document}

module _ (h : HeaderView) (st : IsStart (opening_document h)) (log : List Entry) (c : Client) (own : IsClient h log c) (j : ℕ) (l : Line) (at : line_of c j ≡ Some l) where
  -- what a line shows can be edited
  pub line_editable : (E : Document) → HasShown (opening_document h) log l E → IsEditable E (next_names c l.transaction)
  line_editable E shown = go l.transaction (line_transaction h st log c own j l at) shown.2
    where
      D : Document
      D = shown.0

      fit : LineFits h log l
      fit = line_fit h st log c own j l at

      fresh : Has (revisions (commits_of log l) ++ opening ∷ []) (next_rev c) → ⊥
      fresh = line_new h st log c own j l (next_rev c) at (next_new h st log c (next_rev c) own refl)

      go : (o : Option Transaction) → IfSome o (IsTransaction h log l c) → E ≡ with_open D (option_and_then (λ (t : Transaction). t.joined) o) → IsEditable E (next_names c o)
      go None i same = subst (λ F. IsEditable F (next_names c None)) (sym same) (record {
        sound = head_sound h st log l D fit shown.1;
        nodes = λ n low. unused_nodes h st log l D (next_rev c) fit shown.1 fresh n;
        cells = λ n low. unused_cells h st log l D (next_rev c) fit shown.1 fresh n;
      })
      go (Some t) i same =
          let here : with_open i.before t.joined ≡ E = ap (λ F. with_open F t.joined) (one_run i.main shown.1) ∙ sym same in
          subst (λ F. IsEditable F (next_names c (Some t))) here (record { sound = i.sound; nodes = i.nodes; cells = i.cells })
