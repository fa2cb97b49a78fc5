-- Names that an intent makes have its revision, and names of a document one under which it was made.
use Rattle.std.proofs.Common.{◌≡◌, List, sym, subst}
use Rattle.st_ids.specs.Listing.{Has}
use Rattle.st_ids.specs.declared.names.Atom.{Atom}
use Rattle.st_ids.specs.declared.names.Rev.{Rev}
use Rattle.st_marks.specs.declared.changes.NewNode.{NewNode}
use Rattle.st_marks.specs.declared.intents.Intent.{Intent}
use Rattle.st_marks.specs.declared.intents.Owned.{Owned}
use Rattle.st_marks.specs.Document.{Document}
use Rattle.st_marks.specs.Intent.{IsIntent, group_cells}
use Rattle.st_marks.proofs.Members.{all-has, has-all}
use Rattle.st_log_laws.specs.Names.{IsMadeUnder}
use Rattle.st_change_laws.specs.Within.{DocumentIsWithin, IntentIsWithin, NewIsWithin}

-- an atom of a kind is of another, where its revision is of a third
module _ (R : Rev → Type 0) (A B : Atom → Type 0) (wide : (a : Atom) → R a.rev → A a → B a) where
  pub intent_in_revision : (N : Intent) → IsIntent N → R N.rev → IntentIsWithin A N → IntentIsWithin B N
  intent_in_revision N w r i = record {
    new = has-all (NewIsWithin B) N.new (λ m h.
        let k = all-has (NewIsWithin A) N.new m i.new h in
        (wide m.node.0 (subst R (sym (all-has (λ (m : NewNode). m.node.0.rev ≡ N.rev) N.new m w.new_rev h)) r) k.0, k.1));
    cells = has-all (λ (o : Owned). B o.cell.0) (group_cells N) (λ o h. wide o.cell.0
        (subst R (sym (all-has (λ (o : Owned). o.cell.0.rev ≡ N.rev) (group_cells N) o w.cell_rev h)) r)
        (all-has (λ (o : Owned). A o.cell.0) (group_cells N) o i.cells h));
    puts = i.puts;
    clears = i.clears;
    schema = i.schema;
  }

  pub document_in_revisions : (rs : List Rev) (D : Document) → ((r : Rev) → Has rs r → R r) → IsMadeUnder rs D → DocumentIsWithin A D → DocumentIsWithin B D
  document_in_revisions rs D k m d = record {
    nodes = λ n h. wide n.0 (k n.0.rev (m.nodes n h)) (d.nodes n h);
    cells = λ n o h. wide o.cell.0 (k o.cell.0.rev (m.cells n o h)) (d.cells n o h);
    keys = d.keys;
  }
