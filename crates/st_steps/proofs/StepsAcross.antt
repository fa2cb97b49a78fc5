-- The step over a void commit, over documents alone.
use Rattle.std.proofs.Common.{◌≡◌, true, None, refl}
use Rattle.st_ids.specs.declared.names.NodeId.{NodeId}
use Rattle.st_marks.specs.declared.changes.Change.{Change}
use Rattle.st_marks.specs.declared.intents.Intent.{Intent}
use Rattle.st_marks.specs.declared.steps.Step.{Step}
use Rattle.st_marks.specs.CarryOut.{full, void}
use Rattle.st_marks.specs.Document.{Document, HasShortRows, content}
use Rattle.st_marks.specs.Embedding.{IsEmbedding}
use Rattle.st_marks.specs.Extends.{IsExtendedBy}
use Rattle.st_marks.specs.Intent.{Fits}
use Rattle.st_marks.specs.Listings.{nodes_new}
use Rattle.st_marks.specs.Step.{IsStep}
use Rattle.st_rows.specs.Sequence.{RowFits, row_part_of}
use Rattle.st_rows.proofs.Documents.{part_fits}
use Rattle.st_rows.proofs.Existence.{lists_new}
use Rattle.st_steps.specs.Across.{IsAcross}
use Rattle.st_trim.specs.Trimmed.{ListsStep}
use Rattle.st_steps.proofs.ListedAcross.{lists_across}
use Rattle.st_steps.proofs.StepsListed.{mention_known}
use Rattle.st_steps.proofs.VoidsExtend.{voids_extend}

module _ (D E : Document) (N : Intent) (C : Change) (S : Step) (x : IsExtendedBy D E) (f : Fits D N) (h : Fits E N) (data_alone : N.schema ≡ None) (short : HasShortRows (full D N)) (short_later : HasShortRows (full E N)) (emb : IsEmbedding D N C) (s : IsStep D E S) where
  -- the part of the intent fits the later row too; of its mentions, it needs those of the nodes that it puts alone
  fits_after : (n : NodeId) → RowFits (row_part_of emb.mentioned (nodes_new C.new) N n) (content E n)
  fits_after n =
      let all = part_fits E N (λ k. true) (nodes_new C.new) n x.after h (lists_new D N C emb) (λ k q. refl) in
      let before = part_fits D N emb.mentioned (nodes_new C.new) n x.before f (lists_new D N C emb) (λ k q. (emb.which k).1 q) in
      record {
        content = all.content;
        empty = all.empty;
        old = all.old;
        rising = all.rising;
        new_rev = all.new_rev;
        root_old = all.root_old;
        cell_rev = all.cell_rev;
        fresh = all.fresh;
        made_once = all.made_once;
        behind = all.behind;
        owners = all.owners;
        own_old = all.own_old;
        own_made = all.own_made;
        root_stays = all.root_stays;
        somewhere = all.somewhere;
        mentions = before.mentions;
      }

  pub lists_over_void : (G : Step) → IsAcross C S G → ListsStep (void D N) (void E N) s.mentioned G
  lists_over_void G g = lists_across D E N C S x f h data_alone emb s (voids_extend D E N x f h data_alone short short_later) (mention_known D E S x.before s) fits_after G g
