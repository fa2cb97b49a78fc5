-- An edit is resolved by what is kept of the schema in effect where a line shows a document.
use Rattle.std.proofs.Common.{◌≡◌, ◌≢◌, ℕ, zero, suc, Ok, Some, None, Result, refl, sym, ap, ◌∙◌, subst}
use Rattle.std.specs.BTreeMap.{get}
use Rattle.std.specs.List.{slice_get}
use Rattle.std.specs.Option.{option_and_then}
use Rattle.st_ids.specs.Order.{rev_cmp}
use Rattle.st_tree.specs.declared.edit.EditFault.{EditFault}
use Rattle.st_schema.specs.Schema.{SchemaView}
use Rattle.st_marks.specs.Document.{Document}
use Rattle.st_marks.specs.declared.intents.Intent.{Intent}
use Rattle.st_edits.specs.Resolve.{resolve}
use Rattle.st_heads.specs.declared.heads.Head.{Head}
use Rattle.st_script.specs.Steps.{edit_view}
use Rattle.st_script.specs.declared.answer.Answer.{Answer}
use Rattle.st_script.specs.declared.step.EditAct.{EditAct}
use Rattle.st_lists.specs.Clients.{joined_of}
use Rattle.st_lists.specs.Lines.{branch_line, edited_on, main_line}
use Rattle.st_lists.specs.declared.lists.Branch.{Branch}
use Rattle.st_lists.specs.declared.lists.Client.{Client}
use Rattle.st_edits.specs.InEffect.{schema_in_effect}
use Rattle.st_plain.specs.Replicas.{IsSound}
use Rattle.st_world.specs.World.{IsAfterEdit, next_names, word_of}
use Rattle.st_edits.specs.InEffect.{last_in_effect}
use Rattle.st_plain_edits.specs.BranchEdits.{HasEditedAt, shown_on}
use Rattle.st_heads.specs.Replicas.{IsAtBranch, head_of}
use Rattle.st_world.specs.Edits.{edit_of}
use Rattle.st_plain_edits.specs.Taking.{CanTake, HasTaken}
use Rattle.st_plain_schemas.specs.declared.known.KnownSchema.{KnownSchema}
use Rattle.st_heads.specs.declared.replica.Replica.{Replica}
use Rattle.st_plain.specs.declared.world.World.{World}
use Rattle.st_plain.proofs.Acting.{can_take, edit_meant, one_at, shown_of}
use Rattle.st_plain.proofs.BranchActs.{can_edit, edit_can, line_is}
use Rattle.st_plain.proofs.BranchShown.{IsShownBy, schema_by_head, schema_some}

-- the head that is kept of a branch beside the main one
head_is_there : (c : Client) (k : Replica) (number j : ℕ) (b : Branch) (g : Head) → number ≢ 0 → IsAtBranch c k number j b g → head_of c k number ≡ Some g
head_is_there c k zero j b g other x = absurd (other refl)
head_is_there c k (suc n) j b g other x = ap (option_and_then (λ i. slice_get k.branches i)) x.found ∙ x.kept

same_head : (p g : Head) → Some p ≡ Some g → p ≡ g
same_head p g e = cc

module _ (w : World) (i : ℕ) (c : Client) (k : Replica) (s : IsSound w) (at_c : slice_get w.lists.clients i ≡ Some c) (at_k : slice_get w.kept i ≡ Some k) where
  -- ## On the main line

  module _ (F : Document) (shows : IsShownBy k.main F) where
    pub main_some : None ≡ get rev_cmp w.schemas (last_in_effect F) → ⊥
    main_some none = schema_some w i c k s at_c at_k 0 (main_line c) k.main refl refl F shows none

    module _ (x : KnownSchema) (found : Some x ≡ get rev_cmp w.schemas (last_in_effect F)) (e : EditAct) where
      abbrev meant : SchemaView → Result Intent EditFault
      meant z = resolve (shown_of c k) z (next_names c c.transaction) (edit_of e)

      same : x.schema ≡ schema_in_effect (shown_of c k)
      same = schema_by_head w i c k s at_c at_k 0 (main_line c) k.main refl refl F shows x found ∙ ap schema_in_effect (shows (joined_of c) (one_at w i c k s at_c at_k).kept.edited)

      pub take_known : (N : Intent) → meant x.schema ≡ Ok N → CanTake k.main c.transaction (word_of (edit_view e)) N
      take_known N is = can_take w i c k s at_c at_k (word_of (edit_view e)) (meant (schema_in_effect (shown_of c k))) (edit_meant w i c k s at_c at_k e) N (ap meant (sym same) ∙ is)

      pub done_known : (d : Client) (a : Answer) → IsAfterEdit c 0 (main_line c) c.transaction (word_of (edit_view e)) (meant x.schema) d a → IsAfterEdit c 0 (main_line c) c.transaction (word_of (edit_view e)) (meant (schema_in_effect (shown_of c k))) d a
      done_known d a done = subst (λ (z : SchemaView). IsAfterEdit c 0 (main_line c) c.transaction (word_of (edit_view e)) (meant z) d a) same done

      pub kept_known : (d : Client) (m : Replica) → HasTaken c c.transaction k (meant x.schema) d m → HasTaken c c.transaction k (meant (schema_in_effect (shown_of c k))) d m
      kept_known d m kept = subst (λ (z : SchemaView). HasTaken c c.transaction k (meant z) d m) same kept

  -- ## On a branch beside it

  module _ (number : ℕ) (other : number ≢ 0) (p : Head) (head : head_of c k number ≡ Some p) (F : Document) (shows : IsShownBy p F) (x : KnownSchema) (found : Some x ≡ get rev_cmp w.schemas (last_in_effect F)) (e : EditAct) where
    abbrev meant_on : Branch → Head → SchemaView → Result Intent EditFault
    meant_on b g z = resolve (shown_on b g) z (next_names c b.transaction) (edit_of e)

    same_on : (j : ℕ) (b : Branch) (g : Head) → IsAtBranch c k number j b g → x.schema ≡ schema_in_effect (shown_on b g)
    same_on j b g y =
        let here : p ≡ g = same_head p g (sym head ∙ head_is_there c k number j b g other y) in
        let shown : F ≡ shown_on b g = (subst (λ (z : Head). IsShownBy z F) here shows) (edited_on (branch_line b)) (can_edit w i c k s at_c at_k number other j b g y).edited in
        schema_by_head w i c k s at_c at_k number (branch_line b) p (line_is w i c k s at_c at_k number other j b g y) head F shows x found ∙ ap schema_in_effect shown

    pub take_known_on : (j : ℕ) (b : Branch) (g : Head) → IsAtBranch c k number j b g → (N : Intent) → meant_on b g x.schema ≡ Ok N → CanTake g b.transaction (word_of (edit_view e)) N
    take_known_on j b g y N is = edit_can w i c k s at_c at_k number other j b g y e N (ap (meant_on b g) (sym (same_on j b g y)) ∙ is)

    pub there_known : (d : Client) (m : Replica) (a : Answer) → ((j : ℕ) (b : Branch) (g : Head) → IsAtBranch c k number j b g → HasEditedAt c k j b g (word_of (edit_view e)) (meant_on b g x.schema) d m a)
        → (j : ℕ) (b : Branch) (g : Head) → IsAtBranch c k number j b g → HasEditedAt c k j b g (word_of (edit_view e)) (meant_on b g (schema_in_effect (shown_on b g))) d m a
    there_known d m a there j b g y = subst (λ (z : SchemaView). HasEditedAt c k j b g (word_of (edit_view e)) (meant_on b g z) d m a) (same_on j b g y) (there j b g y)
