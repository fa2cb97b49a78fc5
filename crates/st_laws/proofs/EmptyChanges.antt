-- The change that changes nothing stands over each document.
use Rattle.std.proofs.Common.{◌≡◌, ◌↔◌, ◌<◌, ◌^◌, Bool, true, false, ◌&&◌, not, List, [], ◌∷◌, ◌++◌, length, Option, Some, None, IsTrue, cond, refl, sym, ap, ◌∙◌, subst, inl, inr, ◌⊎◌}
use Rattle.std.specs.List.{list_any}
use Rattle.st_ids.specs.Listing.{AreDistinct, Has}
use Rattle.st_ids.specs.Order.{same_rev}
use Rattle.st_ids.proofs.Orders.{same_rev-itself, same_rev-true}
use Rattle.st_ids.specs.declared.names.FieldId.{FieldId}
use Rattle.st_ids.specs.declared.names.NodeId.{NodeId}
use Rattle.st_ids.specs.declared.names.Rev.{Rev}
use Rattle.st_marks.specs.declared.intents.Intent.{Intent}
use Rattle.st_marks.specs.declared.intents.Owned.{Owned}
use Rattle.st_marks.specs.declared.places.Slot.{Slot}
use Rattle.st_marks.specs.declared.schemas.SchemaEntry.{SchemaEntry}
use Rattle.st_marks.specs.declared.schemas.SchemaStep.{SchemaStep}
use Rattle.st_marks.specs.CarryOut.{full, with_groups}
use Rattle.st_marks.specs.Document.{CanBeInEffect, Document, HasShortRows, IsSoundInForm, content, revs}
use Rattle.st_marks.specs.Embedding.{IsEmbedding, register_part, row_marks, row_part, tells}
use Rattle.st_marks.specs.Intent.{Fits, IsIntent}
use Rattle.st_marks.specs.Register.{embed_register}
use Rattle.st_marks.specs.Row.{RowPart, embed_cell, embed_cells, embed_made, embed_row, merge}
use Rattle.st_marks.specs.Step.{IsSchemaStep}
use Rattle.st_marks.proofs.Members.{any-has, append_left, append_right, distinct-between, has-any, has-append, has-map, map-has}
use Rattle.st_revert.specs.Reversal.{has_rev, takes_out}
use Rattle.st_laws.specs.Empty.{empty_change}

-- it wants nothing
abbrev pub empty_intent : Rev → Rev → Intent
empty_intent rev under = record { rev = rev; under = under; new = []; groups = []; clear = []; put = []; need = []; schema = None }

abbrev nobody : NodeId → Bool
nobody n = false

false-true : false ≡ true → ⊥
false-true e = cc

module _ (rev under : Rev) where
  abbrev N : Intent
  N = empty_intent rev under

  abbrev part : NodeId → RowPart
  part n = row_part nobody N n

  tells-nothing : (n : NodeId) (c : List Slot) → list_any tells (embed_cells (part n) c) ≡ false
  tells-nothing n [] = refl
  tells-nothing n (s ∷ c) = go s.full (tells-nothing n c)
    where
      go : (b : Bool) → list_any tells (embed_cells (part n) c) ≡ false → list_any tells (embed_cell (part n) s.cell s.node b ∷ (embed_made (part n) ((part n).new_cells (Some s.cell)) ++ embed_cells (part n) c)) ≡ false
      go true e = e
      go false e = e

  no-row : (n : NodeId) (c : List Slot) → None ≡ row_marks n (embed_row (part n) c)
  no-row n c = sym (ap (λ b. cond b (Some (record { node = n; marks = merge (embed_row (part n) c) })) None) (tells-nothing n c))

  no-register : (f : FieldId) (o : Option NodeId) → None ≡ embed_register f (register_part nobody N f) o
  no-register f None = refl
  no-register f (Some k) = refl

  pub empty_embeds : (D : Document) (b : Bool) → (IsTrue b ↔ Has (revs D.schemas) under) → IsEmbedding D N (record (empty_change rev under) { base = b })
  empty_embeds D b base = record {
    mentioned = nobody;
    which = λ n. ((λ e. absurd (false-true e)), (λ w. absurd w.1));
    rev = refl;
    under = refl;
    base = base;
    schema = refl;
    need = record { rising = refl; at_each = λ n. refl };
    new = record { rising = refl; at_each = λ n. refl };
    rows = record { rising = refl; at_each = λ n. no-row n (content D n) };
    regs = record { rising = refl; at_each = λ f. no-register f (D.held f) };
    loose = record { rising = refl; at_each = λ n. refl };
  }

  empty_obeys : IsIntent N
  empty_obeys = record {
    new_rev = tt;
    new_once = tt;
    cell_rev = tt;
    cell_once = tt;
    group_some = tt;
    start_once = tt;
    anchor_once = tt;
    anchor_old = tt;
    owners = tt;
    root_stays = refl;
    put_once = tt;
    no_cell_twice = tt;
    no_register_twice = tt;
    new_somewhere = tt;
    cleared = tt;
    register_keys = tt;
    need_old = tt;
    no_ring = λ n. (1, refl);
    schema_alone = tt;
  }

  pub empty_fits : (D : Document) → Fits D N
  empty_fits D = record {
    itself = empty_obeys;
    fresh_nodes = λ n h. absurd (false-true h);
    fresh_cells = λ c h. absurd (false-true h);
    fresh_schema = tt;
    groups_known = tt;
    owners_known = tt;
    puts_known = tt;
    clears_known = tt;
    needs_known = tt;
  }

  same-cells : (n : NodeId) (os : List Owned) → with_groups N n os ≡ os
  same-cells n [] = refl
  same-cells n (o ∷ os) = ap (λ l. o ∷ l) (same-cells n os)

  pub empty_short : (D : Document) → IsSoundInForm D → HasShortRows (full D N)
  empty_short D x n = subst (λ l. length l < 2 ^ 32) (sym (same-cells n (D.rows n))) (x.short n)

-- ## Whether a schema that was in effect still is

told : (es : List SchemaEntry) (u : Rev) → has_rev es u ≡ true → Has (revs es) u
told es u h = let w = any-has (λ (e : SchemaEntry). same_rev e.rev u) es h in subst (Has (revs es)) (same_rev-true w.0.rev u w.2) (map-has (λ (e : SchemaEntry). e.rev) es w.0 w.1)

there : (es : List SchemaEntry) (u : Rev) → Has (revs es) u → has_rev es u ≡ true
there es u h = let w = has-map (λ (e : SchemaEntry). e.rev) es u h in has-any (λ (e : SchemaEntry). same_rev e.rev u) es w.0 w.1 (ap (λ r. same_rev r u) w.2 ∙ same_rev-itself u)

in-first : (es more : List SchemaEntry) (u : Rev) → Has (revs es) u → Has (revs (es ++ more)) u
in-first es more u h = let w = has-map (λ (e : SchemaEntry). e.rev) es u h in subst (Has (revs (es ++ more))) w.2 (map-has (λ (e : SchemaEntry). e.rev) (es ++ more) w.0 (append_left es more w.0 w.1))

in-then : (es more : List SchemaEntry) (u : Rev) → Has (revs more) u → Has (revs (es ++ more)) u
in-then es more u h = let w = has-map (λ (e : SchemaEntry). e.rev) more u h in subst (Has (revs (es ++ more))) w.2 (map-has (λ (e : SchemaEntry). e.rev) (es ++ more) w.0 (append_right es more w.0 w.1))

parts-of : (es more : List SchemaEntry) (u : Rev) → Has (revs (es ++ more)) u → Has (revs es) u ⊎ Has (revs more) u
parts-of es more u h =
    let w = has-map (λ (e : SchemaEntry). e.rev) (es ++ more) u h in
    elim (has-append es more w.0 w.1) [
      | inl i ↦ inl (subst (Has (revs es)) w.2 (map-has (λ (e : SchemaEntry). e.rev) es w.0 i))
      | inr i ↦ inr (subst (Has (revs more)) w.2 (map-has (λ (e : SchemaEntry). e.rev) more w.0 i))
    ]

apart : (front cut : List SchemaEntry) (u : Rev) → AreDistinct (λ (e : SchemaEntry). e.rev) (front ++ cut) → Has (revs front) u → Has (revs cut) u → ⊥
apart front cut u once h k =
    let v = has-map (λ (e : SchemaEntry). e.rev) front u h in
    let w = has-map (λ (e : SchemaEntry). e.rev) cut u k in
    distinct-between (λ (e : SchemaEntry). e.rev) front cut v.0 w.0 once v.1 w.1 (w.2 ∙ sym v.2)

kept : (front cut add : List SchemaEntry) (u : Rev) → AreDistinct (λ (e : SchemaEntry). e.rev) (front ++ cut) → Has (revs (front ++ cut)) u → IsTrue (not (has_rev cut u && not (has_rev add u))) ↔ Has (revs (front ++ add)) u
kept front cut add u once was = go (has_rev cut u) refl (has_rev add u) refl
  where
    true-false : {A : Type 0} → true ≡ false → A
    true-false e = cc

    go : (a : Bool) → has_rev cut u ≡ a → (b : Bool) → has_rev add u ≡ b → IsTrue (not (a && not b)) ↔ Has (revs (front ++ add)) u
    go a e true k = ((λ t. in-then front add u (told add u k)), (λ h. not-both a))
      where
        not-both : (a : Bool) → IsTrue (not (a && false))
        not-both true = refl
        not-both false = refl
    go true e false k = (
      (λ t. absurd (false-true t)),
      (λ h. elim (parts-of front add u h) [
        | inl i ↦ absurd (apart front cut u once i (told cut u e))
        | inr i ↦ true-false (sym (there add u i) ∙ k)
      ]),
    )
    go false e false k = (
      (λ t. elim (parts-of front cut u was) [
        | inl i ↦ in-first front add u i
        | inr i ↦ true-false (sym (there cut u i) ∙ e)
      ]),
      (λ h. refl),
    )

pub still_in_effect : (before after : List SchemaEntry) (s : Option SchemaStep) (u : Rev) → CanBeInEffect before → IsSchemaStep before after s → Has (revs before) u → IsTrue (not (takes_out s u)) ↔ Has (revs after) u
still_in_effect before after None u sound h was = ((λ t. subst (λ es. Has (revs es) u) h was), (λ k. refl))
still_in_effect before after (Some s) u sound h was =
    subst (λ es. IsTrue (not (takes_out (Some s) u)) ↔ Has (revs es) u) (sym h.2) (kept h.0 s.cut s.add u (subst (AreDistinct (λ (e : SchemaEntry). e.rev)) h.1 sound.once) (subst (λ es. Has (revs es) u) h.1 was))
