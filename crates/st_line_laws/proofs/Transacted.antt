-- What the edits of a transaction mean as one intent: it fits the document over which they were edited, is sound there, and
-- shows what they show in turn.
use Rattle.std.proofs.Common.{◌≡◌, inl, inr, ℕ, Bool, true, false, List, Option, Some, None, IsSome, unwrap_or, refl, sym, ap, ◌∙◌, subst}
use Rattle.std.specs.Option.{option_or}
use Rattle.serde_json.specs.Data.{Data}
use Rattle.st_ids.specs.Listing.{Has}
use Rattle.st_ids.specs.Root.{opening, root}
use Rattle.st_ids.specs.declared.names.NodeId.{NodeId}
use Rattle.st_ids.specs.declared.names.Rev.{Rev}
use Rattle.st_lemmas.proofs.Bools.{true-false}
use Rattle.st_tree.specs.declared.edit.Edit.{Edit}
use Rattle.st_schema.specs.Schema.{SchemaView, is_sound}
use Rattle.st_marks.specs.declared.intents.Intent.{Intent}
use Rattle.st_marks.specs.declared.schemas.SchemaEntry.{SchemaEntry}
use Rattle.st_marks.specs.declared.verdicts.Verdict.{Verdict}
use Rattle.st_marks.specs.CarryOut.{full, with_schema}
use Rattle.st_marks.specs.Document.{Document, IsLive, IsSoundInForm, NodeType, above, last_of, revs}
use Rattle.st_marks.specs.Intent.{Fits, is_new, new_type}
use Rattle.st_marks.specs.LiveTree.{Shows}
use Rattle.st_marks.specs.Verdict.{HasBase, IsUnmetNeed, IsVerdict}
use Rattle.st_marks.proofs.Members.{all-has}
use Rattle.st_marks.proofs.OneVerdict.{carried_extends}
use Rattle.st_edits.proofs.Resolved.{resolved_fits}
use Rattle.st_schema_laws.specs.Edited.{TellsRows}
use Rattle.st_schema_laws.specs.Edits.{tree_after_edit}
use Rattle.st_schema_laws.specs.Typed.{IsAsTyped}
use Rattle.st_schema_laws.proofs.Beneath.{not_round}
use Rattle.st_schema_laws.proofs.Edits.{any_seen, any_verdict}
use Rattle.st_schema_laws.proofs.Sound.{last_in_effect}
use Rattle.st_schema_laws.proofs.TypedEdits.{any_typed}
use Rattle.st_schema_laws.proofs.Typing.{full_typed}
use Rattle.st_lists.specs.Open.{FitsSoFar, IsWithPart, with_open}
use Rattle.st_heads.specs.inside.Parts.{CanFollow}
use Rattle.st_heads.proofs.Editing.{can_follow, fits_so_far, open_shows}
use Rattle.st_line_laws.specs.Transaction.{AreEditedIn, no_more, one_more, IsMeantBy, tree_after_edits}
use Rattle.st_line_laws.proofs.Meant.{meant}
use Rattle.st_line_laws.proofs.Revealing.{nothing_revealed}

-- no need of what was edited so far is unmet
abbrev pub NoneUnmet : Document → Option Intent → Type 0
NoneUnmet D None = Unit {0}
NoneUnmet D (Some J) = (m : NodeId) → IsUnmetNeed D J m → ⊥

module _ (D : Document) (s : SchemaView) (rev : Rev) (line : IsSoundInForm D) (schema : is_sound s ≡ true) where
  abbrev under : Rev
  under = unwrap_or (last_of (revs D.schemas)) opening

  -- what is kept of what was edited so far
  pub record IsKept (joined : Option Intent) : Type 0 where
    pub so_far : FitsSoFar D rev under joined
    pub sound : IsSoundInForm (with_open D joined)
    pub schemas : (with_open D joined).schemas ≡ D.schemas
    pub reveals : (n : NodeId) → IsSome (D.nodes n) → IsLive (with_open D joined) n → IsLive D n
    pub needs : NoneUnmet D joined

  kept_first : IsKept None
  kept_first = record { so_far = tt; sound = line; schemas = refl; reveals = λ n known live. live; needs = tt }

  -- a node is there after what was edited so far exactly where it was there, or is made
  still_there : (joined : Option Intent) (n : NodeId) → IsSome (D.nodes n) → IsSome ((with_open D joined).nodes n)
  still_there None n h = h
  still_there (Some J) n h = go (D.nodes n) h
    where
      go : (o : Option NodeType) → IsSome o → IsSome (option_or o (new_type J n))
      go None h = cc
      go (Some t) h = refl

  was_there : (J : Intent) (n : NodeId) → IsSome ((full D J).nodes n) → is_new J n ≡ false → IsSome (D.nodes n)
  was_there J n h old = go (D.nodes n) h
    where
      go : (o : Option NodeType) → IsSome (option_or o (new_type J n)) → IsSome o
      go None h = absurd (true-false h old)
      go (Some t) h = refl

  module _ (joined : Option Intent) (edit : Edit) (M K : Intent) (k : IsKept joined) (m : IsMeantBy (with_open D joined) s rev edit M) (part : IsWithPart joined M K) where
    abbrev F : Document
    F = with_open D joined

    fits : Fits F M
    fits = resolved_fits F s m.given edit M k.sound schema m.new_nodes m.new_cells m.resolved

    verdict : IsVerdict F M Verdict.Sound
    verdict = any_verdict F s m.given edit M k.sound schema m.new_nodes m.new_cells m.resolved

    rev_is : M.rev ≡ rev
    rev_is = (meant F s m.given edit M k.sound fits m.resolved).rev ∙ m.of_commit

    under_is : M.under ≡ under
    under_is = (meant F s m.given edit M k.sound fits m.resolved).under ∙ ap (λ (es : List SchemaEntry). unwrap_or (last_of (revs es)) opening) k.schemas

    no_schema : M.schema ≡ None
    no_schema = (meant F s m.given edit M k.sound fits m.resolved).no_schema

    after : IsSoundInForm (full F M)
    after = (carried_extends F M Verdict.Sound k.sound fits m.short verdict).after

    so : FitsSoFar D M.rev M.under joined
    so = subst (λ r. FitsSoFar D r M.under joined) (sym rev_is) (subst (λ u. FitsSoFar D rev u joined) (sym under_is) k.so_far)

    follow : CanFollow D joined M
    follow = can_follow D M line no_schema joined so fits after

    pub shows : full D K ≡ full F M
    shows = open_shows D M line no_schema joined K follow part

    so_after : FitsSoFar D rev under (Some K)
    so_after = subst (λ r. FitsSoFar D r under (Some K)) rev_is (subst (λ u. FitsSoFar D M.rev u (Some K)) under_is (fits_so_far D M line no_schema joined K so fits follow part))

    schemas_after : (full D K).schemas ≡ D.schemas
    schemas_after = ap (λ (E : Document). E.schemas) shows ∙ ap (λ o. with_schema M o F.schemas) no_schema ∙ k.schemas

    reveals_after : (n : NodeId) → IsSome (D.nodes n) → IsLive (full D K) n → IsLive D n
    reveals_after n known live =
        k.reveals n known (nothing_revealed F M k.sound (meant F s m.given edit M k.sound fits m.resolved).puts n (still_there joined n known) (subst (λ E. IsLive E n) shows live))

    needs_after : (o : Option Intent) → joined ≡ o → NoneUnmet D o → IsWithPart o M K → NoneUnmet D (Some K)
    needs_after None e none q n u =
        let here : F ≡ D = ap (with_open D) e in
        verdict.1 n (subst (λ (I : Intent). Has I.need n) q u.0, λ live. u.1 (subst (λ E. IsLive E n) here live))
    needs_after (Some J) e none q n u = elim ((q.needs n).0 u.0) [
      | inl h ↦ none n (h, u.1)
      | inr h ↦ (
          let here : F ≡ full D J = ap (with_open D) e in
          let there : IsSome (F.nodes n) = all-has (λ n. IsSome (F.nodes n)) M.need n fits.needs_known h.0 in
          let known : IsSome (D.nodes n) = was_there J n (subst (λ (E : Document). IsSome (E.nodes n)) here there) h.1 in
          verdict.1 n (h.0, λ live. u.1 (k.reveals n known live))
          )
    ]

    pub kept_more : IsKept (Some K)
    kept_more = record {
      so_far = so_after;
      sound = subst IsSoundInForm (sym shows) after;
      schemas = schemas_after;
      reveals = reveals_after;
      needs = needs_after joined refl k.needs part;
    }

  kept_on : {before after : Option Intent} {edits : List Edit} → AreEditedIn D s rev before edits after → IsKept before → IsKept after
  kept_on no_more k = k
  kept_on (one_more {before} {after} {edit} {edits} M K m part rest) k = kept_on rest (kept_more before edit M K k m part)

  -- ## Its commit

  pub fits_there : {edits : List Edit} {K : Intent} → AreEditedIn D s rev None edits (Some K) → Fits D K
  fits_there e = (kept_on e kept_first).so_far.0

  pub sound_there : {edits : List Edit} {K : Intent} → AreEditedIn D s rev None edits (Some K) → IsVerdict D K Verdict.Sound
  sound_there {K = K} e =
      let k = kept_on e kept_first in
      let last : Has (revs D.schemas) under = last_in_effect D (record { rev = rev; nodes = 0; cells = 0 }) line in (
        subst (λ o. HasBase D.schemas o K.under) (sym k.so_far.3) (subst (Has (revs D.schemas)) (sym k.so_far.2) last),
        k.needs,
        λ n a. not_round (above (full D K)) a.1.0 n (k.sound.no_ring n) a.1.1,
      )

  -- ## What it shows

  module _ (is_array : List ℕ → Bool) (tells : TellsRows is_array s) where
    shown_on : {before after : Option Intent} {edits : List Edit} (d : Data) → AreEditedIn D s rev before edits after → IsKept before → IsAsTyped is_array (with_open D before) → Shows is_array (with_open D before) root d
        → Shows is_array (with_open D after) root (tree_after_edits edits d)
    shown_on d no_more k typed shown = shown
    shown_on d (one_more {before} {after} {edit} {edits} M K m part rest) k typed shown =
        let F = with_open D before in
        let same : full D K ≡ full F M = shows before edit M K k m part in
        let w = any_typed is_array F s m.given k.sound schema tells typed edit M m.new_nodes m.new_cells m.resolved in
        shown_on (tree_after_edit edit d) rest (kept_more before edit M K k m part) (subst (IsAsTyped is_array) (sym same) (full_typed is_array F M k.sound typed w))
        (subst (λ E. Shows is_array E root (tree_after_edit edit d)) (sym same) (any_seen is_array F s m.given edit M d k.sound schema tells typed m.new_nodes m.new_cells m.resolved shown))

    pub shown_there : {edits : List Edit} {joined : Option Intent} (d : Data) → IsAsTyped is_array D → AreEditedIn D s rev None edits joined → Shows is_array D root d → Shows is_array (with_open D joined) root (tree_after_edits edits d)
    shown_there d typed e shown = shown_on d e kept_first typed shown
