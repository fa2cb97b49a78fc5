-- The world after a client undid a commit, or told how much it received.
use Rattle.std.proofs.Common.{◌≡◌, ◌≤◌, ◌+◌, ℕ, true, List, Option, Some, None, Result, Ok, Err, refl, sym, ap, subst, arith}
use Rattle.std.specs.List.{slice_get, slice_set}
use Rattle.st_ids.specs.declared.names.Rev.{Rev}
use Rattle.st_marks.specs.declared.intents.Intent.{Intent}
use Rattle.st_marks.specs.Intent.{Fits}
use Rattle.st_doc.specs.Doc.{document_of}
use Rattle.st_heads.proofs.Fitting.{undoing_fits}
use Rattle.st_script.specs.Header.{HeaderView, header_view}
use Rattle.st_script.specs.declared.answer.Answer.{Answer}
use Rattle.st_script.specs.declared.answer.Answer.TheVariants.{No, Undo}
use Rattle.st_script.specs.declared.refusal.Refusal.{Refusal}
use Rattle.st_script.specs.declared.refusal.Refusal.TheVariants.{Unfinished}
use Rattle.st_lists.specs.Clients.{next_rev, with_ack, with_new_commit}
use Rattle.st_lists.specs.Lines.{commits_of, main_line}
use Rattle.st_lists.specs.Log.{floor}
use Rattle.st_lists.specs.Names.{names_made}
use Rattle.st_lists.specs.declared.lists.Client.{Client}
use Rattle.st_lists.specs.declared.lists.Entry.{Entry}
use Rattle.st_lists.specs.declared.lists.Transaction.{Transaction}
use Rattle.st_lists.specs.declared.lists.WorldState.{WorldState}
use Rattle.st_world.specs.Kept.{Unless}
use Rattle.st_plain.specs.Replicas.{IsReplicaOf, IsSound, IsSoundAfter}
use Rattle.st_plain_schemas.specs.Schemas.{HasReading}
use Rattle.st_world.specs.Undo.{IsAfterUndo, IsUndoneAt, refusal_of_rev}
use Rattle.st_world.specs.World.{AtRefusal, IsUndoneBy, opening_document}
use Rattle.st_edits.specs.InEffect.{last_in_effect}
use Rattle.st_heads.specs.declared.replica.Replica.{Replica}
use Rattle.st_plain.specs.declared.world.World.{World}
use Rattle.st_plain_undo.specs.Undo.{HasUndone, logged_of, undo_in, way_over}
use Rattle.st_plain.proofs.Acting.{one_at, sound_goes, stays_kept}
use Rattle.st_plain.proofs.Everyone.{clients_of, kept_none}
use Rattle.st_world_laws.proofs.Everyone.{set_same}
use Rattle.st_world_laws.proofs.Going.{ack_goes, undo_goes}
use Rattle.st_plain.proofs.Keeping.{AreOne, kept_committed, kept_main, kept_rest}
use Rattle.st_plain.proofs.Stepping.{start_of}
use Rattle.st_plain.proofs.Undoing.{Meets, over_meets}
use Rattle.st_world_laws.proofs.Undoing.{undoing_makes_none}

-- ## An undo

module _ (w : World) (i : ℕ) (c : Client) (k : Replica) (s : IsSound w) (at_c : slice_get w.lists.clients i ≡ Some c) (at_k : slice_get w.kept i ≡ Some k) (rev : Rev) where
  abbrev h : HeaderView
  h = header_view w.header

  abbrev log : List Entry
  log = w.lists.log

  abbrev list : List Intent
  list = commits_of log (main_line c)

  -- what is looked up, with the client's floor
  abbrev pub way_by : ℕ → Result Intent Refusal
  way_by low = way_over low c (last_in_effect (document_of k.main.doc)) k.main.own rev (logged_of w.logged c.received rev)

  one : AreOne h log c k
  one = one_at w i c k s at_c at_k

  meets : Meets (opening_document h) h.history log c rev (way_by (floor h.history log c.received))
  meets =
      over_meets (opening_document h) h.history log c rev w.logged s.logged (document_of k.received) (document_of k.main.doc) k.main.own one.kept.received one.kept.own (last_in_effect (document_of k.main.doc)) refl

  module _ (low : ℕ) (is_low : low ≡ floor h.history log c.received) where
    meets_low : Meets (opening_document h) h.history log c rev (way_by low)
    meets_low = subst (λ n. Meets (opening_document h) h.history log c rev (way_by n)) (sym is_low) meets

    -- what undoes a commit can be pending
    pub can_undo : (B : Intent) → way_by low ≡ Ok B → Fits (document_of k.main.doc) B × (k.names + names_made B ≤ 16384)
    can_undo B e =
        let u = (meets_low.undoes B e).0 in
        let nothing = undoing_makes_none (opening_document h) list rev (next_rev c) B u in (
          undoing_fits (opening_document h) list rev (next_rev c) B (document_of k.main.doc) (start_of w w.steps s).sound one.client.shown_fit (kept_main h log c k one.kept) u,
          omega (arith, one.kept.names, one.client.few_names, nothing),
        )

    module _ (c' : Client) (k' : Replica) (a : Answer) where
      pub undo_done : undo_in c c.transaction (way_by low) ≡ (c', a) → IsAfterUndo (opening_document h) h.history log c c.transaction rev c' a
      undo_done done = go c.transaction done
        where
          go : (o : Option Transaction) → undo_in c o (way_by low) ≡ (c', a) → IsAfterUndo (opening_document h) h.history log c o rev c' a
          go (Some t) e = (ap (λ (p : Client × Answer). p.0) (sym e), ap (λ (p : Client × Answer). p.1) (sym e))
          go None e = subst (λ (p : Client × Answer). Unless (refusal_of_rev h.history log c list rev) c p.0 p.1 (IsUndoneAt (opening_document h) list rev c p.0 p.1)) e meets_low.met

      undo_kept : (r : Result Intent Refusal) → undo_in c c.transaction r ≡ (c', a) → HasUndone c.transaction k r k' → IsReplicaOf h log c' k'
      undo_kept r done kept = go c.transaction refl r done kept
        where
          go : (o : Option Transaction) → c.transaction ≡ o → (r : Result Intent Refusal) → undo_in c o r ≡ (c', a) → HasUndone o k r k' → IsReplicaOf h log c' k'
          go (Some t) is r e kept = stays_kept w i c k s at_c at_k c' k' (ap (λ (p : Client × Answer). p.0) (sym e)) kept
          go None none (Err why) e kept = stays_kept w i c k s at_c at_k c' k' (ap (λ (p : Client × Answer). p.0) (sym e)) kept
          go None none (Ok B) e kept = subst (λ d. IsReplicaOf h log d k') (ap (λ (p : Client × Answer). p.0) e) (kept_committed h (start_of w w.steps s) log c k k' B none one.kept kept)

      pub sound_undo : undo_in c c.transaction (way_by low) ≡ (c', a) → HasUndone c.transaction k (way_by low) k'
          → IsSoundAfter (w.steps + 1) (record w { lists = record w.lists { clients = slice_set w.lists.clients i c' }; kept = slice_set w.kept i k' })
      sound_undo done kept =
          let are = clients_of h log w.lists.clients w.kept s.kept in
          sound_goes w i c k s at_c at_k c' k' (undo_goes h (start_of w w.steps s) (HasReading w.schemas) log w.lists.clients s.sessions are s.few_names s.schema i c at_c c' h.history rev a (undo_done done)) (undo_kept (way_by low) done kept)

-- a refusal leaves the client and what is kept of it
pub undo_refused : (c c' : Client) (k k' : Replica) (o : Option Transaction) (r : Result Intent Refusal) (a : Answer) → undo_in c o r ≡ (c', a) → HasUndone o k r k' → AtRefusal a ((c' ≡ c) × (k' ≡ k))
undo_refused c c' k k' o r a e kept = go o r e kept
  where
    at : (d : Client) (b : Answer) → ◌≡◌ {A = Client × Answer} (d, b) (c', a) → AtRefusal b ((c' ≡ c) × (k' ≡ k)) → AtRefusal a ((c' ≡ c) × (k' ≡ k))
    at d b e p = subst (λ x. AtRefusal x ((c' ≡ c) × (k' ≡ k))) (ap (λ (q : Client × Answer). q.1) e) p

    go : (o : Option Transaction) (r : Result Intent Refusal) → undo_in c o r ≡ (c', a) → HasUndone o k r k' → AtRefusal a ((c' ≡ c) × (k' ≡ k))
    go (Some t) r e kept = at c (No Unfinished) e (ap (λ (p : Client × Answer). p.0) (sym e), kept)
    go None (Err why) e kept = at c (No why) e (ap (λ (p : Client × Answer). p.0) (sym e), kept)
    go None (Ok B) e kept = at (with_new_commit c B) (Undo (next_rev c)) e tt

pub next_undone : (h : HeaderView) (w : WorldState) (i : ℕ) (c q d : Client) (rev : Rev) (a : Answer) → slice_get w.clients i ≡ Some c → slice_get w.clients i ≡ Some q
    → IsAfterUndo (opening_document h) h.history w.log c c.transaction rev d a → IsUndoneBy h w i q rev (record w { clients = slice_set w.clients i d }) a
next_undone h w i c q d rev a at_c at_q is =
    let same : c ≡ q = cc in
    subst (λ (x : Client). IsUndoneBy h w i x rev (record w { clients = slice_set w.clients i d }) a) same (d, is, refl)

-- ## An ack

pub sound_ack : (w : World) (i : ℕ) (c c' : Client) → IsSound w → slice_get w.lists.clients i ≡ Some c → c.connected ≡ true → c' ≡ with_ack c → IsSoundAfter (w.steps + 1) (record w { lists = record w.lists { clients = slice_set w.lists.clients i c' } })
sound_ack w i c c' s at on same = go (slice_get w.kept i) refl
  where
    h : HeaderView
    h = header_view w.header

    by : (k : Replica) → slice_get w.kept i ≡ Some k → IsSoundAfter (w.steps + 1) (record w { lists = record w.lists { clients = slice_set w.lists.clients i c' } })
    by k at_k =
        let st = start_of w w.steps s in
        let one = one_at w i c k s at at_k in
        let are = clients_of h w.lists.log w.lists.clients w.kept s.kept in
        let kept : IsReplicaOf h w.lists.log c' k = subst (λ d. IsReplicaOf h w.lists.log d k) (sym same) (kept_rest h st w.lists.log c (with_ack c).queue k one.kept) in
        let now = sound_goes w i c k s at at_k c' k (ack_goes h st (HasReading w.schemas) w.lists.log w.lists.clients s.sessions are s.few_names s.schema i c at c' on same) kept in
        subst (λ (ks : List Replica). IsSoundAfter (w.steps + 1) (record w { lists = record w.lists { clients = slice_set w.lists.clients i c' }; kept = ks })) (set_same w.kept i k at_k) now

    go : (o : Option Replica) → slice_get w.kept i ≡ o → IsSoundAfter (w.steps + 1) (record w { lists = record w.lists { clients = slice_set w.lists.clients i c' } })
    go None none = absurd (kept_none h w.lists.log w.lists.clients w.kept i c s.kept at none)
    go (Some k) at_k = by k at_k
