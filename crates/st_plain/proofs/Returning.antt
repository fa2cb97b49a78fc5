-- A client that comes back: what it missed is carried out, and what waits after it.
use Rattle.st_lists.specs.Clients.{carried_of, joined_of, with_connection}
use Rattle.st_lists.specs.Names.{names_in, names_on_all}
use Rattle.st_world_laws.proofs.Clients.{received_sound}
use Rattle.st_world_laws.proofs.Parts.{names_edited}
use Rattle.std.proofs.Common.{◌≡◌, ◌≤◌, ◌+◌, ℕ, suc, List, [], ◌∷◌, length, length-append, drop, Some, None, refl, sym, ap, ◌∙◌, subst, arith}
use Rattle.std.specs.List.{slice_get, slice_set}
use Rattle.st_marks.specs.Document.{Document, IsSoundInForm}
use Rattle.st_marks.specs.Run.{Run}
use Rattle.st_marks.proofs.OneVerdict.{run_then}
use Rattle.st_log_laws.specs.Turns.{FitInTurn}
use Rattle.st_log_laws.proofs.Turns.{rest as rest_fit}
use Rattle.st_doc.specs.Doc.{document_of}
use Rattle.st_script.specs.Header.{HeaderView, header_view}
use Rattle.st_script.specs.declared.answer.Answer.TheVariants.{Drop, Leave as Leaves, No, Reconnect}
use Rattle.st_script.specs.declared.refusal.Refusal.{Refusal}
use Rattle.st_ids.specs.declared.names.Limit.{Limit}
use Rattle.st_lists.specs.Limits.{entries_limit_passed}
use Rattle.st_lists.proofs.Texts.{carried_append}
use Rattle.st_world_laws.proofs.Everyone.{all_get}
use Rattle.st_lists.specs.Log.{commits_by, commits_in, own_in_flight, ranges_in, ranges_of, waiting}
use Rattle.st_lists.specs.declared.lists.Client.{Client}
use Rattle.st_lists.specs.declared.lists.Entry.{Entry}
use Rattle.st_lists.specs.declared.lists.WorldState.{WorldState}
use Rattle.st_lists.proofs.Logs.{commits_split}
use Rattle.st_plain.specs.Replicas.{AreReplicas, IsSound}
use Rattle.st_world.specs.World.{drop_client, leave, limit_refusal, opening_document, reconnect, refusal_to_reconnect}
use Rattle.st_heads.specs.declared.replica.Replica.{Replica}
use Rattle.st_plain.specs.declared.world.World.{World}
use Rattle.st_plain.proofs.Acting.{one_at}
use Rattle.st_plain.proofs.Keeping.{AreOne}
use Rattle.st_plain.proofs.Stepping.{start_of}

-- ## What a client that comes back has

module _ (w : World) (i : ℕ) (c : Client) (k : Replica) (s : IsSound w) (at_c : slice_get w.lists.clients i ≡ Some c) (at_k : slice_get w.kept i ≡ Some k) where
  abbrev h : HeaderView
  h = header_view w.header

  abbrev log : List Entry
  log = w.lists.log

  one : AreOne h log c k
  one = one_at w i c k s at_c at_k

  pub flight : length (commits_by c.session (drop c.received log)) ≤ length c.pending
  flight = omega (arith, ap length one.client.under_way ∙ length-append (own_in_flight log c) (waiting log c))

  pub received_within : c.received ≤ length log
  received_within = one.client.within

  pub few_pending : length c.pending ≤ 256
  few_pending = one.client.few

  pub here_sound : IsSoundInForm (document_of k.received)
  here_sound = received_sound h (start_of w w.steps s) log c (document_of k.received) one.client one.kept.received

  pub rest_fits : FitInTurn (document_of k.received) (commits_in (drop c.received log))
  rest_fits = rest_fit (commits_in (drop c.received log)) one.kept.received (subst (FitInTurn (opening_document h)) (commits_split c.received log) s.log_fit)

  pub waiting_fits : (D : Document) → Run (document_of k.received) (commits_in (drop c.received log)) D → FitInTurn D (waiting log c)
  waiting_fits D run = rest_fit (waiting log c) (subst (λ l. Run (opening_document h) l D) (sym (commits_split c.received log)) (run_then one.kept.received run)) one.client.sent_fit

  pub few_kept : k.names ≤ 16384
  few_kept = omega (arith, one.kept.names, one.client.few_names)

  -- the log carries no ids but those that it generated
  pub carried_low : carried_of log c ≤ c.ids
  carried_low = omega (arith, carried_append c.session (ranges_in log) (ranges_of c.queue), one.client.carried.within)

  -- it generated at most as many as there were steps
  pub few_ids : c.ids ≤ w.steps
  few_ids = all_get (λ (x : Client). x.ids ≤ w.steps) w.lists.clients i c s.ids at_c

  -- the names of what is pending are among those that wait
  pub pending_kept : names_in c.pending ≤ k.names
  pending_kept =
      let waiting : k.names ≡ (names_edited (joined_of c) + names_in c.pending) + names_on_all c.branches = one.kept.names in
      omega (arith, waiting)

-- ## What is kept of as many

pub as_many_kept : (g : HeaderView) (es : List Entry) (cs : List Client) (ks : List Replica) → AreReplicas g es cs ks → length ks ≡ length cs
as_many_kept g es [] [] w = refl
as_many_kept g es [] (k ∷ ks) w = absurd w
as_many_kept g es (c ∷ cs) [] w = absurd w
as_many_kept g es (c ∷ cs) (k ∷ ks) w = ap suc (as_many_kept g es cs ks w.2)

-- ## Answers

-- the client at a place is one
same_at : (w : WorldState) (i : ℕ) (c q : Client) → slice_get w.clients i ≡ Some c → slice_get w.clients i ≡ Some q → c ≡ q
same_at w i c q at_c at_q = let both : Some c ≡ Some q = sym at_c ∙ at_q in cc

pub leave_over : (w : WorldState) (i : ℕ) (q : Client) (l : Limit) → entries_limit_passed w.log ≡ Some l → leave w i q (entries_limit_passed w.log) ≡ (w, limit_refusal l)
leave_over w i q l e = ap (leave w i q) e

pub drop_over : (w : WorldState) (i : ℕ) (q : Client) (l : Limit) → entries_limit_passed w.log ≡ Some l → drop_client w i q (entries_limit_passed w.log) ≡ (w, limit_refusal l)
drop_over w i q l e = ap (drop_client w i q) e

pub next_left : (w : WorldState) (i n : ℕ) (c q : Client) → slice_get w.clients i ≡ Some c → slice_get w.clients i ≡ Some q → entries_limit_passed w.log ≡ None → n ≡ length w.log + 1
    → leave w i q (entries_limit_passed w.log) ≡ ((leave w i c None).0, Leaves n)
next_left w i n c q at_c at_q e is = ap (leave w i q) e ∙ ap (λ x. leave w i x None) (sym (same_at w i c q at_c at_q)) ∙ ap (λ m. ((leave w i c None).0, Leaves m)) (sym is)

pub next_dropped : (w : WorldState) (i n : ℕ) (c q : Client) → slice_get w.clients i ≡ Some c → slice_get w.clients i ≡ Some q → entries_limit_passed w.log ≡ None → n ≡ length w.log + 1
    → drop_client w i q (entries_limit_passed w.log) ≡ ((drop_client w i c None).0, Drop n)
next_dropped w i n c q at_c at_q e is = ap (drop_client w i q) e ∙ ap (λ x. drop_client w i x None) (sym (same_at w i c q at_c at_q)) ∙ ap (λ m. ((drop_client w i c None).0, Drop m)) (sym is)

pub reconnect_refused : (w : WorldState) (i : ℕ) (c q : Client) (why : Refusal) → slice_get w.clients i ≡ Some c → slice_get w.clients i ≡ Some q → refusal_to_reconnect w.log c ≡ Some why → reconnect w i q (refusal_to_reconnect w.log q) ≡ (w, No why)
reconnect_refused w i c q why at_c at_q e = ap (λ x. reconnect w i x (refusal_to_reconnect w.log x)) (sym (same_at w i c q at_c at_q)) ∙ ap (reconnect w i c) e

pub next_returned : (w : WorldState) (i n sent : ℕ) (c c' q : Client) → slice_get w.clients i ≡ Some c → slice_get w.clients i ≡ Some q → refusal_to_reconnect w.log c ≡ None → c' ≡ with_connection w.log c → n ≡ length w.log + 1 → sent ≡ length (waiting w.log c)
    → reconnect w i q (refusal_to_reconnect w.log q) ≡ (record w { log = (reconnect w i c None).0.log; clients = slice_set w.clients i c' }, Reconnect n sent)
next_returned w i n sent c c' q at_c at_q e is_c is_n is_sent =
    ap (λ x. reconnect w i x (refusal_to_reconnect w.log x)) (sym (same_at w i c q at_c at_q)) ∙ ap (reconnect w i c) e
    ∙ ap (λ x. (record w { log = (reconnect w i c None).0.log; clients = slice_set w.clients i x }, Reconnect (length w.log + 1) (length (waiting w.log c)))) (sym is_c)
    ∙ ap (λ m. (record w { log = (reconnect w i c None).0.log; clients = slice_set w.clients i c' }, Reconnect m (length (waiting w.log c)))) (sym is_n)
    ∙ ap (λ m. (record w { log = (reconnect w i c None).0.log; clients = slice_set w.clients i c' }, Reconnect n m)) (sym is_sent)
