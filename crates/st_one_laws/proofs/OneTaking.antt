-- A value is taken once: beside logs that are alike it passes the same tests, and leads to logs that are alike.
use Rattle.std.proofs.Common.{◌≡◌, ◌+◌, ◌==◌, ◌&&◌, ◌||◌, ◌≤◌, nat_le, nat_lt, not, is_some, ℕ, zero, suc, Bool, true, false, cond, List, [], ◌∷◌, ◌++◌, length, take, Option, Some, None, MatchOption, ◌⊎◌, inl, inr, refl, sym, ap, ◌∙◌, subst, option_and_then, option_map, arith}
use Rattle.std.specs.List.{list_any}
use Rattle.std.specs.Option.{option_map_or}
use Rattle.std.proofs.lemmas.Bool.Decides.{nat_tests}
use Rattle.serde_json.specs.Data.{Data}
use Rattle.st_change_reader.specs.Reading.{change_of}
use Rattle.st_clusters.specs.Free.{is_v4}
use Rattle.st_clusters.specs.Log.{carried_count}
use Rattle.st_clusters.specs.Table.{most_ids, table_of}
use Rattle.st_clusters.specs.declared.ids.IdRange.{IdRange}
use Rattle.st_edits.specs.ArrayTypes.{is_array_type}
use Rattle.st_edits.specs.Fields.{put_register, register_in}
use Rattle.st_edits.specs.InEffect.{schema_in_effect}
use Rattle.st_edits.specs.Keeping.{KeepsToSchema, Made, MayFollow, PassesSchema, commit_named, home_of, made_of}
use Rattle.st_ids.specs.Listing.{Has}
use Rattle.st_ids.specs.Order.{same_rev}
use Rattle.st_ids.specs.Root.{opening}
use Rattle.st_ids.specs.declared.names.FieldId.{FieldId}
use Rattle.st_ids.specs.declared.names.NodeId.{NodeId}
use Rattle.st_ids.specs.declared.names.Rev.{Rev}
use Rattle.st_lists.specs.Log.{commit_in, commits_in, is_connected, known_reference, log_with, sessions_in, uuid_in}
use Rattle.st_lists.specs.declared.lists.Body.{Body}
use Rattle.st_lists.specs.declared.lists.Body.TheVariants as body
use Rattle.st_lists.specs.declared.lists.Entry.{Entry}
use Rattle.st_log_laws.specs.Names.{IsMadeUnder, revisions}
use Rattle.st_log_laws.proofs.Turns.{turn_extends}
use Rattle.st_marks.specs.Document.{Document, IsSoundInForm}
use Rattle.st_marks.specs.Intent.{register_of}
use Rattle.st_marks.specs.LiveTree.{IsTreeText}
use Rattle.st_marks.specs.Run.{Run}
use Rattle.st_marks.specs.Verdict.{IsVerdict}
use Rattle.st_marks.specs.declared.changes.Change.{Change}
use Rattle.st_marks.specs.declared.intents.Intent.{Intent}
use Rattle.st_marks.specs.declared.verdicts.Verdict.{Verdict}
use Rattle.st_marks.proofs.OneTree.{one_text}
use Rattle.st_marks.proofs.OneVerdict.{one_verdict}
use Rattle.st_msg.specs.Messages.{MessageView, SaidView, message_of}
use Rattle.st_msg.specs.Messages as told
use Rattle.st_one_laws.specs.AlikeWorlds.{AlikeBody, AlikeEntry, InBoth, IsAlike, OneByOne, bare}
use Rattle.st_one_laws.proofs.AlikeIntents.{alike_says, lead_alike, rev_alike}
use Rattle.st_one_laws.proofs.AlikeLogs.{authors_alike, clashes_alike, commits_alike, connected_alike, entries_limit_alike, known_alike, log_limit_alike, minimum_alike, ranges_alike, sessions_alike, uuid_bare}
use Rattle.st_one_laws.proofs.OneByOne.{any_same, as_long, behind, found, taken}
use Rattle.st_same_laws.proofs.CarriedDocuments.{turned, verdict_same}
use Rattle.st_same_laws.proofs.RunsOfCommits.{run_same}
use Rattle.st_same_laws.specs.Same.{SayTheSame}
use Rattle.st_mark_reader.specs.OpSpace.{any_form, op_id_in}
use Rattle.st_valid.specs.Author.{author_list, generated_with}
use Rattle.st_valid.specs.Context.{AuthorsIntent, ContextOf, SaysInContext}
use Rattle.st_valid.specs.Ids.{carried_in, ids_are_next, revision_is_new}
use Rattle.st_valid.specs.Order.{is_in_order}
use Rattle.st_valid.specs.References.{body_without_change, is_in_window, is_no_step_back, minimum_after, reference_said}
use Rattle.st_valid.specs.Room.{HasRoomForNames, connected_among, connected_in, has_room_for_entry, has_room_for_names, has_room_to_say, names_of_change}
use Rattle.st_valid.specs.Sessions.{has_joined, session_may, tells}
use Rattle.st_valid.specs.declared.message.Message.{Message}
use Rattle.st_valid.specs.declared.message.ReplayCause.{ReplayCause}
use Rattle.st_valid.specs.declared.message.ReplayCause.TheVariants as cause
use Rattle.st_valid.specs.declared.message.Said.{Said}
use Rattle.st_valid.specs.declared.message.Said.TheVariants as said
use Rattle.st_valid_laws.specs.Messages.{IsBodyOf, IsFirstFailing, IsValidLog, Passes, in_order, one_message_more}
use Rattle.st_valid_laws.specs.Schema.{ChangeKeeps, SaysBySchema}
use Rattle.st_valid_laws.specs.Shape.{IsRead, IsReadSo, IsSaid, IsValueRefusedFor, PassesAsMessage, form_of_ids, message_with}
use Rattle.st_valid_laws.specs.Taking.{ComesOut, HasVerdict, IsTaken}
use Rattle.st_valid_laws.proofs.OneMeaning.{one_meaning}
use Rattle.st_valid_laws.proofs.Readings.{one_reading}
use Rattle.st_valid_laws.proofs.Standing.{all_stand}

-- ## Alike the other way round

intent_back : (N M : Intent) → IsAlike N M → IsAlike M N
intent_back N M (inl e) = inl (sym e)
intent_back N M (inr (n, m, s)) = inr (m, n, turned N M s)

both_back : (o p : Option Intent) → InBoth IsAlike o p → InBoth IsAlike p o
both_back None None h = tt
both_back None (Some M) h = h
both_back (Some N) None h = h
both_back (Some N) (Some M) h = intent_back N M h

entry_back : (e f : Entry) → AlikeEntry e f → AlikeEntry f e
entry_back e f a = record { n = sym a.n; session = sym a.session; body = (sym a.body.0, both_back (commit_in e.body) (commit_in f.body) a.body.1) }

pub log_back : (es fs : List Entry) → OneByOne AlikeEntry es fs → OneByOne AlikeEntry fs es
log_back [] [] o = tt
log_back [] (f ∷ fs) o = o
log_back (e ∷ es) [] o = o
log_back (e ∷ es) (f ∷ fs) o = (entry_back e f o.0, log_back es fs o.1)

module _ (es fs : List Entry) (o : OneByOne AlikeEntry es fs) where
  -- ## The tests that read the log alone

  connected_same : (s : ℕ) → is_connected s es ≡ is_connected s fs
  connected_same s = connected_alike s es fs o

  known_same : (s : ℕ) → known_reference s es ≡ known_reference s fs
  known_same s = known_alike s es fs o

  size_same : length es ≡ length fs
  size_same = as_long AlikeEntry es fs o

  carried_same : (s : ℕ) → carried_in es s ≡ carried_in fs s
  carried_same s = ap (λ rs. carried_count s rs) (ranges_alike es fs o)

  commits_same : OneByOne IsAlike (commits_in es) (commits_in fs)
  commits_same = commits_alike es fs o

  order_same : (m : Message) → is_in_order es m ≡ is_in_order fs m
  order_same m = ap (λ n. m.n == n + 1) size_same

  joined_same : (s u : ℕ) → has_joined s u es ≡ has_joined s u fs
  joined_same s u = any_same AlikeEntry (tells s u) (tells s u) one es fs o
    where
      one : (e f : Entry) → AlikeEntry e f → tells s u e ≡ tells s u f
      one e f a =
          let uuid : uuid_in e.body ≡ uuid_in f.body = uuid_bare e.body ∙ ap (λ (p : Body × Option IdRange). uuid_in p.0) a.body.0 ∙ sym (uuid_bare f.body) in
          λ i. (a.session i == s) && option_map_or (λ v. v == u) (uuid i) false

  may_same : (s : ℕ) (x : Said) → session_may es s x ≡ session_may fs s x
  may_same s (said.Join u) = λ i. ((s == sessions_alike es fs o i + 1) && (is_v4 u && not (clashes_alike u es fs o i))) || (not (connected_same s i) && joined_same s u i)
  may_same s said.Leave = connected_same s
  may_same s (said.Ack r) = connected_same s
  may_same s (said.Commit r ids c) = connected_same s

  after_alike : (s : ℕ) (b : Body) → OneByOne AlikeEntry (log_with es s b) (log_with fs s b)
  after_alike s b = behind AlikeEntry es fs (record { n = length es + 1; session = s; body = b } ∷ []) (record { n = length fs + 1; session = s; body = b } ∷ []) o
      (record { n = ap (λ n. n + 1) size_same; session = refl; body = (refl, itself (commit_in b)) }, tt)
    where
      itself : (c : Option Intent) → InBoth IsAlike c c
      itself None = tt
      itself (Some N) = inl refl

  window_same : (m : Message) → is_in_window es m ≡ is_in_window fs m
  window_same m = λ i. option_map_or (λ r. nat_le (minimum_alike es fs o i) r && nat_lt r m.n) (reference_said m.said) true && (m.min == least i)
    where
      least : minimum_after es m ≡ minimum_after fs m
      least = minimum_alike (log_with es m.session (body_without_change m.said)) (log_with fs m.session (body_without_change m.said)) (after_alike m.session (body_without_change m.said))

  back_same : (m : Message) → is_no_step_back es m ≡ is_no_step_back fs m
  back_same m = ap (λ k. option_map_or (nat_le k) (reference_said m.said) true) (known_same m.session)

  next_same : (s : ℕ) (x : Said) → ids_are_next es s x ≡ ids_are_next fs s x
  next_same s (said.Join u) = refl
  next_same s said.Leave = refl
  next_same s (said.Ack r) = refl
  next_same s (said.Commit r ids c) = λ i. ((ids.session == s) && ((ids.first == carried_same s i + 1) && nat_le (carried_same s i + ids.count) most_ids)) && is_some c

  revision_same : (s : ℕ) (x : Said) → revision_is_new es s x ≡ revision_is_new fs s x
  revision_same s (said.Join u) = refl
  revision_same s said.Leave = refl
  revision_same s (said.Ack r) = refl
  revision_same s (said.Commit r ids c) = ap (λ (f : Rev → Bool). option_map_or (λ (C : Change). (C.rev.session == s) && not (f C.rev)) c false) (λ i rev. is_there rev i)
    where
      is_there : (rev : Rev) → list_any (λ (N : Intent). same_rev N.rev rev) (commits_in es) ≡ list_any (λ (N : Intent). same_rev N.rev rev) (commits_in fs)
      is_there rev = any_same IsAlike (λ (N : Intent). same_rev N.rev rev) (λ (N : Intent). same_rev N.rev rev) (λ N M a. ap (λ r. same_rev r rev) (rev_alike N M a)) (commits_in es) (commits_in fs) commits_same

  among_same : (n : ℕ) → connected_among n es ≡ connected_among n fs
  among_same zero = refl
  among_same (suc n) = λ i. among_same n i + cond (connected_same (suc n) i) 1 0

  connected_in_same : connected_in es ≡ connected_in fs
  connected_in_same = ap (λ n. connected_among n es) (sessions_alike es fs o) ∙ among_same (sessions_in fs)

  entry_room_same : has_room_for_entry es ≡ has_room_for_entry fs
  entry_room_same = ap (λ l. not (is_some l)) (entries_limit_alike es fs o)

  names_room_same : (n : ℕ) → has_room_for_names es n ≡ has_room_for_names fs n
  names_room_same n = ap (λ l. nat_le n 2048 && not (is_some l)) (log_limit_alike es fs n n o refl)

  room_same : (x : Said) → has_room_to_say es x ≡ has_room_to_say fs x
  room_same (said.Join u) = λ i. entry_room_same i && nat_lt (connected_in_same i) 64
  room_same said.Leave = entry_room_same
  room_same (said.Ack r) = entry_room_same
  room_same (said.Commit r ids c) = λ i. entry_room_same i && option_map_or (λ (C : Change). names_room_same (names_of_change C) i) c false

  -- ## What a change says

  says_all : (Ns Ms : List Intent) → OneByOne IsAlike Ns Ms → SayTheSame Ns Ms
  says_all [] [] p = tt
  says_all [] (M ∷ Ms) p = absurd p
  says_all (N ∷ Ns) [] p = absurd p
  says_all (N ∷ Ns) (M ∷ Ms) p = (alike_says N M p.0, says_all Ns Ms p.1)

  revs_same : (Ns Ms : List Intent) → OneByOne IsAlike Ns Ms → revisions Ns ≡ revisions Ms
  revs_same [] [] p = refl
  revs_same [] (M ∷ Ms) p = absurd p
  revs_same (N ∷ Ns) [] p = absurd p
  revs_same (N ∷ Ns) (M ∷ Ms) p = λ i. rev_alike N M p.0 i ∷ revs_same Ns Ms p.1 i

  pub ran_alike : (O D : Document) → Run O (commits_in es) D → Run O (commits_in fs) D
  ran_alike O D r = run_same O D (commits_in es) (commits_in fs) (says_all (commits_in es) (commits_in fs) commits_same) r

  pub meant_alike : (O : Document) (s r : ℕ) (C : Change) → AuthorsIntent O es s r C → AuthorsIntent O fs s r C
  meant_alike O s r C a = record {
    document = a.document;
    ran = run_same O a.document (author_list es s r) (author_list fs s r) (says_all (author_list es s r) (author_list fs s r) (authors_alike es fs s r o)) a.ran;
    intent = a.intent;
    fits = a.fits;
    embeds = a.embeds;
  }

  context_alike : (O : Document) (s r : ℕ) (c : Option Change) → ContextOf O es s r c → ContextOf O fs s r c
  context_alike O s r None h = h
  context_alike O s r (Some C) h = record {
    meant = meant_alike O s r C h.meant;
    under = subst (λ (rs : List Rev). Has (rs ++ opening ∷ []) C.under) (revs_same (author_list es s r) (author_list fs s r) (authors_alike es fs s r o)) h.under;
  }

  says_alike : (O : Document) (s : ℕ) (x : Said) → SaysInContext O es s x → SaysInContext O fs s x
  says_alike O s (said.Join u) h = tt
  says_alike O s said.Leave h = tt
  says_alike O s (said.Ack r) h = tt
  says_alike O s (said.Commit r ids c) h = context_alike O s r c h

  -- ## Makers and homes

  made_same : (O : Document) (n : NodeId) → made_of O (commits_in es) n ≡ made_of O (commits_in fs) n
  made_same O n = ap (λ z. cond (same_rev n.0.rev opening) (Some (record { under = opening; home = register_in (O.place n) })) z)
      (told_once (commit_named (commits_in es) n.0.rev) (commit_named (commits_in fs) n.0.rev)
      (found IsAlike (λ (N : Intent). same_rev N.rev n.0.rev) (λ (N : Intent). same_rev N.rev n.0.rev) (λ N M a. ap (λ r. same_rev r n.0.rev) (rev_alike N M a)) (commits_in es) (commits_in fs) commits_same))
    where
      maker : Intent → Made
      maker N = record { under = N.under; home = put_register N n }

      told_once : (p q : Option Intent) → InBoth IsAlike p q → option_map maker p ≡ option_map maker q
      told_once None None h = refl
      told_once None (Some M) h = absurd h
      told_once (Some N) None h = absurd h
      told_once (Some N) (Some M) h = let s = alike_says N M h in λ i. Some (record { under = s.under i; home = option_and_then register_of (s.puts n i) })

  home_same : (O : Document) (n : NodeId) → home_of O (commits_in es) n ≡ home_of O (commits_in fs) n
  home_same O n = ap (λ (m : Option Made). option_and_then (λ (d : Made). d.home) m) (made_same O n)

  passes_alike : (O D : Document) (N : Intent) → PassesSchema O D (commits_in es) N → PassesSchema O D (commits_in fs) N
  passes_alike O D N h = record { schema = h.schema; front = h.front; view = h.view; up_to = h.up_to; keeps = kept N.schema h.keeps }
    where
      data_alike : KeepsToSchema O D (commits_in es) h.schema h.front N → KeepsToSchema O D (commits_in fs) h.schema h.front N
      data_alike k = record {
        types = k.types;
        filled = k.filled;
        fields = k.fields;
        put_makers = λ m p e. (let x = k.put_makers m p e in (x.0, sym (made_same O m) ∙ x.1, x.2));
        clear_makers = λ f c e. (let x = k.clear_makers f c e in (x.0, sym (made_same O f.node) ∙ x.1, x.2));
        required = λ f c r. (let x = k.required f c r in (x.0, x.1, either x.0 f x.2));
        homes = λ m to f p e w r. k.homes m to f p e (home_same O m ∙ w) r;
      }
        where
          either : {A : Type 0} (m : NodeId) (f : FieldId) → A ⊎ (home_of O (commits_in es) m ≡ Some f) → A ⊎ (home_of O (commits_in fs) m ≡ Some f)
          either m f (inl a) = inl a
          either m f (inr e) = inr (sym (home_same O m) ∙ e)

      kept : (t : Option (List ℕ)) → MatchOption t (KeepsToSchema O D (commits_in es) h.schema h.front N) (MayFollow h.schema) → MatchOption t (KeepsToSchema O D (commits_in fs) h.schema h.front N) (MayFollow h.schema)
      kept None k = data_alike k
      kept (Some text) k = k

-- ## Each test

module _ (es fs : List Entry) (o : OneByOne AlikeEntry es fs) where
  keeps_alike : (O : Document) (s r : ℕ) (c : Option Change) → ChangeKeeps O es s r c → ChangeKeeps O fs s r c
  unfolding meant_alike
  keeps_alike O s r None h = h
  keeps_alike O s r (Some C) h = λ base. (let k = h base in record {
    keeps = λ a. passes_alike es fs o O a.document a.intent (k.keeps (meant_alike fs es (log_back es fs o) O s r C a));
    room = λ a. k.room (meant_alike fs es (log_back es fs o) O s r C a);
  })

  by_schema_alike : (O : Document) (s : ℕ) (x : Said) → SaysBySchema O es s x → SaysBySchema O fs s x
  by_schema_alike O s (said.Join u) h = tt
  by_schema_alike O s said.Leave h = tt
  by_schema_alike O s (said.Ack r) h = tt
  by_schema_alike O s (said.Commit r ids c) h = keeps_alike O s r c h

  pub passes_too : (O : Document) (m : Message) (test : ReplayCause) → Passes O es m test → Passes O fs m test
  passes_too O m cause.Shape h = tt
  passes_too O m cause.Sequence h = sym (order_same es fs o m) ∙ h
  passes_too O m cause.Session h = sym (may_same es fs o m.session m.said) ∙ h
  passes_too O m cause.Window h = sym (window_same es fs o m) ∙ h
  passes_too O m cause.RefBack h = sym (back_same es fs o m) ∙ h
  passes_too O m cause.Ids h = sym (next_same es fs o m.session m.said) ∙ h
  passes_too O m cause.Revision h = sym (revision_same es fs o m.session m.said) ∙ h
  passes_too O m cause.Limit h = sym (room_same es fs o m.said) ∙ h
  passes_too O m cause.Context h = says_alike es fs o O m.session m.said h
  passes_too O m cause.Schema h = by_schema_alike O m.session m.said h

  -- a value is read alike
  said_alike : (s : ℕ) (v : SaidView) (read : Option Said) → IsSaid es s v read → IsSaid fs s v read
  said_alike s (told.Join u) read h = h
  said_alike s told.Leave read h = h
  said_alike s (told.Ack r) read h = h
  said_alike s (told.Commit r ids d) read h =
      (h.0, subst (λ (rs : List IdRange). IsReadSo (change_of any_form d) (change_of (form_of_ids (λ z. op_id_in (table_of rs) [] s (generated_with ids) z)) d) h.0) (ranges_alike (take r es) (take r fs) (taken AlikeEntry r es fs o)) h.1, h.2)

  pub read_alike : (d : Data) (read : Option Message) → IsRead es d read → IsRead fs d read
  read_alike d read h = go (message_of d) h
    where
      go : (v : Option MessageView) → MatchOption v (read ≡ None) (λ (m : MessageView). (s : Option Said) × IsSaid es m.session m.said s × (read ≡ option_map (message_with m) s))
          → MatchOption v (read ≡ None) (λ (m : MessageView). (s : Option Said) × IsSaid fs m.session m.said s × (read ≡ option_map (message_with m) s))
      go None e = e
      go (Some m) (s, is, e) = (s, said_alike m.session m.said s is, e)

  value_passes_too : (O : Document) (d : Data) (test : ReplayCause) → PassesAsMessage O es d test → PassesAsMessage O fs d test
  value_passes_too O d test (m, read, passes) = (m, read_alike d (Some m) read, passes_too O m test passes)

-- ## One cause

one_failing : (P Q : ReplayCause → Type 0) → ((c : ReplayCause) → P c → Q c) → ((c : ReplayCause) → Q c → P c) → (tests : List ReplayCause) (c e : ReplayCause) → IsFirstFailing P tests c → IsFirstFailing Q tests e → c ≡ e
one_failing P Q to from [] c e x y = absurd x
one_failing P Q to from (t ∷ ts) c e (inl x) (inl y) = x.0 ∙ sym y.0
one_failing P Q to from (t ∷ ts) c e (inl x) (inr y) = absurd (x.1 (from t y.0))
one_failing P Q to from (t ∷ ts) c e (inr x) (inl y) = absurd (y.1 (to t x.0))
one_failing P Q to from (t ∷ ts) c e (inr x) (inr y) = one_failing P Q to from ts c e x.1 y.1

none_failing : (P : ReplayCause → Type 0) → ((c : ReplayCause) → P c) → (tests : List ReplayCause) (c : ReplayCause) → IsFirstFailing P tests c → ⊥
none_failing P all [] c x = x
none_failing P all (t ∷ ts) c (inl x) = x.1 (all t)
none_failing P all (t ∷ ts) c (inr x) = none_failing P all ts c x.1

module _ (O : Document) (es fs : List Entry) (o : OneByOne AlikeEntry es fs) (d : Data) where
  pub refused_once : (c e : ReplayCause) → IsValueRefusedFor O es d c → IsValueRefusedFor O fs d e → c ≡ e
  refused_once c e x y = one_failing (PassesAsMessage O es d) (PassesAsMessage O fs d) (value_passes_too es fs o O d) (value_passes_too fs es (log_back es fs o) O d) in_order c e x y

  pub taken_or_refused : (after : List Entry) (n : ℕ) (v : Option Verdict) (e : ReplayCause) → IsTaken O es d after n v → IsValueRefusedFor O fs d e → ⊥
  taken_or_refused after n v e x y = none_failing (PassesAsMessage O fs d) (λ c. value_passes_too es fs o O d c (x.message, x.read, x.enters.valid c)) in_order e y

-- ## One next log

module _ (O : Document) (sound : IsSoundInForm O) (made : IsMadeUnder (opening ∷ []) O) (room : HasRoomForNames O) (es fs : List Entry) (valid : IsValidLog O es) (o : OneByOne AlikeEntry es fs) where
  -- what a change says in documents that are one is said alike
  meant_once : (s r : ℕ) (C : Change) → known_reference s es ≤ r → (a : AuthorsIntent O es s r C) (b : AuthorsIntent O fs s r C) → IsAlike a.intent b.intent
  unfolding meant_alike
  meant_once s r C low a b =
      let fit = ((all_stand O sound made room valid).authors s r low).fit in
      let here : IsSoundInForm a.document = (turn_extends sound fit a.ran).after in
      let other = meant_alike fs es (log_back es fs o) O s r C b in
      inr (a.fits.itself, b.fits.itself, one_meaning O es s r C a other here)

  verdict_once : (N M : Intent) (v u : Option Verdict) → IsAlike N M → HasVerdict O es N v → HasVerdict O fs M u → v ≡ u
  verdict_once N M v u alike x y =
      let same : x.document ≡ y.document = lead_alike O x.document y.document (commits_in es) (commits_in fs) (commits_alike es fs o) x.ran y.ran in
      let first = verdict_same y.document N M x.verdict (alike_says N M alike) (subst (λ (D : Document). IsVerdict D N x.verdict) same x.is) in
      x.told ∙ ap Some (one_verdict y.document M x.verdict y.verdict first y.is) ∙ sym y.told

  -- what a message says, and how it comes out
  abbrev SaidOnce : Body → Body → Option Verdict → Option Verdict → Type 0
  SaidOnce b c v u = AlikeBody b c × (v ≡ u)

  plain_once : (x b c : Body) (v u : Option Verdict) → commit_in x ≡ None → b ≡ x → c ≡ x → v ≡ None → u ≡ None → SaidOnce b c v u
  plain_once x b c v u none e f p q = ((ap bare (e ∙ sym f), subst (λ (y : Body). InBoth IsAlike (commit_in y) (commit_in c)) (sym e) (subst (λ (y : Body). InBoth IsAlike (commit_in x) (commit_in y)) (sym f) (empty (commit_in x) none))), p ∙ sym q)
    where
      empty : (k : Option Intent) → k ≡ None → InBoth IsAlike k k
      empty None h = tt
      empty (Some N) h = absurd (let w : Some N ≡ None = h in cc)

  said_once : (s : ℕ) (x : Said) (b c : Body) (v u : Option Verdict) → option_map_or (nat_le (known_reference s es)) (reference_said x) true ≡ true
      → IsBodyOf O es s x b → IsBodyOf O fs s x c → ComesOut O es b v → ComesOut O fs c u → SaidOnce b c v u
  said_once s (said.Join uuid) b c v u low e f p q =
      plain_once (body.Join uuid) b c v u refl e f (subst (λ (y : Body). ComesOut O es y v) e p) (subst (λ (y : Body). ComesOut O fs y u) f q)
  said_once s said.Leave b c v u low e f p q = plain_once body.Leave b c v u refl e f (subst (λ (y : Body). ComesOut O es y v) e p) (subst (λ (y : Body). ComesOut O fs y u) f q)
  said_once s (said.Ack r) b c v u low e f p q = plain_once (body.Ack r) b c v u refl e f (subst (λ (y : Body). ComesOut O es y v) e p) (subst (λ (y : Body). ComesOut O fs y u) f q)
  said_once s (said.Commit r ids None) b c v u low e f p q = absurd e
  said_once s (said.Commit r ids (Some C)) b c v u low (a, e) (d, f) p q =
      let known : known_reference s es ≤ r = grind (arith, nat_tests) in
      let alike = meant_once s r C known a d in (
        subst (λ (y : Body). AlikeBody y c) (sym e) (subst (λ (y : Body). AlikeBody (body.Commit r ids a.intent) y) (sym f) (refl, alike)),
        verdict_once a.intent d.intent v u alike (subst (λ (y : Body). ComesOut O es y v) e p) (subst (λ (y : Body). ComesOut O fs y u) f q),
      )

  pub taken_once : (d : Data) (after later : List Entry) (n k : ℕ) (v u : Option Verdict) → IsTaken O es d after n v → IsTaken O fs d later k u
      → (n ≡ k) × (v ≡ u) × OneByOne AlikeEntry after later × IsValidLog O after
  taken_once d after later n k v u x y =
      let same : x.message ≡ y.message = one_some (one_reading es d (Some x.message) (Some y.message) x.read (read_alike fs es (log_back es fs o) d (Some y.message) y.read)) in
      let m = x.message in
      let says : IsBodyOf O fs m.session m.said y.enters.body = subst (λ (z : Message). IsBodyOf O fs z.session z.said y.enters.body) (sym same) y.enters.says in
      let once = said_once m.session m.said x.enters.body y.enters.body v u (x.enters.valid cause.RefBack) x.enters.says says x.enters.verdict y.enters.verdict in
      let session : m.session ≡ y.message.session = ap (λ (z : Message). z.session) same in
      let longer : OneByOne AlikeEntry (log_with es m.session x.enters.body) (log_with fs y.message.session y.enters.body) =
      behind AlikeEntry es fs (record { n = length es + 1; session = m.session; body = x.enters.body } ∷ []) (record { n = length fs + 1; session = y.message.session; body = y.enters.body } ∷ []) o
      (record { n = ap (λ z. z + 1) (as_long AlikeEntry es fs o); session = session; body = once.0 }, tt) in (
        x.number ∙ ap (λ (z : Message). z.n) same ∙ sym y.number,
        once.1,
        subst (λ (l : List Entry). OneByOne AlikeEntry l later) (sym x.enters.after) (subst (λ (l : List Entry). OneByOne AlikeEntry (log_with es m.session x.enters.body) l) (sym y.enters.after) longer),
        subst (IsValidLog O) (sym x.enters.after) (one_message_more valid m x.enters.valid x.enters.body x.enters.says),
      )
    where
      one_some : {a b : Message} → Some a ≡ Some b → a ≡ b
      one_some e = cc

-- ## The tree

pub shown_once : (O : Document) (es fs : List Entry) → OneByOne AlikeEntry es fs → (D E : Document) (t w : List ℕ) → Run O (commits_in es) D → Run O (commits_in fs) E
    → IsTreeText (is_array_type (schema_in_effect D)) D t → IsTreeText (is_array_type (schema_in_effect E)) E w → t ≡ w
shown_once O es fs o D E t w r q x y =
    let same : D ≡ E = lead_alike O D E (commits_in es) (commits_in fs) (commits_alike es fs o) r q in
    one_text (is_array_type (schema_in_effect E)) E t w (subst (λ (F : Document). IsTreeText (is_array_type (schema_in_effect F)) F t) same x) y
