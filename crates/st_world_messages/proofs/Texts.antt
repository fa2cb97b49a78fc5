-- The text of each entry is read as the entry's message, and is taken.
use Rattle.std.proofs.Common.{◌≡◌, ◌≤◌, ◌<◌, ◌+◌, ◌^◌, ℕ, zero, suc, List, [], ◌∷◌, ◌++◌, length, take, Option, Some, None, IfSome, IsSome, inl, inr, refl, sym, ap, ◌∙◌, subst, arith}
use Rattle.std.specs.List.{fold}
use Rattle.std.specs.Prelude.{if◌then◌else◌, min, Bool, true, false, drop}
use Rattle.std.proofs.lemmas.List.{append-nil, length-take, take-append-drop}
use Rattle.std.proofs.lemmas.List.Elements.{filter_map-append}
use Rattle.std.proofs.lemmas.Option.{slice_get_cases, slice_get_within}
use Rattle.serde_json.specs.Find.{as_object}
use Rattle.st_carried_ids.proofs.Numbered.{logged_known}
use Rattle.st_change_writer.specs.Told.{change_data, data_with}
use Rattle.st_clusters.specs.Table.{most_ids}
use Rattle.st_clusters.specs.declared.ids.IdRange.{IdRange}
use Rattle.st_commit_laws.specs.Tellable.{IsTellable, NameIsShort}
use Rattle.st_commit_laws.proofs.Opening.{opening_within}
use Rattle.st_change_laws.specs.Within.{DocumentIsWithin, IntentIsWithin}
use Rattle.st_ids.specs.Listing.{Has}
use Rattle.st_ids.specs.Root.{opening}
use Rattle.st_ids.specs.declared.names.Atom.{Atom}
use Rattle.st_ids.specs.declared.names.Rev.{Rev}
use Rattle.st_ids.proofs.Shared.{at_has, filter-from}
use Rattle.st_lists.specs.Log.{commits_in, log_with, minimum, range_of, ranges_in, sessions_in, is_connected, known_reference}
use Rattle.st_lists.specs.Names.{names_in}
use Rattle.st_lists.specs.declared.lists.Body.{Body}
use Rattle.st_lists.specs.declared.lists.Body.TheVariants.{Join, Leave, Ack, Commit}
use Rattle.st_lists.specs.declared.lists.Entry.{Entry}
use Rattle.st_lists.specs.declared.lists.WorldState.{WorldState}
use Rattle.st_lists.proofs.Names.{names_append}
use Rattle.st_lists.proofs.Present.{session_given}
use Rattle.st_log_laws.specs.Names.{revisions}
use Rattle.st_log_laws.specs.Turns.{FitInTurn, IsSublist, cells_made}
use Rattle.st_log_laws.proofs.Shorter.{has_longer, sublist_itself, sublist_joined}
use Rattle.st_log_laws.proofs.Turns.{front, has_run, made_in_run, turn_extends}
use Rattle.st_log_laws.proofs.Verdicts.{has_verdict}
use Rattle.st_marks.specs.declared.changes.Change.{Change}
use Rattle.st_marks.specs.declared.intents.Intent.{Intent}
use Rattle.st_marks.specs.declared.verdicts.Verdict.{Verdict}
use Rattle.st_marks.specs.CarryOut.{full}
use Rattle.st_marks.specs.Document.{Document, IsSoundInForm}
use Rattle.st_marks.specs.Extends.{no_more, item_gained, item_kept}
use Rattle.st_marks.specs.Intent.{Fits, group_cells}
use Rattle.st_marks.proofs.Members.{all-has, append_left, append_right, has-all, has-append, has-map}
use Rattle.st_msg.specs.Messages.{MessageView, SaidView, message_data}
use Rattle.st_msg.specs.Within.{IsWithin, SaidIsWithin}
use Rattle.st_normal_texts.specs.NormalTexts.{IsNormalText}
use Rattle.st_script.specs.Header.{HeaderView}
use Rattle.st_seen_laws.specs.Told.{CanBeTold, CanSay, HaveFewIds, IsNameKnown, Tells, TellsSaid}
use Rattle.st_seen_laws.proofs.InLogs.{text_few}
use Rattle.st_seen_laws.proofs.Bounds.{few_front}
use Rattle.st_seen_laws.proofs.Reading.{message_read}
use Rattle.st_mark_reader.specs.Naming.{Naming}
use Rattle.st_texts.specs.Names.{names_seen}
use Rattle.st_texts.specs.Texts.{IsMessageOf}
use Rattle.st_valid.specs.Author.{author_list}
use Rattle.st_valid.specs.declared.message.Message.{Message}
use Rattle.st_valid.proofs.AuthorsLists.{author_among}
use Rattle.st_valid_laws.specs.Shape.{IsRead}
use Rattle.st_valid_laws.specs.Taking.{ComesOut, IsTaken}
use Rattle.st_author_lists.specs.Authors.{IsAuthored}
use Rattle.st_within_laws.proofs.ChangesWithin.{change_within}
use Rattle.st_within_laws.proofs.Documents.{run_within}
use Rattle.st_within_laws.proofs.Revisions.{document_in_revisions, intent_in_revision}
use Rattle.st_within_laws.proofs.RowBounds.{full_bound}
use Rattle.st_within_laws.proofs.ShortTexts.{normal_text}
use Rattle.st_world.specs.World.{opening_document}
use Rattle.st_world_laws.specs.Worlds.{HasOwnIds}
use Rattle.st_world_laws.proofs.Begun.{IsStart, opened_start}
use Rattle.st_world_laws.proofs.Everyone.{all_get}
use Rattle.st_world_messages.specs.Messages.{IsMessageAt, IsWrittenAs}
use Rattle.st_world_messages.specs.Order.{HasRoom, Refers, SendsInOrder}
use Rattle.st_world_messages.specs.Texts.{SendsTexts, TellsUuid}
use Rattle.st_world_messages.proofs.Tests.{body_said, by_body, commits_whole, context, count, first, fits, is_valid, its, text_tells, upto}

-- ## Numbers of a log

-- the minimum after some entries is no greater than the number of the last
least : (f : ℕ → Entry → ℕ) → ((k : ℕ) (e : Entry) → f k e ≤ k) → (most : ℕ) (es : List Entry) → fold f most es ≤ most
least f low most [] = omega arith
least f low most (e ∷ es) = let here = low most e in let later = least f low (f most e) es in omega (arith, here, later)

pub minimum_low : (log : List Entry) → minimum log ≤ length log
minimum_low log = least _ (λ k e. step (is_connected e.session log) k (known_reference e.session log)) (length log) log
  where
    step : (b : Bool) (k m : ℕ) → (if b then min k m else k) ≤ k
    step true k m = omega arith
    step false k m = omega arith

room_for : (log : List Entry) (b : Body) → HasRoom log b → length log < 65535
room_for log (Join uuid) room = room.0
room_for log Leave room = room
room_for log (Ack reference) room = room
room_for log (Commit reference ids N) room = room.0

-- commits among others make no more cells than all of those make names
few_cells : {As Bs : List Intent} → IsSublist As Bs → cells_made As ≤ names_in Bs
few_cells no_more = omega arith
few_cells (item_gained g) = let low = few_cells g in omega (arith, low)
few_cells (item_kept e g) = let low = few_cells g in let same = ap (λ (N : Intent). length (group_cells N)) e in omega (arith, low, same)

-- a change is an object
is_object : (names : Naming) (C : Change) → IsSome (as_object (change_data names C))
is_object names C = go C.schema
  where
    go : (o : Option (List ℕ)) → IsSome (as_object (data_with names C o))
    go None = refl
    go (Some text) = refl

-- a log of a world has few entries
log_few : (h : HeaderView) (n : ℕ) (w : WorldState) → SendsInOrder h n w → length w.log ≤ 65535
log_few h n w x = go (length w.log) refl
  where
    go : (k : ℕ) → length w.log ≡ k → length w.log ≤ 65535
    go zero is = omega (arith, is)
    go (suc k) is = elim (slice_get_cases w.log k).1 [
      | inl y ↦
          let room = room_for (take k w.log) y.0.body (x.order.log k y.0 y.2).room in
          let all = length-take k w.log in
          omega (arith, is, room, all)
      | inr y ↦ let none = y.0 in omega (arith, is, none)
    ]

pub sessions_few : (h : HeaderView) (n : ℕ) (w : WorldState) → SendsInOrder h n w → sessions_in w.log ≤ 65535
sessions_few h n w x = let few = log_few h n w x in let most = x.order.sessions in omega (arith, few, most)

module _ (h : HeaderView) (n : ℕ) (w : WorldState) (t : SendsTexts h n w) (few : n ≤ most_ids) where
  abbrev O : Document
  O = opening_document h

  x : SendsInOrder h n w
  x = t.order

  st : IsStart O
  st = opened_start h x.world.header

  size : length w.log ≤ 65535
  size = log_few h n w x

  session_low : (e : Entry) → Has w.log e → e.session ≤ 65535
  session_low e i = let given = session_given w.log e i in let most = x.order.sessions in let few = size in omega (arith, given, most, few)

  few_ids : HaveFewIds (ranges_in w.log)
  few_ids = record {
    turn = x.world.ranges;
    ids = λ s. let low = x.order.carried s in omega (arith, low, few);
    sessions = λ r i.
        let y = filter-from range_of w.log r i in
        let own = subst (λ o. IfSome o (λ (q : IdRange). q.session ≡ y.0.session)) y.2 (all-has HasOwnIds w.log y.0 x.world.own_ids y.1) in
        let low = session_low y.0 y.1 in
        omega (arith, own, low);
  }

  module _ (i : ℕ) (m : Message) (at : IsMessageAt O w.log i m) where
    abbrev L : List Entry
    L = take i w.log

    abbrev e : Entry
    e = at.entry

    there : Has w.log e
    there = at_has w.log i e at.there

    place : i < 65535
    place = let within = slice_get_within w.log i e at.there in let few = size in omega (arith, within, few)

    tellable : (M : Intent) → Has (commits_in w.log) M → IsTellable M
    tellable M j = all-has IsTellable (commits_in w.log) M t.told.log j

    -- ## A commit

    module _ (reference : ℕ) (ids : IdRange) (N : Intent) (is : e.body ≡ Commit reference ids N) (C : Change) (z : IsWrittenAs O L e.session reference N C) where
      abbrev A : List Intent
      A = author_list L e.session reference

      abbrev K : Rev → Type 0
      K r = IsNameKnown L e.session reference ids r

      abbrev Known : Atom → Type 0
      Known a = K a.rev × (a.at < 2 ^ 32)

      fit : FitInTurn O (A ++ N ∷ [])
      fit = subst (λ l. FitInTurn O (l ++ N ∷ [])) (append-nil A) (subst (IsAuthored O L e.session []) is (x.authors.log i e at.there)).fit

      fit_front : FitInTurn O A
      fit_front = front A (N ∷ []) O fit

      sound : IsSoundInForm z.author
      sound = (turn_extends st.sound fit_front z.stands).after

      itself : Fits z.author N
      itself = fits h n w x i m at reference ids N is C z

      upto_there : (M : Intent) → Has (commits_in L ++ N ∷ []) M → Has (commits_in w.log) M
      upto_there M j = subst (λ l. Has l M) (sym (commits_whole h n w x i m at reference ids N is)) (append_left (commits_in L ++ N ∷ []) (commits_in (drop (i + 1) w.log)) M j)

      among : IsSublist (A ++ N ∷ []) (commits_in L ++ N ∷ [])
      among = sublist_joined (author_among L e.session reference) (sublist_itself (N ∷ []))

      tells_all : (M : Intent) → Has (A ++ N ∷ []) M → IsTellable M
      tells_all M j = tellable M (upto_there M (has_longer among M j))

      last : Has (A ++ N ∷ []) N
      last = append_right A (N ∷ []) N (inl refl)

      knows : (M : Intent) → Has (A ++ N ∷ []) M → K M.rev
      knows M j = inr ((tells_all M j).numbered, logged_known h w x.world t.ids i e reference ids N at.there is M j)

      knows_revision : (r : Rev) → Has (revisions A ++ opening ∷ []) r → K r
      knows_revision r j = elim (has-append (revisions A) (opening ∷ []) r j) [
        | inl k ↦ let M = has-map (λ (M : Intent). M.rev) A r k in subst K M.2 (knows M.0 (append_left A (N ∷ []) M.0 M.1))
        | inr k ↦ elim k [ inl same ↦ inl (sym same) | inr no_one ↦ absurd no_one ]
      ]

      document_short : DocumentIsWithin NameIsShort z.author
      document_short = run_within NameIsShort (opening_within h x.world.header) (has-all (IntentIsWithin NameIsShort) A (λ M j. (tells_all M (append_left A (N ∷ []) M j)).within)) z.stands

      document_known : DocumentIsWithin Known z.author
      document_known = document_in_revisions K NameIsShort Known (λ a k low. (k, low)) (revisions A ++ opening ∷ []) z.author knows_revision (made_in_run (opening ∷ []) fit_front z.stands st.made) document_short

      intent_known : IntentIsWithin Known N
      intent_known = intent_in_revision K NameIsShort Known (λ a k low. (k, low)) N itself.itself (knows N last) (tells_all N last).within

      names_low : names_in (commits_in L ++ N ∷ []) ≤ 131072
      names_low =
          let more = commits_in (drop (i + 1) w.log) in
          let all = ap names_in (commits_whole h n w x i m at reference ids N is) in
          let low = x.world.few_names in
          let both = names_append (commits_in L ++ N ∷ []) more in
          omega (arith, all, low, both)

      short : (k : _) → length ((full z.author N).rows k) < 2 ^ 31
      short k =
          let bound = full_bound k N st.sound fit_front z.stands itself in
          let begun = st.short k in
          let cells = few_cells among in
          let low = names_low in
          omega (arith, bound, begun, cells, low)

      normal : IsNormalText C
      normal = normal_text z.author N C sound itself short z.embeds

      can_tell : CanBeTold L e.session reference ids C
      can_tell = change_within Known z.author N C sound document_known intent_known itself (λ k. let low = short k in omega (arith, low)) z.embeds K (knows N last)
          (knows_revision N.under (subst (Has (revisions A ++ opening ∷ [])) z.embeds.under (context h n w x i m at reference ids N is C z).under))

      bound : HaveFewIds (ranges_in L) × (ids.first + ids.count ≤ 2 ^ 32)
      bound = text_few w.log i e reference ids N at.there is few_ids

    -- ## What its text tells

    can_say : CanSay L m.session m.said
    can_say = subst (λ s. CanSay L s m.said) (sym at.session) (by_body (CanSay L e.session) O L e.session e.body m.said
        (λ uuid is. tt) (λ is. tt) (λ reference is. tt)
        (λ reference ids N C is z. (can_tell reference ids N is C z, normal reference ids N is C z, (bound reference ids N is C z).1)) at.says)

    refers : (b : Body) → e.body ≡ b → Refers L e.session b
    refers b is = subst (Refers L e.session) is (x.order.log i e at.there).refers

    said_within : (u : SaidView) → TellsSaid L m.session m.said u → SaidIsWithin m.session u
    said_within = subst (λ s. (u : SaidView) → TellsSaid L s m.said u → SaidIsWithin s u) (sym at.session) (by_body (λ y. (u : SaidView) → TellsSaid L e.session y u → SaidIsWithin e.session u) O L e.session e.body m.said
        (λ uuid is u q. subst (SaidIsWithin e.session) (sym q) (subst TellsUuid is (all_get (λ (y : Entry). TellsUuid y.body) w.log i e t.uuids.log at.there)).0)
        (λ is u q. subst (SaidIsWithin e.session) (sym q) tt)
        (λ reference is u q. subst (SaidIsWithin e.session) (sym q) (let r = (refers (Ack reference) is).most in let low = place in let all = length-take i w.log in omega (arith, r, low, all)))
        (λ reference ids N C is z u q. subst (SaidIsWithin e.session) (sym q) (
        let r = (refers (Commit reference ids N) is).most in
        let low = place in
        let all = length-take i w.log in
        let begins = first h n w x i m at reference ids N is in
        let carries = count h n w x i m at reference ids N is in
        (omega (arith, r, low, all), its h n w x i m at reference ids N is, omega (arith, begins, carries, few), omega (arith, carries, few), is_object (names_seen L e.session reference ids) C)
        )) at.says)

    module _ (v : MessageView) (y : IsMessageOf O w.log (i + 1) v) where
      tells : Tells L m v
      tells = text_tells O w.log i m v at y

      view_within : IsWithin v
      view_within = record {
        n = let a = tells.number in let b = at.number in let low = place in omega (arith, a, b, low);
        min = let a = tells.min in let b = at.min in let low = minimum_low (take (i + 1) w.log) in let all = length-take (i + 1) w.log in let few = size in omega (arith, a, b, low, all, few);
        session = let a = tells.session in let b = at.session in let low = session_low e there in omega (arith, a, b, low);
        said = subst (λ s. SaidIsWithin s v.said) (sym tells.session) (said_within v.said tells.said);
      }

      few_before : HaveFewIds (ranges_in L)
      few_before = few_front (ranges_in L) (ranges_in (drop i w.log)) (subst HaveFewIds (ap ranges_in (sym (take-append-drop i w.log)) ∙ filter_map-append range_of L (drop i w.log)) few_ids)

      pub text_read : IsRead L (message_data v) (Some m)
      text_read = message_read L m v few_before view_within tells can_say

    -- ## How it comes out

    comes_out : (b : Body) → e.body ≡ b → (u : Option Verdict) × ComesOut O L b u
    comes_out (Join uuid) is = (None, refl)
    comes_out Leave is = (None, refl)
    comes_out (Ack reference) is = (None, refl)
    comes_out (Commit reference ids N) is =
        let fit = front (commits_in L) (N ∷ []) O (front (commits_in L ++ N ∷ []) (commits_in (drop (i + 1) w.log)) O (subst (FitInTurn O) (commits_whole h n w x i m at reference ids N is) x.world.log_fit)) in
        let ran = has_run (commits_in L) O st.sound fit in
        let sound = (turn_extends st.sound fit ran.1).after in
        let v = has_verdict ran.0 N sound in
        (Some v.0, record { document = ran.0; ran = ran.1; verdict = v.0; is = v.1; told = refl })

    pub text_taken : (v : MessageView) → IsMessageOf O w.log (i + 1) v → (u : Option Verdict) × IsTaken O L (message_data v) (take (i + 1) w.log) (i + 1) u
    text_taken v y =
        let out = comes_out e.body refl in (
          out.0,
          record {
            message = m;
            read = text_read v y;
            number = sym at.number;
            enters = record {
              valid = is_valid h n w x i m at few;
              body = e.body;
              says = body_said h n w x i m at;
              after = upto h n w x i m at ∙ ap (λ s. log_with L s e.body) (sym at.session);
              verdict = out.1;
            };
          },
        )
