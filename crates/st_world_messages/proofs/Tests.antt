-- The message of each entry passes the tests.
use Rattle.std.proofs.Common.{◌≡◌, ◌≤◌, ◌<◌, ◌+◌, ◌-◌, ◌==◌, ◌&&◌, ℕ, zero, suc, Bool, true, false, cond, nat_le, nat_lt, not, is_some, List, [], ◌∷◌, ◌++◌, length, take, drop, Option, Some, None, IfSome, refl, sym, ap, ◌∙◌, subst, arith, append_assoc, ◌⊎◌, inl, inr}
use Rattle.std.specs.List.{cons_option, list_any, slice_get}
use Rattle.std.specs.Option.{option_map_or}
use Rattle.std.proofs.lemmas.Bool.Decides.{nat_tests}
use Rattle.std.proofs.lemmas.List.{append-nil, length-take, take-append-drop, take_all}
use Rattle.std.proofs.lemmas.List.Elements.{filter_map-append}
use Rattle.std.proofs.lemmas.Option.{slice_get_within}
use Rattle.st_lemmas.proofs.Bools.{and-both, refuted-false}
use Rattle.st_ids.specs.Listing.{AreDistinct, Has}
use Rattle.st_ids.specs.Order.{same_rev}
use Rattle.st_ids.specs.Root.{opening}
use Rattle.st_ids.specs.declared.names.Limit.{Limit}
use Rattle.st_ids.specs.declared.names.LimitOf.TheVariants.{Log, Names}
use Rattle.st_ids.specs.declared.names.Rev.{Rev}
use Rattle.st_ids.proofs.Orders.{same_rev-true}
use Rattle.st_clusters.specs.Log.{AreInTurn, GoOn, carried_count}
use Rattle.st_clusters.specs.Table.{most_ids}
use Rattle.st_clusters.specs.declared.ids.IdRange.{IdRange}
use Rattle.st_clusters.proofs.Logs.{carried_own}
use Rattle.st_carried_ids.proofs.Carrying.{carried_least}
use Rattle.st_marks.specs.declared.changes.Change.{Change}
use Rattle.st_marks.specs.declared.intents.Intent.{Intent}
use Rattle.st_marks.specs.Document.{Document, IsSoundInForm}
use Rattle.st_marks.specs.Embedding.{IsEmbedding}
use Rattle.st_marks.specs.Intent.{Fits}
use Rattle.st_marks.proofs.Members.{any-has, append_left, append_right, distinct-between, distinct-left}
use Rattle.st_marks.proofs.OneVerdict.{one_run}
use Rattle.st_marks.proofs.Unique.{one_embedding}
use Rattle.st_msg.specs.Messages.{MessageView}
use Rattle.st_msg.specs.Messages as told
use Rattle.st_log_laws.specs.Names.{HaveNewRevisions, revisions}
use Rattle.st_lists.specs.Limits.{log_limit_passed}
use Rattle.st_lists.specs.Log.{commit_in, commit_of, commits_in, is_connected, known_reference, log_with, minimum, range_in, range_of, ranges_in}
use Rattle.st_lists.specs.Names.{names_in, names_made}
use Rattle.st_lists.specs.declared.lists.Body.{Body}
use Rattle.st_lists.specs.declared.lists.Body.TheVariants.{Join, Leave, Ack, Commit}
use Rattle.st_lists.specs.declared.lists.Entry.{Entry}
use Rattle.st_lists.specs.declared.lists.WorldState.{WorldState}
use Rattle.st_lists.proofs.Logs.{commits_split, last_entry, take-get}
use Rattle.st_lists.proofs.Names.{names_append}
use Rattle.st_schema_laws.specs.Earlier.{AreUnderEarlier, schemas_made, with_own}
use Rattle.st_script.specs.Header.{HeaderView}
use Rattle.st_texts.specs.Texts.{IsMessageOf, IsSaid}
use Rattle.st_valid.specs.Author.{author_list}
use Rattle.st_valid.specs.Context.{AuthorsIntent, HasContext, SaysInContext, known_revisions}
use Rattle.st_valid.specs.Ids.{carried_in, ids_are_next, is_new_revision, is_next_range, revision_is_new}
use Rattle.st_valid.specs.References.{body_without_change, is_within, minimum_after, reference_said}
use Rattle.st_valid.specs.Room.{connected_in, has_room_for_entry, has_room_for_names, has_room_to_say, names_of_change}
use Rattle.st_valid.specs.declared.message.Message.{Message}
use Rattle.st_valid.specs.declared.message.ReplayCause.TheVariants as cause
use Rattle.st_valid.specs.declared.message.Said.{Said}
use Rattle.st_valid.specs.declared.message.Said.TheVariants as said
use Rattle.st_valid_laws.specs.Messages.{IsBodyOf, IsValid, IsValidLog, Passes, no_message, one_message_more}
use Rattle.st_valid_laws.specs.Schema.{KeepsInContext, SaysBySchema}
use Rattle.st_valid_laws.proofs.OneMeaning.{keeps_as_one}
use Rattle.st_valid.proofs.AuthorsLists.{author_among}
use Rattle.st_world_messages.proofs.BySchema.{has_room, passes_schema}
use Rattle.st_valid_laws.proofs.Entered.{SayAlike, minimum_alike}
use Rattle.st_world.specs.World.{opening_document}
use Rattle.st_world_laws.specs.Worlds.{HasOwnIds, IsEntryOf}
use Rattle.st_world_laws.proofs.Everyone.{all_get, past}
use Rattle.st_author_lists.specs.Authors.{IsWritten}
use Rattle.st_author_lists.proofs.Fitted.{logged_written}
use Rattle.st_seen_laws.specs.Told.{Tells, TellsSaid}
use Rattle.st_world_messages.specs.Messages.{IsMessageAt, IsWrittenAs, SaysAs}
use Rattle.st_world_messages.specs.Order.{AreALine, EntersInOrder, HasRoom, IsWrittenSo, MaySay, Refers, SendsInOrder}
use Rattle.st_world_messages.proofs.Counts.{least_known}
use Rattle.st_world_messages.proofs.Names.{few_names}

-- ## What a message says, of its entry

-- the same of the session
says_alike : (O : Document) (log : List Entry) (s : ℕ) (b : Body) (x : Said) → SaysAs O log s b x → SayAlike b (body_without_change x)
says_alike O log s (Join uuid) x is = subst (λ y. SayAlike (Join uuid) (body_without_change y)) (sym is) (record { reference = λ n. refl; connected = λ b. refl })
says_alike O log s Leave x is = subst (λ y. SayAlike Leave (body_without_change y)) (sym is) (record { reference = λ n. refl; connected = λ b. refl })
says_alike O log s (Ack reference) x is = subst (λ y. SayAlike (Ack reference) (body_without_change y)) (sym is) (record { reference = λ n. refl; connected = λ b. refl })
says_alike O log s (Commit reference ids N) x is = subst (λ y. SayAlike (Commit reference ids N) (body_without_change y)) (sym is.2) (record { reference = λ n. refl; connected = λ b. refl })

-- something that a message says is found by what its entry says
pub by_body : (Q : Said → Type 0) (O : Document) (log : List Entry) (s : ℕ) (b : Body) (x : Said) → ((uuid : ℕ) → b ≡ Join uuid → Q (said.Join uuid)) → (b ≡ Leave → Q said.Leave) → ((reference : ℕ) → b ≡ Ack reference → Q (said.Ack reference))
    → ((reference : ℕ) (ids : IdRange) (N : Intent) (C : Change) → b ≡ Commit reference ids N → IsWrittenAs O log s reference N C → Q (said.Commit reference ids (Some C))) → SaysAs O log s b x → Q x
by_body Q O log s (Join uuid) x join leave ack commit is = subst Q (sym is) (join uuid refl)
by_body Q O log s Leave x join leave ack commit is = subst Q (sym is) (leave refl)
by_body Q O log s (Ack reference) x join leave ack commit is = subst Q (sym is) (ack reference refl)
by_body Q O log s (Commit reference ids N) x join leave ack commit is = subst Q (sym is.2) (commit reference ids N is.0 refl is.1)

-- ## What its text tells

there_one : (x y : Entry) → Some x ≡ Some y → x ≡ y
there_one x y e = cc

tells_said : (O : Document) (log : List Entry) (s : ℕ) (b : Body) (x : Said) (v : told.SaidView) → SaysAs O log s b x → IsSaid O log s b v → TellsSaid log s x v
tells_said O log s (Join uuid) x v is at = subst (λ y. TellsSaid log s y v) (sym is) at
tells_said O log s Leave x v is at = subst (λ y. TellsSaid log s y v) (sym is) at
tells_said O log s (Ack reference) x v is at = subst (λ y. TellsSaid log s y v) (sym is) at
tells_said O log s (Commit reference ids N) x v is at =
    let same = one_run is.1.stands at.stands in
    let change = one_embedding at.author N is.0 at.change (subst (λ D. IsEmbedding D N is.0) same is.1.embeds) at.embeds in
    subst (λ y. TellsSaid log s y v) (sym is.2) (subst (λ C. TellsSaid log s (said.Commit reference ids (Some C)) v) (sym change) at.is)

pub text_tells : (O : Document) (log : List Entry) (i : ℕ) (m : Message) (v : MessageView) → IsMessageAt O log i m → IsMessageOf O log (i + 1) v → Tells (take i log) m v
text_tells O log i m v x y =
    let back : (i + 1) - 1 ≡ i = omega arith in
    let entry : y.entry ≡ x.entry = there_one y.entry x.entry (sym y.there ∙ ap (slice_get log) back ∙ x.there) in
    let says : IsSaid O (take i log) x.entry.session x.entry.body v.said = subst (λ (e : Entry). IsSaid O (take i log) e.session e.body v.said) entry (subst (λ k. IsSaid O (take k log) y.entry.session y.entry.body v.said) back y.said) in
    record {
      number = y.number ∙ sym x.number;
      min = y.min ∙ sym x.min;
      session = y.session ∙ ap (λ (e : Entry). e.session) entry ∙ sym x.session;
      said = subst (λ s. TellsSaid (take i log) s m.said v.said) (sym x.session) (tells_said O (take i log) x.entry.session x.entry.body m.said v.said x.says says);
    }

-- ## Numbers in a list of ranges

front_in_turn : (before xs ys : List IdRange) → GoOn before (xs ++ ys) → GoOn (before ++ xs) ys
front_in_turn before [] ys on = subst (λ l. GoOn l ys) (sym (append-nil before)) on
front_in_turn before (q ∷ xs) ys on = subst (λ l. GoOn l ys) (append_assoc before (q ∷ []) xs) (front_in_turn (before ++ q ∷ []) xs ys on.2)

-- schemas that came before are revisions of commits, or the first
made_revision : (rs : List Rev) (Ns : List Intent) (r : Rev) → Has (schemas_made rs Ns) r → Has rs r ⊎ Has (revisions Ns) r
made_revision rs [] r h = inl h
made_revision rs (N ∷ Ns) r h = elim (made_revision (with_own rs N) Ns r h) [
  | inl i ↦ own (is_some N.schema) i
  | inr i ↦ inr (inr i)
]
  where
    own : (b : Bool) → Has (cond b (N.rev ∷ rs) rs) r → Has rs r ⊎ Has (revisions (N ∷ Ns)) r
    own true (inl e) = inr (inl e)
    own true (inr i) = inl i
    own false i = inl i

last_under : (rs : List Rev) (Ns : List Intent) (N : Intent) → AreUnderEarlier rs (Ns ++ N ∷ []) → Has (schemas_made rs Ns) N.under
last_under rs [] N e = e.0
last_under rs (M ∷ Ns) N e = last_under (with_own rs M) Ns N e.1

-- ## Room

few_entries : (log : List Entry) → length log < 65535 → nat_le 65535 (length log) ≡ false
few_entries log few = grind (arith, nat_tests, few)

entry_room : (log : List Entry) → length log < 65535 → has_room_for_entry log ≡ true
entry_room log few = ap (λ b. not (is_some {T = Limit} (cond b (Some (record { of = Log; kept = length log })) None))) (few_entries log few)

few_connected : (log : List Entry) → connected_in log < 64 → nat_lt (connected_in log) 64 ≡ true
few_connected log few = grind (arith, nat_tests, few)

names_room : (log : List Entry) (names : ℕ) → length log < 65535 → names_in (commits_in log) + names ≤ 131072 → not (is_some (log_limit_passed log names)) ≡ true
names_room log names few low =
    let none : nat_lt 131072 (names_in (commits_in log) + names) ≡ false = grind (arith, nat_tests, low) in
    ap (λ b. not (is_some {T = Limit} (cond b (Some (record { of = Log; kept = length log })) (cond (nat_lt 131072 (names_in (commits_in log) + names)) (Some (record { of = Names; kept = names_in (commits_in log) })) None)))) (few_entries log few)
    ∙ ap (λ b. not (is_some {T = Limit} (cond b (Some (record { of = Names; kept = names_in (commits_in log) })) None))) none

-- ## The tests

module _ (h : HeaderView) (n : ℕ) (w : WorldState) (x : SendsInOrder h n w) (i : ℕ) (m : Message) (at : IsMessageAt (opening_document h) w.log i m) where
  abbrev O : Document
  O = opening_document h

  abbrev L : List Entry
  L = take i w.log

  abbrev e : Entry
  e = at.entry

  order : EntersInOrder L e
  order = x.order.log i e at.there

  within : i < length w.log
  within = slice_get_within w.log i e at.there

  size : length L ≡ i
  size = let all = length-take i w.log in omega (arith, all, within)

  -- the log up to it has it as its last entry
  last : e ≡ last_entry L e.session e.body
  last = λ j. record { n = order.number j; session = e.session; body = e.body }

  pub upto : take (i + 1) w.log ≡ log_with L e.session e.body
  upto = take-get w.log i e at.there ∙ ap (λ (y : Entry). L ++ y ∷ []) last

  pub in_sequence : Passes O L m cause.Sequence
  in_sequence = let number = at.number in grind (arith, nat_tests, number, size)

  -- ## The session

  pub of_session : Passes O L m cause.Session
  of_session = subst (λ s. Passes O L (record m { session = s }) cause.Session) (sym at.session) (by_body (λ y. Passes O L (record m { session = e.session; said = y }) cause.Session) O L e.session e.body m.said
      (λ uuid is. subst (MaySay L e.session) is order.may) (λ is. subst (MaySay L e.session) is order.may) (λ reference is. subst (MaySay L e.session) is order.may) (λ reference ids N C is z. subst (MaySay L e.session) is order.may) at.says)

  -- ## The reference

  minimum_is : m.min ≡ minimum_after L m
  minimum_is =
      let alike = minimum_alike L e.session e.body (body_without_change m.said) (says_alike O L e.session e.body m.said at.says) in
      at.min ∙ ap minimum upto ∙ alike ∙ ap (λ s. minimum (log_with L s (body_without_change m.said))) (sym at.session)

  text_within : (reference : ℕ) → is_connected e.session L ≡ true → known_reference e.session L ≤ reference → reference ≤ length L → is_within L m.n reference ≡ true
  text_within reference on least most =
      let low = least_known L e.session on in
      let number = at.number in
      and-both (nat_le (minimum L) reference) (nat_lt reference m.n) (grind (arith, nat_tests, low, least)) (grind (arith, nat_tests, most, number, size))

  pub in_window : Passes O L m cause.Window
  in_window = and-both (option_map_or (is_within L m.n) (reference_said m.said) true) (m.min == minimum_after L m)
      (by_body (λ y. option_map_or (is_within L m.n) (reference_said y) true ≡ true) O L e.session e.body m.said
      (λ uuid is. refl) (λ is. refl)
      (λ reference is. let r = subst (Refers L e.session) is order.refers in text_within reference (subst (MaySay L e.session) is order.may) r.least r.most)
      (λ reference ids N C is z. let r = subst (Refers L e.session) is order.refers in text_within reference (subst (MaySay L e.session) is order.may) r.least r.most) at.says)
      (let same = minimum_is in grind (arith, nat_tests, same))

  pub no_step_back : Passes O L m cause.RefBack
  no_step_back = subst (λ s. option_map_or (nat_le (known_reference s L)) (reference_said m.said) true ≡ true) (sym at.session)
      (by_body (λ y. option_map_or (nat_le (known_reference e.session L)) (reference_said y) true ≡ true) O L e.session e.body m.said
      (λ uuid is. refl) (λ is. refl)
      (λ reference is. let r = subst (Refers L e.session) is order.refers in at_least reference r.least)
      (λ reference ids N C is z. let r = subst (Refers L e.session) is order.refers in at_least reference r.least) at.says)
    where
      at_least : (reference : ℕ) → known_reference e.session L ≤ reference → nat_le (known_reference e.session L) reference ≡ true
      at_least reference least = grind (arith, nat_tests, least)

  -- ## A commit

  module _ (reference : ℕ) (ids : IdRange) (N : Intent) (is : e.body ≡ Commit reference ids N) where
    range : range_of e ≡ Some ids
    range = ap range_in is

    pub its : ids.session ≡ e.session
    its = subst (λ o. IfSome o (λ (r : IdRange). r.session ≡ e.session)) range (all_get HasOwnIds w.log i e x.world.own_ids at.there)

    ranges_upto : ranges_in (take (i + 1) w.log) ≡ ranges_in L ++ ids ∷ []
    ranges_upto = ap ranges_in (take-get w.log i e at.there) ∙ filter_map-append range_of L (e ∷ []) ∙ ap (λ o. ranges_in L ++ cons_option o []) range

    ranges_whole : ranges_in w.log ≡ (ranges_in L ++ ids ∷ []) ++ ranges_in (drop (i + 1) w.log)
    ranges_whole =
        ap ranges_in (sym (take-append-drop (i + 1) w.log)) ∙ filter_map-append range_of (take (i + 1) w.log) (drop (i + 1) w.log)
        ∙ ap (λ l. l ++ ranges_in (drop (i + 1) w.log)) ranges_upto

    pub first : ids.first ≡ carried_in L e.session + 1
    first =
        let R = ranges_in L in
        let more = ranges_in (drop (i + 1) w.log) in
        let turn = subst AreInTurn (ranges_whole ∙ append_assoc R (ids ∷ []) more) x.world.ranges in
        (front_in_turn [] R (ids ∷ more) turn).1 ∙ ap (λ s. carried_count s R + 1) its

    pub count : carried_in L e.session + ids.count ≤ n
    count =
        let R = ranges_in L in
        let more = ranges_in (drop (i + 1) w.log) in
        let all : carried_count e.session (ranges_in w.log) ≡ carried_count e.session ((R ++ ids ∷ []) ++ more) = ap (carried_count e.session) ranges_whole in
        let few = x.order.carried e.session in
        omega (arith, all, few, carried_least e.session (R ++ ids ∷ []) more, carried_own e.session R ids its)

    -- its commit comes behind those before it
    commits_upto : commits_in (take (i + 1) w.log) ≡ commits_in L ++ N ∷ []
    commits_upto = ap commits_in (take-get w.log i e at.there) ∙ filter_map-append commit_of L (e ∷ []) ∙ ap (λ b. commits_in L ++ cons_option (commit_in b) []) is

    pub commits_whole : commits_in w.log ≡ (commits_in L ++ N ∷ []) ++ commits_in (drop (i + 1) w.log)
    commits_whole = commits_split (i + 1) w.log ∙ ap (λ l. l ++ commits_in (drop (i + 1) w.log)) commits_upto

    own : N.rev.session ≡ e.session
    own = subst (λ o. IfSome o (λ (M : Intent). M.rev.session ≡ e.session)) (ap commit_in is) (all_get IsEntryOf w.log i e x.world.log at.there)

    new_revision : list_any (λ (M : Intent). same_rev M.rev N.rev) (commits_in L) ≡ false
    new_revision = refuted-false (list_any (λ (M : Intent). same_rev M.rev N.rev) (commits_in L)) (λ some.
        let M = any-has (λ (M : Intent). same_rev M.rev N.rev) (commits_in L) some in
        let once = distinct-left (λ (K : Intent). K.rev) (commits_in L ++ N ∷ []) (commits_in (drop (i + 1) w.log)) (subst (AreDistinct (λ (K : Intent). K.rev)) commits_whole x.world.log_new.once) in
        distinct-between (λ (K : Intent). K.rev) (commits_in L) (N ∷ []) M.0 N once M.1 (inl refl) (sym (same_rev-true M.0.rev N.rev M.2)))

    -- where its author wrote it
    written : IsWritten O (author_list L e.session reference) N
    written = logged_written h w x.world.header x.authors i e reference ids N at.there is

    -- it agrees with its schema there
    lined : AreALine h (author_list L e.session reference ++ N ∷ [])
    lined = subst (λ l. AreALine h (l ++ N ∷ [])) (append-nil (author_list L e.session reference)) (subst (IsWrittenSo (AreALine h) L e.session []) is (x.schemas.log i e at.there)).1

    all_there : (K : Intent) → Has (commits_in L) K → Has (commits_in w.log) K
    all_there K j = subst (λ l. Has l K) (sym commits_whole) (append_left (commits_in L ++ N ∷ []) (commits_in (drop (i + 1) w.log)) K (append_left (commits_in L) (N ∷ []) K j))

    before_new : HaveNewRevisions (opening ∷ []) (commits_in L)
    before_new = record {
      once = distinct-left (λ (K : Intent). K.rev) (commits_in L) (N ∷ []) (distinct-left (λ (K : Intent). K.rev) (commits_in L ++ N ∷ []) (commits_in (drop (i + 1) w.log)) (subst (AreDistinct (λ (K : Intent). K.rev)) commits_whole x.world.log_new.once));
      new = λ K j. x.world.log_new.new K (all_there K j);
    }

    module _ (C : Change) (z : IsWrittenAs O L e.session reference N C) where
      author : written.author ≡ z.author
      author = one_run written.stands z.stands

      pub fits : Fits z.author N
      fits = subst (λ D. Fits D N) author written.fits

      -- it keeps to its schema
      keeps_schema : C.base ≡ true → KeepsInContext O L e.session reference C
      keeps_schema base =
          let a : AuthorsIntent O L e.session reference C = record { document = z.author; ran = z.stands; intent = N; fits = fits; embeds = z.embeds } in
          let A = author_list L e.session reference in
          let among = author_among L e.session reference in
          let effect = z.embeds.base.0 base in
          keeps_as_one O L e.session reference C a (subst IsSoundInForm author written.sound)
          (passes_schema lined.0 O A N lined.1 refl z.author z.stands (commits_in L) among before_new effect)
          (has_room lined.0 O A N lined.1 refl z.author z.stands (commits_in L) among before_new effect)

      names : names_of_change C ≤ names_made N
      names = few_names z.author N C (subst IsSoundInForm author written.sound) fits z.embeds

      names_low : names_in (commits_in L) + names_made N ≤ 131072
      names_low =
          let more = commits_in (drop (i + 1) w.log) in
          let all : names_in (commits_in w.log) ≡ names_in ((commits_in L ++ N ∷ []) ++ more) = ap names_in commits_whole in
          let few = x.world.few_names in
          let one : names_in (N ∷ []) ≡ names_made N + 0 = refl in
          omega (arith, all, few, one, names_append (commits_in L ++ N ∷ []) more, names_append (commits_in L) (N ∷ []))

      carries : n ≤ most_ids → ids_are_next L e.session (said.Commit reference ids (Some C)) ≡ true
      carries few =
          let a : (ids.session == e.session) ≡ true = grind (arith, nat_tests, its) in
          let b : (ids.first == carried_in L e.session + 1) ≡ true = grind (arith, nat_tests, first) in
          let c : nat_le (carried_in L e.session + ids.count) most_ids ≡ true = grind (arith, nat_tests, count, few) in
          and-both (is_next_range L e.session ids) true (and-both (ids.session == e.session) ((ids.first == carried_in L e.session + 1) && nat_le (carried_in L e.session + ids.count) most_ids) a (and-both (ids.first == carried_in L e.session + 1) (nat_le (carried_in L e.session + ids.count) most_ids) b c)) refl

      is_new : is_new_revision L e.session C.rev ≡ true
      is_new = subst (λ r. is_new_revision L e.session r ≡ true) (sym z.embeds.rev) (
          let a : (N.rev.session == e.session) ≡ true = grind (arith, nat_tests, own) in
          and-both (N.rev.session == e.session) (not (list_any (λ (M : Intent). same_rev M.rev N.rev) (commits_in L))) a (ap not new_revision))

      room : (length L < 65535) × (names_made N ≤ 2048) → has_room_to_say L (said.Commit reference ids (Some C)) ≡ true
      room few = and-both (has_room_for_entry L) (has_room_for_names L (names_of_change C)) (entry_room L few.0) (
          let a : nat_le (names_of_change C) 2048 ≡ true = let low = few.1 in grind (arith, nat_tests, names, low) in
          and-both (nat_le (names_of_change C) 2048) (not (is_some (log_limit_passed L (names_of_change C)))) a (names_room L (names_of_change C) few.0 (omega (arith, names, names_low))))

      pub context : HasContext O L e.session reference C
      context = record {
        meant = record { document = z.author; ran = z.stands; intent = N; fits = fits; embeds = z.embeds };
        under = subst (Has (known_revisions (author_list L e.session reference))) (sym z.embeds.under) known;
      }
        where
          A : List Intent
          A = author_list L e.session reference

          earlier : AreUnderEarlier (opening ∷ []) (A ++ N ∷ [])
          earlier = lined.1.line.earlier

          known : Has (known_revisions A) N.under
          known = elim (made_revision (opening ∷ []) A N.under (last_under (opening ∷ []) A N earlier)) [
            | inl j ↦ append_right (revisions A) (opening ∷ []) N.under j
            | inr j ↦ append_left (revisions A) (opening ∷ []) N.under j
          ]

  pub has_ids : n ≤ most_ids → Passes O L m cause.Ids
  has_ids few = subst (λ s. ids_are_next L s m.said ≡ true) (sym at.session) (by_body (λ y. ids_are_next L e.session y ≡ true) O L e.session e.body m.said
      (λ uuid is. refl) (λ is. refl) (λ reference is. refl) (λ reference ids N C is z. carries reference ids N is C z few) at.says)

  pub has_revision : Passes O L m cause.Revision
  has_revision = subst (λ s. revision_is_new L s m.said ≡ true) (sym at.session) (by_body (λ y. revision_is_new L e.session y ≡ true) O L e.session e.body m.said
      (λ uuid is. refl) (λ is. refl) (λ reference is. refl) (λ reference ids N C is z. is_new reference ids N is C z) at.says)

  pub has_space : Passes O L m cause.Limit
  has_space = by_body (λ y. has_room_to_say L y ≡ true) O L e.session e.body m.said
      (λ uuid is. let r = subst (HasRoom L) is order.room in and-both (has_room_for_entry L) (nat_lt (connected_in L) 64) (entry_room L r.0) (few_connected L r.1))
      (λ is. entry_room L (subst (HasRoom L) is order.room)) (λ reference is. entry_room L (subst (HasRoom L) is order.room))
      (λ reference ids N C is z. room reference ids N is C z (subst (HasRoom L) is order.room)) at.says

  pub in_context : Passes O L m cause.Context
  in_context = subst (λ s. SaysInContext O L s m.said) (sym at.session) (by_body (λ y. SaysInContext O L e.session y) O L e.session e.body m.said
      (λ uuid is. tt) (λ is. tt) (λ reference is. tt) (λ reference ids N C is z. context reference ids N is C z) at.says)

  pub keeps_to_schema : Passes O L m cause.Schema
  keeps_to_schema = subst (λ s. SaysBySchema O L s m.said) (sym at.session) (by_body (λ y. SaysBySchema O L e.session y) O L e.session e.body m.said
      (λ uuid is. tt) (λ is. tt) (λ reference is. tt) (λ reference ids N C is z. keeps_schema reference ids N is C z) at.says)

  pub is_valid : n ≤ most_ids → IsValid O L m
  is_valid few cause.Shape = tt
  is_valid few cause.Sequence = in_sequence
  is_valid few cause.Session = of_session
  is_valid few cause.Window = in_window
  is_valid few cause.RefBack = no_step_back
  is_valid few cause.Ids = has_ids few
  is_valid few cause.Revision = has_revision
  is_valid few cause.Limit = has_space
  is_valid few cause.Context = in_context
  is_valid few cause.Schema = keeps_to_schema

-- ## Each entry has a message

module _ (h : HeaderView) (n : ℕ) (w : WorldState) (x : SendsInOrder h n w) (i : ℕ) (e : Entry) (there : slice_get w.log i ≡ Some e) where
  says_something : (b : Body) → e.body ≡ b → (s : Said) × SaysAs (opening_document h) (take i w.log) e.session b s
  says_something (Join uuid) is = (said.Join uuid, refl)
  says_something Leave is = (said.Leave, refl)
  says_something (Ack reference) is = (said.Ack reference, refl)
  says_something (Commit reference ids N) is =
      let z = logged_written h w x.world.header x.authors i e reference ids N there is in
      (said.Commit reference ids (Some z.change), (z.change, record { author = z.author; stands = z.stands; embeds = z.embeds }, refl))

  pub has_message : (m : Message) × IsMessageAt (opening_document h) w.log i m
  has_message =
      let s = says_something e.body refl in
      let m : Message = record { n = i + 1; min = minimum (take (i + 1) w.log); session = e.session; said = s.0 } in
      (m, record { entry = e; there = there; number = refl; min = refl; session = refl; says = s.1 })

-- ## A log of valid messages

module _ (h : HeaderView) (n : ℕ) (w : WorldState) (x : SendsInOrder h n w) where
  -- an entry is what its message says
  pub body_said : (i : ℕ) (m : Message) (at : IsMessageAt (opening_document h) w.log i m) → IsBodyOf (opening_document h) (take i w.log) m.session m.said at.entry.body
  body_said i m at = subst (λ s. IsBodyOf O L s m.said at.entry.body) (sym at.session) (by_body (λ y. IsBodyOf O L at.entry.session y at.entry.body) O L at.entry.session at.entry.body m.said
      (λ uuid is. is) (λ is. is) (λ reference is. is)
      (λ reference ids N C is z. (record { document = z.author; ran = z.stands; intent = N; fits = fits h n w x i m at reference ids N is C z; embeds = z.embeds }, is)) at.says)
    where
      O : Document
      O = opening_document h

      L : List Entry
      L = take i w.log

  module _ (each : (i : ℕ) (m : Message) → IsMessageAt (opening_document h) w.log i m → IsValid (opening_document h) (take i w.log) m) where
    fronts : (i : ℕ) → i ≤ length w.log → IsValidLog (opening_document h) (take i w.log)
    fronts zero few = no_message
    fronts (suc i) few = let one : i + 1 ≡ suc i = omega arith in subst (λ k. IsValidLog (opening_document h) (take k w.log)) one (go (slice_get w.log i) refl (fronts i (omega (arith, few))))
      where
        go : (o : Option Entry) → slice_get w.log i ≡ o → IsValidLog (opening_document h) (take i w.log) → IsValidLog (opening_document h) (take (i + 1) w.log)
        go None q before = absurd (past w.log i (omega (arith, few)) q)
        go (Some e) q before =
            let message = has_message h n w x i e q in
            let m = message.0 in
            let at = message.1 in
            let more = one_message_more before m (each i m at) at.entry.body (body_said i m at) in
            subst (IsValidLog (opening_document h)) (ap (λ s. log_with (take i w.log) s at.entry.body) at.session ∙ sym (upto h n w x i m at)) more

    pub valid_log : IsValidLog (opening_document h) w.log
    valid_log = subst (IsValidLog (opening_document h)) (take_all (length w.log) w.log (omega arith)) (fronts (length w.log) (omega arith))
