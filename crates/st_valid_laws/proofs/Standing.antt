-- The commits of a log of valid messages fit in turn, and so do those over which a session writes.
use Rattle.std.proofs.Common.{◌≡◌, ◌≤◌, ◌<◌, ◌+◌, ◌==◌, ℕ, Bool, true, false, cond, max, nat_le, nat_lt, not, is_some, List, [], ◌∷◌, ◌++◌, length, length-append, Some, None, refl, sym, ap, ◌∙◌, subst, arith, ◌⊎◌, inl, inr}
use Rattle.std.specs.Option.{option_map_or}
use Rattle.std.proofs.lemmas.Bool.Decides.{nat_tests}
use Rattle.std.proofs.lemmas.List.{append-nil}
use Rattle.std.proofs.lemmas.List.Sums.{fold_push}
use Rattle.st_ids.specs.Listing.{Has}
use Rattle.st_ids.specs.Root.{opening}
use Rattle.st_ids.specs.declared.names.Limit.{Limit}
use Rattle.st_ids.specs.declared.names.LimitOf.TheVariants.{Log, Names}
use Rattle.st_ids.specs.declared.names.Rev.{Rev}
use Rattle.st_lemmas.proofs.Bools.{and-second}
use Rattle.st_lemmas.proofs.Lists.{map-append}
use Rattle.st_marks.specs.declared.intents.Intent.{Intent}
use Rattle.st_marks.specs.Document.{Document, IsSoundInForm}
use Rattle.st_marks.proofs.Members.{append_left, append_right, has-append, has-map, map-has}
use Rattle.st_log_laws.specs.Names.{IsMadeUnder, revisions}
use Rattle.st_log_laws.specs.Turns.{FitInTurn, HasRoom, IsSublist}
use Rattle.st_log_laws.proofs.Beside.{later_fits}
use Rattle.st_log_laws.proofs.Shorter.{has_longer, room_shorter, sublist_itself, sublist_joined}
use Rattle.st_log_laws.proofs.Turns.{turn_extends}
use Rattle.st_lists.specs.Log.{commits_by, commits_in, commits_of_text, known_reference, log_with, reference_in, with_reference}
use Rattle.st_lists.specs.Names.{names_in}
use Rattle.st_lists.specs.declared.lists.Body.{Body}
use Rattle.st_lists.specs.declared.lists.Entry.{Entry}
use Rattle.st_lists.proofs.Logs.{by_own_text, by_other, last_entry}
use Rattle.st_lists.proofs.Names.{cells_few, names_append}
use Rattle.st_valid.specs.Author.{author_list}
use Rattle.st_valid.specs.Context.{HasContext, SaysInContext, known_revisions}
use Rattle.st_valid_laws.specs.Messages.{IsBodyOf, IsValid, IsValidLog, no_message, one_message_more}
use Rattle.st_valid.specs.References.{reference_said}
use Rattle.st_valid.specs.Room.{HasRoomForNames, has_room_for_entry, has_room_for_names, has_room_to_say, names_of_change}
use Rattle.st_valid.specs.declared.message.Message.{Message}
use Rattle.st_valid.specs.declared.message.ReplayCause.TheVariants as cause
use Rattle.st_valid.proofs.AuthorsLists.{author_among, author_grows, author_later, author_past}
use Rattle.st_valid.proofs.NamesOfChanges.{no_more_names}
use Rattle.st_valid_laws.proofs.ValidLogs.{HasNoCommit, IsCommit, commit_entered, commit_or_none, no_commit_entered, revision_comes}

-- ## Revisions of parts

pub part_revisions : (As Bs : List Intent) (r : Rev) → IsSublist As Bs → Has (known_revisions As) r → Has (known_revisions Bs) r
part_revisions As Bs r g h = elim (has-append (revisions As) (opening ∷ []) r h) [
  | inl i ↦ (let m = has-map (λ (N : Intent). N.rev) As r i in append_left (revisions Bs) (opening ∷ []) r (subst (Has (revisions Bs)) m.2 (map-has (λ (N : Intent). N.rev) Bs m.0 (has_longer g m.0 m.1))))
  | inr i ↦ append_right (revisions Bs) (opening ∷ []) r i
]

pushed_revisions : (Bs : List Intent) (N : Intent) (r : Rev) → Has (known_revisions Bs) r → Has (known_revisions (Bs ++ N ∷ [])) r
pushed_revisions Bs N r h = elim (has-append (revisions Bs) (opening ∷ []) r h) [
  | inl i ↦ append_left (revisions (Bs ++ N ∷ [])) (opening ∷ []) r (subst (λ rs. Has rs r) (sym (map-append (λ (N : Intent). N.rev) Bs (N ∷ []))) (append_left (revisions Bs) (N.rev ∷ []) r i))
  | inr i ↦ append_right (revisions (Bs ++ N ∷ [])) (opening ∷ []) r i
]

-- ## Room for names

pub room_of_names : (O : Document) (Ns : List Intent) → HasRoomForNames O → names_in Ns ≤ 131072 → HasRoom O Ns
room_of_names O Ns roomy few n = omega (arith, roomy n, few, cells_few Ns)

abbrev full : List Entry → Limit
full log = record { of = Log; kept = length log }

abbrev all_names : List Entry → Limit
all_names log = record { of = Names; kept = names_in (commits_in log) }

-- what the test of room says of the log's names
names_left : (log : List Entry) (names : ℕ) → has_room_for_names log names ≡ true → names_in (commits_in log) + names ≤ 131072
names_left log names h = go (nat_le 65535 (length log)) (nat_lt 131072 (names_in (commits_in log) + names)) refl (and-second _ _ h)
  where
    go : (a b : Bool) → nat_lt 131072 (names_in (commits_in log) + names) ≡ b → not (is_some (cond a (Some (full log)) (cond b (Some (all_names log)) None))) ≡ true → names_in (commits_in log) + names ≤ 131072
    go true b e h = cc
    go false true e h = cc
    go false false e h = grind (arith, nat_tests)

-- ## Lists of commits that stand

-- they fit in turn, and each was made under the opening's schema or that of another of them
pub record Stands (O : Document) (Ns : List Intent) : Type 0 where
  pub fit : FitInTurn O Ns
  pub closed : (M : Intent) → Has Ns M → Has (known_revisions Ns) M.under

-- all commits of a log do, and those over which a session writes from its known reference on
pub record AllStand (O : Document) (log : List Entry) : Type 0 where
  pub names : names_in (commits_in log) ≤ 131072
  pub whole : Stands O (commits_in log)
  pub authors : (s r : ℕ) → known_reference s log ≤ r → Stands O (author_list log s r)

none_stands : (O : Document) → Stands O []
none_stands O = record { fit = tt; closed = λ M h. absurd h }

module _ (O : Document) (sound : IsSoundInForm O) (made : IsMadeUnder (opening ∷ []) O) (roomy : HasRoomForNames O) where
  -- ## One more commit

  module _ (log : List Entry) (m : Message) (body : Body) (before : IsValidLog O log) (valid : IsValid O log m) (c : IsCommit O log m.session m.said body) (all : AllStand O log) where
    abbrev author : List Intent
    author = author_list log m.session c.reference

    no_back : known_reference m.session log ≤ c.reference
    no_back = let t : nat_le (known_reference m.session log) c.reference ≡ true = subst (λ q. option_map_or (nat_le (known_reference m.session log)) (reference_said q) true ≡ true) c.says_so (valid cause.RefBack) in grind (arith, nat_tests)

    pub author_stands : Stands O (author_list log m.session c.reference)
    author_stands = all.authors m.session c.reference no_back

    pub context : HasContext O log m.session c.reference c.change
    context = subst (λ q. SaysInContext O log m.session q) c.says_so (valid cause.Context)

    few : names_in (commits_in log ++ c.meant.intent ∷ []) ≤ 131072
    few =
        let room : has_room_for_names log (names_of_change c.change) ≡ true = and-second (has_room_for_entry log) (has_room_for_names log (names_of_change c.change)) (subst (λ q. has_room_to_say log q ≡ true) c.says_so (valid cause.Limit)) in
        let head_sound = (turn_extends sound author_stands.fit c.meant.ran).after in
        omega (arith, names_append (commits_in log) (c.meant.intent ∷ []), names_left log (names_of_change c.change) room, no_more_names c.meant.document c.meant.intent c.change head_sound c.meant.fits c.meant.embeds)

    one_more_stands : (Bs : List Intent) → IsSublist author Bs → IsSublist Bs (commits_in log) → Stands O Bs → Stands O (Bs ++ c.meant.intent ∷ [])
    one_more_stands Bs over part stands = record {
      fit = later_fits (opening ∷ []) O c.meant.document author Bs c.meant.intent sound made over author_stands.fit stands.fit c.meant.ran c.meant.fits
          (λ h. revision_comes O log m before valid c (part_revisions Bs (commits_in log) c.meant.intent.rev part h))
          (room_shorter O (Bs ++ c.meant.intent ∷ []) (commits_in log ++ c.meant.intent ∷ []) (sublist_joined part (sublist_itself (c.meant.intent ∷ []))) (room_of_names O (commits_in log ++ c.meant.intent ∷ []) roomy few));
      closed = λ M h. elim (has-append Bs (c.meant.intent ∷ []) M h) [
        | inl i ↦ pushed_revisions Bs c.meant.intent M.under (stands.closed M i)
        | inr i ↦ last M i
      ];
    }
      where
        own : Has (known_revisions Bs) c.meant.intent.under
        own = part_revisions author Bs c.meant.intent.under over (subst (Has (known_revisions author)) c.meant.embeds.under context.under)

        last : (M : Intent) → Has (c.meant.intent ∷ []) M → Has (known_revisions (Bs ++ c.meant.intent ∷ [])) M.under
        last M (inl q) = pushed_revisions Bs c.meant.intent M.under (subst (λ (K : Intent). Has (known_revisions Bs) K.under) q own)
        last M (inr q) = absurd q

  -- ## One more entry

  -- what is known of a session doesn't fall
  known_rises : (log : List Entry) (t : ℕ) (body : Body) (s : ℕ) → known_reference s log ≤ known_reference s (log_with log t body)
  known_rises log t body s = go (t == s) (fold_push (with_reference s) 0 log (last_entry log t body))
    where
      go : (b : Bool) → known_reference s (log_with log t body) ≡ cond b (max (known_reference s log) (reference_in (length log + 1) body)) (known_reference s log) → known_reference s log ≤ known_reference s (log_with log t body)
      go true e = omega (arith, e)
      go false e = omega (arith, e)

  known_own : (log : List Entry) (s : ℕ) (body : Body) → reference_in (length log + 1) body ≤ known_reference s (log_with log s body)
  known_own log s body =
      let itself : (s == s) ≡ true = grind (arith, nat_tests) in
      let is : known_reference s (log_with log s body) ≡ max (known_reference s log) (reference_in (length log + 1) body) =
      fold_push (with_reference s) 0 log (last_entry log s body) ∙ ap (λ b. cond b (max (known_reference s log) (reference_in (length log + 1) body)) (known_reference s log)) itself in
      omega (arith, is)

  no_more_own : (log : List Entry) (t : ℕ) (body : Body) (s r : ℕ) → r ≤ length log → commits_by s (last_entry log t body ∷ []) ≡ [] → author_list (log_with log t body) s r ≡ author_list log s r
  no_more_own log t body s r within none =
      author_grows log (last_entry log t body ∷ []) s r within ∙ ap (λ Ns. author_list log s r ++ Ns) none ∙ append-nil (author_list log s r)

  module _ (log : List Entry) (m : Message) (body : Body) (before : IsValidLog O log) (valid : IsValid O log m) (is : IsBodyOf O log m.session m.said body) (all : AllStand O log) where
    abbrev longer : List Entry
    longer = log_with log m.session body

    size : length longer ≡ length log + 1
    size = length-append log (last_entry log m.session body ∷ [])

    kind : HasNoCommit body ⊎ IsCommit O log m.session m.said body
    kind = commit_or_none O log m.session m.said body is

    names_more : names_in (commits_in longer) ≤ 131072
    names_more = elim kind [
      | inl none ↦ subst (λ Ns. names_in Ns ≤ 131072) (sym (no_commit_entered log m.session body none)) all.names
      | inr c ↦ subst (λ Ns. names_in Ns ≤ 131072) (sym (commit_entered log m.session body c)) (few log m body before valid c all)
    ]

    whole_more : Stands O (commits_in longer)
    whole_more = elim kind [
      | inl none ↦ subst (Stands O) (sym (no_commit_entered log m.session body none)) all.whole
      | inr c ↦ subst (Stands O) (sym (commit_entered log m.session body c))
          (one_more_stands log m body before valid c all (commits_in log) (author_among log m.session c.reference) (sublist_itself (commits_in log)) all.whole)
    ]

    own_more : (r : ℕ) → known_reference m.session longer ≤ r → r ≤ length log → Stands O (author_list longer m.session r)
    own_more r low within = elim kind [
      | inl none ↦ subst (Stands O) (sym (no_more_own log m.session body m.session r within (by_own_text log m.session body ∙ none.commits))) (all.authors m.session r (omega (arith, known_rises log m.session body m.session, low)))
      | inr c ↦ (let one : commits_by m.session (last_entry log m.session body ∷ []) ≡ c.meant.intent ∷ [] = by_own_text log m.session body ∙ ap commits_of_text c.is in
          let back : c.reference ≤ r = omega (arith, known_own log m.session body, ap (reference_in (length log + 1)) c.is, low) in
          subst (Stands O) (sym (author_grows log (last_entry log m.session body ∷ []) m.session r within ∙ ap (λ Ns. author_list log m.session r ++ Ns) one))
          (one_more_stands log m body before valid c all (author_list log m.session r) (author_later log m.session c.reference r back) (author_among log m.session r)
          (all.authors m.session r (omega (arith, known_rises log m.session body m.session, low)))))
    ]

    authors_more : (s r : ℕ) → known_reference s longer ≤ r → Stands O (author_list longer s r)
    authors_more s r low = go (nat_le r (length log)) (m.session == s) refl refl
      where
        go : (a b : Bool) → nat_le r (length log) ≡ a → (m.session == s) ≡ b → Stands O (author_list longer s r)
        go false b e f = let past : length log < r = grind (arith, nat_tests) in subst (Stands O) (sym (author_past longer s r (omega (arith, size, past)))) whole_more
        go true false e f =
            let within : r ≤ length log = grind (arith, nat_tests) in
            subst (Stands O) (sym (no_more_own log m.session body s r within (by_other s (last_entry log m.session body) [] f))) (all.authors s r (omega (arith, known_rises log m.session body s, low)))
        go true true e f =
            let within : r ≤ length log = grind (arith, nat_tests) in
            let own : m.session ≡ s = grind (arith, nat_tests) in
            subst (λ t. Stands O (author_list longer t r)) own (own_more r (subst (λ t. known_reference t longer ≤ r) (sym own) low) within)

  pub all_stand : {log : List Entry} → IsValidLog O log → AllStand O log
  all_stand no_message = record { names = omega arith; whole = none_stands O; authors = λ s r low. subst (Stands O) (sym (author_past [] s r (omega arith))) (none_stands O) }
  all_stand (one_message_more {log} before m valid body is) = let all = all_stand before in record {
    names = names_more log m body before valid is all;
    whole = whole_more log m body before valid is all;
    authors = authors_more log m body before valid is all;
  }
