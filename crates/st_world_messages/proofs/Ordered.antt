-- Whatever a step leads to, all comes in order again.
use Rattle.std.proofs.Common.{◌≡◌, ◌≢◌, ◌≤◌, ◌<◌, ◌+◌, ◌*◌, ◌^◌, ◌==◌, ◌&&◌, ℕ, true, false, List, [], ◌∷◌, ◌++◌, length, length-append, not, Option, Some, None, IfSome, inl, inr, refl, sym, ap, ◌∙◌, subst, arith}
use Rattle.std.specs.List.{AllByRecursion, remove, slice_get, slice_set}
use Rattle.std.proofs.lemmas.Bool.Decides.{nat_tests}
use Rattle.st_lemmas.proofs.Bools.{and-both, or-left, or-right}
use Rattle.st_lemmas.proofs.FirstItems.{list_any-push}
use Rattle.st_lemmas.proofs.Lists.{AllByRecursion-append}
use Rattle.st_ids.specs.Listing.{Has}
use Rattle.st_ids.proofs.Shared.{at_has}
use Rattle.st_clusters.specs.Free.{is_v4}
use Rattle.st_clusters.proofs.Rounds.{uuid_is_v4}
use Rattle.st_carried_ids.specs.CarriedIds.{CarryFew}
use Rattle.st_marks.specs.declared.intents.Intent.{Intent}
use Rattle.st_marks.proofs.Members.{all-has, append_left, append_right, has-append}
use Rattle.st_script.specs.Header.{HeaderView}
use Rattle.st_lists.specs.Clients.{carried_of, empty_state, new_client, with_connection, without_connection}
use Rattle.st_lists.specs.Lines.{own_of}
use Rattle.st_lists.specs.Limits.{log_limit_passed}
use Rattle.st_lists.specs.Log.{clashes, commits_of_text, intents_of, is_connected, is_text, known_reference, log_with, own_in_flight, reference_in, sessions_in, waiting}
use Rattle.st_lists.specs.Names.{names_in_text, names_made}
use Rattle.st_lists.specs.declared.lists.Body.{Body}
use Rattle.st_lists.specs.declared.lists.Body.TheVariants.{Join, Leave, Ack, Commit}
use Rattle.st_lists.specs.declared.lists.Client.{Client}
use Rattle.st_lists.specs.declared.lists.Entry.{Entry}
use Rattle.st_lists.specs.declared.lists.WorldState.{WorldState}
use Rattle.st_lists.proofs.Logs.{last_entry}
use Rattle.st_lists.proofs.Present.{are_apart, connected_goes, connected_joined, connected_left, connected_stays, rest_fewer, sessions_entered, text_stays}
use Rattle.st_valid.specs.Sessions.{comes_back, has_joined, is_new_session, tells}
use Rattle.st_world.specs.World.{uuid_for}
use Rattle.st_world_laws.specs.Worlds.{IsClient, IsWorld}
use Rattle.st_world_laws.proofs.Clients.{queue_first}
use Rattle.st_world_laws.proofs.Entering.{within_log}
use Rattle.st_world_laws.proofs.Everyone.{all_as, all_get, all_set}
use Rattle.st_world_messages.specs.Order.{EntersInOrder, IsOrdered, Rise, SpeaksInOrder}
use Rattle.st_world_messages.specs.Steps.{GoesOn, IsVersion4, LeadsTo, RefersTo, drops, goes, joins, leaves, own_commits, returns, sends, stays}
use Rattle.st_world_messages.proofs.Counts.{all_but_gone, all_but_set, connected_few, connected_fewer, each_more, known_beside, known_own, known_within, nothing_yet, set_size}
use Rattle.st_world_messages.proofs.Over.{refer_anew}

-- ## References that rise

rise_ends : (low high : ℕ) (texts : List Body) → Rise low high texts → low ≤ high
rise_ends low high [] x = x
rise_ends low high (text ∷ texts) x = let rest = rise_ends (reference_in 0 text) high texts x.1 in omega (arith, x.0, rest)

rise_from : (low less high : ℕ) (texts : List Body) → less ≤ low → Rise low high texts → Rise less high texts
rise_from low less high [] few x = omega (arith, few, x)
rise_from low less high (text ∷ texts) few x = (omega (arith, few, x.0), x.1)

refers_so : (n : ℕ) (text : Body) → RefersTo n text → reference_in 0 text ≡ n
refers_so n (Join uuid) x = absurd x
refers_so n Leave x = absurd x
refers_so n (Ack reference) x = x
refers_so n (Commit reference ids N) x = x

rise_at : (low high : ℕ) (texts : List Body) → low ≤ high → AllByRecursion (RefersTo high) texts → Rise low high texts
rise_at low high [] few x = few
rise_at low high (text ∷ texts) few x =
    let is = refers_so high text x.0 in
    (omega (arith, few, is), rise_at (reference_in 0 text) high texts (omega (arith, is)) x.1)

rise_more : (low high more : ℕ) (texts behind : List Body) → Rise low high texts → high ≤ more → AllByRecursion (RefersTo more) behind → Rise low more (texts ++ behind)
rise_more low high more [] behind x few all = rise_at low more behind (omega (arith, x, few)) all
rise_more low high more (text ∷ texts) behind x few all = (x.0, rise_more (reference_in 0 text) high more texts behind x.1 few all)

same_reference : (n : ℕ) (text : Body) → is_text text ≡ true → reference_in n text ≡ reference_in 0 text
same_reference n (Join uuid) x = cc
same_reference n Leave x = cc
same_reference n (Ack reference) x = refl
same_reference n (Commit reference ids N) x = refl

-- ## Who has joined

joined_still : (log : List Entry) (session : ℕ) (body : Body) (s u : ℕ) → has_joined s u log ≡ true → has_joined s u (log_with log session body) ≡ true
joined_still log session body s u h = list_any-push (tells s u) log (last_entry log session body) ∙ or-left (has_joined s u log) (tells s u (last_entry log session body)) h

joined_now : (log : List Entry) (s u : ℕ) → has_joined s u (log_with log s (Join u)) ≡ true
joined_now log s u = list_any-push (tells s u) log (last_entry log s (Join u)) ∙ or-right (has_joined s u log) (tells s u (last_entry log s (Join u))) (and-both (s == s) (u == u) (itself s) (itself u))
  where
    itself : (n : ℕ) → (n == n) ≡ true
    itself n = grind (arith, nat_tests)

-- ## Before any client joins

pub begun_order : IsOrdered 0 empty_state
begun_order = record {
  log = nothing_yet EntersInOrder;
  clients = tt;
  connected = record { each = λ c i. absurd i; no_other = λ s e. absurd (none e) };
  few = omega arith;
  sessions = omega arith;
  known = λ s. omega arith;
  carried = λ s. omega arith;
}
  where
    none : false ≡ true → ⊥
    none e = cc

-- ## A client

-- it stays so where steps are counted, and another session's entry comes
module _ (n : ℕ) (log : List Entry) where
  later : (c : Client) → SpeaksInOrder n log c → SpeaksInOrder (n + 1) log c
  later c x = record { joined = x.joined; rise = x.rise; small = x.small; ids = omega (arith, x.ids) }

  beside : (session : ℕ) (body : Body) (d : Client) → d.session ≢ session → SpeaksInOrder n log d → SpeaksInOrder (n + 1) (log_with log session body) d
  beside session body d apart x = record {
    joined = joined_still log session body d.session d.uuid x.joined;
    rise = subst (λ k. Rise k d.received d.queue) (sym (known_beside log session body d.session (are_apart session d.session apart))) x.rise;
    small = x.small;
    ids = omega (arith, x.ids);
  }

  goes_so : (c d : Client) → GoesOn c d → SpeaksInOrder n log c → SpeaksInOrder (n + 1) log d
  goes_so c d g x = record {
    joined = subst (λ s. has_joined s d.uuid log ≡ true) (sym g.session) (subst (λ u. has_joined c.session u log ≡ true) (sym g.uuid) x.joined);
    rise = subst (λ s. Rise (known_reference s log) d.received d.queue) (sym g.session) (subst (Rise (known_reference c.session log) d.received) (sym g.queue) (rise_more (known_reference c.session log) c.received d.received c.queue g.written x.rise g.received g.refer));
    small = λ N i. elim (g.commits N i) [ inl j ↦ x.small N j | inr few ↦ few ];
    ids = omega (arith, g.ids, x.ids);
  }

module _ (h : HeaderView) (n : ℕ) (w : WorldState) (s : IsWorld h w) (o : IsOrdered n w) where
  -- one more step is counted
  all_later : AllByRecursion (SpeaksInOrder (n + 1) w.log) w.clients
  all_later = all_as (SpeaksInOrder n w.log) (SpeaksInOrder (n + 1) w.log) w.clients (later n w.log) o.clients

  size : (session : ℕ) (body : Body) → length (log_with w.log session body) ≡ length w.log + 1
  size session body = length-append w.log (last_entry w.log session body ∷ [])

  known : (session : ℕ) (body : Body) → reference_in (length w.log + 1) body ≤ length w.log + 1 → (t : ℕ) → known_reference t (log_with w.log session body) ≤ length (log_with w.log session body)
  known session body low t = omega (arith, size session body, known_within w.log session body o.known low t)

  module _ (i : ℕ) (c : Client) (at : slice_get w.clients i ≡ Some c) where
    here : Has w.clients c
    here = at_has w.clients i c at

    k : IsClient h w.log c
    k = all_get (IsClient h w.log) w.clients i c s.clients at

    x : SpeaksInOrder n w.log c
    x = all_get (SpeaksInOrder n w.log) w.clients i c o.clients at

    given : c.session ≤ sessions_in w.log
    given = all_get (λ (d : Client). d.session ≤ sessions_in w.log) w.clients i c s.given at

    sessions : (body : Body) → sessions_in (log_with w.log c.session body) ≤ length (log_with w.log c.session body)
    sessions body = omega (arith, size c.session body, sessions_entered w.log c.session body, given, o.sessions)

    within : known_reference c.session w.log ≤ c.received
    within = rise_ends (known_reference c.session w.log) c.received c.queue x.rise

    on_now : c.connected ≡ true → is_connected c.session w.log ≡ true
    on_now on = o.connected.each c here ∙ on

    -- a commit that waits is one of its own
    waits : (N : Intent) → Has (waiting w.log c) N → Has (own_commits c) N
    waits N j = append_left c.pending (own_of c.branches) N (subst (λ l. Has l N) (sym k.under_way) (append_right (own_in_flight w.log c) (waiting w.log c) N j))

    -- ## It goes on

    went : (d : Client) → GoesOn c d → CarryFew n w.log → IsOrdered (n + 1) (record w { clients = slice_set w.clients i d })
    went d g few = record {
      log = o.log;
      clients = all_set (SpeaksInOrder (n + 1) w.log) w.clients i d all_later (goes_so n w.log c d g x);
      connected = connected_stays w.log w.clients i c at s.sessions o.connected d g.session g.connected;
      few = omega (arith, set_size w.clients i d, o.few);
      sessions = o.sessions;
      known = o.known;
      carried = λ t. let q = few t in omega (arith, q);
    }

    -- ## Its oldest text enters the log

    module _ (text : Body) (rest : List Body) (on : c.connected ≡ true) (is : c.queue ≡ text ∷ rest) (room : log_limit_passed w.log (names_in_text text) ≡ None) where
      abbrev longer : List Entry
      longer = log_with w.log c.session text

      texts : AllByRecursion (λ (b : Body). is_text b ≡ true) (text ∷ rest)
      texts = subst (AllByRecursion (λ (b : Body). is_text b ≡ true)) is k.texts

      rises : Rise (known_reference c.session w.log) c.received (text ∷ rest)
      rises = subst (Rise (known_reference c.session w.log) c.received) is x.rise

      high : reference_in 0 text ≤ c.received
      high = rise_ends (reference_in 0 text) c.received rest rises.1

      small : (N : Intent) → Has (commits_of_text text) N → names_made N ≤ 2048
      small N j =
          let first = (queue_first (waiting w.log c) c.connected c.queue rest text k.queued is).1 in
          x.small N (waits N (subst (λ l. Has l N) (sym first) (append_left (commits_of_text text) (intents_of rest) N j)))

      few : length w.log < 65535
      few = (within_log w.log (names_in_text text) room).0

      enters : (b : Body) → text ≡ b → EntersInOrder w.log (last_entry w.log c.session b)
      enters (Join uuid) e = absurd (no (subst (λ b. is_text b ≡ true) e texts.0))
        where
          no : false ≡ true → ⊥
          no q = cc
      enters Leave e = absurd (no (subst (λ b. is_text b ≡ true) e texts.0))
        where
          no : false ≡ true → ⊥
          no q = cc
      enters (Ack reference) e =
          let ref : reference_in 0 text ≡ reference = ap (reference_in 0) e in
          record { number = refl; may = on_now on; refers = record { least = omega (arith, rises.0, ref); most = omega (arith, high, ref, k.within) }; room = few }
      enters (Commit reference ids N) e =
          let ref : reference_in 0 text ≡ reference = ap (reference_in 0) e in
          let names = small N (subst (λ b. Has (commits_of_text b) N) (sym e) (inl refl)) in
          record { number = refl; may = on_now on; refers = record { least = omega (arith, rises.0, ref); most = omega (arith, high, ref, k.within) }; room = (few, names) }

      ref_is : reference_in (length w.log + 1) text ≡ reference_in 0 text
      ref_is = same_reference (length w.log + 1) text texts.0

      sender : SpeaksInOrder (n + 1) longer (record c { queue = rest })
      sender = record {
        joined = joined_still w.log c.session text c.session c.uuid x.joined;
        rise = rise_from (reference_in 0 text) (known_reference c.session longer) c.received rest (omega (arith, known_own w.log c.session text, ref_is, rises.0)) rises.1;
        small = x.small;
        ids = omega (arith, x.ids);
      }

      sent : CarryFew n longer → IsOrdered (n + 1) (record w { log = longer; clients = slice_set w.clients i (record c { queue = rest }) })
      sent carried = record {
        log = each_more EntersInOrder w.log c.session text o.log (enters text refl);
        clients = all_but_set (SpeaksInOrder n w.log) (SpeaksInOrder (n + 1) longer) w.clients i c (record c { queue = rest }) s.sessions at (beside n w.log c.session text) sender o.clients;
        connected = connected_goes w.log w.clients i c at s.sessions o.connected (record c { queue = rest }) text refl (text_stays c.connected text texts.0);
        few = omega (arith, set_size w.clients i (record c { queue = rest }), o.few);
        sessions = sessions text;
        known = known c.session text (omega (arith, ref_is, high, k.within));
        carried = λ t. let q = carried t in omega (arith, q);
      }

    -- ## It leaves, is dropped, or comes back

    gone : c.connected ≡ true → length w.log < 65535 → EntersInOrder w.log (last_entry w.log c.session Leave)
    gone on few = record { number = refl; may = on_now on; refers = tt; room = few }

    left : c.connected ≡ true → length w.log < 65535 → CarryFew n (log_with w.log c.session Leave) → IsOrdered (n + 1) (record w { log = log_with w.log c.session Leave; clients = remove w.clients i })
    left on few carried = record {
      log = each_more EntersInOrder w.log c.session Leave o.log (gone on few);
      clients = all_but_gone (SpeaksInOrder n w.log) (SpeaksInOrder (n + 1) (log_with w.log c.session Leave)) w.clients i c s.sessions at (beside n w.log c.session Leave) o.clients;
      connected = connected_left w.log w.clients i c at s.sessions o.connected;
      few = omega (arith, rest_fewer w.clients i, o.few);
      sessions = sessions Leave;
      known = known c.session Leave (omega arith);
      carried = λ t. let q = carried t in omega (arith, q);
    }

    dropped : c.connected ≡ true → length w.log < 65535 → CarryFew n (log_with w.log c.session Leave) → IsOrdered (n + 1) (record w { log = log_with w.log c.session Leave; clients = slice_set w.clients i (without_connection c) })
    dropped on few carried = record {
      log = each_more EntersInOrder w.log c.session Leave o.log (gone on few);
      clients = all_but_set (SpeaksInOrder n w.log) (SpeaksInOrder (n + 1) (log_with w.log c.session Leave)) w.clients i c (without_connection c) s.sessions at (beside n w.log c.session Leave) alone o.clients;
      connected = connected_goes w.log w.clients i c at s.sessions o.connected (without_connection c) Leave refl refl;
      few = omega (arith, set_size w.clients i (without_connection c), o.few);
      sessions = sessions Leave;
      known = known c.session Leave (omega arith);
      carried = λ t. let q = carried t in omega (arith, q);
    }
      where
        alone : SpeaksInOrder (n + 1) (log_with w.log c.session Leave) (without_connection c)
        alone = record {
          joined = joined_still w.log c.session Leave c.session c.uuid x.joined;
          rise = omega (arith, known_own w.log c.session Leave, within);
          small = x.small;
          ids = omega (arith, x.ids);
        }

    module _ (off : c.connected ≡ false) (few : length w.log < 65535) where
      abbrev again : List Entry
      again = log_with w.log c.session (Join c.uuid)

      abbrev d : Client
      d = with_connection w.log c

      back : EntersInOrder w.log (last_entry w.log c.session (Join c.uuid))
      back =
          let off_now : is_connected c.session w.log ≡ false = o.connected.each c here ∙ off in
          let fewer = connected_fewer w.log w.clients i c at here off o.connected in
          record {
            number = refl;
            may = or-right (is_new_session c.session c.uuid w.log) (comes_back c.session c.uuid w.log) (and-both (not (is_connected c.session w.log)) (has_joined c.session c.uuid w.log) (ap not off_now) x.joined);
            refers = tt;
            room = (few, omega (arith, fewer, o.few));
          }

      anew : SpeaksInOrder (n + 1) again d
      anew = record {
        joined = joined_still w.log c.session (Join c.uuid) c.session c.uuid x.joined;
        rise = rise_at (known_reference c.session again) (length w.log + 1) d.queue (omega (arith, known_own w.log c.session (Join c.uuid), o.known c.session)) (refer_anew (length w.log + 1) c.session (carried_of w.log c) c.ids (waiting w.log c));
        small = λ N j. elim (has-append (waiting w.log c) (own_of c.branches) N j) [ inl q ↦ x.small N (waits N q) | inr q ↦ x.small N (append_right c.pending (own_of c.branches) N q) ];
        ids = omega (arith, x.ids);
      }

      returned : CarryFew n again → IsOrdered (n + 1) (record w { log = again; clients = slice_set w.clients i d })
      returned carried = record {
        log = each_more EntersInOrder w.log c.session (Join c.uuid) o.log back;
        clients = all_but_set (SpeaksInOrder n w.log) (SpeaksInOrder (n + 1) again) w.clients i c d s.sessions at (beside n w.log c.session (Join c.uuid)) anew o.clients;
        connected = connected_goes w.log w.clients i c at s.sessions o.connected d (Join c.uuid) refl refl;
        few = omega (arith, set_size w.clients i d, o.few);
        sessions = sessions (Join c.uuid);
        known = known c.session (Join c.uuid) (omega arith);
        carried = λ t. let q = carried t in omega (arith, q);
      }

  -- ## A new one joins

  module _ (name : List ℕ) (told : Option ℕ) (v4 : IfSome told IsVersion4) (few_clients : length w.clients < 64) (few : length w.log < 65535) (apart : clashes (uuid_for (sessions_in w.log + 1) told) w.log ≡ false) where
    abbrev session : ℕ
    session = sessions_in w.log + 1

    abbrev uuid : ℕ
    uuid = uuid_for session told

    abbrev joint : List Entry
    joint = log_with w.log session (Join uuid)

    abbrev new : Client
    new = new_client (length w.log + 1) session uuid name

    is_it : (t : Option ℕ) → IfSome t IsVersion4 → is_v4 (uuid_for session t) ≡ true
    is_it None x = uuid_is_v4 (session * 2 ^ 64) (omega (arith, o.sessions, few))
    is_it (Some u) x = x

    next : (session == sessions_in w.log + 1) ≡ true
    next = grind (arith, nat_tests)

    others : (d : Client) → Has w.clients d → d.session ≢ session
    others d i e = let low = all-has (λ (d : Client). d.session ≤ sessions_in w.log) w.clients d s.given i in absurd (omega (arith, low, e))

    comes : EntersInOrder w.log (last_entry w.log session (Join uuid))
    comes =
        let all = connected_few w.log w.clients (λ t on. o.connected.no_other t on) in
        record {
          number = refl;
          may = or-left (is_new_session session uuid w.log) (comes_back session uuid w.log) (and-both (session == sessions_in w.log + 1) (is_v4 uuid && not (clashes uuid w.log)) next (and-both (is_v4 uuid) (not (clashes uuid w.log)) (is_it told v4) (ap not apart)));
          refers = tt;
          room = (few, omega (arith, all, few_clients));
        }

    newcomer : SpeaksInOrder (n + 1) joint new
    newcomer = record {
      joined = joined_now w.log session uuid;
      rise = omega (arith, known_own w.log session (Join uuid), o.known session);
      small = λ N i. absurd i;
      ids = omega arith;
    }

    joined : CarryFew n joint → IsOrdered (n + 1) (record w { log = joint; clients = w.clients ++ new ∷ [] })
    joined carried = record {
      log = each_more EntersInOrder w.log session (Join uuid) o.log comes;
      clients = AllByRecursion-append (SpeaksInOrder (n + 1) joint) w.clients (new ∷ []) old (newcomer, tt);
      connected = connected_joined w.log w.clients new uuid others refl o.connected;
      few = omega (arith, length-append w.clients (new ∷ []), few_clients);
      sessions = omega (arith, size session (Join uuid), sessions_entered w.log session (Join uuid), o.sessions);
      known = known session (Join uuid) (omega arith);
      carried = λ t. let q = carried t in omega (arith, q);
    }
      where
        old : AllByRecursion (SpeaksInOrder (n + 1) joint) w.clients
        old = beside_all w.clients (λ d i. others d i) o.clients
          where
            beside_all : (cs : List Client) → ((d : Client) → Has cs d → d.session ≢ session) → AllByRecursion (SpeaksInOrder n w.log) cs → AllByRecursion (SpeaksInOrder (n + 1) joint) cs
            beside_all [] f p = tt
            beside_all (d ∷ cs) f p = (beside n w.log session (Join uuid) d (f d (inl refl)) p.0, beside_all cs (λ e i. f e (inr i)) p.1)

  after : (v : WorldState) → LeadsTo IsVersion4 w v → CarryFew n v.log → IsOrdered (n + 1) v
  after v stays few = record {
    log = o.log;
    clients = all_later;
    connected = o.connected;
    few = o.few;
    sessions = o.sessions;
    known = o.known;
    carried = λ t. let q = few t in omega (arith, q);
  }
  after v (goes i c d at g) few = went i c at d g few
  after v (sends i c text rest at on is room) few = sent i c at text rest on is room few
  after v (leaves i c at on room) few = left i c at on room few
  after v (drops i c at on room) few = dropped i c at on room few
  after v (returns i c at off room) few = returned i c at off room few
  after v (joins name told v4 clients room apart) few = joined name told v4 clients room apart few

-- after one step more
pub order_after : (h : HeaderView) (n : ℕ) (w v : WorldState) → IsWorld h w → IsOrdered n w → LeadsTo IsVersion4 w v → CarryFew n v.log → IsOrdered (n + 1) v
order_after h n w v s o leads few = after h n w s o v leads few
