-- The UUIDs of a world's log and of its clients are ones that a text can tell, whatever a step leads to.
use Rattle.std.proofs.Common.{◌≡◌, ◌≤◌, ◌<◌, ◌+◌, ◌*◌, ◌^◌, ℕ, true, [], ◌∷◌, length, Option, None, Some, IfSome, sym, subst, arith}
use Rattle.std.specs.List.{AllByRecursion, slice_get}
use Rattle.st_lemmas.proofs.Lists.{AllByRecursion-append}
use Rattle.st_clusters.specs.Free.{uuid_of}
use Rattle.st_clusters.proofs.Rounds.{uuid_is_v4}
use Rattle.st_lists.specs.Clients.{new_client, with_connection, without_connection}
use Rattle.st_lists.specs.Log.{is_text, log_with, sessions_in}
use Rattle.st_lists.specs.declared.lists.Body.{Body}
use Rattle.st_lists.specs.declared.lists.Body.TheVariants.{Join, Leave, Ack, Commit}
use Rattle.st_lists.specs.declared.lists.Client.{Client}
use Rattle.st_lists.specs.declared.lists.Entry.{Entry}
use Rattle.st_lists.specs.declared.lists.WorldState.{WorldState}
use Rattle.st_lists.proofs.Logs.{last_entry}
use Rattle.st_script.specs.Header.{HeaderView}
use Rattle.st_script.specs.StepText.{IsUuid}
use Rattle.st_world.specs.World.{uuid_for}
use Rattle.st_world_laws.specs.Worlds.{IsClient, IsWorld}
use Rattle.st_world_laws.proofs.Everyone.{all_get, all_set}
use Rattle.st_world_messages.specs.Steps.{LeadsTo, drops, goes, joins, leaves, returns, sends, stays}
use Rattle.st_world_messages.specs.Texts.{AreUuids, TellsUuid}
use Rattle.st_world_messages.proofs.Counts.{all_but_gone}

uuid_is_low : (f : ℕ) → f < 2 ^ 122 → uuid_of f < 2 ^ 128
unfolding uuid_of
uuid_is_low f h = omega arith

-- a session's own UUID is one
own_uuid : (session : ℕ) (told : Option ℕ) → session < 65537 → IfSome told IsUuid → IsUuid (uuid_for session told)
own_uuid session None few x = (uuid_is_low (session * 2 ^ 64) (omega (arith, few)), uuid_is_v4 (session * 2 ^ 64) (omega (arith, few)))
own_uuid session (Some u) few x = x

-- a text that waits tells none
text_tells_none : (b : Body) → is_text b ≡ true → TellsUuid b
text_tells_none (Join uuid) is = absurd (cc)
text_tells_none Leave is = tt
text_tells_none (Ack reference) is = tt
text_tells_none (Commit reference ids N) is = tt

abbrev HasUuid : Client → Type 0
HasUuid c = IsUuid c.uuid

abbrev SaysUuid : Entry → Type 0
SaysUuid e = TellsUuid e.body

module _ (h : HeaderView) (w : WorldState) (s : IsWorld h w) (few : sessions_in w.log ≤ 65535) (u : AreUuids w) where
  logged : (session : ℕ) (body : Body) → TellsUuid body → AllByRecursion SaysUuid (log_with w.log session body)
  logged session body x = AllByRecursion-append SaysUuid w.log (last_entry w.log session body ∷ []) u.log (x, tt)

  has : (i : ℕ) (c : Client) → slice_get w.clients i ≡ Some c → HasUuid c
  has i c at = all_get HasUuid w.clients i c u.clients at

  pub uuids_after : (v : WorldState) → LeadsTo IsUuid w v → AreUuids v
  uuids_after v stays = u
  uuids_after v (goes i c d at g) = record { log = u.log; clients = all_set HasUuid w.clients i d u.clients (subst IsUuid (sym g.uuid) (has i c at)) }
  uuids_after v (sends i c text rest at on is room) =
      let k = all_get (IsClient h w.log) w.clients i c s.clients at in
      let waits : is_text text ≡ true = (subst (AllByRecursion (λ (b : Body). is_text b ≡ true)) is k.texts).0 in
      record { log = logged c.session text (text_tells_none text waits); clients = all_set HasUuid w.clients i (record c { queue = rest }) u.clients (has i c at) }
  uuids_after v (leaves i c at on room) = record {
    log = logged c.session Leave tt;
    clients = all_but_gone HasUuid HasUuid w.clients i c s.sessions at (λ d apart p. p) u.clients;
  }
  uuids_after v (drops i c at on room) = record { log = logged c.session Leave tt; clients = all_set HasUuid w.clients i (without_connection c) u.clients (has i c at) }
  uuids_after v (returns i c at off room) = record { log = logged c.session (Join c.uuid) (has i c at); clients = all_set HasUuid w.clients i (with_connection w.log c) u.clients (has i c at) }
  uuids_after v (joins name told x clients room apart) =
      let session = sessions_in w.log + 1 in
      let own = own_uuid session told (omega (arith, few)) x in
      record { log = logged session (Join (uuid_for session told)) own; clients = AllByRecursion-append HasUuid w.clients (new_client (length w.log + 1) session (uuid_for session told) name ∷ []) u.clients (own, tt) }
