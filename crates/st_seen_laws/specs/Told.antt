-- What an author tells beside a log: names that it knows, by the numbers that it saw.
use Rattle.std.specs.Prelude.{◌⊎◌, ◌≡◌, ◌+◌, ◌<◌, ◌≤◌, ◌^◌, ℕ, ℤ, List, None, Some}
use Rattle.st_change_laws.specs.Within.{ChangeIsWithin}
use Rattle.st_change_writer.specs.Told.{change_data}
use Rattle.st_clusters.specs.Log.{AreInTurn, carried_count}
use Rattle.st_clusters.specs.Table.{most_ids}
use Rattle.st_clusters.specs.declared.ids.IdRange.{IdRange}
use Rattle.st_idcodec.specs.OpText.{IsShort}
use Rattle.st_ids.specs.Listing.{Has}
use Rattle.st_ids.specs.Root.{opening}
use Rattle.st_ids.specs.declared.names.Rev.{Rev}
use Rattle.st_lists.specs.declared.lists.Entry.{Entry}
use Rattle.st_marks.specs.declared.changes.Change.{Change}
use Rattle.st_msg.specs.Messages.{MessageView, SaidView}
use Rattle.st_msg.specs.Messages as told
use Rattle.st_normal_texts.specs.NormalTexts.{IsNormalText}
use Rattle.st_texts.specs.Names.{IsKnownAt, names_seen, number_seen}
use Rattle.st_valid.specs.declared.message.Message.{Message}
use Rattle.st_valid.specs.declared.message.Said.{Said}
use Rattle.st_valid.specs.declared.message.Said.TheVariants as said
use Rattle.st_valid_laws.specs.Shape.{seen_id}

-- ## The log

-- the ranges of a log go on from one another, session by session, and there are few sessions and few ids of each
pub record HaveFewIds (ranges : List IdRange) : Type 0 where
  pub turn : AreInTurn ranges
  pub ids : (s : ℕ) → carried_count s ranges ≤ most_ids
  pub sessions : (r : IdRange) → Has ranges r → r.session ≤ 65535

-- ## Names

-- the author of a text knows a name: the opening, or an id of which it knows a number
abbrev pub IsNameKnown : List Entry → ℕ → ℕ → IdRange → Rev → Type 0
IsNameKnown log session reference ids r = (r ≡ opening) ⊎ ((1 ≤ r.num) × IsKnownAt log session reference ids r)

-- the author tells a name by a number of 64 bits, and whoever reads that number beside the log reads the name
pub record IsReadBack (log : List Entry) (session reference : ℕ) (ids : IdRange) (r : Rev) : Type 0 where
  pub number : ℤ
  pub told : number_seen log session reference ids r ≡ Some number
  pub short : IsShort number
  pub read : seen_id log session reference ids number ≡ Some r

-- ## Changes

-- a change can be told by the author of a text: it knows each of the names
abbrev pub CanBeTold : List Entry → ℕ → ℕ → IdRange → Change → Type 0
CanBeTold log session reference ids C = ChangeIsWithin (IsNameKnown log session reference ids) (λ a. IsNameKnown log session reference ids a.rev × (a.at < 2 ^ 32)) C

-- ## Messages

-- what a session says is told, behind a log: a change with the numbers that its author saw
abbrev pub TellsSaid : List Entry → ℕ → Said → SaidView → Type 0
TellsSaid log session (said.Join uuid) v = v ≡ told.Join uuid
TellsSaid log session said.Leave v = v ≡ told.Leave
TellsSaid log session (said.Ack reference) v = v ≡ told.Ack reference
TellsSaid log session (said.Commit reference ids None) v = ⊥
TellsSaid log session (said.Commit reference ids (Some C)) v = v ≡ told.Commit reference ids (change_data (names_seen log session reference ids) C)

-- a message, and what is told of it behind a log
pub record Tells (log : List Entry) (m : Message) (v : MessageView) : Type 0 where
  pub number : v.n ≡ m.n
  pub min : v.min ≡ m.min
  pub session : v.session ≡ m.session
  pub said : TellsSaid log m.session m.said v.said

-- a session can say it, behind a log: a change only if that is normal and its author can tell it, with ids below 2^32
abbrev pub CanSay : List Entry → ℕ → Said → Type 0
CanSay log session (said.Join uuid) = Unit {0}
CanSay log session said.Leave = Unit {0}
CanSay log session (said.Ack reference) = Unit {0}
CanSay log session (said.Commit reference ids None) = ⊥
CanSay log session (said.Commit reference ids (Some C)) = CanBeTold log session reference ids C × IsNormalText C × (ids.first + ids.count ≤ 2 ^ 32)
