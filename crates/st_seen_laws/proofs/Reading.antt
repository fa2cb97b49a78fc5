-- What an author tells is read beside the log.
use Rattle.std.proofs.Common.{◌≡◌, ◌∙◌, ◌<◌, ◌≤◌, ◌+◌, ◌^◌, ℕ, ℤ, List, is_some, Option, None, Some, option_map, option_and_then, MatchOption, refl, sym, ap, subst}
use Rattle.serde_json.specs.Data.{Data}
use Rattle.serde_json.specs.Find.{as_null}
use Rattle.st_ids.specs.Root.{opening}
use Rattle.st_ids.specs.declared.names.Atom.{Atom}
use Rattle.st_ids.specs.declared.names.Rev.{Rev}
use Rattle.st_marks.specs.declared.changes.Change.{Change}
use Rattle.st_clusters.specs.declared.ids.IdRange.{IdRange}
use Rattle.st_idcodec.specs.OpText.{atom_data, rev_data, rev_number}
use Rattle.st_idcodec.proofs.Back.{atom_back, rev_back}
use Rattle.st_change_laws.specs.Both.{Writes, WritesNames}
use Rattle.st_change_laws.proofs.ToldValues.{change_writes, then_some}
use Rattle.st_change_reader.specs.Reading.{change_of}
use Rattle.st_change_writer.specs.Told.{change_data}
use Rattle.st_lists.specs.Log.{ranges_in}
use Rattle.st_lists.specs.declared.lists.Entry.{Entry}
use Rattle.st_mark_reader.specs.Naming.{NameForm, Naming}
use Rattle.st_mark_reader.specs.OpSpace.{any_form, atom_numbers, number_or_null}
use Rattle.st_msg.specs.Messages.{MessageView, SaidView, message_data}
use Rattle.st_msg.specs.Within.{IsWithin}
use Rattle.st_msg.proofs.Back.{message_back}
use Rattle.st_normal_texts.specs.NormalTexts.{IsNormalText}
use Rattle.st_texts.specs.Names.{names_seen}
use Rattle.st_valid.specs.declared.message.Message.{Message}
use Rattle.st_valid.specs.declared.message.Said.{Said}
use Rattle.st_valid.specs.declared.message.Said.TheVariants as said
use Rattle.st_valid_laws.specs.Shape.{IsChangeRead, IsRead, IsReadSo, IsSaid, form_of_ids, message_with, seen_id}
use Rattle.st_seen_laws.specs.Told.{CanBeTold, CanSay, HaveFewIds, IsNameKnown, IsReadBack, Tells, TellsSaid}
use Rattle.st_seen_laws.proofs.OtherForms.{Covers, change, one}
use Rattle.st_seen_laws.proofs.Seen.{name_read_back}

-- ## In any form

some_rev : (id : ℤ → Option Rev) (o : Option ℤ) (y : ℤ → Rev) → Covers (option_and_then id o) (option_map y o)
some_rev id None y = tt
some_rev id (Some z) y = one (id z) (y z)

abbrev atom_at : ℕ → Rev → Atom
atom_at at r = record { rev = r; at = at }

some_atom : (id : ℤ → Option Rev) (o : Option (ℤ × ℕ)) (y : ℤ × ℕ → Atom) → Covers (option_and_then (λ (p : ℤ × ℕ). option_map (atom_at p.1) (id p.0)) o) (option_map y o)
some_atom id None y = tt
some_atom id (Some p) y = one (option_map (atom_at p.1) (id p.0)) (y p)

-- a value that is a change over ids is one in form
in_any_form : (id : ℤ → Option Rev) (d : Data) → Covers (change_of (form_of_ids id) d) (change_of any_form d)
in_any_form id d = change (form_of_ids id) any_form (λ v. some_rev id (rev_number v) (λ z. opening)) (λ v. some_atom id (atom_numbers v) (λ p. atom_at p.1 opening)) d

-- ## A change

-- one that is normal is read as itself
read_so : (any named : Option Change) (C : Change) → Covers named any → named ≡ Some C → IsNormalText C → IsReadSo any named (Some (Some C))
read_so None None C h e normal = cc
read_so None (Some D) C h e normal = absurd h
read_so (Some any) None C h e normal = cc
read_so (Some any) (Some D) C h e normal = let is : C ≡ D = cc in (ap (λ (x : Change). Some x) is, subst IsNormalText is normal)

module _ (log : List Entry) (session reference : ℕ) (ids : IdRange) (few : HaveFewIds (ranges_in log)) (within : ids.first + ids.count ≤ 2 ^ 32) where
  abbrev names : Naming
  names = names_seen log session reference ids

  abbrev form : NameForm
  form = form_of_ids (seen_id log session reference ids)

  abbrev Known : Rev → Type 0
  Known = IsNameKnown log session reference ids

  abbrev KnownAtom : Atom → Type 0
  KnownAtom a = Known a.rev × (a.at < 2 ^ 32)

  back : (r : Rev) → Known r → IsReadBack log session reference ids r
  back r h = name_read_back log session reference ids few within r h

  revs : Writes form.rev names.rev Known
  revs r h =
      let b = back r h in
      let id : ℤ → Option Rev = seen_id log session reference ids in
      ap (λ (o : Option ℤ). option_and_then id (rev_number (number_or_null o rev_data))) b.told
      ∙ then_some id (rev_number (rev_data b.number)) b.number (Some r) (rev_back b.number b.short) b.read

  atoms : WritesNames form names KnownAtom
  atoms a h =
      let b = back a.rev h.0 in
      let id : ℤ → Option Rev = seen_id log session reference ids in
      let told : names.atom a ≡ atom_data b.number a.at = ap (λ (o : Option ℤ). number_or_null o (λ (z : ℤ). atom_data z a.at)) b.told in
      let read : form.atom (atom_data b.number a.at) ≡ Some a =
      then_some (λ (p : ℤ × ℕ). option_map (atom_at p.1) (id p.0)) (atom_numbers (atom_data b.number a.at)) (b.number, a.at) (Some a) (atom_back b.number a.at b.short h.1)
      (ap (option_map (atom_at a.at)) b.read) in
      (ap form.atom told ∙ read, ap (λ (d : Data). is_some (as_null d)) told)

  pub change_read : (C : Change) → CanBeTold log session reference ids C → IsNormalText C → IsChangeRead log session reference ids (change_data names C) (Some (Some C))
  change_read C can normal =
      let d = change_data names C in
      read_so (change_of any_form d) (change_of form d) C (in_any_form (seen_id log session reference ids) d) (change_writes names form Known KnownAtom revs atoms C can) normal

-- ## A message

said_read : (log : List Entry) (session : ℕ) (says : Said) (v : SaidView) → HaveFewIds (ranges_in log) → TellsSaid log session says v → CanSay log session says → IsSaid log session v (Some says)
said_read log session (said.Join uuid) v few tells can = subst (λ x. IsSaid log session x (Some (said.Join uuid))) (sym tells) refl
said_read log session said.Leave v few tells can = subst (λ x. IsSaid log session x (Some said.Leave)) (sym tells) refl
said_read log session (said.Ack reference) v few tells can = subst (λ x. IsSaid log session x (Some (said.Ack reference))) (sym tells) refl
said_read log session (said.Commit reference ids None) v few tells can = absurd can
said_read log session (said.Commit reference ids (Some C)) v few tells can =
    subst (λ x. IsSaid log session x (Some (said.Commit reference ids (Some C)))) (sym tells) (Some (Some C), change_read log session reference ids few can.2 C can.0 can.1, refl)

abbrev IsReadAs : List Entry → Option Message → Option MessageView → Type 0
IsReadAs log read o = MatchOption o (read ≡ None) (λ v. (s : Option Said) × IsSaid log v.session v.said s × (read ≡ option_map (message_with v) s))

pub message_read : (log : List Entry) (m : Message) (v : MessageView) → HaveFewIds (ranges_in log) → IsWithin v → Tells log m v → CanSay log m.session m.said → IsRead log (message_data v) (Some m)
message_read log m v few within tells can =
    let says : IsSaid log v.session v.said (Some m.said) = subst (λ s. IsSaid log s v.said (Some m.said)) (sym tells.session) (said_read log m.session m.said v.said few tells.said can) in
    let is : m ≡ message_with v m.said = λ i. record { n = sym tells.number i; min = sym tells.min i; session = sym tells.session i; said = m.said } in
    let read : IsReadAs log (Some m) (Some v) = (Some m.said, says, ap (λ (x : Message). Some x) is) in
    subst (IsReadAs log (Some m)) (sym (message_back v within)) read
