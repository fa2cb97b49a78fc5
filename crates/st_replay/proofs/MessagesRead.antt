-- Values read as messages: a change with names as its author saw them, and what is said.
use Rattle.std.proofs.Common.{◌≡◌, ℕ, ℤ, List, ◌++◌, take, drop, Option, None, Some, option_map, MatchOption, Result, Ok, Err, IfOk, refl, sym, ap, ◌∙◌, subst}
use mathlib.Core.Path.{fun_ext}
use Rattle.std.specs.Option.{ok_or}
use Rattle.serde_json.specs.Data.{Data}
use Rattle.st_change_reader.specs.Reading.{change_of}
use Rattle.st_clusters.specs.Log.{AreInTurn, IsTableOf}
use Rattle.st_clusters.specs.Table.{Ids, table_of}
use Rattle.st_clusters.specs.declared.ids.Cluster.{Cluster}
use Rattle.st_clusters.specs.declared.ids.IdRange.{IdRange}
use Rattle.st_ids.specs.Or.{IfRefused}
use Rattle.st_ids.specs.declared.fault.Or.{Or}
use Rattle.st_ids.specs.declared.fault.Or.TheVariants.{Fault, NoMemory}
use Rattle.st_lists.specs.Log.{ranges_in}
use Rattle.st_lists.specs.declared.lists.Entry.{Entry}
use Rattle.st_mark_reader.specs.Naming.{NameForm}
use Rattle.st_mark_reader.specs.OpSpace.{any_form, op_id_in}
use Rattle.st_marks.specs.declared.changes.Change.{Change}
use Rattle.st_msg.specs.Messages.{MessageView, message_of}
use Rattle.st_msg.specs.Messages as told
use Rattle.st_valid.specs.Author.{generated_with}
use Rattle.st_valid.specs.declared.message.Message.{Message}
use Rattle.st_valid.specs.declared.message.Said.{Said}
use Rattle.st_valid.specs.declared.message.Said.TheVariants as said
use Rattle.st_valid_laws.specs.Shape.{IsChangeRead, IsRead, IsReadSo, IsSaid, form_of_ids, message_with, seen_id}
use Rattle.st_replay.proofs.SeenIds.{id_then, parts}

-- ## Answers

pub ok_along : {T E : Type 0} (r : Result T E) (P Q : T → Type 0) → ((x : T) → P x → Q x) → IfOk r P → IfOk r Q
ok_along (Ok x) P Q f h = f x h
ok_along (Err e) P Q f h = tt

pub refused_along : {T F : Type 0} (r : Result T (Or F)) (P Q : F → Type 0) → ((x : F) → P x → Q x) → IfRefused r P → IfRefused r Q
refused_along (Ok x) P Q f h = tt
refused_along (Err (Fault x)) P Q f h = f x h
refused_along (Err NoMemory) P Q f h = tt

pub fault_along : (T U : Type 0) {F : Type 0} (f : Or F) (P Q : F → Type 0) → ((x : F) → P x → Q x) → IfRefused {T = T} {F = F} (Err f) P → IfRefused {T = U} {F = F} (Err f) Q
fault_along T U (Fault x) P Q f h = f x h
fault_along T U NoMemory P Q f h = tt

-- ## A change

id_seen : (log : List Entry) (session reference : ℕ) (ids : IdRange) (cs : List Cluster) (later : List IdRange) (z : ℤ)
    → AreInTurn (ranges_in log) → cs ≡ table_of (ranges_in log) → later ≡ ranges_in (drop reference log)
    → op_id_in cs later session (generated_with ids) z ≡ seen_id log session reference ids z
id_seen log session reference ids cs later z turn is are =
    ap (λ cs. op_id_in cs later session (generated_with ids) z) (is ∙ ap table_of (parts log reference))
    ∙ ap (λ later. op_id_in (table_of (ranges_in (take reference log) ++ ranges_in (drop reference log))) later session (generated_with ids) z) are
    ∙ id_then (ranges_in (take reference log)) (ranges_in (drop reference log)) session (generated_with ids) (subst AreInTurn (parts log reference) turn) z

form_seen : (log : List Entry) (session reference : ℕ) (ids : IdRange) (t : Ids) (later : List IdRange)
    → IsTableOf (ranges_in log) t → later ≡ ranges_in (drop reference log)
    → form_of_ids (op_id_in t.clusters later session (generated_with ids)) ≡ form_of_ids (seen_id log session reference ids)
form_seen log session reference ids t later table are =
    ap form_of_ids (fun_ext (λ z. id_seen log session reference ids t.clusters later z table.in_turn table.clusters are))

pub change_seen : (log : List Entry) (session reference : ℕ) (ids : IdRange) (t : Ids) (later : List IdRange) (have : ℕ) (d : Data) (read : Option (Option Change))
    → IsTableOf (ranges_in log) t → later ≡ ranges_in (drop reference log) → have ≡ generated_with ids
    → IsReadSo (change_of any_form d) (change_of (form_of_ids (op_id_in t.clusters later session have)) d) read → IsChangeRead log session reference ids d read
change_seen log session reference ids t later have d read table are is h =
    subst (λ (f : NameForm). IsReadSo (change_of any_form d) (change_of f d) read)
    (ap (λ (n : ℕ). form_of_ids (op_id_in t.clusters later session n)) is ∙ form_seen log session reference ids t later table are) h

pub said_commit : (log : List Entry) (session reference : ℕ) (ids : IdRange) (d : Data) (c : Option (Option Change))
    → IsChangeRead log session reference ids d c → IsSaid log session (told.Commit reference ids d) (option_map (λ C. said.Commit reference ids C) c)
said_commit log session reference ids d c h = (c, h, refl)

-- ## A message

abbrev IsReadAs : List Entry → Option Message → Option MessageView → Type 0
IsReadAs log read o = MatchOption o (read ≡ None) (λ v. (s : Option Said) × IsSaid log v.session v.said s × (read ≡ option_map (message_with v) s))

pub read_some : (log : List Entry) (d : Data) (v : MessageView) (m : Message) → message_of d ≡ Some v
    → IsSaid log v.session v.said (Some m.said) × (m ≡ message_with v m.said) → IsRead log d (Some m)
read_some log d v m e h = subst (IsReadAs log (Some m)) (sym e) (Some m.said, h.0, ap Some h.1)

pub read_none : (log : List Entry) (d : Data) (v : MessageView) → message_of d ≡ Some v → IsSaid log v.session v.said None → IsRead log d None
read_none log d v e h = subst (IsReadAs log None) (sym e) (None, h, refl)

pub read_no_form : (log : List Entry) (d : Data) → message_of d ≡ None → IsRead log d None
read_no_form log d e = subst (IsReadAs log None) (sym e) refl

pub ok_some : {A E : Type 0} (o : Option A) (v : A) (e : E) → Ok v ≡ ok_or o e → o ≡ Some v
ok_some None v e q = cc
ok_some (Some w) v e q = cc

pub err_none : {A E : Type 0} (o : Option A) (f e : E) → ◌≡◌ {A = Result A E} (Err f) (ok_or o e) → o ≡ None
err_none None f e q = refl
err_none (Some w) f e q = cc
