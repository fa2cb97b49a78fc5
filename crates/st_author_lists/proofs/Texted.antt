-- Each entry of the log has a text.
use Rattle.std.proofs.Common.{◌≡◌, ◌+◌, ◌-◌, ℕ, List, Some, take, refl, sym, ap, ◌∙◌, subst, arith}
use Rattle.std.specs.List.{slice_get}
use Rattle.serde_json.specs.Written.{compact_text}
use Rattle.st_change_writer.specs.Told.{change_data}
use Rattle.st_lists.specs.Log.{minimum}
use Rattle.st_lists.specs.declared.lists.Body.{Body}
use Rattle.st_lists.specs.declared.lists.Body.TheVariants as body
use Rattle.st_lists.specs.declared.lists.Entry.{Entry}
use Rattle.st_lists.specs.declared.lists.WorldState.{WorldState}
use Rattle.st_marks.specs.Document.{Document}
use Rattle.st_msg.specs.Messages.{Ack, Commit, Join, Leave, MessageView, SaidView, message_data}
use Rattle.st_script.specs.Header.{HeaderView}
use Rattle.st_texts.specs.Names.{names_seen}
use Rattle.st_texts.specs.Texts.{IsMessageOf, IsSaid, IsTextOf}
use Rattle.st_world.specs.World.{opening_document}
use Rattle.st_world_laws.specs.Worlds.{IsHeader}
use Rattle.st_author_lists.specs.Authors.{FitAuthors}
use Rattle.st_author_lists.proofs.Fitted.{logged_written}

-- an entry that says something has a text
said_text : (O : Document) (log : List Entry) (i : ℕ) (e : Entry) → slice_get log i ≡ Some e → (said : SaidView) → IsSaid O (take i log) e.session e.body said → (text : List ℕ) × IsTextOf O log (i + 1) text
said_text O log i e there said is =
    let back : (i + 1) - 1 ≡ i = omega arith in
    let m : MessageView = record { n = i + 1; min = minimum (take (i + 1) log); session = e.session; said = said } in
    let message : IsMessageOf O log (i + 1) m = record {
      counted = omega arith;
      entry = e;
      there = ap (slice_get log) back ∙ there;
      number = refl;
      min = refl;
      session = refl;
      said = subst (λ k. IsSaid O (take k log) e.session e.body said) (sym back) is;
    } in
    (compact_text (message_data m), (m, message, refl))

pub has_text : (h : HeaderView) (w : WorldState) (i : ℕ) (e : Entry) → IsHeader h → FitAuthors h w → slice_get w.log i ≡ Some e → (text : List ℕ) × IsTextOf (opening_document h) w.log (i + 1) text
has_text h w i e header fit there = go e.body refl
  where
    O : Document
    O = opening_document h

    told : (b : Body) → e.body ≡ b → (said : SaidView) → IsSaid O (take i w.log) e.session b said → (text : List ℕ) × IsTextOf O w.log (i + 1) text
    told b is said x = said_text O w.log i e there said (subst (λ b. IsSaid O (take i w.log) e.session b said) (sym is) x)

    go : (b : Body) → e.body ≡ b → (text : List ℕ) × IsTextOf O w.log (i + 1) text
    go (body.Join uuid) is = told (body.Join uuid) is (Join uuid) refl
    go body.Leave is = told body.Leave is Leave refl
    go (body.Ack reference) is = told (body.Ack reference) is (Ack reference) refl
    go (body.Commit reference ids N) is =
        let x = logged_written h w header fit i e reference ids N there is in
        told (body.Commit reference ids N) is (Commit reference ids (change_data (names_seen (take i w.log) e.session reference ids) x.change))
        (record { author = x.author; stands = x.stands; change = x.change; embeds = x.embeds; is = refl })
