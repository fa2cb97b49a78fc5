-- What one is told who asks for the text of an entry of a world's log.
use Rattle.std.proofs.Common.{◌≡◌, ◌≤◌, ℕ, List, [], ◌∷◌, ◌++◌, length, take, append_assoc, append-nil, Option, Some, None, IfSome, OnOk, Result, Ok, Err, codes, inl, inr, refl, sym, ap, ◌∙◌, subst, arith}
use Rattle.std.specs.List.{AllByRecursion, cons_option}
use Rattle.std.proofs.lemmas.List.{length-take-le}
use Rattle.std.proofs.lemmas.Option.{slice_get_within}
use Rattle.json.specs.Print.{escape_byte}
use Rattle.serde_json.specs.Written.{compact_text}
use Rattle.st_answers.specs.Trace.{message_line, no_entry_line}
use Rattle.st_author_lists.specs.Authors.{IsAuthored}
use Rattle.st_clusters.specs.declared.ids.IdRange.{IdRange}
use Rattle.st_doc.specs.Doc.{document_of}
use Rattle.st_entry_texts.specs.Authors.{AreAuthorsOf, FitWhereWritten}
use Rattle.st_entry_texts.specs.Numbered.{HasFewIds}
use Rattle.st_entry_texts.specs.KnownChanges.{AreKnownIn, IsKept}
use Rattle.st_entry_texts.specs.declared.entry.Authors.{Authors}
use Rattle.st_entry_texts.specs.declared.known.Known.{Known}
use Rattle.st_ids.specs.declared.names.Rev.{Rev}
use Rattle.st_ids.specs.Listing.{Has}
use Rattle.st_lists.specs.Log.{minimum, range_of, ranges_in}
use Rattle.st_lists.specs.declared.lists.Entry.{Entry}
use Rattle.st_lists.specs.declared.lists.WorldState.{WorldState}
use Rattle.st_lists.proofs.Present.{session_given}
use Rattle.st_log_laws.specs.Turns.{FitInTurn}
use Rattle.st_marks.specs.Document.{Document}
use Rattle.st_msg.specs.Messages.{MessageView, message_data}
use Rattle.st_plain.specs.Stands.{IsSmall}
use Rattle.st_plain.specs.declared.world.World.{World}
use Rattle.st_plain.proofs.Standing.{stands_for_world, stands_small}
use Rattle.st_script.specs.Header.{HeaderView}
use Rattle.st_texts.specs.Texts.{IsMessageOf}
use Rattle.st_valid.specs.Author.{author_list}
use Rattle.st_world.specs.World.{opening_document}
use Rattle.st_world_laws.specs.Worlds.{HasOwnIds, IsWorld}
use Rattle.st_run.specs.inside.Standing.{IsKeptFor, IsUnderWay}

-- ## Lines

pub no_entry_is : codes "{\"no\":\"NoEntry\"}\n" ≡ no_entry_line
unfolding escape_byte
no_entry_is = refl

joined : (p d t n : List ℕ) → (p ++ d) ++ (t ++ n) ≡ (p ++ (d ++ t)) ++ n
joined p d t n = simp append_assoc

pub line_is : (m : MessageView) → (codes "{\"msg\":" ++ compact_text (message_data m)) ++ codes ",\"ok\":\"text\"}\n" ≡ message_line m
unfolding escape_byte
line_is m = joined (codes "{\"msg\":") (compact_text (message_data m)) (codes ",\"ok\":\"text\"}") (10 ∷ [])

-- ## The log of a world

-- a range is of an entry, or of one behind it
first_range : (e : Entry) (es : List Entry) (r : IdRange) (o : Option IdRange) → IfSome o (λ (q : IdRange). q.session ≡ e.session) → (Has (ranges_in es) r → (f : Entry) × Has es f × (r.session ≡ f.session)) → Has (cons_option o (ranges_in es)) r
    → (f : Entry) × Has (e ∷ es) f × (r.session ≡ f.session)
first_range e es r None same behind h = let x = behind h in (x.0, inr x.1, x.2)
first_range e es r (Some q) same behind (inl is) = let own : q.session ≡ e.session = same in (e, inl refl, ap (λ (z : IdRange). z.session) (sym is) ∙ own)
first_range e es r (Some q) same behind (inr h) = let x = behind h in (x.0, inr x.1, x.2)

has_range : (es : List Entry) (r : IdRange) → AllByRecursion HasOwnIds es → Has (ranges_in es) r → (e : Entry) × Has es e × (r.session ≡ e.session)
has_range [] r own h = absurd h
has_range (e ∷ es) r own h = first_range e es r (range_of e) own.0 (λ h. has_range es r own.1 h) h

module _ (k : ℕ) (world : World) (o : Option Authors) (h : HeaderView) (w : WorldState) (u : IsUnderWay k world o h w) (few : k ≤ 65536) where
  is_world : IsWorld h w
  is_world = stands_for_world k world h w u.stands

  small : IsSmall k w
  small = stands_small k world h w u.stands

  few_ids : HasFewIds w.log
  few_ids = record {
    turn = is_world.ranges;
    ids = λ s. omega (arith, u.few s, few);
    sessions = λ r there. let e = has_range w.log r is_world.own_ids there in omega (arith, e.2, session_given w.log e.0 e.1, small.sessions, small.entries);
  }

  fit_written : FitWhereWritten (opening_document h) w.log
  fit_written i e reference ids N at is =
      let x = subst (IsAuthored (opening_document h) (take i w.log) e.session []) is (u.fit.log i e at) in
      let size : length (take i w.log) ≡ i = length-take-le i w.log (omega (arith, slice_get_within w.log i e at)) in
      record {
        known = omega (arith, size, x.within);
        fit = subst (λ Ns. FitInTurn (opening_document h) (Ns ++ N ∷ [])) (append-nil (author_list (take i w.log) e.session reference)) x.fit;
      }

  -- the same of the entries that the world tells
  module _ (log : List Entry) (told : log ≡ w.log) where
    pub told_few : HasFewIds log
    told_few = subst HasFewIds (sym told) few_ids

    pub told_fit : (O : Document) → O ≡ opening_document h → FitWhereWritten O log
    told_fit O is = subst (λ D. FitWhereWritten D log) (sym is) (subst (FitWhereWritten (opening_document h)) (sym told) fit_written)

-- ## Messages

pub message_as : (h : HeaderView) (w : WorldState) (x : Authors) (log : List Entry) (n : ℕ) (m : MessageView) → log ≡ w.log → IsKeptFor h w x → IsMessageOf (document_of x.opening) log n m → IsMessageOf (opening_document h) w.log n m
message_as h w x log n m told kept is = subst (λ es. IsMessageOf (opening_document h) es n m) told (subst (λ O. IsMessageOf O log n m) kept.0 is)

pub kept_as : (h : HeaderView) (w : WorldState) (x y : Authors) (log : List Entry) → log ≡ w.log → IsKeptFor h w x → y.opening ≡ x.opening → AreAuthorsOf log y → ((r : Rev) (k : Known) → IsKept y.known r k → IsKept x.known r k) → IsKeptFor h w y
kept_as h w x y log told kept same are known = (ap (λ d. document_of d) same ∙ kept.0, subst (λ es. AreAuthorsOf es y) told are, λ r k there. kept.2 r k (known r k there))

-- what is known of changes is known of the log
pub known_as : (h : HeaderView) (w : WorldState) (x : Authors) (log : List Entry) → log ≡ w.log → IsKeptFor h w x → AreKnownIn (document_of x.opening) log x.known
known_as h w x log told kept = subst (λ D. AreKnownIn D log x.known) (sym kept.0) (subst (λ es. AreKnownIn (opening_document h) es x.known) (sym told) (λ r k there. (kept.2 r k there).logged))

pub least_as : (o : Option ℕ) (min n : ℕ) (w : WorldState) (log : List Entry) → log ≡ w.log → o ≡ Some (minimum (take n w.log)) → o ≡ Some min → min ≡ minimum (take n log)
least_as o min n w log told is at =
    let both : Some min ≡ Some (minimum (take n w.log)) = sym at ∙ is in
    let same : min ≡ minimum (take n w.log) = cc in
    same ∙ ap (λ es. minimum (take n es)) (sym told)

pub on_ok : {T E P Q : Type 0} (r : Result T E) → (P → Q) → OnOk r P → OnOk r Q
on_ok (Ok x) f h = f h
on_ok (Err e) f h = tt

pub kept_on : (k : ℕ) (world : World) (x y : Authors) (h : HeaderView) (w : WorldState) → IsUnderWay k world (Some x) h w → IsKeptFor h w y → IsUnderWay k world (Some y) h w
kept_on k world x y h w u kept = record { stands = u.stands; fit = u.fit; few = u.few; kept = kept }
