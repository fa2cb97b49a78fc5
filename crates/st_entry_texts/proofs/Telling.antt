-- What authors tell: kept as the log grows, and the message of a commit.
use Rattle.std.proofs.Common.{◌≡◌, ◌≤◌, ◌<◌, ◌+◌, ◌-◌, ◌==◌, ℕ, Bool, true, false, cond, is_some, IfSome, OnOk, Result, Ok, Err, List, [], ◌∷◌, ◌++◌, length-append, take, drop, Option, Some, None, append-nil, refl, sym, ap, ◌∙◌, subst, arith}
use Rattle.std.specs.BTreeMap.{get}
use Rattle.std.specs.List.{slice_get}
use Rattle.std.specs.Ordering.{is_eq, nat_cmp}
use Rattle.std.proofs.lemmas.Bool.Decides.{nat_tests}
use Rattle.st_ids.specs.Order.{rev_cmp}
use Rattle.st_known_changes.specs.Known.{IsChangeOver, IsKnownText}
use Rattle.st_entry_texts.specs.KnownChanges.{AreKnownIn, IsKept, told_at, told_of}
use Rattle.st_entry_texts.specs.declared.known.Known.{Known}
use Rattle.st_entry_texts.specs.declared.known.KnownChanges.{KnownChanges}
use Rattle.st_ids.proofs.Orders.{is_eq_equal}
use Rattle.std.proofs.lemmas.Map.Lookups.{exact_unsigned}
use Rattle.std.proofs.lemmas.List.{take-append-drop, take-append-le, take-take}
use Rattle.serde_json.specs.Written.{compact_text}
use Rattle.st_author_docs.specs.Authors.{CanGoTo, IsAuthorOf, LeadsTo}
use Rattle.st_author_docs.proofs.Authors.{stays_longer, stays_shorter}
use Rattle.st_change_writer.specs.Told.{change_data, data_with}
use Rattle.st_clusters.specs.Ids.{ids_of}
use Rattle.st_clusters.specs.Log.{IsTableOf}
use Rattle.st_clusters.specs.Table.{table_of}
use Rattle.st_clusters.specs.declared.ids.Cluster.{Cluster}
use Rattle.st_clusters.specs.declared.ids.IdRange.{IdRange}
use Rattle.st_doc.specs.Doc.{document_of}
use Rattle.st_doc.specs.declared.doc.Doc.{Doc}
use Rattle.st_idcodec.specs.OpText.{atom_data, rev_data}
use Rattle.st_lists.specs.Log.{minimum, ranges_in}
use Rattle.st_lists.specs.declared.lists.Body.{Body}
use Rattle.st_lists.specs.declared.lists.Body.TheVariants as body
use Rattle.st_lists.specs.declared.lists.Entry.{Entry}
use Rattle.st_log_laws.specs.Turns.{FitInTurn}
use Rattle.st_log_laws.proofs.Turns.{rest}
use Rattle.st_marks.specs.Document.{Document, IsSoundInForm}
use Rattle.st_marks.specs.Embedding.{IsEmbedding}
use Rattle.st_marks.specs.Intent.{Fits}
use Rattle.st_marks.specs.Run.{Run, done}
use Rattle.st_marks.specs.declared.changes.Change.{Change}
use Rattle.st_marks.specs.declared.intents.Intent.{Intent}
use Rattle.st_mark_reader.specs.Naming.{Naming}
use Rattle.st_mark_reader.specs.OpSpace.{number_or_null, op_number_in}
use Rattle.st_msg.specs.Messages.{Commit, MessageView, SaidView, is_upgrade, message_data, said_data}
use Rattle.st_texts.specs.Names.{names_seen}
use Rattle.st_texts.specs.Texts.{IsCommitSaid, IsMessageOf, IsSaid}
use Rattle.st_valid.specs.Author.{author_list, generated_with}
use Rattle.st_entry_texts.specs.Authors.{AreAuthorsOf, CanTell, IsAuthor, MayTell, MayTellCommit}
use Rattle.st_entry_texts.specs.Numbered.{IsNumberedTo}
use Rattle.st_entry_texts.specs.declared.entry.Author.{Author}
use Rattle.st_entry_texts.specs.declared.entry.Authors.{Authors}
use Rattle.st_entry_texts.specs.declared.numbers.Numbers.{Numbers}

-- ## As the log grows

numbers_stay : (log more : List Entry) (r : ℕ) (x : Numbers) → IsNumberedTo log r x → IsNumberedTo (log ++ more) r x
numbers_stay log more r x h = record {
  read = h.read;
  within = omega (arith, h.within, length-append log more);
  table = subst (λ l. IsTableOf (ranges_in l) (ids_of x.ids)) (sym (take-append-le r log more h.within)) h.table;
  sessions = h.sessions;
}

pub authors_stay : (log more : List Entry) (x : Authors) → AreAuthorsOf log x → AreAuthorsOf (log ++ more) x
authors_stay log more x h = record {
  sound = h.sound;
  each = λ s a at. let y = h.each s a at in record { doc = stays_longer (document_of x.opening) log more s a.doc y.doc; numbers = numbers_stay log more a.numbers.read a.numbers y.numbers };
}

-- ## One author

pub can_go : (log : List Entry) (k s r : ℕ) (a : Author) → a.doc.seen ≤ k → MayTell log k s r a → CanGoTo (take k log) s a.doc r
can_go log k s r a seen may = record { opening = may.opening; is = stays_shorter may.opening log s k a.doc seen may.is.doc; fit = may.fit }

pub gone_on : (O : Document) (log : List Entry) (k s r : ℕ) (old new : Author) → old.doc.seen ≤ k → (IsAuthorOf O (take k log) s old.doc → IsAuthorOf O (take k log) s new.doc) → IsNumberedTo log r new.numbers → IsAuthor O log s old → IsAuthor O log s new
gone_on O log k s r old new seen on numbers is = record {
  doc = subst (λ l. IsAuthorOf O l s new.doc) (take-append-drop k log) (stays_longer O (take k log) (drop k log) s new.doc (on (stays_shorter O log s k old.doc seen is.doc)));
  numbers = subst (λ n. IsNumberedTo log n new.numbers) (sym numbers.read) numbers;
}

-- ## The message of a commit

-- the names that an author sees, by the clusters of the ranges that it knows
abbrev seen_by : List Cluster → List IdRange → ℕ → ℕ → Naming
seen_by cs later s have = record {
  rev = λ r. number_or_null (op_number_in cs later s have r) rev_data;
  atom = λ x. number_or_null (op_number_in cs later s have x.rev) (λ z. atom_data z x.at);
}

pub told_as : (log : List Entry) (reference s : ℕ) (ids : IdRange) (x : Numbers) (later : List IdRange) (have : ℕ) (C : Change) (old new : List ℕ) → IsNumberedTo log reference x → later ≡ [] → have ≡ generated_with ids
    → new ≡ old ++ compact_text (change_data (seen_by (ids_of x.ids).clusters later s have) C) → new ≡ old ++ compact_text (change_data (names_seen log s reference ids) C)
told_as log reference s ids x later have C old new h none all e = e ∙ (λ i. old ++ compact_text (change_data (seen_by (h.table.clusters i) (none i) s (all i)) C))

names_front : (log : List Entry) (k s r : ℕ) (ids : IdRange) → r ≤ k → names_seen log s r ids ≡ names_seen (take k log) s r ids
names_front log k s r ids less = ap (λ l. seen_by (table_of (ranges_in l)) [] s (generated_with ids)) (sym (take-take r k log less))

pub leads_as : (O : Document) (log : List Entry) (a : Author) (d : Doc) (k s r : ℕ) → a.doc.at ≡ r → a.doc.seen ≡ k → LeadsTo O (author_list (take a.doc.seen log) s a.doc.at) d → LeadsTo O (author_list (take k log) s r) d
leads_as O log a d k s r at seen leads = subst (λ n. LeadsTo O (author_list (take n log) s r) d) seen (subst (λ n. LeadsTo O (author_list (take a.doc.seen log) s n) d) at leads)

pub fits_there : (O : Document) (Ns : List Intent) (N : Intent) (d : Doc) → LeadsTo O Ns d → FitInTurn O (Ns ++ N ∷ []) → Fits (document_of d) N
fits_there O Ns N d leads fit = (rest (N ∷ []) leads.ran fit).0

pub commit_told : (O : Document) (log : List Entry) (d : Doc) (k s r n min : ℕ) (ids : IdRange) (N : Intent) (C : Change) (old new : List ℕ) → r ≤ k → LeadsTo O (author_list (take k log) s r) d → IsEmbedding (document_of d) N C
    → new ≡ old ++ compact_text (said_data n min s (Commit r ids (change_data (names_seen log s r ids) C)))
    → (said : SaidView) × IsCommitSaid O (take k log) s r ids N said × (new ≡ old ++ compact_text (said_data n min s said))
commit_told O log d k s r n min ids N C old new less leads embeds e = (
  Commit r ids (change_data (names_seen (take k log) s r ids) C),
  record { author = document_of d; stands = leads.ran; change = C; embeds = embeds; is = refl },
  e ∙ ap (λ names. old ++ compact_text (said_data n min s (Commit r ids (change_data names C)))) (names_front log k s r ids less),
)

-- a change that is known is told in the same way
pub known_told : (O : Document) (log : List Entry) (k s r n min : ℕ) (ids : IdRange) (N : Intent) (C : Change) (old new : List ℕ) → r ≤ k → IsChangeOver O (author_list (take k log) s r) N C
    → new ≡ old ++ compact_text (said_data n min s (Commit r ids (change_data (names_seen log s r ids) C)))
    → (said : SaidView) × IsCommitSaid O (take k log) s r ids N said × (new ≡ old ++ compact_text (said_data n min s said))
known_told O log k s r n min ids N C old new less over e = (
  Commit r ids (change_data (names_seen (take k log) s r ids) C),
  record { author = over.author; stands = over.stands; change = C; embeds = over.embeds; is = refl },
  e ∙ ap (λ names. old ++ compact_text (said_data n min s (Commit r ids (change_data names C)))) (names_front log k s r ids less),
)

-- it may tell a commit of which nothing is known too
pub unknown : (O : Document) (log : List Entry) (before s r : ℕ) (N : Intent) (known : Option Change) (a : Author) → MayTellCommit O log before s r N known a → MayTellCommit O log before s r N None a
unknown O log before s r N known a may = record { is = may.is; fit = may.fit; told = λ C e. absurd (cc) }

-- an author that only reads on is one still
pub read_on : (O : Document) (log : List Entry) (s r : ℕ) (old new : Author) → new.doc ≡ old.doc → IsNumberedTo log r new.numbers → IsAuthor O log s old → IsAuthor O log s new
read_on O log s r old new same numbers is = record {
  doc = subst (IsAuthorOf O log s) (sym same) is.doc;
  numbers = subst (λ n. IsNumberedTo log n new.numbers) (sym numbers.read) numbers;
}

-- what is known of a commit of the log is its change over the author's list
pub known_of_entry : (O : Document) (log : List Entry) (x : KnownChanges) (i : ℕ) (e : Entry) (reference : ℕ) (ids : IdRange) (N : Intent) (C : Change) → AreKnownIn O log x → slice_get log i ≡ Some e → e.body ≡ body.Commit reference ids N
    → told_of x reference N ≡ Some C → IsChangeOver O (author_list (take i log) e.session reference) N C
known_of_entry O log x i e reference ids N C all there is told = go (get rev_cmp x.map N.rev) refl told
  where
    A : List Intent
    A = author_list (take i log) e.session reference

    at : (k : Known) (b : Bool) → (k.reference == reference) ≡ b → IsKept x N.rev k → cond b (Some k.change) None ≡ Some C → IsChangeOver O A N C
    at k false e q t = cc
    at k true same q t =
        let number : reference ≡ k.reference = grind (arith, nat_tests, same) in
        let change : k.change ≡ C = cc in
        let text : IsKnownText O (take i log) e.session [] N.rev k.reference k.change (body.Commit reference ids N) = subst (IsKnownText O (take i log) e.session [] N.rev k.reference k.change) is (all N.rev k q i e there) in
        subst (IsChangeOver O A N) change (subst (λ Ns. IsChangeOver O Ns N k.change) (append-nil A) (text refl number))

    go : (o : Option Known) → get rev_cmp x.map N.rev ≡ o → told_at reference o ≡ Some C → IsChangeOver O A N C
    go None q t = cc
    go (Some k) q t = at k (k.reference == reference) refl q t

-- ## One that has read nothing yet

pub starts : (O : Document) (log : List Entry) (s : ℕ) (a : Author) → IsAuthorOf O log s a.doc → IsNumberedTo log 0 a.numbers → IsAuthor O log s a
starts O log s a doc numbers = record { doc = doc; numbers = subst (λ n. IsNumberedTo log n a.numbers) (sym numbers.read) numbers }

pub opens : (O : Document) (d : Doc) → document_of d ≡ O → IsSoundInForm O → LeadsTo O [] d
opens O d is sound = record { ran = subst (Run O []) (sym is) done; sound = subst IsSoundInForm (sym is) sound }

pub can_begin : (before reference : ℕ) (a : Author) → a.doc.at ≡ 0 → a.doc.seen ≡ 0 → a.numbers.read ≡ 0 → CanTell before reference a
can_begin before reference a at seen read = record { at = omega (arith, at); seen = omega (arith, seen); read = omega (arith, read) }

-- ## By session

pub one_kept : (log : List Entry) (x : Authors) (s : ℕ) (o : Option Author) → o ≡ get nat_cmp x.map s → AreAuthorsOf log x → IfSome o (IsAuthor (document_of x.opening) log s)
one_kept log x s None e h = tt
one_kept log x s (Some a) e h = h.each s a (sym e)

pub without_one : (log : List Entry) (x y : Authors) (s : ℕ) → y.opening ≡ x.opening → ((q : ℕ) → get nat_cmp y.map q ≡ cond (is_eq (nat_cmp s q)) None (get nat_cmp x.map q)) → AreAuthorsOf log x → AreAuthorsOf log y
without_one log x y s same gone h = record {
  sound = subst (λ d. IsSoundInForm (document_of d)) (sym same) h.sound;
  each = λ q a at. subst (λ d. IsAuthor (document_of d) log q a) (sym same) (go q a (is_eq (nat_cmp s q)) (sym (gone q) ∙ at));
}
  where
    go : (q : ℕ) (a : Author) (b : Bool) → cond b None (get nat_cmp x.map q) ≡ Some a → IsAuthor (document_of x.opening) log q a
    go q a true e = cc
    go q a false e = h.each q a e

pub with_one : (log : List Entry) (x y : Authors) (s : ℕ) (one : Author) → y.opening ≡ x.opening → ((q : ℕ) → get nat_cmp y.map q ≡ cond (is_eq (nat_cmp s q)) (Some one) (get nat_cmp x.map q)) → IsAuthor (document_of x.opening) log s one → AreAuthorsOf log x → AreAuthorsOf log y
with_one log x y s one same put is h = record {
  sound = subst (λ d. IsSoundInForm (document_of d)) (sym same) h.sound;
  each = λ q a at. subst (λ d. IsAuthor (document_of d) log q a) (sym same) (go q a (is_eq (nat_cmp s q)) refl (sym (put q) ∙ at));
}
  where
    go : (q : ℕ) (a : Author) (b : Bool) → is_eq (nat_cmp s q) ≡ b → cond b (Some one) (get nat_cmp x.map q) ≡ Some a → IsAuthor (document_of x.opening) log q a
    go q a true e got =
        let key : s ≡ q = exact_unsigned s q (is_eq_equal (nat_cmp s q) e) in
        let same : one ≡ a = cc in
        subst (λ n. IsAuthor (document_of x.opening) log n a) key (subst (IsAuthor (document_of x.opening) log s) same is)
    go q a false e got = h.each q a got

-- ## Texts

pub upgrade_told : (n : Naming) (C : Change) → is_upgrade (change_data n C) ≡ is_some C.schema
upgrade_told n C = go C.schema
  where
    go : (o : Option (List ℕ)) → is_upgrade (data_with n C o) ≡ is_some o
    go None = refl
    go (Some text) = refl

pub on_ok : {T E P Q : Type 0} (r : Result T E) → (P → Q) → OnOk r P → OnOk r Q
on_ok (Ok x) f h = f h
on_ok (Err e) f h = tt

-- what an entry says is its message's
message_told : (O : Document) (log : List Entry) (n min : ℕ) (e : Entry) (said : SaidView) (old new : List ℕ) → 0 < n → slice_get log (n - 1) ≡ Some e → min ≡ minimum (take n log) → IsSaid O (take (n - 1) log) e.session e.body said
    → new ≡ old ++ compact_text (said_data n min e.session said) → (m : MessageView) × IsMessageOf O log n m × (new ≡ old ++ compact_text (message_data m))
message_told O log n min e said old new counted there least is text = (
  record { n = n; min = min; session = e.session; said = said },
  record { counted = counted; entry = e; there = there; number = refl; min = least; session = refl; said = is },
  text,
)

module _ {T E : Type 0} (r : Result T E) (O : Document) (log : List Entry) (n min : ℕ) (e : Entry) (old new : List ℕ) (counted : 0 < n) (there : slice_get log (n - 1) ≡ Some e) (least : min ≡ minimum (take n log)) where
  abbrev Told : Type 0
  Told = (m : MessageView) × IsMessageOf O log n m × (new ≡ old ++ compact_text (message_data m))

  -- one that is no commit says what stands in it
  pub plain_told : (b : Body) (said : SaidView) → e.body ≡ b → IsSaid O (take (n - 1) log) e.session b said → OnOk r (new ≡ old ++ compact_text (said_data n min e.session said)) → OnOk r Told
  plain_told b said is says = on_ok r (message_told O log n min e said old new counted there least (subst (λ b. IsSaid O (take (n - 1) log) e.session b said) (sym is) says))

  -- a commit says what its author told
  pub commit_said : (reference : ℕ) (ids : IdRange) (N : Intent) → e.body ≡ body.Commit reference ids N
      → OnOk r ((said : SaidView) × IsCommitSaid O (take (n - 1) log) e.session reference ids N said × (new ≡ old ++ compact_text (said_data n min e.session said))) → OnOk r Told
  commit_said reference ids N is = on_ok r (λ h. message_told O log n min e h.0 old new counted there least (subst (λ b. IsSaid O (take (n - 1) log) e.session b h.0) (sym is) h.1) h.2)
