-- An entry has one message, by whichever of two logs that are alike.
use Rattle.std.proofs.Common.{◌≡◌, ◌-◌, ℕ, List, [], take, Option, Some, None, inl, inr, sym, ap, ◌∙◌, subst}
use Rattle.std.specs.List.{slice_get}
use Rattle.st_change_writer.specs.Told.{change_data}
use Rattle.st_clusters.specs.Table.{table_of}
use Rattle.st_clusters.specs.declared.ids.IdRange.{IdRange}
use Rattle.st_lists.specs.declared.lists.Body.{Body}
use Rattle.st_lists.specs.declared.lists.Body.TheVariants as body
use Rattle.st_lists.specs.declared.lists.Entry.{Entry}
use Rattle.st_marks.specs.Document.{Document}
use Rattle.st_marks.specs.Embedding.{IsEmbedding}
use Rattle.st_marks.specs.declared.changes.Change.{Change}
use Rattle.st_marks.specs.declared.intents.Intent.{Intent}
use Rattle.st_marks.proofs.Unique.{one_embedding}
use Rattle.st_mark_reader.specs.Naming.{Naming}
use Rattle.st_mark_reader.specs.OpSpace.{number_or_null, op_number_in}
use Rattle.st_idcodec.specs.OpText.{atom_data, rev_data}
use Rattle.st_msg.specs.Messages.{Ack, Commit, Join, Leave, MessageView, SaidView}
use Rattle.st_one_laws.specs.AlikeWorlds.{AlikeBody, AlikeEntry, InBoth, IsAlike, OneByOne}
use Rattle.st_one_laws.proofs.AlikeIntents.{lead_alike}
use Rattle.st_one_laws.proofs.AlikeLogs.{authors_alike, minimum_alike, ranges_alike}
use Rattle.st_one_laws.proofs.OneByOne.{got, taken}
use Rattle.st_same_laws.proofs.OneChange.{embedding_same}
use Rattle.st_texts.specs.Names.{names_seen}
use Rattle.st_texts.specs.Texts.{IsCommitSaid, IsMessageOf, IsSaid}
use Rattle.st_valid.specs.Author.{author_list, generated_with}

-- ## What an author writes over

change_alike : (D : Document) (N M : Intent) (C K : Change) → IsAlike N M → IsEmbedding D N C → IsEmbedding D M K → C ≡ K
change_alike D N M C K (inl e) i j = one_embedding D M C K (subst (λ (X : Intent). IsEmbedding D X C) e i) j
change_alike D N M C K (inr (n, m, s)) i j = one_embedding D M C K (embedding_same D N M C n m s i) j

-- the names that an author sees, by the ranges that it knows
abbrev seen_by : List IdRange → ℕ → IdRange → Naming
seen_by rs s ids = record {
  rev = λ r. number_or_null (op_number_in (table_of rs) [] s (generated_with ids) r) rev_data;
  atom = λ x. number_or_null (op_number_in (table_of rs) [] s (generated_with ids) x.rev) (λ z. atom_data z x.at);
}

names_alike : (es fs : List Entry) (s r : ℕ) (ids : IdRange) → OneByOne AlikeEntry es fs → names_seen es s r ids ≡ names_seen fs s r ids
names_alike es fs s r ids o = ap (λ rs. seen_by rs s ids) (ranges_alike (take r es) (take r fs) (taken AlikeEntry r es fs o))

-- ## What is said

commit_one : (O : Document) (es fs : List Entry) (s r : ℕ) (ids : IdRange) (N M : Intent) (a b : SaidView) → OneByOne AlikeEntry es fs → IsAlike N M → IsCommitSaid O es s r ids N a → IsCommitSaid O fs s r ids M b → a ≡ b
commit_one O es fs s r ids N M a b o alike x y =
    let same = lead_alike O x.author y.author (author_list es s r) (author_list fs s r) (authors_alike es fs s r o) x.stands y.stands in
    let change : x.change ≡ y.change = change_alike y.author N M x.change y.change alike (subst (λ D. IsEmbedding D N x.change) same x.embeds) y.embeds in
    let names = names_alike es fs s r ids o in
    x.is ∙ (λ i. Commit r ids (change_data (names i) (change i))) ∙ sym y.is

said_one : (O : Document) (es fs : List Entry) (s : ℕ) (b d : Body) (p q : SaidView) → OneByOne AlikeEntry es fs → AlikeBody b d → IsSaid O es s b p → IsSaid O fs s d q → p ≡ q
said_one O es fs s (body.Join u) (body.Join v) p q o alike x y =
    let e : ◌≡◌ {A = Body × Option IdRange} (body.Join u, None) (body.Join v, None) = alike.0 in
    let same : body.Join u ≡ body.Join v = ap (λ (z : Body × Option IdRange). z.0) e in
    let uuid : u ≡ v = cc in
    x ∙ ap Join uuid ∙ sym y
said_one O es fs s (body.Join u) body.Leave p q o alike x y = let same : body.Join u ≡ body.Leave = ap (λ (z : Body × Option IdRange). z.0) alike.0 in cc
said_one O es fs s (body.Join u) (body.Ack r) p q o alike x y = let same : body.Join u ≡ body.Ack r = ap (λ (z : Body × Option IdRange). z.0) alike.0 in cc
said_one O es fs s (body.Join u) (body.Commit r ids N) p q o alike x y = let same : body.Join u ≡ body.Ack r = ap (λ (z : Body × Option IdRange). z.0) alike.0 in cc
said_one O es fs s body.Leave (body.Join u) p q o alike x y = let same : body.Leave ≡ body.Join u = ap (λ (z : Body × Option IdRange). z.0) alike.0 in cc
said_one O es fs s body.Leave body.Leave p q o alike x y = x ∙ sym y
said_one O es fs s body.Leave (body.Ack r) p q o alike x y = let same : body.Leave ≡ body.Ack r = ap (λ (z : Body × Option IdRange). z.0) alike.0 in cc
said_one O es fs s body.Leave (body.Commit r ids N) p q o alike x y = let same : body.Leave ≡ body.Ack r = ap (λ (z : Body × Option IdRange). z.0) alike.0 in cc
said_one O es fs s (body.Ack r) (body.Join u) p q o alike x y = let same : body.Ack r ≡ body.Join u = ap (λ (z : Body × Option IdRange). z.0) alike.0 in cc
said_one O es fs s (body.Ack r) body.Leave p q o alike x y = let same : body.Ack r ≡ body.Leave = ap (λ (z : Body × Option IdRange). z.0) alike.0 in cc
said_one O es fs s (body.Ack r) (body.Ack t) p q o alike x y =
    let same : body.Ack r ≡ body.Ack t = ap (λ (z : Body × Option IdRange). z.0) alike.0 in
    let reference : r ≡ t = cc in
    x ∙ ap Ack reference ∙ sym y
said_one O es fs s (body.Ack r) (body.Commit t ids N) p q o alike x y = absurd alike.1
said_one O es fs s (body.Commit r ids N) (body.Join u) p q o alike x y = absurd alike.1
said_one O es fs s (body.Commit r ids N) body.Leave p q o alike x y = absurd alike.1
said_one O es fs s (body.Commit r ids N) (body.Ack t) p q o alike x y = absurd alike.1
said_one O es fs s (body.Commit r ids N) (body.Commit t further M) p q o alike x y =
    let e : ◌≡◌ {A = Body × Option IdRange} (body.Ack r, Some ids) (body.Ack t, Some further) = alike.0 in
    let acks : body.Ack r ≡ body.Ack t = ap (λ (z : Body × Option IdRange). z.0) e in
    let reference : r ≡ t = cc in
    let ranges : Some ids ≡ Some further = ap (λ (z : Body × Option IdRange). z.1) e in
    let range : ids ≡ further = cc in
    commit_one O es fs s t further N M p q o alike.1 (subst (λ n. IsCommitSaid O es s n further N p) reference (subst (λ (z : IdRange). IsCommitSaid O es s r z N p) range x)) y

-- ## Messages

pub message_one : (O : Document) (es fs : List Entry) (n : ℕ) (a b : MessageView) → OneByOne AlikeEntry es fs → IsMessageOf O es n a → IsMessageOf O fs n b → a ≡ b
message_one O es fs n a b o x y =
    let alike : AlikeEntry x.entry y.entry = subst (λ (z : Option Entry). InBoth AlikeEntry (Some x.entry) z) y.there (subst (λ (z : Option Entry). InBoth AlikeEntry z (slice_get fs (n - 1))) x.there (got AlikeEntry es fs (n - 1) o)) in
    let front = taken AlikeEntry (n - 1) es fs o in
    let was = subst (λ s. IsSaid O (take (n - 1) es) s x.entry.body a.said) alike.session x.said in
    let said : a.said ≡ b.said = said_one O (take (n - 1) es) (take (n - 1) fs) y.entry.session x.entry.body y.entry.body a.said b.said front alike.body was y.said in
    let number : a.n ≡ b.n = x.number ∙ sym y.number in
    let min : a.min ≡ b.min = x.min ∙ minimum_alike (take n es) (take n fs) (taken AlikeEntry n es fs o) ∙ sym y.min in
    let session : a.session ≡ b.session = x.session ∙ alike.session ∙ sym y.session in
    λ i. record { n = number i; min = min i; session = session i; said = said i }
