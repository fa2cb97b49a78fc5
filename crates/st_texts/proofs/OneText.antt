-- An entry has one text, which stays as it is.
use Rattle.std.proofs.Common.{◌≡◌, ◌<◌, ◌-◌, ℕ, zero, suc, List, [], ◌∷◌, ◌++◌, length, take, Some, slice_get, sym, ap, ◌∙◌, subst, arith}
use Rattle.std.proofs.lemmas.List.{take-append-le}
use Rattle.serde_json.specs.Written.{compact_text}
use Rattle.st_change_writer.specs.Told.{change_data}
use Rattle.st_clusters.specs.declared.ids.IdRange.{IdRange}
use Rattle.st_lists.specs.Log.{minimum}
use Rattle.st_lists.specs.declared.lists.Body.{Body}
use Rattle.st_lists.specs.declared.lists.Body.TheVariants as body
use Rattle.st_lists.specs.declared.lists.Entry.{Entry}
use Rattle.st_marks.specs.Document.{Document}
use Rattle.st_marks.specs.Embedding.{IsEmbedding}
use Rattle.st_marks.specs.declared.intents.Intent.{Intent}
use Rattle.st_marks.proofs.OneVerdict.{one_run}
use Rattle.st_marks.proofs.Unique.{one_embedding}
use Rattle.st_msg.specs.Messages.{Commit, MessageView, SaidView, message_data}
use Rattle.st_texts.specs.Names.{names_seen}
use Rattle.st_texts.specs.Texts.{IsCommitSaid, IsMessageOf, IsSaid, IsTextOf}

-- ## One

commit_one : (O : Document) (log : List Entry) (s r : ℕ) (ids : IdRange) (N : Intent) (a b : SaidView) → IsCommitSaid O log s r ids N a → IsCommitSaid O log s r ids N b → a ≡ b
commit_one O log s r ids N a b x y =
    let same = one_run x.stands y.stands in
    let change = one_embedding y.author N x.change y.change (subst (λ D. IsEmbedding D N x.change) same x.embeds) y.embeds in
    x.is ∙ ap (λ c. Commit r ids (change_data (names_seen log s r ids) c)) change ∙ sym y.is

said_one : (O : Document) (log : List Entry) (s : ℕ) (e : Body) (a b : SaidView) → IsSaid O log s e a → IsSaid O log s e b → a ≡ b
said_one O log s (body.Join uuid) a b x y = x ∙ sym y
said_one O log s body.Leave a b x y = x ∙ sym y
said_one O log s (body.Ack reference) a b x y = x ∙ sym y
said_one O log s (body.Commit reference ids N) a b x y = commit_one O log s reference ids N a b x y

there_one : (x y : Entry) → Some x ≡ Some y → x ≡ y
there_one x y e = cc

message_one : (O : Document) (log : List Entry) (n : ℕ) (a b : MessageView) → IsMessageOf O log n a → IsMessageOf O log n b → a ≡ b
message_one O log n a b x y =
    let entry : x.entry ≡ y.entry = there_one x.entry y.entry (sym x.there ∙ y.there) in
    let said = said_one O (take (n - 1) log) y.entry.session y.entry.body a.said b.said (subst (λ (e : Entry). IsSaid O (take (n - 1) log) e.session e.body a.said) entry x.said) y.said in
    let number : a.n ≡ b.n = x.number ∙ sym y.number in
    let min : a.min ≡ b.min = x.min ∙ sym y.min in
    let session : a.session ≡ b.session = x.session ∙ ap (λ (e : Entry). e.session) entry ∙ sym y.session in
    λ i. record { n = number i; min = min i; session = session i; said = said i }

pub text_one : (O : Document) (log : List Entry) (n : ℕ) (a b : List ℕ) → IsTextOf O log n a → IsTextOf O log n b → a ≡ b
text_one O log n a b (m, is, e) (k, was, f) = e ∙ ap (λ m. compact_text (message_data m)) (message_one O log n m k is was) ∙ sym f

-- ## Whatever comes behind it

within : {A : Type 0} (xs : List A) (i : ℕ) (x : A) → slice_get xs i ≡ Some x → i < length xs
within [] i x e = cc
within (y ∷ xs) zero x e = omega arith
within (y ∷ xs) (suc i) x e = let h = within xs i x e in omega arith

still : {A : Type 0} (xs ys : List A) (i : ℕ) (x : A) → slice_get xs i ≡ Some x → slice_get (xs ++ ys) i ≡ Some x
still [] ys i x e = cc
still (y ∷ xs) ys zero x e = e
still (y ∷ xs) ys (suc i) x e = still xs ys i x e

pub text_stays : (O : Document) (log more : List Entry) (n : ℕ) (a : List ℕ) → IsTextOf O log n a → IsTextOf O (log ++ more) n a
text_stays O log more n a (m, is, e) =
    let few = within log (n - 1) is.entry is.there in
    let counted = is.counted in
    let front : take (n - 1) (log ++ more) ≡ take (n - 1) log = take-append-le (n - 1) log more (omega arith) in
    let up_to : take n (log ++ more) ≡ take n log = take-append-le n log more (omega arith) in (
      m,
      record {
        counted = is.counted;
        entry = is.entry;
        there = still log more (n - 1) is.entry is.there;
        number = is.number;
        min = is.min ∙ ap minimum (sym up_to);
        session = is.session;
        said = subst (λ l. IsSaid O l is.entry.session is.entry.body m.said) (sym front) is.said;
      },
      e,
    )
